-- Records, and what follows a term in a chain.
-- The Ur/Web Manual, "Type Inference".
use Rattle.std.specs.Prelude.{◌≡◌, true, false, List, [], ◌∷◌, ◌++◌, Some}
use Rattle.con_terms.specs.Trees.{types, names, row_of, Cn, record_of, row, Prs, no_pairs, pair}
use Rattle.con_terms.specs.declared.place.Place.{Place}
use Rattle.core_terms.specs.declared.basis.BasisName.{BasisName}
use Rattle.core_terms.specs.declared.exp.Sigil.TheVariants.{Plain}
use Rattle.core_terms.specs.Basis.{basis_type}
use Rattle.core_terms.specs.Trees.{Pt, Ex, node, Fo, basis, case_of, fields_of, select, concat, without, without_row, Fds}
use Rattle.core_terms.specs.Trees as core
use Rattle.core_terms.specs.Types.{type_row, bool_type}
use Rattle.core_typing.specs.Compared.{Alike}
use Rattle.plain_tree.specs.declared.names.BasisBuilder.{BasisBuilder}
use Rattle.plain_tree.specs.declared.names.BasisBuilder.TheVariants as truth
use Rattle.plain_tree.specs.declared.names.Infix.{Infix}
use Rattle.plain_tree.specs.declared.names.Infix.TheVariants as op
use Rattle.plain_tree.specs.Trees.{ConTree}
use Rattle.guided_terms.specs.Calls.{GuardAsked, CallOf}
use Rattle.guided_terms.specs.Forms.{steps_of, pieces_of, record_pieces, record_with, named_field}
use Rattle.guided_terms.specs.Heads.{a_term}
use Rattle.guided_terms.specs.Heres.{Here, IsCon}
use Rattle.guided_terms.specs.Leaves.{is_operator, is_basis_builder, is_bare_of}
use Rattle.guided_terms.specs.Wanted.{Want, nothing_ever, whole, Judge, of_field}

-- {c = e, ..}, of whose fields this is judged
pub data RecordGuided (fields : Here → Want → Fds → Prs → Type 0) (h : Here) (w : Want) : Ex → Cn → Type 0 where
  a_record : {at : Place} {fs : Fds} {ps : Prs}
      (guided : fields h w fs ps)
      → RecordGuided fields h w (node at false (fields_of fs)) (record_of (type_row ps))

-- c = e: a field wants its type in the wanted record type
pub record FieldGuided (value : Judge) (h : Here) (w : Want) (c : ConTree) (n : Cn) (e : Ex) (t : Cn) : Type 0 where
  pub name : IsCon h c names n
  pub guided : value h (of_field w n) e t

-- Chains. What stands before a link is judged with nothing wanted, save an operand of an operator.

-- e + d, and other operators that are calls of values of the basis
pub data OperatorGuided (A : GuardAsked) (before right : Judge) (h : Here) (w : Want) : Infix → Ex → Cn → Type 0 where
  an_operator : {i : Infix} {b : BasisName} {p : Place} {x : Ex} {t : Cn}
      (stands_for : is_operator i (basis b) ≡ true)
      (called : CallOf A (before ∷ right ∷ []) h w Plain Plain (node p false (basis b)) (basis_type b)
      (a_term 0 ∷ a_term 1 ∷ []) x t)
      → OperatorGuided A before right h w i x t

-- a pattern, and a term, that is a truth value
abbrev pub IsTruth : Here → BasisBuilder → Pt → Type 0
IsTruth h b q = is_bare_of h.names b q ≡ true

abbrev pub IsTruthTerm : Here → BasisBuilder → Fo → Type 0
IsTruthTerm h b f = is_basis_builder h.names b f ≡ true

-- e && d, which is case e of True => d | False => False
pub data AndGuided (before right : Judge) (h : Here) (w : Want) : Ex → Cn → Type 0 where
  an_and : {at p q r : Place} {x y : Ex} {o z : Pt} {f : Fo} (t : Cn) {u : Cn}
      (value : before h nothing_ever x t)
      (first_pattern : IsTruth h truth.True o)
      (first_branch : right h w y u)
      (second_pattern : IsTruth h truth.False z)
      (second_branch : IsTruthTerm h truth.False f)
      → AndGuided before right h w
      (node at false (case_of x p o y (core.branch q z (node r false f) core.no_branches))) u

-- e || d, which is case e of True => True | False => d
pub data OrGuided (before right : Judge) (h : Here) : Ex → Cn → Type 0 where
  an_or : {at p q r : Place} {x y : Ex} {o z : Pt} {f : Fo} (t u : Cn)
      (value : before h nothing_ever x t)
      (first_pattern : IsTruth h truth.True o)
      (first_branch : IsTruthTerm h truth.True f)
      (second_pattern : IsTruth h truth.False z)
      (second_branch : right h (whole bool_type) y u)
      → OrGuided before right h
      (node at false (case_of x p o (node r false f) (core.branch q z y core.no_branches))) bool_type

-- e ++ d: the fields of both, in the written order
pub data ConcatGuided (before right : Judge) (h : Here) : Ex → Cn → Type 0 where
  a_concat : {at : Place} {x y : Ex} (t u : Cn) {ps qs : List Cn}
      (left_side : before h nothing_ever x t)
      (right_side : right h nothing_ever y u)
      (left_row : record_pieces t ≡ Some ps)
      (right_row : record_pieces u ≡ Some qs)
      → ConcatGuided before right h (node at false (concat x y)) (record_with (ps ++ qs))

-- e.c, of the type of the field
pub data SelectGuided (before : Judge) (h : Here) (c : ConTree) : Ex → Cn → Type 0 where
  a_select : {at : Place} {x : Ex} (t : Cn) {n v : Cn} {ps rest : List Cn}
      (value : before h nothing_ever x t)
      (name : IsCon h c names n)
      (fields : record_pieces t ≡ Some ps)
      (found : named_field (steps_of n) ps ≡ Some (v, rest))
      → SelectGuided before h c (node at false (select x n)) v

-- e -- c, of the other fields in their order
pub data WithoutGuided (before : Judge) (h : Here) (c : ConTree) : Ex → Cn → Type 0 where
  a_without : {at : Place} {x : Ex} (t : Cn) {n v : Cn} {ps rest : List Cn}
      (value : before h nothing_ever x t)
      (name : IsCon h c names n)
      (fields : record_pieces t ≡ Some ps)
      (found : named_field (steps_of n) ps ≡ Some (v, rest))
      → WithoutGuided before h c (node at false (without x n)) (record_with rest)

-- whether pieces are one: fields of one name, whatever their values, or rows that are equal
pub data SamePiece : Cn → Cn → Type 0 where
  -- [n = v] and [n = u]
  same_name : {p n v : Cn} {rest : Cn × List Cn}
      (found : named_field (Some n) (p ∷ []) ≡ Some rest)
      → SamePiece p (row types (pair n v no_pairs))
  same_row : {p q : Cn}
      (alike : Alike p q)
      → SamePiece p q

-- pieces without the first that is this one
pub data LeftOut : Cn → List Cn → List Cn → Type 0 where
  this_piece : {q p : Cn} {ps : List Cn}
      (same : SamePiece p q)
      → LeftOut q (p ∷ ps) ps
  later_piece : {q p : Cn} {ps rest : List Cn}
      (another : SamePiece p q → ⊥)
      (later : LeftOut q ps rest)
      → LeftOut q (p ∷ ps) (p ∷ rest)

pub data AllLeftOut : List Cn → List Cn → List Cn → Type 0 where
  no_piece : {ps : List Cn} → AllLeftOut [] ps ps
  a_piece : {q : Cn} {qs ps rest left : List Cn}
      (first : LeftOut q ps rest)
      (others : AllLeftOut qs rest left)
      → AllLeftOut (q ∷ qs) ps left

-- e --- c, of the other pieces in their order
pub data WithoutRowGuided (before : Judge) (h : Here) (c : ConTree) : Ex → Cn → Type 0 where
  a_without_row : {at : Place} {x : Ex} (t : Cn) {r : Cn} {ps qs rest : List Cn}
      (value : before h nothing_ever x t)
      (row : IsCon h c (row_of types) r)
      (fields : record_pieces t ≡ Some ps)
      (out : pieces_of r ≡ Some qs)
      (left : AllLeftOut qs ps rest)
      → WithoutRowGuided before h c (node at false (without_row x r)) (record_with rest)

-- an operator with its sides, by what it is
abbrev pub infix_judge : GuardAsked → Infix → Judge → Judge → Judge
infix_judge A op.And before right = λ h w x t. AndGuided before right h w x t
infix_judge A op.Or before right = λ h w x t. OrGuided before right h x t
infix_judge A op.Concat before right = λ h w x t. ConcatGuided before right h x t
infix_judge A i before right = λ h w x t. OperatorGuided A before right h w i x t
