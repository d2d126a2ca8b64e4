-- Functions, cases, lets, and names with their terms.
-- The Ur/Web Manual, "Type Inference".
use Rattle.std.specs.Prelude.{◌≡◌, ℕ, Bool, true, false, List, [], ◌∷◌, Option, Some, None, reverse}
use Rattle.con_terms.specs.Trees.{Kd, types, Cn, arrow, poly, guarded, unit_con}
use Rattle.con_terms.specs.declared.place.Place.{Place}
use Rattle.core_terms.specs.Trees.{Pt, Ex, node, fn, fn_con, fn_guard, let_in, case_of, ascribed, Nms, Los, Brs}
use Rattle.plain_tree.specs.declared.names.Word.{Word}
use Rattle.plain_tree.specs.Trees.{ConTree, PatTree, ArgTree, arg_pat, arg_con, arg_guard, ExpTree, exp, exp_fn, exp_typed, NamedTree, NamedListTree, no_named_list, more_named_list}
use Rattle.plain_tree.specs.Trees as plain
use Rattle.source_names.specs.Scopes.{Words}
use Rattle.source_names.specs.Standing.{is_text}
use Rattle.guided_terms.specs.Heres.{Here, IsCon, IsRow, with_values, with_variable, with_guard}
use Rattle.guided_terms.specs.Patterns.{pattern_names, OwnType, ParameterType, PatGuided}
use Rattle.guided_terms.specs.Wanted.{Want, nothing_ever, whole, Judge, of_body, of_body_for_con, of_body_for_guard, of_written}

-- Functions.

-- a function of one parameter, around what is inside
pub data FnGuided (inside : Judge) (h : Here) (w : Want) : ArgTree → Ex → Cn → Type 0 where
  -- fn p => e
  of_pattern : {p : PatTree} {at : Place} {q : Pt} {t u : Cn} {ts : List Cn} {e : Ex}
      (parameter : ParameterType h w p t)
      (pattern : PatGuided h p t q ts)
      (body : inside (with_values (pattern_names p) ts h) (of_body w) e u)
      → FnGuided inside h w (arg_pat p) (node at false (fn q t e)) (arrow t u)
  -- fn [x :: k] => e, fn [x ::: k] => e
  of_con : {b x : ℕ} {implicit written : Bool} {n : Word} {k : Kd} {at : Place} {u : Cn} {e : Ex}
      (name : is_text h.names.tables x n.text ≡ true)
      (body : inside (with_variable n.text x k h) (of_body_for_con w) e u)
      → FnGuided inside h w (arg_con b implicit written n k) (node at false (fn_con x implicit written k e))
      (poly implicit k u)
  -- fn [c ~ d] => e
  of_guard : {b : ℕ} {c d : ConTree} {l r u : Cn} {at : Place} {e : Ex}
      (left : IsRow h c l)
      (right : IsRow h d r)
      (body : inside (with_guard l r h) (of_body_for_guard w) e u)
      → FnGuided inside h w (arg_guard b c d) (node at false (fn_guard l r e)) (guarded l r u)

-- parameters, the first outermost
abbrev pub fn_judge : List ArgTree → Judge → Judge
fn_judge [] inside = inside
fn_judge (a ∷ as') inside = λ h w e t. FnGuided (fn_judge as' inside) h w a e t

-- Cases.

-- what is judged of a branch, where this is matched
abbrev pub BranchJudge : Type 1
BranchJudge = Here → Cn → Want → Pt → Ex → Cn → Type 0

abbrev pub BranchesJudge : Type 1
BranchesJudge = Here → Cn → Want → Brs → Type 0

-- p => e
pub data BranchGuided (body : Judge) (h : Here) (t : Cn) (w : Want) : PatTree → Pt → Ex → Cn → Type 0 where
  a_branch : {p : PatTree} {q : Pt} {ts : List Cn} {e : Ex} {u : Cn}
      (pattern : PatGuided h p t q ts)
      (guided : body (with_values (pattern_names p) ts h) w e u)
      → BranchGuided body h t w p q e u

-- case e of p => b | ..: the first branch wants what is wanted of the case, and the others want the first one's type
pub data CaseGuided (matched : Judge) (first : BranchJudge) (others : BranchesJudge) (h : Here) (w : Want) :
    Ex → Cn → Type 0 where
  a_case : {at at' : Place} {x y : Ex} {q : Pt} {bs : Brs} (t : Cn) {u : Cn}
      (value : matched h nothing_ever x t)
      (first_branch : first h t w q y u)
      (other_branches : others h t (whole u) bs)
      → CaseGuided matched first others h w (node at false (case_of x at' q y bs)) u

-- a branch of some type
abbrev pub OfSomeType : (Cn → Type 0) → Type 0
OfSomeType gives = (t : Cn) × gives t

-- Terms with a type, and lets.

-- (e : c)
pub data AscribedGuided (inner : Judge) (h : Here) (c : ConTree) : Ex → Cn → Type 0 where
  a_type : {at : Place} {x : Ex} {t : Cn} (u : Cn)
      (written : IsCon h c types t)
      (guided : inner h (whole t) x u)
      → AscribedGuided inner h c (node at false (ascribed x t)) t

-- let .. in e end: its declarations are judged with what is inside
pub data LetGuided (inside : Here → Want → Los → Ex → Cn → Type 0) (h : Here) (w : Want) : Ex → Cn → Type 0 where
  a_let : {at : Place} {ls : Los} {x : Ex} {t : Cn}
      (guided : inside h w ls x t)
      → LetGuided inside h w (node at false (let_in ls x)) t

-- x = e, x : c = e: the name, whether its type is written, its type, which is that of the term where it isn't, and the
-- term
pub data NamedGuided (term : Judge) (h : Here) : Word → Option ConTree → ℕ → Bool → Cn → Ex → Type 0 where
  with_type : {n : Word} {c : ConTree} {x : ℕ} {t : Cn} (u : Cn) {e : Ex}
      (name : is_text h.names.tables x n.text ≡ true)
      (written : IsCon h c types t)
      (guided : term h (whole t) e u)
      → NamedGuided term h n (Some c) x true t e
  without_type : {n : Word} {x : ℕ} {t : Cn} {e : Ex}
      (name : is_text h.names.tables x n.text ≡ true)
      (guided : term h nothing_ever e t)
      → NamedGuided term h n None x false t e

-- Groups of names that are in scope in each other's terms.

mutual
  -- the type of a term as far as it is written: (e : c), and fn of written parameters over such a term
  pub data Signature : Here → ExpTree → Cn → Type 0 where
    of_typed : {h : Here} {at : ℕ} {e : ExpTree} {c : ConTree} {t : Cn}
        (written : IsCon h c types t)
        → Signature h (exp at (exp_typed e c)) t
    of_fn : {h : Here} {at : ℕ} {as' : List ArgTree} {e : ExpTree} {t : Cn}
        (parameters : FnSignature h as' e t)
        → Signature h (exp at (exp_fn as' e)) t

  pub data FnSignature : Here → List ArgTree → ExpTree → Cn → Type 0 where
    behind_all : {h : Here} {e : ExpTree} {t : Cn}
        (body : Signature h e t)
        → FnSignature h [] e t
    past_pattern : {h : Here} {p : PatTree} {as' : List ArgTree} {e : ExpTree} {t u : Cn}
        (own : OwnType h p t)
        (others : FnSignature h as' e u)
        → FnSignature h (arg_pat p ∷ as') e (arrow t u)
    past_con : {h : Here} {b x : ℕ} {implicit written : Bool} {n : Word} {k : Kd} {as' : List ArgTree} {e : ExpTree}
        {u : Cn}
        (name : is_text h.names.tables x n.text ≡ true)
        (others : FnSignature (with_variable n.text x k h) as' e u)
        → FnSignature h (arg_con b implicit written n k ∷ as') e (poly implicit k u)
    past_guard : {h : Here} {b : ℕ} {c d : ConTree} {l r u : Cn} {as' : List ArgTree} {e : ExpTree}
        (left : IsRow h c l)
        (right : IsRow h d r)
        (others : FnSignature (with_guard l r h) as' e u)
        → FnSignature h (arg_guard b c d ∷ as') e (guarded l r u)

-- what is known of the type of a name in its own group
pub data GroupType (h : Here) : NamedTree → Option Cn → Type 0 where
  -- x : c = e
  type_written : {n : Word} {c : ConTree} {e : ExpTree} {t : Cn}
      (written : IsCon h c types t)
      → GroupType h (plain.named n (Some c) e) (Some t)
  -- x = e, where e has its type written
  type_of_term : {n : Word} {e : ExpTree} {t : Cn}
      (signature : Signature h e t)
      → GroupType h (plain.named n None e) (Some t)
  -- x = e, where it hasn't
  type_open : {n : Word} {e : ExpTree}
      (no_signature : (t : Cn) → Signature h e t → ⊥)
      → GroupType h (plain.named n None e) None

pub data GroupTypes (h : Here) : NamedListTree → List (Option Cn) → Type 0 where
  no_type : GroupTypes h no_named_list []
  one_type : {n : NamedTree} {ns : NamedListTree} {o : Option Cn} {os : List (Option Cn)}
      (first : GroupType h n o)
      (others : GroupTypes h ns os)
      → GroupTypes h (more_named_list n ns) (o ∷ os)

-- the name of a value
abbrev pub name_of : NamedTree → Words
name_of (plain.named x t e) = x.text

abbrev pub group_names : NamedListTree → List Words
group_names no_named_list = []
group_names (more_named_list n ns) = name_of n ∷ group_names ns

-- a type that is open stands as () in scope
abbrev pub or_open : Option Cn → Cn
or_open None = unit_con
or_open (Some t) = t

abbrev pub all_or_open : List (Option Cn) → List Cn
all_or_open [] = []
all_or_open (o ∷ os) = or_open o ∷ all_or_open os

-- the type that a name has in the end
pub data TypeInEnd : Option Cn → Cn → Cn → Type 0 where
  as_known : {t u : Cn} → TypeInEnd (Some t) u t
  as_found : {u : Cn} → TypeInEnd None u u

abbrev pub has_type_written : Option ConTree → Bool
has_type_written None = false
has_type_written (Some c) = true

-- x = e, x : c = e, in scope of its group, where this is known of its type
pub record GroupNameGuided (term : Judge) (h : Here) (known : Option Cn) (n : Word) (c : Option ConTree) (x : ℕ)
    (written : Bool) (t : Cn) (e : Ex) : Type 0 where
  pub name : is_text h.names.tables x n.text ≡ true
  pub flag : has_type_written c ≡ written
  pub found : Cn
  pub guided : term h (of_written known) e found
  pub type : TypeInEnd known found t

-- names that are declared together: their terms see all of them, with what is known of their types
abbrev pub GroupJudge : Type 1
GroupJudge = Here → List (Option Cn) → Nms → Type 0

pub data GroupGuided (terms : GroupJudge) (h : Here) (ns : NamedListTree) : Nms → Type 0 where
  a_group : {os : List (Option Cn)} {ms : Nms}
      (types : GroupTypes h ns os)
      (guided : terms (with_values (group_names ns) (reverse (all_or_open os)) h) os ms)
      → GroupGuided terms h ns ms
