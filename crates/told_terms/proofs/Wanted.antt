-- Lists of terms, each with the verdict of what is judged for it: what the lemma of each form has of its parts.
use Rattle.std.specs.Prelude.{◌≡◌, List, [], ◌∷◌, Option}
use Rattle.con_terms.specs.Trees.{Cn}
use Rattle.con_terms.specs.declared.place.Place.{Place}
use Rattle.core_terms.specs.Trees.{Pt, Ex, Its, no_items, with_term, with_con, with_guard, Nms, no_named, named, Los, no_locals, local_val, local_rec, Brs, no_branches, branch, Fds, no_fields, field, Ats, no_attributes, attribute, Xs, no_nodes, a_node, Exs, no_exps, an_exp}
use Rattle.core_typing.specs.Scopes.{Sc, under}
use Rattle.core_typing.specs.Faults.{Fault}
use Rattle.core_typing.specs.Own.{place_of, type_place}
use Rattle.core_typing.specs.Typed.{branch_patterns, named_types}
use Rattle.told_faults.specs.Computed.{Jd}
use Rattle.told_faults.specs.Told.{Verdict}
use Rattle.node_rules.specs.Locals.{Ls, with_declared}
use Rattle.pattern_rules.specs.Matching.{Br, Cs, first_case, with_case, of_case}
use Rattle.judged_terms.specs.Openings.{pattern_scope, BranchIn}
use Rattle.judged_terms.specs.Listed.{named_found}
use Rattle.judged_terms.specs.Judge.{Missed}

-- items: a constructor or a guard has no verdict, and whatever is judged there counts for nothing
abbrev pub ItemsTold : Sc → Its → List Jd → Type 0
ItemsTold G no_items [] = Unit {0}
ItemsTold G no_items (j ∷ js) = ⊥
ItemsTold G (with_term e is) [] = ⊥
ItemsTold G (with_term e is) (j ∷ js) = Verdict G e j × ItemsTold G is js
ItemsTold G (with_con q o c is) [] = ⊥
ItemsTold G (with_con q o c is) (j ∷ js) = ItemsTold G is js
ItemsTold G (with_guard q a is) [] = ⊥
ItemsTold G (with_guard q a is) (j ∷ js) = ItemsTold G is js

abbrev pub FieldsTold : Sc → Fds → List Jd → Type 0
FieldsTold G no_fields [] = Unit {0}
FieldsTold G no_fields (j ∷ js) = ⊥
FieldsTold G (field q n e fs) [] = ⊥
FieldsTold G (field q n e fs) (j ∷ js) = Verdict G e j × FieldsTold G fs js

-- names that are declared together, in the scope that has all of them
abbrev pub NamesTold : Sc → Nms → List Jd → Type 0
NamesTold H no_named [] = Unit {0}
NamesTold H no_named (j ∷ js) = ⊥
NamesTold H (named p x w t e ns) [] = ⊥
NamesTold H (named p x w t e ns) (j ∷ js) = Verdict H e j × NamesTold H ns js

abbrev pub AttributesTold : Sc → Ats → List Jd → Type 0
AttributesTold G no_attributes [] = Unit {0}
AttributesTold G no_attributes (j ∷ js) = ⊥
AttributesTold G (attribute p n e as') [] = ⊥
AttributesTold G (attribute p n e as') (j ∷ js) = Verdict G e j × AttributesTold G as' js

abbrev pub NodesTold : Sc → Xs → List Jd → Type 0
NodesTold G no_nodes [] = Unit {0}
NodesTold G no_nodes (j ∷ js) = ⊥
NodesTold G (a_node b e xs) [] = ⊥
NodesTold G (a_node b e xs) (j ∷ js) = Verdict G e j × NodesTold G xs js

abbrev pub TermsTold : Sc → Exs → List Jd → Type 0
TermsTold G no_exps [] = Unit {0}
TermsTold G no_exps (j ∷ js) = ⊥
TermsTold G (an_exp e es) [] = ⊥
TermsTold G (an_exp e es) (j ∷ js) = Verdict G e j × TermsTold G es js

-- the declarations of a let, behind a state, and the scope and the state behind them
abbrev pub LocalsTold : Sc → Ls → Los → Sc → Ls → Type 0
LocalsTold G r no_locals H s = (H ≡ G) × (s ≡ r)
LocalsTold G r (local_val p x w t e ls) H s =
    (j : Jd) × (Verdict G e j
    × LocalsTold (under (t ∷ []) G) (with_declared G (type_place w p e) (place_of e) t j r) ls H s)
LocalsTold G r (local_rec ns ls) H s =
    (js : List Jd) × (NamesTold (under (named_types ns) G) ns js
    × LocalsTold (under (named_types ns) G) (named_found G ns js r) ls H s)

-- a branch: its pattern is at fault, or its body has its verdict under what the pattern binds
abbrev pub BranchTold : Sc → Cn → Pt → Ex → Br → Type 0
BranchTold G t q e x = BranchIn (pattern_scope G q t) (λ H k. Verdict H e k) x

-- the later branches of a case of a type, behind a state, and the state behind them
abbrev pub BranchesTold : Sc → Cn → Brs → Cs → Cs → Type 0
BranchesTold G t no_branches c d = d ≡ c
BranchesTold G t (branch p q e bs) c d =
    (x : Br) × (BranchTold G t q e x × BranchesTold G t bs (with_case G (place_of e) x c) d)

-- a case of a type, from the verdicts of its branches
abbrev pub CaseTold : Sc → Place → Jd → Pt → Ex → Brs → Jd → Cn → Type 0
CaseTold G p i r b bs j t =
    (c : Cs) × (o : Option Fault) × (((x : Br) × (BranchTold G t r b x × BranchesTold G t bs (first_case x) c))
    × Missed G p c.bound (r ∷ branch_patterns bs) t o × (j ≡ of_case i.told c o))

-- a set of terms in one scope, as a set of nodes
pub data Here (G : Sc) (P : Ex → Type 0) : Sc → Ex → Type 0 where
  here_is : {e : Ex}
      → P e
      → Here G P G e
