-- What is judged of a term is what is told of it, form by form.
use Rattle.std.proofs.Common.{◌≡◌, Bool, List, [], ◌∷◌, Option, Some, None}
use Rattle.con_terms.specs.Trees.{types, Cn}
use Rattle.con_terms.specs.declared.place.Place.{Place}
use Rattle.kind_rules.specs.Kinding.{judged_at}
use Rattle.core_terms.specs.Trees.{Pt, Ex, node, bound, top, foreign, basis, fold_over, number, text, built, fn, fn_con, fn_guard, call, let_in, case_of, ascribed, fields_of, select, concat, without, without_row, folder, element, literal, sql, Its, no_items, with_term, with_con, with_guard, Nms, no_named, named, Los, no_locals, local_val, local_rec, Brs, no_branches, branch, Fds, no_fields, field, El, tagged, Ats, no_attributes, attribute, Xs, no_nodes, a_node, Exs, no_exps, an_exp}
use Rattle.core_typing.specs.Scopes.{Sc, under, under_con}
use Rattle.core_typing.specs.Faults.{Fault}
use Rattle.core_typing.specs.Own.{place_of, type_place}
use Rattle.core_typing.specs.Typed.{named_types}
use Rattle.told_faults.specs.Computed.{Jd, flawed}
use Rattle.told_faults.specs.Told.{Verdict}
use Rattle.node_rules.specs.Functions.{of_assuming}
use Rattle.node_rules.specs.Locals.{Ls, none_yet, with_declared}
use Rattle.pattern_rules.specs.Matching.{Br, bad_branch, judged_branch, Cs, first_case, with_case}
use Rattle.judged_terms.specs.Openings.{Un, opens, no_scope, pattern_scope, guard_scope, BranchIn, WholeIn, UnlessTold}
use Rattle.judged_terms.specs.Listed.{named_found}
use Rattle.judged_terms.specs.Judge.{OfParameter, OfMatched, CaseAt, Judges, ElementJudges, ItemsJudge, FieldsJudge, NamesJudge, AttributesJudge, NodesJudge, TermsJudge, LocalsJudge, BranchesJudge}
use Rattle.judged_terms.proofs.Main.{not_empty}
use Rattle.told_terms.specs.Laws.{JudgedIsTold}
use Rattle.told_terms.proofs.Wanted.{ItemsTold, FieldsTold, NamesTold, AttributesTold, NodesTold, TermsTold, LocalsTold, BranchesTold, CaseTold}
use Rattle.told_terms.proofs.Verdicts.{verdict_as}
use Rattle.told_terms.proofs.Names.{variable_told, top_told, foreign_told, basis_told, number_told, text_told, fold_told, built_told}
use Rattle.told_terms.proofs.Functions.{fn_con_told, fn_guard_told, sql_told}
use Rattle.told_terms.proofs.Calls.{call_told}
use Rattle.told_terms.proofs.Lets.{let_told}
use Rattle.told_terms.proofs.Parameters.{fn_told}
use Rattle.told_terms.proofs.Cases.{case_told}
use Rattle.told_terms.proofs.Records.{fields_told}
use Rattle.told_terms.proofs.Operations.{select_told, without_told, without_row_told}
use Rattle.told_terms.proofs.Concat.{concat_told}
use Rattle.told_terms.proofs.Folders.{folder_told}
use Rattle.told_terms.proofs.Ascribed.{ascribed_told}
use Rattle.told_terms.proofs.Elements.{element_told}
use Rattle.told_terms.proofs.Literals.{literal_told}

as_told : {G : Sc} {e : Ex} {i : Jd} (j : Jd) → j ≡ i → Verdict G e i → Verdict G e j
as_told {G} {e} {i} j h v = verdict_as G e j i h v

-- what is judged in a scope that is opened, with verdicts in place of what is judged
branch_as : (u : Un) (J K : Sc → Jd → Type 0) (b : Br) → ((H : Sc) (k : Jd) → J H k → K H k) → BranchIn u J b → BranchIn u K b
branch_as (no_scope f) J K b v x = x
branch_as (opens H) J K (bad_branch f) v x = x
branch_as (opens H) J K (judged_branch j) v x = v H j x

whole_as : (u : Un) (J K : Sc → Jd → Type 0) (j : Jd) → ((H : Sc) (k : Jd) → J H k → K H k) → WholeIn u J j → WholeIn u K j
whole_as (no_scope f) J K j v x = x
whole_as (opens H) J K j v x = v H j x

unless_as : (o : Option Fault) (J K : Type 0) (j : Jd) → (J → K) → UnlessTold o J j → UnlessTold o K j
unless_as None J K j v x = v x
unless_as (Some f) J K j v x = x

matched_as : (i : Jd) (J K : Cn → Type 0) (o : Option Cn) (j : Jd) → ((t : Cn) → J t → K t) → OfMatched i J o j → OfMatched i K o j
matched_as i J K None j v x = x
matched_as i J K (Some t) j v x = v t x

-- fn p => e
abbrev Function : (Sc → Jd → Type 0) → Sc → Place → Pt → Cn → Jd → Type 0
Function J G p q t j =
    UnlessTold (flawed G p (judged_at G.kinds t types)) ((b : Br) × (BranchIn (pattern_scope G q t) J b × OfParameter G p q t b j)) j

function_as : (J K : Sc → Jd → Type 0) (G : Sc) (p : Place) (q : Pt) (t : Cn) (j : Jd) → ((H : Sc) (k : Jd) → J H k → K H k) → Function J G p q t j → Function K G p q t j
function_as J K G p q t j v x =
    unless_as (flawed G p (judged_at G.kinds t types)) ((b : Br) × (BranchIn (pattern_scope G q t) J b × OfParameter G p q t b j))
    ((b : Br) × (BranchIn (pattern_scope G q t) K b × OfParameter G p q t b j)) j body x
  where
    body : (b : Br) × (BranchIn (pattern_scope G q t) J b × OfParameter G p q t b j) → (b : Br) × (BranchIn (pattern_scope G q t) K b × OfParameter G p q t b j)
    body (b, (y, z)) = (b, (branch_as (pattern_scope G q t) J K b v y, z))

-- fn [c ~ d] => e
abbrev Assuming : (Sc → Jd → Type 0) → Cn → Cn → Sc → Jd → Type 0
Assuming J c d H k = (b : Jd) × (J H b × (k ≡ of_assuming c d b))

assuming_as : (J K : Sc → Jd → Type 0) (G : Sc) (p : Place) (c d : Cn) (j : Jd) → ((H : Sc) (k : Jd) → J H k → K H k) → WholeIn (guard_scope G p c d) (Assuming J c d) j → WholeIn (guard_scope G p c d) (Assuming K c d) j
assuming_as J K G p c d j v x = whole_as (guard_scope G p c d) (Assuming J c d) (Assuming K c d) j body x
  where
    body : (H : Sc) (k : Jd) → Assuming J c d H k → Assuming K c d H k
    body H k (b, (y, z)) = (b, (v H b y, z))

-- case e of ..
case_as : (G : Sc) (p : Place) (i : Jd) (r : Pt) (b : Ex) (bs : Brs) (j : Jd) → ((H : Sc) (k : Jd) → Judges H b k → Verdict H b k) → ((t : Cn) (c d : Cs) → BranchesJudge G t bs c d → BranchesTold G t bs c d) → OfMatched i (λ t. CaseAt G p i r b bs t j) i.type j → OfMatched i (CaseTold G p i r b bs j) i.type j
case_as G p i r b bs j v w x = matched_as i (λ t. CaseAt G p i r b bs t j) (CaseTold G p i r b bs j) i.type j at_type x
  where
    at_type : (t : Cn) → CaseAt G p i r b bs t j → CaseTold G p i r b bs j t
    at_type t (c, o, ((y, (f, l)), m, h)) =
        (c, o, ((y, (branch_as (pattern_scope G r t) (λ H k. Judges H b k) (λ H k. Verdict H b k) y v f, w t (first_case y) c l)), m, h))

mutual
  pub told : JudgedIsTold
  told G (node p a (bound i)) j h = as_told j h (variable_told G p a i)
  told G (node p a (top i)) j h = as_told j h (top_told G p a i)
  told G (node p a (foreign i)) j h = as_told j h (foreign_told G p a i)
  told G (node p a (basis b)) j h = as_told j h (basis_told G p a b)
  told G (node p a (fold_over k)) j h = as_told j h (fold_told G p a k)
  told G (node p a (number z)) j h = as_told j h (number_told G p a z)
  told G (node p a (text w)) j h = as_told j h (text_told G p a w)
  told G (node p a (built s n)) j h = as_told j h (built_told G p a s n)
  told G (node p a (fn q t e)) j h =
      fn_told G p a q t e j
      (function_as (λ H k. Judges H e k) (λ H k. Verdict H e k) G p q t j (λ H k x. told H e k x) h)
  told G (node p a (fn_con x i w k e)) j (b, (y, h)) =
      as_told j h (fn_con_told G p a i w x k e b (told (under_con x k G) e b y))
  told G (node p a (fn_guard c d e)) j h =
      fn_guard_told G p a c d e j
      (assuming_as (λ H k. Judges H e k) (λ H k. Verdict H e k) G p c d j (λ H k x. told H e k x) h)
  told G (node p a (call f s is)) j (i, js, (x, y, h)) =
      as_told j h (call_told G p a f s is i js (told G f i x) (items_told G is js y))
  told G (node p a (let_in ls e)) j (H, r, b, (x, y, h)) =
      as_told j h (let_told G p a ls e H r b (locals_told G none_yet ls H r x) (told H e b y))
  told G (node p a (case_of e q r b bs)) j (i, (x, y)) =
      case_told G p q a e r b bs i j (told G e i x)
      (case_as G p i r b bs j (λ H k z. told H b k z) (λ t c d z. branches_told G t bs c d z) y)
  told G (node p a (ascribed e t)) j (i, (x, h)) = as_told j h (ascribed_told G p a e t i (told G e i x))
  told G (node p a (fields_of fs)) j (js, (x, h)) = as_told j h (fields_told G p a fs js (record_told G fs js x))
  told G (node p a (select e c)) j (i, (x, h)) = as_told j h (select_told G p a e c i (told G e i x))
  told G (node p a (concat e d)) j (i, k, (x, y, h)) = as_told j h (concat_told G p a e d i k (told G e i x) (told G d k y))
  told G (node p a (without e c)) j (i, (x, h)) = as_told j h (without_told G p a e c i (told G e i x))
  told G (node p a (without_row e c)) j (i, (x, h)) = as_told j h (without_row_told G p a e c i (told G e i x))
  told G (node p a (folder k ps)) j h = as_told j h (folder_told G p a k ps)
  told G (node p a (element m)) j h = whole_told G p a m j h
  told G (node p a (literal c u xs)) j (js, (x, h)) = as_told j h (literal_told G p a c u xs js (nodes_told G xs js x))
  told G (node p a (sql k es)) j (js, (x, h)) = as_told j h (sql_told G p a k es js (terms_told G es js x))

  whole_told : (G : Sc) (p : Place) (a : Bool) (m : El) (j : Jd) → ElementJudges G p m j → Verdict G (node p a (element m)) j
  whole_told G p a (tagged g n c u as' xs) j (js, ks, (x, y, h)) =
      element_told G p a (tagged g n c u as' xs) js ks j (attributes_told G as' js x) (nodes_told G xs ks y) h

  items_told : (G : Sc) (is : Its) (js : List Jd) → ItemsJudge G is js → ItemsTold G is js
  items_told G no_items [] h = tt
  items_told G no_items (j ∷ js) h = absurd (not_empty h)
  items_told G (with_term e is) [] h = h
  items_told G (with_term e is) (j ∷ js) (x, y) = (told G e j x, items_told G is js y)
  items_told G (with_con q o c is) [] h = h
  items_told G (with_con q o c is) (j ∷ js) (x, y) = items_told G is js y
  items_told G (with_guard q a is) [] h = h
  items_told G (with_guard q a is) (j ∷ js) (x, y) = items_told G is js y

  record_told : (G : Sc) (fs : Fds) (js : List Jd) → FieldsJudge G fs js → FieldsTold G fs js
  record_told G no_fields [] h = tt
  record_told G no_fields (j ∷ js) h = absurd (not_empty h)
  record_told G (field q n e fs) [] h = h
  record_told G (field q n e fs) (j ∷ js) (x, y) = (told G e j x, record_told G fs js y)

  pub names_told : (H : Sc) (ns : Nms) (js : List Jd) → NamesJudge H ns js → NamesTold H ns js
  names_told H no_named [] h = tt
  names_told H no_named (j ∷ js) h = absurd (not_empty h)
  names_told H (named p x w t e ns) [] h = h
  names_told H (named p x w t e ns) (j ∷ js) (y, z) = (told H e j y, names_told H ns js z)

  attributes_told : (G : Sc) (as' : Ats) (js : List Jd) → AttributesJudge G as' js → AttributesTold G as' js
  attributes_told G no_attributes [] h = tt
  attributes_told G no_attributes (j ∷ js) h = absurd (not_empty h)
  attributes_told G (attribute p n e as') [] h = h
  attributes_told G (attribute p n e as') (j ∷ js) (x, y) = (told G e j x, attributes_told G as' js y)

  nodes_told : (G : Sc) (xs : Xs) (js : List Jd) → NodesJudge G xs js → NodesTold G xs js
  nodes_told G no_nodes [] h = tt
  nodes_told G no_nodes (j ∷ js) h = absurd (not_empty h)
  nodes_told G (a_node b e xs) [] h = h
  nodes_told G (a_node b e xs) (j ∷ js) (x, y) = (told G e j x, nodes_told G xs js y)

  terms_told : (G : Sc) (es : Exs) (js : List Jd) → TermsJudge G es js → TermsTold G es js
  terms_told G no_exps [] h = tt
  terms_told G no_exps (j ∷ js) h = absurd (not_empty h)
  terms_told G (an_exp e es) [] h = h
  terms_told G (an_exp e es) (j ∷ js) (x, y) = (told G e j x, terms_told G es js y)

  locals_told : (G : Sc) (r : Ls) (ls : Los) (H : Sc) (s : Ls) → LocalsJudge G r ls H s → LocalsTold G r ls H s
  locals_told G r no_locals H s h = h
  locals_told G r (local_val p x w t e ls) H s (j, (y, z)) =
      (j, (told G e j y, locals_told (under (t ∷ []) G) (with_declared G (type_place w p e) (place_of e) t j r) ls H s z))
  locals_told G r (local_rec ns ls) H s (js, (y, z)) =
      (js, (names_told (under (named_types ns) G) ns js y, locals_told (under (named_types ns) G) (named_found G ns js r) ls H s z))

  branches_told : (G : Sc) (t : Cn) (bs : Brs) (c d : Cs) → BranchesJudge G t bs c d → BranchesTold G t bs c d
  branches_told G t no_branches c d h = h
  branches_told G t (branch p q e bs) c d (x, (y, z)) = (
    x,
    (
      branch_as (pattern_scope G q t) (λ H k. Judges H e k) (λ H k. Verdict H e k) x (λ H k i. told H e k i) y,
      branches_told G t bs (with_case G (place_of e) x c) d z,
    ),
  )
