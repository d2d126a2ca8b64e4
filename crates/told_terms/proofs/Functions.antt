-- What is told of functions of constructors and of guards, and of SQL.
use Rattle.std.proofs.Common.{◌≡◌, ℕ, Bool, List, [], ◌∷◌, Option, Some, None, option_map, Result, Ok, Err, refl, sym, ◌∙◌, subst}
use Rattle.con_terms.specs.Trees.{Kd, Cn, poly, guarded}
use Rattle.con_terms.specs.declared.place.Place.{Place}
use Rattle.kind_rules.specs.Flaws.{Flw}
use Rattle.core_terms.specs.Trees.{Ex, node, fn_con, fn_guard, sql, Sk, Exs, no_exps, an_exp}
use Rattle.core_typing.specs.Scopes.{Sc, under_con, under_guard}
use Rattle.core_typing.specs.Faults.{Fault, at, not_built}
use Rattle.core_typing.specs.Judged.{guard_forms, flaw_at}
use Rattle.core_typing.specs.Found.{Found, fn_con_has, fn_guard_has}
use Rattle.core_typing.specs.Own.{Own, bad_guard, no_rule}
use Rattle.core_typing.specs.Tells.{Sub, con_body, guard_body, sql_term, InExps, this_exp, past_exp}
use Rattle.core_typing.proofs.OneType.{one_answer}
use Rattle.told_faults.specs.Computed.{Jd, faulty, first}
use Rattle.told_faults.specs.Told.{Verdict, Nodes, Least, Either, in_first, in_second, Only, only, Nowhere}
use Rattle.told_faults.proofs.Parts.{at_one, flaw_stands}
use Rattle.told_faults.proofs.Verdict.{least_as, least_nowhere}
use Rattle.node_rules.specs.Functions.{of_fn_con, of_assuming}
use Rattle.markup_rules.specs.Nodes.{told_after, told_of}
use Rattle.judged_terms.specs.Openings.{sides_scope, guard_scope, WholeIn}
use Rattle.judged_terms.specs.Listed.{of_sql}
use Rattle.told_terms.proofs.Verdicts.{verdict_as, whole, one_part_alone, only_faulty, type_mapped}
use Rattle.told_terms.proofs.Beside.{least_only_first, least_more, least_rest, least_start}
use Rattle.told_terms.proofs.Wanted.{TermsTold, Here, here_is}

-- fn [x :: k] => e
pub fn_con_told : (G : Sc) (p : Place) (a i w : Bool) (x : ℕ) (k : Kd) (e : Ex) (j : Jd) → Verdict (under_con x k G) e j → Verdict G (node p a (fn_con x i w k e)) (of_fn_con i k j)
fn_con_told G p a i w x k e j v =
    one_part_alone G (node p a (fn_con x i w k e)) (under_con x k G) e j (option_map (poly i k) j.type) v con_body only_part
    (type_mapped G (node p a (fn_con x i w k e)) (under_con x k G) e (poly i k) j.type body_has (λ u y. fn_con_has y) v.type) silent
  where
    only_part : (H : Sc) (c : Ex) → Sub G (node p a (fn_con x i w k e)) H c → Only (under_con x k G) e H c
    only_part H c con_body = only

    body_has : (t : Cn) → Found G (node p a (fn_con x i w k e)) t → (u : Cn) × Found (under_con x k G) e u
    body_has t (fn_con_has {t = u} y) = (u, y)

    silent : (f : Fault) → Own G (node p a (fn_con x i w k e)) f → ⊥
    silent f o = elim o [ ]

-- fn [c ~ d] => e, where the sides have forms
good_or_bad : {r : Result (Cn × Cn) Flw} {w : Flw} {x : Cn × Cn} → r ≡ Ok x → r ≡ Err w → ⊥
good_or_bad h k = let i = sym h ∙ k in cc

one_guard : (G : Sc) (c d : Cn) {m n k l : Cn} → guard_forms G.kinds c d ≡ Ok (m, n) → guard_forms G.kinds c d ≡ Ok (k, l) → ◌≡◌ {A = Cn × Cn} (m, n) (k, l)
one_guard G c d h g = one_answer h g

assuming_told : (G : Sc) (p : Place) (a : Bool) (c d m n : Cn) (e : Ex) (j : Jd) → guard_forms G.kinds c d ≡ Ok (m, n) → Verdict (under_guard m n G) e j → Verdict G (node p a (fn_guard c d e)) (of_assuming c d j)
assuming_told G p a c d m n e j g v =
    one_part_alone G (node p a (fn_guard c d e)) (under_guard m n G) e j (option_map (guarded c d) j.type) v (guard_body g) only_part
    (type_mapped G (node p a (fn_guard c d e)) (under_guard m n G) e (guarded c d) j.type body_has (λ u y. fn_guard_has g y) v.type) silent
  where
    only_part : (H : Sc) (b : Ex) → Sub G (node p a (fn_guard c d e)) H b → Only (under_guard m n G) e H b
    only_part H b (guard_body h) = subst (λ (z : Cn × Cn). Only (under_guard m n G) e (under_guard z.0 z.1 G) e) (one_guard G c d g h) only

    body_has : (t : Cn) → Found G (node p a (fn_guard c d e)) t → (u : Cn) × Found (under_guard m n G) e u
    body_has t (fn_guard_has {t = u} h y) = (u, subst (λ (z : Cn × Cn). Found (under_guard z.0 z.1 G) e u) (one_guard G c d h g) y)

    silent : (f : Fault) → Own G (node p a (fn_guard c d e)) f → ⊥
    silent f (bad_guard h) = good_or_bad g h

-- where they have none
flawed_guard : (G : Sc) (p : Place) (a : Bool) (c d : Cn) (e : Ex) (w : Flw) → guard_forms G.kinds c d ≡ Err w → Verdict G (node p a (fn_guard c d e)) (faulty (flaw_at p G.called w))
flawed_guard G p a c d e w g =
    only_faulty G (node p a (fn_guard c d e)) (flaw_at p G.called w) untyped no_part
    (at_one (Own G (node p a (fn_guard c d e))) p (flaw_at p G.called w) stands (bad_guard g))
  where
    untyped : (t : Cn) → Found G (node p a (fn_guard c d e)) t → ⊥
    untyped t (fn_guard_has h x) = good_or_bad h g

    no_part : (H : Sc) (b : Ex) → Sub G (node p a (fn_guard c d e)) H b → ⊥
    no_part H b (guard_body h) = good_or_bad h g

    stands : (f : Fault) → Own G (node p a (fn_guard c d e)) f → at f ≡ p
    stands f (bad_guard {w = v} h) = flaw_stands p G.called v

sides_told : (G : Sc) (p : Place) (a : Bool) (c d : Cn) (e : Ex) (j : Jd) (r : Result (Cn × Cn) Flw) → guard_forms G.kinds c d ≡ r → WholeIn (sides_scope G p r) (λ H k. (b : Jd) × (Verdict H e b × (k ≡ of_assuming c d b))) j → Verdict G (node p a (fn_guard c d e)) j
sides_told G p a c d e j (Err w) g h = verdict_as G (node p a (fn_guard c d e)) j (faulty (flaw_at p G.called w)) h (flawed_guard G p a c d e w g)
sides_told G p a c d e j (Ok (m, n)) g (b, (v, h)) = verdict_as G (node p a (fn_guard c d e)) j (of_assuming c d b) h (assuming_told G p a c d m n e b g v)

pub fn_guard_told : (G : Sc) (p : Place) (a : Bool) (c d : Cn) (e : Ex) (j : Jd) → WholeIn (guard_scope G p c d) (λ H k. (b : Jd) × (Verdict H e b × (k ≡ of_assuming c d b))) j → Verdict G (node p a (fn_guard c d e)) j
fn_guard_told G p a c d e j h = sides_told G p a c d e j (guard_forms G.kinds c d) refl h

-- what is told of terms, after what is told already
in_no_term : (G H : Sc) (c : Ex) → Here G (InExps no_exps) H c → ⊥
in_no_term G H c (here_is i) = elim i [ ]

terms_after : (G : Sc) (N : Nodes) (es : Exs) (js : List Jd) (told : Option Fault) → TermsTold G es js → Least N told → Least (Either N (Here G (InExps es))) (told_after told js)
terms_after G N no_exps [] told t l = least_only_first N (Here G (InExps no_exps)) told (in_no_term G) l
terms_after G N no_exps (j ∷ js) told t l = absurd t
terms_after G N (an_exp e es) [] told t l = absurd t
terms_after G N (an_exp e es) (j ∷ js) told t l =
    least_rest N (Only G e) (Here G (InExps es)) (Here G (InExps (an_exp e es))) (told_after (first told j.told) js) there back
    (terms_after G (Either N (Only G e)) es js (first told j.told) t.1 (least_more N G e told j l t.0))
  where
    there : (H : Sc) (c : Ex) → Either (Only G e) (Here G (InExps es)) H c → Here G (InExps (an_exp e es)) H c
    there H c (in_first only) = here_is this_exp
    there H c (in_second (here_is i)) = here_is (past_exp i)

    back : (H : Sc) (c : Ex) → Here G (InExps (an_exp e es)) H c → Either (Only G e) (Here G (InExps es)) H c
    back H c (here_is this_exp) = in_first only
    back H c (here_is (past_exp i)) = in_second (here_is i)

terms_least : (G : Sc) (es : Exs) (js : List Jd) → TermsTold G es js → Least (Here G (InExps es)) (told_of js)
terms_least G es js t = least_start (Here G (InExps es)) (told_of js) (terms_after G Nowhere es js None t least_nowhere)

-- (SELECT ..)
pub sql_told : (G : Sc) (p : Place) (a : Bool) (k : Sk) (es : Exs) (js : List Jd) → TermsTold G es js → Verdict G (node p a (sql k es)) (of_sql p js)
sql_told G p a k es js h =
    whole G (node p a (sql k es)) None (told_of js) (Some (not_built p)) untyped
    (least_as (Here G (InExps es)) (Sub G (node p a (sql k es))) (told_of js) there back (terms_least G es js h))
    (at_one (Own G (node p a (sql k es))) p (not_built p) stands no_rule)
  where
    untyped : (t : Cn) → Found G (node p a (sql k es)) t → ⊥
    untyped t x = elim x [ ]

    there : (H : Sc) (c : Ex) → Here G (InExps es) H c → Sub G (node p a (sql k es)) H c
    there H c (here_is i) = sql_term i

    back : (H : Sc) (c : Ex) → Sub G (node p a (sql k es)) H c → Here G (InExps es) H c
    back H c (sql_term i) = here_is i

    stands : (f : Fault) → Own G (node p a (sql k es)) f → at f ≡ p
    stands f no_rule = refl
