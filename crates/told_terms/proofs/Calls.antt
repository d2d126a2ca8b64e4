-- Calls: from the verdicts of a function and of the terms among the items to the verdict of the call.
use Rattle.std.proofs.Common.{◌≡◌, Bool, List, [], ◌∷◌, Option, Some, None, refl, sym, subst}
use Rattle.con_terms.specs.Trees.{Cn}
use Rattle.con_terms.specs.declared.place.Place.{Place}
use Rattle.core_terms.specs.declared.exp.Sigil.{Sigil}
use Rattle.core_terms.specs.declared.exp.ConOrigin.{ConOrigin}
use Rattle.core_terms.specs.Lists.{item_list}
use Rattle.core_terms.specs.Trees.{Ex, node, call, Its, no_items, with_term, with_con, with_guard, It, a_term, a_con, a_guard}
use Rattle.core_typing.specs.Scopes.{Sc}
use Rattle.core_typing.specs.Asks.{no_cover}
use Rattle.core_typing.specs.Faults.{Fault}
use Rattle.core_typing.specs.Found.{Found, call_has, Leads, at_end}
use Rattle.core_typing.specs.Own.{place_of, ItemFault, Own, an_item}
use Rattle.core_typing.specs.Tells.{InItems, this_item, past_item, Sub}
use Rattle.core_typing.specs.Tells as tells
use Rattle.told_faults.specs.Computed.{Jd, first}
use Rattle.told_faults.specs.Told.{TypeIs, Verdict, Picks, Nodes, Least, Either, in_first, in_second, Only, only}
use Rattle.told_faults.proofs.Parts.{same_type}
use Rattle.told_faults.proofs.Verdict.{least_as, one, picks_as}
use Rattle.node_rules.specs.Calls.{Ft, fits, stuck, Pa, fit_of, with_term_item, with_con_item, with_guard_item, past_term, past_con, past_guard, of_fit}
use Rattle.judged_terms.specs.Listed.{items_found, of_items}
use Rattle.told_terms.proofs.Verdicts.{whole, no_own}
use Rattle.told_terms.proofs.Beside.{least_more, least_rest}
use Rattle.told_terms.proofs.Wanted.{ItemsTold, Here, here_is}
use Rattle.told_terms.proofs.ItemsLead.{FitIs, leads, ends, stepped}
use Rattle.told_terms.proofs.TermItems.{term_item}
use Rattle.told_terms.proofs.ConItems.{con_item}
use Rattle.told_terms.proofs.GuardItems.{guard_item}

-- where there is no type any more, there is none behind the other items
stuck_stays : (G : Sc) (p : Place) (js : List Jd) (is : List It) (o k : Option Fault) → (items_found G p js is (record { fit = stuck o; kids = k })).fit ≡ stuck o
stuck_stays G p [] is o k = refl
stuck_stays G p (j ∷ js) [] o k = refl
stuck_stays G p (j ∷ js) (a_term e ∷ is) o k = stuck_stays G p js is o (first k j.told)
stuck_stays G p (j ∷ js) (a_con q w c ∷ is) o k = stuck_stays G p js is o k
stuck_stays G p (j ∷ js) (a_guard q a ∷ is) o k = stuck_stays G p js is o k

-- the items from a type on
items_fit : (G : Sc) (p : Place) (is : Its) (js : List Jd) (t : Cn) (k : Option Fault) → ItemsTold G is js → FitIs G p t is (items_found G p js (item_list is) (record { fit = fits t; kids = k })).fit
items_fit G p no_items (j ∷ js) t k h = absurd h
items_fit G p no_items [] t k h = leads at_end (λ f x. elim x [ ])
items_fit G p (with_term e is) [] t k h = absurd h
items_fit G p (with_term e is) (j ∷ js) t k (v, h) =
    stepped G p t (with_term e is) is
    (λ (x : Ft). (items_found G p js (item_list is) (record { fit = x; kids = first k j.told })).fit)
    (record {
      stays = λ o. stuck_stays G p js (item_list is) o (first k j.told);
      fit = λ d. items_fit G p is js d (first k j.told) h;
    })
    (past_term G p (place_of e) j.type (fits t)) (term_item G p t e is j.type v.type)
items_fit G p (with_con q o c is) [] t k h = absurd h
items_fit G p (with_con q o c is) (j ∷ js) t k h =
    stepped G p t (with_con q o c is) is
    (λ (x : Ft). (items_found G p js (item_list is) (record { fit = x; kids = k })).fit)
    (record { stays = λ w. stuck_stays G p js (item_list is) w k; fit = λ d. items_fit G p is js d k h })
    (past_con G p q o c (fits t)) (con_item G p q o t c is)
items_fit G p (with_guard q a is) [] t k h = absurd h
items_fit G p (with_guard q a is) (j ∷ js) t k h =
    stepped G p t (with_guard q a is) is
    (λ (x : Ft). (items_found G p js (item_list is) (record { fit = x; kids = k })).fit)
    (record { stays = λ w. stuck_stays G p js (item_list is) w k; fit = λ d. items_fit G p is js d k h })
    (past_guard G p q (fits t)) (guard_item G p q a t is)

-- what is told of the terms, those before the items and those among them
no_item_left : (N : Nodes) (G : Sc) (k : Option Fault) → Least N k → Least (Either N (Here G (InItems no_items))) k
no_item_left N G k l = least_as N (Either N (Here G (InItems no_items))) k (λ H c x. in_first x) back l
  where
    back : (H : Sc) (c : Ex) → Either N (Here G (InItems no_items)) H c → N H c
    back H c (in_first x) = x
    back H c (in_second (here_is x)) = elim x [ ]

term_left : (N : Nodes) (G : Sc) (e : Ex) (is : Its) (k : Option Fault) → Least (Either (Either N (Only G e)) (Here G (InItems is))) k → Least (Either N (Here G (InItems (with_term e is)))) k
term_left N G e is k l = least_rest N (Only G e) (Here G (InItems is)) (Here G (InItems (with_term e is))) k there back l
  where
    there : (H : Sc) (c : Ex) → Either (Only G e) (Here G (InItems is)) H c → Here G (InItems (with_term e is)) H c
    there H c (in_first only) = here_is this_item
    there H c (in_second (here_is x)) = here_is (past_item x)

    back : (H : Sc) (c : Ex) → Here G (InItems (with_term e is)) H c → Either (Only G e) (Here G (InItems is)) H c
    back H c (here_is this_item) = in_first only
    back H c (here_is (past_item x)) = in_second (here_is x)

other_left : (N : Nodes) (G : Sc) (is all : Its) (k : Option Fault) → ((c : Ex) → InItems is c → InItems all c) → ((c : Ex) → InItems all c → InItems is c) → Least (Either N (Here G (InItems is))) k → Least (Either N (Here G (InItems all))) k
other_left N G is all k a b l = least_as (Either N (Here G (InItems is))) (Either N (Here G (InItems all))) k there back l
  where
    there : (H : Sc) (c : Ex) → Either N (Here G (InItems is)) H c → Either N (Here G (InItems all)) H c
    there H c (in_first x) = in_first x
    there H c (in_second (here_is x)) = in_second (here_is (a c x))

    back : (H : Sc) (c : Ex) → Either N (Here G (InItems all)) H c → Either N (Here G (InItems is)) H c
    back H c (in_first x) = in_first x
    back H c (in_second (here_is x)) = in_second (here_is (b c x))

behind_con : {q : Place} {o : ConOrigin} {d : Cn} {is : Its} (c : Ex) → InItems (with_con q o d is) c → InItems is c
behind_con c (tells.past_con x) = x

behind_guard : {q : Place} {a : Bool} {is : Its} (c : Ex) → InItems (with_guard q a is) c → InItems is c
behind_guard c (tells.past_guard x) = x

items_least : (G : Sc) (p : Place) (is : Its) (js : List Jd) (r : Pa) (N : Nodes) → Least N r.kids → ItemsTold G is js → Least (Either N (Here G (InItems is))) (items_found G p js (item_list is) r).kids
items_least G p no_items (j ∷ js) r N l h = absurd h
items_least G p no_items [] r N l h = no_item_left N G r.kids l
items_least G p (with_term e is) [] r N l h = absurd h
items_least G p (with_term e is) (j ∷ js) r N l (v, h) =
    term_left N G e is (items_found G p js (item_list is) (with_term_item G p (place_of e) j r)).kids
    (items_least G p is js (with_term_item G p (place_of e) j r) (Either N (Only G e))
    (least_more N G e r.kids j l v) h)
items_least G p (with_con q o c is) [] r N l h = absurd h
items_least G p (with_con q o c is) (j ∷ js) r N l h =
    other_left N G is (with_con q o c is) (items_found G p js (item_list is) (with_con_item G p q o c r)).kids
    (λ d x. tells.past_con x) behind_con (items_least G p is js (with_con_item G p q o c r) N l h)
items_least G p (with_guard q a is) [] r N l h = absurd h
items_least G p (with_guard q a is) (j ∷ js) r N l h =
    other_left N G is (with_guard q a is) (items_found G p js (item_list is) (with_guard_item G p q r)).kids
    (λ d x. tells.past_guard x) behind_guard (items_least G p is js (with_guard_item G p q r) N l h)

-- the parts of a call
call_parts : (G : Sc) (p : Place) (a : Bool) (f : Ex) (s : Sigil) (is : Its) (k : Option Fault) → Least (Either (Only G f) (Here G (InItems is))) k → Least (Sub G (node p a (call f s is))) k
call_parts G p a f s is k l = least_as (Either (Only G f) (Here G (InItems is))) (Sub G (node p a (call f s is))) k there back l
  where
    there : (H : Sc) (c : Ex) → Either (Only G f) (Here G (InItems is)) H c → Sub G (node p a (call f s is)) H c
    there H c (in_first only) = tells.function
    there H c (in_second (here_is x)) = tells.argument x

    back : (H : Sc) (c : Ex) → Sub G (node p a (call f s is)) H c → Either (Only G f) (Here G (InItems is)) H c
    back H c tells.function = in_first only
    back H c (tells.argument x) = in_second (here_is x)

-- the call has a type and no fault of its own, or no type
data CallIs (G : Sc) (e : Ex) : Ft → Type 0 where
  has : {u : Cn}
      → Found G e u
      → ((f : Fault) → Own G e f → ⊥)
      → CallIs G e (fits u)
  lacks : {o : Option Fault}
      → ((u : Cn) → Found G e u → ⊥)
      → Picks (Own G e) o
      → CallIs G e (stuck o)

call_verdict : (G : Sc) (e : Ex) (x : Ft) (k : Option Fault) → Least (Sub G e) k → CallIs G e x → Verdict G e (of_fit x k)
call_verdict G e (fits u) k l (has h none) = no_own G e (Some u) k h l none
call_verdict G e (stuck o) k l (lacks none w) = whole G e None k o none l w

-- the function has no type
untyped_found : {G : Sc} {p : Place} {a : Bool} {f : Ex} {s : Sigil} {is : Its} → TypeIs G f None → (u : Cn) → Found G (node p a (call f s is)) u → ⊥
untyped_found v u (call_has {t = t} x l) = v t x

untyped_own : {G : Sc} {p : Place} {a : Bool} {f : Ex} {s : Sigil} {is : Its} → TypeIs G f None → (g : Fault) → Own G (node p a (call f s is)) g → ⊥
untyped_own v g (an_item {t = t} x w) = v t x

-- it has one
leads_as : {G : Sc} {f : Ex} {is : Its} {t b u : Cn} → Found G f t → Found G f b → Leads no_cover G b is u → Leads no_cover G t is u
leads_as {G} {is = is} {u = u} v x l = same_type (λ z. Leads no_cover G z is u) v x l

fault_as : {G : Sc} {q : Place} {f : Ex} {is : Its} {t b : Cn} {g : Fault} → Found G f t → Found G f b → ItemFault G q b is g → ItemFault G q t is g
fault_as {G} {q} {is = is} {g = g} v x w = same_type (λ z. ItemFault G q z is g) v x w

leads_found : {G : Sc} {p : Place} {a : Bool} {f : Ex} {s : Sigil} {is : Its} {t : Cn} → Found G f t → ((u : Cn) → Leads no_cover G t is u → ⊥) → (u : Cn) → Found G (node p a (call f s is)) u → ⊥
leads_found v none u (call_has x l) = none u (leads_as v x l)

own_fault : {G : Sc} {p : Place} {a : Bool} {f : Ex} {s : Sigil} {is : Its} {t : Cn} → Found G f t → (g : Fault) → Own G (node p a (call f s is)) g → ItemFault G (place_of f) t is g
own_fault v g (an_item x w) = fault_as v x w

call_is : (G : Sc) (p : Place) (a : Bool) (f : Ex) (s : Sigil) (is : Its) (t : Cn) (x : Ft) → Found G f t → FitIs G (place_of f) t is x → CallIs G (node p a (call f s is)) x
call_is G p a f s is t (fits u) v (leads l none) = has (call_has v l) (λ g w. none g (own_fault v g w))
call_is G p a f s is t (stuck o) v (ends none w) =
    lacks (leads_found v none)
    (picks_as (ItemFault G (place_of f) t is) (Own G (node p a (call f s is))) o (λ g y. an_item v y) (own_fault v) w)

call_by_type : (G : Sc) (p : Place) (a : Bool) (f : Ex) (s : Sigil) (is : Its) (js : List Jd) (o : Option Cn) (k : Option Fault) → TypeIs G f o → ItemsTold G is js → CallIs G (node p a (call f s is)) (items_found G (place_of f) js (item_list is) (record { fit = fit_of o; kids = k })).fit
call_by_type G p a f s is js None k v h =
    subst (λ (z : Ft). CallIs G (node p a (call f s is)) z) (sym (stuck_stays G (place_of f) js (item_list is) None k))
    (lacks (untyped_found v) (untyped_own v))
call_by_type G p a f s is js (Some t) k v h =
    call_is G p a f s is t (items_found G (place_of f) js (item_list is) (record { fit = fits t; kids = k })).fit v
    (items_fit G (place_of f) is js t k h)

-- f e [c] !
pub call_told : (G : Sc) (p : Place) (a : Bool) (f : Ex) (s : Sigil) (is : Its) (h : Jd) (js : List Jd) → Verdict G f h → ItemsTold G is js → Verdict G (node p a (call f s is)) (of_items G (place_of f) is h js)
call_told G p a f s is h js v y =
    let r = items_found G (place_of f) js (item_list is) (record { fit = fit_of h.type; kids = h.told }) in
    call_verdict G (node p a (call f s is)) r.fit r.kids
    (call_parts G p a f s is r.kids
    (items_least G (place_of f) is js (record { fit = fit_of h.type; kids = h.told }) (Only G f) (one G f h.told v.told) y))
    (call_by_type G p a f s is js h.type h.told v.type y)
