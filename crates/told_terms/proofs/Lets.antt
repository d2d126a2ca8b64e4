-- Lets: from the verdicts of the declared terms and of the body to the verdict of the whole.
use Rattle.std.proofs.Common.{◌≡◌, ℕ, Bool, true, false, [], ◌∷◌, Option, Some, None, refl, sym, subst}
use Rattle.con_terms.specs.Trees.{Cn}
use Rattle.con_terms.specs.declared.place.Place.{Place}
use Rattle.core_terms.specs.Trees.{Ex, node, let_in, Nms, Los, no_locals, local_val, local_rec}
use Rattle.core_typing.specs.Scopes.{Sc, under}
use Rattle.core_typing.specs.Asks.{no_cover}
use Rattle.core_typing.specs.Faults.{Fault}
use Rattle.core_typing.specs.Found.{Found, let_has, LocalsFound, nothing_found, val_found, rec_found, NamedFound}
use Rattle.core_typing.specs.Own.{LocalFault, val_kind, val_type, after_val, in_rec, after_rec, NamedFault, place_of, type_place, Own, a_local}
use Rattle.core_typing.specs.Tells.{InNamed, InLocals, this_val, past_val, this_rec, past_rec, Behind, behind_none, behind_val, behind_rec, Sub, local_term, let_body}
use Rattle.core_typing.specs.Typed.{named_types}
use Rattle.told_faults.specs.Computed.{Jd, first}
use Rattle.told_faults.specs.Told.{TypeIs, Verdict, Picks, Nodes, Least, Or, or_first, or_second, Either, in_first, in_second, Only, only, Nowhere, Never}
use Rattle.told_faults.proofs.Verdict.{least_as, picks_as}
use Rattle.node_rules.specs.Locals.{Ls, none_yet, with_declared, if_found, of_let}
use Rattle.judged_terms.specs.Listed.{named_found}
use Rattle.told_terms.proofs.Wanted.{LocalsTold, Here, here_is}
use Rattle.told_terms.proofs.Verdicts.{whole}
use Rattle.told_terms.proofs.Beside.{least_more}
use Rattle.told_terms.proofs.Declared.{Decides, StateIs, state_as, state_rest, state_start, none_state, IsDeclared, DeclaredFault, of_kind, of_type}
use Rattle.told_terms.proofs.Values.{value_declares, names_declare}

-- no declaration
no_local : (F : Type 0) (N : Nodes) (P : Fault → Type 0) (G : Sc) (r : Ls) → StateIs F N P r → StateIs (F × LocalsFound no_cover G no_locals G) (Either N (InLocals G no_locals)) (Or P (LocalFault G no_locals)) r
no_local F N P G r s =
    state_as F (F × LocalsFound no_cover G no_locals G) N (Either N (InLocals G no_locals)) P (Or P (LocalFault G no_locals)) r
    (λ x. (x, nothing_found)) (λ x. x.0) (λ K c x. in_first x) node_back (λ f x. or_first x) fault_back s
  where
    node_back : (K : Sc) (c : Ex) → Either N (InLocals G no_locals) K c → N K c
    node_back K c (in_first x) = x
    node_back K c (in_second x) = elim x [ ]

    fault_back : (f : Fault) → Or P (LocalFault G no_locals) f → P f
    fault_back f (or_first x) = x
    fault_back f (or_second x) = elim x [ ]

-- val x : t = e
val_declared : {G H : Sc} {p : Place} {x : ℕ} {w : Bool} {t : Cn} {e : Ex} {ls : Los} → LocalsFound no_cover G (local_val p x w t e ls) H → IsDeclared G G t e
val_declared (val_found {u = u} k h a l) = record { kind = k; given = u; found = h; same = a }

past_found : {G H : Sc} {p : Place} {x : ℕ} {w : Bool} {t : Cn} {e : Ex} {ls : Los} → LocalsFound no_cover G (local_val p x w t e ls) H → LocalsFound no_cover (under (t ∷ []) G) ls H
past_found (val_found k h a l) = l

one_local : (F : Type 0) (N : Nodes) (P : Fault → Type 0) (G H : Sc) (p : Place) (x : ℕ) (w : Bool) (t : Cn) (e : Ex) (ls : Los) (r : Ls) → StateIs ((F × IsDeclared G G t e) × LocalsFound no_cover (under (t ∷ []) G) ls H) (Either (Either N (Only G e)) (InLocals (under (t ∷ []) G) ls)) (Or (Or P (DeclaredFault G G (type_place w p e) (place_of e) t e)) (LocalFault (under (t ∷ []) G) ls)) r → StateIs (F × LocalsFound no_cover G (local_val p x w t e ls) H) (Either N (InLocals G (local_val p x w t e ls))) (Or P (LocalFault G (local_val p x w t e ls))) r
one_local F N P G H p x w t e ls r s =
    state_rest F (IsDeclared G G t e) (LocalsFound no_cover (under (t ∷ []) G) ls H) (LocalsFound no_cover G (local_val p x w t e ls) H)
    N (Only G e) (InLocals (under (t ∷ []) G) ls) (InLocals G (local_val p x w t e ls))
    P (DeclaredFault G G (type_place w p e) (place_of e) t e) (LocalFault (under (t ∷ []) G) ls) (LocalFault G (local_val p x w t e ls)) r
    (λ d l. val_found d.kind d.found d.same l) val_declared past_found node_there node_back fault_there fault_back s
  where
    node_there : (K : Sc) (c : Ex) → Either (Only G e) (InLocals (under (t ∷ []) G) ls) K c → InLocals G (local_val p x w t e ls) K c
    node_there K c (in_first only) = this_val
    node_there K c (in_second y) = past_val y

    node_back : (K : Sc) (c : Ex) → InLocals G (local_val p x w t e ls) K c → Either (Only G e) (InLocals (under (t ∷ []) G) ls) K c
    node_back K c this_val = in_first only
    node_back K c (past_val y) = in_second y

    fault_there : (f : Fault) → Or (DeclaredFault G G (type_place w p e) (place_of e) t e) (LocalFault (under (t ∷ []) G) ls) f → LocalFault G (local_val p x w t e ls) f
    fault_there f (or_first (of_kind y)) = val_kind y
    fault_there f (or_first (of_type k y z)) = val_type k y z
    fault_there f (or_second y) = after_val y

    fault_back : (f : Fault) → LocalFault G (local_val p x w t e ls) f → Or (DeclaredFault G G (type_place w p e) (place_of e) t e) (LocalFault (under (t ∷ []) G) ls) f
    fault_back f (val_kind y) = or_first (of_kind y)
    fault_back f (val_type k y z) = or_first (of_type k y z)
    fault_back f (after_val y) = or_second y

-- val rec x : t = e and ..
rec_declared : {G H : Sc} {ns : Nms} {ls : Los} → LocalsFound no_cover G (local_rec ns ls) H → NamedFound no_cover G (under (named_types ns) G) ns
rec_declared (rec_found n l) = n

past_names : {G H : Sc} {ns : Nms} {ls : Los} → LocalsFound no_cover G (local_rec ns ls) H → LocalsFound no_cover (under (named_types ns) G) ls H
past_names (rec_found n l) = l

one_rec : (F : Type 0) (N : Nodes) (P : Fault → Type 0) (G H : Sc) (ns : Nms) (ls : Los) (r : Ls) → StateIs ((F × NamedFound no_cover G (under (named_types ns) G) ns) × LocalsFound no_cover (under (named_types ns) G) ls H) (Either (Either N (Here (under (named_types ns) G) (InNamed ns))) (InLocals (under (named_types ns) G) ls)) (Or (Or P (NamedFault G (under (named_types ns) G) ns)) (LocalFault (under (named_types ns) G) ls)) r → StateIs (F × LocalsFound no_cover G (local_rec ns ls) H) (Either N (InLocals G (local_rec ns ls))) (Or P (LocalFault G (local_rec ns ls))) r
one_rec F N P G H ns ls r s =
    state_rest F (NamedFound no_cover G (under (named_types ns) G) ns) (LocalsFound no_cover (under (named_types ns) G) ls H) (LocalsFound no_cover G (local_rec ns ls) H)
    N (Here (under (named_types ns) G) (InNamed ns)) (InLocals (under (named_types ns) G) ls) (InLocals G (local_rec ns ls))
    P (NamedFault G (under (named_types ns) G) ns) (LocalFault (under (named_types ns) G) ls) (LocalFault G (local_rec ns ls)) r
    (λ n l. rec_found n l) rec_declared past_names node_there node_back fault_there fault_back s
  where
    node_there : (K : Sc) (c : Ex) → Either (Here (under (named_types ns) G) (InNamed ns)) (InLocals (under (named_types ns) G) ls) K c → InLocals G (local_rec ns ls) K c
    node_there K c (in_first (here_is y)) = this_rec y
    node_there K c (in_second y) = past_rec y

    node_back : (K : Sc) (c : Ex) → InLocals G (local_rec ns ls) K c → Either (Here (under (named_types ns) G) (InNamed ns)) (InLocals (under (named_types ns) G) ls) K c
    node_back K c (this_rec y) = in_first (here_is y)
    node_back K c (past_rec y) = in_second y

    fault_there : (f : Fault) → Or (NamedFault G (under (named_types ns) G) ns) (LocalFault (under (named_types ns) G) ls) f → LocalFault G (local_rec ns ls) f
    fault_there f (or_first y) = in_rec y
    fault_there f (or_second y) = after_rec y

    fault_back : (f : Fault) → LocalFault G (local_rec ns ls) f → Or (NamedFault G (under (named_types ns) G) ns) (LocalFault (under (named_types ns) G) ls) f
    fault_back f (in_rec y) = or_first y
    fault_back f (after_rec y) = or_second y

-- the declarations of a let, behind a state
none_behind : (F : Type 0) (N : Nodes) (P : Fault → Type 0) (G : Sc) (r : Ls) (H : Sc) (s : Ls) → H ≡ G → s ≡ r → StateIs F N P r → StateIs (F × LocalsFound no_cover G no_locals H) (Either N (InLocals G no_locals)) (Or P (LocalFault G no_locals)) s
none_behind F N P G r H s h k x =
    subst (λ (K : Sc). StateIs (F × LocalsFound no_cover G no_locals K) (Either N (InLocals G no_locals)) (Or P (LocalFault G no_locals)) s) (sym h)
    (subst (λ (z : Ls). StateIs (F × LocalsFound no_cover G no_locals G) (Either N (InLocals G no_locals)) (Or P (LocalFault G no_locals)) z) (sym k) (no_local F N P G r x))

locals_declare : (F : Type 0) (N : Nodes) (P : Fault → Type 0) (G : Sc) (r : Ls) (ls : Los) (H : Sc) (s : Ls) → StateIs F N P r → LocalsTold G r ls H s → StateIs (F × LocalsFound no_cover G ls H) (Either N (InLocals G ls)) (Or P (LocalFault G ls)) s
locals_declare F N P G r no_locals H s x (h, k) = none_behind F N P G r H s h k x
locals_declare F N P G r (local_val p y w t e ls) H s x (j, (v, h)) =
    one_local F N P G H p y w t e ls s
    (locals_declare (F × IsDeclared G G t e) (Either N (Only G e)) (Or P (DeclaredFault G G (type_place w p e) (place_of e) t e))
    (under (t ∷ []) G) (with_declared G (type_place w p e) (place_of e) t j r) ls H s
    (value_declares F N P G G (type_place w p e) (place_of e) t e j r x v) h)
locals_declare F N P G r (local_rec ns ls) H s x (js, (v, h)) =
    one_rec F N P G H ns ls s
    (locals_declare (F × NamedFound no_cover G (under (named_types ns) G) ns) (Either N (Here (under (named_types ns) G) (InNamed ns))) (Or P (NamedFault G (under (named_types ns) G) ns))
    (under (named_types ns) G) (named_found G ns js r) ls H s
    (names_declare F N P G (under (named_types ns) G) ns js r x v) h)

-- the scope behind them
locals_behind : (G : Sc) (r : Ls) (ls : Los) (H : Sc) (s : Ls) → LocalsTold G r ls H s → Behind G ls H
locals_behind G r no_locals H s (h, k) = subst (λ (K : Sc). Behind G no_locals K) (sym h) behind_none
locals_behind G r (local_val p y w t e ls) H s (j, (v, h)) = behind_val (locals_behind (under (t ∷ []) G) (with_declared G (type_place w p e) (place_of e) t j r) ls H s h)
locals_behind G r (local_rec ns ls) H s (js, (v, h)) = behind_rec (locals_behind (under (named_types ns) G) (named_found G ns js r) ls H s h)

found_behind : {G H : Sc} {ls : Los} → LocalsFound no_cover G ls H → Behind G ls H
found_behind nothing_found = behind_none
found_behind (val_found k h a l) = behind_val (found_behind l)
found_behind (rec_found n l) = behind_rec (found_behind l)

one_behind : {G H K : Sc} {ls : Los} → Behind G ls H → Behind G ls K → H ≡ K
one_behind behind_none behind_none = refl
one_behind (behind_val x) (behind_val y) = one_behind x y
one_behind (behind_rec x) (behind_rec y) = one_behind x y

-- the parts of a let
let_parts : (G : Sc) (p : Place) (a : Bool) (ls : Los) (e : Ex) (H : Sc) (k : Option Fault) → Behind G ls H → Least (Either (InLocals G ls) (Only H e)) k → Least (Sub G (node p a (let_in ls e))) k
let_parts G p a ls e H k b l = least_as (Either (InLocals G ls) (Only H e)) (Sub G (node p a (let_in ls e))) k there back l
  where
    there : (K : Sc) (c : Ex) → Either (InLocals G ls) (Only H e) K c → Sub G (node p a (let_in ls e)) K c
    there K c (in_first x) = local_term x
    there K c (in_second only) = let_body b

    back : (K : Sc) (c : Ex) → Sub G (node p a (let_in ls e)) K c → Either (InLocals G ls) (Only H e) K c
    back K c (local_term x) = in_first x
    back K c (let_body y) = in_second (subst (λ (z : Sc). Only H e z e) (one_behind b y) only)

-- its own faults
let_own : (G : Sc) (p : Place) (a : Bool) (ls : Los) (e : Ex) (o : Option Fault) → Picks (LocalFault G ls) o → Picks (Own G (node p a (let_in ls e))) o
let_own G p a ls e o l = picks_as (LocalFault G ls) (Own G (node p a (let_in ls e))) o (λ f x. a_local x) back l
  where
    back : (f : Fault) → Own G (node p a (let_in ls e)) f → LocalFault G ls f
    back f (a_local x) = x

-- its type
body_found : {G H K : Sc} {ls : Los} {e : Ex} {t : Cn} → Behind G ls H → LocalsFound no_cover G ls K → Found K e t → Found H e t
body_found {e = e} {t = t} b l x = subst (λ (z : Sc). Found z e t) (one_behind (found_behind l) b) x

locals_found : {G H K : Sc} {ls : Los} → Behind G ls H → LocalsFound no_cover G ls K → LocalsFound no_cover G ls H
locals_found {G} {ls = ls} b l = subst (λ (z : Sc). LocalsFound no_cover G ls z) (one_behind (found_behind l) b) l

untyped_body : (G : Sc) (p : Place) (a : Bool) (ls : Los) (e : Ex) (H : Sc) → Behind G ls H → TypeIs H e None → (t : Cn) → Found G (node p a (let_in ls e)) t → ⊥
untyped_body G p a ls e H b v t (let_has l x) = v t (body_found b l x)

not_declared : (G : Sc) (p : Place) (a : Bool) (ls : Los) (e : Ex) (H : Sc) → Behind G ls H → (LocalsFound no_cover G ls H → ⊥) → (t : Cn) → Found G (node p a (let_in ls e)) t → ⊥
not_declared G p a ls e H b n t (let_has l x) = n (locals_found b l)

let_type : (G : Sc) (p : Place) (a : Bool) (ls : Los) (e : Ex) (H : Sc) (d : Bool) (o : Option Cn) → Behind G ls H → Decides (LocalsFound no_cover G ls H) d → TypeIs H e o → TypeIs G (node p a (let_in ls e)) (if_found d o)
let_type G p a ls e H false o b n v = not_declared G p a ls e H b n
let_type G p a ls e H true None b l v = untyped_body G p a ls e H b v
let_type G p a ls e H true (Some t) b l v = let_has l v

-- let d in e end
let_of : (G : Sc) (p : Place) (a : Bool) (ls : Los) (e : Ex) (H : Sc) (r : Ls) (j : Jd) → Behind G ls H → StateIs (LocalsFound no_cover G ls H) (InLocals G ls) (LocalFault G ls) r → Verdict H e j → Verdict G (node p a (let_in ls e)) (of_let r j)
let_of G p a ls e H r j b s v =
    whole G (node p a (let_in ls e)) (if_found r.found j.type) (first r.kids j.told) r.own
    (let_type G p a ls e H r.found j.type b s.found v.type)
    (let_parts G p a ls e H (first r.kids j.told) b (least_more (InLocals G ls) H e r.kids j s.kids v))
    (let_own G p a ls e r.own s.own)

pub let_told : (G : Sc) (p : Place) (a : Bool) (ls : Los) (e : Ex) (H : Sc) (r : Ls) (b : Jd) → LocalsTold G none_yet ls H r → Verdict H e b → Verdict G (node p a (let_in ls e)) (of_let r b)
let_told G p a ls e H r b l v =
    let_of G p a ls e H r b (locals_behind G none_yet ls H r l)
    (state_start (LocalsFound no_cover G ls H) (InLocals G ls) (LocalFault G ls) r
    (locals_declare (Unit {0}) Nowhere Never G none_yet ls H r none_state l))
    v
