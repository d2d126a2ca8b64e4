-- A term among the items of a call: f e.
use Rattle.std.proofs.Common.{◌≡◌, Option, Some, None, refl, subst, subst₂}
use Rattle.con_terms.specs.Trees.{Cn, arrow}
use Rattle.con_terms.specs.declared.place.Place.{Place}
use Rattle.core_terms.specs.Trees.{Ex, Its, with_term}
use Rattle.core_typing.specs.Scopes.{Sc, normal_of}
use Rattle.core_typing.specs.Asks.{no_cover}
use Rattle.core_typing.specs.Compared.{Alike}
use Rattle.core_typing.specs.Faults.{Fault, mismatch, too_large, at}
use Rattle.core_typing.specs.Found.{Found, Leads}
use Rattle.core_typing.specs.Found as found
use Rattle.core_typing.specs.Own.{Wants, IsFunction, any_function, place_of, other_form, large_form, ItemFault}
use Rattle.core_typing.specs.Own as own
use Rattle.core_typing.proofs.OneType.{one_value, one_found, one_argument, one_result}
use Rattle.core_typing.proofs.Excluded.{wants_out}
use Rattle.told_faults.specs.Computed.{wants, function_parts}
use Rattle.told_faults.specs.Heads.{Wanted, agree, disagree, Function, function, no_function}
use Rattle.told_faults.specs.Told.{TypeIs}
use Rattle.told_faults.proofs.Heads.{function_view}
use Rattle.told_faults.proofs.Parts.{at_one, wants_at, form_at, wanted}
use Rattle.node_rules.specs.Calls.{fits, stuck, fits_unless, past_argument, past_function, past_head, past_term}
use Rattle.told_terms.proofs.ItemsLead.{ItemIs, goes, halts, form_out}
use Rattle.told_terms.proofs.Tests.{no_value}

-- the type in front is too large
large_out : {G : Sc} {t u : Cn} {e : Ex} {is : Its} → normal_of t ≡ None → Leads no_cover G t (with_term e is) u → ⊥
large_out i (found.past_term n x a l) = no_value i n

large_at : {G : Sc} {p : Place} {t : Cn} {e : Ex} {is : Its} → normal_of t ≡ None → (f : Fault) → ItemFault G p t (with_term e is) f → at f ≡ p
large_at i f (own.no_function h) = form_at h
large_at i f (own.argument n x w) = absurd (no_value i n)
large_at i f (own.after_term n x a k) = absurd (no_value i n)

large_term : (G : Sc) (p : Place) (t : Cn) (e : Ex) (is : Its) → normal_of t ≡ None → ItemIs G p t (with_term e is) is (stuck (Some (too_large p)))
large_term G p t e is i =
    halts (λ u x. large_out i x)
    (at_one (ItemFault G p t (with_term e is)) p (too_large p) (large_at i) (own.no_function (large_form i)))

-- or of no function
other_out : {G : Sc} {t n u : Cn} {e : Ex} {is : Its} → normal_of t ≡ Some n → (IsFunction n → ⊥) → Leads no_cover G t (with_term e is) u → ⊥
other_out i none (found.past_term {u = v} {d = d} n x a l) = none (v, d, one_value i n)

other_at : {G : Sc} {p : Place} {t n : Cn} {e : Ex} {is : Its} → normal_of t ≡ Some n → (IsFunction n → ⊥) → (f : Fault) → ItemFault G p t (with_term e is) f → at f ≡ p
other_at i none f (own.no_function h) = form_at h
other_at i none f (own.argument {u = v} {d = d} n x w) = absurd (none (v, d, one_value i n))
other_at i none f (own.after_term {u = v} {d = d} n x a k) = absurd (none (v, d, one_value i n))

other_term : (G : Sc) (p : Place) (t n : Cn) (e : Ex) (is : Its) → normal_of t ≡ Some n → (IsFunction n → ⊥) → ItemIs G p t (with_term e is) is (stuck (Some (mismatch p G.called any_function n)))
other_term G p t n e is i none =
    halts (λ u x. other_out i none x)
    (at_one (ItemFault G p t (with_term e is)) p (mismatch p G.called any_function n) (other_at i none) (own.no_function (other_form i none)))

-- the term has no type
untyped_out : {G : Sc} {t u : Cn} {e : Ex} {is : Its} → TypeIs G e None → Leads no_cover G t (with_term e is) u → ⊥
untyped_out v (found.past_term {c = c} n x a l) = v c x

untyped_faults : {G : Sc} {p : Place} {t u d : Cn} {e : Ex} {is : Its} → normal_of t ≡ Some (arrow u d) → TypeIs G e None → (f : Fault) → ItemFault G p t (with_term e is) f → ⊥
untyped_faults {u = u} {d = d} i v f (own.no_function h) = form_out h i (u, d, refl)
untyped_faults i v f (own.argument {c = c} n x w) = v c x
untyped_faults i v f (own.after_term {c = c} n x a k) = v c x

untyped_term : (G : Sc) (p : Place) (t u d : Cn) (e : Ex) (is : Its) → normal_of t ≡ Some (arrow u d) → TypeIs G e None → ItemIs G p t (with_term e is) is (stuck None)
untyped_term G p t u d e is i v = halts (λ w x. untyped_out v x) (untyped_faults i v)

-- what is wanted and what is found are the same twice
alike_again : {G : Sc} {u d v b c k : Cn} {e : Ex} → arrow v b ≡ arrow u d → Found G e c → Found G e k → Alike v k → Alike u c
alike_again i x y a = subst₂ (λ z w. Alike z w) (one_argument i) (one_found y x) a

wants_again : {G : Sc} {q : Place} {u d v b c k : Cn} {e : Ex} {f : Fault} → arrow v b ≡ arrow u d → Found G e c → Found G e k → Wants G q v k f → Wants G q u c f
wants_again {G} {q} {f = f} i x y a = subst₂ (λ z w. Wants G q z w f) (one_argument i) (one_found y x) a

-- it has the wanted type
alike_back : {G : Sc} {t u d v : Cn} {e : Ex} {is : Its} → normal_of t ≡ Some (arrow u d) → Leads no_cover G t (with_term e is) v → Leads no_cover G d is v
alike_back {G} {v = v} {is = is} i (found.past_term n x a l) = subst (λ z. Leads no_cover G z is v) (one_result (one_value n i)) l

alike_fault : {G : Sc} {p : Place} {t u d c : Cn} {e : Ex} {is : Its} → normal_of t ≡ Some (arrow u d) → Found G e c → Alike u c → (f : Fault) → ItemFault G p t (with_term e is) f → ItemFault G p d is f
alike_fault {u = u} {d = d} i x a f (own.no_function h) = absurd (form_out h i (u, d, refl))
alike_fault i x a f (own.argument n y w) = absurd (wants_out a (wants_again (one_value n i) x y w))
alike_fault {G} {p} {is = is} i x a f (own.after_term n y b k) = subst (λ z. ItemFault G p z is f) (one_result (one_value n i)) k

alike_term : (G : Sc) (p : Place) (t u d c : Cn) (e : Ex) (is : Its) → normal_of t ≡ Some (arrow u d) → Found G e c → Alike u c → ItemIs G p t (with_term e is) is (fits d)
alike_term G p t u d c e is i x a =
    goes (record {
      there = λ v l. found.past_term i x a l;
      back = λ v l. alike_back i l;
      fault_there = λ f k. own.after_term i x a k;
      fault_back = alike_fault i x a;
    })

-- it has another
differing_out : {G : Sc} {q : Place} {t u d c v : Cn} {e : Ex} {is : Its} {f : Fault} → normal_of t ≡ Some (arrow u d) → Found G e c → Wants G q u c f → Leads no_cover G t (with_term e is) v → ⊥
differing_out i x w (found.past_term n y a l) = wants_out (alike_again (one_value n i) x y a) w

differing_at : {G : Sc} {p q : Place} {t u d c : Cn} {e : Ex} {is : Its} {f : Fault} → normal_of t ≡ Some (arrow u d) → Found G e c → Wants G q u c f → (g : Fault) → ItemFault G p t (with_term e is) g → at g ≡ place_of e
differing_at {u = u} {d = d} i x w g (own.no_function h) = absurd (form_out h i (u, d, refl))
differing_at i x w g (own.argument n y b) = wants_at b
differing_at i x w g (own.after_term n y a k) = absurd (wants_out (alike_again (one_value n i) x y a) w)

differing_term : (G : Sc) (p : Place) (t u d c : Cn) (e : Ex) (is : Its) (f : Fault) → normal_of t ≡ Some (arrow u d) → Found G e c → Wants G (place_of e) u c f → ItemIs G p t (with_term e is) is (stuck (Some f))
differing_term G p t u d c e is f i x w =
    halts (λ v l. differing_out i x w l)
    (at_one (ItemFault G p t (with_term e is)) (place_of e) f (differing_at i x w) (own.argument i x w))

-- all of it
by_wanted : (G : Sc) (p : Place) (t u d c : Cn) (e : Ex) (is : Its) (o : Option Fault) → normal_of t ≡ Some (arrow u d) → Found G e c → Wanted G (place_of e) u c o → ItemIs G p t (with_term e is) is (fits_unless d o)
by_wanted G p t u d c e is None i x (agree a) = alike_term G p t u d c e is i x a
by_wanted G p t u d c e is (Some f) i x (disagree w) = differing_term G p t u d c e is f i x w

by_type : (G : Sc) (p : Place) (t u d : Cn) (e : Ex) (is : Its) (c : Option Cn) → normal_of t ≡ Some (arrow u d) → TypeIs G e c → ItemIs G p t (with_term e is) is (past_argument G (place_of e) u d c)
by_type G p t u d e is None i v = untyped_term G p t u d e is i v
by_type G p t u d e is (Some c) i v = by_wanted G p t u d c e is (wants G (place_of e) u c) i v (wanted G (place_of e) u c)

by_function : (G : Sc) (p : Place) (t n : Cn) (e : Ex) (is : Its) (c : Option Cn) (s : Option (Cn × Cn)) → normal_of t ≡ Some n → Function n s → TypeIs G e c → ItemIs G p t (with_term e is) is (past_function G p (place_of e) n s c)
by_function G p t n e is c s i (function u d) v = by_type G p t u d e is c i v
by_function G p t n e is c s i (no_function none) v = other_term G p t n e is i none

by_head : (G : Sc) (p : Place) (t : Cn) (e : Ex) (is : Its) (c m : Option Cn) → normal_of t ≡ m → TypeIs G e c → ItemIs G p t (with_term e is) is (past_head G p (place_of e) m c)
by_head G p t e is c None i v = large_term G p t e is i
by_head G p t e is c (Some n) i v = by_function G p t n e is c (function_parts n) i (function_view n) v

pub term_item : (G : Sc) (p : Place) (t : Cn) (e : Ex) (is : Its) (c : Option Cn) → TypeIs G e c → ItemIs G p t (with_term e is) is (past_term G p (place_of e) c (fits t))
term_item G p t e is c v = by_head G p t e is c (normal_of t) refl v
