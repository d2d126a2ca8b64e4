-- A guard's proof among the items of a call: f !.
use Rattle.std.proofs.Common.{◌≡◌, Bool, Option, Some, None, refl, subst, subst₂}
use Rattle.con_terms.specs.Trees.{Cn, guarded}
use Rattle.con_terms.specs.Apart.{Guards}
use Rattle.con_terms.specs.declared.place.Place.{Place}
use Rattle.core_terms.specs.Trees.{Its, with_guard}
use Rattle.core_typing.specs.Scopes.{Sc, normal_of}
use Rattle.core_typing.specs.Asks.{no_cover}
use Rattle.core_typing.specs.Compared.{Disjoint}
use Rattle.core_typing.specs.Faults.{Fault, mismatch, too_large, at}
use Rattle.core_typing.specs.Found.{Leads}
use Rattle.core_typing.specs.Found as found
use Rattle.core_typing.specs.Own.{Meets, IsGuarded, any_guarded, other_form, large_form, ItemFault}
use Rattle.core_typing.specs.Own as own
use Rattle.core_typing.proofs.OneType.{one_value, one_left_side, one_right_side, one_behind}
use Rattle.told_faults.specs.Computed.{guarded_parts}
use Rattle.told_faults.specs.Heads.{Guarded, a_guarded, no_guarded}
use Rattle.told_faults.proofs.Heads.{guarded_view}
use Rattle.told_faults.proofs.Parts.{at_one, form_at}
use Rattle.judgements.specs.Comparisons.{meets}
use Rattle.node_rules.specs.Calls.{fits, stuck, fits_unless, past_sides, past_assumed, past_guard}
use Rattle.told_terms.proofs.Meets.{AreApart, they_are, they_meet, are_apart, meets_at, meets_out}
use Rattle.told_terms.proofs.ItemsLead.{ItemIs, goes, halts, form_out}
use Rattle.told_terms.proofs.Tests.{no_value}

-- the type in front is too large
large_out : {G : Sc} {q : Place} {a : Bool} {t u : Cn} {is : Its} → normal_of t ≡ None → Leads no_cover G t (with_guard q a is) u → ⊥
large_out i (found.past_guard n k l) = no_value i n

large_at : {G : Sc} {p q : Place} {a : Bool} {t : Cn} {is : Its} → normal_of t ≡ None → (f : Fault) → ItemFault G p t (with_guard q a is) f → at f ≡ p
large_at i f (own.no_guard h) = form_at h
large_at i f (own.guard_fails n k) = absurd (no_value i n)
large_at i f (own.after_guard n k l) = absurd (no_value i n)

large_guard : (G : Sc) (p q : Place) (a : Bool) (t : Cn) (is : Its) → normal_of t ≡ None → ItemIs G p t (with_guard q a is) is (stuck (Some (too_large p)))
large_guard G p q a t is i =
    halts (λ u x. large_out i x)
    (at_one (ItemFault G p t (with_guard q a is)) p (too_large p) (large_at i) (own.no_guard (large_form i)))

-- or of no function of a guard
other_out : {G : Sc} {q : Place} {a : Bool} {t n u : Cn} {is : Its} → normal_of t ≡ Some n → (IsGuarded n → ⊥) → Leads no_cover G t (with_guard q a is) u → ⊥
other_out i none (found.past_guard {c = c} {d = d} {b = b} n x l) = none (c, d, b, one_value i n)

other_at : {G : Sc} {p q : Place} {a : Bool} {t n : Cn} {is : Its} → normal_of t ≡ Some n → (IsGuarded n → ⊥) → (f : Fault) → ItemFault G p t (with_guard q a is) f → at f ≡ p
other_at i none f (own.no_guard h) = form_at h
other_at i none f (own.guard_fails {c = c} {d = d} {b = b} n x) = absurd (none (c, d, b, one_value i n))
other_at i none f (own.after_guard {c = c} {d = d} {b = b} n x l) = absurd (none (c, d, b, one_value i n))

other_guard : (G : Sc) (p q : Place) (a : Bool) (t n : Cn) (is : Its) → normal_of t ≡ Some n → (IsGuarded n → ⊥) → ItemIs G p t (with_guard q a is) is (stuck (Some (mismatch p G.called any_guarded n)))
other_guard G p q a t n is i none =
    halts (λ u x. other_out i none x)
    (at_one (ItemFault G p t (with_guard q a is)) p (mismatch p G.called any_guarded n) (other_at i none) (own.no_guard (other_form i none)))

-- the sides are the same twice
apart_again : {gs : Guards} {c d b x y z : Cn} → guarded x y z ≡ guarded c d b → Disjoint gs x y → Disjoint gs c d
apart_again {gs} i h = subst₂ (λ v w. Disjoint gs v w) (one_left_side i) (one_right_side i) h

meets_again : {G : Sc} {q : Place} {c d b x y z : Cn} {f : Fault} → guarded x y z ≡ guarded c d b → Meets G q x y f → Meets G q c d f
meets_again {G} {q} {f = f} i h = subst₂ (λ v w. Meets G q v w f) (one_left_side i) (one_right_side i) h

-- they are apart
apart_back : {G : Sc} {q : Place} {a : Bool} {t c d b u : Cn} {is : Its} → normal_of t ≡ Some (guarded c d b) → Leads no_cover G t (with_guard q a is) u → Leads no_cover G b is u
apart_back {G} {u = u} {is = is} i (found.past_guard n h l) = subst (λ z. Leads no_cover G z is u) (one_behind (one_value n i)) l

apart_fault : {G : Sc} {p q : Place} {a : Bool} {t c d b : Cn} {is : Its} → normal_of t ≡ Some (guarded c d b) → Disjoint G.kinds.guards c d → (f : Fault) → ItemFault G p t (with_guard q a is) f → ItemFault G p b is f
apart_fault {c = c} {d = d} {b = b} i h f (own.no_guard y) = absurd (form_out y i (c, d, b, refl))
apart_fault i h f (own.guard_fails n y) = absurd (meets_out h (meets_again (one_value n i) y))
apart_fault {G} {p} {is = is} i h f (own.after_guard n y l) = subst (λ z. ItemFault G p z is f) (one_behind (one_value n i)) l

apart_guard : (G : Sc) (p q : Place) (a : Bool) (t c d b : Cn) (is : Its) → normal_of t ≡ Some (guarded c d b) → Disjoint G.kinds.guards c d → ItemIs G p t (with_guard q a is) is (fits b)
apart_guard G p q a t c d b is i h =
    goes (record {
      there = λ u l. found.past_guard i h l;
      back = λ u l. apart_back i l;
      fault_there = λ f l. own.after_guard i h l;
      fault_back = apart_fault i h;
    })

-- they aren't
meeting_out : {G : Sc} {q : Place} {a : Bool} {t c d b u : Cn} {is : Its} {f : Fault} → normal_of t ≡ Some (guarded c d b) → Meets G q c d f → Leads no_cover G t (with_guard q a is) u → ⊥
meeting_out i w (found.past_guard n h l) = meets_out (apart_again (one_value n i) h) w

meeting_at : {G : Sc} {p q : Place} {a : Bool} {t c d b : Cn} {is : Its} {f : Fault} → normal_of t ≡ Some (guarded c d b) → Meets G q c d f → (g : Fault) → ItemFault G p t (with_guard q a is) g → at g ≡ q
meeting_at {c = c} {d = d} {b = b} i w g (own.no_guard y) = absurd (form_out y i (c, d, b, refl))
meeting_at i w g (own.guard_fails n y) = meets_at y
meeting_at i w g (own.after_guard n h l) = absurd (meets_out (apart_again (one_value n i) h) w)

meeting_guard : (G : Sc) (p q : Place) (a : Bool) (t c d b : Cn) (is : Its) (f : Fault) → normal_of t ≡ Some (guarded c d b) → Meets G q c d f → ItemIs G p t (with_guard q a is) is (stuck (Some f))
meeting_guard G p q a t c d b is f i w =
    halts (λ u l. meeting_out i w l)
    (at_one (ItemFault G p t (with_guard q a is)) q f (meeting_at i w) (own.guard_fails i w))

-- all of it
by_meeting : (G : Sc) (p q : Place) (a : Bool) (t c d b : Cn) (is : Its) (o : Option Fault) → normal_of t ≡ Some (guarded c d b) → AreApart G q c d o → ItemIs G p t (with_guard q a is) is (fits_unless b o)
by_meeting G p q a t c d b is None i (they_are h) = apart_guard G p q a t c d b is i h
by_meeting G p q a t c d b is (Some f) i (they_meet w) = meeting_guard G p q a t c d b is f i w

by_guarded : (G : Sc) (p q : Place) (a : Bool) (t n : Cn) (is : Its) (s : Option (Cn × Cn × Cn)) → normal_of t ≡ Some n → Guarded n s → ItemIs G p t (with_guard q a is) is (past_sides G p q n s)
by_guarded G p q a t n is s i (a_guarded c d b) = by_meeting G p q a t c d b is (meets G q c d) i (are_apart G q c d)
by_guarded G p q a t n is s i (no_guarded none) = other_guard G p q a t n is i none

by_head : (G : Sc) (p q : Place) (a : Bool) (t : Cn) (is : Its) (m : Option Cn) → normal_of t ≡ m → ItemIs G p t (with_guard q a is) is (past_assumed G p q m)
by_head G p q a t is None i = large_guard G p q a t is i
by_head G p q a t is (Some n) i = by_guarded G p q a t n is (guarded_parts n) i (guarded_view n)

pub guard_item : (G : Sc) (p q : Place) (a : Bool) (t : Cn) (is : Its) → ItemIs G p t (with_guard q a is) is (past_guard G p q (fits t))
guard_item G p q a t is = by_head G p q a t is (normal_of t) refl
