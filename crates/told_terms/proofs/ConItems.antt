-- A constructor among the items of a call: f [c].
use Rattle.std.proofs.Common.{◌≡◌, Bool, Option, Some, None, Result, Ok, Err, refl, subst}
use Rattle.con_terms.specs.Trees.{Kd, Cn, poly}
use Rattle.con_terms.specs.Substitution.{subst as put}
use Rattle.con_terms.specs.declared.place.Place.{Place}
use Rattle.kind_rules.specs.Flaws.{Flw}
use Rattle.kind_rules.specs.Kinding.{judged_at}
use Rattle.core_terms.specs.declared.exp.ConOrigin.{ConOrigin}
use Rattle.core_terms.specs.Trees.{Its, with_con}
use Rattle.core_typing.specs.Scopes.{Sc, normal_of}
use Rattle.core_typing.specs.Asks.{no_cover}
use Rattle.core_typing.specs.Faults.{Fault, mismatch, too_large, at}
use Rattle.core_typing.specs.Judged.{HasKind, LacksKind, lacks, flaw_at}
use Rattle.core_typing.specs.Found.{Leads}
use Rattle.core_typing.specs.Found as found
use Rattle.core_typing.specs.Own.{IsPoly, any_poly, is_implicit, other_form, large_form, ItemFault}
use Rattle.core_typing.specs.Own as own
use Rattle.core_typing.proofs.OneType.{one_value, one_kind_asked, one_body}
use Rattle.core_typing.proofs.Excluded.{kind_out}
use Rattle.told_faults.specs.Computed.{poly_parts}
use Rattle.told_faults.specs.Heads.{Poly, a_poly, no_poly, Kindly, kindly, unkind}
use Rattle.told_faults.proofs.Heads.{poly_view}
use Rattle.told_faults.proofs.Parts.{at_one, lacks_at, form_at, kind_is}
use Rattle.node_rules.specs.Calls.{fits, stuck, past_kind, past_body, past_poly, past_con}
use Rattle.told_terms.proofs.ItemsLead.{ItemIs, goes, halts, form_out}
use Rattle.told_terms.proofs.Tests.{no_value}

-- the type in front is too large
large_out : {G : Sc} {q : Place} {o : ConOrigin} {t c u : Cn} {is : Its} → normal_of t ≡ None → Leads no_cover G t (with_con q o c is) u → ⊥
large_out i (found.past_con n k l) = no_value i n

large_at : {G : Sc} {p q : Place} {o : ConOrigin} {t c : Cn} {is : Its} → normal_of t ≡ None → (f : Fault) → ItemFault G p t (with_con q o c is) f → at f ≡ p
large_at i f (own.no_poly h) = form_at h
large_at i f (own.constructor_kind n k) = absurd (no_value i n)
large_at i f (own.after_con n k l) = absurd (no_value i n)

large_con : (G : Sc) (p q : Place) (o : ConOrigin) (t c : Cn) (is : Its) → normal_of t ≡ None → ItemIs G p t (with_con q o c is) is (stuck (Some (too_large p)))
large_con G p q o t c is i =
    halts (λ u x. large_out i x)
    (at_one (ItemFault G p t (with_con q o c is)) p (too_large p) (large_at i) (own.no_poly (large_form i)))

-- or of no function of a constructor
other_out : {G : Sc} {q : Place} {o : ConOrigin} {t n c u : Cn} {is : Its} → normal_of t ≡ Some n → (IsPoly n → ⊥) → Leads no_cover G t (with_con q o c is) u → ⊥
other_out i none (found.past_con {i = b} {k = k} {d = d} n x l) = none (b, k, d, one_value i n)

other_at : {G : Sc} {p q : Place} {o : ConOrigin} {t n c : Cn} {is : Its} → normal_of t ≡ Some n → (IsPoly n → ⊥) → (f : Fault) → ItemFault G p t (with_con q o c is) f → at f ≡ p
other_at i none f (own.no_poly h) = form_at h
other_at i none f (own.constructor_kind {i = b} {k = k} {d = d} n x) = absurd (none (b, k, d, one_value i n))
other_at i none f (own.after_con {i = b} {k = k} {d = d} n x l) = absurd (none (b, k, d, one_value i n))

other_con : (G : Sc) (p q : Place) (o : ConOrigin) (t n c : Cn) (is : Its) → normal_of t ≡ Some n → (IsPoly n → ⊥) → ItemIs G p t (with_con q o c is) is (stuck (Some (mismatch p G.called (any_poly (is_implicit o)) n)))
other_con G p q o t n c is i none =
    halts (λ u x. other_out i none x)
    (at_one (ItemFault G p t (with_con q o c is)) p (mismatch p G.called (any_poly (is_implicit o)) n) (other_at i none) (own.no_poly (other_form i none)))

-- the kind that is asked is the same twice
kind_again : {G : Sc} {b d c : Cn} {x y : Bool} {k l : Kd} → poly y l d ≡ poly x k b → HasKind G c l → HasKind G c k
kind_again {G} {c = c} i h = subst (λ z. HasKind G c z) (one_kind_asked i) h

flaw_again : {G : Sc} {q : Place} {b d c : Cn} {x y : Bool} {k l : Kd} {f : Fault} → poly y l d ≡ poly x k b → LacksKind G q c l f → LacksKind G q c k f
flaw_again {G} {q} {c = c} {f = f} i h = subst (λ z. LacksKind G q c z f) (one_kind_asked i) h

-- the constructor has it
kindly_back : {G : Sc} {q : Place} {o : ConOrigin} {t b c u : Cn} {x : Bool} {k : Kd} {is : Its} → normal_of t ≡ Some (poly x k b) → Leads no_cover G t (with_con q o c is) u → Leads no_cover G (put b c) is u
kindly_back {G} {c = c} {u = u} {is = is} i (found.past_con n h l) = subst (λ z. Leads no_cover G (put z c) is u) (one_body (one_value n i)) l

kindly_fault : {G : Sc} {p q : Place} {o : ConOrigin} {t b c : Cn} {x : Bool} {k : Kd} {is : Its} → normal_of t ≡ Some (poly x k b) → HasKind G c k → (f : Fault) → ItemFault G p t (with_con q o c is) f → ItemFault G p (put b c) is f
kindly_fault {b = b} {x = x} {k = k} i h f (own.no_poly y) = absurd (form_out y i (x, k, b, refl))
kindly_fault i h f (own.constructor_kind n y) = absurd (kind_out h (flaw_again (one_value n i) y))
kindly_fault {G} {p} {c = c} {is = is} i h f (own.after_con n y l) = subst (λ z. ItemFault G p (put z c) is f) (one_body (one_value n i)) l

kindly_con : (G : Sc) (p q : Place) (o : ConOrigin) (t b c : Cn) (x : Bool) (k : Kd) (is : Its) → normal_of t ≡ Some (poly x k b) → HasKind G c k → ItemIs G p t (with_con q o c is) is (fits (put b c))
kindly_con G p q o t b c x k is i h =
    goes (record {
      there = λ u l. found.past_con i h l;
      back = λ u l. kindly_back i l;
      fault_there = λ f l. own.after_con i h l;
      fault_back = kindly_fault i h;
    })

-- it lacks it
unkind_out : {G : Sc} {q : Place} {o : ConOrigin} {t b c u : Cn} {x : Bool} {k : Kd} {is : Its} {f : Fault} → normal_of t ≡ Some (poly x k b) → LacksKind G q c k f → Leads no_cover G t (with_con q o c is) u → ⊥
unkind_out i w (found.past_con n h l) = kind_out (kind_again (one_value n i) h) w

unkind_at : {G : Sc} {p q : Place} {o : ConOrigin} {t b c : Cn} {x : Bool} {k : Kd} {is : Its} {f : Fault} → normal_of t ≡ Some (poly x k b) → LacksKind G q c k f → (g : Fault) → ItemFault G p t (with_con q o c is) g → at g ≡ q
unkind_at {b = b} {x = x} {k = k} i w g (own.no_poly y) = absurd (form_out y i (x, k, b, refl))
unkind_at i w g (own.constructor_kind n y) = lacks_at y
unkind_at i w g (own.after_con n h l) = absurd (kind_out (kind_again (one_value n i) h) w)

unkind_con : (G : Sc) (p q : Place) (o : ConOrigin) (t b c : Cn) (x : Bool) (k : Kd) (is : Its) (f : Fault) → normal_of t ≡ Some (poly x k b) → LacksKind G q c k f → ItemIs G p t (with_con q o c is) is (stuck (Some f))
unkind_con G p q o t b c x k is f i w =
    halts (λ u l. unkind_out i w l)
    (at_one (ItemFault G p t (with_con q o c is)) q f (unkind_at i w) (own.constructor_kind i w))

-- all of it
by_kind : (G : Sc) (p q : Place) (o : ConOrigin) (t b c : Cn) (x : Bool) (k : Kd) (is : Its) (r : Result Kd Flw) → normal_of t ≡ Some (poly x k b) → Kindly G c k r → ItemIs G p t (with_con q o c is) is (past_kind G q b c r)
by_kind G p q o t b c x k is (Ok l) i (kindly h) = kindly_con G p q o t b c x k is i h
by_kind G p q o t b c x k is (Err w) i (unkind e) = unkind_con G p q o t b c x k is (flaw_at q G.called w) i (lacks e)

by_poly : (G : Sc) (p q : Place) (o : ConOrigin) (t n c : Cn) (is : Its) (s : Option (Kd × Cn)) → normal_of t ≡ Some n → Poly n s → ItemIs G p t (with_con q o c is) is (past_body G p q o c n s)
by_poly G p q o t n c is s i (a_poly x k b) = by_kind G p q o t b c x k is (judged_at G.kinds c k) i (kind_is G c k)
by_poly G p q o t n c is s i (no_poly none) = other_con G p q o t n c is i none

by_head : (G : Sc) (p q : Place) (o : ConOrigin) (t c : Cn) (is : Its) (m : Option Cn) → normal_of t ≡ m → ItemIs G p t (with_con q o c is) is (past_poly G p q o c m)
by_head G p q o t c is None i = large_con G p q o t c is i
by_head G p q o t c is (Some n) i = by_poly G p q o t n c is (poly_parts n) i (poly_view n)

pub con_item : (G : Sc) (p q : Place) (o : ConOrigin) (t c : Cn) (is : Its) → ItemIs G p t (with_con q o c is) is (past_con G p q o c (fits t))
con_item G p q o t c is = by_head G p q o t c is (normal_of t) refl
