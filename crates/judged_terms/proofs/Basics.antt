-- What it means that nothing is told, and that a comparison, a kinding and a head tell nothing.
use Rattle.std.proofs.Common.{◌≡◌, List, Option, Some, None, ap, sym, subst}
use Rattle.con_terms.specs.Trees.{Cn, record_of}
use Rattle.con_terms.specs.declared.place.Place.{Place}
use Rattle.core_terms.specs.Trees.{Pt, Ex}
use Rattle.core_typing.specs.Scopes.{Sc}
use Rattle.core_typing.specs.Cover.{Covers}
use Rattle.core_typing.specs.Found.{FoundBy}
use Rattle.core_typing.specs.Faults.{Fault}
pub use Rattle.core_typing.proofs.OneSite.{some_is}
use Rattle.told_faults.specs.Computed.{Jd, faulty, record_row}
use Rattle.told_faults.specs.Heads.{Rec, a_record, no_rec}
use Rattle.told_faults.proofs.Heads.{record_view}
use Rattle.pattern_rules.specs.Matching.{Uncovered}
pub use Rattle.markup_rules.proofs.Basics.{some_none, none_some, first_parts, alike, kinded, apart}
use Rattle.judged_terms.specs.Laws.{Sound}

-- a judgement of a type alone, and of none
pub as_typed : {G : Sc} {e : Ex} {u : Cn} {told : Option Fault} → FoundBy Covers G e u → Sound G e (record { type = Some u; told = told })
as_typed {G} {e} x = λ t h n. subst (λ z. FoundBy Covers G e z) (some_is h) x

pub untyped : {G : Sc} {e : Ex} {told : Option Fault} → Sound G e (record { type = None; told = told })
untyped = λ t h n. absurd (none_some h)

-- the row of a record
row_by : {n r : Cn} {o : Option Cn} → Rec n o → o ≡ Some r → n ≡ record_of r
row_by (a_record s) h = ap record_of (some_is h)
row_by (no_rec x) h = absurd (none_some h)

pub row_is : (n : Cn) {r : Cn} → record_row n ≡ Some r → n ≡ record_of r
row_is n h = row_by (record_view n) h

-- a fault alone
pub by_faulty : {G : Sc} {e : Ex} {f : Fault} (j : Jd) → j ≡ faulty f → Sound G e j
by_faulty {G} {e} {f} j h = subst (λ z. Sound G e z) (sym h) (untyped {G = G} {e = e} {told = Some f})

-- what is equal to a sound judgement
pub as_judged : {G : Sc} {e : Ex} {i : Jd} (j : Jd) → j ≡ i → Sound G e i → Sound G e j
as_judged {G} {e} j h v = subst (λ z. Sound G e z) (sym h) v

-- what cover doesn't tell
pub covered : (G : Sc) (p : Place) (ps : List Pt) (t : Cn) (o : Option Fault) → Uncovered G p ps t o → o ≡ None → Covers G.datatypes ps t
covered G p ps t None c h = c
covered G p ps t (Some f) c h = absurd (some_none h)
