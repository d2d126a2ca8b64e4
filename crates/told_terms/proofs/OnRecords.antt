-- What an operation on a record gives, beside what is computed for it: what it wants of a term's type and of its
-- constructor, and what is told where it gives nothing.
use Rattle.std.proofs.Common.{◌≡◌, List, Option, Some, None, Result, Ok, Err, refl, ap, sym, ◌∙◌, subst}
use Rattle.con_terms.specs.Trees.{Kd, Cn, record_of}
use Rattle.con_terms.specs.declared.place.Place.{Place}
use Rattle.row_normal.specs.Ordered.{ordered_pieces}
use Rattle.kind_rules.specs.Flaws.{Flw}
use Rattle.kind_rules.specs.Compared.{comparison_units, normal_forms}
use Rattle.core_typing.specs.Scopes.{Sc, normal_of}
use Rattle.core_typing.specs.Compared.{Large, RecordAnd, field_of, without_pieces}
use Rattle.core_typing.specs.Judged.{HasKind, lacks}
use Rattle.core_typing.specs.Faults.{Fault, at, too_large}
use Rattle.core_typing.proofs.DecidedForms.{none_some, only_large}
use Rattle.core_typing.proofs.Excluded.{kind_out}
use Rattle.core_typing.proofs.Normal.{first_form, same_second}
use Rattle.core_typing.proofs.OneType.{one_value, one_record}
use Rattle.told_faults.specs.Computed.{record_row}
use Rattle.told_faults.specs.Heads.{Kindly, kindly, unkind, Rec, a_record, no_rec}
use Rattle.told_faults.specs.Told.{Picks, Holds}
use Rattle.told_faults.proofs.Heads.{record_view}
use Rattle.told_faults.proofs.Parts.{at_one}
use Rattle.node_rules.specs.Records.{is_kinded, Pd, no_value, Op, selects, cuts, cuts_row, kind_for, selected, cut, row_cut, on_row, on_head, on_forms, on_kinded, on_record, on_form}
use Rattle.told_terms.proofs.Tests.{none_is}

-- of a record of a type, the operation gives this
pub record Gives (o : Op) (G : Sc) (p : Place) (c t v : Cn) : Type 0 where
  pub form : Cn
  pub row : Cn
  pub forms : RecordAnd t c row form
  pub kind : HasKind G c (kind_for o)
  pub gives : (on_row o G p form row).type ≡ Some v

-- or it gives nothing: the comparison is too large, or the record hasn't what the operation wants of it
pub data Denies (o : Op) (G : Sc) (p : Place) (c t : Cn) : Fault → Type 0 where
  too_big : {r : Cn}
      → normal_of t ≡ Some (record_of r)
      → HasKind G c (kind_for o)
      → Large t c
      → Denies o G p c t (too_large p)
  not_there : {n r : Cn} {f : Fault}
      → RecordAnd t c r n
      → HasKind G c (kind_for o)
      → (on_row o G p n r).own ≡ Some f
      → Denies o G p c t f

-- what is computed: nothing where the type is no record or the constructor hasn't its kind
pub data Operates (o : Op) (G : Sc) (p : Place) (c t : Cn) : Pd → Type 0 where
  nothing : ((r : Cn) → normal_of t ≡ Some (record_of r) → HasKind G c (kind_for o) → ⊥)
      → Operates o G p c t (no_value None)
  is_large : {r : Cn}
      → normal_of t ≡ Some (record_of r)
      → HasKind G c (kind_for o)
      → Large t c
      → Operates o G p c t (no_value (Some (too_large p)))
  on_a_row : {n r : Cn}
      → RecordAnd t c r n
      → HasKind G c (kind_for o)
      → Operates o G p c t (on_row o G p n r)

some_record : {m r : Cn} {o : Option Cn} → o ≡ Some m → o ≡ Some (record_of r) → m ≡ record_of r
some_record h k = one_value h k

with_head : (o : Op) (G : Sc) (p : Place) (c t m n r : Cn) → HasKind G c (kind_for o) → RecordAnd t c r n → m ≡ record_of r → Operates o G p c t (on_head o G p n (record_row m))
with_head o G p c t m n r k f i = subst (λ z. Operates o G p c t (on_head o G p n (record_row z))) (sym i) (on_a_row f k)

with_forms : (o : Op) (G : Sc) (p : Place) (c t r : Cn) (f : Result (Cn × Cn) Flw) → HasKind G c (kind_for o) → normal_of t ≡ Some (record_of r) → normal_forms comparison_units t c ≡ f → Operates o G p c t (on_forms o G p f)
with_forms o G p c t r (Err w) k h e = is_large h k (e ∙ ap (λ z. Err z) (only_large t c w e))
with_forms o G p c t r (Ok (m, n)) k h e =
    let i = some_record (first_form t c e) h in
    with_head o G p c t m n r k (e ∙ ap (λ z. Ok (z, n)) i) i

with_kind : (o : Op) (G : Sc) (p : Place) (c t r : Cn) {k : Result Kd Flw} → Kindly G c (kind_for o) k → normal_of t ≡ Some (record_of r) → Operates o G p c t (on_kinded o G p c t (is_kinded k))
with_kind o G p c t r (unkind e) h = nothing (λ s i x. kind_out x (lacks {p = p} e))
with_kind o G p c t r (kindly k) h = with_forms o G p c t r (normal_forms comparison_units t c) k h refl

with_row : (o : Op) (G : Sc) (p : Place) (c t : Cn) {k : Result Kd Flw} {n : Cn} {s : Option Cn} → Kindly G c (kind_for o) k → normal_of t ≡ Some n → Rec n s → Operates o G p c t (on_record o G p c t (is_kinded k) s)
with_row o G p c t v h (a_record r) = with_kind o G p c t r v h
with_row o G p c t v h (no_rec x) = nothing (λ s i y. x (s, some_record h i))

with_form : (o : Op) (G : Sc) (p : Place) (c t : Cn) {k : Result Kd Flw} (n : Option Cn) → Kindly G c (kind_for o) k → normal_of t ≡ n → Operates o G p c t (on_form o G p c t (is_kinded k) n)
with_form o G p c t None v h = nothing (λ s i y. none_some h i)
with_form o G p c t (Some n) v h = with_row o G p c t v h (record_view n)

pub operates : (o : Op) (G : Sc) (p : Place) (c t : Cn) {k : Result Kd Flw} → Kindly G c (kind_for o) k → Operates o G p c t (on_form o G p c t (is_kinded k) (normal_of t))
operates o G p c t v = with_form o G p c t (normal_of t) v refl

-- one row and one form of the operation's constructor
one_own : (o : Op) (G : Sc) (p : Place) (c t m n r s : Cn) → RecordAnd t c r n → RecordAnd t c s m → on_row o G p n r ≡ on_row o G p m s
one_own o G p c t m n r s h k =
    let i : r ≡ s = one_record (first_form t c h) (first_form t c k) in
    let e : n ≡ m = same_second t t c h k refl in
    ap (λ z. on_row o G p z r) e ∙ ap (λ z. on_row o G p m z) i

no_answer : {r : Result (Cn × Cn) Flw} {x : Cn × Cn} {w : Flw} → r ≡ Ok x → r ≡ Err w → ⊥
no_answer h k = let e = sym h ∙ k in cc

-- its type
row_holds : (o : Op) (G : Sc) (p : Place) (c t n r : Cn) (v : Option Cn) → RecordAnd t c r n → HasKind G c (kind_for o) → (on_row o G p n r).type ≡ v → Holds (Gives o G p c t) v
row_holds o G p c t n r None f k e = λ v y. none_some e (ap (λ (z : Pd). z.type) (one_own o G p c t y.form n r y.row f y.forms) ∙ y.gives)
row_holds o G p c t n r (Some v) f k e = record { form = n; row = r; forms = f; kind = k; gives = e }

pub gives_held : (o : Op) (G : Sc) (p : Place) (c t : Cn) {d : Pd} → Operates o G p c t d → Holds (Gives o G p c t) d.type
gives_held o G p c t (nothing x) = λ v y. x y.row (first_form t c y.forms) y.kind
gives_held o G p c t (is_large h k l) = λ v y. no_answer y.forms l
gives_held o G p c t (on_a_row {n = n} {r = r} f k) = row_holds o G p c t n r (on_row o G p n r).type f k refl

-- what it tells stands at its own place
stands_at : {f g : Fault} → Some f ≡ Some g → at g ≡ at f
stands_at {f} {g} e = let i : f ≡ g = one_value refl e in sym (ap at i)

selected_at : (G : Sc) (p : Place) (n r : Cn) (x : Option (Cn × List Cn)) {f : Fault} → (selected G p n r x).own ≡ Some f → at f ≡ p
selected_at G p n r None e = stands_at e
selected_at G p n r (Some x) e = absurd (none_is e)

cut_at : (G : Sc) (p : Place) (n r : Cn) (x : Option (Cn × List Cn)) {f : Fault} → (cut G p n r x).own ≡ Some f → at f ≡ p
cut_at G p n r None e = stands_at e
cut_at G p n r (Some x) e = absurd (none_is e)

row_cut_at : (G : Sc) (p : Place) (n r : Cn) (x : Option (List Cn)) {f : Fault} → (row_cut G p n r x).own ≡ Some f → at f ≡ p
row_cut_at G p n r None e = stands_at e
row_cut_at G p n r (Some x) e = absurd (none_is e)

row_at : (o : Op) (G : Sc) (p : Place) (n r : Cn) {f : Fault} → (on_row o G p n r).own ≡ Some f → at f ≡ p
row_at selects G p n r e = selected_at G p n r (field_of n (ordered_pieces r)) e
row_at cuts G p n r e = cut_at G p n r (field_of n (ordered_pieces r)) e
row_at cuts_row G p n r e = row_cut_at G p n r (without_pieces (ordered_pieces n) (ordered_pieces r)) e

denies_at : {o : Op} {G : Sc} {p : Place} {c t : Cn} {f : Fault} → Denies o G p c t f → at f ≡ p
denies_at (too_big h k l) = refl
denies_at {o} {G} {p} (not_there {n = n} {r = r} h k e) = row_at o G p n r e

-- what it tells
silent_row : (o : Op) (G : Sc) (p : Place) (c t n r : Cn) {f : Fault} → RecordAnd t c r n → (on_row o G p n r).own ≡ None → Denies o G p c t f → ⊥
silent_row o G p c t n r h e (too_big i k l) = no_answer h l
silent_row o G p c t n r h e (not_there {n = m} {r = s} i k x) = none_some (ap (λ (z : Pd). z.own) (one_own o G p c t n m s r i h) ∙ e) x

row_picked : (o : Op) (G : Sc) (p : Place) (c t n r : Cn) (v : Option Fault) → RecordAnd t c r n → HasKind G c (kind_for o) → (on_row o G p n r).own ≡ v → Picks (Denies o G p c t) v
row_picked o G p c t n r None f k e = λ g y. silent_row o G p c t n r f e y
row_picked o G p c t n r (Some g) f k e = at_one (Denies o G p c t) p g (λ h y. denies_at y) (not_there f k e)

nothing_denied : (o : Op) (G : Sc) (p : Place) (c t : Cn) {f : Fault} → ((r : Cn) → normal_of t ≡ Some (record_of r) → HasKind G c (kind_for o) → ⊥) → Denies o G p c t f → ⊥
nothing_denied o G p c t x (too_big {r = r} h k l) = x r h k
nothing_denied o G p c t x (not_there {r = r} h k e) = x r (first_form t c h) k

pub denies_picked : (o : Op) (G : Sc) (p : Place) (c t : Cn) {d : Pd} → Operates o G p c t d → Picks (Denies o G p c t) d.own
denies_picked o G p c t (nothing x) = λ f y. nothing_denied o G p c t x y
denies_picked o G p c t (is_large h k l) = at_one (Denies o G p c t) p (too_large p) (λ g y. denies_at y) (too_big h k l)
denies_picked o G p c t (on_a_row {n = n} {r = r} f k) = row_picked o G p c t n r (on_row o G p n r).own f k refl
