-- The operations on records.
use Rattle.std.proofs.Common.{◌≡◌, List, Option, Some, None, Result, Ok, Err, Bool, refl, ap, ◌∙◌, subst}
use Rattle.con_terms.specs.Trees.{Kd, types, names, row_of, Cn, record_of, cat}
use Rattle.con_terms.specs.declared.place.Place.{Place}
use Rattle.row_normal.specs.Ordered.{ordered_pieces}
use Rattle.kind_rules.specs.Flaws.{Flw}
use Rattle.kind_rules.specs.Kinding.{judged_at}
use Rattle.kind_rules.specs.Compared.{comparison_units, normal_forms}
use Rattle.core_terms.specs.Trees.{Ex, node, select, without, without_row, concat}
use Rattle.core_typing.specs.Scopes.{Sc, normal_of}
use Rattle.core_typing.specs.Cover.{Covers}
use Rattle.core_typing.specs.Compared.{RecordAnd, field_of, without_pieces}
use Rattle.core_typing.specs.Faults.{Fault}
use Rattle.core_typing.specs.Judged.{HasKind}
use Rattle.core_typing.specs.Found.{FoundBy, select_has, without_has, without_row_has, concat_has}
use Rattle.told_faults.specs.Computed.{Jd, first, flawed, record_row}
use Rattle.told_faults.specs.Heads.{Kindly, kindly, unkind}
use Rattle.told_faults.proofs.Parts.{kind_is}
use Rattle.judgements.specs.Comparisons.{meets}
use Rattle.node_rules.specs.Records.{is_kinded, Op, selects, cuts, cuts_row, kind_for, selected, cut, row_cut, on_row, on_head, on_forms, on_kinded, on_record, on_form, operated, record_told, of_operation, unless_meet, of_rows, row_of_form, row_of_type, of_concat}
use Rattle.judged_terms.specs.Laws.{Sound}
use Rattle.judged_terms.proofs.Basics.{some_is, none_some, first_parts, row_is, apart}

-- an operation gives a type: the term is a record, and the constructor has its kind
pub record Operated (o : Op) (G : Sc) (p : Place) (c : Cn) (j : Option Cn) (t : Cn) : Type 0 where
  pub whole : Cn
  pub row : Cn
  pub form : Cn
  pub type : j ≡ Some whole
  pub kind : HasKind G c (kind_for o)
  pub forms : RecordAnd whole c row form
  pub gives : (on_row o G p form row).type ≡ Some t

operated_by : (o : Op) (G : Sc) (p : Place) (c : Cn) (j : Option Cn) {k : Result Kd Flw} {t : Cn} → Kindly G c (kind_for o) k → (operated o G p c (is_kinded k) j).type ≡ Some t → Operated o G p c j t
operated_by o G p c None v h = absurd (none_some h)
operated_by o G p c (Some u) {k = r} {t = t} v h = by_form (normal_of u) v h
  where
    by_side : (m n : Cn) (s : Option Cn) → HasKind G c (kind_for o) → normal_forms comparison_units u c ≡ Ok (m, n) → record_row m ≡ s → (on_head o G p n s).type ≡ Some t → Operated o G p c (Some u) t
    by_side m n None k e i x = absurd (none_some x)
    by_side m n (Some s) k e i x =
        record { whole = u; row = s; form = n; type = refl; kind = k; forms = e ∙ ap (λ z. Ok (z, n)) (row_is m i); gives = x }

    by_forms : (f : Result (Cn × Cn) Flw) → HasKind G c (kind_for o) → normal_forms comparison_units u c ≡ f → (on_forms o G p f).type ≡ Some t → Operated o G p c (Some u) t
    by_forms (Err w) k e x = absurd (none_some x)
    by_forms (Ok (m, n)) k e x = by_side m n (record_row m) k e refl x

    by_kind : {z : Result Kd Flw} → Kindly G c (kind_for o) z → (on_kinded o G p c u (is_kinded z)).type ≡ Some t → Operated o G p c (Some u) t
    by_kind (kindly k) x = by_forms (normal_forms comparison_units u c) k refl x
    by_kind (unkind k) x = absurd (none_some x)

    by_row : {z : Result Kd Flw} (s : Option Cn) → Kindly G c (kind_for o) z → (on_record o G p c u (is_kinded z) s).type ≡ Some t → Operated o G p c (Some u) t
    by_row None v x = absurd (none_some x)
    by_row (Some s) v x = by_kind v x

    by_form : {z : Result Kd Flw} (n : Option Cn) → Kindly G c (kind_for o) z → (on_form o G p c u (is_kinded z) n).type ≡ Some t → Operated o G p c (Some u) t
    by_form None v x = absurd (none_some x)
    by_form (Some n) v x = by_row (record_row n) v x

told_of : (o : Op) (G : Sc) (p q : Place) (c : Cn) (j : Jd) → (of_operation o G p q c j).told ≡ None → j.told ≡ None
told_of o G p q c j n =
    (first_parts j.told (first (record_told G q j.type) (first (flawed G p (judged_at G.kinds c (kind_for o))) (operated o G p c (is_kinded (judged_at G.kinds c (kind_for o))) j.type).own)) n).0

-- e.c
pub select_sound : (G : Sc) (p q : Place) (a : Bool) (e : Ex) (c : Cn) (j : Jd) → Sound G e j → Sound G (node p a (select e c)) (of_operation selects G p q c j)
select_sound G p q a e c j v = λ t h n. by_parts t (operated_by selects G p c j.type (kind_is G c names) h) (told_of selects G p q c j n)
  where
    by_field : {t u r m : Cn} (f : Option (Cn × List Cn)) → FoundBy Covers G e u → RecordAnd u c r m → HasKind G c names → field_of m (ordered_pieces r) ≡ f → (selected G p m r f).type ≡ Some t → FoundBy Covers G (node p a (select e c)) t
    by_field None x y k i g = absurd (none_some g)
    by_field (Some (w, rest)) x y k i g = subst (λ z. FoundBy Covers G (node p a (select e c)) z) (some_is g) (select_has x y k i)

    by_parts : (t : Cn) → Operated selects G p c j.type t → j.told ≡ None → FoundBy Covers G (node p a (select e c)) t
    by_parts t x n = by_field (field_of x.form (ordered_pieces x.row)) (v x.whole x.type n) x.forms x.kind refl x.gives

-- e -- c
pub without_sound : (G : Sc) (p q : Place) (a : Bool) (e : Ex) (c : Cn) (j : Jd) → Sound G e j → Sound G (node p a (without e c)) (of_operation cuts G p q c j)
without_sound G p q a e c j v = λ t h n. by_parts t (operated_by cuts G p c j.type (kind_is G c names) h) (told_of cuts G p q c j n)
  where
    by_field : {t u r m : Cn} (f : Option (Cn × List Cn)) → FoundBy Covers G e u → RecordAnd u c r m → HasKind G c names → field_of m (ordered_pieces r) ≡ f → (cut G p m r f).type ≡ Some t → FoundBy Covers G (node p a (without e c)) t
    by_field None x y k i g = absurd (none_some g)
    by_field (Some (w, rest)) x y k i g = subst (λ z. FoundBy Covers G (node p a (without e c)) z) (some_is g) (without_has x y k i)

    by_parts : (t : Cn) → Operated cuts G p c j.type t → j.told ≡ None → FoundBy Covers G (node p a (without e c)) t
    by_parts t x n = by_field (field_of x.form (ordered_pieces x.row)) (v x.whole x.type n) x.forms x.kind refl x.gives

-- e --- c
pub without_row_sound : (G : Sc) (p q : Place) (a : Bool) (e : Ex) (c : Cn) (j : Jd) → Sound G e j → Sound G (node p a (without_row e c)) (of_operation cuts_row G p q c j)
without_row_sound G p q a e c j v = λ t h n. by_parts t (operated_by cuts_row G p c j.type (kind_is G c (row_of types)) h) (told_of cuts_row G p q c j n)
  where
    by_pieces : {t u r m : Cn} (f : Option (List Cn)) → FoundBy Covers G e u → RecordAnd u c r m → HasKind G c (row_of types) → without_pieces (ordered_pieces m) (ordered_pieces r) ≡ f → (row_cut G p m r f).type ≡ Some t → FoundBy Covers G (node p a (without_row e c)) t
    by_pieces None x y k i g = absurd (none_some g)
    by_pieces (Some rest) x y k i g = subst (λ z. FoundBy Covers G (node p a (without_row e c)) z) (some_is g) (without_row_has x y k i)

    by_parts : (t : Cn) → Operated cuts_row G p c j.type t → j.told ≡ None → FoundBy Covers G (node p a (without_row e c)) t
    by_parts t x n = by_pieces (without_pieces (ordered_pieces x.form) (ordered_pieces x.row)) (v x.whole x.type n) x.forms x.kind refl x.gives

-- the row of a type
form_row : (o : Option Cn) {r : Cn} → row_of_form o ≡ Some r → o ≡ Some (record_of r)
form_row None h = absurd (none_some h)
form_row (Some n) h = ap (λ z. Some z) (row_is n h)

pub record RowOf (o : Option Cn) (r : Cn) : Type 0 where
  pub type : Cn
  pub here : o ≡ Some type
  pub normal : normal_of type ≡ Some (record_of r)

type_row_is : (o : Option Cn) {r : Cn} → row_of_type o ≡ Some r → RowOf o r
type_row_is None h = absurd (none_some h)
type_row_is (Some t) h = record { type = t; here = refl; normal = form_row (normal_of t) h }

-- e ++ d
meet_is : (r s : Cn) (o : Option Fault) {t : Cn} → (unless_meet r s o).type ≡ Some t → (o ≡ None) × (record_of (cat r s) ≡ t)
meet_is r s None h = (refl, some_is h)
meet_is r s (Some f) h = absurd (none_some h)

pub concat_sound : (G : Sc) (p q s : Place) (a : Bool) (e d : Ex) (j k : Jd) → Sound G e j → Sound G d k → Sound G (node p a (concat e d)) (of_concat G p q s j k)
concat_sound G p q s a e d j k v w = λ t h n. by_left t (row_of_type j.type) refl h (told n)
  where
    told : (of_concat G p q s j k).told ≡ None → (j.told ≡ None) × (k.told ≡ None)
    told n = first_parts j.told k.told (first_parts (first j.told k.told) (first (record_told G q j.type) (first (record_told G s k.type) (of_rows G p (row_of_type j.type) (row_of_type k.type)).own)) n).0

    by_rows : (t x y : Cn) → RowOf j.type x → RowOf k.type y → (unless_meet x y (meets G p x y)).type ≡ Some t → (j.told ≡ None) × (k.told ≡ None) → FoundBy Covers G (node p a (concat e d)) t
    by_rows t x y l r h (m, n) =
        let (i, g) = meet_is x y (meets G p x y) h in
        subst (λ z. FoundBy Covers G (node p a (concat e d)) z) g
        (concat_has (v l.type l.here m) (w r.type r.here n) l.normal r.normal (apart G p x y i))

    by_right : (t x : Cn) (o : Option Cn) → RowOf j.type x → row_of_type k.type ≡ o → (of_rows G p (Some x) o).type ≡ Some t → (j.told ≡ None) × (k.told ≡ None) → FoundBy Covers G (node p a (concat e d)) t
    by_right t x None l i h n = absurd (none_some h)
    by_right t x (Some y) l i h n = by_rows t x y l (type_row_is k.type i) h n

    by_left : (t : Cn) (o : Option Cn) → row_of_type j.type ≡ o → (of_rows G p o (row_of_type k.type)).type ≡ Some t → (j.told ≡ None) × (k.told ≡ None) → FoundBy Covers G (node p a (concat e d)) t
    by_left t None i h n = absurd (none_some h)
    by_left t (Some x) i h n = by_right t x (row_of_type k.type) (type_row_is j.type i) refl h n
