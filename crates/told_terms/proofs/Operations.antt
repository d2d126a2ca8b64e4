-- What is told of the operations on one record: e.c, e -- c, e --- c.
use Rattle.std.proofs.Common.{◌≡◌, Bool, List, Option, Some, None, Result, refl, ap, subst}
use Rattle.con_terms.specs.Trees.{Kd, Cn}
use Rattle.con_terms.specs.declared.place.Place.{Place}
use Rattle.row_normal.specs.Ordered.{ordered_pieces}
use Rattle.kind_rules.specs.Flaws.{Flw}
use Rattle.kind_rules.specs.Kinding.{judged_at}
use Rattle.core_terms.specs.Trees.{Ex, node, Fo, select, without, without_row}
use Rattle.core_typing.specs.Scopes.{Sc, normal_of}
use Rattle.core_typing.specs.Compared.{RecordAnd, field_of, without_pieces}
use Rattle.core_typing.specs.Judged.{HasKind, LacksKind}
use Rattle.core_typing.specs.Faults.{Fault}
use Rattle.core_typing.specs.Found.{Found, select_has, without_has, without_row_has}
use Rattle.core_typing.specs.Own.{place_of, Own}
use Rattle.core_typing.specs.Own as own
use Rattle.core_typing.specs.Tells.{Sub, selected_from, cut_from, row_cut_from}
use Rattle.core_typing.proofs.OneType.{one_found}
use Rattle.core_typing.proofs.OneSite.{some_is}
use Rattle.told_faults.specs.Computed.{Jd, first, flawed}
use Rattle.told_faults.specs.Heads.{Kindly}
use Rattle.told_faults.specs.Told.{TypeIs, Verdict, Picks, Or, or_first, or_second, Only, only, Holds, OfType}
use Rattle.told_faults.proofs.Parts.{kind_is, picks_flaw}
use Rattle.told_faults.proofs.Verdict.{picks_two, picks_as}
use Rattle.node_rules.specs.Records.{is_kinded, Op, selects, cuts, cuts_row, kind_for, selected, cut, row_cut, on_form, operated, record_told, of_operation}
use Rattle.told_terms.proofs.Verdicts.{one_part}
use Rattle.told_terms.proofs.Meets.{NoRecord, picks_no_record}
use Rattle.told_terms.proofs.OnRecords.{Gives, Denies, too_big, not_there, operates, gives_held, denies_picked}
use Rattle.told_terms.proofs.Tests.{none_is}

-- the form of an operation
abbrev form_of : Op → Ex → Cn → Fo
form_of selects e c = select e c
form_of cuts e c = without e c
form_of cuts_row e c = without_row e c

-- its type is what the operation gives of the record's type
select_there : (G : Sc) (p : Place) (a : Bool) (e : Ex) (c t n r v : Cn) (x : Option (Cn × List Cn)) → Found G e t → RecordAnd t c r n → HasKind G c (kind_for selects) → field_of n (ordered_pieces r) ≡ x → (selected G p n r x).type ≡ Some v → Found G (node p a (select e c)) v
select_there G p a e c t n r v None h f k i g = absurd (none_is g)
select_there G p a e c t n r v (Some (w, rest)) h f k i g = subst (λ z. Found G (node p a (select e c)) z) (some_is g) (select_has h f k i)

without_there : (G : Sc) (p : Place) (a : Bool) (e : Ex) (c t n r v : Cn) (x : Option (Cn × List Cn)) → Found G e t → RecordAnd t c r n → HasKind G c (kind_for cuts) → field_of n (ordered_pieces r) ≡ x → (cut G p n r x).type ≡ Some v → Found G (node p a (without e c)) v
without_there G p a e c t n r v None h f k i g = absurd (none_is g)
without_there G p a e c t n r v (Some (w, rest)) h f k i g = subst (λ z. Found G (node p a (without e c)) z) (some_is g) (without_has h f k i)

without_row_there : (G : Sc) (p : Place) (a : Bool) (e : Ex) (c t n r v : Cn) (x : Option (List Cn)) → Found G e t → RecordAnd t c r n → HasKind G c (kind_for cuts_row) → without_pieces (ordered_pieces n) (ordered_pieces r) ≡ x → (row_cut G p n r x).type ≡ Some v → Found G (node p a (without_row e c)) v
without_row_there G p a e c t n r v None h f k i g = absurd (none_is g)
without_row_there G p a e c t n r v (Some rest) h f k i g = subst (λ z. Found G (node p a (without_row e c)) z) (some_is g) (without_row_has h f k i)

operation_there : (o : Op) (G : Sc) (p : Place) (a : Bool) (e : Ex) (c t v : Cn) → Found G e t → Gives o G p c t v → Found G (node p a (form_of o e c)) v
operation_there selects G p a e c t v h y = select_there G p a e c t y.form y.row v (field_of y.form (ordered_pieces y.row)) h y.forms y.kind refl y.gives
operation_there cuts G p a e c t v h y = without_there G p a e c t y.form y.row v (field_of y.form (ordered_pieces y.row)) h y.forms y.kind refl y.gives
operation_there cuts_row G p a e c t v h y = without_row_there G p a e c t y.form y.row v (without_pieces (ordered_pieces y.form) (ordered_pieces y.row)) h y.forms y.kind refl y.gives

-- and nothing else
pub record Parted (o : Op) (G : Sc) (p : Place) (e : Ex) (c v : Cn) : Type 0 where
  pub whole : Cn
  pub found : Found G e whole
  pub gives : Gives o G p c whole v

operation_back : (o : Op) (G : Sc) (p : Place) (a : Bool) (e : Ex) (c v : Cn) → Found G (node p a (form_of o e c)) v → Parted o G p e c v
operation_back selects G p a e c v (select_has {n = n} {t = t} {r = r} h f k i) =
    record { whole = t; found = h; gives = record { form = n; row = r; forms = f; kind = k; gives = ap (λ z. (selected G p n r z).type) i } }
operation_back cuts G p a e c v (without_has {n = n} {t = t} {r = r} h f k i) =
    record { whole = t; found = h; gives = record { form = n; row = r; forms = f; kind = k; gives = ap (λ z. (cut G p n r z).type) i } }
operation_back cuts_row G p a e c v (without_row_has {n = n} {t = t} {r = r} h f k i) =
    record { whole = t; found = h; gives = record { form = n; row = r; forms = f; kind = k; gives = ap (λ z. (row_cut G p n r z).type) i } }

given_type : (o : Op) (G : Sc) (p : Place) (a : Bool) (e : Ex) (c t : Cn) (v : Option Cn) → Found G e t → Holds (Gives o G p c t) v → TypeIs G (node p a (form_of o e c)) v
given_type o G p a e c t None h x = λ v y. by_parts v (operation_back o G p a e c v y)
  where
    by_parts : (v : Cn) → Parted o G p e c v → ⊥
    by_parts v y = x v (subst (λ z. Gives o G p c z v) (one_found y.found h) y.gives)
given_type o G p a e c t (Some v) h x = operation_there o G p a e c t v h x

operation_type : (o : Op) (G : Sc) (p : Place) (a : Bool) (e : Ex) (c : Cn) (s : Option Cn) {k : Result Kd Flw} → Kindly G c (kind_for o) k → TypeIs G e s → TypeIs G (node p a (form_of o e c)) (operated o G p c (is_kinded k) s).type
operation_type o G p a e c None v x = λ t y. by_parts t (operation_back o G p a e c t y)
  where
    by_parts : (t : Cn) → Parted o G p e c t → ⊥
    by_parts t y = x y.whole y.found
operation_type o G p a e c (Some t) {k = k} v x = given_type o G p a e c t (on_form o G p c t (is_kinded k) (normal_of t)).type x (gives_held o G p c t (operates o G p c t v))

-- what it has at fault itself
abbrev Faulty : Op → Sc → Place → Ex → Cn → Fault → Type 0
Faulty o G p e c =
    Or (NoRecord G (place_of e) e) (Or (LacksKind G p c (kind_for o)) (OfType G e (λ t. Denies o G p c t)))

faulty_there : (o : Op) (G : Sc) (p : Place) (a : Bool) (e : Ex) (c : Cn) (f : Fault) → Own G (node p a (form_of o e c)) f → Faulty o G p e c f
faulty_there selects G p a e c f (own.select_no_record {t = t} h x) = or_first (t, h, x)
faulty_there selects G p a e c f (own.select_kind x) = or_second (or_first x)
faulty_there selects G p a e c f (own.select_large {t = t} h i k l) = or_second (or_second (t, h, too_big i k l))
faulty_there selects G p a e c f (own.select_no_field {n = n} {t = t} {r = r} h i k l) = or_second (or_second (t, h, not_there i k (ap (λ z. (selected G p n r z).own) l)))
faulty_there cuts G p a e c f (own.without_no_record {t = t} h x) = or_first (t, h, x)
faulty_there cuts G p a e c f (own.without_kind x) = or_second (or_first x)
faulty_there cuts G p a e c f (own.without_large {t = t} h i k l) = or_second (or_second (t, h, too_big i k l))
faulty_there cuts G p a e c f (own.without_no_field {n = n} {t = t} {r = r} h i k l) = or_second (or_second (t, h, not_there i k (ap (λ z. (cut G p n r z).own) l)))
faulty_there cuts_row G p a e c f (own.row_no_record {t = t} h x) = or_first (t, h, x)
faulty_there cuts_row G p a e c f (own.row_kind x) = or_second (or_first x)
faulty_there cuts_row G p a e c f (own.row_large {t = t} h i k l) = or_second (or_second (t, h, too_big i k l))
faulty_there cuts_row G p a e c f (own.row_not_there {n = n} {t = t} {r = r} h i k l) = or_second (or_second (t, h, not_there i k (ap (λ z. (row_cut G p n r z).own) l)))

no_field_back : (G : Sc) (p : Place) (a : Bool) (e : Ex) (c t n r : Cn) (f : Fault) (x : Option (Cn × List Cn)) → Found G e t → RecordAnd t c r n → HasKind G c (kind_for selects) → field_of n (ordered_pieces r) ≡ x → (selected G p n r x).own ≡ Some f → Own G (node p a (select e c)) f
no_field_back G p a e c t n r f None h i k l y = subst (λ z. Own G (node p a (select e c)) z) (some_is y) (own.select_no_field h i k l)
no_field_back G p a e c t n r f (Some x) h i k l y = absurd (none_is y)

no_cut_back : (G : Sc) (p : Place) (a : Bool) (e : Ex) (c t n r : Cn) (f : Fault) (x : Option (Cn × List Cn)) → Found G e t → RecordAnd t c r n → HasKind G c (kind_for cuts) → field_of n (ordered_pieces r) ≡ x → (cut G p n r x).own ≡ Some f → Own G (node p a (without e c)) f
no_cut_back G p a e c t n r f None h i k l y = subst (λ z. Own G (node p a (without e c)) z) (some_is y) (own.without_no_field h i k l)
no_cut_back G p a e c t n r f (Some x) h i k l y = absurd (none_is y)

no_row_back : (G : Sc) (p : Place) (a : Bool) (e : Ex) (c t n r : Cn) (f : Fault) (x : Option (List Cn)) → Found G e t → RecordAnd t c r n → HasKind G c (kind_for cuts_row) → without_pieces (ordered_pieces n) (ordered_pieces r) ≡ x → (row_cut G p n r x).own ≡ Some f → Own G (node p a (without_row e c)) f
no_row_back G p a e c t n r f None h i k l y = subst (λ z. Own G (node p a (without_row e c)) z) (some_is y) (own.row_not_there h i k l)
no_row_back G p a e c t n r f (Some x) h i k l y = absurd (none_is y)

denied_back : (o : Op) (G : Sc) (p : Place) (a : Bool) (e : Ex) (c t : Cn) (f : Fault) → Found G e t → Denies o G p c t f → Own G (node p a (form_of o e c)) f
denied_back selects G p a e c t f h (too_big i k l) = own.select_large h i k l
denied_back selects G p a e c t f h (not_there {n = n} {r = r} i k y) = no_field_back G p a e c t n r f (field_of n (ordered_pieces r)) h i k refl y
denied_back cuts G p a e c t f h (too_big i k l) = own.without_large h i k l
denied_back cuts G p a e c t f h (not_there {n = n} {r = r} i k y) = no_cut_back G p a e c t n r f (field_of n (ordered_pieces r)) h i k refl y
denied_back cuts_row G p a e c t f h (too_big i k l) = own.row_large h i k l
denied_back cuts_row G p a e c t f h (not_there {n = n} {r = r} i k y) = no_row_back G p a e c t n r f (without_pieces (ordered_pieces n) (ordered_pieces r)) h i k refl y

faulty_back : (o : Op) (G : Sc) (p : Place) (a : Bool) (e : Ex) (c : Cn) (f : Fault) → Faulty o G p e c f → Own G (node p a (form_of o e c)) f
faulty_back selects G p a e c f (or_first (t, h, x)) = own.select_no_record h x
faulty_back selects G p a e c f (or_second (or_first x)) = own.select_kind x
faulty_back selects G p a e c f (or_second (or_second (t, h, x))) = denied_back selects G p a e c t f h x
faulty_back cuts G p a e c f (or_first (t, h, x)) = own.without_no_record h x
faulty_back cuts G p a e c f (or_second (or_first x)) = own.without_kind x
faulty_back cuts G p a e c f (or_second (or_second (t, h, x))) = denied_back cuts G p a e c t f h x
faulty_back cuts_row G p a e c f (or_first (t, h, x)) = own.row_no_record h x
faulty_back cuts_row G p a e c f (or_second (or_first x)) = own.row_kind x
faulty_back cuts_row G p a e c f (or_second (or_second (t, h, x))) = denied_back cuts_row G p a e c t f h x

picks_denied : (o : Op) (G : Sc) (p : Place) (e : Ex) (c : Cn) (s : Option Cn) {k : Result Kd Flw} → Kindly G c (kind_for o) k → TypeIs G e s → Picks (OfType G e (λ t. Denies o G p c t)) (operated o G p c (is_kinded k) s).own
picks_denied o G p e c None v x = none
  where
    none : (f : Fault) → OfType G e (λ t. Denies o G p c t) f → ⊥
    none f (t, h, y) = x t h
picks_denied o G p e c (Some t) {k = k} v x = picks_as (Denies o G p c t) (OfType G e (λ u. Denies o G p c u)) (on_form o G p c t (is_kinded k) (normal_of t)).own there back (denies_picked o G p c t (operates o G p c t v))
  where
    there : (f : Fault) → Denies o G p c t f → OfType G e (λ u. Denies o G p c u) f
    there f y = (t, x, y)

    back : (f : Fault) → OfType G e (λ u. Denies o G p c u) f → Denies o G p c t f
    back f (u, h, y) = subst (λ z. Denies o G p c z f) (one_found h x) y

operation_own : (o : Op) (G : Sc) (p : Place) (a : Bool) (e : Ex) (c : Cn) (s : Option Cn) (k : Result Kd Flw) → Kindly G c (kind_for o) k → TypeIs G e s → Picks (Own G (node p a (form_of o e c))) (first (record_told G (place_of e) s) (first (flawed G p k) (operated o G p c (is_kinded k) s).own))
operation_own o G p a e c s k v x = picks_as (Faulty o G p e c) (Own G (node p a (form_of o e c))) (first (record_told G (place_of e) s) (first (flawed G p k) (operated o G p c (is_kinded k) s).own)) (faulty_back o G p a e c) (faulty_there o G p a e c) all
  where
    second : Picks (Or (LacksKind G p c (kind_for o)) (OfType G e (λ t. Denies o G p c t))) (first (flawed G p k) (operated o G p c (is_kinded k) s).own)
    second = picks_two (LacksKind G p c (kind_for o)) (OfType G e (λ t. Denies o G p c t)) (flawed G p k) (operated o G p c (is_kinded k) s).own (picks_flaw G p c (kind_for o) k v) (picks_denied o G p e c s v x)

    all : Picks (Faulty o G p e c) (first (record_told G (place_of e) s) (first (flawed G p k) (operated o G p c (is_kinded k) s).own))
    all = picks_two (NoRecord G (place_of e) e) (Or (LacksKind G p c (kind_for o)) (OfType G e (λ t. Denies o G p c t))) (record_told G (place_of e) s) (first (flawed G p k) (operated o G p c (is_kinded k) s).own) (picks_no_record G (place_of e) e s x) second

-- its part
part_of : (o : Op) (G : Sc) (p : Place) (a : Bool) (e : Ex) (c : Cn) → Sub G (node p a (form_of o e c)) G e
part_of selects G p a e c = selected_from
part_of cuts G p a e c = cut_from
part_of cuts_row G p a e c = row_cut_from

part_alone : (o : Op) (G : Sc) (p : Place) (a : Bool) (e : Ex) (c : Cn) (H : Sc) (d : Ex) → Sub G (node p a (form_of o e c)) H d → Only G e H d
part_alone selects G p a e c H d selected_from = only
part_alone cuts G p a e c H d cut_from = only
part_alone cuts_row G p a e c H d row_cut_from = only

operation_told : (o : Op) (G : Sc) (p : Place) (a : Bool) (e : Ex) (c : Cn) (i : Jd) (k : Result Kd Flw) → Kindly G c (kind_for o) k → Verdict G e i → Verdict G (node p a (form_of o e c)) (record { type = (operated o G p c (is_kinded k) i.type).type; told = first i.told (first (record_told G (place_of e) i.type) (first (flawed G p k) (operated o G p c (is_kinded k) i.type).own)) })
operation_told o G p a e c i k x v =
    one_part G (node p a (form_of o e c)) G e i (operated o G p c (is_kinded k) i.type).type
    (first (record_told G (place_of e) i.type) (first (flawed G p k) (operated o G p c (is_kinded k) i.type).own))
    v (part_of o G p a e c) (part_alone o G p a e c) (operation_type o G p a e c i.type x v.type) (operation_own o G p a e c i.type k x v.type)

-- e.c
pub select_told : (G : Sc) (p : Place) (a : Bool) (e : Ex) (c : Cn) (i : Jd) → Verdict G e i → Verdict G (node p a (select e c)) (of_operation selects G p (place_of e) c i)
select_told G p a e c i v = operation_told selects G p a e c i (judged_at G.kinds c (kind_for selects)) (kind_is G c (kind_for selects)) v

-- e -- c
pub without_told : (G : Sc) (p : Place) (a : Bool) (e : Ex) (c : Cn) (i : Jd) → Verdict G e i → Verdict G (node p a (without e c)) (of_operation cuts G p (place_of e) c i)
without_told G p a e c i v = operation_told cuts G p a e c i (judged_at G.kinds c (kind_for cuts)) (kind_is G c (kind_for cuts)) v

-- e --- c
pub without_row_told : (G : Sc) (p : Place) (a : Bool) (e : Ex) (c : Cn) (i : Jd) → Verdict G e i → Verdict G (node p a (without_row e c)) (of_operation cuts_row G p (place_of e) c i)
without_row_told G p a e c i v = operation_told cuts_row G p a e c i (judged_at G.kinds c (kind_for cuts_row)) (kind_is G c (kind_for cuts_row)) v
