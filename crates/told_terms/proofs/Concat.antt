-- What is told of two records side by side: e ++ d.
use Rattle.std.proofs.Common.{◌≡◌, Bool, Option, Some, None, refl, ap, ◌∙◌, subst}
use Rattle.con_terms.specs.Trees.{Cn, record_of}
use Rattle.con_terms.specs.declared.place.Place.{Place}
use Rattle.core_terms.specs.Trees.{Ex, node, concat}
use Rattle.core_typing.specs.Scopes.{Sc, normal_of}
use Rattle.core_typing.specs.Faults.{Fault}
use Rattle.core_typing.specs.Found.{Found, concat_has}
use Rattle.core_typing.specs.Own.{place_of, Own, Meets}
use Rattle.core_typing.specs.Own as own
use Rattle.core_typing.specs.Tells.{Sub, left, right}
use Rattle.core_typing.proofs.DecidedForms.{none_some}
use Rattle.core_typing.proofs.OneType.{one_value, one_record, one_found}
use Rattle.told_faults.specs.Computed.{Jd, first}
use Rattle.told_faults.specs.Heads.{Rec, a_record, no_rec}
use Rattle.told_faults.specs.Told.{TypeIs, Verdict, Picks, Or, or_first, or_second, Either, in_first, in_second, Only, only}
use Rattle.told_faults.proofs.Heads.{record_view}
use Rattle.told_faults.proofs.Verdict.{picks_two, picks_as}
use Rattle.node_rules.specs.Records.{record_told, unless_meet, of_rows, row_of_form, row_of_type, of_concat}
use Rattle.told_terms.proofs.Verdicts.{two_parts}
use Rattle.told_terms.proofs.Meets.{NoRecord, picks_no_record, AreApart, they_are, they_meet, are_apart, meets_out, meets_picked}

-- a term is a record of a row, or it isn't any
pub data HasRow (G : Sc) (e : Ex) : Option Cn → Type 0 where
  a_row : {t r : Cn}
      → Found G e t
      → normal_of t ≡ Some (record_of r)
      → HasRow G e (Some r)
  no_row : ((t r : Cn) → Found G e t → normal_of t ≡ Some (record_of r) → ⊥) → HasRow G e None

row_by : (G : Sc) (e : Ex) (t : Cn) {n : Cn} {s : Option Cn} → Found G e t → normal_of t ≡ Some n → Rec n s → HasRow G e s
row_by G e t h i (a_record r) = a_row h i
row_by G e t h i (no_rec x) = no_row none
  where
    none : (u r : Cn) → Found G e u → normal_of u ≡ Some (record_of r) → ⊥
    none u r k m = x (r, one_value i (ap normal_of (one_found h k) ∙ m))

row_of_found : (G : Sc) (e : Ex) (t : Cn) (n : Option Cn) → Found G e t → normal_of t ≡ n → HasRow G e (row_of_form n)
row_of_found G e t None h i = no_row (λ u r k m. none_some i (ap normal_of (one_found h k) ∙ m))
row_of_found G e t (Some n) h i = row_by G e t h i (record_view n)

pub row_found : (G : Sc) (e : Ex) (o : Option Cn) → TypeIs G e o → HasRow G e (row_of_type o)
row_found G e None v = no_row (λ u r k m. v u k)
row_found G e (Some t) v = row_of_found G e t (normal_of t) v refl

-- both are records, with these rows
pub record BothRows (G : Sc) (e d : Ex) (r s : Cn) : Type 0 where
  pub left_type : Cn
  pub right_type : Cn
  pub left_found : Found G e left_type
  pub right_found : Found G d right_type
  pub left_row : normal_of left_type ≡ Some (record_of r)
  pub right_row : normal_of right_type ≡ Some (record_of s)

left_rows : {G : Sc} {e d : Ex} {r s x y : Cn} → BothRows G e d r s → BothRows G e d x y → r ≡ x
left_rows b c = one_record b.left_row (ap normal_of (one_found b.left_found c.left_found) ∙ c.left_row)

right_rows : {G : Sc} {e d : Ex} {r s x y : Cn} → BothRows G e d r s → BothRows G e d x y → s ≡ y
right_rows b c = one_record b.right_row (ap normal_of (one_found b.right_found c.right_found) ∙ c.right_row)

-- what the two have at fault together
pub record Clash (G : Sc) (p : Place) (e d : Ex) (f : Fault) : Type 0 where
  pub left_one : Cn
  pub right_one : Cn
  pub rows : BothRows G e d left_one right_one
  pub meet : Meets G p left_one right_one f

clash_at : {G : Sc} {p : Place} {e d : Ex} {r s : Cn} {f : Fault} → BothRows G e d r s → Clash G p e d f → Meets G p r s f
clash_at {G} {p} {r = r} {s = s} {f = f} b c =
    subst (λ z. Meets G p z s f) (left_rows c.rows b) (subst (λ z. Meets G p c.left_one z f) (right_rows c.rows b) c.meet)

-- its type
apart_type : (G : Sc) (p : Place) (a : Bool) (e d : Ex) (r s : Cn) {o : Option Fault} → BothRows G e d r s → AreApart G p r s o → TypeIs G (node p a (concat e d)) (unless_meet r s o).type
apart_type G p a e d r s b (they_are x) = concat_has b.left_found b.right_found b.left_row b.right_row x
apart_type G p a e d r s b (they_meet {f = f} x) = none
  where
    clash : (z y : Cn) → r ≡ z → s ≡ y → Meets G p z y f
    clash z y i j = subst (λ k. Meets G p k y f) i (subst (λ k. Meets G p r k f) j x)

    none : (t : Cn) → Found G (node p a (concat e d)) t → ⊥
    none t (concat_has {t = u} {u = w} {r = z} {s = y} h k i j n) =
        let c : BothRows G e d z y = record { left_type = u; right_type = w; left_found = h; right_found = k; left_row = i; right_row = j } in
        meets_out n (clash z y (left_rows b c) (right_rows b c))

rows_type : (G : Sc) (p : Place) (a : Bool) (e d : Ex) {x y : Option Cn} → HasRow G e x → HasRow G d y → TypeIs G (node p a (concat e d)) (of_rows G p x y).type
rows_type G p a e d (no_row x) r = none
  where
    none : (t : Cn) → Found G (node p a (concat e d)) t → ⊥
    none t (concat_has {t = u} {r = z} h k i j n) = x u z h i
rows_type G p a e d (a_row h i) (no_row x) = none
  where
    none : (t : Cn) → Found G (node p a (concat e d)) t → ⊥
    none t (concat_has {u = w} {s = y} g k m j n) = x w y k j
rows_type G p a e d (a_row {t = t} {r = r} h i) (a_row {t = u} {r = s} k j) =
    apart_type G p a e d r s (record { left_type = t; right_type = u; left_found = h; right_found = k; left_row = i; right_row = j }) (are_apart G p r s)

-- what it has at fault itself
rows_picked : (G : Sc) (p : Place) (e d : Ex) (r s : Cn) {o : Option Fault} → BothRows G e d r s → AreApart G p r s o → Picks (Clash G p e d) (unless_meet r s o).own
rows_picked G p e d r s b (they_are x) = λ f c. meets_out x (clash_at b c)
rows_picked G p e d r s b (they_meet {f = f} x) = picks_as (Meets G p r s) (Clash G p e d) (Some f) there back (meets_picked (they_meet x))
  where
    there : (g : Fault) → Meets G p r s g → Clash G p e d g
    there g y = record { left_one = r; right_one = s; rows = b; meet = y }

    back : (g : Fault) → Clash G p e d g → Meets G p r s g
    back g c = clash_at b c

picks_clash : (G : Sc) (p : Place) (e d : Ex) {x y : Option Cn} → HasRow G e x → HasRow G d y → Picks (Clash G p e d) (of_rows G p x y).own
picks_clash G p e d (no_row x) r = λ f c. x c.rows.left_type c.left_one c.rows.left_found c.rows.left_row
picks_clash G p e d (a_row h i) (no_row x) = λ f c. x c.rows.right_type c.right_one c.rows.right_found c.rows.right_row
picks_clash G p e d (a_row {t = t} {r = r} h i) (a_row {t = u} {r = s} k j) =
    rows_picked G p e d r s (record { left_type = t; right_type = u; left_found = h; right_found = k; left_row = i; right_row = j }) (are_apart G p r s)

abbrev Faulty : Sc → Place → Ex → Ex → Fault → Type 0
Faulty G p e d = Or (NoRecord G (place_of e) e) (Or (NoRecord G (place_of d) d) (Clash G p e d))

faulty_there : (G : Sc) (p : Place) (a : Bool) (e d : Ex) (f : Fault) → Own G (node p a (concat e d)) f → Faulty G p e d f
faulty_there G p a e d f (own.left_no_record {t = t} h x) = or_first (t, h, x)
faulty_there G p a e d f (own.right_no_record {t = t} h x) = or_second (or_first (t, h, x))
faulty_there G p a e d f (own.clash {t = t} {u = u} {r = r} {s = s} h k i j x) =
    or_second (or_second (record {
      left_one = r;
      right_one = s;
      rows = record { left_type = t; right_type = u; left_found = h; right_found = k; left_row = i; right_row = j };
      meet = x;
    }))

faulty_back : (G : Sc) (p : Place) (a : Bool) (e d : Ex) (f : Fault) → Faulty G p e d f → Own G (node p a (concat e d)) f
faulty_back G p a e d f (or_first (t, h, x)) = own.left_no_record h x
faulty_back G p a e d f (or_second (or_first (t, h, x))) = own.right_no_record h x
faulty_back G p a e d f (or_second (or_second c)) =
    own.clash c.rows.left_found c.rows.right_found c.rows.left_row c.rows.right_row c.meet

concat_own : (G : Sc) (p : Place) (a : Bool) (e d : Ex) (s t : Option Cn) → TypeIs G e s → TypeIs G d t → Picks (Own G (node p a (concat e d))) (first (record_told G (place_of e) s) (first (record_told G (place_of d) t) (of_rows G p (row_of_type s) (row_of_type t)).own))
concat_own G p a e d s t v w = picks_as (Faulty G p e d) (Own G (node p a (concat e d))) (first (record_told G (place_of e) s) (first (record_told G (place_of d) t) (of_rows G p (row_of_type s) (row_of_type t)).own)) (faulty_back G p a e d) (faulty_there G p a e d) all
  where
    second : Picks (Or (NoRecord G (place_of d) d) (Clash G p e d)) (first (record_told G (place_of d) t) (of_rows G p (row_of_type s) (row_of_type t)).own)
    second = picks_two (NoRecord G (place_of d) d) (Clash G p e d) (record_told G (place_of d) t) (of_rows G p (row_of_type s) (row_of_type t)).own (picks_no_record G (place_of d) d t w) (picks_clash G p e d (row_found G e s v) (row_found G d t w))

    all : Picks (Faulty G p e d) (first (record_told G (place_of e) s) (first (record_told G (place_of d) t) (of_rows G p (row_of_type s) (row_of_type t)).own))
    all = picks_two (NoRecord G (place_of e) e) (Or (NoRecord G (place_of d) d) (Clash G p e d)) (record_told G (place_of e) s) (first (record_told G (place_of d) t) (of_rows G p (row_of_type s) (row_of_type t)).own) (picks_no_record G (place_of e) e s v) second

-- its parts
parts_are : (G : Sc) (p : Place) (a : Bool) (e d : Ex) (H : Sc) (c : Ex) → Sub G (node p a (concat e d)) H c → Either (Only G e) (Only G d) H c
parts_are G p a e d H c left = in_first only
parts_are G p a e d H c right = in_second only

-- e ++ d
pub concat_told : (G : Sc) (p : Place) (a : Bool) (e d : Ex) (i k : Jd) → Verdict G e i → Verdict G d k → Verdict G (node p a (concat e d)) (of_concat G p (place_of e) (place_of d) i k)
concat_told G p a e d i k v w =
    two_parts G (node p a (concat e d)) G G e d i k (of_rows G p (row_of_type i.type) (row_of_type k.type)).type
    (first (record_told G (place_of e) i.type) (first (record_told G (place_of d) k.type) (of_rows G p (row_of_type i.type) (row_of_type k.type)).own))
    v w left right (parts_are G p a e d)
    (rows_type G p a e d (row_found G e i.type v.type) (row_found G d k.type w.type))
    (concat_own G p a e d i.type k.type v.type w.type)
