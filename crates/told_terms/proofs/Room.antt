-- A type that has a normal form is never nested deeper than there is room for, so that what links carry is told to be
-- carried.
use Rattle.std.proofs.Common.{◌≡◌, ℕ, zero, suc, ◌<◌, ◌≤◌, max, Bool, true, false, not, ◌&&◌, ◌||◌, List, [], ◌∷◌, Option, Some, None, if◌then◌else◌, refl, ap, sym, ◌∙◌, subst, arith}
use Rattle.std.proofs.lemmas.Bool.{not-true as not_true}
use Rattle.con_terms.specs.Trees.{Kd, types, Cn, var, basic, record_of, app, row, Prs, no_pairs, pair}
use Rattle.con_terms.specs.Same.{kd_eq}
use Rattle.con_terms.specs.Size.{depth, depth_pairs}
use Rattle.row_normal.specs.Steps.{deeper}
use Rattle.row_normal.specs.StepLeft.{has_step, has_step_pairs}
use Rattle.row_normal.specs.Contracted.{has_eta, has_eta_pairs}
use Rattle.row_normal.specs.Ordered.{ordered, field_pieces}
use Rattle.row_normal.specs.Pieces.{written_fields}
use Rattle.row_normal.specs.SameTree.{cn_eq}
use Rattle.row_normal.specs.NormalForm.{is_normal, limit, nf}
use Rattle.row_normal.proofs.Options.{both_from, neither_from}
use Rattle.row_normal.proofs.Contexts.{shallow}
use Rattle.row_normal.proofs.Leaving.{some_depth}
use Rattle.row_normal.proofs.SameTrees.{cn_eq_same, cn_eq_refl}
use Rattle.row_normal.proofs.NormalStays.{normal_told, told_normal, four}
use Rattle.row_normal.proofs.PiecesWritten.{written_in_order}
use Rattle.kind_rules.specs.Compared.{comparison_units}
use Rattle.core_terms.specs.Trees.{Dt}
use Rattle.core_terms.specs.Types.{at_types}
use Rattle.core_typing.specs.Scopes.{normal_of}
use Rattle.core_typing.specs.Seen.{Seen, a_number, a_text, a_datatype, a_record, nothing_more, seen}
use Rattle.core_typing.specs.Carried.{Carried}
use Rattle.core_typing.proofs.Matched.{seen_as}
use Rattle.core_typing.proofs.Normal.{normal_from}
use Rattle.core_typing.proofs.LeftOver.{inside}
use Rattle.carried_types.specs.Built.{is_carrier, both, all_by, is_name, field_by, fields_by, row_by, seen_by, normal_by, type_by, built, nested, or_no, can_carry}
use Rattle.carried_types.specs.Carriers.{AreCarriers}
use Rattle.carried_types.proofs.Marks.{carried_decided}
use Rattle.carried_types.proofs.BuiltMeans.{built_more}
use Rattle.markup_rules.proofs.Basics.{some_none}

-- no step, no eta redex and no row out of order is left, and it isn't deeper than this
pub record Fine (room : ℕ) (n : Cn) : Type 0 where
  pub ended : has_step n ≡ false
  pub no_eta : has_eta n ≡ false
  pub order : ordered n ≡ n
  pub fits : depth n ≤ room

within : (n : Cn) → deeper limit n ≡ false → depth n ≤ limit
within n h = grind (arith, h)

by_walks : (n : Cn) → is_normal n ≡ true → Fine limit n
by_walks n h =
    let (a, r) = both_from (not (has_step n)) (not (has_eta n) && (cn_eq (ordered n) n && not (deeper limit n))) h in
    let (b, q) = both_from (not (has_eta n)) (cn_eq (ordered n) n && not (deeper limit n)) r in
    let (o, d) = both_from (cn_eq (ordered n) n) (not (deeper limit n)) q in
    record {
      ended = not_true (has_step n) a;
      no_eta = not_true (has_eta n) b;
      order = cn_eq_same (ordered n) n o;
      fits = within n (not_true (deeper limit n) d);
    }

-- a normal form is so
pub normal_fine : (t n : Cn) → normal_of t ≡ Some n → Fine limit n
normal_fine t n h = let (l, e) = normal_from (nf comparison_units t) n h in by_walks n (normal_told comparison_units l t n e)

some_units : 0 < comparison_units
unfolding comparison_units
some_units = omega arith

normal_at : (o : Option (Cn × ℕ)) (n : Cn) (m : ℕ) → o ≡ Some (n, m) → elim o [ None ↦ None | Some r ↦ Some r.0 ] ≡ Some n
normal_at o n m h = ap (λ (z : Option (Cn × ℕ)). elim z [ None ↦ None | Some r ↦ Some r.0 ]) h

-- and such a constructor is its own normal form
fine_normal : {n : Cn} → Fine limit n → normal_of n ≡ Some n
fine_normal {n} f =
    let h : is_normal n ≡ true =
    four (has_step n) (has_eta n) (cn_eq (ordered n) n) (deeper limit n) f.ended f.no_eta (ap (λ m. cn_eq m n) f.order ∙ cn_eq_refl n) (shallow limit n f.fits) in
    normal_at (nf comparison_units n) n comparison_units (told_normal n h comparison_units some_units)

looser : {r s : ℕ} {n : Cn} → r ≤ s → Fine r n → Fine s n
looser {r} {s} {n} l f = record { ended = f.ended; no_eta = f.no_eta; order = f.order; fits = let h = f.fits in omega (arith, l, h) }

-- what a record is of
record_part : {r : ℕ} {a : Cn} → Fine (suc r) (record_of a) → Fine r a
record_part {r} {a} f = record {
  ended = f.ended;
  no_eta = f.no_eta;
  order = inside f.order;
  fits = let h : suc (depth a) ≤ suc r = f.fits in omega (arith, h);
}

-- a function and its argument
function_in : {a b c d : Cn} → app a b ≡ app c d → a ≡ c
function_in h = cc

argument_in : {a b c d : Cn} → app a b ≡ app c d → b ≡ d
argument_in h = cc

applied_parts : {r : ℕ} (a b : Cn) → Fine (suc r) (app a b) → Fine (suc r) a × Fine r b
applied_parts {r} a b f =
    let (x, y) = neither_from _ (has_step a || has_step b) f.ended in
    let (s, t) = neither_from (has_step a) (has_step b) y in
    let (i, j) = neither_from (has_eta a) (has_eta b) f.no_eta in
    let d : suc (max (depth a) (depth b)) ≤ suc r = f.fits in (
      record { ended = s; no_eta = i; order = function_in f.order; fits = omega (arith, d) },
      record { ended = t; no_eta = j; order = argument_in f.order; fits = omega (arith, d) },
    )

abbrev AllFine : ℕ → List Cn → Type 0
AllFine r [] = Unit {0}
AllFine r (t ∷ ts) = Fine r t × AllFine r ts

types_fine : {r : ℕ} (c : Cn) (xs : List Cn) → Fine (suc r) (at_types c xs) → Fine (suc r) c × AllFine r xs
types_fine c [] f = (f, tt)
types_fine {r} c (x ∷ xs) f =
    let (g, h) = types_fine {r = r} (app c x) xs f in
    let (i, j) = applied_parts c x g in
    (i, (j, h))

-- the fields of a literal
abbrev FieldsFine : ℕ → Prs → Type 0
FieldsFine r no_pairs = Unit {0}
FieldsFine r (pair n v ps) = Fine r v × FieldsFine r ps

first_in : {k : Kd} {n v m w : Cn} {xs ys : List Cn} → row k (pair n v no_pairs) ∷ xs ≡ row k (pair m w no_pairs) ∷ ys → w ≡ v
first_in h = cc

rest_in : {x y : Cn} {xs ys : List Cn} → x ∷ xs ≡ y ∷ ys → xs ≡ ys
rest_in h = cc

pairs_fine : {r : ℕ} (k : Kd) (ps : Prs) → has_step_pairs ps ≡ false → has_eta_pairs ps ≡ false → written_fields k ps ≡ field_pieces k ps → depth_pairs ps ≤ r → FieldsFine r ps
pairs_fine k no_pairs s e o d = tt
pairs_fine {r} k (pair n v ps) s e o d =
    let (x, y) = neither_from (has_step n) (has_step v || has_step_pairs ps) s in
    let (i, j) = neither_from (has_step v) (has_step_pairs ps) y in
    let (z, w) = neither_from (has_eta n) (has_eta v || has_eta_pairs ps) e in
    let (l, m) = neither_from (has_eta v) (has_eta_pairs ps) w in
    let b : max (depth n) (max (depth v) (depth_pairs ps)) ≤ r = d in (
      record { ended = i; no_eta = l; order = first_in o; fits = omega (arith, b) },
      pairs_fine k ps j m (rest_in o) (omega (arith, b)),
    )

row_part : {r : ℕ} (k : Kd) (ps : Prs) → Fine (suc r) (row k ps) → FieldsFine r ps
row_part {r} k ps f =
    let d = f.fits in
    pairs_fine k ps f.ended f.no_eta (written_in_order (row k ps) f.order).0 (omega (arith, d))

-- an answer is given
abbrev Answers : ℕ → (Cn → Option Bool) → Type 0
Answers r f = (t : Cn) → Fine r t → f t ≡ None → ⊥

both_none : (a b : Option Bool) → both a b ≡ None → (a ≡ None → ⊥) → (b ≡ None → ⊥) → ⊥
both_none None b h f g = f refl
both_none (Some false) b h f g = some_none h
both_none (Some true) b h f g = g h

if_none : (b : Bool) (o : Option Bool) → (if b then o else Some false) ≡ None → (o ≡ None → ⊥) → ⊥
if_none true o h f = f h
if_none false o h f = some_none h

all_answer : (r : ℕ) (f : Cn → Option Bool) → Answers r f → (ts : List Cn) → AllFine r ts → all_by f ts ≡ None → ⊥
all_answer r f g [] x h = some_none h
all_answer r f g (t ∷ ts) x h = both_none (f t) (all_by f ts) h (λ e. g t x.0 e) (λ e. all_answer r f g ts x.1 e)

fields_answer : (r : ℕ) (f : Cn → Option Bool) → Answers r f → (ps : Prs) → FieldsFine r ps → fields_by f ps ≡ None → ⊥
fields_answer r f g no_pairs x h = some_none h
fields_answer r f g (pair n v ps) x h =
    both_none (field_by f n v) (fields_by f ps) h (λ e. if_none (is_name n) (f v) e (λ i. g v x.0 i)) (λ e. fields_answer r f g ps x.1 e)

row_answer : (r : ℕ) (f : Cn → Option Bool) → Answers r f → (c : Cn) → Fine (suc r) c → row_by f c ≡ None → ⊥
row_answer r f g (row k ps) x h = if_none (kd_eq k types) (fields_by f ps) h (λ e. fields_answer r f g ps (row_part k ps x) e)
row_answer r f g _ x h = some_none h

seen_answer : (r : ℕ) (f : Cn → Option Bool) (ds : List Dt) (bs : List Bool) → Answers r f → (n : Cn) → Fine (suc r) n → (w : Seen) → seen ds n ≡ w → seen_by f ds bs w ≡ None → ⊥
seen_answer r f ds bs g n x a_number e h = some_none h
seen_answer r f ds bs g n x a_text e h = some_none h
seen_answer r f ds bs g n x (a_datatype d args) e h =
    let s = seen_as ds n [] d args e in
    let y = types_fine {r = r} (basic s.symbol) args (subst (λ z. Fine (suc r) z) s.applied x) in
    if_none (is_carrier ds bs d.symbol) (all_by f args) h (λ i. all_answer r f g args y.1 i)
seen_answer r f ds bs g n x (a_record fs) e h = some_none h
seen_answer r f ds bs g n x nothing_more e h = some_none h

normal_answer : (r : ℕ) (f : Cn → Option Bool) (ds : List Dt) (bs : List Bool) (k : ℕ) → Answers r f → (n : Cn) → Fine (suc r) n → normal_by f ds bs k n ≡ None → ⊥
normal_answer r f ds bs k g (var i) x h = some_none h
normal_answer r f ds bs k g (record_of c) x h = row_answer r f g c (looser (let i : r ≤ suc r = omega arith in i) (record_part x)) h
normal_answer r f ds bs k g n x h = seen_answer r f ds bs g n x (seen ds n) refl h

-- of a normal form, where the room is no less than it is deep
built_answer : (r : ℕ) (ds : List Dt) (bs : List Bool) (k : ℕ) → r ≤ limit → Answers r (built r ds bs k)
built_answer zero ds bs k l t f h = let d = some_depth t in let e = f.fits in omega (arith, d, e)
built_answer (suc r) ds bs k l t f h =
    normal_answer r (built r ds bs k) ds bs k (built_answer r ds bs k (omega (arith, l))) t f
    (ap (type_by (built r ds bs k) ds bs k) (sym (fine_normal (looser l f))) ∙ sym (built_more r ds bs k t) ∙ h)

by_form : (r : ℕ) (ds : List Dt) (bs : List Bool) (k : ℕ) (t : Cn) → suc r ≡ limit → (o : Option Cn) → normal_of t ≡ o → type_by (built r ds bs k) ds bs k o ≡ None → ⊥
by_form r ds bs k t l None e h = some_none h
by_form r ds bs k t l (Some n) e h =
    normal_answer r (built r ds bs k) ds bs k (built_answer r ds bs k (omega (arith, l))) n (subst (λ z. Fine z n) (sym l) (normal_fine t n e)) h

all_room : (room : ℕ) (ds : List Dt) (bs : List Bool) (k : ℕ) (t : Cn) → room ≡ limit → built room ds bs k t ≡ None → ⊥
all_room zero ds bs k t l h = omega (arith, l)
all_room (suc r) ds bs k t l h = by_form r ds bs k t l (normal_of t) refl (sym (built_more r ds bs k t) ∙ h)

-- the room doesn't end
pub room_enough : (ds : List Dt) (bs : List Bool) (k : ℕ) (t : Cn) → built nested ds bs k t ≡ None → ⊥
room_enough ds bs k t h = all_room nested ds bs k t refl h

by_answer : (ds : List Dt) (bs : List Bool) (t : Cn) (o : Option Bool) → AreCarriers ds bs → built nested ds bs 0 t ≡ o → Carried ds t → or_no o ≡ true
by_answer ds bs t None a e c = absurd (room_enough ds bs 0 t e)
by_answer ds bs t (Some b) a e c = (carried_decided ds bs t b e a).1 c

-- what links carry is told to be carried
pub carried_told : (ds : List Dt) (bs : List Bool) (t : Cn) → AreCarriers ds bs → Carried ds t → can_carry ds bs t ≡ true
carried_told ds bs t a c = by_answer ds bs t (built nested ds bs 0 t) a refl c
