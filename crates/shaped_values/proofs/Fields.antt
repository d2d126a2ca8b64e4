-- The value and the shape of a record's field.
use Rattle.std.proofs.Common.{◌≡◌, ℕ, Bool, true, false, ◌&&◌, List, [], ◌∷◌, ◌++◌, Option, Some, None, if◌then◌else◌, refl, ap, sym, subst, ◌∙◌, ◌⊎◌, inl, inr}
use Rattle.std.specs.List.{AllByRecursion}
use Rattle.con_terms.specs.Trees.{Kd, types, Cn, var, basic, arrow, poly, guarded, record_of, app, lambda, unit_con, name, row, cat, map_of, tuple, proj, Prs, no_pairs, pair}
use Rattle.con_terms.specs.Same.{kd_eq}
use Rattle.row_normal.specs.NormalForm.{nf}
use Rattle.row_normal.specs.Ordered.{ordered_pieces}
use Rattle.row_normal.specs.Pieces.{written_fields, written_pieces}
use Rattle.row_normal.specs.SameTree.{cn_eq}
use Rattle.row_normal.proofs.NormalPieces.{fields_are_in_order}
use Rattle.row_normal.proofs.NormalStays.{nf_stays}
use Rattle.row_normal.proofs.Options.{both_from}
use Rattle.row_normal.proofs.SameTrees.{cn_eq_same, cn_eq_refl}
use Rattle.kind_rules.specs.Compared.{comparison_units}
use Rattle.core_terms.specs.Trees.{Dt}
use Rattle.core_typing.specs.Scopes.{normal_of}
use Rattle.core_typing.proofs.Normal.{normal_from}
use Rattle.core_typing.specs.Compared.{value_of, field_or, field_of}
use Rattle.core_typing.specs.Cover as cover
use Rattle.core_typing.specs.Cover.{Shp, Shf, ShapeOf, ShapesOf, shape_at}
use Rattle.core_typing.specs.Seen.{named_pairs, named_fields}
use Rattle.core_meaning.specs.Values.{V, Slots, slot_at}
use Rattle.shaped_values.specs.Values.{IsName, NoneNamed, IsOf, AreOf, no_field, one_field, HasShape, HaveShapes, none_have, field_has}
use Rattle.shaped_values.proofs.Names.{one_symbol, some_is}

-- a field is one of these
abbrev pub Among : List (Cn × Cn) → Cn → Cn → Type 0
Among [] n t = ⊥
Among ((m, u) ∷ fs) n t = ((m ≡ n) × (u ≡ t)) ⊎ Among fs n t

among_left : (fs gs : List (Cn × Cn)) (n t : Cn) → Among fs n t → Among (fs ++ gs) n t
among_left [] gs n t h = absurd h
among_left ((m, u) ∷ fs) gs n t (inl h) = inl h
among_left ((m, u) ∷ fs) gs n t (inr h) = inr (among_left fs gs n t h)

among_right : (fs gs : List (Cn × Cn)) (n t : Cn) → Among gs n t → Among (fs ++ gs) n t
among_right [] gs n t h = h
among_right ((m, u) ∷ fs) gs n t h = inr (among_right fs gs n t h)

-- the fields that pieces are stand among these
abbrev pub AllIn : List (Cn × Cn) → List Cn → Type 0
AllIn fs ps = AllByRecursion (λ p. (n t : Cn) → value_of n p ≡ Some t → Among fs n t) ps

all_in : (fs gs : List (Cn × Cn)) (ps : List Cn) → ((n t : Cn) → Among fs n t → Among gs n t) → AllIn fs ps → AllIn gs ps
all_in fs gs [] f h = tt
all_in fs gs (p ∷ ps) f (h, hs) = ((λ n t e. f n t (h n t e)), all_in fs gs ps f hs)

both_in : (fs : List (Cn × Cn)) (ps qs : List Cn) → AllIn fs ps → AllIn fs qs → AllIn fs (ps ++ qs)
both_in fs [] qs h g = g
both_in fs (p ∷ ps) qs (h, hs) g = (h, both_in fs ps qs hs g)

-- a field of a literal
by_name : (k : Kd) (m v n t : Cn) (b : Bool) → (kd_eq k types && cn_eq m n) ≡ b → (if b then Some v else None) ≡ Some t → (m ≡ n) × (v ≡ t)
by_name k m v n t true h e = (cn_eq_same m n (both_from (kd_eq k types) (cn_eq m n) h).1, some_is e)
by_name k m v n t false h e = cc

fields_in : (k : Kd) (ps : Prs) → AllIn (named_pairs ps) (written_fields k ps)
fields_in k no_pairs = tt
fields_in k (pair m v ps) = (
  (λ n t e. inl (by_name k m v n t (kd_eq k types && cn_eq m n) refl e)),
  all_in (named_pairs ps) ((m, v) ∷ named_pairs ps) (written_fields k ps) (λ n t h. inr h) (fields_in k ps),
)

no_field_of : {P : Type 0} {t : Cn} → ◌≡◌ {A = Option Cn} None (Some t) → P
no_field_of e = cc

pub pieces_in : (r : Cn) → AllIn (named_fields r) (written_pieces r)
pieces_in (row k ps) = fields_in k ps
pieces_in (cat a b) =
    both_in (named_fields a ++ named_fields b) (written_pieces a) (written_pieces b)
    (all_in (named_fields a) (named_fields a ++ named_fields b) (written_pieces a) (among_left (named_fields a) (named_fields b)) (pieces_in a))
    (all_in (named_fields b) (named_fields a ++ named_fields b) (written_pieces b) (among_right (named_fields a) (named_fields b)) (pieces_in b))
pieces_in (var i) = ((λ n t e. no_field_of e), tt)
pieces_in (basic s) = ((λ n t e. no_field_of e), tt)
pieces_in (arrow a b) = ((λ n t e. no_field_of e), tt)
pieces_in (poly x k b) = ((λ n t e. no_field_of e), tt)
pieces_in (guarded a b c) = ((λ n t e. no_field_of e), tt)
pieces_in (record_of a) = ((λ n t e. no_field_of e), tt)
pieces_in (app a b) = ((λ n t e. no_field_of e), tt)
pieces_in (lambda k b) = ((λ n t e. no_field_of e), tt)
pieces_in unit_con = ((λ n t e. no_field_of e), tt)
pieces_in (name s) = ((λ n t e. no_field_of e), tt)
pieces_in (map_of k l) = ((λ n t e. no_field_of e), tt)
pieces_in (tuple cs) = ((λ n t e. no_field_of e), tt)
pieces_in (proj a i) = ((λ n t e. no_field_of e), tt)

-- so do those of a record's type in normal form
pub record_pieces_in : (t r : Cn) → normal_of t ≡ Some (record_of r) → AllIn (named_fields r) (ordered_pieces r)
record_pieces_in t r e =
    let (l, f) = normal_from (nf comparison_units t) (record_of r) e in
    let order = fields_are_in_order r (nf_stays comparison_units l t (record_of r) f) in
    subst (AllIn (named_fields r)) order.0 (pieces_in r)

-- a field that is found among pieces, and those that are left
pair_is : {x y : Cn × List Cn} → Some x ≡ Some y → x ≡ y
pair_is e = cc

field_by : (fs : List (Cn × Cn)) (n t : Cn) (p : Cn) (ps qs : List Cn) (o : Option Cn) (w : Option (Cn × List Cn)) → value_of n p ≡ o
    → ((n t : Cn) → value_of n p ≡ Some t → Among fs n t) → AllIn fs ps
    → ((rs : List Cn) → w ≡ Some (t, rs) → Among fs n t × AllIn fs rs) → field_or o p ps w ≡ Some (t, qs) → Among fs n t × AllIn fs qs
field_by fs n t p ps qs (Some v) w i h hs go e =
    let is = pair_is {x = (v, ps)} {y = (t, qs)} e in
    (h n t (i ∙ ap (λ (z : Cn × List Cn). Some z.0) is), subst (AllIn fs) (ap (λ (z : Cn × List Cn). z.1) is) hs)
field_by fs n t p ps qs None None i h hs go e = cc
field_by fs n t p ps qs None (Some (v, rs)) i h hs go e =
    let is = pair_is {x = (v, p ∷ rs)} {y = (t, qs)} e in
    let (a, b) = go rs (ap (λ (z : Cn × List Cn). Some (z.0, rs)) is) in
    (a, subst (AllIn fs) (ap (λ (z : Cn × List Cn). z.1) is) (h, b))

pub field_in : (fs : List (Cn × Cn)) (n t : Cn) (ps qs : List Cn) → AllIn fs ps → field_of n ps ≡ Some (t, qs) → Among fs n t × AllIn fs qs
field_in fs n t [] qs h e = cc
field_in fs n t (p ∷ ps) qs (h, hs) e =
    field_by fs n t p ps qs (value_of n p) (field_of n ps) refl h hs (λ rs g. field_in fs n t ps rs hs g) e

-- what a value has at a field, with the shape that stands there
pub record AtField (ds : List Dt) (cs : List Cn) (d : ℕ) (vs : Slots) (n t : Cn) (s : Shp) : Type 0 where
  pub symbol : ℕ
  pub value : V
  pub named : IsName cs n symbol
  pub stands : slot_at vs symbol ≡ Some value
  pub is : IsOf ds cs d t value
  pub shape : ShapeOf ds d t s
  pub has : HasShape cs value s

not_named : (cs : List Cn) (fs : List (Cn × Cn)) (x : ℕ) (n t : Cn) → NoneNamed cs x fs → IsName cs n x → Among fs n t → ⊥
not_named cs [] x n t h i a = absurd a
not_named cs ((m, u) ∷ fs) x n t (h, hs) i (inl (e, g)) = h (subst (λ c. IsName cs c x) (sym e) i)
not_named cs ((m, u) ∷ fs) x n t (h, hs) i (inr a) = not_named cs fs x n t hs i a

same_value : (vs : Slots) {x y : ℕ} {v u : V} → slot_at vs x ≡ Some v → slot_at vs y ≡ Some u → x ≡ y → v ≡ u
same_value vs e f q = some_is (sym e ∙ ap (slot_at vs) q ∙ f)

pub at_field : {ds : List Dt} {cs : List Cn} {d : ℕ} {fs : List (Cn × Cn)} {vs : Slots} {ss : Shf} (n t : Cn) → AreOf ds cs d fs vs → ShapesOf ds d fs ss → HaveShapes cs vs ss
    → Among fs n t → AtField ds cs d vs n t (shape_at ss n)
at_field {ds} {cs} {d} {vs = vs} n t (one_field {n = m} {t = u} {x = x} {v = v} {fs = fs} i none e h r) (cover.of_field {s = s} {ss = ss} is are) (field_has {x = y} {v = w} j f has have) a = by_test (λ b. at_field n t r are have b) (cn_eq m n) refl a
  where
    by_test : (Among fs n t → AtField ds cs d vs n t (shape_at ss n)) → (b : Bool) → cn_eq m n ≡ b → ((m ≡ n) × (u ≡ t)) ⊎ Among fs n t → AtField ds cs d vs n t (if b then s else shape_at ss n)
    by_test go true q (inl (same, type)) = record {
      symbol = x;
      value = v;
      named = subst (λ c. IsName cs c x) same i;
      stands = e;
      is = subst (λ c. IsOf ds cs d c v) type h;
      shape = subst (λ c. ShapeOf ds d c s) type is;
      has = subst (λ z. HasShape cs z s) (same_value vs f e (one_symbol j i)) has;
    }
    by_test go true q (inr b) = absurd (not_named cs fs x n t none (subst (λ c. IsName cs c x) (cn_eq_same m n q) i) b)
    by_test go false q (inl (same, type)) = (let z : true ≡ false = sym (cn_eq_refl m) ∙ ap (cn_eq m) same ∙ q in cc)
    by_test go false q (inr b) = go b
at_field n t no_field cover.of_no_fields none_have a = absurd a
