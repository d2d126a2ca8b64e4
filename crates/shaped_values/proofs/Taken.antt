-- A pattern takes a value where it takes its shape.
use Rattle.std.proofs.Common.{◌≡◌, ℕ, zero, suc, max, ◌≤◌, ◌==◌, ℤ, Bool, true, false, ◌&&◌, List, ◌++◌, Some, None, slice_get, if◌then◌else◌, refl, ap, sym, subst, ◌∙◌, arith, ◌⊎◌, inl, inr}
use Rattle.std.specs.Prelude.{bytes_eq}
use Rattle.std.specs.Ordering.{int_eq}
use Rattle.std.proofs.lemmas.Bool.Decides.{Decides-eqb}
use Rattle.con_terms.specs.Trees.{Cn}
use Rattle.core_terms.specs.Trees.{Pt, is_number, is_text, is_bare, is_holding, has_fields, Pfs, pat_field, Cd, Dt}
use Rattle.core_terms.specs.Datatypes.{held_at}
use Rattle.core_typing.specs.Scopes.{Sc}
use Rattle.core_typing.specs.Seen.{a_number, a_text, a_datatype, a_record, named_fields}
use Rattle.core_typing.specs.Cover.{Shp, bare_shape, holding_shape, Shf, ShapeOf, ShapesOf, pattern_depth, fields_depth, shape_named, takes, form_takes, fields_take}
use Rattle.core_typing.specs.PatternFaults.{PatFound, any_binds, binds_one, number_binds, text_binds, bare_binds, holding_binds, fields_bind, more_fields_bind, annotated_binds, PatFieldsFound, none_bind, one_binds}
use Rattle.core_meaning.specs.Values.{V, of_bare, of_holding, Slots, slot_at, done, more, then_do, name_in}
use Rattle.core_meaning.specs.Matching.{Taken, takes_if, then_bind, with_slot, matched, matched_form, matched_fields}
use Rattle.shaped_values.specs.Values as values
use Rattle.shaped_values.specs.Values.{IsName, IsOf, IsOfSeen, AreOf, HasShape, any_has, number_has, text_has, bare_has, holding_has, record_has, HaveShapes}
use Rattle.shaped_values.specs.Laws.{NameHolds, NamesHold, EachNameOf, AsTold, steps_end, is_taken, is_not_taken}
use Rattle.shaped_values.proofs.Seeing.{ShapeSeen, number_seen, text_seen, bare_seen, holding_seen, record_seen, shape_seen, value_seen, form_of, number_is_seen, text_is_seen, other_value, other_shape}
use Rattle.shaped_values.proofs.Fields.{AllIn, record_pieces_in, field_in, at_field}
use Rattle.shaped_values.proofs.Names.{some_is}

-- a test tells of what it decides
by_test : (t : Bool) (b : ℕ) → AsTold t (takes_if t b)
by_test true b = is_taken
by_test false b = is_not_taken

number_told : {ds : List Dt} {cs : List Cn} {d : ℕ} (z : ℤ) {v : V} {s : Shp} (b : ℕ) → IsOfSeen ds cs d a_number v → ShapeSeen ds d a_number s → HasShape cs v s
    → AsTold (form_takes (is_number z) s) (matched_form cs (is_number z) v b)
number_told z b (values.is_number {z = y} f) number_seen number_has = by_test (int_eq z y) b

text_told : {ds : List Dt} {cs : List Cn} {d : ℕ} (w : List ℕ) {v : V} {s : Shp} (b : ℕ) → IsOfSeen ds cs d a_text v → ShapeSeen ds d a_text s → HasShape cs v s
    → AsTold (form_takes (is_text w) s) (matched_form cs (is_text w) v b)
text_told w b (values.is_text {w = y} f) text_seen text_has = by_test (bytes_eq w y) b

-- a constructor's value has its shape alone
abbrev Inverse : List Cn → Shp → V → Type 0
Inverse cs (bare_shape y k) (of_bare x j) = (x ≡ y) × (j ≡ k)
Inverse cs (bare_shape y k) (of_holding x j v) = ⊥
Inverse cs (bare_shape y k) _ = Unit {0}
Inverse cs (holding_shape y k s) (of_bare x j) = ⊥
Inverse cs (holding_shape y k s) (of_holding x j v) = (x ≡ y) × ((j ≡ k) × HasShape cs v s)
Inverse cs (holding_shape y k s) _ = Unit {0}
Inverse cs _ _ = Unit {0}

inverted : {cs : List Cn} {v : V} {s : Shp} → HasShape cs v s → Inverse cs s v
inverted any_has = tt
inverted number_has = tt
inverted text_has = tt
inverted bare_has = (refl, refl)
inverted (holding_has h) = (refl, (refl, h))
inverted (record_has h) = tt

bare_told : {ds : List Dt} {cs : List Cn} {d : ℕ} (x j : ℕ) {e : Dt} {args : List Cn} {v : V} {s : Shp} (b : ℕ) → IsOfSeen ds cs d (a_datatype e args) v → ShapeSeen ds d (a_datatype e args) s
    → HasShape cs v s → AsTold (form_takes (is_bare x j) s) (matched_form cs (is_bare x j) v b)
bare_told x j {e} b (values.is_bare {j = i} f g) (bare_seen {j = k}) has =
    let place : i ≡ k = (inverted has).1 in
    subst (λ n. AsTold ((x == e.symbol) && (j == n)) (takes_if ((x == e.symbol) && (j == i)) b)) place (by_test ((x == e.symbol) && (j == i)) b)
bare_told x j b (values.is_bare f g) (holding_seen k l m) has = absurd (inverted has)
bare_told x j b (values.is_holding f g h) bare_seen has = absurd (inverted has)
bare_told x j b (values.is_holding f g h) (holding_seen k l m) has = is_not_taken

-- what a constructor holds
holding_told : {ds : List Dt} {cs : List Cn} {d : ℕ} (x j : ℕ) (q : Pt) {e : Dt} {args : List Cn} {c : Cd} {held : Cn} {v : V} {s : Shp} (b : ℕ)
    → slice_get e.constructors j ≡ Some c → c.holds ≡ Some held
    → ((u : V) (r : Shp) → IsOf ds cs d (held_at args held) u → ShapeOf ds d (held_at args held) r → HasShape cs u r → AsTold (takes q r) (matched cs q u b))
    → IsOfSeen ds cs d (a_datatype e args) v → ShapeSeen ds d (a_datatype e args) s → HasShape cs v s
    → AsTold (form_takes (is_holding x j q) s) (matched_form cs (is_holding x j q) v b)
holding_told x j q b i k go (values.is_bare f g) bare_seen has = is_not_taken
holding_told x j q b i k go (values.is_bare f g) (holding_seen l m n) has = absurd (inverted has)
holding_told x j q b i k go (values.is_holding f g h) bare_seen has = absurd (inverted has)
holding_told {ds} {cs} {d} x j q {e} {args} {c} {held} b i k go (values.is_holding {j = n} {c = c₁} {held = held₁} {v = u} f g h) (holding_seen {j = n₂} {c = c₂} {held = held₂} {s = r} f₂ g₂ h₂) has = subst (λ y. AsTold ((x == e.symbol) && ((j == y) && takes q r)) (if (x == e.symbol) && (j == n) then matched cs q u b else done None b)) (inverted has).1.0 (by_symbol (x == e.symbol) (j == n) refl)
  where
    by_symbol : (t o : Bool) → (j == n) ≡ o → AsTold (t && (o && takes q r)) (if t && o then matched cs q u b else done None b)
    by_symbol false o p = is_not_taken
    by_symbol true false p = is_not_taken
    by_symbol true true p =
        let place : j ≡ n = (Decides-eqb j n).0 p in
        let there : slice_get e.constructors n ≡ Some c = ap (slice_get e.constructors) (sym place) ∙ i in
        let one : c₁ ≡ c = some_is (sym f ∙ there) in
        let two : c₂ ≡ c = some_is (sym f₂ ∙ ap (slice_get e.constructors) (sym (inverted has).1.0) ∙ there) in
        let first : held₁ ≡ held = some_is (sym g ∙ ap (λ (y : Cd). y.holds) one ∙ k) in
        let second : held₂ ≡ held = some_is (sym g₂ ∙ ap (λ (y : Cd). y.holds) two ∙ k) in
        go u r (subst (λ y. IsOf ds cs d (held_at args y) u) first h) (subst (λ y. ShapeOf ds d (held_at args y) r) second h₂) (inverted has).1.1

-- what is taken by one pattern and then by others
with_others : {d : Bool} {o : Taken} (ts : List V) → AsTold d o
    → AsTold d (then_do o (λ us l. done (elim us [ None ↦ None | Some us ↦ Some (us ++ ts) ]) l))
with_others ts steps_end = steps_end
with_others ts is_taken = is_taken
with_others ts is_not_taken = is_not_taken

then_told : {c d : Bool} {o : Taken} (go : ℕ → Taken) → AsTold c o → ((m : ℕ) → AsTold d (go m)) → AsTold (c && d) (then_do o (λ ts m. then_bind ts m go))
then_told go steps_end h = steps_end
then_told go (is_taken {vs = vs} {l = l}) h = with_others vs (h l)
then_told go is_not_taken h = is_not_taken

-- a field, whose name is found, and whose value is there
slot_told : {c : Bool} {cs : List Cn} {n : Cn} {x : ℕ} (ss : Slots) {v : V} (b : ℕ) (go : V → ℕ → Taken) → IsName cs n x → slot_at ss x ≡ Some v → ((l : ℕ) → AsTold c (go v l))
    → AsTold c (then_do (name_in cs n b) (λ x l. with_slot (slot_at ss x) (λ v. go v l)))
slot_told {c} {cs} {n} {x} ss {v} b go i e h = by_either (i.nothing_else b)
  where
    rest : ℕ → ℕ → Taken
    rest y l = with_slot (slot_at ss y) (λ u. go u l)

    by_either : (name_in cs n b ≡ more) ⊎ ((l : ℕ) × (name_in cs n b ≡ done x l)) → AsTold c (then_do (name_in cs n b) rest)
    by_either (inl q) = subst (λ o. AsTold c (then_do o rest)) (sym q) steps_end
    by_either (inr (l, q)) =
        subst (λ o. AsTold c (then_do o rest)) (sym q)
        (subst (λ o. AsTold c (with_slot o (λ u. go u l))) (sym e) (h l))

not_so_deep : {P : Type 0} {n : ℕ} → suc n ≤ zero → P
not_so_deep h = absurd (omega (arith, h))

less_deep : {m n : ℕ} → suc m ≤ suc n → m ≤ n
less_deep h = omega (arith, h)

pub left_depth : (m n d : ℕ) → max m n ≤ d → m ≤ d
left_depth m n d h = grind (arith, h)

pub right_depth : (m n d : ℕ) → max m n ≤ d → n ≤ d
right_depth m n d h = grind (arith, h)

-- a record, whose fields are taken so
record_told : {ds : List Dt} {cs : List Cn} (fs : Pfs) (whole : Bool) (r : Cn) {v : V} {d : ℕ} {s : Shp} (b : ℕ)
    → ((vs : Slots) (ss : Shf) → AreOf ds cs d (named_fields r) vs → ShapesOf ds d (named_fields r) ss → HaveShapes cs vs ss → AsTold (fields_take fs ss) (matched_fields cs fs vs b))
    → IsOfSeen ds cs d (a_record (named_fields r)) v → ShapeSeen ds d (a_record (named_fields r)) s → HasShape cs v s
    → AsTold (form_takes (has_fields fs whole) s) (matched_form cs (has_fields fs whole) v b)
record_told fs whole r b go (values.is_record o) (record_seen h) (record_has g) = go _ _ o h g

mutual
  pub as_told : {G : Sc} {cs : List Cn} {p : Pt} {t : Cn} {ts : List Cn} {v : V} (d : ℕ) {s : Shp} (b : ℕ) → PatFound G p t ts → NamesHold cs p → IsOf G.datatypes cs d t v
      → pattern_depth p ≤ d → ShapeOf G.datatypes d t s → HasShape cs v s → AsTold (takes p s) (matched cs p v b)
  as_told d b any_binds i o l h g = is_taken
  as_told d b (binds_one k a) i o l h g = is_taken
  as_told zero b (number_binds a) i o l h g = not_so_deep l
  as_told (suc d) b (number_binds {z = z} a) i o l h g =
      let (n, e) = form_of o in
      let q = number_is_seen _ a e in
      number_told z b (value_seen o e q) (shape_seen h e q) g
  as_told zero b (text_binds a) i o l h g = not_so_deep l
  as_told (suc d) b (text_binds {w = w} a) i o l h g =
      let (n, e) = form_of o in
      let q = text_is_seen _ a e in
      text_told w b (value_seen o e q) (shape_seen h e q) g
  as_told zero b (bare_binds a k) i o l h g = not_so_deep l
  as_told (suc d) b (bare_binds {s = x} {j = j} a k) i o l h g =
      bare_told x j b (value_seen o a.normal a.at_datatype) (shape_seen h a.normal a.at_datatype) g
  as_told zero b (holding_binds a k f) i o l h g = not_so_deep l
  as_told (suc d) b (holding_binds {s = x} {j = j} {q = q} a k f) i o l h g =
      holding_told x j q b a.constructs.constructor k (λ u r y z w. as_told d b f i y (less_deep l) z w)
      (value_seen o a.normal a.at_datatype) (shape_seen h a.normal a.at_datatype) g
  as_told zero b (fields_bind e f) i o l h g = not_so_deep l
  as_told {t = t} (suc d) b (fields_bind {r = r} e f) i o l h g = record_told _ false r b (λ vs ss a z w. fields_told d b f (record_pieces_in t r e) i (less_deep l) a z w) (value_seen o e refl) (shape_seen h e refl) g
  as_told zero b (more_fields_bind e f) i o l h g = not_so_deep l
  as_told {t = t} (suc d) b (more_fields_bind {r = r} e f) i o l h g = record_told _ true r b (λ vs ss a z w. fields_told d b f (record_pieces_in t r e) i (less_deep l) a z w) (value_seen o e refl) (shape_seen h e refl) g
  as_told d b (annotated_binds k a f) i o l h g = as_told d b f i (other_value a o) l (other_shape a h) g

  fields_told : {G : Sc} {cs : List Cn} {fs : Pfs} {ps rest ts : List Cn} {of : List (Cn × Cn)} {vs : Slots} {ss : Shf} (d : ℕ) (b : ℕ) → PatFieldsFound G fs ps rest ts
      → AllIn of ps → EachNameOf (NameHolds cs) fs → fields_depth fs ≤ d → AreOf G.datatypes cs d of vs → ShapesOf G.datatypes d of ss → HaveShapes cs vs ss
      → AsTold (fields_take fs ss) (matched_fields cs fs vs b)
  fields_told d b none_bind a i l o h g = is_taken
  fields_told {G} {cs} {of = of} {vs = vs} {ss = ss} d b (one_binds {p = p} {n = n} {m = m} {v = u} {q = q} {fs = fs} {ps = ps} {qs = qs} k e f one rest) a (name_is, i, is) l o h g =
      let (among, left) = field_in of m u ps qs a f in
      let field = at_field m u o h g among in
      let deep = left_depth (pattern_depth q) (fields_depth fs) d l in
      let others = right_depth (pattern_depth q) (fields_depth fs) d l in
      subst (λ x. AsTold (takes q (shape_named ss x) && fields_take fs ss) (matched_fields cs (pat_field p n q fs) vs b)) (sym e)
      (slot_told vs b (λ w l'. then_do (matched cs q w l') (λ ts m'. then_bind ts m' (λ m''. matched_fields cs fs vs m''))) (name_is m field.symbol e field.named) field.stands
      (λ l'. then_told (λ m''. matched_fields cs fs vs m'') (as_told d l' one i field.is deep field.shape field.has) (λ m''. fields_told d m'' rest left is others o h g)))
