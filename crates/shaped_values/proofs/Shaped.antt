-- Each value of a type has a shape of it.
use Rattle.std.proofs.Common.{◌≡◌, ℕ, zero, suc, List, Some, refl}
use Rattle.con_terms.specs.Trees.{Cn}
use Rattle.core_terms.specs.Trees.{Dt}
use Rattle.core_typing.specs.Scopes.{normal_of}
use Rattle.core_typing.specs.Seen.{Seen, seen}
use Rattle.core_typing.specs.Cover as cover
use Rattle.core_typing.specs.Cover.{Shp, leaf, number_shape, text_shape, bare_shape, holding_shape, record_shape, Shf, no_shape_fields, shape_field, ShapeOf, ShapesOf}
use Rattle.core_meaning.specs.Values.{V, Slots}
use Rattle.shaped_values.specs.Values.{IsOf, deeper, at_form, IsOfSeen, any_value, is_number, is_text, is_bare, is_holding, is_record, AreOf, no_field, one_field, HasShape, any_has, number_has, text_has, bare_has, holding_has, record_has, HaveShapes, none_have, field_has}

mutual
  pub some_shape : {ds : List Dt} {cs : List Cn} {t : Cn} {v : V} (d : ℕ) → IsOf ds cs d t v → (s : Shp) × ShapeOf ds d t s × HasShape cs v s
  some_shape zero deeper = (leaf, cover.deeper, any_has)
  some_shape {ds} (suc d) (at_form {n = n} e o) = seen_shape d e (seen ds n) refl o

  seen_shape : {ds : List Dt} {cs : List Cn} {t n : Cn} {v : V} (d : ℕ) → normal_of t ≡ Some n → (x : Seen) → seen ds n ≡ x → IsOfSeen ds cs d x v
      → (s : Shp) × ShapeOf ds (suc d) t s × HasShape cs v s
  seen_shape d e _ q any_value = (leaf, cover.no_more e q, any_has)
  seen_shape d e _ q (is_number {z = z} f) = (number_shape z, cover.of_number e q f, number_has)
  seen_shape d e _ q (is_text {w = w} f) = (text_shape w, cover.of_text e q f, text_has)
  seen_shape d e _ q (is_bare {x = x} {j = j} f g) = (bare_shape x.symbol j, cover.of_bare e q f g, bare_has)
  seen_shape d e _ q (is_holding {x = x} {j = j} f g h) =
      let (s, is, has) = some_shape d h in
      (holding_shape x.symbol j s, cover.of_holding e q f g is, holding_has has)
  seen_shape d e _ q (is_record h) =
      let (ss, are, have) = some_shapes d h in
      (record_shape ss, cover.of_record e q are, record_has have)

  some_shapes : {ds : List Dt} {cs : List Cn} {fs : List (Cn × Cn)} {vs : Slots} (d : ℕ) → AreOf ds cs d fs vs → (ss : Shf) × ShapesOf ds d fs ss × HaveShapes cs vs ss
  some_shapes d no_field = (no_shape_fields, cover.of_no_fields, none_have)
  some_shapes d (one_field {n = n} i u e h r) =
      let (s, is, has) = some_shape d h in
      let (ss, are, have) = some_shapes d r in
      (shape_field n s ss, cover.of_field is are, field_has i e has have)
