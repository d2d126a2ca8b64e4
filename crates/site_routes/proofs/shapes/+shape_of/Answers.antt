use Rattle.std.proofs.Common.{◌≡◌, length, map, Some, ap, ◌∙◌, arith}
use Rattle.core_terms.specs.View.{datatype_view}
use Rattle.site_routes.specs.Shaping.{shaped}
use Rattle.site_routes.specs.View.{part_view, maybe_parts}
use Rattle.site_routes.proofs.Steps.{data_told}
use Rattle.site_routes.proofs.Fields.{fields_gone}
use Rattle.site_routes.proofs.shapes.+shape_of.Goals as goal

pub parts_of-returns-in-None : goal.parts_of-returns-in-None
parts_of-returns-in-None t c =
    let xs = c.args.fields.now in
    let n : c.len-count.result ≡ length xs.items = omega (arith, xs.ok.0) in
    fields_gone (shaped c.args.room c.args.names.now (map datatype_view c.args.datatypes.now.items) c.args.parameters) c.args.names.now xs.items c.loop-done.done
    c.len-count.result c.index-f.result.now (map part_view c.loop-done.parts.items) n (omega arith) c.index-f.ensures
    (c.in_ok-with_field.ensures ∙ ap (λ o. Some (maybe_parts o)) c.in-None.is) c.loop-done.invariant

pub shape_at-returns-in-Some : goal.shape_at-returns-in-Some
shape_at-returns-in-Some t c = data_told c.args.place c.in_ok-shapes_of.field-0 c.in-Some.items c.in_ok-shapes_of.ensures c.in-Some.is
