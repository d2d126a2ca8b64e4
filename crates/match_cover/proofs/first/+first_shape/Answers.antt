use Rattle.std.proofs.Common.{◌≡◌, IfOk, subst, arith, ap, sym, ◌∙◌, ◌-◌, map}
use Rattle.con_terms.specs.View.{con_tree}
use Rattle.core_terms.specs.View.{datatype_view, maybe_con}
use Rattle.match_cover.specs.Misses.{First, first_shape}
use Rattle.match_cover.specs.View.{first_view, seen_view, shapes_view}
use Rattle.match_cover.proofs.FirstFields.{first_on, fields_none}
use Rattle.match_cover.proofs.first.+first_shape.Goals as goal

pub first_shape-returns-in_ok-told-in-Some : goal.first_shape-returns-in_ok-told-in-Some
first_shape-returns-in_ok-told-in-Some t c =
    subst (λ (f : First). IfOk c.first_seen.result (λ o. first_view o ≡ f))
    (first_on (map datatype_view c.args.datatypes.now.items) c.args.depth (c.args.depth - 1) (con_tree c.args.t.now) (con_tree c.in-Some.n) (seen_view c.in_ok-told-in-Some.told)
    (omega arith) (sym (ap maybe_con c.in-Some.is) ∙ c.in_ok-normal_of.ensures) c.in_ok-told-in-Some.ensures)
    c.first_seen.ensures

pub first_fields-returns-in-None : goal.first_fields-returns-in-None
first_fields-returns-in-None t c =
    fields_none (first_shape (map datatype_view c.args.datatypes.now.items) c.args.depth) c.args.fields.now.items (c.loop-left.left - 1) c.loop-left.left c.index.result.now (shapes_view c.loop-left.shapes)
    (omega arith) (omega (arith, c.args.fields.now.ok.0)) c.index.ensures (sym (ap first_view c.in-None.is) ∙ c.in_ok-first_shape.ensures) c.loop-left.invariant.0
