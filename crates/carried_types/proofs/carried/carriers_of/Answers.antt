use Rattle.std.proofs.Common.{◌≡◌, false, map, arith, rules}
use Rattle.std.proofs.lemmas.List.{length-map}
use Rattle.core_terms.specs.View.{datatype_view}
use Rattle.carried_types.specs.View.{carriers_view}
use Rattle.carried_types.proofs.Marks.{settled, none_else_next, none_else_first}
use Rattle.carried_types.proofs.carried.carriers_of.Goals as goal

pub loop-init : goal.loop-init
loop-init c =
    let ds = c.args.datatypes.now in
    none_else_first (map datatype_view ds.items) (carriers_view c.in_ok-now.now)
    (λ j h. c.in_ok-now.ensures j (omega (arith, length-map ds.items datatype_view, ds.ok.0)))

pub returns-then-not-fewer : goal.returns-then-not-fewer
returns-then-not-fewer c =
    let same : c.in_ok-next.fewer ≡ false = search rules in
    settled (map datatype_view c.args.datatypes.now.items) (carriers_view c.loop.now) (carriers_view c.in_ok-next.next) c.loop.invariant
    c.in_ok-next.ensures.anew (c.in_ok-next.ensures.same same)

pub loop-preserved : goal.loop-preserved
loop-preserved c =
    none_else_next (map datatype_view c.args.datatypes.now.items) (carriers_view c.loop.now) (carriers_view c.in_ok-next.next) c.loop.invariant
    c.in_ok-next.ensures.anew
