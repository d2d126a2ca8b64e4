use Rattle.std.proofs.Common.{◌<◌, length, arith}
use Rattle.core_terms.specs.declared.exp.Form.TheViews.{out-NamedList}
use Rattle.inserted_terms.proofs.Fronts.{names_more}
use Rattle.inserted_terms.proofs.scopes.inside_names.Goals as goal

pub loop-i-preserved : goal.loop-i-preserved
loop-i-preserved c =
    let ns = (out-NamedList c.args.ns.now).items in
    let h : c.loop-i.i < length ns.items = omega (arith, ns.ok.0) in
    names_more _ _ _ ns.items c.loop-i.i _ h c.index.ensures c.loop-i.invariant c.in_ok-here-2.ensures
