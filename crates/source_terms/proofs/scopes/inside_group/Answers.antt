use Rattle.std.proofs.Common.{◌<◌, ◌≤◌, length, arith, ap, sym, ◌∙◌}
use Rattle.plain_tree.specs.declared.exp.Form.TheViews.{out-NamedList}
use Rattle.source_names.specs.View.{scope_view}
use Rattle.source_terms.proofs.Scoping.{behind_names, names_whole, names_more, names_end}
use Rattle.source_terms.proofs.scopes.inside_group.Goals as goal

pub loop-i-init : goal.loop-i-init
loop-i-init c =
    let ns = (out-NamedList c.args.ns.now).items in
    names_whole (scope_view c.args.s.now) c.args.ns.now
    ∙ ap (λ s. behind_names s ns.items) (sym c.in_ok-here.ensures)

pub loop-i-preserved : goal.loop-i-preserved
loop-i-preserved c =
    let ns = (out-NamedList c.args.ns.now).items in
    let h : c.loop-i.i < length ns.items = omega (arith, ns.ok.0) in
    names_more _ _ _ ns.items c.loop-i.i _ _ h c.index.ensures c.loop-i.invariant c.name_of.ensures
    c.in_ok-here-2.ensures

pub returns : goal.returns
returns c =
    let ns = (out-NamedList c.args.ns.now).items in
    let h : length ns.items ≤ c.loop-i.i = omega (arith, ns.ok.0) in
    names_end _ _ ns.items c.loop-i.i h c.loop-i.invariant
