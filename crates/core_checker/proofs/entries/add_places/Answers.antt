use Rattle.std.proofs.Common.{◌≡◌, ◌<◌, ◌≤◌, ◌++◌, length, map, arith, ap, sym, ◌∙◌}
use Rattle.core_terms.specs.View.{named_from, named_tree}
use Rattle.core_terms.specs.declared.exp.Form.TheViews.{out-NamedList}
use Rattle.site_routes.proofs.Members.{named_are}
use Rattle.core_checker.specs.Twice.{named_places}
use Rattle.core_checker.proofs.EntryPlaces.{names_end, names_on}
use Rattle.core_checker.proofs.entries.add_places.Goals as goal

pub loop-i-preserved : goal.loop-i-preserved
loop-i-preserved c =
    let xs = (out-NamedList c.args.ns.now).items in
    let h : c.loop-i.i < length xs.items = omega (arith, xs.ok.0) in
    names_on xs.items c.loop-i.i c.index.result.now c.loop-i.all.items c.add_place.new.all.items
    (c.args.all.now.items ++ named_places (named_from (map named_tree xs.items))) c.index.ensures h c.in_ok-add_place.ensures c.loop-i.invariant

pub returns : goal.returns
returns c =
    let xs = (out-NamedList c.args.ns.now).items in
    let h : length xs.items ≤ c.loop-i.i = omega (arith, xs.ok.0) in
    names_end xs.items c.loop-i.i c.loop-i.all.items (c.args.all.now.items ++ named_places (named_from (map named_tree xs.items))) h c.loop-i.invariant
    ∙ ap (λ ns. c.args.all.now.items ++ named_places ns) (sym (named_are c.args.ns.now))
