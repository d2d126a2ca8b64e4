use Rattle.std.proofs.Common.{◌≡◌, ◌++◌, map, drop}
use Rattle.con_terms.specs.View.{pair_tree, pairs_from}
use Rattle.con_terms.specs.declared.con.Con.TheViews.{out-Pairs}
use Rattle.core_typing.specs.Seen.{literal_pairs}
use Rattle.site_routes.specs.View.{field_view}
use Rattle.site_routes.proofs.shapes.add_pairs.Given as goal

abbrev pub invariant-loop-i : goal.invariant-loop-i
invariant-loop-i l =
    map field_view l.fields.items ++ literal_pairs (pairs_from (map pair_tree (drop l.i (out-Pairs l.ps).items.items)))
    ≡ map field_view l.fn.fields.items ++ literal_pairs (pairs_from (map pair_tree (out-Pairs l.ps).items.items))
