use Rattle.std.proofs.Common.{◌≡◌, length, map}
use Rattle.plain_tree.specs.ExpView.{link_tree, links_from}
use Rattle.placed_terms.specs.Parts.{source_listed}
use Rattle.placed_terms.specs.Source.{links_before}
use Rattle.placed_terms.proofs.source_terms.put_links.Given as goal

abbrev pub invariant-loop-first : goal.invariant-loop-first
invariant-loop-first l = links_before l.at (links_from (map link_tree l.rest)) (source_listed l.parts.items)
    ≡ links_before l.at (links_from (map link_tree l.links)) (source_listed l.initial.parts.items)

abbrev pub decreases-loop-first : goal.decreases-loop-first
decreases-loop-first l = length l.rest
