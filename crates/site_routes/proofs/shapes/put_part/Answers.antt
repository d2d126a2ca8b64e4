use Rattle.std.proofs.Common.{map, ap, ◌∙◌}
use Rattle.site_routes.specs.Shaping.{place_among}
use Rattle.site_routes.specs.View.{part_view}
use Rattle.site_routes.proofs.Fields.{part_name, put_at}
use Rattle.site_routes.proofs.shapes.put_part.Goals as goal

pub returns : goal.returns
returns c =
    put_at c.args.part c.args.parts.items c.insert.new.self.items c.place_among-place.result c.in_ok-insert.ensures.items
    (c.place_among-place.ensures.exact ∙ ap (λ z. place_among z (map part_view c.args.parts.items)) (part_name c.args.part))
