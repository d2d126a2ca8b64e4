use Rattle.std.proofs.Common.{ap, ◌∙◌}
use Rattle.std.specs.Ordering.{is_lt, nat_cmp}
use Rattle.std.specs.Cmp.Lexicographic.{slice_cmp}
use Rattle.site_routes.proofs.Fields.{part_name}
use Rattle.site_routes.proofs.shapes.comes_before.Goals as goal

pub returns : goal.returns
returns c = c.is_before.ensures ∙ ap (λ z. is_lt (slice_cmp nat_cmp z c.args.name.now)) (part_name c.args.part.now)
