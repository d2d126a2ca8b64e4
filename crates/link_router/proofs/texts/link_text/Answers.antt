use Rattle.std.proofs.Common.{◌<◌, ◌++◌, ◌∙◌, length, ap, sym, arith}
use Rattle.std.proofs.lemmas.List.{length-map}
use Rattle.table_rows.specs.View.{wires_tree}
use Rattle.table_rows.specs.Pieces.{all_pieces}
use Rattle.link_router.specs.Links.{joined}
use Rattle.link_router.specs.View.{entry_view}
use Rattle.link_router.proofs.Escapes.{joined-append, mapped_at}
use Rattle.link_router.proofs.texts.link_text.Goals as goal

pub returns : goal.returns
returns c =
    let entries = c.args.routes.now.entries.items in
    let within : c.args.entry < length c.args.routes.now.entries.items = omega (arith, c.requires, length-map entries entry_view) in
    let after_name = joined (all_pieces (wires_tree c.args.wires.now)) in (
      entry_view c.index.result.now,
      mapped_at entry_view entries c.args.entry c.index.result.now within c.index.ensures,
      c.in_ok-push_values.ensures
          ∙ ap (λ bs. bs ++ after_name) (c.in_ok-push_names.ensures ∙ ap (λ bs. bs ++ joined c.index.result.now.name) c.new-text.ensures)
          ∙ sym (joined-append c.index.result.now.name (all_pieces (wires_tree c.args.wires.now))),
    )
