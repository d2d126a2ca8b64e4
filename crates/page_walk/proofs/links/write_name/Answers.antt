use Rattle.run_values.specs.Known.{top_tree}
use Rattle.page_walk.proofs.Names.{named}
use Rattle.page_walk.proofs.links.write_name.Goals as goal

pub returns : goal.returns
returns c =
    named c.args.program.now (top_tree c.args.top.now) c.args.link.now c.piece.new.link c.write_path.new.link c.piece-2.new.link
    c.module_text.result.now c.name_text.result.now c.module_text.ensures c.name_text.ensures
    c.in_ok-piece.ensures c.in_ok-write_path.ensures c.in_ok-piece-2.ensures
