use Rattle.std.proofs.Common.{arith, ◌+◌}
use Rattle.core_terms.specs.View.{symbols_view}
use Rattle.page_walk.proofs.Names.{next_piece}
use Rattle.page_walk.proofs.links.write_path.Goals as goal

pub loop-i-preserved : goal.loop-i-preserved
loop-i-preserved c =
    next_piece c.args.program.now c.args.link.now c.loop-i.link c.piece.new.link (symbols_view c.args.path.now) c.loop-i.i (c.loop-i.i + 1)
    c.at.result.number c.name_text.result.now (omega arith) c.at.ensures c.name_text.ensures c.loop-i.invariant c.in_ok-piece.ensures
