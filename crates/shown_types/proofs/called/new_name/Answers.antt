use Rattle.std.proofs.Common.{rules}
use Rattle.con_terms.specs.View.{kind_tree}
use Rattle.shown_types.specs.Names.{first_letters, new_name}
use Rattle.shown_types.proofs.Free.{free_here, free_next}
use Rattle.shown_types.proofs.called.new_name.Goals as goal

pub returns-then-not-is_name : goal.returns-then-not-is_name
returns-then-not-is_name c =
    free_here c.args.called.now (first_letters (kind_tree c.args.kind.now)) c.loop-number.number (new_name c.args.called.now (kind_tree c.args.kind.now))
    c.in_ok-name.name (search rules) (search rules) (search rules) c.loop-number.invariant

pub loop-number-preserved : goal.loop-number-preserved
loop-number-preserved c =
    free_next c.args.called.now (first_letters (kind_tree c.args.kind.now)) c.loop-number.number (new_name c.args.called.now (kind_tree c.args.kind.now))
    c.in_ok-name.name (search rules) (search rules) (search rules) c.loop-number.invariant
