use Rattle.inserted_terms.proofs.Tables.{ok_then, reached_start, whole_program}
use Rattle.inserted_terms.proofs.programs.inserts_chosen.Goals as goal

pub returns : goal.returns
returns c =
    ok_then c.modules_chosen.result _ _
    (whole_program c.args.program.now _ c.args.names.now c.args.trees.now
    (reached_start _ _ c.new.ensures c.no_tops.ensures))
    c.modules_chosen.ensures
