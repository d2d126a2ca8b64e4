use Rattle.std.proofs.Common.{sym, ap, ◌∙◌}
use Rattle.con_terms.specs.View.{con_tree}
use Rattle.core_terms.specs.View.{maybe_con}
use Rattle.inserted_terms.specs.View.{at_view}
use Rattle.inserted_terms.proofs.Inserting.{lacks_folder_at}
use Rattle.inserted_terms.proofs.Tables.{ok_then}
use Rattle.inserted_terms.proofs.folders.lacks_folder.Goals as goal

pub returns-in-Some : goal.returns-in-Some
returns-in-Some c =
    ok_then c.is_open_at.result _ _ (λ at p. lacks_folder_at (at_view c.args.h.now) (con_tree c.args.t.now)
    (con_tree c.in-Some.head) c.args.gap c.requires (sym c.in_ok-head_of.ensures ∙ ap maybe_con c.in-Some.is) at p)
    c.is_open_at.ensures
