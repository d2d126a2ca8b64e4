use Rattle.std.proofs.Common.{sym, ap, ◌∙◌}
use Rattle.con_terms.specs.View.{con_tree, kind_tree, pairs_tree}
use Rattle.core_terms.specs.View.{maybe_con}
use Rattle.inserted_terms.specs.View.{at_view}
use Rattle.inserted_terms.proofs.Inserting.{inserts_folder}
use Rattle.inserted_terms.proofs.Tables.{ok_then}
use Rattle.inserted_terms.proofs.folders.is_folder_of.Goals as goal

pub returns-in-Some : goal.returns-in-Some
returns-in-Some c =
    ok_then c.is_folder_at.result _ _ (λ at p. inserts_folder (at_view c.args.h.now) (con_tree c.args.t.now)
    (con_tree c.in-Some.head) (kind_tree c.args.kind.now) (pairs_tree c.args.fields.now)
    (sym c.in_ok-head_of.ensures ∙ ap maybe_con c.in-Some.is) at p)
    c.is_folder_at.ensures
