use Rattle.std.proofs.Common.{◌≡◌, ◌++◌, drop, map}
use Rattle.plain_tree.specs.View.{interface_view, signed_tree}
use Rattle.plain_projects.specs.Said.{names_signed}
use Rattle.plain_projects.proofs.interfaces.names_in.Given as goal

abbrev pub invariant-loop-signed : goal.invariant-loop-signed
invariant-loop-signed l =
    l.names ++ names_signed (map signed_tree (drop l.signed-index l.interface.items.items)) ≡ names_signed (interface_view l.interface)
