-- What wires are read with, for one who has the routes of the program.
use Rattle.std.proofs.Common.{◌≡◌, refl}
use Rattle.core_terms.specs.View.{program_view}
use Rattle.core_terms.specs.declared.program.Program.{Program}
use Rattle.link_router.specs.View.{routes_view}
use Rattle.link_router.specs.declared.routes.Routes.{Routes}
use Rattle.core_meaning.specs.Requests.{known}
use Rattle.wire_values.specs.Known.{known_by}

pub known_is : (p : Program) (r : Routes) → known (program_view p) (routes_view r) ≡ known_by p r.datatypes
known_is p r = refl
