-- What the values of this crate are.
use Rattle.std.specs.Prelude.{Bool, List, Option, Some, None}
use Rattle.con_terms.specs.Trees.{Cn}
use Rattle.con_terms.specs.View.{con_tree}
use Rattle.carried_types.specs.declared.carried.Carriers.{Carriers}
use Rattle.carried_types.specs.declared.pages.CarriedTo.{CarriedTo}
use Rattle.carried_types.specs.declared.pages.CarriedTo.TheVariants as variant

abbrev pub carried_to : CarriedTo → Option Cn
carried_to variant.No = None
carried_to (variant.Left c) = Some (con_tree c)

abbrev pub carriers_view : Carriers → List Bool
carriers_view c = c.carried.items
