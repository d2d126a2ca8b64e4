-- Modules that are seen with the last one first.
use Rattle.std.proofs.Common.{◌-◌}
pub use Rattle.source_names.proofs.Homes.{home_by_name}
