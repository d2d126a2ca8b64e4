use Rattle.std.proofs.Common.{refl}
use Rattle.type_makers.proofs.types.one_field.Goals as goal

pub returns : goal.returns
returns c = c.field_row.ensures _ _ _ c.types_kind.ensures refl refl
