-- The faults that values of this crate are.
use Rattle.std.specs.Prelude.{ℕ, List, [], ◌∷◌, Option, Some, None}
use Rattle.con_terms.specs.Trees.{Cn}
use Rattle.con_terms.specs.View.{con_tree, kind_tree}
use Rattle.core_terms.specs.View.{symbols_view}
use Rattle.core_typing.specs.Cover as cover
use Rattle.core_typing.specs.Cover.{Shp, Shf, no_shape_fields, shape_field}
use Rattle.core_typing.specs.Faults as told
use Rattle.type_faults.specs.declared.fault.Fault.{Fault}
use Rattle.type_faults.specs.declared.fault.Fault.TheVariants.{Unbound, KindMismatch, Mismatch, NotDisjoint, Inexhaustive, Redeclared, LinkNotCall, NotSerialisable, TooLarge, NotBuilt}
use Rattle.type_faults.specs.declared.fault.Name.{Name}
use Rattle.type_faults.specs.declared.fault.Name.TheVariants as name
use Rattle.type_faults.specs.declared.fault.Twice.{Twice}
use Rattle.type_faults.specs.declared.fault.Twice.TheVariants as twice
use Rattle.type_faults.specs.declared.fault.Shape.{Shape}
use Rattle.type_faults.specs.declared.fault.ShapeField.{ShapeField}
use Rattle.type_faults.specs.declared.fault.ShapeFields.{ShapeFields}
use Rattle.type_faults.specs.declared.fault.Shape.TheOpen.{Shape-F, ShapeField-F, ShapeFields-F}
use Rattle.type_faults.specs.declared.fault.Shape.TheFolds.{fold-Shape, fold-ShapeField, fold-ShapeFields}

-- shapes
abbrev pub shapes_from : List (Cn × Shp) → Shf
shapes_from [] = no_shape_fields
shapes_from (f ∷ fs) = shape_field f.0 f.1 (shapes_from fs)

abbrev pub shape_step : Shape-F Shp (Cn × Shp) Shf → Shp
shape_step Shape-F.Leaf = cover.leaf
shape_step (Shape-F.Number z) = cover.number_shape z
shape_step (Shape-F.Words t) = cover.text_shape t
shape_step (Shape-F.Bare s j) = cover.bare_shape s.number j
shape_step (Shape-F.Holding s j h) = cover.holding_shape s.number j h.value
shape_step (Shape-F.Record fs) = cover.record_shape fs

abbrev pub shape_field_step : ShapeField-F Shp (Cn × Shp) Shf → Cn × Shp
shape_field_step f = (con_tree f.name, f.shape)

abbrev pub shape_fields_step : ShapeFields-F Shp (Cn × Shp) Shf → Shf
shape_fields_step fs = shapes_from fs.items.items

abbrev pub shape_tree : Shape → Shp
shape_tree = fold-Shape Shp (Cn × Shp) Shf shape_step shape_field_step shape_fields_step

abbrev pub shape_field_tree : ShapeField → Cn × Shp
shape_field_tree = fold-ShapeField Shp (Cn × Shp) Shf shape_step shape_field_step shape_fields_step

abbrev pub shapes_tree : ShapeFields → Shf
shapes_tree = fold-ShapeFields Shp (Cn × Shp) Shf shape_step shape_field_step shape_fields_step

-- faults
abbrev pub name_tree : Name → told.Unbound
name_tree (name.Variable i) = told.a_variable i
name_tree (name.Value i) = told.a_value i
name_tree (name.Effect i) = told.an_effect i
name_tree (name.ConVariable i) = told.a_con_variable i
name_tree (name.Symbol s) = told.a_symbol s.number
name_tree (name.Constructor s j) = told.a_constructor s.number j
name_tree (name.Attribute n) = told.an_attribute n
name_tree (name.Folder k) = told.a_folder (kind_tree k)
name_tree name.InputName = told.an_input_name

abbrev pub twice_tree : Twice → told.Twice
twice_tree (twice.Constructor s) = told.twice_constructor s.number
twice_tree (twice.Attribute n) = told.twice_attribute n
twice_tree (twice.Entry parts) = told.twice_entry parts

abbrev pub fault_tree : Fault → told.Fault
fault_tree (Unbound p n) = told.unbound p (name_tree n)
fault_tree (KindMismatch p d) = told.kind_mismatch p (kind_tree d.value.wanted) (kind_tree d.value.found)
fault_tree (Mismatch p xs t) = told.mismatch p (symbols_view xs) (con_tree t.value.wanted) (con_tree t.value.found)
fault_tree (NotDisjoint p xs t) = told.not_disjoint p (symbols_view xs) (con_tree t.value.left) (con_tree t.value.right)
fault_tree (Inexhaustive p xs s) = told.inexhaustive p (symbols_view xs) (shape_tree s.value)
fault_tree (Redeclared p t) = told.redeclared p (twice_tree t)
fault_tree (LinkNotCall p) = told.link_not_call p
fault_tree (NotSerialisable p) = told.not_serialisable p
fault_tree (TooLarge p) = told.too_large p
fault_tree (NotBuilt p) = told.not_built p

abbrev pub maybe_fault : Option Fault → Option told.Fault
maybe_fault None = None
maybe_fault (Some f) = Some (fault_tree f)
