-- The normal forms of the types of instances.
use Rattle.std.specs.Prelude.{Bool, true, false, List, [], ◌∷◌, Option, Some, None, if◌then◌else◌}
use Rattle.con_terms.specs.Trees.{Cn, app, basic}
use Rattle.core_terms.specs.declared.basis.BasisName.{BasisName}
use Rattle.core_terms.specs.declared.basis.BasisName.TheVariants.{NumInt, ShowInt, ShowString, ShowBool, EqInt, EqString, EqBool, OrdInt, OrdString, OrdBool, SqlInt, SqlString, SqlBool}
use Rattle.core_typing.specs.Scopes.{normal_of}
use Rattle.guided_terms.specs.Implied.{has_form, is_class}
use Rattle.row_normal.specs.SameTree.{cn_eq}

-- whether a type is a class at a type
abbrev pub is_instance_form : Cn → Bool
is_instance_form (app (basic s) t) = is_class s
is_instance_form _ = false

abbrev pub if_instance : Option Cn → Option Cn
if_instance None = None
if_instance (Some n) = if is_instance_form n then Some n else None

-- the normal form of a type, where it is a class at a type
abbrev pub instance_form : Cn → Option Cn
instance_form t = if_instance (normal_of t)

-- the instances that every program has
abbrev pub instance_names : List BasisName
instance_names = NumInt ∷ ShowInt ∷ ShowString ∷ ShowBool ∷ EqInt ∷ EqString ∷ EqBool ∷ OrdInt ∷ OrdString ∷ OrdBool
    ∷ SqlInt ∷ SqlString ∷ SqlBool ∷ []

-- whether this is that
abbrev pub same_form : Option Cn → Option Cn → Bool
same_form None None = true
same_form (Some m) (Some n) = cn_eq m n
same_form _ _ = false

-- whether this is the normal form of a type, where that is a class at a type
abbrev pub is_form_of : Option Cn → Cn → Bool
is_form_of o t = same_form o (instance_form t)

-- whether a type that may be known is a class at a type
abbrev pub is_maybe_instance : Option Cn → Bool
is_maybe_instance None = false
is_maybe_instance (Some t) = is_instance_form t

-- whether the type of a value, where there is one, has this normal form
abbrev pub if_has_form : Option Cn → Cn → Bool
if_has_form None n = false
if_has_form (Some t) n = has_form (normal_of t) n
