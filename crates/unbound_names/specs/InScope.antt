-- Which names are in scope.
use Rattle.std.specs.Prelude.{ℕ, Bool, true, false, ◌||◌, List, [], ◌∷◌, Option, Some, None, codes}
use Rattle.std.specs.Str.{bytes_eq}
use Rattle.core_terms.specs.BasisTexts.{value_text}
use Rattle.core_terms.specs.declared.basis.BasisName.{BasisName}
use Rattle.core_terms.specs.declared.basis.BasisName.TheVariants as value
use Rattle.plain_tree.specs.declared.names.Path.{Path}
use Rattle.source_names.specs.Scopes.{Words, Tables, Scope}
use Rattle.source_names.specs.Standing.{Meant, a_binder, a_top, an_effect, of_basis, nothing, value_means, MeantType, a_con, a_folder, a_map, no_type, type_means, builder_means}
use Rattle.xml_trees.specs.SourceNames.{attribute_text, tag_named}
use Rattle.xml_trees.specs.declared.source_name.AttrName.{AttrName}
use Rattle.xml_trees.specs.declared.source_name.AttrName.TheVariants as attr

-- the tables of a program of which only its foreign effects are known
abbrev pub tables_with : List (Words × Words) → Tables
tables_with es = record { texts = []; effects = es; folders = [] }

-- whether there is one
abbrev pub is_some : {A : Type 0} → Option A → Bool
is_some None = false
is_some (Some a) = true

-- whether a name is one of these
abbrev pub is_name_of : Words → List Words → Bool
is_name_of x [] = false
is_name_of x (y ∷ ys) = bytes_eq y x || is_name_of x ys

-- the values that every program has, but for `fold`
abbrev pub basis_values : List BasisName
basis_values = value.Return ∷ value.Bind ∷ value.Error ∷ value.Not ∷ value.Strcat ∷ value.Plus ∷ value.Minus
    ∷ value.Times ∷ value.Divide ∷ value.Mod ∷ value.Neg ∷ value.Eq ∷ value.Ne ∷ value.Lt ∷ value.Le ∷ value.Show
    ∷ value.MkShow ∷ value.MkEq ∷ value.Txt ∷ value.Cdata ∷ value.Join ∷ value.Bless ∷ value.Query ∷ value.QueryX
    ∷ value.OneRow ∷ value.OneOrNoRows ∷ value.Dml ∷ value.Nextval ∷ value.GetCookie ∷ value.SetCookie
    ∷ value.ClearCookie ∷ value.NumInt ∷ value.ShowInt ∷ value.ShowString ∷ value.ShowBool ∷ value.EqInt
    ∷ value.EqString ∷ value.EqBool ∷ value.OrdInt ∷ value.OrdString ∷ value.OrdBool ∷ value.SqlInt ∷ value.SqlString
    ∷ value.SqlBool ∷ []

-- whether one of these values has a name
abbrev pub is_value_of : Words → List BasisName → Bool
is_value_of x [] = false
is_value_of x (v ∷ vs) = bytes_eq (value_text v) x || is_value_of x vs

-- whether every program has a value of a name
abbrev pub is_basis_value : Words → Bool
is_basis_value x = is_value_of x basis_values || bytes_eq (codes "fold") x

-- whether what a name may stand for is there
abbrev pub is_there : Meant → Bool
is_there (of_basis x) = is_basis_value x
is_there nothing = false
is_there _ = true

-- the same of the type level
abbrev pub is_type_there : MeantType → Bool
is_type_there no_type = false
is_type_there _ = true

-- whether a value is in scope
abbrev pub value_in_scope : Scope → Path → Bool
value_in_scope s p = is_there (value_means s p)

-- a name of the type level
abbrev pub type_in_scope : Scope → Path → Bool
type_in_scope s p = is_type_there (type_means s p)

-- a constructor of a datatype
abbrev pub builder_in_scope : Scope → Path → Bool
builder_in_scope s p = is_some (builder_means s p)

-- Tags and attributes aren't declared: each page has all of them.

-- whether there is a tag of a name
abbrev pub is_tag : Words → Bool
is_tag x = is_some (tag_named x)

-- all attributes
abbrev pub attributes : List AttrName
attributes = attr.Title ∷ attr.Link ∷ attr.Href ∷ attr.Src ∷ attr.Alt ∷ attr.Border ∷ attr.Value ∷ attr.Size
    ∷ attr.Action ∷ []

-- whether one of these attributes has a name
abbrev pub is_attribute_of : Words → List AttrName → Bool
is_attribute_of x [] = false
is_attribute_of x (a ∷ as') = bytes_eq (attribute_text a) x || is_attribute_of x as'

-- whether there is an attribute of a name
abbrev pub is_attribute : Words → Bool
is_attribute x = is_attribute_of x attributes
