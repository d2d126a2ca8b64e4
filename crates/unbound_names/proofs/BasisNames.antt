-- Values, types and attributes that every program has, by their names.
use Rattle.std.proofs.Common.{◌≡◌, ◌≢◌, true, false, ◌||◌, List, ◌∷◌, refl, ap, sym, ◌∙◌, []}
use Rattle.core_terms.specs.BasisTexts.{value_text}
use Rattle.core_terms.specs.declared.basis.BasisName.{BasisName}
use Rattle.core_terms.specs.declared.basis.BasisName.TheVariants as value
use Rattle.core_terms.specs.declared.basis.TypeName.TheVariants as type_name
use Rattle.source_names.specs.Scopes.{Words}
use Rattle.unbound_names.specs.InScope.{is_value_of, basis_values, is_attribute_of, attributes}
use Rattle.xml_trees.specs.SourceNames.{attribute_text}
use Rattle.xml_trees.specs.declared.source_name.AttrName.{AttrName}
use Rattle.xml_trees.specs.declared.source_name.AttrName.TheVariants as attr
use Rattle.source_names.proofs.BasisTypes.{differs}
pub use Rattle.source_names.proofs.BasisTypes.{type_is}

value_of_its_text : (v : BasisName) → is_value_of (value_text v) basis_values ≡ true
value_of_its_text value.Return = refl
value_of_its_text value.Bind = refl
value_of_its_text value.Error = refl
value_of_its_text value.Not = refl
value_of_its_text value.Strcat = refl
value_of_its_text value.Plus = refl
value_of_its_text value.Minus = refl
value_of_its_text value.Times = refl
value_of_its_text value.Divide = refl
value_of_its_text value.Mod = refl
value_of_its_text value.Neg = refl
value_of_its_text value.Eq = refl
value_of_its_text value.Ne = refl
value_of_its_text value.Lt = refl
value_of_its_text value.Le = refl
value_of_its_text value.Show = refl
value_of_its_text value.MkShow = refl
value_of_its_text value.MkEq = refl
value_of_its_text value.Txt = refl
value_of_its_text value.Cdata = refl
value_of_its_text value.Join = refl
value_of_its_text value.Bless = refl
value_of_its_text value.Query = refl
value_of_its_text value.QueryX = refl
value_of_its_text value.OneRow = refl
value_of_its_text value.OneOrNoRows = refl
value_of_its_text value.Dml = refl
value_of_its_text value.Nextval = refl
value_of_its_text value.GetCookie = refl
value_of_its_text value.SetCookie = refl
value_of_its_text value.ClearCookie = refl
value_of_its_text value.NumInt = refl
value_of_its_text value.ShowInt = refl
value_of_its_text value.ShowString = refl
value_of_its_text value.ShowBool = refl
value_of_its_text value.EqInt = refl
value_of_its_text value.EqString = refl
value_of_its_text value.EqBool = refl
value_of_its_text value.OrdInt = refl
value_of_its_text value.OrdString = refl
value_of_its_text value.OrdBool = refl
value_of_its_text value.SqlInt = refl
value_of_its_text value.SqlString = refl
value_of_its_text value.SqlBool = refl

pub no_value_of : (x : Words) (vs : List BasisName) → ((v : BasisName) → value_text v ≢ x) → is_value_of x vs ≡ false
no_value_of x [] h = refl
no_value_of x (v ∷ vs) h = ap (λ b. b || is_value_of x vs) (differs (value_text v) x (h v)) ∙ no_value_of x vs h

pub value_there : (v : BasisName) (x : Words) → value_text v ≡ x → true ≡ is_value_of x basis_values
value_there v x e = sym (ap (λ y. is_value_of y basis_values) (sym e) ∙ value_of_its_text v)

attribute_of_its_text : (a : AttrName) → is_attribute_of (attribute_text a) attributes ≡ true
attribute_of_its_text attr.Title = refl
attribute_of_its_text attr.Link = refl
attribute_of_its_text attr.Href = refl
attribute_of_its_text attr.Src = refl
attribute_of_its_text attr.Alt = refl
attribute_of_its_text attr.Border = refl
attribute_of_its_text attr.Value = refl
attribute_of_its_text attr.Size = refl
attribute_of_its_text attr.Action = refl

pub no_attribute_of : (x : Words) (as' : List AttrName) → ((a : AttrName) → attribute_text a ≢ x)
    → is_attribute_of x as' ≡ false
no_attribute_of x [] h = refl
no_attribute_of x (a ∷ as') h =
    ap (λ b. b || is_attribute_of x as') (differs (attribute_text a) x (h a)) ∙ no_attribute_of x as' h

pub attribute_there : (a : AttrName) (x : Words) → attribute_text a ≡ x → true ≡ is_attribute_of x attributes
attribute_there a x e = sym (ap (λ y. is_attribute_of y attributes) (sym e) ∙ attribute_of_its_text a)
