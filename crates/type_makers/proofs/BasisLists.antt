-- The lists of the values and types of the basis have each of them.
use Rattle.std.proofs.Common.{◌≡◌, ◌≢◌, ◌<◌, ℕ, List, [], ◌∷◌, length, get_or, refl, subst, arith, true, nat_lt}
use denote.Enum.Declared.{tag_of}
use Rattle.std.specs.Option.{IfNone}
use Rattle.core_terms.specs.BasisTexts.{value_text, type_text}
use Rattle.core_terms.specs.declared.basis.BasisName.{BasisName}
use Rattle.core_terms.specs.declared.basis.BasisName.TheVariants as value
use Rattle.core_terms.specs.contracts.basis.BasisName as value_tags
use Rattle.core_terms.specs.declared.basis.TypeName.{TypeName}
use Rattle.core_terms.specs.declared.basis.TypeName.TheVariants as type_name
use Rattle.core_terms.specs.contracts.basis.TypeName as type_tags
use Rattle.type_makers.specs.Lookup.{first_named}
use Rattle.type_makers.proofs.Lookup.{none_at, of_all}

abbrev pub values : List BasisName
values =
    value.Return ∷ value.Bind ∷ value.Error ∷ value.Not ∷ value.Strcat ∷ value.Plus ∷ value.Minus ∷
    value.Times ∷ value.Divide ∷ value.Mod ∷ value.Neg ∷ value.Eq ∷ value.Ne ∷ value.Lt ∷ value.Le ∷
    value.Show ∷ value.MkShow ∷ value.MkEq ∷ value.Txt ∷ value.Cdata ∷ value.Join ∷ value.Bless ∷ value.Query ∷
    value.QueryX ∷ value.OneRow ∷ value.OneOrNoRows ∷ value.Dml ∷ value.Nextval ∷ value.GetCookie ∷
    value.SetCookie ∷ value.ClearCookie ∷ value.NumInt ∷ value.ShowInt ∷ value.ShowString ∷ value.ShowBool ∷
    value.EqInt ∷ value.EqString ∷ value.EqBool ∷ value.OrdInt ∷ value.OrdString ∷ value.OrdBool ∷
    value.SqlInt ∷ value.SqlString ∷ value.SqlBool ∷ []

abbrev pub types : List TypeName
types =
    type_name.Int ∷ type_name.String ∷ type_name.Url ∷ type_name.Unit ∷ type_name.Bool ∷ type_name.Option ∷
    type_name.List ∷ type_name.Transaction ∷ type_name.Xml ∷ type_name.Page ∷ type_name.Xbody ∷
    type_name.Xtable ∷ type_name.Xtr ∷ type_name.Show ∷ type_name.Eq ∷ type_name.Ord ∷ type_name.Num ∷
    type_name.SqlTable ∷ type_name.SqlQuery ∷ type_name.SqlExp ∷ type_name.Dml ∷ type_name.SqlSequence ∷
    type_name.HttpCookie ∷ type_name.SqlInjectable ∷ []

less : (a b : ℕ) → nat_lt a b ≡ true → a < b
less a b h = search (arith, h)

value_found : (v : BasisName) → get_or values (tag_of value_tags.the_type v) value.Return ≡ v
value_found value.Return = refl
value_found _ = refl

value_low : (v : BasisName) → nat_lt (tag_of value_tags.the_type v) (length values) ≡ true
value_low value.Return = refl
value_low _ = refl

type_found : (t : TypeName) → get_or types (tag_of type_tags.the_type t) type_name.Int ≡ t
type_found type_name.Int = refl
type_found _ = refl

type_low : (t : TypeName) → nat_lt (tag_of type_tags.the_type t) (length types) ≡ true
type_low type_name.Int = refl
type_low _ = refl

-- where no value was found none has the name
pub no_value : (text : List ℕ) → IfNone (first_named value_text values text) ((v : BasisName) → value_text v ≢ text)
no_value text = of_all (first_named value_text values text) (λ v. value_text v ≢ text)
    (λ v. subst (λ w. IfNone (first_named value_text values text) (value_text w ≢ text)) (value_found v)
    (none_at value_text values text (tag_of value_tags.the_type v) value.Return (less _ _ (value_low v))))

-- where no type was found none has the name
pub no_type : (text : List ℕ) → IfNone (first_named type_text types text) ((t : TypeName) → type_text t ≢ text)
no_type text = of_all (first_named type_text types text) (λ t. type_text t ≢ text)
    (λ t. subst (λ u. IfNone (first_named type_text types text) (type_text u ≢ text)) (type_found t)
    (none_at type_text types text (tag_of type_tags.the_type t) type_name.Int (less _ _ (type_low t))))
