-- The types that every program has, by their names.
use Rattle.std.proofs.Common.{◌≡◌, ◌≢◌, Bool, false, List, [], ◌∷◌, Option, Some, None, IfSome, IfNone, refl, ap, sym, ◌∙◌, if◌then◌else◌}
use Rattle.std.specs.Str.{bytes_eq}
use Rattle.std.proofs.lemmas.Slice.Eq.{bytes_eq-Decides}
use Rattle.core_terms.specs.BasisTexts.{type_text}
use Rattle.core_terms.specs.declared.basis.TypeName.{TypeName}
use Rattle.core_terms.specs.declared.basis.TypeName.TheVariants as type_name
use Rattle.source_names.specs.Scopes.{Words}
use Rattle.source_names.specs.Standing.{type_called, type_names}
use Rattle.std.proofs.lemmas.Bool.{false_from_ne_true as unless_true}

pub differs : (x y : Words) → x ≢ y → bytes_eq x y ≡ false
differs x y h = unless_true (bytes_eq x y) (λ e. h ((bytes_eq-Decides x y).0 e))

pub called_by_its_text : (n : TypeName) → type_called (type_text n) type_names ≡ Some n
called_by_its_text type_name.Int = refl
called_by_its_text type_name.String = refl
called_by_its_text type_name.Url = refl
called_by_its_text type_name.Unit = refl
called_by_its_text type_name.Bool = refl
called_by_its_text type_name.Option = refl
called_by_its_text type_name.List = refl
called_by_its_text type_name.Transaction = refl
called_by_its_text type_name.Xml = refl
called_by_its_text type_name.Page = refl
called_by_its_text type_name.Xbody = refl
called_by_its_text type_name.Xtable = refl
called_by_its_text type_name.Xtr = refl
called_by_its_text type_name.Show = refl
called_by_its_text type_name.Eq = refl
called_by_its_text type_name.Ord = refl
called_by_its_text type_name.Num = refl
called_by_its_text type_name.SqlTable = refl
called_by_its_text type_name.SqlQuery = refl
called_by_its_text type_name.SqlExp = refl
called_by_its_text type_name.Dml = refl
called_by_its_text type_name.SqlSequence = refl
called_by_its_text type_name.HttpCookie = refl
called_by_its_text type_name.SqlInjectable = refl

pub called : (x : Words) (n : TypeName) → type_text n ≡ x → type_called x type_names ≡ Some n
called x n e = ap (λ y. type_called y type_names) (sym e) ∙ called_by_its_text n

pub not_called : (x : Words) (ns : List TypeName) → ((n : TypeName) → type_text n ≢ x) → type_called x ns ≡ None
not_called x [] h = refl
not_called x (n ∷ ns) h = ap (λ b. if b then Some n else type_called x ns) (differs (type_text n) x (h n)) ∙
    not_called x ns h

pub type_is : (o : Option TypeName) (x : Words) → IfSome o (λ n. type_text n ≡ x) → IfNone o ((n : TypeName) →
    type_text n ≢ x) →
    o ≡ type_called x type_names
type_is None x some none = sym (not_called x type_names none)
type_is (Some n) x some none = sym (called x n some)
