-- What a name stands for is in scope, also where only names are known.
use Rattle.std.proofs.Common.{◌≡◌, ℕ, ◌==◌, Bool, true, false, ◌&&◌, List, [], ◌∷◌, map, Option, Some, None}
use Rattle.std.proofs.Common.{codes, if◌then◌else◌, refl, ap, sym, ◌∙◌}
use Rattle.std.specs.Str.{bytes_eq}
use Rattle.std.proofs.lemmas.Slice.Eq.{bytes_eq-Decides}
use Rattle.std.proofs.lemmas.Bool.{or_left as first_is, or_right as second_is}
use Rattle.con_terms.specs.Trees.{Cn}
use Rattle.core_terms.specs.BasisTexts.{value_text}
use Rattle.core_terms.specs.Trees.{Fo, basis, fold_over}
use Rattle.plain_tree.specs.declared.names.Path.{Path}
use Rattle.source_names.specs.Scopes.{Words, DeclaredType, DeclaredBuilder, Tables, Scope}
use Rattle.source_names.specs.Standing.{type_in, builder_in, in_home, binder_at, home_of, value_in, undeclared}
use Rattle.source_names.specs.Standing.{first_of, Meant, a_binder, a_top, an_effect, of_basis, nothing, value_means}
use Rattle.source_names.specs.Standing.{is_meant, names_value, MeantType, a_con, a_folder, a_map, no_type}
use Rattle.source_names.specs.Standing.{first_type_of, undeclared_type, type_means, is_meant_type, names_type, or_else}
use Rattle.source_names.specs.Standing.{undeclared_builder, builder_means, is_meant_builder, names_builder}
use Rattle.unbound_names.specs.Asked.{Ask, is_asked, is_path_asked}
use Rattle.unbound_names.specs.InScope.{tables_with, is_some, is_value_of, basis_values, is_there, is_type_there}
use Rattle.unbound_names.specs.InScope.{type_in_scope, builder_in_scope, is_tag}
use Rattle.unbound_names.specs.Patterns.{unbound_constructor}
use Rattle.unbound_names.specs.Terms.{unbound_value, unbound_tag, unbound_attribute}
use Rattle.unbound_names.specs.Types.{unbound_type}
use Rattle.unbound_names.proofs.BasisNames.{value_there, attribute_there}
use Rattle.xml_trees.specs.SourceNames.{tag_text, attribute_text}
use Rattle.xml_trees.specs.declared.source_name.AttrName.{AttrName}
use Rattle.xml_trees.specs.declared.source_name.TagName.{TagName}
use Rattle.xml_trees.specs.declared.source_name.TagName.TheVariants as tag
use Rattle.bound_sources.proofs.Clear.{Clear, no, asked}
use Rattle.bound_sources.proofs.Bare.{bare_type, bare_builder, bare_scope}

same_text : (x y : Words) → bytes_eq x y ≡ true → x ≡ y
same_text x y h = (bytes_eq-Decides x y).0 h

-- Values.

undeclared_bare : (t : Tables) (ms : List Words) (x : Words)
    → undeclared (tables_with t.effects) ms x ≡ undeclared t ms x
undeclared_bare t [] x = refl
undeclared_bare t (m ∷ []) x = refl
undeclared_bare t (m ∷ n ∷ ms) x = refl

value_bare : (s : Scope) (p : Path) → value_means (bare_scope s) p ≡ value_means s p
value_bare s p = ap (first_of (binder_at p.modules p.name s.values)
    (in_home (home_of p.modules s.declared.modules) (value_in p.name s.declared.values)))
    (undeclared_bare s.tables p.modules p.name)

meant_is_there : (m : Meant) (f : Fo) → is_meant m f ≡ true → is_there m ≡ true
meant_is_there (a_binder i) f h = refl
meant_is_there (a_top i) f h = refl
meant_is_there (an_effect i) f h = refl
meant_is_there (of_basis x) (basis b) h =
    first_is (is_value_of x basis_values) (bytes_eq (codes "fold") x)
    (sym (value_there b x (same_text (value_text b) x h)))
meant_is_there (of_basis x) (fold_over k) h = second_is (is_value_of x basis_values) (bytes_eq (codes "fold") x) h
meant_is_there (of_basis x) _ h = no h
meant_is_there nothing f h = no h

pub value_clear : (q : Ask) (s : Scope) (at : ℕ) (p : Path) (f : Fo)
    → Clear (names_value s p f) (unbound_value q (bare_scope s) at p)
value_clear q s at p f = asked (is_path_asked q at p)
    (λ h. ap is_there (value_bare s p) ∙ meant_is_there (value_means s p) f h)

-- The type level.

chosen : {A : Type 0} (b : Bool) (x y : A) (o r : Option A) → is_some o ≡ is_some r
    → is_some (if b then Some x else o) ≡ is_some (if b then Some y else r)
chosen true x y o r h = refl
chosen false x y o r h = h

type_bare : (x : Words) (ts : List DeclaredType) (h : ℕ)
    → is_some (type_in x (map bare_type ts) h) ≡ is_some (type_in x ts h)
type_bare x [] h = refl
type_bare x (t ∷ ts) h = chosen (t.home == h && bytes_eq t.name x) (bare_type t).means t.means
    (type_in x (map bare_type ts) h) (type_in x ts h) (type_bare x ts h)

home_bare : {A : Type 0} (o : Option ℕ) (f g : ℕ → Option A) → ((h : ℕ) → is_some (f h) ≡ is_some (g h))
    → is_some (in_home o f) ≡ is_some (in_home o g)
home_bare None f g e = refl
home_bare (Some h) f g e = e h

first_bare : (b : Option ℕ) (c d : Option Cn) (m : MeantType) → is_some c ≡ is_some d
    → is_type_there (first_type_of b c m) ≡ is_type_there (first_type_of b d m)
first_bare (Some i) c d m h = refl
first_bare None None None m h = refl
first_bare None (Some c) (Some d) m h = refl
first_bare None None (Some d) m h = no h
first_bare None (Some c) None m h = no (sym h)

type_scope_bare : (s : Scope) (p : Path) → type_in_scope (bare_scope s) p ≡ type_in_scope s p
type_scope_bare s p = first_bare (binder_at p.modules p.name s.variables)
    (in_home (home_of p.modules s.declared.modules) (type_in p.name (map bare_type s.declared.types)))
    (in_home (home_of p.modules s.declared.modules) (type_in p.name s.declared.types))
    (undeclared_type p.modules p.name)
    (home_bare (home_of p.modules s.declared.modules) (type_in p.name (map bare_type s.declared.types))
    (type_in p.name s.declared.types) (type_bare p.name s.declared.types))

meant_type_is_there : (t : Tables) (m : MeantType) (c : Cn) → is_meant_type t m c ≡ true → is_type_there m ≡ true
meant_type_is_there t (a_con d) c h = refl
meant_type_is_there t a_folder c h = refl
meant_type_is_there t a_map c h = refl
meant_type_is_there t no_type c h = no h

pub type_clear : (q : Ask) (s : Scope) (at : ℕ) (p : Path) (c : Cn)
    → Clear (names_type s p c) (unbound_type q (bare_scope s) at p)
type_clear q s at p c = asked (is_path_asked q at p)
    (λ h. type_scope_bare s p ∙ meant_type_is_there s.tables (type_means s p) c h)

-- Constructors of datatypes.

builder_bare : (x : Words) (bs : List DeclaredBuilder) (h : ℕ)
    → is_some (builder_in x (map bare_builder bs) h) ≡ is_some (builder_in x bs h)
builder_bare x [] h = refl
builder_bare x (b ∷ bs) h = chosen (b.home == h && bytes_eq b.name x) (0, 0) (b.datatype, b.index)
    (builder_in x (map bare_builder bs) h) (builder_in x bs h) (builder_bare x bs h)

else_bare : {A : Type 0} (o r m : Option A) → is_some o ≡ is_some r → is_some (or_else o m) ≡ is_some (or_else r m)
else_bare None None m h = refl
else_bare (Some a) (Some b) m h = refl
else_bare None (Some b) m h = no h
else_bare (Some a) None m h = no (sym h)

builder_scope_bare : (s : Scope) (p : Path) → builder_in_scope (bare_scope s) p ≡ builder_in_scope s p
builder_scope_bare s p = else_bare
    (in_home (home_of p.modules s.declared.modules) (builder_in p.name (map bare_builder s.declared.builders)))
    (in_home (home_of p.modules s.declared.modules) (builder_in p.name s.declared.builders))
    (undeclared_builder p.modules p.name)
    (home_bare (home_of p.modules s.declared.modules) (builder_in p.name (map bare_builder s.declared.builders))
    (builder_in p.name s.declared.builders) (builder_bare p.name s.declared.builders))

meant_builder_is_there : (o : Option (ℕ × ℕ)) (d i : ℕ) → is_meant_builder o d i ≡ true → is_some o ≡ true
meant_builder_is_there None d i h = no h
meant_builder_is_there (Some b) d i h = refl

pub builder_clear : (q : Ask) (s : Scope) (at : ℕ) (p : Path) (d i : ℕ)
    → Clear (names_builder s p d i) (unbound_constructor q (bare_scope s) at p)
builder_clear q s at p d i = asked (is_path_asked q at p)
    (λ h. builder_scope_bare s p ∙ meant_builder_is_there (builder_means s p) d i h)

-- Tags and attributes.

tag_of_its_text : (g : TagName) → is_tag (tag_text g) ≡ true
tag_of_its_text tag.Head = refl
tag_of_its_text tag.Body = refl
tag_of_its_text tag.Title = refl
tag_of_its_text tag.P = refl
tag_of_its_text tag.Div = refl
tag_of_its_text tag.Span = refl
tag_of_its_text tag.B = refl
tag_of_its_text tag.I = refl
tag_of_its_text tag.Em = refl
tag_of_its_text tag.Strong = refl
tag_of_its_text tag.H1 = refl
tag_of_its_text tag.H2 = refl
tag_of_its_text tag.H3 = refl
tag_of_its_text tag.H4 = refl
tag_of_its_text tag.Ul = refl
tag_of_its_text tag.Ol = refl
tag_of_its_text tag.Li = refl
tag_of_its_text tag.Code = refl
tag_of_its_text tag.Blockquote = refl
tag_of_its_text tag.Br = refl
tag_of_its_text tag.Hr = refl
tag_of_its_text tag.A = refl
tag_of_its_text tag.Img = refl
tag_of_its_text tag.Table = refl
tag_of_its_text tag.Tr = refl
tag_of_its_text tag.Th = refl
tag_of_its_text tag.Td = refl
tag_of_its_text tag.Form = refl
tag_of_its_text tag.Textbox = refl
tag_of_its_text tag.Password = refl
tag_of_its_text tag.Hidden = refl
tag_of_its_text tag.Checkbox = refl
tag_of_its_text tag.Submit = refl

pub tag_clear : (q : Ask) (at : ℕ) (g : TagName) (x : Words) → Clear (bytes_eq (tag_text g) x) (unbound_tag q at x)
tag_clear q at g x = asked (is_asked q at x)
    (λ h. ap is_tag (sym (same_text (tag_text g) x h)) ∙ tag_of_its_text g)

pub attribute_clear : (q : Ask) (at : ℕ) (a : AttrName) (x : Words)
    → Clear (bytes_eq (attribute_text a) x) (unbound_attribute q at x)
attribute_clear q at a x = asked (is_asked q at x)
    (λ h. sym (attribute_there a x (same_text (attribute_text a) x h)))
