-- Where no top-level value is an instance, none is found (for `with_top`, `first_top`).
use Rattle.std.proofs.Common.{◌≡◌, ℕ, zero, suc, Bool, true, false, ◌&&◌, List, [], ◌∷◌, ◌++◌, length, map, Option, Some, None, slice_get, refl, ap, sym, ◌∙◌, if◌then◌else◌}
use Rattle.con_terms.specs.Trees.{Cn}
use Rattle.con_terms.specs.View.{con_tree}
use Rattle.con_terms.specs.declared.con.Con.{Con}
use Rattle.core_terms.specs.View.{maybe_con}
use Rattle.core_typing.specs.Scopes.{normal_of}
use Rattle.guided_terms.specs.Implied.{has_form, is_seen}
use Rattle.source_names.specs.Scopes.{Words, DeclaredValue, Declared}
use Rattle.inserted_terms.specs.Forms.{if_has_form, is_instance_form}
use Rattle.inserted_terms.specs.Searches.{first_top}
use Rattle.inserted_terms.specs.Values.{are_plain, is_nothing, type_of_value}
use Rattle.inserted_terms.specs.declared.values.TypedValue.{TypedValue}
use Rattle.inserted_terms.proofs.SameForms.{value_form}

and_more : (a b c : Bool) → (a && b) ≡ true → (b ≡ true → c ≡ true) → (a && c) ≡ true
and_more true b c h f = f h
and_more false b c h f = h

and_first : (a b : Bool) → (a && b) ≡ true → a ≡ true
and_first true b h = refl
and_first false b h = h

and_second : (a b : Bool) → (a && b) ≡ true → b ≡ true
and_second true b h = h
and_second false b h = absurd cc

-- with one more that is none
pub none_more : (vs : List TypedValue) (v : TypedValue) → are_plain vs ≡ true → is_nothing v.form ≡ true
    → are_plain (vs ++ v ∷ []) ≡ true
none_more [] v h e = ap (λ b. b && true) e
none_more (u ∷ vs) v h e =
    and_more (is_nothing u.form) (are_plain vs) (are_plain (vs ++ v ∷ [])) h (λ g. none_more vs v g e)

nothing_has : (o : Option Con) (n : Cn) → is_nothing o ≡ true → has_form (maybe_con o) n ≡ false
nothing_has None n e = refl
nothing_has (Some c) n e = absurd cc

no_form : (v : TypedValue) (n : Cn) → is_instance_form n ≡ true → is_nothing v.form ≡ true
    → has_form (normal_of (type_of_value v)) n ≡ false
no_form v n is e = sym (value_form (maybe_con v.form) (con_tree v.con) n v.formed is) ∙ nothing_has v.form n e

none_at : (vs : List TypedValue) (n : Cn) (i : ℕ) → is_instance_form n ≡ true → are_plain vs ≡ true
    → if_has_form (slice_get (map type_of_value vs) i) n ≡ false
none_at [] n zero is h = refl
none_at [] n (suc i) is h = refl
none_at (v ∷ vs) n zero is h = no_form v n is (and_first (is_nothing v.form) (are_plain vs) h)
none_at (v ∷ vs) n (suc i) is h = none_at vs n i is (and_second (is_nothing v.form) (are_plain vs) h)

if_none : (a b : Bool) (i : ℕ) (o : Option ℕ) → a ≡ false → (if a && b then Some i else o) ≡ o
if_none true b i o e = absurd cc
if_none false b i o e = refl

pub no_top : (vs : List TypedValue) (n : Cn) (xs : List Words) (d : Declared) (ds : List DeclaredValue)
    → is_instance_form n ≡ true → are_plain vs ≡ true → first_top xs d (map type_of_value vs) n ds ≡ None
no_top vs n xs d [] is h = refl
no_top vs n xs d (x ∷ ds) is h =
    if_none (if_has_form (slice_get (map type_of_value vs) (length ds)) n) (is_seen xs d x (length ds)) (length ds)
    (first_top xs d (map type_of_value vs) n ds) (none_at vs n (length ds) is h)
    ∙ no_top vs n xs d ds is h
