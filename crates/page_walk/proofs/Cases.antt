-- The name of a constructor of a datatype.
use Rattle.std.proofs.Common.{◌≡◌, ℕ, List, ◌∷◌, Option, Some, None, option_map, slice_get, refl, ap, sym, ◌∙◌, subst}
use Rattle.core_terms.specs.Trees.{Cd, Dt}
use Rattle.core_terms.specs.Datatypes.{datatype_of}
use Rattle.core_terms.specs.declared.program.Program.{Program}
use Rattle.value_trees.specs.Wired.{constructor_text}
use Rattle.run_values.specs.Known.{constructor_in, case_is}
use Rattle.run_values.specs.declared.known.Case.{Case}
use Rattle.page_walk.specs.Links.{datatypes_in}
use Rattle.page_walk.specs.Adding.{Adds, IsAdded}
use Rattle.page_walk.specs.declared.links.Link.{Link}

abbrev pub text_where : List (List ℕ) → Option Cd → Option (List ℕ)
text_where names o = elim o [ None ↦ None | Some c ↦ slice_get names c.name ]

in_datatype : (names : List (List ℕ)) (j : ℕ) (o : Option Dt)
    → (elim o as (λ _. Option (List ℕ)) [ None ↦ None | Some d ↦ text_where names (slice_get d.constructors j) ]) ≡ text_where names (elim o as (λ _. Option Cd) [ None ↦ None | Some d ↦ slice_get d.constructors j ])
in_datatype names j None = refl
in_datatype names j (Some d) = refl

told_text : (names : List (List ℕ)) (ds : List Dt) (s j : ℕ) → constructor_text names ds s j ≡ text_where names (constructor_in ds s j)
told_text names ds s j = in_datatype names j (datatype_of ds s)

none_there : (names : List (List ℕ)) (o : Option Cd) → None ≡ option_map case_is o → text_where names o ≡ None
none_there names None h = refl
none_there names (Some c) h = absurd (cc)

one_there : (names : List (List ℕ)) (o : Option Cd) (k : Case) → Some k ≡ option_map case_is o → text_where names o ≡ slice_get names k.name
one_there names None k h = absurd (cc)
one_there names (Some c) k h = let e : k ≡ case_is c = cc in ap (λ (x : Case). slice_get names x.name) (sym e)

pub no_case : (p : Program) (s j : ℕ) → None ≡ option_map case_is (constructor_in (datatypes_in p) s j) → constructor_text p.names (datatypes_in p) s j ≡ None
no_case p s j h = told_text p.names (datatypes_in p) s j ∙ none_there p.names (constructor_in (datatypes_in p) s j) h

pub no_name : (p : Program) (s j : ℕ) (k : Case) → Some k ≡ option_map case_is (constructor_in (datatypes_in p) s j) → None ≡ slice_get p.names k.name
    → constructor_text p.names (datatypes_in p) s j ≡ None
no_name p s j k h e = told_text p.names (datatypes_in p) s j ∙ one_there p.names (constructor_in (datatypes_in p) s j) k h ∙ sym e

pub case_added : (p : Program) (a b : Link) (s j : ℕ) (k : Case) (t : List ℕ) → Some k ≡ option_map case_is (constructor_in (datatypes_in p) s j) → Some t ≡ slice_get p.names k.name
    → Adds a b (47 ∷ t) → IsAdded a b (constructor_text p.names (datatypes_in p) s j)
case_added p a b s j k t h e x =
    subst (IsAdded a b) (sym (told_text p.names (datatypes_in p) s j ∙ one_there p.names (constructor_in (datatypes_in p) s j) k h ∙ sym e)) x
