-- Laws of all forms that speak of the words with which forms begin, computed over a list in which the words of each
-- form are found once.
use Rattle.std.proofs.Common.{◌≡◌, ◌<◌, ℕ, zero, suc, List, [], ◌∷◌, map, length, get_or, refl, ap, ◌∙◌, subst, arith, Bool, true, ltb-true}
use denote.Enum.Declared.{tag_of}
use Rattle.surface_tree.specs.declared.kind.Kind.{Kind}
use Rattle.surface_grammar.specs.declared.form.Form.{Form}
use Rattle.surface_grammar.specs.declared.form.Form.TheVariants as f
use Rattle.surface_grammar.specs.contracts.form.Form.{the_type}
use Rattle.surface_grammar.specs.Firsts.{first_in, first_of}
use Rattle.surface_grammar.proofs.Every.{forms, every_form, of_each, found, low}

-- what a list holds for the form, in the order of the forms
abbrev pub in_list : List (List Kind) → Form → List Kind
in_list table g = get_or table (tag_of the_type g) []

get_mapped : (first : Form → List Kind) (gs : List Form) (i : ℕ) (d : Form) → i < length gs
    → get_or (map first gs) i [] ≡ first (get_or gs i d)
get_mapped first [] i d h = absurd (omega arith)
get_mapped first (g ∷ gs) zero d h = refl
get_mapped first (g ∷ gs) (suc i) d h = get_mapped first gs i d (omega arith)

listed : (g : Form) → in_list (map (first_in 16) forms) g ≡ first_of g
unfolding first_of
listed g =
    get_mapped (first_in 16) forms (tag_of the_type g) f.KindTerm (ltb-true (tag_of the_type g) (length forms) (low g))
    ∙ ap (first_in 16) (found g)

abbrev every_by : ((Form → List Kind) → Form → Bool) → List (List Kind) → Bool
every_by p table = every_form (p (in_list table)) forms

-- what is computed with the list holds of each form
pub of_each_by : (p : (Form → List Kind) → Form → Bool) → every_by p (map (first_in 16) forms) ≡ true → (g : Form)
    → p first_of g ≡ true
of_each_by p h g =
    subst (λ (first : Form → List Kind). p first g ≡ true) (λ i x. listed x i)
    (of_each (p (in_list (map (first_in 16) forms))) h g)
