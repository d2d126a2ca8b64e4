-- A form of the source against what is left of a term, told in other words.
use Rattle.std.proofs.Common.{◌≡◌, Bool, ◌&&◌, ap, sym, ◌∙◌}
use Rattle.core_terms.specs.Trees.{Fo}
use Rattle.plain_tree.specs.Trees.{FormTree}
use Rattle.source_names.specs.Scopes.{Scope}
use Rattle.source_terms.specs.Terms.{reads_form}

pub at_form : (s : Scope) (m n : FormTree) (f g : Fo) (found before : Bool) → found ≡ (reads_form s m f && before)
    → f ≡ g → n ≡ m → found ≡ (reads_form s n g && before)
at_form s m n f g found before h e k =
    h ∙ ap (λ z. reads_form s m z && before) e ∙ sym (ap (λ z. reads_form s z g && before) k)
