-- The declarations of one module more.
use Rattle.std.proofs.Common.{◌≡◌, ◌++◌, ◌∷◌, ◌+◌, ℕ, Bool, Bor, List, Option, map, ap, sym, ◌∙◌}
use Rattle.core_terms.specs.View as made_view
use Rattle.core_terms.specs.declared.decl.Decl.{Decl}
use Rattle.placed_terms.specs.Parts.{behind}
use Rattle.placed_terms.specs.Placed.{all_placed, numbered}
use Rattle.plain_tree.specs.Trees.{DeclTree}
use Rattle.plain_tree.specs.View as plain_view
use Rattle.plain_tree.specs.declared.decl.Decl as source
use Rattle.plain_tree.specs.declared.decl.Plain.{Plain}

pub module_step : (file : ℕ) (tree : Plain) (trees left : List Plain) (rest : List Decl)
    (o : Option (Bor (List Decl))) (whole : Bool) (ds : List source.Decl)
    → all_placed (numbered file (map plain_view.plain_view left)) (map made_view.decl_tree rest) ≡ whole
    → left ≡ tree ∷ trees → ds ≡ tree.decls.items.items
    → ((more : List (ℕ × DeclTree)) → behind o (λ es. all_placed more es)
    ≡ all_placed (map (λ d. (file, d)) (map plain_view.decl_tree ds) ++ more) (map made_view.decl_tree rest))
    → behind o (λ es. all_placed (numbered (file + 1) (map plain_view.plain_view trees)) es) ≡ whole
module_step file tree trees left rest o whole ds i e d h =
    let more = numbered (file + 1) (map plain_view.plain_view trees) in
    h more
    ∙ ap (λ l. all_placed (map (λ d. (file, d)) (map plain_view.decl_tree l) ++ more) (map made_view.decl_tree rest)) d
    ∙ sym (ap (λ l. all_placed (numbered file (map plain_view.plain_view l)) (map made_view.decl_tree rest)) e) ∙ i
