-- What is known of a program, piece by piece.
use Rattle.std.proofs.Common.{◌≡◌, ℕ, List, map, ap, ◌∙◌}
use Rattle.con_terms.specs.declared.place.Place.{Place}
use Rattle.core_terms.specs.Trees.{Pg}
use Rattle.shown_types.specs.Names.{Declared, Known}
use Rattle.shown_types.specs.Programs.{all_declared, folder_symbol, known_of, known_by}

pub known_is : (p : Pg) (types : List Declared) (folders : List ℕ) (place at : Place)
    → types ≡ all_declared p.decls → folders ≡ map folder_symbol p.folders → place ≡ at
    → record { texts = p.names; modules = p.modules; types = types; folders = folders; file = place.file } ≡ known_of p at.file
known_is p types folders place at e f g =
    ap (λ (ts : List Declared). let k : Known = record { texts = p.names; modules = p.modules; types = ts; folders = folders; file = place.file } in k) e
    ∙ ap (λ (fs : List ℕ). let k : Known = record { texts = p.names; modules = p.modules; types = all_declared p.decls; folders = fs; file = place.file } in k) f
    ∙ ap (λ (q : Place). known_of p q.file) g

pub known_here : (texts modules : List (List ℕ)) (place at : Place) → place ≡ at → known_by texts modules place.file ≡ known_by texts modules at.file
known_here texts modules place at g = ap (λ (q : Place). known_by texts modules q.file) g
