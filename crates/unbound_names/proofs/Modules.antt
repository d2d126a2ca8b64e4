-- Modules in their order.
use Rattle.std.proofs.Common.{◌≡◌, ℕ, suc, ◌+◌, ◌<◌, ◌≤◌, Bool, false, List, [], length, map, get_or, ap, sym, ◌∙◌, arith}
use Rattle.std.proofs.lemmas.List.{get_or-map, get_or_past, length-map}
use Rattle.plain_tree.specs.View.{plain_view}
use Rattle.plain_tree.specs.declared.decl.Plain.{Plain}
use Rattle.source_names.specs.Scopes.{Words, Declared, Tables, begin_module}
use Rattle.unbound_names.specs.Asked.{Ask}
use Rattle.unbound_names.specs.Declarations.{unbound_decls, declared_behind_all}
use Rattle.unbound_names.specs.InScope.{tables_with}
use Rattle.unbound_names.specs.Programs.{declared_before, unbound}

tree_at : (trees : List Plain) (i : ℕ) (x : Plain) → i < length trees →
    plain_view (get_or trees i x) ≡ get_or (map plain_view trees) i []
tree_at trees i x h = sym (get_or-map plain_view trees i x [] h)

-- what is declared behind one module more, where the next one begins
pub known_more : (names : List Words) (trees : List Plain) (i : ℕ) (x : Plain) (d e f : Declared) →
    i < length trees → d ≡ declared_before names (map plain_view trees) i →
    e ≡ declared_behind_all (plain_view (get_or trees i x)) d → f ≡ begin_module (get_or names (i + 1) []) e →
    f ≡ declared_before names (map plain_view trees) (i + 1)
known_more names trees i x d e f h before behind begins =
    let next : suc i ≡ i + 1 = omega arith in
    begins
    ∙ ap (begin_module (get_or names (i + 1) []))
    (behind ∙ ap (λ z. declared_behind_all (plain_view (get_or trees i x)) z) before
    ∙ ap (λ z. declared_behind_all z (declared_before names (map plain_view trees) i)) (tree_at trees i x h))
    ∙ ap (λ n. begin_module (get_or names n [])
    (declared_behind_all (get_or (map plain_view trees) i []) (declared_before names (map plain_view trees) i)))
    (sym next)
    ∙ ap (declared_before names (map plain_view trees)) next

-- no name stands behind the last module
pub none_past : (names : List Words) (trees : List Plain) (es : List (Words × Words)) (file at : ℕ) (x : Words) →
    length trees ≤ file → false ≡ unbound names (map plain_view trees) es file at x
none_past names trees es file at x h = sym
    (ap (unbound_decls (record { at = at; written = x }) (tables_with es)
    (declared_before names (map plain_view trees) file)) (get_or_past (map plain_view trees) file []
    (let e : length (map plain_view trees) ≡ length trees = length-map trees plain_view in omega (arith, e, h))))

-- names of the module with a number
pub in_module : (names : List Words) (trees : List Plain) (es : List (Words × Words)) (file at : ℕ) (x : Words)
    (m : Plain) (d : Declared) → file < length trees →
    d ≡ declared_before names (map plain_view trees) file →
    unbound_decls (record { at = at; written = x }) (tables_with es) d (plain_view (get_or trees file m))
    ≡ unbound names (map plain_view trees) es file at x
in_module names trees es file at x m d h before =
    ap (λ z. unbound_decls (record { at = at; written = x }) (tables_with es) z
    (plain_view (get_or trees file m))) before
    ∙ ap (unbound_decls (record { at = at; written = x }) (tables_with es)
    (declared_before names (map plain_view trees) file)) (tree_at trees file m h)
