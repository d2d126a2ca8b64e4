-- The names of values in links, and the values of declarations.
use Rattle.std.proofs.Common.{◌≡◌, ℕ, suc, ◌+◌, ◌<◌, ◌≤◌, List, [], ◌∷◌, ◌++◌, length, map, get_or, drop, refl, ap, sym, ◌∙◌, arith, drop_of_length-le}
use Rattle.std.proofs.lemmas.List.{append_assoc, append-nil, map-append}
use Rattle.con_terms.specs.declared.symbol.Sym.{Sym}
use Rattle.core_terms.specs.Trees.{Ex, Nms, no_named, named, Pg, De, val, vals, con_is, datatype, thing}
use Rattle.core_terms.specs.View.{NamedTree, named_from, named_tree, decl_tree}
use Rattle.core_terms.specs.declared.decl.Decl.{Decl}
use Rattle.core_terms.specs.declared.exp.Named.{Named}
use Rattle.core_typing.specs.Declarations.{Value, named_values, values}
use Rattle.site_routes.specs.Linked.{Linked, linked, named_value, decl_values}
use Rattle.site_routes.proofs.Steps.{open_at}

pub texts_on : (names : List (List ℕ)) (xs : List Sym) (i : ℕ) (x : Sym) (old new all : List (List ℕ)) (last : List ℕ) → x ≡ get_or xs i x → i < length xs →
    new ≡ old ++ get_or names x.number [] ∷ [] →
    old ++ map (λ y. get_or names y []) (map (λ s. s.number) (drop i xs) ++ last) ≡ all →
    new ++ map (λ y. get_or names y []) (map (λ s. s.number) (drop (i + 1) xs) ++ last) ≡ all
texts_on names xs i x old new all last e h n k =
    let rest = map (λ y. get_or names y []) (map (λ (s : Sym). s.number) (drop (i + 1) xs) ++ last) in
    ap (λ ys. ys ++ rest) n ∙ append_assoc old (get_or names x.number [] ∷ []) rest
    ∙ ap (λ ys. old ++ map (λ y. get_or names y []) (map (λ (s : Sym). s.number) ys ++ last)) (sym (open_at xs i x e h)) ∙ k

pub texts_end : (names : List (List ℕ)) (xs : List Sym) (i : ℕ) (old all : List (List ℕ)) (last : List ℕ) → length xs ≤ i →
    old ++ map (λ y. get_or names y []) (map (λ s. s.number) (drop i xs) ++ last) ≡ all →
    old ++ map (λ y. get_or names y []) last ≡ all
texts_end names xs i old all last h k =
    ap (λ ys. old ++ map (λ y. get_or names y []) (map (λ (s : Sym). s.number) ys ++ last)) (sym (drop_of_length-le xs h)) ∙ k

pub named_on : (p : Pg) (path : List ℕ) (xs : List Named) (i : ℕ) (x : Named) (old new all : List Linked) → x ≡ get_or xs i x → i < length xs →
    new ≡ old ++ linked p (named_value path (named_tree x)) ∷ [] →
    old ++ map (linked p) (named_values path (named_from (map named_tree (drop i xs)))) ≡ all →
    new ++ map (linked p) (named_values path (named_from (map named_tree (drop (i + 1) xs)))) ≡ all
named_on p path xs i x old new all e h n k =
    let rest = map (linked p) (named_values path (named_from (map named_tree (drop (i + 1) xs)))) in
    ap (λ ys. ys ++ rest) n ∙ append_assoc old (linked p (named_value path (named_tree x)) ∷ []) rest
    ∙ ap (λ ys. old ++ map (linked p) (named_values path (named_from (map named_tree ys)))) (sym (open_at xs i x e h)) ∙ k

pub values_more : (d : De) (ds : List De) → values (d ∷ ds) ≡ decl_values d ++ values ds
values_more (val path p x w t e) ds = refl
values_more (vals path ns) ds = ap (λ ys. ys ++ values ds) (sym (append-nil (named_values path ns)))
values_more (con_is path p x w k c) ds = refl
values_more (datatype d) ds = refl
values_more (thing path p x k t) ds = refl

pub values_on : (p : Pg) (xs : List Decl) (i : ℕ) (x : Decl) (old new all : List Linked) → x ≡ get_or xs i x → i < length xs →
    new ≡ old ++ map (linked p) (decl_values (decl_tree x)) →
    old ++ map (linked p) (values (map decl_tree (drop i xs))) ≡ all →
    new ++ map (linked p) (values (map decl_tree (drop (i + 1) xs))) ≡ all
values_on p xs i x old new all e h n k =
    let ds = map decl_tree (drop (i + 1) xs) in
    ap (λ ys. ys ++ map (linked p) (values ds)) n ∙ append_assoc old (map (linked p) (decl_values (decl_tree x))) (map (linked p) (values ds))
    ∙ ap (λ ys. old ++ ys) (sym (map-append (linked p) (decl_values (decl_tree x)) (values ds)))
    ∙ ap (λ ys. old ++ map (linked p) ys) (sym (values_more (decl_tree x) ds))
    ∙ ap (λ ys. old ++ map (linked p) (values (map decl_tree ys))) (sym (open_at xs i x e h)) ∙ k

pub values_end : (p : Pg) (xs : List Decl) (i : ℕ) (old all : List Linked) → length xs ≤ i →
    old ++ map (linked p) (values (map decl_tree (drop i xs))) ≡ all → old ≡ all
values_end p xs i old all h k =
    sym (append-nil old) ∙ ap (λ ys. old ++ map (linked p) (values (map decl_tree ys))) (sym (drop_of_length-le xs h)) ∙ k
