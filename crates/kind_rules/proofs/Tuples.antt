-- The kind of a tuple, from a list of kinds.
use Rattle.std.proofs.Common.{◌≡◌, ℕ, ◌≤◌, List, [], ◌∷◌, ◌++◌, map, take, vec_len, Vec, Global, refl, ap, sym, ◌∙◌, arith, rules, zero, suc, length, Err}
use Rattle.std.proofs.lemmas.List.{map-append}
use Rattle.std.proofs.lemmas.Option.{slice_get_past}
use Rattle.kind_rules.specs.Flaws.{Flw, kinds_differ}
use Rattle.kind_rules.specs.Rules.{or_flaw, component_kind}
use Rattle.con_terms.specs.Trees.{Kd, types, tuple_of, kind_list}
use Rattle.con_terms.specs.View.{kind_tree, kinds_tree, kinds_from}
use Rattle.con_terms.specs.declared.kind.Kind.{Kind, Types, Tuple}
use Rattle.con_terms.specs.declared.kind.Kinds.{Kinds}
use Rattle.con_terms.specs.declared.kind.Kind.TheViews.{roll-Kinds, out-Kinds}
use Rattle.con_terms.specs.declared.kind.Kind.TheFolds.{the_lemmas}
use Rattle.con_terms.proofs.Lists.{kinds_tree_is, kinds_listed}

pub take_past : {X : Type 0} (xs : List X) (i : ℕ) → length xs ≤ i → take i xs ≡ xs
take_past [] zero h = refl
take_past [] (suc i) h = refl
take_past (x ∷ xs) zero h = absurd (omega (arith, h))
take_past (x ∷ xs) (suc i) h = ap (λ ys. x ∷ ys) (take_past xs i (omega (arith, h)))

types_is : kind_tree Types ≡ types
types_is = search (rules, the_lemmas)

tuple_tree : (ks : Kinds) → kind_tree (Tuple ks) ≡ tuple_of (kinds_tree ks)
tuple_tree ks = search (rules, the_lemmas)

pub tuple_is : (v : Vec Kind Global) → kind_tree (Tuple (roll-Kinds (record { items = v }))) ≡ tuple_of (kinds_from (map kind_tree v.items))
tuple_is v = tuple_tree (roll-Kinds (record { items = v })) ∙ ap tuple_of (kinds_tree_is (roll-Kinds (record { items = v })))

-- one component more, of kind Type
pub longer_is : (ks : Kinds) (v : Vec Kind Global) (xs : List Kind) (i : ℕ) → vec_len (out-Kinds ks).items ≤ i → map kind_tree xs ≡ map kind_tree (take i (out-Kinds ks).items.items) → v.items ≡ xs ++ Types ∷ [] →
    kind_tree (Tuple (roll-Kinds (record { items = v }))) ≡ tuple_of (kinds_from (kind_list (kinds_tree ks) ++ types ∷ []))
longer_is ks v xs i h same is =
    tuple_is v
    ∙ ap (λ ls. tuple_of (kinds_from ls))
    (ap (map kind_tree) is ∙ map-append kind_tree xs (Types ∷ []) ∙ ap (λ t. map kind_tree xs ++ t ∷ []) types_is
    ∙ ap (λ ls. ls ++ types ∷ []) (same ∙ ap (map kind_tree) (take_past (out-Kinds ks).items.items i (omega (arith, (out-Kinds ks).items.ok.0))) ∙ sym (kinds_listed ks)))

-- what is told of a component that there isn't
pub no_component : (ks : Kinds) (n : ℕ) (e : Flw) (wanted : Kd) → length (kind_list (kinds_tree ks)) ≤ n → e ≡ kinds_differ wanted (kind_tree (Tuple ks)) →
    wanted ≡ tuple_of (kinds_from (kind_list (kinds_tree ks) ++ types ∷ [])) → Err e ≡ component_kind n (tuple_of (kinds_tree ks))
no_component ks n e wanted h is want =
    let longer : Kd = tuple_of (kinds_from (kind_list (kinds_tree ks) ++ types ∷ [])) in
    ap Err (is ∙ ap (λ w. kinds_differ w (kind_tree (Tuple ks))) want ∙ ap (kinds_differ longer) (tuple_tree ks))
    ∙ sym (ap (or_flaw (kinds_differ longer (tuple_of (kinds_tree ks)))) (slice_get_past (kind_list (kinds_tree ks)) n h))
