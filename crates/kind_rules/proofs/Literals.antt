-- Literal names that differ are apart, whatever is assumed.
use Rattle.std.proofs.Common.{◌≡◌, ℕ, ◌+◌, ◌<◌, ◌≤◌, Bool, true, false, IsTrue, ◌&&◌, ◌||◌, not, ◌==◌, List, [], ◌∷◌, ◌++◌, map, take, get_or, vec_len, Some, None, Ok, if◌then◌else◌, refl, ap, sym, ◌∙◌, arith, rules}
use Rattle.std.proofs.lemmas.Bool.{not-true}
use Rattle.std.proofs.lemmas.List.{map-append, take_more}
use Rattle.std.specs.List.{IsDistinct, AllByRecursion}
use Rattle.std.specs.Option.{option_or}
use Rattle.con_terms.specs.Trees.{Cn, name, names_of}
use Rattle.con_terms.specs.View.{con_tree, pair_tree, pairs_from, pairs_tree}
use Rattle.con_terms.specs.declared.con.Con.{Con, Name}
use Rattle.con_terms.specs.declared.con.Con.TheFolds.{the_lemmas}
use Rattle.con_terms.specs.declared.con.Pair.{Pair, out-Pair}
use Rattle.con_terms.specs.declared.con.Pairs.{Pairs, out-Pairs}
use Rattle.con_terms.specs.declared.symbol.Sym.{Sym}
use Rattle.con_terms.proofs.Lists.{pairs_tree_is}
use Rattle.disjoint_prover.proofs.Pieces.{pair_name}
use Rattle.kind_rules.proofs.Tuples.{take_past}
use Rattle.con_terms.specs.Apart.{Guards}
use Rattle.disjoint_prover.specs.Separation.{first_touch, separated_by_some}
use Rattle.row_normal.specs.NormalForm.{nf}
use Rattle.kind_rules.specs.Compared.{comparison_units, with_first, with_second, normal_forms, touch_flaw, forms_flaw, not_apart, not_apart_from, not_pairwise_apart}

name_form : (s : ℕ) → nf comparison_units (name s) ≡ Some (name s, comparison_units)
unfolding comparison_units
name_form s = refl

name_forms : (s t : ℕ) → normal_forms comparison_units (name s) (name t) ≡ Ok (name s, name t)
name_forms s t = ap (λ o. with_first o (name t)) (name_form s) ∙ ap (with_second (name s)) (name_form t)

name_separated : (gs : Guards) (s t : ℕ) → (s == t) ≡ false → first_touch gs (name s) (name t) ≡ None
name_separated gs s t e = ap (λ b. if not ((true && not b) || separated_by_some gs (name s) (name t)) then Some (name s, name t) else None) e

pub different_apart : (gs : Guards) (s t : ℕ) → (s == t) ≡ false → not_apart gs (name s) (name t) ≡ None
different_apart gs s t e = ap (forms_flaw gs) (name_forms s t) ∙ ap touch_flaw (name_separated gs s t e)

all_different : (gs : Guards) (s : ℕ) (ts : List ℕ) → AllByRecursion (λ t. (s == t) ≡ false) ts → not_apart_from gs (name s) (map name ts) ≡ None
all_different gs s [] h = refl
all_different gs s (t ∷ ts) h = ap (λ o. option_or o (not_apart_from gs (name s) (map name ts))) (different_apart gs s t h.0) ∙ all_different gs s ts h.1

pub distinct_apart : (gs : Guards) (ss : List ℕ) → IsDistinct ◌==◌ ss → not_pairwise_apart gs (map name ss) ≡ None
unfolding IsDistinct
distinct_apart gs [] h = refl
distinct_apart gs (s ∷ ss) h = ap (λ o. option_or o (not_pairwise_apart gs (map name ss))) (all_different gs s ss h.0) ∙ distinct_apart gs ss h.1

-- literal names of the program
pub name_tree : (s : Sym) → con_tree (Name s) ≡ name s.number
name_tree s = search (rules, the_lemmas)

pub two_literals : (gs : Guards) (a b : Cn) (s t : ℕ) → a ≡ name s → b ≡ name t → IsTrue (not (s == t)) → not_apart gs a b ≡ None
two_literals gs a b s t e i h =
    ap (λ x. not_apart gs x b) e ∙ ap (λ y. not_apart gs (name s) y) i ∙ different_apart gs s t (not-true (s == t) h)

names_from : (xs : List (Cn × Cn)) → names_of (pairs_from xs) ≡ map (λ (p : Cn × Cn). p.0) xs
names_from [] = refl
names_from (x ∷ xs) = ap (λ ns. x.0 ∷ ns) (names_from xs)

-- the names of the fields up to an index, and one more
pub name_more : (ps : Pairs) (i : ℕ) (p : Pair) (s : Sym) (ns : List Cn) → i < vec_len (out-Pairs ps).items → p ≡ get_or (out-Pairs ps).items.items i p → (out-Pair p).name ≡ Name s →
    ns ≡ names_of (pairs_from (map pair_tree (take i (out-Pairs ps).items.items))) →
    ns ++ name s.number ∷ [] ≡ names_of (pairs_from (map pair_tree (take (i + 1) (out-Pairs ps).items.items)))
name_more ps i p s ns h is e before =
    let items = (out-Pairs ps).items.items in
    let within : take (i + 1) items ≡ take i items ++ p ∷ [] = take_more items i p (omega (arith, h, (out-Pairs ps).items.ok.0)) ∙ ap (λ x. take i items ++ x ∷ []) (sym is) in
    let field : (pair_tree p).0 ≡ name s.number = pair_name p ∙ ap con_tree e ∙ name_tree s in
    let first : List Cn → List Cn = λ xs. xs ++ name s.number ∷ [] in
    ap first (before ∙ names_from (map pair_tree (take i items)))
    ∙ ap (λ x. map (λ (y : Cn × Cn). y.0) (map pair_tree (take i items)) ++ x ∷ []) (sym field)
    ∙ sym (map-append (λ (y : Cn × Cn). y.0) (map pair_tree (take i items)) (pair_tree p ∷ []))
    ∙ ap (map (λ (y : Cn × Cn). y.0)) (sym (map-append pair_tree (take i items) (p ∷ [])) ∙ ap (map pair_tree) (sym within))
    ∙ sym (names_from (map pair_tree (take (i + 1) items)))

-- all of them
pub all_names : (ps : Pairs) (i : ℕ) (ns : List Cn) → vec_len (out-Pairs ps).items ≤ i → ns ≡ names_of (pairs_from (map pair_tree (take i (out-Pairs ps).items.items))) → names_of (pairs_tree ps) ≡ ns
all_names ps i ns h e =
    ap names_of (pairs_tree_is ps) ∙ ap (λ xs. names_of (pairs_from (map pair_tree xs))) (sym (take_past (out-Pairs ps).items.items i (omega (arith, h, (out-Pairs ps).items.ok.0)))) ∙ sym e

-- what is put in anew wasn't there
pub none_there : (b x : Bool) → b ≡ not x → b ≡ true → x ≡ false
none_there b true e h = let i : b ≡ false = e in cc
none_there b false e h = refl
