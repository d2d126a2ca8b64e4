-- Walks over the lists of a source.
use Rattle.std.proofs.Common.{◌≡◌, ℕ, suc, ◌+◌, ◌-◌, ◌<◌, ◌≤◌, Bool, true, false, ◌&&◌, List, [], ◌∷◌, ◌++◌, length, map, take, drop, get_or, Option, Some, refl, ap, sym, ◌∙◌, arith, rules, Box, Global}
use Rattle.std.proofs.lemmas.List.{take_all, take_more, map-append}
use Rattle.con_terms.specs.Trees.{Cn, Cns, Prs}
use Rattle.con_terms.specs.View.{con_tree, cons_tree, cons_from, pair_tree, pairs_tree, pairs_from}
use Rattle.con_terms.specs.declared.con.Con.{Con}
use Rattle.con_terms.specs.declared.con.Cons.{Cons}
use Rattle.con_terms.specs.declared.con.Pair.{Pair}
use Rattle.con_terms.specs.declared.con.Pairs.{Pairs}
use Rattle.con_terms.specs.declared.con.Con.TheViews.{out-Cons, out-Pairs}
use Rattle.con_terms.proofs.Lists.{cons_tree_is, pairs_tree_is}
use Rattle.plain_tree.specs.Trees.{ConTree, ConFormTree, ConsTree, ConFieldTree, ConFieldsTree, no_con, no_con_fields}
use Rattle.plain_tree.specs.Trees as trees
use Rattle.plain_tree.specs.ConView as plain
use Rattle.plain_tree.specs.declared.con.ConForm as form
use Rattle.plain_tree.specs.declared.con.Con as source_con
use Rattle.plain_tree.specs.declared.con.Cons as source_cons
use Rattle.plain_tree.specs.declared.con.ConField.{ConField}
use Rattle.plain_tree.specs.declared.con.ConFields.{ConFields}
use Rattle.plain_tree.specs.declared.con.ConForm.TheViews as views
use Rattle.plain_tree.specs.declared.con.ConForm.TheFolds as folds
use Rattle.source_names.specs.Scopes.{Scope}
use Rattle.source_names.specs.Parts.{if_any, if_both}
use Rattle.source_names.specs.Reading.{is_app, is_cat, reads_con, reads_apps, reads_cats, reads_cons, reads_con_field, reads_con_fields}
use Rattle.row_normal.proofs.Coded.{open_at}
pub use Rattle.std.proofs.lemmas.Bool.{and_right as second_fails}

-- the trees of a list of a source, and of a list of constructors
abbrev pub sources : List source_con.Con → ConsTree
sources cs = plain.cons_from (map plain.con_tree cs)

abbrev pub source_fields : List ConField → ConFieldsTree
source_fields fs = plain.con_fields_from (map plain.con_field_tree fs)

abbrev pub cons : List Con → Cns
cons cs = cons_from (map con_tree cs)

abbrev pub pairs : List Pair → Prs
pairs ps = pairs_from (map pair_tree ps)

pub sources_are : (cs : source_cons.Cons) → plain.cons_tree cs ≡ sources (views.out-Cons cs).items.items
sources_are cs = folds.fold_out-Cons ConFormTree ConTree ConFieldTree ConFieldsTree ConsTree
    plain.con_form_step plain.con_step plain.con_field_step plain.con_fields_step plain.cons_step cs

pub fields_are : (fs : ConFields) → plain.con_fields_tree fs ≡ source_fields (views.out-ConFields fs).items.items
fields_are fs = folds.fold_out-ConFields ConFormTree ConTree ConFieldTree ConFieldsTree ConsTree
    plain.con_form_step plain.con_step plain.con_field_step plain.con_fields_step plain.cons_step fs

pub source_is : (c : source_con.Con) →
    plain.con_tree c ≡ trees.con (views.out-Con c).at (plain.con_form_tree (views.out-Con c).form)
source_is c = folds.fold_out-Con ConFormTree ConTree ConFieldTree ConFieldsTree ConsTree
    plain.con_form_step plain.con_step plain.con_field_step plain.con_fields_step plain.cons_step c

pub apply_is : (f : Box source_con.Con Global) (ds : source_cons.Cons) →
    plain.con_form_tree (form.Apply f ds) ≡ trees.con_apply (plain.con_tree f.value) (plain.cons_tree ds)
apply_is f ds = search (rules, folds.the_lemmas)

pub concat_is : (f : Box source_con.Con Global) (ds : source_cons.Cons) →
    plain.con_form_tree (form.Concat f ds) ≡ trees.con_concat (plain.con_tree f.value) (plain.cons_tree ds)
concat_is f ds = search (rules, folds.the_lemmas)

pub all_sources : (cs : source_cons.Cons) (n : ℕ) → length (views.out-Cons cs).items.items ≤ n →
    plain.cons_tree cs ≡ sources (take n (views.out-Cons cs).items.items)
all_sources cs n h = sources_are cs ∙ ap sources (sym (take_all n (views.out-Cons cs).items.items h))

pub and_false : (b : Bool) → (b && false) ≡ false
and_false true = refl
and_false false = refl

pub first_fails : (a b : Bool) → a ≡ false → (a && b) ≡ false
first_fails a b e = ap (λ z. z && b) e

pub first_passes : (a b : Bool) → a ≡ true → (a && b) ≡ b
first_passes a b e = ap (λ z. z && b) e

pub second_passes : (a b : Bool) → b ≡ true → (a && b) ≡ a
second_passes true b e = e
second_passes false b e = refl

-- the last one of the first so many
last_of : {A B : Type 0} (f : A → B) (xs : List A) (left : ℕ) (x : A) → 0 < left → left ≤ length xs →
    x ≡ get_or xs (left - 1) x →
    map f (take left xs) ≡ map f (take (left - 1) xs) ++ f x ∷ []
last_of f xs left x some within is =
    ap (λ k. map f (take k xs)) (let p : left ≡ left - 1 + 1 = omega arith in p)
    ∙ ap (map f) (take_more xs (left - 1) x (omega arith))
    ∙ ap (λ y. map f (take (left - 1) xs ++ y ∷ [])) (sym is)
    ∙ map-append f (take (left - 1) xs) (x ∷ [])

-- a chain of applications, and of concatenations, from its end on
apps_last : (s : Scope) (ds : List ConTree) (d : ConTree) (first : Cn → Bool) (c : Cn) →
    reads_apps s (plain.cons_from (ds ++ d ∷ [])) first c
    ≡ is_app (λ b. reads_apps s (plain.cons_from ds) first b) (λ b. reads_con s d b) c
apps_last s [] d first c = refl
apps_last s (e ∷ es) d first c = apps_last s es d (λ b. is_app first (λ a. reads_con s e a) b) c

cats_last : (s : Scope) (ds : List ConTree) (d : ConTree) (first : Cn → Bool) (c : Cn) →
    reads_cats s (plain.cons_from (ds ++ d ∷ [])) first c
    ≡ is_cat (λ b. reads_cats s (plain.cons_from ds) first b) (λ b. reads_con s d b) c
cats_last s [] d first c = refl
cats_last s (e ∷ es) d first c = cats_last s es d (λ b. is_cat first (λ a. reads_con s e a) b) c

pub apps_more : (s : Scope) (ds : List source_con.Con) (left : ℕ) (d : source_con.Con) (c : Cn)
    (o : Option (Cn × Cn)) (first : Cn → Bool) →
    0 < left → left ≤ length ds → d ≡ get_or ds (left - 1) d →
    ((f : Cn → Bool) (g : Cn → Bool) → is_app f g c ≡ if_both f g o) →
    reads_apps s (sources (take left ds)) first c
    ≡ if_both (λ b. reads_apps s (sources (take (left - 1) ds)) first b) (λ b. reads_con s (plain.con_tree d) b) o
apps_more s ds left d c o first some within is e =
    ap (λ l. reads_apps s (plain.cons_from l) first c) (last_of plain.con_tree ds left d some within is)
    ∙ apps_last s (map plain.con_tree (take (left - 1) ds)) (plain.con_tree d) first c
    ∙ e (λ b. reads_apps s (sources (take (left - 1) ds)) first b) (λ b. reads_con s (plain.con_tree d) b)

pub cats_more : (s : Scope) (ds : List source_con.Con) (left : ℕ) (d : source_con.Con) (c : Cn)
    (o : Option (Cn × Cn)) (first : Cn → Bool) →
    0 < left → left ≤ length ds → d ≡ get_or ds (left - 1) d →
    ((f : Cn → Bool) (g : Cn → Bool) → is_cat f g c ≡ if_both f g o) →
    reads_cats s (sources (take left ds)) first c
    ≡ if_both (λ b. reads_cats s (sources (take (left - 1) ds)) first b) (λ b. reads_con s (plain.con_tree d) b) o
cats_more s ds left d c o first some within is e =
    ap (λ l. reads_cats s (plain.cons_from l) first c) (last_of plain.con_tree ds left d some within is)
    ∙ cats_last s (map plain.con_tree (take (left - 1) ds)) (plain.con_tree d) first c
    ∙ e (λ b. reads_cats s (sources (take (left - 1) ds)) first b) (λ b. reads_con s (plain.con_tree d) b)

-- what is left of a constructor without the arguments, and without the rows behind the first one
pub applied_reads : (s : Scope) (c : source_con.Con) (f : Box source_con.Con Global) (ds : source_cons.Cons)
    (x a : Cn) (o : Option Cn) →
    (views.out-Con c).form ≡ form.Apply f ds →
    ((first : Cn → Bool) → reads_apps s (plain.cons_tree ds) first x ≡ if_any first o) →
    o ≡ Some a →
    reads_con s (plain.con_tree f.value) a ≡ reads_con s (plain.con_tree c) x
applied_reads s c f ds x a o is e p = sym
    (ap (λ z. reads_con s z x) (source_is c
    ∙ ap (λ g. trees.con (views.out-Con c).at g) (ap plain.con_form_tree is ∙ apply_is f ds))
    ∙ e (λ b. reads_con s (plain.con_tree f.value) b)
    ∙ ap (if_any (λ b. reads_con s (plain.con_tree f.value) b)) p)

pub joined_reads : (s : Scope) (c : source_con.Con) (f : Box source_con.Con Global) (ds : source_cons.Cons)
    (x a : Cn) (o : Option Cn) →
    (views.out-Con c).form ≡ form.Concat f ds →
    ((first : Cn → Bool) → reads_cats s (plain.cons_tree ds) first x ≡ if_any first o) →
    o ≡ Some a →
    reads_con s (plain.con_tree f.value) a ≡ reads_con s (plain.con_tree c) x
joined_reads s c f ds x a o is e p = sym
    (ap (λ z. reads_con s z x) (source_is c
    ∙ ap (λ g. trees.con (views.out-Con c).at g) (ap plain.con_form_tree is ∙ concat_is f ds))
    ∙ e (λ b. reads_con s (plain.con_tree f.value) b)
    ∙ ap (if_any (λ b. reads_con s (plain.con_tree f.value) b)) p)

-- lists side by side
cons_lengths : (s : Scope) (cs : List source_con.Con) (ds : List Con) → (length cs ≡ length ds → ⊥) →
    reads_cons s (sources cs) (cons ds) ≡ false
cons_lengths s [] [] h = absurd (h refl)
cons_lengths s [] (d ∷ ds) h = refl
cons_lengths s (c ∷ cs) [] h = refl
cons_lengths s (c ∷ cs) (d ∷ ds) h =
    ap (λ b. reads_con s (plain.con_tree c) (con_tree d) && b) (cons_lengths s cs ds (λ e. h (ap suc e)))
    ∙ and_false (reads_con s (plain.con_tree c) (con_tree d))

pub cons_differ : (s : Scope) (cs : source_cons.Cons) (ds : Cons) →
    (length (views.out-Cons cs).items.items ≡ length (out-Cons ds).items.items → ⊥) →
    reads_cons s (plain.cons_tree cs) (cons_tree ds) ≡ false
cons_differ s cs ds h =
    ap (λ t. reads_cons s t (cons_tree ds)) (sources_are cs)
    ∙ ap (λ t. reads_cons s (sources (views.out-Cons cs).items.items) t) (cons_tree_is ds)
    ∙ cons_lengths s _ _ h

fields_lengths : (s : Scope) (fs : List ConField) (ps : List Pair) → (length fs ≡ length ps → ⊥) →
    reads_con_fields s (source_fields fs) (pairs ps) ≡ false
fields_lengths s [] [] h = absurd (h refl)
fields_lengths s [] (d ∷ ds) h = refl
fields_lengths s (c ∷ cs) [] h = refl
fields_lengths s (c ∷ cs) (d ∷ ds) h =
    ap (λ b. reads_con_field s (plain.con_field_tree c) (pair_tree d) && b) (fields_lengths s cs ds (λ e. h (ap suc e)))
    ∙ and_false (reads_con_field s (plain.con_field_tree c) (pair_tree d))

pub fields_differ : (s : Scope) (fs : ConFields) (ps : Pairs) →
    (length (views.out-ConFields fs).items.items ≡ length (out-Pairs ps).items.items → ⊥) →
    reads_con_fields s (plain.con_fields_tree fs) (pairs_tree ps) ≡ false
fields_differ s fs ps h =
    ap (λ t. reads_con_fields s t (pairs_tree ps)) (fields_are fs)
    ∙ ap (λ t. reads_con_fields s (source_fields (views.out-ConFields fs).items.items) t) (pairs_tree_is ps)
    ∙ fields_lengths s _ _ h

pub cons_next : (s : Scope) (cs : List source_con.Con) (ds : List Con) (i : ℕ) (x : source_con.Con) (y : Con) →
    x ≡ get_or cs i x → y ≡ get_or ds i y →
    i < length cs → i < length ds →
    reads_cons s (sources (drop i cs)) (cons (drop i ds))
    ≡ (reads_con s (plain.con_tree x) (con_tree y) && reads_cons s (sources (drop (i + 1) cs)) (cons (drop (i + 1) ds)))
cons_next s cs ds i x y e f h g =
    ap (λ zs. reads_cons s (sources zs) (cons (drop i ds))) (open_at cs i x e h)
    ∙ ap (λ zs. reads_cons s (sources (x ∷ drop (i + 1) cs)) (cons zs)) (open_at ds i y f g)

pub fields_next : (s : Scope) (fs : List ConField) (ps : List Pair) (i : ℕ) (x : ConField) (y : Pair) →
    x ≡ get_or fs i x → y ≡ get_or ps i y →
    i < length fs → i < length ps →
    reads_con_fields s (source_fields (drop i fs)) (pairs (drop i ps))
    ≡ (reads_con_field s (plain.con_field_tree x) (pair_tree y)
    && reads_con_fields s (source_fields (drop (i + 1) fs)) (pairs (drop (i + 1) ps)))
fields_next s fs ps i x y e f h g =
    ap (λ zs. reads_con_fields s (source_fields zs) (pairs (drop i ps))) (open_at fs i x e h)
    ∙ ap (λ zs. reads_con_fields s (source_fields (x ∷ drop (i + 1) fs)) (pairs zs)) (open_at ps i y f g)
