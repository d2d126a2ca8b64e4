-- Where values stand.
use Rattle.std.proofs.Common.{◌≡◌, ℕ, suc, ◌<◌, ◌≤◌, ◌+◌, List, [], ◌∷◌, ◌++◌, map, length, get_or, refl, ap, sym, subst, ◌∙◌, arith}
use Rattle.std.specs.List.{All, AllByRecursion, Contains}
use Rattle.std.proofs.lemmas.List.{append-nil, length-append}
use Rattle.core_terms.specs.Leaves.{AllThere}
use Rattle.core_terms.specs.Trees.{De, val, vals, con_is, datatype, thing, Nms, Pg}
use Rattle.core_terms.specs.View.{named_from, named_tree}
use Rattle.core_terms.specs.declared.exp.Named.{Named}
use Rattle.core_typing.specs.Accepts.{Located, NamesBeginNone}
use Rattle.core_typing.specs.Declarations.{Value, values, named_values}
use Rattle.core_typing.specs.Entries.{value_name}
use Rattle.program_forms.specs.Values.{Stands, DeclStands, values_counted}
use Rattle.program_forms.proofs.Lists.{all_append, all_left, all_from, of_contained}

pub rec_stands : (m n : ℕ) (path : List ℕ) (ns : Nms) → path ≡ [] → AllByRecursion (Stands m n) (named_values [] ns) → DeclStands m n (vals path ns)
rec_stands m n path ns e h =
    subst (λ q. AllByRecursion (Stands m n) (named_values q ns ++ [])) (sym e) (all_append (Stands m n) (named_values [] ns) [] h tt)

pub each_stands : (m n : ℕ) (ds : List De) → AllByRecursion (DeclStands m n) ds → AllByRecursion (Stands m n) (values ds)
each_stands m n [] h = h
each_stands m n (val path p x w t e ∷ ds) h = (h.0.0, each_stands m n ds h.1)
each_stands m n (vals path ns ∷ ds) h =
    all_append (Stands m n) (named_values path ns) (values ds) (all_left (Stands m n) (named_values path ns) [] h.0) (each_stands m n ds h.1)
each_stands m n (con_is path p x w k c ∷ ds) h = each_stands m n ds h.1
each_stands m n (datatype d ∷ ds) h = each_stands m n ds h.1
each_stands m n (thing path p x k t ∷ ds) h = (h.0.0, each_stands m n ds h.1)

pub named_length : (path : List ℕ) (xs : List Named) → length xs ≡ length (named_values path (named_from (map named_tree xs)) ++ [])
named_length path [] = refl
named_length path (x ∷ xs) = ap suc (named_length path xs)

one_more : (n m : ℕ) → n ≡ m → 1 + n ≡ suc m
one_more n m e = omega (arith, e)

pub counted : (ds : List De) → values_counted ds ≡ length (values ds)
counted [] = refl
counted (val path p x w t e ∷ ds) = one_more (values_counted ds) (length (values ds)) (counted ds)
counted (vals path ns ∷ ds) =
    ap (λ (zs : List Value). length zs + values_counted ds) (append-nil (named_values path ns))
    ∙ ap (λ n. length (named_values path ns) + n) (counted ds) ∙ sym (length-append (named_values path ns) (values ds))
counted (con_is path p x w k c ∷ ds) = omega (arith, counted ds)
counted (datatype d ∷ ds) = omega (arith, counted ds)
counted (thing path p x k t ∷ ds) = one_more (values_counted ds) (length (values ds)) (counted ds)

pub below_count : (count : ℕ) (ds : List De) (xs : List ℕ) → count ≤ values_counted ds → AllByRecursion (λ i. i < count) xs → All (λ i. i < length (values ds)) xs
below_count count ds xs h below k d l =
    let small = all_from (λ i. i < count) xs below k d l in
    omega (arith, h, small, counted ds)

all_of_none : (n : ℕ) (path : List ℕ) → path ≡ [] → AllThere n path
all_of_none n path e = subst (λ q. AllThere n q) (sym e) tt

pub located : (p : Pg) → AllByRecursion (Stands (length p.modules) (length p.names)) (values p.decls) → (v : Value) → Contains (values p.decls) v → Located p v
located p h v c =
    let s = of_contained (Stands (length p.modules) (length p.names)) (values p.decls) v h c in
    record { in_module = s.0; named = s.1; around = all_of_none (length p.names) v.path s.2 }

short : {X : Type 0} (a b c d : X) (more : List X) → a ∷ b ∷ more ≡ c ∷ d ∷ [] → more ≡ []
short a b c d more e = cc

name_of : (p : Pg) (v : Value) → v.path ≡ [] → value_name p v ≡ get_or p.modules v.place.file [] ∷ get_or p.names v.name [] ∷ []
name_of p v e = ap (λ (path : List ℕ). get_or p.modules v.place.file [] ∷ map (λ x. get_or p.names x []) (path ++ v.name ∷ [])) e

pub names_begin_none : (p : Pg) → AllByRecursion (Stands (length p.modules) (length p.names)) (values p.decls) → NamesBeginNone p
names_begin_none p h v w more cv cw e =
    let a = of_contained (Stands (length p.modules) (length p.names)) (values p.decls) v h cv in
    let b = of_contained (Stands (length p.modules) (length p.names)) (values p.decls) w h cw in
    short _ _ _ _ more (ap (λ (zs : List (List ℕ)). zs ++ more) (sym (name_of p v a.2)) ∙ e ∙ name_of p w b.2)
