-- Scopes as the program keeps them.
use Rattle.std.proofs.Common.{◌≡◌, ℕ, zero, suc, ◌+◌, ◌-◌, ◌<◌, ◌==◌, Bool, true, false, List, [], ◌∷◌, ◌++◌, map, Option, Some, None, slice_get, if◌then◌else◌, refl, ap, sym, ◌∙◌, subst, arith, rules, Global, append_assoc}
use Rattle.std.proofs.lemmas.List.{map-append}
use Rattle.std.specs.declared.rc.Rc.{Rc}
use Rattle.con_terms.specs.Trees.{Kd, Cn, var}
use Rattle.con_terms.specs.Apart.{Guards}
use Rattle.con_terms.specs.Kinded.{Scope, basic_kind, bind}
use Rattle.con_terms.specs.Substitution.{moved, replaced, shift}
use Rattle.con_terms.specs.View.{con_tree, kind_tree}
use Rattle.con_terms.proofs.Walks.{shift_sum, walk_same, walks_meet}
use Rattle.disjoint_prover.specs.View.{sides_tree}
use Rattle.disjoint_prover.specs.declared.guards.Sides.{Sides}
use Rattle.kind_rules.specs.Scopes.{raised_by}
use Rattle.kind_rules.specs.View.{entered, layers_view}
use Rattle.kind_rules.specs.declared.scope.Entry.{Entry}
use Rattle.kind_rules.specs.declared.scope.Layer.{Layer, out-Layer}
use Rattle.kind_rules.specs.declared.scope.Layers.{Layers, Over}
use Rattle.kind_rules.specs.declared.scope.Layers.TheFolds.{the_lemmas}

over : (l : Rc Layer Global) → layers_view (Over l) ≡ entered (out-Layer l.value).entry (layers_view (out-Layer l.value).rest)
over l = search (rules, the_lemmas)

-- a scope is what was put in last, over what was there before
pub layer_is : (s : Layers) (l : Rc Layer Global) (d e : Layer) (x : Entry) → s ≡ Over l → d ≡ l.value → (out-Layer d).entry ≡ x → e ≡ l.value → layers_view s ≡ entered x (layers_view (out-Layer e).rest)
layer_is s l d e x is at entry too =
    ap layers_view is ∙ over l
    ∙ ap (λ y. entered y (layers_view (out-Layer l.value).rest)) (ap (λ z. (out-Layer z).entry) (sym at) ∙ entry)
    ∙ ap (λ z. entered x (layers_view (out-Layer z).rest)) (sym too)

-- a binder further out
pub further_out : {X : Type 0} (x : X) (xs : List X) (i : ℕ) → 0 < i → slice_get (x ∷ xs) i ≡ slice_get xs (i - 1)
further_out x xs zero h = absurd (omega (arith, h))
further_out x xs (suc i) h = ap (slice_get xs) (let p : i ≡ suc i - 1 = omega arith in p)

-- basic names behind others
pub found_first : (xs ys : List (ℕ × Kd)) (s : ℕ) (k : Kd) → basic_kind xs s ≡ Some k → basic_kind (xs ++ ys) s ≡ Some k
found_first [] ys s k h = cc
found_first (b ∷ bs) ys s k h = by_test (b.0 == s) (λ g. found_first bs ys s k g) h
  where
    by_test : (t : Bool) → (basic_kind bs s ≡ Some k → basic_kind (bs ++ ys) s ≡ Some k) → (if t then Some b.1 else basic_kind bs s) ≡ Some k → (if t then Some b.1 else basic_kind (bs ++ ys) s) ≡ Some k
    by_test true later g = g
    by_test false later g = later g

pub none_first : (xs ys : List (ℕ × Kd)) (s : ℕ) → basic_kind xs s ≡ None → basic_kind (xs ++ ys) s ≡ basic_kind ys s
none_first [] ys s h = refl
none_first (b ∷ bs) ys s h = by_test (b.0 == s) (λ g. none_first bs ys s g) h
  where
    by_test : (t : Bool) → (basic_kind bs s ≡ None → basic_kind (bs ++ ys) s ≡ basic_kind ys s) → (if t then Some b.1 else basic_kind bs s) ≡ None → (if t then Some b.1 else basic_kind (bs ++ ys) s) ≡ basic_kind ys s
    by_test true later g = cc
    by_test false later g = later g

-- guards from under one more binder, and from under none
both_sides : (g h : Cn × Cn) → g.0 ≡ h.0 → g.1 ≡ h.1 → g ≡ h
both_sides (a, b) (c, d) e i = ap (λ x. (x, b)) e ∙ ap (λ y. (c, y)) i

pub raised_once_more : (by : ℕ) (gs : Guards) → map (raised_by by) (map (λ (g : Cn × Cn). (shift 1 g.0 0, shift 1 g.1 0)) gs) ≡ map (raised_by (by + 1)) gs
raised_once_more by [] = refl
raised_once_more by (g ∷ gs) =
    let first : shift by (shift 1 g.0 0) 0 ≡ shift (by + 1) g.0 0 = shift_sum 1 by 0 (by + 1) g.0 (omega arith) (omega arith) in
    let second : shift by (shift 1 g.1 0) 0 ≡ shift (by + 1) g.1 0 = shift_sum 1 by 0 (by + 1) g.1 (omega arith) (omega arith) in
    ap (λ x. x ∷ map (raised_by by) (map (λ (g : Cn × Cn). (shift 1 g.0 0, shift 1 g.1 0)) gs)) (both_sides (raised_by by (shift 1 g.0 0, shift 1 g.1 0)) (raised_by (by + 1) g) first second)
    ∙ ap (λ xs. raised_by (by + 1) g ∷ xs) (raised_once_more by gs)

pub shift_none : (c : Cn) → shift 0 c 0 ≡ c
shift_none c =
    let id : ℕ → ℕ → Cn = λ _ i. var i in
    let met : replaced (moved 0) (replaced id c 0) 0 ≡ replaced id (replaced id c 0) 0 =
    walks_meet id (moved 0) id id (λ _ _ _ _. Unit {0}) (record { deeper = λ d n m e r. tt; at_var = λ d n m e i r. grind arith }) 0 0 0 0 tt c in
    subst (λ x. replaced (moved 0) x 0 ≡ x) (walk_same c 0) (met ∙ walk_same (replaced id c 0) 0)

pub raised_none : (gs : Guards) → map (raised_by 0) gs ≡ gs
raised_none [] = refl
raised_none (g ∷ gs) =
    ap (λ x. x ∷ map (raised_by 0) gs) (both_sides (raised_by 0 g) g (shift_none g.0) (shift_none g.1)) ∙ ap (λ xs. g ∷ xs) (raised_none gs)

-- one guard more, and then the others
pub pushed : (old new : List Sides) (s t : Sides) (by : ℕ) (rest : Guards) → new ≡ old ++ t ∷ [] → sides_tree t ≡ raised_by by (sides_tree s) → map sides_tree new ++ map (raised_by by) rest ≡ map sides_tree old ++ map (raised_by by) (sides_tree s ∷ rest)
pushed old new s t by rest e is =
    ap (λ xs. map sides_tree xs ++ map (raised_by by) rest) e
    ∙ ap (λ xs. xs ++ map (raised_by by) rest) (map-append sides_tree old (t ∷ []))
    ∙ append_assoc (map sides_tree old) (sides_tree t ∷ []) (map (raised_by by) rest)
    ∙ ap (λ x. map sides_tree old ++ x ∷ map (raised_by by) rest) is
