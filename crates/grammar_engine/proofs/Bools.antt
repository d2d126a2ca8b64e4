-- What holds of Booleans, and of what is asked of each of a list.
use Rattle.std.proofs.Common.{◌≡◌, List, [], ◌∷◌, refl, sym, subst, Bool, true, false, not, ◌&&◌, ◌||◌}
use Rattle.std.proofs.Math.Logic.{inl, inr}
use Rattle.surface_grammar.specs.declared.rule.Rule.{Rule}
use Rattle.surface_grammar.specs.Trees.{IsIn}
pub use Rattle.surface_grammar.proofs.Bools.{and_left, and_right}

pub or_split : {A : Type 0} (b c : Bool) → (b || c) ≡ true → (b ≡ true → A) → (c ≡ true → A) → A
or_split true c h l r = l refl
or_split false c h l r = r h

pub both_open : (a b : Bool) → ((a || true) && (b || true)) ≡ true
both_open true true = refl
both_open true false = refl
both_open false true = refl
both_open false false = refl

pub unless : (a b : Bool) → (not a || b) ≡ true → a ≡ true → b ≡ true
unless true b h e = h
unless false b h e = cc

pub clash : {A : Type 0} (b : Bool) → b ≡ true → b ≡ false → A
clash true e i = cc
clash false e i = cc

pub no_tag : {A : Type 0} (b : Bool) → not b ≡ true → b ≡ true → A
no_tag true k i = cc
no_tag false k i = cc

abbrev pub every : {A : Type 0} → (A → Bool) → List A → Bool
every p [] = true
every p (x ∷ xs) = p x && every p xs

pub every_in : (p : Rule → Bool) (qs : List Rule) (q : Rule) → every p qs ≡ true → IsIn q qs → p q ≡ true
every_in p [] q h i = absurd i
every_in p (x ∷ qs) q h (inl e) = subst (λ z. p z ≡ true) (sym e) (and_left (p x) (every p qs) h)
every_in p (x ∷ qs) q h (inr i) = every_in p qs q (and_right (p x) (every p qs) h) i
