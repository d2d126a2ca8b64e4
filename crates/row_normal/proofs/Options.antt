-- Choices of two, and what a map over a choice gives.
use Rattle.std.proofs.Common.{◌≡◌, ◌⊎◌, inl, inr, Option, Some, None, option_map, refl, ap}
use Rattle.row_normal.specs.Steps.{or_else}
pub use Rattle.std.proofs.lemmas.Bool.{and_parts as both_from, or_parts as neither_from}

pub none_some : {X : Type 0} {P : Type 0} (x : X) → None ≡ Some x → P
none_some x h = cc

pub or_else_from : {X : Type 0} (o p : Option X) (x : X) → or_else o p ≡ Some x → (o ≡ Some x) ⊎ (p ≡ Some x)
or_else_from None p x h = inr h
or_else_from (Some y) p x h = inl h

pub or_else_first : {X : Type 0} (o p : Option X) (x : X) → o ≡ Some x → or_else o p ≡ Some x
or_else_first o p x h = ap (λ q. or_else q p) h

pub or_else_next : {X : Type 0} (o p : Option X) → o ≡ None → or_else o p ≡ p
or_else_next o p h = ap (λ q. or_else q p) h

pub option_map_from : {X Y : Type 0} (f : X → Y) (o : Option X) (y : Y) → option_map f o ≡ Some y → (x : X) × (o ≡ Some x) × (f x ≡ y)
option_map_from f None y h = none_some y h
option_map_from f (Some x) y h = (x, refl, cc)
