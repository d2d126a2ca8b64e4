-- A test that holds exactly where something does.
use Rattle.std.proofs.Common.{◌≡◌, Bool, true, false, ◌&&◌, refl, subst}
use Rattle.markup_rules.proofs.Basics.{false_true}

pub data Says (X : Type 0) : Bool → Type 0 where
  yes : X → Says X true
  no : (X → ⊥) → Says X false

pub says_as : (X Y : Type 0) (b : Bool) → (X → Y) → (Y → X) → Says X b → Says Y b
says_as X Y true f g (yes x) = yes (f x)
says_as X Y false f g (no n) = no (λ y. n (g y))

pub says_both : (X Y : Type 0) (a b : Bool) → Says X a → Says Y b → Says (X × Y) (a && b)
says_both X Y true true (yes x) (yes y) = yes (x, y)
says_both X Y true false (yes x) (no n) = no (λ z. n z.1)
says_both X Y false b (no n) y = no (λ z. n z.0)

pub says_is : (X : Type 0) (a b : Bool) → a ≡ b → Says X a → Says X b
says_is X a b h s = subst (λ (z : Bool). Says X z) h s

pub said : (X : Type 0) (b : Bool) → Says X b → X → b ≡ true
said X true (yes y) x = refl
said X false (no n) x = absurd (n x)

pub so_said : (X : Type 0) (b : Bool) → Says X b → b ≡ true → X
so_said X true (yes y) h = y
so_said X false (no n) h = absurd (false_true h)
