-- Cases of tests and options.
use Rattle.std.proofs.Common.{◌≡◌, Bool, true, false, Option, Some, None, refl, option_map}
use Rattle.std.specs.Prelude.{if◌then◌else◌}

-- a choice of two options that gives a value gives it by one of them
pub either : {A P : Type 0} (t : Bool) (l r : Option A) (e : A) → (if t then l else r) ≡ Some e → (t ≡ true → l ≡ Some e → P) → (t ≡ false → r ≡ Some e → P) → P
either true l r e h left right = left refl h
either false l r e h left right = right refl h

-- what a mapped option gives
pub mapped : {A B P : Type 0} (f : A → B) (o : Option A) (e : B) → option_map f o ≡ Some e → ((x : A) → o ≡ Some x → f x ≡ e → P) → P
mapped f None e h go = cc
mapped f (Some x) e h go = go x refl (cc)

-- cases of a test, and of an option
pub by_test : {P : Type 0} (t : Bool) → (t ≡ true → P) → (t ≡ false → P) → P
by_test true left right = left refl
by_test false left right = right refl

pub by_option : {A P : Type 0} (o : Option A) → (o ≡ None → P) → ((x : A) → o ≡ Some x → P) → P
by_option None none some = none refl
by_option (Some x) none some = some x refl
