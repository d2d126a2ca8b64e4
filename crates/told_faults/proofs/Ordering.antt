-- The order of places.
use Rattle.std.proofs.Common.{◌≡◌, ℕ, Bool, true, false, nat_lt, ◌<◌, ◌⊎◌, inl, inr, if◌then◌else◌, refl, arith, sym, ◌∙◌}
use Rattle.std.proofs.lemmas.Bool.{ltb-true, ltb-false}
use Rattle.con_terms.specs.declared.place.Place.{Place}
use Rattle.core_typing.specs.Faults.{Earlier}
use Rattle.told_faults.specs.Computed.{sooner}
pub use Rattle.core_typing.proofs.ExampleFaults.{not_before_itself as not_itself}

-- places as numbers
abbrev before : ℕ → ℕ → ℕ → ℕ → Type 0
before a b c d = (a < c) ⊎ ((a ≡ c) × (b < d))

by_bytes : (a b c d : ℕ) (y z : Bool) → nat_lt a c ≡ false → nat_lt c a ≡ y → nat_lt b d ≡ z → (if y then false else z) ≡ true → before a b c d
by_bytes a b c d true z h k l e = cc
by_bytes a b c d false true h k l e = let x = ltb-false a c h in let y = ltb-false c a k in inr (omega (arith, x, y), ltb-true b d l)
by_bytes a b c d false false h k l e = cc

pub is_before : (a b c d : ℕ) (x : Bool) → nat_lt a c ≡ x → (if x then true else (if nat_lt c a then false else nat_lt b d)) ≡ true → before a b c d
is_before a b c d true h e = inl (ltb-true a c h)
is_before a b c d false h e = by_bytes a b c d (nat_lt c a) (nat_lt b d) h refl refl e

not_first : (a b c d : ℕ) (y z : Bool) → nat_lt a c ≡ false → nat_lt c a ≡ y → nat_lt b d ≡ z → (if y then false else z) ≡ false → before a b c d → ⊥
not_first a b c d y z h k l e (inl m) = let x = ltb-false a c h in omega (arith, x, m)
not_first a b c d true z h k l e (inr (m, n)) = let x = ltb-true c a k in omega (arith, x, m)
not_first a b c d false true h k l e (inr (m, n)) = cc
not_first a b c d false false h k l e (inr (m, n)) = let x = ltb-false b d l in omega (arith, x, n)

pub isnt_before : (a b c d : ℕ) (x : Bool) → nat_lt a c ≡ x → (if x then true else (if nat_lt c a then false else nat_lt b d)) ≡ false → before a b c d → ⊥
isnt_before a b c d true h e k = cc
isnt_before a b c d false h e k = not_first a b c d (nat_lt c a) (nat_lt b d) h refl refl e k

pub sooner_is : (p q : Place) → sooner p q ≡ true → Earlier p q
sooner_is p q h = is_before p.file p.at q.file q.at (nat_lt p.file q.file) refl h

pub sooner_isnt : (p q : Place) → sooner p q ≡ false → Earlier p q → ⊥
sooner_isnt p q h k = isnt_before p.file p.at q.file q.at (nat_lt p.file q.file) refl h k

-- numbers: o before f, g not before f
later : (a b c d x y : ℕ) → (before a b c d → ⊥) → before x y c d → before x y a b
later a b c d x y n (inl h) = by_file (nat_lt x a) refl
  where
    by_file : (z : Bool) → nat_lt x a ≡ z → before x y a b
    by_file true e = inl (ltb-true x a e)
    by_file false e = let k = ltb-false x a e in absurd (n (inl (omega (arith, k, h))))
later a b c d x y n (inr (h, k)) = by_file (nat_lt x a) (nat_lt a x) refl refl
  where
    by_byte : (z : Bool) → nat_lt y b ≡ z → a ≡ x → before x y a b
    by_byte true e i = inr (sym i, ltb-true y b e)
    by_byte false e i = let l = ltb-false y b e in absurd (n (inr (i ∙ h, omega (arith, l, k))))

    by_file : (z w : Bool) → nat_lt x a ≡ z → nat_lt a x ≡ w → before x y a b
    by_file true w e f = inl (ltb-true x a e)
    by_file false true e f = let l = ltb-true a x f in absurd (n (inl (omega (arith, l, h))))
    by_file false false e f = let l = ltb-false x a e in let m = ltb-false a x f in by_byte (nat_lt y b) refl (omega (arith, l, m))

-- g isn't before f, o is before f: o is before g
pub stands_before : (g f o : Place) → (Earlier g f → ⊥) → Earlier o f → Earlier o g
stands_before g f o n h = later g.file g.at f.file f.at o.file o.at n h

-- g isn't before o, o isn't before f: g isn't before f
pub none_before : (g f o : Place) → (Earlier g o → ⊥) → (Earlier o f → ⊥) → Earlier g f → ⊥
none_before g f o n m h = n (stands_before o f g m h)

pub never_both : (p q : Place) → Earlier q p → Earlier p q → ⊥
never_both p q (inl h) (inl k) = omega (arith, h, k)
never_both p q (inl h) (inr (k, l)) = omega (arith, h, k)
never_both p q (inr (h, i)) (inl k) = omega (arith, h, k)
never_both p q (inr (h, i)) (inr (k, l)) = omega (arith, i, l)
