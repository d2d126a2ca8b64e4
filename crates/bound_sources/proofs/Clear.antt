-- Where a part of a source is read, no name in it is unbound: tests that are joined.
use Rattle.std.proofs.Common.{◌≡◌, Bool, true, false, not, ◌&&◌, ◌||◌, refl}
pub use Rattle.std.proofs.lemmas.Bool.{or_from as neither}

-- where the one test passes, the other doesn't
abbrev pub Clear : Bool → Bool → Type 0
Clear read unbound = read ≡ true → unbound ≡ false

pub no : {A : Type 0} → ◌≡◌ {A = Bool} false true → A
no e = cc

-- what isn't read
pub never : {x : Bool} → Clear false x
never h = no h

-- where no name stands
pub nothing : {a : Bool} → Clear a false
nothing h = refl

two_at : (a b x y : Bool) → Clear a x → Clear b y → Clear (a && b) (x || y)
two_at true b x y f g h = neither x y (f refl) (g h)
two_at false b x y f g h = no h

-- two parts, one after another
pub two : {a b x y : Bool} → Clear a x → Clear b y → Clear (a && b) (x || y)
two {a} {b} {x} {y} f g = two_at a b x y f g

swapped_at : (a b x y : Bool) → Clear a y → Clear b x → Clear (a && b) (x || y)
swapped_at true b x y f g h = neither x y (g h) (f refl)
swapped_at false b x y f g h = no h

-- two parts, of which the second is read first
pub swapped : {a b x y : Bool} → Clear a y → Clear b x → Clear (a && b) (x || y)
swapped {a} {b} {x} {y} f g = swapped_at a b x y f g

-- a part behind a test in which no name stands
pub later : (a : Bool) {b x : Bool} → Clear b x → Clear (a && b) x
later true f = f
later false f = never

asked_at : (a b : Bool) → b ≡ true → (a && not b) ≡ false
asked_at true true e = refl
asked_at true false e = no e
asked_at false b e = refl

-- a name that is in scope where it is read, whether or not it is asked of
pub asked : (a : Bool) {r b : Bool} → (r ≡ true → b ≡ true) → Clear r (a && not b)
asked a {r} {b} f h = asked_at a b (f h)

-- parts in other brackets
pub to_right : (x y z : Bool) {r : Bool} → Clear r ((x || y) || z) → Clear r (x || (y || z))
to_right true y z f = f
to_right false y z f = f

pub to_left : (x y z : Bool) {r : Bool} → Clear r (x || (y || z)) → Clear r ((x || y) || z)
to_left true y z f = f
to_left false y z f = f

either_false : (x : Bool) → x ≡ false → (x || false) ≡ false
either_false true e = e
either_false false e = e

-- the last part
pub ends : {r x : Bool} → Clear r x → Clear r (x || false)
ends {r} {x} f h = either_false x (f h)
