-- Names that binders give, or else modules declare, or else every program has.
use Rattle.std.proofs.Common.{◌≡◌, ℕ, suc, Bool, true, false, ◌||◌, List, [], ◌∷◌, Option, Some, None, option_map, refl, sym, ◌∙◌, if◌then◌else◌}
use Rattle.std.specs.Str.{bytes_eq}
use Rattle.std.proofs.lemmas.Bool.{false≢true, true≢false}
use Rattle.con_terms.specs.Trees.{Cn}
use Rattle.source_names.specs.Scopes.{Words}
use Rattle.source_names.specs.Standing.{Meant, MeantType, first_of, first_type_of, binder_of}
use Rattle.unbound_names.specs.InScope.{is_name_of, is_some, is_there, is_type_there}

still_some : (o : Option ℕ) → is_some (option_map suc o) ≡ is_some o
still_some None = refl
still_some (Some n) = refl

here_or_further : (b r : Bool) (o : Option ℕ) → r ≡ is_some o →
    (b || r) ≡ is_some (if b then Some 0 else option_map suc o)
here_or_further true r o e = refl
here_or_further false r o e = e ∙ sym (still_some o)

-- a name that a binder gives
pub bound_is : (x : Words) (ys : List Words) → is_name_of x ys ≡ is_some (binder_of x ys)
bound_is x [] = refl
bound_is x (y ∷ ys) = here_or_further (bytes_eq y x) (is_name_of x ys) (binder_of x ys) (bound_is x ys)

-- one of the three, where those before it aren't
pub first_bound : (a b : Option ℕ) (m : Meant) → is_some a ≡ true → true ≡ is_there (first_of a b m)
first_bound (Some i) b m e = refl
first_bound None b m e = absurd (false≢true e)

pub first_declared : (a b : Option ℕ) (m : Meant) → is_some b ≡ true → true ≡ is_there (first_of a b m)
first_declared (Some i) b m e = refl
first_declared None (Some j) m e = refl
first_declared None None m e = absurd (false≢true e)

pub first_undeclared : (a b : Option ℕ) (m : Meant) (r : Bool) → is_some a ≡ false → is_some b ≡ false →
    r ≡ is_there m → r ≡ is_there (first_of a b m)
first_undeclared (Some i) b m r e f is = absurd (true≢false e)
first_undeclared None (Some j) m r e f is = absurd (true≢false f)
first_undeclared None None m r e f is = is

pub type_bound : (a : Option ℕ) (b : Option Cn) (m : MeantType) → is_some a ≡ true →
    true ≡ is_type_there (first_type_of a b m)
type_bound (Some i) b m e = refl
type_bound None b m e = absurd (false≢true e)

pub type_declared : (a : Option ℕ) (b : Option Cn) (m : MeantType) → is_some b ≡ true →
    true ≡ is_type_there (first_type_of a b m)
type_declared (Some i) b m e = refl
type_declared None (Some j) m e = refl
type_declared None None m e = absurd (false≢true e)

pub type_undeclared : (a : Option ℕ) (b : Option Cn) (m : MeantType) (r : Bool) → is_some a ≡ false →
    is_some b ≡ false → r ≡ is_type_there m → r ≡ is_type_there (first_type_of a b m)
type_undeclared (Some i) b m r e f is = absurd (true≢false e)
type_undeclared None (Some j) m r e f is = absurd (true≢false f)
type_undeclared None None m r e f is = is
