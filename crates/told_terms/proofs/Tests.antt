-- What tests and values say: a test fails where what it tests doesn't hold, and nothing is both there and not there.
use Rattle.std.proofs.Common.{◌≡◌, Bool, true, false, sym, ◌∙◌}
pub use Rattle.std.proofs.lemmas.Bool.{and_from as both_so}
pub use Rattle.core_typing.proofs.DecidedForms.{none_some as no_value}
pub use Rattle.markup_rules.proofs.Basics.{none_some as none_is}

pub true_false : {b : Bool} → b ≡ true → b ≡ false → ⊥
true_false h k = let e = sym h ∙ k in cc

pub refused : {P : Type 0} {b : Bool} → (P → b ≡ true) → b ≡ false → P → ⊥
refused f h x = true_false (f x) h
