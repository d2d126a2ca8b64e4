-- What `strip_prefix` answers is what stands behind the front.
use Rattle.std.proofs.Common.{◌≡◌, ◌≢◌, ℕ, Bool, true, false, cond, List, ◌++◌, length, drop, Option, Some, None, Bor, refl, sym, ap, ◌∙◌}
use Rattle.std.specs.Option.{option_map, MatchOption}
use Rattle.std.specs.Str.Pattern.{FindsTextPrefix, StripsPrefix}
use Rattle.std.proofs.lemmas.Bool.{false_from_ne_true}
use Rattle.std.proofs.lemmas.Bool.Decides.{Decides-eqb}
use Rattle.std.proofs.lemmas.Slice.Eq.{starts_is}
use Rattle.ur_outside.specs.Files.{begins_with, behind}

begins : (f l rest : List ℕ) → l ≡ f ++ rest → begins_with f l ≡ true
begins f l rest e = (starts_is Decides-eqb l f _ refl).1 rest e

begins_not : (f l : List ℕ) → ((rest : List ℕ) → l ≢ f ++ rest) → begins_with f l ≡ false
begins_not f l none = false_from_ne_true _ (λ t. none _ ((starts_is Decides-eqb l f _ refl).0 t))

found : (f l : List ℕ) (b : Bool) → begins_with f l ≡ b → behind f l ≡ cond b (Some (drop (length f) l)) None
found f l b e = ap (λ t. cond t (Some (drop (length f) l)) None) e

pub stripped : (f l : List ℕ) (r : Option (Bor (List ℕ)))
    → MatchOption r (FindsTextPrefix f l None) (λ x. StripsPrefix (FindsTextPrefix f) l x.now)
    → option_map (λ (x : Bor (List ℕ)). x.now) r ≡ behind f l
stripped f l None h = sym (found f l false (begins_not f l h))
stripped f l (Some x) h =
    ap Some (h.2 ∙ ap (λ n. drop n l) h.1.0) ∙ sym (found f l true (begins f l _ h.1.1))
