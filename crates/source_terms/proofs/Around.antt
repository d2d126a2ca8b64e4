-- An element by what is around its content.
use Rattle.std.proofs.Common.{◌≡◌, Bool, true, false, ◌&&◌, refl}
use Rattle.source_terms.proofs.Tasking.{parts_fail, parts_both}

four : (t f a c : Bool) → (t && f && a && c) ≡ ((t && f && a) && c)
four true true a c = refl
four true false a c = refl
four false f a c = refl

-- what is around differs
pub around_fails : (t f a c before after b : Bool) → b ≡ false → (b && after) ≡ ((t && f && a) && before)
    → false ≡ ((t && f && a && c) && before)
around_fails t f a c before after b n e =
    parts_fail (t && f && a) c before after b (t && f && a && c) (four t f a c) n e

-- it is read, and the content is left to read
pub around_holds : (t f a c before after b : Bool) → b ≡ true → (b && after) ≡ ((t && f && a) && before)
    → (c && after) ≡ ((t && f && a && c) && before)
around_holds t f a c before after b y e =
    parts_both (t && f && a) c before after after b c (t && f && a && c) (four t f a c) y e refl
