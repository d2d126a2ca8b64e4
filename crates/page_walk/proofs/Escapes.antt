-- A text as a link writes it: each byte but letters, digits and - . _ ~ escaped.
use Rattle.std.proofs.Common.{◌≡◌, ℕ, ◌≤◌, Bool, true, false, not, if◌then◌else◌, List, [], ◌∷◌, ◌++◌, refl, ap₂, arith, inl, inr}
use Rattle.std.proofs.lemmas.Bool.{agree_below_at, cases_lt}
use Rattle.percent_encoding.specs.AsciiSet.{should_percent_encode}
use Rattle.percent_encoding.specs.Percent.{percent_encode, encode_byte, percent_encode_byte}
use Rattle.table_rows.specs.Pieces.{is_unreserved, escaped_byte, escaped}
use Rattle.page_walk.specs.declared.links.TheConstants.{ESCAPED}

unreserved_high : (b : ℕ) → 128 ≤ b → is_unreserved b ≡ false
unreserved_high b high = grind arith

escapes : (b : ℕ) → should_percent_encode ESCAPED b ≡ not (is_unreserved b)
unfolding should_percent_encode
escapes b = elim (cases_lt b 128) [
  | inl low ↦ agree_below_at (should_percent_encode ESCAPED) (λ c. not (is_unreserved c)) 128 b refl low
  | inr high ↦ rw (unreserved_high b high) (grind arith)
]

byte_escaped : (b : ℕ) → encode_byte ESCAPED b ≡ escaped_byte b
unfolding percent_encode_byte
byte_escaped b = rw (escapes b) (go (is_unreserved b))
  where
    go : (t : Bool) → (if not t then percent_encode_byte b else b ∷ []) ≡ (if t then b ∷ [] else percent_encode_byte b)
    go true = refl
    go false = refl

pub text_escaped : (bs : List ℕ) → percent_encode ESCAPED bs ≡ escaped bs
unfolding percent_encode
text_escaped [] = refl
text_escaped (b ∷ bs) = ap₂ (λ x y. x ++ y) (byte_escaped b) (text_escaped bs)
