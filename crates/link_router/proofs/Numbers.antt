-- Pieces that are numbers.
use Rattle.std.proofs.Common.{◌≡◌, ℤ, List, ℕ, Result, Ok, Bool, true, false, sym, subst, ◌∙◌}
use Rattle.std.specs.Prelude.{IsUtf8}
use Rattle.std.specs.Int.{w64}
use Rattle.std.specs.Str.{bytes_eq}
use Rattle.std.specs.Str.Parse.{ParsesSigned}
use Rattle.std.proofs.lemmas.Str.{IsUtf8-from_ascii}
use Rattle.std.proofs.lemmas.Fmt.{IsAscii-signed, parse-signed_decimal}
use Rattle.std.proofs.lemmas.Slice.Eq.{bytes_eq-Decides}
use Rattle.std.specs.Fmt.{signed_decimal}
use Rattle.link_router.specs.Reading.{IsNumber}
use Rattle.link_router.proofs.Sent.{fits_mag}

pub number_is_text : {p : List ℕ} {z : ℤ} → IsNumber p z → IsUtf8 p
number_is_text {p} {z} n = subst IsUtf8 (sym n.decimal) (IsUtf8-from_ascii (signed_decimal z) (IsAscii-signed z (fits_mag z n.fits)))

pub number_parses : {E : Type 0} {p t : List ℕ} {z : ℤ} {r : Result ℤ E} → IsNumber p z → t ≡ p → ParsesSigned w64 10 t r → r ≡ Ok z
number_parses {t = t} {z = z} {r = r} n e h = parse-signed_decimal w64 z t r n.fits (fits_mag z n.fits) (e ∙ n.decimal) h

-- a test of bytes that are the same doesn't say no
pub not_told_apart : {xs ys : List ℕ} {r : Bool} → xs ≡ ys → r ≡ bytes_eq xs ys → r ≡ false → ⊥
not_told_apart {xs} {ys} e h k = let yes : bytes_eq xs ys ≡ true = (bytes_eq-Decides xs ys).1 e in cc
