-- The token at the front of code, by its first byte.
use Rattle.std.proofs.Common.{◌≡◌, ℕ, true, false, get_or}
use Rattle.std.specs.Prelude.{◌==◌, Result}
use Rattle.std.specs.Char.{is_ascii_uppercase, is_ascii_digit}
use Rattle.surface_tree.specs.declared.kind.Kind.TheVariants.{LowerName, UpperName}
use Rattle.ur_lexer.specs.declared.fault.LexFault.{LexFault}
use Rattle.ur_lexer.specs.declared.classes.Class.TheVariants.{Name}
use Rattle.ur_lexer.specs.declared.pieces.Found.{Found}
use Rattle.ur_lexer.specs.Bytes.{Bytes, begins_lower}
use Rattle.ur_lexer.specs.Words.{keywords, upper_words, symbols}
use Rattle.ur_lexer.specs.Code.{name_token, symbol_token, code_token}
use Rattle.ur_lexer.specs.Results.{Gives}

module _ (bs : Bytes) (at : ℕ) (answer : Result Found LexFault) where
  pub at_lower : begins_lower (get_or bs 0 0) ≡ true → Gives answer (name_token Name keywords LowerName bs) → Gives answer (code_token bs at)
  unfolding code_token
  at_lower h g = rw h g

  pub at_upper : begins_lower (get_or bs 0 0) ≡ false → is_ascii_uppercase (get_or bs 0 0) ≡ true → Gives answer (name_token Name upper_words UpperName bs) → Gives answer (code_token bs at)
  unfolding code_token
  at_upper h f g = rw (h, f) g

  pub at_symbol : begins_lower (get_or bs 0 0) ≡ false → is_ascii_uppercase (get_or bs 0 0) ≡ false → is_ascii_digit (get_or bs 0 0) ≡ false → (get_or bs 0 0 == 34) ≡ false
      → Gives answer (symbol_token symbols bs at) → Gives answer (code_token bs at)
  unfolding code_token
  at_symbol h f e d g = rw (h, f, e, d) g
