-- What contracts see of the lexer's state.
use Rattle.std.specs.Prelude.{List}
use Rattle.ur_lexer.specs.declared.state.Mode.{Mode}
use Rattle.ur_lexer.specs.declared.state.Open.{Open}

-- how the bytes are read, and what is open around, the innermost first
pub record Where : Type 0 where
  pub mode : Mode
  pub around : List Open
