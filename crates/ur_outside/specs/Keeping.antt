-- Bytes that are kept as they pass.
use Rattle.std.specs.Prelude.{◌≡◌, Bool, true, ℕ, List, ◌++◌}

-- Where the bytes count as kept afterwards, they did before, and the piece stands behind them.
abbrev pub KeepsMore : Bool → List ℕ → Bool → List ℕ → List ℕ → Type 0
KeepsMore was old is new piece = is ≡ true → (was ≡ true) × (new ≡ old ++ piece)
