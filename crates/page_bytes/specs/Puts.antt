-- What a writer that gathers bytes on their way to a sink has done.
use Rattle.std.specs.Prelude.{◌≡◌, ℕ, ◌≤◌, List, ◌++◌, Result, OnOk, OnErr}
use Rattle.std.specs.declared.option.Option.{Option}
use Rattle.std.specs.Io.KnownBytes.{Appends}
use Rattle.ur_outside.specs.Causes.{Rose}

-- Of the bytes that were held and the new ones, the sink got the front, and the rest is held now.
abbrev pub Sends : Option (List ℕ) → Option (List ℕ) → List ℕ → List ℕ → List ℕ → Type 0
Sends old new held holds bytes = (front : List ℕ) × Appends old new front × (front ++ holds ≡ held ++ bytes)

-- Of the bytes that were held and the new ones, the sink got a front.
abbrev pub Stops : Option (List ℕ) → Option (List ℕ) → List ℕ → List ℕ → Type 0
Stops old new held bytes = (front : List ℕ) × (rest : List ℕ) × Appends old new front × (front ++ rest ≡ held ++ bytes)

-- Bytes are put out, or a call of the sink failed, which it counted, and it got a front of them. `old` and `new` are
-- what the sink got before and after, `held` and `holds` what is gathered, `faults` and `counted` its failures.
pub record Puts {E : Type 0} (outcome : Result (Unit {0}) E) (old new : Option (List ℕ)) (held holds : List ℕ)
    (faults counted : ℕ) (bytes : List ℕ) : Type 0 where
  pub sends : OnOk outcome (Sends old new held holds bytes)
  pub stops : OnErr outcome (Stops old new held bytes)
  pub later : faults ≤ counted
  pub failed : OnErr outcome (Rose faults counted)
