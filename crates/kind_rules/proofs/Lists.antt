-- What is found for a list, as far as a loop has come.
use Rattle.std.proofs.Common.{List, ◌++◌, Result, Ok, Err}
use Rattle.kind_rules.specs.Flaws.{Flw}

-- what is found before the rest
abbrev pub found_before : {X : Type 0} → List X → Result (List X) Flw → Result (List X) Flw
found_before xs (Ok ys) = Ok (xs ++ ys)
found_before xs (Err e) = Err e
