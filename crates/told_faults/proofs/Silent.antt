-- Where nothing is told, the term is found with cover.
use Rattle.std.proofs.Common.{◌⊎◌, inl, inr}
use Rattle.con_terms.specs.Trees.{Cn}
use Rattle.core_terms.specs.Trees.{Ex}
use Rattle.core_typing.specs.Scopes.{Sc}
use Rattle.core_typing.specs.Cover.{Covers}
use Rattle.core_typing.specs.Found.{FoundBy}
use Rattle.core_typing.specs.Faults.{Fault}
use Rattle.core_typing.specs.Tells.{Fails}
use Rattle.core_typing.proofs.Decided.{found_or_fails}
use Rattle.told_faults.specs.Laws.{SilentIsFound}

found_or : (G : Sc) (e : Ex) → ((t : Cn) × FoundBy Covers G e t) ⊎ ((f : Fault) × Fails G e f) → ((f : Fault) → Fails G e f → ⊥) → (t : Cn) × FoundBy Covers G e t
found_or G e (inl x) n = x
found_or G e (inr (f, x)) n = absurd (n f x)

pub silent_is_found : SilentIsFound
silent_is_found c l G e v = found_or G e (found_or_fails c l G e) v
