-- A term is found with cover, or it has a fault; and where nothing is told, it is found with cover.
use Rattle.std.proofs.Common.{None, ◌⊎◌}
use Rattle.con_terms.specs.Trees.{Cn}
use Rattle.core_terms.specs.Trees.{Ex}
use Rattle.core_typing.specs.Scopes.{Sc}
use Rattle.core_typing.specs.Cover.{Covers}
use Rattle.core_typing.specs.Faults.{Fault}
use Rattle.core_typing.specs.Found.{FoundBy}
use Rattle.core_typing.specs.Tells.{Fails}
use Rattle.core_typing.proofs.Decided.{found_or_fails}
use Rattle.told_faults.specs.Told.{ToldIs}
use Rattle.told_faults.proofs.Silent.{silent_is_found}
use Rattle.told_terms.proofs.CoverDecided.{cover_decided}
use Rattle.told_terms.proofs.LinksDecided.{links_decided}

pub found_or_failing : (G : Sc) (e : Ex) → ((t : Cn) × FoundBy Covers G e t) ⊎ ((f : Fault) × Fails G e f)
found_or_failing G e = found_or_fails cover_decided links_decided G e

pub silent_found : (G : Sc) (e : Ex) → ToldIs G e None → (t : Cn) × FoundBy Covers G e t
silent_found G e h = silent_is_found cover_decided links_decided G e h
