-- Dropping what was inserted once is enough, and keeps what the source has before the head of a call.
use Rattle.std.specs.Prelude.{◌≡◌, ◌≢◌, Bool}
use Rattle.con_terms.specs.declared.place.Place.{Place}
use Rattle.core_terms.specs.declared.exp.Sigil.{Sigil}
use Rattle.core_terms.specs.declared.exp.Sigil.TheVariants.{Plain}
use Rattle.core_terms.specs.Trees.{Ex, node, call, Its}
use Rattle.core_terms.specs.Strip.{strip, strip_items}

-- What is left has nothing inserted: dropping again changes nothing.
abbrev pub StripsOnce : Type 0
StripsOnce = (e : Ex) → strip (strip e) ≡ strip e

-- A call with @ or @@ stays a call, with its sigil, also where no item of it is left.
abbrev pub SigilsStay : Type 0
SigilsStay = (p : Place) (a : Bool) (f : Ex) (s : Sigil) (is : Its) → s ≢ Plain
    → strip (node p a (call f s is)) ≡ node p a (call (strip f) s (strip_items is))
