-- What the routes of accepted programs are.
use Rattle.std.specs.Prelude.{◌≡◌, ℕ, Bool, List, [], ◌++◌}
use Rattle.link_router.specs.Calls.{Ent, Rts, Cl}
use Rattle.link_router.specs.Links.{Route}
use Rattle.core_terms.specs.Trees.{Pg}
use Rattle.core_typing.specs.Entries.{IsEntry, RoutesOf}
use Rattle.core_typing.specs.Accepts.{Accepts}

-- Of an accepted program, no entry's name begins another's, of whatever method.
abbrev pub NoEntryBeginsAnother : Type 0
NoEntryBeginsAnother = (p : Pg) (i j : ℕ) (post posts : Bool) (e d : Ent) (more : List (List ℕ)) → Accepts p
    → IsEntry p i post e → IsEntry p j posts d → e.name ++ more ≡ d.name → more ≡ []

-- Of an accepted program, at most one call has a path.
abbrev pub OneCallOfAccepted : Type 0
OneCallOfAccepted = (p : Pg) (routes : Rts) (callees : List ℕ) (post : Bool) (target : List ℕ) (c d : Cl)
    → Accepts p
    → RoutesOf p routes callees → Route routes post target c → Route routes post target d → c ≡ d

-- The routes of an accepted program are one.
abbrev pub OneSiteOfAccepted : Type 0
OneSiteOfAccepted = (p : Pg) (routes others : Rts) (callees numbers : List ℕ)
    → Accepts p
    → RoutesOf p routes callees
    → RoutesOf p others numbers
    → (routes ≡ others) × (callees ≡ numbers)
