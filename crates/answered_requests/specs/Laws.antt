-- That each request of an accepted program has an answer within each number of steps.
use Rattle.std.specs.Prelude.{ℕ, List}
use Rattle.link_router.specs.Calls.{Rts, Asked}
use Rattle.core_terms.specs.Trees.{Pg}
use Rattle.core_typing.specs.Entries.{RoutesOf}
use Rattle.core_typing.specs.Accepts.{Accepts}
use Rattle.core_meaning.specs.Requests.{Answer, Answers}

-- With the routes of an accepted program, each request has an answer within each number of steps: it is refused, or it
-- is a call whose wires are values, and the run of which comes to something.
abbrev pub EachRequestIsAnswered : Type 0
EachRequestIsAnswered = (p : Pg) (routes : Rts) (callees : List ℕ) (ask : Asked) (n : ℕ)
    → Accepts p
    → RoutesOf p routes callees
    → (a : Answer) × Answers p ask n a

-- No program is without routes. What is said is that they can't be missing, and not which they are: routes rest on
-- which values have no entry and on which datatypes links can't carry, and nothing here tests that.
abbrev pub RoutesAreNotMissing : Type 0
RoutesAreNotMissing = (p : Pg)
    → ((routes : Rts) (callees : List ℕ) → RoutesOf p routes callees → ⊥)
    → ⊥

-- So no request of an accepted program is without an answer, within any number of steps.
abbrev pub NoRequestIsWithoutAnswer : Type 0
NoRequestIsWithoutAnswer = (p : Pg) (ask : Asked) (n : ℕ)
    → Accepts p
    → ((a : Answer) → Answers p ask n a → ⊥)
    → ⊥
