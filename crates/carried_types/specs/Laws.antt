-- What the computed answers mean, where the marks are those of what links carry.
use Rattle.std.specs.Prelude.{◌≡◌, ℕ, Bool, true, List}
use Rattle.std.specs.Bool.{Decides}
use Rattle.con_terms.specs.Trees.{Cn}
use Rattle.core_terms.specs.Trees.{Dt}
use Rattle.core_typing.specs.Carried.{Carried, Filled, ShowsPage, SendsForm}
use Rattle.carried_types.specs.Built.{can_carry}
use Rattle.carried_types.specs.Filling.{can_fill}
use Rattle.carried_types.specs.Carriers.{AreCarriers}
use Rattle.carried_types.specs.Pages.{shows_page, sends_form}

-- what is told to be carried is so
abbrev pub CarriedIsCarried : Type 0
CarriedIsCarried = (ds : List Dt) (bs : List Bool) (t : Cn) → AreCarriers ds bs → can_carry ds bs t ≡ true
    → Carried ds t

-- a form fills exactly the types that are told to be filled
abbrev pub FilledIsFilled : Type 0
FilledIsFilled = (t : Cn) → Decides (can_fill t) (Filled t)

-- what is told to give a page does
abbrev pub ShownIsShown : Type 0
ShownIsShown = (ds : List Dt) (bs : List Bool) (n : ℕ) (t : Cn) → AreCarriers ds bs → shows_page ds bs n t ≡ true
    → ShowsPage ds n t

-- what is told to take a form and give a page does
abbrev pub SentIsSent : Type 0
SentIsSent = (ds : List Dt) (bs : List Bool) (n : ℕ) (t : Cn) → AreCarriers ds bs → sends_form ds bs n t ≡ true
    → SendsForm ds n t
