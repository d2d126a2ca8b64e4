-- From what is told of a node's parts and of the node itself to what the node tells.
use Rattle.std.proofs.Common.{◌≡◌, Bool, true, false, Option, Some, None, if◌then◌else◌, refl}
use Rattle.core_terms.specs.Trees.{Ex}
use Rattle.core_typing.specs.Scopes.{Sc}
use Rattle.core_typing.specs.Own.{Own}
use Rattle.core_typing.specs.Tells.{Sub, Fails, itself, inside, tells_own, tells_inner}
use Rattle.core_typing.specs.Faults.{Fault, at, Earlier}
use Rattle.told_faults.specs.Computed.{sooner, first}
use Rattle.told_faults.specs.Told.{ToldIs, Picks, Nodes, Least, Or, or_first, or_second, Either, in_first, in_second, Only, only, Nowhere, Never, Just, just}
use Rattle.told_faults.proofs.Ordering.{sooner_is, sooner_isnt, stands_before, none_before, never_both, not_itself}

-- the same faults, the same nodes
pub picks_as : (P Q : Fault → Type 0) (o : Option Fault) → ((f : Fault) → P f → Q f) → ((f : Fault) → Q f → P f) → Picks P o → Picks Q o
picks_as P Q None a b h = λ f x. h f (b f x)
picks_as P Q (Some f) a b h = (a f h.0, λ g x. h.1 g (b g x))

pub least_as : (N M : Nodes) (o : Option Fault) → ((H : Sc) (c : Ex) → N H c → M H c) → ((H : Sc) (c : Ex) → M H c → N H c) → Least N o → Least M o
least_as N M None a b h = λ H c g s x. h H c g (b H c s) x
least_as N M (Some f) a b ((H, c, s, x), l) = ((H, c, a H c s, x), λ K d g t y. l K d g (b K d t) y)

pub picks_never : Picks Never None
picks_never = λ f x. elim x [ ]

pub least_nowhere : Least Nowhere None
least_nowhere = λ H c g s x. elim s [ ]

pub picks_just : (g : Fault) → Picks (Just g) (Some g)
picks_just g = (just, least)
  where
    least : (h : Fault) → Just g h → Earlier (at h) (at g) → ⊥
    least h just e = not_itself (at g) e

-- a term's own verdict
pub one : (G : Sc) (e : Ex) (o : Option Fault) → ToldIs G e o → Least (Only G e) o
one G e None v = none
  where
    none : (H : Sc) (c : Ex) (g : Fault) → Only G e H c → Fails H c g → ⊥
    none H c g only x = v g x
one G e (Some f) v = ((G, e, only, v.0), least)
  where
    least : (H : Sc) (c : Ex) (g : Fault) → Only G e H c → Fails H c g → Earlier (at g) (at f) → ⊥
    least H c g only x = v.1 g x

-- two sets
pub picks_two : (P Q : Fault → Type 0) (k l : Option Fault) → Picks P k → Picks Q l → Picks (Or P Q) (first k l)
picks_two P Q None None h i = none
  where
    none : (f : Fault) → Or P Q f → ⊥
    none f (or_first x) = h f x
    none f (or_second x) = i f x
picks_two P Q None (Some o) h i = (or_second i.0, least)
  where
    least : (g : Fault) → Or P Q g → Earlier (at g) (at o) → ⊥
    least g (or_first x) = absurd (h g x)
    least g (or_second x) = i.1 g x
picks_two P Q (Some f) None h i = (or_first h.0, least)
  where
    least : (g : Fault) → Or P Q g → Earlier (at g) (at f) → ⊥
    least g (or_first x) = h.1 g x
    least g (or_second x) = absurd (i g x)
picks_two P Q (Some f) (Some o) h i = by_order (sooner (at o) (at f)) refl
  where
    by_order : (b : Bool) → sooner (at o) (at f) ≡ b → Picks (Or P Q) (if b then Some o else Some f)
    by_order true e = (or_second i.0, least)
      where
        least : (g : Fault) → Or P Q g → Earlier (at g) (at o) → ⊥
        least g (or_first x) k = never_both (at g) (at o) (stands_before (at g) (at f) (at o) (h.1 g x) (sooner_is (at o) (at f) e)) k
        least g (or_second x) k = i.1 g x k
    by_order false e = (or_first h.0, least)
      where
        least : (g : Fault) → Or P Q g → Earlier (at g) (at f) → ⊥
        least g (or_first x) k = h.1 g x k
        least g (or_second x) k = none_before (at g) (at f) (at o) (i.1 g x) (sooner_isnt (at o) (at f) e) k

pub least_two : (N M : Nodes) (k l : Option Fault) → Least N k → Least M l → Least (Either N M) (first k l)
least_two N M None None h i = none
  where
    none : (H : Sc) (c : Ex) (g : Fault) → Either N M H c → Fails H c g → ⊥
    none H c g (in_first s) x = h H c g s x
    none H c g (in_second s) x = i H c g s x
least_two N M None (Some o) h ((H, c, s, x), l) = ((H, c, in_second s, x), least)
  where
    least : (K : Sc) (d : Ex) (g : Fault) → Either N M K d → Fails K d g → Earlier (at g) (at o) → ⊥
    least K d g (in_first t) y = absurd (h K d g t y)
    least K d g (in_second t) y = l K d g t y
least_two N M (Some f) None ((H, c, s, x), l) i = ((H, c, in_first s, x), least)
  where
    least : (K : Sc) (d : Ex) (g : Fault) → Either N M K d → Fails K d g → Earlier (at g) (at f) → ⊥
    least K d g (in_first t) y = l K d g t y
    least K d g (in_second t) y = absurd (i K d g t y)
least_two N M (Some f) (Some o) h i = by_order (sooner (at o) (at f)) refl
  where
    by_order : (b : Bool) → sooner (at o) (at f) ≡ b → Least (Either N M) (if b then Some o else Some f)
    by_order true e = ((i.0.0, i.0.1, in_second i.0.2, i.0.3), least)
      where
        least : (K : Sc) (d : Ex) (g : Fault) → Either N M K d → Fails K d g → Earlier (at g) (at o) → ⊥
        least K d g (in_first t) y k = never_both (at g) (at o) (stands_before (at g) (at f) (at o) (h.1 K d g t y) (sooner_is (at o) (at f) e)) k
        least K d g (in_second t) y k = i.1 K d g t y k
    by_order false e = ((h.0.0, h.0.1, in_first h.0.2, h.0.3), least)
      where
        least : (K : Sc) (d : Ex) (g : Fault) → Either N M K d → Fails K d g → Earlier (at g) (at f) → ⊥
        least K d g (in_first t) y k = h.1 K d g t y k
        least K d g (in_second t) y k = none_before (at g) (at f) (at o) (i.1 K d g t y) (sooner_isnt (at o) (at f) e) k

-- what a node tells: what its parts tell, unless one of its own stands strictly before
pub settled : (G : Sc) (e : Ex) (k o : Option Fault) → Least (Sub G e) k → Picks (Own G e) o → ToldIs G e (first k o)
settled G e None None h i = none
  where
    none : (f : Fault) → Fails G e f → ⊥
    none f (itself x) = i f x
    none f (inside {H = H} {c = c} s x) = h H c f s x
settled G e None (Some o) h i = (tells_own i.0 i.1 (λ H c g s x. absurd (h H c g s x)), least)
  where
    least : (g : Fault) → Fails G e g → Earlier (at g) (at o) → ⊥
    least g (itself x) = i.1 g x
    least g (inside {H = H} {c = c} s x) = absurd (h H c g s x)
settled G e (Some f) None ((H, c, s, x), l) i = (tells_inner s x least, least)
  where
    least : (g : Fault) → Fails G e g → Earlier (at g) (at f) → ⊥
    least g (itself y) = absurd (i g y)
    least g (inside {H = K} {c = d} t y) = l K d g t y
settled G e (Some f) (Some o) ((H, c, s, x), l) i = by_order (sooner (at o) (at f)) refl
  where
    by_order : (b : Bool) → sooner (at o) (at f) ≡ b → ToldIs G e (if b then Some o else Some f)
    by_order true b = (tells_own i.0 i.1 (λ K d g t y. stands_before (at g) (at f) (at o) (l K d g t y) (sooner_is (at o) (at f) b)), least)
      where
        least : (g : Fault) → Fails G e g → Earlier (at g) (at o) → ⊥
        least g (itself y) k = i.1 g y k
        least g (inside {H = K} {c = d} t y) k = never_both (at g) (at o) (stands_before (at g) (at f) (at o) (l K d g t y) (sooner_is (at o) (at f) b)) k
    by_order false b = (tells_inner s x least, least)
      where
        least : (g : Fault) → Fails G e g → Earlier (at g) (at f) → ⊥
        least g (itself y) k = none_before (at g) (at f) (at o) (i.1 g y) (sooner_isnt (at o) (at f) b) k
        least g (inside {H = K} {c = d} t y) k = l K d g t y k
