-- What is left of a call once its type is walked: its result is matched with the wanted type, and then the other
-- arguments come, in order, each when its wanted type or the types of its parameters are known, and where none is, one
-- in which nothing but the context of an XML literal is to be chosen.
-- The Ur/Web Manual, "Type Inference".
use Rattle.std.specs.Prelude.{◌≡◌, ℕ, ◌<◌, Bool, true, false, List, [], ◌∷◌, Option, Some, None}
use Rattle.std.specs.List.{Contains}
use Rattle.con_terms.specs.Trees.{Cn}
use Rattle.unknowns.specs.Unknowns.{Fd, known, filled}
use Rattle.guided_terms.specs.Forms.{Page, page_of}
use Rattle.guided_terms.specs.Heres.{Here}
use Rattle.guided_terms.specs.Matching.{Tries}
use Rattle.guided_terms.specs.Parts.{Part, a_told, a_later, Pattern, Told, raised, want_of, gives, is_unmatched, none_waits, with_told}
use Rattle.guided_terms.specs.Wanted.{Want, nothing_yet, nothing_ever, whole, takes, stands_in, spliced_in, Judge, HasNoType, chooses}

-- the result is matched with what is wanted, for what is still unknown
pub data ResultTries : Want → Fd → Cn → Fd → Type 0 where
  -- a wanted type
  with_whole : {t r : Cn} {f g : Fd} {m : Bool}
      (tried : Tries f r t g m)
      → ResultTries (whole t) f r g
  -- a tree that is spliced in, of which nothing is open
  with_known_page : {c u r : Cn} {f : Fd}
      (all_found : known f r 0 ≡ true)
      → ResultTries (spliced_in c u) f r f
  -- or else: where it stands, and then the fields before it
  with_page : {c u r : Cn} {f g h : Fd} {p : Page} {m n : Bool}
      (some_open : known f r 0 ≡ false)
      (page : page_of (filled f r) ≡ Some p)
      (context : Tries f p.context c g m)
      (uses : Tries g p.uses u h n)
      → ResultTries (spliced_in c u) f r h
  -- or what is no page as yet
  with_no_page : {c u r : Cn} {f : Fd}
      (some_open : known f r 0 ≡ false)
      (no_page : page_of (filled f r) ≡ None)
      → ResultTries (spliced_in c u) f r f
  -- nothing that a result is matched with
  with_nothing_yet : {r : Cn} {f : Fd} → ResultTries nothing_yet f r f
  with_nothing_ever : {r : Cn} {f : Fd} → ResultTries nothing_ever f r f
  with_function : {a r : Cn} {w : Want} {f : Fd} → ResultTries (takes a w) f r f
  with_literal : {c r : Cn} {u : Option Cn} {f : Fd} → ResultTries (stands_in c u) f r f

-- The types of all arguments that are told and weren't matched are matched with their parameters', in order.
pub data MatchesAll : Fd → List Part → Fd → List Part → Type 0 where
  no_part : {f : Fd} → MatchesAll f [] f []
  an_unmatched : {f g h : Fd} {e : Told} {p : Pattern} {m : Bool} {ps qs : List Part}
      (tried : Tries f (raised f p) e.type g m)
      (others : MatchesAll g ps h qs)
      → MatchesAll f (a_told e p false ∷ ps) h (a_told e p m ∷ qs)
  another : {f g : Fd} {p : Part} {ps qs : List Part}
      (no_unmatched : is_unmatched p ≡ false)
      (others : MatchesAll f ps g qs)
      → MatchesAll f (p ∷ ps) g (p ∷ qs)

-- no argument that waits has a type with what is known of its wanted type
abbrev pub NoneComes : List Judge → Here → Fd → List Part → Type 0
NoneComes js h f ps = (j : ℕ) (p : Pattern)
    → Contains ps (a_later j p)
    → HasNoType (gives js j h (want_of f (raised f p)))

-- the first argument of those that wait that has a type with what is known of its wanted type, or of its parameters
pub record Comes (js : List Judge) (h : Here) (f : Fd) (ps : List Part) (i : ℕ) (e : Told) : Type 0 where
  pub parameter : Pattern
  pub waits : Contains ps (a_later i parameter)
  pub guided : gives js i h (want_of f (raised f parameter)) e.term e.type
  pub first : (j : ℕ) (p : Pattern)
      → Contains ps (a_later j p)
      → j < i
      → HasNoType (gives js j h (want_of f (raised f p)))

-- The first of those whose wanted type isn't all known that has one once contexts of XML literals are chosen in it,
-- where no other comes.
pub record Chooses (js : List Judge) (h : Here) (f : Fd) (ps : List Part) (i : ℕ) (e : Told) : Type 0 where
  pub parameter : Pattern
  pub waits : Contains ps (a_later i parameter)
  pub some_open : known f (raised f parameter) 0 ≡ false
  pub chosen : gives js i h nothing_ever e.term e.type
  pub none_comes : NoneComes js h f ps
  pub first : (j : ℕ) (p : Pattern)
      → Contains ps (a_later j p)
      → j < i
      → known f (raised f p) 0 ≡ false
      → HasNoType (gives js j h nothing_ever)

-- the other arguments, up to the last; contexts are chosen only where no more will be known of the wanted type
pub data Settles (js : List Judge) (h : Here) (w : Want) : Fd → List Part → Fd → List Part → Type 0 where
  all_told : {f : Fd} {ps : List Part}
      (none_waits : none_waits ps ≡ true)
      → Settles js h w f ps f ps
  one_comes : {f g l : Fd} {ps qs rs : List Part} {i : ℕ} {e : Told}
      (comes : Comes js h f ps i e)
      (matched : MatchesAll f (with_told i e ps) g qs)
      (others : Settles js h w g qs l rs)
      → Settles js h w f ps l rs
  one_is_chosen : {f g l : Fd} {ps qs rs : List Part} {i : ℕ} {e : Told}
      (no_more_known : chooses w ≡ true)
      (chosen : Chooses js h f ps i e)
      (matched : MatchesAll f (with_told i e ps) g qs)
      (others : Settles js h w g qs l rs)
      → Settles js h w f ps l rs
