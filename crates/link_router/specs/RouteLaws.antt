-- Laws of routes: a path is read piece by piece, and is one call or is refused for one reason.
use Rattle.std.specs.Prelude.{◌≡◌, ◌≢◌, ℕ, ◌<◌, Bool, List, [], ◌++◌, length, Option, Some, None, slice_get, ◌⊎◌}
use Rattle.std.specs.List.{Contains, AllByRecursion}
use Rattle.table_rows.specs.Shapes.{Sh, Cases}
use Rattle.link_router.specs.Calls.{Ent, Rts, Cl, is_post}
use Rattle.link_router.specs.Links.{Route}
use Rattle.link_router.specs.Reading.{ReadsAll}
use Rattle.link_router.specs.Routed.{Astray, Fits, Refuses}

-- a name stands in a link as it is: it has neither / nor %
abbrev pub IsPlain : List ℕ → Type 0
IsPlain name = AllByRecursion (λ b. (b ≢ 47) × (b ≢ 37)) name

-- What the routes of an accepted program are: names of at least one piece, none of which begins another, and no two
-- of which are read by one method; constructors with plain names, each once in a datatype.
pub record AreNamed (routes : Rts) : Type 0 where
  pub some_pieces : (e : Ent) → Contains routes.entries e → 0 < length e.name
  pub none_begins : (e d : Ent) (more : List (List ℕ)) → Contains routes.entries e → Contains routes.entries d
      → e.name ++ more ≡ d.name → more ≡ []
  pub plain_names : (e : Ent) → Contains routes.entries e → AllByRecursion IsPlain e.name
  pub entries_differ : (i j : ℕ) (e d : Ent) → slice_get routes.entries i ≡ Some e
      → slice_get routes.entries j ≡ Some d → is_post e.form ≡ is_post d.form → e.name ≡ d.name → i ≡ j
  pub plain_constructors : (cs : Cases) (n : List ℕ) (held : Option Sh) → Contains routes.datatypes cs
      → Contains cs (n, held) → IsPlain n
  pub constructors_differ : (cs : Cases) (n : List ℕ) (h k : Option Sh) → Contains routes.datatypes cs
      → Contains cs (n, h) → Contains cs (n, k) → h ≡ k

-- A call that a target is read as: the target begins with its entry's name, and the pieces that are left are read as
-- the arguments, all of them.
pub record ReadAs (routes : Rts) (post : Bool) (target : List ℕ) (call : Cl) : Type 0 where
  pub entry : Ent
  pub is_entry : slice_get routes.entries call.entry ≡ Some entry
  pub by_method : is_post entry.form ≡ post
  pub left : List (List ℕ)
  pub named : Fits target entry left
  pub arguments : ReadsAll routes.datatypes entry.arguments left call.wires []
  pub no_form : call.form ≡ None
  pub no_cookie : call.cookie ≡ []

-- The calls of a path are those that it is read as.
abbrev pub RoutesAreRead : Type 0
RoutesAreRead = (routes : Rts) (post : Bool) (target : List ℕ) (call : Cl) → AreNamed routes →
    (Route routes post target call → ReadAs routes post target call) ×
    (ReadAs routes post target call → Route routes post target call)

-- At most one call has a path.
abbrev pub OneCallAtMost : Type 0
OneCallAtMost = (routes : Rts) (post : Bool) (target : List ℕ) (c d : Cl) → AreNamed routes
    → Route routes post target c → Route routes post target d → c ≡ d

-- A target that is a call isn't refused.
abbrev pub CallsAreNotRefused : Type 0
CallsAreNotRefused = (routes : Rts) (post : Bool) (target : List ℕ) (call : Cl) (x : Astray)
    → AreNamed routes
    → Route routes post target call
    → Refuses routes post target x
    → ⊥

-- And a target is refused for one reason at most.
abbrev pub OneRefusalAtMost : Type 0
OneRefusalAtMost = (routes : Rts) (post : Bool) (target : List ℕ) (x y : Astray)
    → AreNamed routes
    → Refuses routes post target x
    → Refuses routes post target y
    → x ≡ y

-- Each target is a call, or is refused.
abbrev pub EachTargetIsRead : Type 0
EachTargetIsRead = (routes : Rts) (post : Bool) (target : List ℕ) → AreNamed routes
    → ((call : Cl) × Route routes post target call) ⊎ ((why : Astray) × Refuses routes post target why)
