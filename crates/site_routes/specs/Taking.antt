-- What entries take: arguments that links carry, and a form's fields where they are actions.
use Rattle.std.specs.Prelude.{◌≡◌, ℕ, Bool, true, false, List, [], ◌∷◌, ◌++◌, map, Option, Some, None, slice_get, drop, ◌⊎◌}
use Rattle.std.specs.Bool.{Decides}
use Rattle.std.specs.List.{Contains}
use Rattle.con_terms.specs.Trees.{Cn, arrow}
use Rattle.table_rows.specs.Shapes.{Sh, Shs, no_shapes, shape}
use Rattle.link_router.specs.Calls.{Ent}
use Rattle.core_terms.specs.Trees.{Dt, Pg}
use Rattle.core_terms.specs.Types.{transaction_of, page_type}
use Rattle.core_typing.specs.Scopes.{normal_of}
use Rattle.core_typing.specs.Compared.{Alike}
use Rattle.core_typing.specs.Carried.{Carried, Filled}
use Rattle.core_typing.specs.Declarations.{Value, values}
use Rattle.core_typing.specs.Entries.{Shaped, TakesToPage, TakesFormToPage, all_datatypes, program_targets, EntriesFrom, entries_of}
use Rattle.carried_types.specs.Carriers.{AreCarriers}
use Rattle.site_routes.specs.Linked.{Linked}

-- what types are looked at with belongs to a program
pub record Knows (p : Pg) (names : List (List ℕ)) (ds : List Dt) (bs : List Bool) : Type 0 where
  pub named : names ≡ p.names
  pub declared : ds ≡ all_datatypes p
  pub carriers : AreCarriers ds bs

-- with a form, where the flag is true, or without
abbrev pub Takes : Pg → Bool → Cn → Shs → Option Sh → Type 0
Takes p false t ss None = TakesToPage p t ss
Takes p false t ss (Some f) = ⊥
Takes p true t ss None = ⊥
Takes p true t ss (Some f) = TakesFormToPage p t ss f

-- an argument: its shape, or none
abbrev pub ArgumentIs : Pg → Cn → Option Sh → Type 0
ArgumentIs p t None = (s : Sh) → Carried (all_datatypes p) t → Shaped p.names (all_datatypes p) 0 t s → ⊥
ArgumentIs p t (Some s) = Carried (all_datatypes p) t × Shaped p.names (all_datatypes p) 0 t s

-- the last argument of an action
abbrev pub FormIs : Pg → Cn → Cn → Option Sh → Type 0
FormIs p a b None = (s : Sh)
    → Filled a → Shaped p.names (all_datatypes p) 0 a s → Alike b (transaction_of page_type) → ⊥
FormIs p a b (Some s) = Filled a × Shaped p.names (all_datatypes p) 0 a s × Alike b (transaction_of page_type)

-- what a type is to an entry
pub data Stp : Type 0 where
  nothing : Stp
  a_page : Stp
  a_form : Sh → Stp
  an_argument : Sh → Cn → Stp

abbrev pub NothingTaken : Pg → Bool → Cn → Type 0
NothingTaken p w t = (ss : Shs) (form : Option Sh) → Takes p w t ss form → ⊥

-- what is taken behind the argument is taken with it, and something is taken behind it where something is with it
pub record Passes (p : Pg) (w : Bool) (t : Cn) (s : Sh) (b : Cn) : Type 0 where
  pub onward : (ss : Shs) (form : Option Sh) → Takes p w b ss form → Takes p w t (shape s ss) form
  pub back : (ss : Shs) (form : Option Sh) → Takes p w t ss form → (rest : Shs) × (f : Option Sh) × Takes p w b rest f

abbrev pub StepIs : Pg → Bool → Cn → Stp → Type 0
StepIs p w t nothing = NothingTaken p w t
StepIs p w t a_page = Takes p w t no_shapes None
StepIs p w t (a_form f) = Takes p w t no_shapes (Some f)
StepIs p w t (an_argument s b) = Passes p w t s b

-- a function that isn't an entry's last part
abbrev pub NotLast : Pg → Bool → Cn → Cn → Cn → Type 0
NotLast p false t a b = Alike t (transaction_of page_type) → ⊥
NotLast p true t a b = FormIs p a b None

-- arguments before others
abbrev pub before : List Sh → Shs → Shs
before [] ss = ss
before (d ∷ ds) ss = shape d (before ds ss)

-- what is left of a type behind these arguments
pub record Behind (p : Pg) (w : Bool) (t : Cn) (done : List Sh) (now : Cn) : Type 0 where
  pub onward : (ss : Shs) (form : Option Sh) → Takes p w now ss form → Takes p w t (before done ss) form
  pub back : (ss : Shs) (form : Option Sh) → Takes p w t ss form → (rest : Shs) × (f : Option Sh) × Takes p w now rest f

-- all that a type takes
abbrev pub TakenIs : Pg → Bool → Cn → Option (Shs × Option Sh) → Type 0
TakenIs p w t None = NothingTaken p w t
TakenIs p w t (Some r) = Takes p w t r.0 r.1

-- the entry of a value
abbrev pub EntryIs : Pg → Bool → Linked → Option Ent → Type 0
EntryIs p w v None = NothingTaken p w v.0
EntryIs p w v (Some e) = Takes p w v.0 e.arguments e.form × (e.name ≡ v.1)

-- there is none where the value isn't called so
abbrev pub MethodIs : Pg → Bool → Bool → Linked → Option Ent → Type 0
MethodIs p w false v o = o ≡ None
MethodIs p w true v o = EntryIs p w v o

-- an entry where there is one, with the value's number
abbrev pub listed_one : ℕ → Option Ent → List (ℕ × Ent)
listed_one i None = []
listed_one i (Some e) = (i, e) ∷ []

abbrev pub numbers_of : List (ℕ × Ent) → List ℕ
numbers_of es = map (λ (e : ℕ × Ent). e.0) es

-- entries with their numbers, as they are kept
abbrev pub Kept : Type 0
Kept = List Ent × List ℕ

abbrev pub with_listed : Kept → List (ℕ × Ent) → Kept
with_listed k es = (k.0 ++ entries_of es, k.1 ++ numbers_of es)

-- an entry of a value is added, where it has one
abbrev pub AddsOne : Pg → Bool → ℕ → Linked → Kept → Kept → Type 0
AddsOne p w i v old new = (o : Option Ent) × EntryIs p w v o × (new ≡ with_listed old (listed_one i o))

abbrev pub AddsMethod : Pg → Bool → Bool → ℕ → Linked → Kept → Kept → Type 0
AddsMethod p w called i v old new = (o : Option Ent)
    × MethodIs p w called v o
    × (new ≡ with_listed old (listed_one i o))

abbrev pub AddsBoth : Pg → Bool → Bool → ℕ → Linked → Kept → Kept → Type 0
AddsBoth p by_get by_post i v old new = (mid : Kept)
    × AddsMethod p false by_get i v old mid
    × AddsMethod p true by_post i v mid new

-- whether a request can call a value: by GET an export, or what a link calls; by POST what an action calls
abbrev pub Called : Pg → Bool → ℕ → Type 0
Called p false i = Contains p.exports i ⊎ Contains (program_targets p) (false, i)
Called p true i = Contains (program_targets p) (true, i)

abbrev pub AddsAll : Pg → ℕ → Linked → Kept → Kept → Type 0
AddsAll p i v old new = (by_get : Bool) × (by_post : Bool)
    × Decides by_get (Called p false i)
    × Decides by_post (Called p true i)
    × AddsBoth p by_get by_post i v old new

-- the entries of the values before a number
pub record SoFar (p : Pg) (i : ℕ) (k : Kept) : Type 0 where
  pub listed : List (ℕ × Ent)
  pub onward : (rest : List (ℕ × Ent))
      → EntriesFrom p i (drop i (values p.decls)) rest
      → EntriesFrom p 0 (values p.decls) (listed ++ rest)
  pub entries : k.0 ≡ entries_of listed
  pub called : k.1 ≡ numbers_of listed

-- the entries of all values
abbrev pub KeepsAll : Pg → Kept → Type 0
KeepsAll p k = (es : List (ℕ × Ent))
    × EntriesFrom p 0 (values p.decls) es
    × (k.0 ≡ entries_of es) × (k.1 ≡ numbers_of es)

-- a type that isn't that of actions that give a page
abbrev pub NoPage : Cn → Type 0
NoPage t = Alike t (transaction_of page_type) → ⊥
