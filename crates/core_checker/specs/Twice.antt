-- Entries that are one call twice, and what is told of them.
use Rattle.std.specs.Prelude.{◌≡◌, ℕ, ◌<◌, Bool, List, [], ◌∷◌, ◌++◌, Some, slice_get, map}
use Rattle.con_terms.specs.declared.place.Place.{Place}
use Rattle.link_router.specs.Calls.{Ent, is_post}
use Rattle.core_terms.specs.Trees.{Ex, Nms, no_named, named, De, val, vals, con_is, datatype, thing, Pg}
use Rattle.core_typing.specs.Declarations.{Value, values}
use Rattle.core_typing.specs.Entries.{IsEntry}
use Rattle.core_typing.specs.Faults.{Fault, redeclared, twice_entry}

-- two entries have one name, and are read by one method
abbrev pub SameCall : Ent → Ent → Type 0
SameCall a b = (is_post a.form ≡ is_post b.form) × (a.name ≡ b.name)

-- the entry at a place is one call with an earlier one
abbrev pub Twice : List Ent → ℕ → Type 0
Twice es j = (i : ℕ) × (a : Ent) × (b : Ent) × (i < j)
    × (slice_get es i ≡ Some a)
    × (slice_get es j ≡ Some b)
    × SameCall a b

-- where values stand
abbrev pub places_of : List Value → List Place
places_of vs = map (λ (v : Value). v.place) vs

-- the same by declarations
abbrev pub named_places : Nms → List Place
named_places no_named = []
named_places (named p x w t e ns) = p ∷ named_places ns

abbrev pub decl_places : De → List Place
decl_places (val path p x w t e) = p ∷ []
decl_places (vals path ns) = named_places ns
decl_places (thing path p x k t) = p ∷ []
decl_places _ = []

abbrev pub all_places : List De → List Place
all_places [] = []
all_places (d ∷ ds) = decl_places d ++ all_places ds

-- where the value stands that the entry at a place calls by its number
abbrev pub CalledAt : List Place → List ℕ → ℕ → Place → Type 0
CalledAt places callees n q = (i : ℕ) × (slice_get callees n ≡ Some i) × (slice_get places i ≡ Some q)

-- the name of the entry at a place
abbrev pub NameAt : List Ent → ℕ → List (List ℕ) → Type 0
NameAt es n name = (e : Ent) → slice_get es n ≡ Some e → name ≡ e.name

-- what is told of the entry at a place: it is one call with an earlier one, and calls a value by its number, which
-- stands there
pub data ToldTwice (es : List Ent) (places : List Place) (callees : List ℕ) (n : ℕ) : Fault → Type 0 where
  told_twice : {e : Ent} {i : ℕ} {q : Place}
      → Twice es n
      → slice_get es n ≡ Some e
      → slice_get callees n ≡ Some i
      → slice_get places i ≡ Some q
      → ToldTwice es places callees n (redeclared q (twice_entry e.name))

-- what is told of the entries before a place
pub data ToldBefore (es : List Ent) (places : List Place) (callees : List ℕ) (m : ℕ) : Fault → Type 0 where
  told_before : {n : ℕ} {f : Fault}
      → n < m
      → ToldTwice es places callees n f
      → ToldBefore es places callees m f

-- what is told of a program's entries: a second one of a name and a method
pub data SecondEntry (p : Pg) : Fault → Type 0 where
  second_entry : {i j : ℕ} {post : Bool} {b e : Ent} {v : Value}
      → IsEntry p i post b
      → IsEntry p j post e
      → i < j
      → b.name ≡ e.name
      → slice_get (values p.decls) j ≡ Some v
      → SecondEntry p (redeclared v.place (twice_entry e.name))
