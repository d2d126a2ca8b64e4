-- Which values a type has, and which shapes a value has.
use Rattle.std.specs.Prelude.{◌≡◌, ℕ, zero, suc, ℤ, List, [], ◌∷◌, Some, None, slice_get, IsUtf8, FitsSigned, ◌⊎◌}
use Rattle.std.specs.Int.{w64}
use Rattle.std.specs.List.{AllByRecursion}
use Rattle.con_terms.specs.Trees.{Cn}
use Rattle.core_terms.specs.Trees.{Cd, Dt}
use Rattle.core_terms.specs.Datatypes.{held_at}
use Rattle.core_typing.specs.Scopes.{normal_of}
use Rattle.core_typing.specs.Seen.{Seen, a_number, a_text, a_datatype, a_record, nothing_more, seen}
use Rattle.core_typing.specs.Cover.{Shp, leaf, number_shape, text_shape, bare_shape, holding_shape, record_shape, Shf, no_shape_fields, shape_field}
use Rattle.core_meaning.specs.Values.{V, of_number, of_text, of_fields, of_bare, of_holding, Slots, slot_at, done, more, name_in}

-- In an environment of constructors this is the name with a symbol: it is found within some steps, and within any
-- others either it is found too or more are needed.
pub record IsName (cs : List Cn) (n : Cn) (x : ℕ) : Type 0 where
  pub steps : ℕ
  pub left : ℕ
  pub found : name_in cs n steps ≡ done x left
  pub nothing_else : (b : ℕ) → (name_in cs n b ≡ more) ⊎ ((l : ℕ) × (name_in cs n b ≡ done x l))

-- none of these fields has the name
abbrev pub NoneNamed : List Cn → ℕ → List (Cn × Cn) → Type 0
NoneNamed cs x fs = AllByRecursion (λ (f : Cn × Cn). IsName cs f.0 x → ⊥) fs

mutual
  -- What the normal form of a type lets its values be, down to a depth, in an environment of constructors; deeper it
  -- may be any value. It says less than a typing: at the type of a function or a page, or at a variable, any value may
  -- stand.
  pub data IsOf (ds : List Dt) (cs : List Cn) : ℕ → Cn → V → Type 0 where
    -- below the depth: any value
    deeper : {t : Cn} {v : V} → IsOf ds cs zero t v
    at_form : {d : ℕ} {t n : Cn} {v : V}
        → normal_of t ≡ Some n
        → IsOfSeen ds cs d (seen ds n) v
        → IsOf ds cs (suc d) t v

  -- by what the normal form tells of them
  pub data IsOfSeen (ds : List Dt) (cs : List Cn) : ℕ → Seen → V → Type 0 where
    -- a function, a page, a variable ..: it tells no more, and any value may stand there
    any_value : {d : ℕ} {v : V} → IsOfSeen ds cs d nothing_more v
    -- 1 : int, in 64 bits
    is_number : {d : ℕ} {z : ℤ} → FitsSigned w64 z → IsOfSeen ds cs d a_number (of_number z)
    -- "a" : string, in UTF-8
    is_text : {d : ℕ} {w : List ℕ} → IsUtf8 w → IsOfSeen ds cs d a_text (of_text w)
    -- C : d t .., where C holds nothing
    is_bare : {d : ℕ} {x : Dt} {args : List Cn} {j : ℕ} {c : Cd}
        → slice_get x.constructors j ≡ Some c
        → c.holds ≡ None
        → IsOfSeen ds cs d (a_datatype x args) (of_bare x.symbol j)
    -- C v : d t .., where v is a value of what C holds at t ..
    is_holding : {d : ℕ} {x : Dt} {args : List Cn} {j : ℕ} {c : Cd} {held : Cn} {v : V}
        → slice_get x.constructors j ≡ Some c
        → c.holds ≡ Some held
        → IsOf ds cs d (held_at args held) v
        → IsOfSeen ds cs d (a_datatype x args) (of_holding x.symbol j v)
    -- {n = v, ..} : $[n = t, ..]
    is_record : {d : ℕ} {fs : List (Cn × Cn)} {ss : Slots}
        → AreOf ds cs d fs ss
        → IsOfSeen ds cs d (a_record fs) (of_fields ss)

  -- the values of fields, of which no two have one name; a record may have others beside
  pub data AreOf (ds : List Dt) (cs : List Cn) : ℕ → List (Cn × Cn) → Slots → Type 0 where
    no_field : {d : ℕ} {ss : Slots} → AreOf ds cs d [] ss
    -- {n = v, ..}, where v is a value of n's type
    one_field : {d : ℕ} {n t : Cn} {x : ℕ} {v : V} {fs : List (Cn × Cn)} {ss : Slots}
        → IsName cs n x
        → NoneNamed cs x fs
        → slot_at ss x ≡ Some v
        → IsOf ds cs d t v
        → AreOf ds cs d fs ss
        → AreOf ds cs d ((n, t) ∷ fs) ss

mutual
  -- the shapes of a value: a leaf stands for any value
  pub data HasShape (cs : List Cn) : V → Shp → Type 0 where
    any_has : {v : V} → HasShape cs v leaf
    number_has : {z : ℤ} → HasShape cs (of_number z) (number_shape z)
    text_has : {w : List ℕ} → HasShape cs (of_text w) (text_shape w)
    bare_has : {x j : ℕ} → HasShape cs (of_bare x j) (bare_shape x j)
    holding_has : {x j : ℕ} {v : V} {s : Shp}
        → HasShape cs v s
        → HasShape cs (of_holding x j v) (holding_shape x j s)
    record_has : {ss : Slots} {fs : Shf} → HaveShapes cs ss fs → HasShape cs (of_fields ss) (record_shape fs)

  -- those of fields
  pub data HaveShapes (cs : List Cn) : Slots → Shf → Type 0 where
    none_have : {ss : Slots} → HaveShapes cs ss no_shape_fields
    field_has : {n : Cn} {x : ℕ} {v : V} {s : Shp} {ss : Slots} {fs : Shf}
        → IsName cs n x
        → slot_at ss x ≡ Some v
        → HasShape cs v s
        → HaveShapes cs ss fs
        → HaveShapes cs ss (shape_field n s fs)
