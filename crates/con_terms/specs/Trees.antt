-- Kinds and constructors as finite trees, with binders counted outwards from 0.
-- The Ur/Web Manual, "Core Language".
use Rattle.std.specs.Prelude.{ℕ, Bool, List, [], ◌∷◌}

mutual
  -- kinds: Type, Unit, Name, rows {k}, arrows k -> l, tuples (k * ..)
  pub data Kd : Type 0 where
    types : Kd
    units : Kd
    names : Kd
    row_of : Kd → Kd
    to : Kd → Kd → Kd
    tuple_of : Kds → Kd

  pub data Kds : Type 0 where
    no_kinds : Kds
    kind : Kd → Kds → Kds

mutual
  -- constructors
  pub data Cn : Type 0 where
    -- what the binder that is so many binders further out binds
    var : ℕ → Cn
    -- a basic name, by its symbol's number
    basic : ℕ → Cn
    -- a -> b
    arrow : Cn → Cn → Cn
    -- x :: k -> b, where the flag tells x ::: k -> b
    poly : Bool → Kd → Cn → Cn
    -- [a ~ b] => c
    guarded : Cn → Cn → Cn → Cn
    -- $a
    record_of : Cn → Cn
    app : Cn → Cn → Cn
    -- fn x :: k => b
    lambda : Kd → Cn → Cn
    -- ()
    unit_con : Cn
    -- #X, by its symbol's number
    name : ℕ → Cn
    -- a row literal [n = v, ..] of kind {k}
    row : Kd → Prs → Cn
    -- a ++ b
    cat : Cn → Cn → Cn
    -- map, from {k} to {l}
    map_of : Kd → Kd → Cn
    tuple : Cns → Cn
    -- the component with this number, the first having 0
    proj : Cn → ℕ → Cn

  pub data Cns : Type 0 where
    no_cons : Cns
    con : Cn → Cns → Cns

  -- the fields of a row literal, each a name and a value
  pub data Prs : Type 0 where
    no_pairs : Prs
    pair : Cn → Cn → Prs → Prs

-- the kinds one by one
abbrev pub kind_list : Kds → List Kd
kind_list no_kinds = []
kind_list (kind k ks) = k ∷ kind_list ks

-- the constructors one by one
abbrev pub con_list : Cns → List Cn
con_list no_cons = []
con_list (con c cs) = c ∷ con_list cs

-- the fields one by one
abbrev pub pair_list : Prs → List (Cn × Cn)
pair_list no_pairs = []
pair_list (pair n v ps) = (n, v) ∷ pair_list ps

-- the names of the fields
abbrev pub names_of : Prs → List Cn
names_of no_pairs = []
names_of (pair n v ps) = n ∷ names_of ps
