-- Values that a link, a form or a cookie can carry, as finite trees.
use Rattle.std.specs.Prelude.{ℕ, ℤ, List, [], ◌∷◌}

mutual
  pub data Wr : Type 0 where
    int : ℤ → Wr
    -- a text, by its bytes
    words : List ℕ → Wr
    -- the record without fields
    unit : Wr
    -- the fields of a record, in the byte order of their names
    rec_of : Wrs → Wr
    -- a constructor's name alone
    bare : List ℕ → Wr
    -- a constructor's name, and what it holds
    tagged : List ℕ → Wr → Wr

  pub data Wrs : Type 0 where
    no_wires : Wrs
    wire : Wr → Wrs → Wrs

-- the values one by one
abbrev pub wire_list : Wrs → List Wr
wire_list no_wires = []
wire_list (wire w ws) = w ∷ wire_list ws
