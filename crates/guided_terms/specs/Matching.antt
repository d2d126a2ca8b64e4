-- Matching a pattern with a type: what is found for the pattern's unknowns, which are its innermost binders. Two types
-- are compared by their normal forms. Rows are taken apart as they are written, so what is found for an unknown has its
-- fields in the order of the type that was matched.
--
-- A pattern is what a rule takes: unknowns, parts that hold no unknown, arrows, records, applications of basic names,
-- and rows. What has no rule is none, and what another form stands against has no answer. There is one answer at most.
-- The Ur/Web Manual, "Type Inference".
use Rattle.std.specs.Prelude.{◌≡◌, ℕ, Bool, true, false, List, [], ◌∷◌, Option, Some, None}
use Rattle.con_terms.specs.Trees.{Kd, row_of, Cn, var, basic, arrow, record_of, app, row, cat, no_pairs, pair}
use Rattle.core_typing.specs.Compared.{Alike}
use Rattle.row_normal.specs.Ordered.{joined}
use Rattle.unknowns.specs.Unknowns.{Fd, kind_of, is_open, put, known, told, filled}
use Rattle.guided_terms.specs.Forms.{head_of, pieces_of}

-- whether a constructor is a basic name, or one that is applied
abbrev pub is_of_basic : Cn → Bool
is_of_basic (basic s) = true
is_of_basic (app f a) = is_of_basic f
is_of_basic _ = false

-- whether it is a row literal, or ++
abbrev pub is_row : Cn → Bool
is_row (row k ps) = true
is_row (cat a b) = true
is_row _ = false

-- whether a piece of a row is a field
abbrev pub is_field : Cn → Bool
is_field (row k (pair n v ps)) = true
is_field _ = false

-- a piece is a field of a name
pub data IsNamed : Cn → Cn → Type 0 where
  -- [m = v], where m is n
  named : {k : Kd} {n m v : Cn}
      (alike : Alike n m)
      → IsNamed n (row k (pair m v no_pairs))

-- the value of the first field of a name among pieces, and the other pieces in their order
pub data FieldTaken : Cn → List Cn → Cn → List Cn → Type 0 where
  -- [m = v], .., where m is n
  this_field : {k : Kd} {n m v : Cn} {ps : List Cn}
      (alike : Alike n m)
      → FieldTaken n (row k (pair m v no_pairs) ∷ ps) v ps
  -- p, .., where p is no field of the name
  later_field : {n p v : Cn} {ps rest : List Cn}
      (another : IsNamed n p → ⊥)
      (later : FieldTaken n ps v rest)
      → FieldTaken n (p ∷ ps) v (p ∷ rest)

-- pieces without the first that is this one
pub data PieceTaken : Cn → List Cn → List Cn → Type 0 where
  -- p, .., where p is q
  this_piece : {q p : Cn} {ps : List Cn}
      (alike : Alike p q)
      → PieceTaken q (p ∷ ps) ps
  -- p, .., where p isn't
  later_piece : {q p : Cn} {ps rest : List Cn}
      (another : Alike p q → ⊥)
      (later : PieceTaken q ps rest)
      → PieceTaken q (p ∷ ps) (p ∷ rest)

-- without several, one after another
pub data PiecesTaken : List Cn → List Cn → List Cn → Type 0 where
  no_piece : {ps : List Cn} → PiecesTaken [] ps ps
  a_piece : {q : Cn} {qs ps rest left : List Cn}
      (first : PieceTaken q ps rest)
      (others : PiecesTaken qs rest left)
      → PiecesTaken (q ∷ qs) ps left

-- Of a row's pieces those that are no fields are taken out of what is left of the type's pieces. At most one of them
-- holds an unknown that isn't found, and it is this unknown alone.
pub data OthersTaken : Fd → List Cn → List Cn → Option ℕ → List Cn → Type 0 where
  no_other : {f : Fd} {left : List Cn} → OthersTaken f [] left None left
  -- [n = v]
  a_literal : {f : Fd} {p : Cn} {ps left rest : List Cn} {o : Option ℕ}
      (field : is_field p ≡ true)
      (others : OthersTaken f ps left o rest)
      → OthersTaken f (p ∷ ps) left o rest
  -- r, in which nothing is open
  a_known_row : {f : Fd} {p : Cn} {ps qs left between rest : List Cn} {o : Option ℕ}
      (no_field : is_field p ≡ false)
      (nothing_open : known f p 0 ≡ true)
      (row : pieces_of (told f p) ≡ Some qs)
      (taken : PiecesTaken qs left between)
      (others : OthersTaken f ps between o rest)
      → OthersTaken f (p ∷ ps) left o rest
  -- the unknown that isn't found
  the_unknown : {f : Fd} {i : ℕ} {ps left rest : List Cn}
      (not_found : is_open f i ≡ true)
      (others : OthersTaken f ps left None rest)
      → OthersTaken f (var i ∷ ps) left (Some i) rest

-- what is left of the type's pieces is found for that unknown, in its order; without one, nothing may be left
pub data RestFound : Fd → Option ℕ → List Cn → Fd → Type 0 where
  nothing_left : {f : Fd} → RestFound f None [] f
  for_unknown : {f : Fd} {i : ℕ} {k : Kd} {left : List Cn}
      (kind : kind_of f i ≡ Some (row_of k))
      → RestFound f (Some i) left (put f i (joined k left))

mutual
  -- with what is found already, a pattern is matched with a type, and then this is found
  pub data Matches : Fd → Cn → Cn → Fd → Type 0 where
    -- p, in which nothing is open
    known_part : {f : Fd} {p a : Cn}
        (nothing_open : known f p 0 ≡ true)
        (alike : Alike (told f p) a)
        → Matches f p a f
    -- p, in which something is: by its form, with what is found put in
    open_part : {f g : Fd} {p q a : Cn}
        (some_open : known f p 0 ≡ false)
        (form : head_of (filled f p) ≡ Some q)
        (matched : MatchesForm f q a g)
        → Matches f p a g

  pub data MatchesForm : Fd → Cn → Cn → Fd → Type 0 where
    -- q, in which nothing is open any more
    known_form : {f : Fd} {q a : Cn}
        (nothing_open : known f q 0 ≡ true)
        (alike : Alike (told f q) a)
        → MatchesForm f q a f
    -- an unknown: the type is found for it
    an_unknown : {f : Fd} {i : ℕ} {a : Cn}
        (not_found : is_open f i ≡ true)
        → MatchesForm f (var i) a (put f i a)
    -- p -> q
    an_arrow : {f g h : Fd} {p q a b c : Cn}
        (some_open : known f (arrow p q) 0 ≡ false)
        (form : head_of a ≡ Some (arrow b c))
        (from : Matches f p b g)
        (to : Matches g q c h)
        → MatchesForm f (arrow p q) a h
    -- $p
    a_record : {f g : Fd} {p a b : Cn}
        (some_open : known f (record_of p) 0 ≡ false)
        (form : head_of a ≡ Some (record_of b))
        (matched : Matches f p b g)
        → MatchesForm f (record_of p) a g
    -- p q, where p is a basic name, applied to others or not
    an_application : {f g h : Fd} {p q a b c : Cn}
        (some_open : known f (app p q) 0 ≡ false)
        (of_basic : is_of_basic p ≡ true)
        (form : head_of a ≡ Some (app b c))
        (function : Matches f p b g)
        (argument : Matches g q c h)
        → MatchesForm f (app p q) a h
    -- [n = v, ..] ++ r ++ ..: its fields first, then its other pieces, and what is left of the type's is the unknown's
    some_row : {f g h : Fd} {q a : Cn} {ps as' left rest : List Cn} {o : Option ℕ}
        (some_open : known f q 0 ≡ false)
        (is_row : is_row q ≡ true)
        (pattern : pieces_of q ≡ Some ps)
        (type : pieces_of a ≡ Some as')
        (fields : MatchesFields f ps as' g left)
        (others : OthersTaken g ps left o rest)
        (found : RestFound g o rest h)
        → MatchesForm f q a h

  -- each field of the pattern, with the field of its name; its name holds no unknown that isn't found
  pub data MatchesFields : Fd → List Cn → List Cn → Fd → List Cn → Type 0 where
    no_field : {f : Fd} {as' : List Cn} → MatchesFields f [] as' f as'
    -- [n = v]
    a_field : {f g h : Fd} {k : Kd} {n v b : Cn} {ps as' rest left : List Cn}
        (nothing_open : known f n 0 ≡ true)
        (taken : FieldTaken (told f n) as' b rest)
        (matched : Matches f v b g)
        (others : MatchesFields g ps rest h left)
        → MatchesFields f (row k (pair n v no_pairs) ∷ ps) as' h left
    -- another piece
    another : {f g : Fd} {p : Cn} {ps as' left : List Cn}
        (no_field : is_field p ≡ false)
        (others : MatchesFields f ps as' g left)
        → MatchesFields f (p ∷ ps) as' g left

-- a pattern fits a type: with what is found no unknown of it is left, and it is that type
pub record Fit (f : Fd) (p a : Cn) (g : Fd) : Type 0 where
  pub matched : Matches f p a g
  pub all_found : known g p 0 ≡ true
  pub alike : Alike (told g p) a

-- What comes of a pattern and a type, and whether the pattern counts as matched then. Nothing is compared where nothing
-- is open; a pattern that doesn't fit may do so once more is found.
pub data Tries : Fd → Cn → Cn → Fd → Bool → Type 0 where
  nothing_open : {f : Fd} {p a : Cn}
      (all_found : known f p 0 ≡ true)
      → Tries f p a f true
  fits : {f g : Fd} {p a : Cn}
      (some_open : known f p 0 ≡ false)
      (fit : Fit f p a g)
      → Tries f p a g true
  fits_not_yet : {f : Fd} {p a : Cn}
      (some_open : known f p 0 ≡ false)
      (no_fit : (g : Fd) → Fit f p a g → ⊥)
      → Tries f p a f false
