-- What a refusal rests on that tells two pieces, or that a comparison is too large: a part of the constructor that asks
-- for the comparison, in the scope in which that part stands.
use Rattle.std.specs.Prelude.{◌≡◌, ℕ, ◌<◌, ◌⊎◌, Bool, List, [], ◌∷◌, Some, None, Ok}
use Rattle.std.specs.List.{Contains}
use Rattle.con_terms.specs.Trees.{Kd, Cn, arrow, poly, guarded, record_of, app, lambda, row, cat, tuple, proj, Cns, con, Prs, pair, names_of}
use Rattle.con_terms.specs.Size.{depth}
use Rattle.con_terms.specs.Kinded.{Scope, assume, bind}
use Rattle.con_terms.specs.View.{con_tree}
use Rattle.disjoint_prover.specs.Touching.{Touches}
use Rattle.row_normal.specs.NormalForm.{limit, nf}
use Rattle.kind_rules.specs.Compared.{comparison_units, normal_forms}
use Rattle.kind_rules.specs.Flaws.{Flw, unbound_variable, unbound_basic, kinds_differ, pieces_touch, too_large, closed}
use Rattle.kind_rules.specs.declared.fault.KindFault.{KindFault}
use Rattle.kind_rules.specs.declared.fault.KindFault.TheVariants.{Unbound, KindMismatch, NotDisjoint, TooLarge, Memory}

mutual
  -- d stands in c under binders of these kinds, the outermost first: c in the scope G, and d in the scope H
  pub data Stands : Scope → Cn → List Kd → Scope → Cn → Type 0 where
    itself : {G : Scope} {c : Cn} → Stands G c [] G c
    -- a -> b
    left_of_arrow : {G H : Scope} {ks : List Kd} {a b d : Cn} → Stands G a ks H d → Stands G (arrow a b) ks H d
    right_of_arrow : {G H : Scope} {ks : List Kd} {a b d : Cn} → Stands G b ks H d → Stands G (arrow a b) ks H d
    -- x :: k -> b
    in_poly : {G H : Scope} {ks : List Kd} {x : Bool} {k : Kd} {b d : Cn}
        → Stands (bind k G) b ks H d
        → Stands G (poly x k b) (k ∷ ks) H d
    -- [a ~ b] => c, where c stands under the guard of the two normal forms
    left_of_guard : {G H : Scope} {ks : List Kd} {a b c d : Cn} → Stands G a ks H d → Stands G (guarded a b c) ks H d
    right_of_guard : {G H : Scope} {ks : List Kd} {a b c d : Cn} → Stands G b ks H d → Stands G (guarded a b c) ks H d
    under_guard : {G H : Scope} {ks : List Kd} {a b c d : Cn} {mn : Cn × Cn}
        → normal_forms comparison_units a b ≡ Ok mn
        → Stands (assume mn.0 mn.1 G) c ks H d
        → Stands G (guarded a b c) ks H d
    -- $a
    in_record : {G H : Scope} {ks : List Kd} {a d : Cn} → Stands G a ks H d → Stands G (record_of a) ks H d
    -- f a
    in_function : {G H : Scope} {ks : List Kd} {f a d : Cn} → Stands G f ks H d → Stands G (app f a) ks H d
    in_argument : {G H : Scope} {ks : List Kd} {f a d : Cn} → Stands G a ks H d → Stands G (app f a) ks H d
    -- fn x :: k => b
    in_lambda : {G H : Scope} {ks : List Kd} {k : Kd} {b d : Cn}
        → Stands (bind k G) b ks H d
        → Stands G (lambda k b) (k ∷ ks) H d
    -- [n = v, ..]
    in_row : {G H : Scope} {ks : List Kd} {k : Kd} {ps : Prs} {d : Cn}
        → StandsInField G ps ks H d
        → Stands G (row k ps) ks H d
    -- a ++ b
    left_of_cat : {G H : Scope} {ks : List Kd} {a b d : Cn} → Stands G a ks H d → Stands G (cat a b) ks H d
    right_of_cat : {G H : Scope} {ks : List Kd} {a b d : Cn} → Stands G b ks H d → Stands G (cat a b) ks H d
    -- (c, ..)
    in_tuple : {G H : Scope} {ks : List Kd} {cs : Cns} {d : Cn}
        → StandsInComponent G cs ks H d
        → Stands G (tuple cs) ks H d
    -- c.n
    in_proj : {G H : Scope} {ks : List Kd} {c d : Cn} {n : ℕ} → Stands G c ks H d → Stands G (proj c n) ks H d

  pub data StandsInComponent : Scope → Cns → List Kd → Scope → Cn → Type 0 where
    in_first : {G H : Scope} {ks : List Kd} {c d : Cn} {cs : Cns}
        → Stands G c ks H d
        → StandsInComponent G (con c cs) ks H d
    in_later : {G H : Scope} {ks : List Kd} {c d : Cn} {cs : Cns}
        → StandsInComponent G cs ks H d
        → StandsInComponent G (con c cs) ks H d

  pub data StandsInField : Scope → Prs → List Kd → Scope → Cn → Type 0 where
    in_name : {G H : Scope} {ks : List Kd} {n v d : Cn} {ps : Prs}
        → Stands G n ks H d
        → StandsInField G (pair n v ps) ks H d
    in_value : {G H : Scope} {ks : List Kd} {n v d : Cn} {ps : Prs}
        → Stands G v ks H d
        → StandsInField G (pair n v ps) ks H d
    in_later_field : {G H : Scope} {ks : List Kd} {n v d : Cn} {ps : Prs}
        → StandsInField G ps ks H d
        → StandsInField G (pair n v ps) ks H d

-- n stands in a list before m
pub data Before : List Cn → Cn → Cn → Type 0 where
  first : {ns : List Cn} {n m : Cn} → Contains ns m → Before (n ∷ ns) n m
  later : {ns : List Cn} {x n m : Cn} → Before ns n m → Before (x ∷ ns) n m

-- a and b have to be apart where this constructor stands: the two sides of ++, or two names of a literal
pub data Separates : Cn → Cn → Cn → Type 0 where
  sides : {a b : Cn} → Separates (cat a b) a b
  names : {k : Kd} {ps : Prs} {n m : Cn} → Before (names_of ps) n m → Separates (row k ps) n m

-- the normal forms of a and b are asked where this constructor stands: they have to be apart, or are assumed to be
pub data Normalises : Cn → Cn → Cn → Type 0 where
  to_separate : {c a b : Cn} → Separates c a b → Normalises c a b
  to_assume : {a b c : Cn} → Normalises (guarded a b c) a b

-- a has no normal form within these units, or b has none within those that are left
abbrev pub IsRefused : ℕ → Cn → Cn → Type 0
IsRefused units a b = (nf units a ≡ None) ⊎ ((m : Cn) × (left : ℕ) × (nf units a ≡ Some (m, left)) × (nf left b ≡ None))

-- what part stands where, under binders of which kinds
abbrev pub Parts : Type 1
Parts = List Kd → Scope → Cn → Type 0

-- One of these parts has two sides that have to be apart, and `left_piece` and `right_piece` are the first two pieces
-- of their normal forms that nothing separates where the part stands. What is told, p and q, is these two, closed by
-- the binders under which the part stands.
pub record TouchAmong (Part : Parts) (p q : Cn) : Type 0 where
  pub binders : List Kd
  pub scope : Scope
  pub whole : Cn
  pub left : Cn
  pub right : Cn
  pub forms : Cn × Cn
  pub left_piece : Cn
  pub right_piece : Cn
  pub is_part : Part binders scope whole
  pub asks : Separates whole left right
  pub normal : normal_forms comparison_units left right ≡ Ok forms
  pub touch : Touches scope.guards forms.0 forms.1 left_piece right_piece
  pub left_told : p ≡ closed binders left_piece
  pub right_told : q ≡ closed binders right_piece

-- one of these parts has two sides whose normal forms are asked, and they are refused
pub record LargeAmong (Part : Parts) : Type 0 where
  pub binders : List Kd
  pub scope : Scope
  pub whole : Cn
  pub left : Cn
  pub right : Cn
  pub is_part : Part binders scope whole
  pub asks : Normalises whole left right
  pub refused : IsRefused comparison_units left right

-- what a flaw of a comparison rests on, among these parts
abbrev pub CausedBy : Parts → Flw → Type 0
CausedBy Part (pieces_touch p q) = TouchAmong Part p q
CausedBy Part too_large = LargeAmong Part
CausedBy Part (unbound_variable i) = Unit {0}
CausedBy Part (unbound_basic s) = Unit {0}
CausedBy Part (kinds_differ k l) = Unit {0}

abbrev pub Caused : Scope → Cn → Flw → Type 0
Caused G c = CausedBy (Stands G c)

-- the same of a refusal; a constructor may be too large by its depth, too
abbrev pub HasCause : Scope → Cn → KindFault → Type 0
HasCause G c (NotDisjoint p pieces) = TouchAmong (Stands G c) (con_tree pieces.left) (con_tree pieces.right)
HasCause G c (TooLarge p) = (limit < depth c) ⊎ LargeAmong (Stands G c)
HasCause G c (Unbound p) = Unit {0}
HasCause G c (KindMismatch p wanted found) = Unit {0}
HasCause G c Memory = Unit {0}
