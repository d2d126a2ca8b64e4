-- What is left of a row: it is one field only where that is its first piece, and never nothing.
use Rattle.std.proofs.Common.{◌≡◌, ◌≢◌, ℕ, true, Option, None, List, [], ◌∷◌, ◌++◌, Some, refl, ap, sym, ◌∙◌, subst}
use Rattle.con_terms.specs.Trees.{Kd, types, Cn, var, basic, arrow, poly, guarded, record_of, app, lambda, unit_con, name, row, cat, map_of, tuple, proj, Prs, no_pairs, pair}
use Rattle.row_normal.specs.Ordered.{ordered_pieces, field_pieces, joined, glued, leading_fields, after_leading}
use Rattle.core_terms.specs.Types.{one_field, unit_type}
use Rattle.row_normal.specs.SameTree.{cn_eq}
use Rattle.row_normal.proofs.SameTrees.{cn_eq_refl}
use Rattle.core_typing.specs.Compared.{value_of, field_of}
use Rattle.core_typing.specs.PatternFaults.{left_over, PatFieldsFound, none_bind, one_binds}
use Rattle.core_terms.specs.Trees.{Pfs}
use Rattle.core_typing.specs.Scopes.{Sc}
use Rattle.core_typing.proofs.Normal.{Picks, picks_first, picks_later, field_picks}

-- the first piece stays alone, or is a literal that takes further fields in
data Glued (p : Cn) (ps : List Cn) : Type 0 where
  stays : glued (p ∷ ps) ≡ p ∷ ps → Glued p ps
  opens : (k : Kd) (s : ℕ) (v : Cn) → p ≡ row k (pair (name s) v no_pairs) → glued (p ∷ ps) ≡ row k (pair (name s) v (leading_fields k ps)) ∷ after_leading k ps → Glued p ps

view : (p : Cn) (ps : List Cn) → Glued p ps
view (var i) ps = stays refl
view (basic s) ps = stays refl
view (arrow a b) ps = stays refl
view (poly x k b) ps = stays refl
view (guarded a b c) ps = stays refl
view (record_of a) ps = stays refl
view (app a b) ps = stays refl
view (lambda k b) ps = stays refl
view (cat a b) ps = stays refl
view (map_of k l) ps = stays refl
view (tuple cs) ps = stays refl
view (proj a n) ps = stays refl
view unit_con ps = stays refl
view (name s) ps = stays refl
view (row k no_pairs) ps = stays refl
view (row k (pair (var i) v no_pairs)) ps = stays refl
view (row k (pair (basic s) v no_pairs)) ps = stays refl
view (row k (pair (arrow a b) v no_pairs)) ps = stays refl
view (row k (pair (poly x k' b) v no_pairs)) ps = stays refl
view (row k (pair (guarded a b c) v no_pairs)) ps = stays refl
view (row k (pair (record_of a) v no_pairs)) ps = stays refl
view (row k (pair (app a b) v no_pairs)) ps = stays refl
view (row k (pair (lambda k' b) v no_pairs)) ps = stays refl
view (row k (pair (row k' qs) v no_pairs)) ps = stays refl
view (row k (pair (cat a b) v no_pairs)) ps = stays refl
view (row k (pair (map_of k' l) v no_pairs)) ps = stays refl
view (row k (pair (tuple cs) v no_pairs)) ps = stays refl
view (row k (pair (proj a n) v no_pairs)) ps = stays refl
view (row k (pair unit_con v no_pairs)) ps = stays refl
view (row k (pair (name s) v no_pairs)) ps = opens k s v refl refl
view (row k (pair (var i) v (pair m u qs'))) ps = stays refl
view (row k (pair (basic s) v (pair m u qs'))) ps = stays refl
view (row k (pair (arrow a b) v (pair m u qs'))) ps = stays refl
view (row k (pair (poly x k' b) v (pair m u qs'))) ps = stays refl
view (row k (pair (guarded a b c) v (pair m u qs'))) ps = stays refl
view (row k (pair (record_of a) v (pair m u qs'))) ps = stays refl
view (row k (pair (app a b) v (pair m u qs'))) ps = stays refl
view (row k (pair (lambda k' b) v (pair m u qs'))) ps = stays refl
view (row k (pair (row k' qs) v (pair m u qs'))) ps = stays refl
view (row k (pair (cat a b) v (pair m u qs'))) ps = stays refl
view (row k (pair (map_of k' l) v (pair m u qs'))) ps = stays refl
view (row k (pair (tuple cs) v (pair m u qs'))) ps = stays refl
view (row k (pair (proj a n) v (pair m u qs'))) ps = stays refl
view (row k (pair unit_con v (pair m u qs'))) ps = stays refl
view (row k (pair (name s) v (pair m u qs'))) ps = stays refl

pub no_value : (o : Option (Cn × List Cn)) (r : Cn × List Cn) → o ≡ None → o ≡ Some r → ⊥
no_value o r h e = cc

-- pieces that make one literal are that literal
alone : (p : Cn) (ps : List Cn) (qs : Prs) → joined types (p ∷ ps) ≡ row types qs → p ≡ row types qs
alone p [] qs e = e
alone p (q ∷ ps) qs e = cc

one_literal : (k : Kd) (s : ℕ) (v m u : Cn) (fs : Prs) → row k (pair (name s) v fs) ≡ row types (pair m u no_pairs) → row k (pair (name s) v no_pairs) ≡ row types (pair m u no_pairs)
one_literal k s v m u fs e = cc

no_literal : (k : Kd) (s : ℕ) (v : Cn) (fs : Prs) → row k (pair (name s) v fs) ≡ row types no_pairs → ⊥
no_literal k s v fs e = cc

pub inside : {c d : Cn} → record_of c ≡ record_of d → c ≡ d
inside e = cc

first_alone : (p : Cn) (ps : List Cn) (m u : Cn) → Glued p ps → joined types (glued (p ∷ ps)) ≡ row types (pair m u no_pairs) → p ≡ row types (pair m u no_pairs)
first_alone p ps m u (stays g) e = alone p ps (pair m u no_pairs) (ap (joined types) (sym g) ∙ e)
first_alone p ps m u (opens k s v is g) e =
    is ∙ one_literal k s v m u (leading_fields k ps) (alone (row k (pair (name s) v (leading_fields k ps))) (after_leading k ps) (pair m u no_pairs) (ap (joined types) (sym g) ∙ e))

-- a field of a name is found where it stands first
value_there : (n v : Cn) → value_of n (one_field n v) ≡ Some v
value_there n v = let q : cn_eq n n ≡ true = cn_eq_refl n in rw q refl

pub field_there : (n v : Cn) (ps : List Cn) → field_of n (one_field n v ∷ ps) ≡ Some (v, ps)
field_there n v ps = let h : value_of n (one_field n v) ≡ Some v = value_there n v in rw h refl

pub no_such_field : (ps : List Cn) (m : Cn) → field_of m ps ≡ None → left_over ps ≢ record_of (one_field m unit_con)
no_such_field [] m none e = let f = inside e in cc
no_such_field (p ∷ ps) m none e =
    let i : p ≡ one_field m unit_con = first_alone p ps m unit_con (view p ps) (inside e) in
    no_value (field_of m (p ∷ ps)) (unit_con, ps) none (ap (λ x. field_of m (x ∷ ps)) i ∙ field_there m unit_con ps)

-- pieces are no rows without fields
abbrev IsFull : Cn → Type 0
IsFull (row k no_pairs) = ⊥
IsFull _ = Unit {0}

abbrev AreFull : List Cn → Type 0
AreFull [] = Unit {0}
AreFull (p ∷ ps) = IsFull p × AreFull ps

full_behind : (ps qs : List Cn) → AreFull ps → AreFull qs → AreFull (ps ++ qs)
full_behind [] qs h k = k
full_behind (p ∷ ps) qs h k = (h.0, full_behind ps qs h.1 k)

full_fields : (k : Kd) (qs : Prs) → AreFull (field_pieces k qs)
full_fields k no_pairs = tt
full_fields k (pair n v qs) = (tt, full_fields k qs)

full_pieces : (c : Cn) → AreFull (ordered_pieces c)
full_pieces (row k qs) = full_fields k qs
full_pieces (cat a b) = full_behind (ordered_pieces a) (ordered_pieces b) (full_pieces a) (full_pieces b)
full_pieces (var i) = (tt, tt)
full_pieces (basic s) = (tt, tt)
full_pieces (arrow a b) = (tt, tt)
full_pieces (poly x k b) = (tt, tt)
full_pieces (guarded a b c) = (tt, tt)
full_pieces (record_of a) = (tt, tt)
full_pieces (app a b) = (tt, tt)
full_pieces (lambda k b) = (tt, tt)
full_pieces unit_con = (tt, tt)
full_pieces (name s) = (tt, tt)
full_pieces (map_of k l) = (tt, tt)
full_pieces (tuple cs) = (tt, tt)
full_pieces (proj a n) = (tt, tt)

full_others : {ps qs : List Cn} {p : Cn} → Picks ps p qs → AreFull ps → AreFull qs
full_others picks_first h = h.1
full_others (picks_later k) h = (h.0, full_others k h.1)

full_rest : {G : Sc} {fs : Pfs} {ps rs ts : List Cn} → PatFieldsFound G fs ps rs ts → AreFull ps → AreFull rs
full_rest none_bind h = h
full_rest (one_binds {m = m} {v = v} {ps = ps} {qs = qs} k n p q fs) h = full_rest fs (full_others (field_picks m ps v qs p) h)

first_empty : (p : Cn) (ps : List Cn) → Glued p ps → joined types (glued (p ∷ ps)) ≡ row types no_pairs → p ≡ row types no_pairs
first_empty p ps (stays g) e = alone p ps no_pairs (ap (joined types) (sym g) ∙ e)
first_empty p ps (opens k s v is g) e =
    absurd (no_literal k s v (leading_fields k ps) (alone (row k (pair (name s) v (leading_fields k ps))) (after_leading k ps) no_pairs (ap (joined types) (sym g) ∙ e)))

pub something_left : (r c : Cn) (rest : List Cn) {G : Sc} {fs : Pfs} {ts : List Cn} → PatFieldsFound G fs (ordered_pieces r) (c ∷ rest) ts → left_over (c ∷ rest) ≢ unit_type
something_left r c rest h e = subst IsFull (first_empty c rest (view c rest) (inside e)) (full_rest h (full_pieces r)).0
