-- Rows whose names are literals with rising numbers are in order.
use Rattle.std.proofs.Common.{◌≡◌, ℕ, suc, ◌==◌, ◌<◌, Bool, true, false, ◌&&◌, if◌then◌else◌, nat_lt, List, [], ◌∷◌, Ordering, Less, Equal, Greater, is_lt, nat_cmp, refl, ap, sym, ◌∙◌, arith}
use Rattle.std.specs.Ordering.{ordering_then}
use Rattle.std.specs.Cmp.Lexicographic.{slice_cmp}
use Rattle.con_terms.specs.Trees.{Kd, Cn, name, row, Prs, no_pairs, pair}
use Rattle.con_terms.proofs.SameKinds.{kd_eq_refl}
use Rattle.row_normal.specs.Ordered.{con_code, before, insert, sorted, leading_fields, after_leading, glued, joined, ordered, field_pieces}
use Rattle.row_normal.specs.Pieces.{written_fields}
use Rattle.row_normal.specs.Settled.{comes_next, next_bound, ordered_pairs, rise}
use Rattle.row_normal.proofs.Options.{both_from}

tells : (o p r : Ordering) → o ≡ Equal → p ≡ Greater → is_lt (ordering_then o (ordering_then p r)) ≡ false
tells Equal Greater r h g = refl
tells Equal Less r h g = cc
tells Equal Equal r h g = cc
tells Less p r h g = cc
tells Greater p r h g = cc

greater : (t s : ℕ) → s < t → nat_cmp t s ≡ Greater
greater t s h = let l : nat_lt t s ≡ false = grind (arith, h) in let e : (t == s) ≡ false = grind (arith, h) in rw (l, e) refl

level : nat_cmp 0 0 ≡ Equal
level = refl

-- a literal name comes before one with a greater number
not_before : (k : Kd) (s t : ℕ) (v w : Cn) → s < t → before (row k (pair (name t) w no_pairs)) (row k (pair (name s) v no_pairs)) ≡ false
not_before k s t v w h =
    let p = con_code (row k (pair (name t) w no_pairs)) in
    let q = con_code (row k (pair (name s) v no_pairs)) in
    tells (nat_cmp 0 0) (nat_cmp t s) (slice_cmp nat_cmp p q) level (greater t s h)

inserts_first : (p q : Cn) (qs : List Cn) → before q p ≡ false → insert p (q ∷ qs) ≡ p ∷ q ∷ qs
inserts_first p q qs h = ap (λ b. if b then q ∷ insert p qs else p ∷ q ∷ qs) h

above : (s t : ℕ) → comes_next (suc s) (name t) ≡ true → s < t
above s t h = grind (arith, h)

stays_first : (k : Kd) (bound : ℕ) (n v : Cn) (ps : Prs) → comes_next bound n ≡ true → rise ps (next_bound n) ≡ true →
    insert (row k (pair n v no_pairs)) (written_fields k ps) ≡ row k (pair n v no_pairs) ∷ written_fields k ps
stays_first k bound n v no_pairs h g = refl
stays_first k bound (name s) v (pair (name t) w ps) h g =
    let (p, q) = both_from (comes_next (suc s) (name t)) (rise ps (suc t)) g in
    inserts_first (row k (pair (name s) v no_pairs)) (row k (pair (name t) w no_pairs)) (written_fields k ps) (not_before k s t v w (above s t p))
stays_first k bound (name s) v (pair _ w ps) h g = cc
stays_first k bound _ v (pair m w ps) h g = cc

fields_sorted : (k : Kd) (ps : Prs) (bound : ℕ) → rise ps bound ≡ true → sorted (written_fields k ps) ≡ written_fields k ps
fields_sorted k no_pairs bound h = refl
fields_sorted k (pair n v ps) bound h =
    let (p, q) = both_from (comes_next bound n) (rise ps (next_bound n)) h in
    ap (insert (row k (pair n v no_pairs))) (fields_sorted k ps (next_bound n) q) ∙ stays_first k bound n v ps p q

-- the fields are one literal again

all_lead : (k : Kd) (ps : Prs) (bound : ℕ) → rise ps bound ≡ true → leading_fields k (written_fields k ps) ≡ ps
all_lead k no_pairs bound h = refl
all_lead k (pair (name s) v ps) bound h =
    let (p, q) = both_from (comes_next bound (name s)) (rise ps (suc s)) h in
    ap (λ b. if b then pair (name s) v (leading_fields k (written_fields k ps)) else no_pairs) (kd_eq_refl k)
    ∙ ap (pair (name s) v) (all_lead k ps (suc s) q)
all_lead k (pair _ v ps) bound h = cc

none_after : (k : Kd) (ps : Prs) (bound : ℕ) → rise ps bound ≡ true → after_leading k (written_fields k ps) ≡ []
none_after k no_pairs bound h = refl
none_after k (pair (name s) v ps) bound h =
    let (p, q) = both_from (comes_next bound (name s)) (rise ps (suc s)) h in
    ap (λ b. if b then after_leading k (written_fields k ps) else row k (pair (name s) v no_pairs) ∷ written_fields k ps) (kd_eq_refl k)
    ∙ none_after k ps (suc s) q
none_after k (pair _ v ps) bound h = cc

one_literal : (k : Kd) (ps : Prs) (bound : ℕ) → rise ps bound ≡ true → joined k (glued (written_fields k ps)) ≡ row k ps
one_literal k no_pairs bound h = refl
one_literal k (pair (name s) v ps) bound h =
    let (p, q) = both_from (comes_next bound (name s)) (rise ps (suc s)) h in
    ap (λ l. joined k (row k (pair (name s) v (leading_fields k (written_fields k ps))) ∷ l)) (none_after k ps (suc s) q)
    ∙ ap (λ qs. row k (pair (name s) v qs)) (all_lead k ps (suc s) q)
one_literal k (pair _ v ps) bound h = cc

-- what is in order in the fields leaves their names

pub named_order : (bound : ℕ) (n : Cn) → comes_next bound n ≡ true → ordered n ≡ n
named_order bound (name s) h = refl
named_order bound _ h = cc

still_rises : (bound : ℕ) (n : Cn) (ps : Prs) → comes_next bound n ≡ true → rise (ordered_pairs ps) (next_bound n) ≡ true →
    (comes_next bound (ordered n) && rise (ordered_pairs ps) (next_bound (ordered n))) ≡ true
still_rises bound n ps h g =
    ap (λ m. comes_next bound m && rise (ordered_pairs ps) (next_bound m)) (named_order bound n h)
    ∙ ap (λ b. b && rise (ordered_pairs ps) (next_bound n)) h ∙ g

ordered_rise : (ps : Prs) (bound : ℕ) → rise ps bound ≡ true → rise (ordered_pairs ps) bound ≡ true
ordered_rise no_pairs bound h = refl
ordered_rise (pair n v ps) bound h =
    let (p, q) = both_from (comes_next bound n) (rise ps (next_bound n)) h in still_rises bound n ps p (ordered_rise ps (next_bound n) q)

pub as_written : (k : Kd) (ps : Prs) → field_pieces k ps ≡ written_fields k (ordered_pairs ps)
as_written k no_pairs = refl
as_written k (pair n v ps) = ap (λ l. row k (pair (ordered n) (ordered v) no_pairs) ∷ l) (as_written k ps)

-- a row whose names rise stays as it is, but for its values
pub rising_order : (k : Kd) (ps : Prs) → rise ps 0 ≡ true → ordered (row k ps) ≡ row k (ordered_pairs ps)
rising_order k ps h =
    let r = ordered_rise ps 0 h in
    ap (λ l. joined k (glued (sorted l))) (as_written k ps)
    ∙ ap (λ l. joined k (glued l)) (fields_sorted k (ordered_pairs ps) 0 r)
    ∙ one_literal k (ordered_pairs ps) 0 r

-- so the literal with its values in order is in order
pub stays_literal : (k : Kd) (ps qs : Prs) (b : Bool) → qs ≡ ordered_pairs ps → b ≡ rise ps 0 → b ≡ true → row k qs ≡ ordered (row k ps)
stays_literal k ps qs b e r t = ap (row k) e ∙ sym (rising_order k ps (sym r ∙ t))

-- and any other literal is its fields, which are in order, put in order
pub fields_apart : (k : Kd) (ps qs : Prs) → qs ≡ ordered_pairs ps → joined k (glued (sorted (written_fields k qs))) ≡ ordered (row k ps)
fields_apart k ps qs e = ap (λ rs. joined k (glued (sorted (written_fields k rs)))) e ∙ ap (λ l. joined k (glued (sorted l))) (sym (as_written k ps))
