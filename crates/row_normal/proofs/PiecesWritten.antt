-- The pieces of a row as they are written: joined they are the row, and those of a row in order are in order.
use Rattle.std.proofs.Common.{◌≡◌, ℕ, Bool, true, false, if◌then◌else◌, List, [], ◌∷◌, ◌++◌, refl, sym, ap, ◌∙◌, subst, append-nil}
use Rattle.std.specs.List.{All}
use Rattle.std.proofs.lemmas.List.Elements.{All-cons, All-nil}
use Rattle.con_terms.specs.Trees.{Kd, Cn, var, basic, arrow, poly, guarded, record_of, app, lambda, unit_con, name, row, cat, map_of, tuple, proj, Prs, no_pairs, pair}
use Rattle.con_terms.specs.Same.{kd_eq}
use Rattle.con_terms.proofs.SameKinds.{kd_eq_same}
use Rattle.row_normal.specs.Ordered.{before, insert, sorted, leading_fields, after_leading, glued, joined, first_kind, ordered, ordered_pieces, field_pieces}
use Rattle.row_normal.specs.Pieces.{written_fields, written_pieces, AreInOrder, IsInOrder}
use Rattle.row_normal.proofs.Arranged.{Above, Up, arranged, arranged_up}
use Rattle.row_normal.proofs.Swapped.{before_ranks, sorted_is}
use Rattle.row_normal.proofs.Stable.{pieces_sorted}

-- each is its own only piece
abbrev AllWhole : List Cn → Type 0
AllWhole [] = Unit {0}
AllWhole (p ∷ ps) = (written_pieces p ≡ p ∷ []) × AllWhole ps

whole_append : (ps qs : List Cn) → AllWhole ps → AllWhole qs → AllWhole (ps ++ qs)
whole_append [] qs h g = g
whole_append (p ∷ ps) qs (h, hs) g = (h, whole_append ps qs hs g)

insert_cases : (p q : Cn) (qs : List Cn) (b : Bool) → written_pieces p ≡ p ∷ [] → written_pieces q ≡ q ∷ [] → AllWhole qs → AllWhole (insert p qs) →
    AllWhole (if b then q ∷ insert p qs else p ∷ q ∷ qs)
insert_cases p q qs true h g gs k = (g, k)
insert_cases p q qs false h g gs k = (h, (g, gs))

whole_insert : (p : Cn) (qs : List Cn) → written_pieces p ≡ p ∷ [] → AllWhole qs → AllWhole (insert p qs)
whole_insert p [] h g = (h, tt)
whole_insert p (q ∷ qs) h (g, gs) = insert_cases p q qs (before q p) h g gs (whole_insert p qs h gs)

whole_sorted : (ps : List Cn) → AllWhole ps → AllWhole (sorted ps)
whole_sorted [] h = tt
whole_sorted (p ∷ ps) (h, hs) = whole_insert p (sorted ps) h (whole_sorted ps hs)

fields_whole : (k : Kd) (ps : Prs) → AllWhole (field_pieces k ps)
fields_whole k no_pairs = tt
fields_whole k (pair n v ps) = (refl, fields_whole k ps)

pieces_whole : (c : Cn) → AllWhole (ordered_pieces c)
pieces_whole (row k ps) = fields_whole k ps
pieces_whole (cat a b) = whole_append (ordered_pieces a) (ordered_pieces b) (pieces_whole a) (pieces_whole b)
pieces_whole (var i) = (refl, tt)
pieces_whole (basic s) = (refl, tt)
pieces_whole (arrow a b) = (refl, tt)
pieces_whole (poly x k b) = (refl, tt)
pieces_whole (guarded a b c) = (refl, tt)
pieces_whole (record_of a) = (refl, tt)
pieces_whole (app a b) = (refl, tt)
pieces_whole (lambda k b) = (refl, tt)
pieces_whole unit_con = (refl, tt)
pieces_whole (name s) = (refl, tt)
pieces_whole (map_of k l) = (refl, tt)
pieces_whole (tuple cs) = (refl, tt)
pieces_whole (proj a n) = (refl, tt)

-- the pieces of each
abbrev flat : List Cn → List Cn
flat [] = []
flat (p ∷ ps) = written_pieces p ++ flat ps

flat_pieces : (ps : List Cn) → AllWhole ps → flat ps ≡ ps
flat_pieces [] h = refl
flat_pieces (p ∷ ps) (h, hs) = ap (λ l. l ++ flat ps) h ∙ ap (λ l. p ∷ l) (flat_pieces ps hs)

pieces_joined : (k : Kd) (ps : List Cn) → written_pieces (joined k ps) ≡ flat ps
pieces_joined k [] = refl
pieces_joined k (p ∷ []) = sym (append-nil (written_pieces p))
pieces_joined k (p ∷ q ∷ ps) = ap (λ l. written_pieces p ++ l) (pieces_joined k (q ∷ ps))

leading_cases : (k l : Kd) (s : ℕ) (v : Cn) (rest : List Cn) (b : Bool) → kd_eq k l ≡ b → AllWhole rest →
    written_fields k (leading_fields k rest) ++ flat (after_leading k rest) ≡ rest →
    written_fields k (if b then pair (name s) v (leading_fields k rest) else no_pairs) ++ flat (if b then after_leading k rest else row l (pair (name s) v no_pairs) ∷ rest)
    ≡ row l (pair (name s) v no_pairs) ∷ rest
leading_cases k l s v rest true e hs i =
    ap (λ j. row j (pair (name s) v no_pairs) ∷ (written_fields k (leading_fields k rest) ++ flat (after_leading k rest))) (kd_eq_same k l e)
    ∙ ap (λ qs. row l (pair (name s) v no_pairs) ∷ qs) i
leading_cases k l s v rest false e hs i = flat_pieces (row l (pair (name s) v no_pairs) ∷ rest) (refl, hs)

leading_pieces : (k : Kd) (ps : List Cn) → AllWhole ps → written_fields k (leading_fields k ps) ++ flat (after_leading k ps) ≡ ps
leading_pieces k (row l (pair (name s) v no_pairs) ∷ rest) (h, hs) = leading_cases k l s v rest (kd_eq k l) refl hs (leading_pieces k rest hs)
leading_pieces k ps h = flat_pieces ps h

glued_pieces : (ps : List Cn) → AllWhole ps → flat (glued ps) ≡ ps
glued_pieces (row k (pair (name s) v no_pairs) ∷ ps) (h, hs) = ap (λ qs. row k (pair (name s) v no_pairs) ∷ qs) (leading_pieces k ps hs)
glued_pieces ps h = flat_pieces ps h

in_order_written : (k : Kd) (ps : List Cn) → AllWhole ps → written_pieces (joined k (glued (sorted ps))) ≡ sorted ps
in_order_written k ps h = pieces_joined k (glued (sorted ps)) ∙ glued_pieces (sorted ps) (whole_sorted ps h)

one_sorted : (c : Cn) → ordered c ≡ c → c ∷ [] ≡ sorted (ordered c ∷ [])
one_sorted c h = ap (λ p. p ∷ []) (sym h)

-- the pieces of a row in order, as written
written_sorted : (c : Cn) → ordered c ≡ c → written_pieces c ≡ sorted (ordered_pieces c)
written_sorted (row k ps) h = ap written_pieces (sym h) ∙ in_order_written k (field_pieces k ps) (fields_whole k ps)
written_sorted (cat a b) h =
    ap written_pieces (sym h)
    ∙ in_order_written (first_kind a) (ordered_pieces a ++ ordered_pieces b) (whole_append (ordered_pieces a) (ordered_pieces b) (pieces_whole a) (pieces_whole b))
written_sorted (var i) h = refl
written_sorted (basic s) h = refl
written_sorted (arrow a b) h = one_sorted (arrow a b) h
written_sorted (poly x k b) h = one_sorted (poly x k b) h
written_sorted (guarded a b c) h = one_sorted (guarded a b c) h
written_sorted (record_of a) h = one_sorted (record_of a) h
written_sorted (app a b) h = one_sorted (app a b) h
written_sorted (lambda k b) h = one_sorted (lambda k b) h
written_sorted unit_con h = refl
written_sorted (name s) h = refl
written_sorted (map_of k l) h = refl
written_sorted (tuple cs) h = one_sorted (tuple cs) h
written_sorted (proj a n) h = one_sorted (proj a n) h

above : (p : Cn) (qs : List Cn) → Above before p qs → All (λ q. before q p ≡ false) qs
above p [] h = All-nil (λ q. before q p ≡ false)
above p (q ∷ qs) (h, hs) = All-cons (λ q. before q p ≡ false) q qs h (above p qs hs)

up : (ps : List Cn) → Up before ps → AreInOrder ps
up [] h = tt
up (p ∷ ps) (h, hs) = (above p ps h, up ps hs)

-- sorted pieces are in order
pub sorted_up : (ps : List Cn) → AreInOrder (sorted ps)
sorted_up ps = subst AreInOrder (sorted_is ps) (up (arranged before ps) (arranged_up before before_ranks ps))

-- the pieces of a row in order, as written, are its pieces, in order
pub written_in_order : (c : Cn) → ordered c ≡ c → IsInOrder c (written_pieces c)
written_in_order c h =
    let sorts : ordered_pieces c ≡ sorted (ordered_pieces c) = ap ordered_pieces (sym h) ∙ pieces_sorted c in
    (written_sorted c h ∙ sym sorts, subst AreInOrder (sym (written_sorted c h)) (sorted_up (ordered_pieces c)))
