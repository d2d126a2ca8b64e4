-- What is in order stays as it is.
use Rattle.std.proofs.Common.{◌≡◌, ℕ, Bool, true, false, if◌then◌else◌, List, [], ◌∷◌, ◌++◌, refl, sym, ap, ◌∙◌, subst, append-nil}
use Rattle.con_terms.specs.Trees.{Kd, Cn, var, basic, arrow, poly, guarded, record_of, app, lambda, unit_con, name, row, cat, map_of, tuple, proj, Cns, no_cons, con, Prs, no_pairs, pair}
use Rattle.con_terms.specs.Same.{kd_eq}
use Rattle.con_terms.proofs.SameKinds.{kd_eq_same}
use Rattle.row_normal.specs.Ordered.{before, insert, sorted, leading_fields, after_leading, glued, joined, first_kind, ordered, ordered_pieces, field_pieces, ordered_all}
use Rattle.row_normal.proofs.Swapped.{sorted_twice}

-- a piece in order: it is its only piece
pub record InOrder (p : Cn) : Type 0 where
  pub only : ordered_pieces p ≡ p ∷ []
  pub stays : ordered p ≡ p

abbrev AllInOrder : List Cn → Type 0
AllInOrder [] = Unit {0}
AllInOrder (p ∷ ps) = InOrder p × AllInOrder ps

all_append : (ps qs : List Cn) → AllInOrder ps → AllInOrder qs → AllInOrder (ps ++ qs)
all_append [] qs h g = g
all_append (p ∷ ps) qs (h, hs) g = (h, all_append ps qs hs g)

insert_cases : (p q : Cn) (qs : List Cn) (b : Bool) → InOrder p → InOrder q → AllInOrder qs → AllInOrder (insert p qs) → AllInOrder (if b then q ∷ insert p qs else p ∷ q ∷ qs)
insert_cases p q qs true h g gs k = (g, k)
insert_cases p q qs false h g gs k = (h, (g, gs))

all_insert : (p : Cn) (qs : List Cn) → InOrder p → AllInOrder qs → AllInOrder (insert p qs)
all_insert p [] h g = (h, tt)
all_insert p (q ∷ qs) h (g, gs) = insert_cases p q qs (before q p) h g gs (all_insert p qs h gs)

all_sorted : (ps : List Cn) → AllInOrder ps → AllInOrder (sorted ps)
all_sorted [] h = tt
all_sorted (p ∷ ps) (h, hs) = all_insert p (sorted ps) h (all_sorted ps hs)

-- the pieces of each
abbrev flat : List Cn → List Cn
flat [] = []
flat (p ∷ ps) = ordered_pieces p ++ flat ps

flat_pieces : (ps : List Cn) → AllInOrder ps → flat ps ≡ ps
flat_pieces [] h = refl
flat_pieces (p ∷ ps) (h, hs) = ap (λ l. l ++ flat ps) h.only ∙ ap (λ l. p ∷ l) (flat_pieces ps hs)

pieces_joined : (k : Kd) (ps : List Cn) → ordered_pieces (joined k ps) ≡ flat ps
pieces_joined k [] = refl
pieces_joined k (p ∷ []) = sym (append-nil (ordered_pieces p))
pieces_joined k (p ∷ q ∷ ps) = ap (λ l. ordered_pieces p ++ l) (pieces_joined k (q ∷ ps))

-- the kind that is given for no pieces doesn't matter to some
pub joined_kind : (j k : Kd) (p : Cn) (ps : List Cn) → joined j (p ∷ ps) ≡ joined k (p ∷ ps)
joined_kind j k p [] = refl
joined_kind j k p (q ∷ ps) = ap (cat p) (joined_kind j k q ps)

leading_cases : (k l : Kd) (s : ℕ) (v : Cn) (rest : List Cn) (b : Bool) → kd_eq k l ≡ b →
    InOrder (row l (pair (name s) v no_pairs)) → AllInOrder rest → field_pieces k (leading_fields k rest) ++ flat (after_leading k rest) ≡ rest →
    field_pieces k (if b then pair (name s) v (leading_fields k rest) else no_pairs) ++ flat (if b then after_leading k rest else row l (pair (name s) v no_pairs) ∷ rest)
    ≡ row l (pair (name s) v no_pairs) ∷ rest
leading_cases k l s v rest true e h hs i =
    ap (λ j. row j (pair (name s) (ordered v) no_pairs) ∷ (field_pieces k (leading_fields k rest) ++ flat (after_leading k rest))) (kd_eq_same k l e)
    ∙ ap (λ qs. row l (pair (name s) (ordered v) no_pairs) ∷ qs) i ∙ ap (λ qs. qs ++ rest) h.only
leading_cases k l s v rest false e h hs i = flat_pieces (row l (pair (name s) v no_pairs) ∷ rest) (h, hs)

leading_pieces : (k : Kd) (ps : List Cn) → AllInOrder ps → field_pieces k (leading_fields k ps) ++ flat (after_leading k ps) ≡ ps
leading_pieces k (row l (pair (name s) v no_pairs) ∷ rest) (h, hs) = leading_cases k l s v rest (kd_eq k l) refl h hs (leading_pieces k rest hs)
leading_pieces k ps h = flat_pieces ps h

glued_pieces : (ps : List Cn) → AllInOrder ps → flat (glued ps) ≡ ps
glued_pieces (row k (pair (name s) v no_pairs) ∷ ps) (h, hs) =
    ap (λ qs. row k (pair (name s) (ordered v) no_pairs) ∷ qs) (leading_pieces k ps hs) ∙ ap (λ qs. qs ++ ps) h.only
glued_pieces ps h = flat_pieces ps h

abbrev head_of : Cn → List Cn → Cn
head_of d [] = d
head_of d (p ∷ ps) = p

abbrev rest_of : List Cn → List Cn
rest_of [] = []
rest_of (p ∷ ps) = ps

literal_stays : (k : Kd) (fs : Prs) (qs rest : List Cn) → ordered_pieces (row k fs) ++ flat rest ≡ qs → rest ≡ [] → sorted qs ≡ qs → glued qs ≡ row k fs ∷ rest → ordered (row k fs) ≡ row k fs
literal_stays k fs qs rest f e s g =
    let pieces : ordered_pieces (row k fs) ≡ qs = sym (append-nil (ordered_pieces (row k fs))) ∙ ap (λ l. ordered_pieces (row k fs) ++ flat l) (sym e) ∙ f in
    ap (λ l. joined k (glued (sorted l))) pieces ∙ ap (λ l. joined k (glued l)) s ∙ ap (joined k) g ∙ ap (λ l. joined k (row k fs ∷ l)) e

-- where only one is left after the fields are joined
only_stays : (q : Cn) (qs : List Cn) (x : Cn) → InOrder q → sorted (q ∷ qs) ≡ q ∷ qs → flat (glued (q ∷ qs)) ≡ q ∷ qs → glued (q ∷ qs) ≡ x ∷ [] → ordered x ≡ x
only_stays (row k (pair (name s) v no_pairs)) qs x h o f g =
    subst (λ y. ordered y ≡ y) (ap (head_of x) g) (literal_stays k (pair (name s) v (leading_fields k qs)) _ (after_leading k qs) f (ap rest_of g) o refl)
only_stays q qs x h o f g = subst (λ y. ordered y ≡ y) (ap (head_of x) g) h.stays

joined_stays : (k : Kd) (ps qs : List Cn) → flat ps ≡ qs → sorted qs ≡ qs → glued qs ≡ ps → ((x : Cn) → ps ≡ x ∷ [] → ordered x ≡ x) → ordered (joined k ps) ≡ joined k ps
joined_stays k [] qs f s g o = refl
joined_stays k (p ∷ []) qs f s g o = o p refl
joined_stays k (p ∷ q ∷ ps) qs f s g o =
    ap (λ l. joined (first_kind p) (glued (sorted l))) (ap (λ l. ordered_pieces p ++ l) (pieces_joined k (q ∷ ps)) ∙ f)
    ∙ ap (λ l. joined (first_kind p) (glued l)) s ∙ ap (joined (first_kind p)) g ∙ joined_kind (first_kind p) k p (q ∷ ps)

again : (k : Kd) (qs : List Cn) → AllInOrder qs → sorted qs ≡ qs → ordered (joined k (glued qs)) ≡ joined k (glued qs)
again k [] h s = refl
again k (q ∷ qs) (h, hs) s = joined_stays k (glued (q ∷ qs)) (q ∷ qs) (glued_pieces (q ∷ qs) (h, hs)) s refl (λ x e. only_stays q qs x h s (glued_pieces (q ∷ qs) (h, hs)) e)

twice : (k : Kd) (ps : List Cn) → AllInOrder ps → ordered (joined k (glued (sorted ps))) ≡ joined k (glued (sorted ps))
twice k ps h = again k (sorted ps) (all_sorted ps h) (sorted_twice ps)

single_joined : (k : Kd) (n v : Cn) → joined k (glued (row k (pair n v no_pairs) ∷ [])) ≡ row k (pair n v no_pairs)
single_joined k (name s) v = refl
single_joined k _ v = refl

-- a field whose parts stay
field_stays : (k : Kd) (n v : Cn) → ordered n ≡ n → ordered v ≡ v → InOrder (row k (pair n v no_pairs))
field_stays k n v e f =
    let parts : row k (pair (ordered n) (ordered v) no_pairs) ≡ row k (pair n v no_pairs) = ap (λ z. row k (pair z (ordered v) no_pairs)) e ∙ ap (λ z. row k (pair n z no_pairs)) f in
    record { only = ap (λ p. p ∷ []) parts; stays = single_joined k (ordered n) (ordered v) ∙ parts }

mutual
  -- what is in order stays
  pub ordered_twice : (c : Cn) → ordered (ordered c) ≡ ordered c
  ordered_twice (var i) = refl
  ordered_twice (basic s) = refl
  ordered_twice (arrow a b) = ap (λ z. arrow z (ordered (ordered b))) (ordered_twice a) ∙ ap (arrow (ordered a)) (ordered_twice b)
  ordered_twice (poly x k b) = ap (poly x k) (ordered_twice b)
  ordered_twice (guarded a b c) =
      ap (λ z. guarded z (ordered (ordered b)) (ordered (ordered c))) (ordered_twice a) ∙ ap (λ z. guarded (ordered a) z (ordered (ordered c))) (ordered_twice b) ∙ ap (guarded (ordered a) (ordered b)) (ordered_twice c)
  ordered_twice (record_of a) = ap record_of (ordered_twice a)
  ordered_twice (app a b) = ap (λ z. app z (ordered (ordered b))) (ordered_twice a) ∙ ap (app (ordered a)) (ordered_twice b)
  ordered_twice (lambda k b) = ap (lambda k) (ordered_twice b)
  ordered_twice unit_con = refl
  ordered_twice (name s) = refl
  ordered_twice (row k ps) = twice k (field_pieces k ps) (fields_in_order k ps)
  ordered_twice (cat a b) = twice (first_kind a) (ordered_pieces a ++ ordered_pieces b) (all_append (ordered_pieces a) (ordered_pieces b) (pieces_in_order a) (pieces_in_order b))
  ordered_twice (map_of k l) = refl
  ordered_twice (tuple cs) = ap tuple (all_twice cs)
  ordered_twice (proj a n) = ap (λ z. proj z n) (ordered_twice a)

  pieces_in_order : (c : Cn) → AllInOrder (ordered_pieces c)
  pieces_in_order (row k ps) = fields_in_order k ps
  pieces_in_order (cat a b) = all_append (ordered_pieces a) (ordered_pieces b) (pieces_in_order a) (pieces_in_order b)
  pieces_in_order (var i) = (record { only = refl; stays = refl }, tt)
  pieces_in_order (basic s) = (record { only = refl; stays = refl }, tt)
  pieces_in_order (arrow a b) =
      let e = ap (λ z. arrow z (ordered (ordered b))) (ordered_twice a) ∙ ap (arrow (ordered a)) (ordered_twice b) in (record { only = ap (λ p. p ∷ []) e; stays = e }, tt)
  pieces_in_order (poly x k b) = let e = ap (poly x k) (ordered_twice b) in (record { only = ap (λ p. p ∷ []) e; stays = e }, tt)
  pieces_in_order (guarded a b c) =
      let e = ap (λ z. guarded z (ordered (ordered b)) (ordered (ordered c))) (ordered_twice a) ∙ ap (λ z. guarded (ordered a) z (ordered (ordered c))) (ordered_twice b) ∙ ap (guarded (ordered a) (ordered b)) (ordered_twice c) in
      (record { only = ap (λ p. p ∷ []) e; stays = e }, tt)
  pieces_in_order (record_of a) = let e = ap record_of (ordered_twice a) in (record { only = ap (λ p. p ∷ []) e; stays = e }, tt)
  pieces_in_order (app a b) =
      let e = ap (λ z. app z (ordered (ordered b))) (ordered_twice a) ∙ ap (app (ordered a)) (ordered_twice b) in (record { only = ap (λ p. p ∷ []) e; stays = e }, tt)
  pieces_in_order (lambda k b) = let e = ap (lambda k) (ordered_twice b) in (record { only = ap (λ p. p ∷ []) e; stays = e }, tt)
  pieces_in_order unit_con = (record { only = refl; stays = refl }, tt)
  pieces_in_order (name s) = (record { only = refl; stays = refl }, tt)
  pieces_in_order (map_of k l) = (record { only = refl; stays = refl }, tt)
  pieces_in_order (tuple cs) = let e = ap tuple (all_twice cs) in (record { only = ap (λ p. p ∷ []) e; stays = e }, tt)
  pieces_in_order (proj a n) = let e = ap (λ z. proj z n) (ordered_twice a) in (record { only = ap (λ p. p ∷ []) e; stays = e }, tt)

  fields_in_order : (k : Kd) (ps : Prs) → AllInOrder (field_pieces k ps)
  fields_in_order k no_pairs = tt
  fields_in_order k (pair n v ps) = (field_stays k (ordered n) (ordered v) (ordered_twice n) (ordered_twice v), fields_in_order k ps)

  all_twice : (cs : Cns) → ordered_all (ordered_all cs) ≡ ordered_all cs
  all_twice no_cons = refl
  all_twice (con c cs) = ap (λ z. con z (ordered_all (ordered_all cs))) (ordered_twice c) ∙ ap (con (ordered c)) (all_twice cs)

-- the pieces of what is in order are its pieces in order
pub pieces_sorted : (c : Cn) → ordered_pieces (ordered c) ≡ sorted (ordered_pieces c)
pieces_sorted (row k ps) = pieces_joined k (glued (sorted (field_pieces k ps))) ∙ glued_pieces (sorted (field_pieces k ps)) (all_sorted (field_pieces k ps) (fields_in_order k ps))
pieces_sorted (cat a b) =
    let ps = ordered_pieces a ++ ordered_pieces b in
    pieces_joined (first_kind a) (glued (sorted ps))
    ∙ glued_pieces (sorted ps) (all_sorted ps (all_append (ordered_pieces a) (ordered_pieces b) (pieces_in_order a) (pieces_in_order b)))
pieces_sorted (var i) = refl
pieces_sorted (basic s) = refl
pieces_sorted (arrow a b) = ap (λ p. p ∷ []) (ordered_twice (arrow a b))
pieces_sorted (poly x k b) = ap (λ p. p ∷ []) (ordered_twice (poly x k b))
pieces_sorted (guarded a b c) = ap (λ p. p ∷ []) (ordered_twice (guarded a b c))
pieces_sorted (record_of a) = ap (λ p. p ∷ []) (ordered_twice (record_of a))
pieces_sorted (app a b) = ap (λ p. p ∷ []) (ordered_twice (app a b))
pieces_sorted (lambda k b) = ap (λ p. p ∷ []) (ordered_twice (lambda k b))
pieces_sorted unit_con = refl
pieces_sorted (name s) = refl
pieces_sorted (map_of k l) = refl
pieces_sorted (tuple cs) = ap (λ p. p ∷ []) (ordered_twice (tuple cs))
pieces_sorted (proj a n) = ap (λ p. p ∷ []) (ordered_twice (proj a n))
