-- What is left of the pieces of a row in order is in order.
use Rattle.std.proofs.Common.{◌≡◌, ℕ, if◌then◌else◌, List, ◌∷◌, ◌++◌, Option, Some, None, IfSome, refl, sym, ap, ◌∙◌, subst, append-nil, []}
use Rattle.con_terms.specs.Trees.{Kd, types, Cn, var, basic, arrow, poly, guarded, record_of, app, lambda, unit_con, name, row, cat, map_of, tuple, proj, Prs, no_pairs, pair}
use Rattle.con_terms.specs.View.{con_tree}
use Rattle.con_terms.specs.declared.con.Con.{Con}
use Rattle.con_terms.specs.declared.con.Cons.{Cons}
use Rattle.row_normal.specs.Ordered.{before, insert, sorted, leading_fields, after_leading, glued, joined, first_kind, ordered, ordered_pieces, field_pieces, ordered_all}
use Rattle.row_normal.proofs.StepEqual.{some_is}
use Rattle.row_normal.proofs.Arranged.{Above, Up, arranged, arranged_up}
use Rattle.row_normal.proofs.Swapped.{before_ranks, sorted_is}
use Rattle.row_normal.proofs.Stable.{InOrder, ordered_twice, pieces_sorted, joined_kind}
use Rattle.core_typing.specs.Compared.{field_of, without_piece, without_pieces}
use Rattle.core_typing.proofs.Normal.{Picks, picks_first, picks_later, field_picks, piece_equal as piece_picks}
use Rattle.core_terms.specs.View.{maybe_con}
use Rattle.told_faults.specs.Computed.{record_row}
use Rattle.judgements.specs.View.{cons_view, maybe_cons, maybe_taken}
use Rattle.judgements.specs.declared.pieces.Taken.{Taken}
use Rattle.node_rules.specs.Records.{Glues}

-- each is a piece in order
abbrev AllInOrder : List Cn → Type 0
AllInOrder [] = Unit {0}
AllInOrder (p ∷ ps) = InOrder p × AllInOrder ps

all_append : (ps qs : List Cn) → AllInOrder ps → AllInOrder qs → AllInOrder (ps ++ qs)
all_append [] qs h g = g
all_append (p ∷ ps) qs h g = (h.0, all_append ps qs h.1 g)

alone : (c : Cn) → ordered c ≡ c → ordered_pieces c ≡ ordered c ∷ [] → InOrder c
alone c e o = record { only = o ∙ ap (λ p. p ∷ []) e; stays = e }

single_joined : (k : Kd) (n v : Cn) → joined k (glued (row k (pair n v no_pairs) ∷ [])) ≡ row k (pair n v no_pairs)
single_joined k (name s) v = refl
single_joined k _ v = refl

field_stays : (k : Kd) (n v : Cn) → ordered n ≡ n → ordered v ≡ v → InOrder (row k (pair n v no_pairs))
field_stays k n v e f =
    let parts : row k (pair (ordered n) (ordered v) no_pairs) ≡ row k (pair n v no_pairs) = ap (λ z. row k (pair z (ordered v) no_pairs)) e ∙ ap (λ z. row k (pair n z no_pairs)) f in
    record { only = ap (λ p. p ∷ []) parts; stays = single_joined k (ordered n) (ordered v) ∙ parts }

fields_in_order : (k : Kd) (ps : Prs) → AllInOrder (field_pieces k ps)
fields_in_order k no_pairs = tt
fields_in_order k (pair n v ps) = (field_stays k (ordered n) (ordered v) (ordered_twice n) (ordered_twice v), fields_in_order k ps)

all_in_order : (c : Cn) → AllInOrder (ordered_pieces c)
all_in_order (row k ps) = fields_in_order k ps
all_in_order (cat a b) = all_append (ordered_pieces a) (ordered_pieces b) (all_in_order a) (all_in_order b)
all_in_order (var i) = (alone (var i) refl refl, tt)
all_in_order (basic s) = (alone (basic s) refl refl, tt)
all_in_order (arrow a b) = (alone (ordered (arrow a b)) (ordered_twice (arrow a b)) refl, tt)
all_in_order (poly x k b) = (alone (ordered (poly x k b)) (ordered_twice (poly x k b)) refl, tt)
all_in_order (guarded a b c) = (alone (ordered (guarded a b c)) (ordered_twice (guarded a b c)) refl, tt)
all_in_order (record_of a) = (alone (ordered (record_of a)) (ordered_twice (record_of a)) refl, tt)
all_in_order (app a b) = (alone (ordered (app a b)) (ordered_twice (app a b)) refl, tt)
all_in_order (lambda k b) = (alone (ordered (lambda k b)) (ordered_twice (lambda k b)) refl, tt)
all_in_order unit_con = (alone unit_con refl refl, tt)
all_in_order (name s) = (alone (name s) refl refl, tt)
all_in_order (map_of k l) = (alone (map_of k l) refl refl, tt)
all_in_order (tuple cs) = (alone (ordered (tuple cs)) (ordered_twice (tuple cs)) refl, tt)
all_in_order (proj a n) = (alone (ordered (proj a n)) (ordered_twice (proj a n)) refl, tt)

-- the pieces of each
abbrev flat : List Cn → List Cn
flat [] = []
flat (p ∷ ps) = ordered_pieces p ++ flat ps

flat_pieces : (ps : List Cn) → AllInOrder ps → flat ps ≡ ps
flat_pieces [] h = refl
flat_pieces (p ∷ ps) h = ap (λ l. l ++ flat ps) h.0.only ∙ ap (λ l. p ∷ l) (flat_pieces ps h.1)

pieces_joined : (k : Kd) (ps : List Cn) → ordered_pieces (joined k ps) ≡ flat ps
pieces_joined k [] = refl
pieces_joined k (p ∷ []) = sym (append-nil (ordered_pieces p))
pieces_joined k (p ∷ q ∷ ps) = ap (λ l. ordered_pieces p ++ l) (pieces_joined k (q ∷ ps))

any_kind : (j k : Kd) (p : Cn) (ps : List Cn) → joined j (glued (p ∷ ps)) ≡ joined k (glued (p ∷ ps))
any_kind j k (row l (pair (name s) v no_pairs)) ps = joined_kind j k (row l (pair (name s) v (leading_fields l ps))) (after_leading l ps)
any_kind j k p ps = joined_kind j k p ps

one_glued : (p : Cn) → joined types (glued (p ∷ [])) ≡ p
one_glued (row k (pair (name s) v no_pairs)) = refl
one_glued p = refl

put_first : (p : Cn) (ps : List Cn) → Above before p ps → insert p ps ≡ p ∷ ps
put_first p [] h = refl
put_first p (q ∷ qs) h = ap (λ b. if b then q ∷ insert p qs else p ∷ q ∷ qs) h.0

up_sorted : (ps : List Cn) → Up before ps → sorted ps ≡ ps
up_sorted [] h = refl
up_sorted (p ∷ ps) h = ap (insert p) (up_sorted ps h.1) ∙ put_first p ps h.0

stays_glued : (ps : List Cn) → AllInOrder ps → Up before ps → Glues ps
stays_glued [] h u = refl
stays_glued (p ∷ []) h u = h.0.stays ∙ sym (one_glued p)
stays_glued (p ∷ q ∷ ps) h u =
    ap (λ l. joined (first_kind p) (glued (sorted l))) (ap (λ l. ordered_pieces p ++ l) (pieces_joined types (q ∷ ps)) ∙ flat_pieces (p ∷ q ∷ ps) h)
    ∙ ap (λ l. joined (first_kind p) (glued l)) (up_sorted (p ∷ q ∷ ps) u)
    ∙ any_kind (first_kind p) types p (q ∷ ps)

-- a piece less
picks_above : {ps qs : List Cn} {c : Cn} (p : Cn) → Picks ps c qs → Above before p ps → Above before p qs
picks_above p picks_first h = h.1
picks_above p (picks_later k) h = (h.0, picks_above p k h.1)

picks_up : {ps qs : List Cn} {c : Cn} → Picks ps c qs → Up before ps → Up before qs
picks_up picks_first h = h.1
picks_up (picks_later k) h = (picks_above _ k h.0, picks_up k h.1)

picks_all : {ps qs : List Cn} {c : Cn} → Picks ps c qs → AllInOrder ps → AllInOrder qs
picks_all picks_first h = h.1
picks_all (picks_later k) h = (h.0, picks_all k h.1)

up_of : (r : Cn) → ordered r ≡ r → Up before (ordered_pieces r)
up_of r h =
    let sorts : ordered_pieces r ≡ sorted (ordered_pieces r) = ap ordered_pieces (sym h) ∙ pieces_sorted r in
    subst (Up before) (sorted_is (ordered_pieces r) ∙ sym sorts) (arranged_up before before_ranks (ordered_pieces r))

field_glues : (r n v : Cn) (rest : List Cn) → ordered r ≡ r → field_of n (ordered_pieces r) ≡ Some (v, rest) → Glues rest
field_glues r n v rest h e =
    let k : Picks (ordered_pieces r) _ rest = field_picks n (ordered_pieces r) v rest e in
    stays_glued rest (picks_all k (all_in_order r)) (picks_up k (up_of r h))

part_glues : (cs ps rs : List Cn) → without_pieces cs ps ≡ Some rs → AllInOrder ps → Up before ps → Glues rs
part_glues [] ps rs e a u = subst Glues (some_is ps rs e) (stays_glued ps a u)
part_glues (c ∷ cs) ps rs e a u = by_piece (without_piece c ps) refl (λ qs. part_glues cs qs rs) e
  where
    by_piece : (o : Option (List Cn)) → without_piece c ps ≡ o → ((qs : List Cn) → without_pieces cs qs ≡ Some rs → AllInOrder qs → Up before qs → Glues rs) → elim o [ None ↦ None | Some qs ↦ without_pieces cs qs ] ≡ Some rs → Glues rs
    by_piece None h later e = cc
    by_piece (Some qs) h later e = let k : Picks ps c qs = piece_picks c ps qs h in later qs e (picks_all k a) (picks_up k u)

-- without a field
pub taken_glues : (r n : Cn) (ps : List Cn) (o : Option Taken) → ordered r ≡ r → ps ≡ ordered_pieces r → maybe_taken o ≡ field_of n ps → IfSome o (λ t. Glues (cons_view t.rest))
taken_glues r n ps None h i e = tt
taken_glues r n ps (Some t) h i e = field_glues r n (con_tree t.value) (cons_view t.rest) h (ap (field_of n) (sym i) ∙ sym e)

-- without several pieces
pub left_glues : (r : Cn) (cs ps : List Cn) (o : Option Cons) → ordered r ≡ r → ps ≡ ordered_pieces r → maybe_cons o ≡ without_pieces cs ps → IfSome o (λ rest. Glues (cons_view rest))
left_glues r cs ps None h i e = tt
left_glues r cs ps (Some rest) h i e = part_glues cs (ordered_pieces r) (cons_view rest) (ap (without_pieces cs) (sym i) ∙ sym e) (all_in_order r) (up_of r h)

inside : (r : Cn) → record_of (ordered r) ≡ record_of r → ordered r ≡ r
inside r e = cc

held : (x y : Cn) → ordered y ≡ y → Some x ≡ Some y → ordered x ≡ x
held x y h e = subst (λ z. ordered z ≡ z) (sym (some_is x y e)) h

-- the row of a record in order
pub row_in_order : (l : Cn) (o : Option Con) → ordered l ≡ l → maybe_con o ≡ record_row l → IfSome o (λ r. ordered (con_tree r) ≡ con_tree r)
row_in_order l None h e = tt
row_in_order (record_of r) (Some x) h e = held (con_tree x) r (inside r h) e
row_in_order (var i) (Some x) h e = cc
row_in_order (basic s) (Some x) h e = cc
row_in_order (arrow a b) (Some x) h e = cc
row_in_order (poly i k b) (Some x) h e = cc
row_in_order (guarded a b c) (Some x) h e = cc
row_in_order (app a b) (Some x) h e = cc
row_in_order (lambda k b) (Some x) h e = cc
row_in_order unit_con (Some x) h e = cc
row_in_order (name s) (Some x) h e = cc
row_in_order (row k ps) (Some x) h e = cc
row_in_order (cat a b) (Some x) h e = cc
row_in_order (map_of k l) (Some x) h e = cc
row_in_order (tuple cs) (Some x) h e = cc
row_in_order (proj a n) (Some x) h e = cc

pub row_stays : (l : Cn) (o : Option Con) (r : Con) → o ≡ Some r → ordered l ≡ l → maybe_con o ≡ record_row l → ordered (con_tree r) ≡ con_tree r
row_stays l o r i h e = let k : IfSome (Some r) (λ x. ordered (con_tree x) ≡ con_tree x) = subst (λ z. IfSome z (λ x. ordered (con_tree x) ≡ con_tree x)) i (row_in_order l o h e) in k
