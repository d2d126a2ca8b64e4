-- What comparison by normal forms says of equality.
use Rattle.std.proofs.Common.{◌≡◌, ℕ, Bool, true, false, ◌&&◌, Option, Some, None, option_map, if◌then◌else◌, List, [], ◌∷◌, ◌++◌, Result, Ok, refl, ap, sym, ◌∙◌, subst, subst₂}
use Rattle.con_terms.specs.Trees.{Kd, types, Cn, var, basic, arrow, poly, guarded, record_of, app, lambda, unit_con, name, row, cat, map_of, tuple, proj, no_pairs, pair}
use Rattle.con_terms.specs.Same.{kd_eq}
use Rattle.con_terms.proofs.SameKinds.{kd_eq_same}
use Rattle.row_normal.specs.SameTree.{cn_eq}
use Rattle.row_normal.proofs.SameTrees.{cn_eq_same}
use Rattle.con_terms.specs.Equal.{Equal, same, back, step, in_cat, cat_swaps, cat_groups, cat_unit}
use Rattle.con_terms.specs.Apart.{Guards, Apart}
use Rattle.row_normal.specs.Ordered.{ordered, ordered_pieces, joined, first_kind}
use Rattle.row_normal.specs.NormalForm.{nf}
use Rattle.row_normal.proofs.Options.{none_some, both_from}
use Rattle.row_normal.proofs.StepEqual.{along}
use Rattle.row_normal.proofs.OrderEqual.{cats, ordered_equal, in_order_equal}
use Rattle.kind_rules.specs.Flaws.{Flw}
use Rattle.kind_rules.specs.Compared.{comparison_units, normal_forms, with_first, with_second}
use Rattle.row_normal.proofs.NormalEqual.{nf_equal}
use Rattle.kind_rules.proofs.Sound.{forms_equal, apart_sound}
use Rattle.core_terms.specs.Types.{one_field}
use Rattle.core_typing.specs.Scopes.{normal_of}
use Rattle.core_typing.specs.Compared.{Alike, Disjoint, value_of, behind, field_or, field_of, without_piece, without_pieces}
use Rattle.std.proofs.lemmas.Option.{same_Some as some_is}

pair_is : (x y : Cn × List Cn) → Some x ≡ Some y → x ≡ y
pair_is x y h = cc

pub normal_from : (o : Option (Cn × ℕ)) (n : Cn) → elim o [ None ↦ None | Some r ↦ Some r.0 ] ≡ Some n → (l : ℕ) × (o ≡ Some (n, l))
normal_from None n h = none_some n h
normal_from (Some r) n h = (r.1, ap (λ (x : Cn). Some (x, r.1)) (some_is r.0 n h))

-- a normal form is equal to its constructor
pub normal_equal : {c n : Cn} → normal_of c ≡ Some n → Equal c n
normal_equal {c} {n} h = let (l, e) = normal_from (nf comparison_units c) n h in nf_equal comparison_units l c n e

-- the first of two normal forms is the one that is found alone, and the second is one
pub pairs_are : {x y : Cn × Cn} → ◌≡◌ {A = Result (Cn × Cn) Flw} (Ok x) (Ok y) → x ≡ y
pairs_are e = cc

second_from : (k m n : Cn) (o : Option (Cn × ℕ)) → with_second k o ≡ Ok (m, n) → (k ≡ m) × ((l : ℕ) × (o ≡ Some (n, l)))
second_from k m n None e = cc
second_from k m n (Some r) e = let i = pairs_are e in (ap (λ (z : Cn × Cn). z.0) i, (r.1, ap (λ x. Some (x, r.1)) (ap (λ (z : Cn × Cn). z.1) i)))

first_from : (o : Option (Cn × ℕ)) (c m n : Cn) → with_first o c ≡ Ok (m, n) → (elim o [ None ↦ None | Some r ↦ Some r.0 ] ≡ Some m) × ((k : ℕ) × (l : ℕ) × (nf k c ≡ Some (n, l)))
first_from None c m n e = cc
first_from (Some r) c m n e = let (i, (l, f)) = second_from r.0 m n (nf r.1 c) e in (ap (λ x. Some x) i, (r.1, l, f))

pub first_form : (t c : Cn) {m n : Cn} → normal_forms comparison_units t c ≡ Ok (m, n) → normal_of t ≡ Some m
first_form t c {m} {n} h = (first_from (nf comparison_units t) c m n h).0

pub second_form : (t c : Cn) {m n : Cn} → normal_forms comparison_units t c ≡ Ok (m, n) → (k : ℕ) × (l : ℕ) × (nf k c ≡ Some (n, l))
second_form t c {m} {n} h = (first_from (nf comparison_units t) c m n h).1

pub second_equal : (t c : Cn) {m n : Cn} → normal_forms comparison_units t c ≡ Ok (m, n) → Equal c n
second_equal t c {n = n} h = let (k, l, e) = second_form t c h in nf_equal k l c n e

-- one constructor beside one type has one normal form there
pub same_second : (t u c : Cn) {m n x y : Cn} → normal_forms comparison_units t c ≡ Ok (m, n) → normal_forms comparison_units u c ≡ Ok (x, y) → t ≡ u → n ≡ y
same_second t u c h g i = ap (λ (z : Cn × Cn). z.1) (pairs_are (sym h ∙ ap (λ a. normal_forms comparison_units a c) i ∙ g))

-- one normal form, one constructor up to equality
pub alike_equal : {a b : Cn} → Alike a b → Equal a b
alike_equal {a} {b} w = let (p, q) = forms_equal comparison_units a b (w.form, w.form) w.forms in step p (back q)

-- separated pieces of the normal forms make rows apart
pub disjoint_apart : {gs : Guards} {a b : Cn} → Disjoint gs a b → Apart gs a b
disjoint_apart {gs} {a} {b} d = apart_sound gs a b d.none_touch

-- rows by their pieces
pub none_behind : (ps : List Cn) → ps ++ [] ≡ ps
none_behind [] = refl
none_behind (p ∷ ps) = ap (λ qs. p ∷ qs) (none_behind ps)

pub kind_moves : (l k : Kd) (ps : List Cn) → Equal (cats l ps) (cats k ps)
kind_moves l k [] = step (back cat_unit) (step cat_swaps cat_unit)
kind_moves l k (p ∷ ps) = in_cat same (kind_moves l k ps)

pub joined_equal : (k : Kd) (ps : List Cn) → Equal (cats k ps) (joined k ps)
joined_equal k [] = same
joined_equal k (p ∷ []) = step cat_swaps cat_unit
joined_equal k (p ∷ q ∷ ps) = in_cat same (joined_equal k (q ∷ ps))

-- a row is its pieces, one after another
pub by_pieces : (c : Cn) → Equal c (cats types (ordered_pieces c))
by_pieces c =
    let padded : Equal c (ordered (cat c (row types no_pairs))) = step (back cat_unit) (step cat_swaps (ordered_equal (cat c (row types no_pairs)))) in
    let listed : Equal c (cats (first_kind c) (ordered_pieces c ++ [])) = step padded (back (in_order_equal (first_kind c) (ordered_pieces c ++ []))) in
    step (along listed (ap (cats (first_kind c)) (none_behind (ordered_pieces c)))) (kind_moves (first_kind c) types (ordered_pieces c))

turn : {p q r : Cn} → Equal (cat p (cat q r)) (cat q (cat p r))
turn = step (back cat_groups) (step (in_cat cat_swaps same) cat_groups)

-- one element of a list, and the others in their order
pub data Picks : List Cn → Cn → List Cn → Type 0 where
  picks_first : {p : Cn} {ps : List Cn} → Picks (p ∷ ps) p ps
  picks_later : {p q : Cn} {ps qs : List Cn} → Picks ps q qs → Picks (p ∷ ps) q (p ∷ qs)

picks_equal : {ps qs : List Cn} {c : Cn} → Picks ps c qs → Equal (cats types ps) (cat c (cats types qs))
picks_equal picks_first = same
picks_equal (picks_later h) = step (in_cat same (picks_equal h)) turn

value_as : (k : Kd) (m v n w : Cn) (b : Bool) → (kd_eq k types && cn_eq m n) ≡ b → (if b then Some v else None) ≡ Some w → row k (pair m v no_pairs) ≡ one_field n w
value_as k m v n w true h e =
    let (p, q) = both_from (kd_eq k types) (cn_eq m n) h in
    let i : k ≡ types = kd_eq_same k types p in
    let j : m ≡ n = cn_eq_same m n q in
    let l : v ≡ w = some_is v w e in
    rw (i, j, l) refl
value_as k m v n w false h e = cc

value_is : (n p w : Cn) → value_of n p ≡ Some w → p ≡ one_field n w
value_is n (row k (pair m v no_pairs)) w e = value_as k m v n w (kd_eq k types && cn_eq m n) refl e
value_is n (row k (pair m v (pair l u qs))) w e = cc
value_is n (row k no_pairs) w e = cc
value_is n (var i) w e = cc
value_is n (basic s) w e = cc
value_is n (arrow a b) w e = cc
value_is n (poly x k b) w e = cc
value_is n (guarded a b c) w e = cc
value_is n (record_of a) w e = cc
value_is n (app a b) w e = cc
value_is n (lambda k b) w e = cc
value_is n (name s) w e = cc
value_is n (cat a b) w e = cc
value_is n (map_of k l) w e = cc
value_is n (tuple cs) w e = cc
value_is n (proj a i) w e = cc
value_is n unit_con w e = cc

-- the first field of a name is one of the pieces
pub field_picks : (n : Cn) (ps : List Cn) (v : Cn) (qs : List Cn) → field_of n ps ≡ Some (v, qs) → Picks ps (one_field n v) qs
field_picks n [] v qs e = cc
field_picks n (p ∷ ps) v qs e = by_value (value_of n p) (field_of n ps) refl (λ w rs. field_picks n ps w rs) e
  where
    by_rest : (o : Option (Cn × List Cn)) → ((w : Cn) (rs : List Cn) → o ≡ Some (w, rs) → Picks ps (one_field n w) rs) → behind p o ≡ Some (v, qs) → Picks (p ∷ ps) (one_field n v) qs
    by_rest None later e = cc
    by_rest (Some r) later e =
        let i : (r.0, p ∷ r.1) ≡ (v, qs) = pair_is (r.0, p ∷ r.1) (v, qs) e in
        subst₂ (λ w rs. Picks (p ∷ ps) (one_field n w) rs) (ap (λ (x : Cn × List Cn). x.0) i) (ap (λ (x : Cn × List Cn). x.1) i) (picks_later (later r.0 r.1 refl))

    by_value : (o : Option Cn) (more : Option (Cn × List Cn)) → value_of n p ≡ o → ((w : Cn) (rs : List Cn) → more ≡ Some (w, rs) → Picks ps (one_field n w) rs) → field_or o p ps more ≡ Some (v, qs) → Picks (p ∷ ps) (one_field n v) qs
    by_value None more h later e = by_rest more later e
    by_value (Some w) more h later e =
        let i : (w, ps) ≡ (v, qs) = pair_is (w, ps) (v, qs) e in
        let j : p ≡ one_field n v = value_is n p w h ∙ ap (one_field n) (ap (λ (x : Cn × List Cn). x.0) i) in
        subst₂ (λ x rs. Picks (p ∷ ps) x rs) j (ap (λ (x : Cn × List Cn). x.1) i) picks_first

pub piece_equal : (c : Cn) (ps qs : List Cn) → without_piece c ps ≡ Some qs → Picks ps c qs
piece_equal c [] qs e = cc
piece_equal c (p ∷ ps) qs e = by_test (cn_eq p c) (without_piece c ps) refl (λ rs. piece_equal c ps rs) e
  where
    by_test : (b : Bool) (o : Option (List Cn)) → cn_eq p c ≡ b → ((rs : List Cn) → o ≡ Some rs → Picks ps c rs) → (if b then Some ps else option_map (λ rs. p ∷ rs) o) ≡ Some qs → Picks (p ∷ ps) c qs
    by_test true o h later e = subst₂ (λ x rs. Picks (p ∷ ps) x rs) (cn_eq_same p c h) (some_is ps qs e) picks_first
    by_test false None h later e = cc
    by_test false (Some rs) h later e = subst (λ x. Picks (p ∷ ps) c x) (some_is (p ∷ rs) qs e) (picks_later (later rs refl))

pieces_equal : (cs ps rs : List Cn) → without_pieces cs ps ≡ Some rs → Equal (cats types ps) (cat (cats types cs) (cats types rs))
pieces_equal [] ps rs e = subst (λ x. Equal (cats types ps) (cat (cats types []) (cats types x))) (some_is ps rs e) (back cat_unit)
pieces_equal (c ∷ cs) ps rs e = by_piece (without_piece c ps) refl (λ qs. pieces_equal cs qs rs) e
  where
    by_piece : (o : Option (List Cn)) → without_piece c ps ≡ o → ((qs : List Cn) → without_pieces cs qs ≡ Some rs → Equal (cats types qs) (cat (cats types cs) (cats types rs))) → elim o [ None ↦ None | Some qs ↦ without_pieces cs qs ] ≡ Some rs → Equal (cats types ps) (cat (cats types (c ∷ cs)) (cats types rs))
    by_piece None h later e = cc
    by_piece (Some qs) h later e = step (picks_equal (piece_equal c ps qs h)) (step (in_cat same (later qs e)) (back cat_groups))

-- a field and the rest, a part and the rest
pub field_equal : (r n v : Cn) (rest : List Cn) → field_of n (ordered_pieces r) ≡ Some (v, rest) → Equal r (cat (one_field n v) (joined types rest))
field_equal r n v rest h = step (by_pieces r) (step (picks_equal (field_picks n (ordered_pieces r) v rest h)) (in_cat same (joined_equal types rest)))

-- what is left, put in order
pub field_left : (r n v : Cn) (rest : List Cn) → field_of n (ordered_pieces r) ≡ Some (v, rest) → Equal r (cat (one_field n v) (ordered (joined types rest)))
field_left r n v rest h = step (field_equal r n v rest h) (in_cat same (ordered_equal (joined types rest)))

pub field_among : (n : Cn) (ps : List Cn) (v : Cn) (qs : List Cn) → field_of n ps ≡ Some (v, qs) → Equal (cats types ps) (cat (one_field n v) (cats types qs))
field_among n ps v qs h = picks_equal (field_picks n ps v qs h)

pub part_equal : (r n : Cn) (rest : List Cn) → without_pieces (ordered_pieces n) (ordered_pieces r) ≡ Some rest → Equal r (cat n (joined types rest))
part_equal r n rest h = step (by_pieces r) (step (pieces_equal (ordered_pieces n) (ordered_pieces r) rest h) (in_cat (back (by_pieces n)) (joined_equal types rest)))

pub part_left : (r n : Cn) (rest : List Cn) → without_pieces (ordered_pieces n) (ordered_pieces r) ≡ Some rest → Equal r (cat n (ordered (joined types rest)))
part_left r n rest h = step (part_equal r n rest h) (in_cat same (ordered_equal (joined types rest)))
