-- Pieces, one after another.
use Rattle.std.proofs.Common.{◌≡◌, ℕ, ◌+◌, ◌<◌, ◌≤◌, Bool, true, false, List, [], ◌∷◌, ◌++◌, length, map, get_or, drop, Option, Some, None, option_map, if◌then◌else◌, refl, ap, ◌∙◌, sym, drop_of_length-le}
use Rattle.std.proofs.lemmas.List.{append_assoc, append-nil}
use Rattle.con_terms.specs.Trees.{Cn, con_list}
use Rattle.con_terms.specs.View.{con_tree}
use Rattle.con_terms.specs.declared.con.Con.{Con}
use Rattle.con_terms.specs.declared.con.Cons.{Cons}
use Rattle.std.specs.Global.{Vec}
use Rattle.con_terms.specs.declared.con.Con.TheViews.{out-Cons, roll-Cons}
use Rattle.con_terms.proofs.Lists.{cons_tree-roll, con_list_from}
use Rattle.row_normal.specs.SameTree.{cn_eq}
use Rattle.core_typing.specs.Compared.{behind, field_or, value_of, field_of, without_piece}
use Rattle.core_terms.specs.View.{maybe_con}
use Rattle.judgements.specs.View.{cons_view, taking_tree, leaving_tree}
use Rattle.judgements.specs.declared.pieces.Taking.{Taking}
use Rattle.judgements.specs.declared.pieces.Leaving.{Leaving}
use Rattle.judgements.specs.Pieces.{none_taken, none_left}
use Rattle.judgements.specs.Pieces.{Tg, all_behind, taking_by, taking, one_more, met, take_one, Lv, all_before, leaving_by, leaving, left_by, unless_met, leave_one}
pub use Rattle.con_terms.proofs.Lists.{cons_listed as pieces_are}
use Rattle.row_normal.proofs.Coded.{open_at}

pub pieces_next : (xs : List Con) (i : ℕ) (x : Con) → x ≡ get_or xs i x → i < length xs → map con_tree (drop i xs) ≡ con_tree x ∷ map con_tree (drop (i + 1) xs)
pieces_next xs i x e h = ap (map con_tree) (open_at xs i x e h)

pub pieces_end : (xs : List Con) (i : ℕ) → length xs ≤ i → map con_tree (drop i xs) ≡ []
pieces_end xs i h = ap (map con_tree) (drop_of_length-le xs h)

-- the field of a name
behind_last : (past : List Cn) (p : Cn) (r : Option (Cn × List Cn)) → all_behind (past ++ p ∷ []) r ≡ all_behind past (behind p r)
behind_last [] p r = refl
behind_last (q ∷ qs) p r = ap (behind q) (behind_last qs p r)

behind_found : (past : List Cn) (v : Cn) (more : List Cn) → all_behind past (Some (v, more)) ≡ Some (v, past ++ more)
behind_found [] v more = refl
behind_found (q ∷ qs) v more = ap (behind q) (behind_found qs v more)

behind_none : (past : List Cn) → all_behind past None ≡ None
behind_none [] = refl
behind_none (q ∷ qs) = ap (behind q) (behind_none qs)

by_value : (n p : Cn) (past more : List Cn) (o : Option Cn) → taking n (one_more o p past) more ≡ all_behind past (field_or o p more (field_of n more))
by_value n p past more None = behind_last past p (field_of n more)
by_value n p past more (Some v) = sym (behind_found past v more)

by_met : (n p : Cn) (past more : List Cn) (o : Option Cn) → taking n (met n p (record { value = o; past = past }) o) more ≡ taking_by n past o (p ∷ more)
by_met n p past more None = by_value n p past more (value_of n p)
by_met n p past more (Some v) = ap (λ z. Some (v, z)) (append_assoc past (p ∷ []) more)

pub taken_next : (n p : Cn) (r : Tg) (more : List Cn) → taking n (take_one n p r) more ≡ taking n r (p ∷ more)
taken_next n p r more = by_met n p r.past more r.value

pub taken_end : (n : Cn) (past : List Cn) → taking n (record { value = None; past = past }) [] ≡ None
taken_end n past = behind_none past

pub taken_found : (n v : Cn) (past : List Cn) → taking n (record { value = Some v; past = past }) [] ≡ Some (v, past)
taken_found n v past = ap (λ z. Some (v, z)) (append-nil past)

-- without a piece
before_last : (past : List Cn) (p : Cn) (r : Option (List Cn)) → all_before (past ++ p ∷ []) r ≡ all_before past (option_map (λ qs. p ∷ qs) r)
before_last [] p r = refl
before_last (q ∷ qs) p r = ap (option_map (λ z. q ∷ z)) (before_last qs p r)

before_some : (past more : List Cn) → all_before past (Some more) ≡ Some (past ++ more)
before_some [] more = refl
before_some (q ∷ qs) more = ap (option_map (λ z. q ∷ z)) (before_some qs more)

before_none : (past : List Cn) → all_before past None ≡ None
before_none [] = refl
before_none (q ∷ qs) = ap (option_map (λ z. q ∷ z)) (before_none qs)

by_same : (c p : Cn) (past more : List Cn) (b : Bool) → leaving c (left_by b p past) more ≡ all_before past (if b then Some more else option_map (λ qs. p ∷ qs) (without_piece c more))
by_same c p past more true = sym (before_some past more)
by_same c p past more false = before_last past p (without_piece c more)

by_out : (c p : Cn) (past more : List Cn) (b : Bool) → leaving c (unless_met c p (record { is_out = b; past = past }) b) more ≡ leaving_by c past b (p ∷ more)
by_out c p past more false = by_same c p past more (cn_eq p c)
by_out c p past more true = ap (λ z. Some z) (append_assoc past (p ∷ []) more)

pub left_next : (c p : Cn) (r : Lv) (more : List Cn) → leaving c (leave_one c p r) more ≡ leaving c r (p ∷ more)
left_next c p r more = by_out c p r.past more r.is_out

pub left_end : (c : Cn) (past : List Cn) → leaving c (record { is_out = false; past = past }) [] ≡ None
left_end c past = before_none past

pub left_found : (c : Cn) (past : List Cn) → leaving c (record { is_out = true; past = past }) [] ≡ Some past
left_found c past = ap (λ z. Some z) (append-nil past)

-- as the loops go
pub rolled : (v : Vec Con) → cons_view (roll-Cons (record { items = v })) ≡ map con_tree v.items
rolled v = ap con_list (cons_tree-roll (record { items = v })) ∙ con_list_from (map con_tree v.items)

pub taken_on : (n : Cn) (xs : List Con) (i : ℕ) (x : Con) (now new : Tg) (z : Option (Cn × List Cn)) → x ≡ get_or xs i x → i < length xs → new ≡ take_one n (con_tree x) now →
    taking n now (map con_tree (drop i xs)) ≡ z → taking n new (map con_tree (drop (i + 1) xs)) ≡ z
taken_on n xs i x now new z e h s k =
    ap (λ (r : Tg). taking n r (map con_tree (drop (i + 1) xs))) s ∙ taken_next n (con_tree x) now (map con_tree (drop (i + 1) xs))
    ∙ ap (taking n now) (sym (pieces_next xs i x e h)) ∙ k

pub taken_all : (n : Cn) (cs : Cons) (i : ℕ) (now : Tg) → length (out-Cons cs).items.items ≤ i →
    taking n now (map con_tree (drop i (out-Cons cs).items.items)) ≡ taking n none_taken (map con_tree (out-Cons cs).items.items) → taking n now [] ≡ field_of n (cons_view cs)
taken_all n cs i now h k = ap (taking n now) (sym (pieces_end (out-Cons cs).items.items i h)) ∙ k ∙ ap (field_of n) (sym (pieces_are cs))

pub none_at : (n : Cn) (t : Taking) → t.value ≡ None → taking n (taking_tree t) [] ≡ None
none_at n t e = ap (λ o. taking_by n (map con_tree t.past.items) (maybe_con o) []) e ∙ behind_none (map con_tree t.past.items)

pub some_at : (n : Cn) (t : Taking) (v : Con) → t.value ≡ Some v → taking n (taking_tree t) [] ≡ Some (con_tree v, map con_tree t.past.items)
some_at n t v e = ap (λ o. taking_by n (map con_tree t.past.items) (maybe_con o) []) e ∙ taken_found n (con_tree v) (map con_tree t.past.items)

pub left_on : (c : Cn) (xs : List Con) (i : ℕ) (x : Con) (now new : Lv) (z : Option (List Cn)) → x ≡ get_or xs i x → i < length xs → new ≡ leave_one c (con_tree x) now →
    leaving c now (map con_tree (drop i xs)) ≡ z → leaving c new (map con_tree (drop (i + 1) xs)) ≡ z
left_on c xs i x now new z e h s k =
    ap (λ (r : Lv). leaving c r (map con_tree (drop (i + 1) xs))) s ∙ left_next c (con_tree x) now (map con_tree (drop (i + 1) xs))
    ∙ ap (leaving c now) (sym (pieces_next xs i x e h)) ∙ k

pub left_all : (c : Cn) (cs : Cons) (i : ℕ) (now : Lv) → length (out-Cons cs).items.items ≤ i →
    leaving c now (map con_tree (drop i (out-Cons cs).items.items)) ≡ leaving c none_left (map con_tree (out-Cons cs).items.items) → leaving c now [] ≡ without_piece c (cons_view cs)
left_all c cs i now h k = ap (leaving c now) (sym (pieces_end (out-Cons cs).items.items i h)) ∙ k ∙ ap (without_piece c) (sym (pieces_are cs))

pub out_at : (c : Cn) (t : Leaving) → t.is_out ≡ true → leaving c (leaving_tree t) [] ≡ Some (map con_tree t.past.items)
out_at c t e = ap (λ b. leaving_by c (map con_tree t.past.items) b []) e ∙ left_found c (map con_tree t.past.items)

pub kept_at : (c : Cn) (t : Leaving) → t.is_out ≡ false → leaving c (leaving_tree t) [] ≡ None
kept_at c t e = ap (λ b. leaving_by c (map con_tree t.past.items) b []) e ∙ left_end c (map con_tree t.past.items)
