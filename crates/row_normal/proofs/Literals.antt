-- Literals with one field whose name is a literal, and those without.
use Rattle.std.proofs.Common.{◌≡◌, ℕ, Bool, true, false, if◌then◌else◌, ◌&&◌, List, [], ◌∷◌, ◌++◌, length, map, get_or, Option, Some, None, is_some, Result, Ok, Err, IfOk, refl, sym, ap, ◌∙◌, true≢false, arith}
use Rattle.con_terms.specs.Trees.{Kd, Cn, name, row, Prs, no_pairs, pair}
use Rattle.con_terms.specs.Same.{kd_eq}
use Rattle.con_terms.specs.View.{pair_tree, pairs_from, pairs_tree}
use Rattle.con_terms.specs.declared.con.Pair.{Pair}
use Rattle.con_terms.specs.declared.con.Pairs.{Pairs}
use Rattle.con_terms.specs.declared.con.Con.TheViews.{out-Pairs}
use Rattle.con_terms.proofs.Lists.{pairs_tree_is}
use Rattle.row_normal.specs.Glue.{literal_of, literal_then, name_of, pairs_then}
use Rattle.row_normal.proofs.Options.{both_from}
use Rattle.row_normal.specs.Ordered.{leading_fields, after_leading}

no_name : {s : ℕ} → Some s ≡ None → ⊥
no_name h = true≢false (ap is_some h)

pub none_unless_one : (xs : List Pair) → (length xs ≡ 1 → ⊥) → None ≡ literal_of (pairs_from (map pair_tree xs))
none_unless_one [] h = refl
none_unless_one (x ∷ []) h = absurd (h refl)
none_unless_one (x ∷ y ∷ xs) h = refl

pub of_the_only : (xs : List Pair) (x : Pair) → length xs ≡ 1 → x ≡ get_or xs 0 x → name_of (pair_tree x).0 ≡ literal_of (pairs_from (map pair_tree xs))
of_the_only [] x h e = absurd (omega (arith, h))
of_the_only (y ∷ []) x h e = ap (λ z. name_of (pair_tree z).0) e
of_the_only (y ∷ z ∷ xs) x h e = absurd (omega (arith, h))

abbrev or_zero : Option ℕ → ℕ
or_zero None = 0
or_zero (Some i) = i

-- where there is such a name
name_is : (n : Cn) (s : ℕ) → name_of n ≡ Some s → n ≡ name s
name_is (name t) s h = ap (λ o. name (or_zero o)) h
name_is _ s h = absurd (no_name (sym h))

pub record OneField (s : ℕ) (ps : Prs) : Type 0 where
  pub value : Cn
  pub is : ps ≡ pair (name s) value no_pairs

pub one_field : (s : ℕ) (ps : Prs) → literal_of ps ≡ Some s → OneField s ps
one_field s no_pairs h = absurd (no_name (sym h))
one_field s (pair n v no_pairs) h = record { value = v; is = ap (λ m. pair m v no_pairs) (name_is n s h) }
one_field s (pair n v (pair m w ps)) h = absurd (no_name (sym h))

then_then : (ps qs rs : Prs) → pairs_then (pairs_then ps qs) rs ≡ pairs_then ps (pairs_then qs rs)
then_then no_pairs qs rs = refl
then_then (pair n v ps) qs rs = ap (pair n v) (then_then ps qs rs)

open_if : {X : Type 0} (b : Bool) (x y : X) → b ≡ true → x ≡ (if b then x else y)
open_if true x y h = refl
open_if false x y h = absurd (true≢false (sym h))

close_if : {X : Type 0} (b : Bool) (x y : X) → b ≡ false → y ≡ (if b then x else y)
close_if true x y h = absurd (true≢false h)
close_if false x y h = refl

-- a field more of the literal's kind
literal_more_one : (k l : Kd) (s : ℕ) (v : Cn) (ps : Prs) (rest : List Cn) → kd_eq k l ≡ true →
    literal_then k (pairs_then ps (pair (name s) v no_pairs)) rest ≡ literal_then k ps (row l (pair (name s) v no_pairs) ∷ rest)
literal_more_one k l s v ps rest e =
    ap (λ fs. row k fs ∷ after_leading k rest) (then_then ps (pair (name s) v no_pairs) (leading_fields k rest) ∙ ap (pairs_then ps) (open_if (kd_eq k l) _ _ e))
    ∙ ap (λ qs. row k (pairs_then ps (leading_fields k (row l (pair (name s) v no_pairs) ∷ rest))) ∷ qs) (open_if (kd_eq k l) _ _ e)

named_from : (ps : Prs) (o : Option ℕ) → literal_of ps ≡ o → is_some o ≡ true → (s : ℕ) × (literal_of ps ≡ Some s)
named_from ps None e h = absurd (true≢false (sym h))
named_from ps (Some s) e h = (s, e)

named : (ps : Prs) → is_some (literal_of ps) ≡ true → (s : ℕ) × (literal_of ps ≡ Some s)
named ps h = named_from ps (literal_of ps) refl h

pub literal_more : (k l : Kd) (s : ℕ) (ps qs : Prs) (rest : List Cn) → literal_of qs ≡ Some s → kd_eq k l ≡ true →
    literal_then k (pairs_then ps qs) rest ≡ literal_then k ps (row l qs ∷ rest)
literal_more k l s ps qs rest h e =
    let f = one_field s qs h in
    ap (λ rs. literal_then k (pairs_then ps rs) rest) f.is ∙ literal_more_one k l s f.value ps rest e ∙ ap (λ rs. literal_then k ps (row l rs ∷ rest)) (sym f.is)

pub then_none : (ps : Prs) → ps ≡ pairs_then ps no_pairs
then_none no_pairs = refl
then_none (pair n v ps) = ap (pair n v) (then_none ps)

-- what ends the literal
literal_ends : (k : Kd) (ps : Prs) (c : Cn) (rest : List Cn) → no_pairs ≡ leading_fields k (c ∷ rest) → c ∷ rest ≡ after_leading k (c ∷ rest) →
    row k (pairs_then ps no_pairs) ∷ c ∷ rest ≡ literal_then k ps (c ∷ rest)
literal_ends k ps c rest h e = ap (λ qs. row k (pairs_then ps qs) ∷ c ∷ rest) h ∙ ap (λ qs. row k (pairs_then ps (leading_fields k (c ∷ rest))) ∷ qs) e

no_fields : (k l : Kd) (qs : Prs) (rest : List Cn) → (is_some (literal_of qs) && kd_eq k l) ≡ false → no_pairs ≡ leading_fields k (row l qs ∷ rest)
no_fields k l (pair (name s) v no_pairs) rest e = close_if (kd_eq k l) _ _ e
no_fields k l _ rest e = refl

all_follow : (k l : Kd) (qs : Prs) (rest : List Cn) → (is_some (literal_of qs) && kd_eq k l) ≡ false → row l qs ∷ rest ≡ after_leading k (row l qs ∷ rest)
all_follow k l (pair (name s) v no_pairs) rest e = close_if (kd_eq k l) _ _ e
all_follow k l _ rest e = refl

-- a literal of another kind or without such a name ends it
pub ends_literal : (k l : Kd) (ps qs : Prs) (rest : List Cn) → (is_some (literal_of qs) && kd_eq k l) ≡ false →
    row k (pairs_then ps no_pairs) ∷ row l qs ∷ rest ≡ literal_then k ps (row l qs ∷ rest)
ends_literal k l ps qs rest e = literal_ends k ps (row l qs) rest (no_fields k l qs rest e) (all_follow k l qs rest e)

-- a field of the literal's kind with such a name goes on with it
pub goes_on : (k l : Kd) (ps qs : Prs) (rest : List Cn) → (is_some (literal_of qs) && kd_eq k l) ≡ true → literal_then k (pairs_then ps qs) rest ≡ literal_then k ps (row l qs ∷ rest)
goes_on k l ps qs rest h =
    let (m, e) = both_from (is_some (literal_of qs)) (kd_eq k l) h in
    let (s, n) = named qs m in
    literal_more k l s ps qs rest n e

pairs_append : (xs ys : List Pair) → pairs_from (map pair_tree (xs ++ ys)) ≡ pairs_then (pairs_from (map pair_tree xs)) (pairs_from (map pair_tree ys))
pairs_append [] ys = refl
pairs_append (x ∷ xs) ys = ap (pair (pair_tree x).0 (pair_tree x).1) (pairs_append xs ys)

pub appended : (ps qs : Pairs) (new : List Pair) → new ≡ (out-Pairs ps).items.items ++ (out-Pairs qs).items.items → pairs_from (map pair_tree new) ≡ pairs_then (pairs_tree ps) (pairs_tree qs)
appended ps qs new e =
    ap (λ l. pairs_from (map pair_tree l)) e ∙ pairs_append (out-Pairs ps).items.items (out-Pairs qs).items.items
    ∙ ap (λ t. pairs_then t (pairs_from (map pair_tree (out-Pairs qs).items.items))) (sym (pairs_tree_is ps)) ∙ ap (pairs_then (pairs_tree ps)) (sym (pairs_tree_is qs))

-- what follows from an Ok
pub if_ok : {X E : Type 0} (r : Result X E) (P Q : X → Type 0) → ((x : X) → P x → Q x) → IfOk r P → IfOk r Q
if_ok (Ok x) P Q f p = f x p
if_ok (Err e) P Q f p = tt
