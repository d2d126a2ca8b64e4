-- Loops over the terms of a list and what is found for them.
use Rattle.std.proofs.Common.{◌≡◌, ℕ, zero, suc, ◌+◌, ◌-◌, ◌<◌, ◌≤◌, Bool, true, false, ◌&&◌, ◌||◌, List, [], ◌∷◌, ◌++◌, length, take, drop, Option, Some, None, slice_get, refl, ap, sym, ◌∙◌, arith, drop-cons, drop_of_length-le, append_assoc}
use Rattle.std.proofs.lemmas.List.{append-nil}
use Rattle.std.proofs.lemmas.Option.{slice_get_within, get_or_from_slice_get}
use Rattle.std.proofs.lemmas.Bool.{or_left as or_true}
use Rattle.con_terms.specs.Trees.{Cn, cat}
use Rattle.xml_trees.specs.declared.source_name.TagName.{TagName}
use Rattle.xml_trees.specs.declared.source_name.AttrName.{AttrName}
use Rattle.row_normal.specs.Ordered.{ordered}
use Rattle.core_terms.specs.Trees.{It}
use Rattle.core_terms.specs.View.{AttributeTree, NodeTree}
use Rattle.core_typing.specs.Scopes.{Sc}
use Rattle.core_typing.specs.Faults.{Fault}
use Rattle.told_faults.specs.Computed.{Jd, first}
use Rattle.markup_rules.specs.Links.{is_term, all_terms, counted, term_count}
use Rattle.markup_rules.specs.Attributes.{At, same_name, stands_among, with_attribute, attributes_from, is_link, has_link}
use Rattle.markup_rules.specs.Content.{is_words, Wd, all_words, word_or, words_in}
use Rattle.markup_rules.specs.Nodes.{On, one_node, Fw, none_behind, with_found, going_on, forward, Nd, Be, nobody, filling, lost, Bk, with_before, behind_of, with_node, node_before, lost_before, backward, behind_tree}

-- the next element
pub opened : {X : Type 0} (xs : List X) (i : ℕ) (x : X) → slice_get xs i ≡ Some x → drop i xs ≡ x ∷ drop (i + 1) xs
opened xs i x e =
    let h : i < length xs = slice_get_within xs i x e in
    drop-cons xs i x h ∙ ap (λ y. y ∷ drop (suc i) xs) (get_or_from_slice_get xs i x x e) ∙ ap (λ n. x ∷ drop n xs) (let p : suc i ≡ i + 1 = omega arith in p)

pub taken_next : {X : Type 0} (xs : List X) (i : ℕ) (x : X) → slice_get xs i ≡ Some x → take (suc i) xs ≡ take i xs ++ x ∷ []
taken_next [] i x e = cc
taken_next (y ∷ ys) zero x e = let k : y ≡ x = cc in ap (λ z. z ∷ []) k
taken_next (y ∷ ys) (suc i) x e = ap (λ zs. y ∷ zs) (taken_next ys i x e)

pub taken : {X : Type 0} (xs : List X) (i : ℕ) (x : X) → slice_get xs i ≡ Some x → take (i + 1) xs ≡ take i xs ++ x ∷ []
taken xs i x e = ap (λ n. take n xs) (let p : i + 1 ≡ suc i = omega arith in p) ∙ taken_next xs i x e

pub ended : {X : Type 0} (xs : List X) (i : ℕ) → length xs ≤ i → drop i xs ≡ []
ended xs i h = drop_of_length-le xs h

-- a test of each element
pub terms_on : (xs : List It) (i : ℕ) (x : It) (z : Bool) → slice_get xs i ≡ Some x → is_term x ≡ true → all_terms (drop i xs) ≡ z → all_terms (drop (i + 1) xs) ≡ z
terms_on xs i x z e h k =
    ap (λ b. b && all_terms (drop (i + 1) xs)) (sym h) ∙ ap all_terms (sym (opened xs i x e)) ∙ k

pub terms_stop : (xs : List It) (i : ℕ) (x : It) → slice_get xs i ≡ Some x → is_term x ≡ false → all_terms (drop i xs) ≡ all_terms xs → None ≡ term_count xs
terms_stop xs i x e h k =
    ap (counted xs) (ap (λ b. b && all_terms (drop (i + 1) xs)) (sym h) ∙ ap all_terms (sym (opened xs i x e)) ∙ k)

pub terms_end : (xs : List It) (i : ℕ) → length xs ≤ i → all_terms (drop i xs) ≡ all_terms xs → Some (length xs) ≡ term_count xs
terms_end xs i h k = ap (counted xs) (ap all_terms (sym (ended xs i h)) ∙ k)

or_false : (b c : Bool) → b ≡ false → (b || c) ≡ c
or_false true c h = cc
or_false false c h = refl

pub links_on : (xs : List AttributeTree) (i : ℕ) (x : AttributeTree) (z : Bool) → slice_get xs i ≡ Some x → is_link x.1 ≡ false → has_link (drop i xs) ≡ z → has_link (drop (i + 1) xs) ≡ z
links_on xs i x z e h k = sym (or_false (is_link x.1) (has_link (drop (i + 1) xs)) h) ∙ ap has_link (sym (opened xs i x e)) ∙ k

pub links_stop : (xs : List AttributeTree) (i : ℕ) (x : AttributeTree) → slice_get xs i ≡ Some x → is_link x.1 ≡ true → has_link (drop i xs) ≡ has_link xs → true ≡ has_link xs
links_stop xs i x e h k = sym (or_true (is_link x.1) (has_link (drop (i + 1) xs)) h) ∙ ap has_link (sym (opened xs i x e)) ∙ k

pub links_end : (xs : List AttributeTree) (i : ℕ) → length xs ≤ i → has_link (drop i xs) ≡ has_link xs → false ≡ has_link xs
links_end xs i h k = ap has_link (sym (ended xs i h)) ∙ k

-- a name among the first
with_none : (b : Bool) → (b || false) ≡ b
with_none true = refl
with_none false = refl

by_more : (b c d e : Bool) → (b || c) ≡ false → (c ≡ false → d ≡ e) → (b || d) ≡ e
by_more true c d e h k = cc
by_more false c d e h k = k h

among_more : (n : AttrName) (xs : List AttributeTree) (x : AttributeTree) → stands_among n xs ≡ false → stands_among n (xs ++ x ∷ []) ≡ same_name x.1 n
among_more n [] x h = with_none (same_name x.1 n)
among_more n (a ∷ xs) x h = by_more (same_name a.1 n) (stands_among n xs) (stands_among n (xs ++ x ∷ [])) (same_name x.1 n) h (among_more n xs x)

pub among_next : (n : AttrName) (xs : List AttributeTree) (i : ℕ) (x : AttributeTree) → slice_get xs i ≡ Some x → stands_among n (take i xs) ≡ false → stands_among n (take (i + 1) xs) ≡ same_name x.1 n
among_next n xs i x e h = ap (stands_among n) (taken xs i x e) ∙ among_more n (take i xs) x h

by_kept : (b c d : Bool) → (b || c) ≡ true → (c ≡ true → d ≡ true) → (b || d) ≡ true
by_kept true c d h k = refl
by_kept false c d h k = k h

among_kept : (n : AttrName) (xs : List AttributeTree) (i j : ℕ) → i ≤ j → stands_among n (take i xs) ≡ true → stands_among n (take j xs) ≡ true
among_kept n [] zero j l h = cc
among_kept n [] (suc i) j l h = cc
among_kept n (a ∷ xs) zero j l h = cc
among_kept n (a ∷ xs) (suc i) zero l h = absurd (omega (arith, l))
among_kept n (a ∷ xs) (suc i) (suc j) l h =
    by_kept (same_name a.1 n) (stands_among n (take i xs)) (stands_among n (take j xs)) h (among_kept n xs i j (omega (arith, l)))

pub among_stop : (n : AttrName) (xs : List AttributeTree) (i j : ℕ) (x : AttributeTree) → slice_get xs i ≡ Some x → i < j → stands_among n (take i xs) ≡ false → same_name x.1 n ≡ true → true ≡ stands_among n (take j xs)
among_stop n xs i j x e l h k = sym (among_kept n xs (i + 1) j (omega (arith, l)) (among_next n xs i x e h ∙ k))

-- attributes
pub attributes_on : (bs : List Bool) (G : Sc) (g : TagName) (u : Cn) (xs : List AttributeTree) (js : List Jd) (i : ℕ) (a : AttributeTree) (j : Jd) (now new z : At) → slice_get xs i ≡ Some a → slice_get js i ≡ Some j →
    new ≡ with_attribute bs G g u (take i xs) a j.type now → attributes_from bs G g u (take i xs) now (drop i xs) (drop i js) ≡ z →
    attributes_from bs G g u (take (i + 1) xs) new (drop (i + 1) xs) (drop (i + 1) js) ≡ z
attributes_on bs G g u xs js i a j now new z e f s k =
    ap (λ p. attributes_from bs G g u p new (drop (i + 1) xs) (drop (i + 1) js)) (taken xs i a e)
    ∙ ap (λ r. attributes_from bs G g u (take i xs ++ a ∷ []) r (drop (i + 1) xs) (drop (i + 1) js)) s
    ∙ ap (λ ys. attributes_from bs G g u (take i xs) now (a ∷ drop (i + 1) xs) ys) (sym (opened js i j f))
    ∙ ap (λ ys. attributes_from bs G g u (take i xs) now ys (drop i js)) (sym (opened xs i a e)) ∙ k

pub attributes_end : (bs : List Bool) (G : Sc) (g : TagName) (u : Cn) (xs : List AttributeTree) (js : List Jd) (i : ℕ) (now z : At) → length xs ≤ i → attributes_from bs G g u (take i xs) now (drop i xs) (drop i js) ≡ z → now ≡ z
attributes_end bs G g u xs js i now z h k = ap (λ ys. attributes_from bs G g u (take i xs) now ys (drop i js)) (sym (ended xs i h)) ∙ k

-- words
abbrev pub wd : Bool → Option Fault → Wd
wd b told = record { are_all = b; told = told }

words_open : (G : Sc) (xs : List NodeTree) (js : List Jd) (i : ℕ) (x : NodeTree) (j : Jd) → slice_get xs i ≡ Some x → slice_get js i ≡ Some j → words_in G (x ∷ drop (i + 1) xs) (j ∷ drop (i + 1) js) ≡ words_in G (drop i xs) (drop i js)
words_open G xs js i x j e f =
    ap (words_in G (x ∷ drop (i + 1) xs)) (sym (opened js i j f)) ∙ ap (λ ys. words_in G ys (drop i js)) (sym (opened xs i x e))

pub words_on : (G : Sc) (xs : List NodeTree) (js : List Jd) (i : ℕ) (x : NodeTree) (j : Jd) (z : Wd) → slice_get xs i ≡ Some x → slice_get js i ≡ Some j → is_words x.1 ≡ true → words_in G (drop i xs) (drop i js) ≡ z → words_in G (drop (i + 1) xs) (drop (i + 1) js) ≡ z
words_on G xs js i x j z e f h k =
    ap (λ b. word_or G x j.type b (words_in G (drop (i + 1) xs) (drop (i + 1) js))) (sym h) ∙ words_open G xs js i x j e f ∙ k

pub words_stop : (G : Sc) (xs : List NodeTree) (js : List Jd) (i : ℕ) (x : NodeTree) (j : Jd) (r : Wd) → slice_get xs i ≡ Some x → slice_get js i ≡ Some j → is_words x.1 ≡ false →
    r ≡ word_or G x j.type false all_words → words_in G (drop i xs) (drop i js) ≡ words_in G xs js → r ≡ words_in G xs js
words_stop G xs js i x j r e f h q k =
    q ∙ ap (λ b. word_or G x j.type b (words_in G (drop (i + 1) xs) (drop (i + 1) js))) (sym h) ∙ words_open G xs js i x j e f ∙ k

pub words_end : (G : Sc) (xs : List NodeTree) (js : List Jd) (i : ℕ) → length xs ≤ i → words_in G (drop i xs) (drop i js) ≡ words_in G xs js → all_words ≡ words_in G xs js
words_end G xs js i h k = ap (λ ys. words_in G ys (drop i js)) (sym (ended xs i h)) ∙ k

-- from the first node to the last
abbrev pub fw : List Bool → Option Fault → Fw
fw fs told = record { found = fs; told = told }

abbrev pub with_done : List Bool → Fw → Fw
with_done fs r = fw (fs ++ r.found) r.told

done_more : (fs : List Bool) (f : Bool) (r : Fw) → with_done (fs ++ f ∷ []) r ≡ with_done fs (with_found f r)
done_more fs f r = ap (λ ys. fw ys r.told) (append_assoc fs (f ∷ []) r.found)

forward_open : (G : Sc) (c u : Cn) (told : Option Fault) (xs : List NodeTree) (js : List Jd) (i : ℕ) (x : NodeTree) (j : Jd) (fs : List Bool) (o : On) (z : Fw) → slice_get xs i ≡ Some x → slice_get js i ≡ Some j →
    o ≡ one_node G c u x j.type (none_behind (drop (i + 1) xs)) → with_done fs (forward G c u told (drop i xs) (drop i js)) ≡ z →
    with_done fs (going_on o.goes_on o.found (first told o.told) (forward G c (ordered (cat u x.0)) (first told o.told) (drop (i + 1) xs) (drop (i + 1) js))) ≡ z
forward_open G c u told xs js i x j fs o z e f s k =
    ap (λ (r : On). with_done fs (going_on r.goes_on r.found (first told r.told) (forward G c (ordered (cat u x.0)) (first told r.told) (drop (i + 1) xs) (drop (i + 1) js)))) s
    ∙ ap (λ ys. with_done fs (forward G c u told (x ∷ drop (i + 1) xs) ys)) (sym (opened js i j f))
    ∙ ap (λ ys. with_done fs (forward G c u told ys (drop i js))) (sym (opened xs i x e)) ∙ k

pub forward_on : (G : Sc) (c u u2 : Cn) (told told2 : Option Fault) (xs : List NodeTree) (js : List Jd) (i : ℕ) (x : NodeTree) (j : Jd) (fs fs2 : List Bool) (o : On) (z : Fw) → slice_get xs i ≡ Some x → slice_get js i ≡ Some j →
    o ≡ one_node G c u x j.type (none_behind (drop (i + 1) xs)) → o.goes_on ≡ true → told2 ≡ first told o.told → fs2 ≡ fs ++ o.found ∷ [] → u2 ≡ ordered (cat u x.0) →
    with_done fs (forward G c u told (drop i xs) (drop i js)) ≡ z → with_done fs2 (forward G c u2 told2 (drop (i + 1) xs) (drop (i + 1) js)) ≡ z
forward_on G c u u2 told told2 xs js i x j fs fs2 o z e f s g t q w k =
    let r : Fw = forward G c (ordered (cat u x.0)) (first told o.told) (drop (i + 1) xs) (drop (i + 1) js) in
    ap (λ v. with_done fs2 (forward G c v told2 (drop (i + 1) xs) (drop (i + 1) js))) w
    ∙ ap (λ v. with_done fs2 (forward G c (ordered (cat u x.0)) v (drop (i + 1) xs) (drop (i + 1) js))) t
    ∙ ap (λ v. with_done v r) q ∙ done_more fs o.found r
    ∙ ap (λ b. with_done fs (going_on b o.found (first told o.told) r)) (sym g)
    ∙ forward_open G c u told xs js i x j fs o z e f s k

pub forward_stop : (G : Sc) (c u : Cn) (told told2 : Option Fault) (xs : List NodeTree) (js : List Jd) (i : ℕ) (x : NodeTree) (j : Jd) (fs fs2 : List Bool) (o : On) (z : Fw) → slice_get xs i ≡ Some x → slice_get js i ≡ Some j →
    o ≡ one_node G c u x j.type (none_behind (drop (i + 1) xs)) → o.goes_on ≡ false → told2 ≡ first told o.told → fs2 ≡ fs ++ o.found ∷ [] →
    with_done fs (forward G c u told (drop i xs) (drop i js)) ≡ z → fw fs2 told2 ≡ z
forward_stop G c u told told2 xs js i x j fs fs2 o z e f s g t q k =
    let r : Fw = forward G c (ordered (cat u x.0)) (first told o.told) (drop (i + 1) xs) (drop (i + 1) js) in
    ap (λ v. fw v told2) q ∙ ap (fw (fs ++ o.found ∷ [])) t
    ∙ ap (λ b. with_done fs (going_on b o.found (first told o.told) r)) (sym g)
    ∙ forward_open G c u told xs js i x j fs o z e f s k

pub forward_end : (G : Sc) (c u : Cn) (told : Option Fault) (xs : List NodeTree) (js : List Jd) (i : ℕ) (fs : List Bool) (z : Fw) → length xs ≤ i → with_done fs (forward G c u told (drop i xs) (drop i js)) ≡ z → fw fs told ≡ z
forward_end G c u told xs js i fs z h k =
    ap (λ v. fw v told) (sym (append-nil fs)) ∙ ap (λ ys. with_done fs (forward G c u told ys (drop i js))) (sym (ended xs i h)) ∙ k

pub more_behind : (xs : List NodeTree) (k : ℕ) → k < length xs → none_behind (drop k xs) ≡ false
more_behind [] k h = absurd (omega (arith, h))
more_behind (x ∷ xs) zero h = refl
more_behind (x ∷ xs) (suc k) h = more_behind xs k (omega (arith, h))

pub no_more_behind : (xs : List NodeTree) (k : ℕ) → length xs ≤ k → none_behind (drop k xs) ≡ true
no_more_behind xs k h = ap none_behind (ended xs k h)

-- from the last node to the first
abbrev pub bk : Option Fault → Be → Bk
bk own m = record { own = own; behind = m }

at_behind : (G : Sc) (x : NodeTree) (f : Bool) (own : Option Fault) (o : Option Cn) → node_before G x f (bk own (behind_tree o)) ≡ with_node own (with_before G x f o)
at_behind G x f own None = refl
at_behind G x f own (Some d) = refl

lost_stays : (G : Sc) (told own : Option Fault) (k : ℕ) (xs : List NodeTree) (fs : List Bool) → backward G told (drop k xs) (drop k fs) ≡ bk own lost → backward G told xs fs ≡ bk own lost
lost_stays G told own zero xs fs h = h
lost_stays G told own (suc k) [] fs h = h
lost_stays G told own (suc k) (x ∷ xs) [] h =
    ap lost_before (lost_stays G told own k xs [] (ap (backward G told (drop k xs)) (drop_of_length-le [] (let z : 0 ≤ k = omega arith in z)) ∙ h))
lost_stays G told own (suc k) (x ∷ xs) (f ∷ fs) h = ap (node_before G x f) (lost_stays G told own k xs fs h)

pub back_start : (G : Sc) (told : Option Fault) (xs : List NodeTree) (fs : List Bool) (n : ℕ) → length xs ≤ n → backward G told (drop n xs) (drop n fs) ≡ bk told nobody
back_start G told xs fs n h = ap (λ ys. backward G told ys (drop n fs)) (ended xs n h)

back_open : (G : Sc) (told own : Option Fault) (xs : List NodeTree) (fs : List Bool) (n d i : ℕ) (x : NodeTree) (f : Bool) (o : Option Cn) → slice_get xs i ≡ Some x → slice_get fs i ≡ Some f → i + 1 ≡ n - d →
    backward G told (drop (n - d) xs) (drop (n - d) fs) ≡ bk own (behind_tree o) → backward G told (drop i xs) (drop i fs) ≡ with_node own (with_before G x f o)
back_open G told own xs fs n d i x f o e g l k =
    ap (λ ys. backward G told ys (drop i fs)) (opened xs i x e) ∙ ap (backward G told (x ∷ drop (i + 1) xs)) (opened fs i f g)
    ∙ ap (λ m. node_before G x f (backward G told (drop m xs) (drop m fs))) l ∙ ap (node_before G x f) k ∙ at_behind G x f own o

pub back_on : (G : Sc) (told own own2 : Option Fault) (xs : List NodeTree) (fs : List Bool) (n d i : ℕ) (x : NodeTree) (f : Bool) (o : Option Cn) (r : Nd) (b : Cn) → slice_get xs i ≡ Some x → slice_get fs i ≡ Some f → i + 1 ≡ n - d → i ≡ n - (d + 1) →
    r ≡ with_before G x f o → r.row ≡ Some b → own2 ≡ first own r.own →
    backward G told (drop (n - d) xs) (drop (n - d) fs) ≡ bk own (behind_tree o) → backward G told (drop (n - (d + 1)) xs) (drop (n - (d + 1)) fs) ≡ bk own2 (filling b)
back_on G told own own2 xs fs n d i x f o r b e g l m s t q k =
    ap (λ v. backward G told (drop v xs) (drop v fs)) (sym m) ∙ back_open G told own xs fs n d i x f o e g l k
    ∙ ap (with_node own) (sym s) ∙ ap (λ v. bk (first own r.own) (behind_of v)) t ∙ ap (λ v. bk v (filling b)) (sym q)

pub back_stop : (G : Sc) (told own own2 : Option Fault) (xs : List NodeTree) (fs : List Bool) (n d i : ℕ) (x : NodeTree) (f : Bool) (o : Option Cn) (r : Nd) → slice_get xs i ≡ Some x → slice_get fs i ≡ Some f → i + 1 ≡ n - d →
    r ≡ with_before G x f o → r.row ≡ None → own2 ≡ first own r.own →
    backward G told (drop (n - d) xs) (drop (n - d) fs) ≡ bk own (behind_tree o) → bk own2 lost ≡ backward G told xs fs
back_stop G told own own2 xs fs n d i x f o r e g l s t q k =
    ap (λ v. bk v lost) q ∙ sym (lost_stays G told (first own r.own) i xs fs
    (back_open G told own xs fs n d i x f o e g l k ∙ ap (with_node own) (sym s) ∙ ap (λ v. bk (first own r.own) (behind_of v)) t))

pub back_short : (G : Sc) (told own : Option Fault) (xs : List NodeTree) (fs : List Bool) (n d i : ℕ) (x : NodeTree) (o : Option Cn) → slice_get xs i ≡ Some x → length fs ≤ i → i + 1 ≡ n - d →
    backward G told (drop (n - d) xs) (drop (n - d) fs) ≡ bk own (behind_tree o) → bk own lost ≡ backward G told xs fs
back_short G told own xs fs n d i x o e h l k =
    sym (lost_stays G told own i xs fs
    (ap (λ ys. backward G told ys (drop i fs)) (opened xs i x e) ∙ ap (backward G told (x ∷ drop (i + 1) xs)) (ended fs i h)
    ∙ ap (λ ys. lost_before (backward G told (drop (i + 1) xs) ys)) (sym (ended fs (i + 1) (let z : length fs ≤ i + 1 = omega (arith, h) in z)))
    ∙ ap (λ m. lost_before (backward G told (drop m xs) (drop m fs))) l ∙ ap lost_before k))

pub back_end : (G : Sc) (told own : Option Fault) (xs : List NodeTree) (fs : List Bool) (n d : ℕ) (o : Option Cn) → n ≤ d → backward G told (drop (n - d) xs) (drop (n - d) fs) ≡ bk own (behind_tree o) → bk own (behind_tree o) ≡ backward G told xs fs
back_end G told own xs fs n d o h k =
    sym k ∙ ap (λ m. backward G told (drop m xs) (drop m fs)) (let z : n - d ≡ 0 = omega (arith, h) in z)
