-- Texts: whether all nodes are, and what the first that isn't tells.
use Rattle.std.proofs.Common.{◌≡◌, Bool, true, false, List, [], ◌∷◌, Option, Some, None, refl, ap, sym, ◌∙◌, subst}
use Rattle.con_terms.specs.Trees.{Cn, basic}
use Rattle.core_terms.specs.Trees.{Ex, Xs, no_nodes, a_node}
use Rattle.core_terms.specs.Lists.{node_list}
use Rattle.core_typing.specs.Scopes.{Sc, normal_of}
use Rattle.core_typing.specs.Typed.{IsWords, of_cdata, of_txt, NodesAreWords}
use Rattle.core_typing.specs.Faults.{Fault, at, mismatch, too_large}
use Rattle.core_typing.specs.Found.{Found}
use Rattle.core_typing.specs.Own.{place_of, words_like, NotWords, this_node, later_words}
use Rattle.told_faults.specs.Computed.{Jd}
use Rattle.told_faults.specs.Told.{TypeIs, Picks}
use Rattle.told_faults.proofs.Parts.{at_one}
use Rattle.told_faults.proofs.Verdict.{picks_as}
use Rattle.markup_rules.specs.Content.{other_than_basic, is_words, form_no_words, other_told, Wd, word_or, words_in, all_words as every_word}
use Rattle.markup_rules.proofs.Basics.{false_true}
use Rattle.markup_rules.proofs.ContentIs.{words_are}
use Rattle.told_terms.proofs.Says.{Says, yes, no, said}
use Rattle.told_terms.proofs.Wanted.{NodesTold}

-- a text is found to be one
words_true : {e : Ex} → IsWords e → is_words e ≡ true
words_true of_cdata = refl
words_true of_txt = refl

word_true : (G : Sc) (b : Cn) (e : Ex) (j : Jd) → is_words e ≡ true → IsWords e
word_true G b e j h = (words_are G (a_node b e no_nodes) (j ∷ []) (ap (λ (z : Bool). (word_or G (b, e) j.type z every_word).are_all) h)).0

says_word : (G : Sc) (b : Cn) (e : Ex) (j : Jd) → Says (IsWords e) (is_words e)
says_word G b e j = by_test (is_words e) refl
  where
    by_test : (w : Bool) → is_words e ≡ w → Says (IsWords e) w
    by_test true h = yes (word_true G b e j h)
    by_test false h = no (λ x. false_true (sym h ∙ words_true x))

says_all : (G : Sc) (b : Cn) (e : Ex) (xs : Xs) (o : Option Cn) (r : Wd) (w : Bool) → Says (IsWords e) w → Says (NodesAreWords xs) r.are_all → Says (NodesAreWords (a_node b e xs)) (word_or G (b, e) o w r).are_all
says_all G b e xs o r false (no n) s = no (λ x. n x.0)
says_all G b e xs o r true (yes x) s = by_rest r.are_all s
  where
    by_rest : (a : Bool) → Says (NodesAreWords xs) a → Says (NodesAreWords (a_node b e xs)) a
    by_rest true (yes y) = yes (x, y)
    by_rest false (no n) = no (λ z. n z.1)

pub says_words : (G : Sc) (xs : Xs) (ks : List Jd) → NodesTold G xs ks → Says (NodesAreWords xs) (words_in G (node_list xs) ks).are_all
says_words G no_nodes [] t = yes tt
says_words G no_nodes (j ∷ js) t = absurd t
says_words G (a_node b e xs) [] t = absurd t
says_words G (a_node b e xs) (j ∷ js) t = says_all G b e xs j.type (words_in G (node_list xs) js) (is_words e) (says_word G b e j) (says_words G xs js t.1)

pub all_words : (G : Sc) (xs : Xs) (ks : List Jd) → NodesTold G xs ks → NodesAreWords xs → (words_in G (node_list xs) ks).are_all ≡ true
all_words G xs ks t x = said (NodesAreWords xs) (words_in G (node_list xs) ks).are_all (says_words G xs ks t) x

-- what the first node that isn't a text tells
pub data NoWords (G : Sc) (xs : Xs) : Fault → Type 0 where
  other_word : {e : Ex} {t n : Cn}
      → NotWords xs e
      → Found G e t
      → normal_of t ≡ Some n
      → NoWords G xs (mismatch (place_of e) G.called (words_like n) n)
  large_word : {e : Ex} {t : Cn}
      → NotWords xs e
      → Found G e t
      → normal_of t ≡ None
      → NoWords G xs (too_large (place_of e))

same_words : (n : Cn) → words_like n ≡ other_than_basic n
same_words (basic s) = refl
same_words _ = refl

-- behind a text
past_word : (G : Sc) (b : Cn) (e : Ex) (xs : Xs) (o : Option Fault) → IsWords e → Picks (NoWords G xs) o → Picks (NoWords G (a_node b e xs)) o
past_word G b e xs o w p = picks_as (NoWords G xs) (NoWords G (a_node b e xs)) o there back p
  where
    there : (f : Fault) → NoWords G xs f → NoWords G (a_node b e xs) f
    there f (other_word x y h) = other_word (later_words w x) y h
    there f (large_word x y h) = large_word (later_words w x) y h

    behind : {d : Ex} → NotWords (a_node b e xs) d → NotWords xs d
    behind (this_node n) = absurd (n w)
    behind (later_words v x) = x

    back : (f : Fault) → NoWords G (a_node b e xs) f → NoWords G xs f
    back f (other_word x y h) = other_word (behind x) y h
    back f (large_word x y h) = large_word (behind x) y h

-- at one that isn't
is_this : {b : Cn} {e d : Ex} {xs : Xs} → (IsWords e → ⊥) → NotWords (a_node b e xs) d → d ≡ e
is_this n (this_node m) = refl
is_this n (later_words w x) = absurd (n w)

told_there : (G : Sc) (b : Cn) (e : Ex) (xs : Xs) → (IsWords e → ⊥) → (f : Fault) → NoWords G (a_node b e xs) f → at f ≡ place_of e
told_there G b e xs n f (other_word x y h) = ap place_of (is_this n x)
told_there G b e xs n f (large_word x y h) = ap place_of (is_this n x)

none_told : (G : Sc) (b : Cn) (e : Ex) (xs : Xs) → (IsWords e → ⊥) → ((t : Cn) → Found G e t → ⊥) → (f : Fault) → NoWords G (a_node b e xs) f → ⊥
none_told G b e xs n v f (other_word {t = t} x y h) = v t (subst (λ (z : Ex). Found G z t) (is_this n x) y)
none_told G b e xs n v f (large_word {t = t} x y h) = v t (subst (λ (z : Ex). Found G z t) (is_this n x) y)

of_form : (G : Sc) (b : Cn) (e : Ex) (xs : Xs) (t : Cn) (o : Option Cn) → (IsWords e → ⊥) → Found G e t → normal_of t ≡ o → Picks (NoWords G (a_node b e xs)) (form_no_words G (place_of e) o)
of_form G b e xs t None n x h = at_one (NoWords G (a_node b e xs)) (place_of e) (too_large (place_of e)) (told_there G b e xs n) (large_word (this_node n) x h)
of_form G b e xs t (Some m) n x h =
    at_one (NoWords G (a_node b e xs)) (place_of e) (mismatch (place_of e) G.called (other_than_basic m) m) (told_there G b e xs n)
    (subst (λ (z : Cn). NoWords G (a_node b e xs) (mismatch (place_of e) G.called z m)) (same_words m) (other_word (this_node n) x h))

of_type : (G : Sc) (b : Cn) (e : Ex) (xs : Xs) (o : Option Cn) → (IsWords e → ⊥) → TypeIs G e o → Picks (NoWords G (a_node b e xs)) (other_told G (place_of e) o)
of_type G b e xs None n v = none_told G b e xs n v
of_type G b e xs (Some t) n v = of_form G b e xs t (normal_of t) n v refl

word_step : (G : Sc) (b : Cn) (e : Ex) (xs : Xs) (o : Option Cn) (r : Wd) (w : Bool) → Says (IsWords e) w → TypeIs G e o → Picks (NoWords G xs) r.told → Picks (NoWords G (a_node b e xs)) (word_or G (b, e) o w r).told
word_step G b e xs o r true (yes x) v p = past_word G b e xs r.told x p
word_step G b e xs o r false (no n) v p = of_type G b e xs o n v

in_none : (G : Sc) (f : Fault) → NoWords G no_nodes f → ⊥
in_none G f (other_word x y h) = elim x [ ]
in_none G f (large_word x y h) = elim x [ ]

pub words_pick : (G : Sc) (xs : Xs) (ks : List Jd) → NodesTold G xs ks → Picks (NoWords G xs) (words_in G (node_list xs) ks).told
words_pick G no_nodes [] t = in_none G
words_pick G no_nodes (j ∷ js) t = absurd t
words_pick G (a_node b e xs) [] t = absurd t
words_pick G (a_node b e xs) (j ∷ js) t = word_step G b e xs j.type (words_in G (node_list xs) js) (is_words e) (says_word G b e j) t.0.type (words_pick G xs js t.1)
