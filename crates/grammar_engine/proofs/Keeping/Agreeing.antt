-- Texts that have the same tokens up to a place.
use Rattle.std.proofs.Common.{◌≡◌, ◌<◌, ◌≤◌, ◌+◌, ◌-◌, ℕ, zero, suc, List, [], ◌∷◌, ◌++◌, length, take, drop, refl, ap, sym, ◌∙◌, subst, arith, Some}
use Rattle.std.proofs.lemmas.List.{take-take, length-drop, length-append}
use Rattle.surface_tree.specs.declared.token.Token.{Token}
use Rattle.surface_grammar.specs.Fronts.{first_kind, first_content}
use Rattle.grammar_engine.specs.Passing.{Agrees}

pub fewer : (j k : ℕ) (a b : List Token) → j ≤ k → take k a ≡ take k b → take j a ≡ take j b
fewer j k a b l e = sym (take-take j k a l) ∙ ap (take j) e ∙ take-take j k b l

heads_same : (t u : Token) (a b : List Token) → t ∷ a ≡ u ∷ b → t ≡ u
heads_same t u a b e = cc

tails_same : (t u : Token) (a b : List Token) → t ∷ a ≡ u ∷ b → a ≡ b
tails_same t u a b e = cc

-- the same behind one token
pub past_one : (k : ℕ) (t u : Token) (a b : List Token) → take k (t ∷ a) ≡ take k (u ∷ b) → take (k - 1) a ≡ take (k - 1) b
past_one zero t u a b e = subst (λ i. take i a ≡ take i b) none refl
  where
    none : 0 ≡ 0 - 1
    none = omega arith
past_one (suc k) t u a b e = subst (λ i. take i a ≡ take i b) less (tails_same t u (take k a) (take k b) e)
  where
    less : k ≡ suc k - 1
    less = omega arith

-- and behind several
pub past_all : (k : ℕ) (l a b : List Token) → take k (l ++ a) ≡ take k (l ++ b) → take (k - length l) a ≡ take (k - length l) b
past_all k [] a b e = subst (λ i. take i a ≡ take i b) none e
  where
    none : k ≡ k - 0
    none = omega arith
past_all k (t ∷ l) a b e = subst (λ i. take i a ≡ take i b) less (past_all (k - 1) l a b (past_one k t t (l ++ a) (l ++ b) e))
  where
    less : (k - 1) - length l ≡ k - length (t ∷ l)
    less = omega arith

pub kinds_same : (a b : List Token) → take 1 a ≡ take 1 b → first_kind a ≡ first_kind b
kinds_same [] [] e = refl
kinds_same [] (u ∷ b) e = cc
kinds_same (t ∷ a) [] e = cc
kinds_same (t ∷ a) (u ∷ b) e = ap (λ z. Some z.kind) (heads_same t u [] [] e)

pub contents_same : (a b : List Token) → take 1 a ≡ take 1 b → first_content a ≡ first_content b
contents_same [] [] e = refl
contents_same [] (u ∷ b) e = cc
contents_same (t ∷ a) [] e = cc
contents_same (t ∷ a) (u ∷ b) e = ap (λ z. z.content) (heads_same t u [] [] e)

-- the tokens begin with the one with which others begin
pub record Opens (t : Token) (b : List Token) : Type 0 where
  pub rest : List Token
  pub is : b ≡ t ∷ rest

pub opens : (t : Token) (a b : List Token) → take 1 (t ∷ a) ≡ take 1 b → Opens t b
opens t a [] e = cc
opens t a (u ∷ b) e = record { rest = b; is = ap (λ z. z ∷ b) (sym (heads_same t u [] [] e)) }

-- a text begins with the tokens with which others begin, and has their next one
pub record Fronts (l : List Token) (t : Token) (text : List Token) : Type 0 where
  pub after : List Token
  pub is : text ≡ l ++ t ∷ after

pub fronts : (k : ℕ) (l : List Token) (t : Token) (rest text : List Token) → length l < k → take k text ≡ take k (l ++ t ∷ rest) → Fronts l t text
fronts zero l t rest text h e = absurd (omega (arith, h))
fronts (suc k) [] t rest [] h e = cc
fronts (suc k) [] t rest (u ∷ text) h e = record { after = text; is = ap (λ z. z ∷ text) (heads_same u t (take k text) (take k rest) e) }
fronts (suc k) (v ∷ l) t rest [] h e = cc
fronts (suc k) (v ∷ l) t rest (u ∷ text) h e =
    let f = fronts k l t rest text (omega (arith, h)) (tails_same u v (take k text) (take k (l ++ t ∷ rest)) e) in
    record { after = f.after; is = ap (λ z. z ∷ text) (heads_same u v (take k text) (take k (l ++ t ∷ rest)) e) ∙ ap (λ z. v ∷ z) f.is }

-- a text that has the tokens through a place has those through each place before it
pub agrees_less : (items : List Token) (at far place : ℕ) (text : List Token) → far ≤ place → Agrees items at place text → Agrees items at far text
agrees_less items at far place text l e = fewer (suc far - at) (suc place - at) text (drop at items) (omega (arith, l)) e

pub agrees_next : (items : List Token) (at place : ℕ) (text : List Token) → at ≤ place → Agrees items at place text → take 1 text ≡ take 1 (drop at items)
agrees_next items at place text l e = fewer 1 (suc place - at) text (drop at items) (omega (arith, l)) e

-- and the rest of it has the tokens that are left
pub agrees_past : (items : List Token) (at here place : ℕ) (leaves rest : List Token) → drop at items ≡ leaves ++ drop here items → here ≡ at + length leaves → Agrees items at place (leaves ++ rest) → Agrees items here place rest
agrees_past items at here place leaves rest read far e =
    subst (λ i. take i rest ≡ take i (drop here items)) (less (length leaves) far)
    (past_all (suc place - at) leaves rest (drop here items) (subst (λ z. take (suc place - at) (leaves ++ rest) ≡ take (suc place - at) z) read e))
  where
    less : (n : ℕ) → here ≡ at + n → (suc place - at) - n ≡ suc place - here
    less n h = omega (arith, h)

pub agrees_later : (items : List Token) (at place : ℕ) (t u : Token) (rest : List Token) → drop at items ≡ u ∷ drop (suc at) items → Agrees items at place (t ∷ rest) → Agrees items (suc at) place rest
agrees_later items at place t u rest read e =
    subst (λ i. take i rest ≡ take i (drop (suc at) items)) less
    (past_one (suc place - at) t u rest (drop (suc at) items) (subst (λ z. take (suc place - at) (t ∷ rest) ≡ take (suc place - at) z) read e))
  where
    less : (suc place - at) - 1 ≡ suc place - suc at
    less = omega arith

-- where some tokens stand from a place to another and one behind them, a text that has the tokens through it begins with them
pub agrees_front : (items : List Token) (at behind place : ℕ) (l : List Token) (t : Token) (rest text : List Token) → drop at items ≡ l ++ drop behind items → drop behind items ≡ t ∷ rest → behind ≤ place → Agrees items at place text → Fronts l t text
agrees_front items at behind place l t rest text read next seen e =
    fronts (suc place - at) l t rest text (short (length items) (length l) (length rest) (sym (length-drop at items) ∙ ap length read ∙ length-append l (drop behind items)) (length-drop behind items) (ap length next))
    (e ∙ ap (take (suc place - at)) (read ∙ ap (λ z. l ++ z) next))
  where
    short : (n i r : ℕ) → n - at ≡ i + length (drop behind items) → length (drop behind items) ≡ n - behind → length (drop behind items) ≡ suc r → i < suc place - at
    short n i r a b c = omega (arith, a, b, c, seen)
