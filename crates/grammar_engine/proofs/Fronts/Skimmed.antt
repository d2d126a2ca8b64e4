-- No constructor begins with a kind that ends in brackets.
use Rattle.std.proofs.Common.{◌≡◌, ◌==◌, ℕ, zero, suc, pred, List, [], ◌∷◌, ◌++◌, append_assoc, refl, ap, sym, ◌∙◌, subst, Bool, true, false, ◌&&◌, Option, eqb-true}
use Rattle.std.proofs.Math.Logic.{◌⊎◌, inl, inr}
use Rattle.surface_tree.specs.declared.kind.Kind.{Kind}
use Rattle.surface_tree.specs.declared.kind.Kind.TheVariants as k
use Rattle.surface_tree.specs.declared.token.Token.{Token}
use Rattle.surface_tree.specs.declared.token.Content.{Content}
use Rattle.surface_grammar.specs.declared.form.Form.{Form}
use Rattle.surface_grammar.specs.declared.form.Form.TheVariants as f
use Rattle.surface_grammar.specs.declared.part.Part.TheVariants.{Word, One, Many, Maybe}
use Rattle.surface_grammar.specs.declared.rule.Rule.{Rule}
use Rattle.surface_grammar.specs.Forms.{rules_of}
use Rattle.surface_grammar.specs.Table.{body_of}
use Rattle.surface_grammar.specs.Trees.{Node, spell, IsIn, Fits}
use Rattle.surface_grammar.specs.Words.{kind_code, accept, is_upper_word}
use Rattle.grammar_engine.proofs.Short.Calm.{same_code}
use Rattle.grammar_engine.proofs.Trees.Pieces.{Run, nil, cons, Pieces, Step, gather}
use Rattle.grammar_engine.proofs.Fronts.Scan.{Turn, up, down, flat, turn_of}
use Rattle.grammar_engine.proofs.Bools.{or_split}

-- what may follow the name of a kind
abbrev pub is_after : Kind → Bool
is_after k.Arrow = true
is_after k.Star = true
is_after k.RightBrace = true
is_after k.RightParenthesis = true
is_after _ = false

abbrev pub after_kind : List Token → Bool
after_kind [] = false
after_kind (t ∷ ts) = is_after t.kind

abbrev pub skim_at : Kind → Bool → Bool → Bool
skim_at k.LeftParenthesis s b = s
skim_at k.LeftBrace s b = s
skim_at k.TypeWord s b = b
skim_at k.UnitWord s b = b
skim_at k.NameWord s b = b
skim_at _ s b = false

-- behind opening brackets stands the name of a kind, and then what may follow one
abbrev pub skim : List Token → Bool
skim [] = false
skim (t ∷ ts) = skim_at t.kind (skim ts) (after_kind ts)

abbrev is_arrow : Kind → Bool
is_arrow k.Arrow = true
is_arrow _ = false

abbrev pub past_at : ℕ → Turn → Bool → Bool → Bool → Bool → Bool → Bool
past_at zero up a u v w s = u
past_at (suc d) up a u v w s = u
past_at zero down a u v w s = true
past_at (suc d) down a u v w s = v
past_at zero flat true u v w s = s
past_at zero flat false u v w s = w
past_at (suc d) flat a u v w s = w

-- outside brackets `)` comes before an arrow, or a kind stands behind the arrow
abbrev pub past : ℕ → List Token → Bool
past d [] = false
past d (t ∷ ts) = past_at d (turn_of t.kind) (is_arrow t.kind) (past (suc d) ts) (past (pred d) ts) (past d ts) (skim ts)

-- what holds of the tokens of kinds
abbrev pub KindFacts : Form → List Token → Type 0
KindFacts f.KindTerm ts = ((rest : List Token) → after_kind rest ≡ true → skim (ts ++ rest) ≡ true) × ((d : ℕ) (rest : List Token) → past (suc d) (ts ++ rest) ≡ past (suc d) rest) × ((t : Token) (rest : List Token) → t.kind ≡ k.RightParenthesis → past 0 (ts ++ t ∷ rest) ≡ true)
KindFacts f.KindAtom ts = ((rest : List Token) → after_kind rest ≡ true → skim (ts ++ rest) ≡ true) × ((d : ℕ) (rest : List Token) → past d (ts ++ rest) ≡ past d rest)
KindFacts f.KindArrow ts = ((rest : List Token) → after_kind (ts ++ rest) ≡ true) × ((d : ℕ) (rest : List Token) → past (suc d) (ts ++ rest) ≡ past (suc d) rest) × ((rest : List Token) → after_kind rest ≡ true → past 0 (ts ++ rest) ≡ true)
KindFacts f.KindTimes ts = ((rest : List Token) → after_kind (ts ++ rest) ≡ true) × ((d : ℕ) (rest : List Token) → past (suc d) (ts ++ rest) ≡ past (suc d) rest)
KindFacts _ ts = Unit {0}

no_way : {A : Type 0} (a b : Bool) → a ≡ false → (a && b) ≡ true → A
no_way true b e h = cc
no_way false b e h = cc

-- a word that isn't an upper name stands for itself
pub exact : (w x : Kind) → (kind_code w == kind_code k.UpperName) ≡ false → accept w x ≡ true → x ≡ w
exact w x e h = or_split (kind_code w == kind_code x) ((kind_code w == kind_code k.UpperName) && is_upper_word x) h (λ i. sym (same_code w x (eqb-true (kind_code w) (kind_code x) i))) (λ i. no_way (kind_code w == kind_code k.UpperName) (is_upper_word x) e i)

skim_kind : (t : Token) (x : Kind) (ts : List Token) → t.kind ≡ x → skim (t ∷ ts) ≡ skim_at x (skim ts) (after_kind ts)
skim_kind t x ts e = ap (λ z. skim_at z (skim ts) (after_kind ts)) e

pub past_kind : (d : ℕ) (t : Token) (x : Kind) (ts : List Token) → t.kind ≡ x → past d (t ∷ ts) ≡ past_at d (turn_of x) (is_arrow x) (past (suc d) ts) (past (pred d) ts) (past d ts) (skim ts)
past_kind d t x ts e = ap (λ z. past_at d (turn_of z) (is_arrow z) (past (suc d) ts) (past (pred d) ts) (past d ts) (skim ts)) e

after_is : (t : Token) (x : Kind) (ts : List Token) → t.kind ≡ x → after_kind (t ∷ ts) ≡ is_after x
after_is t x ts e = ap is_after e

past_flat : (d : ℕ) (w s : Bool) (u v : Bool) → past_at d flat false u v w s ≡ w
past_flat zero w s u v = refl
past_flat (suc d) w s u v = refl

past_up : (d : ℕ) (a u v w s : Bool) → past_at d up a u v w s ≡ u
past_up zero a u v w s = refl
past_up (suc d) a u v w s = refl

-- one word alone
word_facts : (w : Kind) (ts : List Token) → (kind_code w == kind_code k.UpperName) ≡ false → turn_of w ≡ flat → is_arrow w ≡ false → ((s b : Bool) → skim_at w s b ≡ b) → Pieces KindFacts (Word w ∷ []) ts → KindFacts f.KindAtom ts
word_facts w ts e v a s (t, us, is, ok, last) =
    let same = exact w t.kind e ok in
    subst (λ z. KindFacts f.KindAtom z) (sym (is ∙ ap (λ z. t ∷ z) last)) (
      (λ rest h. skim_kind t w rest same ∙ s (skim rest) (after_kind rest) ∙ h),
      (λ d rest. past_kind d t w rest same ∙ ap (λ z. past_at d z (is_arrow w) (past (suc d) rest) (past (pred d) rest) (past d rest) (skim rest)) v ∙ ap (λ z. past_at d flat z (past (suc d) rest) (past (pred d) rest) (past d rest) (skim rest)) a ∙ past_flat d (past d rest) (skim rest) (past (suc d) rest) (past (pred d) rest)),
    )

times_past : (ts : List Token) → Run KindFacts f.KindTimes ts → (d : ℕ) (rest : List Token) → past (suc d) (ts ++ rest) ≡ past (suc d) rest
times_past ts nil d rest = refl
times_past ts (cons us vs q r) d rest = ap (past (suc d)) (append_assoc us vs rest) ∙ q.1 d (vs ++ rest) ∙ times_past vs r d rest

times_after : (ts : List Token) → Run KindFacts f.KindTimes ts → (rest : List Token) → after_kind rest ≡ true → after_kind (ts ++ rest) ≡ true
times_after ts nil rest h = h
times_after ts (cons us vs q r) rest h = ap after_kind (append_assoc us vs rest) ∙ q.0 (vs ++ rest)

-- a closing bracket ends what an opening one began
close_past : (d : ℕ) (t : Token) (x : Kind) (rest : List Token) → t.kind ≡ x → turn_of x ≡ down → past (suc d) (t ∷ rest) ≡ past d rest
close_past d t x rest e v = past_kind (suc d) t x rest e ∙ ap (λ z. past_at (suc d) z (is_arrow x) (past (suc (suc d)) rest) (past d rest) (past (suc d) rest) (skim rest)) v

open_past : (d : ℕ) (t : Token) (x : Kind) (rest : List Token) → t.kind ≡ x → turn_of x ≡ up → past d (t ∷ rest) ≡ past (suc d) rest
open_past d t x rest e v = past_kind d t x rest e ∙ ap (λ z. past_at d z (is_arrow x) (past (suc d) rest) (past (pred d) rest) (past d rest) (skim rest)) v ∙ past_up d (is_arrow x) (past (suc d) rest) (past (pred d) rest) (past d rest) (skim rest)

level_past : (d : ℕ) (t : Token) (x : Kind) (rest : List Token) → t.kind ≡ x → turn_of x ≡ flat → past (suc d) (t ∷ rest) ≡ past (suc d) rest
level_past d t x rest e v = past_kind (suc d) t x rest e ∙ ap (λ z. past_at (suc d) z (is_arrow x) (past (suc (suc d)) rest) (past d rest) (past (suc d) rest) (skim rest)) v

atom_facts : (q : Rule) (ts : List Token) → IsIn q (rules_of f.KindAtom) → Pieces KindFacts (body_of q) ts → KindFacts f.KindAtom ts
atom_facts q ts (inl e) p = word_facts k.TypeWord ts refl refl refl (λ s b. refl) (subst (λ z. Pieces KindFacts (body_of z) ts) e p)
atom_facts q ts (inr (inl e)) p = word_facts k.UnitWord ts refl refl refl (λ s b. refl) (subst (λ z. Pieces KindFacts (body_of z) ts) e p)
atom_facts q ts (inr (inr (inl e))) p = word_facts k.NameWord ts refl refl refl (λ s b. refl) (subst (λ z. Pieces KindFacts (body_of z) ts) e p)
atom_facts q ts (inr (inr (inr (inl e)))) p = row (subst (λ z. Pieces KindFacts (body_of z) ts) e p)
  where
    row : Pieces KindFacts (Word k.LeftBrace ∷ One f.KindTerm ∷ Word k.RightBrace ∷ []) ts → KindFacts f.KindAtom ts
    row (t, us, is, ok, (vs, ws, is', fact, (t', rest', is'', ok', last))) =
        let opens = exact k.LeftBrace t.kind refl ok in
        let closes = exact k.RightBrace t'.kind refl ok' in
        let all : ts ≡ t ∷ (vs ++ t' ∷ []) = is ∙ ap (λ z. t ∷ z) (is' ∙ ap (λ z. vs ++ z) (is'' ∙ ap (λ z. t' ∷ z) last)) in
        subst (λ z. KindFacts f.KindAtom z) (sym all) (
          (λ rest h. skim_kind t k.LeftBrace ((vs ++ t' ∷ []) ++ rest) opens ∙ ap skim (append_assoc vs (t' ∷ []) rest) ∙ fact.0 (t' ∷ rest) (after_is t' k.RightBrace rest closes)),
          (λ d rest. open_past d t k.LeftBrace ((vs ++ t' ∷ []) ++ rest) opens refl ∙ ap (past (suc d)) (append_assoc vs (t' ∷ []) rest) ∙ fact.1 d (t' ∷ rest) ∙ close_past d t' k.RightBrace rest closes refl),
        )
atom_facts q ts (inr (inr (inr (inr (inl e))))) p = tuple (subst (λ z. Pieces KindFacts (body_of z) ts) e p)
  where
    tuple : Pieces KindFacts (Word k.LeftParenthesis ∷ One f.KindTerm ∷ Many f.KindTimes ∷ Word k.RightParenthesis ∷ []) ts → KindFacts f.KindAtom ts
    tuple (t, us, is, ok, (vs, ws, is', fact, (xs, ys, is2, r, (t', rest', is3, ok', last)))) =
        let opens = exact k.LeftParenthesis t.kind refl ok in
        let closes = exact k.RightParenthesis t'.kind refl ok' in
        let all : ts ≡ t ∷ (vs ++ (xs ++ t' ∷ [])) = is ∙ ap (λ z. t ∷ z) (is' ∙ ap (λ z. vs ++ z) (is2 ∙ ap (λ z. xs ++ z) (is3 ∙ ap (λ z. t' ∷ z) last))) in
        subst (λ z. KindFacts f.KindAtom z) (sym all) (
          (λ rest h. skim_kind t k.LeftParenthesis ((vs ++ (xs ++ t' ∷ [])) ++ rest) opens ∙ ap skim (append_assoc vs (xs ++ t' ∷ []) rest ∙ ap (λ z. vs ++ z) (append_assoc xs (t' ∷ []) rest)) ∙ fact.0 (xs ++ t' ∷ rest) (times_after xs r (t' ∷ rest) (after_is t' k.RightParenthesis rest closes))),
          (λ d rest. open_past d t k.LeftParenthesis ((vs ++ (xs ++ t' ∷ [])) ++ rest) opens refl ∙ ap (past (suc d)) (append_assoc vs (xs ++ t' ∷ []) rest ∙ ap (λ z. vs ++ z) (append_assoc xs (t' ∷ []) rest)) ∙ fact.1 d (xs ++ t' ∷ rest) ∙ times_past xs r d (t' ∷ rest) ∙ close_past d t' k.RightParenthesis rest closes refl),
        )
atom_facts q ts (inr (inr (inr (inr (inr e))))) p = absurd e

term_facts : (ts : List Token) → Pieces KindFacts (One f.KindAtom ∷ Maybe f.KindArrow ∷ []) ts → KindFacts f.KindTerm ts
term_facts ts (vs, ws, is, fact, (xs, ys, is', o, last)) =
    let all : ts ≡ vs ++ xs = is ∙ ap (λ z. vs ++ z) (is' ∙ ap (λ z. xs ++ z) last ∙ nil_end xs) in
    subst (λ z. KindFacts f.KindTerm z) (sym all) (
      (λ rest h. ap skim (append_assoc vs xs rest) ∙ fact.0 (xs ++ rest) (option_after xs o rest h)),
      (λ d rest. ap (past (suc d)) (append_assoc vs xs rest) ∙ fact.1 (suc d) (xs ++ rest) ∙ option_past xs o d rest),
      (λ t rest e. ap (past 0) (append_assoc vs xs (t ∷ rest)) ∙ fact.1 0 (xs ++ t ∷ rest) ∙ option_end xs o t rest e),
    )
  where
    nil_end : (l : List Token) → l ++ [] ≡ l
    nil_end [] = refl
    nil_end (t ∷ l) = ap (λ z. t ∷ z) (nil_end l)

    option_after : (xs : List Token) → (xs ≡ []) ⊎ KindFacts f.KindArrow xs → (rest : List Token) → after_kind rest ≡ true → after_kind (xs ++ rest) ≡ true
    option_after xs (inl e) rest h = ap (λ z. after_kind (z ++ rest)) e ∙ h
    option_after xs (inr q) rest h = q.0 rest

    option_past : (xs : List Token) → (xs ≡ []) ⊎ KindFacts f.KindArrow xs → (d : ℕ) (rest : List Token) → past (suc d) (xs ++ rest) ≡ past (suc d) rest
    option_past xs (inl e) d rest = ap (λ z. past (suc d) (z ++ rest)) e
    option_past xs (inr q) d rest = q.1 d rest

    option_end : (xs : List Token) → (xs ≡ []) ⊎ KindFacts f.KindArrow xs → (t : Token) (rest : List Token) → t.kind ≡ k.RightParenthesis → past 0 (xs ++ t ∷ rest) ≡ true
    option_end xs (inl e) t rest h = ap (λ z. past 0 (z ++ t ∷ rest)) e ∙ past_kind 0 t k.RightParenthesis rest h
    option_end xs (inr q) t rest h = q.2 (t ∷ rest) (after_is t k.RightParenthesis rest h)

arrow_facts : (ts : List Token) → Pieces KindFacts (Word k.Arrow ∷ One f.KindTerm ∷ []) ts → KindFacts f.KindArrow ts
arrow_facts ts (t, us, is, ok, (vs, ws, is', fact, last)) =
    let same = exact k.Arrow t.kind refl ok in
    let all : ts ≡ t ∷ vs = is ∙ ap (λ z. t ∷ z) (is' ∙ ap (λ z. vs ++ z) last ∙ nil_end vs) in
    subst (λ z. KindFacts f.KindArrow z) (sym all) (
      (λ rest. after_is t k.Arrow (vs ++ rest) same),
      (λ d rest. level_past d t k.Arrow (vs ++ rest) same refl ∙ fact.1 d rest),
      (λ rest h. past_kind 0 t k.Arrow (vs ++ rest) same ∙ fact.0 rest h),
    )
  where
    nil_end : (l : List Token) → l ++ [] ≡ l
    nil_end [] = refl
    nil_end (t ∷ l) = ap (λ z. t ∷ z) (nil_end l)

times_facts : (ts : List Token) → Pieces KindFacts (Word k.Star ∷ One f.KindTerm ∷ []) ts → KindFacts f.KindTimes ts
times_facts ts (t, us, is, ok, (vs, ws, is', fact, last)) =
    let same = exact k.Star t.kind refl ok in
    let all : ts ≡ t ∷ vs = is ∙ ap (λ z. t ∷ z) (is' ∙ ap (λ z. vs ++ z) last ∙ nil_end vs) in
    subst (λ z. KindFacts f.KindTimes z) (sym all) ((λ rest. after_is t k.Star (vs ++ rest) same), (λ d rest. level_past d t k.Star (vs ++ rest) same refl ∙ fact.1 d rest))
  where
    nil_end : (l : List Token) → l ++ [] ≡ l
    nil_end [] = refl
    nil_end (t ∷ l) = ap (λ z. t ∷ z) (nil_end l)

kind_step : Step KindFacts
kind_step f.KindTerm q ts (inl e) p = term_facts ts (subst (λ z. Pieces KindFacts (body_of z) ts) e p)
kind_step f.KindTerm q ts (inr e) p = absurd e
kind_step f.KindAtom q ts i p = atom_facts q ts i p
kind_step f.KindArrow q ts (inl e) p = arrow_facts ts (subst (λ z. Pieces KindFacts (body_of z) ts) e p)
kind_step f.KindArrow q ts (inr e) p = absurd e
kind_step f.KindTimes q ts (inl e) p = times_facts ts (subst (λ z. Pieces KindFacts (body_of z) ts) e p)
kind_step f.KindTimes q ts (inr e) p = absurd e
kind_step g q ts i p = tt

pub kind_facts : (n : Node) (room : ℕ) (name : Content) (x : Option Kind) → Fits room name n (One f.KindTerm) x → KindFacts f.KindTerm (spell n)
kind_facts n room name x fit = gather KindFacts kind_step n f.KindTerm room name x fit

pub atom_past : (n : Node) (room : ℕ) (name : Content) (x : Option Kind) → Fits room name n (One f.KindAtom) x → (rest : List Token) → past 0 (spell n ++ rest) ≡ past 0 rest
atom_past n room name x fit rest = (gather KindFacts kind_step n f.KindAtom room name x fit).1 0 rest
