-- A text has one refusal at most, and none where it has a tree.
use Rattle.std.proofs.Common.{◌≡◌, ◌<◌, ◌≤◌, ℕ, zero, suc, List, [], ◌∷◌, ◌++◌, length, take, drop, append_assoc, take-append-drop, refl, ap, sym, ◌∙◌, arith, Bool, true, false, nat_le}
use Rattle.std.proofs.lemmas.List.{drop_all, take_all, take-take}
use Rattle.std.proofs.Math.Logic.{inl, inr}
use Rattle.surface_tree.specs.declared.token.Token.{Token}
use Rattle.surface_tree.specs.TokenList.{TokenList}
use Rattle.surface_grammar.specs.declared.fault.ParseFault.TheVariants.{Syntax, TooDeep, Memory}
use Rattle.surface_grammar.specs.declared.part.Part.{Part}
use Rattle.surface_grammar.specs.Refusals.{deepest, Allows, GoesOn, RefusedAt}
use Rattle.grammar_engine.specs.Exact.{OneRefusal, TreesAreNotRefused}
use Rattle.grammar_engine.specs.Faults.{first_at, byte_at}
use Rattle.grammar_engine.proofs.Texts.Refusing.{no_text}

next_in : (items after : List Token) (a b : ℕ) → a < b → a < length items → take 1 (drop a (take b items) ++ after) ≡ take 1 (drop a items)
next_in [] after a b l h = absurd (omega (arith, h))
next_in (t ∷ items) after a zero l h = absurd (omega (arith, l))
next_in (t ∷ items) after zero (suc b) l h = refl
next_in (t ∷ items) after (suc a) (suc b) l h = next_in items after a b (omega (arith, l)) (omega (arith, h))

-- what begins with the tokens before a place goes on at each token before it
goes_before : (room : ℕ) (p : Part) (items : List Token) (a b : ℕ) → a < b → a < length items → Allows room p items b → GoesOn room p items a
goes_before room p items a b l h (n, after, whole, e) =
    let before : take b items ≡ take a items ++ drop a (take b items) = sym (take-append-drop a (take b items)) ∙ ap (λ z. z ++ drop a (take b items)) (take-take a b items (omega (arith, l))) in
    (n, drop a (take b items) ++ after, whole, e ∙ ap (λ z. z ++ after) before ∙ append_assoc (take a items) (drop a (take b items)) after, next_in items after a b l h)

-- two places that part the tokens alike
record Alike (items : List Token) (a b : ℕ) : Type 0 where
  pub fronts : take a items ≡ take b items
  pub rests : drop a items ≡ drop b items

at_end : (items : List Token) (a b : ℕ) → length items ≤ a → length items ≤ b → Alike items a b
at_end items a b l h = record { fronts = take_all a items l ∙ sym (take_all b items h); rests = drop_all a items l ∙ sym (drop_all b items h) }

in_order : (room : ℕ) (p : Part) (items : List Token) (a b : ℕ) → a < b → RefusedAt room p items a → RefusedAt room p items b → Alike items a b
in_order room p items a b l r s = by_length (nat_le (length items) a) refl
  where
    by_length : (c : Bool) → nat_le (length items) a ≡ c → Alike items a b
    by_length true e = at_end items a b (search (arith, e)) (search (arith, e, l))
    by_length false e = absurd (r.1 (goes_before room p items a b l (search (arith, e)) s.0))

flip : (items : List Token) (a b : ℕ) → Alike items a b → Alike items b a
flip items a b d = record { fronts = sym d.fronts; rests = sym d.rests }

low : (i j : ℕ) → nat_le i j ≡ true → i ≤ j
low i j e = search (arith, e)

same_place : (room : ℕ) (p : Part) (items : List Token) (a b : ℕ) → RefusedAt room p items a → RefusedAt room p items b → Alike items a b
same_place room p items a b r s = by_order (nat_le a b) (nat_le b a) refl refl
  where
    by_order : (c d : Bool) → nat_le a b ≡ c → nat_le b a ≡ d → Alike items a b
    by_order true true e h = let same : a ≡ b = omega (arith, low a b e, low b a h) in record { fronts = ap (λ i. take i items) same; rests = ap (λ i. drop i items) same }
    by_order true false e h = in_order room p items a b (search (arith, h)) r s
    by_order false d e h = flip items b a (in_order room p items b a (search (arith, e)) s r)

moved : (room : ℕ) (p : Part) (items : List Token) (a b : ℕ) → Alike items a b → GoesOn room p items a → GoesOn room p items b
moved room p items a b d (n, after, whole, e, next) = (n, after, whole, e ∙ ap (λ z. z ++ after) d.fronts, next ∙ ap (take 1) d.rests)

told_alike : (ts : TokenList) (a b x y : ℕ) → Alike ts.items a b → x ≡ byte_at ts a → y ≡ byte_at ts b → x ≡ y
told_alike ts a b x y d e e' = e ∙ ap (λ z. first_at z ts.end) d.rests ∙ sym e'

pub one_refusal : OneRefusal
one_refusal p ts (Syntax x) (Syntax y) (a, e, (r, none)) (b, e', (s, none')) = inr (inr (ap Syntax (told_alike ts a b x y (same_place deepest p ts.items a b r s) e e')))
one_refusal p ts (Syntax x) (TooDeep y) (a, e, (r, none)) (b, e', (s, (room, goes))) = absurd (none room (moved room p ts.items b a (flip ts.items a b (same_place deepest p ts.items a b r s)) goes))
one_refusal p ts (TooDeep x) (Syntax y) (a, e, (r, (room, goes))) (b, e', (s, none)) = absurd (none room (moved room p ts.items a b (same_place deepest p ts.items a b r s) goes))
one_refusal p ts (TooDeep x) (TooDeep y) (a, e, (r, deeper)) (b, e', (s, deeper')) = inr (inr (ap TooDeep (told_alike ts a b x y (same_place deepest p ts.items a b r s) e e')))
one_refusal p ts Memory other h k = inl refl
one_refusal p ts (Syntax x) Memory h k = inr (inl refl)
one_refusal p ts (TooDeep x) Memory h k = inr (inl refl)

pub trees_are_not_refused : TreesAreNotRefused
trees_are_not_refused p ts (Syntax x) n (a, e, (r, none)) whole is = absurd (no_text ts.items p deepest a n r.1 whole is)
trees_are_not_refused p ts (TooDeep x) n (a, e, (r, deeper)) whole is = absurd (no_text ts.items p deepest a n r.1 whole is)
trees_are_not_refused p ts Memory n h whole is = refl
