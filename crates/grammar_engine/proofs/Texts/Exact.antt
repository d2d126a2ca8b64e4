-- From the parts of a text to the whole text: where one is refused, and where one is read.
use Rattle.std.proofs.Common.{◌≡◌, ◌<◌, ◌≤◌, ◌+◌, ◌-◌, ℕ, zero, suc, List, [], ◌∷◌, ◌++◌, length, take, drop, append-nil, take-append-drop, refl, ap, sym, ◌∙◌, subst, arith, true, Option, Some, None}
use Rattle.surface_tree.specs.declared.kind.Kind.{Kind}
use Rattle.surface_tree.specs.declared.token.Token.{Token}
use Rattle.surface_grammar.specs.declared.part.Part.{Part}
use Rattle.surface_grammar.specs.Fronts.{first_kind}
use Rattle.surface_grammar.specs.Refusals.{GoesOn, Whole}
use Rattle.surface_grammar.specs.Trees.{Node, spell}
use Rattle.grammar_engine.specs.Allowed.{may_stand_behind}
use Rattle.grammar_engine.specs.Passing.{Agrees, Counts, Through}
use Rattle.grammar_engine.specs.Places.{name_at}
use Rattle.grammar_engine.specs.Single.{names_itself}
use Rattle.grammar_engine.proofs.Table.Naming.{rename_any}
use Rattle.grammar_engine.proofs.Trees.Roomier.{fits_in}

-- a text that has the tokens before a place, and its next one, has the tokens through it
through_next : (items after : List Token) (place : ℕ) → place ≤ length items → take 1 after ≡ take 1 (drop place items) → take (suc place) (take place items ++ after) ≡ take (suc place) items
through_next items after zero l e = e
through_next [] after (suc place) l e = absurd (omega (arith, l))
through_next (t ∷ items) after (suc place) l e = ap (λ z. t ∷ z) (through_next items after place (omega (arith, l)) e)

pub agrees_through : (items after text : List Token) (place : ℕ) → place ≤ length items → text ≡ take place items ++ after → take 1 after ≡ take 1 (drop place items) → Agrees items 0 place (text ++ [])
agrees_through items after text place l is e =
    subst (λ i. take i (text ++ []) ≡ take i items) all (ap (take (suc place)) (append-nil text ∙ is) ∙ through_next items after place l e)
  where
    all : suc place ≡ suc place - 0
    all = omega arith

-- so many levels count where there is this room
pub record Within (items : List Token) (room levels : ℕ) : Type 0 where
  pub extra : ℕ
  pub counts : Counts items 0 room 2 extra
  pub enough : levels ≤ room + extra

-- a whole tree that goes on at the place has the tokens through it
abbrev pub whole_through : (items : List Token) (p : Part) (room levels place : ℕ) (n : Node) → names_itself p ≡ true → Within items room levels → Whole levels p n → Agrees items 0 place (spell n ++ []) → Through items p 0 room 2 place
whole_through items p room levels place n h w whole agrees = record {
  extra = w.extra;
  node = n;
  tail = [];
  counts = w.counts;
  fits = fits_in n p levels (room + w.extra) (name_at items 0) None w.enough (rename_any n p levels whole.0 (name_at items 0) None h whole.1);
  behind = behind_none p;
  agrees = agrees;
}
  where
    behind_none : (q : Part) → may_stand_behind q None ≡ true
    behind_none q = refl

none_some : (x : Option Kind) (y : Kind) → None ≡ x → x ≡ Some y → ⊥
none_some x y e i = no_some (e ∙ i)
  where
    no_some : None ≡ Some y → ⊥
    no_some j = cc

pub some_kind : (items : List Token) (i : ℕ) → i < length items → None ≡ first_kind (drop i items) → ⊥
some_kind [] i l e = absurd (omega (arith, l))
some_kind (t ∷ items) zero l e = none_some (Some t.kind) t.kind e refl
some_kind (t ∷ items) (suc i) l e = some_kind items i (omega (arith, l)) e

-- a whole text goes on at each place
pub text_goes : (items : List Token) (p : Part) (levels place : ℕ) (n : Node) → Whole levels p n → spell n ≡ items → GoesOn levels p items place
text_goes items p levels place n whole e = (n, drop place items, whole, e ∙ sym (take-append-drop place items), refl)
