-- From the parts of a text to the whole text.
use Rattle.std.proofs.Common.{◌≡◌, ◌<◌, ◌≤◌, ℕ, zero, suc, List, [], ◌∷◌, ◌++◌, length, take, drop, append_assoc, take-append-drop, refl, ap, sym, ◌∙◌, arith, None}
use Rattle.std.proofs.lemmas.List.{append_cancel_right, take-take}
use Rattle.surface_tree.specs.declared.token.Token.{Token}
use Rattle.surface_tree.specs.declared.token.Content.{Content}
use Rattle.surface_grammar.specs.declared.part.Part.{Part}
use Rattle.surface_grammar.specs.declared.part.Part.TheVariants.{Word, One, Many, Maybe}
use Rattle.surface_grammar.specs.Listings.{Listing}
use Rattle.surface_grammar.specs.Refusals.{Allows, WholeTree}
use Rattle.surface_grammar.specs.Trees.{Fits}
use Rattle.grammar_engine.specs.Allowed.{AllowedAt}
use Rattle.grammar_engine.specs.Faults.{Deeper}
use Rattle.grammar_engine.specs.Places.{name_at}
use Rattle.grammar_engine.proofs.Short.Calm.{fill_part, shortest}
use Rattle.grammar_engine.proofs.Short.Filling.{accept_self, short, short_fits}
use Rattle.grammar_engine.proofs.Short.Low.{need_low}

pub exists : (room : ℕ) (name : Content) (p : Part) → 2 ≤ room → Fits room name (fill_part (shortest 24 name) name p) p None
exists room name (Word w) l = (accept_self w, λ i. refl)
exists room name (One g) l = short_fits 24 name g room None (short g).high refl (omega (arith, l, need_low g))
exists room name (Many g) l = refl
exists room name (Maybe g) l = refl

pub record Allowing (room : ℕ) (p : Part) (items : List Token) (place : ℕ) : Type 0 where
  pub allows : Allows room p items place
  pub within : place ≤ length items

pub allows_at : (items : List Token) (p : Part) (room place : ℕ) → 2 ≤ room → AllowedAt items p 0 room place → Allowing room p items place
allows_at items p room place l allowed =
    let name = name_at items 0 in
    let b = allowed None refl (omega arith) (fill_part (shortest 24 name) name p) (exists room name p l) in
    let front : b.front ≡ take place items = append_cancel_right b.front (take place items) (drop place items) (sym b.read ∙ sym (take-append-drop place items)) in
    record { allows = (b.node, b.after, (name, b.fits), b.spelled ∙ ap (λ l. l ++ b.after) front); within = b.within }

pub goes_on_whole : (items : List Token) (p : Part) (room place : ℕ) (tree : Listing) → WholeTree room p items tree → Deeper p items place
goes_on_whole items p room place tree w = (room, (w.node, drop place items, w.whole, w.spells ∙ sym (take-append-drop place items), refl))

next_same : (items after : List Token) (place later : ℕ) → place < later → later ≤ length items → take 1 (drop place (take later items) ++ after) ≡ take 1 (drop place items)
next_same [] after place later l h = absurd (omega (arith, l, h))
next_same (t ∷ ts) after place zero l h = absurd (omega (arith, l))
next_same (t ∷ ts) after zero (suc later) l h = refl
next_same (t ∷ ts) after (suc place) (suc later) l h = next_same ts after place later (omega (arith, l)) (omega (arith, h))

pub goes_on_later : (items : List Token) (p : Part) (room place later : ℕ) → place < later → Allowing room p items later → Deeper p items place
goes_on_later items p room place later l a =
    let before : take later items ≡ take place items ++ drop place (take later items) = sym (take-append-drop place (take later items)) ∙ ap (λ z. z ++ drop place (take later items)) (take-take place later items (omega (arith, l))) in (
      room,
      (
        a.allows.0,
        drop place (take later items) ++ a.allows.1,
        a.allows.2,
        a.allows.3 ∙ ap (λ z. z ++ a.allows.1) before ∙ append_assoc (take place items) (drop place (take later items)) a.allows.1,
        next_same items a.allows.1 place later l a.within,
      ),
    )
