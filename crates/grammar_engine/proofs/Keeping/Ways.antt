-- A way of reading beside is shut where no tree of its form, with the token behind it, has the tokens looked at.
use Rattle.std.proofs.Common.{◌≡◌, ◌<◌, ◌≤◌, ◌+◌, ◌-◌, ℕ, suc, max, List, ◌++◌, drop, refl, ap, sym, ◌∙◌, subst, arith, true, false, Option, Some}
use Rattle.std.proofs.Math.Logic.{◌⊎◌, inl, inr}
use Rattle.std.proofs.lemmas.Bool.{cases_Bool}
use Rattle.std.proofs.lemmas.Option.{same_Some}
use Rattle.surface_tree.specs.declared.kind.Kind.{Kind}
use Rattle.surface_tree.specs.declared.token.Token.{Token}
use Rattle.surface_grammar.specs.declared.form.Form.{Form}
use Rattle.surface_grammar.specs.declared.part.Part.TheVariants.{One}
use Rattle.surface_grammar.specs.declared.rule.Rule.{Rule}
use Rattle.surface_grammar.specs.Fronts.{first_kind}
use Rattle.surface_grammar.specs.Listings.{Listing}
use Rattle.surface_grammar.specs.Trees.{begins, spell}
use Rattle.grammar_engine.specs.declared.stop.Stop.{Stop}
use Rattle.grammar_engine.specs.declared.stop.Stop.TheVariants.{Refused, Memory}
use Rattle.grammar_engine.specs.declared.want.Want.{Want}
use Rattle.grammar_engine.specs.Blocks.{Cramped, StartedBy}
use Rattle.grammar_engine.specs.Laws.{is_raced_form}
use Rattle.grammar_engine.specs.Moves.{Chosen}
use Rattle.grammar_engine.specs.Passing.{Counts, SoleHere, StopsAll, WayShut, races_of}
use Rattle.grammar_engine.specs.Rooms.{least_of}
use Rattle.grammar_engine.specs.Stuck.{MeetsBlocked}
use Rattle.grammar_engine.proofs.Keeping.Agreeing.{agrees_next}
use Rattle.grammar_engine.proofs.Keeping.Going.{through_less}
use Rattle.grammar_engine.proofs.Keeping.Steps.{blocked_none}

room_for_two : (items : List Token) (at room races extra : ℕ) → Counts items at room races extra → (extra ≡ 0) ⊎ (2 ≤ room)
room_for_two items at room races extra (inl e) = inl e
room_for_two items at room races extra (inr h) = inr (omega (arith, h))

-- the next token doesn't begin the form
pub shut_unbegun : (items : List Token) (g : Form) (y : Kind) (at room races far : ℕ) → begins g (first_kind (drop at items)) ≡ false → at ≤ far → WayShut items g y at room races far
shut_unbegun items g y at room races far lacks l t e =
    blocked_none items (One g) room at at t.extra t.node t.tail (inl lacks) (room_for_two items at room races t.extra t.counts) t.fits (agrees_next items at far (spell t.node ++ t.tail) l t.agrees)

-- another token stands behind its tree
pub shut_behind : (items : List Token) (g : Form) (y : Kind) (at room races tried far behind seen : ℕ) (tree : Listing) → tried ≡ races - 1 → races_of (One g) < races → SoleHere items (One g) at room tried tree behind seen → (first_kind (drop behind items) ≡ Some y → ⊥)
    → max behind seen ≤ far → WayShut items g y at room tried far
shut_behind items g y at room races tried far behind seen tree is low sole lacks l t e =
    lacks (sym (sole refl (omega (arith, is, low)) (through_less items (One g) at room tried (max behind seen) far l t)).1 ∙ e)

-- it is refused
pub shut_refused : (items : List Token) (g : Form) (y : Kind) (at room races tried far place : ℕ) → tried ≡ races - 1 → races_of (One g) < races → StopsAll items (One g) at room tried (Refused place) → place ≤ far → WayShut items g y at room tried far
shut_refused items g y at room races tried far place is low stops l t e = stops refl (omega (arith, is, low)) (through_less items (One g) at room tried place far l t)

-- a rule for which there is no room is the only one that the token begins
pub cramped_blocked : (items : List Token) (g : Form) (q : Rule) (room tag at : ℕ) (stop : Stop) → Chosen g (first_kind (drop at items)) q → (is_raced_form g ≡ false → StartedBy (first_kind (drop at items)) q) → (is_raced_form g ≡ true → least_of q ≤ room)
    → Cramped q room stop → MeetsBlocked items (One g) room tag at stop
cramped_blocked items g q room tag at Memory chosen begun roomy h = tt
cramped_blocked items g q room tag at (Refused place) chosen begun roomy h = by_form (cases_Bool (is_raced_form g))
  where
    by_form : (is_raced_form g ≡ true) ⊎ (is_raced_form g ≡ false) → MeetsBlocked items (One g) room tag at (Refused place)
    by_form (inl raced) = absurd (omega (arith, h, roomy raced))
    by_form (inr calm) = inr (q, chosen, begun calm, calm, h)

-- the same at equal places and rooms
pub shut_moved : (items : List Token) (g : Form) (y : Kind) (at at' room room' races far : ℕ) → at ≡ at' → room ≡ room' → WayShut items g y at room races far → WayShut items g y at' room' races far
shut_moved items g y at at' room room' races far e e' h = subst (λ i. WayShut items g y i room' races far) e (subst (λ i. WayShut items g y at i races far) e' h)

pub room_same : (v w : Want) (found : Option Want) (room : ℕ) → found ≡ Some v → found ≡ Some w → v.room ≡ room → room ≡ w.room
room_same v w found room e e' h = sym h ∙ ap (λ z. z.room) (same_Some v w (sym e ∙ e'))

pub next_place : (at : ℕ) → at + 1 ≡ suc at
next_place at = omega arith
