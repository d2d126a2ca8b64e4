-- Where reading a whole text stops, no tree goes on.
use Rattle.std.proofs.Common.{◌≡◌, ◌<◌, ◌≤◌, ◌+◌, ◌*◌, ℕ, max, List, length, refl, arith}
use Rattle.std.proofs.Math.Logic.{inl, inr}
use Rattle.surface_tree.specs.declared.token.Token.{Token}
use Rattle.surface_grammar.specs.declared.form.Form.TheVariants as f
use Rattle.surface_grammar.specs.declared.part.Part.{Part}
use Rattle.surface_grammar.specs.declared.part.Part.TheVariants.{One}
use Rattle.surface_grammar.specs.Listings.{Listing}
use Rattle.surface_grammar.specs.Refusals.{deepest, Allows, GoesOn, RefusedAt, Whole}
use Rattle.surface_grammar.specs.Trees.{Node, spell}
use Rattle.grammar_engine.specs.declared.stop.Stop.{Stop}
use Rattle.grammar_engine.specs.declared.stop.Stop.TheVariants.{Refused, Memory}
use Rattle.grammar_engine.specs.Exact.{IsSource, NoneGoesOn, Reached, StopsText}
use Rattle.grammar_engine.specs.Passing.{Through, StopsAll, SoleHere, races_of}
use Rattle.grammar_engine.proofs.Texts.Exact.{Within, agrees_through, some_kind, text_goes, whole_through}
use Rattle.grammar_engine.proofs.Keeping.Going.{through_less}

races_low : (p : Part) → races_of p ≤ 2
races_low (One f.KindTerm) = omega arith
races_low (One f.Pat) = omega arith
races_low p = omega arith

reached_within : (items : List Token) (room levels : ℕ) → Reached items room levels → Within items room levels
reached_within items room levels (inl e) = record { extra = 0; counts = inl refl; enough = omega (arith, e) }
reached_within items room levels (inr h) = record { extra = levels; counts = inr h; enough = omega arith }

-- a tree that goes on at a place has the tokens through each place before it
abbrev goes_through : (items : List Token) (p : Part) (room levels place later : ℕ) → IsSource p → Reached items room levels → place ≤ later → later ≤ length items → GoesOn levels p items later → Through items p 0 room 2 place
goes_through items p room levels place later own reached l within g =
    through_less items p 0 room 2 place later l (whole_through items p room levels later g.0 own.1 (reached_within items room levels reached) g.2 (agrees_through items g.1 (spell g.0) later within g.3 g.4))

pub stops_text : (items : List Token) (p : Part) (room : ℕ) (stop : Stop) → StopsAll items p 0 room 2 stop → StopsText p items room stop
stops_text items p room (Refused place) stops = λ own levels later reached l within g. stops own.0 (races_low p) (goes_through items p room levels place later own reached l within g)
stops_text items p room Memory stops = tt

-- tokens are left
pub left_text : (items : List Token) (p : Part) (room behind far : ℕ) (tree : Listing) → SoleHere items p 0 room 2 tree behind far → behind < length items → StopsText p items room (Refused (max behind far))
left_text items p room behind far tree sole short =
    λ own levels later reached l within g.
    let t = goes_through items p room levels (max behind far) later own reached l within g in
    some_kind items behind short (sole own.0 (races_low p) t).1

-- with ample room no tree of any depth goes on
pub none_goes : (items : List Token) (p : Part) (room place later : ℕ) → StopsText p items room (Refused later) → 400 * (length items + 3) ≤ room → later ≤ place → place ≤ length items → NoneGoesOn p items place
none_goes items p room place later stops ample l within = λ own levels g. stops own levels place (inr (omega (arith, ample))) l within g

-- with room for 200 levels none of so many does
pub refused_at : (items : List Token) (p : Part) (place : ℕ) → IsSource p → Allows deepest p items place → place ≤ length items → StopsText p items deepest (Refused place) → RefusedAt deepest p items place
refused_at items p place own allows within stops = (allows, λ g. stops own deepest place (inl (omega arith)) (omega arith) within g)

-- and so no such tree spells the text
pub no_text : (items : List Token) (p : Part) (levels place : ℕ) (n : Node) → (GoesOn levels p items place → ⊥) → Whole levels p n → spell n ≡ items → ⊥
no_text items p levels place n stops whole e = stops (text_goes items p levels place n whole e)
