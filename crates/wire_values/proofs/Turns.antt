-- Steps, and what they lead to, by what they are.
use Rattle.std.proofs.Common.{◌≡◌, List, [], ◌∷◌, Bor, sym, subst}
use Rattle.table_rows.specs.View.{wire_tree}
use Rattle.table_rows.specs.declared.wire.Wire.{Wire}
use Rattle.core_meaning.specs.Wired.{Known}
use Rattle.run_values.specs.View.{value_tree}
use Rattle.run_values.specs.declared.value.Value.{Value}
use Rattle.wire_values.specs.Amid.{Waiting, Amid, wants, has, LeadsTo}
use Rattle.wire_values.specs.Scoped.{closed_tree, amid, moved_to}
use Rattle.wire_values.specs.declared.scoped.Closed.{Closed}
use Rattle.wire_values.specs.declared.frames.Step.{Step}
use Rattle.wire_values.specs.declared.frames.Step.TheVariants.{Wants, Has}
use Rattle.wire_values.specs.declared.frames.Moved.{Moved}
use Rattle.wire_values.specs.declared.frames.Moved.TheVariants.{On, Whole}
use Rattle.wire_values.proofs.Moves.{in_place}

pub wants_is : {K : Known} {ls : List Waiting} {b : Amid} (step : Step) (c : Closed) (w : Bor Wire) → step ≡ Wants c w → LeadsTo K (wants ls (closed_tree c) (wire_tree w.now)) b → LeadsTo K (amid step ls) b
wants_is {K} {ls} {b} step c w e f = subst (λ x. LeadsTo K (amid x ls) b) (sym e) f

pub has_is : {K : Known} {ls : List Waiting} {b : Amid} (step : Step) (v : Value) → step ≡ Has v → LeadsTo K (has ls (value_tree v)) b → LeadsTo K (amid step ls) b
has_is {K} {ls} {b} step v e f = subst (λ x. LeadsTo K (amid x ls) b) (sym e) f

pub popped_whole : {K : Known} {ls : List Waiting} (step : Step) (v : Value) → step ≡ Has v → ls ≡ [] → LeadsTo K (amid step ls) (has [] (value_tree v))
popped_whole {K} {ls} step v e f = has_is step v e (subst (λ xs. LeadsTo K (has xs (value_tree v)) (has [] (value_tree v))) (sym f) in_place)

pub popped : {K : Known} {ls ms : List Waiting} {first : Waiting} {b : Amid} (step : Step) (v : Value) → step ≡ Has v → ls ≡ first ∷ ms → LeadsTo K (has (first ∷ ms) (value_tree v)) b → LeadsTo K (amid step ls) b
popped {K} {ls} {ms} {first} {b} step v e f g = has_is step v e (subst (λ xs. LeadsTo K (has xs (value_tree v)) b) (sym f) g)

pub moved_on : {K : Known} {a : Amid} (ls : List Waiting) (next : Moved) (step : Step) → next ≡ On step → LeadsTo K a (moved_to next ls) → LeadsTo K a (amid step ls)
moved_on {K} {a} ls next step e f = subst (λ x. LeadsTo K a (moved_to x ls)) e f

pub moved_whole : {K : Known} {a : Amid} (ls : List Waiting) (next : Moved) (v : Value) → next ≡ Whole v → LeadsTo K a (moved_to next ls) → LeadsTo K a (has [] (value_tree v))
moved_whole {K} {a} ls next v e f = subst (λ x. LeadsTo K a (moved_to x ls)) e f
