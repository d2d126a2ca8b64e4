-- What a step begins with, and what it gives.
use Rattle.std.proofs.Common.{◌≡◌, ℕ, max, List, [], ◌∷◌, ◌++◌, append-nil, drop, refl, ap, sym, ◌∙◌, subst}
use Rattle.std.specs.Prelude.{Result, Ok, Err, IfOk}
use Rattle.surface_tree.specs.declared.token.Token.{Token}
use Rattle.surface_tree.specs.TokenList.{TokenList}
use Rattle.surface_grammar.specs.declared.fault.ParseFault.{ParseFault}
use Rattle.surface_grammar.specs.declared.fault.Step.{Step}
use Rattle.surface_grammar.specs.declared.fault.Step.TheVariants.{Wants, Done}
use Rattle.surface_grammar.specs.Fronts.{first_kind}
use Rattle.surface_grammar.specs.Listings.{Listing}
use Rattle.surface_grammar.specs.Trees.{none, spell}
use Rattle.grammar_engine.specs.declared.machine.Machine.{Machine}
use Rattle.grammar_engine.specs.declared.stop.Stop.{Stop}
use Rattle.grammar_engine.specs.declared.stop.Stop.TheVariants.{Refused, Memory}
use Rattle.grammar_engine.specs.declared.want.Want.{Want}
use Rattle.hole_reader.specs.declared.reader.Reader.{Reader}
use Rattle.hole_reader.specs.Progress.{Comes}
use Rattle.hole_reader.specs.Progress.Comes.{begun}
use Rattle.hole_reader.specs.Readers.{Gives, NoneLonger, ReadsWith, Steps}
use Rattle.hole_reader.specs.Refuses.{Refuses, StopsAt, Told}
use Rattle.hole_reader.proofs.Growing.{comes_grown, comes_place, comes_read}

-- a reading that begins
pub comes_first : (items : List Token) (whole : Want) (handed : List Listing) (at far : ℕ) (tree : Listing) (ws : List Want) → handed ≡ [] → at ≡ whole.tag → far ≡ whole.tag → ws ≡ whole ∷ [] → tree.leaves ≡ [] → tree.marks ≡ [] → Comes items whole handed at far tree ws
comes_first items whole handed at far tree ws e1 e2 e3 e4 leaves marks =
    subst (λ l. Comes items whole l at far tree ws) (sym e1)
    (subst (λ i. Comes items whole [] i far tree ws) (sym e2)
    (subst (λ i. Comes items whole [] whole.tag i tree ws) (sym e3)
    (subst (λ l. Comes items whole [] whole.tag whole.tag tree l) (sym e4) (begun tree leaves marks))))

-- the end of a reading
pub ended : (items : List Token) (whole : Want) (handed : List Listing) (at far : ℕ) (tree : Listing) → Comes items whole handed at far tree [] → ReadsWith items whole handed tree at
ended items whole handed at far tree comes =
    let c = comes_grown items whole handed at far tree [] comes none (first_kind (drop at items)) refl tt in
    let leaves : tree.leaves ≡ spell c.node = sym (append-nil tree.leaves) ∙ sym c.spelled in
    record {
      node = c.node;
      fits = c.fits;
      lists = (leaves, sym (append-nil tree.marks) ∙ sym c.listed);
      spells = comes_read items whole handed at far tree [] comes ∙ ap (λ l. l ++ drop at items) leaves;
      holes = c.holes ∙ append-nil handed;
      ends = comes_place items whole handed at far tree [] comes;
    }

-- what was read is what the step gives
pub gave : (items : List Token) (handed : List Listing) (r s : Reader) (m : Machine) (result : Result Step Stop) → ReadsWith items r.whole handed m.tree m.at → NoneLonger items r.whole handed m.tree (max m.at m.far) → s.machine.far ≡ m.far
    → IfOk result (Gives m) → IfOk result (Steps items handed r s)
gave items handed r s m (Ok (Wants hole place depth)) reads longest e h = absurd h
gave items handed r s m (Ok (Done tree behind)) reads longest e h = (
  subst (λ (l : Listing). ReadsWith items r.whole handed l behind) (sym h.0) (subst (λ (i : ℕ). ReadsWith items r.whole handed m.tree i) (sym h.1) reads),
  subst (λ (l : Listing). NoneLonger items r.whole handed l (max behind s.machine.far)) (sym h.0)
      (subst (λ (i : ℕ). NoneLonger items r.whole handed m.tree (max i s.machine.far)) (sym h.1) (subst (λ (i : ℕ). NoneLonger items r.whole handed m.tree (max m.at i)) (sym e) longest)),
)
gave items handed r s m (Err e) reads longest i h = tt

-- a step speaks of the reader's part alone
pub steps_same : (items : List Token) (handed : List Listing) (q r s : Reader) (step : Step) → q.whole ≡ r.whole → Steps items handed q s step → Steps items handed r s step
steps_same items handed q r s (Wants hole place depth) e h = (h.0, h.1, h.2 ∙ e)
steps_same items handed q r s (Done tree behind) e h = subst (λ w. ReadsWith items w handed tree behind × NoneLonger items w handed tree (max behind s.machine.far)) e h

pub refuses : (ts : TokenList) (whole : Want) (handed : List Listing) (stop : Stop) (fault : ParseFault) → StopsAt ts.items whole handed stop → Told ts stop fault → Refuses ts whole handed fault
refuses ts whole handed (Refused place) fault d e = subst (Refuses ts whole handed) (sym e) (place, refl, d)
refuses ts whole handed Memory fault d e = subst (Refuses ts whole handed) (sym e) tt
