use Rattle.std.proofs.Common.{◌≡◌, [], ◌∷◌, ◌++◌, ap, ◌∙◌, subst, arith}
use Rattle.surface_grammar.specs.declared.form.Form.TheVariants as f
use Rattle.surface_grammar.specs.declared.part.Part.TheVariants.{Many}
use Rattle.grammar_engine.specs.declared.want.Want.{Want}
use Rattle.hole_reader.specs.Readers.{most, Steps}
use Rattle.parser_trial.proofs.Handing.{hands, read_with}
use Rattle.parser_trial.proofs.driving.markup_of.Goals as goal

pub loop-init : goal.loop-init
loop-init c =
    let fresh = c.new-reader.ensures.fresh in
    record { reading = ([], fresh.reading c.args.tokens.now.items); closed = fresh.closed; part = fresh.part; place = fresh.place; room = omega (arith, fresh.room) }

pub loop-preserved : goal.loop-preserved
loop-preserved c =
    let items = c.args.tokens.now.items in
    let r = c.loop.reader.reader in
    let s = c.step.new.self.reader in
    let found = c.in_ok-found-in-Wants.found in
    let handed = c.loop.invariant.reading.0 in
    let st = subst (Steps items handed r s) c.in-Wants.is (c.in_ok-tree.ensures.steps handed c.loop.invariant.reading.1) in
    let same : c.fill.new.self.reader.whole ≡ r.whole = c.fill.ensures.whole ∙ st.2 in
    record {
      reading = (
        handed ++ found.tree ∷ [],
        c.fill.ensures.handed items handed st.1 (hands items s c.in-Wants.hole c.in-Wants.place c.in-Wants.depth found.tree found.behind st.0 c.in_ok-found-in-Wants.ensures.reads c.in_ok-found-in-Wants.ensures.place),
      );
      closed = c.fill.ensures.closed;
      part = ap (λ (w : Want). w.part) same ∙ c.loop.invariant.part;
      place = ap (λ (w : Want). w.tag) same ∙ c.loop.invariant.place;
      room = ap (λ (w : Want). w.room) same ∙ c.loop.invariant.room;
    }

pub fill-requires : goal.fill-requires
fill-requires c =
    let handed = c.loop.invariant.reading.0 in
    let st = subst (Steps c.args.tokens.now.items handed c.loop.reader.reader c.step.new.self.reader) c.in-Wants.is (c.in_ok-tree.ensures.steps handed c.loop.invariant.reading.1) in
    (st.0.want, st.0.opened)

pub returns-in-Done : goal.returns-in-Done
returns-in-Done c =
    let items = c.args.tokens.now.items in
    let r = c.loop.reader.reader in
    let handed = c.loop.invariant.reading.0 in
    let st = subst (Steps items handed r c.step.new.self.reader) c.in-Done.is (c.in_ok-tree.ensures.steps handed c.loop.invariant.reading.1) in
    read_with items r.whole handed c.in-Done.tree c.in-Done.behind (Many f.Node) c.args.at most c.loop.invariant.part c.loop.invariant.place c.loop.invariant.room st.0
