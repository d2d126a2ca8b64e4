use Rattle.std.proofs.Common.{◌≡◌, List, None, Some, ap, subst}
use Rattle.std.proofs.lemmas.Result.{IfErr-weaker}
use Rattle.grammar_engine.specs.declared.want.Want.{Want}
use Rattle.hole_reader.specs.Progress.{Comes, IsHole, still}
use Rattle.hole_reader.specs.Refuses.{StopsAt, Unbegun}
use Rattle.hole_reader.proofs.Steps.{ended, gave}
use Rattle.hole_reader.proofs.Stops.{none_longer, stop_asked}
use Rattle.hole_reader.proofs.reader.Reader.go_on.Goals as goal

pub returns-in-Some-clause-stops : goal.returns-in-Some-clause-stops
returns-in-Some-clause-stops c handed h =
    let items = c.args.tokens.now.items in
    let r = c.args.self.now in
    let m = c.read_on.new.machine in
    let asked = c.in-Some.asked in
    let left : still c.in_ok-asked.field-0 m.wants ≡ still (Some asked) m.wants = ap (λ o. still o m.wants) c.in-Some.is in
    let comes = subst (λ (l : List Want). Comes items r.whole handed m.at m.far m.tree l) left (c.in_ok-asked.ensures.comes r.whole handed h) in
    IfErr-weaker c.ask.result (Unbegun items asked.hole m) (StopsAt items r.whole handed) (λ e u. stop_asked items r.whole handed asked.hole asked.want m e comes (subst IsHole c.in-Some.is c.in_ok-asked.ensures.hole) u) c.ask.ensures.unbegun

pub returns-in-None-clause-steps : goal.returns-in-None-clause-steps
returns-in-None-clause-steps c handed h =
    let items = c.args.tokens.now.items in
    let r = c.args.self.now in
    let m = c.read_on.new.machine in
    let left : still c.in_ok-asked.field-0 m.wants ≡ still None m.wants = ap (λ o. still o m.wants) c.in-None.is in
    let comes = subst (λ (l : List Want). Comes items r.whole handed m.at m.far m.tree l) left (c.in_ok-asked.ensures.comes r.whole handed h) in
    gave items handed r c.end.new.self m c.end.result (ended items r.whole handed m.at m.far m.tree comes) (none_longer items r.whole handed m.at m.far m.tree comes) c.end.ensures.far c.end.ensures.gives
