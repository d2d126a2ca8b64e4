use Rattle.std.proofs.Common.{◌≡◌, List, ◌∷◌, ap, ◌∙◌, subst}
use Rattle.grammar_engine.specs.declared.want.Want.{Want}
use Rattle.hole_reader.specs.declared.reader.Next.TheVariants.{Begin, Filled}
use Rattle.hole_reader.specs.Progress.Comes.{took}
use Rattle.hole_reader.specs.Readers.{ReadingBy}
use Rattle.hole_reader.proofs.Steps.{comes_first}
use Rattle.hole_reader.proofs.reader.Reader.resume.Goals as goal

pub returns-in_ok-push-in-Begin-clause-comes : goal.returns-in_ok-push-in-Begin-clause-comes
returns-in_ok-push-in-Begin-clause-comes c items handed h closed =
    let r = c.args.self.now in
    let is : r.next ≡ Begin = cc (c.in-Begin.is, c.replace.ensures.value) in
    let fresh = subst (ReadingBy items handed r) is h in
    comes_first items r.whole handed r.machine.at r.machine.far r.machine.tree c.push.new.self fresh.0 fresh.1 fresh.2 (c.in_ok-push-in-Begin.ensures.ok ∙ ap (λ (l : List Want). r.whole ∷ l) fresh.3) fresh.4 fresh.5

pub returns-in_ok-add_tree-in-Filled-clause-comes : goal.returns-in_ok-add_tree-in-Filled-clause-comes
returns-in_ok-add_tree-in-Filled-clause-comes c items handed h closed =
    let r = c.args.self.now in
    let filling = c.in-Filled.filling in
    let is : r.next ≡ Filled filling = cc (c.in-Filled.is, c.replace.ensures.value) in
    let full = subst (ReadingBy items handed r) is h in
    took full.0 handed full.3.0 filling.want r.machine.wants r.machine.at r.machine.far filling.behind r.machine.tree c.add_tree.new.tree filling.tree full.3.1 full.4 full.1
    c.in_ok-add_tree-in-Filled.ensures.leaves c.in_ok-add_tree-in-Filled.ensures.marks full.2
