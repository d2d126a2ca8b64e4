use Rattle.std.proofs.Common.{arith}
use Rattle.core_terms.specs.View.{pat_tree}
use Rattle.match_cover.proofs.Adding.{asks_pushed}
use Rattle.match_cover.proofs.cover.Asked.add.Goals as goal

pub returns-then-self-depth : goal.returns-then-self-depth
returns-then-self-depth c =
    λ ps a. asks_pushed ps (pat_tree c.args.p.now) c.args.self.now.rows.items.items c.push.new.self.items c.in_ok-row.row c.args.self.now.depth c.in_ok-depth.depth
    c.in_ok-push.ensures.items c.in_ok-row.ensures (omega (arith, c.in_ok-depth.ensures.depth)) a

pub returns-else-self-depth : goal.returns-else-self-depth
returns-else-self-depth c =
    λ ps a. asks_pushed ps (pat_tree c.args.p.now) c.args.self.now.rows.items.items c.push.new.self.items c.in_ok-row.row c.args.self.now.depth c.args.self.now.depth
    c.in_ok-push.ensures.items c.in_ok-row.ensures (omega (arith, c.in_ok-depth.ensures.depth)) a
