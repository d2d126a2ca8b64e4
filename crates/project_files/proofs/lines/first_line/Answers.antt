use Rattle.std.proofs.Common.{rules}
use Rattle.project_files.proofs.Fronts.{first_cut, alone, cut_off, nothing_off}
use Rattle.project_files.proofs.lines.first_line.Goals as goal

pub returns-then-byte-eq10-clause-lines : goal.returns-then-byte-eq10-clause-lines
returns-then-byte-eq10-clause-lines c = λ lines h.
    first_cut c.args.bytes.now _ _ c.loop-at.at lines (search rules) c.if-byte-eq10.true c.loop-at.invariant
    c.without_return.ensures (cut_off c.args.bytes.now _) h

pub returns-clause-lines : goal.returns-clause-lines
returns-clause-lines c = λ lines h.
    alone c.args.bytes.now _ lines (λ k below. c.loop-at.invariant k (search (rules, below))) c.requires (nothing_off c.args.bytes.now) h
