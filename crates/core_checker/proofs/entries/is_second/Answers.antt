use Rattle.core_checker.proofs.EntryKeys.{second_not, second_noted}
use Rattle.core_checker.proofs.entries.is_second.Goals as goal

pub returns-then-known-clause-noted : goal.returns-then-known-clause-noted
returns-then-known-clause-noted c =
    second_noted c.args.entries.now.items c.args.j c.index.result.now c.in_ok-key.key c.args.table.now c.put_key.new.table c.requires.within c.index.ensures
    c.in_ok-key.ensures c.requires.before c.in_ok-known.ensures.kept c.in_ok-known.ensures.there

pub returns-clause-twice : goal.returns-clause-twice
returns-clause-twice c =
    second_not c.args.entries.now.items c.args.j c.index.result.now c.in_ok-key.key c.args.table.now c.in_ok-known.known c.requires.within c.index.ensures
    c.in_ok-key.ensures c.requires.before c.in_ok-known.ensures.known c.if-known.false

pub returns-clause-noted : goal.returns-clause-noted
returns-clause-noted c =
    second_noted c.args.entries.now.items c.args.j c.index.result.now c.in_ok-key.key c.args.table.now c.put_key.new.table c.requires.within c.index.ensures
    c.in_ok-key.ensures c.requires.before c.in_ok-known.ensures.kept c.in_ok-known.ensures.there
