use Rattle.std.proofs.Common.{◌≡◌, ◌≤◌, length, arith, rules}
use Rattle.core_checker.proofs.EntryNames.{same_names}
use Rattle.core_checker.proofs.entries.is_same_name.Goals as goal

pub returns : goal.returns
returns c =
    let e : length c.args.a.now ≡ length c.args.b.now = search rules in
    let h : length c.args.a.now ≤ c.loop-i.i = omega arith in
    same_names c.args.a.now c.args.b.now c.loop-i.i e h c.loop-i.invariant
