use Rattle.std.proofs.Common.{◌≡◌, ◌+◌, ◌*◌, ◌++◌, max, drop}
use Rattle.con_terms.specs.declared.con.Con.TheViews.{size-Con, size-Cons, size-Pair, size-Pairs}
use Rattle.con_terms.specs.declared.con.Pairs.{out-Pairs}
use Rattle.row_normal.proofs.Coded.{codes, con_numbers, pair_numbers}
use Rattle.row_normal.proofs.code.+con_code.Given as goal

abbrev pub invariant-cons_code-loop-i : goal.invariant-cons_code-loop-i
invariant-cons_code-loop-i l = l.key.items ++ codes con_numbers (drop l.i l.cs.items.items) ≡ l.initial.key.items ++ codes con_numbers l.cs.items.items

abbrev pub invariant-pairs_code-loop-i : goal.invariant-pairs_code-loop-i
invariant-pairs_code-loop-i l = l.key.items ++ codes pair_numbers (drop l.i (out-Pairs l.ps).items.items) ≡ l.initial.key.items ++ codes pair_numbers (out-Pairs l.ps).items.items

abbrev pub decreases-con_code : goal.decreases-con_code
decreases-con_code l = 4 * size-Con l.c.now

abbrev pub decreases-one_code : goal.decreases-one_code
decreases-one_code l = 4 * size-Con l.a.now + 1

abbrev pub decreases-two_code : goal.decreases-two_code
decreases-two_code l = 4 * max (size-Con l.a.now) (size-Con l.b.now) + 1

abbrev pub decreases-guarded_code : goal.decreases-guarded_code
decreases-guarded_code l = 4 * max (max (size-Con l.a.now) (size-Con l.b.now)) (size-Con l.t.now) + 2

abbrev pub decreases-poly_code : goal.decreases-poly_code
decreases-poly_code l = 4 * size-Con l.b.now + 1

abbrev pub decreases-lambda_code : goal.decreases-lambda_code
decreases-lambda_code l = 4 * size-Con l.b.now + 1

abbrev pub decreases-proj_code : goal.decreases-proj_code
decreases-proj_code l = 4 * size-Con l.a.now + 2

abbrev pub decreases-cons_code : goal.decreases-cons_code
decreases-cons_code l = 4 * size-Cons l.cs.now + 1

abbrev pub decreases-pairs_code : goal.decreases-pairs_code
decreases-pairs_code l = 4 * size-Pairs l.ps.now + 1

abbrev pub decreases-pair_code : goal.decreases-pair_code
decreases-pair_code l = 4 * size-Pair l.p.now + 1
