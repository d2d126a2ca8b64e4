use Rattle.std.proofs.Common.{◌≤◌, ◌∙◌, [], ◌∷◌, ◌++◌, length, arith, rules, vec_len, ap}
use Rattle.con_terms.specs.declared.kind.Kind.TheViews.{out-Kinds}
use Rattle.row_normal.proofs.Coded.{coded_all, kind_numbers, kinds_coded}
use Rattle.row_normal.proofs.code.+kind_code.Goals as goal

pub kinds_code-returns : goal.kinds_code-returns
kinds_code-returns t c =
    let xs = (out-Kinds c.args.ks.now).items in
    let old = c.args.key.now.items in
    let done : length xs.items ≤ c.loop-i.i = omega (arith, xs.ok.0) in
    coded_all kind_numbers xs.items c.loop-i.i old (5 ∷ vec_len xs ∷ []) _ c.loop-i.key.items c.loop-i.invariant done (search rules)
    ∙ ap (λ l. old ++ 5 ∷ l) (kinds_coded c.args.ks.now)
