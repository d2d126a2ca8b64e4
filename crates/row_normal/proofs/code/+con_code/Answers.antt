use Rattle.std.proofs.Common.{◌≡◌, ◌≤◌, ◌∙◌, [], ◌∷◌, ◌++◌, length, arith, rules, vec_len, ap, append_assoc}
use Rattle.con_terms.specs.View.{kind_tree}
use Rattle.con_terms.specs.declared.con.Con.TheViews.{out-Pairs}
use Rattle.row_normal.specs.Ordered.{kind_code as kind_numbers}
use Rattle.row_normal.proofs.Coded.{codes, coded_all, con_numbers, pair_numbers, cons_coded, pairs_coded}
use Rattle.row_normal.proofs.code.+con_code.Goals as goal

pub cons_code-returns : goal.cons_code-returns
cons_code-returns t c =
    let xs = c.args.cs.now.items in
    let old = c.args.key.now.items in
    let done : length xs.items ≤ c.loop-i.i = omega (arith, xs.ok.0) in
    coded_all con_numbers xs.items c.loop-i.i old (13 ∷ vec_len xs ∷ []) _ c.loop-i.key.items c.loop-i.invariant done (search rules)
    ∙ ap (λ l. old ++ 13 ∷ l) (cons_coded c.args.cs.now)

pub pairs_code-returns : goal.pairs_code-returns
pairs_code-returns t c =
    let xs = (out-Pairs c.args.ps.now).items in
    let old = c.args.key.now.items in
    let kind = kind_numbers (kind_tree c.args.k.now) in
    let done : length xs.items ≤ c.loop-i.i = omega (arith, xs.ok.0) in
    let first : c.kinded.new.key.items ≡ old ++ 10 ∷ kind = search rules in
    coded_all pair_numbers xs.items c.loop-i.i c.kinded.new.key.items (vec_len xs ∷ []) _ c.loop-i.key.items c.loop-i.invariant done (search rules)
    ∙ ap (λ l. l ++ vec_len xs ∷ codes pair_numbers xs.items) first ∙ append_assoc old (10 ∷ kind) (vec_len xs ∷ codes pair_numbers xs.items)
    ∙ ap (λ l. old ++ (10 ∷ kind ++ l)) (pairs_coded c.args.ps.now)
