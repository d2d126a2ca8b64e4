use Rattle.std.proofs.Common.{◌≡◌, ◌∙◌, ap, sym, subst, length, arith, IfOk, Option}
use Rattle.con_terms.specs.Trees.{Cn, row}
use Rattle.con_terms.specs.View.{con_tree, kind_tree}
use Rattle.con_terms.specs.declared.con.Con.TheViews.{out-Pairs}
use Rattle.con_terms.proofs.Lists.{pairs_tree_is}
use Rattle.core_terms.specs.View.{maybe_con}
use Rattle.core_typing.specs.Compared.{value_of}
use Rattle.judgements.proofs.OnlyField.{none_unless_one, of_the_only}
use Rattle.judgements.proofs.pieces.value_of_only.Goals as goal

pub returns-then-len-ne1 : goal.returns-then-len-ne1
returns-then-len-ne1 c =
    let xs = (out-Pairs c.args.fields.now).items in
    none_unless_one (con_tree c.args.name.now) (kind_tree c.args.k.now) xs.items (λ e. omega (arith, xs.ok.0, e))
    ∙ ap (λ ps. value_of (con_tree c.args.name.now) (row (kind_tree c.args.k.now) ps)) (sym (pairs_tree_is c.args.fields.now))

pub returns : goal.returns
returns c =
    let xs = (out-Pairs c.args.fields.now).items in
    let one : length xs.items ≡ 1 = omega (arith, xs.ok.0) in
    let P : Option Cn → Type 0 = λ z. IfOk c.value_where.result (λ o. maybe_con o ≡ z) in
    subst P
    (of_the_only (con_tree c.args.name.now) (kind_tree c.args.k.now) xs.items _ one c.index.ensures
    ∙ ap (λ ps. value_of (con_tree c.args.name.now) (row (kind_tree c.args.k.now) ps)) (sym (pairs_tree_is c.args.fields.now)))
    c.value_where.ensures
