use Rattle.std.proofs.Common.{◌≡◌, ◌∙◌, ap, sym, length, arith}
use Rattle.con_terms.specs.declared.con.Con.TheViews.{out-Pairs}
use Rattle.con_terms.proofs.Lists.{pairs_tree_is}
use Rattle.row_normal.specs.Glue.{literal_of}
use Rattle.row_normal.proofs.Literals.{none_unless_one, of_the_only}
use Rattle.row_normal.proofs.code.literal_name.Goals as goal

pub returns-then-len-ne1 : goal.returns-then-len-ne1
returns-then-len-ne1 c =
    let xs = (out-Pairs c.args.fields.now).items in
    none_unless_one xs.items (λ e. omega (arith, xs.ok.0, e)) ∙ ap literal_of (sym (pairs_tree_is c.args.fields.now))

pub returns : goal.returns
returns c =
    let xs = (out-Pairs c.args.fields.now).items in
    let one : length xs.items ≡ 1 = omega (arith, xs.ok.0) in
    c.field_symbol.ensures ∙ of_the_only xs.items _ one c.index.ensures ∙ ap literal_of (sym (pairs_tree_is c.args.fields.now))
