use Rattle.std.proofs.Common.{◌<◌, ◌≤◌, ◌∙◌, length, arith, refl, ap, sym, rules, ◌≡◌, ◌++◌, map}
use Rattle.std.specs.Vec.{with_item}
use Rattle.std.proofs.lemmas.Result.{IfOk-equal}
use Rattle.con_terms.specs.View.{con_tree, cons_from, kind_tree, pair_tree, pairs_from, pairs_tree}
use Rattle.con_terms.specs.declared.con.Con.TheViews.{out-Cons, out-Pairs}
use Rattle.con_terms.proofs.Lists.{cons_tree_is, pairs_tree_is}
use Rattle.row_normal.specs.Glue.{piece_tree}
use Rattle.row_normal.specs.Pieces.{written_fields}
use Rattle.row_normal.specs.Settled.{ordered_pairs}
use Rattle.row_normal.specs.Ordered.{ordered as in_its_order}
use Rattle.row_normal.proofs.Each.{ordered_each, ordered_fields, in_field, rolled}
use Rattle.row_normal.proofs.Moves.{paired, turned_all, turned_more, untouched}
use Rattle.row_normal.proofs.Rising.{as_written}
use Rattle.row_normal.proofs.order.+ordered.Goals as goal

pub ordered_each-loop-i-preserved : goal.ordered_each-loop-i-preserved
ordered_each-loop-i-preserved t c =
    let xs = (out-Cons c.args.cs.now).items in
    let ys = (out-Cons c.loop-i.cs).items in
    let below : c.loop-i.i < length xs.items = omega (arith, xs.ok.0) in
    (turned_more con_tree in_its_order xs.items ys.items _ _ _ _ refl c.loop-i.invariant.0 c.loop-i.invariant.1.0 below c.index_mut.ensures.value c.in_ok-ordered.ensures, untouched xs.items ys.items _ _ _ refl c.loop-i.invariant.1)

pub ordered_each-returns : goal.ordered_each-returns
ordered_each-returns t c =
    let xs = (out-Cons c.args.cs.now).items in
    let done : length xs.items ≤ c.loop-i.i = omega (arith, xs.ok.0) in
    cons_tree_is c.loop-i.cs
    ∙ ap cons_from (turned_all con_tree in_its_order xs.items (out-Cons c.loop-i.cs).items.items _ c.loop-i.invariant.0 done)
    ∙ ordered_each c.args.cs.now

pub ordered_fields-loop-i-preserved : goal.ordered_fields-loop-i-preserved
ordered_fields-loop-i-preserved t c =
    let xs = (out-Pairs c.args.fields.now).items in
    let ys = (out-Pairs c.loop-i.fields).items in
    let e = rolled (record { items = with_item ys c.loop-i.i c.ordered_field.new.field }) in
    let below : c.loop-i.i < length xs.items = omega (arith, xs.ok.0) in
    (turned_more pair_tree (in_field in_its_order) xs.items ys.items _ _ _ _ e c.loop-i.invariant.0 c.loop-i.invariant.1.0 below c.index_mut.ensures.value (paired _ _ _ c.in_ok-ordered_field.ensures.name c.in_ok-ordered_field.ensures.value), untouched xs.items ys.items _ _ _ e c.loop-i.invariant.1)

pub ordered_fields-returns : goal.ordered_fields-returns
ordered_fields-returns t c =
    let xs = (out-Pairs c.args.fields.now).items in
    let done : length xs.items ≤ c.loop-i.i = omega (arith, xs.ok.0) in
    pairs_tree_is c.loop-i.fields
    ∙ ap pairs_from (turned_all pair_tree (in_field in_its_order) xs.items (out-Pairs c.loop-i.fields).items.items _ c.loop-i.invariant.0 done)
    ∙ ordered_fields c.args.fields.now

pub literal_pieces-returns : goal.literal_pieces-returns
literal_pieces-returns t c =
    let fields : pairs_tree c.replace-all.result ≡ ordered_pairs (pairs_tree c.args.fields.now) = search rules in
    IfOk-equal c.field_pieces.result _ _ _ c.field_pieces.ensures (ap (λ l. map piece_tree c.args.pieces.now.items ++ l) (ap (written_fields (kind_tree c.args.k.now)) fields ∙ sym (as_written (kind_tree c.args.k.now) _)))
