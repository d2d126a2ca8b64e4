use Rattle.std.proofs.Common.{◌≡◌, ◌<◌, length, true, sym, ◌∙◌, arith, rules}
use Rattle.con_terms.specs.declared.con.Con.TheViews.{out-Pairs}
use Rattle.inserted_terms.proofs.Fields.{left_more}
use Rattle.inserted_terms.proofs.folders.past_fields.Goals as goal

pub loop-i-preserved : goal.loop-i-preserved
loop-i-preserved c =
    let ps = (out-Pairs c.args.ps.now).items in
    let fs = (out-Pairs c.args.fields.now).items in
    let a : c.loop-i.i < length ps.items = omega (arith, ps.ok.0) in
    let b : c.loop-i.next < length fs.items = omega (arith, fs.ok.0) in
    let yes : c.same_pair.result ≡ true = search rules in
    left_more c.args.fields.now c.args.ps.now _ c.loop-i.i c.loop-i.next c.index-one.result.now c.index-other.result.now a
    c.index-one.ensures b c.index-other.ensures (sym c.same_pair.ensures ∙ yes) c.loop-i.invariant
