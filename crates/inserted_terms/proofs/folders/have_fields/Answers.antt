use Rattle.std.proofs.Common.{◌<◌, length, arith}
use Rattle.con_terms.specs.declared.con.Con.TheViews.{out-Cons}
use Rattle.inserted_terms.proofs.Fields.{pieces_more}
use Rattle.inserted_terms.proofs.folders.have_fields.Goals as goal

pub loop-i-preserved : goal.loop-i-preserved
loop-i-preserved c =
    let ps = (out-Cons c.args.pieces.now).items in
    let h : c.loop-i.i < length ps.items = omega (arith, ps.ok.0) in
    pieces_more c.args.pieces.now c.args.fields.now _ c.loop-i.i c.loop-i.next c.in-Some.behind c.index.result.now h
    c.index.ensures c.in-Some.ensures c.loop-i.invariant
