use Rattle.std.proofs.Common.{◌<◌, length, arith}
use Rattle.core_terms.specs.declared.pat.PatForm.TheViews.{out-PatFields}
use Rattle.inserted_terms.proofs.Fronts.{fields_more}
use Rattle.inserted_terms.proofs.scopes.+under.Goals as goal

pub under_fields-loop-i-preserved : goal.under_fields-loop-i-preserved
under_fields-loop-i-preserved t c =
    let fs = (out-PatFields c.args.fs.now).items in
    let h : c.loop-i.i < length fs.items = omega (arith, fs.ok.0) in
    fields_more _ _ _ fs.items c.loop-i.i _ h c.index.ensures c.loop-i.invariant c.in_ok-here.ensures
