use Rattle.std.proofs.Common.{◌≡◌, ◌<◌, length, IfOk, ap, subst, arith}
use Rattle.con_terms.specs.View.{con_tree}
use Rattle.core_terms.specs.Trees.{Pt}
use Rattle.core_terms.specs.declared.pat.PatForm.TheViews.{out-PatFields}
use Rattle.judgements.specs.View.{bound_tree, cons_view, locals_view, sc_view}
use Rattle.type_faults.specs.View.{fault_tree, maybe_fault}
use Rattle.pattern_rules.specs.Binds.{binding}
use Rattle.pattern_rules.specs.View.{one_tree}
use Rattle.pattern_rules.proofs.Forms.{holding_is, fields_are, stopped}
use Rattle.pattern_rules.proofs.binds.+binding.Goals as goal

pub binding-returns-in-Some : goal.binding-returns-in-Some
binding-returns-in-Some t c =
    subst (λ (q : Pt). IfOk c.holding_binding.result (λ b. bound_tree b ≡ binding (sc_view c.args.g.now c.args.s.now) (locals_view c.args.locals.now.value) q (con_tree c.args.t.now)))
    (holding_is c.args.q.now c.deref.result.now c.in-Build.d c.in-Build.j c.in-Build.holds c.in-Some.inner c.in-Build.is c.in-Some.is c.deref.ensures)
    c.holding_binding.ensures

pub binding-returns-in-Rec : goal.binding-returns-in-Rec
binding-returns-in-Rec t c =
    subst (λ (q : Pt). IfOk c.record_binding.result (λ b. bound_tree b ≡ binding (sc_view c.args.g.now c.args.s.now) (locals_view c.args.locals.now.value) q (con_tree c.args.t.now)))
    (fields_are c.args.q.now c.in-Rec.fs c.in-Rec.more c.in-Rec.is)
    c.record_binding.ensures

pub fields_binding-returns-in-Stop : goal.fields_binding-returns-in-Stop
fields_binding-returns-in-Stop t c =
    let more : c.loop-i.i < length (out-PatFields c.args.fs.now).items.items = omega (arith, (out-PatFields c.args.fs.now).items.ok.0) in
    stopped (sc_view c.args.g.now c.args.s.now) (maybe_fault c.loop-i.told) (locals_view c.loop-i.bound.value) (out-PatFields c.args.fs.now).items.items c.loop-i.i c.index.result.now (cons_view c.loop-i.rest) (one_tree c.in_ok-f.field-0) (fault_tree c.in-Stop.f) _ _ more c.index.ensures c.in_ok-f.ensures (ap one_tree c.in-Stop.is) c.with_told.ensures c.loop-i.invariant
