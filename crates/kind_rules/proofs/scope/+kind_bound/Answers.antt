use Rattle.std.proofs.Common.{◌≡◌, ◌<◌, IfOk, Option, slice_get, ap, ◌∙◌, sym, subst, arith}
use Rattle.con_terms.specs.Trees.{Kd}
use Rattle.con_terms.specs.View.{kind_tree}
use Rattle.kind_rules.specs.View.{layers_view, maybe_kind}
use Rattle.kind_rules.specs.declared.scope.Entry.TheVariants.{Binder}
use Rattle.kind_rules.specs.declared.scope.Layer.{out-Layer}
use Rattle.kind_rules.proofs.Layers.{further_out, layer_is}
use Rattle.kind_rules.proofs.scope.+kind_bound.Goals as goal

pub returns-else-number-eq0 : goal.returns-else-number-eq0
returns-else-number-eq0 t c =
    let more : 0 < c.args.number = omega arith in
    let rest = layers_view (out-Layer c.deref-else-number-eq0.result.now).rest in
    let is = layer_is c.args.layers.now c.in-Over.layer c.deref.result.now c.deref-else-number-eq0.result.now (Binder c.in-Binder.kind) c.in-Over.is c.deref.ensures c.in-Binder.is c.deref-else-number-eq0.ensures in
    let P : Option Kd → Type 0 = λ z. IfOk c.kind_bound.result (λ o. maybe_kind o ≡ z) in
    subst P (sym (ap (λ G. slice_get G.binders c.args.number) is ∙ further_out (kind_tree c.in-Binder.kind) rest.binders c.args.number more)) c.kind_bound.ensures
