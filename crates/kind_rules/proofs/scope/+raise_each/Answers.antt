use Rattle.std.proofs.Common.{◌≡◌, ◌++◌, map, OnOk, ap, ◌∙◌, sym, subst}
use Rattle.con_terms.specs.Apart.{Guards}
use Rattle.disjoint_prover.specs.View.{guard_list}
use Rattle.kind_rules.specs.Scopes.{raised_by}
use Rattle.kind_rules.specs.View.{layers_view}
use Rattle.kind_rules.specs.declared.scope.Entry.TheVariants.{Binder, Guard}
use Rattle.kind_rules.specs.declared.scope.Layer.{out-Layer}
use Rattle.kind_rules.proofs.Layers.{layer_is, pushed, raised_once_more}
use Rattle.kind_rules.proofs.scope.+raise_each.Goals as goal

pub returns-else-by-ge-BINDERS : goal.returns-else-by-ge-BINDERS
returns-else-by-ge-BINDERS t c =
    let is = layer_is c.args.layers.now c.in-Over.layer c.deref.result.now c.deref-in-Binder.result.now (Binder c.in-Binder.field-0) c.in-Over.is c.deref.ensures c.in-Binder.is c.deref-in-Binder.ensures in
    let P : Guards → Type 0 = λ z. OnOk c.raise_each.result (guard_list c.raise_each.new.guards ≡ guard_list c.args.guards.now ++ z) in
    subst P (sym (ap (λ G. map (raised_by c.args.by) G.guards) is ∙ raised_once_more c.args.by (layers_view (out-Layer c.deref-in-Binder.result.now).rest).guards)) c.raise_each.ensures

pub returns-in_ok-push-in-Guard : goal.returns-in_ok-push-in-Guard
returns-in_ok-push-in-Guard t c =
    let is = layer_is c.args.layers.now c.in-Over.layer c.deref.result.now c.deref-in-Guard.result.now (Guard c.in-Guard.sides) c.in-Over.is c.deref.ensures c.in-Guard.is c.deref-in-Guard.ensures in
    let more = pushed c.args.guards.now.sides.items c.push.new.self.items c.in-Guard.sides c.in_ok-raised_sides-in-Guard.field-0 c.args.by (layers_view (out-Layer c.deref-in-Guard.result.now).rest).guards c.in_ok-push-in-Guard.ensures.items c.in_ok-raised_sides-in-Guard.ensures in
    let P : Guards → Type 0 = λ z. OnOk c.raise_each-in-Guard.result (guard_list c.raise_each-in-Guard.new.guards ≡ z) in
    subst P (more ∙ ap (λ G. guard_list c.args.guards.now ++ map (raised_by c.args.by) G.guards) (sym is)) c.raise_each-in-Guard.ensures
