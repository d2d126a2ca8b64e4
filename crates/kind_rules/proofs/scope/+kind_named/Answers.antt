use Rattle.std.proofs.Common.{◌≡◌, IfOk, Option, Some, None, map, ap, ◌∙◌, sym, subst}
use Rattle.con_terms.specs.Trees.{Kd}
use Rattle.con_terms.specs.Kinded.{basic_kind}
use Rattle.con_terms.specs.View.{kind_tree}
use Rattle.kind_rules.specs.View.{basic_tree, layers_view, maybe_kind}
use Rattle.kind_rules.specs.declared.scope.Entry.TheVariants.{Basics}
use Rattle.kind_rules.specs.declared.scope.Layer.{out-Layer}
use Rattle.kind_rules.proofs.Layers.{found_first, layer_is, none_first}
use Rattle.kind_rules.proofs.scope.+kind_named.Goals as goal

pub returns-in-Some : goal.returns-in-Some
returns-in-Some t c =
    let is = layer_is c.args.layers.now c.in-Over.layer c.deref.result.now c.deref.result.now (Basics c.in-Basics.basics) c.in-Over.is c.deref.ensures c.in-Basics.is c.deref.ensures in
    let there : basic_kind (map basic_tree c.in-Basics.basics.items) c.args.name.number ≡ Some (kind_tree c.in-Some.kind) = sym c.in_ok-kind-in-Basics.ensures ∙ ap maybe_kind c.in-Some.is in
    sym (ap (λ G. basic_kind G.basics c.args.name.number) is ∙ found_first (map basic_tree c.in-Basics.basics.items) (layers_view (out-Layer c.deref.result.now).rest).basics c.args.name.number (kind_tree c.in-Some.kind) there)

pub returns-in-None : goal.returns-in-None
returns-in-None t c =
    let is = layer_is c.args.layers.now c.in-Over.layer c.deref.result.now c.deref-in-None.result.now (Basics c.in-Basics.basics) c.in-Over.is c.deref.ensures c.in-Basics.is c.deref-in-None.ensures in
    let there : basic_kind (map basic_tree c.in-Basics.basics.items) c.args.name.number ≡ None = sym c.in_ok-kind-in-Basics.ensures ∙ ap maybe_kind c.in-None.is in
    let P : Option Kd → Type 0 = λ z. IfOk c.kind_named.result (λ o. maybe_kind o ≡ z) in
    subst P (sym (ap (λ G. basic_kind G.basics c.args.name.number) is ∙ none_first (map basic_tree c.in-Basics.basics.items) (layers_view (out-Layer c.deref-in-None.result.now).rest).basics c.args.name.number there)) c.kind_named.ensures
