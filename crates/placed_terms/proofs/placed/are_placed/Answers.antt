use Rattle.std.proofs.Common.{◌+◌, map, ap, sym, ◌∙◌}
use Rattle.placed_terms.proofs.Modules.{module_step}
use Rattle.placed_terms.specs.Parts.{behind}
use Rattle.placed_terms.specs.Placed.{all_placed, numbered}
use Rattle.plain_tree.specs.View as plain_view
use Rattle.placed_terms.proofs.placed.are_placed.Goals as goal

pub returns-in-None : goal.returns-in-None
returns-in-None c =
    let more = numbered (c.loop-tree.file + 1) (map plain_view.plain_view c.in-Some.trees.now) in
    sym (ap (λ o. behind o (λ es. all_placed more es)) c.in-None.is)
    ∙ module_step c.loop-tree.file c.in-Some.tree.now c.in-Some.trees.now c.loop-tree.left.now c.loop-tree.rest.now
    c.in_ok-behind_module.field-0 _ c.as_slice.result.now c.loop-tree.invariant c.in-Some.ensures.cases.0
    c.as_slice.ensures.value c.in_ok-behind_module.ensures

pub loop-tree-preserved : goal.loop-tree-preserved
loop-tree-preserved c =
    let more = numbered (c.loop-tree.file + 1) (map plain_view.plain_view c.in-Some.trees.now) in
    sym (ap (λ o. behind o (λ es. all_placed more es)) c.in-Some-2.is)
    ∙ module_step c.loop-tree.file c.in-Some.tree.now c.in-Some.trees.now c.loop-tree.left.now c.loop-tree.rest.now
    c.in_ok-behind_module.field-0 _ c.as_slice.result.now c.loop-tree.invariant c.in-Some.ensures.cases.0
    c.as_slice.ensures.value c.in_ok-behind_module.ensures
