use Rattle.std.proofs.Common.{◌≤◌, ◌++◌, [], ◌∷◌, length, map, ap, sym, ◌∙◌, subst, arith}
use Rattle.std.proofs.lemmas.List.{append_assoc, append-nil, map-append}
use Rattle.plain_tree.specs.View.{plain_view}
use Rattle.plain_projects.specs.Listed.{ArePlainOf}
use Rattle.plain_projects.proofs.Sources.{plain_more, plain_none}
use Rattle.plain_projects.proofs.modules.plains_of.Goals as goal

pub loop-module-preserved : goal.loop-module-preserved
loop-module-preserved c = λ rest given.
    let ms = c.args.modules.now in
    let xs = c.loop-module.plains.items in
    let p = plain_view c.in_ok-tree.tree in
    let one = plain_more ms c.loop-module.module-index c.module-item.result rest p c.loop-module-test.true c.module-item.is c.in_ok-tree.ensures given in
    subst (λ l. ArePlainOf ms l)
    (sym (ap (λ ys. map plain_view ys ++ rest) c.in_ok-push.ensures.items ∙ ap (λ ys. ys ++ rest) (map-append plain_view xs (c.in_ok-tree.tree ∷ [])) ∙ append_assoc (map plain_view xs) (p ∷ []) rest))
    (c.loop-module.invariant (p ∷ rest) one)

pub returns : goal.returns
returns c =
    let ms = c.args.modules.now in
    let done : length ms ≤ c.loop-module.module-index = omega arith in
    subst (λ l. ArePlainOf ms l) (append-nil (map plain_view c.loop-module.plains.items)) (c.loop-module.invariant [] (plain_none ms c.loop-module.module-index done))
