use Rattle.std.proofs.Common.{◌≡◌, sym, ap, ◌∙◌}
use Rattle.con_terms.specs.Trees.{Kd, Kds, types}
use Rattle.con_terms.specs.View.{con_tree, kind_tree, kind_step, kinds_step}
use Rattle.con_terms.specs.declared.kind.Kind.{Kind}
use Rattle.con_terms.specs.declared.kind.Kind.TheOpen.{Kind-F}
use Rattle.con_terms.specs.declared.kind.Kind.TheViews.{rolls-Types}
use Rattle.con_terms.specs.declared.kind.Kind.TheFolds.{fold-roll-Kind}
use Rattle.kind_rules.specs.Kinding.{judged_at}
use Rattle.kind_rules.specs.View.{scope_view}
use Rattle.judgements.specs.View.{judged_tree, sc_view}
use Rattle.node_rules.specs.Locals as computed
use Rattle.node_rules.specs.View.{found_tree}
use Rattle.node_rules.proofs.lets.with_declared.Goals as goal

types_are : kind_tree Kind.Types ≡ types
types_are = ap kind_tree (sym rolls-Types) ∙ fold-roll-Kind Kd Kds kind_step kinds_step Kind-F.Types

-- what is found behind a declaration is put together of what was found before and of what the declaration tells
pub returns : goal.returns
returns c =
    c.and_then_found.ensures
    ∙ ap (computed.and_then_found (found_tree c.args.past))
    (c.in_ok-next.ensures
    ∙ ap (λ k. computed.of_declared (sc_view c.args.g.now c.args.s.now) c.args.p c.args.q (con_tree c.args.t.now) k (judged_tree c.args.j))
    (c.in_ok-k.ensures ∙ ap (judged_at (scope_view c.args.s.now.kinds.value) (con_tree c.args.t.now)) types_are))
