use Rattle.std.proofs.Common.{◌≡◌, ◌∙◌, ap, rules}
use Rattle.con_terms.specs.Trees.{Kd, Kds, tuple_of}
use Rattle.con_terms.specs.View.{kind_step, kind_tree, kinds_step, kinds_tree}
use Rattle.con_terms.specs.declared.kind.Kind.{Tuple}
use Rattle.con_terms.specs.declared.kind.Kinds.{Kinds}
use Rattle.con_terms.specs.declared.kind.Kind.TheFolds.{fold-roll-Kinds, the_lemmas}
use Rattle.con_terms.specs.declared.kind.Kind.TheViews.{roll-Kinds}
use Rattle.desugar_types.proofs.kinds.tuple_of.Goals as goal

tuple_tree : (ks : Kinds) → kind_tree (Tuple ks) ≡ tuple_of (kinds_tree ks)
tuple_tree ks = search (rules, the_lemmas)

pub returns : goal.returns
returns c =
    tuple_tree (roll-Kinds (record { items = c.args.items }))
    ∙ ap tuple_of (fold-roll-Kinds Kd Kds kind_step kinds_step (record { items = c.args.items }))
