use Rattle.std.proofs.Common.{◌∙◌, ap, sym, map}
use Rattle.desugar_values.specs.Meanings.{and_one}
use Rattle.desugar_values.specs.View.{meaning_tree, meanings_from}
use Rattle.desugar_values.specs.declared.meaning.Meaning.TheViews.{out-Meanings}
use Rattle.desugar_values.proofs.Lists.{from_more, meanings_tree-roll, meanings_tree_is}
use Rattle.desugar_values.proofs.meaning.Meanings.push.Goals as goal

pub returns-clause-ok : goal.returns-clause-ok
returns-clause-ok c =
    meanings_tree-roll (record { items = c.push_back.new.self })
    ∙ ap (λ xs. meanings_from (map meaning_tree xs)) c.in_ok-push_back.ensures.items
    ∙ from_more meaning_tree (out-Meanings c.args.self.now).items.items c.args.meaning
    ∙ ap (λ ms. and_one ms (meaning_tree c.args.meaning)) (sym (meanings_tree_is c.args.self.now))
