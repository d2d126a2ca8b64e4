-- The trees that meanings of the program are.
use Rattle.std.specs.Prelude.{List, [], ◌∷◌}
use Rattle.con_terms.specs.View.{kind_tree}
use Rattle.plain_tree.specs.ConView.{con_tree, pat_tree}
use Rattle.plain_tree.specs.ExpView.{exp_tree, node_tree}
use Rattle.desugar_values.specs.Meanings.{MeaningTree, absent, a_word, several, group, a_kind, a_con, a_pat, an_exp, a_node, MeaningsTree, no_meaning, meaning}
use Rattle.desugar_values.specs.declared.meaning.Meaning.{Meaning}
use Rattle.desugar_values.specs.declared.meaning.Meanings.{Meanings}
use Rattle.desugar_values.specs.declared.meaning.Meaning.TheOpen.{Meaning-F, Meanings-F}
use Rattle.desugar_values.specs.declared.meaning.Meaning.TheFolds.{fold-Meaning, fold-Meanings}

abbrev pub meanings_from : List MeaningTree → MeaningsTree
meanings_from [] = no_meaning
meanings_from (m ∷ ms) = meaning m (meanings_from ms)

abbrev pub meaning_step : Meaning-F MeaningTree MeaningsTree → MeaningTree
meaning_step Meaning-F.Absent = absent
meaning_step (Meaning-F.Word t) = a_word t
meaning_step (Meaning-F.Several ms) = several ms
meaning_step (Meaning-F.Group ms) = group ms
meaning_step (Meaning-F.Kind k) = a_kind (kind_tree k.value)
meaning_step (Meaning-F.Con s c) = a_con s (con_tree c.value)
meaning_step (Meaning-F.Pat s p) = a_pat s (pat_tree p.value)
meaning_step (Meaning-F.Exp s e) = an_exp s (exp_tree e.value)
meaning_step (Meaning-F.Node n) = a_node (node_tree n.value)

abbrev pub meanings_step : Meanings-F MeaningTree MeaningsTree → MeaningsTree
meanings_step ms = meanings_from ms.items.items

abbrev pub meaning_tree : Meaning → MeaningTree
meaning_tree = fold-Meaning MeaningTree MeaningsTree meaning_step meanings_step

abbrev pub meanings_tree : Meanings → MeaningsTree
meanings_tree = fold-Meanings MeaningTree MeaningsTree meaning_step meanings_step
