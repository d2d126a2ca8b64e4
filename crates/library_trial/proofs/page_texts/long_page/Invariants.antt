use Rattle.xml_trees.specs.Trees.{built, IsWhole}
use Rattle.library_trial.proofs.page_texts.long_page.Given as goal

abbrev pub invariant-loop : goal.invariant-loop
invariant-loop l = IsWhole (built l.page)
