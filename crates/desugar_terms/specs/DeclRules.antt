-- What the rules of declarations stand for. The declaration above takes apart what is only a part of it.
use Rattle.surface_grammar.specs.declared.declarations.DeclRule.{DeclRule}
use Rattle.surface_grammar.specs.declared.declarations.DeclRule.TheVariants as decl
use Rattle.desugar_values.specs.Meanings.{MeaningTree, group, MeaningsTree}
use Rattle.desugar_values.specs.Parts.{part}

-- what a rule's tree stands for, from what its parts stand for
abbrev pub decl_value : DeclRule → MeaningsTree → MeaningTree
decl_value decl.Parameter ps = part 0 ps
decl_value decl.KeyList ps = part 0 ps
decl_value decl.ConstructorOf ps = part 1 ps
decl_value decl.ConstructorMore ps = part 1 ps
decl_value decl.ColumnMore ps = part 1 ps
decl_value _ ps = group ps
