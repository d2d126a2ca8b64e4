-- The trees that entries of the program are.
use Rattle.std.specs.Prelude.{List, map, reverse}
use Rattle.desugar_values.specs.View.{meaning_tree}
use Rattle.desugar.specs.Stacks as s
use Rattle.desugar.specs.declared.stack.Entry.{Entry}
use Rattle.desugar.specs.declared.stack.Entry.TheVariants as e
use Rattle.desugar.specs.declared.stack.Stack.{Stack}

abbrev pub entry_tree : Entry → s.Entry
entry_tree e.Item = s.item
entry_tree e.End = s.end
entry_tree (e.Value m) = s.value (meaning_tree m)

-- the leftmost first
abbrev pub stack_view : Stack → List s.Entry
stack_view stack = map entry_tree (reverse stack.entries.items)
