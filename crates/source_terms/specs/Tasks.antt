-- Terms that are still to be compared.
use Rattle.std.specs.Prelude.{Bool, true, false, ◌&&◌, List, [], ◌∷◌, Option, Some, None}
use Rattle.std.specs.Borrow.{Bor}
use Rattle.core_terms.specs.Strip.{strip, strip_nodes}
use Rattle.core_terms.specs.Trees.{Fo, Xs}
use Rattle.core_terms.specs.View.{exp_tree, nodes_tree}
use Rattle.core_terms.specs.declared.exp.Exp.{Exp}
use Rattle.core_terms.specs.declared.exp.Nodes.{Nodes}
use Rattle.plain_tree.specs.ExpView as plain
use Rattle.source_names.specs.Scopes.{Scope}
use Rattle.source_names.specs.View.{scope_view}
use Rattle.source_terms.specs.declared.functions.Entered.{Entered}
use Rattle.source_terms.specs.declared.tasks.Task.{Task}
use Rattle.source_terms.specs.Leaves.{form_of}
use Rattle.source_terms.specs.Terms.{reads_term}

-- whether the term of a task is the one of the source
abbrev pub is_read : Task → Bool
is_read t = reads_term (scope_view t.here) (plain.exp_tree t.source.now) (form_of (strip (exp_tree t.term.now)))

abbrev pub all_read : List Task → Bool
all_read [] = true
all_read (t ∷ ts) = is_read t && all_read ts

-- a test of what stands before a link, where something does
abbrev pub at_before : Option (Bor Exp) → (Fo → Bool) → Bool
at_before None before = false
at_before (Some x) before = before (form_of (strip (exp_tree x.now)))

-- a test of what is inside of a parameter, where something is
abbrev pub at_inside : Option Entered → (Scope → Fo → Bool) → Bool
at_inside None inside = false
at_inside (Some e) inside = inside (scope_view e.here) (form_of (strip (exp_tree e.term.now)))

-- a test of what stands in an element, where something does
abbrev pub at_content : Option (Bor Nodes) → (Xs → Bool) → Bool
at_content None test = false
at_content (Some xs) test = test (strip_nodes (nodes_tree xs.now))
