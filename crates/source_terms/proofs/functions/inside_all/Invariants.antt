use Rattle.std.proofs.Common.{◌≡◌, Bool, drop, map}
use Rattle.core_terms.specs.Strip.{strip}
use Rattle.core_terms.specs.Trees.{Fo}
use Rattle.core_terms.specs.View.{exp_tree}
use Rattle.plain_tree.specs.ExpView.{arg_tree, args_tree}
use Rattle.source_names.specs.Scopes.{Scope}
use Rattle.source_names.specs.View.{scope_view}
use Rattle.source_terms.specs.Leaves.{form_of}
use Rattle.source_terms.specs.Terms.{reads_params}
use Rattle.source_terms.proofs.functions.inside_all.Given as goal

abbrev pub invariant-loop-i : goal.invariant-loop-i
invariant-loop-i l = (inside : Scope → Fo → Bool)
    → reads_params (scope_view l.s) (args_tree l.args) inside (form_of (strip (exp_tree l.x)))
    ≡ reads_params (scope_view l.entered.here) (map arg_tree (drop l.i l.args.items.items)) inside
    (form_of (strip (exp_tree l.entered.term.now)))
