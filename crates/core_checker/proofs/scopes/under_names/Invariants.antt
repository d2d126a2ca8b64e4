use Rattle.std.proofs.Common.{◌++◌, ◌≡◌, drop}
use Rattle.core_terms.specs.Lists.{name_list}
use Rattle.core_terms.specs.View.{named_from, named_list_tree}
use Rattle.core_typing.specs.Typed.{named_types}
use Rattle.judgements.specs.View.{locals_view}
use Rattle.core_checker.proofs.scopes.under_names.Given as goal

abbrev pub invariant-loop-i : goal.invariant-loop-i
invariant-loop-i l =
    named_types (named_from (drop l.i (name_list (named_list_tree l.ns)))) ++ locals_view l.locals.value
    ≡ named_types (named_list_tree l.ns) ++ locals_view l.s.locals.value
