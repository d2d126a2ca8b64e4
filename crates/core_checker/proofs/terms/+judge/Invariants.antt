use Rattle.std.proofs.Common.{◌+◌, ◌*◌, ◌++◌, List, drop, map}
use Rattle.con_terms.specs.View.{con_tree}
use Rattle.core_terms.specs.Lists.{local_list, branch_list}
use Rattle.core_terms.specs.View.{locals_from, locals_tree, branches_from, branches_tree}
use Rattle.core_typing.specs.Scopes.{Sc}
use Rattle.judgements.specs.View.{judged_tree, sc_view}
use Rattle.node_rules.specs.Locals.{Ls, none_yet}
use Rattle.node_rules.specs.View.{found_tree}
use Rattle.pattern_rules.specs.Matching.{Cs}
use Rattle.pattern_rules.specs.View.{cases_tree}
use Rattle.told_faults.specs.Computed.{Jd}
use Rattle.judged_terms.specs.Judge.{JudgesAll, LocalsJudge, BranchesJudge}
use Rattle.core_checker.specs.Parts.{part_terms}
use Rattle.core_checker.proofs.terms.+judge.Given as goal

abbrev pub decreases-judge : goal.decreases-judge
decreases-judge l = 8 * l.room

abbrev pub decreases-judge_part : goal.decreases-judge_part
decreases-judge_part l = 8 * l.room + 1

abbrev pub decreases-judge_parts : goal.decreases-judge_parts
decreases-judge_parts l = 8 * l.room + 2

abbrev pub decreases-judge_names : goal.decreases-judge_names
decreases-judge_names l = 8 * l.room + 3

abbrev pub decreases-judge_branch : goal.decreases-judge_branch
decreases-judge_branch l = 8 * l.room + 1

abbrev pub decreases-judge_next : goal.decreases-judge_next
decreases-judge_next l = 8 * l.room + 2

abbrev pub decreases-judge_later : goal.decreases-judge_later
decreases-judge_later l = 8 * l.room + 3

abbrev pub decreases-judge_branches : goal.decreases-judge_branches
decreases-judge_branches l = 8 * l.room + 4

abbrev pub decreases-judge_matched : goal.decreases-judge_matched
decreases-judge_matched l = 8 * l.room + 5

abbrev pub decreases-judge_case : goal.decreases-judge_case
decreases-judge_case l = 8 * l.room + 6

abbrev pub decreases-judge_fn : goal.decreases-judge_fn
decreases-judge_fn l = 8 * l.room + 2

abbrev pub decreases-judge_fn_con : goal.decreases-judge_fn_con
decreases-judge_fn_con l = 8 * l.room + 1

abbrev pub decreases-judge_fn_guard : goal.decreases-judge_fn_guard
decreases-judge_fn_guard l = 8 * l.room + 1

abbrev pub decreases-judge_ascribed : goal.decreases-judge_ascribed
decreases-judge_ascribed l = 8 * l.room + 1

abbrev pub decreases-judge_operation : goal.decreases-judge_operation
decreases-judge_operation l = 8 * l.room + 1

abbrev pub decreases-judge_concat : goal.decreases-judge_concat
decreases-judge_concat l = 8 * l.room + 1

abbrev pub decreases-judge_call : goal.decreases-judge_call
decreases-judge_call l = 8 * l.room + 3

abbrev pub decreases-judge_record : goal.decreases-judge_record
decreases-judge_record l = 8 * l.room + 3

abbrev pub decreases-judge_local : goal.decreases-judge_local
decreases-judge_local l = 8 * l.room + 4

abbrev pub decreases-judge_locals : goal.decreases-judge_locals
decreases-judge_locals l = 8 * l.room + 5

abbrev pub decreases-judge_let : goal.decreases-judge_let
decreases-judge_let l = 8 * l.room + 6

abbrev pub decreases-judge_element : goal.decreases-judge_element
decreases-judge_element l = 8 * l.room + 3

abbrev pub decreases-judge_literal : goal.decreases-judge_literal
decreases-judge_literal l = 8 * l.room + 3

abbrev pub decreases-judge_sql : goal.decreases-judge_sql
decreases-judge_sql l = 8 * l.room + 3

abbrev pub invariant-judge_parts-loop-i : goal.invariant-judge_parts-loop-i
invariant-judge_parts-loop-i l = (js : List Jd)
    → JudgesAll (sc_view l.g l.s) (drop l.i (part_terms l.parts)) js
    → JudgesAll (sc_view l.g l.s) (part_terms l.parts) (map judged_tree l.items.items ++ js)

abbrev pub invariant-judge_locals-loop-i : goal.invariant-judge_locals-loop-i
invariant-judge_locals-loop-i l = (H : Sc) (u : Ls)
    → LocalsJudge (sc_view l.g l.now.here) (found_tree l.now.past) (locals_from (drop l.i (local_list (locals_tree l.ls)))) H u
    → LocalsJudge (sc_view l.g l.s) none_yet (locals_tree l.ls) H u

abbrev pub invariant-judge_later-loop-i : goal.invariant-judge_later-loop-i
invariant-judge_later-loop-i l = (d : Cs)
    → BranchesJudge (sc_view l.g l.s) (con_tree l.t) (branches_from (drop l.i (branch_list (branches_tree l.bs)))) (cases_tree l.now) d
    → BranchesJudge (sc_view l.g l.s) (con_tree l.t) (branches_tree l.bs) (cases_tree l.fn.first) d
