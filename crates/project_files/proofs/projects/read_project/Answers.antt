use Rattle.std.proofs.Common.{rules, tests, sym, ◌∙◌, true≢false}
use Rattle.std.proofs.lemmas.List.{nil_from_length}
use Rattle.project_files.specs.View.{said_by}
use Rattle.project_files.proofs.Reading.{refused_line, next_line, whole_project, short_project, not_taken, taken_follows}
use Rattle.project_files.proofs.projects.read_project.Goals as goal

pub returns-in_default-clause-refused : goal.returns-in_default-clause-refused
returns-in_default-clause-refused c =
    refused_line c.args.bytes.now c.loop-rest.rest.now _ (said_by c.loop-rest.project) c.loop-rest.number _ c.loop-rest.invariant
    c.first_line.ensures.lines (λ t f. c.in_default.ensures.cases.0 f.is_text)

pub returns-then-not-branch-clause-refused : goal.returns-then-not-branch-clause-refused
returns-then-not-branch-clause-refused c =
    refused_line c.args.bytes.now c.loop-rest.rest.now _ (said_by c.loop-rest.project) c.loop-rest.number _ c.loop-rest.invariant
    c.first_line.ensures.lines
    (not_taken c.in_ok-take_line.field-0 _ _ _ _ c.if-not-branch.true c.in-Ok.ensures.cases.0 c.in_ok-take_line.ensures)

pub loop-rest-preserved : goal.loop-rest-preserved
loop-rest-preserved c =
    next_line c.args.bytes.now c.loop-rest.rest.now _ (said_by c.loop-rest.project) _ c.loop-rest.number _ c.loop-rest.invariant
    c.first_line.ensures.lines c.first_line.ensures.shorter
    (taken_follows c.in_ok-take_line.field-0 _ _ _ _ c.if-not-branch.false c.in-Ok.ensures.cases.0 c.in-Ok.ensures.cases.1 c.in_ok-take_line.ensures)

pub returns-then-is_whole-clause-project : goal.returns-then-is_whole-clause-project
returns-then-is_whole-clause-project c =
    whole_project c.args.bytes.now c.loop-rest.rest.now _ c.loop-rest.number c.loop-rest.invariant (nil_from_length _ (search (rules, tests)))
    (c.is_whole.ensures.whole c.if-is_whole.true)

pub returns-else-is_whole-clause-refused : goal.returns-else-is_whole-clause-refused
returns-else-is_whole-clause-refused c =
    short_project c.args.bytes.now c.loop-rest.rest.now _ c.loop-rest.number c.loop-rest.invariant (nil_from_length _ (search (rules, tests)))
    (λ whole. true≢false (sym (c.is_whole.ensures.short whole) ∙ c.if-is_whole.false))
