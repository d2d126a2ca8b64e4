use Rattle.std.proofs.Common.{◌≡◌, ◌<◌, ◌+◌, ◌-◌, ◌∙◌, suc, ap, arith, drop, false, max, refl, rules, subst, sym, true}
use Rattle.std.proofs.lemmas.Result.{IfErr-weaker, IfOk-weaker, err_from_is_err_and}
use Rattle.std.proofs.Math.Logic.{inr}
use Rattle.grammar_engine.proofs.Keeping.Grown.{Grows}
use Rattle.grammar_engine.proofs.Keeping.Grows.{begun_grows, begun_read, grows_meets, read_meets, reads_at_end}
use Rattle.surface_tree.specs.declared.kind.Kind.TheVariants as k
use Rattle.surface_grammar.specs.declared.form.Form.TheVariants as f
use Rattle.surface_grammar.specs.declared.part.Part.TheVariants.{One}
use Rattle.surface_grammar.specs.Trees.{is_open}
use Rattle.std.specs.Result.{IfErr}
use Rattle.grammar_engine.specs.Allowed.{StopsAllowed}
use Rattle.grammar_engine.specs.Blocks.{Cramped}
use Rattle.grammar_engine.specs.Passing.{StopsAll, WayOpen}
use Rattle.grammar_engine.specs.Stuck.{MeetsBlocked}
use Rattle.grammar_engine.proofs.Keeping.Allowing.{Ready}
use Rattle.grammar_engine.proofs.Keeping.Going.{Going, going_start, going_meets, going_stops, going_ends}
use Rattle.grammar_engine.proofs.Keeping.Readies.{begun_ready, ready_meets, ends_allowed, refusal_allowed, stuck_at}
use Rattle.grammar_engine.proofs.Keeping.Smaller.{left_over, smaller}
use Rattle.grammar_engine.proofs.Keeping.Ways.{cramped_blocked, next_place, room_same, shut_moved, shut_behind, shut_refused, shut_unbegun}
use Rattle.grammar_engine.proofs.Bools.{clash}
use Rattle.grammar_engine.proofs.read.+read.Goals as goal
use Rattle.grammar_engine.proofs.read.+read.Goals.{goes_on-in_default-via-in-ConForall+in-Some+in_default, goes_on-in_default-via-in-ConForall+in_default, goes_on-in_default-via-in_default}

pub read_part-loop-want-init : goal.read_part-loop-want-init
read_part-loop-want-init t c = record {
  grows = begun_grows c.args.tokens.now.items c.args.part c.args.at c.args.room c.in_ok-machine.machine c.in_ok-machine.ensures;
  read = begun_read c.args.tokens.now.items c.args.part c.args.at c.args.room c.in_ok-machine.machine c.in_ok-machine.ensures;
  going = going_start c.args.tokens.now.items c.args.part c.args.at c.args.room c.args.races c.in_ok-machine.machine c.in_ok-machine.ensures;
  ready = begun_ready c.args.tokens.now.items c.args.part c.args.at c.args.room c.in_ok-machine.machine c.in_ok-machine.ensures;
}

pub read_part-loop-want-smaller : goal.read_part-loop-want-smaller
read_part-loop-want-smaller t c =
    let items = c.args.tokens.now.items in
    let w = c.in-Some.want in
    let after = record c.loop-want.machine { wants = c.pop.new.self } in
    subst (λ l. left_over (drop c.meet.new.machine.at items) c.meet.new.machine.wants < left_over (drop c.loop-want.machine.at items) l) (sym c.in-Some.ensures)
    (smaller items w.part w.room w.tag after c.meet.new.machine c.in_ok-meet.ensures.meets)

pub read_part-loop-want-preserved : goal.read_part-loop-want-preserved
read_part-loop-want-preserved t c =
    let items = c.args.tokens.now.items in
    let w = c.in-Some.want in
    let after = record c.loop-want.machine { wants = c.pop.new.self } in
    record {
      grows =
          grows_meets items c.args.part c.args.at c.args.room w.part w.room w.tag after c.meet.new.machine c.in_ok-meet.ensures.meets
          (subst (λ l. Grows items c.args.part c.args.at c.args.room (drop c.loop-want.machine.at items) l c.loop-want.machine.tree.leaves c.loop-want.machine.tree.marks) c.in-Some.ensures c.loop-want.invariant.grows);
      read = read_meets items (drop c.args.at items) w.part w.room w.tag after c.meet.new.machine c.in_ok-meet.ensures.meets c.loop-want.invariant.read;
      going =
          going_meets items c.args.part c.args.at c.args.room c.args.races w.part w.room w.tag after c.meet.new.machine c.in_ok-meet.ensures.meets c.in_ok-meet.ensures.sure c.in_ok-meet.ensures.raised c.loop-want.invariant.read
          (subst (λ l. Going items c.args.part c.args.at c.args.room c.args.races c.loop-want.machine.at c.loop-want.machine.far l c.loop-want.machine.tree.leaves c.loop-want.machine.tree.marks) c.in-Some.ensures c.loop-want.invariant.going);
      ready =
          ready_meets items c.args.part c.args.at c.args.room w.room w.tag w.part after c.meet.new.machine c.in_ok-meet.ensures.meets c.in_ok-meet.ensures.raised
          (subst (λ l. Grows items c.args.part c.args.at c.args.room (drop c.loop-want.machine.at items) l c.loop-want.machine.tree.leaves c.loop-want.machine.tree.marks) c.in-Some.ensures c.loop-want.invariant.grows)
          c.loop-want.invariant.read (subst (λ l. Ready items c.args.part c.args.at c.args.room c.loop-want.machine.at c.loop-want.machine.far l) c.in-Some.ensures c.loop-want.invariant.ready);
    }

pub read_part-returns-clause-reads : goal.read_part-returns-clause-reads
read_part-returns-clause-reads t c = reads_at_end c.args.tokens.now.items c.args.part c.args.at c.args.room c.loop-want.machine c.in_default.ensures c.loop-want.invariant.grows c.loop-want.invariant.read

pub read_part-returns-in_err-meet-clause-allowed : goal.read_part-returns-in_err-meet-clause-allowed
read_part-returns-in_err-meet-clause-allowed t c =
    let items = c.args.tokens.now.items in
    let w = c.in-Some.want in
    let after = record c.loop-want.machine { wants = c.pop.new.self } in
    let p = err_from_is_err_and c.from_residual-in_err-meet.result c.from_residual-in_err-meet.ensures.1 in
    rw (p.1, p.2)
    (refusal_allowed items c.args.part c.args.at c.args.room w.room w.tag w.part after c.in_err-meet.field-0.0
    (subst (λ l. Grows items c.args.part c.args.at c.args.room (drop c.loop-want.machine.at items) l c.loop-want.machine.tree.leaves c.loop-want.machine.tree.marks) c.in-Some.ensures c.loop-want.invariant.grows)
    c.loop-want.invariant.read (subst (λ l. Ready items c.args.part c.args.at c.args.room c.loop-want.machine.at c.loop-want.machine.far l) c.in-Some.ensures c.loop-want.invariant.ready) c.in_err-meet.ensures.refused)

pub read_part-returns-clause-come : goal.read_part-returns-clause-come
read_part-returns-clause-come t c = ends_allowed c.args.tokens.now.items c.args.part c.args.at c.args.room c.loop-want.machine.at c.loop-want.machine.far c.loop-want.machine.wants c.loop-want.invariant.ready

pub try_way-returns-in-Ok-clause-raised : goal.try_way-returns-in-Ok-clause-raised
try_way-returns-in-Ok-clause-raised t c = inr (max c.in-Ok.read.behind c.in-Ok.read.far, search (rules, c.max-machine-in-Ok.ensures, c.max.ensures), c.in-Ok.ensures.come)

pub try_way-returns-in-Err-Refused-clause-raised : goal.try_way-returns-in-Err-Refused-clause-raised
try_way-returns-in-Err-Refused-clause-raised t c = inr (c.in-Err-Refused.place, search (rules, c.max-machine-in-Err-Refused.ensures), subst (StopsAllowed c.args.tokens.now.items (One c.args.way.form) c.args.way.start c.args.room) c.in-Err-Refused.field-0-is c.in-Err-Refused.ensures.allowed)

pub read_part-returns-in_err-meet-clause-stuck : goal.read_part-returns-in_err-meet-clause-stuck
read_part-returns-in_err-meet-clause-stuck t c =
    let items = c.args.tokens.now.items in
    let w = c.in-Some.want in
    let after = record c.loop-want.machine { wants = c.pop.new.self } in
    let p = err_from_is_err_and c.from_residual-in_err-meet.result c.from_residual-in_err-meet.ensures.1 in
    rw (p.1, p.2)
    (stuck_at items c.args.part c.args.at c.args.room w.room w.tag w.part after c.in_err-meet.field-0.0
    (subst (λ l. Grows items c.args.part c.args.at c.args.room (drop c.loop-want.machine.at items) l c.loop-want.machine.tree.leaves c.loop-want.machine.tree.marks) c.in-Some.ensures c.loop-want.invariant.grows)
    c.loop-want.invariant.read c.in_err-meet.ensures.refused c.in_err-meet.ensures.blocked)

pub read_part-returns-in_err-meet-clause-ends : goal.read_part-returns-in_err-meet-clause-ends
read_part-returns-in_err-meet-clause-ends t c =
    let items = c.args.tokens.now.items in
    let w = c.in-Some.want in
    let after = record c.loop-want.machine { wants = c.pop.new.self } in
    let p = err_from_is_err_and c.from_residual-in_err-meet.result c.from_residual-in_err-meet.ensures.1 in
    rw (p.1, p.2)
    (going_stops items c.args.part c.args.at c.args.room c.args.races w.part w.room w.tag after c.in_err-meet.field-0.0 c.in_err-meet.ensures.refused c.in_err-meet.ensures.blocked c.loop-want.invariant.read
    (subst (λ l. Going items c.args.part c.args.at c.args.room c.args.races c.loop-want.machine.at c.loop-want.machine.far l c.loop-want.machine.tree.leaves c.loop-want.machine.tree.marks) c.in-Some.ensures c.loop-want.invariant.going))

pub read_part-returns-clause-sole : goal.read_part-returns-clause-sole
read_part-returns-clause-sole t c = going_ends c.args.tokens.now.items c.args.part c.args.at c.args.room c.args.races c.loop-want.machine c.in_default.ensures c.loop-want.invariant.read c.loop-want.invariant.going

pub meet-returns-in_ok-rule-in-One-clause-blocked : goal.meet-returns-in_ok-rule-in-One-clause-blocked
meet-returns-in_ok-rule-in-One-clause-blocked t c =
    let items = c.args.tokens.now.items in
    let e = c.in_ok-rule-in-One.ensures in
    let is : One c.in-One.form ≡ c.args.want.part = search (rules, c.in-One.is) in
    subst (λ p. IfErr c.begin.result (MeetsBlocked items p c.args.want.room c.args.want.tag c.args.machine.now.at)) is
    (IfErr-weaker c.begin.result (Cramped c.in_ok-rule-in-One.rule c.args.want.room) (MeetsBlocked items (One c.in-One.form) c.args.want.room c.args.want.tag c.args.machine.now.at)
    (λ stop h. cramped_blocked items c.in-One.form c.in_ok-rule-in-One.rule c.args.want.room c.args.want.tag c.args.machine.now.at stop e.chosen e.starts e.roomy h) c.begin.ensures.cramped)

pub is_bind-returns-clause-bind : goal.is_bind-returns-clause-bind
is_bind-returns-clause-bind t c = IfOk-weaker c.try_way.result _ _ (λ stands h yes two. (search (arith, c.if-room-eq0.false), h yes)) c.try_way.ensures.stands

pub is_bind-returns-clause-other : goal.is_bind-returns-clause-other
is_bind-returns-clause-other t c = IfOk-weaker c.try_way.result _ _ (λ stands h no two deep. h no (omega (arith, two))) c.try_way.ensures.shut

pub is_kind_mark-returns-in-Some-One-clause-mark : goal.is_kind_mark-returns-in-Some-One-clause-mark
is_kind_mark-returns-in-Some-One-clause-mark t c = IfOk-weaker c.try_way.result _ _ (λ mark h yes one. subst (λ i. WayOpen c.args.tokens.now.items f.KindTerm k.RightParenthesis i c.try_way.new.machine.far) (next_place c.args.machine.now.at) (h yes)) c.try_way.ensures.stands

pub is_kind_mark-returns-in-Some-One-clause-other : goal.is_kind_mark-returns-in-Some-One-clause-other
is_kind_mark-returns-in-Some-One-clause-other t c =
    IfOk-weaker c.try_way.result _ _
    (λ mark h no one w solid is.
    shut_moved c.args.tokens.now.items f.KindTerm k.RightParenthesis (c.args.machine.now.at + 1) (suc c.args.machine.now.at) c.in-Some-One.field-0.room w.room (c.args.races - 1) c.try_way.new.machine.far (next_place c.args.machine.now.at)
    (room_same c.in-Some-One.field-0 w c.first_solid.result c.in-Some-One.field-0.room c.in-Some-One.is (search (rules, c.first_solid.ensures, solid)) refl) (h no (omega (arith, one)))) c.try_way.ensures.shut

-- the form isn't the open one, or the token isn't `::`
pub goes_on-returns-in_default-clause-sure : goal.goes_on-returns-in_default-clause-sure
goes_on-returns-in_default-clause-sure t c = λ opens one.
    let shut : is_open c.args.form c.kind_at-next.result ≡ false =
    elim c.in_default.branch [
      | goes_on-in_default-via-in-ConForall+in-Some+in_default w ↦ first_of (search rules, search (rules, w), grind (arith, w))
      | goes_on-in_default-via-in-ConForall+in_default w ↦ first_of (search rules, search (rules, w), grind (arith, w))
      | goes_on-in_default-via-in_default w ↦ first_of (search rules, search (rules, w), grind (arith, w))
    ] in
    clash (is_open c.args.form c.kind_at-next.result) (ap (is_open c.args.form) c.kind_at-next.ensures ∙ opens) shut

pub try_way-returns-then-not-begins-clause-shut : goal.try_way-returns-then-not-begins-clause-shut
try_way-returns-then-not-begins-clause-shut t c = λ no low. shut_unbegun c.args.tokens.now.items c.args.way.form c.args.way.behind c.args.way.start c.args.room (c.args.races - 1) c.max-machine.result (search (rules, c.if-not-begins.true, c.begins.ensures, c.kind_at.ensures)) (search (arith, c.max-machine.ensures))

pub try_way-returns-in-Ok-clause-shut : goal.try_way-returns-in-Ok-clause-shut
try_way-returns-in-Ok-clause-shut t c = λ no low.
    shut_behind c.args.tokens.now.items c.args.way.form c.args.way.behind c.args.way.start c.args.room c.args.races (c.args.races - 1) c.max-machine-in-Ok.result c.in-Ok.read.behind c.in-Ok.read.far c.in-Ok.read.tree refl low c.in-Ok.ensures.sole (c.is_at.ensures.other no) (search (arith, c.max-machine-in-Ok.ensures, c.max.ensures))

pub try_way-returns-in-Err-Refused-clause-shut : goal.try_way-returns-in-Err-Refused-clause-shut
try_way-returns-in-Err-Refused-clause-shut t c = λ no low.
    shut_refused c.args.tokens.now.items c.args.way.form c.args.way.behind c.args.way.start c.args.room c.args.races (c.args.races - 1) c.max-machine-in-Err-Refused.result c.in-Err-Refused.place refl low
    (subst (StopsAll c.args.tokens.now.items (One c.args.way.form) c.args.way.start c.args.room (c.args.races - 1)) c.in-Err-Refused.field-0-is c.in-Err-Refused.ensures.ends) (search (arith, c.max-machine-in-Err-Refused.ensures))
