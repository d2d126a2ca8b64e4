use Rattle.std.proofs.Common.{arith, rules, subst}
use Rattle.surface_grammar.specs.Refusals.{deepest}
use Rattle.grammar_engine.specs.Allowed.{StopsAllowed}
use Rattle.grammar_engine.specs.Exact.{NoneGoesOn, StopsText}
use Rattle.grammar_engine.specs.Stuck.{StopsWhole}
use Rattle.grammar_engine.proofs.Texts.Refusing.{no_text, refused_at}
use Rattle.grammar_engine.proofs.Trees.Sole.{only_tree}
use Rattle.grammar_engine.proofs.Short.Whole.{allows_at}
use Rattle.grammar_engine.proofs.read.read_whole.Goals as goal

pub returns-then-branch-clause-allowed : goal.returns-then-branch-clause-allowed
returns-then-branch-clause-allowed c =
    let items = c.args.tokens.now.items in
    let place = c.in-Err-Refused.place in (
      place,
      c.byte_of-at.ensures,
      (allows_at items c.args.part deepest place (omega arith) (subst (StopsAllowed items c.args.part 0 deepest) c.in-Err-Refused.field-0-is c.in-Err-Refused.ensures.allowed)).allows,
      search (rules, c.in_ok-is_deeper.ensures, c.if-branch.true),
    )

pub returns-clause-allowed : goal.returns-clause-allowed
returns-clause-allowed c =
    let items = c.args.tokens.now.items in
    let place = c.in-Err-Refused.place in (
      place,
      c.byte_of-at.ensures,
      (allows_at items c.args.part deepest place (omega arith) (subst (StopsAllowed items c.args.part 0 deepest) c.in-Err-Refused.field-0-is c.in-Err-Refused.ensures.allowed)).allows,
    )

pub returns-in-Ok-clause-only : goal.returns-in-Ok-clause-only
returns-in-Ok-clause-only c = only_tree c.args.part deepest c.args.tokens.now.items c.in-Ok.tree c.in-Ok.ensures.tree

pub returns-then-branch-clause-stuck : goal.returns-then-branch-clause-stuck
returns-then-branch-clause-stuck c = (c.in-Err-Refused.place, c.byte_of-at.ensures, subst (StopsWhole c.args.tokens.now.items c.args.part deepest) c.in-Err-Refused.field-0-is c.in-Err-Refused.ensures.stuck)

pub returns-clause-stuck : goal.returns-clause-stuck
returns-clause-stuck c = (c.in-Err-Refused.place, c.byte_of-at.ensures, subst (StopsWhole c.args.tokens.now.items c.args.part deepest) c.in-Err-Refused.field-0-is c.in-Err-Refused.ensures.stuck)

pub is_deeper-requires-clause-within : goal.is_deeper-requires-clause-within
is_deeper-requires-clause-within c =
    let items = c.args.tokens.now.items in
    (allows_at items c.args.part deepest c.in-Err-Refused.place (omega arith) (subst (StopsAllowed items c.args.part 0 deepest) c.in-Err-Refused.field-0-is c.in-Err-Refused.ensures.allowed)).within

pub returns-then-branch-clause-exact : goal.returns-then-branch-clause-exact
returns-then-branch-clause-exact c =
    let items = c.args.tokens.now.items in
    let place = c.in-Err-Refused.place in
    let a = allows_at items c.args.part deepest place (omega arith) (subst (StopsAllowed items c.args.part 0 deepest) c.in-Err-Refused.field-0-is c.in-Err-Refused.ensures.allowed) in
    let ends = subst (StopsText c.args.part items deepest) c.in-Err-Refused.field-0-is c.in-Err-Refused.ensures.ends in
    λ own. (place, c.byte_of-at.ensures, (refused_at items c.args.part place own a.allows a.within ends, search (rules, c.in_ok-is_deeper.ensures.deeper, c.if-branch.true)))

pub returns-then-branch-clause-complete : goal.returns-then-branch-clause-complete
returns-then-branch-clause-complete c =
    let items = c.args.tokens.now.items in
    let place = c.in-Err-Refused.place in
    let a = allows_at items c.args.part deepest place (omega arith) (subst (StopsAllowed items c.args.part 0 deepest) c.in-Err-Refused.field-0-is c.in-Err-Refused.ensures.allowed) in
    let ends = subst (StopsText c.args.part items deepest) c.in-Err-Refused.field-0-is c.in-Err-Refused.ensures.ends in
    λ own n whole e. absurd (no_text items c.args.part deepest place n (refused_at items c.args.part place own a.allows a.within ends).1 whole e)

pub returns-clause-exact : goal.returns-clause-exact
returns-clause-exact c =
    let items = c.args.tokens.now.items in
    let place = c.in-Err-Refused.place in
    let a = allows_at items c.args.part deepest place (omega arith) (subst (StopsAllowed items c.args.part 0 deepest) c.in-Err-Refused.field-0-is c.in-Err-Refused.ensures.allowed) in
    let ends = subst (StopsText c.args.part items deepest) c.in-Err-Refused.field-0-is c.in-Err-Refused.ensures.ends in
    let none : NoneGoesOn c.args.part items place = search (rules, c.in_ok-is_deeper.ensures.no_deeper, c.if-branch.false) in
    λ own. (place, c.byte_of-at.ensures, (refused_at items c.args.part place own a.allows a.within ends, none own))

pub returns-clause-complete : goal.returns-clause-complete
returns-clause-complete c =
    let items = c.args.tokens.now.items in
    let place = c.in-Err-Refused.place in
    let none : NoneGoesOn c.args.part items place = search (rules, c.in_ok-is_deeper.ensures.no_deeper, c.if-branch.false) in
    λ own n whole e. absurd (no_text items c.args.part deepest place n (none own deepest) whole e)
