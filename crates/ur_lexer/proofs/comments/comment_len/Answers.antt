use Rattle.std.proofs.Common.{rules, ◌≡◌, ◌<◌, ◌≤◌, length, ◌+◌, ◌-◌, true, false, arith, subst, sym, ap, ◌∙◌, option_map, length-drop, add-zero, Some}
use Rattle.ur_lexer.specs.Comments.{opens, closes, inside, comment}
use Rattle.ur_lexer.proofs.Steps.CommentSteps.{inside_opens, inside_closes, inside_other, inside_end, inside_out, on}
use Rattle.ur_lexer.proofs.comments.comment_len.Goals as goal

pub inside-preserved-then-opens : goal.inside-preserved-then-opens
inside-preserved-then-opens c =
    let bs = c.inside.rest.now in
    let is = c.behind-rest-then-opens.ensures in
    let test : opens bs ≡ true = search (rules, c.opens.ensures.value, c.if-opens.true) in
    let long : 2 ≤ length bs = omega (arith, c.opens.ensures.within c.if-opens.true) in
    record {
      value = subst (λ l. comment c.args.bytes.now ≡ option_map (λ m. (c.inside.len + 2) + m) (inside (c.inside.depth + 1) l)) (sym is) (on _ c.inside.len 2 _ _ c.inside.invariant.value (inside_opens c.inside.depth bs c.inside-test.true test));
      within = omega (arith, c.inside.invariant.within, ap length is, length-drop 2 bs);
      shallow = omega arith;
      some = omega arith;
    }

pub inside-preserved-then-closes : goal.inside-preserved-then-closes
inside-preserved-then-closes c =
    let bs = c.inside.rest.now in
    let is = c.behind-rest-then-closes.ensures in
    let not_open : opens bs ≡ false = search (rules, c.opens.ensures.value, c.if-opens.false) in
    let test : closes bs ≡ true = search (rules, c.closes.ensures.value, c.if-closes.true) in
    let long : 2 ≤ length bs = omega (arith, c.closes.ensures.within c.if-closes.true) in
    record {
      value = subst (λ l. comment c.args.bytes.now ≡ option_map (λ m. (c.inside.len + 2) + m) (inside (c.inside.depth - 1) l)) (sym is) (on _ c.inside.len 2 _ _ c.inside.invariant.value (inside_closes c.inside.depth bs c.inside-test.true not_open test));
      within = omega (arith, c.inside.invariant.within, ap length is, length-drop 2 bs);
      shallow = omega arith;
      some = omega arith;
    }

pub returns-then-is_empty-clause-value : goal.returns-then-is_empty-clause-value
returns-then-is_empty-clause-value c =
    let bs = c.inside.rest.now in
    let empty : length bs ≡ 0 = search (rules, c.is_empty.ensures, c.if-is_empty.true) in
    sym (c.inside.invariant.value ∙ ap (option_map (λ m. c.inside.len + m)) (inside_end c.inside.depth bs c.inside-test.true empty))

pub inside-preserved : goal.inside-preserved
inside-preserved c =
    let bs = c.inside.rest.now in
    let is = c.behind-rest-else-is_empty.ensures in
    let not_open : opens bs ≡ false = search (rules, c.opens.ensures.value, c.if-opens.false) in
    let not_closed : closes bs ≡ false = search (rules, c.closes.ensures.value, c.if-closes.false) in
    let some : 0 < length bs = search (rules, c.is_empty.ensures, c.if-is_empty.false) in
    record {
      value = subst (λ l. comment c.args.bytes.now ≡ option_map (λ m. (c.inside.len + 1) + m) (inside c.inside.depth l)) (sym is) (on _ c.inside.len 1 _ _ c.inside.invariant.value (inside_other c.inside.depth bs c.inside-test.true not_open not_closed some));
      within = omega (arith, c.inside.invariant.within, ap length is, length-drop 1 bs);
      shallow = omega arith;
      some = omega arith;
    }

pub returns-clause-value : goal.returns-clause-value
returns-clause-value c =
    let none : c.inside.depth ≡ 0 = omega arith in
    sym (c.inside.invariant.value ∙ ap (λ d. option_map (λ m. c.inside.len + m) (inside d c.inside.rest.now)) none ∙ ap (option_map (λ m. c.inside.len + m)) (inside_out c.inside.rest.now) ∙ ap Some (add-zero c.inside.len))
