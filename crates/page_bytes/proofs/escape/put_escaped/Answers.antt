use Rattle.std.proofs.Common.{◌≡◌, ◌+◌, ◌-◌, ℕ, List, refl, sym, ◌∙◌, arith}
use Rattle.page_bytes.specs.Escapes.{escape_in}
use Rattle.page_bytes.proofs.Putting.{puts_on, puts_off, run_between, run_and_byte, run_to_end, plain_more}
use Rattle.page_bytes.proofs.escape.put_escaped.Goals as goal
use Rattle.page_bytes.proofs.escape.put_escaped.Goals.{in-Some+in_ok-put_both-in-Some, in-None}

pub returns-in_err-put_both-in-Some : goal.returns-in_err-put_both-in-Some
returns-in_err-put_both-in-Some g c =
    puts_off _ _ _ _ _ _ _ _ _ _ _ _ _ _ _ _
    (run_between (escape_in c.args.value) c.args.text.now c.loop-at.from c.loop-at.at _ _ c.loop-at.invariant.in_range c.loop-at-test.true refl (c.in-Some.ensures ∙ sym c.as_bytes.ensures.value) c.loop-at.invariant.plain)
    c.from_residual.ensures.0 c.loop-at.invariant.puts c.in_err-put_both-in-Some.ensures

pub loop-at-preserved : goal.loop-at-preserved
loop-at-preserved g c =
    let f : ℕ → List ℕ = escape_in c.args.value in
    let text : List ℕ = c.args.text.now in
    let at : ℕ = c.loop-at.at in
    elim c.match-escape_of.branch [
      | in-Some+in_ok-put_both-in-Some w ↦ rw (w.held-is, w.sink-is, w.from-is) (
          let none : at + 1 - (at + 1) ≡ 0 = omega arith in record {
            puts = puts_on _ _ _ _ _ _ _ _ _ _ _ _ _ _
                (run_and_byte f text c.loop-at.from at _ _ c.loop-at.invariant.in_range c.loop-at-test.true refl (w.in-Some.ensures ∙ sym w.as_bytes.ensures.value) c.loop-at.invariant.plain)
                c.loop-at.invariant.puts w.in_ok-put_both-in-Some.ensures;
            plain = rw none refl;
            in_range = omega arith;
          }
          )
      | in-None w ↦ rw (w.held-is, w.sink-is, w.from-is) record {
        puts = c.loop-at.invariant.puts;
        plain = plain_more f text c.loop-at.from at _ c.loop-at.invariant.in_range c.loop-at-test.true refl w.in-None.ensures c.loop-at.invariant.plain;
        in_range = omega (arith, c.loop-at.invariant.in_range);
      }
    ]

pub returns : goal.returns
returns g c =
    puts_on _ _ _ _ _ _ _ _ _ _ _ _ _ _
    (run_to_end (escape_in c.args.value) c.args.text.now c.loop-at.from c.loop-at.at c.loop-at.invariant.in_range c.loop-at-test.false c.loop-at.invariant.plain)
    c.loop-at.invariant.puts c.put.ensures
