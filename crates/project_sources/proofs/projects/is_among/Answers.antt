use Rattle.std.proofs.Common.{◌≡◌, ◌<◌, ◌≤◌, true, false, length, arith, sym, ap, ◌∙◌}
use Rattle.std.specs.Prelude.{bytes_eq}
use Rattle.project_sources.proofs.Foreign.{among_here, among_behind, among_none}
use Rattle.project_sources.proofs.projects.is_among.Goals as goal

pub returns-then-eq : goal.returns-then-eq
returns-then-eq c =
    let below : c.loop-i.i < length c.args.others.now = omega (arith, c.len-i-end.ensures, c.loop-i-test.true) in
    let same : bytes_eq c.at.result.now c.args.text.now ≡ true =
    ap (λ l. bytes_eq l c.args.text.now) (sym c.as_str.ensures) ∙ sym c.eq.ensures ∙ c.if-eq.true in
    among_here c.args.text.now c.args.others.now c.loop-i.i c.at.result.now below c.at.ensures same c.loop-i.invariant

pub loop-i-preserved : goal.loop-i-preserved
loop-i-preserved c =
    let below : c.loop-i.i < length c.args.others.now = omega (arith, c.len-i-end.ensures, c.loop-i-test.true) in
    let other : bytes_eq c.at.result.now c.args.text.now ≡ false =
    ap (λ l. bytes_eq l c.args.text.now) (sym c.as_str.ensures) ∙ sym c.eq.ensures ∙ c.if-eq.false in
    among_behind c.args.text.now c.args.others.now c.loop-i.i c.at.result.now below c.at.ensures other
    c.loop-i.invariant

pub returns : goal.returns
returns c =
    let past : length c.args.others.now ≤ c.loop-i.i = omega (arith, c.len-i-end.ensures, c.loop-i-test.false) in
    among_none c.args.text.now c.args.others.now c.loop-i.i past c.loop-i.invariant
