use Rattle.std.proofs.Common.{◌++◌, ◌∷◌, ◌∙◌, take, ap, sym, arith}
use Rattle.link_router.specs.Links.{joined}
use Rattle.link_router.proofs.Escapes.{names-more, one_further}
use Rattle.link_router.proofs.texts.push_names.Goals as goal

pub loop-i-preserved : goal.loop-i-preserved
loop-i-preserved c =
    one_further c.args.text.now c.loop-i.text c.push_piece.new.text (joined (take c.loop-i.i c.args.names.now)) (47 ∷ c.as_str.result.now) _ c.loop-i.invariant c.in_ok-push_piece.ensures
    (names-more c.args.names.now c.loop-i.i c.at.result.now (omega (arith, c.loop-i-test.true, c.len-i-end.ensures)) ∙ ap (λ xs. joined (take c.loop-i.i c.args.names.now) ++ 47 ∷ xs) (sym c.at.ensures ∙ sym c.as_str.ensures))
