use Rattle.std.proofs.Common.{refl, sym, ap, ◌∙◌, arith}
use Rattle.con_terms.specs.View.{con_tree}
use Rattle.disjoint_prover.specs.Separation.{among}
use Rattle.disjoint_prover.proofs.Pieces.{among_first, among_second, among_itself, among_here, among_later, names_step, names_end}
use Rattle.disjoint_prover.proofs.Trees.{tree_cat, tree_app}
use Rattle.disjoint_prover.proofs.prover.+has_piece.Goals as goal

pub has_piece-returns-then-has_piece : goal.has_piece-returns-then-has_piece
has_piece-returns-then-has_piece t c =
    among_first _ _ _ _ _ (tree_cat c.args.row.now c.deref.result.now c.in-Cat.b.value c.in-Cat.a c.in-Cat.b c.in-Cat.is c.deref.ensures refl) c.has_piece.ensures c.if-has_piece.true

pub has_piece-returns-else-has_piece : goal.has_piece-returns-else-has_piece
has_piece-returns-else-has_piece t c =
    among_second _ _ _ _ _ _ (tree_cat c.args.row.now c.deref.result.now c.deref-else-has_piece.result.now c.in-Cat.a c.in-Cat.b c.in-Cat.is c.deref.ensures c.deref-else-has_piece.ensures) c.has_piece.ensures c.if-has_piece.false c.has_piece-else-has_piece.ensures

pub has_piece-returns-else-is_map : goal.has_piece-returns-else-is_map
has_piece-returns-else-is_map t c =
    among_itself _ _ _ _ _ _ (tree_app c.args.row.now c.deref-in-App.result.now c.in-App.r.value c.in-App.f c.in-App.r c.in-App.is c.deref-in-App.ensures refl) c.is_map.ensures c.if-is_map.false c.same_con.ensures

pub has_name-returns-then-has_piece : goal.has_name-returns-then-has_piece
has_name-returns-then-has_piece t c =
    among_here _ _ _ _ _ _ (names_step c.args.ps.now c.loop-i.i _ (omega arith) c.index.ensures) c.has_piece.ensures c.if-has_piece.true c.loop-i.invariant

pub has_name-loop-i-preserved : goal.has_name-loop-i-preserved
has_name-loop-i-preserved t c =
    among_later _ _ _ _ _ _ (names_step c.args.ps.now c.loop-i.i _ (omega arith) c.index.ensures) c.has_piece.ensures c.if-has_piece.false c.loop-i.invariant

pub has_name-returns : goal.has_name-returns
has_name-returns t c = sym (c.loop-i.invariant ∙ ap (among (con_tree c.args.piece.now)) (names_end c.args.ps.now c.loop-i.i (omega arith)))
