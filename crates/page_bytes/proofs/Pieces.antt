-- The bytes of pieces, from one of them on.
use Rattle.std.proofs.Common.{◌≡◌, ℕ, suc, ◌+◌, ◌<◌, ◌≤◌, List, ◌∷◌, ◌++◌, sym, ap, ◌∙◌, append_assoc, append-nil, drop, length, get_or, add-one, drop-cons}
use Rattle.std.proofs.Math.ListN.{drop_of_length-le}
use Rattle.xml_trees.specs.declared.page.Piece.{Piece}
use Rattle.xml_trees.specs.PieceText.{piece_bytes, pieces_bytes, hidden_after}

first : (ps : List Piece) (i : ℕ) (p : Piece) → i < length ps → p ≡ get_or ps i p → drop i ps ≡ p ∷ drop (i + 1) ps
first ps i p lt is = rw add-one (drop-cons ps i p lt ∙ ap (λ (q : Piece). q ∷ drop (suc i) ps) (sym is))

pub piece_between : (ps : List Piece) (i h : ℕ) (p : Piece) (before all : List ℕ) → i < length ps → p ≡ get_or ps i p
    → before ++ pieces_bytes h (drop i ps) ≡ all → before ++ (piece_bytes h p ++ pieces_bytes (hidden_after h p) (drop (i + 1) ps)) ≡ all
piece_between ps i h p before all lt is e = ap (λ (qs : List Piece). before ++ pieces_bytes h qs) (sym (first ps i p lt is)) ∙ e

pub piece_behind : (ps : List Piece) (i h k : ℕ) (p : Piece) (before all : List ℕ) → i < length ps → p ≡ get_or ps i p → k ≡ hidden_after h p
    → before ++ pieces_bytes h (drop i ps) ≡ all → (before ++ piece_bytes h p) ++ pieces_bytes k (drop (i + 1) ps) ≡ all
piece_behind ps i h k p before all lt is n e =
    append_assoc before (piece_bytes h p) (pieces_bytes k (drop (i + 1) ps))
    ∙ ap (λ (m : ℕ). before ++ (piece_bytes h p ++ pieces_bytes m (drop (i + 1) ps))) n ∙ piece_between ps i h p before all lt is e

pub no_piece : (ps : List Piece) (i h : ℕ) (before all : List ℕ) → length ps ≤ i → before ++ pieces_bytes h (drop i ps) ≡ all → before ≡ all
no_piece ps i h before all end e = sym (append-nil before) ∙ ap (λ (qs : List Piece). before ++ pieces_bytes h qs) (sym (drop_of_length-le ps {i = i} end)) ∙ e
