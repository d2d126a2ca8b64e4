-- What is written, and what is still to be written.
use Rattle.std.proofs.Common.{◌≡◌, ℕ, List, ◌∷◌, ◌++◌, map, ap, sym, ◌∙◌}
use Rattle.std.proofs.lemmas.List.{append_assoc}
use Rattle.table_rows.specs.Wires.{Wr}
use Rattle.table_rows.specs.View.{wire_tree, wires_from}
use Rattle.table_rows.specs.Pieces.{pieces, all_pieces}
use Rattle.table_rows.specs.declared.wire.Wire.{Wire}
use Rattle.link_router.specs.Links.{joined}
use Rattle.link_router.specs.Pending.{pending}
use Rattle.link_router.proofs.Escapes.{joined-append}

-- the first of a list, and then the others
pub first_pending : (w : Wr) (ws : List Wr) (rest : List (List Wr)) → pending ((w ∷ ws) ∷ rest) ≡ joined (pieces w) ++ pending (ws ∷ rest)
first_pending w ws rest =
    ap (λ xs. xs ++ pending rest) (joined-append (pieces w) (all_pieces (wires_from ws)))
    ∙ append_assoc (joined (pieces w)) (joined (all_pieces (wires_from ws))) (pending rest)

-- one turn of the writing
pub turn_written : (whole old now : List ℕ) (before between after rest : List (List Wr)) (values others : List Wire) (v : Wire) → old ++ pending before ≡ whole → before ≡ map wire_tree values ∷ rest → values ≡ v ∷ others → between ≡ map wire_tree others ∷ rest → now ++ pending after ≡ old ++ (joined (pieces (wire_tree v)) ++ pending between) → now ++ pending after ≡ whole
turn_written whole old now before between after rest values others v h e f g k =
    k
    ∙ ap (λ wss. old ++ (joined (pieces (wire_tree v)) ++ pending wss)) g
    ∙ ap (λ xs. old ++ xs) (sym (first_pending (wire_tree v) (map wire_tree others) rest))
    ∙ ap (λ vs. old ++ pending (map wire_tree vs ∷ rest)) (sym f)
    ∙ ap (λ wss. old ++ pending wss) (sym e)
    ∙ h
