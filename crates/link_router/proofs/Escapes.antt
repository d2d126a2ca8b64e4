-- Links piece by piece.
use Rattle.std.proofs.Common.{◌≡◌, ℕ, ◌<◌, ◌≤◌, ◌+◌, Bool, true, false, not, if◌then◌else◌, List, [], ◌∷◌, ◌++◌, map, take, length, get_or, Some, option_map, slice_get, refl, ap, ap₂, sym, ◌∙◌, arith, inl, inr}
use Rattle.std.proofs.lemmas.Bool.{agree_below_at, cases_lt}
use Rattle.std.proofs.lemmas.List.{append-nil, append_assoc, map_more, take_more}
use Rattle.std.proofs.lemmas.Option.{slice_get-map, slice_get_read}
use Rattle.percent_encoding.specs.AsciiSet.{should_percent_encode}
use Rattle.percent_encoding.specs.Percent.{percent_encode, encode_byte, percent_encode_byte}
use Rattle.table_rows.specs.Wires.{Wr}
use Rattle.table_rows.specs.View.{wires_from, wire_tree}
use Rattle.table_rows.specs.declared.wire.Wire.{Wire}
use Rattle.table_rows.specs.Pieces.{is_unreserved, escaped_byte, escaped, pieces, all_pieces}
use Rattle.link_router.specs.Links.{joined}
use Rattle.link_router.specs.declared.texts.TheConstants.{ESCAPED}

unreserved_high : (b : ℕ) → 128 ≤ b → is_unreserved b ≡ false
unreserved_high b high = grind arith

pub escapes : (b : ℕ) → should_percent_encode ESCAPED b ≡ not (is_unreserved b)
unfolding should_percent_encode
escapes b = elim (cases_lt b 128) [
  | inl low ↦ agree_below_at (should_percent_encode ESCAPED) (λ c. not (is_unreserved c)) 128 b refl low
  | inr high ↦ rw (unreserved_high b high) (grind arith)
]

byte_escaped : (b : ℕ) → encode_byte ESCAPED b ≡ escaped_byte b
unfolding percent_encode_byte
byte_escaped b = rw (escapes b) (go (is_unreserved b))
  where
    go : (t : Bool) → (if not t then percent_encode_byte b else b ∷ []) ≡ (if t then b ∷ [] else percent_encode_byte b)
    go true = refl
    go false = refl

pub text_escaped : (bs : List ℕ) → percent_encode ESCAPED bs ≡ escaped bs
unfolding percent_encode
text_escaped [] = refl
text_escaped (b ∷ bs) = ap₂ (λ x y. x ++ y) (byte_escaped b) (text_escaped bs)

-- pieces one after another
pub joined-append : (ps qs : List (List ℕ)) → joined (ps ++ qs) ≡ joined ps ++ joined qs
joined-append [] qs = refl
joined-append (p ∷ ps) qs = ap (λ xs. 47 ∷ p ++ xs) (joined-append ps qs) ∙ ap (λ xs. 47 ∷ xs) (sym (append_assoc p (joined ps) (joined qs)))

all_pieces-more : (ws : List Wr) (w : Wr) → all_pieces (wires_from (ws ++ w ∷ [])) ≡ all_pieces (wires_from ws) ++ pieces w
all_pieces-more [] w = append-nil (pieces w)
all_pieces-more (v ∷ ws) w = ap (λ xs. pieces v ++ xs) (all_pieces-more ws w) ∙ sym (append_assoc (pieces v) (all_pieces (wires_from ws)) (pieces w))

-- what values that are done have written
abbrev pub written_of : List Wire → List ℕ
written_of ws = joined (all_pieces (wires_from (map wire_tree ws)))

pub written-more : (ws : List Wire) (i : ℕ) (d : Wire) → i < length ws → written_of (take (i + 1) ws) ≡ written_of (take i ws) ++ joined (pieces (wire_tree (get_or ws i d)))
written-more ws i d h =
    ap (λ vs. joined (all_pieces (wires_from vs))) (map_more wire_tree ws i d h)
    ∙ ap joined (all_pieces-more (map wire_tree (take i ws)) (wire_tree (get_or ws i d)))
    ∙ joined-append (all_pieces (wires_from (map wire_tree (take i ws)))) (pieces (wire_tree (get_or ws i d)))

pub names-more : (names : List (List ℕ)) (i : ℕ) (d : List ℕ) → i < length names → joined (take (i + 1) names) ≡ joined (take i names) ++ 47 ∷ get_or names i d
names-more names i d h =
    ap joined (take_more names i d h) ∙ joined-append (take i names) (get_or names i d ∷ []) ∙ ap (λ xs. joined (take i names) ++ 47 ∷ xs) (append-nil (get_or names i d))

pub one_further : (old now next done more whole : List ℕ) → now ≡ old ++ done → next ≡ now ++ more → whole ≡ done ++ more → next ≡ old ++ whole
one_further old now next done more whole h g e = g ∙ ap (λ xs. xs ++ more) h ∙ append_assoc old done more ∙ ap (λ xs. old ++ xs) (sym e)

-- the element at a place, mapped
pub mapped_at : {X Y : Type 0} (f : X → Y) (xs : List X) (i : ℕ) (x : X) → i < length xs → x ≡ get_or xs i x → slice_get (map f xs) i ≡ Some (f x)
mapped_at f xs i x h e = slice_get-map f xs i ∙ ap (option_map f) (slice_get_read xs (length xs) i x refl h e)
