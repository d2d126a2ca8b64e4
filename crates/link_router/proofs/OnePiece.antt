-- Values of one piece.
use Rattle.std.proofs.Common.{◌≡◌, ℕ, ℤ, List, [], ◌∷◌, drop, Option, Some, None, IfSome, IfNone, ap, sym, subst, ◌∙◌, w64, to_z, of_z}
use Rattle.std.proofs.lemmas.Int.{to_z-of_z}
use Rattle.table_rows.specs.Wires.{Wr, Wrs, int, words, unit, bare}
use Rattle.table_rows.specs.View.{wire_tree, wire_step, wires_step}
use Rattle.table_rows.specs.declared.wire.Wire.TheOpen.{Wire-F}
use Rattle.table_rows.specs.declared.wire.Wire.TheViews.{rolls-Int, rolls-Words, rolls-Unit, Tagged, rolls-Tagged}
use Rattle.table_rows.specs.declared.wire.Wire.TheVariants.{Int, Words, Unit}
use Rattle.table_rows.specs.declared.wire.Wire.TheFolds.{fold-roll-Wire}
use Rattle.table_rows.specs.Shapes.{Sh, an_int, a_text, a_truth, Cases}
use Rattle.link_router.specs.Reading.{IsNumber, IsWords, IsTruth, Reads, reads_int, reads_text, reads_truth, bad, few, Stops}

number_tree : (z : ℤ) → wire_tree (Int z) ≡ int z
number_tree z = ap wire_tree (sym (rolls-Int z)) ∙ fold-roll-Wire Wr Wrs wire_step wires_step (Wire-F.Int z)

words_tree : (t : List ℕ) → wire_tree (Words t) ≡ words t
words_tree t = ap wire_tree (sym (rolls-Words t)) ∙ fold-roll-Wire Wr Wrs wire_step wires_step (Wire-F.Words t)

pub unit_tree : wire_tree Unit ≡ unit
unit_tree = ap wire_tree (sym rolls-Unit) ∙ fold-roll-Wire Wr Wrs wire_step wires_step Wire-F.Unit

-- the first piece is the value
pub first_read : {D : List Cases} {s : Sh} {ps qs : List (List ℕ)} {p : List ℕ} {w : Wr} → ps ≡ p ∷ drop 1 ps → qs ≡ drop 1 ps → Reads D s (p ∷ drop 1 ps) w (drop 1 ps) → Reads D s ps w qs
first_read {D} {s} {ps} {qs} {p} {w} e d r = subst (λ rs. Reads D s ps w rs) (sym d) (subst (λ xs. Reads D s xs w (drop 1 ps)) (sym e) r)

pub number_read : {D : List Cases} {ps qs : List (List ℕ)} {p : List ℕ} {z : ℤ} → ps ≡ p ∷ drop 1 ps → qs ≡ drop 1 ps → IsNumber p z → Reads D an_int ps (wire_tree (Int (to_z w64 (of_z w64 z)))) qs
number_read {D} {ps} {qs} {z = z} e d n = subst (λ w. Reads D an_int ps w qs) (ap int (sym (to_z-of_z w64 z n.fits)) ∙ sym (number_tree (to_z w64 (of_z w64 z)))) (first_read e d (reads_int n))

-- it isn't of the part's form
pub first_bad : {D : List Cases} {s : Sh} {ps : List (List ℕ)} {p : List ℕ} → ps ≡ p ∷ drop 1 ps → Stops D s (p ∷ drop 1 ps) (bad (p ∷ drop 1 ps)) → Stops D s ps (bad ps)
first_bad {D} {s} e h = subst (λ xs. Stops D s xs (bad xs)) (sym e) h

-- there is none
pub none_left : {D : List Cases} {s : Sh} {ps : List (List ℕ)} → ps ≡ [] → Stops D s [] few → Stops D s ps few
none_left {D} {s} e h = subst (λ xs. Stops D s xs few) (sym e) h

pub if_some : {A : Type 0} (P : A → Type 0) {a : A} (o : Option A) → IfSome o P → o ≡ Some a → P a
if_some {A} P o h e = let Q : Option A → Type 0 = λ x. IfSome x P in subst Q e h

pub if_none : {A : Type 0} (P : Type 0) (o : Option A) → IfNone o P → o ≡ None → P
if_none {A} P o h e = let Q : Option A → Type 0 = λ x. IfNone x P in subst Q e h

pub bare_tree : (n : List ℕ) → wire_tree (Tagged n None) ≡ bare n
bare_tree n = ap wire_tree (sym (rolls-Tagged n None)) ∙ fold-roll-Wire Wr Wrs wire_step wires_step (Wire-F.Tagged n None)

pub truth_read : {D : List Cases} {ps qs : List (List ℕ)} {p : List ℕ} (n : List ℕ) → ps ≡ p ∷ drop 1 ps → qs ≡ drop 1 ps → IsTruth p → n ≡ p → Reads D a_truth ps (wire_tree (Tagged n None)) qs
truth_read {D} {ps} {qs} n e d t f = subst (λ w. Reads D a_truth ps w qs) (ap bare (sym f) ∙ sym (bare_tree n)) (first_read e d (reads_truth t))

pub words_read : {D : List Cases} {ps qs : List (List ℕ)} {p : List ℕ} (t : List ℕ) → ps ≡ p ∷ drop 1 ps → qs ≡ drop 1 ps → IsWords p t → Reads D a_text ps (wire_tree (Words t)) qs
words_read {D} {ps} {qs} t e d n = subst (λ w. Reads D a_text ps w qs) (sym (words_tree t)) (first_read e d (reads_text n))
