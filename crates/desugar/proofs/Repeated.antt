-- Repetitions and rules, tree by tree.
use Rattle.std.proofs.Common.{◌≡◌, ℕ, zero, suc, ◌≤◌, true, false, List, [], ◌∷◌, length, drop, refl, ap, sym, ◌∙◌, arith}
use Rattle.surface_grammar.specs.declared.part.Part.{Part}
use Rattle.desugar_values.specs.Meanings.{MeaningTree, absent, MeaningsTree, no_meaning, meaning, and_one}
use Rattle.desugar.specs.Stacks.{Entry, item, end, value, met, first_met, left, is_item, repeated, part_met, parts_met}

-- these before those
abbrev pub joined : MeaningsTree → MeaningsTree → MeaningsTree
joined no_meaning ys = ys
joined (meaning x xs) ys = meaning x (joined xs ys)

pub joined_more : (xs : MeaningsTree) (x : MeaningTree) (ys : MeaningsTree) → joined (and_one xs x) ys ≡ joined xs (meaning x ys)
joined_more no_meaning x ys = refl
joined_more (meaning z xs) x ys = ap (λ zs. meaning z zs) (joined_more xs x ys)

pub joined_all : (xs : MeaningsTree) → joined xs no_meaning ≡ xs
joined_all no_meaning = refl
joined_all (meaning x xs) = ap (λ zs. meaning x zs) (joined_all xs)

-- one more tree
pub repeated_more_is : (es : List Entry) → is_item es ≡ true → repeated es ≡ (meaning (first_met (left es)) (repeated (left (left es))).0, (repeated (left (left es))).1)
repeated_more_is [] e = absurd (cc)
repeated_more_is (item ∷ []) e = refl
repeated_more_is (item ∷ d ∷ es) e = refl
repeated_more_is (end ∷ es) e = absurd (cc)
repeated_more_is (value m ∷ es) e = absurd (cc)

-- and no more
pub repeated_ends : (es : List Entry) → is_item es ≡ false → repeated es ≡ (no_meaning, left es)
repeated_ends [] e = refl
repeated_ends (item ∷ es) e = absurd (cc)
repeated_ends (end ∷ es) e = refl
repeated_ends (value m ∷ es) e = refl

-- what is gathered of a repetition, behind one more tree
pub repeated_turn : (all es more : List Entry) (ms ns : MeaningsTree) → repeated all ≡ (joined ms (repeated es).0, (repeated es).1) → is_item es ≡ true
    → ns ≡ and_one ms (first_met (left es)) → more ≡ left (left es) → repeated all ≡ (joined ns (repeated more).0, (repeated more).1)
repeated_turn all es more ms ns so_far goes_on one rest =
    so_far
    ∙ ap (λ r. (joined ms r.0, r.1)) (repeated_more_is es goes_on)
    ∙ ap (λ xs. (xs, (repeated (left (left es))).1)) (sym (joined_more ms (first_met (left es)) (repeated (left (left es))).0))
    ∙ ap (λ u. (joined u (repeated (left (left es))).0, (repeated (left (left es))).1)) (sym one)
    ∙ ap (λ l. (joined ns (repeated l).0, (repeated l).1)) (sym rest)

-- and behind the last
pub repeated_whole : (all es : List Entry) (ms : MeaningsTree) → repeated all ≡ (joined ms (repeated es).0, (repeated es).1) → is_item es ≡ false
    → repeated all ≡ (ms, left es)
repeated_whole all es ms so_far ends =
    so_far ∙ ap (λ r. (joined ms r.0, r.1)) (repeated_ends es ends) ∙ ap (λ xs. (xs, left es)) (joined_all ms)

-- the parts of a rule behind what is gathered of them
abbrev pub parts_onto : List Part → MeaningsTree → List Entry → MeaningsTree × List Entry
parts_onto [] ms es = (ms, es)
parts_onto (p ∷ ps) ms es = parts_onto ps (and_one ms (part_met p es).0) (part_met p es).1

pub parts_onto_is : (ps : List Part) (ms : MeaningsTree) (es : List Entry) → parts_onto ps ms es ≡ (joined ms (parts_met ps es).0, (parts_met ps es).1)
parts_onto_is [] ms es = ap (λ xs. (xs, es)) (sym (joined_all ms))
parts_onto_is (p ∷ ps) ms es =
    parts_onto_is ps (and_one ms (part_met p es).0) (part_met p es).1
    ∙ ap (λ xs. (xs, (parts_met ps (part_met p es).1).1)) (joined_more ms (part_met p es).0 (parts_met ps (part_met p es).1).0)

dropped_all : {X : Type 0} (xs : List X) (i : ℕ) → length xs ≤ i → drop i xs ≡ []
dropped_all [] zero h = refl
dropped_all [] (suc i) h = refl
dropped_all (y ∷ xs) zero h = absurd (omega arith)
dropped_all (y ∷ xs) (suc i) h = dropped_all xs i (omega arith)

-- all of them
pub parts_whole : (ps : List Part) (i : ℕ) (all es : List Entry) (ms : MeaningsTree) → length ps ≤ i
    → parts_onto (drop i ps) ms es ≡ parts_onto ps no_meaning all → (ms, es) ≡ parts_met ps all
parts_whole ps i all es ms h so_far =
    sym (ap (λ l. parts_onto l ms es) (dropped_all ps i h)) ∙ so_far ∙ parts_onto_is ps no_meaning all
