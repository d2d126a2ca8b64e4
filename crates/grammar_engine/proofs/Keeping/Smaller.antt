-- Each step of reading takes a token, or brings what is to be read nearer to its tokens.
use Rattle.std.proofs.Common.{◌≡◌, ◌<◌, ◌≤◌, ◌+◌, ◌*◌, ℕ, max, List, [], ◌∷◌, ◌++◌, length, length-append, refl, sym, ap, subst, arith, Bool, true, false, drop}
use Rattle.surface_tree.specs.declared.token.Token.{Token}
use Rattle.surface_grammar.specs.declared.form.Form.{Form}
use Rattle.surface_grammar.specs.declared.part.Part.{Part}
use Rattle.surface_grammar.specs.declared.part.Part.TheVariants.{Word, One, Many, Maybe}
use Rattle.surface_grammar.specs.declared.rule.Rule.{Rule}
use Rattle.surface_grammar.specs.Forms.{rules_of}
use Rattle.surface_grammar.specs.Table.{body_of}
use Rattle.surface_grammar.specs.Trees.{IsIn}
use Rattle.grammar_engine.specs.declared.want.Want.{Want}
use Rattle.grammar_engine.specs.declared.machine.Machine.{Machine}
use Rattle.grammar_engine.specs.Moves.{wants_of, goes_by, MeetsPart}
use Rattle.grammar_engine.proofs.Table.Ranks.{rank_of, lead, rank_low, leads_below, body_short}

abbrev pub height_part : Part → ℕ → ℕ
height_part (Word w) below = 0
height_part (One g) below = 16 * rank_of g
height_part (Many g) below = max (16 * (rank_of g + 1)) below
height_part (Maybe g) below = max (16 * (rank_of g + 1)) below

abbrev pub height : List Want → ℕ
height [] = 0
height (w ∷ ws) = height_part w.part (height ws)

-- what is to be read, as a number
abbrev pub left_over : List Token → List Want → ℕ
left_over rest ws = 400 * length rest + (length ws + height ws)

part_low : (p : Part) (below : ℕ) → below < 380 → height_part p below < 380
part_low (Word w) below h = omega arith
part_low (One g) below h = omega (arith, rank_low g)
part_low (Many g) below h = omega (arith, rank_low g)
part_low (Maybe g) below h = omega (arith, rank_low g)

height_low : (ws : List Want) → height ws < 380
height_low [] = omega arith
height_low (w ∷ ws) = part_low w.part (height ws) (height_low ws)

height_body : (ps : List Part) (room tag : ℕ) (ws : List Want) → lead ps < 1000 → height (wants_of room tag ps ++ ws) ≤ 16 * lead ps
height_body [] room tag ws h = absurd (omega arith)
height_body (Word w ∷ ps) room tag ws h = omega arith
height_body (One g ∷ ps) room tag ws h = omega arith
height_body (Many g ∷ ps) room tag ws h = omega (arith, height_body ps room tag ws (omega arith))
height_body (Maybe g ∷ ps) room tag ws h = omega (arith, height_body ps room tag ws (omega arith))

length_wants : (ps : List Part) (room tag : ℕ) → length (wants_of room tag ps) ≡ length ps
length_wants [] room tag = refl
length_wants (p ∷ ps) room tag = omega (arith, length_wants ps room tag)

pub smaller_word : (rest : List Token) (t : Token) (w : Want) (ws : List Want) → left_over rest ws < left_over (t ∷ rest) (w ∷ ws)
smaller_word rest t w ws = omega (arith, height_low ws)

pub smaller_rule : (rest : List Token) (g : Form) (q : Rule) (room tag inner own : ℕ) (ws : List Want) → IsIn q (rules_of g)
    → left_over rest (wants_of inner own (body_of q) ++ ws) < left_over rest (record { part = One g; room = room; tag = tag } ∷ ws)
smaller_rule rest g q room tag inner own ws i =
    omega (arith, leads_below g q i, body_short g q i, rank_low g, height_body (body_of q) inner own ws (omega (arith, leads_below g q i, rank_low g)), length-append (wants_of inner own (body_of q)) ws, length_wants (body_of q) inner own)

pub smaller_end : (rest : List Token) (g : Form) (room tag : ℕ) (ws : List Want) → left_over rest ws < left_over rest (record { part = Many g; room = room; tag = tag } ∷ ws)
smaller_end rest g room tag ws = omega arith

pub smaller_item : (rest : List Token) (g : Form) (room tag : ℕ) (ws : List Want)
    → left_over rest (record { part = One g; room = room; tag = tag } ∷ record { part = Many g; room = room; tag = tag } ∷ ws) < left_over rest (record { part = Many g; room = room; tag = tag } ∷ ws)
smaller_item rest g room tag ws = omega arith

pub smaller_absent : (rest : List Token) (g : Form) (room tag : ℕ) (ws : List Want) → left_over rest ws < left_over rest (record { part = Maybe g; room = room; tag = tag } ∷ ws)
smaller_absent rest g room tag ws = omega arith

pub smaller_present : (rest : List Token) (g : Form) (room tag : ℕ) (ws : List Want)
    → left_over rest (record { part = One g; room = room; tag = tag } ∷ ws) < left_over rest (record { part = Maybe g; room = room; tag = tag } ∷ ws)
smaller_present rest g room tag ws = omega arith

-- a step of reading
smaller_goes : (b : Bool) (items : List Token) (g : Form) (room tag : ℕ) (m n : Machine) (p : Part) (extra ws : List Want)
    → goes_by b g room tag extra m n → drop n.at items ≡ drop m.at items
    → left_over (drop m.at items) m.wants < left_over (drop m.at items) ws → left_over (drop m.at items) (record { part = One g; room = room; tag = tag } ∷ extra ++ m.wants) < left_over (drop m.at items) ws
    → left_over (drop n.at items) n.wants < left_over (drop m.at items) ws
smaller_goes true items g room tag m n p extra ws by same ended more = subst (λ l. left_over l n.wants < left_over (drop m.at items) ws) (sym same) (subst (λ l. left_over (drop m.at items) l < left_over (drop m.at items) ws) (sym by.0) more)
smaller_goes false items g room tag m n p extra ws by same ended more = subst (λ l. left_over l n.wants < left_over (drop m.at items) ws) (sym same) (subst (λ l. left_over (drop m.at items) l < left_over (drop m.at items) ws) (sym by.0) ended)

pub smaller : (items : List Token) (p : Part) (room tag : ℕ) (m n : Machine) → MeetsPart items p room tag m n
    → left_over (drop n.at items) n.wants < left_over (drop m.at items) (record { part = p; room = room; tag = tag } ∷ m.wants)
smaller items (Word w) room tag m n s =
    subst (λ l. left_over (drop n.at items) n.wants < left_over l (record { part = Word w; room = room; tag = tag } ∷ m.wants)) (sym s.next)
    (subst (λ l. left_over (drop n.at items) l < left_over (s.token ∷ drop n.at items) (record { part = Word w; room = room; tag = tag } ∷ m.wants)) (sym s.wants) (smaller_word (drop n.at items) s.token (record { part = Word w; room = room; tag = tag }) m.wants))
smaller items (One g) room tag m n s =
    subst (λ i. left_over (drop i items) n.wants < left_over (drop m.at items) (record { part = One g; room = room; tag = tag } ∷ m.wants)) (sym s.at)
    (subst (λ l. left_over (drop m.at items) l < left_over (drop m.at items) (record { part = One g; room = room; tag = tag } ∷ m.wants)) (sym s.wants) (smaller_rule (drop m.at items) g s.rule room tag s.inner s.own m.wants s.built.rule))
smaller items (Many g) room tag m n s =
    smaller_goes s.taken items g room tag m n (Many g) (record { part = Many g; room = room; tag = tag } ∷ []) (record { part = Many g; room = room; tag = tag } ∷ m.wants) s.by (ap (λ i. drop i items) s.at) (smaller_end (drop m.at items) g room tag m.wants) (smaller_item (drop m.at items) g room tag m.wants)
smaller items (Maybe g) room tag m n s =
    smaller_goes s.taken items g room tag m n (Maybe g) [] (record { part = Maybe g; room = room; tag = tag } ∷ m.wants) s.by (ap (λ i. drop i items) s.at) (smaller_absent (drop m.at items) g room tag m.wants) (smaller_present (drop m.at items) g room tag m.wants)
