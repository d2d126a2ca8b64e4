-- A page's pieces, written one after another, are its text.
use Rattle.std.proofs.Common.{◌≡◌, inl, inr, ℕ, ◌+◌, ◌-◌, Bool, true, false, List, [], ◌∷◌, ◌++◌, refl, sym, ap, ◌∙◌, append_assoc, append-nil, arith}
use Rattle.std.specs.Prelude.{◌==◌, codes, if◌then◌else◌}
use Rattle.std.specs.List.{flat_map}
use Rattle.std.proofs.lemmas.Bool.{cases_Bool, eqb-true}
use Rattle.xml_trees.specs.declared.tag.Tag.{Tag}
use Rattle.xml_trees.specs.declared.attrs.Attr.{Attr}
use Rattle.xml_trees.specs.declared.page.Piece.{Piece}
use Rattle.xml_trees.specs.declared.page.Piece.TheVariants.{Begin, Words as Said, End}
use Rattle.xml_trees.specs.Names.{is_void_name}
use Rattle.xml_trees.specs.Tags.{name_of}
use Rattle.xml_trees.specs.Trees.{Trees, Nothing, Words, Element, trees_and, Built, Whole, Within, built_and, IsWhole, trees_of, grown, grown_by, built, AreNested}
use Rattle.xml_trees.specs.Written.{written}
use Rattle.xml_trees.specs.PieceText.{escape, begin_bytes, end_bytes, piece_bytes, hidden_after, pieces_bytes, PiecesArePages}
use Rattle.xml_trees.proofs.Spelling.{markup_is, markup_of}
use Rattle.xml_trees.proofs.Normal.{is_normal, element_bytes, trees_bytes, same_text}

trees_bytes-and : (t u : Trees) → trees_bytes (trees_and t u) ≡ trees_bytes t ++ trees_bytes u
trees_bytes-and Nothing u = refl
trees_bytes-and (Words text rest) u = rw (trees_bytes-and rest u) (sym (append_assoc (flat_map escape text) (trees_bytes rest) (trees_bytes u)))
trees_bytes-and (Element tag attrs inside rest) u =
    rw (trees_bytes-and rest u) (sym (append_assoc (element_bytes tag attrs (trees_bytes inside)) (trees_bytes rest) (trees_bytes u)))

-- what is written of a page that is built so far

-- the number of unfinished elements from the outermost void one on
abbrev hidden : Built → ℕ
hidden (Whole t) = 0
hidden (Within outer tag attrs t) = if hidden outer == 0 then (if is_void_name (name_of tag) then 1 else 0) else hidden outer + 1

-- the bytes of an element that isn't ended
abbrev front_bytes : Tag → List Attr → List ℕ → List ℕ
front_bytes tag attrs inside = begin_bytes tag attrs ++ (if is_void_name (name_of tag) then [] else inside)

abbrev shown : Built → List ℕ
shown (Whole t) = trees_bytes t
shown (Within outer tag attrs t) = shown outer ++ (if hidden outer == 0 then front_bytes tag attrs (trees_bytes t) else [])

-- bytes that are written where nothing is hidden
abbrev unless_hidden : ℕ → List ℕ → List ℕ
unless_hidden n bytes = if n == 0 then bytes else []

hidden-and : (b : Built) (u : Trees) → hidden (built_and b u) ≡ hidden b
hidden-and (Whole t) u = refl
hidden-and (Within outer tag attrs t) u = refl

above_zero : (n : ℕ) → (n + 1 == 0) ≡ false
above_zero n = elim (cases_Bool (n + 1 == 0)) [ inl h ↦ absurd (let e : n + 1 ≡ 0 = eqb-true (n + 1) 0 h in omega arith) | inr h ↦ h ]

shown-and : (b : Built) (u : Trees) → shown (built_and b u) ≡ shown b ++ unless_hidden (hidden b) (trees_bytes u)
shown-and (Whole t) u = trees_bytes-and t u
shown-and (Within outer tag attrs t) u = elim (cases_Bool (hidden outer == 0)) [
  | inl h ↦ elim (cases_Bool (is_void_name (name_of tag))) [
    | inl v ↦ rw (h, v) (sym (append-nil (shown outer ++ (begin_bytes tag attrs ++ []))))
    | inr v ↦ rw (h, v, trees_bytes-and t u) (regroup (shown outer) (begin_bytes tag attrs) (trees_bytes t) (trees_bytes u))
  ]
  | inr h ↦ rw (h, above_zero (hidden outer)) (sym (append-nil (shown outer ++ [])))
]
  where
    regroup : (a b c d : List ℕ) → a ++ (b ++ (c ++ d)) ≡ (a ++ (b ++ c)) ++ d
    regroup a b c d = simp append_assoc

closes_hidden : (h : ℕ) (void : Bool) → h ≡ (if h == 0 then (if void then 1 else 0) else h + 1) - 1
closes_hidden h true = elim (cases_Bool (h == 0)) [ inl e ↦ rw e (eqb-true h 0 e) | inr e ↦ rw e (omega arith) ]
closes_hidden h false = elim (cases_Bool (h == 0)) [ inl e ↦ rw e (eqb-true h 0 e) | inr e ↦ rw e (omega arith) ]

closes_bytes : (s b t e : List ℕ) (h : ℕ) (void : Bool) → s ++ unless_hidden h ((b ++ (if void then [] else t ++ e)) ++ [])
    ≡ (s ++ unless_hidden h (b ++ (if void then [] else t))) ++ unless_hidden (if h == 0 then (if void then 1 else 0) else h + 1) e
closes_bytes s b t e h true = elim (cases_Bool (h == 0)) [
  | inl k ↦ rw k (simp (append_assoc, append-nil))
  | inr k ↦ rw (k, above_zero h) (simp append-nil)
]
closes_bytes s b t e h false = elim (cases_Bool (h == 0)) [
  | inl k ↦ rw k (simp (append_assoc, append-nil))
  | inr k ↦ rw (k, above_zero h) (simp append-nil)
]

-- one piece more

grows : (b : Built) (p : Piece) → AreNested b (p ∷ []) → (shown (grown b p) ≡ shown b ++ piece_bytes (hidden b) p) × (hidden (grown b p) ≡ hidden_after (hidden b) p)
grows b (Begin tag attrs) n = (begun, refl)
  where
    begun : shown b ++ (if hidden b == 0 then front_bytes tag attrs [] else []) ≡ shown b ++ unless_hidden (hidden b) (begin_bytes tag attrs)
    begun = elim (cases_Bool (is_void_name (name_of tag))) [
      | inl v ↦ rw v (ap (λ (l : List ℕ). shown b ++ unless_hidden (hidden b) l) (append-nil (begin_bytes tag attrs)))
      | inr v ↦ rw v (ap (λ (l : List ℕ). shown b ++ unless_hidden (hidden b) l) (append-nil (begin_bytes tag attrs)))
    ]
grows b (Said text) n =
    (shown-and b (Words text Nothing) ∙ ap (λ (l : List ℕ). shown b ++ unless_hidden (hidden b) l) (append-nil (flat_map escape text)), hidden-and b (Words text Nothing))
grows (Whole t) (End name) n = absurd n.0
grows (Within outer tag attrs t) (End name) n =
    let one = Element tag attrs t Nothing in
    let void = is_void_name (name_of tag) in
    let named : end_bytes (name_of tag) ≡ end_bytes name = ap end_bytes (sym n.0) in (
      shown-and outer one
          ∙ closes_bytes (shown outer) (begin_bytes tag attrs) (trees_bytes t) (end_bytes (name_of tag)) (hidden outer) void
          ∙ ap (λ (l : List ℕ). (shown outer ++ unless_hidden (hidden outer) (front_bytes tag attrs (trees_bytes t))) ++ unless_hidden (hidden (Within outer tag attrs t)) l) named,
      hidden-and outer one ∙ closes_hidden (hidden outer) void,
    )

run : (b : Built) (ps : List Piece) → AreNested b ps → shown (grown_by b ps) ≡ shown b ++ pieces_bytes (hidden b) ps
run b [] n = sym (append-nil (shown b))
run b (p ∷ ps) n = step b p ps (grows b p (first b p ps n)) (run (grown b p) ps (others b p ps n))
  where
    first : (b : Built) (p : Piece) (ps : List Piece) → AreNested b (p ∷ ps) → AreNested b (p ∷ [])
    first b (Begin tag attrs) ps n = tt
    first b (Said text) ps n = tt
    first b (End name) ps n = (n.0, tt)

    others : (b : Built) (p : Piece) (ps : List Piece) → AreNested b (p ∷ ps) → AreNested (grown b p) ps
    others b (Begin tag attrs) ps n = n
    others b (Said text) ps n = n
    others b (End name) ps n = n.1

    step : (b : Built) (p : Piece) (ps : List Piece) → (shown (grown b p) ≡ shown b ++ piece_bytes (hidden b) p) × (hidden (grown b p) ≡ hidden_after (hidden b) p)
        → shown (grown_by (grown b p) ps) ≡ shown (grown b p) ++ pieces_bytes (hidden (grown b p)) ps
        → shown (grown_by (grown b p) ps) ≡ shown b ++ (piece_bytes (hidden b) p ++ pieces_bytes (hidden_after (hidden b) p) ps)
    step b p ps g r =
        r ∙ ap (λ (l : List ℕ). l ++ pieces_bytes (hidden (grown b p)) ps) g.0
        ∙ append_assoc (shown b) (piece_bytes (hidden b) p) (pieces_bytes (hidden (grown b p)) ps)
        ∙ ap (λ (h : ℕ). shown b ++ (piece_bytes (hidden b) p ++ pieces_bytes h ps)) g.1

whole_bytes : (b : Built) → IsWhole b → shown b ≡ trees_bytes (trees_of b)
whole_bytes (Whole t) w = refl
whole_bytes (Within outer tag attrs t) w = absurd w

pub are_pages : PiecesArePages
are_pages ps n w =
    let trees = trees_of (built ps) in
    let content = markup_of (written trees) (is_normal trees) in
    let bytes : content.0 ≡ pieces_bytes 0 ps =
    sym (append-nil content.0) ∙ (markup_is content.0 (written trees) content.1).1 [] ∙ same_text trees [] ∙ append-nil (trees_bytes trees)
    ∙ sym (whole_bytes (built ps) w) ∙ run (Whole Nothing) ps n in
    (content.0, ap (λ (l : List ℕ). codes "<!DOCTYPE html><html>" ++ (l ++ codes "</html>")) (sym bytes), content.1)
