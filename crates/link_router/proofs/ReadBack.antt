-- Reading what was sent: at the shapes of values, pieces are read as just one value.
use Rattle.std.proofs.Common.{◌≡◌, ℕ, ℤ, List, ◌∷◌, ◌++◌, Option, Some, None, slice_get, refl, ap, sym, subst, ◌∙◌, inl, inr}
use Rattle.std.specs.List.{Contains}
use Rattle.std.proofs.lemmas.List.{append_assoc}
use Rattle.std.proofs.lemmas.Fmt.{signed_decimal_injective}
use Rattle.std.proofs.lemmas.Option.{same_Some}
use Rattle.table_rows.specs.Wires.{Wr, int, words, rec_of, bare, tagged, Wrs, wire}
use Rattle.table_rows.specs.Shapes.{Sh, a_truth, Shs, shape, Pts, part, Cases, at_arguments, HasShape, int_has, text_has, unit_has, true_has, false_has, record_has, bare_has, tagged_has, HaveParts, no_parts_have, part_has, HaveShapes, no_shapes_have, shape_has}
use Rattle.link_router.specs.Calls.{IsCarried, AreCarried}
use Rattle.link_router.specs.Reading.{IsNumber, IsWords, IsTruth, Reads, reads_int, reads_text, reads_unit, reads_truth, reads_record, reads_bare, reads_tagged, ReadsParts, reads_no_part, reads_part, ReadsAll, reads_none, reads_one}
use Rattle.link_router.proofs.Listed.{one_value}
use Rattle.link_router.proofs.Sent.{sent, all_sent, fits_mag, listed_in}

mutual
  -- a value's pieces are read as it
  pub value_read : {D : List Cases} {s : Sh} {w : Wr} (rest : List (List ℕ)) → HasShape D s w → IsCarried w → Reads D s (sent w ++ rest) w rest
  value_read rest int_has c = reads_int (record { fits = c; decimal = refl })
  value_read rest text_has c = reads_text (record { utf8 = c; behind = refl })
  value_read rest unit_has c = reads_unit
  value_read rest true_has c = reads_truth (inl refl)
  value_read rest false_has c = reads_truth (inr refl)
  value_read rest (record_has ps) c = reads_record (parts_read rest ps c)
  value_read rest (bare_has e i) c = reads_bare e i
  value_read rest (tagged_has e i h) c = reads_tagged e i (value_read rest h c)

  parts_read : {D : List Cases} {ps : Pts} {ws : Wrs} (rest : List (List ℕ)) → HaveParts D ps ws → AreCarried ws → ReadsParts D ps (all_sent ws ++ rest) ws rest
  parts_read rest no_parts_have c = reads_no_part
  parts_read {D} rest (part_has {n = n} {s = s} {ps = ps} {w = w} {ws = ws} h k) c =
      subst (λ xs. ReadsParts D (part n s ps) xs (wire w ws) rest) (sym (append_assoc (sent w) (all_sent ws) rest)) (reads_part (value_read (all_sent ws ++ rest) h c.0) (parts_read rest k c.1))

pub values_read : {D : List Cases} {ss : Shs} {ws : Wrs} (rest : List (List ℕ)) → HaveShapes D ss ws → AreCarried ws → ReadsAll D ss (all_sent ws ++ rest) ws rest
values_read rest no_shapes_have c = reads_none
values_read {D} rest (shape_has {s = s} {ss = ss} {w = w} {ws = ws} h k) c =
    subst (λ xs. ReadsAll D (shape s ss) xs (wire w ws) rest) (sym (append_assoc (sent w) (all_sent ws) rest)) (reads_one (value_read (all_sent ws ++ rest) h c.0) (values_read rest k c.1))

-- and what is read has the shape, is carried, and was sent so
pub record Was (D : List Cases) (s : Sh) (ps : List (List ℕ)) (w : Wr) (qs : List (List ℕ)) : Type 0 where
  pub shaped : HasShape D s w
  pub carried : IsCarried w
  pub pieces : ps ≡ sent w ++ qs

pub record WereParts (D : List Cases) (fs : Pts) (ps : List (List ℕ)) (ws : Wrs) (qs : List (List ℕ)) : Type 0 where
  pub shaped : HaveParts D fs ws
  pub carried : AreCarried ws
  pub pieces : ps ≡ all_sent ws ++ qs

truth_was : {D : List Cases} {p : List ℕ} {ps : List (List ℕ)} → IsTruth p → Was D a_truth (p ∷ ps) (bare p) ps
truth_was {D} {p} {ps} (inl e) = record { shaped = subst (λ x. HasShape D a_truth (bare x)) (sym e) true_has; carried = tt; pieces = refl }
truth_was {D} {p} {ps} (inr e) = record { shaped = subst (λ x. HasShape D a_truth (bare x)) (sym e) false_has; carried = tt; pieces = refl }

mutual
  pub was_sent : {D : List Cases} {s : Sh} {ps qs : List (List ℕ)} {w : Wr} → Reads D s ps w qs → Was D s ps w qs
  was_sent (reads_int {ps = ps} n) = record { shaped = int_has; carried = n.fits; pieces = ap (λ p. p ∷ ps) n.decimal }
  was_sent (reads_text {ps = ps} n) = record { shaped = text_has; carried = n.utf8; pieces = ap (λ p. p ∷ ps) n.behind }
  was_sent reads_unit = record { shaped = unit_has; carried = tt; pieces = refl }
  was_sent (reads_truth t) = truth_was t
  was_sent (reads_record fs) = let w = were_sent fs in record { shaped = record_has w.shaped; carried = w.carried; pieces = w.pieces }
  was_sent (reads_bare e i) = record { shaped = bare_has e i; carried = tt; pieces = refl }
  was_sent (reads_tagged {p = p} e i h) = let w = was_sent h in record { shaped = tagged_has e i w.shaped; carried = w.carried; pieces = ap (λ ps. p ∷ ps) w.pieces }

  were_sent : {D : List Cases} {fs : Pts} {ps qs : List (List ℕ)} {ws : Wrs} → ReadsParts D fs ps ws qs → WereParts D fs ps ws qs
  were_sent reads_no_part = record { shaped = no_parts_have; carried = tt; pieces = refl }
  were_sent (reads_part {rs = rs} {w = w} {ws = ws} h k) =
      let x = was_sent h in
      let y = were_sent k in
      record { shaped = part_has x.shaped y.shaped; carried = (x.carried, y.carried); pieces = x.pieces ∙ ap (λ xs. sent w ++ xs) y.pieces ∙ sym (append_assoc (sent w) (all_sent ws) rs) }

pub record WereAll (D : List Cases) (ss : Shs) (ps : List (List ℕ)) (ws : Wrs) (qs : List (List ℕ)) : Type 0 where
  pub shaped : HaveShapes D ss ws
  pub carried : AreCarried ws
  pub pieces : ps ≡ all_sent ws ++ qs

pub all_were_sent : {D : List Cases} {ss : Shs} {ps qs : List (List ℕ)} {ws : Wrs} → ReadsAll D ss ps ws qs → WereAll D ss ps ws qs
all_were_sent reads_none = record { shaped = no_shapes_have; carried = tt; pieces = refl }
all_were_sent (reads_one {rs = rs} {w = w} {ws = ws} h k) =
    let x = was_sent h in
    let y = all_were_sent k in
    record { shaped = shape_has x.shaped y.shaped; carried = (x.carried, y.carried); pieces = x.pieces ∙ ap (λ xs. sent w ++ xs) y.pieces ∙ sym (append_assoc (sent w) (all_sent ws) rs) }

-- one value at most
abbrev pub OneOfAName : List Cases → Type 0
OneOfAName D = (cs : Cases) (n : List ℕ) (h k : Option Sh) → Contains D cs → Contains cs (n, h) → Contains cs (n, k) → h ≡ k

pub heads : {X : Type 0} {x y : X} {xs ys : List X} → x ∷ xs ≡ y ∷ ys → x ≡ y
heads h = cc

pub tails : {X : Type 0} {x y : X} {xs ys : List X} → x ∷ xs ≡ y ∷ ys → xs ≡ ys
tails h = cc

same_number : {p q : List ℕ} {z y : ℤ} → IsNumber p z → IsNumber q y → p ≡ q → z ≡ y
same_number {z = z} {y = y} n m e = signed_decimal_injective z y (fits_mag z n.fits) (fits_mag y m.fits) (sym n.decimal ∙ e ∙ m.decimal)

same_words : {p q t u : List ℕ} → IsWords p t → IsWords q u → p ≡ q → t ≡ u
same_words n m e = tails (sym n.behind ∙ e ∙ m.behind)

-- what a constructor of a name holds, in a datatype found twice
pub one_held : (D : List Cases) (d : ℕ) {cs es : Cases} {p q : List ℕ} {h k : Option Sh} → OneOfAName D → slice_get D d ≡ Some cs → Contains cs (p, h) → slice_get D d ≡ Some es → Contains es (q, k) → p ≡ q → h ≡ k
one_held D d {cs} {es} {p} {q} {h} {k} o e i g j same =
    o cs p h k (listed_in D d cs e) i (subst (λ x. Contains x (p, k)) (sym (one_value e g)) (subst (λ x. Contains es (x, k)) (sym same) j))

pub no_other : {X : Type 0} {x : X} → None ≡ Some x → ⊥
no_other h = cc

mutual
  pub one_read : {D : List Cases} {s : Sh} {ps ps' qs rs : List (List ℕ)} {w v : Wr} → OneOfAName D → Reads D s ps w qs → Reads D s ps' v rs → ps ≡ ps' → (w ≡ v) × (qs ≡ rs)
  one_read o (reads_int n) (reads_int m) e = (ap int (same_number n m (heads e)), tails e)
  one_read o (reads_text n) (reads_text m) e = (ap words (same_words n m (heads e)), tails e)
  one_read o reads_unit reads_unit e = (refl, e)
  one_read o (reads_truth t) (reads_truth u) e = (ap bare (heads e), tails e)
  one_read o (reads_record fs) (reads_record gs) e = let (p, q) = one_parts o fs gs e in (ap rec_of p, q)
  one_read o (reads_bare h i) (reads_bare g j) e = (ap bare (heads e), tails e)
  one_read {D} o (reads_bare {d = d} h i) (reads_tagged g j r) e = absurd (no_other (one_held D d o h i g j (heads e)))
  one_read {D} o (reads_tagged {d = d} h i r) (reads_bare g j) e = absurd (no_other (sym (one_held D d o h i g j (heads e))))
  one_read {D} {w = w} o (reads_tagged {d = d} {ss = ss} {s = s} {p = p} {ps = ps} {w = x} h i r) (reads_tagged {s = t} {ps = us} {qs = rs} {w = y} g j k) e =
      let same : s ≡ t = same_Some _ _ (one_held D d o h i g j (heads e)) in
      let (q, z) = one_read o r (subst (λ u. Reads D (at_arguments ss u) us y rs) (sym same) k) (tails e) in
      (ap (tagged p) q ∙ ap (λ n. tagged n y) (heads e), z)

  one_parts : {D : List Cases} {fs : Pts} {ps ps' qs rs : List (List ℕ)} {ws vs : Wrs} → OneOfAName D → ReadsParts D fs ps ws qs → ReadsParts D fs ps' vs rs → ps ≡ ps' → (ws ≡ vs) × (qs ≡ rs)
  one_parts o reads_no_part reads_no_part e = (refl, e)
  one_parts o (reads_part {ws = ws} h k) (reads_part {w = v} g l) e =
      let (p, q) = one_read o h g e in
      let (r, s) = one_parts o k l q in
      (ap (λ w. wire w ws) p ∙ ap (wire v) r, s)

pub all_one : {D : List Cases} {ss : Shs} {ps ps' qs rs : List (List ℕ)} {ws vs : Wrs} → OneOfAName D → ReadsAll D ss ps ws qs → ReadsAll D ss ps' vs rs → ps ≡ ps' → ws ≡ vs
all_one o reads_none reads_none e = refl
all_one o (reads_one {ws = ws} h k) (reads_one {w = v} g l) e =
    let (p, q) = one_read o h g e in
    ap (λ w. wire w ws) p ∙ ap (wire v) (all_one o k l q)
