-- The pieces of a link, once they are split and decoded.
use Rattle.std.proofs.Common.{◌≡◌, ◌≢◌, ℕ, suc, ◌<◌, ◌^◌, ℤ, pos, negsuc, Bool, true, false, ◌==◌, if◌then◌else◌, List, [], ◌∷◌, ◌++◌, map, Option, Some, None, slice_get, codes, refl, ap, sym, subst, ◌∙◌, arith, inl, inr}
use Rattle.std.specs.Prelude.{FitsSigned}
use Rattle.std.specs.Int.{w64}
use Rattle.std.specs.Int.Signed.{mag}
use Rattle.std.specs.Fmt.{decimal, signed_decimal}
use Rattle.std.specs.Str.{IsUtf8, all_ascii_digits}
use Rattle.std.specs.List.{All, Contains, AllByRecursion}
use Rattle.std.proofs.lemmas.Bool.{and_parts}
use Rattle.std.proofs.lemmas.Bool.Decides.{Decides-eqb}
use Rattle.std.proofs.lemmas.List.{append-nil}
use Rattle.std.proofs.lemmas.List.Elements.{All-from_recursion, recursion_from_All}
use Rattle.std.proofs.lemmas.Fmt.{digits_decimal}
use Rattle.std.proofs.lemmas.Option.{slice_get_within, get_or_from_slice_get}
use Rattle.std.proofs.lemmas.Str.Parse.{tells_all_ascii_digits, numerals_by_value}
use lib.Utf8.{scalar, scalars, encode, encodes, scalar_cases}
use lib.Dec.{ltb}
use mathlib.Core.Bool.{cond}
use Rattle.percent_encoding.specs.AsciiSet.{should_percent_encode}
use Rattle.percent_encoding.specs.Percent.{percent_encode, percent_decode}
use Rattle.percent_encoding.proofs.PercentLemmas.{round_trip, IsByte, percent_decode-nil, percent_decode_not_percent, All-percent_encode}
use Rattle.table_rows.specs.Wires.{Wr, int, words, unit, rec_of, bare, tagged, Wrs, no_wires, wire}
use Rattle.table_rows.specs.Shapes.{Sh, Shs, Pts, Cases, HasShape, int_has, text_has, unit_has, true_has, false_has, record_has, bare_has, tagged_has, HaveParts, no_parts_have, part_has, HaveShapes, no_shapes_have, shape_has}
use Rattle.table_rows.specs.Pieces.{escaped, pieces, all_pieces}
use Rattle.link_router.specs.Calls.{IsCarried, AreCarried}
use Rattle.link_router.specs.Links.{joined, split, in_first, path_pieces}
use Rattle.link_router.specs.RouteLaws.{IsPlain}
use Rattle.link_router.specs.declared.texts.TheConstants.{ESCAPED}
use Rattle.link_router.proofs.Escapes.{escapes, text_escaped}

-- no slash in a piece
abbrev pub IsOnePiece : List ℕ → Type 0
IsOnePiece p = AllByRecursion (λ b. b ≢ 47) p

-- pieces as they are written, and decoded
pub data Decodes : List (List ℕ) → List (List ℕ) → Type 0 where
  nothing : Decodes [] []
  a_piece : {p q : List ℕ} {ps qs : List (List ℕ)} → IsOnePiece p → percent_decode p ≡ q → Decodes ps qs → Decodes (p ∷ ps) (q ∷ qs)

pub decodes_both : {ps qs ps' qs' : List (List ℕ)} → Decodes ps qs → Decodes ps' qs' → Decodes (ps ++ ps') (qs ++ qs')
decodes_both nothing h = h
decodes_both (a_piece s e d) h = a_piece s e (decodes_both d h)

-- splitting what was joined
split_at : (b : ℕ) (bs : List ℕ) → b ≢ 47 → split (b ∷ bs) ≡ in_first b (split bs)
split_at b bs h = go (b == 47) refl
  where
    go : (t : Bool) → (b == 47) ≡ t → (if t then [] ∷ split bs else in_first b (split bs)) ≡ in_first b (split bs)
    go true e = absurd (h ((Decides-eqb b 47).0 e))
    go false e = refl

split_alone : (p : List ℕ) → IsOnePiece p → split p ≡ p ∷ []
split_alone [] h = refl
split_alone (b ∷ bs) h = split_at b bs h.0 ∙ ap (in_first b) (split_alone bs h.1)

split_before : (p rest : List ℕ) → IsOnePiece p → split (p ++ 47 ∷ rest) ≡ p ∷ split rest
split_before [] rest h = refl
split_before (b ∷ bs) rest h = split_at b (bs ++ 47 ∷ rest) h.0 ∙ ap (in_first b) (split_before bs rest h.1)

split_joined : (p : List ℕ) {ps qs : List (List ℕ)} (q : List ℕ) → IsOnePiece p → percent_decode p ≡ q → Decodes ps qs → map percent_decode (split (p ++ joined ps)) ≡ q ∷ qs
split_joined p q s e nothing = ap (λ xs. map percent_decode (split xs)) (append-nil p) ∙ ap (map percent_decode) (split_alone p s) ∙ ap (λ x. x ∷ []) e
split_joined p q s e (a_piece {p = r} {q = t} {ps = ps} s2 e2 d) =
    ap (map percent_decode) (split_before p (r ++ joined ps) s) ∙ ap (λ x. x ∷ map percent_decode (split (r ++ joined ps))) e ∙ ap (λ xs. q ∷ xs) (split_joined r t s2 e2 d)

pub path_of_joined : {p q : List ℕ} {ps qs : List (List ℕ)} → Decodes (p ∷ ps) (q ∷ qs) → path_pieces (joined (p ∷ ps)) ≡ Some (q ∷ qs)
path_of_joined {p} {q} (a_piece s e d) = ap (λ x. Some x) (split_joined p q s e d)

-- plain names
plain_one : (p : List ℕ) → IsPlain p → IsOnePiece p
plain_one [] h = tt
plain_one (b ∷ bs) h = (h.0.0, plain_one bs h.1)

plain_decoded : (p : List ℕ) → IsPlain p → percent_decode p ≡ p
plain_decoded [] h = percent_decode-nil
plain_decoded (b ∷ bs) h = percent_decode_not_percent b bs h.0.1 ∙ ap (λ xs. b ∷ xs) (plain_decoded bs h.1)

pub names_decode : (names : List (List ℕ)) → AllByRecursion IsPlain names → Decodes names names
names_decode [] h = nothing
names_decode (n ∷ ns) h = a_piece (plain_one n h.0) (plain_decoded n h.0) (names_decode ns h.1)

-- numbers
digits_plain : (ds : List ℕ) → all_ascii_digits ds ≡ true → IsPlain ds
digits_plain [] h = tt
digits_plain (d ∷ ds) h = let (r, rest) = tells_all_ascii_digits.parts d ds h in (((λ e. omega (arith, r, e)), (λ e. omega (arith, r, e))), digits_plain ds rest)

decimal_plain : (n : ℕ) → n < 2 ^ 64 → IsPlain (decimal n)
decimal_plain n h = digits_plain (decimal n) (digits_decimal (numerals_by_value (λ ds. all_ascii_digits ds ≡ true) tells_all_ascii_digits) n h)

pub fits_mag : (z : ℤ) → FitsSigned w64 z → mag z < 2 ^ 63
fits_mag (pos n) h = omega (arith, h)
fits_mag (negsuc n) h = omega (arith, h)

number_plain : (z : ℤ) → FitsSigned w64 z → IsPlain (signed_decimal z)
number_plain (pos n) h = decimal_plain n (omega (arith, fits_mag (pos n) h))
number_plain (negsuc n) h = (((λ e. omega (arith, e)), (λ e. omega (arith, e))), decimal_plain (suc n) (omega (arith, fits_mag (negsuc n) h)))

-- the bytes of a text are bytes
pick : (b : Bool) (xs ys : List ℕ) → (b ≡ true → AllByRecursion IsByte xs) → (b ≡ false → AllByRecursion IsByte ys) → AllByRecursion IsByte (cond b xs ys)
pick true xs ys h k = h refl
pick false xs ys h k = k refl

least : (c n : ℕ) → ltb c n ≡ true → c < n
least c n h = grind (arith, h)

scalar_below : (c : ℕ) → scalar c ≡ true → c < 1114112
scalar_below c h = elim (scalar_cases c h) [ inl p ↦ omega (arith, p) | inr p ↦ omega (arith, p.1) ]

char_bytes : (c : ℕ) → scalar c ≡ true → AllByRecursion IsByte (encode c)
unfolding encode
char_bytes c h =
    let below = scalar_below c h in
    pick (ltb c 128) _ _ (λ e. (omega (arith, least c 128 e), tt))
    (λ _. pick (ltb c 2048) _ _ (λ e. (omega (arith, least c 2048 e), (omega arith, tt)))
    (λ _. pick (ltb c 65536) _ _ (λ e. (omega (arith, least c 65536 e), (omega arith, (omega arith, tt))))
    (λ _. (omega (arith, below), (omega arith, (omega arith, (omega arith, tt)))))))

bytes_both : (xs ys : List ℕ) → AllByRecursion IsByte xs → AllByRecursion IsByte ys → AllByRecursion IsByte (xs ++ ys)
bytes_both [] ys h k = k
bytes_both (x ∷ xs) ys h k = (h.0, bytes_both xs ys h.1 k)

chars_bytes : (cs : List ℕ) → scalars cs ≡ true → AllByRecursion IsByte (encodes cs)
chars_bytes [] h = tt
chars_bytes (c ∷ cs) h = let (p, q) = and_parts (scalar c) (scalars cs) h in bytes_both (encode c) (encodes cs) (char_bytes c p) (chars_bytes cs q)

text_bytes : (t : List ℕ) → IsUtf8 t → All IsByte t
text_bytes t (cs, (s, e)) = All-from_recursion IsByte t (subst (AllByRecursion IsByte) e (chars_bytes cs s))

-- texts
text_one : (t : List ℕ) → IsOnePiece (95 ∷ escaped t)
text_one t = (
  (λ e. omega (arith, e)),
  subst IsOnePiece (text_escaped t) (recursion_from_All (λ b. b ≢ 47) (percent_encode ESCAPED t)
      (All-percent_encode (λ b. b ≢ 47) ESCAPED t
      (λ b kept e. let plain : should_percent_encode ESCAPED 47 ≡ false = subst (λ x. should_percent_encode ESCAPED x ≡ false) e kept in let bad : true ≡ false = sym (escapes 47) ∙ plain in cc)
      (λ b escape e. absurd (omega (arith, escape, e))))),
)

text_decoded : (t : List ℕ) → IsUtf8 t → percent_decode (95 ∷ escaped t) ≡ 95 ∷ t
text_decoded t u =
    percent_decode_not_percent 95 (escaped t) (λ e. absurd (omega (arith, e)))
    ∙ ap (λ l. 95 ∷ l) (ap percent_decode (sym (text_escaped t)) ∙ round_trip ESCAPED t refl (text_bytes t u))

-- what a value's pieces are once they are decoded
abbrev mutual
  pub sent : Wr → List (List ℕ)
  sent (int z) = signed_decimal z ∷ []
  sent (words t) = (95 ∷ t) ∷ []
  sent unit = []
  sent (rec_of ws) = all_sent ws
  sent (bare n) = n ∷ []
  sent (tagged n w) = n ∷ sent w

  pub all_sent : Wrs → List (List ℕ)
  all_sent no_wires = []
  all_sent (wire w ws) = sent w ++ all_sent ws

-- constructors' names are plain
abbrev pub PlainCases : List Cases → Type 0
PlainCases D = (cs : Cases) (n : List ℕ) (held : Option Sh) → Contains D cs → Contains cs (n, held) → IsPlain n

pub listed_in : {X : Type 0} (xs : List X) (i : ℕ) (x : X) → slice_get xs i ≡ Some x → Contains xs x
listed_in xs i x e = (i, slice_get_within xs i x e, get_or_from_slice_get xs i x x e)

true_plain : IsPlain (codes "True")
true_plain = (((λ h. omega (arith, h)), (λ h. omega (arith, h))), (((λ h. omega (arith, h)), (λ h. omega (arith, h))), (((λ h. omega (arith, h)), (λ h. omega (arith, h))), (((λ h. omega (arith, h)), (λ h. omega (arith, h))), tt))))

false_plain : IsPlain (codes "False")
false_plain = (((λ h. omega (arith, h)), (λ h. omega (arith, h))), (((λ h. omega (arith, h)), (λ h. omega (arith, h))), (((λ h. omega (arith, h)), (λ h. omega (arith, h))), (((λ h. omega (arith, h)), (λ h. omega (arith, h))), (((λ h. omega (arith, h)), (λ h. omega (arith, h))), tt)))))

plain_piece : (n : List ℕ) → IsPlain n → Decodes (n ∷ []) (n ∷ [])
plain_piece n h = a_piece (plain_one n h) (plain_decoded n h) nothing

mutual
  pub value_decodes : {D : List Cases} {s : Sh} {w : Wr} → PlainCases D → HasShape D s w → IsCarried w → Decodes (pieces w) (sent w)
  value_decodes p (int_has {z = z}) c = plain_piece (signed_decimal z) (number_plain z c)
  value_decodes p (text_has {t = t}) c = a_piece (text_one t) (text_decoded t c) nothing
  value_decodes p unit_has c = nothing
  value_decodes p true_has c = plain_piece (codes "True") true_plain
  value_decodes p false_has c = plain_piece (codes "False") false_plain
  value_decodes p (record_has ps) c = parts_decode p ps c
  value_decodes {D} p (bare_has {d = d} {cs = cs} {n = n} e i) c = plain_piece n (p cs n None (listed_in D d cs e) i)
  value_decodes {D} p (tagged_has {d = d} {cs = cs} {n = n} {s = s} e i h) c = decodes_both (plain_piece n (p cs n (Some s) (listed_in D d cs e) i)) (value_decodes p h c)

  parts_decode : {D : List Cases} {ps : Pts} {ws : Wrs} → PlainCases D → HaveParts D ps ws → AreCarried ws → Decodes (all_pieces ws) (all_sent ws)
  parts_decode p no_parts_have c = nothing
  parts_decode p (part_has h ps) c = decodes_both (value_decodes p h c.0) (parts_decode p ps c.1)

pub values_decode : {D : List Cases} {ss : Shs} {ws : Wrs} → PlainCases D → HaveShapes D ss ws → AreCarried ws → Decodes (all_pieces ws) (all_sent ws)
values_decode p no_shapes_have c = nothing
values_decode p (shape_has h ss) c = decodes_both (value_decodes p h c.0) (values_decode p ss c.1)
