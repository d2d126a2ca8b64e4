-- The text of written trees, computed, and that the grammar gives exactly it.
use Rattle.std.proofs.Common.{◌≡◌, ◌≢◌, inl, inr, ℕ, Bool, true, false, List, [], ◌∷◌, ◌++◌, refl, sym, ap, ◌∙◌, subst, append_assoc, append-nil}
use Rattle.std.specs.Prelude.{◌==◌, codes, if◌then◌else◌}
use Rattle.std.specs.List.{flat_map}
use Rattle.std.proofs.lemmas.Bool.{cases_Bool, eqb-true, eqb-false}
use Rattle.xml_trees.specs.Markup.{Attribute, Markup, Empty, Characters, Tagged, is_void, AreNamed, IsNormal}
use Rattle.xml_trees.specs.PieceText.{escape, quote}
use Rattle.xml_trees.specs.Grammar.{IsCharacter, Ampersand, Less, Greater, Itself, IsQuoted, Quote, Other, IsText, NoText, MoreText, IsValue, NoValue, MoreValue, AreAttributes, NoAttributes, MoreAttributes, IsMarkup, NoMarkup, Text, Void, Closed}

-- the bytes of an attribute, and then `after`
abbrev pub attribute_then : Attribute → List ℕ → List ℕ
attribute_then a after = 32 ∷ (a.name ++ (61 ∷ (34 ∷ (flat_map quote a.text ++ (34 ∷ after)))))

-- the bytes of attributes, and then `after`
abbrev pub attributes_then : List Attribute → List ℕ → List ℕ
attributes_then [] after = after
attributes_then (a ∷ more) after = attribute_then a (attributes_then more after)

-- the bytes of trees, and then `after`
abbrev pub markup_then : Markup → List ℕ → List ℕ
markup_then Empty after = after
markup_then (Characters text rest) after = flat_map escape text ++ markup_then rest after
markup_then (Tagged name attributes inside rest) after =
    60 ∷ (name ++ attributes_then attributes (62 ∷ (if is_void name then markup_then rest after
    else markup_then inside (60 ∷ (47 ∷ (name ++ (62 ∷ markup_then rest after)))))))

-- a test of two numbers that differ
unlike : (a b : ℕ) → a ≢ b → (a == b) ≡ false
unlike a b n = elim (cases_Bool (a == b)) [ inl h ↦ absurd (n (eqb-true a b h)) | inr h ↦ h ]

-- what the grammar says is what is computed

escaped : (bytes : List ℕ) (c : ℕ) → IsCharacter bytes c → bytes ≡ escape c
escaped bytes c Ampersand = refl
escaped bytes c Less = refl
escaped bytes c Greater = refl
escaped bytes c (Itself d m n o) = rw (unlike d 38 m, unlike d 60 n, unlike d 62 o) refl

quoted : (bytes : List ℕ) (c : ℕ) → IsQuoted bytes c → bytes ≡ quote c
quoted bytes c Quote = refl
quoted bytes c (Other b d n p) = rw (unlike d 34 n) (escaped b d p)

text_is : (bytes text : List ℕ) → IsText bytes text → bytes ≡ flat_map escape text
text_is bytes text NoText = refl
text_is bytes text (MoreText front behind c more p q) = rw (escaped front c p, text_is behind more q) refl

value_is : (bytes text : List ℕ) → IsValue bytes text → bytes ≡ flat_map quote text
value_is bytes text NoValue = refl
value_is bytes text (MoreValue front behind c more p q) = rw (quoted front c p, value_is behind more q) refl

attributes_are : (bytes : List ℕ) (attributes : List Attribute) → AreAttributes bytes attributes → AreNamed attributes × ((after : List ℕ) → bytes ++ after ≡ attributes_then attributes after)
attributes_are bytes attributes NoAttributes = (tt, λ after. refl)
attributes_are bytes attributes (MoreAttributes value behind a more n v p) =
    let rest = attributes_are behind more p in (
      (n, rest.0),
      λ after. ap (λ (l : List ℕ). 32 ∷ l)
          (append_assoc a.name (61 ∷ (34 ∷ (value ++ (34 ∷ behind)))) after
          ∙ ap (λ (l : List ℕ). a.name ++ (61 ∷ (34 ∷ l)))
          (append_assoc value (34 ∷ behind) after ∙ rw (value_is value a.text v, rest.1 after) refl)),
    )

-- a name, attributes that end in `>`, and what is behind them
tag_is : (name front behind after : List ℕ) (attributes : List Attribute) → ((x : List ℕ) → front ++ x ≡ attributes_then attributes x)
    → (name ++ (front ++ (62 ∷ behind))) ++ after ≡ name ++ attributes_then attributes (62 ∷ (behind ++ after))
tag_is name front behind after attributes e =
    append_assoc name (front ++ (62 ∷ behind)) after
    ∙ ap (λ (l : List ℕ). name ++ l) (append_assoc front (62 ∷ behind) after ∙ e (62 ∷ (behind ++ after)))

-- content, a closing tag, and what is behind it
closing_is : (name content behind after : List ℕ) → (content ++ (60 ∷ (47 ∷ (name ++ (62 ∷ behind))))) ++ after ≡ content ++ (60 ∷ (47 ∷ (name ++ (62 ∷ (behind ++ after)))))
closing_is name content behind after =
    append_assoc content (60 ∷ (47 ∷ (name ++ (62 ∷ behind)))) after
    ∙ ap (λ (l : List ℕ). content ++ (60 ∷ (47 ∷ l))) (append_assoc name (62 ∷ behind) after)

pub markup_is : (bytes : List ℕ) (t : Markup) → IsMarkup bytes t → IsNormal t × ((after : List ℕ) → bytes ++ after ≡ markup_then t after)
markup_is bytes t NoMarkup = (tt, λ after. refl)
markup_is bytes t (Text front behind text rest n b p q) =
    let more = markup_is behind rest q in
    ((n, b, more.0), λ after. append_assoc front behind after ∙ rw (text_is front text p, more.1 after) refl)
markup_is bytes t (Void name front behind attributes rest n v a q) =
    let more = markup_is behind rest q in
    let named = attributes_are front attributes a in (
      (n, named.0, tt, more.0, λ w. refl),
      λ after. ap (λ (l : List ℕ). 60 ∷ l) (tag_is name front behind after attributes named.1 ∙ rw (v, more.1 after) refl),
    )
markup_is bytes t (Closed name front content behind attributes inside rest n v a p q) =
    let held = markup_is content inside p in
    let more = markup_is behind rest q in
    let named = attributes_are front attributes a in (
      (n, named.0, held.0, more.0, λ w. absurd (contradiction (is_void name) w v)),
      λ after. ap (λ (l : List ℕ). 60 ∷ l)
          (tag_is name front (content ++ (60 ∷ (47 ∷ (name ++ (62 ∷ behind))))) after attributes named.1
          ∙ rw (v, closing_is name content behind after, more.1 after, held.1 (60 ∷ (47 ∷ (name ++ (62 ∷ markup_then rest after))))) refl),
    )
  where
    contradiction : (b : Bool) → b ≡ true → b ≡ false → ⊥
    contradiction b p q = cc

-- what is normal has a text

character : (c : ℕ) → IsCharacter (escape c) c
character c = elim (cases_Bool (c == 38)) [
  | inl h ↦ rw h (subst (IsCharacter (codes "&amp;")) (sym (eqb-true c 38 h)) Ampersand)
  | inr h ↦ elim (cases_Bool (c == 60)) [
    | inl k ↦ rw (h, k) (subst (IsCharacter (codes "&lt;")) (sym (eqb-true c 60 k)) Less)
    | inr k ↦ elim (cases_Bool (c == 62)) [
      | inl l ↦ rw (h, k, l) (subst (IsCharacter (codes "&gt;")) (sym (eqb-true c 62 l)) Greater)
      | inr l ↦ rw (h, k, l) (Itself c (eqb-false c 38 h) (eqb-false c 60 k) (eqb-false c 62 l))
    ]
  ]
]

quoted_character : (c : ℕ) → IsQuoted (quote c) c
quoted_character c = elim (cases_Bool (c == 34)) [
  | inl h ↦ rw h (subst (IsQuoted (codes "&quot;")) (sym (eqb-true c 34 h)) Quote)
  | inr h ↦ rw h (Other (escape c) c (eqb-false c 34 h) (character c))
]

text_of : (text : List ℕ) → IsText (flat_map escape text) text
text_of [] = NoText
text_of (c ∷ cs) = MoreText (escape c) (flat_map escape cs) c cs (character c) (text_of cs)

value_of : (text : List ℕ) → IsValue (flat_map quote text) text
value_of [] = NoValue
value_of (c ∷ cs) = MoreValue (quote c) (flat_map quote cs) c cs (quoted_character c) (value_of cs)

attributes_of : (attributes : List Attribute) → AreNamed attributes → (bytes : List ℕ) × AreAttributes bytes attributes
attributes_of [] n = ([], NoAttributes)
attributes_of (a ∷ more) n =
    let rest = attributes_of more n.1 in
    (_, MoreAttributes (flat_map quote a.text) rest.0 a more n.0 (value_of a.text) rest.1)

pub markup_of : (t : Markup) → IsNormal t → (bytes : List ℕ) × IsMarkup bytes t
markup_of Empty n = ([], NoMarkup)
markup_of (Characters text rest) n =
    let more = markup_of rest n.2 in
    (_, Text (flat_map escape text) more.0 text rest n.0 n.1 (text_of text) more.1)
markup_of (Tagged name attributes inside rest) n =
    let front = attributes_of attributes n.1 in
    let held = markup_of inside n.2 in
    let more = markup_of rest n.3 in
    elim (cases_Bool (is_void name)) [
      | inl v ↦ subst (λ (i : Markup). (bytes : List ℕ) × IsMarkup bytes (Tagged name attributes i rest)) (sym (n.4 v))
          (_, Void name front.0 more.0 attributes rest n.0 v front.1 more.1)
      | inr v ↦ (_, Closed name front.0 held.0 more.0 attributes inside rest n.0 v front.1 held.1 more.1)
    ]

-- what is computed for normal trees is a text of theirs
pub is_markup : (t : Markup) → IsNormal t → IsMarkup (markup_then t []) t
is_markup t n =
    let some = markup_of t n in
    subst (λ (l : List ℕ). IsMarkup l t) (sym (append-nil some.0) ∙ (markup_is some.0 t some.1).1 []) some.1
