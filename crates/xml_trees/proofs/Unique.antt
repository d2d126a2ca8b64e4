-- A page's bytes stand for its trees alone.
use Rattle.std.proofs.Common.{◌≡◌, ◌≢◌, inl, inr, ℕ, true, false, List, [], ◌∷◌, ◌++◌, IsTrue, Option, Some, None, refl, sym, ap, ◌∙◌, subst, append_assoc, drop}
use Rattle.std.specs.Prelude.{◌==◌, codes, if◌then◌else◌}
use Rattle.std.specs.List.{flat_map, list_all}
use Rattle.std.proofs.lemmas.Bool.{cases_Bool, eqb-true, eqb-false, and_parts}
use Rattle.std.proofs.lemmas.List.{append_cancel_left}
use Rattle.xml_trees.specs.Markup.{Attribute, Markup, Empty, Characters, Tagged, is_letter, is_name_byte, IsName, is_void, BeginsNoText, AreNamed, IsNormal}
use Rattle.xml_trees.specs.PieceText.{escape, quote}
use Rattle.xml_trees.specs.Grammar.{PagesAreUnique, TextsAreUnique}
use Rattle.xml_trees.proofs.Spelling.{attributes_then, markup_then, markup_is}

-- one character's byte from the front
entity : List ℕ → Option (ℕ × List ℕ)
entity [] = None
entity (b ∷ bs) = if b == 97 then Some (38, drop 3 bs) else if b == 108 then Some (60, drop 2 bs) else if b == 103 then Some (62, drop 2 bs) else Some (34, drop 4 bs)

decoded : List ℕ → Option (ℕ × List ℕ)
decoded [] = None
decoded (b ∷ bs) = if b == 38 then entity bs else Some (b, bs)

decoded_escape : (c : ℕ) (z : List ℕ) → decoded (escape c ++ z) ≡ Some (c, z)
unfolding decoded entity
decoded_escape c z = elim (cases_Bool (c == 38)) [
  | inl h ↦ rw h (ap (λ (n : ℕ). Some (n, z)) (sym (eqb-true c 38 h)))
  | inr h ↦ elim (cases_Bool (c == 60)) [
    | inl k ↦ rw (h, k) (ap (λ (n : ℕ). Some (n, z)) (sym (eqb-true c 60 k)))
    | inr k ↦ elim (cases_Bool (c == 62)) [
      | inl l ↦ rw (h, k, l) (ap (λ (n : ℕ). Some (n, z)) (sym (eqb-true c 62 l)))
      | inr l ↦ rw (h, k, l) (rw h refl)
    ]
  ]
]

decoded_quote : (c : ℕ) (z : List ℕ) → decoded (quote c ++ z) ≡ Some (c, z)
unfolding decoded entity
decoded_quote c z = elim (cases_Bool (c == 34)) [
  | inl h ↦ rw h (ap (λ (n : ℕ). Some (n, z)) (sym (eqb-true c 34 h)))
  | inr h ↦ rw h (decoded_escape c z)
]

-- nothing, or this byte first
abbrev Ends : ℕ → List ℕ → Type 0
Ends k [] = Unit {0}
Ends k (b ∷ bs) = b ≡ k

never_escape : (c : ℕ) (z : List ℕ) → Ends 60 (escape c ++ z) → ⊥
never_escape c z = elim (cases_Bool (c == 38)) [
  | inl h ↦ rw h (λ (e : ◌≡◌ {A = ℕ} 38 60). cc)
  | inr h ↦ elim (cases_Bool (c == 60)) [
    | inl k ↦ rw (h, k) (λ (e : ◌≡◌ {A = ℕ} 38 60). cc)
    | inr k ↦ elim (cases_Bool (c == 62)) [
      | inl l ↦ rw (h, k, l) (λ (e : ◌≡◌ {A = ℕ} 38 60). cc)
      | inr l ↦ rw (h, k, l) (λ (e : c ≡ 60). eqb-false c 60 k e)
    ]
  ]
]

never_quote : (c : ℕ) (z : List ℕ) → Ends 34 (quote c ++ z) → ⊥
never_quote c z = elim (cases_Bool (c == 34)) [
  | inl h ↦ rw h (λ (e : ◌≡◌ {A = ℕ} 38 34). cc)
  | inr n ↦ rw n (elim (cases_Bool (c == 38)) [
    | inl h ↦ rw h (λ (e : ◌≡◌ {A = ℕ} 38 34). cc)
    | inr h ↦ elim (cases_Bool (c == 60)) [
      | inl k ↦ rw (h, k) (λ (e : ◌≡◌ {A = ℕ} 38 34). cc)
      | inr k ↦ elim (cases_Bool (c == 62)) [
        | inl l ↦ rw (h, k, l) (λ (e : ◌≡◌ {A = ℕ} 38 34). cc)
        | inr l ↦ rw (h, k, l) (λ (e : c ≡ 34). eqb-false c 34 n e)
      ]
    ]
  ])
]

-- two texts in one code, each followed by nothing or by a byte that begins no character
module _ (f : ℕ → List ℕ) (k : ℕ) (decodes : (c : ℕ) (z : List ℕ) → decoded (f c ++ z) ≡ Some (c, z)) (never : (c : ℕ) (z : List ℕ) → Ends k (f c ++ z) → ⊥) where
  texts : (t u x y : List ℕ) → Ends k x → Ends k y → flat_map f t ++ x ≡ flat_map f u ++ y → (t ≡ u) × (x ≡ y)
  texts [] [] x y p q e = (refl, e)
  texts [] (d ∷ us) x y p q e = absurd (never d (flat_map f us ++ y) (subst (Ends k) (e ∙ append_assoc (f d) (flat_map f us) y) p))
  texts (c ∷ ts) [] x y p q e = absurd (never c (flat_map f ts ++ x) (subst (Ends k) (sym e ∙ append_assoc (f c) (flat_map f ts) x) q))
  texts (c ∷ ts) (d ∷ us) x y p q e =
      let one : ◌≡◌ {A = Option (ℕ × List ℕ)} (Some (c, flat_map f ts ++ x)) (Some (d, flat_map f us ++ y)) =
      sym (decodes c (flat_map f ts ++ x)) ∙ ap decoded (sym (append_assoc (f c) (flat_map f ts) x) ∙ e ∙ append_assoc (f d) (flat_map f us) y) ∙ decodes d (flat_map f us ++ y) in
      let both : ◌≡◌ {A = ℕ × List ℕ} (c, flat_map f ts ++ x) (d, flat_map f us ++ y) = cc one in
      let head : c ≡ d = ap (λ (z : ℕ × List ℕ). z.0) both in
      let tail : flat_map f ts ++ x ≡ flat_map f us ++ y = ap (λ (z : ℕ × List ℕ). z.1) both in
      let rest = texts ts us x y p q tail in
      (cc (head, rest.0), rest.1)

-- nothing, or a byte first that stands in no name
abbrev EndsName : List ℕ → Type 0
EndsName [] = Unit {0}
EndsName (b ∷ bs) = is_name_byte b ≡ false

bytes_of_names : (n m x y : List ℕ) → IsTrue (list_all is_name_byte n) → IsTrue (list_all is_name_byte m) → EndsName x → EndsName y
    → n ++ x ≡ m ++ y → (n ≡ m) × (x ≡ y)
bytes_of_names [] [] x y p q g h e = (refl, e)
bytes_of_names [] (d ∷ ds) x y p q g h e =
    let no : is_name_byte d ≡ false = subst EndsName e g in
    let yes = and_parts (is_name_byte d) (list_all is_name_byte ds) q in cc
bytes_of_names (c ∷ cs) [] x y p q g h e =
    let no : is_name_byte c ≡ false = subst EndsName (sym e) h in
    let yes = and_parts (is_name_byte c) (list_all is_name_byte cs) p in cc
bytes_of_names (c ∷ cs) (d ∷ ds) x y p q g h e =
    let head : c ≡ d = cc in
    let tail : cs ++ x ≡ ds ++ y = cc in
    let rest = bytes_of_names cs ds x y (and_parts (is_name_byte c) (list_all is_name_byte cs) p).1 (and_parts (is_name_byte d) (list_all is_name_byte ds) q).1 g h tail in
    (cc (head, rest.0), rest.1)

names : (n m x y : List ℕ) → IsName n → IsName m → EndsName x → EndsName y → n ++ x ≡ m ++ y → (n ≡ m) × (x ≡ y)
names [] m x y p q g h e = absurd p
names (c ∷ cs) [] x y p q g h e = absurd q
names (c ∷ cs) (d ∷ ds) x y p q g h e =
    let head : c ≡ d = cc in
    let tail : cs ++ x ≡ ds ++ y = cc in
    let rest = bytes_of_names cs ds x y p.1 q.1 g h tail in
    (cc (head, rest.0), rest.1)

-- what follows a tag's name ends it
ends_name : (as' : List Attribute) (x : List ℕ) → EndsName (attributes_then as' (62 ∷ x))
ends_name [] x = refl
ends_name (a ∷ as') x = refl

-- one attribute behind its space, and then x
abbrev named_then : Attribute → List ℕ → List ℕ
named_then a x = a.name ++ (61 ∷ (34 ∷ (flat_map quote a.text ++ (34 ∷ x))))

attribute : (a b : Attribute) (x y : List ℕ) → IsName a.name → IsName b.name → named_then a x ≡ named_then b y → (a ≡ b) × (x ≡ y)
attribute a b x y p q e =
    let name = names a.name b.name _ _ p q refl refl e in
    let second : flat_map quote a.text ++ (34 ∷ x) ≡ flat_map quote b.text ++ (34 ∷ y) = cc (name.1) in
    let text = texts quote 34 decoded_quote never_quote a.text b.text _ _ refl refl second in
    let third : ◌≡◌ {A = List ℕ} (34 ∷ x) (34 ∷ y) = text.1 in
    let same_name : a.name ≡ b.name = name.0 in
    let same_text : a.text ≡ b.text = text.0 in
    (λ i. record { name = same_name i; text = same_text i }, cc third)

tail : (a b : ℕ) (x y : List ℕ) → ◌≡◌ {A = List ℕ} (a ∷ x) (b ∷ y) → x ≡ y
tail a b x y e = cc

neither : (x y : List ℕ) → ◌≡◌ {A = List ℕ} (62 ∷ x) (32 ∷ y) → ⊥
neither x y e = cc

cons_both : (a b : Attribute) (x y : List Attribute) → a ≡ b → x ≡ y → ◌≡◌ {A = List Attribute} (a ∷ x) (b ∷ y)
cons_both a b x y p q = cc

attributes : (as' bs : List Attribute) (x y : List ℕ) → AreNamed as' → AreNamed bs
    → attributes_then as' (62 ∷ x) ≡ attributes_then bs (62 ∷ y) → (as' ≡ bs) × (x ≡ y)
attributes [] [] x y p q e = (refl, tail 62 62 x y e)
attributes [] (b ∷ bs) x y p q e = absurd (neither x (named_then b (attributes_then bs (62 ∷ y))) e)
attributes (a ∷ as') [] x y p q e = absurd (neither y (named_then a (attributes_then as' (62 ∷ x))) (sym e))
attributes (a ∷ as') (b ∷ bs) x y p q e =
    let first = attribute a b (attributes_then as' (62 ∷ x)) (attributes_then bs (62 ∷ y)) p.0 q.0
    (tail 32 32 (named_then a (attributes_then as' (62 ∷ x))) (named_then b (attributes_then bs (62 ∷ y))) e) in
    let rest = attributes as' bs x y p.1 q.1 first.1 in
    (cons_both a b as' bs first.0 rest.0, rest.1)

-- nothing, or the front of a closing tag
abbrev Closes : List ℕ → Type 0
Closes [] = Unit {0}
Closes (b ∷ []) = ⊥
Closes (b ∷ c ∷ bs) = (b ≡ 60) × (c ≡ 47)

ends : (x : List ℕ) → Closes x → Ends 60 x
ends [] p = tt
ends (b ∷ []) p = absurd p
ends (b ∷ c ∷ bs) p = p.0

-- trees that don't begin with a text begin with a tag, or with what closes them
ends_text : (t : Markup) (x : List ℕ) → BeginsNoText t → Closes x → Ends 60 (markup_then t x)
ends_text Empty x p q = ends x q
ends_text (Characters text rest) x p q = absurd p
ends_text (Tagged name attributes inside rest) x p q = refl

-- a text that isn't empty begins no tag
words_first : (text x : List ℕ) → text ≢ [] → Ends 60 (flat_map escape text ++ x) → ⊥
words_first [] x p e = p refl
words_first (c ∷ cs) x p e = never_escape c (flat_map escape cs ++ x) (subst (Ends 60) (append_assoc (escape c) (flat_map escape cs) x) e)

-- what closes trees is no tag
no_tag : (name x y : List ℕ) → IsName name → Closes y → y ≡ 60 ∷ (name ++ x) → ⊥
no_tag [] x y p q e = p
no_tag (c ∷ cs) x y p q e =
    let closed : (◌≡◌ {A = ℕ} 60 60) × (c ≡ 47) = subst Closes e q in
    let letter : is_letter 47 ≡ true = subst (λ (n : ℕ). is_letter n ≡ true) closed.1 p.0 in cc letter

-- the bytes of a closing tag, and then `after`
abbrev closing : List ℕ → List ℕ → List ℕ
closing name after = 60 ∷ (47 ∷ (name ++ (62 ∷ after)))

-- what stands behind a tag's attributes
abbrev behind : List ℕ → Markup → List ℕ → List ℕ
behind name inside after = if is_void name then after else markup_then inside (closing name after)

behind_void : (name : List ℕ) (inside : Markup) (after : List ℕ) → is_void name ≡ true → behind name inside after ≡ after
behind_void name inside after v = rw v refl

behind_open : (name : List ℕ) (inside : Markup) (after : List ℕ) → is_void name ≡ false → behind name inside after ≡ markup_then inside (closing name after)
behind_open name inside after v = rw v refl

same : (t u : Markup) (x y : List ℕ) → IsNormal t → IsNormal u → Closes x → Closes y → markup_then t x ≡ markup_then u y → (t ≡ u) × (x ≡ y)
same Empty Empty x y p q g h e = (refl, e)
same Empty (Characters b us) x y p q g h e = absurd (words_first b (markup_then us y) q.0 (subst (Ends 60) e (ends x g)))
same Empty (Tagged m bs inner us) x y p q g h e = absurd (no_tag m _ x q.0 g e)
same (Characters a ts) Empty x y p q g h e = absurd (words_first a (markup_then ts x) p.0 (subst (Ends 60) (sym e) (ends y h)))
same (Characters a ts) (Characters b us) x y p q g h e =
    let text = texts escape 60 decoded_escape never_escape a b (markup_then ts x) (markup_then us y) (ends_text ts x p.1 g) (ends_text us y q.1 h) e in
    let rest = same ts us x y p.2 q.2 g h text.1 in
    (cc (text.0, rest.0), rest.1)
same (Characters a ts) (Tagged m bs inner us) x y p q g h e = absurd (words_first a (markup_then ts x) p.0 (subst (Ends 60) (sym e) refl))
same (Tagged n as' inside ts) Empty x y p q g h e = absurd (no_tag n _ y p.0 h (sym e))
same (Tagged n as' inside ts) (Characters b us) x y p q g h e = absurd (words_first b (markup_then us y) q.0 (subst (Ends 60) e refl))
same (Tagged n as' inside ts) (Tagged m bs inner us) x y p q g h e =
    let one : n ++ attributes_then as' (62 ∷ behind n inside (markup_then ts x)) ≡ m ++ attributes_then bs (62 ∷ behind m inner (markup_then us y)) = cc e in
    let name = names n m _ _ p.0 q.0 (ends_name as' _) (ends_name bs _) one in
    let both = attributes as' bs _ _ p.1 q.1 name.1 in
    let same_name : n ≡ m = name.0 in
    let second : behind n inside (markup_then ts x) ≡ behind n inner (markup_then us y) = both.1 ∙ ap (λ (l : List ℕ). behind l inner (markup_then us y)) (sym same_name) in
    let void : IsTrue (is_void n) → inner ≡ Empty = λ v. q.4 (subst (λ (l : List ℕ). IsTrue (is_void l)) same_name v) in
    elim (cases_Bool (is_void n)) [
      | inl v ↦
          let after : markup_then ts x ≡ markup_then us y = sym (behind_void n inside (markup_then ts x) v) ∙ second ∙ behind_void n inner (markup_then us y) v in
          let rest = same ts us x y p.3 q.3 g h after in
          let held : inside ≡ inner = p.4 v ∙ sym (void v) in
          (cc (same_name, both.0, held, rest.0), rest.1)
      | inr v ↦
          let after : markup_then inside (closing n (markup_then ts x)) ≡ markup_then inner (closing n (markup_then us y)) = sym (behind_open n inside (markup_then ts x) v) ∙ second ∙ behind_open n inner (markup_then us y) v in
          let held = same inside inner (closing n (markup_then ts x)) (closing n (markup_then us y)) p.2 q.2 (refl, refl) (refl, refl) after in
          let closed : n ++ (62 ∷ markup_then ts x) ≡ n ++ (62 ∷ markup_then us y) = cc (held.1) in
          let cancelled : ◌≡◌ {A = List ℕ} (62 ∷ markup_then ts x) (62 ∷ markup_then us y) = append_cancel_left n _ _ closed in
          let rest = same ts us x y p.3 q.3 g h (cc cancelled) in
          (cc (same_name, both.0, held.0, rest.0), rest.1)
    ]

pub unique : PagesAreUnique
unique bytes t u p q =
    let one = markup_is p.0 t p.2 in
    let other = markup_is q.0 u q.2 in
    let content : p.0 ++ codes "</html>" ≡ q.0 ++ codes "</html>" = append_cancel_left (codes "<!DOCTYPE html><html>") _ _ (sym p.1 ∙ q.1) in
    (same t u (codes "</html>") (codes "</html>") one.0 other.0 (refl, refl) (refl, refl) (sym (one.1 (codes "</html>")) ∙ content ∙ other.1 (codes "</html>"))).0

pub one_text : TextsAreUnique
one_text bytes other t p q =
    let content : p.0 ++ codes "</html>" ≡ q.0 ++ codes "</html>" = (markup_is p.0 t p.2).1 (codes "</html>") ∙ sym ((markup_is q.0 t q.2).1 (codes "</html>")) in
    p.1 ∙ ap (λ (l : List ℕ). codes "<!DOCTYPE html><html>" ++ l) content ∙ sym q.1
