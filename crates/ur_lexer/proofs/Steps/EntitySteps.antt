-- Where entities end.
use Rattle.std.proofs.Common.{◌≡◌, ◌<◌, ◌≤◌, ℕ, zero, suc, ◌+◌, ◌-◌, Bool, true, false, List, [], ◌∷◌, length, take, get_or, refl, ap, sym, ◌∙◌, Some, None, arith, subst, option_map, length-take, get_or-take}
use Rattle.std.specs.Prelude.{◌==◌, ◌&&◌, ◌||◌, not, slice_index, nat_eq}
use Rattle.std.specs.List.{prefix_len, starts_with}
use Rattle.std.specs.Cmp.Lexicographic.{same_text}
use Rattle.std.specs.Char.{is_ascii_digit}
use Rattle.std.proofs.lemmas.Bool.Decides.{nat_tests}
use Rattle.std.proofs.lemmas.List.Sums.{prefix_len-le-length}
use Rattle.std.proofs.lemmas.Bool.{and_parts}
use Rattle.ur_lexer.proofs.Front.Choices.{either, mapped}
use Rattle.ur_lexer.specs.Bytes.{Bytes}
use Rattle.ur_lexer.specs.Entities.{entities, named, numbered, numeric, entity}

-- of a character and a length: the entity's last byte is a `;` within the bytes
pub record Ends (bs : Bytes) (e : ℕ × ℕ) : Type 0 where
  pub some : 0 < e.1
  pub within : e.1 ≤ length bs
  pub last : get_or bs (e.1 - 1) 0 ≡ 59

-- each spelling of a table ends with `;`
abbrev all_end : List (Bytes × ℕ) → Bool
all_end [] = true
all_end (entry ∷ table) = (not (length entry.0 == 0) && (get_or entry.0 (length entry.0 - 1) 0 == 59)) && all_end table

pub front_length : (bs : Bytes) (spelling : Bytes) → starts_with nat_eq bs spelling ≡ true → length spelling ≤ length bs
front_length bs spelling h =
    let e = same_text spelling (take (length spelling) bs) (sym h) in
    let long = length-take (length spelling) bs in
    omega (arith, ap length e, long)

pub front_reads_at : (bs : Bytes) (spelling : Bytes) (i : ℕ) → i < length spelling → starts_with nat_eq bs spelling ≡ true → get_or bs i 0 ≡ get_or spelling i 0
front_reads_at bs spelling i l h =
    let e : spelling ≡ take (length spelling) bs = same_text spelling (take (length spelling) bs) (sym h) in
    sym (ap (λ (s : Bytes). get_or s i 0) e ∙ get_or-take (length spelling) bs i 0 l)

ended : (spelling : Bytes) → (not (length spelling == 0) && (get_or spelling (length spelling - 1) 0 == 59)) ≡ true → (0 < length spelling) × (get_or spelling (length spelling - 1) 0 ≡ 59)
ended spelling h = test_pair (length spelling) (get_or spelling (length spelling - 1) 0) h
  where
    test_pair : (n x : ℕ) → (not (n == 0) && (x == 59)) ≡ true → (0 < n) × (x ≡ 59)
    test_pair n x h = (grind (arith, nat_tests), grind (arith, nat_tests))

named_ends : (table : List (Bytes × ℕ)) (bs : Bytes) (e : ℕ × ℕ) → all_end table ≡ true → named table bs ≡ Some e → Ends bs e
named_ends [] bs e a h = cc
named_ends (entry ∷ table) bs e a h =
    either (starts_with nat_eq bs entry.0) (Some (entry.1, length entry.0)) (named table bs) e h
    (λ t q.
    let same : (entry.1, length entry.0) ≡ e = cc in
    let ends = ended entry.0 (and_parts _ _ a).0 in
    subst (λ (x : ℕ × ℕ). Ends bs x) same (record {
      some = ends.0;
      within = front_length bs entry.0 t;
      last = front_reads_at bs entry.0 (length entry.0 - 1) (omega (arith, ends.0)) t ∙ ends.1;
    }))
    (λ t q. named_ends table bs e (and_parts _ _ a).1 q)

tests : (n m x : ℕ) → ((n == 0) || (n == m) || not (x == 59)) ≡ false → (n ≡ m → ⊥) × (x ≡ 59)
tests n m x h = (λ e. grind (arith, nat_tests), grind (arith, nat_tests))

numeric_ends : (bs : Bytes) (e : ℕ × ℕ) → numeric bs ≡ Some e → Ends bs e
numeric_ends bs e h =
    let n = prefix_len is_ascii_digit bs in
    let le = prefix_len-le-length is_ascii_digit bs in
    either ((n == 0) || (n == length bs) || not (slice_index bs n == 59)) None (option_map (λ c. (c, n + 1)) (numbered (take n bs))) e h
    (λ t q. cc)
    (λ t q.
    let told = tests n (length bs) (slice_index bs n) t in
    mapped (λ (c : ℕ). (c, n + 1)) (numbered (take n bs)) e q (λ c o same.
    subst (λ (x : ℕ × ℕ). Ends bs x) same (record {
      some = omega arith;
      within = omega (arith, le, told.0);
      last = subst (λ (i : ℕ). get_or bs i 0 ≡ 59) (omega arith) told.1;
    })))

twice : (n : ℕ) → suc (suc n) ≡ suc n + 2 - 1
twice n = omega arith

two_on : (a b : ℕ) (bs : Bytes) (c n : ℕ) → Ends bs (c, n) → Ends (a ∷ b ∷ bs) (c, n + 2)
two_on a b bs c zero ends = absurd (omega (arith, ends.some))
two_on a b bs c (suc n) ends = record {
  some = omega arith;
  within = omega (arith, ends.within);
  last = let here : get_or bs n 0 ≡ 59 = subst (λ (i : ℕ). get_or bs i 0 ≡ 59) (omega arith) ends.last in subst (λ (i : ℕ). get_or (a ∷ b ∷ bs) i 0 ≡ 59) (twice n) here;
}

pub entity_ends : (bs : Bytes) (e : ℕ × ℕ) → entity bs ≡ Some e → Ends bs e
entity_ends [] e h = named_ends entities [] e refl h
entity_ends (a ∷ []) e h = named_ends entities (a ∷ []) e refl h
entity_ends (a ∷ b ∷ bs) e h =
    either ((a == 38) && (b == 35)) (option_map (λ (x : ℕ × ℕ). (x.0, x.1 + 2)) (numeric bs)) (named entities (a ∷ b ∷ bs)) e h
    (λ t q. mapped (λ (x : ℕ × ℕ). (x.0, x.1 + 2)) (numeric bs) e q (λ x o same. subst (λ (y : ℕ × ℕ). Ends (a ∷ b ∷ bs) y) same (two_on a b bs x.0 x.1 (numeric_ends bs x o))))
    (λ t q. named_ends entities (a ∷ b ∷ bs) e refl q)
