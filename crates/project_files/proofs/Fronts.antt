-- What lines begin and end with.
use Rattle.std.proofs.Common.{◌≡◌, ◌≢◌, ℕ, eqb, Bool, true, false, cond, List, [], ◌∷◌, ◌++◌, length, drop, Option, Some, None, Bor, refl, sym, ap, ◌∙◌, subst, ap₂, ◌<◌, ◌+◌, take, get_or, arith, eq-eqb, ne_eqb, get_or-take, length-take, take-append-drop, drop-cons}
use Rattle.std.proofs.Common.{suc, add-one, ◌-◌, ◌≤◌, length-drop, take_all}
use Rattle.std.proofs.Math.Seq.{drop-length}
use Rattle.std.specs.Option.{option_map, MatchOption}
use Rattle.std.specs.List.{Contains, starts_with}
use Rattle.std.specs.Str.Pattern.{FindsTextPrefix, StripsPrefix}
use Rattle.std.proofs.lemmas.Bool.{cases_Bool, false_from_ne_true}
use Rattle.std.proofs.lemmas.Bool.Decides.{Decides-eqb}
use Rattle.std.proofs.lemmas.Slice.Eq.{starts_is}
use Rattle.project_files.specs.Lines.{Line, HasLines, no_lines, last_line, line_and, IsOneLine, without_return}
use Rattle.project_files.specs.Directives.{begins_with, behind}

-- what `strip_prefix` answers is what stands behind the front
begins : (f l rest : List ℕ) → l ≡ f ++ rest → begins_with f l ≡ true
begins f l rest e = (starts_is Decides-eqb l f _ refl).1 rest e

begins_not : (f l : List ℕ) → ((rest : List ℕ) → l ≢ f ++ rest) → begins_with f l ≡ false
begins_not f l none = false_from_ne_true _ (λ t. none _ ((starts_is Decides-eqb l f _ refl).0 t))

found : (f l : List ℕ) (b : Bool) → begins_with f l ≡ b → behind f l ≡ cond b (Some (drop (length f) l)) None
found f l b e = ap (λ t. cond t (Some (drop (length f) l)) None) e

pub stripped : (f l : List ℕ) (r : Option (Bor (List ℕ)))
    → MatchOption r (FindsTextPrefix f l None) (λ x. StripsPrefix (FindsTextPrefix f) l x.now)
    → option_map (λ (x : Bor (List ℕ)). x.now) r ≡ behind f l
stripped f l None h = sym (found f l false (begins_not f l h))
stripped f l (Some x) h =
    ap Some (h.2 ∙ ap (λ n. drop n l) h.1.0) ∙ sym (found f l true (begins f l _ h.1.1))

-- a line's last byte
cut_one : (b c : ℕ) (ys : List ℕ) → (c ∷ cond (eqb b 13) ys (ys ++ b ∷ [])) ≡ cond (eqb b 13) (c ∷ ys) (c ∷ (ys ++ b ∷ []))
cut_one b c ys = elim (eqb b 13) as (λ t. (c ∷ cond t ys (ys ++ b ∷ [])) ≡ cond t (c ∷ ys) (c ∷ (ys ++ b ∷ []))) [ true ↦ refl | false ↦ refl ]

pub cut_last : (xs : List ℕ) (b : ℕ) → without_return (xs ++ b ∷ []) ≡ cond (eqb b 13) xs (xs ++ b ∷ [])
cut_last [] b = refl
cut_last (x ∷ []) b = cut_one b x []
cut_last (x ∷ (y ∷ ys)) b = ap (λ l. x ∷ l) (cut_last (y ∷ ys) b) ∙ cut_one b x (y ∷ ys)

pub with_return : (all xs : List ℕ) (b : ℕ) → all ≡ xs ++ b ∷ [] → b ≡ 13 → xs ≡ without_return all
with_return all xs b e r = sym (ap without_return e ∙ cut_last xs b ∙ ap (λ t. cond t xs (xs ++ b ∷ [])) (eq-eqb b 13 r))

pub with_none : (all xs : List ℕ) (b : ℕ) → all ≡ xs ++ b ∷ [] → b ≢ 13 → all ≡ without_return all
with_none all xs b e r = e ∙ sym (ap without_return e ∙ cut_last xs b ∙ ap (λ t. cond t xs (xs ++ b ∷ [])) (ne_eqb b 13 r))

no_length : {n : ℕ} → 0 ≡ suc n → ⊥
no_length e = omega (arith, e)

-- no bytes have no line
no_feed_ends : (front rest : List ℕ) → [] ≢ front ++ 10 ∷ rest
no_feed_ends [] rest e = no_length (ap length e)
no_feed_ends (x ∷ front) rest e = no_length (ap length e)

pub none_of_none : (bytes : List ℕ) (lines : List Line) → HasLines bytes lines → bytes ≡ [] → lines ≡ []
none_of_none bytes lines no_lines e = refl
none_of_none bytes lines (last_line one filled) e = absurd (filled e)
none_of_none bytes lines (line_and front rest one is more) e = absurd (no_feed_ends front rest (sym e ∙ is))

-- what has no line feed is one line
pub alone : (bytes rest : List ℕ) (lines : List Line) → IsOneLine bytes → 0 < length bytes → rest ≡ [] → HasLines rest lines → HasLines bytes (bytes ∷ lines)
alone bytes rest lines one filled none h =
    subst (λ ls. HasLines bytes (bytes ∷ ls)) (sym (none_of_none rest lines h none))
    (last_line one (λ e. let short : length bytes ≡ 0 = ap length e in omega (arith, filled, short)))

below_feed : (bytes : List ℕ) (i k : ℕ) → ((k : ℕ) → k < i → get_or bytes k 0 ≡ 10 → ⊥) → k < length (take i bytes) → get_or (take i bytes) k 0 ≡ 10 → ⊥
below_feed bytes i k before inside e =
    let below : k < i = omega (arith, inside, length-take i bytes)
    in before k below (sym (get_or-take i bytes k 0 below) ∙ e)

-- what stands before the first line feed is the first line
pub first_cut : (bytes line rest : List ℕ) (i : ℕ) (lines : List Line)
    → i < length bytes → get_or bytes i 0 ≡ 10 → ((k : ℕ) → k < i → get_or bytes k 0 ≡ 10 → ⊥)
    → line ≡ without_return (take i bytes) → rest ≡ drop (i + 1) bytes
    → HasLines rest lines → HasLines bytes (line ∷ lines)
first_cut bytes line rest i lines inside feed before is behind_it h =
    subst (λ l. HasLines bytes (l ∷ lines)) (sym is)
    (line_and (take i bytes) rest
    (λ k k<. λ e. below_feed bytes i k before k< e)
    (sym (take-append-drop i bytes) ∙ ap (λ l. take i bytes ++ l) (drop-cons bytes i 0 inside ∙ ap₂ (λ x xs. x ∷ xs) feed (sym (behind_it ∙ ap (λ n. drop n bytes) (add-one i)))))
    h)

-- what is cut off behind a place is all that stands behind it
pub cut_off : (bytes : List ℕ) (i : ℕ) → take (length bytes - i) (drop i bytes) ≡ drop i bytes
cut_off bytes i = take_all (length bytes - i) (drop i bytes) (let same : length (drop i bytes) ≡ length bytes - i = length-drop i bytes in omega (arith, same))

-- the bytes after the last place are none
pub nothing_off : (bytes : List ℕ) → take (length bytes - length bytes) (drop (length bytes) bytes) ≡ []
nothing_off bytes = cut_off bytes (length bytes) ∙ drop-length bytes
