-- Tasks one after another.
use Rattle.std.proofs.Common.{◌≡◌, Bool, true, false, ◌&&◌, List, [], ◌∷◌, ◌++◌, refl, ap, sym, ◌∙◌}
use Rattle.source_terms.proofs.Pairs.{fail_bool, more_bool, turn}
use Rattle.source_terms.specs.declared.tasks.Task.{Task}
use Rattle.source_terms.specs.Tasks.{is_read, all_read}

swap : (a b c : Bool) → (a && (b && c)) ≡ (b && (a && c))
swap true true c = refl
swap true false c = refl
swap false true c = refl
swap false false c = refl

pub all_push : (ts : List Task) (t : Task) → all_read (ts ++ t ∷ []) ≡ (is_read t && all_read ts)
all_push [] t = refl
all_push (u ∷ ts) t = ap (λ b. is_read u && b) (all_push ts t) ∙ swap (is_read u) (is_read t) (all_read ts)

-- parts beside what is left to compare: before any of them, after the first, after the second
pub parts_fail : (first second before after b whole : Bool) → whole ≡ (first && second) → b ≡ false → (b && after)
    ≡ (first && before) → false ≡ (whole && before)
parts_fail first second before after b whole so n e =
    fail_bool b first second before after _ (ap (λ z. z && before) so) n e

pub parts_both : (first second before middle after b c whole : Bool) → whole ≡ (first && second) → b ≡ true
    → (b && middle) ≡ (first && before)
    → (c && after) ≡ (second && middle) → (c && after) ≡ (whole && before)
parts_both first second before middle after b c whole so y e f =
    f ∙ sym (more_bool b first second before middle _ (ap (λ z. z && before) so) y e)

-- the same behind a term that is added
pub cases_fail : (e first second before middle after b : Bool) → middle ≡ (e && before) → b ≡ false → (b && after)
    ≡ (first && middle)
    → false ≡ ((e && first && second) && before)
cases_fail e first second before middle after b m n k =
    parts_fail (e && first) second before after b (e && first && second) refl n (k ∙ ap (λ z. first && z) m
    ∙ sym (turn e first before))

pub cases_all : (e first second before middle later after b c : Bool) → middle ≡ (e && before) → b ≡ true
    → (b && later) ≡ (first && middle)
    → (c && after) ≡ (second && later) → (c && after) ≡ ((e && first && second) && before)
cases_all e first second before middle later after b c m y k l =
    parts_both (e && first) second before later after b c (e && first && second) refl y (k ∙ ap (λ z. first && z) m
    ∙ sym (turn e first before)) l
