-- Records in records, and components of components.
use Rattle.std.proofs.Common.{◌≡◌, ℕ, suc, ◌+◌, ◌-◌, ◌<◌, ◌≤◌, Bool, List, [], ◌∷◌, ◌++◌, length, take, drop, get_or, Option, drop-cons, drop_of_length-le, refl, ap, sym, ◌∙◌, arith}
use Rattle.std.proofs.lemmas.List.{take_more}
use Rattle.con_terms.specs.Trees.{Cn}
use Rattle.source_names.specs.Parts.{if_any}
use Rattle.source_names.specs.Reading.{is_record, is_records, is_proj, is_projs}

pub records_more : (ps : List ℕ) (i : ℕ) (c : Cn) (o : Option Cn) (first : Cn → Bool) → i < length ps →
    ((f : Cn → Bool) → is_record f c ≡ if_any f o) →
    is_records (drop i ps) first c ≡ if_any (λ d. is_records (drop (i + 1) ps) first d) o
records_more ps i c o first h e =
    let next : suc i ≡ i + 1 = omega arith in
    ap (λ l. is_records l first c) (drop-cons ps i 0 h ∙ ap (λ n. get_or ps i 0 ∷ drop n ps) next)
    ∙ e (λ d. is_records (drop (i + 1) ps) first d)

pub records_end : (ps : List ℕ) (i : ℕ) (c : Cn) (first : Cn → Bool) → length ps ≤ i →
    is_records (drop i ps) first c ≡ is_record first c
records_end ps i c first h = ap (λ l. is_records l first c) (drop_of_length-le ps h)

projs_last : (ns : List ℕ) (n : ℕ) (first : Cn → Bool) (c : Cn) →
    is_projs (ns ++ n ∷ []) first c ≡ is_proj (λ d. is_projs ns first d) n c
projs_last [] n first c = refl
projs_last (m ∷ ms) n first c = projs_last ms n (λ d. is_proj first m d) c

pub projs_more : (ns : List ℕ) (left : ℕ) (n : ℕ) (c : Cn) (o : Option Cn) (first : Cn → Bool) →
    0 < left → left ≤ length ns → n ≡ get_or ns (left - 1) n → ((f : Cn → Bool) → is_proj f n c ≡ if_any f o) →
    is_projs (take left ns) first c ≡ if_any (λ d. is_projs (take (left - 1) ns) first d) o
projs_more ns left n c o first some within is e =
    ap (λ k. is_projs (take k ns) first c) (let p : left ≡ left - 1 + 1 = omega arith in p)
    ∙ ap (λ l. is_projs l first c) (take_more ns (left - 1) n (omega arith))
    ∙ ap (λ m. is_projs (take (left - 1) ns ++ m ∷ []) first c) (sym is)
    ∙ projs_last (take (left - 1) ns) n first c
    ∙ e (λ d. is_projs (take (left - 1) ns) first d)
