-- Runs of bytes that pass a test.
use Rattle.std.proofs.Common.{◌≡◌, ◌<◌, ◌≤◌, ℕ, zero, suc, Bool, true, false, [], ◌∷◌, length, take, get_or, refl, subst, arith}
use Rattle.std.specs.List.{prefix_len, list_all}
use Rattle.std.proofs.lemmas.Bool.{and_parts}
use Rattle.ur_lexer.specs.Bytes.{Bytes}

-- bytes at the front that all pass are no more than the run
pub all_within : (p : ℕ → Bool) (n : ℕ) (bs : Bytes) → n ≤ length bs → list_all p (take n bs) ≡ true → n ≤ prefix_len p bs
all_within p zero bs l h = omega arith
all_within p (suc n) [] l h = absurd (omega arith)
all_within p (suc n) (b ∷ bs) l h =
    let one : p b ≡ true = (and_parts (p b) (list_all p (take n bs)) h).0 in
    let more = all_within p n bs (omega arith) (and_parts (p b) (list_all p (take n bs)) h).1 in
    rw one (omega (arith, more))

run_at : (p : ℕ → Bool) (b : ℕ) (bs : Bytes) (t : Bool) → p b ≡ t → list_all p (take (prefix_len p bs) bs) ≡ true → list_all p (take (prefix_len p (b ∷ bs)) (b ∷ bs)) ≡ true
run_at p b bs true h more =
    let e : suc (prefix_len p bs) ≡ prefix_len p (b ∷ bs) = rw h (omega arith) in
    subst (λ (n : ℕ). list_all p (take n (b ∷ bs)) ≡ true) e (rw h more)
run_at p b bs false h more =
    let e : 0 ≡ prefix_len p (b ∷ bs) = rw h refl in subst (λ (n : ℕ). list_all p (take n (b ∷ bs)) ≡ true) e refl

-- all bytes of a run pass
pub run_passes : (p : ℕ → Bool) (bs : Bytes) → list_all p (take (prefix_len p bs) bs) ≡ true
run_passes p [] = refl
run_passes p (b ∷ bs) = run_at p b bs (p b) refl (run_passes p bs)

-- a run is not empty where its first byte passes
pub run_some : (p : ℕ → Bool) (bs : Bytes) → 0 < length bs → p (get_or bs 0 0) ≡ true → 0 < prefix_len p bs
run_some p [] l h = absurd (omega arith)
run_some p (b ∷ bs) l h = rw h (omega arith)

-- the byte at a place among bytes that all pass
pub passes_at : (p : ℕ → Bool) (n : ℕ) (bs : Bytes) (i : ℕ) → n ≤ length bs → list_all p (take n bs) ≡ true → i < n → p (get_or bs i 0) ≡ true
passes_at p zero bs i l h lt = absurd (omega arith)
passes_at p (suc n) [] i l h lt = absurd (omega arith)
passes_at p (suc n) (b ∷ bs) zero l h lt = (and_parts (p b) (list_all p (take n bs)) h).0
passes_at p (suc n) (b ∷ bs) (suc i) l h lt = passes_at p n bs i (omega arith) (and_parts (p b) (list_all p (take n bs)) h).1 (omega arith)
