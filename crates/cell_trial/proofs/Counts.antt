-- For `run`: what a closed cell's counter has of each worker.
use Rattle.std.proofs.Common.{◌≡◌, ◌∙◌, ℕ, suc, ◌+◌, ◌≤◌, ◌<◌, List, [], ◌∷◌, ◌++◌, length, map, sum_by, All, Option, Some, None, ap, subst, sym, refl, arith}
use Rattle.std.proofs.lemmas.List.{map-append}
use Rattle.std.proofs.lemmas.List.Elements.{All-map}
use Rattle.commit_cell.specs.History.{of_number, CountsFrom, times}
use Rattle.commit_cell.specs.Rule.{from}
use Rattle.cell_trial.specs.declared.counter.Counter.{Counter}
use Rattle.cell_trial.specs.declared.counter.Entry.{Entry}
use Rattle.cell_trial.specs.Counter.{Stands, HasAllOf, counted, entries_of}

-- the lists that were gathered are those of the history
pub has_all : (x : Counter) (log : List Entry) (gs : List (ℕ × List Entry)) → x.entries.items ≡ log
    → All (λ (g : ℕ × List Entry). (of_number (λ (e : Entry). e.number) g.0 log ≡ g.1) × CountsFrom (λ (e : Entry). e.serial) 0 g.1) gs
    → All (λ m. HasAllOf x m) (map counted gs)
has_all x log gs is all = All-map (λ m. HasAllOf x m) counted gs (λ k d lt. one _ (all k d lt))
  where
    one : (g : ℕ × List Entry) → (of_number (λ (e : Entry). e.number) g.0 log ≡ g.1) × CountsFrom (λ (e : Entry). e.serial) 0 g.1 → HasAllOf x (counted g)
    one g h =
        let same : entries_of x g.0 ≡ g.1 = ap (of_number (λ (e : Entry). e.number) g.0) is ∙ h.0 in
        (ap length same, subst (λ (es : List Entry). CountsFrom (λ (e : Entry). e.serial) 0 es) (sym same) h.1)

-- one worker more is joined, who had gathered nothing
pub joins_count : (gs qs : List (ℕ × List Entry)) (made : List (ℕ × ℕ)) (n m k : ℕ) (own : List Entry) → made ≡ map counted gs → n ≡ m → k ≡ length own → qs ≡ [] → made ++ (n, k) ∷ [] ≡ map counted (gs ++ (m, own) ∷ qs)
joins_count gs qs made n m k own is same few none =
    (λ i. is i ++ (same i, few i) ∷ []) ∙ sym (map-append counted gs ((m, own) ∷ [])) ∙ ap (λ (ts : List (ℕ × List Entry)). map counted (gs ++ (m, own) ∷ ts)) (sym none)

-- a counter that began with no entry has those of the history
pub stands_alone : (o : Option Counter) (first x : Counter) (log : List Entry) → from Stands o log x → o ≡ Some first → first.entries.items ≡ [] → x.entries.items ≡ log
stands_alone None first x log s is none = cc
stands_alone (Some o) first x log s is none =
    let same : o ≡ first = cc in
    s.1 ∙ ap (λ (y : Counter). y.entries.items ++ log) same ∙ ap (λ (es : List Entry). es ++ log) none

-- a counter that began at 0 with no entry has the sum of its entries
pub adds_up : (o : Option Counter) (first x : Counter) (log : List Entry) → from Stands o log x → o ≡ Some first → first.total ≡ 0 → first.entries.items ≡ []
    → x.total ≡ sum_by (λ (e : Entry). e.amount) x.entries.items
adds_up None first x log s is zeroed none = cc
adds_up (Some o) first x log s is zeroed none =
    let same : o ≡ first = cc in
    let items : x.entries.items ≡ log = stands_alone (Some o) first x log s is none in
    let start : o.total ≡ 0 = ap (λ (y : Counter). y.total) same ∙ zeroed in
    let sums : sum_by (λ (e : Entry). e.amount) x.entries.items ≡ sum_by (λ (e : Entry). e.amount) log = ap (sum_by (λ (e : Entry). e.amount)) items in
    omega (arith, s.0, start, sums)

-- what is told of the gathered ones has their numbers
pub all_differ : (gs : List (ℕ × List Entry)) (made : List (ℕ × ℕ)) → made ≡ map counted gs → ((n : ℕ) → times n (map (λ (g : ℕ × List Entry). g.0) gs) ≤ 1)
    → (n : ℕ) → times n (map (λ (m : ℕ × ℕ). m.0) made) ≤ 1
all_differ gs made is once n = subst (λ (ns : List ℕ). times n ns ≤ 1) (sym (ap (map (λ (m : ℕ × ℕ). m.0)) is ∙ firsts gs)) (once n)
  where
    firsts : (hs : List (ℕ × List Entry)) → map (λ (m : ℕ × ℕ). m.0) (map counted hs) ≡ map (λ (g : ℕ × List Entry). g.0) hs
    firsts [] = refl
    firsts (h ∷ hs) = ap (λ (ns : List ℕ). h.0 ∷ ns) (firsts hs)

-- what holds of all of a list holds of its last
pub last_holds : {A : Type 0} (P : A → Type 0) (olds news : List A) (w : A) → olds ≡ news ++ w ∷ [] → All P olds → P w
last_holds {A} P olds news w is all = last news (subst (All P) is all)
  where
    last : (xs : List A) → All P (xs ++ w ∷ []) → P w
    last [] h = h 0 w (omega arith)
    last (x ∷ xs) h = last xs (λ k d lt. h (suc k) d (omega arith))
