-- The walk of a page by its meaning: the trees in order where there is a step for each node, else more steps are needed.
use Rattle.std.proofs.Common.{◌≡◌, ℕ, zero, suc, ◌+◌, ◌<◌, List, Result, Ok, Err, IfOk, OnOk, IfErr, ◌⊎◌, inl, inr, refl, sym, ap, ◌∙◌, subst, arith}
use Rattle.xml_trees.specs.Trees.{Nothing, Words, Element, trees_and, Whole, trees_of, built}
use Rattle.xml_trees.specs.declared.page.Piece.{Piece}
use Rattle.value_trees.specs.Values.{Page, words, joined, element, nothing, Out, done, more, then_do, tick, walked}
use Rattle.run_values.specs.View.{page_tree}
use Rattle.run_values.specs.Outcomes.{StopsWith, ComesTo}
use Rattle.run_values.specs.declared.page.Tree.{Tree}
use Rattle.run_values.specs.declared.stop.Stop.{Stop}
use Rattle.page_walk.specs.Walked.{trees_in, below_in, trees, nodes}

-- one step, and then the rest
first_step : {A : Type 0} (n b : ℕ) (go : ℕ → Out A) → n ≡ suc b → tick n go ≡ go b
first_step n b go h = ap (λ k. tick k go) h

-- with a step for each node
enough : (p : Page) (n b : ℕ) → n ≡ suc (below_in p) + b → walked p n ≡ done (trees_in p) b
enough nothing n b h = first_step n b (λ l. done Nothing l) (omega (arith, h))
enough (words t) n b h = first_step n b (λ l. done (Words t Nothing) l) (omega (arith, h))
enough (joined p q) n b h =
    first_step n (suc (below_in p) + (suc (below_in q) + b)) (λ l. then_do (walked p l) (λ s m. then_do (walked q m) (λ t r. done (trees_and s t) r))) (omega (arith, h))
    ∙ ap (λ o. then_do o (λ s m. then_do (walked q m) (λ t r. done (trees_and s t) r))) (enough p (suc (below_in p) + (suc (below_in q) + b)) (suc (below_in q) + b) refl)
    ∙ ap (λ o. then_do o (λ t r. done (trees_and (trees_in p) t) r)) (enough q (suc (below_in q) + b) b refl)
enough (element g as' p) n b h =
    first_step n (suc (below_in p) + b) (λ l. then_do (walked p l) (λ s m. done (Element g as' s Nothing) m)) (omega (arith, h))
    ∙ ap (λ o. then_do o (λ s m. done (Element g as' s Nothing) m)) (enough p (suc (below_in p) + b) b refl)

-- enough or too few
steps_for : (k n : ℕ) → ((b : ℕ) × (n ≡ k + b)) ⊎ (n < k)
steps_for zero n = inl (n, omega arith)
steps_for (suc k) zero = inr (omega arith)
steps_for (suc k) (suc n) = elim (steps_for k n) [ inl e ↦ inl (e.0, omega (arith, e.1)) | inr l ↦ inr (omega (arith, l)) ]

-- with too few
few_of : (p q : Page) (n : ℕ)
    → ((b : ℕ) × (n ≡ suc (below_in p) + b)) ⊎ (n < suc (below_in p))
    → n < suc (below_in p) + suc (below_in q)
    → (n < suc (below_in p) → walked p n ≡ more)
    → ((m : ℕ) → m < suc (below_in q) → walked q m ≡ more)
    → then_do (walked p n) (λ s m. then_do (walked q m) (λ t r. done (trees_and s t) r)) ≡ more
few_of p q n (inl e) h f g =
    ap (λ o. then_do o (λ s m. then_do (walked q m) (λ t r. done (trees_and s t) r))) (enough p n e.0 e.1)
    ∙ ap (λ o. then_do o (λ t r. done (trees_and (trees_in p) t) r)) (g e.0 (omega (arith, e.1, h)))
few_of p q n (inr l) h f g = ap (λ o. then_do o (λ s m. then_do (walked q m) (λ t r. done (trees_and s t) r))) (f l)

few : (p : Page) (n : ℕ) → n < suc (below_in p) → walked p n ≡ more
few nothing zero h = refl
few nothing (suc n) h = absurd (omega (arith, h))
few (words t) zero h = refl
few (words t) (suc n) h = absurd (omega (arith, h))
few (joined p q) zero h = refl
few (joined p q) (suc n) h = few_of p q n (steps_for (suc (below_in p)) n) (omega (arith, h)) (λ l. few p n l) (λ m l. few q m l)
few (element g as' p) zero h = refl
few (element g as' p) (suc n) h = ap (λ o. then_do o (λ s m. done (Element g as' s Nothing) m)) (few p n (omega (arith, h)))

-- an answer that says which trees, how many steps and why it stops has the meaning
pub as_meant : (t : Tree) (old new : ℕ) (r : Result (List Piece) Stop)
    → IfOk r (λ page. built page ≡ Whole (trees t))
    → OnOk r (old ≡ nodes t + new)
    → IfErr r (λ stop. (stop ≡ Stop.OverBudget) ⊎ (stop ≡ Stop.Memory))
    → IfErr r (λ stop. stop ≡ Stop.OverBudget → old < nodes t)
    → ComesTo (λ page. trees_of (built page)) r new (walked (page_tree t) old)
as_meant t old new (Ok page) is paid stops spent =
    enough (page_tree t) old new paid ∙ ap (λ b. done (trees_of b) new) (sym is)
as_meant t old new (Err stop) is paid stops spent =
    elim stops [
      | inl e ↦ subst (λ s. StopsWith s (walked (page_tree t) old)) (sym e) (few (page_tree t) old (spent e))
      | inr e ↦ subst (λ s. StopsWith s (walked (page_tree t) old)) (sym e) tt
    ]
