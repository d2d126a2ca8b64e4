-- For `laws.steps_are_events`: each kind of step moves the world that the table shows by an event, or leaves it.
use Rattle.std.proofs.Common.{◌≡◌, ℕ, ◌+◌, true, false, cond, List, [], ◌∷◌, ◌++◌, length, map, get_or, set, Option, Some, None, refl, sym, ap, ◌∙◌, arith, get_or-set_same, get_or-set_other}
use mathlib.Core.Option.{some}
use lib.ListN.{get_elem?}
use Rattle.std.proofs.lemmas.List.{map-append, map-set}
use Rattle.atomic_table.specs.Table.{State}
use Rattle.atomic_table.proofs.Lists.{at_map, set_again}
use Rattle.commit_cell.specs.declared.view.Known.{Known}
use Rattle.commit_cell.specs.declared.view.View.{View}
use Rattle.commit_cell.specs.World.{World, looked, committed, joined, newcomer}
use Rattle.commit_cell.specs.Rule.{acting, given_back, unnumbered, numbered, both, spent, pass_of, shown_world}
use Rattle.commit_cell.specs.StepEvents.{IsSeat, left_by, TakingLooks, GivingCommits, GivingLeaves, MarkingLeaves, CuttingSeats, DrawingEnters, JoiningJoins}

module _ {E : Type 0} where
  abbrev world_of : List E → ℕ → List (Option (Known E)) → World E
  world_of log given passes = record { history = log; given = given; passes = passes }

-- the count of numbers, where the turn's word was written
same_given : (words : List ℕ) (n : ℕ) → get_or (set words 0 n) 1 0 ≡ get_or words 1 0
same_given words n = get_or-set_other words 0 1 n 0 (omega arith)

module _ {S E : Type 0} where
  pass_at : (s : State (Option S) (View S E)) (id : ℕ) (v : View S E) → IsSeat s id v → v.live ≡ true → get_elem? (map pass_of s.views) id ≡ some (Some v.known)
  pass_at s id v at live = at_map pass_of s.views id v at ∙ ap (λ b. some (cond b (Some v.known) None)) live

  no_pass_at : (s : State (Option S) (View S E)) (id : ℕ) (v : View S E) → IsSeat s id v → v.live ≡ false → get_elem? (map pass_of s.views) id ≡ some None
  no_pass_at s id v at idle = at_map pass_of s.views id v at ∙ ap (λ b. some (cond b (Some v.known) None)) idle

  -- the passes once one view was changed
  passes_set : (vs : List (View S E)) (id : ℕ) (w : View S E) (p : Option (Known E)) → pass_of w ≡ p → map pass_of (set vs id w) ≡ set (map pass_of vs) id p
  passes_set vs id w p is = map-set pass_of vs id w ∙ ap (set (map pass_of vs) id) is

  -- the passes once a view was changed that is the same pass
  passes_stay : (s : State (Option S) (View S E)) (id : ℕ) (v w : View S E) → IsSeat s id v → pass_of w ≡ pass_of v → map pass_of (set s.views id w) ≡ map pass_of s.views
  passes_stay s id v w at same = passes_set s.views id w (pass_of v) same ∙ set_again (map pass_of s.views) id (pass_of v) (at_map pass_of s.views id v at)

module _ (S E : Type 0) (number serial : E → ℕ) where
  pub taking_looks : TakingLooks S E number serial
  taking_looks log s n id homes v at live = (
    v.known,
    pass_at s id v at live,
    λ k. world_of log (same_given s.words n k) (passes_set s.views id (acting v log) (Some (looked v.known log)) (ap (λ b. cond b (Some (looked v.known log)) None) live) k),
  )

  pub giving_commits : GivingCommits S E number serial
  giving_commits log s n id homes v e at live whole next = (
    v.known,
    pass_at s id v at live,
    next.0,
    next.1,
    λ k. world_of (log ++ e ∷ []) (same_given s.words n k)
        (passes_set s.views id (given_back v (Some e)) (Some (committed v.known log e)) ((ap (λ b. cond b (Some (committed v.known v.known.seen e)) None) live) ∙ ap (λ l. Some (committed v.known l e)) whole) k),
  )

  pub giving_leaves : GivingLeaves S E number serial
  giving_leaves log s n id homes v at = λ k. world_of log (same_given s.words n k) (passes_stay s id v (given_back v None) at refl k)

  pub marking_leaves : MarkingLeaves S E number serial
  marking_leaves log s n id homes v at = λ k. world_of log (same_given s.words n k) (passes_stay s id v v at refl k)

  pub cutting_seats : CuttingSeats S E number serial
  cutting_seats log s id v at =
      λ k. world_of log (get_or s.words 1 0) ((map-append pass_of (set s.views id v) (unnumbered v ∷ []) ∙ ap (λ ps. ps ++ None ∷ []) (passes_stay s id v v at refl)) k)

  pub drawing_enters : DrawingEnters S E number serial
  drawing_enters log s id homes v two at idle starts =
      let n = get_or s.words 1 0 in (
        starts,
        no_pass_at s id v at idle,
        λ k. world_of log (get_or-set_same s.words 1 (n + 1) 0 (omega (arith, two)) k) (passes_set s.views id (numbered v n) (Some (newcomer n v.known.seen)) refl k),
      )

  pub joining_joins : JoiningJoins S E number serial
  joining_joins log s id other v w at live there live' apart = (
    v.known,
    w.known,
    pass_at s id v at live,
    pass_at s other w there live',
    apart,
    λ k. world_of log (get_or s.words 1 0)
        ((passes_set (set s.views id (both v w)) other spent None refl
        ∙ ap (λ ps. set ps other None) (passes_set s.views id (both v w) (Some (joined v.known w.known)) (ap (λ b. cond b (Some (joined v.known w.known)) None) live))) k),
  )
