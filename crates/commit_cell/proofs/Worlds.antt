-- Each event keeps the facts of a world.
use Rattle.std.proofs.Common.{◌≡◌, ◌≢◌, ◌⊎◌, ℕ, zero, suc, ◌+◌, ◌<◌, ◌≤◌, List, [], ◌∷◌, ◌++◌, length, set, Option, Some, None, All, refl, sym, ap, ◌∙◌, subst, ⊎_elim, inl, inr, arith}
use mathlib.Core.Option.{some, some-ne-none, some-injective}
use mathlib.Core.Logic.{dite}
use native.Mathlib.Decide.{ℕ_discrete}
use lib.ListN.{get_elem?}
use Rattle.std.proofs.lemmas.List.Elements.{All-append}
use Rattle.atomic_table.proofs.Lists.{at_set, at_snoc, set_else}
use Rattle.commit_cell.specs.declared.view.Known.{Known}
use Rattle.commit_cell.specs.History.{StartsWith, of_number, CountsFrom, times}
use Rattle.commit_cell.specs.World.{World, Event, seats, enters, joins, looks, commits, HasPass, newcomer, looked, committed, joined, numbers_of, numbers, first_world, Happens, Runs, Knows, Facts, EveryWorldKeepsItsFacts}
use Rattle.commit_cell.proofs.Lists.{starts_self, starts_later, begins, longer_is, of_number-other, of_number-own, of_number-between, of_number-none, counts-append}
use Rattle.commit_cell.proofs.Numbers.{tally, firsts, times-append, times-same, times-other, times-firsts-append, tally-append, tally-set, tally_new, apart, own_apart}

module _ {E : Type 0} where
  abbrev at : List (Option (Known E)) → ℕ → Known E → Type 0
  at ps i p = get_elem? ps i ≡ some (Some p)

  -- who is at a place once one place was filled anew
  after_set : (P : ℕ → Known E → Type 0) (ps : List (Option (Known E))) (i : ℕ) (p : Known E) → P i p → ((j : ℕ) (q : Known E) → j ≢ i → at ps j q → P j q) → (j : ℕ) (q : Known E) → at (set ps i (Some p)) j q → P j q
  after_set P ps i p here others j q e = ⊎_elim (λ (t : (j ≡ i) × (Some p ≡ Some q)). let is : p ≡ q = cc in subst (λ (x : ℕ × Known E). P x.0 x.1) (λ k. (sym t.0 k, is k)) here)
      (λ (t : (j ≢ i) × (get_elem? ps j ≡ some (Some q))). others j q t.0 t.1) (at_set ps i j (Some p) (Some q) e)

  after_emptied : (P : ℕ → Known E → Type 0) (ps : List (Option (Known E))) (i : ℕ) → ((j : ℕ) (q : Known E) → j ≢ i → at ps j q → P j q) → (j : ℕ) (q : Known E) → at (set ps i None) j q → P j q
  after_emptied P ps i others j q e = ⊎_elim (λ (t : (j ≡ i) × (None ≡ Some q)). let h = t.1 in cc)
      (λ (t : (j ≢ i) × (get_elem? ps j ≡ some (Some q))). others j q t.0 t.1) (at_set ps i j None (Some q) e)

module _ {E : Type 0} (number serial : E → ℕ) where
  abbrev Keeps : World E → Type 0
  Keeps w = Facts number serial w

  abbrev with_passes : World E → List (Option (Known E)) → World E
  with_passes w ps = record { history = w.history; given = w.given; passes = ps }

  -- an empty place more
  pub keeps_place : (w : World E) → Keeps w → Keeps (with_passes w (w.passes ++ None ∷ []))
  keeps_place w f = record {
    each = λ i p e. ⊎_elim (λ (t : get_elem? w.passes i ≡ some (Some p)). f.each i p t) (λ (t : None ≡ Some p). cc) (at_snoc w.passes None (Some p) i e);
    differ = λ n. let h = f.differ n in let t = tally-append n w.passes None in omega arith;
    unused = f.unused;
  }

  -- a new pass, at whatever place, with a beginning of the history
  pub keeps_newcomer : (w : World E) (seen : List E) (ps : List (Option (Known E))) → Keeps w → StartsWith w.history seen
      → ((i : ℕ) (p : Known E) → get_elem? ps i ≡ some (Some p) → (get_elem? w.passes i ≡ some (Some p)) ⊎ (newcomer w.given seen ≡ p))
      → ((n : ℕ) → tally n ps ≡ tally n w.passes + times n (w.given ∷ []))
      → Keeps record { history = w.history; given = w.given + 1; passes = ps }
  keeps_newcomer w seen ps f starts who count = record {
    each = λ i p e. ⊎_elim
        (λ (t : get_elem? w.passes i ≡ some (Some p)). let k = f.each i p t in let small = k.was_given in record {
          seen = k.seen;
          own_seen = k.own_seen;
          owns = k.owns;
          was_given = omega arith;
          were_given = λ j d lt. let small' = k.were_given j d lt in omega arith;
        })
        (λ (t : newcomer w.given seen ≡ p). subst (Knows number serial w.history (w.given + 1)) t new)
        (who i p e);
    differ = λ n. once n;
    unused = λ n le. f.unused n (omega arith);
  }
    where
      fresh : tally w.given w.passes ≡ 0
      fresh = tally_new w.given w.passes (λ i p e. let k = f.each i p e in (k.was_given, k.were_given))

      once : (n : ℕ) → tally n ps ≤ 1
      once n = let c = count n in dite (ℕ_discrete n w.given)
          (λ is. let h : tally n w.passes ≡ 0 = subst (λ (m : ℕ). tally m w.passes ≡ 0) (sym is) fresh in
          let t : times n (w.given ∷ []) ≡ 1 + times n [] = times-same n w.given [] (sym is) in
          let z : times n [] ≡ 0 = refl in omega arith)
          (λ no. let h = f.differ n in
          let t : times n (w.given ∷ []) ≡ times n [] = times-other n w.given [] (λ e. no (sym e)) in
          let z : times n [] ≡ 0 = refl in omega arith)

      new : Knows number serial w.history (w.given + 1) (newcomer w.given seen)
      new = record {
        seen = starts;
        own_seen = of_number-none number w.given w.history seen starts (f.unused w.given (omega arith));
        owns = record { own = f.unused w.given (omega arith); serials = tt; gathered = λ j d lt. absurd (omega arith) };
        was_given = omega arith;
        were_given = λ j d lt. absurd (omega arith);
      }

  -- a pass looks at the whole history
  pub keeps_look : (w : World E) (i : ℕ) (p : Known E) → Keeps w → HasPass w i p → Keeps (with_passes w (set w.passes i (Some (looked p w.history))))
  keeps_look w i p f here =
      let k = f.each i p here in record {
        each = after_set (λ _ q. Knows number serial w.history w.given q) w.passes i (looked p w.history)
            record { seen = starts_self w.history; own_seen = k.owns.own; owns = record { own = k.owns.own; serials = k.owns.serials; gathered = k.owns.gathered }; was_given = k.was_given; were_given = k.were_given }
            (λ j q ne there. f.each j q there);
        differ = λ n. let h = f.differ n in let t = tally-set n w.passes i (Some p) (Some (looked p w.history)) here in
            let s : times n (numbers_of (Some (looked p w.history))) ≡ times n (numbers_of (Some p)) = refl in omega arith;
        unused = f.unused;
      }

  -- a pass adds an entry
  pub keeps_commit : (w : World E) (i : ℕ) (p : Known E) (e : E) → Keeps w → HasPass w i p → number e ≡ p.number → serial e ≡ length p.mine
      → Keeps record { history = w.history ++ e ∷ []; given = w.given; passes = set w.passes i (Some (committed p w.history e)) }
  keeps_commit w i p e f here is next =
      let k = f.each i p here in
      let log = w.history ++ e ∷ [] in
      let more : of_number number p.number log ≡ p.mine ++ e ∷ [] = of_number-own number p.number w.history e is ∙ ap (λ l. l ++ e ∷ []) k.owns.own in
      let same : (n : ℕ) → n ≢ p.number → of_number number n log ≡ of_number number n w.history = λ n ne. of_number-other number n w.history e (λ h. ne (h ∙ is)) in
      let inner = own_apart w.passes i p f.differ here in record {
        each = after_set (λ _ q. Knows number serial log w.given q) w.passes i (committed p w.history e)
            record {
              seen = starts_self log;
              own_seen = more;
              owns = record { own = more; serials = counts-append serial p.mine e 0 k.owns.serials (omega arith); gathered = λ j d lt. let g = k.owns.gathered j d lt in (same _ (inner j d lt) ∙ g.0, g.1) };
              was_given = k.was_given;
              were_given = k.were_given;
            }
            (λ j q ne there. let h = f.each j q there in let away = apart w.passes i j p q f.differ here there ne in record {
              seen = starts_later w.history q.seen (e ∷ []) h.seen;
              own_seen = h.own_seen;
              owns = record { own = same q.number away.0 ∙ h.owns.own; serials = h.owns.serials; gathered = λ m d lt. let g = h.owns.gathered m d lt in (same _ (away.1 m d lt) ∙ g.0, g.1) };
              was_given = h.was_given;
              were_given = h.were_given;
            });
        differ = λ n. let h = f.differ n in let t = tally-set n w.passes i (Some p) (Some (committed p w.history e)) here in
            let s : times n (numbers_of (Some (committed p w.history e))) ≡ times n (numbers_of (Some p)) = refl in omega arith;
        unused = λ n le. let b = k.was_given in same n (λ h. omega arith) ∙ f.unused n le;
      }

  -- a pass takes in another
  pub keeps_join : (w : World E) (i j : ℕ) (p q : Known E) → Keeps w → HasPass w i p → HasPass w j q → j ≢ i → Keeps (with_passes w (set (set w.passes i (Some (joined p q))) j None))
  keeps_join w i j p q f here there ne =
      let k = f.each i p here in
      let h = f.each j q there in
      let pq = joined p q in
      let ps = set w.passes i (Some pq) in
      let still : get_elem? ps j ≡ some (Some q) = set_else w.passes i j (Some pq) ne ∙ there in
      let starts : StartsWith w.history pq.seen = longer_is (λ l. StartsWith w.history l) p.seen q.seen k.seen (λ _. h.seen) in
      let own : of_number number p.number pq.seen ≡ p.mine = longer_is (λ l. of_number number p.number l ≡ p.mine) p.seen q.seen k.own_seen
      (λ le. of_number-between number p.number w.history q.seen p.seen p.mine h.seen (begins w.history p.seen q.seen k.seen h.seen le) k.own_seen k.owns.own) in record {
        each = after_emptied (λ _ r. Knows number serial w.history w.given r) ps j (λ m r ne' there'. after_set (λ _ r'. Knows number serial w.history w.given r') w.passes i pq
            record {
              seen = starts;
              own_seen = own;
              owns = record { own = k.owns.own; serials = k.owns.serials; gathered = with_gathered (λ g. (of_number number g.0 w.history ≡ g.1) × CountsFrom serial 0 g.1) k.owns.gathered (h.owns.own, h.owns.serials) h.owns.gathered };
              was_given = k.was_given;
              were_given = with_gathered (λ g. g.0 < w.given) k.were_given h.was_given h.were_given;
            }
            (λ x r' _ at'. f.each x r' at')
            m r there');
        differ = λ n. let most = f.differ n in
            let a = tally-set n w.passes i (Some p) (Some pq) here in
            let b = tally-set n ps j (Some q) None still in
            let c = times-firsts-append n p.gathered ((q.number, q.mine) ∷ q.gathered) in
            let d : times n (numbers_of (Some pq)) ≡ times n (p.number ∷ []) + times n (firsts pq.gathered) = times-append n (p.number ∷ []) (firsts pq.gathered) in
            let e : times n (numbers_of (Some p)) ≡ times n (p.number ∷ []) + times n (firsts p.gathered) = times-append n (p.number ∷ []) (firsts p.gathered) in
            omega arith;
        unused = f.unused;
      }
    where
      with_gathered : (P : ℕ × List E → Type 0) → All P p.gathered → P (q.number, q.mine) → All P q.gathered → All P (p.gathered ++ (q.number, q.mine) ∷ q.gathered)
      with_gathered P front one back = All-append P p.gathered ((q.number, q.mine) ∷ q.gathered) front cons
        where
          cons : All P ((q.number, q.mine) ∷ q.gathered)
          cons zero d lt = one
          cons (suc m) d lt = back m d (omega arith)

  -- an event keeps the facts
  pub keeps_event : (w w' : World E) (e : Event E) → Keeps w → Happens number serial w e w' → Keeps w'
  keeps_event w w' seats f h = subst Keeps (sym h) (keeps_place w f)
  keeps_event w w' (enters i seen) f h =
      let new = newcomer w.given seen in
      subst Keeps (sym h.2) (keeps_newcomer w seen (set w.passes i (Some new)) f h.0
      (λ j q e. ⊎_elim (λ (t : (j ≡ i) × (Some new ≡ Some q)). let k = t.1 in inr (cc)) (λ (t : (j ≢ i) × (get_elem? w.passes j ≡ some (Some q))). inl t.1) (at_set w.passes i j (Some new) (Some q) e))
      (λ n. let t = tally-set n w.passes i None (Some new) h.1 in let z : times n [] ≡ 0 = refl in omega arith))
  keeps_event w w' (joins i j) f h = subst Keeps (sym h.5) (keeps_join w i j h.0 h.1 f h.2 h.3 h.4)
  keeps_event w w' (looks i) f h = subst Keeps (sym h.2) (keeps_look w i h.0 f h.1)
  keeps_event w w' (commits i e) f h = subst Keeps (sym h.4) (keeps_commit w i h.0 e f h.1 h.2 h.3)

  keeps_events : (events : List (Event E)) (w w' : World E) → Keeps w → Runs number serial w events w' → Keeps w'
  keeps_events [] w w' f h = subst Keeps h f
  keeps_events (e ∷ events) w w' f h = keeps_events events h.0 w' (keeps_event w h.0 e f h.1) h.2

  pub first_keeps : Keeps first_world
  first_keeps = record {
    each = each;
    differ = once;
    unused = λ n le. refl;
  }
    where
      first : Knows number serial [] 1 (newcomer 0 [])
      first = record { seen = ([], refl); own_seen = refl; owns = record { own = refl; serials = tt; gathered = λ j d lt. absurd (omega arith) }; was_given = omega arith; were_given = λ j d lt. absurd (omega arith) }

      each : (i : ℕ) (p : Known E) → HasPass first_world i p → Knows number serial [] 1 p
      each zero p e = let is : Some (newcomer 0 []) ≡ Some p = some-injective _ _ e in let same : newcomer 0 [] ≡ p = cc in subst (Knows number serial [] 1) same first
      each (suc i) p e = absurd (some-ne-none (Some p) (sym e))

      once : (n : ℕ) → times n (numbers {E = E} first_world) ≤ 1
      once n = let z : times n [] ≡ 0 = refl in dite (ℕ_discrete 0 n)
          (λ is. let t : times n (0 ∷ []) ≡ 1 + times n [] = times-same n 0 [] is in omega arith)
          (λ no. let t : times n (0 ∷ []) ≡ times n [] = times-other n 0 [] no in omega arith)

  -- every list of events keeps the facts
  pub every_world_keeps_its_facts : EveryWorldKeepsItsFacts number serial
  every_world_keeps_its_facts events w h = keeps_events events first_world w first_keeps h
