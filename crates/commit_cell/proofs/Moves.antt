-- Each step keeps the rule of the cell.
use Rattle.std.proofs.Common.{◌≡◌, ◌≢◌, ℕ, zero, suc, ◌+◌, ◌==◌, Bool, true, false, cond, List, [], ◌∷◌, ◌++◌, length, map, get_or, set, All, Option, Some, None, is_some, refl, sym, ap, ◌∙◌, subst, ⊎_elim, inl, inr, arith, length-set, get_or-set_same, get_or-set_other, append-nil, true≢false, ne_eqb, eq-eqb}
use mathlib.Core.Option.{none, some, some-ne-none, some-injective}
use mathlib.Core.Logic.{dite}
use native.Mathlib.Decide.{ℕ_discrete}
use lib.ListN.{get_elem?}
use lib.Seq.{set-get_or}
use prog.Atomic.{either}
use Rattle.std.proofs.lemmas.List.{map-append, map-set}
use Rattle.atomic_table.specs.Table.{State, Me, Step, keeps, takes, gives, rest, Allows, Splits, Joins, opening}
use Rattle.atomic_table.proofs.Lists.{at_set, at_snoc, at_longer, at_map, set_here, set_else, set_again}
use Rattle.commit_cell.specs.declared.view.Known.{Known}
use Rattle.commit_cell.specs.declared.view.View.{View}
use Rattle.commit_cell.specs.History.{StartsWith, times}
use Rattle.commit_cell.specs.World.{Facts, newcomer, looked, committed, joined}
use Rattle.commit_cell.specs.Rule.{from, history_after, known_after, first_view, acting, given_back, unnumbered, numbered, both, spent, pass_of, shown_world, Fits, Turned, Kept, took, gave, drew, compared, IsUnnumbered, IsNextOf}
use Rattle.commit_cell.proofs.Lists.{at_bound, starts_self, starts_later, begins, longer_is, own_fits}
use Rattle.commit_cell.proofs.Numbers.{tally-set, gathered_once}
use Rattle.commit_cell.proofs.Worlds.{first_keeps, keeps_place, keeps_newcomer, keeps_look, keeps_commit, keeps_join}

module _ {S E : Type 0} (number serial : E → ℕ) (stands : S → List E → S → Type 0) (o : S) where
  abbrev Rule : State (Option S) (View S E) → Type 0
  Rule = Kept number serial stands o

  abbrev M : Type 0
  M = Me (Option S) (View S E)

  off : false ≡ true → ⊥
  off e = true≢false (sym e)

  -- the world with this history, so many numbers given and these passes has its facts
  abbrev FactsOf : List E → ℕ → List (Option (Known E)) → Type 0
  FactsOf log given ps = Facts number serial record { history = log; given = given; passes = ps }

  facts_as : (log : List E) (given given' : ℕ) (ps ps' : List (Option (Known E))) → given ≡ given' → ps ≡ ps' → FactsOf log given ps → FactsOf log given' ps'
  facts_as log given given' ps ps' p q f = subst (λ (z : ℕ × List (Option (Known E))). FactsOf log z.0 z.1) (λ k. (p k, q k)) f

  is_pass : (v : View S E) → v.live ≡ true → pass_of v ≡ Some v.known
  is_pass v live = ap (λ b. cond b (Some v.known) None) live

  is_no_pass : (v : View S E) → v.live ≡ false → pass_of v ≡ None
  is_no_pass v idle = ap (λ b. cond b (Some v.known) None) idle

  pass_at : (vs : List (View S E)) (id : ℕ) (v : View S E) → get_elem? vs id ≡ some v → v.live ≡ true → get_elem? (map pass_of vs) id ≡ some (Some v.known)
  pass_at vs id v at live = at_map pass_of vs id v at ∙ ap some (is_pass v live)

  -- the passes once one view was changed
  passes_set : (vs : List (View S E)) (id : ℕ) (w : View S E) (p : Option (Known E)) → pass_of w ≡ p → set (map pass_of vs) id p ≡ map pass_of (set vs id w)
  passes_set vs id w p is = ap (set (map pass_of vs) id) (sym is) ∙ sym (map-set pass_of vs id w)

  is_opening : (v : Option S) → is_some v ≡ true → ((x : S) → v ≡ Some x → x ≡ o) → v ≡ Some o
  is_opening None is h = absurd (off is)
  is_opening (Some x) is h = ap Some (h x refl)

  by_bool : (b : Bool) → (b ≡ true → b ≡ false) → b ≡ false
  by_bool true h = h refl
  by_bool false h = refl

  -- the views after a step of the seat id, to w
  each_set : (P : ℕ → View S E → Type 0) (vs : List (View S E)) (id : ℕ) (w : View S E) → P id w → ((j : ℕ) (u : View S E) → j ≢ id → get_elem? vs j ≡ some u → P j u)
      → (j : ℕ) (u : View S E) → get_elem? (set vs id w) j ≡ some u → P j u
  each_set P vs id w mine others j u e = ⊎_elim (λ (t : (j ≡ id) × (w ≡ u)). subst (λ (x : ℕ × View S E). P x.0 x.1) (λ i. (sym t.0 i, t.1 i)) mine)
      (λ (t : (j ≢ id) × (get_elem? vs j ≡ some u)). others j u t.0 t.1) (at_set vs id j w u e)

  -- the views with one more
  each_more : (P : ℕ → View S E → Type 0) (vs : List (View S E)) (w : View S E) → ((j : ℕ) → P j w) → ((j : ℕ) (u : View S E) → get_elem? vs j ≡ some u → P j u) → (j : ℕ) (u : View S E) → get_elem? (vs ++ w ∷ []) j ≡ some u → P j u
  each_more P vs w new old j u e = ⊎_elim (old j u) (λ (is : w ≡ u). subst (P j) is (new j)) (at_snoc vs w u j e)

  -- who has the turn is another than a seat that acts not
  away : (log : List E) (vs : List (View S E)) (t : Turned log vs) (id : ℕ) (v : View S E) → get_elem? vs id ≡ some v → v.acts ≡ false → t.taker ≢ id
  away log vs t id v at still e = true≢false (sym t.acts ∙ ap (λ (u : View S E). u.acts) (some-injective _ _ (sym t.there ∙ ap (get_elem? vs) e ∙ at)) ∙ still)

  -- the turn stays where it is when a seat that acts not has a new view that acts not
  turned_set : (log : List E) (vs : List (View S E)) (t : Turned log vs) (id : ℕ) (v w : View S E) → get_elem? vs id ≡ some v → v.acts ≡ false → w.acts ≡ false → Turned log (set vs id w)
  turned_set log vs t id v w at still still' = record {
    taker = t.taker;
    view = t.view;
    there = set_else vs id t.taker w (away log vs t id v at still) ∙ t.there;
    acts = t.acts;
    others = each_set (λ j u. u.acts ≡ true → (j ≡ t.taker) × (u.known.seen ≡ log)) vs id w (λ e. absurd (true≢false (sym e ∙ still'))) (λ j u _ there. t.others j u there);
  }

  first_word_set : (words : List ℕ) (n : ℕ) → get_or words 1 0 ≡ get_or (set words 0 n) 1 0
  first_word_set words n = sym (get_or-set_other words 0 1 n 0 (omega arith))

  pub opens : stands o [] o → Rule (opening (0 ∷ 1 ∷ []) (Some o ∷ []) (first_view o))
  opens ok = record {
    log = [];
    facts = first_keeps number serial;
    two_words = refl;
    each = at_first (λ id v. Fits o [] v) record { opening_is = λ x e. let h : Some o ≡ Some x = e in cc; acts = λ _. refl; seen = ([], refl); told = λ k d lt. absurd (omega arith) };
    at_home = λ _. (o, refl, ok);
    at_rest = λ _. at_first (λ id v. v.acts ≡ false) refl;
    taken = λ ne. absurd (ne refl);
  }
    where
      at_first : (P : ℕ → View S E → Type 0) → P 0 (first_view o) → (id : ℕ) (v : View S E) → get_elem? (first_view o ∷ []) id ≡ some v → P id v
      at_first P h zero v e = subst (P 0) (some-injective _ _ e) h
      at_first P h (suc id) v e = absurd (some-ne-none v (sym e))

  -- the free turn is taken
  takes_free : (s : State (Option S) (View S E)) (id n : ℕ) (v : View S E) (r : Rule s) → n ≢ 0 → get_elem? s.views id ≡ some v → v.live ≡ true → get_or s.words 0 0 ≡ 0
      → Rule record { words = set s.words 0 n; homes = set s.homes 0 none; views = set s.views id (acting v r.log) }
  takes_free s id n v r ne at live is =
      let w = acting v r.log in
      let mine = r.each id v at in
      let put : get_or (set s.words 0 n) 0 0 ≡ n = get_or-set_same s.words 0 n 0 (let h = r.two_words in omega arith) in record {
        log = r.log;
        facts = facts_as r.log _ _ _ _ (first_word_set s.words n) (passes_set s.views id w (Some (looked v.known r.log)) (is_pass w live))
            (keeps_look number serial (shown_world r.log s) id v.known r.facts (pass_at s.views id v at live));
        two_words = length-set s.words 0 n ∙ r.two_words;
        each = each_set (λ j u. Fits o r.log u) s.views id w record { opening_is = mine.opening_is; acts = λ _. live; seen = starts_self r.log; told = mine.told } (λ j u apart there. r.each j u there);
        at_home = λ e. absurd (ne (sym put ∙ e));
        at_rest = λ e. absurd (ne (sym put ∙ e));
        taken = λ _. record {
          taker = id;
          view = w;
          there = set_here s.views id w (at_bound s.views id v at);
          acts = refl;
          others = each_set (λ j u. u.acts ≡ true → (j ≡ id) × (u.known.seen ≡ r.log)) s.views id w (λ _. (refl, refl)) (λ j u apart there acts. absurd (off (sym (r.at_rest is j u there) ∙ acts)));
        };
      }

  -- the taken turn is marked, and no view changes
  marks_taken : (s : State (Option S) (View S E)) (id n : ℕ) (v : View S E) (r : Rule s) → n ≢ 0 → get_elem? s.views id ≡ some v → get_or s.words 0 0 ≢ 0
      → Rule record { words = set s.words 0 n; homes = s.homes; views = set s.views id v }
  marks_taken s id n v r ne at held =
      let put : get_or (set s.words 0 n) 0 0 ≡ n = get_or-set_same s.words 0 n 0 (let h = r.two_words in omega arith) in
      subst (λ (vs : List (View S E)). Rule record { words = set s.words 0 n; homes = s.homes; views = vs }) (sym (set_again s.views id v at)) record {
        log = r.log;
        facts = facts_as r.log _ _ _ _ (first_word_set s.words n) refl r.facts;
        two_words = length-set s.words 0 n ∙ r.two_words;
        each = r.each;
        at_home = λ e. absurd (ne (sym put ∙ e));
        at_rest = λ e. absurd (ne (sym put ∙ e));
        taken = λ _. r.taken held;
      }

  -- a step that makes no word 0 takes the turn, if it was free
  pub takes_turn : (id slots : ℕ) (m : M) (st : Step (Option S)) (f : ℕ → ℕ) → f 0 ≢ 0 → ((n : ℕ) → n ≢ 0 → f n ≢ 0) → m.0.live ≡ true → is_some m.0.opening ≡ true → Allows Rule slots id m 0 f (took number serial stands st m)
  takes_turn id slots m st f from_free from_taken live opened s r wide at _ = dite (ℕ_discrete (get_or s.words 0 0) 0)
      (λ is.
      let home = r.at_home is in
      let fits = r.each id m.0 at in
      let next : f (get_or s.words 0 0) ≢ 0 = λ e. from_free (ap f (sym is) ∙ e) in
      let knows = r.facts.each id m.0.known (pass_at s.views id m.0 at live) in (
        acting m.0 r.log,
        takes 0 (Some home.0),
        home.1,
        takes_free s id (f (get_or s.words 0 0)) m.0 r next at live is,
        ((λ _. (home.0, r.log, refl, fits.seen, subst (λ (y : Option S). from stands y r.log home.0) (sym (is_opening m.0.opening opened fits.opening_is)) home.2, knows.owns, record { made = own_fits number m.0.known.number r.log m.0.known.mine knows.owns.own; once = gathered_once (map pass_of s.views) id m.0.known r.facts.differ (pass_at s.views id m.0 at live) })), (λ ne. absurd (ne is))),
      ))
      (λ ne. (
        m.0,
        keeps,
        tt,
        marks_taken s id (f (get_or s.words 0 0)) m.0 r (from_taken _ ne) at ne,
        ((λ is. absurd (ne is)), (λ _. refl)),
      ))

  starts_after : (log seen : List E) (t : Option E) → StartsWith log seen → StartsWith (history_after log t) seen
  starts_after log seen None p = p
  starts_after log seen (Some e) p = starts_later log seen (e ∷ []) p

  ends_after : (log : List E) (p : Known E) (t : Option E) → p.seen ≡ log → StartsWith (history_after log t) (known_after p t).seen
  ends_after log p None is = ([], sym is ∙ sym (append-nil p.seen))
  ends_after log p (Some e) is = ([], ap (λ l. l ++ e ∷ []) (sym is) ∙ sym (append-nil (p.seen ++ e ∷ [])))

  -- what may be given: nothing, or the giver's next entry
  abbrev pub Givable : Known E → Option E → Type 0
  Givable p t = (e : E) → t ≡ Some e → IsNextOf number serial p e

  gives_facts : (s : State (Option S) (View S E)) (id : ℕ) (v : View S E) (t : Option E) (r : Rule s) → get_elem? s.views id ≡ some v → v.live ≡ true → v.known.seen ≡ r.log → Givable v.known t
      → FactsOf (history_after r.log t) (get_or (set s.words 0 0) 1 0) (map pass_of (set s.views id (given_back v t)))
  gives_facts s id v None r at live whole may = facts_as r.log _ _ _ _ (first_word_set s.words 0)
      (sym (set_again (map pass_of s.views) id (Some v.known) (pass_at s.views id v at live)) ∙ passes_set s.views id (given_back v None) (Some v.known) (is_pass (given_back v None) live)) r.facts
  gives_facts s id v (Some e) r at live whole may =
      let ok = may e refl in
      let w = given_back v (Some e) in
      facts_as (r.log ++ e ∷ []) _ _ _ _ (first_word_set s.words 0)
      (passes_set s.views id w (Some (committed v.known r.log e)) (is_pass w live ∙ ap (λ l. Some (committed v.known l e)) whole))
      (keeps_commit number serial (shown_world r.log s) id v.known e r.facts (pass_at s.views id v at live) ok.0 ok.1)

  gives_back : (s : State (Option S) (View S E)) (id : ℕ) (v : View S E) (x : S) (t : Option E) (r : Rule s) → length s.homes ≡ 1 → get_elem? s.views id ≡ some v → v.acts ≡ true → v.live ≡ true → is_some v.opening ≡ true
      → from stands v.opening (history_after v.known.seen t) x → Givable v.known t → get_or s.words 0 0 ≢ 0
      → Rule record { words = set s.words 0 0; homes = set s.homes 0 (some (Some x)); views = set s.views id (given_back v t) }
  gives_back s id v x t r one at acts live opened ok may ne =
      let w = given_back v t in
      let log = history_after r.log t in
      let held = r.taken ne in
      let whole : v.known.seen ≡ r.log = (held.others id v at acts).1 in
      let mine = r.each id v at in
      let zeroed : get_or (set s.words 0 0) 0 0 ≡ 0 = get_or-set_same s.words 0 0 0 (let h = r.two_words in omega arith) in
      let told_later : (u : View S E) → Fits o r.log u → All (StartsWith log) u.told = λ u f k d lt. starts_after r.log _ t (f.told k d lt) in record {
        log = log;
        facts = gives_facts s id v t r at live whole may;
        two_words = length-set s.words 0 0 ∙ r.two_words;
        each = each_set (λ j u. Fits o log u) s.views id w
            record { opening_is = mine.opening_is; acts = λ e. absurd (off e); seen = ends_after r.log v.known t whole; told = told_later v mine }
            (λ j u apart there. let f = r.each j u there in record { opening_is = f.opening_is; acts = f.acts; seen = starts_after r.log u.known.seen t f.seen; told = told_later u f });
        at_home = λ _. (x, set_here s.homes 0 (some (Some x)) (omega arith), subst (λ (y : Option S × List E). from stands y.0 (history_after y.1 t) x) (λ k. (is_opening v.opening opened mine.opening_is k, whole k)) ok);
        at_rest = λ _. each_set (λ j u. u.acts ≡ false) s.views id w refl (λ j u apart there. by_bool u.acts (λ yes. absurd (apart ((held.others j u there yes).0 ∙ sym (held.others id v at acts).0))));
        taken = λ no. absurd (no zeroed);
      }

  gives_seat : (id : ℕ) (v : View S E) (x : S) (t : Option E) (st : Step (Option S)) → v.acts ≡ true → v.live ≡ true → is_some v.opening ≡ true → from stands v.opening (history_after v.known.seen t) x → Givable v.known t
      → Allows Rule 1 id (v, (0, Some x) ∷ []) 0 (λ _. 0) (gave t st (v, (0, Some x) ∷ []))
  gives_seat id v x t st acts live opened ok may s r wide at _ = dite (ℕ_discrete (get_or s.words 0 0) 0)
      (λ is. absurd (off (sym (r.at_rest is id v at) ∙ acts)))
      (λ ne. (given_back v t, gives, tt, gives_back s id v x t r wide at acts live opened ok may ne, refl))

  -- the seat that has the turn, with the value in its slot, gives the turn back
  pub gives_turn : (id slots : ℕ) (m : M) (v : View S E) (x : S) (t : Option E) (more : List (ℕ × Option S)) (st : Step (Option S)) → slots ≡ 1 → m ≡ (v, (0, Some x) ∷ more) → more ≡ [] → v.acts ≡ true → v.live ≡ true → is_some v.opening ≡ true
      → from stands v.opening (history_after v.known.seen t) x → Givable v.known t → Allows Rule slots id m 0 (λ _. 0) (gave t st m)
  gives_turn id slots m v x t more st one is empty acts live opened ok may =
      let same : m ≡ (v, (0, Some x) ∷ []) = is ∙ ap (λ (l : List (ℕ × Option S)). (v, (0, Some x) ∷ l)) empty in
      subst (λ (z : ℕ × M). Allows Rule z.0 id z.1 0 (λ _. 0) (gave t st z.1)) (λ k. (sym one k, sym same k)) (gives_seat id v x t st acts live opened ok may)

  draws_number : (s : State (Option S) (View S E)) (id : ℕ) (v : View S E) (r : Rule s) → get_elem? s.views id ≡ some v → IsUnnumbered v
      → Rule record { words = set s.words 1 (get_or s.words 1 0 + 1); homes = s.homes; views = set s.views id (numbered v (get_or s.words 1 0)) }
  draws_number s id v r at (idle, still, opened) =
      let n = get_or s.words 1 0 in
      let w = numbered v n in
      let new = newcomer n v.known.seen in
      let ps = map pass_of s.views in
      let mine = r.each id v at in
      let more : get_or (set s.words 1 (n + 1)) 1 0 ≡ n + 1 = get_or-set_same s.words 1 (n + 1) 0 (let h = r.two_words in omega arith) in
      let same : get_or (set s.words 1 (n + 1)) 0 0 ≡ get_or s.words 0 0 = get_or-set_other s.words 1 0 (n + 1) 0 (omega arith) in
      let empty : get_elem? ps id ≡ some None = at_map pass_of s.views id v at ∙ ap some (is_no_pass v idle) in record {
        log = r.log;
        facts = facts_as r.log _ _ _ _ (sym more) (passes_set s.views id w (Some new) refl)
            (keeps_newcomer number serial (shown_world r.log s) v.known.seen (set ps id (Some new)) r.facts mine.seen
            (λ j p e. ⊎_elim (λ (t : (j ≡ id) × (Some new ≡ Some p)). let h = t.1 in inr (cc)) (λ (t : (j ≢ id) × (get_elem? ps j ≡ some (Some p))). inl t.1) (at_set ps id j (Some new) (Some p) e))
            (λ k. let t = tally-set k ps id None (Some new) empty in let z : times k [] ≡ 0 = refl in omega arith));
        two_words = length-set s.words 1 (n + 1) ∙ r.two_words;
        each = each_set (λ j u. Fits o r.log u) s.views id w record { opening_is = mine.opening_is; acts = λ e. absurd (off e); seen = mine.seen; told = mine.told } (λ j u apart there. r.each j u there);
        at_home = λ e. r.at_home (sym same ∙ e);
        at_rest = λ e. each_set (λ j u. u.acts ≡ false) s.views id w refl (λ j u apart there. r.at_rest (sym same ∙ e) j u there);
        taken = λ ne. turned_set r.log s.views (r.taken (λ e. ne (same ∙ e))) id v w at still refl;
      }

  -- a step that finds another number changes nothing
  draws_nothing : (s : State (Option S) (View S E)) (id : ℕ) (v : View S E) → Rule s → get_elem? s.views id ≡ some v → Rule record { words = set s.words 1 (get_or s.words 1 0); homes = s.homes; views = set s.views id v }
  draws_nothing s id v r at = subst Rule (λ k. record { words = sym (set-get_or s.words 1 0) k; homes = s.homes; views = sym (set_again s.views id v at) k }) r

  pub draws : (id slots wanted : ℕ) (m : M) (st : Step (Option S)) → st.first ≡ wanted → IsUnnumbered m.0 → Allows Rule slots id m 1 (λ n. either (n == wanted) (wanted + 1) n) (drew st m)
  draws id slots wanted m st asked new s r wide at _ =
      let found = get_or s.words 1 0 in dite (ℕ_discrete found wanted)
      (λ is. (
        numbered m.0 found,
        keeps,
        tt,
        subst (λ (k : ℕ). Rule record { words = set s.words 1 k; homes = s.homes; views = set s.views id (numbered m.0 found) }) (ap (λ (k : ℕ). k + 1) is ∙ sym (ap (λ (b : Bool). either b (wanted + 1) found) (eq-eqb found wanted is))) (draws_number s id m.0 r at new),
        ((λ _. refl), (λ ne. absurd (ne (is ∙ sym asked)))),
      ))
      (λ ne. (
        m.0,
        keeps,
        tt,
        subst (λ (b : Bool). Rule record { words = set s.words 1 (either b (wanted + 1) found); homes = s.homes; views = set s.views id m.0 }) (sym (ne_eqb found wanted ne)) (draws_nothing s id m.0 r at),
        ((λ is. absurd (ne (is ∙ asked))), (λ _. refl)),
      ))

  pub compares : (id slots : ℕ) (m : M) (st : Step (Option S)) → Allows Rule slots id m 0 (λ n. n) (compared st m)
  compares id slots m st s r wide at _ =
      let f = r.each id m.0 at in (
        m.0,
        keeps,
        tt,
        subst Rule (λ k. record { words = sym (set-get_or s.words 0 0) k; homes = s.homes; views = sym (set_again s.views id m.0 at) k }) r,
        (refl, λ k d lt le. begins r.log _ _ (f.told k d lt) f.seen le),
      )

  pub cuts : (id : ℕ) (v : View S E) → Splits Rule id v v (unnumbered v)
  cuts id v s r at =
      let mine = r.each id v at in
      let w = unnumbered v in
      let same = set_again s.views id v at in
      subst (λ (vs : List (View S E)). Rule record { words = s.words; homes = s.homes; views = vs ++ w ∷ [] }) (sym same) record {
        log = r.log;
        facts = facts_as r.log _ _ _ _ refl (sym (map-append pass_of s.views (w ∷ []))) (keeps_place number serial (shown_world r.log s) r.facts);
        two_words = r.two_words;
        each = each_more (λ j u. Fits o r.log u) s.views w (λ j. record { opening_is = mine.opening_is; acts = λ e. absurd (off e); seen = mine.seen; told = λ k d lt. absurd (omega arith) }) r.each;
        at_home = r.at_home;
        at_rest = λ e. each_more (λ j u. u.acts ≡ false) s.views w (λ j. refl) (r.at_rest e);
        taken = λ ne. let t = r.taken ne in record {
          taker = t.taker;
          view = t.view;
          there = at_longer s.views (w ∷ []) t.taker t.view t.there;
          acts = t.acts;
          others = each_more (λ j u. u.acts ≡ true → (j ≡ t.taker) × (u.known.seen ≡ r.log)) s.views w (λ j e. absurd (off e)) t.others;
        };
      }

  pub merges : (id : ℕ) (v : View S E) (other : ℕ) (w : View S E) → v.live ≡ true → v.acts ≡ false → w.live ≡ true → w.acts ≡ false → Joins Rule id v other w (both v w) spent
  merges id v other w live still live' still' s r at apart there' =
      let vw = both v w in
      let vs = set s.views id vw in
      let there : get_elem? s.views other ≡ some w = sym (set_else s.views id other vw apart) ∙ there' in
      let f = r.each id v at in
      let h = r.each other w there in
      let starts : StartsWith r.log vw.known.seen = longer_is (StartsWith r.log) v.known.seen w.known.seen f.seen (λ _. h.seen) in record {
        log = r.log;
        facts = facts_as r.log _ _ _ _ refl (ap (λ ps. set ps other None) (passes_set s.views id vw (Some (joined v.known w.known)) (is_pass vw live)) ∙ passes_set vs other spent None refl)
            (keeps_join number serial (shown_world r.log s) id other v.known w.known r.facts (pass_at s.views id v at live) (pass_at s.views other w there live') apart);
        two_words = r.two_words;
        each = each_set (λ j u. Fits o r.log u) vs other spent
            record { opening_is = λ x e. let n : None ≡ Some x = e in cc; acts = λ e. absurd (off e); seen = (r.log, refl); told = λ k d lt. absurd (omega arith) }
            (λ j u _ e. each_set (λ i x. Fits o r.log x) s.views id vw record { opening_is = f.opening_is; acts = f.acts; seen = starts; told = of_two (StartsWith r.log) v.known.seen w.known.seen f.seen h.seen } (λ i x _ q. r.each i x q) j u e);
        at_home = r.at_home;
        at_rest = λ e. each_set (λ j u. u.acts ≡ false) vs other spent refl (λ j u _. each_set (λ i x. x.acts ≡ false) s.views id vw still (λ i x _ q. r.at_rest e i x q) j u);
        taken = λ ne. turned_set r.log vs (turned_set r.log s.views (r.taken ne) id v vw at still still) other w spent there' still' refl;
      }
    where
      of_two : (P : List E → Type 0) (xs ys : List E) → P xs → P ys → All P (xs ∷ ys ∷ [])
      of_two P xs ys p q zero d lt = p
      of_two P xs ys p q (suc zero) d lt = q
      of_two P xs ys p q (suc (suc k)) d lt = absurd (omega arith)

module _ {S : Type 0} where
  -- a list that is one item before another list is so before its own rest
  pub took_list : (n m : List (ℕ × S)) (a : ℕ × S) → n ≡ a ∷ m → n ≡ a ∷ rest n
  took_list n m a e = e ∙ ap (λ l. a ∷ rest l) (sym e)

  pub rest_empty : (n m : List (ℕ × S)) (a : ℕ × S) → n ≡ a ∷ m → m ≡ [] → rest n ≡ []
  rest_empty n m a e empty = ap rest e ∙ empty

  pub left_empty : (n m : List (ℕ × S)) (a : ℕ × S) → n ≡ a ∷ rest m → rest m ≡ [] → n ≡ a ∷ []
  left_empty n m a e empty = e ∙ ap (λ (l : List (ℕ × S)). a ∷ l) empty

-- the turn that wasn't free is as taken as it was
pub exchanged : (n : ℕ) → n ≢ 0 → either (n == 0) 1 n ≢ 0
exchanged n ne e = ne (ap (λ b. either b 1 n) (sym (ne_eqb n 0 ne)) ∙ e)
