-- Why a program shows no page: from how its run stops to what it answers.
use Rattle.std.proofs.Common.{◌≡◌, ℕ, suc, ◌≤◌, ◌<◌, inl, inr, false, List, [], ◌∷◌, None, Some, IfSome, Result, Ok, Err, IfErr, get_or, option_map, codes, length, map, slice_get, refl, ap, sym, ◌∙◌, subst, arith}
use Rattle.std.specs.declared.option.Option.{Option}
use Rattle.std.proofs.lemmas.Option.{slice_get_read, slice_get_within}
use Rattle.con_terms.specs.declared.place.Place.{Place}
use Rattle.xml_trees.specs.Trees.{Trees, built, trees_of}
use Rattle.xml_trees.specs.Written.{written}
use Rattle.xml_trees.specs.declared.page.Piece.{Piece}
use Rattle.link_router.specs.Answered.{IsRefusal, astray_of}
use Rattle.link_router.specs.Calls.{Ent, Rts, Cl, is_post}
use Rattle.link_router.specs.Links.{Route}
use Rattle.link_router.specs.RouteLaws.{AreNamed}
use Rattle.link_router.specs.Routed.{Astray, Refuses}
use Rattle.link_router.specs.declared.router.LinkFault.{LinkFault}
use Rattle.core_terms.specs.Trees.{Pg}
use Rattle.core_typing.specs.Accepts.{Accepts}
use Rattle.core_typing.specs.Entries.{RoutesOf, entries_of}
use Rattle.core_typing.proofs.SiteRoutes.{routes_named}
use Rattle.value_trees.specs.Values.{V, Flt, Out, done, fault, more, deep, wrong_at, div_zero, text_too_long, link_too_long, not_blessed, aborted}
use Rattle.core_meaning.specs.Actions.{State}
use Rattle.core_meaning.specs.Wired.{AreGiven}
use Rattle.core_meaning.specs.Requests.{Answer, refused, failed, unfinished, astray, run_fault, page_too_long, no_case}
use Rattle.core_meaning.specs.Requests.{Answers, not_called, is_called, ReadsAs, a_call, is_link, goes_astray, answered, answered_within, known, aborted_page, ShortEnough, TooLong}
use Rattle.core_meaning.specs.Requests.{Ends, with_long_page, with_trees, with_long_trees, with_fault, needs_more, nowhere}
use Rattle.core_meaning.proofs.Answering.{nesting_only_refuses}
use Rattle.plain_run.specs.Ran.{FailsWith, at_term, at_none}
use Rattle.plain_run.specs.declared.ran.RunFault.{RunFault}
use Rattle.plain_run.specs.declared.ran.RunFault.TheVariants as run
use Rattle.run_values.specs.Outcomes.{AbortedWith}
use Rattle.site_pages.specs.Found.{IsFound}
use Rattle.site_pages.specs.Lengths.{IsLong, IsShort}
use Rattle.site_pages.specs.Shown.{main_asked, page_steps}
use Rattle.site_pages.specs.Stopped.{Stops, StopsAt, line_of_link, line_of_run}
use Rattle.site_pages.specs.Unshown.{IsAnsweredBy, IsUnshown, Tells, line_astray, line_of_answer, named}
use Rattle.site_pages.specs.declared.lines.NoPage.{NoPage}
use Rattle.site_pages.specs.declared.lines.NoPage.TheVariants.{Told, Memory}
use Rattle.site_pages.proofs.Answering.{same_entry as one_entry, no_form}

-- what a line tells tells what follows from it
pub tells : (P Q : List ℕ → Type 0) (why : NoPage) → ((line : List ℕ) → P line → Q line) → Tells P why → Tells Q why
tells P Q (Told line) f h = f _ h
tells P Q Memory f h = tt

-- ---- how a run stops

-- an outcome that is none for want of nested calls comes to its answer's line
comes : (o : Out (Trees × State)) (a : Answer) (line : List ℕ) → Ends o a → line_of_answer a ≡ Some line → (o ≡ deep → ⊥) → Stops o line
comes o a line e is shallow = inl (record { answer = a; ends = e; line_is = is; shallow = shallow })

more_stops : (o : Out (Trees × State)) (line : List ℕ) → o ≡ more → ◌≡◌ {A = Option (List ℕ)} (Some (named (codes "OverBudget"))) (Some line) → Stops o line
more_stops o line e is = comes o unfinished line (subst (λ x. Ends x unfinished) (sym e) needs_more) is (λ d. cc)

fault_stops : (o : Out (Trees × State)) (f : Flt) (line : List ℕ) → o ≡ fault f → ((t : Trees) → f ≡ aborted t → ⊥) → line_of_answer (failed (run_fault f)) ≡ Some line
    → Stops o line
fault_stops o f line e none is = comes o (failed (run_fault f)) line (subst (λ x. Ends x (failed (run_fault f))) (sym e) (with_fault none)) is (λ d. cc)

wrong_stops : (o : Out (Trees × State)) (w : Option Place) (line : List ℕ) → o ≡ wrong_at w → ◌≡◌ {A = Option (List ℕ)} (Some (named (codes "Wrong"))) (Some line) → Stops o line
wrong_stops o w line e is = comes o (failed (no_case w)) line (subst (λ x. Ends x (failed (no_case w))) (sym e) nowhere) is (λ d. cc)

same_line : (a b : List ℕ) → ◌≡◌ {A = Option (List ℕ)} (Some a) (Some b) → b ≡ a
same_line a b e = cc

no_line : (b : List ℕ) → ◌≡◌ {A = Option (List ℕ)} None (Some b) → ⊥
no_line b e = absurd (cc e)

pub run_stops : (f : RunFault) (o : Out (Trees × State)) (line : List ℕ) → FailsWith f o → line_of_run f ≡ Some line → Stops o line
run_stops run.OverBudget o line e is = more_stops o line e is
run_stops run.DivZero o line e is = fault_stops o div_zero line e (λ t k. absurd (cc k)) is
run_stops run.TextTooLong o line e is = fault_stops o text_too_long line e (λ t k. absurd (cc k)) is
run_stops run.LinkTooLong o line e is = fault_stops o link_too_long line e (λ t k. absurd (cc k)) is
run_stops run.NotBlessed o line e is = fault_stops o not_blessed line e (λ t k. absurd (cc k)) is
run_stops (run.Aborted page) o line e is = absurd (no_line line is)
run_stops (run.Wrong place) o line (at_term e) is = wrong_stops o (Some place) line e is
run_stops (run.Wrong place) o line (at_none e n) is = wrong_stops o None line e is
run_stops run.TooDeep o line e is = inr (e, same_line (named (codes "TooDeep")) line is)
run_stops run.Memory o line e is = absurd (no_line line is)

-- an aborted run, by the length of the page of what it was given
pub abort_is_short : (page : List Piece) (o : Out (Trees × State)) (line : List ℕ) → AbortedWith page o → IsShort (written (aborted_page (trees_of (built page))))
    → line ≡ named (codes "Aborted") → Stops o line
abort_is_short page o line h (bytes, is, few) e =
    let t : Trees = h.trees in
    let same : trees_of (built page) ≡ t = ap trees_of h.whole in
    let short : ShortEnough (aborted_page t) = subst (λ (x : Trees). ShortEnough (aborted_page x)) same (record { bytes = bytes; text = is; short = few }) in
    comes o (failed (run_fault (aborted t))) line (subst (λ x. Ends x (failed (run_fault (aborted t)))) (sym h.out) (with_trees short)) (ap Some (sym e)) (λ d. absurd (cc (sym h.out ∙ d)))

pub abort_is_long : (page : List Piece) (o : Out (Trees × State)) (line : List ℕ) → AbortedWith page o → IsLong (written (aborted_page (trees_of (built page))))
    → line ≡ named (codes "PageTooLong") → Stops o line
abort_is_long page o line h (bytes, is, many) e =
    let t : Trees = h.trees in
    let same : trees_of (built page) ≡ t = ap trees_of h.whole in
    let long : TooLong (aborted_page t) = subst (λ (x : Trees). TooLong (aborted_page x)) same (record { bytes = bytes; text = is; long = many }) in
    comes o (failed page_too_long) line (subst (λ x. Ends x (failed page_too_long)) (sym h.out) (with_long_trees long)) (ap Some (sym e)) (λ d. absurd (cc (sym h.out ∙ d)))

pub call_stops : (p : Pg) (routes : Rts) (call : Cl) (number : ℕ) (entry : Ent) (values : List V) (why : NoPage)
    → slice_get routes.entries call.entry ≡ Some entry → AreGiven (known p routes) entry.arguments None call.wires None values
    → Tells (Stops (answered_within p 256 number values 1000000)) why → Tells (StopsAt p routes call number) why
call_stops p routes call number entry values why is given h =
    tells (Stops (answered_within p 256 number values 1000000)) (StopsAt p routes call number) why (λ line s. record {
      entry = entry;
      is_entry = is;
      values = values;
      given = given;
      stops = s;
    }) h

-- ---- what is answered

-- a run that isn't stopped for want of nested calls is the same with as many as the steps allow
shallow_is : (p : Pg) (i : ℕ) (vs : List V) → (answered_within p 256 i vs page_steps ≡ deep → ⊥) → answered_within p 256 i vs page_steps ≡ answered p i vs page_steps
shallow_is p i vs shallow = elim (nesting_only_refuses p 256 i vs page_steps (inl (omega arith))) [
  | inl x ↦ absurd (shallow x)
  | inr x ↦ x
]

-- a call that is read of the request's path, and comes to this answer
called_answers : (p : Pg) (routes : Rts) (callees : List ℕ) (call : Cl) (number : ℕ) (entry : Ent) (values : List V) (a : Answer) → RoutesOf p routes callees
    → Route routes main_asked.post main_asked.path call → slice_get callees call.entry ≡ Some number → slice_get routes.entries call.entry ≡ Some entry
    → AreGiven (known p routes) entry.arguments None call.wires None values → Ends (answered p number values page_steps) a → Answers p main_asked page_steps a
called_answers p routes callees call number entry values a routed read called is given ends =
    let same : read.entry ≡ entry = one_entry (slice_get routes.entries call.entry) read.entry entry read.is_entry is in
    let none : entry.form ≡ None = no_form entry.form (subst (λ (e : Ent). is_post e.form ≡ false) same read.by_method) in
    let reads : ReadsAs routes main_asked (a_call call.entry entry call.wires None) = is_link read is none in
    let wired : AreGiven (known p routes) entry.arguments entry.form call.wires None values =
    subst (λ o. AreGiven (known p routes) entry.arguments o call.wires None values) (sym none) given in
    is_called routed reads called wired ends

unshown : (p : Pg) (routes : Rts) (callees : List ℕ) (call : Cl) (number : ℕ) (line : List ℕ) → RoutesOf p routes callees
    → Route routes main_asked.post main_asked.path call → slice_get callees call.entry ≡ Some number → (s : StopsAt p routes call number line)
    → Stops (answered_within p 256 number s.values page_steps) line → IsUnshown p line
unshown p routes callees call number line routed read called s (inl c) =
    let same : answered_within p 256 number s.values page_steps ≡ answered p number s.values page_steps = shallow_is p number s.values c.shallow in
    let ends : Ends (answered p number s.values page_steps) c.answer = subst (λ (o : Out (Trees × State)). Ends o c.answer) same c.ends in
    inl (record {
      answer = c.answer;
      answers = called_answers p routes callees call number s.entry s.values c.answer routed read called s.is_entry s.given ends;
      line_is = c.line_is;
    })
unshown p routes callees call number line routed read called s (inr (d, e)) =
    inr (
      record {
        routes = routes;
        callees = callees;
        routed = routed;
        call = call;
        read = read;
        number = number;
        called = called;
        entry = s.entry;
        is_entry = s.is_entry;
        values = s.values;
        given = s.given;
        nested = d;
      },
      e,
    )

pub main_stops : (p : Pg) (routes : Rts) (callees : List ℕ) (call : Cl) (number : ℕ) (why : NoPage) → RoutesOf p routes callees
    → Route routes main_asked.post main_asked.path call → slice_get callees call.entry ≡ Some number → Tells (StopsAt p routes call number) why → Tells (IsUnshown p) why
main_stops p routes callees call number why routed read called h =
    tells (StopsAt p routes call number) (IsUnshown p) why (λ line s. unshown p routes callees call number line routed read called s s.stops) h

-- the path is no call
strays : (p : Pg) (routes : Rts) (callees : List ℕ) (o : Option Astray) (line : List ℕ) → RoutesOf p routes callees
    → IfSome o (λ why. Refuses routes main_asked.post main_asked.path why) → option_map line_astray o ≡ Some line → IsAnsweredBy p line
strays p routes callees None line routed h is = absurd (no_line line is)
strays p routes callees (Some why) line routed h is =
    record { answer = refused (astray why); answers = not_called routed (goes_astray h); line_is = is }

pub main_strays : (p : Pg) (routes : Rts) (callees path : List ℕ) (f : LinkFault) (why : NoPage) → RoutesOf p routes callees → path ≡ codes "/Main/main"
    → IsRefusal routes false path f → Tells (λ line. line_of_link f ≡ Some line) why → Tells (IsUnshown p) why
main_strays p routes callees path f why routed is h told =
    let refusal : IsRefusal routes false (codes "/Main/main") f = subst (λ (t : List ℕ). IsRefusal routes false t f) is h in
    tells (λ line. line_of_link f ≡ Some line) (IsUnshown p) why (λ line e. inl (strays p routes callees (astray_of f) line routed refusal e)) told

-- the value that an entry calls is there
both_many : (es : List (ℕ × Ent)) → length (entries_of es) ≡ length (map (λ (e : ℕ × Ent). e.0) es)
both_many [] = refl
both_many (e ∷ es) = ap suc (both_many es)

as_many : (p : Pg) (routes : Rts) (callees : List ℕ) → RoutesOf p routes callees → length routes.entries ≡ length callees
as_many p routes callees r = ap length r.entries ∙ both_many r.listed ∙ sym (ap length r.called)

pub some_callee : (p : Pg) (routes : Rts) (callees : List ℕ) (call : Cl) → RoutesOf p routes callees → Route routes main_asked.post main_asked.path call
    → length callees ≤ call.entry → ⊥
some_callee p routes callees call routed read past =
    let inside : call.entry < length routes.entries = slice_get_within routes.entries call.entry read.entry read.is_entry in
    omega (arith, inside, as_many p routes callees routed, past)

pub some_entry : (routes : Rts) (i : ℕ) (e : Ent) → slice_get routes.entries i ≡ Some e → length routes.entries ≤ i → ⊥
some_entry routes i e is past =
    let inside : i < length routes.entries = slice_get_within routes.entries i e is in
    omega (arith, inside, past)

-- the page of what the path of `main` calls
pub main_refused : {X : Type 0} (p : Pg) (routes : Rts) (callees items : List ℕ) (call : Cl) (number : ℕ) (path : List ℕ) (r : Result X NoPage)
    → RoutesOf p routes callees → path ≡ codes "/Main/main" → (AreNamed routes → Route routes false path call) → items ≡ callees → call.entry < length items → number ≡ get_or items call.entry number
    → ((e : Ent) → slice_get routes.entries call.entry ≡ Some e → IfErr r (Tells (StopsAt p routes call number))) → Accepts p → IfErr r (Tells (IsUnshown p))
main_refused p routes callees items call number path (Ok page) routed is read same inside there given accepted = tt
main_refused p routes callees items call number path (Err why) routed is read same inside there given accepted =
    let route : Route routes false (codes "/Main/main") call = subst (λ (t : List ℕ). Route routes false t call) is (read (routes_named accepted routed)) in
    let called : slice_get callees call.entry ≡ Some number =
    subst (λ ns. slice_get ns call.entry ≡ Some number) same (slice_get_read items (length items) call.entry number refl inside there) in
    main_stops p routes callees call number why routed route called (given route.entry route.is_entry)

-- the entry has a value that it calls
pub main_called : (p : Pg) (routes : Rts) (callees items : List ℕ) (call : Cl) (path : List ℕ) (why : NoPage) → RoutesOf p routes callees → path ≡ codes "/Main/main"
    → (AreNamed routes → Route routes false path call) → items ≡ callees → length items ≤ call.entry → Accepts p → Tells (IsUnshown p) why
main_called p routes callees items call path why routed is read same past accepted =
    let route : Route routes false (codes "/Main/main") call = subst (λ (t : List ℕ). Route routes false t call) is (read (routes_named accepted routed)) in
    absurd (some_callee p routes callees call routed route (subst (λ (ns : List ℕ). length ns ≤ call.entry) same past))

-- the page that is found is too long
pub found_too_long : (p : Pg) (t : Trees) (line : List ℕ) → IsFound p t → IsLong (written t) → line ≡ named (codes "PageTooLong") → IsUnshown p line
found_too_long p t line f (bytes, is, many) e =
    let g = f.gives in
    let long : TooLong t = record { bytes = bytes; text = is; long = many } in
    let shallow : answered_within p 256 f.number g.values page_steps ≡ deep → ⊥ = λ d. absurd (cc (sym g.answered ∙ d)) in
    let same : done (t, g.state) g.left ≡ answered p f.number g.values page_steps = sym g.answered ∙ shallow_is p f.number g.values shallow in
    let ends : Ends (answered p f.number g.values page_steps) (failed page_too_long) =
    subst (λ (o : Out (Trees × State)). Ends o (failed page_too_long)) same (with_long_page long) in
    inl (record {
      answer = failed page_too_long;
      answers = called_answers p f.routes f.callees f.call f.number g.entry g.values (failed page_too_long) f.routed f.read f.called g.is_entry g.given ends;
      line_is = ap Some (sym e);
    })
