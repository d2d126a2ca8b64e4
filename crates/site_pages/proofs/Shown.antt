-- The page of a run is that of its program.
use Rattle.std.proofs.lemmas.Option.{slice_get_read, slice_get-map}
use Rattle.std.proofs.Common.{◌≡◌, ℕ, ◌<◌, length, get_or, false, List, [], None, Some, option_map, codes, slice_get, Result, Ok, Err, IfOk, refl, ap, sym, ◌∙◌, subst}
use Rattle.xml_trees.specs.Trees.{Trees, built, trees_of}
use Rattle.xml_trees.specs.declared.page.Piece.{Piece}
use Rattle.link_router.specs.Calls.{Ent, Rts, Cl}
use Rattle.link_router.specs.View.{entry_view, routes_view}
use Rattle.link_router.specs.declared.routes.Entry.{Entry}
use Rattle.link_router.specs.declared.routes.Routes.{Routes}
use Rattle.link_router.specs.Links.{Route}
use Rattle.link_router.specs.RouteLaws.{AreNamed}
use Rattle.core_terms.specs.Trees.{Pg}
use Rattle.core_typing.specs.Accepts.{Accepts}
use Rattle.core_typing.specs.Entries.{RoutesOf}
use Rattle.core_typing.proofs.SiteRoutes.{routes_named}
use Rattle.value_trees.specs.Values.{V, done}
use Rattle.core_meaning.specs.Actions.{State}
use Rattle.core_meaning.specs.Wired.{AreGiven}
use Rattle.core_meaning.specs.Requests.{answered_within, known}
use Rattle.plain_run.specs.Effects.{effects_view}
use Rattle.plain_run.specs.Ran.{HasRun}
use Rattle.plain_run.specs.declared.ran.Ran.{Ran}
use Rattle.site_pages.specs.Found.{IsFound, GivesPage}
use Rattle.site_pages.specs.declared.lines.NoPage.{NoPage}

-- the entry at a place of the routes
pub entry_there : (r : Routes) (items : List Entry) (i : ℕ) (e : Entry) → items ≡ r.entries.items → i < length items → e ≡ get_or items i e
    → slice_get (routes_view r).entries i ≡ Some (entry_view e)
entry_there r items i e same inside there =
    slice_get-map entry_view r.entries.items i
    ∙ ap (option_map entry_view) (subst (λ es. slice_get es i ≡ Some e) same (slice_get_read items (length items) i e refl inside there))

-- a run that gave a page
pub gives_page : (p : Pg) (routes : Rts) (call : Cl) (number : ℕ) (entry : Ent) (values : List V) (ran : Ran)
    → slice_get routes.entries call.entry ≡ Some entry → AreGiven (known p routes) entry.arguments None call.wires None values
    → HasRun ran 1000000 (answered_within p 256 number values 1000000)
    → GivesPage p routes call number (trees_of (built ran.page))
gives_page p routes call number entry values ran is given h =
    let state : State = record { cookies = []; effects = effects_view ran.effects } in
    record {
      entry = entry;
      is_entry = is;
      values = values;
      given = given;
      state = state;
      left = h.left;
      answered = h.out ∙ ap (λ (t : Trees). done (t, state) h.left) (sym (ap trees_of h.page));
    }

-- the page of what the path of `main` calls
pub main_is_shown : (p : Pg) (routes : Rts) (callees items : List ℕ) (call : Cl) (number : ℕ) (path : List ℕ) (r : Result (List Piece) NoPage)
    → RoutesOf p routes callees → path ≡ codes "/Main/main" → (AreNamed routes → Route routes false path call) → items ≡ callees → call.entry < length items → number ≡ get_or items call.entry number
    → IfOk r (λ page. GivesPage p routes call number (trees_of (built page))) → Accepts p → IfOk r (λ page. IsFound p (trees_of (built page)))
main_is_shown p routes callees items call number path (Ok page) routed is read same inside there given accepted =
    record {
      routes = routes;
      callees = callees;
      routed = routed;
      call = call;
      read = subst (λ t. Route routes false t call) is (read (routes_named accepted routed));
      number = number;
      called = subst (λ ns. slice_get ns call.entry ≡ Some number) same (slice_get_read items (length items) call.entry number refl inside there);
      gives = given;
    }
main_is_shown p routes callees items call number path (Err fault) routed is read same inside there given accepted = tt
