-- How the page of a program is found.
use Rattle.std.specs.Prelude.{◌≡◌, ℕ, List, None, Some, slice_get}
use Rattle.xml_trees.specs.Trees.{Trees}
use Rattle.link_router.specs.Calls.{Ent, Rts, Cl}
use Rattle.link_router.specs.Links.{Route}
use Rattle.core_terms.specs.Trees.{Pg}
use Rattle.core_typing.specs.Entries.{RoutesOf}
use Rattle.value_trees.specs.Values.{V, done}
use Rattle.core_meaning.specs.Actions.{State}
use Rattle.core_meaning.specs.Wired.{AreGiven}
use Rattle.core_meaning.specs.Requests.{answered_within, known}
use Rattle.site_pages.specs.Shown.{main_asked, page_steps}

-- the calls that may be nested in one another
abbrev pub page_calls : ℕ
page_calls = 256

-- A call of the value with a number gives a page of these trees: the values of its arguments are those that the
-- call's wires stand for, and the run with them gives the trees.
pub record GivesPage (p : Pg) (routes : Rts) (call : Cl) (number : ℕ) (trees : Trees) : Type 0 where
  pub entry : Ent
  pub is_entry : slice_get routes.entries call.entry ≡ Some entry
  pub values : List V
  pub given : AreGiven (known p routes) entry.arguments None call.wires None values
  pub state : State
  pub left : ℕ
  pub answered : answered_within p page_calls number values page_steps ≡ done (trees, state) left

-- The page of a program is found: the path of `main` is a link of a call of the program, which gives the page's trees.
pub record IsFound (p : Pg) (trees : Trees) : Type 0 where
  pub routes : Rts
  pub callees : List ℕ
  pub routed : RoutesOf p routes callees
  pub call : Cl
  pub read : Route routes main_asked.post main_asked.path call
  pub number : ℕ
  pub called : slice_get callees call.entry ≡ Some number
  pub gives : GivesPage p routes call number trees
