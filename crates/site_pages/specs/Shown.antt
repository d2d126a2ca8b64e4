-- Which page a program shows.
use Rattle.std.specs.Prelude.{ℕ, false, [], codes}
use Rattle.xml_trees.specs.Trees.{Trees}
use Rattle.link_router.specs.Calls.{Asked}
use Rattle.core_terms.specs.Trees.{Pg}
use Rattle.core_meaning.specs.Actions.{State}
use Rattle.core_meaning.specs.Requests.{Answers, finished}

-- the steps that a page may take
abbrev pub page_steps : ℕ
page_steps = 1000000

-- the request of the page: a GET of the path of `main`
abbrev pub main_asked : Asked
main_asked = record { post = false; path = codes "/Main/main"; body = []; cookie = [] }

-- The page of a program has these trees: they are its answer to that request within so many steps.
pub record IsShown (p : Pg) (trees : Trees) : Type 0 where
  pub state : State
  pub answer : Answers p main_asked page_steps (finished trees state.cookies state.effects)
