-- How a run stops without a page.
use Rattle.std.specs.Prelude.{◌≡◌, ℕ, ◌⊎◌, List, Option, Some, None, codes, option_map, slice_get}
use Rattle.xml_trees.specs.Trees.{Trees}
use Rattle.link_router.specs.Answered.{astray_of}
use Rattle.link_router.specs.Calls.{Ent, Rts, Cl}
use Rattle.link_router.specs.declared.router.LinkFault.{LinkFault}
use Rattle.core_terms.specs.Trees.{Pg}
use Rattle.value_trees.specs.Values.{V, Out, deep}
use Rattle.core_meaning.specs.Actions.{State}
use Rattle.core_meaning.specs.Wired.{AreGiven}
use Rattle.core_meaning.specs.Requests.{Answer, Ends, answered_within, known}
use Rattle.plain_run.specs.declared.ran.RunFault.{RunFault}
use Rattle.plain_run.specs.declared.ran.RunFault.TheVariants as run
use Rattle.site_pages.specs.Found.{page_calls}
use Rattle.site_pages.specs.Shown.{page_steps}
use Rattle.site_pages.specs.Unshown.{line_astray, line_of_answer, named}

-- the run comes to an answer with this line, and not for want of nested calls
pub record ComesToLine (o : Out (Trees × State)) (line : List ℕ) : Type 0 where
  pub answer : Answer
  pub ends : Ends o answer
  pub line_is : line_of_answer answer ≡ Some line
  pub shallow : o ≡ deep → ⊥

-- a run within so many nested calls stops without a page, as this line says
abbrev pub Stops : Out (Trees × State) → List ℕ → Type 0
Stops o line = ComesToLine o line ⊎ ((o ≡ deep) × (line ≡ named (codes "TooDeep")))

-- The call of the value with a number stops without a page, as this line says.
pub record StopsAt (p : Pg) (routes : Rts) (call : Cl) (number : ℕ) (line : List ℕ) : Type 0 where
  pub entry : Ent
  pub is_entry : slice_get routes.entries call.entry ≡ Some entry
  pub values : List V
  pub given : AreGiven (known p routes) entry.arguments None call.wires None values
  pub stops : Stops (answered_within p page_calls number values page_steps) line

-- the line of a run's fault that isn't an abort; want of memory has none
abbrev pub line_of_run : RunFault → Option (List ℕ)
line_of_run run.OverBudget = Some (named (codes "OverBudget"))
line_of_run run.DivZero = Some (named (codes "DivZero"))
line_of_run run.TextTooLong = Some (named (codes "TextTooLong"))
line_of_run run.LinkTooLong = Some (named (codes "LinkTooLong"))
line_of_run run.NotBlessed = Some (named (codes "NotBlessed"))
line_of_run (run.Aborted page) = None
line_of_run (run.Wrong place) = Some (named (codes "Wrong"))
line_of_run run.TooDeep = Some (named (codes "TooDeep"))
line_of_run run.Memory = None

-- the line of a fault of a link; want of memory has none
abbrev pub line_of_link : LinkFault → Option (List ℕ)
line_of_link fault = option_map line_astray (astray_of fault)
