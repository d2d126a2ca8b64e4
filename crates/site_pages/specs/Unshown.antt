-- Why a program shows no page, as the line that says so.
use Rattle.std.specs.Prelude.{◌≡◌, ℕ, ◌++◌, ◌⊎◌, List, Option, Some, None, codes, decimal, slice_get, string_bytes}
use Rattle.link_router.specs.Calls.{Ent, Rts, Cl}
use Rattle.link_router.specs.Links.{Route}
use Rattle.link_router.specs.Routed.{Astray, no_route, other_method, bad_piece, too_few, too_many}
use Rattle.core_terms.specs.Trees.{Pg}
use Rattle.core_typing.specs.Entries.{RoutesOf}
use Rattle.value_trees.specs.Values.{V, Flt, deep, div_zero, text_too_long, link_too_long, not_blessed, aborted}
use Rattle.core_meaning.specs.Wired.{AreGiven}
use Rattle.core_meaning.specs.Requests.{Answer, refused, finished, failed, unfinished, Answers, answered_within, known}
use Rattle.core_meaning.specs.Requests.{astray, missing_field, bad_field, Failure, run_fault, page_too_long, no_case}
use Rattle.site_pages.specs.Found.{page_calls}
use Rattle.site_pages.specs.Shown.{main_asked, page_steps}
use Rattle.site_pages.specs.declared.lines.NoPage.{NoPage}
use Rattle.site_pages.specs.declared.lines.NoPage.TheVariants.{Told, Memory}

-- a line of one name
abbrev pub named : List ℕ → List ℕ
named name = name ++ codes "\n"

-- the line of a request that is no call
abbrev pub line_astray : Astray → List ℕ
line_astray no_route = named (codes "NoRoute")
line_astray other_method = named (codes "OtherMethod")
line_astray (bad_piece i) = named (codes "BadPiece " ++ decimal i)
line_astray too_few = named (codes "TooFewPieces")
line_astray too_many = named (codes "TooManyPieces")

-- the line of a run's fault
abbrev pub line_of_fault : Flt → List ℕ
line_of_fault div_zero = named (codes "DivZero")
line_of_fault text_too_long = named (codes "TextTooLong")
line_of_fault link_too_long = named (codes "LinkTooLong")
line_of_fault not_blessed = named (codes "NotBlessed")
line_of_fault (aborted trees) = named (codes "Aborted")

-- the line of a run that ends without a page
abbrev pub line_failed : Failure → List ℕ
line_failed (run_fault f) = line_of_fault f
line_failed page_too_long = named (codes "PageTooLong")
line_failed (no_case place) = named (codes "Wrong")

-- the line of an answer to a link; a page has none
abbrev pub line_of_answer : Answer → Option (List ℕ)
line_of_answer (refused (astray x)) = Some (line_astray x)
line_of_answer (refused (missing_field name)) = None
line_of_answer (refused (bad_field name)) = None
line_of_answer (finished trees cookies effects) = None
line_of_answer (failed x) = Some (line_failed x)
line_of_answer unfinished = Some (named (codes "OverBudget"))

-- The program's answer to the request of its page, within the steps that a page may take, is none with a page, and this
-- is its line.
pub record IsAnsweredBy (p : Pg) (line : List ℕ) : Type 0 where
  pub answer : Answer
  pub answers : Answers p main_asked page_steps answer
  pub line_is : line_of_answer answer ≡ Some line

-- The run of what the path of `main` calls needs more nested calls than a page may have.
pub record NestsTooDeep (p : Pg) : Type 0 where
  pub routes : Rts
  pub callees : List ℕ
  pub routed : RoutesOf p routes callees
  pub call : Cl
  pub read : Route routes main_asked.post main_asked.path call
  pub number : ℕ
  pub called : slice_get callees call.entry ≡ Some number
  pub entry : Ent
  pub is_entry : slice_get routes.entries call.entry ≡ Some entry
  pub values : List V
  pub given : AreGiven (known p routes) entry.arguments None call.wires None values
  pub nested : answered_within p page_calls number values page_steps ≡ deep

-- Why a program shows no page, with the line that says so.
abbrev pub IsUnshown : Pg → List ℕ → Type 0
IsUnshown p line = IsAnsweredBy p line ⊎ (NestsTooDeep p × (line ≡ named (codes "TooDeep")))

-- this is so of the line that is told; want of memory says nothing
abbrev pub Tells : (List ℕ → Type 0) → NoPage → Type 0
Tells P (Told line) = P (string_bytes line)
Tells P Memory = Unit {0}
