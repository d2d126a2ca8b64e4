-- A page has a text, and what a run comes to is an answer.
use Rattle.std.proofs.Common.{ℕ, List, ◌++◌, length, ltb, inl, inr, ◌⊎◌, refl, codes, ltb-true, ltb-false}
use Rattle.std.proofs.lemmas.Bool.{cases_Bool}
use Rattle.xml_trees.specs.Trees.{Trees}
use Rattle.xml_trees.specs.Written.{written}
use Rattle.xml_trees.specs.Grammar.{IsPage}
use Rattle.xml_trees.proofs.Spelling.{markup_of}
use Rattle.xml_trees.proofs.Normal.{is_normal}
use Rattle.core_meaning.specs.Values.{Flt, div_zero, text_too_long, link_too_long, not_blessed, aborted, Out, done, fault, more, deep, wrong_at}
use Rattle.core_meaning.specs.Actions.{State}
use Rattle.core_meaning.specs.Requests.{longest_page, TooLong, ShortEnough, aborted_page, run_fault, page_too_long, no_case, Answer, finished, failed, unfinished, Ends, with_page, with_long_page, with_trees, with_long_trees, with_fault, needs_more, needs_depth, nowhere}

-- trees have the text of a page
pub page_text : (t : Trees) → (bytes : List ℕ) × IsPage bytes (written t)
page_text t =
    let content = markup_of (written t) (is_normal t) in
    (codes "<!DOCTYPE html><html>" ++ (content.0 ++ codes "</html>"), (content.0, refl, content.1))

-- which is too long, or isn't
pub short_or_long : (t : Trees) → ShortEnough t ⊎ TooLong t
short_or_long t =
    let page = page_text t in
    elim (cases_Bool (ltb longest_page (length page.0))) [
      | inl h ↦ inr (record { bytes = page.0; text = page.1; long = ltb-true longest_page (length page.0) h })
      | inr h ↦ inl (record { bytes = page.0; text = page.1; short = ltb-false longest_page (length page.0) h })
    ]

abbrev Comes : Out (Trees × State) → Type 0
Comes o = (a : Answer) × Ends o a

page_comes : (t : Trees) (st : State) (b : ℕ) → ShortEnough t ⊎ TooLong t → Comes (done (t, st) b)
page_comes t st b (inl s) = (finished t st.cookies st.effects, with_page s)
page_comes t st b (inr l) = (failed page_too_long, with_long_page l)

trees_come : (t : Trees) → ShortEnough (aborted_page t) ⊎ TooLong (aborted_page t) → Comes (fault (aborted t))
trees_come t (inl s) = (failed (run_fault (aborted t)), with_trees s)
trees_come t (inr l) = (failed page_too_long, with_long_trees l)

fault_comes : (f : Flt) → Comes (fault f)
fault_comes div_zero = (failed (run_fault div_zero), with_fault (λ t e. cc))
fault_comes text_too_long = (failed (run_fault text_too_long), with_fault (λ t e. cc))
fault_comes link_too_long = (failed (run_fault link_too_long), with_fault (λ t e. cc))
fault_comes not_blessed = (failed (run_fault not_blessed), with_fault (λ t e. cc))
fault_comes (aborted t) = trees_come t (short_or_long (aborted_page t))

pub comes_to : (o : Out (Trees × State)) → (a : Answer) × Ends o a
comes_to (done r b) = page_comes r.0 r.1 b (short_or_long r.0)
comes_to (fault f) = fault_comes f
comes_to more = (unfinished, needs_more)
comes_to deep = (unfinished, needs_depth)
comes_to (wrong_at w) = (failed (no_case w), nowhere)
