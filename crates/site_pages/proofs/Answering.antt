-- The page that is found is the program's answer to the request.
use Rattle.std.proofs.Common.{◌≡◌, ℕ, suc, ◌≤◌, inl, inr, false, List, None, Some, Option, slice_get, refl, sym, ◌∙◌, subst, arith}
use Rattle.xml_trees.specs.Trees.{Trees}
use Rattle.xml_trees.specs.Written.{written}
use Rattle.table_rows.specs.Shapes.{Sh}
use Rattle.link_router.specs.Calls.{Ent, is_post}
use Rattle.core_terms.specs.Trees.{Pg}
use Rattle.value_trees.specs.Values.{V, Out, done, deep}
use Rattle.core_meaning.specs.Actions.{State}
use Rattle.core_meaning.specs.Wired.{AreGiven}
use Rattle.core_meaning.specs.Requests.{is_called, ReadsAs, a_call, is_link, Ends, with_page, ShortEnough, answered, answered_within, known, finished}
use Rattle.core_meaning.proofs.Answering.{nesting_only_refuses}
use Rattle.site_pages.specs.Lengths.{IsShort}
use Rattle.site_pages.specs.Found.{IsFound}
use Rattle.site_pages.specs.Shown.{IsShown, main_asked, page_steps}

-- an entry that isn't read by POST has no form
pub no_form : (f : Option Sh) → is_post f ≡ false → f ≡ None
no_form None h = refl
no_form (Some s) h = absurd (cc)

not_deep : {A : Type 0} (a : A) (l : ℕ) (o : Out A) → o ≡ done a l → o ≡ deep → ⊥
not_deep a l o h e = cc

-- a bound on nesting within the steps gives the answer where it gives one
within_is : (p : Pg) (d i : ℕ) (vs : List V) (n : ℕ) (r : Trees × State) (l : ℕ) → d ≤ suc n → answered_within p d i vs n ≡ done r l
    → answered p i vs n ≡ done r l
within_is p d i vs n r l h e = elim (nesting_only_refuses p d i vs n (inl h)) [
  | inl x ↦ absurd (not_deep r l (answered_within p d i vs n) e x)
  | inr x ↦ sym x ∙ e
]

ends_so : (o : Out (Trees × State)) (t : Trees) (st : State) (l : ℕ) → o ≡ done (t, st) l → ShortEnough t → Ends o (finished t st.cookies st.effects)
ends_so o t st l e s = subst (λ x. Ends x (finished t st.cookies st.effects)) (sym e) (with_page s)

pub same_entry : (o : Option Ent) (a b : Ent) → o ≡ Some a → o ≡ Some b → a ≡ b
same_entry o a b h e = cc

pub found_is_shown : (p : Pg) (t : Trees) → IsFound p t → IsShort (written t) → IsShown p t
found_is_shown p t f s =
    let g = f.gives in
    let same : f.read.entry ≡ g.entry = same_entry (slice_get f.routes.entries f.call.entry) f.read.entry g.entry f.read.is_entry g.is_entry in
    let none : g.entry.form ≡ None = no_form g.entry.form (subst (λ (e : Ent). is_post e.form ≡ false) same f.read.by_method) in
    let reads : ReadsAs f.routes main_asked (a_call f.call.entry g.entry f.call.wires None) = is_link f.read g.is_entry none in
    let given : AreGiven (known p f.routes) g.entry.arguments g.entry.form f.call.wires None g.values =
    subst (λ o. AreGiven (known p f.routes) g.entry.arguments o f.call.wires None g.values) (sym none) g.given in
    let short : ShortEnough t = record { bytes = s.0; text = s.1; short = s.2 } in
    record {
      state = g.state;
      answer = is_called f.routed reads f.called given
          (ends_so (answered p f.number g.values page_steps) t g.state g.left
          (within_is p 256 f.number g.values page_steps (t, g.state) g.left (omega arith) g.answered) short);
    }
