-- With the routes of an accepted program each request is answered.
use Rattle.std.proofs.Common.{◌≡◌, ℕ, List, [], ◌∷◌, Option, Some, None, inl, inr, refl, sym, subst}
use Rattle.table_rows.specs.Wires.{Wr, no_wires}
use Rattle.table_rows.specs.Shapes.{Sh, no_shapes}
use Rattle.link_router.specs.Calls.{Rts, Cl, Asked}
use Rattle.link_router.specs.Links.{Route}
use Rattle.link_router.specs.Forms.{Form, filled, lacks, spoils, ReadsForm}
use Rattle.link_router.proofs.Bodies.{each_body_is_form}
use Rattle.link_router.proofs.EachTarget.{each_target_is_read}
use Rattle.core_terms.specs.Trees.{Pg}
use Rattle.core_typing.specs.Entries.{RoutesOf, all_datatypes}
use Rattle.core_typing.proofs.SiteRoutes.{routes_named}
use Rattle.core_meaning.specs.Values.{V}
use Rattle.core_meaning.specs.Wired.{AreGiven, no_more, the_form}
use Rattle.core_meaning.specs.Requests.{astray, missing_field, bad_field, a_call, ReadsAs, goes_astray, lacks_field, spoils_field, is_link, is_action, known, Answer, refused, Answers, not_called, is_called, answered}
use Rattle.answered_requests.specs.Laws.{EachRequestIsAnswered}
use Rattle.answered_requests.proofs.Shaped.{datatype_in, datatype_there}
use Rattle.answered_requests.proofs.Given.{Readable, a_value, given}
use Rattle.answered_requests.proofs.FormWires.{form_has}
use Rattle.answered_requests.proofs.Entries.{FormWell, CallsOne, calls_one}
use Rattle.answered_requests.proofs.Ends.{comes_to}

-- the wires of a program's links can be read
readable : {p : Pg} {routes : Rts} {callees : List ℕ} → RoutesOf p routes callees → Readable p.names (all_datatypes p) routes.datatypes
readable r = record { there = datatype_there r.datatypes; held = datatype_in r.datatypes }

module _ (p : Pg) (routes : Rts) (callees : List ℕ) (ask : Asked) (n : ℕ) (r : RoutesOf p routes callees) (call : Cl)
    (route : Route routes ask.post ask.path call) (one : CallsOne p callees call.entry route.entry) where
  abbrev IsAnswered : Type 0
  IsAnswered = (a : Answer) × Answers p ask n a

  -- a call whose reading is there, and the value of its form where it has one
  run : (g : Option Wr)
      → ReadsAs routes ask (a_call call.entry route.entry call.wires g)
      → (vs : List V) × AreGiven (known p routes) no_shapes route.entry.form no_wires g vs
      → IsAnswered
  run g reading last =
      let (vs, are) = given (readable r) last one.takes.arguments route.shapes in
      let (a, ends) = comes_to (answered p one.callee vs n) in
      (a, is_called r reading one.called are ends)

  -- an action, by what its body is
  action : (s : Sh) → route.entry.form ≡ Some s → FormWell p.names s → (x : Form) → ReadsForm s ask.body x → IsAnswered
  action s q well (filled w) h =
      let (v, is) = a_value (readable r) well.in_symbols (form_has h refl) in
      run (Some w) (is_action route route.is_entry q h)
      (v ∷ [], subst (λ f. AreGiven (known p routes) no_shapes f no_wires (Some w) (v ∷ [])) (sym q) (the_form is))
  action s q well (lacks x) h = (refused (missing_field x), not_called r (lacks_field route route.is_entry q h))
  action s q well (spoils x) h = (refused (bad_field x), not_called r (spoils_field route route.is_entry q h))

  -- a call, by whether it is an action
  called : (o : Option Sh) → route.entry.form ≡ o → IsAnswered
  called None q =
      run None (is_link route route.is_entry q)
      ([], subst (λ f. AreGiven (known p routes) no_shapes f no_wires None []) (sym q) no_more)
  called (Some s) q =
      let well = one.takes.form s q in
      let (x, h) = each_body_is_form s ask.body well.of_form in
      action s q well x h

pub each_request : EachRequestIsAnswered
each_request p routes callees ask n a r = elim (each_target_is_read routes ask.post ask.path (routes_named a r)) [
  | inl (call, route) ↦ (
      let one = calls_one r call.entry route.entry route.is_entry in
      called p routes callees ask n r call route one route.entry.form refl)
  | inr (why, h) ↦ (refused (astray why), not_called r (goes_astray h))
]
