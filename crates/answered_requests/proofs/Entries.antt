-- What the entries of a program take, and the values that they call.
use Rattle.std.proofs.Common.{◌≡◌, ℕ, zero, suc, Bool, List, Some, option_map, slice_get, ap, sym, subst, ◌∙◌}
use Rattle.std.proofs.lemmas.Option.{slice_get-map}
use Rattle.con_terms.specs.Trees.{Cn}
use Rattle.row_normal.proofs.Options.{option_map_from}
use Rattle.table_rows.specs.Shapes.{Sh, Shs}
use Rattle.link_router.specs.Calls.{Ent, Rts}
use Rattle.link_router.specs.Forms.{IsFormShape}
use Rattle.core_terms.specs.Trees.{Pg}
use Rattle.core_typing.specs.Declarations.{Value}
use Rattle.core_typing.specs.Entries.{TakesToPage, no_argument, an_argument, TakesFormToPage, form_last, form_behind, IsEntry, by_export, by_link, by_action, EntriesFrom, no_values, neither, get_alone, post_alone, get_and_post, RoutesOf}
use Rattle.answered_requests.proofs.Lists.{some_is, no_place}
use Rattle.answered_requests.proofs.Symbols.{InSymbols, AllInSymbols}
use Rattle.answered_requests.proofs.Shaped.{shaped_in}
use Rattle.answered_requests.proofs.FormShapes.{form_shape}

-- what an action's form is
pub record FormWell (names : List (List ℕ)) (s : Sh) : Type 0 where
  pub in_symbols : InSymbols names s
  pub of_form : IsFormShape s

-- the shapes of an entry's arguments and of its form name their fields by symbols
pub record TakesWell (names : List (List ℕ)) (e : Ent) : Type 0 where
  pub arguments : AllInSymbols names e.arguments
  pub form : (s : Sh) → e.form ≡ Some s → FormWell names s

arguments_in : {p : Pg} {t : Cn} {ss : Shs} → TakesToPage p t ss → AllInSymbols p.names ss
arguments_in (no_argument h) = tt
arguments_in (an_argument e c s r) = (shaped_in s, arguments_in r)

behind_in : {p : Pg} {t : Cn} {ss : Shs} {f : Sh} → TakesFormToPage p t ss f → AllInSymbols p.names ss
behind_in (form_last e f s h) = tt
behind_in (form_behind e c s r) = (shaped_in s, behind_in r)

form_in : {p : Pg} {t : Cn} {ss : Shs} {f : Sh} → TakesFormToPage p t ss f → FormWell p.names f
form_in (form_last e f s h) = record { in_symbols = shaped_in s; of_form = form_shape f s }
form_in (form_behind e c s r) = form_in r

entry_well : {p : Pg} {i : ℕ} {post : Bool} {e : Ent} → IsEntry p i post e → TakesWell p.names e
entry_well (by_export h c r) = record { arguments = arguments_in r; form = λ s q. no_place q }
entry_well (by_link h c r) = record { arguments = arguments_in r; form = λ s q. no_place q }
entry_well {p} (by_action h c r) = record { arguments = behind_in r; form = λ s q. subst (FormWell p.names) (some_is q) (form_in r) }

-- each entry of the list does
at_head : (p : Pg) {i : ℕ} {e : Ent} {x : ℕ × Ent} → TakesWell p.names e → Some (i, e) ≡ Some x → TakesWell p.names x.1
at_head p h q = subst (TakesWell p.names) (ap (λ (z : ℕ × Ent). z.1) (some_is q)) h

well_at : {p : Pg} {i : ℕ} {vs : List Value} {xs : List (ℕ × Ent)} → EntriesFrom p i vs xs → (k : ℕ) (x : ℕ × Ent) → slice_get xs k ≡ Some x → TakesWell p.names x.1
well_at no_values k x e = no_place e
well_at (neither n r) k x e = well_at r k x e
well_at {p} (get_alone h n r) zero x e = at_head p (entry_well h) e
well_at (get_alone h n r) (suc k) x e = well_at r k x e
well_at {p} (post_alone n h r) zero x e = at_head p (entry_well h) e
well_at (post_alone n h r) (suc k) x e = well_at r k x e
well_at {p} (get_and_post h g r) zero x e = at_head p (entry_well h) e
well_at {p} (get_and_post h g r) (suc zero) x e = at_head p (entry_well g) e
well_at (get_and_post h g r) (suc (suc k)) x e = well_at r k x e

-- an entry of the routes calls a value
pub record CallsOne (p : Pg) (callees : List ℕ) (k : ℕ) (e : Ent) : Type 0 where
  pub callee : ℕ
  pub called : slice_get callees k ≡ Some callee
  pub takes : TakesWell p.names e

pub calls_one : {p : Pg} {routes : Rts} {callees : List ℕ} → RoutesOf p routes callees → (k : ℕ) (e : Ent) → slice_get routes.entries k ≡ Some e → CallsOne p callees k e
calls_one {p} r k e h =
    let (x, here, is) = option_map_from (λ (x : ℕ × Ent). x.1) (slice_get r.listed k) e (sym (slice_get-map (λ (x : ℕ × Ent). x.1) r.listed k) ∙ ap (λ es. slice_get es k) (sym r.entries) ∙ h) in
    record {
      callee = x.0;
      called = ap (λ ns. slice_get ns k) r.called ∙ slice_get-map (λ (x : ℕ × Ent). x.0) r.listed k ∙ ap (option_map (λ (x : ℕ × Ent). x.0)) here;
      takes = subst (TakesWell p.names) is (well_at r.are_entries k x here);
    }
