use Rattle.std.proofs.Common.{◌≡◌, IfOk, Option, slice_get, subst}
use Rattle.con_terms.specs.Trees.{Cn}
use Rattle.core_terms.specs.View.{maybe_con}
use Rattle.judgements.specs.View.{locals_view}
use Rattle.judgements.proofs.Scopes.{unraised}
use Rattle.inserted_terms.proofs.items.type_of_variable.Goals as goal

pub returns : goal.returns
returns c =
    let P : Option Cn → Type 0 = λ z. IfOk c.look_up.result (λ o. maybe_con o ≡ z) in
    subst P (unraised (slice_get (locals_view c.args.h.now.locals.value) c.args.i))
    (rw (← c.deref.ensures) c.look_up.ensures)
