use Rattle.std.proofs.Common.{◌≡◌, ◌<◌, ◌-◌, ◌+◌, IfOk, Option, option_map, slice_get, subst, sym, arith, ap}
use Rattle.con_terms.specs.Trees.{Cn}
use Rattle.con_terms.specs.Substitution.{shift}
use Rattle.core_terms.specs.View.{maybe_con}
use Rattle.judgements.specs.View.{locals_view}
use Rattle.judgements.proofs.Scopes.{look_typed, look_binder}
use Rattle.judgements.proofs.locals.+look_up.Goals as goal

pub returns-else-i-eq0 : goal.returns-else-i-eq0
returns-else-i-eq0 t c =
    let P : Option Cn → Type 0 = λ z. IfOk c.look_up.result (λ o. maybe_con o ≡ option_map (λ t. shift c.args.by t 0) z) in
    let more : 0 < c.args.i = omega arith in
    subst P (sym (look_typed c.args.locals.now c.in-Typed.t c.in-Typed.rest c.args.i c.in-Typed.is more)) (rw (← c.deref-else-i-eq0.ensures) c.look_up.ensures)

pub returns-else-by-ge-BINDERS : goal.returns-else-by-ge-BINDERS
returns-else-by-ge-BINDERS t c =
    let P : Option Cn → Type 0 = λ z. IfOk c.look_up-in-Binder.result (λ o. maybe_con o ≡ z) in
    subst P (sym (look_binder c.args.locals.now c.in-Binder.rest c.args.i c.args.by c.in-Binder.is)) (rw (← c.deref-in-Binder.ensures) c.look_up-in-Binder.ensures)
