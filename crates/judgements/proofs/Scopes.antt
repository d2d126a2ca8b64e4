-- Scopes as the program keeps them.
use Rattle.std.proofs.Common.{◌≡◌, ℕ, zero, suc, ◌+◌, ◌-◌, ◌<◌, ◌≤◌, List, [], ◌∷◌, ◌++◌, map, Option, Some, None, option_map, slice_get, refl, ap, sym, ◌∙◌, arith, rules, Global}
use Rattle.std.proofs.lemmas.Option.{slice_get-map}
use Rattle.std.specs.declared.rc.Rc.{Rc}
use Rattle.con_terms.specs.Trees.{Cn}
use Rattle.con_terms.specs.Substitution.{shift}
use Rattle.con_terms.specs.View.{con_tree}
use Rattle.con_terms.specs.declared.con.Con.{Con}
use Rattle.con_terms.proofs.Walks.{shift_sum}
use Rattle.core_typing.proofs.KindsStay.{shift_none}
use Rattle.judgements.specs.View.{locals_view}
use Rattle.judgements.specs.declared.locals.Locals.{Locals, Typed, Binder}
use Rattle.judgements.specs.declared.locals.Locals.TheFolds.{the_lemmas}

pub typed_view : (t : Rc Con Global) (rest : Rc Locals Global) → locals_view (Typed t rest) ≡ con_tree t.value ∷ locals_view rest.value
typed_view t rest = search (rules, the_lemmas)

pub binder_view : (rest : Rc Locals Global) → locals_view (Binder rest) ≡ map (λ t. shift 1 t 0) (locals_view rest.value)
binder_view rest = search (rules, the_lemmas)

pub look_typed : (s : Locals) (t : Rc Con Global) (rest : Rc Locals Global) (i : ℕ) → s ≡ Typed t rest → 0 < i → slice_get (locals_view s) i ≡ slice_get (locals_view rest.value) (i - 1)
look_typed s t rest zero e h = absurd (omega arith)
look_typed s t rest (suc i) e h = ap (λ z. slice_get (locals_view z) (suc i)) e ∙ ap (λ z. slice_get z (suc i)) (typed_view t rest) ∙ ap (slice_get (locals_view rest.value)) (let p : i ≡ suc i - 1 = omega arith in p)

raised_twice : (by : ℕ) (o : Option Cn) → option_map (λ t. shift by t 0) (option_map (λ t. shift 1 t 0) o) ≡ option_map (λ t. shift (by + 1) t 0) o
raised_twice by None = refl
raised_twice by (Some t) = ap (λ z. Some z) (shift_sum 1 by 0 (by + 1) t (omega arith) (omega arith))

pub look_binder : (s : Locals) (rest : Rc Locals Global) (i by : ℕ) → s ≡ Binder rest → option_map (λ t. shift by t 0) (slice_get (locals_view s) i) ≡ option_map (λ t. shift (by + 1) t 0) (slice_get (locals_view rest.value) i)
look_binder s rest i by e = ap (λ z. option_map (λ t. shift by t 0) (slice_get (locals_view z) i)) e ∙ ap (λ z. option_map (λ t. shift by t 0) (slice_get z i)) (binder_view rest) ∙ ap (option_map (λ t. shift by t 0)) (slice_get-map (λ t. shift 1 t 0) (locals_view rest.value) i) ∙ raised_twice by (slice_get (locals_view rest.value) i)

pub unraised : (o : Option Cn) → option_map (λ t. shift 0 t 0) o ≡ o
unraised None = refl
unraised (Some t) = ap (λ z. Some z) (shift_none t)
