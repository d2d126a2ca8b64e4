-- Types of variables as they are seen from under binders of constructors (for `first_bound`).
use Rattle.std.proofs.Common.{◌≡◌, ℕ, ◌+◌, List, [], ◌∷◌, refl, ap, ◌∙◌, arith, rules, Global}
use Rattle.std.specs.declared.rc.Rc.{Rc}
use Rattle.con_terms.specs.Trees.{Cn}
use Rattle.con_terms.specs.Substitution.{shift}
use Rattle.con_terms.specs.View.{con_tree}
use Rattle.con_terms.specs.declared.con.Con.{Con}
use Rattle.con_terms.proofs.Walks.{shift_sum}
use Rattle.core_typing.proofs.KindsStay.{shift_none}
use Rattle.judgements.specs.View.{locals_view}
use Rattle.judgements.specs.declared.locals.Locals.{Locals, Empty, Typed, Binder}
use Rattle.judgements.specs.declared.locals.Locals.TheFolds.{the_lemmas}
use Rattle.judgements.proofs.Scopes.{binder_view, typed_view}
use Rattle.inserted_terms.specs.Values.{raised}

empty_view : locals_view Empty ≡ []
empty_view = search (rules, the_lemmas)

raised_twice : (by : ℕ) (ts : List Cn) → raised by (raised 1 ts) ≡ raised (by + 1) ts
raised_twice by [] = refl
raised_twice by (t ∷ ts) =
    ap (λ u. u ∷ raised by (raised 1 ts)) (shift_sum 1 by 0 (by + 1) t (omega arith) (omega arith))
    ∙ ap (λ us. shift (by + 1) t 0 ∷ us) (raised_twice by ts)

-- from under no binder
pub raised_none : (ts : List Cn) → raised 0 ts ≡ ts
raised_none [] = refl
raised_none (t ∷ ts) = ap (λ u. u ∷ raised 0 ts) (shift_none t) ∙ ap (λ us. t ∷ us) (raised_none ts)

-- behind a variable, and behind a binder of a constructor
pub raised_past : (s : Locals) (by : ℕ) (t : Rc Con Global) (rest : Rc Locals Global) → s ≡ Typed t rest
    → raised by (locals_view s) ≡ shift by (con_tree t.value) 0 ∷ raised by (locals_view rest.value)
raised_past s by t rest e = ap (λ z. raised by (locals_view z)) e ∙ ap (raised by) (typed_view t rest)

pub raised_under : (s : Locals) (by : ℕ) (rest : Rc Locals Global) → s ≡ Binder rest
    → raised by (locals_view s) ≡ raised (by + 1) (locals_view rest.value)
raised_under s by rest e =
    ap (λ z. raised by (locals_view z)) e ∙ ap (raised by) (binder_view rest) ∙ raised_twice by (locals_view rest.value)

pub raised_nothing : (s : Locals) (by : ℕ) → s ≡ Empty → raised by (locals_view s) ≡ []
raised_nothing s by e = ap (λ z. raised by (locals_view z)) e ∙ ap (raised by) empty_view
