-- What is told where nothing may stand.
use Rattle.std.proofs.Common.{◌≡◌, List, [], ◌∷◌, Option, Some, None, refl, subst}
use Rattle.con_terms.specs.Trees.{Cn, unit_con}
use Rattle.con_terms.specs.declared.place.Place.{Place}
use Rattle.core_terms.specs.Trees.{Ex, Xs, no_nodes, a_node}
use Rattle.core_terms.specs.Lists.{node_list}
use Rattle.core_typing.specs.Scopes.{Sc, normal_of}
use Rattle.core_typing.specs.Faults.{Fault, at, mismatch, too_large}
use Rattle.core_typing.specs.Found.{Found}
use Rattle.core_typing.specs.Own.{place_of, nothing_like, NotHeld, held_there, large_there}
use Rattle.told_faults.specs.Computed.{Jd}
use Rattle.told_faults.specs.Told.{TypeIs, Picks}
use Rattle.told_faults.proofs.Parts.{at_one, same_type}
use Rattle.told_faults.proofs.Verdict.{picks_as}
use Rattle.markup_rules.specs.Content.{other_than_unit, form_not_held, not_held, node_not_held, holds_nothing}
use Rattle.told_terms.proofs.Wanted.{NodesTold}

same_like : (n : Cn) → nothing_like n ≡ other_than_unit n
same_like unit_con = refl
same_like _ = refl

held_at : {G : Sc} {p : Place} {t : Cn} {f : Fault} → NotHeld G p t f → at f ≡ p
held_at (held_there h) = refl
held_at (large_there h) = refl

of_form : (G : Sc) (p : Place) (t : Cn) (o : Option Cn) → normal_of t ≡ o → Picks (NotHeld G p t) (form_not_held G p o)
of_form G p t None h = at_one (NotHeld G p t) p (too_large p) (λ g y. held_at y) (large_there h)
of_form G p t (Some n) h =
    at_one (NotHeld G p t) p (mismatch p G.called (other_than_unit n) n) (λ g y. held_at y)
    (subst (λ (z : Cn). NotHeld G p t (mismatch p G.called z n)) (same_like n) (held_there h))

-- a node of a type
pub not_held_pick : (G : Sc) (p : Place) (t : Cn) → Picks (NotHeld G p t) (not_held G p t)
not_held_pick G p t = of_form G p t (normal_of t) refl

-- the first node where nothing may stand
pub data Held (G : Sc) : Xs → Fault → Type 0 where
  held_first : {b t : Cn} {e : Ex} {xs : Xs} {f : Fault}
      → Found G e t
      → NotHeld G (place_of e) t f
      → Held G (a_node b e xs) f

first_pick : (G : Sc) (b : Cn) (e : Ex) (xs : Xs) (o : Option Cn) → TypeIs G e o → Picks (Held G (a_node b e xs)) (node_not_held G (b, e) o)
first_pick G b e xs None v = none
  where
    none : (f : Fault) → Held G (a_node b e xs) f → ⊥
    none f (held_first {t = t} x y) = v t x
first_pick G b e xs (Some t) v = picks_as (NotHeld G (place_of e) t) (Held G (a_node b e xs)) (not_held G (place_of e) t) there back (not_held_pick G (place_of e) t)
  where
    there : (f : Fault) → NotHeld G (place_of e) t f → Held G (a_node b e xs) f
    there f x = held_first v x

    back : (f : Fault) → Held G (a_node b e xs) f → NotHeld G (place_of e) t f
    back f (held_first x y) = same_type (λ z. NotHeld G (place_of e) z f) v x y

pub held_pick : (G : Sc) (xs : Xs) (ks : List Jd) (o : Option Cn) → NodesTold G xs ks → Picks (Held G xs) (holds_nothing G (node_list xs) ks o).own
held_pick G no_nodes [] o t = λ f x. elim x [ ]
held_pick G no_nodes (j ∷ js) o t = absurd t
held_pick G (a_node b e xs) [] o t = absurd t
held_pick G (a_node b e xs) (j ∷ js) o t = first_pick G b e xs j.type t.0.type
