-- What is told of a term with its type: (e : t).
use Rattle.std.proofs.Common.{◌≡◌, Bool, Option, Some, None, Result, Err}
use Rattle.con_terms.specs.Trees.{Kd, types, Cn}
use Rattle.con_terms.specs.declared.place.Place.{Place}
use Rattle.kind_rules.specs.Flaws.{Flw}
use Rattle.kind_rules.specs.Kinding.{judged_at}
use Rattle.core_terms.specs.Trees.{Ex, node, ascribed}
use Rattle.core_typing.specs.Scopes.{Sc}
use Rattle.core_typing.specs.Compared.{Alike}
use Rattle.core_typing.specs.Judged.{HasKind, LacksKind, lacks, flaw_at}
use Rattle.core_typing.specs.Faults.{Fault}
use Rattle.core_typing.specs.Found.{Found, ascribed_has}
use Rattle.core_typing.specs.Own.{place_of, Wants, Own}
use Rattle.core_typing.specs.Own as own
use Rattle.core_typing.specs.Tells.{Sub, with_type}
use Rattle.core_typing.proofs.Excluded.{wants_out, kind_out}
use Rattle.told_faults.specs.Computed.{Jd, wants, on_type}
use Rattle.told_faults.specs.Heads.{Wanted, agree, disagree, Kindly, kindly, unkind}
use Rattle.told_faults.specs.Told.{TypeIs, Verdict, Picks, Only, only, OfType}
use Rattle.told_faults.proofs.Parts.{wanted, kind_is, picks_wants, picks_flaw, picks_of_type, same_type}
use Rattle.told_faults.proofs.Verdict.{picks_as}
use Rattle.node_rules.specs.Functions.{unless_told, written, of_ascribed}
use Rattle.told_terms.proofs.Verdicts.{one_part}

part_alone : (G : Sc) (p : Place) (a : Bool) (e : Ex) (t : Cn) (H : Sc) (c : Ex) → Sub G (node p a (ascribed e t)) H c → Only G e H c
part_alone G p a e t H c with_type = only

-- its type is the written one, where the term has it
wanted_type : (G : Sc) (p q : Place) (a : Bool) (e : Ex) (t u : Cn) {o : Option Fault} → HasKind G t types → Found G e u → Wanted G q t u o → TypeIs G (node p a (ascribed e t)) (unless_told t o)
wanted_type G p q a e t u k h (agree x) = ascribed_has k h x
wanted_type G p q a e t u k h (disagree x) = none
  where
    none : (v : Cn) → Found G (node p a (ascribed e t)) v → ⊥
    none v (ascribed_has l g y) = wants_out (same_type (λ z. Alike t z) h g y) x

written_type : (G : Sc) (p q : Place) (a : Bool) (e : Ex) (t : Cn) (o : Option Cn) → HasKind G t types → TypeIs G e o → TypeIs G (node p a (ascribed e t)) (written G q t o)
written_type G p q a e t None k v = none
  where
    none : (u : Cn) → Found G (node p a (ascribed e t)) u → ⊥
    none u (ascribed_has {u = w} l g y) = v w g
written_type G p q a e t (Some u) k v = wanted_type G p q a e t u k v (wanted G q t u)

-- what it has at fault itself, where the type has its kind
kinded_own : (G : Sc) (p : Place) (a : Bool) (e : Ex) (t : Cn) (o : Option Cn) → HasKind G t types → TypeIs G e o → Picks (Own G (node p a (ascribed e t))) (on_type o (wants G (place_of e) t))
kinded_own G p a e t o k v = picks_as (OfType G e (λ u. Wants G (place_of e) t u)) (Own G (node p a (ascribed e t))) (on_type o (wants G (place_of e) t)) there back (picks_of_type G e (λ u. Wants G (place_of e) t u) (wants G (place_of e) t) (λ u. picks_wants G (place_of e) t u) o v)
  where
    there : (f : Fault) → OfType G e (λ u. Wants G (place_of e) t u) f → Own G (node p a (ascribed e t)) f
    there f (u, h, x) = own.not_as_written k h x

    back : (f : Fault) → Own G (node p a (ascribed e t)) f → OfType G e (λ u. Wants G (place_of e) t u) f
    back f (own.written_kind x) = absurd (kind_out k x)
    back f (own.not_as_written {u = u} l h x) = (u, h, x)

-- and where it hasn't
unkinded_own : (G : Sc) (p : Place) (a : Bool) (e : Ex) (t : Cn) (w : Flw) → judged_at G.kinds t types ≡ Err w → Picks (Own G (node p a (ascribed e t))) (Some (flaw_at p G.called w))
unkinded_own G p a e t w x = picks_as (LacksKind G p t types) (Own G (node p a (ascribed e t))) (Some (flaw_at p G.called w)) (λ f y. own.written_kind y) back (picks_flaw G p t types (Err w) (unkind x))
  where
    back : (f : Fault) → Own G (node p a (ascribed e t)) f → LacksKind G p t types f
    back f (own.written_kind y) = y
    back f (own.not_as_written l h y) = absurd (kind_out l (lacks {p = p} x))

by_kind : (G : Sc) (p : Place) (a : Bool) (e : Ex) (t : Cn) (i : Jd) {r : Result Kd Flw} → Kindly G t types r → Verdict G e i → Verdict G (node p a (ascribed e t)) (of_ascribed G p (place_of e) t r i)
by_kind G p a e t i (kindly k) v =
    one_part G (node p a (ascribed e t)) G e i (written G (place_of e) t i.type) (on_type i.type (wants G (place_of e) t))
    v with_type (part_alone G p a e t) (written_type G p (place_of e) a e t i.type k v.type) (kinded_own G p a e t i.type k v.type)
by_kind G p a e t i (unkind {w = w} x) v =
    one_part G (node p a (ascribed e t)) G e i None (Some (flaw_at p G.called w))
    v with_type (part_alone G p a e t) none (unkinded_own G p a e t w x)
  where
    none : (u : Cn) → Found G (node p a (ascribed e t)) u → ⊥
    none u (ascribed_has l g y) = kind_out l (lacks {p = p} x)

pub ascribed_told : (G : Sc) (p : Place) (a : Bool) (e : Ex) (t : Cn) (i : Jd) → Verdict G e i → Verdict G (node p a (ascribed e t)) (of_ascribed G p (place_of e) t (judged_at G.kinds t types) i)
ascribed_told G p a e t i v = by_kind G p a e t i (kind_is G t types) v
