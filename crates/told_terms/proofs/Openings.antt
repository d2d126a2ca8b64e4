-- What is told of what stands under a pattern, and what cover tells.
use Rattle.std.proofs.Common.{◌≡◌, List, Option, Some, None, refl, sym, subst}
use Rattle.con_terms.specs.Trees.{Cn}
use Rattle.con_terms.specs.declared.place.Place.{Place}
use Rattle.core_terms.specs.Trees.{Pt, Ex}
use Rattle.core_typing.specs.Scopes.{Sc, under}
use Rattle.core_typing.specs.Faults.{Fault, at}
use Rattle.core_typing.specs.PatternFaults.{PatFound, PatFault}
use Rattle.core_typing.specs.Own.{Uncovered, misses, large_part}
use Rattle.core_typing.proofs.OneType.{one_pattern}
use Rattle.told_faults.specs.Computed.{Jd}
use Rattle.told_faults.specs.Told.{Verdict, Picks, Only, only}
use Rattle.told_faults.proofs.Parts.{at_one}
use Rattle.judgements.specs.Bindings.{Bd, bind_these, bad_pattern, having}
use Rattle.pattern_rules.specs.Binds.{binding}
use Rattle.pattern_rules.specs.Matching.{Misfit, large, shape, Br, bad_branch, judged_branch}
use Rattle.pattern_rules.specs.Matching as matching
use Rattle.pattern_rules.proofs.Bound.{BindsAs, pattern_binds}
use Rattle.judged_terms.specs.Openings.{bound_scope, BranchIn}
use Rattle.told_terms.proofs.Wanted.{BranchTold}
use Rattle.told_terms.proofs.PatternsOut.{cover_out}
use Rattle.told_terms.proofs.Patterns.{fault_of, pattern_tells}

-- a branch: one of the first faults of its pattern, or the verdict of its body under what the pattern binds
pub data Opened (G : Sc) (t : Cn) (q : Pt) (e : Ex) : Br → Type 0 where
  not_opened : {f : Fault}
      → Picks (PatFault G q t) (Some f)
      → Opened G t q e (bad_branch f)
  opened : {k : Jd} (ts : List Cn)
      → PatFound G q t ts
      → Verdict (under ts G) e k
      → Opened G t q e (judged_branch k)

opened_by : (G : Sc) (t : Cn) (q : Pt) (e : Ex) (d : Bd) (x : Br) → BindsAs G G.locals q t d → Picks (PatFault G q t) (fault_of d) → BranchIn (bound_scope G d) (λ H k. Verdict H e k) x → Opened G t q e x
opened_by G t q e (bad_pattern f) x i p h = subst (λ (z : Br). Opened G t q e z) (sym h) (not_opened p)
opened_by G t q e (bind_these l) (bad_branch f) i p h = absurd h
opened_by G t q e (bind_these l) (judged_branch k) i p h = opened i.bound i.found (subst (λ (z : List Cn). Verdict (having z G) e k) i.is h)

pub opened_is : (G : Sc) (t : Cn) (q : Pt) (e : Ex) (x : Br) → BranchTold G t q e x → Opened G t q e x
opened_is G t q e x h = opened_by G t q e (binding G G.locals q t) x (pattern_binds G G.locals q t) (pattern_tells G G.locals q t) h

-- what a pattern binds is one list
pub one_scope : {G : Sc} {t : Cn} {q : Pt} {e : Ex} {ts us : List Cn} → PatFound G q t ts → PatFound G q t us → Only (under ts G) e (under us G) e
one_scope {G} {e = e} {ts = ts} h k = subst (λ (z : List Cn). Only (under ts G) e (under z G) e) (one_pattern h k) only

-- what cover tells
pub uncovered_at : {G : Sc} {p : Place} {ps : List Pt} {t : Cn} {f : Fault} → Uncovered G p ps t f → at f ≡ p
uncovered_at (misses h m) = refl
uncovered_at (large_part l) = refl

misfit : {G : Sc} {p : Place} {ps : List Pt} {t : Cn} {f : Fault} → Misfit G p ps t f → Uncovered G p ps t f
misfit (large l) = large_part l
misfit (shape h m) = misses h m

pub picks_cover : (G : Sc) (p : Place) (ps : List Pt) (t : Cn) (o : Option Fault) → matching.Uncovered G p ps t o → Picks (Uncovered G p ps t) o
picks_cover G p ps t None c = λ f x. cover_out c x
picks_cover G p ps t (Some f) m = at_one (Uncovered G p ps t) p f (λ g y. uncovered_at y) (misfit m)
