-- What is told of the nodes and of the faults of two lists.
use Rattle.std.proofs.Common.{◌++◌, inl, inr}
use Rattle.std.proofs.lemmas.List.Elements.{Contains-append_left, Contains-append_right, Contains-append_cases}
use Rattle.core_terms.specs.Trees.{Ex}
use Rattle.core_typing.specs.Scopes.{Sc}
use Rattle.core_typing.specs.Faults.{Fault}
use Rattle.told_faults.specs.Computed.{first, wants}
use Rattle.told_faults.specs.Told.{Or, or_first, or_second, Either, in_first, in_second}
use Rattle.told_faults.specs.Laws.{Among, OneOf, TwoSets, TwoFaults, TypesTell}
use Rattle.told_faults.proofs.Verdict.{least_as, least_two, picks_as, picks_two}
use Rattle.told_faults.proofs.Parts.{picks_of_type, picks_wants}
use Rattle.core_typing.specs.Own.{Wants}

pub two_sets : TwoSets
two_sets xs ys k l a b = least_as (Either (Among xs) (Among ys)) (Among (xs ++ ys)) (first k l) there back (least_two (Among xs) (Among ys) k l a b)
  where
    there : (H : Sc) (c : Ex) → Either (Among xs) (Among ys) H c → Among (xs ++ ys) H c
    there H c (in_first x) = Contains-append_left xs ys (H, c) x
    there H c (in_second x) = Contains-append_right xs ys (H, c) x

    back : (H : Sc) (c : Ex) → Among (xs ++ ys) H c → Either (Among xs) (Among ys) H c
    back H c x = elim (Contains-append_cases xs ys (H, c) x) [ inl y ↦ in_first y | inr y ↦ in_second y ]

pub two_faults : TwoFaults
two_faults fs gs k l a b = picks_as (Or (OneOf fs) (OneOf gs)) (OneOf (fs ++ gs)) (first k l) there back (picks_two (OneOf fs) (OneOf gs) k l a b)
  where
    there : (f : Fault) → Or (OneOf fs) (OneOf gs) f → OneOf (fs ++ gs) f
    there f (or_first x) = Contains-append_left fs gs f x
    there f (or_second x) = Contains-append_right fs gs f x

    back : (f : Fault) → OneOf (fs ++ gs) f → Or (OneOf fs) (OneOf gs) f
    back f x = elim (Contains-append_cases fs gs f x) [ inl y ↦ or_first y | inr y ↦ or_second y ]

pub types_tell : TypesTell
types_tell G e p w o v = picks_of_type G e (λ t. Wants G p w t) (λ t. wants G p w t) (λ t. picks_wants G p w t) o v
