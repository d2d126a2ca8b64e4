-- That a match on an option which takes Some alone misses None, and has nothing else at fault before.
use Rattle.std.proofs.Common.{◌≡◌, ℕ, false, List, [], ◌∷◌, Some, refl, arith, sym, subst, ◌⊎◌, inl, inr}
use Rattle.con_terms.specs.Trees.{Cn, var}
use Rattle.con_terms.specs.declared.place.Place.{Place}
use Rattle.kind_rules.specs.Compared.{comparison_units}
use Rattle.core_terms.specs.Names.{option_name, some_name}
use Rattle.core_terms.specs.Datatypes.{constructor_of}
use Rattle.core_terms.specs.Types.{int_type}
use Rattle.core_terms.specs.Trees.{Pt, pattern, binds, Ex, node, bound}
use Rattle.core_typing.specs.Scopes.{Sc, under}
use Rattle.core_typing.specs.Cover.{Shp, bare_shape, Misses, TooLargeIn, in_held, in_field, of_bare}
use Rattle.core_typing.specs.Cover as cover
use Rattle.core_typing.specs.Faults.{Fault, at, Earlier}
use Rattle.core_typing.specs.Judged.{has}
use Rattle.core_typing.specs.Compared.{Alike}
use Rattle.core_typing.specs.PatternFaults.{Constructs, AtData, PatFound, holding_binds, binds_one, PatFault, bad_kind, other_type, large_type, no_holding, other_holding, large_holding, holds_less}
use Rattle.core_typing.specs.PatternFaults as faults
use Rattle.core_typing.specs.Found.{bound_has}
use Rattle.core_typing.specs.Own.{Own, first_pattern, a_later_pattern, branches_differ, not_covered, Uncovered, misses, large_part, no_pats, a_pat}
use Rattle.core_typing.specs.Tells.{tells_own, Sub, what_is_matched, first_branch, later_branch, Fails}
use Rattle.core_typing.specs.ExampleTerms.{byte, without_none, option_int, some_pattern, basis_scope}
use Rattle.core_typing.specs.ExampleTypings.{NoneIsMissed}
use Rattle.core_typing.proofs.ExampleFaults.{not_before, no_some, kind_at, bound_is_well}

abbrev matched_scope : Sc
matched_scope = under (option_int ∷ []) basis_scope

-- the pattern, at option int
int_alike : Alike int_type int_type
unfolding comparison_units
int_alike = record { form = int_type; forms = refl }

some_data : AtData matched_scope option_name 1 option_int (constructor_of some_name (Some (var 0))) (int_type ∷ [])
unfolding comparison_units
some_data = record { d = _; n = option_int; constructs = record { declared = refl; constructor = refl }; normal = refl; at_datatype = refl }

some_binds : PatFound matched_scope some_pattern option_int (int_type ∷ [])
some_binds = holding_binds some_data refl (binds_one (has refl) int_alike)

-- no type of a part is too large
none_too_large : TooLargeIn matched_scope.datatypes 1 option_int → ⊥
unfolding comparison_units
none_too_large (cover.itself h) = no_some (sym h)
none_too_large (in_held j m n o p h) = elim h [ ]
none_too_large (in_field x m n o h) = elim h [ ]

none_missed : Misses matched_scope.datatypes (some_pattern ∷ []) option_int (bare_shape option_name 0)
unfolding comparison_units
none_missed = record { shape = of_bare refl refl refl refl; missed = refl }

-- faults of the pattern stand in it
held_pattern_at : {G : Sc} {x : ℕ} {t u : Cn} {f : Fault} → PatFault G (pattern (byte 46) (binds x u)) t f → at f ≡ byte 46
held_pattern_at (bad_kind h) = kind_at h
held_pattern_at (other_type k d) = refl
held_pattern_at (large_type k l) = refl

some_pattern_at : {G : Sc} {t : Cn} {f : Fault} → PatFault G some_pattern t f → (at f ≡ byte 41) ⊎ (at f ≡ byte 46)
some_pattern_at (no_holding h) = inl refl
some_pattern_at (other_holding c n h) = inl refl
some_pattern_at (large_holding n) = inl refl
some_pattern_at (holds_less d h n) = inl refl
some_pattern_at (faults.in_held d h g) = inr (held_pattern_at g)

pub uncovered_at : {G : Sc} {p : Place} {ps : List Pt} {t : Cn} {f : Fault} → Uncovered G p ps t f → at f ≡ p
uncovered_at (misses s m) = refl
uncovered_at (large_part l) = refl

match_at : {f : Fault} → Own matched_scope without_none f → (at f ≡ byte 31) ⊎ ((at f ≡ byte 41) ⊎ (at f ≡ byte 46))
match_at (first_pattern g h) = inr (some_pattern_at h)
match_at (a_later_pattern g h) = elim h [ ]
match_at (branches_differ g h k l) = elim l [ ]
match_at (not_covered g h u) = inl (uncovered_at u)

later_41 : Earlier (byte 41) (byte 31) → ⊥
later_41 (inl h) = absurd (omega (arith, h))
later_41 (inr h) = absurd (omega (arith, h.1))

later_46 : Earlier (byte 46) (byte 31) → ⊥
later_46 (inl h) = absurd (omega (arith, h))
later_46 (inr h) = absurd (omega (arith, h.1))

not_before_match : (f : Fault) → (at f ≡ byte 31) ⊎ ((at f ≡ byte 41) ⊎ (at f ≡ byte 46)) → Earlier (at f) (byte 31) → ⊥
not_before_match f (inl e) h = not_before f e h
not_before_match f (inr (inl e)) h = later_41 (subst (λ q. Earlier q (byte 31)) e h)
not_before_match f (inr (inr e)) h = later_46 (subst (λ q. Earlier q (byte 31)) e h)

-- the branch's body is bound by the pattern
body_is_well : {t : Cn} {ts : List Cn} {f : Fault} → PatFound matched_scope some_pattern t ts → Fails (under ts matched_scope) (node (byte 51) false (bound 0)) f → ⊥
body_is_well (holding_binds d h (binds_one k a)) g = bound_is_well refl g

parts_are_well : (H : Sc) (c : Ex) (f : Fault) → Sub matched_scope without_none H c → Fails H c f → Earlier (byte 31) (at f)
parts_are_well H c f what_is_matched g = absurd (bound_is_well refl g)
parts_are_well H c f (first_branch k l) g = absurd (body_is_well l g)
parts_are_well H c f (later_branch k l m) g = elim l [ ]

pub none_told : NoneIsMissed
none_told =
    tells_own (not_covered (bound_has refl) (a_pat some_binds no_pats) (misses none_too_large none_missed))
    (λ f o h. not_before_match f (match_at o) h)
    parts_are_well
