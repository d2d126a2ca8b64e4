-- The typings of the examples.
use Rattle.std.proofs.Common.{[], ◌∷◌, refl, arith, sym}
use Rattle.std.specs.List.{All}
use Rattle.std.proofs.lemmas.List.Elements.{All-from_recursion}
use Rattle.con_terms.specs.Trees.{types, row_of, Cn, var, guarded}
use Rattle.con_terms.specs.Equal.{Equal, same, step, in_record, in_app, in_lambda, beta, map_map, mapped}
use Rattle.con_terms.specs.Apart.{Separated, by_guard, has_piece, Apart, apart}
use Rattle.con_terms.specs.Kinded.{Kinded, of_var, of_basic, of_record, of_app, of_lambda, of_map}
use Rattle.kind_rules.specs.Compared.{comparison_units}
use Rattle.core_terms.specs.Types.{int_type}
use Rattle.core_typing.specs.Scopes.{Sc, under_con}
use Rattle.core_typing.specs.Cover.{Covers, TooLargeIn, itself, in_held, in_field}
use Rattle.core_typing.specs.Patterns.{of_binds}
use Rattle.core_typing.specs.Typed.{by_equal, of_bound, of_fn, of_fn_con, of_call, of_ascribed, to_nothing, to_guard}
use Rattle.core_typing.specs.ExampleTerms.{basis_scope, options, lists, maps_twice, maps_once, called_x, x_name}
use Rattle.core_typing.specs.ExampleTypings.{with_two_rows, GuardHoldsByAssumption, MapOfMapIsTyped}
use Rattle.core_typing.proofs.ExampleFaults.{no_some}

-- a variable takes every value
nothing_large : TooLargeIn basis_scope.datatypes 1 (maps_twice (var 0)) → ⊥
unfolding comparison_units
nothing_large (itself h) = no_some (sym h)
nothing_large (in_held j m n o p h) = elim h [ ]
nothing_large (in_field x m n o h) = elim h [ ]

variable_covers : Covers basis_scope.datatypes (called_x (maps_twice (var 0)) ∷ []) (maps_twice (var 0))
variable_covers = record { small = nothing_large; taken = λ s h. refl }

-- the guard
assumed : (t : Cn) → Separated (with_two_rows t).kinds.guards (var 1) (var 0)
assumed t = by_guard (0, omega arith, refl) (has_piece same (0, omega arith, refl)) (has_piece same (0, omega arith, refl))

rows_apart : (t : Cn) → Apart (with_two_rows t).kinds.guards (var 1) (var 0)
rows_apart t =
    let gs = (with_two_rows t).kinds.guards in
    apart same same (All-from_recursion (λ p. All (Separated gs p) (var 0 ∷ [])) (var 1 ∷ []) (All-from_recursion (Separated gs (var 1)) (var 0 ∷ []) (assumed t, tt), tt))

pub guard_holds : GuardHoldsByAssumption
guard_holds = of_call (of_bound refl) (to_guard (rows_apart (guarded (var 1) (var 0) int_type)) tt to_nothing)

-- the map
abbrev under_row : Sc
under_row = under_con x_name (row_of types) basis_scope

options_kinded : Kinded under_row.kinds (mapped types types options (mapped types types lists (var 0))) (row_of types)
options_kinded = of_app (of_app of_map (of_lambda (of_app (of_basic refl) (of_var refl)))) (of_app (of_app of_map (of_lambda (of_app (of_basic refl) (of_var refl)))) (of_var refl))

once_kinded : Kinded under_row.kinds (maps_once (var 0)) types
once_kinded = of_record (of_app (of_app of_map (of_lambda (of_app (of_basic refl) (of_app (of_basic refl) (of_var refl))))) (of_var refl))

one_map : Equal (maps_twice (var 0)) (maps_once (var 0))
one_map = in_record (step map_map (in_app (in_app same (in_lambda (step beta (in_app same beta)))) same))

pub map_of_map_typed : MapOfMapIsTyped
map_of_map_typed = of_fn_con (of_fn (of_record options_kinded) (of_binds (of_record options_kinded)) variable_covers (of_ascribed once_kinded (by_equal (of_bound refl) one_map tt)))
