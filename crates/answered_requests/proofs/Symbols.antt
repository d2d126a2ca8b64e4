-- Shapes whose fields are named by symbols: each field's name is the text of one.
use Rattle.std.proofs.Common.{◌≡◌, ℕ, zero, suc, List, [], ◌∷◌, Option, Some, None, slice_get, refl, subst}
use Rattle.std.specs.List.{AllByRecursion}
use Rattle.table_rows.specs.Shapes.{Sh, an_int, a_text, a_unit, a_truth, a_record, a_data, parameter, Shs, no_shapes, shape, Pts, no_parts, part, shape_list, at_arguments, all_at_arguments, parts_at_arguments}
use Rattle.core_typing.specs.Entries.{parts_of}
use Rattle.answered_requests.proofs.Lists.{some_is, no_place}

-- a name is the text of a symbol
abbrev pub HasSymbol : List (List ℕ) → List ℕ → Type 0
HasSymbol names n = (x : ℕ) × (slice_get names x ≡ Some n)

abbrev mutual
  pub InSymbols : List (List ℕ) → Sh → Type 0
  InSymbols names an_int = Unit {0}
  InSymbols names a_text = Unit {0}
  InSymbols names a_unit = Unit {0}
  InSymbols names a_truth = Unit {0}
  InSymbols names (a_record ps) = PartsInSymbols names ps
  InSymbols names (a_data i ss) = AllInSymbols names ss
  InSymbols names (parameter i) = Unit {0}

  pub AllInSymbols : List (List ℕ) → Shs → Type 0
  AllInSymbols names no_shapes = Unit {0}
  AllInSymbols names (shape s ss) = InSymbols names s × AllInSymbols names ss

  pub PartsInSymbols : List (List ℕ) → Pts → Type 0
  PartsInSymbols names no_parts = Unit {0}
  PartsInSymbols names (part n s ps) = HasSymbol names n × InSymbols names s × PartsInSymbols names ps

-- fields one by one
abbrev pub FieldInSymbols : List (List ℕ) → List ℕ × Sh → Type 0
FieldInSymbols names p = HasSymbol names p.0 × InSymbols names p.1

pub parts_in : (names : List (List ℕ)) (ps : List (List ℕ × Sh)) → AllByRecursion (FieldInSymbols names) ps → PartsInSymbols names (parts_of ps)
parts_in names [] h = tt
parts_in names (p ∷ ps) h = (h.0.0, h.0.1, parts_in names ps h.1)

-- arguments put for parameters
listed_in : (names : List (List ℕ)) (ss : Shs) → AllInSymbols names ss → (i : ℕ) (s : Sh) → slice_get (shape_list ss) i ≡ Some s → InSymbols names s
listed_in names no_shapes h i s e = no_place e
listed_in names (shape u us) h zero s e = subst (InSymbols names) (some_is e) h.0
listed_in names (shape u us) h (suc i) s e = listed_in names us h.1 i s e

argument_in : (names : List (List ℕ)) (ss : Shs) (i : ℕ) (o : Option Sh) → slice_get (shape_list ss) i ≡ o → AllInSymbols names ss → InSymbols names (elim o [ Some s ↦ s | None ↦ parameter i ])
argument_in names ss i (Some s) e h = listed_in names ss h i s e
argument_in names ss i None e h = tt

mutual
  pub put_for : (names : List (List ℕ)) (ss : Shs) → AllInSymbols names ss → (s : Sh) → InSymbols names s → InSymbols names (at_arguments ss s)
  put_for names ss h an_int g = tt
  put_for names ss h a_text g = tt
  put_for names ss h a_unit g = tt
  put_for names ss h a_truth g = tt
  put_for names ss h (a_record ps) g = parts_put names ss h ps g
  put_for names ss h (a_data i us) g = all_put names ss h us g
  put_for names ss h (parameter i) g = argument_in names ss i (slice_get (shape_list ss) i) refl h

  all_put : (names : List (List ℕ)) (ss : Shs) → AllInSymbols names ss → (us : Shs) → AllInSymbols names us → AllInSymbols names (all_at_arguments ss us)
  all_put names ss h no_shapes g = tt
  all_put names ss h (shape u us) g = (put_for names ss h u g.0, all_put names ss h us g.1)

  parts_put : (names : List (List ℕ)) (ss : Shs) → AllInSymbols names ss → (ps : Pts) → PartsInSymbols names ps → PartsInSymbols names (parts_at_arguments ss ps)
  parts_put names ss h no_parts g = tt
  parts_put names ss h (part n u ps) g = (g.0, put_for names ss h u g.1, parts_put names ss h ps g.2)
