-- Datatypes by their numbers.
use Rattle.std.proofs.Common.{◌≡◌, ℕ, List, Option, Some, None, option_map, slice_get, refl, sym, ◌∙◌}
use Rattle.std.proofs.lemmas.Option.{slice_get-map}
use Rattle.core_terms.specs.Trees.{Dt}
use Rattle.wire_values.specs.Known.{symbols_in}

-- the datatype with a symbol
taken : (o : Option Dt) (s : ℕ) → option_map (λ (d : Dt). d.symbol) o ≡ Some s → (d : Dt) × (o ≡ Some d) × (d.symbol ≡ s)
taken None s e = absurd (cc)
taken (Some d) s e = (d, refl, cc)

pub datatype_there : (ds : List Dt) (i s : ℕ) → slice_get (symbols_in ds) i ≡ Some s → (d : Dt) × (slice_get ds i ≡ Some d) × (d.symbol ≡ s)
datatype_there ds i s e = taken (slice_get ds i) s (sym (slice_get-map (λ (d : Dt). d.symbol) ds i) ∙ e)
