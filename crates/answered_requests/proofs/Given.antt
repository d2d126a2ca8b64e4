-- Wires of shapes whose fields are named by symbols are values.
use Rattle.std.proofs.Common.{◌≡◌, ℕ, true, false, List, ◌∷◌, Option, Some, None, slice_get, refl}
use Rattle.table_rows.specs.Wires.{Wr, Wrs, no_wires}
use Rattle.table_rows.specs.Shapes.{Sh, Shs, no_shapes, Pts, Cases, HasShape, int_has, text_has, unit_has, true_has, false_has, record_has, bare_has, tagged_has, HaveParts, no_parts_have, part_has, HaveShapes, no_shapes_have, shape_has}
use Rattle.core_terms.specs.Trees.{Dt}
use Rattle.core_meaning.specs.Values.{V, of_number, of_text, of_fields, of_bare, of_holding, Slots, no_slots, slot, truth}
use Rattle.core_meaning.specs.Wired.{Known, HasValue, int_is, text_is, unit_is, false_is, true_is, record_is, bare_is, tagged_is, HaveValues, no_values_of, value_of, AreGiven, one_more}
use Rattle.answered_requests.proofs.Lists.{place_in}
use Rattle.answered_requests.proofs.Symbols.{InSymbols, AllInSymbols, PartsInSymbols, put_for}

-- what wires are read with
abbrev pub reader : List (List ℕ) → List Dt → List Cases → Known
reader names ds D = record { names = names; datatypes = ds; cases = D }

-- each list of cases is that of a datatype, and what constructors hold names its fields by symbols
pub record Readable (names : List (List ℕ)) (ds : List Dt) (D : List Cases) : Type 0 where
  pub there : (i : ℕ) (cs : Cases) → slice_get D i ≡ Some cs → (d : Dt) × (slice_get ds i ≡ Some d)
  pub held : (i : ℕ) (cs : Cases) → slice_get D i ≡ Some cs → (j : ℕ) (n : List ℕ) (s : Sh) → slice_get cs j ≡ Some (n, Some s) → InSymbols names s

mutual
  pub a_value : {names : List (List ℕ)} {ds : List Dt} {D : List Cases} {s : Sh} {w : Wr} → Readable names ds D → InSymbols names s → HasShape D s w → (v : V) × HasValue (reader names ds D) s w v
  a_value r g (int_has {z = z}) = (of_number z, int_is)
  a_value r g (text_has {t = t}) = (of_text t, text_is)
  a_value r g unit_has = (of_fields no_slots, unit_is)
  a_value r g true_has = (truth true, true_is refl)
  a_value r g false_has = (truth false, false_is refl)
  a_value r g (record_has h) =
      let (ss, are) = some_values r g h in
      (of_fields ss, record_is are)
  a_value r g (bare_has {d = i} {cs = cs} {n = n} e c) =
      let (d, at) = r.there i cs e in
      let (j, here) = place_in cs (n, None) c in
      (of_bare d.symbol j, bare_is at e here)
  a_value {names} r g (tagged_has {d = i} {ss = ss} {cs = cs} {n = n} {s = s} e c h) =
      let (d, at) = r.there i cs e in
      let (j, here) = place_in cs (n, Some s) c in
      let (v, is) = a_value r (put_for names ss g s (r.held i cs e j n s here)) h in
      (of_holding d.symbol j v, tagged_is at e here is)

  some_values : {names : List (List ℕ)} {ds : List Dt} {D : List Cases} {ps : Pts} {ws : Wrs} → Readable names ds D → PartsInSymbols names ps → HaveParts D ps ws → (ss : Slots) × HaveValues (reader names ds D) ps ws ss
  some_values r g no_parts_have = (no_slots, no_values_of)
  some_values r g (part_has h hs) =
      let (v, is) = a_value r g.1 h in
      let (ss, are) = some_values r g.2 hs in
      (slot g.0.0 v ss, value_of g.0.1 is are)

-- arguments, where what is behind them is given
pub given : {names : List (List ℕ)} {ds : List Dt} {D : List Cases} {ss : Shs} {ws : Wrs} {f : Option Sh} {g : Option Wr} → Readable names ds D → (vs : List V) × AreGiven (reader names ds D) no_shapes f no_wires g vs → AllInSymbols names ss → HaveShapes D ss ws
    → (vs : List V) × AreGiven (reader names ds D) ss f ws g vs
given r last g no_shapes_have = last
given r last g (shape_has h hs) =
    let (v, is) = a_value r g.0 h in
    let (vs, are) = given r last g.1 hs in
    (v ∷ vs, one_more is are)
