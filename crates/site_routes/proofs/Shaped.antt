-- The cases of datatypes.
use Rattle.std.proofs.Common.{◌≡◌, ℕ, suc, ◌+◌, ◌<◌, ◌≤◌, List, [], ◌∷◌, ◌++◌, length, map, get_or, take, drop, Option, Some, None, slice_get, refl, ap, sym, ◌∙◌, subst, arith}
use Rattle.std.proofs.lemmas.List.{map-append, take_more, take_all}
use Rattle.std.proofs.lemmas.Option.{same_Some}
use Rattle.con_terms.specs.Trees.{Cn}
use Rattle.table_rows.specs.Shapes.{Sh, Cases}
use Rattle.table_rows.specs.View as rows
use Rattle.table_rows.specs.declared.shape.Datatype.{Datatype as ShapedData}
use Rattle.core_terms.specs.Trees.{Cd, Dt, arity}
use Rattle.core_terms.specs.View.{datatype_view}
use Rattle.core_terms.specs.declared.decl.Datatype.{Datatype}
use Rattle.core_typing.specs.Entries.{Shaped, HeldShaped, holds_nothing, holds_one, CasesShaped, no_case, a_case, DatatypesShaped, no_datatype, carried, not_carried}
use Rattle.site_routes.specs.Shaping.{Told, told_map, held_by, case_by, then_cases, cases_by, or_no_case, nested, datatype_by}
use Rattle.site_routes.specs.Shaping as computed
use Rattle.site_routes.proofs.ShapedMeans.{map_some, map_none, shaped_yes, shaped_no}

held_yes : (names : List (List ℕ)) (ds : List Dt) (k : ℕ) (o : Option Cn) (h : Option Sh) → held_by (computed.shaped nested names ds k) o ≡ Some (Some h) → HeldShaped names ds k o h
held_yes names ds k None h e = subst (λ (z : Option Sh). HeldShaped names ds k None z) (same_Some None h (same_Some (Some None) (Some h) e)) holds_nothing
held_yes names ds k (Some t) h e =
    let (s, p, q) = map_some (λ (z : Sh). Some z) (computed.shaped nested names ds k t) h e in
    subst (λ (z : Option Sh). HeldShaped names ds k (Some t) z) q (holds_one (shaped_yes names ds k nested t s p))

held_no : (names : List (List ℕ)) (ds : List Dt) (k : ℕ) (o : Option Cn) → held_by (computed.shaped nested names ds k) o ≡ Some None → (h : Option Sh) → HeldShaped names ds k o h → ⊥
held_no names ds k None e h c = cc
held_no names ds k (Some t) e h (holds_one {s = s} c) = shaped_no names ds k nested t (map_none (λ (z : Sh). Some z) (computed.shaped nested names ds k t) e) s c

case_yes : (n : Option (List ℕ)) (o : Told (Option Sh)) (c : List ℕ × Option Sh) → case_by n o ≡ Some (Some c) → (n ≡ Some c.0) × (o ≡ Some (Some c.1))
case_yes None o c h = absurd (cc)
case_yes (Some m) o c h =
    let (s, e, q) = map_some (λ (z : Option Sh). (m, z)) o c h in
    (ap (λ (z : List ℕ × Option Sh). Some z.0) q, e ∙ ap (λ (z : List ℕ × Option Sh). Some (Some z.1)) q)

case_no : (P : Type 0) (n : Option (List ℕ)) (o : Told (Option Sh)) → case_by n o ≡ Some None → (n ≡ None → P) → (o ≡ Some None → P) → P
case_no P None o h f g = f refl
case_no P (Some m) o h f g = g (map_none (λ (z : Option Sh). (m, z)) o h)

cases_then : (o : Told (List ℕ × Option Sh)) (p : Told Cases) (cs : Cases) → then_cases o p ≡ Some (Some cs) →
    (c : List ℕ × Option Sh) × (rest : Cases) × (o ≡ Some (Some c)) × (p ≡ Some (Some rest)) × (c ∷ rest ≡ cs)
cases_then None p cs h = absurd (cc)
cases_then (Some None) p cs h = absurd (cc)
cases_then (Some (Some c)) p cs h = let (rest, e, q) = map_some (λ (more : Cases). c ∷ more) p cs h in (c, rest, refl, e, q)

cases_either : (P : Type 0) (o : Told (List ℕ × Option Sh)) (p : Told Cases) → then_cases o p ≡ Some None → (o ≡ Some None → P) → (p ≡ Some None → P) → P
cases_either P None p h f g = absurd (cc)
cases_either P (Some None) p h f g = f refl
cases_either P (Some (Some c)) p h f g = g (map_none (λ (more : Cases). c ∷ more) p h)

cases_yes : (names : List (List ℕ)) (ds : List Dt) (k : ℕ) (cds : List Cd) (cs : Cases) → cases_by (computed.shaped nested names ds k) names cds ≡ Some (Some cs) → CasesShaped names ds k cds cs
cases_yes names ds k [] cs h = subst (λ (z : Cases). CasesShaped names ds k [] z) (same_Some [] cs (same_Some (Some []) (Some cs) h)) no_case
cases_yes names ds k (c ∷ cds) cs h =
    let (a, rest, e, p, q) = cases_then (case_by (slice_get names c.name) (held_by (computed.shaped nested names ds k) c.holds)) (cases_by (computed.shaped nested names ds k) names cds) cs h in
    let (named, held) = case_yes (slice_get names c.name) (held_by (computed.shaped nested names ds k) c.holds) a e in
    subst (λ (z : Cases). CasesShaped names ds k (c ∷ cds) z) q (a_case named (held_yes names ds k c.holds a.1 held) (cases_yes names ds k cds rest p))

cases_no : (names : List (List ℕ)) (ds : List Dt) (k : ℕ) (cds : List Cd) → cases_by (computed.shaped nested names ds k) names cds ≡ Some None → (cs : Cases) → CasesShaped names ds k cds cs → ⊥
cases_no names ds k [] h cs c = cc
cases_no names ds k (d ∷ cds) h cs (a_case {held = held} {rest = rest} named c more) =
    cases_either ⊥ (case_by (slice_get names d.name) (held_by (computed.shaped nested names ds k) d.holds)) (cases_by (computed.shaped nested names ds k) names cds) h
    (λ p. case_no ⊥ (slice_get names d.name) (held_by (computed.shaped nested names ds k) d.holds) p (λ gone. cc) (λ q. held_no names ds k d.holds q held c))
    (λ q. cases_no names ds k cds q rest more)

datatype_one : (names : List (List ℕ)) (ds : List Dt) (d : Dt) (o : Told Cases) → cases_by (computed.shaped nested names ds (arity d)) names d.constructors ≡ o → (cs : Cases) → or_no_case o ≡ Some cs →
    (more : List Dt) (rest : List Cases) → DatatypesShaped names ds more rest → DatatypesShaped names ds (d ∷ more) (cs ∷ rest)
datatype_one names ds d None e cs h more rest c = absurd (cc)
datatype_one names ds d (Some None) e cs h more rest c =
    subst (λ (z : Cases). DatatypesShaped names ds (d ∷ more) (z ∷ rest)) (same_Some [] cs h) (not_carried (cases_no names ds (arity d) d.constructors e) c)
datatype_one names ds d (Some (Some xs)) e cs h more rest c =
    subst (λ (z : Cases). DatatypesShaped names ds (d ∷ more) (z ∷ rest)) (same_Some xs cs h) (carried (cases_yes names ds (arity d) d.constructors xs e) c)

push : (names : List (List ℕ)) (all ds : List Dt) (css : List Cases) (d : Dt) (cs : Cases) → datatype_by names all d ≡ Some cs → DatatypesShaped names all ds css → DatatypesShaped names all (ds ++ d ∷ []) (css ++ cs ∷ [])
push names all ds css d cs h no_datatype =
    datatype_one names all d (cases_by (computed.shaped nested names all (arity d)) names d.constructors) refl cs h [] [] no_datatype
push names all ds css d cs h (carried c more) = carried c (push names all _ _ d cs h more)
push names all ds css d cs h (not_carried c more) = not_carried c (push names all _ _ d cs h more)

pub datatypes_more : (names : List (List ℕ)) (xs : List Datatype) (i : ℕ) (x : Datatype) (old new : List ShapedData) (s : ShapedData) → x ≡ get_or xs i x → i < length xs →
    datatype_by names (map datatype_view xs) (datatype_view x) ≡ Some (rows.datatype_view s) → new ≡ old ++ s ∷ [] →
    DatatypesShaped names (map datatype_view xs) (map datatype_view (take i xs)) (map rows.datatype_view old) →
    DatatypesShaped names (map datatype_view xs) (map datatype_view (take (i + 1) xs)) (map rows.datatype_view new)
datatypes_more names xs i x old new s e h p n c =
    let taken : take (i + 1) xs ≡ take i xs ++ x ∷ [] = take_more xs i x h ∙ ap (λ z. take i xs ++ z ∷ []) (sym e) in
    let a : map datatype_view (take i xs) ++ datatype_view x ∷ [] ≡ map datatype_view (take (i + 1) xs) = sym (ap (map datatype_view) taken ∙ map-append datatype_view (take i xs) (x ∷ [])) in
    let b : map rows.datatype_view old ++ rows.datatype_view s ∷ [] ≡ map rows.datatype_view new = sym (ap (map rows.datatype_view) n ∙ map-append rows.datatype_view old (s ∷ [])) in
    subst (λ (z : List Dt). DatatypesShaped names (map datatype_view xs) z (map rows.datatype_view new)) a
    (subst (λ (z : List Cases). DatatypesShaped names (map datatype_view xs) (map datatype_view (take i xs) ++ datatype_view x ∷ []) z) b
    (push names (map datatype_view xs) (map datatype_view (take i xs)) (map rows.datatype_view old) (datatype_view x) (rows.datatype_view s) p c))

pub datatypes_all : (names : List (List ℕ)) (xs : List Datatype) (i : ℕ) (new : List Cases) → length xs ≤ i →
    DatatypesShaped names (map datatype_view xs) (map datatype_view (take i xs)) new → DatatypesShaped names (map datatype_view xs) (map datatype_view xs) new
datatypes_all names xs i new h c = subst (λ (z : List Datatype). DatatypesShaped names (map datatype_view xs) (map datatype_view z) new) (take_all i xs h) c

pub datatypes_none : (names : List (List ℕ)) (all : List Dt) (v : List ShapedData) → v ≡ [] → DatatypesShaped names all [] (map rows.datatype_view v)
datatypes_none names all v e = subst (λ (z : List ShapedData). DatatypesShaped names all [] (map rows.datatype_view z)) (sym e) no_datatype
