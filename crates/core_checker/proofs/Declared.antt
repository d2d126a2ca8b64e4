-- Declarations of which all are found, and of which nothing is told, are found by the rules.
use Rattle.std.proofs.Common.{◌≡◌, ℕ, Bool, true, false, ◌==◌, if◌then◌else◌, List, [], ◌∷◌, ◌++◌, map, Option, Some, None, refl, ap, sym, ◌∙◌, subst, length}
use Rattle.std.proofs.lemmas.List.{append_assoc}
use Rattle.std.specs.List.{AllByRecursion}
use Rattle.std.proofs.lemmas.List.Elements.{All-contains, All-from_recursion as all_from}
use Rattle.std.proofs.lemmas.Bool.{eq-eqb, eqb-true}
use Rattle.con_terms.specs.Trees.{Kd, types, Cn}
use Rattle.con_terms.specs.declared.place.Place.{Place}
use Rattle.kind_rules.specs.Kinding.{judged_at}
use Rattle.core_terms.specs.Datatypes.{basis_datatypes}
use Rattle.core_terms.specs.Trees.{Nms, no_named, named, De, val, vals, con_is, datatype, thing, Cd, Dt, Pg}
use Rattle.core_typing.specs.Scopes.{Sc}
use Rattle.core_typing.specs.Cover.{Covers}
use Rattle.core_typing.specs.Found.{NamedFound, no_name_found, name_found}
use Rattle.core_typing.specs.FoundProgram.{DeclsFound, no_decls_found, a_val_found, vals_found, con_found, datatype_found}
use Rattle.core_typing.specs.Judged.{HasKind, has}
use Rattle.core_typing.specs.Own.{place_of, type_place}
use Rattle.core_typing.specs.Declarations.{scope_with, value_types, named_values, under_types, Distinct}
use Rattle.node_rules.specs.Locals.{Ls, none_yet, and_then_found}
use Rattle.markup_rules.proofs.Basics.{false_true as false_not}
use Rattle.judged_terms.specs.Laws.{Clean, DeclaredIsFound, NamesAreFound}
use Rattle.judged_terms.proofs.Basics.{some_none, none_some, some_is, kinded}
use Rattle.judged_terms.proofs.Lets.{clean_parts}
use Rattle.core_checker.specs.Declarations.{Gl, scope_of, with_data, told_alone, held_told, is_named, second_told, of_constructor, constructors_found, types_of, DeclsJudge, ProgramJudges}

-- the state where these values and datatypes were declared
abbrev pub state_with : Pg → List Cn → List Dt → Gl
state_with p tops ds = record { tops = tops; datatypes = basis_datatypes ++ ds; folders = p.folders; effects = length p.foreigns }

pub types_are : (path : List ℕ) (ns : Nms) → types_of ns ≡ value_types (named_values path ns)
types_are path no_named = refl
types_are path (named p x w t e ns) = ap (λ z. t ∷ z) (types_are path ns)

-- no rule of kinds looks at values
kind_alone : {G K : Sc} (c : Cn) (k : Kd) → G.kinds ≡ K.kinds → HasKind G c k → HasKind K c k
kind_alone c k e (has h) = has (ap (λ z. judged_at z c k) (sym e) ∙ h)

kinds_alone : {G H K : Sc} {ns : Nms} → G.kinds ≡ K.kinds → NamedFound Covers G H ns → NamedFound Covers K H ns
kinds_alone e no_name_found = no_name_found
kinds_alone e (name_found {t = t} k f a r) = name_found (kind_alone t types e k) f a (kinds_alone e r)

-- constructors, and those that stand before them
by_test : (c x : ℕ) (b z : Bool) → (c == x) ≡ z → (if z then true else b) ≡ false → (c ≡ x → ⊥) × (b ≡ false)
by_test c x b true e k = absurd (false_not (sym k))
by_test c x b false e k = (λ s. false_not (sym e ∙ eq-eqb c x s), k)

not_last : (x : ℕ) (c : Cd) (before : List Cd) → is_named x (before ++ c ∷ []) ≡ false → (is_named x before ≡ false) × (c.name ≡ x → ⊥)
not_last x c [] h = (refl, (by_test c.name x false (c.name == x) refl h).0)
not_last x c (d ∷ before) h =
    let (n, k) = by_test d.name x (is_named x (before ++ c ∷ [])) (d.name == x) refl h in
    let (m, l) = not_last x c before k in
    (front n m, l)
  where
    front : (d.name ≡ x → ⊥) → is_named x before ≡ false → is_named x (d ∷ before) ≡ false
    front n m = by_front (d.name == x) refl m
      where
        by_front : (z : Bool) → (d.name == x) ≡ z → is_named x before ≡ false → (if z then true else is_named x before) ≡ false
        by_front true e k = absurd (n (eqb-true d.name x e))
        by_front false e k = k

-- no two have one name
abbrev Differ : List Cd → Type 0
Differ [] = Unit {0}
Differ (c ∷ cs) = AllByRecursion (λ d. c.name ≡ d.name → ⊥) cs × Differ cs

abbrev IsHeld : Sc → Cd → Type 0
IsHeld G c = (held : Cn) → c.holds ≡ Some held → HasKind G held types

abbrev IsNew : List Cd → Cd → Type 0
IsNew before c = is_named c.name before ≡ false

parted : (c : Cd) (before cs : List Cd) → AllByRecursion (IsNew (before ++ c ∷ [])) cs
    → AllByRecursion (IsNew before) cs × AllByRecursion (λ d. c.name ≡ d.name → ⊥) cs
parted c before [] h = (tt, tt)
parted c before (d ∷ cs) h =
    let (m, n) = not_last d.name c before h.0 in
    let (k, l) = parted c before cs h.1 in
    ((m, k), (n, l))

held_is : (G : Sc) (p : Place) (o : Option Cn) → held_told G p o ≡ None → (held : Cn) → o ≡ Some held → HasKind G held types
held_is G p None h held e = absurd (none_some e)
held_is G p (Some u) h held e = subst (λ z. HasKind G z types) (some_is e) (kinded G p u types h)

new_is : (p : Place) (x : ℕ) (b : Bool) → second_told p x b ≡ None → b ≡ false
new_is p x false h = refl
new_is p x true h = absurd (some_none h)

constructors_clean : (G : Sc) (before : List Cd) (r : Ls) (cs : List Cd) → Clean (constructors_found G before r cs)
    → Clean r × AllByRecursion (IsHeld G) cs × AllByRecursion (IsNew before) cs × Differ cs
constructors_clean G before r [] h = (h, tt, tt, tt)
constructors_clean G before r (c ∷ cs) h =
    let (a, held, new, differ) = constructors_clean G (before ++ c ∷ []) (and_then_found r (of_constructor G before c)) cs h in
    let (b, own) = clean_parts r (of_constructor G before c) a in
    let (k, l) = clean_parts (told_alone (held_told G c.place c.holds)) (told_alone (second_told c.place c.name (is_named c.name before))) own in
    let (m, n) = parted c before cs new in
    (b, (held_is G c.place c.holds k.own, held), (new_is c.place c.name (is_named c.name before) l.own, m), (n, differ))

all_names : (x : ℕ) (cs : List Cd) → AllByRecursion (λ d. x ≡ d.name → ⊥) cs → AllByRecursion (λ y. x ≡ y → ⊥) (map (λ (c : Cd). c.name) cs)
all_names x [] h = tt
all_names x (c ∷ cs) h = (h.0, all_names x cs h.1)

distinct : (cs : List Cd) → Differ cs → Distinct (map (λ (c : Cd). c.name) cs)
distinct [] h = tt
distinct (c ∷ cs) h = (all_from (λ y. c.name ≡ y → ⊥) (map (λ (d : Cd). d.name) cs) (all_names c.name cs h.0), distinct cs h.1)

-- a datatype in the scope of its own constructors
pub data_scope : (p : Pg) (tops : List Cn) (before : List Dt) (d : Dt) → with_data d (state_with p tops before) ≡ state_with p tops (before ++ d ∷ [])
data_scope p tops before d =
    ap (λ ds. record { tops = tops; datatypes = ds; folders = p.folders; effects = length p.foreigns }) (append_assoc basis_datatypes before (d ∷ []))

pub decls_found : DeclaredIsFound → NamesAreFound → (p : Pg) (tops : List Cn) (before : List Dt) (ds : List De) (past r : Ls)
    → DeclsJudge (state_with p tops before) past ds r → Clean r → Clean past × DeclsFound p tops before ds
decls_found D N p tops before [] past r y c = (subst Clean y c, no_decls_found)
decls_found D N p tops before (val path q x w t e ∷ ds) past r (s, next, ((j, (z, a, b)), rest)) c =
    let (k, f) = decls_found D N p (tops ++ t ∷ []) before ds (and_then_found past next) r (subst (λ i. DeclsJudge i (and_then_found past next) ds r) b rest) c in
    let (m, n) = clean_parts past next k in
    let (l, d) = D (scope_with p tops before) (scope_with p tops before) (type_place w q e) (place_of e) t e j none_yet z (subst Clean a n) in
    (m, a_val_found d.kind d.found d.same f)
decls_found D N p tops before (vals path ns ∷ ds) past r (s, next, ((js, (z, a, b)), rest)) c =
    let (k, f) = decls_found D N p (tops ++ value_types (named_values path ns)) before ds (and_then_found past next) r
    (subst (λ l. DeclsJudge (state_with p (tops ++ l) before) (and_then_found past next) ds r) (types_are path ns)
    (subst (λ i. DeclsJudge i (and_then_found past next) ds r) b rest)) c in
    let (m, n) = clean_parts past next k in
    let (l, d) = N (scope_with p (tops ++ types_of ns) before) (scope_with p (tops ++ types_of ns) before) ns js none_yet z (subst Clean a n) in
    (m, vals_found (kinds_alone refl (subst (λ i. NamedFound Covers (scope_with p (tops ++ types_of ns) before) (scope_with p (tops ++ i) before) ns) (types_are path ns) d)) f)
decls_found D N p tops before (con_is path q x w k e ∷ ds) past r (s, next, ((a, b), rest)) c =
    let (l, f) = decls_found D N p tops before ds (and_then_found past next) r (subst (λ i. DeclsJudge i (and_then_found past next) ds r) b rest) c in
    let (m, n) = clean_parts past next l in
    (m, con_found (kinded (scope_with p tops before) q e k (subst Clean a n).own) f)
decls_found D N p tops before (datatype d ∷ ds) past r (s, next, ((a, b), rest)) c =
    let (k, f) = decls_found D N p tops (before ++ d ∷ []) ds (and_then_found past next) r
    (subst (λ i. DeclsJudge i (and_then_found past next) ds r) (b ∙ data_scope p tops before d) rest) c in
    let (m, n) = clean_parts past next k in
    let (l, held, new, differ) = constructors_clean (under_types d.parameters (scope_with p tops (before ++ d ∷ []))) [] none_yet d.constructors
    (subst Clean (a ∙ ap (λ i. constructors_found (under_types d.parameters (scope_of i)) [] none_yet d.constructors) (data_scope p tops before d)) n) in (
      m,
      datatype_found (λ e u x i. All-contains (IsHeld (under_types d.parameters (scope_with p tops (before ++ d ∷ [])))) d.constructors e
          (all_from (IsHeld (under_types d.parameters (scope_with p tops (before ++ d ∷ [])))) d.constructors held) x u i) (distinct d.constructors differ) f,
    )
decls_found D N p tops before (thing path q x k t ∷ ds) past r (s, next, ((a, b), rest)) c =
    let (l, f) = decls_found D N p (tops ++ t ∷ []) before ds (and_then_found past next) r (subst (λ i. DeclsJudge i (and_then_found past next) ds r) b rest) c in
    let (m, n) = clean_parts past next l in
    absurd (some_none (subst Clean a n).own)

pub decls_are_found : DeclaredIsFound → NamesAreFound → (p : Pg) (r : Ls) → ProgramJudges p r → Clean r → DeclsFound p [] [] p.decls
decls_are_found D N p r y c = (decls_found D N p [] [] p.decls none_yet r y c).1
