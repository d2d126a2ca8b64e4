-- What is told of declarations, one after another: what is told of their terms, and what of themselves.
use Rattle.std.proofs.Common.{◌≡◌, ℕ, Bool, List, [], ◌∷◌, ◌++◌, Option, Some, None, Result, Ok, Err, refl, ap, sym, ◌∙◌, subst}
use Rattle.con_terms.specs.Trees.{Kd, types, Cn}
use Rattle.con_terms.specs.declared.place.Place.{Place}
use Rattle.kind_rules.specs.Compared.{comparison_units, normal_forms}
use Rattle.kind_rules.specs.Flaws.{Flw}
use Rattle.kind_rules.specs.Kinding.{judged_at}
use Rattle.core_terms.specs.Trees.{Ex, Nms, no_named, named, Th, De, val, vals, con_is, datatype, thing, Dt, Pg}
use Rattle.core_typing.specs.Scopes.{Sc}
use Rattle.core_typing.specs.Declarations.{scope_with, value_types, named_values, under_types}
use Rattle.core_typing.specs.Faults.{Fault, not_built}
use Rattle.core_typing.specs.Judged.{LacksKind}
use Rattle.core_typing.specs.Own.{place_of, type_place}
use Rattle.core_typing.specs.Tells.{DeclAt, here, past_val, past_vals, past_con, past_datatype, past_thing, DeclOwn, con_kind, no_thing_rule, DeclSub}
use Rattle.told_faults.specs.Computed.{Jd, flawed, differing, wants, on_type}
use Rattle.told_faults.specs.Told.{Picks, Nodes, Least, Or, or_first, or_second, Either, in_first, in_second, Nowhere, Never, Just, just}
use Rattle.told_faults.proofs.Parts.{picks_flaw, kind_is}
use Rattle.told_faults.proofs.Verdict.{picks_as, picks_just, picks_never, picks_two, least_as, least_nowhere, least_two}
use Rattle.node_rules.specs.Locals.{Ls, none_yet, is_silent, is_as_wanted, of_declared, and_then_found, with_declared}
use Rattle.judged_terms.specs.Judge.{Judges, JudgesAll}
use Rattle.judged_terms.specs.Listed.{name_terms, named_found}
use Rattle.told_terms.specs.Laws.{JudgedIsTold}
use Rattle.told_terms.proofs.Beside.{least_rest, least_start, picks_rest, picks_start}
use Rattle.told_terms.proofs.Values.{val_declares, vals_declare}
use Rattle.told_terms.proofs.Wanted.{NamesTold}
use Rattle.core_checker.specs.Declarations.{Gl, scope_of, with_data, told_alone, of_data, constructors_found, types_of, After, DeclsJudge, ProgramJudges}
use Rattle.core_checker.proofs.Declared.{state_with, types_are, data_scope}
use Rattle.core_checker.proofs.ToldConstructors.{datatype_picks, datatype_least}

-- what a state says of the terms in some nodes, and of some faults
pub record Says (N : Nodes) (P : Fault → Type 0) (r : Ls) : Type 0 where
  pub kids : Least N r.kids
  pub own : Picks P r.own

-- of two states
says_two : (N M : Nodes) (P Q : Fault → Type 0) (r s : Ls) → Says N P r → Says M Q s → Says (Either N M) (Or P Q) (and_then_found r s)
says_two N M P Q r s x y = record {
  kids = least_two N M r.kids s.kids x.kids y.kids;
  own = picks_two P Q r.own s.own x.own y.own;
}

-- of what is behind, of one more, and of the rest
says_rest : (N M L R : Nodes) (P Q S T : Fault → Type 0) (r : Ls) → ((H : Sc) (c : Ex) → Either M L H c → R H c) → ((H : Sc) (c : Ex) → R H c → Either M L H c) → ((f : Fault) → Or Q S f → T f) → ((f : Fault) → T f → Or Q S f) → Says (Either (Either N M) L) (Or (Or P Q) S) r → Says (Either N R) (Or P T) r
says_rest N M L R P Q S T r a b c d s = record {
  kids = least_rest N M L R r.kids a b s.kids;
  own = picks_rest P Q S T r.own c d s.own;
}

-- a value
value_says : JudgedIsTold → (p : Pg) (tops : List Cn) (ds : List Dt) (path : List ℕ) (q : Place) (x : ℕ) (w : Bool) (t : Cn) (e : Ex) (j : Jd) (r : Ls) →
    Judges (scope_with p tops ds) e j → r ≡ with_declared (scope_with p tops ds) (type_place w q e) (place_of e) t j none_yet →
    Says (DeclSub p tops ds (val path q x w t e)) (DeclOwn p tops ds (val path q x w t e)) r
value_says law p tops ds path q x w t e j r h a =
    let s = val_declares p tops ds path q x w t e j (law (scope_with p tops ds) e j h) in
    subst (Says (DeclSub p tops ds (val path q x w t e)) (DeclOwn p tops ds (val path q x w t e))) (sym a) (record { kids = s.kids; own = s.own })

-- names that are declared together
names_told : JudgedIsTold → (H : Sc) (ns : Nms) (js : List Jd) → JudgesAll H (name_terms ns) js → NamesTold H ns js
names_told law H no_named [] h = tt
names_told law H no_named (j ∷ js) h = absurd (cc)
names_told law H (named p x w t e ns) [] h = absurd h
names_told law H (named p x w t e ns) (j ∷ js) h = (law H e j h.0, names_told law H ns js h.1)

-- neither a rule of kinds looks at values nor what is told of types
differing_alike : (p : Pg) (tops us : List Cn) (ds : List Dt) (q : Place) (r : Result (Cn × Cn) Flw) → differing (scope_with p tops ds) q r ≡ differing (scope_with p us ds) q r
differing_alike p tops us ds q (Err w) = refl
differing_alike p tops us ds q (Ok mn) = refl

abbrev compared : Pg → List Cn → List Dt → Place → Cn → Option Fault → Option Cn → Ls
compared p tops ds q t k o = record { found = is_as_wanted (scope_with p tops ds) q t o; kids = k; own = on_type o (wants (scope_with p tops ds) q t) }

compared_alike : (p : Pg) (tops us : List Cn) (ds : List Dt) (q : Place) (t : Cn) (k : Option Fault) (o : Option Cn) → compared p tops ds q t k o ≡ compared p us ds q t k o
compared_alike p tops us ds q t k None = refl
compared_alike p tops us ds q t k (Some u) =
    ap (λ (z : Option Fault). record { found = is_silent z; kids = k; own = z }) (differing_alike p tops us ds q (normal_forms comparison_units t u))

declared_alike : (p : Pg) (tops us : List Cn) (ds : List Dt) (a q : Place) (t : Cn) (r : Result Kd Flw) (j : Jd) → of_declared (scope_with p tops ds) a q t r j ≡ of_declared (scope_with p us ds) a q t r j
declared_alike p tops us ds a q t (Err w) j = refl
declared_alike p tops us ds a q t (Ok k) j = compared_alike p tops us ds q t j.told j.type

names_alike : (p : Pg) (tops us : List Cn) (ds : List Dt) (ns : Nms) (js : List Jd) (r : Ls) → named_found (scope_with p tops ds) ns js r ≡ named_found (scope_with p us ds) ns js r
names_alike p tops us ds ns [] r = refl
names_alike p tops us ds no_named (j ∷ js) r = refl
names_alike p tops us ds (named q x w t e ns) (j ∷ js) r =
    names_alike p tops us ds ns js (with_declared (scope_with p tops ds) (type_place w q e) (place_of e) t j r)
    ∙ ap (λ (z : Ls). named_found (scope_with p us ds) ns js (and_then_found r z))
    (declared_alike p tops us ds (type_place w q e) (place_of e) t (judged_at (scope_with p tops ds).kinds t types) j)

values_say : JudgedIsTold → (p : Pg) (tops us : List Cn) (ds : List Dt) (path : List ℕ) (ns : Nms) (js : List Jd) (r : Ls) → us ≡ tops ++ value_types (named_values path ns) →
    JudgesAll (scope_with p us ds) (name_terms ns) js → r ≡ named_found (scope_with p us ds) ns js none_yet →
    Says (DeclSub p tops ds (vals path ns)) (DeclOwn p tops ds (vals path ns)) r
values_say law p tops us ds path ns js r e h a =
    let s = vals_declare p tops ds path ns js (subst (λ (z : List Cn). NamesTold (scope_with p z ds) ns js) e (names_told law (scope_with p us ds) ns js h)) in
    subst (Says (DeclSub p tops ds (vals path ns)) (DeclOwn p tops ds (vals path ns))) (names_alike p tops us ds ns js none_yet ∙ sym a) (record { kids = s.kids; own = s.own })

-- a constructor
con_picks : (p : Pg) (tops : List Cn) (ds : List Dt) (path : List ℕ) (q : Place) (x : ℕ) (w : Bool) (k : Kd) (c : Cn) → Picks (DeclOwn p tops ds (con_is path q x w k c)) (flawed (scope_with p tops ds) q (judged_at (scope_with p tops ds).kinds c k))
con_picks p tops ds path q x w k c =
    let G = scope_with p tops ds in
    picks_as (LacksKind G q c k) (DeclOwn p tops ds (con_is path q x w k c)) (flawed G q (judged_at G.kinds c k)) (λ f y. con_kind y) back (picks_flaw G q c k (judged_at G.kinds c k) (kind_is G c k))
  where
    back : (f : Fault) → DeclOwn p tops ds (con_is path q x w k c) f → LacksKind (scope_with p tops ds) q c k f
    back f (con_kind y) = y

con_says : (p : Pg) (tops : List Cn) (ds : List Dt) (path : List ℕ) (q : Place) (x : ℕ) (w : Bool) (k : Kd) (c : Cn) (r : Ls) → r ≡ told_alone (flawed (scope_with p tops ds) q (judged_at (scope_with p tops ds).kinds c k)) →
    Says (DeclSub p tops ds (con_is path q x w k c)) (DeclOwn p tops ds (con_is path q x w k c)) r
con_says p tops ds path q x w k c r a =
    subst (Says (DeclSub p tops ds (con_is path q x w k c)) (DeclOwn p tops ds (con_is path q x w k c))) (sym a) (record { kids = none; own = con_picks p tops ds path q x w k c })
  where
    none : Least (DeclSub p tops ds (con_is path q x w k c)) None
    none = λ H d g s y. elim s [ ]

-- a datatype
datatype_says : (p : Pg) (tops : List Cn) (ds : List Dt) (d : Dt) (r : Ls) → r ≡ of_data d (with_data d (state_with p tops ds)) → Says (DeclSub p tops ds (datatype d)) (DeclOwn p tops ds (datatype d)) r
datatype_says p tops ds d r a =
    subst (Says (DeclSub p tops ds (datatype d)) (DeclOwn p tops ds (datatype d)))
    (sym (a ∙ ap (λ (i : Gl). constructors_found (under_types d.parameters (scope_of i)) [] none_yet d.constructors) (data_scope p tops ds d)))
    (record { kids = datatype_least p tops ds d; own = datatype_picks p tops ds d })

-- a thing without a term
thing_says : (p : Pg) (tops : List Cn) (ds : List Dt) (path : List ℕ) (q : Place) (x : ℕ) (k : Th) (t : Cn) (r : Ls) → r ≡ told_alone (Some (not_built q)) →
    Says (DeclSub p tops ds (thing path q x k t)) (DeclOwn p tops ds (thing path q x k t)) r
thing_says p tops ds path q x k t r a =
    subst (Says (DeclSub p tops ds (thing path q x k t)) (DeclOwn p tops ds (thing path q x k t))) (sym a)
    (record { kids = none; own = picks_as (Just (not_built q)) (DeclOwn p tops ds (thing path q x k t)) (Some (not_built q)) there back (picks_just (not_built q)) })
  where
    none : Least (DeclSub p tops ds (thing path q x k t)) None
    none = λ H d g s y. elim s [ ]

    there : (f : Fault) → Just (not_built q) f → DeclOwn p tops ds (thing path q x k t) f
    there f just = no_thing_rule

    back : (f : Fault) → DeclOwn p tops ds (thing path q x k t) f → Just (not_built q) f
    back f no_thing_rule = just

-- a declaration
decl_says : JudgedIsTold → (p : Pg) (tops : List Cn) (ds : List Dt) (d : De) (r : Ls) (s : Gl) → After d (state_with p tops ds) r s → Says (DeclSub p tops ds d) (DeclOwn p tops ds d) r
decl_says law p tops ds (val path q x w t e) r s (j, (h, a, b)) = value_says law p tops ds path q x w t e j r h a
decl_says law p tops ds (vals path ns) r s (js, (h, a, b)) = values_say law p tops (tops ++ types_of ns) ds path ns js r (ap (λ z. tops ++ z) (types_are path ns)) h a
decl_says law p tops ds (con_is path q x w k c) r s (a, b) = con_says p tops ds path q x w k c r a
decl_says law p tops ds (datatype d) r s (a, b) = datatype_says p tops ds d r a
decl_says law p tops ds (thing path q x k t) r s (a, b) = thing_says p tops ds path q x k t r a

-- what is declared behind it
abbrev tops_behind : List Cn → De → List Cn
tops_behind tops (val path q x w t e) = tops ++ t ∷ []
tops_behind tops (vals path ns) = tops ++ value_types (named_values path ns)
tops_behind tops (con_is path q x w k c) = tops
tops_behind tops (datatype d) = tops
tops_behind tops (thing path q x k t) = tops ++ t ∷ []

abbrev data_behind : List Dt → De → List Dt
data_behind ds (val path q x w t e) = ds
data_behind ds (vals path ns) = ds
data_behind ds (con_is path q x w k c) = ds
data_behind ds (datatype d) = ds ++ d ∷ []
data_behind ds (thing path q x k t) = ds

state_behind : (p : Pg) (tops : List Cn) (ds : List Dt) (d : De) (r : Ls) (s : Gl) → After d (state_with p tops ds) r s → s ≡ state_with p (tops_behind tops d) (data_behind ds d)
state_behind p tops ds (val path q x w t e) r s (j, (h, a, b)) = b
state_behind p tops ds (vals path ns) r s (js, (h, a, b)) = b ∙ ap (λ z. state_with p (tops ++ z) ds) (types_are path ns)
state_behind p tops ds (con_is path q x w k c) r s (a, b) = b
state_behind p tops ds (datatype d) r s (a, b) = b ∙ data_scope p tops ds d
state_behind p tops ds (thing path q x k t) r s (a, b) = b

at_behind : (tops us : List Cn) (ds es : List Dt) (d e : De) (rest : List De) → DeclAt (tops_behind tops d) (data_behind ds d) rest us es e → DeclAt tops ds (d ∷ rest) us es e
at_behind tops us ds es (val path q x w t e) d rest a = past_val a
at_behind tops us ds es (vals path ns) d rest a = past_vals a
at_behind tops us ds es (con_is path q x w k c) d rest a = past_con a
at_behind tops us ds es (datatype b) d rest a = past_datatype a
at_behind tops us ds es (thing path q x k t) d rest a = past_thing a

-- the terms of declarations, and what these have at fault themselves
pub data DeclsSub (p : Pg) (tops : List Cn) (ds : List Dt) (decls : List De) : Sc → Ex → Type 0 where
  decls_sub : {us : List Cn} {es : List Dt} {d : De} {G : Sc} {e : Ex}
      → DeclAt tops ds decls us es d
      → DeclSub p us es d G e
      → DeclsSub p tops ds decls G e

pub data DeclsOwn (p : Pg) (tops : List Cn) (ds : List Dt) (decls : List De) : Fault → Type 0 where
  decls_own : {us : List Cn} {es : List Dt} {d : De} {f : Fault}
      → DeclAt tops ds decls us es d
      → DeclOwn p us es d f
      → DeclsOwn p tops ds decls f

join_sub : (p : Pg) (tops : List Cn) (ds : List Dt) (d : De) (rest : List De) (H : Sc) (c : Ex) → Either (DeclSub p tops ds d) (DeclsSub p (tops_behind tops d) (data_behind ds d) rest) H c → DeclsSub p tops ds (d ∷ rest) H c
join_sub p tops ds d rest H c (in_first s) = decls_sub here s
join_sub p tops ds d rest H c (in_second (decls_sub {us = us} {es = es} {d = e} a s)) = decls_sub (at_behind tops us ds es d e rest a) s

split_sub : (p : Pg) (tops : List Cn) (ds : List Dt) (d : De) (rest : List De) (H : Sc) (c : Ex) → DeclsSub p tops ds (d ∷ rest) H c → Either (DeclSub p tops ds d) (DeclsSub p (tops_behind tops d) (data_behind ds d) rest) H c
split_sub p tops ds d rest H c (decls_sub here s) = in_first s
split_sub p tops ds d rest H c (decls_sub (past_val a) s) = in_second (decls_sub a s)
split_sub p tops ds d rest H c (decls_sub (past_vals a) s) = in_second (decls_sub a s)
split_sub p tops ds d rest H c (decls_sub (past_con a) s) = in_second (decls_sub a s)
split_sub p tops ds d rest H c (decls_sub (past_datatype a) s) = in_second (decls_sub a s)
split_sub p tops ds d rest H c (decls_sub (past_thing a) s) = in_second (decls_sub a s)

join_own : (p : Pg) (tops : List Cn) (ds : List Dt) (d : De) (rest : List De) (f : Fault) → Or (DeclOwn p tops ds d) (DeclsOwn p (tops_behind tops d) (data_behind ds d) rest) f → DeclsOwn p tops ds (d ∷ rest) f
join_own p tops ds d rest f (or_first x) = decls_own here x
join_own p tops ds d rest f (or_second (decls_own {us = us} {es = es} {d = e} a x)) = decls_own (at_behind tops us ds es d e rest a) x

split_own : (p : Pg) (tops : List Cn) (ds : List Dt) (d : De) (rest : List De) (f : Fault) → DeclsOwn p tops ds (d ∷ rest) f → Or (DeclOwn p tops ds d) (DeclsOwn p (tops_behind tops d) (data_behind ds d) rest) f
split_own p tops ds d rest f (decls_own here x) = or_first x
split_own p tops ds d rest f (decls_own (past_val a) x) = or_second (decls_own a x)
split_own p tops ds d rest f (decls_own (past_vals a) x) = or_second (decls_own a x)
split_own p tops ds d rest f (decls_own (past_con a) x) = or_second (decls_own a x)
split_own p tops ds d rest f (decls_own (past_datatype a) x) = or_second (decls_own a x)
split_own p tops ds d rest f (decls_own (past_thing a) x) = or_second (decls_own a x)

-- no declaration
no_sub : (p : Pg) (tops : List Cn) (ds : List Dt) (H : Sc) (c : Ex) → DeclsSub p tops ds [] H c → ⊥
no_sub p tops ds H c (decls_sub a s) = elim a [ ]

no_own : (p : Pg) (tops : List Cn) (ds : List Dt) (f : Fault) → DeclsOwn p tops ds [] f → ⊥
no_own p tops ds f (decls_own a x) = elim a [ ]

no_decl_says : (p : Pg) (tops : List Cn) (ds : List Dt) (N : Nodes) (P : Fault → Type 0) (r : Ls) → Says N P r → Says (Either N (DeclsSub p tops ds [])) (Or P (DeclsOwn p tops ds [])) r
no_decl_says p tops ds N P r s = record {
  kids = least_as N (Either N (DeclsSub p tops ds [])) r.kids (λ H c x. in_first x) node_back s.kids;
  own = picks_as P (Or P (DeclsOwn p tops ds [])) r.own (λ f x. or_first x) fault_back s.own;
}
  where
    node_back : (H : Sc) (c : Ex) → Either N (DeclsSub p tops ds []) H c → N H c
    node_back H c (in_first x) = x
    node_back H c (in_second x) = absurd (no_sub p tops ds H c x)

    fault_back : (f : Fault) → Or P (DeclsOwn p tops ds []) f → P f
    fault_back f (or_first x) = x
    fault_back f (or_second x) = absurd (no_own p tops ds f x)

-- declarations, behind what was told before them
pub decls_say : JudgedIsTold → (p : Pg) (tops : List Cn) (ds : List Dt) (decls : List De) (N : Nodes) (P : Fault → Type 0) (past r : Ls) → Says N P past → DeclsJudge (state_with p tops ds) past decls r →
    Says (Either N (DeclsSub p tops ds decls)) (Or P (DeclsOwn p tops ds decls)) r
decls_say law p tops ds [] N P past r s h = no_decl_says p tops ds N P r (subst (Says N P) (sym h) s)
decls_say law p tops ds (d ∷ rest) N P past r s (now, next, (a, h)) =
    says_rest N (DeclSub p tops ds d) (DeclsSub p (tops_behind tops d) (data_behind ds d) rest) (DeclsSub p tops ds (d ∷ rest))
    P (DeclOwn p tops ds d) (DeclsOwn p (tops_behind tops d) (data_behind ds d) rest) (DeclsOwn p tops ds (d ∷ rest)) r
    (join_sub p tops ds d rest) (split_sub p tops ds d rest) (join_own p tops ds d rest) (split_own p tops ds d rest)
    (decls_say law p (tops_behind tops d) (data_behind ds d) rest (Either N (DeclSub p tops ds d)) (Or P (DeclOwn p tops ds d)) (and_then_found past next) r
    (says_two N (DeclSub p tops ds d) P (DeclOwn p tops ds d) past next s (decl_says law p tops ds d next now a))
    (subst (λ (i : Gl). DeclsJudge i (and_then_found past next) rest r) (state_behind p tops ds d next now a) h))

-- all of a program
nothing_says : Says Nowhere Never none_yet
nothing_says = record { kids = least_nowhere; own = picks_never }

pub program_says : JudgedIsTold → (p : Pg) (r : Ls) → ProgramJudges p r → Says (DeclsSub p [] [] p.decls) (DeclsOwn p [] [] p.decls) r
program_says law p r h =
    let s = decls_say law p [] [] p.decls Nowhere Never none_yet r nothing_says h in
    record { kids = least_start (DeclsSub p [] [] p.decls) r.kids s.kids; own = picks_start (DeclsOwn p [] [] p.decls) r.own s.own }
