-- What is found for the declarations of a program, one after another.
use Rattle.std.specs.Prelude.{◌≡◌, ℕ, Bool, true, false, ◌==◌, List, [], ◌∷◌, ◌++◌, length, Option, Some, None}
use Rattle.std.specs.Prelude.{if◌then◌else◌}
use Rattle.con_terms.specs.Trees.{Kd, types, Cn}
use Rattle.con_terms.specs.declared.place.Place.{Place}
use Rattle.kind_rules.specs.Kinding.{judged_at}
use Rattle.core_terms.specs.Datatypes.{basis_datatypes}
use Rattle.core_terms.specs.Trees.{Ex, Nms, no_named, named, De, val, vals, con_is, datatype, thing, Cd, Dt, Pg}
use Rattle.core_terms.specs.View.{NamedTree}
use Rattle.core_typing.specs.Scopes.{Sc, top_scope}
use Rattle.core_typing.specs.Faults.{Fault, redeclared, not_built, twice_constructor}
use Rattle.core_typing.specs.Own.{place_of, type_place}
use Rattle.core_typing.specs.Declarations.{under_types}
use Rattle.told_faults.specs.Computed.{Jd, flawed}
use Rattle.node_rules.specs.Locals.{Ls, none_yet, and_then_found, with_declared}
use Rattle.judged_terms.specs.Judge.{Judges, JudgesAll}
use Rattle.judged_terms.specs.Listed.{name_terms, named_found}

-- what is declared so far: the types of the values, all datatypes; and the folders and effects of the program
pub record Gl : Type 0 where
  pub tops : List Cn
  pub datatypes : List Dt
  pub folders : List (Kd × ℕ)
  pub effects : ℕ

abbrev pub scope_of : Gl → Sc
scope_of s = top_scope s.tops s.datatypes s.folders s.effects

-- with further values
abbrev pub with_tops : List Cn → Gl → Gl
with_tops ts s = record {
  tops = s.tops ++ ts;
  datatypes = s.datatypes;
  folders = s.folders;
  effects = s.effects;
}

-- with one more datatype
abbrev pub with_data : Dt → Gl → Gl
with_data d s = record {
  tops = s.tops;
  datatypes = s.datatypes ++ d ∷ [];
  folders = s.folders;
  effects = s.effects;
}

-- what is found where nothing but perhaps a fault is told
abbrev pub is_none : Option Fault → Bool
is_none None = true
is_none (Some f) = false

abbrev pub told_alone : Option Fault → Ls
told_alone o = record { found = is_none o; kids = None; own = o }

-- what a constructor holds is a type
abbrev pub held_told : Sc → Place → Option Cn → Option Fault
held_told G p None = None
held_told G p (Some held) = flawed G p (judged_at G.kinds held types)

-- whether a constructor of the name stands among these
abbrev pub is_named : ℕ → List Cd → Bool
is_named x [] = false
is_named x (c ∷ cs) = if c.name == x then true else is_named x cs

abbrev pub second_told : Place → ℕ → Bool → Option Fault
second_told p x false = None
second_told p x true = Some (redeclared p (twice_constructor x))

-- a constructor behind others
abbrev pub of_constructor : Sc → List Cd → Cd → Ls
of_constructor G before c =
    and_then_found (told_alone (held_told G c.place c.holds))
    (told_alone (second_told c.place c.name (is_named c.name before)))

-- constructors, behind those that stand before
abbrev pub constructors_found : Sc → List Cd → Ls → List Cd → Ls
constructors_found G before r [] = r
constructors_found G before r (c ∷ cs) =
    constructors_found G (before ++ c ∷ []) (and_then_found r (of_constructor G before c)) cs

-- a datatype, where it is declared
abbrev pub of_data : Dt → Gl → Ls
of_data d s = constructors_found (under_types d.parameters (scope_of s)) [] none_yet d.constructors

-- the types of names that are declared together, in their order
abbrev pub types_of : Nms → List Cn
types_of no_named = []
types_of (named p x w t e ns) = t ∷ types_of ns

-- a value, and names that are declared together
abbrev pub AfterVal : NamedTree → Gl → Ls → Gl → Type 0
AfterVal n s r s' =
    (j : Jd) × (Judges (scope_of s) n.4 j
    × (r ≡ with_declared (scope_of s) (type_place n.2 n.0 n.4) (place_of n.4) n.3 j none_yet)
    × (s' ≡ with_tops (n.3 ∷ []) s))

-- no rule of kinds looks at values, so that all is judged where these are
abbrev pub AfterVals : Nms → Gl → Ls → Gl → Type 0
AfterVals ns s r s' =
    (js : List Jd) × (JudgesAll (scope_of (with_tops (types_of ns) s)) (name_terms ns) js
    × (r ≡ named_found (scope_of (with_tops (types_of ns) s)) ns js none_yet) × (s' ≡ with_tops (types_of ns) s))

-- what is found for a declaration, and what is declared behind it
abbrev pub After : De → Gl → Ls → Gl → Type 0
After (val path q x w t e) s r s' = AfterVal (q, x, w, t, e) s r s'
After (vals path ns) s r s' = AfterVals ns s r s'
After (con_is path q x w k c) s r s' =
    (r ≡ told_alone (flawed (scope_of s) q (judged_at (scope_of s).kinds c k))) × (s' ≡ s)
After (datatype d) s r s' =
    (r ≡ of_data d (with_data d s)) × (s' ≡ with_data d s)
-- no rule types a value without a term yet
After (thing path q x k t) s r s' = (r ≡ told_alone (Some (not_built q))) × (s' ≡ with_tops (t ∷ []) s)

-- declarations, one after another, behind what was found before
abbrev pub DeclsJudge : Gl → Ls → List De → Ls → Type 0
DeclsJudge s past [] r = r ≡ past
DeclsJudge s past (d ∷ ds) r =
    (s' : Gl) × (next : Ls) × (After d s next s' × DeclsJudge s' (and_then_found past next) ds r)

-- before the first
abbrev pub at_start : Pg → Gl
at_start p = record {
  tops = [];
  datatypes = basis_datatypes;
  folders = p.folders;
  effects = length p.foreigns;
}

-- what is found for a program's declarations
abbrev pub ProgramJudges : Pg → Ls → Type 0
ProgramJudges p r = DeclsJudge (at_start p) none_yet p.decls r
