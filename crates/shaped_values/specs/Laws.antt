-- What patterns that cover mean when a program runs.
use Rattle.std.specs.Prelude.{◌≡◌, ◌≢◌, ℕ, Bool, true, false, ◌≤◌, List, Some, None, ◌⊎◌}
use Rattle.con_terms.specs.Trees.{Cn, name}
use Rattle.core_terms.specs.Trees.{Ex, Pt, pattern, Pf, any, binds, is_number, is_text, is_bare, is_holding, has_fields, annotated, Pfs, no_pat_fields, pat_field, Dt, Brs, no_branches, branch}
use Rattle.core_typing.specs.Scopes.{Sc, normal_of}
use Rattle.core_typing.specs.Cover.{Shp, ShapeOf, pattern_depth, patterns_depth, takes, Covers}
use Rattle.core_typing.specs.PatternFaults.{PatFound}
use Rattle.core_typing.specs.Own.{PatsFound}
use Rattle.core_typing.specs.Typed.{branch_patterns}
use Rattle.core_meaning.specs.Values.{V, Ev, done, more, constructors_in, env_with}
use Rattle.core_meaning.specs.Matching.{Taken, matched}
use Rattle.core_meaning.specs.Applied.{Rn, Next}
use Rattle.core_meaning.specs.Meaning.{walk, walk_branches}
use Rattle.shaped_values.specs.Values.{IsName, IsOf, HasShape}

-- Each value of a type has one of the type's shapes, down to each depth.
abbrev pub EachValueHasAShape : Type 0
EachValueHasAShape = (ds : List Dt) (cs : List Cn) (t : Cn) (v : V) (d : ℕ) → IsOf ds cs d t v
    → (s : Shp) × ShapeOf ds d t s × HasShape cs v s

abbrev mutual
  -- something holds of each name of a field in a pattern
  pub EachName : (Cn → Type 0) → Pt → Type 0
  EachName holds (pattern p f) = EachNameIn holds f

  pub EachNameIn : (Cn → Type 0) → Pf → Type 0
  EachNameIn holds any = Unit {0}
  EachNameIn holds (binds x t) = Unit {0}
  EachNameIn holds (is_number z) = Unit {0}
  EachNameIn holds (is_text t) = Unit {0}
  EachNameIn holds (is_bare s j) = Unit {0}
  EachNameIn holds (is_holding s j p) = EachName holds p
  EachNameIn holds (has_fields fs more') = EachNameOf holds fs
  EachNameIn holds (annotated p t) = EachName holds p

  pub EachNameOf : (Cn → Type 0) → Pfs → Type 0
  EachNameOf holds no_pat_fields = Unit {0}
  EachNameOf holds (pat_field p n q fs) = holds n × EachName holds q × EachNameOf holds fs

-- a name is in the environment what its normal form is there
abbrev pub NameHolds : List Cn → Cn → Type 0
NameHolds cs n = (m : Cn) (x : ℕ) → normal_of n ≡ Some m → IsName cs m x → IsName cs n x

abbrev pub NamesHold : List Cn → Pt → Type 0
NamesHold cs p = EachName (NameHolds cs) p

-- each name is a literal
abbrev pub IsLiteral : Cn → Type 0
IsLiteral n = (x : ℕ) × (n ≡ name x)

abbrev pub NamesAreLiteral : Pt → Type 0
NamesAreLiteral p = EachName IsLiteral p

-- each name is in normal form, as literals and variables are
abbrev pub IsInForm : Cn → Type 0
IsInForm n = normal_of n ≡ Some n

abbrev pub NamesAreNormal : Pt → Type 0
NamesAreNormal p = EachName IsInForm p

-- The names of fields in a pattern hold in each environment where they are in normal form.
abbrev pub NormalNamesHold : Type 0
NormalNamesHold = (cs : List Cn) (p : Pt) → NamesAreNormal p → NamesHold cs p

-- So they do where they are literals.
abbrev pub LiteralNamesHold : Type 0
LiteralNamesHold = (cs : List Cn) (p : Pt) → NamesAreLiteral p → NamesHold cs p

-- Steps suffice for matching a pattern whose names are literals, however few there are.
abbrev pub LiteralPatternsNeedNoSteps : Type 0
LiteralPatternsNeedNoSteps = (cs : List Cn) (p : Pt) (v : V) (b : ℕ) → NamesAreLiteral p → matched cs p v b ≢ more

-- a value is taken or isn't, as a test tells, or more steps are needed
pub data AsTold : Bool → Taken → Type 0 where
  steps_end : {t : Bool} → AsTold t more
  is_taken : {vs : List V} {l : ℕ} → AsTold true (done (Some vs) l)
  is_not_taken : {l : ℕ} → AsTold false (done None l)

-- A pattern that is found at a type takes a value of it where it takes the value's shape, and else doesn't take it, if
-- the steps suffice: no case of the meaning is lacking.
abbrev pub PatternsTakeWhatShapesSay : Type 0
PatternsTakeWhatShapesSay = (G : Sc) (cs : List Cn) (p : Pt) (t : Cn) (ts : List Cn) (v : V) (d : ℕ) (s : Shp) (b : ℕ)
    → PatFound G p t ts
    → NamesHold cs p
    → IsOf G.datatypes cs d t v
    → pattern_depth p ≤ d
    → ShapeOf G.datatypes d t s
    → HasShape cs v s
    → AsTold (takes p s) (matched cs p v b)

-- the names in the patterns of all branches hold
abbrev pub NamesOfBranchesHold : List Cn → Brs → Type 0
NamesOfBranchesHold cs no_branches = Unit {0}
NamesOfBranchesHold cs (branch p q e bs) = NamesHold cs q × NamesOfBranchesHold cs bs

-- one of these branches has this pattern and this term
abbrev pub IsBranch : Brs → Pt → Ex → Type 0
IsBranch no_branches q e = ⊥
IsBranch (branch p r d bs) q e = ((r ≡ q) × (d ≡ e)) ⊎ IsBranch bs q e

-- what the branches come to is what the term of one comes to, whose pattern takes the value
pub record TakesABranch (P : Rn) (k : Next) (v : V) (bs : Brs) (ρ : Ev) (b : ℕ) : Type 0 where
  pub p : Pt
  pub e : Ex
  pub is_one : IsBranch bs p e
  pub steps : ℕ
  pub values : List V
  pub left : ℕ
  pub takes_it : matched (constructors_in ρ) p v steps ≡ done (Some values) left
  pub goes_on : walk_branches P k v bs ρ b ≡ walk P k e (env_with values ρ) left

-- the steps run out while the pattern of one of these branches is matched
pub record RunsOut (P : Rn) (k : Next) (v : V) (bs : Brs) (ρ : Ev) (b : ℕ) : Type 0 where
  pub p : Pt
  pub e : Ex
  pub is_one : IsBranch bs p e
  pub steps : ℕ
  pub needs_more : matched (constructors_in ρ) p v steps ≡ more
  pub comes_to : walk_branches P k v bs ρ b ≡ more

-- Where the patterns of branches are found at a type and cover, each value of the type takes a branch, if the steps
-- suffice for matching: branches come to what the term of one comes to whose pattern takes the value.
abbrev pub CoveringCasesTakeABranch : Type 0
CoveringCasesTakeABranch = (G : Sc) (t : Cn) (bs : Brs) (P : Rn) (k : Next) (v : V) (ρ : Ev) (b : ℕ)
    → PatsFound G t (branch_patterns bs)
    → Covers G.datatypes (branch_patterns bs) t
    → NamesOfBranchesHold (constructors_in ρ) bs
    → IsOf G.datatypes (constructors_in ρ) (patterns_depth (branch_patterns bs)) t v
    → RunsOut P k v bs ρ b ⊎ TakesABranch P k v bs ρ b
