-- Links and actions, as the values that they call are marked.
use Rattle.std.specs.Prelude.{◌≡◌, ℕ, ◌<◌, length, slice_set, get_or, Bool, true, false, List, [], ◌∷◌, ◌++◌, if◌then◌else◌}
use Rattle.std.specs.Bool.{Decides}
use Rattle.std.specs.List.{Contains}
use Rattle.core_terms.specs.Trees.{De, val, vals, con_is, datatype, thing, It, a_term, Lo, a_val, a_rec}
use Rattle.core_terms.specs.View.{AttributeTree}
use Rattle.core_typing.specs.Targets.{Target, targets, own_target, named_targets}

-- the marks of links and of actions
abbrev pub Marks : Type 0
Marks = List Bool × List Bool

abbrev pub mark_one : Target → Marks → Marks
mark_one t m = if t.0 then (m.0, slice_set m.1 t.1 true) else (slice_set m.0 t.1 true, m.1)

abbrev pub mark_all : List Target → Marks → Marks
mark_all [] m = m
mark_all (t ∷ ts) m = mark_all ts (mark_one t m)

-- the links and actions of declarations
abbrev pub decl_targets : De → List Target
decl_targets (val path p x w t e) = targets e
decl_targets (vals path ns) = named_targets ns
decl_targets _ = []

-- whether a value is called by GET or by POST
abbrev pub marks_of : Bool → Marks → List Bool
marks_of true m = m.1
marks_of false m = m.0

-- the links and actions of one member of a list
abbrev pub item_targets : It → List Target
item_targets (a_term e) = targets e
item_targets _ = []

abbrev pub local_targets : Lo → List Target
local_targets (a_val p n w t e) = targets e
local_targets (a_rec ns) = named_targets ns

abbrev pub attribute_targets : AttributeTree → List Target
attribute_targets a = own_target a.1 a.2 ++ targets a.2

-- so many marks, all of them off
pub record Unmarked (n : ℕ) (m : Marks) : Type 0 where
  pub links : length m.0 ≡ n
  pub actions : length m.1 ≡ n
  pub no_link : (j : ℕ) → get_or m.0 j false ≡ false
  pub no_action : (j : ℕ) → get_or m.1 j false ≡ false

-- the mark of a value tells whether it is among the targets
abbrev pub TellsTargets : ℕ → List Target → Marks → Type 0
TellsTargets n ts m = (post : Bool) (i : ℕ) → i < n → Decides (get_or (marks_of post m) i false) (Contains ts (post, i))

-- the marks of numbers
abbrev pub mark_numbers : List ℕ → List Bool → List Bool
mark_numbers [] m = m
mark_numbers (e ∷ es) m = mark_numbers es (slice_set m e true)

-- the mark of a value tells whether its number is among these
abbrev pub TellsNumbers : ℕ → List ℕ → List Bool → Type 0
TellsNumbers n es m = (i : ℕ) → i < n → Decides (get_or m i false) (Contains es i)
