-- Nodes beside one another, as it is computed: what they tell from the first to the last, each with the fields that
-- are filled before it, and then from the last to the first the fields that each and those behind it fill.
use Rattle.std.specs.Prelude.{Bool, true, false, ◌&&◌, List, [], ◌∷◌, Option, Some, None}
use Rattle.con_terms.specs.Trees.{types, row_of, Cn, cat}
use Rattle.con_terms.specs.declared.place.Place.{Place}
use Rattle.row_normal.specs.Ordered.{ordered}
use Rattle.kind_rules.specs.Kinding.{judged_at}
use Rattle.core_terms.specs.Types.{no_types, xml_of}
use Rattle.core_terms.specs.View.{NodeTree}
use Rattle.core_typing.specs.Scopes.{Sc}
use Rattle.core_typing.specs.Own.{place_of}
use Rattle.core_typing.specs.Faults.{Fault}
use Rattle.told_faults.specs.Computed.{Jd, first, flawed, wants}
use Rattle.judgements.specs.Comparisons.{meets}

-- nothing is told
abbrev pub silent : Option Fault → Bool
silent None = true
silent (Some f) = false

-- what terms tell, after what is told already
abbrev pub told_after : Option Fault → List Jd → Option Fault
told_after told [] = told
told_after told (j ∷ js) = told_after (first told j.told) js

abbrev pub told_of : List Jd → Option Fault
told_of js = told_after None js

-- a node: whether it is found, whether nodes behind it can be looked at, and what is told
pub record On : Type 0 where
  pub found : Bool
  pub goes_on : Bool
  pub told : Option Fault

-- its type at its place: the wanted one, or another
abbrev pub at_wanted : Option Fault → On
at_wanted told = record { found = silent told; goes_on = true; told = told }

abbrev pub at_place : Sc → Place → Cn → Cn → Cn → Option Cn → On
at_place G p c u b None = record { found = false; goes_on = true; told = None }
at_place G p c u b (Some t) = at_wanted (wants G p (xml_of c u b) t)

-- its fields are apart from those before it, where another node stands behind it
abbrev pub with_clash : Option Fault → On → On
with_clash clash o = record { found = o.found && silent clash; goes_on = true; told = first o.told clash }

abbrev pub unless_last : Bool → Option Fault → On → On
unless_last true clash o = o
unless_last false clash o = with_clash clash o

-- whose fields have their kind
abbrev pub kinded_node : Sc → Place → Cn → Cn → Cn → Option Cn → Bool → On
kinded_node G p c u b t last = unless_last last (meets G p u b) (at_place G p c u b t)

-- with what the kind of its fields tells
abbrev pub of_kinded : Sc → Place → Cn → Cn → Cn → Option Cn → Bool → Option Fault → On
of_kinded G p c u b t last (Some f) = record { found = false; goes_on = false; told = Some f }
of_kinded G p c u b t last None = kinded_node G p c u b t last

abbrev pub node_told : Sc → Place → Cn → Cn → Cn → Option Cn → Bool → On
node_told G p c u b t last = of_kinded G p c u b t last (flawed G p (judged_at G.kinds b (row_of types)))

abbrev pub one_node : Sc → Cn → Cn → NodeTree → Option Cn → Bool → On
one_node G c u x t last = node_told G (place_of x.1) c u x.0 t last

-- from the first to the last: for each whether it is found, up to the last that could be looked at
pub record Fw : Type 0 where
  pub found : List Bool
  pub told : Option Fault

abbrev pub no_node_more : Option Fault → Fw
no_node_more told = record { found = []; told = told }

abbrev pub none_behind : List NodeTree → Bool
none_behind [] = true
none_behind (x ∷ xs) = false

abbrev pub with_found : Bool → Fw → Fw
with_found f r = record { found = f ∷ r.found; told = r.told }

abbrev pub going_on : Bool → Bool → Option Fault → Fw → Fw
going_on true f told r = with_found f r
going_on false f told r = with_found f (no_node_more told)

abbrev pub forward : Sc → Cn → Cn → Option Fault → List NodeTree → List Jd → Fw
forward G c u told [] js = no_node_more told
forward G c u told (x ∷ xs) [] = no_node_more told
forward G c u told (x ∷ xs) (j ∷ js) =
    let o = one_node G c u x j.type (none_behind xs) in
    going_on o.goes_on o.found (first told o.told) (forward G c (ordered (cat u x.0)) (first told o.told) xs js)

-- what is told of nodes, and the fields that they fill, where all of them are found
pub record Nd : Type 0 where
  pub own : Option Fault
  pub row : Option Cn

-- the fields of a node and of those behind it, which are apart
abbrev pub when_apart : Bool → Cn → Cn → Option Fault → Nd
when_apart f b d (Some clash) = record { own = Some clash; row = None }
when_apart true b d None = record { own = None; row = Some (ordered (cat b d)) }
when_apart false b d None = record { own = None; row = None }

abbrev pub before_row : Sc → NodeTree → Bool → Cn → Nd
before_row G x f d = when_apart f x.0 d (meets G (place_of x.1) x.0 d)

-- of the last node
abbrev pub last_row : Cn → Bool → Nd
last_row b true = record { own = None; row = Some b }
last_row b false = record { own = None; row = None }

abbrev pub with_before : Sc → NodeTree → Bool → Option Cn → Nd
with_before G x f None = last_row x.0 f
with_before G x f (Some d) = before_row G x f d

-- what is behind a node: nothing, nodes that are found and fill this row, or one that isn't found
pub data Be : Type 0 where
  nobody : Be
  filling : Cn → Be
  lost : Be

pub record Bk : Type 0 where
  pub own : Option Fault
  pub behind : Be

abbrev pub behind_of : Option Cn → Be
behind_of None = lost
behind_of (Some d) = filling d

abbrev pub with_node : Option Fault → Nd → Bk
with_node own n = record { own = first own n.own; behind = behind_of n.row }

abbrev pub node_at : Sc → NodeTree → Bool → Option Fault → Be → Bk
node_at G x f own nobody = with_node own (with_before G x f None)
node_at G x f own (filling d) = with_node own (with_before G x f (Some d))
node_at G x f own lost = record { own = own; behind = lost }

abbrev pub node_before : Sc → NodeTree → Bool → Bk → Bk
node_before G x f r = node_at G x f r.own r.behind

abbrev pub lost_before : Bk → Bk
lost_before r = record { own = r.own; behind = lost }

-- from the last to the first, after what is told already
abbrev pub backward : Sc → Option Fault → List NodeTree → List Bool → Bk
backward G told [] fs = record { own = told; behind = nobody }
backward G told (x ∷ xs) [] = lost_before (backward G told xs [])
backward G told (x ∷ xs) (f ∷ fs) = node_before G x f (backward G told xs fs)

-- the fields of all
abbrev pub whole_row : Be → Option Cn
whole_row nobody = Some no_types
whole_row (filling d) = Some d
whole_row lost = None

-- the row of what is behind a node, where there is something
abbrev pub behind_tree : Option Cn → Be
behind_tree None = nobody
behind_tree (Some d) = filling d

abbrev pub whole : Option Fault → Option Cn → Nd
whole own o = record { own = own; row = whole_row (behind_tree o) }

abbrev pub of_all : Bk → Nd
of_all r = record { own = r.own; row = whole_row r.behind }

abbrev pub after_forward : Sc → List NodeTree → Fw → Nd
after_forward G xs r = of_all (backward G r.told xs r.found)

-- nodes at a context, with the fields filled before them
abbrev pub nodes_found : Sc → Cn → Cn → List NodeTree → List Jd → Nd
nodes_found G c u xs js = after_forward G xs (forward G c u None xs js)
