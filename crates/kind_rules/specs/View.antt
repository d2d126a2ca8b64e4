-- The plain data that the values of this crate are.
use Rattle.std.specs.Prelude.{ℕ, List, Option, Some, None, Result, Ok, Err, map}
use Rattle.std.specs.Global.{Vec}
use Rattle.con_terms.specs.Trees.{Kd, Cn}
use Rattle.con_terms.specs.declared.kind.Kind.{Kind}
use Rattle.con_terms.specs.Kinded.{Scope, assume, bind}
use Rattle.con_terms.specs.View.{kind_tree, con_tree}
use Rattle.row_normal.specs.View.{normal_tree}
use Rattle.row_normal.specs.declared.form.Normal.{Normal}
use Rattle.kind_rules.specs.Flaws.{Flw, unbound_variable, unbound_basic, kinds_differ, pieces_touch, too_large}
use Rattle.kind_rules.specs.declared.flaw.Flaw.{Flaw}
use Rattle.kind_rules.specs.declared.flaw.Flaw.TheVariants.{Variable, Basic as BasicName, Differ, Touch, TooLarge}
use Rattle.kind_rules.specs.Scopes.{empty_scope, with_basics}
use Rattle.kind_rules.specs.declared.scope.Basic.{Basic}
use Rattle.kind_rules.specs.declared.scope.Entry.{Entry}
use Rattle.kind_rules.specs.declared.scope.Entry.TheVariants.{Binder, Guard, Basics}
use Rattle.kind_rules.specs.declared.scope.Layers.{Layers}
use Rattle.kind_rules.specs.declared.scope.Layers.TheOpen.{Layer-F, Layers-F}
use Rattle.kind_rules.specs.declared.scope.Layers.TheFolds.{fold-Layers}
use Rattle.kind_rules.specs.declared.scope.Scope.{Scope as ScopeValue}
use Rattle.kind_rules.specs.Comparison as specs
use Rattle.kind_rules.specs.declared.compare.Sides.{Sides}
use Rattle.kind_rules.specs.declared.compare.Comparison.{Comparison}
use Rattle.kind_rules.specs.declared.compare.Comparison.TheVariants as result
use Rattle.kind_rules.specs.declared.flaw.Two.{Two}

abbrev pub basic_tree : Basic → ℕ × Kd
basic_tree b = (b.name.number, kind_tree b.kind)

-- the scope with one more entry
abbrev pub entered : Entry → Scope → Scope
entered (Binder k) G = bind (kind_tree k) G
entered (Guard s) G = assume (con_tree s.left) (con_tree s.right) G
entered (Basics bs) G = with_basics (map basic_tree bs.items) G

abbrev pub layers_step : Layers-F Scope Scope → Scope
layers_step Layers-F.Empty = empty_scope
layers_step (Layers-F.Over l) = l.value

abbrev pub layer_step : Layer-F Scope Scope → Scope
layer_step l = entered l.entry l.rest

-- what was put into a scope, one after the other
abbrev pub layers_view : Layers → Scope
layers_view = fold-Layers Scope Scope layers_step layer_step

abbrev pub scope_view : ScopeValue → Scope
scope_view s = layers_view s.layers

abbrev pub maybe_kind : Option Kind → Option Kd
maybe_kind None = None
maybe_kind (Some k) = Some (kind_tree k)

abbrev pub flaw_tree : Flaw → Flw
flaw_tree (Variable i) = unbound_variable i
flaw_tree (BasicName s) = unbound_basic s.number
flaw_tree (Differ d) = kinds_differ (kind_tree d.value.wanted) (kind_tree d.value.found)
flaw_tree (Touch pieces) = pieces_touch (con_tree pieces.value.left) (con_tree pieces.value.right)
flaw_tree TooLarge = too_large

-- what is found, or the flaw
abbrev pub found : {X Y : Type 0} → (X → Y) → Result X Flaw → Result Y Flw
found view (Ok x) = Ok (view x)
found view (Err flaw) = Err (flaw_tree flaw)

abbrev pub maybe_flaw : Option Flaw → Option Flw
maybe_flaw None = None
maybe_flaw (Some flaw) = Some (flaw_tree flaw)

-- two normal forms
abbrev pub sides_tree : Sides → Cn × Cn
sides_tree s = (normal_tree s.left, normal_tree s.right)

abbrev pub comparison_tree : Comparison → specs.Comparison
comparison_tree result.Alike = specs.alike
comparison_tree (result.Differing s) = specs.differing (normal_tree s.value.left) (normal_tree s.value.right)
comparison_tree result.TooLarge = specs.incomparable

-- a normal form with the units that are left
abbrev pub maybe_form : Option Normal → ℕ → Option (Cn × ℕ)
maybe_form None left = None
maybe_form (Some n) left = Some (normal_tree n, left)

-- two kinds
abbrev pub two_trees : Two → Kd × Kd
two_trees t = (kind_tree t.first, kind_tree t.second)

abbrev pub kind_trees : Vec Kind → List Kd
kind_trees ks = map kind_tree ks.items

abbrev pub pair_trees : Vec Two → List (Kd × Kd)
pair_trees ts = map two_trees ts.items
