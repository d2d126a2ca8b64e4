-- The plain data that the values of this crate are.
use Rattle.std.specs.Prelude.{ℕ, drop, length, map, Option, Some, None}
use Rattle.con_terms.specs.Trees.{Prs}
use Rattle.con_terms.specs.View.{pair_tree, pairs_from}
use Rattle.con_terms.specs.declared.con.Pairs.{Pairs}
use Rattle.con_terms.specs.declared.con.Con.TheViews.{out-Pairs}
use Rattle.core_terms.specs.Trees.{Fo, bound, top, basis}
use Rattle.core_terms.specs.View.{program_view}
use Rattle.guided_terms.specs.Heres.{Here}
use Rattle.judgements.specs.Bindings.{having}
use Rattle.judgements.specs.View.{locals_view}
use Rattle.plain_tree.specs.View.{plain_view}
use Rattle.plain_tree.specs.declared.decl.Plain.{Plain}
use Rattle.source_names.specs.View.{declared_view, scope_view}
use Rattle.inserted_terms.specs.Inside.{Reached, typed}
use Rattle.inserted_terms.specs.Values.{type_of_value}
use Rattle.inserted_terms.specs.declared.at.At.{At}
use Rattle.inserted_terms.specs.declared.instances.Leaf.{Leaf}
use Rattle.inserted_terms.specs.declared.instances.Leaf.TheVariants as leaf
use Rattle.inserted_terms.specs.declared.programs.State.{State}

-- what is in scope
abbrev pub at_view : At → Here
at_view a = record {
  names = scope_view a.names;
  types = having (locals_view a.locals.value)
      (typed (program_view a.program.now) (map type_of_value a.tops.now.values.items));
}

-- the values that instances are
abbrev pub leaf_form : Leaf → Fo
leaf_form (leaf.Var i) = bound i
leaf_form (leaf.Top i) = top i
leaf_form (leaf.Basis b) = basis b

abbrev pub maybe_leaf : Option Leaf → Option Fo
maybe_leaf None = None
maybe_leaf (Some l) = Some (leaf_form l)

-- fields from a place on
abbrev pub fields_left : Pairs → ℕ → Prs
fields_left ps i = pairs_from (map pair_tree (drop i (out-Pairs ps).items.items))

-- what is declared
abbrev pub reached_view : State → Reached
reached_view s = record { declared = declared_view s.known; tops = map type_of_value s.tops.values.items }

-- how many declarations the tree of a module has
abbrev pub count_of : Plain → ℕ
count_of m = length (plain_view m)
