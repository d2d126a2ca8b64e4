use Rattle.std.proofs.Common.{map, drop, Option}
use Rattle.con_terms.specs.Trees.{Cn}
use Rattle.core_terms.specs.Lists.{item_tree}
use Rattle.core_terms.specs.View.{items_from, items_tree}
use Rattle.core_terms.specs.declared.exp.Form.TheViews.{out-Items}
use Rattle.guided_terms.specs.Heres.{Here}
use Rattle.inserted_terms.specs.Asked.{ItemsAsked}
use Rattle.inserted_terms.proofs.items.none_added.Given as goal

abbrev pub invariant-loop-i : goal.invariant-loop-i
invariant-loop-i l =
    ((h : Here) (t : Option Cn) → ItemsAsked h t (items_from (map item_tree (drop l.i (out-Items l.is).items.items))))
    → (h : Here) (t : Option Cn) → ItemsAsked h t (items_tree l.is)
