-- The plain data that the parts of terms and the scopes of a walk are.
use Rattle.std.specs.Prelude.{◌≡◌, ℕ, Bool, List, Option}
use Rattle.con_terms.specs.Trees.{Kd}
use Rattle.con_terms.specs.declared.place.Place.{Place}
use Rattle.core_terms.specs.Trees.{Ex, Its, Los, Exs}
use Rattle.core_terms.specs.View.{items_tree, fields_tree, named_list_tree, attributes_tree, nodes_tree, exps_tree}
use Rattle.core_typing.specs.Own.{place_of}
use Rattle.core_typing.specs.Scopes.{Sc, under_con}
use Rattle.told_faults.specs.Computed.{Jd}
use Rattle.judgements.specs.View.{sc_view}
use Rattle.judgements.specs.declared.globals.Globals.{Globals}
use Rattle.type_faults.specs.View.{fault_tree}
use Rattle.node_rules.specs.Functions.{of_fn_con}
use Rattle.node_rules.specs.Locals.{Ls, none_yet, of_let}
use Rattle.judged_terms.specs.Openings.{Un, opens, no_scope}
use Rattle.judged_terms.specs.Judge.{Judges, ItemsJudge, LocalsJudge, TermsJudge}
use Rattle.judged_terms.specs.Listed.{item_terms, field_terms, name_terms, attribute_parts, node_parts, exp_parts, of_items, of_sql}
use Rattle.core_checker.specs.declared.parts.Parts.{Parts}
use Rattle.core_checker.specs.declared.parts.Parts.TheVariants as parts
use Rattle.core_checker.specs.declared.scopes.Inner.{Inner}
use Rattle.core_checker.specs.declared.scopes.Inner.TheVariants as inner

-- the terms of a list
abbrev pub part_terms : Parts → List (Option Ex)
part_terms (parts.Items is) = item_terms (items_tree is.now)
part_terms (parts.Fields fs) = field_terms (fields_tree fs.now)
part_terms (parts.Names ns) = name_terms (named_list_tree ns.now)
part_terms (parts.Attributes as') = attribute_parts (attributes_tree as'.now)
part_terms (parts.Nodes xs) = node_parts (nodes_tree xs.now)
part_terms (parts.Terms es) = exp_parts (exps_tree es.now)

-- a scope that a term opens
abbrev pub inner_tree : Globals → Inner → Un
inner_tree g (inner.Under s) = opens (sc_view g s)
inner_tree g (inner.Bad f) = no_scope (fault_tree f)

-- what is found for forms whose place, or mark, tells nothing
abbrev pub FnConJudges : Sc → ℕ → Bool → Kd → Ex → Jd → Type 0
FnConJudges G x i k e j = (b : Jd) × (Judges (under_con x k G) e b × (j ≡ of_fn_con i k b))

abbrev pub CallJudges : Sc → Ex → Its → Jd → Type 0
CallJudges G f is j =
    (h : Jd) × (js : List Jd) × (Judges G f h × ItemsJudge G is js × (j ≡ of_items G (place_of f) is h js))

abbrev pub LetJudges : Sc → Los → Ex → Jd → Type 0
LetJudges G ls e j =
    (H : Sc) × (r : Ls) × (b : Jd) × (LocalsJudge G none_yet ls H r × Judges H e b × (j ≡ of_let r b))

abbrev pub SqlJudges : Sc → Place → Exs → Jd → Type 0
SqlJudges G p es j = (js : List Jd) × (TermsJudge G es js × (j ≡ of_sql p js))
