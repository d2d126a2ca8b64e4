-- The names of patterns and of declarations, one after another.
use Rattle.std.proofs.Common.{◌≡◌, ℕ, ◌+◌, ◌<◌, ◌≤◌, List, [], ◌∷◌, ◌++◌, length, get_or, drop, map, refl, ap, sym}
use Rattle.std.proofs.Common.{◌∙◌}
use Rattle.std.proofs.lemmas.List.{at_drop_more, at_drop_all}
use Rattle.plain_tree.specs.ConView.{pat_field_tree, pat_fields_from, pat_fields_tree, pat_form_step, pat_step}
use Rattle.plain_tree.specs.ConView.{pat_field_step, pat_fields_step}
use Rattle.plain_tree.specs.ExpView.{named_tree, named_list_from, named_list_tree}
use Rattle.plain_tree.specs.ExpView as terms
use Rattle.plain_tree.specs.Trees.{PatTree, PatFormTree, PatFieldTree, pat_field, PatFieldsTree, more_pat_fields}
use Rattle.plain_tree.specs.Trees.{NamedListTree}
use Rattle.plain_tree.specs.Trees as plain
use Rattle.plain_tree.specs.declared.exp.Form.TheFolds.{fold_out-NamedList}
use Rattle.plain_tree.specs.declared.exp.Form.TheViews.{out-NamedList}
use Rattle.plain_tree.specs.declared.exp.Named.{Named}
use Rattle.plain_tree.specs.declared.exp.NamedList.{NamedList}
use Rattle.plain_tree.specs.declared.pat.PatField.{PatField}
use Rattle.plain_tree.specs.declared.pat.PatFields.{PatFields}
use Rattle.plain_tree.specs.declared.pat.PatForm.TheFolds.{fold_out-PatFields}
use Rattle.plain_tree.specs.declared.pat.PatForm.TheViews.{out-PatFields}
use Rattle.source_names.specs.Scopes.{Words, Scope, under_value, under_values}
use Rattle.source_terms.specs.Parts.{field_names}
use Rattle.source_terms.specs.Patterns.{pattern_names, fields_names}
use Rattle.source_terms.specs.Terms.{name_of, group_names}

under_both : (xs ys : List Words) (s : Scope) → under_values (xs ++ ys) s ≡ under_values ys (under_values xs s)
under_both [] ys s = refl
under_both (x ∷ xs) ys s = under_both xs ys (under_value x s)

-- the scope behind these fields, and behind these names
abbrev pub behind_fields : Scope → List PatField → Scope
behind_fields s fs = under_values (fields_names (pat_fields_from (map pat_field_tree fs))) s

abbrev pub behind_names : Scope → List Named → Scope
behind_names s ns = under_values (group_names (named_list_from (map named_tree ns))) s

pub fields_whole : (s : Scope) (fs : PatFields) → under_values (fields_names (pat_fields_tree fs)) s
    ≡ behind_fields s (out-PatFields fs).items.items
fields_whole s fs = ap (λ a. under_values (fields_names a) s) (fold_out-PatFields PatFormTree PatTree PatFieldTree
    PatFieldsTree pat_form_step pat_step pat_field_step pat_fields_step fs)

first_field : (s : Scope) (f : PatFieldTree) (fs : PatFieldsTree)
    → under_values (fields_names (more_pat_fields f fs)) s
    ≡ under_values (fields_names fs) (under_values (field_names f) s)
first_field s (pat_field at c p) fs = under_both (pattern_names p) (fields_names fs) s

pub fields_more : (s r : Scope) (whole : Scope) (fs : List PatField) (i : ℕ) (f : PatField) → i < length fs → f
    ≡ get_or fs i f
    → whole ≡ behind_fields s (drop i fs) → r ≡ under_values (field_names (pat_field_tree f)) s
    → whole ≡ behind_fields r (drop (i + 1) fs)
fields_more s r whole fs i f h e so is =
    so ∙ at_drop_more (behind_fields s) fs i f h
    ∙ ap (λ g. behind_fields s (g ∷ drop (i + 1) fs)) (sym e)
    ∙ first_field s (pat_field_tree f) (pat_fields_from (map pat_field_tree (drop (i + 1) fs)))
    ∙ ap (λ t. behind_fields t (drop (i + 1) fs)) (sym is)

pub fields_end : (s : Scope) (whole : Scope) (fs : List PatField) (i : ℕ) → length fs ≤ i → whole
    ≡ behind_fields s (drop i fs) → s ≡ whole
fields_end s whole fs i h so = sym (so ∙ at_drop_all (behind_fields s) fs i h)

pub names_whole : (s : Scope) (ns : NamedList) → under_values (group_names (named_list_tree ns)) s
    ≡ behind_names s (out-NamedList ns).items.items
names_whole s ns = ap (λ a. under_values (group_names a) s) (fold_out-NamedList plain.FormTree plain.ItemTree
    plain.LinkTree plain.LocalTree plain.NodeTree plain.AttributeTree plain.AttributesTree plain.BranchTree
    plain.BranchesTree plain.ExpTree plain.ExpsTree plain.FieldTree plain.FieldsTree plain.ItemsTree
    plain.LinksTree plain.LocalsTree plain.NamedTree plain.NamedListTree plain.NodesTree terms.form_step
    terms.item_step terms.link_step terms.local_step terms.node_step terms.attribute_step terms.attributes_step
    terms.branch_step terms.branches_step terms.exp_step terms.exps_step terms.field_step terms.fields_step
    terms.items_step terms.links_step terms.locals_step terms.named_step terms.named_list_step terms.nodes_step ns)

pub names_more : (s r : Scope) (whole : Scope) (ns : List Named) (i : ℕ) (n : Named) (x : Words) → i < length ns
    → n ≡ get_or ns i n
    → whole ≡ behind_names s (drop i ns) → x ≡ name_of (named_tree n) → r ≡ under_value x s
    → whole ≡ behind_names r (drop (i + 1) ns)
names_more s r whole ns i n x h e so k is =
    so ∙ at_drop_more (behind_names s) ns i n h
    ∙ ap (λ m. behind_names s (m ∷ drop (i + 1) ns)) (sym e)
    ∙ ap (λ y. behind_names (under_value y s) (drop (i + 1) ns)) (sym k)
    ∙ ap (λ t. behind_names t (drop (i + 1) ns)) (sym is)

pub names_end : (s : Scope) (whole : Scope) (ns : List Named) (i : ℕ) → length ns ≤ i → whole
    ≡ behind_names s (drop i ns) → s ≡ whole
names_end s whole ns i h so = sym (so ∙ at_drop_all (behind_names s) ns i h)
