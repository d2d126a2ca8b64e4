-- Names in terms.
use Rattle.std.proofs.Common.{◌≡◌, ℕ, Bool, true, false, ◌&&◌, ◌||◌, ◌∷◌, Option, Some, None, refl, ap, sym, subst}
use Rattle.std.proofs.Common.{◌∙◌}
use Rattle.con_terms.specs.Trees.{Cn}
use Rattle.con_terms.specs.declared.place.Place.{Place}
use Rattle.core_terms.specs.declared.exp.ConOrigin.{ConOrigin}
use Rattle.core_terms.specs.declared.exp.ConOrigin.TheVariants as origin
use Rattle.core_terms.specs.declared.exp.Sigil.TheVariants.{Plain}
use Rattle.core_terms.specs.Trees.{Pt, Fo, built, call, let_in, case_of, ascribed, fields_of, select, concat, without}
use Rattle.core_terms.specs.Trees.{without_row, element, literal, Its, with_term, with_con, with_guard, Nms, Los, Brs}
use Rattle.core_terms.specs.Trees.{Fds, tagged, Ats, Xs, a_node}
use Rattle.core_terms.specs.Trees as core
use Rattle.plain_tree.specs.declared.names.BasisBuilder.TheVariants as truth
use Rattle.plain_tree.specs.declared.names.Infix.{Infix}
use Rattle.plain_tree.specs.declared.names.Infix.TheVariants as op
use Rattle.plain_tree.specs.declared.names.Path.{Path}
use Rattle.plain_tree.specs.declared.names.Sigil.{Sigil}
use Rattle.plain_tree.specs.declared.names.Sigil.TheVariants.{Nothing, At, AtAt}
use Rattle.plain_tree.specs.Trees.{ConTree, con, con_wild, ExpTree, exp, FormTree, exp_int, exp_words, exp_name}
use Rattle.plain_tree.specs.Trees.{exp_builder, exp_basis, exp_call, exp_fn, exp_case, exp_let, exp_typed, exp_rec}
use Rattle.plain_tree.specs.Trees.{exp_chain, exp_xml, exp_sql, item_term, item_con, item_guard, ItemsTree, more_items}
use Rattle.plain_tree.specs.Trees.{LinkTree, link_infix, link_field, link_without, link_without_row, LinksTree}
use Rattle.plain_tree.specs.Trees.{no_links, more_links, BranchTree, BranchesTree, more_branches, FieldsTree}
use Rattle.plain_tree.specs.Trees.{more_fields, NamedTree, NamedListTree, no_named_list, more_named_list, LocalTree}
use Rattle.plain_tree.specs.Trees.{LocalsTree, more_locals, NodeTree, node_run, node_exp, node_element, NodesTree}
use Rattle.plain_tree.specs.Trees.{more_nodes, AttributesTree, more_attributes}
use Rattle.plain_tree.specs.Trees as plain
use Rattle.source_names.specs.Scopes.{Scope, under_value, under_values}
use Rattle.source_names.specs.Standing.{is_text}
use Rattle.source_terms.specs.Leaves.{form_of, builds, is_sigil, is_bare_of, is_basis_builder, is_operator}
use Rattle.source_terms.specs.Terms.{are_two, reads_and, reads_or, reads_concat, reads_operator, reads_infix, is_given}
use Rattle.source_terms.specs.Terms.{is_filled, reads_term, reads_form, reads_items, reads_branch, reads_branches}
use Rattle.source_terms.specs.Terms.{reads_locals, reads_named, reads_group, reads_fields, reads_links, reads_link}
use Rattle.source_terms.specs.Terms.{reads_nodes, reads_node, reads_attributes}
use Rattle.source_terms.specs.Terms as read
use Rattle.unbound_names.specs.Asked.{Ask}
use Rattle.unbound_names.specs.Patterns.{unbound_constructor, under_pattern, under_args}
use Rattle.unbound_names.specs.Terms.{behind_local, behind_locals, unbound_value, unbound_exp, unbound_form}
use Rattle.unbound_names.specs.Terms.{unbound_items, unbound_branch, unbound_branches, unbound_locals, unbound_named}
use Rattle.unbound_names.specs.Terms.{unbound_group, unbound_fields, unbound_links, unbound_link, unbound_nodes}
use Rattle.unbound_names.specs.Terms.{unbound_node, unbound_attributes}
use Rattle.unbound_names.specs.Terms as scoped
use Rattle.unbound_names.specs.Types.{unbound_con, unbound_maybe}
use Rattle.bound_sources.proofs.Clear.{Clear, never, nothing, two, swapped, later, to_left, to_right, ends}
use Rattle.bound_sources.proofs.Bare.{bare_scope, bare_values}
use Rattle.bound_sources.proofs.Found.{value_clear, builder_clear, tag_clear, attribute_clear}
use Rattle.bound_sources.proofs.Types.{con_clear}
use Rattle.bound_sources.proofs.Patterns.{inside_same, bare_pattern, pat_clear, bare_args, params_clear}

-- What declarations of a `let` bind.

pub name_same : (n : NamedTree) → read.name_of n ≡ scoped.name_of n
name_same (plain.named x t e) = refl

group_same : (ns : NamedListTree) → read.group_names ns ≡ scoped.group_names ns
group_same no_named_list = refl
group_same (more_named_list n ns) =
    ap (λ x. x ∷ read.group_names ns) (name_same n) ∙ ap (λ xs. scoped.name_of n ∷ xs) (group_same ns)

bare_local : (l : LocalTree) (s : Scope) → bare_scope (behind_local l s) ≡ behind_local l (bare_scope s)
bare_local (plain.local_val at n) s = refl
bare_local (plain.local_rec at ns) s = bare_values (scoped.group_names ns) s

bare_locals : (ls : LocalsTree) (s : Scope) → bare_scope (behind_locals ls s) ≡ behind_locals ls (bare_scope s)
bare_locals plain.no_locals s = refl
bare_locals (more_locals l ls) s = bare_locals ls (behind_local l s) ∙ ap (behind_locals ls) (bare_local l s)

-- Names that stand alone.

builds_clear : (q : Ask) (s : Scope) (at : ℕ) (p : Path) (f : Fo)
    → Clear (builds s p f) (unbound_constructor q (bare_scope s) at p)
builds_clear q s at p (built d i) = builder_clear q s at p d i
builds_clear q s at p _ = never

name_clear : (q : Ask) (s : Scope) (at : ℕ) (g : Sigil) (p : Path) (f : Fo)
    → Clear (reads_form s (exp_name g p) f) (unbound_value q (bare_scope s) at p)
name_clear q s at Nothing p f = value_clear q s at p f
name_clear q s at At p (call h sigil core.no_items) = later (is_sigil At sigil) (value_clear q s at p (form_of h))
name_clear q s at At p _ = never
name_clear q s at AtAt p (call h sigil core.no_items) = later (is_sigil AtAt sigil) (value_clear q s at p (form_of h))
name_clear q s at AtAt p _ = never

constructor_clear : (q : Ask) (s : Scope) (at : ℕ) (g : Sigil) (p : Path) (f : Fo)
    → Clear (reads_form s (exp_builder g p) f) (unbound_constructor q (bare_scope s) at p)
constructor_clear q s at Nothing p f = builds_clear q s at p f
constructor_clear q s at At p (call h sigil core.no_items) =
    later (is_sigil At sigil) (builds_clear q s at p (form_of h))
constructor_clear q s at At p _ = never
constructor_clear q s at AtAt p (call h sigil core.no_items) =
    later (is_sigil AtAt sigil) (builds_clear q s at p (form_of h))
constructor_clear q s at AtAt p _ = never

-- Operators, around tests of their sides.

abbrev Passed : (Fo → Bool) → Bool → Type 0
Passed test x = (f : Fo) → Clear (test f) x

are_two_clear : (left right : Fo → Bool) (x y : Bool) → Passed left x → Passed right y
    → (is : Its) → Clear (are_two left right is) (x || y)
are_two_clear left right x y f g core.no_items = never
are_two_clear left right x y f g (with_term d core.no_items) = never
are_two_clear left right x y f g (with_term d (with_term e core.no_items)) = two (f (form_of d)) (g (form_of e))
are_two_clear left right x y f g (with_term d (with_term e _)) = never
are_two_clear left right x y f g (with_term d _) = never
are_two_clear left right x y f g _ = never

and_clear : (s : Scope) (left right : Fo → Bool) (x y : Bool) → Passed left x → Passed right y
    → Passed (reads_and s left right) (x || y)
and_clear s left right x y f g (case_of a p q d (core.branch r o z core.no_branches)) =
    two (later (is_bare_of s truth.True q && is_bare_of s truth.False o && is_basis_builder s truth.False (form_of z))
    (f (form_of a))) (g (form_of d))
and_clear s left right x y f g _ = never

or_clear : (s : Scope) (left right : Fo → Bool) (x y : Bool) → Passed left x → Passed right y
    → Passed (reads_or s left right) (x || y)
or_clear s left right x y f g (case_of a p q d (core.branch r o z core.no_branches)) =
    two (later (is_bare_of s truth.True q && is_basis_builder s truth.True (form_of d) && is_bare_of s truth.False o)
    (f (form_of a))) (g (form_of z))
or_clear s left right x y f g _ = never

concat_clear : (left right : Fo → Bool) (x y : Bool) → Passed left x → Passed right y
    → Passed (reads_concat left right) (x || y)
concat_clear left right x y f g (concat d e) = two (f (form_of d)) (g (form_of e))
concat_clear left right x y f g _ = never

operator_clear : (i : Infix) (left right : Fo → Bool) (x y : Bool) → Passed left x → Passed right y
    → Passed (reads_operator i left right) (x || y)
operator_clear i left right x y f g (call h Plain is) =
    later (is_operator i (form_of h)) (are_two_clear left right x y f g is)
operator_clear i left right x y f g _ = never

infix_clear : (s : Scope) (i : Infix) (left right : Fo → Bool) (x y : Bool) → Passed left x → Passed right y
    → Passed (reads_infix s i left right) (x || y)
infix_clear s op.And left right x y f g = and_clear s left right x y f g
infix_clear s op.Or left right x y f g = or_clear s left right x y f g
infix_clear s op.Concat left right x y f g = concat_clear left right x y f g
infix_clear s i left right x y f g = operator_clear i left right x y f g

-- Constructors that calls and elements are given.

given_clear : (q : Ask) (s : Scope) (c : ConTree) (o : ConOrigin) (d : Cn)
    → Clear (is_given s c o d) (unbound_con q (bare_scope s) c)
given_clear q s c origin.Written d = con_clear q s c d
given_clear q s (con at con_wild) origin.Wild d = nothing
given_clear q s (con at _) origin.Wild d = never
given_clear q s c origin.Inserted d = never

filled_clear : (q : Ask) (s : Scope) (c : Option ConTree) (d : Option (Place × Cn))
    → Clear (is_filled s c d) (unbound_maybe q (bare_scope s) c)
filled_clear q s None d = nothing
filled_clear q s (Some c) None = never
filled_clear q s (Some c) (Some d) = con_clear q s c d.1

mutual
  pub exp_clear : (q : Ask) (s : Scope) (e : ExpTree) (f : Fo)
      → Clear (reads_term s e f) (unbound_exp q (bare_scope s) e)
  exp_clear q s (exp at g) f = form_clear q s at g f

  form_clear : (q : Ask) (s : Scope) (at : ℕ) (g : FormTree) (f : Fo)
      → Clear (reads_form s g f) (unbound_form q (bare_scope s) at g)
  form_clear q s at (exp_int n) f = nothing
  form_clear q s at (exp_words t) f = nothing
  form_clear q s at (exp_name g p) f = name_clear q s at g p f
  form_clear q s at (exp_builder g p) f = constructor_clear q s at g p f
  form_clear q s at (exp_basis b) f = nothing
  form_clear q s at (exp_call (exp b (exp_name g p)) is) (call h sigil js) =
      two (later (is_sigil g sigil) (value_clear q s b p (form_of h))) (items_clear q s is js)
  form_clear q s at (exp_call (exp b (exp_builder g p)) is) (call h sigil js) =
      two (later (is_sigil g sigil) (builds_clear q s b p (form_of h))) (items_clear q s is js)
  form_clear q s at (exp_call e is) (call h Plain js) =
      two (exp_clear q s e (form_of h)) (items_clear q s is js)
  form_clear q s at (exp_call e is) _ = never
  form_clear q s at (exp_fn as' e) f =
      params_clear q s as' (λ t g. reads_term t e g) (unbound_exp q (under_args as' (bare_scope s)) e)
      (λ g. subst (λ z. Clear (reads_term (under_args as' s) e g) (unbound_exp q z e)) (bare_args as' s)
      (exp_clear q (under_args as' s) e g)) f
  form_clear q s at (exp_case e b bs) (case_of x p r y cs) =
      two (two (exp_clear q s e (form_of x)) (branch_clear q s b r (form_of y))) (branches_clear q s bs cs)
  form_clear q s at (exp_case e b bs) _ = never
  form_clear q s at (exp_let ls e) (let_in ms x) =
      locals_clear q s ls (λ t. reads_term t e (form_of x)) (unbound_exp q (behind_locals ls (bare_scope s)) e)
      (subst (λ z. Clear (reads_term (behind_locals ls s) e (form_of x)) (unbound_exp q z e)) (bare_locals ls s)
      (exp_clear q (behind_locals ls s) e (form_of x))) ms
  form_clear q s at (exp_let ls e) _ = never
  form_clear q s at (exp_typed e c) (ascribed x t) = swapped (con_clear q s c t) (exp_clear q s e (form_of x))
  form_clear q s at (exp_typed e c) _ = never
  form_clear q s at (exp_rec fs) (fields_of gs) = fields_clear q s fs gs
  form_clear q s at (exp_rec fs) _ = never
  form_clear q s at (exp_chain e ls) f =
      links_clear q s ls (λ g. reads_term s e g) (unbound_exp q (bare_scope s) e) (λ g. exp_clear q s e g) f
  form_clear q s at (exp_xml ns) (literal c u xs) = nodes_clear q s ns xs
  form_clear q s at (exp_xml ns) _ = never
  form_clear q s at (exp_sql b es) f = nothing

  items_clear : (q : Ask) (s : Scope) (is : ItemsTree) (js : Its)
      → Clear (reads_items s is js) (unbound_items q (bare_scope s) is)
  items_clear q s plain.no_items js = nothing
  items_clear q s (more_items (item_term e) is) (with_term x js) =
      two (exp_clear q s e (form_of x)) (items_clear q s is js)
  items_clear q s (more_items (item_term e) is) _ = never
  items_clear q s (more_items (item_con at c) is) (with_con p o d js) =
      two (given_clear q s c o d) (items_clear q s is js)
  items_clear q s (more_items (item_con at c) is) _ = never
  items_clear q s (more_items (item_guard at) is) (with_guard p a js) = items_clear q s is js
  items_clear q s (more_items (item_guard at) is) _ = never

  branch_clear : (q : Ask) (s : Scope) (b : BranchTree) (r : Pt) (f : Fo)
      → Clear (reads_branch s b r f) (unbound_branch q (bare_scope s) b)
  branch_clear q s (plain.branch at p e) r f =
      two (pat_clear q s p r)
      (subst (λ z. Clear (reads_term z e f) (unbound_exp q (under_pattern p (bare_scope s)) e)) (sym (inside_same p s))
      (subst (λ z. Clear (reads_term (under_pattern p s) e f) (unbound_exp q z e)) (bare_pattern p s)
      (exp_clear q (under_pattern p s) e f)))

  branches_clear : (q : Ask) (s : Scope) (bs : BranchesTree) (cs : Brs)
      → Clear (reads_branches s bs cs) (unbound_branches q (bare_scope s) bs)
  branches_clear q s plain.no_branches cs = nothing
  branches_clear q s (more_branches b bs) core.no_branches = never
  branches_clear q s (more_branches b bs) (core.branch p r x cs) =
      two (branch_clear q s b r (form_of x)) (branches_clear q s bs cs)

  locals_clear : (q : Ask) (s : Scope) (ls : LocalsTree) (inside : Scope → Bool) (x : Bool)
      → Clear (inside (behind_locals ls s)) x
      → (ms : Los) → Clear (reads_locals s ls inside ms) (unbound_locals q (bare_scope s) ls || x)
  locals_clear q s plain.no_locals inside x f core.no_locals = f
  locals_clear q s plain.no_locals inside x f _ = never
  locals_clear q s (more_locals (plain.local_val at n) ls) inside x f (core.local_val p y written t e ms) =
      to_left (unbound_named q (bare_scope s) n)
      (unbound_locals q (under_value (scoped.name_of n) (bare_scope s)) ls) x
      (two (named_clear q s n y written t (form_of e))
      (subst (λ z. Clear (reads_locals (under_value z s) ls inside ms)
      (unbound_locals q (under_value (scoped.name_of n) (bare_scope s)) ls || x)) (sym (name_same n))
      (locals_clear q (under_value (scoped.name_of n) s) ls inside x f ms)))
  locals_clear q s (more_locals (plain.local_val at n) ls) inside x f _ = never
  locals_clear q s (more_locals (plain.local_rec at ns) ls) inside x f (core.local_rec os ms) =
      to_left (unbound_group q (under_values (scoped.group_names ns) (bare_scope s)) ns)
      (unbound_locals q (under_values (scoped.group_names ns) (bare_scope s)) ls) x
      (subst (λ z. Clear (reads_group (under_values z s) ns os && reads_locals (under_values z s) ls inside ms)
      (unbound_group q (under_values (scoped.group_names ns) (bare_scope s)) ns
      || (unbound_locals q (under_values (scoped.group_names ns) (bare_scope s)) ls || x))) (sym (group_same ns))
      (subst (λ z. Clear (reads_group (under_values (scoped.group_names ns) s) ns os
      && reads_locals (under_values (scoped.group_names ns) s) ls inside ms)
      (unbound_group q z ns || (unbound_locals q z ls || x))) (bare_values (scoped.group_names ns) s)
      (two (group_clear q (under_values (scoped.group_names ns) s) ns os)
      (locals_clear q (under_values (scoped.group_names ns) s) ls inside x f ms))))
  locals_clear q s (more_locals (plain.local_rec at ns) ls) inside x f _ = never

  pub named_clear : (q : Ask) (s : Scope) (n : NamedTree) (y : ℕ) (written : Bool) (t : Cn) (f : Fo)
      → Clear (reads_named s n y written t f) (unbound_named q (bare_scope s) n)
  named_clear q s (plain.named x None e) y false t f = later (is_text s.tables y x.text) (exp_clear q s e f)
  named_clear q s (plain.named x None e) y true t f = never
  named_clear q s (plain.named x (Some c) e) y true t f =
      two (later (is_text s.tables y x.text) (con_clear q s c t)) (exp_clear q s e f)
  named_clear q s (plain.named x (Some c) e) y false t f = never

  pub group_clear : (q : Ask) (s : Scope) (ns : NamedListTree) (os : Nms)
      → Clear (reads_group s ns os) (unbound_group q (bare_scope s) ns)
  group_clear q s no_named_list os = nothing
  group_clear q s (more_named_list n ns) core.no_named = never
  group_clear q s (more_named_list n ns) (core.named p y written t x os) =
      two (named_clear q s n y written t (form_of x)) (group_clear q s ns os)

  fields_clear : (q : Ask) (s : Scope) (fs : FieldsTree) (gs : Fds)
      → Clear (reads_fields s fs gs) (unbound_fields q (bare_scope s) fs)
  fields_clear q s plain.no_fields gs = nothing
  fields_clear q s (more_fields (plain.field at c e) fs) core.no_fields = never
  fields_clear q s (more_fields (plain.field at c e) fs) (core.field p d x gs) =
      two (two (con_clear q s c d) (exp_clear q s e (form_of x))) (fields_clear q s fs gs)

  links_clear : (q : Ask) (s : Scope) (ls : LinksTree) (before : Fo → Bool) (x : Bool) → Passed before x
      → Passed (reads_links s ls before) (x || unbound_links q (bare_scope s) ls)
  links_clear q s no_links before x f g = ends (f g)
  links_clear q s (more_links l ls) before x f g =
      to_right x (unbound_link q (bare_scope s) l) (unbound_links q (bare_scope s) ls)
      (links_clear q s ls (λ h. reads_link s l before h) (x || unbound_link q (bare_scope s) l)
      (λ h. link_clear q s l before x f h) g)

  link_clear : (q : Ask) (s : Scope) (l : LinkTree) (before : Fo → Bool) (x : Bool) → Passed before x
      → Passed (reads_link s l before) (x || unbound_link q (bare_scope s) l)
  link_clear q s (link_infix at i e) before x f g =
      infix_clear s i before (λ h. reads_term s e h) x (unbound_exp q (bare_scope s) e) f (λ h. exp_clear q s e h) g
  link_clear q s (link_field c) before x f (select y d) = two (f (form_of y)) (con_clear q s c d)
  link_clear q s (link_field c) before x f _ = never
  link_clear q s (link_without at c) before x f (without y d) = two (f (form_of y)) (con_clear q s c d)
  link_clear q s (link_without at c) before x f _ = never
  link_clear q s (link_without_row at c) before x f (without_row y d) = two (f (form_of y)) (con_clear q s c d)
  link_clear q s (link_without_row at c) before x f _ = never

  nodes_clear : (q : Ask) (s : Scope) (ns : NodesTree) (xs : Xs)
      → Clear (reads_nodes s ns xs) (unbound_nodes q (bare_scope s) ns)
  nodes_clear q s plain.no_nodes xs = nothing
  nodes_clear q s (more_nodes n ns) core.no_nodes = never
  nodes_clear q s (more_nodes n ns) (a_node c x xs) =
      two (node_clear q s n (form_of x)) (nodes_clear q s ns xs)

  node_clear : (q : Ask) (s : Scope) (n : NodeTree) (f : Fo)
      → Clear (reads_node s n f) (unbound_node q (bare_scope s) n)
  node_clear q s (node_run at t) f = nothing
  node_clear q s (node_exp at e) f = exp_clear q s e f
  node_clear q s (node_element at tag c as' ns) (element (tagged g d context uses bs xs)) =
      two (two (two (tag_clear q at g tag) (filled_clear q s c d)) (attributes_clear q s as' bs))
      (nodes_clear q s ns xs)
  node_clear q s (node_element at tag c as' ns) _ = never

  attributes_clear : (q : Ask) (s : Scope) (as' : AttributesTree) (bs : Ats)
      → Clear (reads_attributes s as' bs) (unbound_attributes q (bare_scope s) as')
  attributes_clear q s plain.no_attributes bs = nothing
  attributes_clear q s (more_attributes (plain.attribute n e) as') core.no_attributes = never
  attributes_clear q s (more_attributes (plain.attribute n e) as') (core.attribute p o x bs) =
      two (two (attribute_clear q n.at o n.text) (exp_clear q s e (form_of x))) (attributes_clear q s as' bs)
