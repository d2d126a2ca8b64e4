-- Whether a term of the explicit language, without all that was inserted, is a term of the source with its names
-- resolved.
-- A form is compared with a form: places aren't, nor whether a term that is left was inserted.
use Rattle.std.specs.Prelude.{ℕ, Bool, true, false, ◌&&◌, bytes_eq, List, [], ◌∷◌, Option, Some, None}
use Rattle.std.specs.Ordering.{int_eq}
use Rattle.con_terms.specs.Same.{kd_eq}
use Rattle.con_terms.specs.Trees.{Cn}
use Rattle.con_terms.specs.declared.place.Place.{Place}
use Rattle.core_terms.specs.declared.exp.ConOrigin.{ConOrigin}
use Rattle.core_terms.specs.declared.exp.ConOrigin.TheVariants as origin
use Rattle.core_terms.specs.declared.exp.Sigil.TheVariants.{Plain}
use Rattle.core_terms.specs.Trees.{Pt, Ex, Fo, number, text, fn, fn_con, fn_guard, call, let_in, case_of, ascribed}
use Rattle.core_terms.specs.Trees.{fields_of, select, concat, without, without_row, element, literal}
use Rattle.core_terms.specs.Trees.{Its, with_term, with_con, with_guard, Nms, Los, Brs, Fds, tagged, Ats, Xs}
use Rattle.core_terms.specs.Trees.{a_node}
use Rattle.core_terms.specs.Trees as core
use Rattle.plain_tree.specs.declared.names.BasisBuilder.TheVariants as truth
use Rattle.plain_tree.specs.declared.names.Infix.{Infix}
use Rattle.plain_tree.specs.declared.names.Infix.TheVariants as op
use Rattle.plain_tree.specs.declared.names.Sigil.TheVariants.{Nothing}
use Rattle.plain_tree.specs.Trees.{ConTree, con, con_wild, ArgTree, arg_pat, arg_con, arg_guard, ExpTree, exp}
use Rattle.plain_tree.specs.Trees.{FormTree, exp_int, exp_words, exp_name, exp_builder, exp_basis, exp_call, exp_fn}
use Rattle.plain_tree.specs.Trees.{exp_case, exp_let, exp_typed, exp_rec, exp_chain, exp_xml, ItemTree, item_term}
use Rattle.plain_tree.specs.Trees.{item_con, item_guard, ItemsTree, more_items, LinkTree, link_infix, link_field}
use Rattle.plain_tree.specs.Trees.{link_without, link_without_row, LinksTree, no_links, more_links, BranchTree}
use Rattle.plain_tree.specs.Trees.{BranchesTree, more_branches, FieldTree, FieldsTree, more_fields, NamedTree}
use Rattle.plain_tree.specs.Trees.{NamedListTree, no_named_list, more_named_list, LocalTree, LocalsTree}
use Rattle.plain_tree.specs.Trees.{more_locals}
use Rattle.plain_tree.specs.Trees.{NodeTree, node_run, node_exp, node_element, NodesTree, more_nodes, AttributeTree}
use Rattle.plain_tree.specs.Trees.{AttributesTree, more_attributes}
use Rattle.plain_tree.specs.Trees as plain
use Rattle.row_normal.specs.SameTree.{flag_eq}
use Rattle.source_names.specs.Scopes.{Words, Scope, under_value, under_values, under_variable}
use Rattle.source_names.specs.Standing.{names_value, is_text}
use Rattle.source_names.specs.Reading.{reads_con}
use Rattle.source_terms.specs.Leaves.{number_of, is_sigil, form_of, builds, is_basis_builder, is_sugar, is_operator}
use Rattle.source_terms.specs.Leaves.{is_cdata, is_bare_of}
use Rattle.source_terms.specs.Patterns.{reads_pat, pattern_names}
use Rattle.xml_trees.specs.SourceNames.{tag_text, attribute_text}

-- What stands around a term takes it as a test: whether what stands inside is read, in a scope.

-- a parameter of a function, around what is inside of it
abbrev pub reads_param : Scope → ArgTree → (Scope → Fo → Bool) → Fo → Bool
-- fn p => ..
reads_param s (arg_pat p) inside (fn q t x) = reads_pat s p q
    && inside (under_values (pattern_names p) s) (form_of x)
-- fn [x :: k] => .., fn [x ::: k] => ..
reads_param s (arg_con at implicit has_kind x k) inside (fn_con y hidden written l e) =
    is_text s.tables y x.text && flag_eq implicit hidden && flag_eq has_kind written && kd_eq k l
    && inside (under_variable x.text s) (form_of e)
-- fn [c ~ d] => ..
reads_param s (arg_guard at c d) inside (fn_guard a b x) = reads_con s c a && reads_con s d b
    && inside s (form_of x)
reads_param s _ inside _ = false

-- parameters, the first outermost
abbrev pub reads_params : Scope → List ArgTree → (Scope → Fo → Bool) → Fo → Bool
reads_params s [] inside f = inside s f
reads_params s (a ∷ as') inside f = reads_param s a (λ t g. reads_params t as' inside g) f

-- Operators are given tests of what stands before them and of their right side.

-- whether two terms are all that a call is applied to
abbrev pub are_two : (Fo → Bool) → (Fo → Bool) → Its → Bool
are_two left right (with_term x (with_term y core.no_items)) = left (form_of x) && right (form_of y)
are_two left right _ = false

-- e && d, which is case e of True => d | False => False
abbrev pub reads_and : Scope → (Fo → Bool) → (Fo → Bool) → Fo → Bool
reads_and s left right (case_of x p q y (core.branch r o z core.no_branches)) =
    is_bare_of s truth.True q && is_bare_of s truth.False o && is_basis_builder s truth.False (form_of z)
    && left (form_of x) && right (form_of y)
reads_and s left right _ = false

-- e || d, which is case e of True => True | False => d
abbrev pub reads_or : Scope → (Fo → Bool) → (Fo → Bool) → Fo → Bool
reads_or s left right (case_of x p q y (core.branch r o z core.no_branches)) =
    is_bare_of s truth.True q && is_basis_builder s truth.True (form_of y) && is_bare_of s truth.False o
    && left (form_of x) && right (form_of z)
reads_or s left right _ = false

-- e ++ d
abbrev pub reads_concat : (Fo → Bool) → (Fo → Bool) → Fo → Bool
reads_concat left right (concat x y) = left (form_of x) && right (form_of y)
reads_concat left right _ = false

-- e ^ d, e + d, e - d, e * d, e / d, e % d
abbrev pub reads_operator : Infix → (Fo → Bool) → (Fo → Bool) → Fo → Bool
reads_operator i left right (call h Plain is) = is_operator i (form_of h) && are_two left right is
reads_operator i left right _ = false

abbrev pub reads_infix : Scope → Infix → (Fo → Bool) → (Fo → Bool) → Fo → Bool
reads_infix s op.And left right f = reads_and s left right f
reads_infix s op.Or left right f = reads_or s left right f
reads_infix s op.Concat left right f = reads_concat left right f
reads_infix s i left right f = reads_operator i left right f

-- a constructor that a call is applied to
abbrev pub is_given : Scope → ConTree → ConOrigin → Cn → Bool
-- [c]
is_given s c origin.Written d = reads_con s c d
-- [_]
is_given s (con at con_wild) origin.Wild d = true
is_given s c _ d = false

-- a text of a page, which is cdata "text"
abbrev pub is_one_text : Words → Its → Bool
is_one_text t (with_term (core.node p a (text u)) core.no_items) = bytes_eq u t
is_one_text t _ = false

abbrev pub reads_run : Words → Fo → Bool
reads_run t (call h Plain is) = is_cdata (form_of h) && is_one_text t is
reads_run t _ = false

-- the field that an input fills
abbrev pub is_filled : Scope → Option ConTree → Option (Place × Cn) → Bool
is_filled s None None = true
is_filled s (Some c) (Some d) = reads_con s c d.1
is_filled s _ _ = false

-- an element, which is given tests of its attributes and of its content
abbrev pub reads_element : Scope → Words → Option ConTree → (Ats → Bool) → (Xs → Bool) → Fo → Bool
-- <tag{c} ..> .. </tag>
reads_element s tag c attributes content (element (tagged g d context uses bs xs)) =
    bytes_eq (tag_text g) tag && is_filled s c d && attributes bs && content xs
reads_element s tag c attributes content _ = false

-- the name of a value
abbrev pub name_of : NamedTree → Words
name_of (plain.named x t e) = x.text

-- the names that are declared together
abbrev pub group_names : NamedListTree → List Words
group_names no_named_list = []
group_names (more_named_list n ns) = name_of n ∷ group_names ns

abbrev mutual
  pub reads_term : Scope → ExpTree → Fo → Bool
  reads_term s (exp at e) f = reads_form s e f

  pub reads_form : Scope → FormTree → Fo → Bool
  -- 3
  reads_form s (exp_int n) (number z) = int_eq z (number_of false n)
  -- "text"
  reads_form s (exp_words t) (text u) = bytes_eq u t
  -- M.x
  reads_form s (exp_name Nothing p) f = names_value s p f
  -- @M.x, @@M.x
  reads_form s (exp_name g p) (call h sigil core.no_items) = is_sigil g sigil && names_value s p (form_of h)
  -- M.X
  reads_form s (exp_builder Nothing p) f = builds s p f
  -- @M.X, @@M.X
  reads_form s (exp_builder g p) (call h sigil core.no_items) = is_sigil g sigil && builds s p (form_of h)
  -- what sugar stands for
  reads_form s (exp_basis b) f = is_sugar s b f
  -- M.x e [c] ! .., behind `@` or `@@` too
  reads_form s (exp_call (exp at (exp_name g p)) is) (call h sigil js) =
      is_sigil g sigil && names_value s p (form_of h) && reads_items s is js
  -- M.X e ..
  reads_form s (exp_call (exp at (exp_builder g p)) is) (call h sigil js) =
      is_sigil g sigil && builds s p (form_of h) && reads_items s is js
  -- e d ..
  reads_form s (exp_call e is) (call h Plain js) = reads_term s e (form_of h) && reads_items s is js
  -- fn p [x :: k] .. => e
  reads_form s (exp_fn as' e) f = reads_params s as' (λ t g. reads_term t e g) f
  -- case e of p => d | ..
  reads_form s (exp_case e b bs) (case_of x p q y cs) =
      reads_term s e (form_of x) && reads_branch s b q (form_of y) && reads_branches s bs cs
  -- let .. in e end
  reads_form s (exp_let ls e) (let_in ms x) = reads_locals s ls (λ t. reads_term t e (form_of x)) ms
  -- (e : c)
  reads_form s (exp_typed e c) (ascribed x t) = reads_con s c t && reads_term s e (form_of x)
  -- {c = e, ..}
  reads_form s (exp_rec fs) (fields_of gs) = reads_fields s fs gs
  -- e + d .c ..
  reads_form s (exp_chain e ls) f = reads_links s ls (λ g. reads_term s e g) f
  -- <xml>..</xml>
  reads_form s (exp_xml ns) (literal c u xs) = reads_nodes s ns xs
  -- queries aren't read yet
  reads_form s _ _ = false

  -- what a call is applied to
  pub reads_items : Scope → ItemsTree → Its → Bool
  reads_items s plain.no_items core.no_items = true
  reads_items s (more_items (item_term e) is) (with_term x js) = reads_term s e (form_of x) && reads_items s is js
  reads_items s (more_items (item_con at c) is) (with_con p o d js) = is_given s c o d && reads_items s is js
  reads_items s (more_items (item_guard at) is) (with_guard p a js) = reads_items s is js
  reads_items s _ _ = false

  pub reads_branch : Scope → BranchTree → Pt → Fo → Bool
  -- p => e
  reads_branch s (plain.branch at p e) q f = reads_pat s p q && reads_term (under_values (pattern_names p) s) e f

  pub reads_branches : Scope → BranchesTree → Brs → Bool
  reads_branches s plain.no_branches core.no_branches = true
  reads_branches s (more_branches b bs) (core.branch p q x cs) =
      reads_branch s b q (form_of x) && reads_branches s bs cs
  reads_branches s _ _ = false

  -- declarations, and what is inside of them
  pub reads_locals : Scope → LocalsTree → (Scope → Bool) → Los → Bool
  reads_locals s plain.no_locals inside core.no_locals = inside s
  -- val x = e, val x : c = e
  reads_locals s (more_locals (plain.local_val at n) ls) inside (core.local_val p y written t x ms) =
      reads_named s n y written t (form_of x) && reads_locals (under_value (name_of n) s) ls inside ms
  -- val rec x : c = e and ..
  reads_locals s (more_locals (plain.local_rec at ns) ls) inside (core.local_rec os ms) =
      reads_group (under_values (group_names ns) s) ns os
      && reads_locals (under_values (group_names ns) s) ls inside ms
  reads_locals s _ inside _ = false

  -- a name with its term, and its type where the source has it
  pub reads_named : Scope → NamedTree → ℕ → Bool → Cn → Fo → Bool
  reads_named s (plain.named x None e) y false t f = is_text s.tables y x.text && reads_term s e f
  reads_named s (plain.named x (Some c) e) y true t f = is_text s.tables y x.text && reads_con s c t
      && reads_term s e f
  reads_named s _ y written t f = false

  pub reads_group : Scope → NamedListTree → Nms → Bool
  reads_group s no_named_list core.no_named = true
  reads_group s (more_named_list n ns) (core.named p y written t x os) =
      reads_named s n y written t (form_of x) && reads_group s ns os
  reads_group s _ _ = false

  -- the fields of a record
  pub reads_fields : Scope → FieldsTree → Fds → Bool
  reads_fields s plain.no_fields core.no_fields = true
  reads_fields s (more_fields (plain.field at c e) fs) (core.field p d x gs) =
      reads_con s c d && reads_term s e (form_of x) && reads_fields s fs gs
  reads_fields s _ _ = false

  -- a chain, whose links all take what stands before them, down to the first term
  pub reads_links : Scope → LinksTree → (Fo → Bool) → Fo → Bool
  reads_links s no_links before f = before f
  reads_links s (more_links l ls) before f = reads_links s ls (λ g. reads_link s l before g) f

  pub reads_link : Scope → LinkTree → (Fo → Bool) → Fo → Bool
  -- .. + e
  reads_link s (link_infix at i e) before f = reads_infix s i before (λ g. reads_term s e g) f
  -- .. .c
  reads_link s (link_field c) before (select x d) = before (form_of x) && reads_con s c d
  -- .. -- c
  reads_link s (link_without at c) before (without x d) = before (form_of x) && reads_con s c d
  -- .. --- c
  reads_link s (link_without_row at c) before (without_row x d) = before (form_of x) && reads_con s c d
  reads_link s _ before _ = false

  -- what stands in an element, or in a literal of a page
  pub reads_nodes : Scope → NodesTree → Xs → Bool
  reads_nodes s plain.no_nodes core.no_nodes = true
  reads_nodes s (more_nodes n ns) (a_node c x xs) = reads_node s n (form_of x) && reads_nodes s ns xs
  reads_nodes s _ _ = false

  pub reads_node : Scope → NodeTree → Fo → Bool
  -- a text
  reads_node s (node_run at t) f = reads_run t f
  -- {e}
  reads_node s (node_exp at e) f = reads_term s e f
  -- <tag{c} a=e ..> .. </tag>
  reads_node s (node_element at tag c as' ns) f =
      reads_element s tag c (λ bs. reads_attributes s as' bs) (λ xs. reads_nodes s ns xs) f

  pub reads_attributes : Scope → AttributesTree → Ats → Bool
  reads_attributes s plain.no_attributes core.no_attributes = true
  -- a=e
  reads_attributes s (more_attributes (plain.attribute n e) as') (core.attribute p o x bs) =
      bytes_eq (attribute_text o) n.text && reads_term s e (form_of x) && reads_attributes s as' bs
  reads_attributes s _ _ = false

-- whether a term that nothing inserted is left of is a term of the source
abbrev pub reads_exp : Scope → ExpTree → Ex → Bool
reads_exp s e x = reads_term s e (form_of x)
