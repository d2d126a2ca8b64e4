-- The relation itself: which term of the explicit language a term of a source determines where it stands, and which
-- type it has, where something is known of the type that is wanted. A form's rule is over what is judged of its parts.
-- Places aren't told.
-- The Ur/Web Manual, "Type Inference".
use Rattle.std.specs.Prelude.{◌≡◌, ℕ, true, false, List, [], ◌∷◌, Option}
use Rattle.con_terms.specs.Trees.{Cn, Prs, no_pairs, pair}
use Rattle.con_terms.specs.declared.place.Place.{Place}
use Rattle.core_terms.specs.Trees.{Ex, node, number, text, Nms, Los, Brs, Fds, Ats}
use Rattle.core_terms.specs.Trees as core
use Rattle.core_terms.specs.Types.{int_type, string_type, no_types}
use Rattle.core_typing.specs.Typed.{named_types}
use Rattle.plain_tree.specs.Trees.{ExpTree, exp, FormTree, exp_int, exp_words, exp_name, exp_builder, exp_basis, exp_call, exp_fn, exp_case, exp_let, exp_typed, exp_rec, exp_chain, exp_xml, exp_sql, ItemTree, item_term, item_con, item_guard, ItemsTree, more_items, LinkTree, link_infix, link_field, link_without, link_without_row, LinksTree, more_links, BranchTree, BranchesTree, more_branches, FieldsTree, more_fields, NamedListTree, more_named_list, LocalsTree, more_locals, NodeTree, node_run, node_exp, node_element, NodesTree, more_nodes, AttributesTree, more_attributes}
use Rattle.plain_tree.specs.Trees as plain
use Rattle.xml_trees.specs.declared.source_name.TagName.{TagName}
use Rattle.guided_terms.specs.Binders.{fn_judge, BranchJudge, BranchGuided, CaseGuided, OfSomeType, AscribedGuided, LetGuided, NamedGuided, GroupNameGuided, GroupGuided, group_names}
use Rattle.guided_terms.specs.Calls.{GuardAsked, guards_hold, guards_unasked, CallGuided}
use Rattle.guided_terms.specs.Contexts.{GroundOf, is_spliced_value}
use Rattle.guided_terms.specs.Heads.{givens_from}
use Rattle.guided_terms.specs.Heres.{Here, with_values}
use Rattle.guided_terms.specs.Leaves.{number_of}
use Rattle.guided_terms.specs.Literals.{NodesJudge, NodeJudge, RunGuided, ValueGuided, TreeGuided, ElementGuided, AttributeGuided, BesideGuided, LiteralGuided}
use Rattle.guided_terms.specs.Records.{RecordGuided, FieldGuided, SelectGuided, WithoutGuided, WithoutRowGuided, infix_judge}
use Rattle.guided_terms.specs.Wanted.{Want, Judge}

-- 3
pub data NumberGuided (n : ℕ) : Ex → Cn → Type 0 where
  a_number : {p : Place} → NumberGuided n (node p false (number (number_of false n))) int_type

-- "text"
pub data WordsGuided (w : List ℕ) : Ex → Cn → Type 0 where
  some_words : {p : Place} → WordsGuided w (node p false (text w)) string_type

-- what is judged of nothing
abbrev pub no_judge : Judge
no_judge h w x t = ⊥

-- {e}, by whether it is txt of a term
abbrev pub node_judge : ExpTree → Judge → NodeJudge
node_judge e judge = elim (is_spliced_value e) [
  | true ↦ λ h told g x b. ValueGuided judge h g x b
  | false ↦ λ h told g x b. TreeGuided judge h told g x b
]

abbrev mutual
  pub guided : GuardAsked → ExpTree → Judge
  guided A (exp at f) = guided_form A f

  pub guided_form : GuardAsked → FormTree → Judge
  guided_form A (exp_int n) = λ h w x t. NumberGuided n x t
  guided_form A (exp_words s) = λ h w x t. WordsGuided s x t
  -- an identifier alone is a call without arguments
  guided_form A (exp_name g p) = λ h w x t. CallGuided A no_judge [] h w (exp 0 (exp_name g p)) [] x t
  guided_form A (exp_builder g p) = λ h w x t. CallGuided A no_judge [] h w (exp 0 (exp_builder g p)) [] x t
  guided_form A (exp_basis b) = λ h w x t. CallGuided A no_judge [] h w (exp 0 (exp_basis b)) [] x t
  -- e d [c] ! ..
  guided_form A (exp_call e is) = λ h w x t. CallGuided A (guided A e) (judges A is) h w e (givens_from 0 is) x t
  -- fn p [x :: k] .. => e
  guided_form A (exp_fn as' e) = fn_judge as' (guided A e)
  -- case e of p => d | ..
  guided_form A (exp_case e b bs) = λ h w x t.
      CaseGuided (guided A e) (guided_branch A b) (guided_branches A bs) h w x t
  -- let .. in e end
  guided_form A (exp_let ls e) = λ h w x t. LetGuided (guided_locals A ls (guided A e)) h w x t
  -- (e : c)
  guided_form A (exp_typed e c) = λ h w x t. AscribedGuided (guided A e) h c x t
  -- {c = e, ..}
  guided_form A (exp_rec fs) = λ h w x t. RecordGuided (guided_fields A fs) h w x t
  -- e + d .c ..
  guided_form A (exp_chain e ls) = guided_links A ls (guided A e)
  -- <xml>..</xml>
  guided_form A (exp_xml ns) = λ h w x t.
      LiteralGuided (λ i v g told. GroundOf (node_judges A ns) i v ns g told) (guided_nodes A ns) h w x t
  -- queries aren't judged yet
  guided_form A (exp_sql q es) = no_judge

  -- what is judged of the terms that a call is applied to, in order
  pub judges : GuardAsked → ItemsTree → List Judge
  judges A plain.no_items = []
  judges A (more_items i is) = item_judge A i (judges A is)

  pub item_judge : GuardAsked → ItemTree → List Judge → List Judge
  item_judge A (item_term e) js = guided A e ∷ js
  item_judge A (item_con at c) js = js
  item_judge A (item_guard at) js = js

  pub guided_branch : GuardAsked → BranchTree → BranchJudge
  guided_branch A (plain.branch at p e) = λ h t w q x u. BranchGuided (guided A e) h t w p q x u

  pub guided_branches : GuardAsked → BranchesTree → Here → Cn → Want → Brs → Type 0
  guided_branches A plain.no_branches h t w core.no_branches = Unit {0}
  guided_branches A (more_branches b bs) h t w (core.branch p q x cs) =
      OfSomeType (λ u. guided_branch A b h t w q x u) × guided_branches A bs h t w cs
  guided_branches A _ h t w _ = ⊥

  -- declarations, and what is inside of them
  pub guided_locals : GuardAsked → LocalsTree → Judge → Here → Want → Los → Ex → Cn → Type 0
  guided_locals A plain.no_locals inside h w core.no_locals x t = inside h w x t
  -- val x = e, val x : c = e
  guided_locals A (more_locals (plain.local_val at (plain.named n c e)) ls) inside h w
      (core.local_val p y i u d ms) x t =
      NamedGuided (guided A e) h n c y i u d
      × guided_locals A ls inside (with_values (n.text ∷ []) (u ∷ []) h) w ms x t
  -- val rec x : c = e and ..
  guided_locals A (more_locals (plain.local_rec at ns) ls) inside h w (core.local_rec os ms) x t =
      GroupGuided (guided_group A ns) h ns os
      × guided_locals A ls inside (with_values (group_names ns) (named_types os) h) w ms x t
  guided_locals A _ inside h w _ x t = ⊥

  pub guided_group : GuardAsked → NamedListTree → Here → List (Option Cn) → Nms → Type 0
  guided_group A plain.no_named_list h [] core.no_named = Unit {0}
  guided_group A (more_named_list (plain.named n c e) ns) h (o ∷ os) (core.named p y wr t d ms) =
      GroupNameGuided (guided A e) h o n c y wr t d × guided_group A ns h os ms
  guided_group A _ h _ _ = ⊥

  -- the fields of a record
  pub guided_fields : GuardAsked → FieldsTree → Here → Want → Fds → Prs → Type 0
  guided_fields A plain.no_fields h w core.no_fields no_pairs = Unit {0}
  guided_fields A (more_fields (plain.field at c e) fs) h w (core.field p n x gs) (pair m t ps) =
      (m ≡ n) × FieldGuided (guided A e) h w c n x t × guided_fields A fs h w gs ps
  guided_fields A _ h w _ _ = ⊥

  -- a chain, whose links all take what stands before them, down to the first term
  pub guided_links : GuardAsked → LinksTree → Judge → Judge
  guided_links A plain.no_links before = before
  guided_links A (more_links l ls) before = guided_links A ls (guided_link A l before)

  pub guided_link : GuardAsked → LinkTree → Judge → Judge
  guided_link A (link_infix at i e) before = infix_judge A i before (guided A e)
  guided_link A (link_field c) before = λ h w x t. SelectGuided before h c x t
  guided_link A (link_without at c) before = λ h w x t. WithoutGuided before h c x t
  guided_link A (link_without_row at c) before = λ h w x t. WithoutRowGuided before h c x t

  -- what is judged of the terms that are spliced in as nodes
  pub node_judges : GuardAsked → NodesTree → List Judge
  node_judges A plain.no_nodes = []
  node_judges A (more_nodes n ns) = tree_judge A n ∷ node_judges A ns

  pub tree_judge : GuardAsked → NodeTree → Judge
  tree_judge A (node_exp at e) = guided A e
  tree_judge A _ = no_judge

  -- what stands in an element, or in a literal
  pub guided_nodes : GuardAsked → NodesTree → NodesJudge
  guided_nodes A plain.no_nodes = λ h told g xs b. (xs ≡ core.no_nodes) × (b ≡ no_types)
  guided_nodes A (more_nodes n ns) = λ h told g xs b. BesideGuided (guided_node A n) (guided_nodes A ns) h told g xs b

  pub guided_node : GuardAsked → NodeTree → NodeJudge
  guided_node A (node_run at s) = λ h told g x b. RunGuided g s x b
  guided_node A (node_exp at e) = node_judge e (guided A e)
  guided_node A (node_element at tag c as' ns) = λ h told g x b.
      ElementGuided (guided_attributes A as') (guided_nodes A ns) h g tag c x b

  pub guided_attributes : GuardAsked → AttributesTree → Here → Cn → TagName → Ats → Type 0
  guided_attributes A plain.no_attributes h u tag core.no_attributes = Unit {0}
  guided_attributes A (more_attributes (plain.attribute n e) as') h u tag (core.attribute p a x bs) =
      AttributeGuided (guided A e) h u tag n.text a x × guided_attributes A as' h u tag bs
  guided_attributes A _ h u tag _ = ⊥

-- A term of a source determines this term of the explicit language, of this type, where it stands here and this is
-- wanted.
abbrev pub Guided : Here → Want → ExpTree → Ex → Cn → Type 0
Guided h w s e t = guided guards_hold s h w e t

-- The same, but for the guards, whose sides are left to the checker.
abbrev pub Determined : Here → Want → ExpTree → Ex → Cn → Type 0
Determined h w s e t = guided guards_unasked s h w e t
