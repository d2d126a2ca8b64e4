-- The bytes at which the nodes stand that a plain declaration is in the explicit language: where a form makes several
-- nodes, one byte for each, a node before its parts. Each function gives the bytes of its tree before those that
-- follow.
use Rattle.std.specs.Prelude.{ℕ, List, [], ◌∷◌, Option, Some, None}
use Rattle.plain_tree.specs.declared.names.Infix.{Infix}
use Rattle.plain_tree.specs.declared.names.Infix.TheVariants as op
use Rattle.plain_tree.specs.declared.names.Sigil.{Sigil}
use Rattle.plain_tree.specs.declared.names.Sigil.TheVariants as sigil
use Rattle.plain_tree.specs.declared.names.Word.{Word}
use Rattle.plain_tree.specs.Trees.{ConTree, con, PatTree, pat, PatFormTree, pat_any, pat_bind, pat_int, pat_words}
use Rattle.plain_tree.specs.Trees.{pat_bare, pat_holding, pat_rec, pat_typed, PatFieldsTree, no_pat_fields}
use Rattle.plain_tree.specs.Trees.{more_pat_fields, pat_field, ArgTree, arg_pat, arg_con, arg_guard}
use Rattle.plain_tree.specs.Trees.{ExpTree, exp, FormTree, exp_int, exp_words, exp_name, exp_builder, exp_basis}
use Rattle.plain_tree.specs.Trees.{exp_call, exp_fn, exp_case, exp_let, exp_typed, exp_rec, exp_chain, exp_xml, exp_sql}
use Rattle.plain_tree.specs.Trees.{ExpsTree, no_exps, more_exps, ItemTree, item_term, item_con, item_guard, ItemsTree}
use Rattle.plain_tree.specs.Trees.{no_items, more_items, LinkTree, link_infix, link_field, link_without}
use Rattle.plain_tree.specs.Trees.{link_without_row, LinksTree, no_links, more_links, BranchTree, branch, BranchesTree}
use Rattle.plain_tree.specs.Trees.{no_branches, more_branches, FieldTree, field, FieldsTree, no_fields, more_fields}
use Rattle.plain_tree.specs.Trees.{NamedTree, named, NamedListTree, no_named_list, more_named_list, LocalTree}
use Rattle.plain_tree.specs.Trees.{local_val, local_rec, LocalsTree, no_locals, more_locals, NodeTree, node_run}
use Rattle.plain_tree.specs.Trees.{node_exp, node_element, NodesTree, no_nodes, more_nodes, AttributeTree, attribute}
use Rattle.plain_tree.specs.Trees.{AttributesTree, no_attributes, more_attributes, BuilderTree, DeclTree, decl_value}
use Rattle.plain_tree.specs.Trees.{decl_con, decl_datatype, decl_table, decl_sequence, decl_cookie}

abbrev mutual
  -- a pattern stands at its first token
  pub pattern_then : PatTree → List ℕ → List ℕ
  pattern_then (pat at f) more = at ∷ pattern_form_then f more

  pub pattern_form_then : PatFormTree → List ℕ → List ℕ
  pattern_form_then pat_any more = more
  pattern_form_then (pat_bind x) more = more
  pattern_form_then (pat_int minus n) more = more
  pattern_form_then (pat_words t) more = more
  pattern_form_then (pat_bare b) more = more
  pattern_form_then (pat_holding b p) more = pattern_then p more
  pattern_form_then (pat_rec fs others) more = pattern_fields_then fs more
  pattern_form_then (pat_typed p c) more = pattern_then p more

  -- a field of a pattern stands at its name
  pub pattern_fields_then : PatFieldsTree → List ℕ → List ℕ
  pattern_fields_then no_pat_fields more = more
  pattern_fields_then (more_pat_fields (pat_field at c p) fs) more =
      at ∷ pattern_then p (pattern_fields_then fs more)

-- what a parameter takes: a pattern has nodes, a constructor and a guard have none
abbrev pub parameter_then : ArgTree → List ℕ → List ℕ
parameter_then (arg_pat p) more = pattern_then p more
parameter_then (arg_con at implicit has_kind x k) more = more
parameter_then (arg_guard at c d) more = more

-- fn p [x :: k] .. => e is a function for each parameter, all of which stand where the first of them does
abbrev pub parameters_then : ℕ → List ArgTree → List ℕ → List ℕ
parameters_then at [] more = more
parameters_then at (a ∷ as') more = at ∷ parameter_then a (parameters_then at as' more)

-- a name alone: behind `@` or `@@` it is a call without arguments, which stands there too
abbrev pub name_then : ℕ → Sigil → List ℕ → List ℕ
name_then at sigil.Nothing more = at ∷ more
name_then at sigil.At more = at ∷ at ∷ more
name_then at sigil.AtAt more = at ∷ at ∷ more

-- an operator before its sides, in a chain that begins at `at`: a call stands where the chain does, and what is
-- called at the operator
abbrev pub infix_before : ℕ → ℕ → Infix → List ℕ → List ℕ
infix_before at o op.Or more = at ∷ more
infix_before at o op.And more = at ∷ more
infix_before at o op.Concat more = at ∷ more
infix_before at o op.Strcat more = at ∷ o ∷ more
infix_before at o op.Plus more = at ∷ o ∷ more
infix_before at o op.Minus more = at ∷ o ∷ more
infix_before at o op.Times more = at ∷ o ∷ more
infix_before at o op.Divide more = at ∷ o ∷ more
infix_before at o op.Mod more = at ∷ o ∷ more

-- a link of a chain, before what it follows: the link's node stands where the chain does
abbrev pub link_before : ℕ → LinkTree → List ℕ → List ℕ
link_before at (link_infix o i e) more = infix_before at o i more
link_before at (link_field c) more = at ∷ more
link_before at (link_without o c) more = at ∷ more
link_before at (link_without_row o c) more = at ∷ more

-- the links of a chain, before the first term: the last link is the outermost, and so comes first
abbrev pub links_before : ℕ → LinksTree → List ℕ → List ℕ
links_before at no_links more = more
links_before at (more_links l ls) more = links_before at ls (link_before at l more)

-- An operator behind its left side, with its right side. e && d is case e of True => d | False => False, and e || d is
-- case e of True => True | False => d: all but the two sides stands at the operator, a branch before its pattern and
-- its term.
abbrev pub infix_behind : ℕ → Infix → (List ℕ → List ℕ) → List ℕ → List ℕ
infix_behind o op.And right more = o ∷ o ∷ right (o ∷ o ∷ o ∷ more)
infix_behind o op.Or right more = o ∷ o ∷ o ∷ o ∷ o ∷ right more
infix_behind o op.Concat right more = right more
infix_behind o op.Strcat right more = right more
infix_behind o op.Plus right more = right more
infix_behind o op.Minus right more = right more
infix_behind o op.Times right more = right more
infix_behind o op.Divide right more = right more
infix_behind o op.Mod right more = right more

-- the field that an input fills stands at its first token
abbrev pub filled_then : Option ConTree → List ℕ → List ℕ
filled_then None more = more
filled_then (Some (con at f)) more = at ∷ more

abbrev mutual
  pub exp_then : ExpTree → List ℕ → List ℕ
  exp_then (exp at f) more = form_then at f more

  -- a term stands at its first token
  pub form_then : ℕ → FormTree → List ℕ → List ℕ
  form_then at (exp_int n) more = at ∷ more
  form_then at (exp_words t) more = at ∷ more
  form_then at (exp_name g p) more = name_then at g more
  form_then at (exp_builder g p) more = name_then at g more
  form_then at (exp_basis b) more = at ∷ more
  form_then at (exp_call e is) more = at ∷ head_then e (items_then is more)
  form_then at (exp_fn as' e) more = parameters_then at as' (exp_then e more)
  form_then at (exp_case e b bs) more = at ∷ exp_then e (branch_then b (branches_then bs more))
  form_then at (exp_let ls e) more = at ∷ locals_then ls (exp_then e more)
  form_then at (exp_typed e c) more = at ∷ exp_then e more
  form_then at (exp_rec fs) more = at ∷ fields_then fs more
  form_then at (exp_chain e ls) more = links_before at ls (exp_then e (links_behind ls more))
  form_then at (exp_xml ns) more = at ∷ nodes_then ns more
  form_then at (exp_sql q es) more = at ∷ exps_then es more

  -- what a call begins with: a sigil before a name belongs to the call
  pub head_then : ExpTree → List ℕ → List ℕ
  head_then (exp at (exp_name g p)) more = at ∷ more
  head_then (exp at (exp_builder g p)) more = at ∷ more
  head_then (exp at f) more = form_then at f more

  pub exps_then : ExpsTree → List ℕ → List ℕ
  exps_then no_exps more = more
  exps_then (more_exps e es) more = exp_then e (exps_then es more)

  -- what a call is applied to; a constructor stands at its bracket
  pub items_then : ItemsTree → List ℕ → List ℕ
  items_then no_items more = more
  items_then (more_items i is) more = item_then i (items_then is more)

  pub item_then : ItemTree → List ℕ → List ℕ
  item_then (item_term e) more = exp_then e more
  item_then (item_con at c) more = at ∷ more
  item_then (item_guard at) more = at ∷ more

  pub branches_then : BranchesTree → List ℕ → List ℕ
  branches_then no_branches more = more
  branches_then (more_branches b bs) more = branch_then b (branches_then bs more)

  pub branch_then : BranchTree → List ℕ → List ℕ
  branch_then (branch at p e) more = at ∷ pattern_then p (exp_then e more)

  -- a value stands at its name
  pub locals_then : LocalsTree → List ℕ → List ℕ
  locals_then no_locals more = more
  locals_then (more_locals l ls) more = local_then l (locals_then ls more)

  pub local_then : LocalTree → List ℕ → List ℕ
  local_then (local_val at n) more = named_then n more
  local_then (local_rec at ns) more = group_then ns more

  pub named_then : NamedTree → List ℕ → List ℕ
  named_then (named x t e) more = x.at ∷ exp_then e more

  pub group_then : NamedListTree → List ℕ → List ℕ
  group_then no_named_list more = more
  group_then (more_named_list n ns) more = named_then n (group_then ns more)

  -- a field of a record stands at its name
  pub fields_then : FieldsTree → List ℕ → List ℕ
  fields_then no_fields more = more
  fields_then (more_fields f fs) more = field_then f (fields_then fs more)

  pub field_then : FieldTree → List ℕ → List ℕ
  field_then (field at c e) more = at ∷ exp_then e more

  -- the right sides of a chain, from left to right
  pub links_behind : LinksTree → List ℕ → List ℕ
  links_behind no_links more = more
  links_behind (more_links l ls) more = link_behind l (links_behind ls more)

  pub link_behind : LinkTree → List ℕ → List ℕ
  link_behind (link_infix o i e) more = infix_behind o i (λ rest. exp_then e rest) more
  link_behind (link_field c) more = more
  link_behind (link_without o c) more = more
  link_behind (link_without_row o c) more = more

  pub nodes_then : NodesTree → List ℕ → List ℕ
  nodes_then no_nodes more = more
  nodes_then (more_nodes n ns) more = node_then n (nodes_then ns more)

  pub node_then : NodeTree → List ℕ → List ℕ
  -- a run of text is the call cdata "text", all of which stands where the text does
  node_then (node_run at t) more = at ∷ at ∷ at ∷ more
  -- {e}: the term stands at its own first token
  node_then (node_exp at e) more = exp_then e more
  node_then (node_element at tag c as' ns) more = at ∷ filled_then c (attributes_then as' (nodes_then ns more))

  -- an attribute stands at its name
  pub attributes_then : AttributesTree → List ℕ → List ℕ
  attributes_then no_attributes more = more
  attributes_then (more_attributes a as') more = attribute_then a (attributes_then as' more)

  pub attribute_then : AttributeTree → List ℕ → List ℕ
  attribute_then (attribute n e) more = n.at ∷ exp_then e more

-- the constructors of a datatype stand at their names
abbrev pub builders_then : List BuilderTree → List ℕ → List ℕ
builders_then [] more = more
builders_then (b ∷ bs) more = b.name.at ∷ builders_then bs more

-- names
abbrev pub words_then : List Word → List ℕ → List ℕ
words_then [] more = more
words_then (x ∷ xs) more = x.at ∷ words_then xs more

-- The bytes of a declaration. Values stand at their names, other declarations at their first words.
abbrev pub bytes_of : DeclTree → List ℕ
bytes_of (decl_value l) = local_then l []
bytes_of (decl_con x) = x.at ∷ []
bytes_of (decl_datatype x) = x.at ∷ builders_then x.builders []
bytes_of (decl_table t) = t.at ∷ words_then t.key []
bytes_of (decl_sequence at x) = at ∷ []
bytes_of (decl_cookie c) = c.at ∷ []
