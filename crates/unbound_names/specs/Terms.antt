-- Whether a name that is asked of stands in a term, and isn't in scope there.
use Rattle.std.specs.Prelude.{ℕ, Bool, true, false, ◌&&◌, ◌||◌, not, List, [], ◌∷◌}
use Rattle.plain_tree.specs.declared.names.Path.{Path}
use Rattle.plain_tree.specs.Trees.{ExpTree, exp, FormTree, exp_int, exp_words, exp_name, exp_builder, exp_basis, exp_call, exp_fn, exp_case, exp_let, exp_typed, exp_rec, exp_chain, exp_xml, exp_sql, ItemTree, item_term, item_con, item_guard, ItemsTree, no_items, more_items, LinkTree, link_infix, link_field, link_without, link_without_row, LinksTree, no_links, more_links, BranchTree, branch, BranchesTree, no_branches, more_branches, FieldTree, field, FieldsTree, no_fields, more_fields, NamedTree, named, NamedListTree, no_named_list, more_named_list, LocalTree, local_val, local_rec, LocalsTree, no_locals, more_locals, NodeTree, node_run, node_exp, node_element, NodesTree, no_nodes, more_nodes, AttributeTree, attribute, AttributesTree, no_attributes, more_attributes}
use Rattle.source_names.specs.Scopes.{Words, Scope, under_value, under_values}
use Rattle.unbound_names.specs.Asked.{Ask, is_asked, is_path_asked}
use Rattle.unbound_names.specs.InScope.{value_in_scope, is_tag, is_attribute}
use Rattle.unbound_names.specs.Types.{unbound_con, unbound_maybe}
use Rattle.unbound_names.specs.Patterns.{unbound_constructor, unbound_pat, under_pattern, unbound_args, under_args}

-- the name of a value
abbrev pub name_of : NamedTree → Words
name_of (named x t e) = x.text

-- the names that are declared together
abbrev pub group_names : NamedListTree → List Words
group_names no_named_list = []
group_names (more_named_list n ns) = name_of n ∷ group_names ns

-- behind a declaration of a `let`
abbrev pub behind_local : LocalTree → Scope → Scope
behind_local (local_val at n) s = under_value (name_of n) s
behind_local (local_rec at ns) s = under_values (group_names ns) s

-- behind declarations of a `let`
abbrev pub behind_locals : LocalsTree → Scope → Scope
behind_locals no_locals s = s
behind_locals (more_locals l ls) s = behind_locals ls (behind_local l s)

-- a value at this byte
abbrev pub unbound_value : Ask → Scope → ℕ → Path → Bool
unbound_value q s at p = is_path_asked q at p && not (value_in_scope s p)

-- a tag at this byte, and the name of an attribute
abbrev pub unbound_tag : Ask → ℕ → Words → Bool
unbound_tag q at x = is_asked q at x && not (is_tag x)

abbrev pub unbound_attribute : Ask → ℕ → Words → Bool
unbound_attribute q at x = is_asked q at x && not (is_attribute x)

abbrev mutual
  pub unbound_exp : Ask → Scope → ExpTree → Bool
  unbound_exp q s (exp at f) = unbound_form q s at f

  pub unbound_form : Ask → Scope → ℕ → FormTree → Bool
  -- `M.x`
  unbound_form q s at (exp_name g p) = unbound_value q s at p
  -- `M.X`
  unbound_form q s at (exp_builder g p) = unbound_constructor q s at p
  -- `e d [c] ..`
  unbound_form q s at (exp_call e is) = unbound_exp q s e || unbound_items q s is
  -- `fn p [x :: k] .. => e`
  unbound_form q s at (exp_fn as' e) = unbound_args q s as' || unbound_exp q (under_args as' s) e
  -- `case e of p => d | ..`
  unbound_form q s at (exp_case e b bs) = unbound_exp q s e || unbound_branch q s b || unbound_branches q s bs
  -- `let .. in e end`
  unbound_form q s at (exp_let ls e) = unbound_locals q s ls || unbound_exp q (behind_locals ls s) e
  -- `(e : c)`
  unbound_form q s at (exp_typed e c) = unbound_exp q s e || unbound_con q s c
  -- `{c = e, ..}`
  unbound_form q s at (exp_rec fs) = unbound_fields q s fs
  -- `e + d .c ..`
  unbound_form q s at (exp_chain e ls) = unbound_exp q s e || unbound_links q s ls
  -- `<xml>..</xml>`
  unbound_form q s at (exp_xml ns) = unbound_nodes q s ns
  -- numbers, texts and what sugar stands for; queries aren't read yet
  unbound_form _ _ _ _ = false

  -- what a term is applied to
  pub unbound_items : Ask → Scope → ItemsTree → Bool
  unbound_items q s no_items = false
  unbound_items q s (more_items i is) = unbound_item q s i || unbound_items q s is

  pub unbound_item : Ask → Scope → ItemTree → Bool
  unbound_item q s (item_term e) = unbound_exp q s e
  unbound_item q s (item_con at c) = unbound_con q s c
  unbound_item q s (item_guard at) = false

  -- `p => e`, where the term sees the variables of the pattern
  pub unbound_branch : Ask → Scope → BranchTree → Bool
  unbound_branch q s (branch at p e) = unbound_pat q s p || unbound_exp q (under_pattern p s) e

  pub unbound_branches : Ask → Scope → BranchesTree → Bool
  unbound_branches q s no_branches = false
  unbound_branches q s (more_branches b bs) = unbound_branch q s b || unbound_branches q s bs

  -- the declarations of a `let`, each of which sees those before it
  pub unbound_locals : Ask → Scope → LocalsTree → Bool
  unbound_locals q s no_locals = false
  unbound_locals q s (more_locals l ls) = unbound_local q s l || unbound_locals q (behind_local l s) ls

  pub unbound_local : Ask → Scope → LocalTree → Bool
  -- `val x : c = e`, whose term doesn't see the name
  unbound_local q s (local_val at n) = unbound_named q s n
  -- `val rec x : c = e and ..`, whose terms see all the names
  unbound_local q s (local_rec at ns) = unbound_group q (under_values (group_names ns) s) ns

  pub unbound_named : Ask → Scope → NamedTree → Bool
  unbound_named q s (named x t e) = unbound_maybe q s t || unbound_exp q s e

  pub unbound_group : Ask → Scope → NamedListTree → Bool
  unbound_group q s no_named_list = false
  unbound_group q s (more_named_list n ns) = unbound_named q s n || unbound_group q s ns

  -- the fields of a record
  pub unbound_fields : Ask → Scope → FieldsTree → Bool
  unbound_fields q s no_fields = false
  unbound_fields q s (more_fields f fs) = unbound_field q s f || unbound_fields q s fs

  -- `c = e`
  pub unbound_field : Ask → Scope → FieldTree → Bool
  unbound_field q s (field at c e) = unbound_con q s c || unbound_exp q s e

  -- what follows a term in a chain
  pub unbound_links : Ask → Scope → LinksTree → Bool
  unbound_links q s no_links = false
  unbound_links q s (more_links l ls) = unbound_link q s l || unbound_links q s ls

  pub unbound_link : Ask → Scope → LinkTree → Bool
  -- `+ e`
  unbound_link q s (link_infix at i e) = unbound_exp q s e
  -- `.c`
  unbound_link q s (link_field c) = unbound_con q s c
  -- `-- c`
  unbound_link q s (link_without at c) = unbound_con q s c
  -- `--- c`
  unbound_link q s (link_without_row at c) = unbound_con q s c

  -- what stands in an element, or in a literal of a page
  pub unbound_nodes : Ask → Scope → NodesTree → Bool
  unbound_nodes q s no_nodes = false
  unbound_nodes q s (more_nodes n ns) = unbound_node q s n || unbound_nodes q s ns

  pub unbound_node : Ask → Scope → NodeTree → Bool
  -- a text
  unbound_node q s (node_run at t) = false
  -- `{e}`
  unbound_node q s (node_exp at e) = unbound_exp q s e
  -- `<tag{c} a=e ..> .. </tag>`
  unbound_node q s (node_element at tag c as' ns) =
      unbound_tag q at tag || unbound_maybe q s c || unbound_attributes q s as' || unbound_nodes q s ns

  pub unbound_attributes : Ask → Scope → AttributesTree → Bool
  unbound_attributes q s no_attributes = false
  unbound_attributes q s (more_attributes a as') = unbound_given q s a || unbound_attributes q s as'

  -- `a=e`
  pub unbound_given : Ask → Scope → AttributeTree → Bool
  unbound_given q s (attribute n e) = unbound_attribute q n.at n.text || unbound_exp q s e
