-- Whether one part of a term is one of the source, for the parts of lists and of calls.
use Rattle.std.specs.Prelude.{ℕ, zero, suc, Bool, true, false, not, ◌&&◌, bytes_eq, List, [], ◌∷◌, Option, Some}
use Rattle.std.specs.Prelude.{None}
use Rattle.con_terms.specs.Trees.{Cn, unit_con}
use Rattle.core_terms.specs.declared.exp.ConOrigin.{ConOrigin}
use Rattle.core_terms.specs.declared.exp.ConOrigin.TheVariants as origin
use Rattle.core_terms.specs.declared.exp.Sigil.{Sigil}
use Rattle.core_terms.specs.declared.exp.Sigil.TheVariants.{Plain}
use Rattle.core_terms.specs.Strip.{if_written, strip, strip_named}
use Rattle.core_terms.specs.Trees.{Ex, Fo, Its, with_term, It, a_term, a_con, a_guard, Lo, a_val, a_rec}
use Rattle.core_terms.specs.Trees as core
use Rattle.core_terms.specs.View.{PatFieldTree, FieldTree, AttributeTree, NamedTree, NodeTree, BranchTree}
use Rattle.plain_tree.specs.Trees.{ArgTree, ExpTree, exp, exp_name, exp_builder, LinksTree, no_links, more_links}
use Rattle.plain_tree.specs.Trees as plain
use Rattle.source_names.specs.Scopes.{Words, Scope, under_value, under_values}
use Rattle.source_names.specs.Standing.{names_value}
use Rattle.source_names.specs.Reading.{reads_con}
use Rattle.source_terms.specs.Leaves.{form_of, builds, is_sigil}
use Rattle.source_terms.specs.Patterns.{reads_pat, pattern_names}
use Rattle.source_terms.specs.Terms.{is_given, reads_items, reads_term, reads_params, reads_links, reads_named}
use Rattle.source_terms.specs.Terms.{reads_group, reads_node, name_of, group_names}
use Rattle.xml_trees.specs.SourceNames.{attribute_text}

-- c = p in a record pattern
abbrev pub reads_pat_field : Scope → plain.PatFieldTree → PatFieldTree → Bool
reads_pat_field s (plain.pat_field at c p) g = reads_con s c g.1 && reads_pat s p g.2

-- the variables that it binds
abbrev pub field_names : plain.PatFieldTree → List Words
field_names (plain.pat_field at c p) = pattern_names p

-- what a call begins with, behind what stands before it
abbrev pub reads_head : Scope → ExpTree → Sigil → Fo → Bool
reads_head s (exp at (exp_name g p)) sigil f = is_sigil g sigil && names_value s p f
reads_head s (exp at (exp_builder g p)) sigil f = is_sigil g sigil && builds s p f
reads_head s e Plain f = reads_term s e f
reads_head s e _ f = false

-- a term with what it is applied to
abbrev pub reads_call : Scope → ExpTree → plain.ItemsTree → Fo → Bool
reads_call s e is (core.call h g js) = reads_head s e g (form_of h) && reads_items s is js
reads_call s e is _ = false

-- an item of a call, of which what is left is compared
abbrev pub reads_item : Scope → plain.ItemTree → It → Bool
reads_item s (plain.item_term e) (a_term x) = reads_term s e (form_of (strip x))
reads_item s (plain.item_con at c) (a_con p o d) = is_given s c o d
reads_item s (plain.item_guard at) (a_guard p a) = true
reads_item s _ _ = false

-- parameters and a body
abbrev pub reads_body : Scope → List ArgTree → ExpTree → Fo → Bool
reads_body s as' e f = reads_params s as' (λ t g. reads_term t e g) f

-- c = e in a record
abbrev pub reads_field : Scope → plain.FieldTree → FieldTree → Bool
reads_field s (plain.field at c e) g = reads_con s c g.1 && reads_term s e (form_of (strip g.2))

-- a = e in an element
abbrev pub reads_attribute : Scope → plain.AttributeTree → AttributeTree → Bool
reads_attribute s (plain.attribute n e) a = bytes_eq (attribute_text a.1) n.text
    && reads_term s e (form_of (strip a.2))

-- a type, where the source has it
abbrev pub reads_type : Scope → Option plain.ConTree → Bool → Cn → Bool
reads_type s None written t = not written
reads_type s (Some c) false t = false
reads_type s (Some c) true t = reads_con s c t

-- a name with its term
abbrev pub reads_name : Scope → plain.NamedTree → NamedTree → Bool
reads_name s n m = reads_named s n m.1 m.2 (if_written m.2 m.3) (form_of (strip m.4))

-- a declaration of a let, and the scope behind it
abbrev pub reads_local : Scope → plain.LocalTree → Lo → Bool
reads_local s (plain.local_val at n) (a_val p y written t x) = reads_name s n (p, y, written, t, x)
reads_local s (plain.local_rec at ns) (a_rec os) = reads_group (under_values (group_names ns) s) ns (strip_named os)
reads_local s _ _ = false

abbrev pub behind_local : plain.LocalTree → Scope → Scope
behind_local (plain.local_val at n) s = under_value (name_of n) s
behind_local (plain.local_rec at ns) s = under_values (group_names ns) s

-- so many links of a chain, from the first on
abbrev pub first_links : ℕ → LinksTree → LinksTree
first_links zero ls = no_links
first_links (suc n) no_links = no_links
first_links (suc n) (more_links l ls) = more_links l (first_links n ls)

-- a node of a page, whatever it fills
abbrev pub reads_page_node : Scope → plain.NodeTree → NodeTree → Bool
reads_page_node s n x = reads_node s n (form_of (strip x.1))

-- how many items a call has, and its nth item where that is a term
abbrev pub count : Its → ℕ
count core.no_items = 0
count (with_term x is) = suc (count is)
count (core.with_con p o c is) = suc (count is)
count (core.with_guard p a is) = suc (count is)

abbrev pub term_at : ℕ → Its → Option Ex
term_at n core.no_items = None
term_at zero (with_term x is) = Some x
term_at zero _ = None
term_at (suc n) (with_term x is) = term_at n is
term_at (suc n) (core.with_con p o c is) = term_at n is
term_at (suc n) (core.with_guard p a is) = term_at n is

-- what is left of an item, where it is a term
abbrev pub term_of : It → Option Ex
term_of (a_term x) = Some (strip x)
term_of _ = None

-- one term, two terms, where these are all items
abbrev pub one_term : Its → Option Ex
one_term (with_term x core.no_items) = Some x
one_term _ = None

abbrev pub two_terms : Its → Option (Ex × Ex)
two_terms (with_term x (with_term y core.no_items)) = Some (x, y)
two_terms _ = None

-- the only one of branches
abbrev pub one_branch : core.Brs → Option BranchTree
one_branch (core.branch p q x core.no_branches) = Some (p, q, x)
one_branch _ = None

-- whether a form is a text
abbrev pub is_text_of : Words → Fo → Bool
is_text_of t (core.text u) = bytes_eq u t
is_text_of t _ = false
