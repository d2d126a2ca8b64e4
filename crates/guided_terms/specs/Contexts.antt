-- Where an XML literal stands: the context that is wanted, or else that of its first tree that is spliced in, or else
-- the first that fits its nodes.
-- The tags' table.
use Rattle.std.specs.Prelude.{◌≡◌, ℕ, suc, Bool, true, false, ◌&&◌, List, [], ◌∷◌, Option, Some, None, option_map, if◌then◌else◌}
use Rattle.con_terms.specs.Trees.{Cn}
use Rattle.core_terms.specs.Markup.{Where, in_html, in_head, in_body, in_table, in_tr, context_row, Sort, a_form, an_input, a_button, stands, sort_of}
use Rattle.core_terms.specs.Trees.{Ex}
use Rattle.core_terms.specs.Types.{no_types}
use Rattle.plain_tree.specs.declared.names.Basis.TheVariants as sugar
use Rattle.plain_tree.specs.Trees.{ExpTree, exp, exp_basis, exp_call, NodeTree, node_exp, node_element, NodesTree, no_nodes, more_nodes}
use Rattle.xml_trees.specs.declared.source_name.TagName.{TagName}
use Rattle.xml_trees.specs.SourceNames.{tag_named}
use Rattle.guided_terms.specs.Forms.{Page, page_of}
use Rattle.guided_terms.specs.Heres.{Here}
use Rattle.guided_terms.specs.Parts.{gives}
use Rattle.guided_terms.specs.Wanted.{Want, nothing_ever, whole, stands_in, spliced_in, Judge, chooses}

-- a place of nodes, and whether a form is around it
pub record Ring : Type 0 where
  pub standing : Where
  pub in_form : Bool

abbrev pub free : Where → Ring
free w = record { standing = w; in_form = false }

abbrev pub same_place : Where → Where → Bool
same_place in_html in_html = true
same_place in_head in_head = true
same_place in_body in_body = true
same_place in_table in_table = true
same_place in_tr in_tr = true
same_place _ _ = false

-- a form stands where none is around; inputs and buttons stand where one is
abbrev pub fits_form : Sort → Bool → Bool
fits_form a_form o = if o then false else true
fits_form (an_input t) o = o
fits_form a_button o = o
fits_form _ o = true

abbrev pub tag_fits : TagName → Ring → Bool
tag_fits g r = same_place (stands g) r.standing && fits_form (sort_of g) r.in_form

abbrev pub named_fits : Option TagName → Ring → Bool
named_fits None r = false
named_fits (Some g) r = tag_fits g r

-- whether a node fits a place: an element whose tag does; what is no element fits all
abbrev pub node_fits : Ring → NodeTree → Bool
node_fits r (node_element at tag c as' ns) = named_fits (tag_named tag) r
node_fits r _ = true

abbrev pub all_fit : Ring → NodesTree → Bool
all_fit r no_nodes = true
all_fit r (more_nodes n ns) = node_fits r n && all_fit r ns

-- the first that fits all nodes
abbrev pub first_that_fits : List Ring → NodesTree → Option Ring
first_that_fits [] ns = None
first_that_fits (r ∷ rs) ns = if all_fit r ns then Some r else first_that_fits rs ns

-- Html, Body, Head, Table, Tr, and then Body with Form
abbrev pub rings : List Ring
rings = free in_html ∷ free in_body ∷ free in_head ∷ free in_table ∷ free in_tr
    ∷ record { standing = in_body; in_form = true } ∷ []

-- whether a node is an element
abbrev pub is_element : NodeTree → Bool
is_element (node_element at tag c as' ns) = true
is_element _ = false

abbrev pub no_element : NodesTree → Bool
no_element no_nodes = true
no_element (more_nodes n ns) = if is_element n then false else no_element ns

-- whether there are nodes, and each is a text or {[e]}
abbrev pub are_texts : NodesTree → Bool
are_texts no_nodes = false
are_texts (more_nodes n ns) = if is_element n then false else no_element ns

-- the place of nodes of which none is a tree that is spliced in; texts stand in a body
abbrev pub place_of : NodesTree → Option Ring
place_of ns = if are_texts ns then Some (free in_body) else first_that_fits rings ns

-- whether a term is txt of another, as {[e]} stands for
abbrev pub is_spliced_value : ExpTree → Bool
is_spliced_value (exp at (exp_call (exp b (exp_basis sugar.Txt)) is)) = true
is_spliced_value _ = false

-- whether a node is a tree that is spliced in
abbrev pub is_spliced_tree : NodeTree → Bool
is_spliced_tree (node_exp at e) = if is_spliced_value e then false else true
is_spliced_tree _ = false

-- where the first one stands among nodes
abbrev pub first_spliced : NodesTree → Option ℕ
first_spliced no_nodes = None
first_spliced (more_nodes n ns) = if is_spliced_tree n then Some 0 else option_map suc (first_spliced ns)

-- where nodes stand, and the fields filled before them
pub record Ground : Type 0 where
  pub context : Cn
  pub uses : Cn

-- with no fields filled
abbrev pub fresh : Cn → Ground
fresh c = record { context = c; uses = no_types }

abbrev pub ring_ground : Ring → Ground
ring_ground r = fresh (context_row r.standing r.in_form)

-- the ground that is wanted of a literal, where it is known
abbrev pub page_ground : Option Page → Option Ground
page_ground None = None
page_ground (Some p) = Some (record { context = p.context; uses = p.uses })

abbrev pub uses_or_none : Option Cn → Cn
uses_or_none None = no_types
uses_or_none (Some u) = u

abbrev pub wanted_ground : Want → Option Ground
wanted_ground (whole t) = page_ground (page_of t)
wanted_ground (spliced_in c u) = Some (record { context = c; uses = u })
wanted_ground (stands_in c u) = Some (record { context = c; uses = uses_or_none u })
wanted_ground _ = None

-- The ground of a literal, and the number of the spliced tree that told it. js judges the nodes.
pub data GroundOf (js : List Judge) (h : Here) (w : Want) (ns : NodesTree) : Ground → Option ℕ → Type 0 where
  -- the wanted one
  as_wanted : {g : Ground}
      (wanted : wanted_ground w ≡ Some g)
      → GroundOf js h w ns g None
  -- that of the first tree that is spliced in
  of_spliced : {i : ℕ} (e : Ex) (t : Cn) {p : Page}
      (unwanted : wanted_ground w ≡ None)
      (no_more_known : chooses w ≡ true)
      (spliced : first_spliced ns ≡ Some i)
      (tree : gives js i h nothing_ever e t)
      (page : page_of t ≡ Some p)
      → GroundOf js h w ns (fresh p.context) (Some i)
  -- the first that fits, where that tree is no page
  of_no_page : {i : ℕ} (e : Ex) (t : Cn) {r : Ring}
      (unwanted : wanted_ground w ≡ None)
      (no_more_known : chooses w ≡ true)
      (spliced : first_spliced ns ≡ Some i)
      (tree : gives js i h nothing_ever e t)
      (no_page : page_of t ≡ None)
      (fits : place_of ns ≡ Some r)
      → GroundOf js h w ns (ring_ground r) (Some i)
  -- the first that fits, where no tree is spliced in
  of_nodes : {r : Ring}
      (unwanted : wanted_ground w ≡ None)
      (no_more_known : chooses w ≡ true)
      (none_spliced : first_spliced ns ≡ None)
      (fits : place_of ns ≡ Some r)
      → GroundOf js h w ns (ring_ground r) None
