-- Chains by their last link.
use Rattle.std.proofs.Common.{◌≡◌, ◌≢◌, ℕ, zero, suc, ◌-◌, ◌<◌, ◌≤◌, Bool, List, [], ◌∷◌, length, get_or, map, refl}
use Rattle.std.proofs.Common.{ap, sym, ◌∙◌, arith}
use Rattle.core_terms.specs.Trees.{Fo}
use Rattle.plain_tree.specs.ExpView as view
use Rattle.plain_tree.specs.Trees as plain
use Rattle.plain_tree.specs.Trees.{LinkTree, LinksTree, no_links, more_links}
use Rattle.plain_tree.specs.declared.exp.Form.TheFolds.{fold_out-Links}
use Rattle.plain_tree.specs.declared.exp.Form.TheViews.{out-Links}
use Rattle.plain_tree.specs.declared.exp.Link.{Link}
use Rattle.plain_tree.specs.declared.exp.Links.{Links}
use Rattle.source_names.specs.Scopes.{Scope}
use Rattle.source_terms.specs.Parts.{first_links}
use Rattle.source_terms.specs.Terms.{reads_link, reads_links}

pub links_are : (ls : Links) → view.links_tree ls ≡ view.links_from (map view.link_tree (out-Links ls).items.items)
links_are ls = fold_out-Links plain.FormTree plain.ItemTree plain.LinkTree plain.LocalTree plain.NodeTree
    plain.AttributeTree plain.AttributesTree plain.BranchTree plain.BranchesTree plain.ExpTree plain.ExpsTree
    plain.FieldTree plain.FieldsTree plain.ItemsTree plain.LinksTree plain.LocalsTree plain.NamedTree
    plain.NamedListTree plain.NodesTree view.form_step view.item_step view.link_step view.local_step view.node_step
    view.attribute_step view.attributes_step view.branch_step view.branches_step view.exp_step view.exps_step
    view.field_step view.fields_step view.items_step view.links_step view.locals_step view.named_step
    view.named_list_step view.nodes_step ls

last_link : (s : Scope) (first : Fo → Bool) (ls : List Link) (n : ℕ) (l : Link) (f : Fo) → n < length ls → l
    ≡ get_or ls n l
    → reads_links s (first_links (suc n) (view.links_from (map view.link_tree ls))) first f
    ≡ reads_link s (view.link_tree l) (λ g. reads_links s (first_links n (view.links_from (map view.link_tree ls)))
    first g) f
last_link s first [] n l f h e = absurd (omega (arith, h))
last_link s first (x ∷ ls) zero l f h e = ap (λ y. reads_link s (view.link_tree y) first f) (sym e)
last_link s first (x ∷ ls) (suc n) l f h e = let k : n < length ls = omega (arith, h) in
    last_link s (λ g. reads_link s (view.link_tree x) first g) ls n l f k e

none_further : (ls : List Link) (n : ℕ) → length ls ≤ n
    → first_links (suc n) (view.links_from (map view.link_tree ls))
    ≡ first_links n (view.links_from (map view.link_tree ls))
none_further [] zero h = refl
none_further [] (suc n) h = refl
none_further (x ∷ ls) zero h = absurd (omega (arith, h))
none_further (x ∷ ls) (suc n) h = let k : length ls ≤ n = omega (arith, h) in
    ap (more_links (view.link_tree x)) (none_further ls n k)

all_links : (ls : List Link) → first_links (length ls) (view.links_from (map view.link_tree ls))
    ≡ view.links_from (map view.link_tree ls)
all_links [] = refl
all_links (x ∷ ls) = ap (more_links (view.link_tree x)) (all_links ls)

-- behind a link stands all that is before it
pub chain_link : (s : Scope) (first : Fo → Bool) (ls : Links) (n m : ℕ) (l : Link) (f : Fo) → n ≢ 0 → m ≡ n - 1
    → m < length (out-Links ls).items.items
    → l ≡ get_or (out-Links ls).items.items m l
    → reads_link s (view.link_tree l) (λ g. reads_links s (first_links m (view.links_tree ls)) first g) f
    ≡ reads_links s (first_links n (view.links_tree ls)) first f
chain_link s first ls n m l f z k h e =
    let w : n ≡ suc m = omega arith in
    ap (λ t. reads_link s (view.link_tree l) (λ g. reads_links s (first_links m t) first g) f) (links_are ls)
    ∙ sym (last_link s first (out-Links ls).items.items m l f h e)
    ∙ ap (λ t. reads_links s (first_links (suc m) t) first f) (sym (links_are ls))
    ∙ ap (λ i. reads_links s (first_links i (view.links_tree ls)) first f) (sym w)

-- a chain has no link at a place behind its last
pub chain_past : (s : Scope) (first : Fo → Bool) (ls : Links) (n m : ℕ) (f : Fo) → n ≢ 0 → m ≡ n - 1
    → length (out-Links ls).items.items ≤ m
    → reads_links s (first_links m (view.links_tree ls)) first f
    ≡ reads_links s (first_links n (view.links_tree ls)) first f
chain_past s first ls n m f z k h =
    let w : n ≡ suc m = omega arith in
    ap (λ t. reads_links s (first_links m t) first f) (links_are ls)
    ∙ sym (ap (λ t. reads_links s t first f) (none_further (out-Links ls).items.items m h))
    ∙ ap (λ t. reads_links s (first_links (suc m) t) first f) (sym (links_are ls))
    ∙ ap (λ i. reads_links s (first_links i (view.links_tree ls)) first f) (sym w)

-- all of them
pub chain_whole : (s : Scope) (first : Fo → Bool) (ls : Links) (n : ℕ) (f : Fo) → n
    ≡ length (out-Links ls).items.items
    → reads_links s (first_links n (view.links_tree ls)) first f ≡ reads_links s (view.links_tree ls) first f
chain_whole s first ls n f h =
    ap (λ i. reads_links s (first_links i (view.links_tree ls)) first f) h
    ∙ ap (λ t. reads_links s (first_links (length (out-Links ls).items.items) t) first f) (links_are ls)
    ∙ ap (λ t. reads_links s t first f) (all_links (out-Links ls).items.items)
    ∙ ap (λ t. reads_links s t first f) (sym (links_are ls))
