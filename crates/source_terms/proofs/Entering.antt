-- Parameters, and links, one after another.
use Rattle.std.proofs.Common.{◌≡◌, ◌≢◌, ℕ, suc, ◌+◌, ◌-◌, ◌<◌, ◌≤◌, Bool, false, ◌&&◌, List, length, get_or, drop}
use Rattle.std.proofs.Common.{map, Option, Some, None, refl, ap, sym, ◌∙◌, arith}
use Rattle.std.specs.Borrow.{Bor}
use Rattle.std.proofs.lemmas.List.{at_drop_more, at_drop_all}
use Rattle.core_terms.specs.Trees.{Fo}
use Rattle.core_terms.specs.declared.exp.Exp.{Exp}
use Rattle.plain_tree.specs.ExpView as view
use Rattle.plain_tree.specs.declared.arg.Arg.{Arg}
use Rattle.plain_tree.specs.declared.exp.Form.TheViews.{out-Links}
use Rattle.plain_tree.specs.declared.exp.Link.{Link}
use Rattle.plain_tree.specs.declared.exp.Links.{Links}
use Rattle.source_names.specs.Scopes.{Scope}
use Rattle.source_terms.specs.Parts.{first_links}
use Rattle.source_terms.specs.Terms.{reads_param, reads_params, reads_link, reads_links}
use Rattle.source_terms.proofs.Chaining.{chain_link}

pub params_at : (s : Scope) (as' : List Arg) (i : ℕ) (a : Arg) (inside : Scope → Fo → Bool) (f : Fo)
    → i < length as' → a ≡ get_or as' i a
    → reads_params s (map view.arg_tree (drop i as')) inside f
    ≡ reads_param s (view.arg_tree a) (λ t g. reads_params t (map view.arg_tree (drop (i + 1) as')) inside g) f
params_at s as' i a inside f h e =
    at_drop_more (λ zs. reads_params s (map view.arg_tree zs) inside f) as' i a h
    ∙ ap (λ z. reads_param s (view.arg_tree z) (λ t g. reads_params t (map view.arg_tree (drop (i + 1) as')) inside
    g) f) (sym e)

pub params_end : (s : Scope) (as' : List Arg) (i : ℕ) (inside : Scope → Fo → Bool) (f : Fo) → length as' ≤ i
    → reads_params s (map view.arg_tree (drop i as')) inside f ≡ inside s f
params_end s as' i inside f h = at_drop_all (λ zs. reads_params s (map view.arg_tree zs) inside f) as' i h

-- one link less
pub link_of : (s : Scope) (first : Fo → Bool) (ls : Links) (i m : ℕ) (l : Link) (f : Fo)
    → i < length (out-Links ls).items.items
    → m ≡ length (out-Links ls).items.items - 1 - i → l ≡ get_or (out-Links ls).items.items m l
    → reads_links s (first_links (length (out-Links ls).items.items - i) (view.links_tree ls)) first f
    ≡ reads_link s (view.link_tree l) (λ g. reads_links s
    (first_links (length (out-Links ls).items.items - (i + 1)) (view.links_tree ls)) first g) f
link_of s first ls i m l f h k e =
    let n = length (out-Links ls).items.items in
    let w : n - (i + 1) ≡ m = omega arith in
    sym (chain_link s first ls (n - i) m l f (λ z. omega arith) (omega arith) (omega arith) e)
    ∙ ap (λ o. reads_link s (view.link_tree l) (λ g. reads_links s (first_links o (view.links_tree ls)) first g) f)
    (sym w)

pub links_end : (s : Scope) (first : Fo → Bool) (ls : Links) (n : ℕ) (f : Fo) → n ≡ 0
    → reads_links s (first_links n (view.links_tree ls)) first f ≡ first f
links_end s first ls n f h = ap (λ o. reads_links s (first_links o (view.links_tree ls)) first f) h

-- What stands before the link at a place is what the links before it are read of.
pub chain_step : (s : Scope) (first : Fo → Bool) (ls : Links) (i m : ℕ) (l : Link) (f g : Fo)
    (whole before after found : Bool)
    → i < length (out-Links ls).items.items → m ≡ length (out-Links ls).items.items - 1 - i
    → l ≡ get_or (out-Links ls).items.items m l
    → whole ≡ (reads_links s (first_links (length (out-Links ls).items.items - i) (view.links_tree ls)) first f
    && before)
    → g ≡ f
    → (found && after) ≡ (reads_link s (view.link_tree l)
    (λ h. reads_links s (first_links (length (out-Links ls).items.items - (i + 1)) (view.links_tree ls)) first h) g
    && before)
    → whole ≡ (found && after)
chain_step s first ls i m l f g whole before after found h k e so same step =
    let n = length (out-Links ls).items.items in
    so
    ∙ ap (λ z. z && before) (link_of s first ls i m l f h k e)
    ∙ ap (λ z. reads_link s (view.link_tree l)
    (λ o. reads_links s (first_links (n - (i + 1)) (view.links_tree ls)) first o) z && before) (sym same)
    ∙ sym step
