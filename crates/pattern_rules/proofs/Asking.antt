-- The patterns of branches, one after another.
use Rattle.std.proofs.Common.{◌≡◌, ℕ, ◌+◌, ◌<◌, ◌≤◌, List, [], ◌∷◌, ◌++◌, length, map, take, get_or, refl, ap, sym, subst, ◌∙◌, take_all}
use Rattle.std.proofs.lemmas.List.{map_more}
use Rattle.core_terms.specs.Trees.{Pt, Ex, Fo, Its, Nms, Los, Brs, no_branches, branch, Fds, El, Ats, Xs, Exs, It, Lo}
use Rattle.core_terms.specs.View.{AttributeTree, BranchTree, FieldTree, NamedTree, NodeTree, LiteralTree, form_step, item_step, local_step, attribute_step, attributes_step, branch_step, branches_step, element_step, exp_step, exps_step, field_step, fields_step, items_step, literal_step, locals_step, named_step, named_list_step, node_step, nodes_step, branches_tree, pat_tree}
use Rattle.core_terms.specs.Lists.{branch_list, branch_tree}
use Rattle.core_terms.specs.declared.pat.Pat.{Pat}
use Rattle.core_terms.specs.declared.exp.Branch.{Branch}
use Rattle.core_terms.specs.declared.exp.Branches.{Branches}
use Rattle.core_terms.specs.declared.exp.Form.TheViews.{out-Branches, out-Branch}
use Rattle.core_terms.specs.declared.exp.Form.TheFolds.{fold_out-Branch}
use Rattle.core_terms.proofs.Elements.{branch_listed}
use Rattle.core_typing.specs.Typed.{branch_patterns}
use Rattle.match_cover.specs.Rows.{Row}
use Rattle.match_cover.specs.Laws.{Asks}

abbrev pub pattern_of : Branch → Pt
pattern_of b = (branch_tree b).1

pub pattern_is : (b : Branch) → pat_tree (out-Branch b).pat ≡ pattern_of b
pattern_is b = sym (ap (λ (t : BranchTree). t.1) (fold_out-Branch Fo It Lo AttributeTree Ats BranchTree Brs El Ex Exs FieldTree Fds Its LiteralTree Los NamedTree Nms NodeTree Xs form_step item_step local_step attribute_step attributes_step branch_step branches_step element_step exp_step exps_step field_step fields_step items_step literal_step locals_step named_step named_list_step node_step nodes_step b))

listed : (bs : Brs) → branch_patterns bs ≡ map (λ (b : BranchTree). b.1) (branch_list bs)
listed no_branches = refl
listed (branch p q e bs) = ap (λ ps. q ∷ ps) (listed bs)

both : (xs : List Branch) → map (λ (b : BranchTree). b.1) (map branch_tree xs) ≡ map pattern_of xs
both [] = refl
both (x ∷ xs) = ap (λ ps. pattern_of x ∷ ps) (both xs)

pub all_patterns : (bs : Branches) → branch_patterns (branches_tree bs) ≡ map pattern_of (out-Branches bs).items.items
all_patterns bs = listed (branches_tree bs) ∙ ap (map (λ (b : BranchTree). b.1)) (branch_listed bs) ∙ both (out-Branches bs).items.items

-- one more
pub asks_on : (q : Pt) (xs : List Branch) (i : ℕ) (x : Branch) (p : Pat) (rows more : List Row) (d e : ℕ) → i < length xs → x ≡ get_or xs i x → pat_tree p ≡ pattern_of x
    → Asks (q ∷ map pattern_of (take i xs)) rows d
    → ((ps : List Pt) → Asks ps rows d → Asks (ps ++ pat_tree p ∷ []) more e)
    → Asks (q ∷ map pattern_of (take (i + 1) xs)) more e
asks_on q xs i x p rows more d e h is this a go =
    subst (λ (ps : List Pt). Asks (q ∷ ps) more e)
    (ap (λ (y : Pt). map pattern_of (take i xs) ++ y ∷ []) (this ∙ ap pattern_of is) ∙ sym (map_more pattern_of xs i x h))
    (go (q ∷ map pattern_of (take i xs)) a)

-- all of them
pub asks_all : (q : Pt) (bs : Branches) (i : ℕ) (rows : List Row) (d : ℕ) → length (out-Branches bs).items.items ≤ i
    → Asks (q ∷ map pattern_of (take i (out-Branches bs).items.items)) rows d
    → Asks (q ∷ branch_patterns (branches_tree bs)) rows d
asks_all q bs i rows d h a =
    subst (λ (ps : List Pt). Asks (q ∷ ps) rows d)
    (ap (map pattern_of) (take_all i (out-Branches bs).items.items h) ∙ sym (all_patterns bs))
    a
