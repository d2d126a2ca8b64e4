-- Steps of the walk: what a function's answer says of the whole.
use Rattle.std.proofs.Common.{Box, Global, ◌≡◌, ℕ, ◌+◌, Bool, true, List, [], ◌∷◌, drop, Option, Some, slice_get, Result, Ok, Err, IfOk, ap, sym, subst, ◌∙◌}
use Rattle.con_terms.specs.Trees.{Kd, Cn}
use Rattle.con_terms.specs.View.{con_tree}
use Rattle.con_terms.specs.declared.place.Place.{Place}
use Rattle.core_terms.specs.Trees.{Pt, Ex, Fo, fn, It, Lo, a_rec, node, Its, Nms, Los, Brs, Fds, El, Ats, Xs, Exs}
use Rattle.core_terms.specs.View.{AttributeTree, BranchTree, FieldTree, LiteralTree, NamedTree, NodeTree, exp_tree, form_tree, pat_tree, named_list_tree, with_local, form_step, item_step, local_step, attribute_step, attributes_step, branch_step, branches_step, element_step, exp_step, exps_step, field_step, fields_step, items_step, literal_step, locals_step, named_step, named_list_step, node_step, nodes_step}
use Rattle.core_terms.specs.Lists.{local_tree}
use Rattle.core_terms.specs.declared.exp.Exp.{Exp}
use Rattle.core_terms.specs.declared.exp.Form.TheVariants as form
use Rattle.core_terms.specs.declared.exp.Local.TheVariants as local
use Rattle.core_terms.specs.declared.exp.NamedList.{NamedList}
use Rattle.core_terms.specs.declared.pat.Pat.{Pat}
use Rattle.con_terms.specs.declared.con.Con.{Con}
use Rattle.core_terms.specs.declared.exp.Form.TheOpen.{Form-F, Local-F}
use Rattle.core_terms.specs.declared.exp.Form.TheViews.{out-Exp, rolls-Fn, rolls-ValRec}
use Rattle.core_terms.specs.declared.exp.Form.TheFolds.{fold_out-Exp, fold-roll-Form, fold-roll-Local}
use Rattle.core_typing.specs.Faults.{Fault}
use Rattle.core_typing.specs.Scopes.{Sc, under, under_con}
use Rattle.core_typing.specs.Typed.{named_types}
use Rattle.told_faults.specs.Computed.{Jd}
use Rattle.node_rules.specs.Functions.{of_body, of_fn_con}
use Rattle.node_rules.specs.Locals.{Ls}
use Rattle.node_rules.specs.Records.{Rw}
use Rattle.pattern_rules.specs.Matching.{Uncovered}
use Rattle.judged_terms.specs.Listed.{name_terms, field_found, fields_found, name_found, names_found, named_found}
use Rattle.judged_terms.specs.Judge.{Judges, FormJudges, JudgesAll, LocalsJudge, Missed, OfFunction}
use Rattle.judged_terms.proofs.Listed.{names_judged}
use Rattle.core_checker.specs.Parts.{FnConJudges}
use Rattle.core_checker.proofs.Listed.{fields_step as fields_go, names_step as names_go}

-- one more field, and one more name
pub fields_turn : (G : Sc) (J K : List Jd) (j : Jd) (fs : List FieldTree) (i : ℕ) (x : FieldTree) (a b whole : Rw) → J ≡ j ∷ K → slice_get fs i ≡ Some x → b ≡ field_found G x j a → fields_found G J (drop i fs) a ≡ whole → fields_found G K (drop (i + 1) fs) b ≡ whole
fields_turn G J K j fs i x a b whole e s k h =
    ap (λ (r : Rw). fields_found G K (drop (i + 1) fs) r) k ∙ sym (fields_go G j K fs i x a s)
    ∙ ap (λ (z : List Jd). fields_found G z (drop i fs) a) (sym e) ∙ h

pub names_turn : (G : Sc) (J K : List Jd) (j : Jd) (ns : List NamedTree) (i : ℕ) (x : NamedTree) (a b whole : Ls) → J ≡ j ∷ K → slice_get ns i ≡ Some x → b ≡ name_found G x j a → names_found G J (drop i ns) a ≡ whole → names_found G K (drop (i + 1) ns) b ≡ whole
names_turn G J K j ns i x a b whole e s k h =
    ap (λ (r : Ls). names_found G K (drop (i + 1) ns) r) k ∙ sym (names_go G j K ns i x a s)
    ∙ ap (λ (z : List Jd). names_found G z (drop i ns) a) (sym e) ∙ h

-- what cover tells
pub bound_missed : {X E : Type 0} (R : Result X E) (v : X → Option Fault) (G : Sc) (p : Place) (b : Bool) (ps rs : List Pt) (t : Cn) → b ≡ true → ps ≡ rs → IfOk R (λ o. Uncovered G p ps t (v o)) → IfOk R (λ o. Missed G p b rs t (v o))
bound_missed R v G p b ps rs t h e x =
    subst (λ (z : Bool). IfOk R (λ o. Missed G p z rs t (v o))) (sym h)
    (subst (λ (z : List Pt). IfOk R (λ o. Uncovered G p z t (v o))) e x)

pub function_of : {X E : Type 0} (R : Result X E) (v : X → Jd) (G : Sc) (p : Place) (q : Pt) (t : Cn) (i : Jd) (o : Option Fault) → Uncovered G p (q ∷ []) t o → IfOk R (λ r. v r ≡ of_body t o i) → IfOk R (λ r. OfFunction G p q t i (v r))
function_of (Ok x) v G p q t i o u h = (o, (u, h))
function_of (Err x) v G p q t i o u h = tt

-- a term, from its form
exp_is : (e : Exp) → exp_tree e ≡ node (out-Exp e).place (out-Exp e).added (form_tree (out-Exp e).form)
exp_is e = fold_out-Exp Fo It Lo AttributeTree Ats BranchTree Brs El Ex Exs FieldTree Fds Its LiteralTree Los NamedTree Nms NodeTree Xs form_step item_step local_step attribute_step attributes_step branch_step branches_step element_step exp_step exps_step field_step fields_step items_step literal_step locals_step named_step named_list_step node_step nodes_step e

pub exp_judges : {X E : Type 0} (R : Result X E) (v : X → Jd) (G : Sc) (e : Exp) (f : Fo) → form_tree (out-Exp e).form ≡ f → IfOk R (λ r. FormJudges G (out-Exp e).place f (v r)) → IfOk R (λ r. Judges G (exp_tree e) (v r))
exp_judges R v G e f h x =
    subst (λ (z : Ex). IfOk R (λ r. Judges G z (v r))) (sym (exp_is e))
    (subst (λ (z : Fo). IfOk R (λ r. FormJudges G (out-Exp e).place z (v r))) (sym h) x)

-- what forms are
pub fn_form : (q : Box Pat Global) (t : Con) (e : Box Exp Global) → form_tree (form.Fn q t e) ≡ fn (pat_tree q.value) (con_tree t) (exp_tree e.value)
fn_form q t e = ap form_tree (sym (rolls-Fn q t e)) ∙ fold-roll-Form Fo It Lo AttributeTree Ats BranchTree Brs El Ex Exs FieldTree Fds Its LiteralTree Los NamedTree Nms NodeTree Xs form_step item_step local_step attribute_step attributes_step branch_step branches_step element_step exp_step exps_step field_step fields_step items_step literal_step locals_step named_step named_list_step node_step nodes_step (Form-F.Fn q t e)

pub rec_form : (ns : NamedList) → local_tree (local.ValRec ns) ≡ a_rec (named_list_tree ns)
rec_form ns = ap local_tree (sym (rolls-ValRec ns)) ∙ fold-roll-Local Fo It Lo AttributeTree Ats BranchTree Brs El Ex Exs FieldTree Fds Its LiteralTree Los NamedTree Nms NodeTree Xs form_step item_step local_step attribute_step attributes_step branch_step branches_step element_step exp_step exps_step field_step fields_step items_step literal_step locals_step named_step named_list_step node_step nodes_step (Local-F.ValRec ns)

-- fn [x :: k] => e
pub fn_con_of : {X E : Type 0} (R : Result X E) (v : X → Jd) (G H : Sc) (x : ℕ) (i : Bool) (k : Kd) (e : Ex) (b : Jd) → H ≡ under_con x k G → Judges H e b → IfOk R (λ r. v r ≡ of_fn_con i k b) → IfOk R (λ r. FnConJudges G x i k e (v r))
fn_con_of (Ok r) v G H x i k e b h y z = (b, (subst (λ (w : Sc). Judges w e b) h y, z))
fn_con_of (Err r) v G H x i k e b h y z = tt

-- names that are declared together in a let
pub rec_local : {X E : Type 0} (R : Result X E) (sc : X → Sc) (ls : X → Ls) (G I : Sc) (a : Ls) (l : Lo) (ns : Nms) (js : List Jd) → l ≡ a_rec ns → I ≡ under (named_types ns) G → JudgesAll I (name_terms ns) js → IfOk R (λ r. sc r ≡ I) → IfOk R (λ r. ls r ≡ named_found G ns js a) → IfOk R (λ r. (rest : Los) (H : Sc) (u : Ls) → LocalsJudge (sc r) (ls r) rest H u → LocalsJudge G a (with_local l rest) H u)
rec_local (Ok r) sc ls G I a l ns js k e x h p = λ rest H u y.
    subst (λ (z : Lo). LocalsJudge G a (with_local z rest) H u) (sym k) (
      js,
      (
        names_judged (under (named_types ns) G) ns js (subst (λ (z : Sc). JudgesAll z (name_terms ns) js) e x),
        subst (λ (z : Sc). LocalsJudge z (named_found G ns js a) rest H u) (h ∙ e)
            (subst (λ (z : Ls). LocalsJudge (sc r) z rest H u) p y),
      ),
    )
rec_local (Err r) sc ls G I a l ns js k e x h p = tt
