-- What patterns are as trees, and the field at a place of several.
use Rattle.std.proofs.Common.{◌≡◌, ℕ, ◌<◌, Bool, List, ◌∷◌, Option, Some, length, map, drop, get_or, suc, ap, sym, ◌∙◌, drop-cons, Box, Global}
use Rattle.con_terms.specs.Trees.{Cn, names}
use Rattle.con_terms.specs.declared.symbol.Sym.{Sym}
use Rattle.kind_rules.specs.Kinding.{judged_at}
use Rattle.core_terms.specs.Trees.{Pt, pattern, Pf, is_holding, has_fields, Pfs}
use Rattle.core_terms.specs.Lists.{pat_field_tree}
use Rattle.core_terms.specs.View.{PatFieldTree, pat_form_step, pat_step, pat_field_step, pat_fields_step, pat_tree, pat_form_tree, pat_fields_tree, pat_fields_from}
use Rattle.core_terms.specs.declared.pat.Pat.{Pat}
use Rattle.core_terms.specs.declared.pat.PatField.{PatField}
use Rattle.core_terms.specs.declared.pat.PatFields.{PatFields}
use Rattle.core_terms.specs.declared.pat.PatForm.TheOpen.{PatForm-F}
use Rattle.core_terms.specs.declared.pat.PatForm.TheVariants.{Rec}
use Rattle.core_terms.specs.declared.pat.PatForm.TheViews.{out-Pat, Build, rolls-Build, rolls-Rec}
use Rattle.core_terms.specs.declared.pat.PatForm.TheFolds.{fold_out-Pat, fold-roll-PatForm}
use Rattle.core_typing.specs.Scopes.{Sc}
use Rattle.core_typing.specs.Faults.{Fault}
use Rattle.pattern_rules.specs.Binds.{Of, stop_field, field_binding, with_told, Fb, bad_fields, after_field, binding, fields_binding}

form_is : (q : Pat) → pat_tree q ≡ pattern (out-Pat q).place (pat_form_tree (out-Pat q).form)
form_is q = fold_out-Pat Pf Pt PatFieldTree Pfs pat_form_step pat_step pat_field_step pat_fields_step q

build_tree : (d : Sym) (j : ℕ) (b : Box Pat Global) → pat_form_tree (Build d j (Some b)) ≡ is_holding d.number j (pat_tree b.value)
build_tree d j b = ap pat_form_tree (sym (rolls-Build d j (Some b))) ∙ fold-roll-PatForm Pf Pt PatFieldTree Pfs pat_form_step pat_step pat_field_step pat_fields_step (PatForm-F.Build d j (Some b))

rec_tree : (fs : PatFields) (more : Bool) → pat_form_tree (Rec fs more) ≡ has_fields (pat_fields_tree fs) more
rec_tree fs more = ap pat_form_tree (sym (rolls-Rec fs more)) ∙ fold-roll-PatForm Pf Pt PatFieldTree Pfs pat_form_step pat_step pat_field_step pat_fields_step (PatForm-F.Rec fs more)

pub holding_is : (q x : Pat) (d : Sym) (j : ℕ) (o : Option (Box Pat Global)) (b : Box Pat Global) → (out-Pat q).form ≡ Build d j o → o ≡ Some b → x ≡ b.value
    → pattern (out-Pat q).place (is_holding d.number j (pat_tree x)) ≡ pat_tree q
holding_is q x d j o b h k e =
    sym
    (form_is q
    ∙ ap (pattern (out-Pat q).place)
    (ap pat_form_tree (h ∙ ap (Build d j) k) ∙ build_tree d j b ∙ ap (λ y. is_holding d.number j (pat_tree y)) (sym e)))

pub fields_are : (q : Pat) (fs : PatFields) (more : Bool) → (out-Pat q).form ≡ Rec fs more → pattern (out-Pat q).place (has_fields (pat_fields_tree fs) more) ≡ pat_tree q
fields_are q fs more h = sym (form_is q ∙ ap (pattern (out-Pat q).place) (ap pat_form_tree h ∙ rec_tree fs more))

-- a field behind which nothing can be looked at
pub stopped : (G : Sc) (told : Option Fault) (L : List Cn) (xs : List PatField) (i : ℕ) (x : PatField) (ps : List Cn) (o : Of) (f g : Fault) (whole : Fb) → i < length xs → x ≡ get_or xs i x
    → o ≡ field_binding G (pat_field_tree x).0 (pat_field_tree x).1 ps (judged_at G.kinds (pat_field_tree x).1 names) (λ v. binding G L (pat_field_tree x).2 v)
    → o ≡ stop_field f
    → g ≡ with_told told f
    → fields_binding G told L (pat_fields_from (map pat_field_tree (drop i xs))) ps ≡ whole
    → bad_fields g ≡ whole
stopped G told L xs i x ps o f g whole h is e s w all =
    ap bad_fields w
    ∙ sym
    (ap (λ z. after_field told L z (λ t M rs. fields_binding G t M (pat_fields_from (map pat_field_tree (drop (suc i) xs))) rs)) (sym e ∙ s))
    ∙ sym
    (ap (λ ys. fields_binding G told L (pat_fields_from (map pat_field_tree ys)) ps) (drop-cons xs i x h ∙ ap (λ y. y ∷ drop (suc i) xs) (sym is)))
    ∙ all
