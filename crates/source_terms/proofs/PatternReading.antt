-- A pattern of the source doesn't tell the types of its variables, so that it doesn't matter whether they are left.
use Rattle.std.proofs.Common.{◌≡◌, Bool, false, ◌&&◌, ℕ, suc, List, [], ◌∷◌, length, map, drop, refl, ap, sym}
use Rattle.std.proofs.Common.{◌∙◌}
use Rattle.core_terms.specs.Lists.{pat_field_tree}
use Rattle.core_terms.specs.Strip.{strip_pattern, strip_pattern_form, strip_pattern_fields}
use Rattle.core_terms.specs.Trees.{Pt, pattern, Pf, any, binds, is_number, is_text, is_bare, is_holding, has_fields}
use Rattle.core_terms.specs.Trees.{annotated}
use Rattle.core_terms.specs.Trees.{Pfs, no_pat_fields, pat_field}
use Rattle.core_terms.specs.View.{PatFieldTree, pat_fields_from, pat_fields_tree, pat_form_step, pat_step}
use Rattle.core_terms.specs.View.{pat_field_step, pat_fields_step}
use Rattle.core_terms.specs.declared.pat.PatField.{PatField}
use Rattle.core_terms.specs.declared.pat.PatFields.{PatFields}
use Rattle.core_terms.specs.declared.pat.PatForm.TheFolds.{fold_out-PatFields}
use Rattle.core_terms.specs.declared.pat.PatForm.TheViews.{out-PatFields}
use Rattle.plain_tree.specs.ConView as plain_view
use Rattle.plain_tree.specs.declared.pat.PatField as plain_rec
use Rattle.plain_tree.specs.declared.pat.PatFields as plain_list
use Rattle.plain_tree.specs.declared.pat.PatForm.TheFolds as plain_folds
use Rattle.plain_tree.specs.declared.pat.PatForm.TheViews as plain_views
use Rattle.plain_tree.specs.Trees.{PatTree, pat, PatFormTree, pat_any, pat_bind, pat_int, pat_words, pat_bare}
use Rattle.plain_tree.specs.Trees.{pat_holding, pat_rec, pat_typed, PatFieldsTree, more_pat_fields}
use Rattle.plain_tree.specs.Trees as plain
use Rattle.row_normal.specs.SameTree.{flag_eq}
use Rattle.source_names.specs.Scopes.{Scope}
use Rattle.source_names.specs.Reading.{reads_con}
use Rattle.source_terms.proofs.Pairs.{both}
use Rattle.source_terms.specs.Parts.{reads_pat_field}
use Rattle.source_terms.specs.Patterns.{is_builder, reads_pat, reads_pat_form, reads_pat_fields}

mutual
  pub reads_stripped : (s : Scope) (p : PatTree) (q : Pt) → reads_pat s p (strip_pattern q) ≡ reads_pat s p q
  reads_stripped s (pat at f) (pattern p g) = form_stripped s f g

  form_stripped : (s : Scope) (f : PatFormTree) (g : Pf) → reads_pat_form s f (strip_pattern_form g)
      ≡ reads_pat_form s f g
  form_stripped s (pat_bind x) (binds y t) = refl
  form_stripped s (pat_holding b p) (is_holding d i q) = ap (λ r. is_builder s b d i && r) (reads_stripped s p q)
  form_stripped s (pat_rec fs more) (has_fields gs others) =
      ap (λ r. flag_eq more others && r) (fields_stripped s fs gs)
  form_stripped s (pat_typed p c) (annotated q t) = ap (λ r. reads_con s c t && r) (reads_stripped s p q)
  form_stripped s _ any = refl
  form_stripped s _ (is_number z) = refl
  form_stripped s _ (is_text t) = refl
  form_stripped s _ (is_bare d i) = refl
  form_stripped s f (binds y t) = refl
  form_stripped s f (is_holding d i q) = refl
  form_stripped s f (has_fields gs more) = refl
  form_stripped s f (annotated q t) = refl

  fields_stripped : (s : Scope) (fs : PatFieldsTree) (gs : Pfs) → reads_pat_fields s fs (strip_pattern_fields gs)
      ≡ reads_pat_fields s fs gs
  fields_stripped s plain.no_pat_fields no_pat_fields = refl
  fields_stripped s plain.no_pat_fields (pat_field r d q gs) = refl
  fields_stripped s (more_pat_fields (plain.pat_field at c p) fs) no_pat_fields = refl
  fields_stripped s (more_pat_fields (plain.pat_field at c p) fs) (pat_field r d q gs) =
      ap (λ a. reads_con s c d && a && reads_pat_fields s fs (strip_pattern_fields gs)) (reads_stripped s p q)
      ∙ ap (λ a. reads_con s c d && reads_pat s p q && a) (fields_stripped s fs gs)

first_none : (s : Scope) (f : plain.PatFieldTree) (fs : PatFieldsTree)
    → reads_pat_fields s (more_pat_fields f fs) no_pat_fields ≡ false
first_none s (plain.pat_field at c p) fs = refl

first_field : (s : Scope) (f : plain.PatFieldTree) (fs : PatFieldsTree) (g : PatFieldTree) (gs : Pfs) (b : Bool)
    → reads_pat_fields s fs gs ≡ b
    → reads_pat_fields s (more_pat_fields f fs) (pat_field g.0 g.1 g.2 gs) ≡ (reads_pat_field s f g && b)
first_field s (plain.pat_field at c p) fs g gs b h =
    ap (λ a. reads_con s c g.1 && reads_pat s p g.2 && a) h

-- the fields of a record one by one
pub fields_both : (s : Scope) (xs : List plain_rec.PatField) (ys : List PatField)
    → reads_pat_fields s (plain_view.pat_fields_from (map plain_view.pat_field_tree xs))
    (pat_fields_from (map pat_field_tree ys))
    ≡ both (λ x y. reads_pat_field s (plain_view.pat_field_tree x) (pat_field_tree y)) xs ys
fields_both s [] [] = refl
fields_both s [] (y ∷ ys) = refl
fields_both s (x ∷ xs) [] = first_none s (plain_view.pat_field_tree x) _
fields_both s (x ∷ xs) (y ∷ ys) = first_field s (plain_view.pat_field_tree x) _ (pat_field_tree y) _ _
    (fields_both s xs ys)

pub fields_whole : (s : Scope) (fs : plain_list.PatFields) (gs : PatFields)
    → reads_pat_fields s (plain_view.pat_fields_tree fs) (pat_fields_tree gs)
    ≡ both (λ x y. reads_pat_field s (plain_view.pat_field_tree x) (pat_field_tree y))
    (plain_views.out-PatFields fs).items.items (out-PatFields gs).items.items
fields_whole s fs gs =
    ap (λ a. reads_pat_fields s a (pat_fields_tree gs)) (plain_folds.fold_out-PatFields PatFormTree PatTree
    plain.PatFieldTree PatFieldsTree plain_view.pat_form_step plain_view.pat_step plain_view.pat_field_step
    plain_view.pat_fields_step fs)
    ∙ ap (λ a. reads_pat_fields s (plain_view.pat_fields_from
    (map plain_view.pat_field_tree (plain_views.out-PatFields fs).items.items)) a)
    (fold_out-PatFields Pf Pt PatFieldTree Pfs pat_form_step pat_step pat_field_step pat_fields_step gs)
    ∙ fields_both s (plain_views.out-PatFields fs).items.items (out-PatFields gs).items.items
