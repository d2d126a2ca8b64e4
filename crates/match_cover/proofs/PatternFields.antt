-- What the fields of a record pattern ask, and how deep they are, from the last to the first.
use Rattle.std.proofs.Common.{◌≡◌, ℕ, ◌+◌, ◌<◌, max, List, ◌∷◌, Option, map, drop, get_or, length, ap, sym, ◌∙◌}
use Rattle.std.proofs.lemmas.List.{drop_more}
use Rattle.con_terms.specs.Trees.{Cn}
use Rattle.con_terms.specs.View.{con_tree}
use Rattle.core_terms.specs.Trees.{Pt, Pf, Pfs, pat_field}
use Rattle.core_terms.specs.Lists.{pat_field_tree}
use Rattle.core_terms.specs.View.{PatFieldTree, pat_tree, pat_fields_tree, pat_fields_from, pat_form_step, pat_step, pat_field_step, pat_fields_step}
use Rattle.core_terms.specs.declared.pat.PatField.{PatField, out-PatField}
use Rattle.core_terms.specs.declared.pat.PatFields.{PatFields, out-PatFields}
use Rattle.core_terms.specs.declared.pat.PatForm.TheFolds.{fold_out-PatField, fold_out-PatFields}
use Rattle.core_typing.specs.Scopes.{normal_of}
use Rattle.core_typing.specs.Cover.{pattern_depth, fields_depth}
use Rattle.match_cover.specs.Tests.{Ts, Tfs, test_at, test_of, fields_test}

pub fields_tree_is : (fs : PatFields) → pat_fields_tree fs ≡ pat_fields_from (map pat_field_tree (out-PatFields fs).items.items)
fields_tree_is fs = fold_out-PatFields Pf Pt PatFieldTree Pfs pat_form_step pat_step pat_field_step pat_fields_step fs

field_tree_is : (f : PatField) → pat_field_tree f ≡ ((out-PatField f).place, con_tree (out-PatField f).name, pat_tree (out-PatField f).pat)
field_tree_is f = fold_out-PatField Pf Pt PatFieldTree Pfs pat_form_step pat_step pat_field_step pat_fields_step f

one_more : (fs : List PatField) (i j : ℕ) (f : PatField) → j ≡ i + 1 → i < length fs → f ≡ get_or fs i f
    → pat_fields_from (map pat_field_tree (drop i fs)) ≡ pat_field (out-PatField f).place (con_tree (out-PatField f).name) (pat_tree (out-PatField f).pat) (pat_fields_from (map pat_field_tree (drop j fs)))
one_more fs i j f k h is =
    ap (λ xs. pat_fields_from (map pat_field_tree xs)) (drop_more fs i f h)
    ∙ ap (λ x. pat_fields_from (pat_field_tree x ∷ map pat_field_tree (drop (i + 1) fs))) (sym is)
    ∙ ap (λ (t : PatFieldTree). pat_field t.0 t.1 t.2 (pat_fields_from (map pat_field_tree (drop (i + 1) fs)))) (field_tree_is f)
    ∙ ap (λ n. pat_field (out-PatField f).place (con_tree (out-PatField f).name) (pat_tree (out-PatField f).pat) (pat_fields_from (map pat_field_tree (drop n fs)))) (sym k)

pub depth_on : (fs : List PatField) (i j : ℕ) (f : PatField) (d e : ℕ) → j ≡ i + 1 → i < length fs → f ≡ get_or fs i f
    → e ≡ fields_depth (pat_fields_from (map pat_field_tree (drop j fs)))
    → d ≡ max (pattern_depth (pat_tree (out-PatField f).pat)) e
    → d ≡ fields_depth (pat_fields_from (map pat_field_tree (drop i fs)))
depth_on fs i j f d e k h is before now =
    now ∙ ap (λ n. max (pattern_depth (pat_tree (out-PatField f).pat)) n) before ∙ ap fields_depth (sym (one_more fs i j f k h is))

pub tests_on : (fs : List PatField) (i j : ℕ) (f : PatField) (ts us : Tfs) (n : Option Cn) (t : Ts) → j ≡ i + 1 → i < length fs → f ≡ get_or fs i f
    → us ≡ fields_test (pat_fields_from (map pat_field_tree (drop j fs)))
    → n ≡ normal_of (con_tree (out-PatField f).name)
    → t ≡ test_of (pat_tree (out-PatField f).pat)
    → ts ≡ test_at n t us
    → ts ≡ fields_test (pat_fields_from (map pat_field_tree (drop i fs)))
tests_on fs i j f ts us n t k h is before name test now =
    now ∙ ap (test_at n t) before
    ∙ ap (λ m. test_at m t (fields_test (pat_fields_from (map pat_field_tree (drop j fs))))) name
    ∙ ap (λ u. test_at (normal_of (con_tree (out-PatField f).name)) u (fields_test (pat_fields_from (map pat_field_tree (drop j fs))))) test
    ∙ ap fields_test (sym (one_more fs i j f k h is))
