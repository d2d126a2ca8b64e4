-- The trees that constructors and patterns of the program are.
use Rattle.std.specs.Prelude.{ℕ, Bool, List, [], ◌∷◌, Option, Some, None}
use Rattle.con_terms.specs.Trees.{Kd}
use Rattle.con_terms.specs.View.{kind_tree}
use Rattle.plain_tree.specs.Trees.{ConTree, con, ConFormTree, con_name, con_wild, con_label, con_arrow, con_poly, con_guarded, con_lambda, con_record, con_apply, con_concat, con_unit, con_tuple, con_kinded, con_row, con_proj, ConsTree, no_con, more_con, ConFieldTree, con_field, ConFieldsTree, no_con_fields, more_con_fields, PatTree, pat, PatFormTree, pat_any, pat_bind, pat_int, pat_words, pat_bare, pat_holding, pat_rec, pat_typed, PatFieldTree, pat_field, PatFieldsTree, no_pat_fields, more_pat_fields}
use Rattle.plain_tree.specs.declared.con.ConForm.{ConForm}
use Rattle.plain_tree.specs.declared.con.Con.{Con}
use Rattle.plain_tree.specs.declared.con.ConField.{ConField}
use Rattle.plain_tree.specs.declared.con.ConFields.{ConFields}
use Rattle.plain_tree.specs.declared.con.Cons.{Cons}
use Rattle.plain_tree.specs.declared.con.ConForm.TheOpen.{ConForm-F, Con-F, ConField-F, ConFields-F, Cons-F}
use Rattle.plain_tree.specs.declared.con.ConForm.TheFolds.{fold-ConForm, fold-Con, fold-ConField, fold-ConFields, fold-Cons}
use Rattle.plain_tree.specs.declared.pat.PatForm.{PatForm}
use Rattle.plain_tree.specs.declared.pat.Pat.{Pat}
use Rattle.plain_tree.specs.declared.pat.PatField.{PatField}
use Rattle.plain_tree.specs.declared.pat.PatFields.{PatFields}
use Rattle.plain_tree.specs.declared.pat.PatForm.TheOpen.{PatForm-F, Pat-F, PatField-F, PatFields-F}
use Rattle.plain_tree.specs.declared.pat.PatForm.TheFolds.{fold-PatForm, fold-Pat, fold-PatField, fold-PatFields}

abbrev pub con_fields_from : List ConFieldTree → ConFieldsTree
con_fields_from [] = no_con_fields
con_fields_from (x ∷ xs) = more_con_fields x (con_fields_from xs)

abbrev pub cons_from : List ConTree → ConsTree
cons_from [] = no_con
cons_from (x ∷ xs) = more_con x (cons_from xs)

abbrev pub con_form_step : ConForm-F ConFormTree ConTree ConFieldTree ConFieldsTree ConsTree → ConFormTree
con_form_step (ConForm-F.Name x0) = con_name x0
con_form_step ConForm-F.Wild = con_wild
con_form_step (ConForm-F.Label x0) = con_label x0
con_form_step (ConForm-F.Arrow x0 x1) = con_arrow x0.value x1.value
con_form_step (ConForm-F.Poly x0 x1 x2 x3) = con_poly x0 x1 (kind_tree x2) x3.value
con_form_step (ConForm-F.Guarded x0 x1 x2) = con_guarded x0.value x1.value x2.value
con_form_step (ConForm-F.Lambda x0 x1 x2) = con_lambda x0 (kind_tree x1) x2.value
con_form_step (ConForm-F.Record x0 x1) = con_record x0 x1.value
con_form_step (ConForm-F.Apply x0 x1) = con_apply x0.value x1
con_form_step (ConForm-F.Concat x0 x1) = con_concat x0.value x1
con_form_step ConForm-F.Unit = con_unit
con_form_step (ConForm-F.Tuple x0) = con_tuple x0
con_form_step (ConForm-F.Kinded x0 x1) = con_kinded x0.value (kind_tree x1)
con_form_step (ConForm-F.Row x0) = con_row x0
con_form_step (ConForm-F.Proj x0 x1) = con_proj x0.value x1

abbrev pub con_step : Con-F ConFormTree ConTree ConFieldTree ConFieldsTree ConsTree → ConTree
con_step x = con x.at x.form

abbrev pub con_field_step : ConField-F ConFormTree ConTree ConFieldTree ConFieldsTree ConsTree → ConFieldTree
con_field_step x = con_field x.at x.name x.value

abbrev pub con_fields_step : ConFields-F ConFormTree ConTree ConFieldTree ConFieldsTree ConsTree → ConFieldsTree
con_fields_step x = con_fields_from x.items.items

abbrev pub cons_step : Cons-F ConFormTree ConTree ConFieldTree ConFieldsTree ConsTree → ConsTree
cons_step x = cons_from x.items.items

abbrev pub con_form_tree : ConForm → ConFormTree
con_form_tree = fold-ConForm ConFormTree ConTree ConFieldTree ConFieldsTree ConsTree
    con_form_step con_step con_field_step con_fields_step cons_step

abbrev pub con_tree : Con → ConTree
con_tree = fold-Con ConFormTree ConTree ConFieldTree ConFieldsTree ConsTree
    con_form_step con_step con_field_step con_fields_step cons_step

abbrev pub con_field_tree : ConField → ConFieldTree
con_field_tree = fold-ConField ConFormTree ConTree ConFieldTree ConFieldsTree ConsTree
    con_form_step con_step con_field_step con_fields_step cons_step

abbrev pub con_fields_tree : ConFields → ConFieldsTree
con_fields_tree = fold-ConFields ConFormTree ConTree ConFieldTree ConFieldsTree ConsTree
    con_form_step con_step con_field_step con_fields_step cons_step

abbrev pub cons_tree : Cons → ConsTree
cons_tree = fold-Cons ConFormTree ConTree ConFieldTree ConFieldsTree ConsTree
    con_form_step con_step con_field_step con_fields_step cons_step

abbrev pub pat_fields_from : List PatFieldTree → PatFieldsTree
pat_fields_from [] = no_pat_fields
pat_fields_from (x ∷ xs) = more_pat_fields x (pat_fields_from xs)

abbrev pub pat_form_step : PatForm-F PatFormTree PatTree PatFieldTree PatFieldsTree → PatFormTree
pat_form_step PatForm-F.Any = pat_any
pat_form_step (PatForm-F.Bind x0) = pat_bind x0
pat_form_step (PatForm-F.Int x0 x1) = pat_int x0 x1
pat_form_step (PatForm-F.Words x0) = pat_words x0
pat_form_step (PatForm-F.Bare x0) = pat_bare x0
pat_form_step (PatForm-F.Holding x0 x1) = pat_holding x0 x1.value
pat_form_step (PatForm-F.Rec x0 x1) = pat_rec x0 x1
pat_form_step (PatForm-F.Typed x0 x1) = pat_typed x0.value (con_tree x1)

abbrev pub pat_step : Pat-F PatFormTree PatTree PatFieldTree PatFieldsTree → PatTree
pat_step x = pat x.at x.form

abbrev pub pat_field_step : PatField-F PatFormTree PatTree PatFieldTree PatFieldsTree → PatFieldTree
pat_field_step x = pat_field x.at (con_tree x.name) x.pat

abbrev pub pat_fields_step : PatFields-F PatFormTree PatTree PatFieldTree PatFieldsTree → PatFieldsTree
pat_fields_step x = pat_fields_from x.items.items

abbrev pub pat_form_tree : PatForm → PatFormTree
pat_form_tree = fold-PatForm PatFormTree PatTree PatFieldTree PatFieldsTree
    pat_form_step pat_step pat_field_step pat_fields_step

abbrev pub pat_tree : Pat → PatTree
pat_tree = fold-Pat PatFormTree PatTree PatFieldTree PatFieldsTree
    pat_form_step pat_step pat_field_step pat_fields_step

abbrev pub pat_field_tree : PatField → PatFieldTree
pat_field_tree = fold-PatField PatFormTree PatTree PatFieldTree PatFieldsTree
    pat_form_step pat_step pat_field_step pat_fields_step

abbrev pub pat_fields_tree : PatFields → PatFieldsTree
pat_fields_tree = fold-PatFields PatFormTree PatTree PatFieldTree PatFieldsTree
    pat_form_step pat_step pat_field_step pat_fields_step

abbrev pub maybe_con : Option Con → Option ConTree
maybe_con None = None
maybe_con (Some c) = Some (con_tree c)
