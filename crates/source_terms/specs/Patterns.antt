-- Whether a pattern of the explicit language is a pattern of the source, with its names resolved.
use Rattle.std.specs.Prelude.{ℕ, Bool, true, false, ◌&&◌, bytes_eq, List, [], ◌∷◌, ◌++◌}
use Rattle.std.specs.Ordering.{int_eq}
use Rattle.core_terms.specs.Trees.{Pt, pattern, Pf, any, binds, is_number, is_bare, is_holding, has_fields}
use Rattle.core_terms.specs.Trees.{annotated}
use Rattle.core_terms.specs.Trees.{Pfs, no_pat_fields, pat_field}
use Rattle.core_terms.specs.Trees as core
use Rattle.plain_tree.specs.declared.names.Builder.{Builder}
use Rattle.plain_tree.specs.declared.names.Builder.TheVariants as builder
use Rattle.plain_tree.specs.Trees.{PatTree, pat, PatFormTree, pat_any, pat_bind, pat_int, pat_words, pat_bare}
use Rattle.plain_tree.specs.Trees.{pat_holding, pat_rec, pat_typed, PatFieldsTree, more_pat_fields}
use Rattle.plain_tree.specs.Trees as plain
use Rattle.row_normal.specs.SameTree.{flag_eq}
use Rattle.source_names.specs.Scopes.{Words, Scope}
use Rattle.source_names.specs.Standing.{is_text, names_builder, names_basis_builder}
use Rattle.source_names.specs.Reading.{reads_con}
use Rattle.source_terms.specs.Leaves.{number_of}

-- whether a constructor of a pattern is that of a datatype: the datatype's symbol, and its place in it
abbrev pub is_builder : Scope → Builder → ℕ → ℕ → Bool
is_builder s (builder.Named p) d i = names_builder s p d i
is_builder s (builder.Basis b) d i = names_basis_builder s b d i

abbrev mutual
  pub reads_pat : Scope → PatTree → Pt → Bool
  reads_pat s (pat at f) (pattern p g) = reads_pat_form s f g

  pub reads_pat_form : Scope → PatFormTree → Pf → Bool
  -- _
  reads_pat_form s pat_any any = true
  -- x
  reads_pat_form s (pat_bind x) (binds y t) = is_text s.tables y x
  -- 3, -3
  reads_pat_form s (pat_int minus n) (is_number z) = int_eq z (number_of minus n)
  -- "text"
  reads_pat_form s (pat_words t) (core.is_text u) = bytes_eq u t
  -- X
  reads_pat_form s (pat_bare b) (is_bare d i) = is_builder s b d i
  -- X p
  reads_pat_form s (pat_holding b p) (is_holding d i q) = is_builder s b d i && reads_pat s p q
  -- {c = p, ..}, {c = p, .., ...}
  reads_pat_form s (pat_rec fs more) (has_fields gs others) = flag_eq more others && reads_pat_fields s fs gs
  -- (p : c)
  reads_pat_form s (pat_typed p c) (annotated q t) = reads_con s c t && reads_pat s p q
  reads_pat_form s _ _ = false

  pub reads_pat_fields : Scope → PatFieldsTree → Pfs → Bool
  reads_pat_fields s plain.no_pat_fields no_pat_fields = true
  reads_pat_fields s (more_pat_fields (plain.pat_field at c p) fs) (pat_field r d q gs) =
      reads_con s c d && reads_pat s p q && reads_pat_fields s fs gs
  reads_pat_fields s _ _ = false

abbrev mutual
  -- the variables that a pattern binds, in order
  pub pattern_names : PatTree → List Words
  pattern_names (pat at f) = form_names f

  pub form_names : PatFormTree → List Words
  form_names (pat_bind x) = x ∷ []
  form_names (pat_holding b p) = pattern_names p
  form_names (pat_rec fs more) = fields_names fs
  form_names (pat_typed p c) = pattern_names p
  form_names _ = []

  pub fields_names : PatFieldsTree → List Words
  fields_names plain.no_pat_fields = []
  fields_names (more_pat_fields (plain.pat_field at c p) fs) = pattern_names p ++ fields_names fs
