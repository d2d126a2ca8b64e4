-- Names in patterns and parameters, and what these bind.
use Rattle.std.proofs.Common.{◌≡◌, ℕ, Bool, ◌&&◌, ◌||◌, List, [], ◌∷◌, ◌++◌, refl, ap, sym, subst, ◌∙◌}
use Rattle.con_terms.specs.Same.{kd_eq}
use Rattle.core_terms.specs.Trees.{Pt, pattern, Pf, is_bare, is_holding, has_fields, annotated, Pfs, no_pat_fields}
use Rattle.core_terms.specs.Trees.{pat_field, Fo, fn, fn_con, fn_guard}
use Rattle.plain_tree.specs.declared.names.Builder.{Builder}
use Rattle.plain_tree.specs.declared.names.Builder.TheVariants as builder
use Rattle.plain_tree.specs.Trees.{PatTree, pat, PatFormTree, pat_any, pat_bind, pat_int, pat_words, pat_bare}
use Rattle.plain_tree.specs.Trees.{pat_holding, pat_rec, pat_typed, PatFieldsTree, more_pat_fields, ArgTree, arg_pat}
use Rattle.plain_tree.specs.Trees.{arg_con, arg_guard}
use Rattle.plain_tree.specs.Trees as plain
use Rattle.row_normal.specs.SameTree.{flag_eq}
use Rattle.source_names.specs.Scopes.{Scope, under_values}
use Rattle.source_names.specs.Standing.{is_text}
use Rattle.source_terms.specs.Leaves.{form_of}
use Rattle.source_terms.specs.Patterns.{is_builder, reads_pat, reads_pat_form, reads_pat_fields}
use Rattle.source_terms.specs.Patterns as read
use Rattle.source_terms.specs.Terms.{reads_param, reads_params}
use Rattle.unbound_names.specs.Asked.{Ask}
use Rattle.unbound_names.specs.Patterns.{unbound_builder, unbound_pat, unbound_pat_form, unbound_pat_fields}
use Rattle.unbound_names.specs.Patterns.{under_pattern, unbound_arg, under_arg, unbound_args, under_args}
use Rattle.unbound_names.specs.Patterns as scoped
use Rattle.bound_sources.proofs.Clear.{Clear, never, nothing, two, swapped, later, to_left}
use Rattle.bound_sources.proofs.Bare.{bare_scope, bare_values}
use Rattle.bound_sources.proofs.Found.{builder_clear}
use Rattle.bound_sources.proofs.Types.{con_clear}

-- What patterns bind.

mutual
  names_same : (p : PatTree) → read.pattern_names p ≡ scoped.pattern_names p
  names_same (pat at f) = form_names_same f

  form_names_same : (f : PatFormTree) → read.form_names f ≡ scoped.form_names f
  form_names_same pat_any = refl
  form_names_same (pat_bind x) = refl
  form_names_same (pat_int minus n) = refl
  form_names_same (pat_words t) = refl
  form_names_same (pat_bare b) = refl
  form_names_same (pat_holding b p) = names_same p
  form_names_same (pat_rec fs more) = fields_names_same fs
  form_names_same (pat_typed p c) = names_same p

  fields_names_same : (fs : PatFieldsTree) → read.fields_names fs ≡ scoped.fields_names fs
  fields_names_same plain.no_pat_fields = refl
  fields_names_same (more_pat_fields (plain.pat_field at c p) fs) =
      ap (λ xs. xs ++ read.fields_names fs) (names_same p)
      ∙ ap (λ xs. scoped.pattern_names p ++ xs) (fields_names_same fs)

-- the scope inside of a pattern, either way
pub inside_same : (p : PatTree) (s : Scope) → under_values (read.pattern_names p) s ≡ under_pattern p s
inside_same p s = ap (λ xs. under_values xs s) (names_same p)

pub bare_pattern : (p : PatTree) (s : Scope) → bare_scope (under_pattern p s) ≡ under_pattern p (bare_scope s)
bare_pattern p s = bare_values (scoped.pattern_names p) s

-- Names in patterns.

pattern_builder_clear : (q : Ask) (s : Scope) (at : ℕ) (b : Builder) (d i : ℕ)
    → Clear (is_builder s b d i) (unbound_builder q (bare_scope s) at b)
pattern_builder_clear q s at (builder.Named p) d i = builder_clear q s at p d i
pattern_builder_clear q s at (builder.Basis b) d i = nothing

mutual
  pub pat_clear : (q : Ask) (s : Scope) (p : PatTree) (r : Pt)
      → Clear (reads_pat s p r) (unbound_pat q (bare_scope s) p)
  pat_clear q s (pat at f) (pattern o g) = form_clear q s at f g

  form_clear : (q : Ask) (s : Scope) (at : ℕ) (f : PatFormTree) (g : Pf)
      → Clear (reads_pat_form s f g) (unbound_pat_form q (bare_scope s) at f)
  form_clear q s at pat_any g = nothing
  form_clear q s at (pat_bind x) g = nothing
  form_clear q s at (pat_int minus n) g = nothing
  form_clear q s at (pat_words t) g = nothing
  form_clear q s at (pat_bare b) (is_bare d i) = pattern_builder_clear q s at b d i
  form_clear q s at (pat_bare b) _ = never
  form_clear q s at (pat_holding b p) (is_holding d i r) =
      two (pattern_builder_clear q s at b d i) (pat_clear q s p r)
  form_clear q s at (pat_holding b p) _ = never
  form_clear q s at (pat_rec fs more) (has_fields gs others) = later (flag_eq more others) (fields_clear q s fs gs)
  form_clear q s at (pat_rec fs more) _ = never
  form_clear q s at (pat_typed p c) (annotated r t) = swapped (con_clear q s c t) (pat_clear q s p r)
  form_clear q s at (pat_typed p c) _ = never

  fields_clear : (q : Ask) (s : Scope) (fs : PatFieldsTree) (gs : Pfs)
      → Clear (reads_pat_fields s fs gs) (unbound_pat_fields q (bare_scope s) fs)
  fields_clear q s plain.no_pat_fields gs = nothing
  fields_clear q s (more_pat_fields (plain.pat_field at c p) fs) no_pat_fields = never
  fields_clear q s (more_pat_fields (plain.pat_field at c p) fs) (pat_field o d r gs) =
      two (two (con_clear q s c d) (pat_clear q s p r)) (fields_clear q s fs gs)

-- Parameters, around a test of what is inside of them.

abbrev Inside : (Fo → Bool) → Bool → Type 0
Inside test x = (f : Fo) → Clear (test f) x

pub bare_arg : (a : ArgTree) (s : Scope) → bare_scope (under_arg a s) ≡ under_arg a (bare_scope s)
bare_arg (arg_pat p) s = bare_pattern p s
bare_arg (arg_con at implicit has_kind x k) s = refl
bare_arg (arg_guard at c d) s = refl

pub bare_args : (as' : List ArgTree) (s : Scope) → bare_scope (under_args as' s) ≡ under_args as' (bare_scope s)
bare_args [] s = refl
bare_args (a ∷ as') s = bare_args as' (under_arg a s) ∙ ap (under_args as') (bare_arg a s)

param_clear : (q : Ask) (s : Scope) (a : ArgTree) (inside : Scope → Fo → Bool) (x : Bool)
    → Inside (inside (under_arg a s)) x
    → Inside (reads_param s a inside) (unbound_arg q (bare_scope s) a || x)
param_clear q s (arg_pat p) inside x f (fn r t e) =
    two (pat_clear q s p r)
    (subst (λ z. Clear (inside z (form_of e)) x) (sym (inside_same p s)) (f (form_of e)))
param_clear q s (arg_pat p) inside x f _ = never
param_clear q s (arg_con at implicit has_kind n k) inside x f (fn_con y hidden written l e) =
    later (is_text s.tables y n.text && flag_eq implicit hidden && flag_eq has_kind written && kd_eq k l)
    (f (form_of e))
param_clear q s (arg_con at implicit has_kind n k) inside x f _ = never
param_clear q s (arg_guard at c d) inside x f (fn_guard a b e) =
    two (two (con_clear q s c a) (con_clear q s d b)) (f (form_of e))
param_clear q s (arg_guard at c d) inside x f _ = never

pub params_clear : (q : Ask) (s : Scope) (as' : List ArgTree) (inside : Scope → Fo → Bool) (x : Bool)
    → Inside (inside (under_args as' s)) x
    → Inside (reads_params s as' inside) (unbound_args q (bare_scope s) as' || x)
params_clear q s [] inside x f g = f g
params_clear q s (a ∷ as') inside x f g =
    to_left (unbound_arg q (bare_scope s) a) (unbound_args q (under_arg a (bare_scope s)) as') x
    (param_clear q s a (λ t h. reads_params t as' inside h)
    (unbound_args q (under_arg a (bare_scope s)) as' || x)
    (λ h. subst (λ z. Clear (reads_params (under_arg a s) as' inside h) (unbound_args q z as' || x)) (bare_arg a s)
    (params_clear q (under_arg a s) as' inside x f h)) g)
