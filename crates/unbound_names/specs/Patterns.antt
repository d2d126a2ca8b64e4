-- Whether a name that is asked of stands in a pattern or a parameter, and isn't in scope there; and what these bind.
use Rattle.std.specs.Prelude.{ℕ, Bool, true, false, ◌&&◌, ◌||◌, not, List, [], ◌∷◌, ◌++◌}
use Rattle.plain_tree.specs.declared.names.Builder.{Builder}
use Rattle.plain_tree.specs.declared.names.Builder.TheVariants as builder
use Rattle.plain_tree.specs.declared.names.Path.{Path}
use Rattle.plain_tree.specs.Trees.{PatTree, pat, PatFormTree, pat_any, pat_bind, pat_int, pat_words, pat_bare, pat_holding, pat_rec, pat_typed, PatFieldTree, pat_field, PatFieldsTree, no_pat_fields, more_pat_fields, ArgTree, arg_pat, arg_con, arg_guard}
use Rattle.source_names.specs.Scopes.{Words, Scope, under_values, under_variable}
use Rattle.unbound_names.specs.Asked.{Ask, is_path_asked}
use Rattle.unbound_names.specs.InScope.{builder_in_scope}
use Rattle.unbound_names.specs.Types.{unbound_con}

-- a constructor of a datatype, at this byte
abbrev pub unbound_constructor : Ask → Scope → ℕ → Path → Bool
unbound_constructor q s at p = is_path_asked q at p && not (builder_in_scope s p)

-- the same in a pattern; those that sugar stands for are always there
abbrev pub unbound_builder : Ask → Scope → ℕ → Builder → Bool
unbound_builder q s at (builder.Named p) = unbound_constructor q s at p
unbound_builder q s at (builder.Basis b) = false

abbrev mutual
  pub unbound_pat : Ask → Scope → PatTree → Bool
  unbound_pat q s (pat at f) = unbound_pat_form q s at f

  pub unbound_pat_form : Ask → Scope → ℕ → PatFormTree → Bool
  -- `X`
  unbound_pat_form q s at (pat_bare b) = unbound_builder q s at b
  -- `X p`
  unbound_pat_form q s at (pat_holding b p) = unbound_builder q s at b || unbound_pat q s p
  -- `{c = p, ..}`
  unbound_pat_form q s at (pat_rec fs more) = unbound_pat_fields q s fs
  -- `(p : c)`
  unbound_pat_form q s at (pat_typed p c) = unbound_pat q s p || unbound_con q s c
  -- `_`, a variable, a number and a text
  unbound_pat_form _ _ _ _ = false

  pub unbound_pat_fields : Ask → Scope → PatFieldsTree → Bool
  unbound_pat_fields q s no_pat_fields = false
  unbound_pat_fields q s (more_pat_fields f fs) = unbound_pat_field q s f || unbound_pat_fields q s fs

  -- `c = p`
  pub unbound_pat_field : Ask → Scope → PatFieldTree → Bool
  unbound_pat_field q s (pat_field at c p) = unbound_con q s c || unbound_pat q s p

abbrev mutual
  -- the variables that a pattern binds, in order
  pub pattern_names : PatTree → List Words
  pattern_names (pat at f) = form_names f

  pub form_names : PatFormTree → List Words
  form_names (pat_bind x) = x ∷ []
  form_names (pat_holding b p) = pattern_names p
  form_names (pat_rec fs more) = fields_names fs
  form_names (pat_typed p c) = pattern_names p
  form_names _ = []

  pub fields_names : PatFieldsTree → List Words
  fields_names no_pat_fields = []
  fields_names (more_pat_fields f fs) = field_names f ++ fields_names fs

  pub field_names : PatFieldTree → List Words
  field_names (pat_field at c p) = pattern_names p

-- inside of a pattern
abbrev pub under_pattern : PatTree → Scope → Scope
under_pattern p s = under_values (pattern_names p) s

-- a parameter
abbrev pub unbound_arg : Ask → Scope → ArgTree → Bool
-- `p`
unbound_arg q s (arg_pat p) = unbound_pat q s p
-- `[x :: k]`, `[x ::: k]`
unbound_arg q s (arg_con at implicit has_kind x k) = false
-- `[c ~ d]`
unbound_arg q s (arg_guard at c d) = unbound_con q s c || unbound_con q s d

-- inside of a parameter
abbrev pub under_arg : ArgTree → Scope → Scope
under_arg (arg_pat p) s = under_pattern p s
under_arg (arg_con at implicit has_kind x k) s = under_variable x.text s
under_arg (arg_guard at c d) s = s

-- parameters, each of which sees those before it
abbrev pub unbound_args : Ask → Scope → List ArgTree → Bool
unbound_args q s [] = false
unbound_args q s (a ∷ as') = unbound_arg q s a || unbound_args q (under_arg a s) as'

-- inside of all of them
abbrev pub under_args : List ArgTree → Scope → Scope
under_args [] s = s
under_args (a ∷ as') s = under_args as' (under_arg a s)
