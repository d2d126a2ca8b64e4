-- Whether a name that is asked of stands in a constructor of the type level, and isn't in scope there.
use Rattle.std.specs.Prelude.{ℕ, Bool, true, false, ◌&&◌, ◌||◌, not, Option, Some, None}
use Rattle.plain_tree.specs.declared.names.Path.{Path}
use Rattle.plain_tree.specs.Trees.{ConTree, con, ConFormTree, con_name, con_wild, con_label, con_arrow, con_poly, con_guarded, con_lambda, con_record, con_apply, con_concat, con_unit, con_tuple, con_kinded, con_row, con_proj, ConsTree, no_con, more_con, ConFieldTree, con_field, ConFieldsTree, no_con_fields, more_con_fields}
use Rattle.source_names.specs.Scopes.{Scope, under_variable}
use Rattle.unbound_names.specs.Asked.{Ask, is_path_asked}
use Rattle.unbound_names.specs.InScope.{type_in_scope}

-- a name at this byte
abbrev pub unbound_type : Ask → Scope → ℕ → Path → Bool
unbound_type q s at p = is_path_asked q at p && not (type_in_scope s p)

abbrev mutual
  pub unbound_con : Ask → Scope → ConTree → Bool
  unbound_con q s (con at f) = unbound_con_form q s at f

  pub unbound_con_form : Ask → Scope → ℕ → ConFormTree → Bool
  -- `M.x`
  unbound_con_form q s at (con_name p) = unbound_type q s at p
  -- `c -> d`
  unbound_con_form q s at (con_arrow c d) = unbound_con q s c || unbound_con q s d
  -- `x :: k -> c`, or `x ::: k -> c`
  unbound_con_form q s at (con_poly i x k c) = unbound_con q (under_variable x s) c
  -- `[c ~ d] => e`
  unbound_con_form q s at (con_guarded c d e) = unbound_con q s c || unbound_con q s d || unbound_con q s e
  -- `fn x :: k => c`
  unbound_con_form q s at (con_lambda x k c) = unbound_con q (under_variable x s) c
  -- `$c`
  unbound_con_form q s at (con_record more c) = unbound_con q s c
  -- `c d ..`
  unbound_con_form q s at (con_apply c ds) = unbound_con q s c || unbound_cons q s ds
  -- `c ++ d ++ ..`
  unbound_con_form q s at (con_concat c ds) = unbound_con q s c || unbound_cons q s ds
  -- `(c, d, ..)`
  unbound_con_form q s at (con_tuple cs) = unbound_cons q s cs
  -- `(c :: k)`
  unbound_con_form q s at (con_kinded c k) = unbound_con q s c
  -- `[c = d, ..]`
  unbound_con_form q s at (con_row fs) = unbound_con_fields q s fs
  -- `c.1.2`
  unbound_con_form q s at (con_proj c ns) = unbound_con q s c
  -- `_`, `#A` and `()`
  unbound_con_form _ _ _ _ = false

  pub unbound_cons : Ask → Scope → ConsTree → Bool
  unbound_cons q s no_con = false
  unbound_cons q s (more_con c cs) = unbound_con q s c || unbound_cons q s cs

  pub unbound_con_fields : Ask → Scope → ConFieldsTree → Bool
  unbound_con_fields q s no_con_fields = false
  unbound_con_fields q s (more_con_fields f fs) = unbound_con_field q s f || unbound_con_fields q s fs

  -- `c = d`
  pub unbound_con_field : Ask → Scope → ConFieldTree → Bool
  unbound_con_field q s (con_field at c d) = unbound_con q s c || unbound_con q s d

-- the same where a constructor may be left out
abbrev pub unbound_maybe : Ask → Scope → Option ConTree → Bool
unbound_maybe q s None = false
unbound_maybe q s (Some c) = unbound_con q s c
