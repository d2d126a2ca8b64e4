-- Whether a constructor is what the source of one says.
use Rattle.std.specs.Prelude.{ℕ, suc, ◌==◌, Bool, true, false, ◌&&◌, List, [], ◌∷◌}
use Rattle.std.specs.Fmt.{decimal}
use Rattle.con_terms.specs.Same.{kd_eq}
use Rattle.con_terms.specs.Trees.{Cn, arrow, poly, guarded, record_of, app, lambda, unit_con, name, row, cat, tuple, proj, Cns, no_cons, Prs, no_pairs, pair}
use Rattle.con_terms.specs.Trees as explicit
use Rattle.plain_tree.specs.Trees.{ConTree, ConFormTree, con_name, con_wild, con_label, con_arrow, con_poly, con_guarded, con_lambda, con_record, con_apply, con_concat, con_unit, con_tuple, con_kinded, con_row, con_proj, ConsTree, no_con, more_con, ConFieldTree, con_field, ConFieldsTree, no_con_fields, more_con_fields}
use Rattle.plain_tree.specs.Trees as plain
use Rattle.plain_tree.specs.declared.names.Label.{Label}
use Rattle.plain_tree.specs.declared.names.Label.TheVariants as label
use Rattle.row_normal.specs.SameTree.{flag_eq}
use Rattle.source_names.specs.Scopes.{Tables, Scope, under_variable}
use Rattle.source_names.specs.Standing.{names_type, is_text}

-- `#A`, or `#1`, whose text is the number in decimal
abbrev pub is_label : Tables → Label → ℕ → Bool
is_label t (label.Word x) s = is_text t s x
is_label t (label.Number n) s = is_text t s (decimal n)

-- `$c`, where c is such a constructor
abbrev pub is_record : (Cn → Bool) → Cn → Bool
is_record first (record_of c) = first c
is_record first _ = false

-- `$c`, and one more `$` for each of these places
abbrev pub is_records : List ℕ → (Cn → Bool) → Cn → Bool
is_records [] first c = is_record first c
is_records (p ∷ ps) first c = is_record (λ d. is_records ps first d) c

-- `f c`, and `c ++ d`, of such constructors
abbrev pub is_app : (Cn → Bool) → (Cn → Bool) → Cn → Bool
is_app first second (app f c) = first f && second c
is_app first second _ = false

abbrev pub is_cat : (Cn → Bool) → (Cn → Bool) → Cn → Bool
is_cat first second (cat c d) = first c && second d
is_cat first second _ = false

-- `c.n`, where the first component is 1
abbrev pub is_proj : (Cn → Bool) → ℕ → Cn → Bool
is_proj first n (proj c i) = n == suc i && first c
is_proj first n _ = false

-- `c.n.m`, from left to right
abbrev pub is_projs : List ℕ → (Cn → Bool) → Cn → Bool
is_projs [] first c = first c
is_projs (n ∷ ns) first c = is_projs ns (λ d. is_proj first n d) c

abbrev mutual
  pub reads_con : Scope → ConTree → Cn → Bool
  reads_con s (plain.con at f) c = reads_con_form s f c

  pub reads_con_form : Scope → ConFormTree → Cn → Bool
  -- `M.x`
  reads_con_form s (con_name p) c = names_type s p c
  -- `#A`
  reads_con_form s (con_label l) (name n) = is_label s.tables l n
  -- `c -> d`
  reads_con_form s (con_arrow c d) (arrow a b) = reads_con s c a && reads_con s d b
  -- `x :: k -> c`, or `x ::: k -> c`
  reads_con_form s (con_poly i x k c) (poly j l b) = flag_eq i j && kd_eq k l && reads_con (under_variable x s) c b
  -- `[c ~ d] => e`
  reads_con_form s (con_guarded c d e) (guarded l r b) = reads_con s c l && reads_con s d r && reads_con s e b
  -- `fn x :: k => c`
  reads_con_form s (con_lambda x k c) (lambda l b) = kd_eq k l && reads_con (under_variable x s) c b
  -- `$c`
  reads_con_form s (con_record more c) a = is_records more (λ b. reads_con s c b) a
  -- `c d ..`
  reads_con_form s (con_apply c ds) a = reads_apps s ds (λ b. reads_con s c b) a
  -- `c ++ d ++ ..`
  reads_con_form s (con_concat c ds) a = reads_cats s ds (λ b. reads_con s c b) a
  -- `()`
  reads_con_form s con_unit unit_con = true
  -- `(c, d, ..)`
  reads_con_form s (con_tuple cs) (tuple ds) = reads_cons s cs ds
  -- `(c :: k)`
  reads_con_form s (con_kinded c k) a = reads_con s c a
  -- `[c = d, ..]`, whose values may have any kind
  reads_con_form s (con_row fs) (row k ps) = reads_con_fields s fs ps
  -- `c.1.2`
  reads_con_form s (con_proj c ns) a = is_projs ns (λ b. reads_con s c b) a
  -- `_`, and what is of another form
  reads_con_form _ _ _ = false

  -- the constructor `first`, applied to these from left to right
  pub reads_apps : Scope → ConsTree → (Cn → Bool) → Cn → Bool
  reads_apps s no_con first a = first a
  reads_apps s (more_con d ds) first a = reads_apps s ds (λ b. is_app first (λ c. reads_con s d c) b) a

  -- the row `first`, with these behind it from left to right
  pub reads_cats : Scope → ConsTree → (Cn → Bool) → Cn → Bool
  reads_cats s no_con first a = first a
  reads_cats s (more_con d ds) first a = reads_cats s ds (λ b. is_cat first (λ c. reads_con s d c) b) a

  -- constructors one by one
  pub reads_cons : Scope → ConsTree → Cns → Bool
  reads_cons s no_con no_cons = true
  reads_cons s (more_con c cs) (explicit.con d ds) = reads_con s c d && reads_cons s cs ds
  reads_cons _ _ _ = false

  -- fields one by one, in their order
  pub reads_con_fields : Scope → ConFieldsTree → Prs → Bool
  reads_con_fields s no_con_fields no_pairs = true
  reads_con_fields s (more_con_fields f fs) (pair n v ps) = reads_con_field s f (n, v) && reads_con_fields s fs ps
  reads_con_fields _ _ _ = false

  -- `c = d`
  pub reads_con_field : Scope → ConFieldTree → Cn × Cn → Bool
  reads_con_field s (con_field at c d) p = reads_con s c p.0 && reads_con s d p.1
