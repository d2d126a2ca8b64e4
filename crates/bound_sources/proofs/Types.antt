-- Names in constructors of the type level.
use Rattle.std.proofs.Common.{ℕ, suc, ◌==◌, Bool, ◌&&◌, ◌||◌, List, [], ◌∷◌}
use Rattle.con_terms.specs.Same.{kd_eq}
use Rattle.con_terms.specs.Trees.{Cn, arrow, poly, guarded, record_of, app, lambda, row, cat, tuple, proj, Cns}
use Rattle.con_terms.specs.Trees.{no_cons, Prs, no_pairs, pair}
use Rattle.con_terms.specs.Trees as explicit
use Rattle.plain_tree.specs.Trees.{ConTree, ConFormTree, con_name, con_wild, con_label, con_arrow, con_poly}
use Rattle.plain_tree.specs.Trees.{con_guarded, con_lambda, con_record, con_apply, con_concat, con_unit, con_tuple}
use Rattle.plain_tree.specs.Trees.{con_kinded, con_row, con_proj, ConsTree, no_con, more_con, con_field, ConFieldsTree}
use Rattle.plain_tree.specs.Trees.{no_con_fields, more_con_fields}
use Rattle.plain_tree.specs.Trees as plain
use Rattle.row_normal.specs.SameTree.{flag_eq}
use Rattle.source_names.specs.Reading.{is_record, is_records, is_app, is_cat, is_proj, is_projs, reads_con}
use Rattle.source_names.specs.Reading.{reads_con_form, reads_apps, reads_cats, reads_cons, reads_con_fields}
use Rattle.source_names.specs.Scopes.{Scope, under_variable}
use Rattle.unbound_names.specs.Asked.{Ask}
use Rattle.unbound_names.specs.Types.{unbound_con, unbound_con_form, unbound_cons, unbound_con_fields}
use Rattle.bound_sources.proofs.Clear.{Clear, never, nothing, two, later, to_right, ends}
use Rattle.bound_sources.proofs.Bare.{bare_scope}
use Rattle.bound_sources.proofs.Found.{type_clear}

-- Forms around a test of what they begin with.

-- each constructor that passes the test has no unbound name
abbrev Each : (Cn → Bool) → Bool → Type 0
Each first x = (c : Cn) → Clear (first c) x

record_clear : (first : Cn → Bool) (x : Bool) → Each first x → Each (is_record first) x
record_clear first x f (record_of c) = f c
record_clear first x f _ = never

records_clear : (ps : List ℕ) (first : Cn → Bool) (x : Bool) → Each first x → Each (is_records ps first) x
records_clear [] first x f = record_clear first x f
records_clear (p ∷ ps) first x f = record_clear (is_records ps first) x (records_clear ps first x f)

proj_clear : (first : Cn → Bool) (n : ℕ) (x : Bool) → Each first x → Each (is_proj first n) x
proj_clear first n x f (proj c i) = later (n == suc i) (f c)
proj_clear first n x f _ = never

projs_clear : (ns : List ℕ) (first : Cn → Bool) (x : Bool) → Each first x → Each (is_projs ns first) x
projs_clear [] first x f = f
projs_clear (n ∷ ns) first x f = projs_clear ns (is_proj first n) x (proj_clear first n x f)

app_clear : (first second : Cn → Bool) (x y : Bool) → Each first x → Each second y
    → Each (is_app first second) (x || y)
app_clear first second x y f g (app c d) = two (f c) (g d)
app_clear first second x y f g _ = never

cat_clear : (first second : Cn → Bool) (x y : Bool) → Each first x → Each second y
    → Each (is_cat first second) (x || y)
cat_clear first second x y f g (cat c d) = two (f c) (g d)
cat_clear first second x y f g _ = never

mutual
  pub con_clear : (q : Ask) (s : Scope) (c : ConTree) (a : Cn)
      → Clear (reads_con s c a) (unbound_con q (bare_scope s) c)
  con_clear q s (plain.con at f) a = form_clear q s at f a

  form_clear : (q : Ask) (s : Scope) (at : ℕ) (f : ConFormTree) (a : Cn)
      → Clear (reads_con_form s f a) (unbound_con_form q (bare_scope s) at f)
  form_clear q s at (con_name p) a = type_clear q s at p a
  form_clear q s at con_wild a = nothing
  form_clear q s at (con_label l) a = nothing
  form_clear q s at (con_arrow c d) (arrow a b) = two (con_clear q s c a) (con_clear q s d b)
  form_clear q s at (con_arrow c d) _ = never
  form_clear q s at (con_poly i x k c) (poly j l b) =
      later (flag_eq i j && kd_eq k l) (con_clear q (under_variable x s) c b)
  form_clear q s at (con_poly i x k c) _ = never
  form_clear q s at (con_guarded c d e) (guarded l r b) =
      two (two (con_clear q s c l) (con_clear q s d r)) (con_clear q s e b)
  form_clear q s at (con_guarded c d e) _ = never
  form_clear q s at (con_lambda x k c) (lambda l b) = later (kd_eq k l) (con_clear q (under_variable x s) c b)
  form_clear q s at (con_lambda x k c) _ = never
  form_clear q s at (con_record more c) a =
      records_clear more (λ b. reads_con s c b) (unbound_con q (bare_scope s) c) (λ b. con_clear q s c b) a
  form_clear q s at (con_apply c ds) a =
      apps_clear q s ds (λ b. reads_con s c b) (unbound_con q (bare_scope s) c) (λ b. con_clear q s c b) a
  form_clear q s at (con_concat c ds) a =
      cats_clear q s ds (λ b. reads_con s c b) (unbound_con q (bare_scope s) c) (λ b. con_clear q s c b) a
  form_clear q s at con_unit a = nothing
  form_clear q s at (con_tuple cs) (tuple ds) = cons_clear q s cs ds
  form_clear q s at (con_tuple cs) _ = never
  form_clear q s at (con_kinded c k) a = con_clear q s c a
  form_clear q s at (con_row fs) (row k ps) = fields_clear q s fs ps
  form_clear q s at (con_row fs) _ = never
  form_clear q s at (con_proj c ns) a =
      projs_clear ns (λ b. reads_con s c b) (unbound_con q (bare_scope s) c) (λ b. con_clear q s c b) a

  apps_clear : (q : Ask) (s : Scope) (ds : ConsTree) (first : Cn → Bool) (x : Bool) → Each first x
      → Each (reads_apps s ds first) (x || unbound_cons q (bare_scope s) ds)
  apps_clear q s no_con first x f a = ends (f a)
  apps_clear q s (more_con d ds) first x f a =
      to_right x (unbound_con q (bare_scope s) d) (unbound_cons q (bare_scope s) ds)
      (apps_clear q s ds (λ b. is_app first (λ c. reads_con s d c) b) (x || unbound_con q (bare_scope s) d)
      (app_clear first (λ c. reads_con s d c) x (unbound_con q (bare_scope s) d) f (λ c. con_clear q s d c)) a)

  cats_clear : (q : Ask) (s : Scope) (ds : ConsTree) (first : Cn → Bool) (x : Bool) → Each first x
      → Each (reads_cats s ds first) (x || unbound_cons q (bare_scope s) ds)
  cats_clear q s no_con first x f a = ends (f a)
  cats_clear q s (more_con d ds) first x f a =
      to_right x (unbound_con q (bare_scope s) d) (unbound_cons q (bare_scope s) ds)
      (cats_clear q s ds (λ b. is_cat first (λ c. reads_con s d c) b) (x || unbound_con q (bare_scope s) d)
      (cat_clear first (λ c. reads_con s d c) x (unbound_con q (bare_scope s) d) f (λ c. con_clear q s d c)) a)

  cons_clear : (q : Ask) (s : Scope) (cs : ConsTree) (ds : Cns)
      → Clear (reads_cons s cs ds) (unbound_cons q (bare_scope s) cs)
  cons_clear q s no_con ds = nothing
  cons_clear q s (more_con c cs) no_cons = never
  cons_clear q s (more_con c cs) (explicit.con d ds) = two (con_clear q s c d) (cons_clear q s cs ds)

  fields_clear : (q : Ask) (s : Scope) (fs : ConFieldsTree) (ps : Prs)
      → Clear (reads_con_fields s fs ps) (unbound_con_fields q (bare_scope s) fs)
  fields_clear q s no_con_fields ps = nothing
  fields_clear q s (more_con_fields f fs) no_pairs = never
  fields_clear q s (more_con_fields (con_field at c d) fs) (pair n v ps) =
      two (two (con_clear q s c n) (con_clear q s d v)) (fields_clear q s fs ps)
