-- What kinding finds for a constructor: its kind, or the first flaw.
-- The Ur/Web Manual, "Kinding".
use Rattle.std.specs.Prelude.{List, [], nat_lt, Result, Ok, Err, slice_get, if◌then◌else◌}
use Rattle.con_terms.specs.Trees.{Kd, units, names, Cn, var, basic, arrow, poly, guarded, record_of, app, lambda, unit_con, name, row, cat, map_of, tuple, proj, Cns, no_cons, con, Prs, no_pairs, pair}
use Rattle.con_terms.specs.Size.{depth}
use Rattle.con_terms.specs.Kinded.{Scope, basic_kind, bind, assume}
use Rattle.row_normal.specs.NormalForm.{limit}
use Rattle.kind_rules.specs.Flaws.{Flw, unbound_variable, unbound_basic, too_large}
use Rattle.kind_rules.specs.Rules.{and_then, or_flaw, both, outside_of, expects, type_kind, arrow_kind, guard_sides, record_kind, app_kind, lambda_kind, cat_kind, found_first, row_kind, map_kind, tuple_kind, proj_kind}

abbrev mutual
  -- what is found for a constructor, whatever its depth
  pub kinding : Scope → Cn → Result Kd Flw
  kinding G (var i) = or_flaw (unbound_variable i) (slice_get G.binders i)
  kinding G (basic s) = or_flaw (unbound_basic s) (basic_kind G.basics s)
  kinding G (arrow a b) = arrow_kind (both (kinding G a) (kinding G b))
  kinding G (poly x k b) = type_kind (outside_of k (kinding (bind k G) b))
  kinding G (guarded a b c) =
      and_then
      (guard_sides a b (both (kinding G a) (kinding G b)))
      (λ (mn : Cn × Cn). type_kind (kinding (assume mn.0 mn.1 G) c))
  kinding G (record_of a) = record_kind (kinding G a)
  kinding G (app f a) = app_kind (both (kinding G f) (kinding G a))
  kinding G (lambda k b) = lambda_kind k (outside_of k (kinding (bind k G) b))
  kinding G unit_con = Ok units
  kinding G (name s) = Ok names
  kinding G (row k ps) = row_kind G.guards k ps (kinding_fields G ps)
  kinding G (cat a b) = cat_kind G.guards a b (both (kinding G a) (kinding G b))
  kinding G (map_of k l) = map_kind k l
  kinding G (tuple cs) = tuple_kind (kinding_all G cs)
  kinding G (proj c n) = proj_kind n (kinding G c)

  -- of each component of a tuple
  pub kinding_all : Scope → Cns → Result (List Kd) Flw
  kinding_all G no_cons = Ok []
  kinding_all G (con c cs) = found_first (kinding G c) (kinding_all G cs)

  -- of the name and the value of each field
  pub kinding_fields : Scope → Prs → Result (List (Kd × Kd)) Flw
  kinding_fields G no_pairs = Ok []
  kinding_fields G (pair n v ps) = found_first (both (kinding G n) (kinding G v)) (kinding_fields G ps)

-- what is told of a constructor: one that is deeper than the limit is too large, before all else
abbrev pub judged : Scope → Cn → Result Kd Flw
judged G c = if nat_lt limit (depth c) then Err too_large else kinding G c

-- what is told of a constructor that should have a kind: a flaw of its own, or else that its kind differs
abbrev pub judged_at : Scope → Cn → Kd → Result Kd Flw
judged_at G c wanted = and_then (judged G c) (expects wanted)
