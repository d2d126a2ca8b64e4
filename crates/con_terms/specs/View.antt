-- The tree that a value of the program is.
use Rattle.std.specs.Prelude.{List, [], ◌∷◌}
use Rattle.con_terms.specs.Trees.{Kd, types, units, names, row_of, to, tuple_of, Kds, no_kinds, kind, Cn, var, basic, arrow, poly, guarded, record_of, app, lambda, unit_con, name, row, cat, map_of, tuple, proj, Cns, no_cons, con, Prs, no_pairs, pair}
use Rattle.con_terms.specs.declared.kind.Kind.{Kind}
use Rattle.con_terms.specs.declared.kind.Kinds.{Kinds}
use Rattle.con_terms.specs.declared.kind.Kind.TheOpen.{Kind-F, Kinds-F}
use Rattle.con_terms.specs.declared.kind.Kind.TheFolds.{fold-Kind, fold-Kinds}
use Rattle.con_terms.specs.declared.con.Con.{Con}
use Rattle.con_terms.specs.declared.con.Cons.{Cons}
use Rattle.con_terms.specs.declared.con.Pair.{Pair}
use Rattle.con_terms.specs.declared.con.Pairs.{Pairs}
use Rattle.con_terms.specs.declared.con.Con.TheOpen.{Con-F, Cons-F, Pair-F, Pairs-F}
use Rattle.con_terms.specs.declared.con.Con.TheFolds.{fold-Con, fold-Cons, fold-Pair, fold-Pairs}

abbrev pub kinds_from : List Kd → Kds
kinds_from [] = no_kinds
kinds_from (k ∷ ks) = kind k (kinds_from ks)

abbrev pub kind_step : Kind-F Kd Kds → Kd
kind_step Kind-F.Types = types
kind_step Kind-F.Units = units
kind_step Kind-F.Names = names
kind_step (Kind-F.Row k) = row_of k.value
kind_step (Kind-F.Arrow k l) = to k.value l.value
kind_step (Kind-F.Tuple ks) = tuple_of ks

abbrev pub kinds_step : Kinds-F Kd Kds → Kds
kinds_step ks = kinds_from ks.items.items

abbrev pub kind_tree : Kind → Kd
kind_tree = fold-Kind Kd Kds kind_step kinds_step

abbrev pub kinds_tree : Kinds → Kds
kinds_tree = fold-Kinds Kd Kds kind_step kinds_step

abbrev pub cons_from : List Cn → Cns
cons_from [] = no_cons
cons_from (c ∷ cs) = con c (cons_from cs)

abbrev pub pairs_from : List (Cn × Cn) → Prs
pairs_from [] = no_pairs
pairs_from (p ∷ ps) = pair p.0 p.1 (pairs_from ps)

abbrev pub con_step : Con-F Cn Cns (Cn × Cn) Prs → Cn
con_step (Con-F.Var i) = var i
con_step (Con-F.Basic s) = basic s.number
con_step (Con-F.Arrow a b) = arrow a.value b.value
con_step (Con-F.Poly x k b) = poly x (kind_tree k.value) b.value
con_step (Con-F.Guarded a b c) = guarded a.value b.value c.value
con_step (Con-F.Record a) = record_of a.value
con_step (Con-F.App a b) = app a.value b.value
con_step (Con-F.Lambda k b) = lambda (kind_tree k.value) b.value
con_step Con-F.UnitCon = unit_con
con_step (Con-F.Name s) = name s.number
con_step (Con-F.Row k ps) = row (kind_tree k.value) ps
con_step (Con-F.Cat a b) = cat a.value b.value
con_step (Con-F.Map k l) = map_of (kind_tree k.value) (kind_tree l.value)
con_step (Con-F.Tuple cs) = tuple cs
con_step (Con-F.Proj a n) = proj a.value n

abbrev pub cons_step : Cons-F Cn Cns (Cn × Cn) Prs → Cns
cons_step cs = cons_from cs.items.items

abbrev pub pair_step : Pair-F Cn Cns (Cn × Cn) Prs → Cn × Cn
pair_step p = (p.name, p.value)

abbrev pub pairs_step : Pairs-F Cn Cns (Cn × Cn) Prs → Prs
pairs_step ps = pairs_from ps.items.items

abbrev pub con_tree : Con → Cn
con_tree = fold-Con Cn Cns (Cn × Cn) Prs con_step cons_step pair_step pairs_step

abbrev pub cons_tree : Cons → Cns
cons_tree = fold-Cons Cn Cns (Cn × Cn) Prs con_step cons_step pair_step pairs_step

abbrev pub pair_tree : Pair → Cn × Cn
pair_tree = fold-Pair Cn Cns (Cn × Cn) Prs con_step cons_step pair_step pairs_step

abbrev pub pairs_tree : Pairs → Prs
pairs_tree = fold-Pairs Cn Cns (Cn × Cn) Prs con_step cons_step pair_step pairs_step
