-- The tree of each form of constructor.
use Rattle.std.proofs.Common.{◌≡◌, ℕ, Bool, Box, Global, rules}
use Rattle.con_terms.specs.Trees.{var, arrow, poly, guarded, record_of, app, lambda, row, cat, map_of, tuple, proj}
use Rattle.con_terms.specs.View.{con_tree, cons_tree, kind_tree, pair_tree, pairs_tree}
use Rattle.con_terms.specs.declared.kind.Kind.{Kind}
use Rattle.con_terms.specs.declared.con.Con.{Con, Var, Arrow, Poly, Guarded, Record, App, Lambda, Row, Cat, Map, Tuple, Proj}
use Rattle.con_terms.specs.declared.con.Cons.{Cons}
use Rattle.con_terms.specs.declared.con.Pair.{Pair}
use Rattle.con_terms.specs.declared.con.Pairs.{Pairs}
use Rattle.con_terms.specs.declared.con.Con.TheFolds.{the_lemmas as the_folds}
use Rattle.con_terms.specs.declared.con.Con.TheViews.{the_lemmas}

pub var_form : (i : ℕ) → con_tree (Var i) ≡ var i
var_form i = search (rules, the_folds, the_lemmas)

pub arrow_form : (a b : Box Con Global) → con_tree (Arrow a b) ≡ arrow (con_tree a.value) (con_tree b.value)
arrow_form a b = search (rules, the_folds, the_lemmas)

pub poly_form : (x : Bool) (k : Box Kind Global) (b : Box Con Global) → con_tree (Poly x k b) ≡ poly x (kind_tree k.value) (con_tree b.value)
poly_form x k b = search (rules, the_folds, the_lemmas)

pub guarded_form : (a b c : Box Con Global) → con_tree (Guarded a b c) ≡ guarded (con_tree a.value) (con_tree b.value) (con_tree c.value)
guarded_form a b c = search (rules, the_folds, the_lemmas)

pub record_form : (a : Box Con Global) → con_tree (Record a) ≡ record_of (con_tree a.value)
record_form a = search (rules, the_folds, the_lemmas)

pub app_form : (f a : Box Con Global) → con_tree (App f a) ≡ app (con_tree f.value) (con_tree a.value)
app_form f a = search (rules, the_folds, the_lemmas)

pub lambda_form : (k : Box Kind Global) (b : Box Con Global) → con_tree (Lambda k b) ≡ lambda (kind_tree k.value) (con_tree b.value)
lambda_form k b = search (rules, the_folds, the_lemmas)

pub row_form : (k : Box Kind Global) (ps : Pairs) → con_tree (Row k ps) ≡ row (kind_tree k.value) (pairs_tree ps)
row_form k ps = search (rules, the_folds, the_lemmas)

pub cat_form : (a b : Box Con Global) → con_tree (Cat a b) ≡ cat (con_tree a.value) (con_tree b.value)
cat_form a b = search (rules, the_folds, the_lemmas)

pub map_form : (k l : Box Kind Global) → con_tree (Map k l) ≡ map_of (kind_tree k.value) (kind_tree l.value)
map_form k l = search (rules, the_folds, the_lemmas)

pub tuple_form : (cs : Cons) → con_tree (Tuple cs) ≡ tuple (cons_tree cs)
tuple_form cs = search (rules, the_folds, the_lemmas)

pub proj_form : (a : Box Con Global) (n : ℕ) → con_tree (Proj a n) ≡ proj (con_tree a.value) n
proj_form a n = search (rules, the_folds, the_lemmas)

-- The trees of a field's name and value.

pub name_form : (p : Pair) → con_tree p.name ≡ (pair_tree p).0
name_form p = search (rules, the_folds, the_lemmas)

pub value_form : (p : Pair) → con_tree p.value ≡ (pair_tree p).1
value_form p = search (rules, the_folds, the_lemmas)
