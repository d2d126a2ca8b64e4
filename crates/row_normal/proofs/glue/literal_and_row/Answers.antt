use Rattle.std.proofs.Common.{◌≡◌, ◌∙◌, ◌∷◌, ◌&&◌, is_some, true, false, ap, rules}
use Rattle.con_terms.specs.Trees.{no_pairs, row}
use Rattle.con_terms.specs.Same.{kd_eq}
use Rattle.con_terms.specs.View.{con_tree, kind_tree, pairs_tree}
use Rattle.row_normal.specs.Glue.{literal_of, literal_then, pairs_then}
use Rattle.row_normal.proofs.Literals.{ends_literal, goes_on, if_ok}
use Rattle.row_normal.proofs.glue.literal_and_row.Goals as goal

pub returns-in_ok-fields_then : goal.returns-in_ok-fields_then
returns-in_ok-fields_then c =
    let k = kind_tree c.args.k.value in
    let e : (is_some (literal_of (pairs_tree c.args.more)) && kd_eq (kind_tree c.args.k.value) (kind_tree c.args.l.value)) ≡ true = search rules in
    λ rest. ap (λ ps. literal_then k ps rest) c.in_ok-fields_then.ensures
    ∙ goes_on k (kind_tree c.args.l.value) (pairs_tree c.args.fields) (pairs_tree c.args.more) rest e

pub returns-else-goes_on : goal.returns-else-goes_on
returns-else-goes_on c =
    let k = kind_tree c.args.k.value in
    let e : (is_some (literal_of (pairs_tree c.args.more)) && kd_eq (kind_tree c.args.k.value) (kind_tree c.args.l.value)) ≡ false = search rules in
    if_ok c.both.result _ _ (λ j h rest.
    h rest ∙ ap (λ p. p ∷ con_tree c.row_of.result ∷ rest) c.literal.ensures
    ∙ ap (λ p. row k (pairs_then (pairs_tree c.args.fields) no_pairs) ∷ p ∷ rest) c.row_of.ensures
    ∙ ends_literal k (kind_tree c.args.l.value) (pairs_tree c.args.fields) (pairs_tree c.args.more) rest e) c.both.ensures
