use Rattle.std.proofs.Common.{◌≡◌, ◌∙◌, ap, sym, true, false}
use Rattle.core_terms.specs.Lists.{node_list, node_tree}
use Rattle.core_terms.specs.View.{nodes_tree}
use Rattle.type_faults.specs.View.{maybe_fault}
use Rattle.judgements.specs.View.{judged_tree, sc_view}
use Rattle.markup_rules.specs.Content.{is_words, other_told}
use Rattle.markup_rules.specs.View.{judgements_view}
use Rattle.markup_rules.proofs.Loops.{wd, words_on, words_stop}
use Rattle.markup_rules.proofs.content.words_in.Goals as goal

pub returns-then-not-is_words : goal.returns-then-not-is_words
returns-then-not-is_words c =
    let G = sc_view c.args.g.now c.args.s.now in
    let xs = node_list (nodes_tree c.args.nodes.now) in
    let js = judgements_view c.args.judged.now in
    let x = node_tree c.at-node.result.now in
    let j = judged_tree c.at-found.result.now in
    let h : is_words x.1 ≡ false = ap is_words (sym c.node_term.ensures) ∙ sym c.is_words.ensures ∙ c.if-not-is_words.true in
    words_stop G xs js c.loop-i.i x j (wd false (maybe_fault c.in_ok-told.told)) c.at-node.ensures c.at-found.ensures h
    (ap (wd false) (c.in_ok-told.ensures ∙ ap (λ p. other_told G p j.type) c.node_place.ensures)) c.loop-i.invariant

pub loop-i-preserved : goal.loop-i-preserved
loop-i-preserved c =
    let G = sc_view c.args.g.now c.args.s.now in
    let xs = node_list (nodes_tree c.args.nodes.now) in
    let js = judgements_view c.args.judged.now in
    let x = node_tree c.at-node.result.now in
    let j = judged_tree c.at-found.result.now in
    let h : is_words x.1 ≡ true = ap is_words (sym c.node_term.ensures) ∙ sym c.is_words.ensures ∙ c.if-not-is_words.false in
    words_on G xs js c.loop-i.i x j _ c.at-node.ensures c.at-found.ensures h c.loop-i.invariant
