use Rattle.std.proofs.Common.{◌∙◌, ap}
use Rattle.type_faults.specs.View.{maybe_fault}
use Rattle.judgements.specs.View.{judged_tree}
use Rattle.told_faults.specs.Computed.{first}
use Rattle.carried_types.specs.View.{carriers_view}
use Rattle.markup_rules.specs.Nodes.{told_of}
use Rattle.markup_rules.specs.Elements.{with_terms}
use Rattle.markup_rules.specs.View.{judgements_view}
use Rattle.markup_rules.proofs.elements.of_element.Goals as goal

pub returns : goal.returns
returns c =
    let js = judgements_view c.args.attributes in
    let ks = judgements_view c.args.nodes in
    record {
      marks = carriers_view c.in_ok-all.all;
      marked = c.in_ok-all.ensures;
      is =
          c.with_terms.ensures
          ∙ ap (λ k. with_terms k (judged_tree c.in_ok-found.found))
          (c.first-told.ensures ∙ ap (λ k. first k (maybe_fault c.told_of-2.result)) c.told_of.ensures ∙ ap (first (told_of js)) c.told_of-2.ensures)
          ∙ ap (with_terms (first (told_of js) (told_of ks))) c.in_ok-found.ensures;
    }
