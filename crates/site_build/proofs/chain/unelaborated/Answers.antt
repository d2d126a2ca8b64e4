use Rattle.std.proofs.Common.{ℕ, List, string_bytes, subst, ◌∙◌}
use Rattle.fault_lines.specs.Lines.{IsToldOfElaboration}
use Rattle.project_sources.specs.Modules.{ModuleTrees}
use Rattle.project_sources.specs.View.{ListsModules}
use Rattle.site_build.specs.Faults.{IsOfElaboration, IsRefusalAt}
use Rattle.site_build.proofs.Listed.{listed_names}
use Rattle.site_build.proofs.Sources.{where_ok}
use Rattle.site_build.proofs.chain.unelaborated.Goals as goal

pub returns-clause-refused : goal.returns-clause-refused
returns-clause-refused c =
    let modules = c.args.modules.now in
    let refusal = c.args.refusal.now in
    let told = c.in_ok-told.told in
    where_ok c.refused.result
    (λ fault. (ms : List ModuleTrees) → ListsModules modules ms → IsRefusalAt ms told.place (string_bytes told.text) fault)
    (λ fault. (ms : List ModuleTrees) → ListsModules modules ms → IsOfElaboration ms refusal.names refusal.fault fault)
    (λ fault given ms lists. (
      told.place,
      string_bytes told.text,
      subst (λ (names : List (List ℕ)). IsToldOfElaboration refusal.names names refusal.fault told.place (string_bytes told.text))
          (c.in_ok-names.ensures ∙ listed_names modules ms lists) c.in_ok-told.ensures,
      given ms lists,
    ))
    c.refused.ensures.refused
