use Rattle.std.proofs.Common.{map, ap, ◌∙◌, subst}
use Rattle.project_files.specs.Directives.{module_name}
use Rattle.project_sources.specs.declared.modules.ModuleSource.{ModuleSource}
use Rattle.plain_tree.specs.View.{plain_view}
use Rattle.plain_projects.specs.Listed.{AreExported, ArePlainOf}
use Rattle.plain_projects.proofs.Sources.{exported_are, names_are, trees_are}
use Rattle.plain_projects.proofs.project.plain_project.Goals as goal

pub returns-clause-names : goal.returns-clause-names
returns-clause-names c = λ p lists.
    c.in_ok-names_of.ensures ∙ ap (map (λ (m : ModuleSource). module_name m.line)) c.as_slice-modules.ensures.value ∙ names_are _ p.modules lists.modules

pub returns-clause-trees : goal.returns-clause-trees
returns-clause-trees c = λ p lists whole.
    let trees = map plain_view c.in_ok-plains_of.field-0.items in
    trees_are c.args.sources.now.modules.items p.modules trees lists.modules whole (subst (λ l. ArePlainOf l trees) c.as_slice-modules.ensures.value c.in_ok-plains_of.ensures)

pub returns-clause-exported : goal.returns-clause-exported
returns-clause-exported c = λ p lists whole.
    let names = c.in_ok-exported_of.field-0 in
    exported_are c.args.sources.now.modules.items p.modules names lists.modules whole (subst (λ l. AreExported l names) c.as_slice-modules.ensures.value c.in_ok-exported_of.ensures)
