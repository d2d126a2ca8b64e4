-- What the program's own values are seen as.
use Rattle.std.specs.Prelude.{List, map}
use Rattle.project_files.specs.Lines.{Line}
use Rattle.project_files.specs.Directives as says
use Rattle.project_files.specs.Projects.{Said}
use Rattle.project_files.specs.declared.directives.Directive.{Directive}
use Rattle.project_files.specs.declared.directives.Directive.TheVariants.{Rule, SafeGet, Foreign, Effect, Setting}
use Rattle.project_files.specs.declared.projects.AddressRule.{AddressRule}
use Rattle.project_files.specs.declared.projects.QualifiedName.{QualifiedName}
use Rattle.project_files.specs.declared.projects.Project.{Project}

abbrev pub directive_of : Directive → says.Directive
directive_of (Rule allow pattern) = says.a_rule allow pattern.now
directive_of (SafeGet owner name) = says.a_safe_get owner.now name.now
directive_of (Foreign owner) = says.a_foreign owner.now
directive_of (Effect owner name) = says.an_effect owner.now name.now
directive_of Setting = says.a_setting

abbrev pub effects_of : List QualifiedName → List (Line × Line)
effects_of names = map (λ (n : QualifiedName). (n.owner, n.name)) names

abbrev pub said_by : Project → Said
said_by p = record {
  in_modules = p.in_modules;
  rules = map (λ (r : AddressRule). (r.allow, r.pattern)) p.rules.items;
  safe_gets = effects_of p.safe_gets.items;
  foreign = p.foreign.items;
  effects = effects_of p.effects.items;
  modules = p.modules.items;
}
