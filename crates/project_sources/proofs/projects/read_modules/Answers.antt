use Rattle.std.proofs.Common.{◌≡◌, ◌+◌, List, [], ◌∷◌, ◌++◌, take, IfSome, arith, refl, sym, ap, ◌∙◌, subst}
use Rattle.std.specs.Prelude.{not, if◌then◌else◌}
use Rattle.std.proofs.lemmas.Result.{err_from_is_err_and}
use Rattle.project_sources.specs.declared.modules.ModuleSource.{ModuleSource}
use Rattle.project_sources.specs.View.{AreModuleSources}
use Rattle.project_sources.proofs.Gathering.{sources_none, sources_more, sources_refused, sources_all}
use Rattle.project_sources.proofs.Saying.{told_nothing}
use Rattle.project_sources.proofs.projects.read_modules.Goals as goal

pub loop-line-init : goal.loop-line-init
loop-line-init g c = record {
  kept = refl;
  later = omega arith;
  read = subst (λ (items : List ModuleSource). IfSome (g.F.Files.told c.args.files.now)
      (λ files. AreModuleSources files c.args.dir.now [] items))
      (sym c.new-modules.ensures.items) (sources_none (g.F.Files.told c.args.files.now) c.args.dir.now);
}

pub returns-in_err-module-clause-modules : goal.returns-in_err-module-clause-modules
returns-in_err-module-clause-modules g c =
    let p = err_from_is_err_and c.from_residual.result c.from_residual.ensures.1 in rw p.1 tt

pub returns-in_err-module-clause-refused : goal.returns-in_err-module-clause-refused
returns-in_err-module-clause-refused g c =
    let p = err_from_is_err_and c.from_residual.result c.from_residual.ensures.1 in
    rw (p.1, p.2) (sources_refused (g.F.Files.told c.args.files.now)
    (g.F.Files.told c.loop-line.files) c.args.dir.now c.args.lines.now
    c.loop-line.line-index c.line-item.result c.loop-line.modules.items c.in_err-module.field-0.0
    c.loop-line.invariant.kept
    c.loop-line-test.true c.line-item.is c.loop-line.invariant.read c.in_err-module.ensures.refused)

pub returns-then-is_err-clause-refused : goal.returns-then-is_err-clause-refused
returns-then-is_err-clause-refused g c = told_nothing (g.F.Files.told c.args.files.now)

pub loop-line-preserved : goal.loop-line-preserved
loop-line-preserved g c =
    let pushed : c.push.new.self.items ≡ c.loop-line.modules.items ++ c.in_ok-module.module ∷ [] =
    c.push.ensures.items
    ∙ ap (λ b. if b then (c.loop-line.modules.items ++ c.in_ok-module.module ∷ []) else c.loop-line.modules.items)
    (c.is_err.ensures.negation ∙ ap not c.if-is_err.false) in
    record {
      kept = c.in_ok-module.ensures.kept ∙ c.loop-line.invariant.kept;
      later = omega (arith, c.in_ok-module.ensures.later, c.loop-line.invariant.later);
      read = subst (λ (items : List ModuleSource). IfSome (g.F.Files.told c.args.files.now)
          (λ files. AreModuleSources files c.args.dir.now (take
          (c.loop-line.line-index + 1) c.args.lines.now) items)) (sym pushed)
          (sources_more (g.F.Files.told c.args.files.now) (g.F.Files.told c.loop-line.files) c.args.dir.now
          c.args.lines.now
          c.loop-line.line-index c.line-item.result c.loop-line.modules.items c.in_ok-module.module
          c.loop-line.invariant.kept
          c.loop-line-test.true c.line-item.is c.loop-line.invariant.read c.in_ok-module.ensures.source);
    }

pub returns-clause-modules : goal.returns-clause-modules
returns-clause-modules g c =
    sources_all (g.F.Files.told c.args.files.now) c.args.dir.now c.args.lines.now c.loop-line.line-index
    c.loop-line.modules.items
    c.loop-line-test.false c.loop-line.invariant.read
