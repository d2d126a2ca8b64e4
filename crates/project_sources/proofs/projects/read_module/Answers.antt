use Rattle.std.proofs.Common.{ℕ, List, IfSome, subst}
use Rattle.project_sources.specs.declared.modules.ModuleSource.{ModuleSource}
use Rattle.project_sources.specs.Modules.{file_in, module_file, interface_file}
use Rattle.project_sources.specs.View.{IsInterfaceRead, IsModuleRead}
use Rattle.std.proofs.lemmas.Result.{err_from_is_err_and}
use Rattle.project_sources.proofs.Gathering.{Beside, source_refused, source_is}
use Rattle.project_sources.proofs.Saying.{told_nothing}
use Rattle.project_sources.proofs.projects.read_module.Goals as goal

pub returns-in_err-tree-clause-source : goal.returns-in_err-tree-clause-source
returns-in_err-tree-clause-source g c =
    let p = err_from_is_err_and c.from_residual.result c.from_residual.ensures.1 in rw p.1 tt

pub returns-in_err-tree-clause-refused : goal.returns-in_err-tree-clause-refused
returns-in_err-tree-clause-refused g c =
    let p = err_from_is_err_and c.from_residual.result c.from_residual.ensures.1 in
    rw (p.1, p.2, ← c.as_str.ensures) c.in_err-tree.ensures.refused

pub returns-in_err-interface-clause-source : goal.returns-in_err-interface-clause-source
returns-in_err-interface-clause-source g c =
    let p = err_from_is_err_and c.from_residual-in_err-interface.result c.from_residual-in_err-interface.ensures.1 in
    rw p.1 tt

pub returns-in_err-interface-clause-refused : goal.returns-in_err-interface-clause-refused
returns-in_err-interface-clause-refused g c =
    let p = err_from_is_err_and c.from_residual-in_err-interface.result c.from_residual-in_err-interface.ensures.1 in
    rw (p.1, p.2) (source_refused (g.F.Files.told c.args.files.now)
    (g.F.Files.told c.read_tree.new.files) c.args.dir.now c.args.line.now
    c.in_ok-tree.tree c.in_err-interface.field-0.0 c.read_tree.ensures.kept
    (subst (λ (l : List ℕ). IfSome (g.F.Files.told c.args.files.now) (λ files. IsModuleRead
    (file_in files c.args.dir.now (module_file l)) c.in_ok-tree.tree))
    c.as_str.ensures c.in_ok-tree.ensures.tree)
    (subst (λ (l : List ℕ). IfSome (g.F.Files.told c.read_tree.new.files)
    (λ files. Beside files c.args.dir.now l c.in_err-interface.field-0.0))
    c.as_str-2.ensures c.in_err-interface.ensures.refused))

pub returns-in_err-line-clause-source : goal.returns-in_err-line-clause-source
returns-in_err-line-clause-source g c =
    let p = err_from_is_err_and c.from_residual-in_err-line.result c.from_residual-in_err-line.ensures.1 in rw p.1 tt

pub returns-in_err-line-clause-refused : goal.returns-in_err-line-clause-refused
returns-in_err-line-clause-refused g c =
    let p = err_from_is_err_and c.from_residual-in_err-line.result c.from_residual-in_err-line.ensures.1 in
    rw (p.1, p.2) (told_nothing (g.F.Files.told c.args.files.now))

pub returns-clause-source : goal.returns-clause-source
returns-clause-source g c =
    let source : ModuleSource = record {
      line = c.in_ok-line.line;
      tree = c.in_ok-tree.tree;
      interface =
          c.in_ok-interface.interface;
    } in
    source_is (g.F.Files.told c.args.files.now) (g.F.Files.told c.read_tree.new.files) c.args.dir.now c.args.line.now
    source
    c.read_tree.ensures.kept c.in_ok-line.ensures
    (subst (λ (l : List ℕ). IfSome (g.F.Files.told c.args.files.now) (λ files. IsModuleRead
    (file_in files c.args.dir.now (module_file l)) c.in_ok-tree.tree))
    c.as_str.ensures c.in_ok-tree.ensures.tree)
    (subst (λ (l : List ℕ). IfSome (g.F.Files.told c.read_tree.new.files)
    (λ files. IsInterfaceRead (file_in files c.args.dir.now (interface_file l)) c.in_ok-interface.interface))
    c.as_str-2.ensures c.in_ok-interface.ensures.tree)
