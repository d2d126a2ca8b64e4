use Rattle.std.proofs.Common.{◌≡◌, ℕ, List, IfSome, sym, ◌∙◌, subst}
use Rattle.std.specs.declared.option.Option.{Option}
use Rattle.ur_parser.specs.Sources.{interface_part}
use Rattle.project_sources.specs.declared.fault.SourceFault.TheVariants.{Memory}
use Rattle.project_sources.specs.Causes.{Says}
use Rattle.project_sources.specs.Modules.{file_in}
use Rattle.project_sources.specs.Texts.{HasNoTree}
use Rattle.std.proofs.lemmas.Result.{err_from_is_err_and}
use Rattle.project_sources.proofs.Gathering.{Beside, interface_long, interface_none, interface_is, interface_refused}
use Rattle.project_sources.proofs.Saying.{told_all}
use Rattle.project_sources.proofs.projects.read_interface.Goals as goal

pub returns-in_err-file-clause-tree : goal.returns-in_err-file-clause-tree
returns-in_err-file-clause-tree g c =
    let p = err_from_is_err_and c.from_residual.result c.from_residual.ensures.1 in rw p.1 tt

pub returns-in_err-file-clause-refused : goal.returns-in_err-file-clause-refused
returns-in_err-file-clause-refused g c =
    let p = err_from_is_err_and c.from_residual.result c.from_residual.ensures.1 in
    rw (p.1, p.2) (told_all (g.F.Files.told c.args.files.now)
    (λ files. Beside files c.args.dir.now c.args.line.now Memory) (λ files tree has. tt))

pub returns-in_err-bytes-clause-tree : goal.returns-in_err-bytes-clause-tree
returns-in_err-bytes-clause-tree g c =
    let p = err_from_is_err_and c.from_residual-in_err-bytes.result c.from_residual-in_err-bytes.ensures.1 in rw p.1 tt

pub returns-in_err-bytes-clause-refused : goal.returns-in_err-bytes-clause-refused
returns-in_err-bytes-clause-refused g c =
    let p = err_from_is_err_and c.from_residual-in_err-bytes.result c.from_residual-in_err-bytes.ensures.1 in
    rw (p.1, p.2) (interface_long (g.F.Files.told c.args.files.now) c.args.dir.now c.args.line.now
    c.as_str.result.now c.in_err-bytes.field-0.0
    (c.as_str.ensures ∙ c.in_ok-file.ensures) c.in_err-bytes.ensures.refused)

pub returns-in_err-tree-in-Some-clause-tree : goal.returns-in_err-tree-in-Some-clause-tree
returns-in_err-tree-in-Some-clause-tree g c =
    let p = err_from_is_err_and c.from_residual-in_err-tree-in-Some.result
    c.from_residual-in_err-tree-in-Some.ensures.1 in rw p.1 tt

pub returns-in_err-tree-in-Some-clause-refused : goal.returns-in_err-tree-in-Some-clause-refused
returns-in_err-tree-in-Some-clause-refused g c =
    let p = err_from_is_err_and c.from_residual-in_err-tree-in-Some.result
    c.from_residual-in_err-tree-in-Some.ensures.1 in
    rw (p.1, p.2) (interface_refused (g.F.Files.told c.args.files.now) c.args.dir.now c.args.line.now
    c.as_str.result.now c.in-Some.bytes
    c.as_slice.result.now c.in_err-tree-in-Some.field-0.0 (c.as_str.ensures ∙ c.in_ok-file.ensures) c.as_slice.ensures
    (subst (λ (o : Option (List ℕ)). IfSome (g.F.Files.told c.args.files.now)
    (λ files. file_in files c.args.dir.now c.as_str.result.now ≡ o))
    c.in-Some.is c.in_ok-bytes.ensures.content)
    (subst (λ (n : List ℕ). Says (HasNoTree interface_part n c.as_slice.result.now) c.in_err-tree-in-Some.field-0.0)
    (c.as_str-in-Some.ensures ∙ sym c.as_str.ensures) c.in_err-tree-in-Some.ensures.refused))

pub returns-in-Some-clause-tree : goal.returns-in-Some-clause-tree
returns-in-Some-clause-tree g c =
    interface_is (g.F.Files.told c.args.files.now) c.args.dir.now c.args.line.now c.as_str.result.now c.in-Some.bytes
    c.as_slice.result.now
    c.in_ok-tree-in-Some.tree (c.as_str.ensures ∙ c.in_ok-file.ensures) c.as_slice.ensures
    (subst (λ (o : Option (List ℕ)). IfSome (g.F.Files.told c.args.files.now)
    (λ files. file_in files c.args.dir.now c.as_str.result.now ≡ o))
    c.in-Some.is c.in_ok-bytes.ensures.content)
    c.in_ok-tree-in-Some.ensures.tree

pub returns-clause-tree : goal.returns-clause-tree
returns-clause-tree g c =
    interface_none (g.F.Files.told c.args.files.now) c.args.dir.now c.args.line.now c.as_str.result.now
    (c.as_str.ensures ∙ c.in_ok-file.ensures)
    (subst (λ (o : Option (List ℕ)). IfSome (g.F.Files.told c.args.files.now)
    (λ files. file_in files c.args.dir.now c.as_str.result.now ≡ o))
    c.in-None.is c.in_ok-bytes.ensures.content)
