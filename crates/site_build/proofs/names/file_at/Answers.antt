use Rattle.std.proofs.Common.{◌≡◌, ℕ, List, Some, true, length, slice_get, refl, subst}
use Rattle.std.proofs.lemmas.Option.{slice_get_read}
use Rattle.std.specs.List.{list_any}
use Rattle.surface_tree.specs.declared.token.Token.{Token}
use Rattle.project_sources.specs.Modules.{ModuleTrees, module_file}
use Rattle.project_sources.specs.View.{ListsModules}
use Rattle.site_build.specs.Refusals.{IsAt, begins_at}
use Rattle.site_build.proofs.Listed.{placed}
use Rattle.site_build.proofs.Sources.{where_ok}
use Rattle.site_build.proofs.names.file_at.Goals as goal

pub returns : goal.returns
returns c =
    let modules = c.args.modules.now in
    let place = c.args.place in
    let read = c.in-Some.module.now in
    let there : slice_get modules place.file ≡ Some read =
    slice_get_read modules (length modules) place.file read refl c.in-Some.ensures.lookup.3.0 c.in-Some.ensures.lookup.1 in
    let leaves : list_any (begins_at place.at) c.leaves.result.now ≡ true = c.begins_token.ensures c.if-not-begins_token.false in
    let begins : list_any (begins_at place.at) read.tree.leaves ≡ true =
    subst (λ (l : List Token). list_any (begins_at place.at) l ≡ true) c.leaves.ensures leaves in
    where_ok c.file_of.result (λ (file : List ℕ). file ≡ module_file read.line)
    (λ (file : List ℕ). (ms : List ModuleTrees) → ListsModules modules ms → IsAt ms place file place.at)
    (λ file name ms lists. placed modules place read file there name begins ms lists)
    c.file_of.ensures
