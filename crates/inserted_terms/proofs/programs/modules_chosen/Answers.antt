use Rattle.std.proofs.Common.{◌≡◌, ◌<◌, length, get_or, refl, arith, ap, sym, ◌∙◌}
use Rattle.core_terms.specs.View.{decls_view, program_view}
use Rattle.source_names.specs.View.{tables_view}
use Rattle.inserted_terms.specs.View.{count_of, reached_view}
use Rattle.inserted_terms.proofs.Modules.{module_on, of_some, own_decls}
use Rattle.inserted_terms.proofs.Tables.{count_is}
use Rattle.inserted_terms.proofs.programs.modules_chosen.Goals as goal

pub loop-i-preserved : goal.loop-i-preserved
loop-i-preserved c =
    let some : c.loop-i.i < length c.args.names.now = omega arith in
    let there : c.loop-i.i < length c.args.trees.now = omega arith in
    let tree = get_or c.args.trees.now c.loop-i.i c.index-trees-i.result in
    let own = tree.decls.items in
    let long : c.len-count.result ≡ length own.items = omega (arith, own.ok.0, c.len-count.ensures) in
    let counted : c.len-count.result ≡ count_of c.index-trees-i.result =
    long ∙ sym (count_is tree) ∙ ap count_of (sym c.index-trees-i.is) in
    record {
      within = omega (arith, c.loop-i.invariant.within, c.if-decls-next.false);
      chosen = λ rest. c.loop-i.invariant.chosen
          (module_on (tables_view c.args.program.now) (program_view c.args.program.now)
          (reached_view c.loop-i.reached) (reached_view c.in_ok-begun.begun) (reached_view c.in-Some.behind)
          c.args.names.now c.args.trees.now c.loop-i.i c.at.result.now c.index-trees-i.result
          (decls_view c.args.program.now.decls) _ c.loop-i.next c.len-count.result
          some c.at.ensures there c.index-trees-i.is counted
          (own_decls c.args.program.now.decls.items.items c.part-own.result.now c.as_slice-decls.result.now c.loop-i.next
          c.len-count.result _ c.part-own.ensures refl c.as_slice-decls.ensures.value)
          c.in_ok-begun.ensures
          (of_some _ _ _ c.in-Some.is c.in_ok-behind_decls.ensures) rest);
    }
