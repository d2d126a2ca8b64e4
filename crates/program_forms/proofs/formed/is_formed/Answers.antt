use Rattle.std.proofs.Common.{◌<◌, rules, subst}
use Rattle.std.specs.List.{AllByRecursion}
use Rattle.core_terms.specs.Leaves.{DeclFits}
use Rattle.core_terms.specs.View.{decls_view}
use Rattle.program_forms.proofs.Whole.{formed_from}
use Rattle.program_forms.proofs.formed.is_formed.Goals as goal

pub returns : goal.returns
returns c = record {
  formed = λ yes.
      formed_from _ c.count_values.result
      (c.in_ok-begins_with_basis.ensures c.if-not-branch.false)
      (c.in_ok-texts_differ.ensures c.if-not-branch-2.false)
      (c.in_ok-type_symbols_differ.ensures c.if-not-branch-3.false)
      (c.kinds_differ.ensures c.if-not-kinds_differ.false)
      (c.are_plain.ensures c.if-not-are_plain.false)
      (c.are_plain-2.ensures c.if-not-are_plain-2.false)
      (search rules)
      (subst (λ n. AllByRecursion (DeclFits n) (decls_view c.args.p.now.decls)) c.len-count.ensures
      (c.decls_fit.ensures c.if-not-decls_fit.false))
      c.count_values.ensures
      (subst (λ xs. AllByRecursion (λ i. i < c.count_values.result) xs) c.as_slice.ensures.value (c.all_below.ensures yes));
}
