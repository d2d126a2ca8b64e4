use Rattle.std.proofs.Common.{◌≡◌, ℕ, suc, ◌+◌, Some, None, rules, take, subst, arith}
use Rattle.std.specs.declared.option.Option.{Option}
use Rattle.std.proofs.lemmas.List.{take_all}
use Rattle.unbuilt_forms.specs.Unbuilt.{IsFirstUnbuilt}
use Rattle.site_build.proofs.Listed.{AreBuiltSources, built_more, built_listed, unbuilt_listed}
use Rattle.site_build.proofs.forms.are_built.Goals as goal

pub loop-module-preserved : goal.loop-module-preserved
loop-module-preserved c =
    let i = c.loop-module.module-index in
    let next : suc i ≡ i + 1 = omega arith in
    let none : IsFirstUnbuilt c.module-item.result.tree.leaves None = subst (λ (o : Option ℕ). IsFirstUnbuilt c.module-item.result.tree.leaves o) c.in_default.is c.first_unbuilt.ensures in
    subst (λ (n : ℕ). AreBuiltSources (take n c.args.modules.now)) next
    (built_more c.args.modules.now i c.module-item.result c.loop-module-test.true (search rules) c.loop-module.invariant none)

pub returns-clause-built : goal.returns-clause-built
returns-clause-built c =
    built_listed c.args.modules.now
    (subst AreBuiltSources (take_all c.loop-module.module-index c.args.modules.now c.loop-module-test.false) c.loop-module.invariant)

pub returns-in-Some-clause-refused : goal.returns-in-Some-clause-refused
returns-in-Some-clause-refused c =
    let at = c.in-Some.at in
    let some : IsFirstUnbuilt c.module-item.result.tree.leaves (Some at) = subst (λ (o : Option ℕ). IsFirstUnbuilt c.module-item.result.tree.leaves o) c.in-Some.is c.first_unbuilt.ensures in
    unbuilt_listed c.args.modules.now c.loop-module.module-index c.module-item.result c.in_ok-file.file at c.loop-module-test.true (search rules) c.loop-module.invariant some c.in_ok-file.ensures
