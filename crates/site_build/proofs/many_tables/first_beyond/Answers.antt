use Rattle.std.proofs.Common.{◌≡◌, ℕ, suc, ◌+◌, ◌<◌, ◌≤◌, List, min, count_by, rules, take, ap, sym, ◌∙◌, subst, refl, arith}
use Rattle.std.proofs.lemmas.List.{take_all}
use Rattle.surface_tree.specs.declared.token.Token.{Token}
use Rattle.site_build.specs.Tables.{is_table}
use Rattle.site_build.proofs.Listed.{beyond_listed, few_listed, few_sum, many_listed, many_sum, more_tables, tables_of}
use Rattle.site_build.proofs.many_tables.first_beyond.Goals as goal

pub returns-then-tables-gt-MOST_TABLES-clause-many : goal.returns-then-tables-gt-MOST_TABLES-clause-many
returns-then-tables-gt-MOST_TABLES-clause-many c =
    let before = tables_of (take c.loop-module.module-index c.args.modules.now) in
    let here = count_by is_table c.module-item.result.tree.leaves in
    let counted : c.count_tables.result ≡ here = c.count_tables.ensures ∙ ap (λ (l : List Token). count_by is_table l) c.leaves.ensures in
    let sum : c.saturating_add-tables.result ≡ min (before + here) 18446744073709551615 = rw (c.saturating_add-tables.ensures, c.loop-module.invariant.0, counted) refl in
    many_listed c.args.modules.now c.loop-module.module-index c.module-item.result c.loop-module-test.true (search rules)
    (many_sum before here (subst (λ (n : ℕ). 1000 < n) sum c.if-tables-gt-MOST_TABLES.true))

pub returns-then-tables-gt-MOST_TABLES-clause-beyond : goal.returns-then-tables-gt-MOST_TABLES-clause-beyond
returns-then-tables-gt-MOST_TABLES-clause-beyond c =
    let before = tables_of (take c.loop-module.module-index c.args.modules.now) in
    let here = count_by is_table c.module-item.result.tree.leaves in
    let counted : c.count_tables.result ≡ here = c.count_tables.ensures ∙ ap (λ (l : List Token). count_by is_table l) c.leaves.ensures in
    let sum : c.saturating_add-tables.result ≡ min (before + here) 18446744073709551615 = rw (c.saturating_add-tables.ensures, c.loop-module.invariant.0, counted) refl in
    beyond_listed c.args.modules.now c.loop-module.module-index c.module-item.result c.loop-module-test.true (search rules)
    (subst (λ (n : ℕ). n ≤ 1000) c.loop-module.invariant.0 c.loop-module.invariant.1)
    (many_sum before here (subst (λ (n : ℕ). 1000 < n) sum c.if-tables-gt-MOST_TABLES.true))

pub loop-module-preserved : goal.loop-module-preserved
loop-module-preserved c =
    let i = c.loop-module.module-index in
    let before = tables_of (take i c.args.modules.now) in
    let here = count_by is_table c.module-item.result.tree.leaves in
    let counted : c.count_tables.result ≡ here = c.count_tables.ensures ∙ ap (λ (l : List Token). count_by is_table l) c.leaves.ensures in
    let sum : c.saturating_add-tables.result ≡ min (before + here) 18446744073709551615 = rw (c.saturating_add-tables.ensures, c.loop-module.invariant.0, counted) refl in
    let next : suc i ≡ i + 1 = omega arith in
    let more : tables_of (take (i + 1) c.args.modules.now) ≡ before + here =
    subst (λ (n : ℕ). tables_of (take n c.args.modules.now) ≡ before + here) next (more_tables c.args.modules.now i c.module-item.result c.loop-module-test.true (search rules)) in
    (sum ∙ few_sum before here (subst (λ (n : ℕ). n ≤ 1000) sum c.if-tables-gt-MOST_TABLES.false) ∙ sym more, c.if-tables-gt-MOST_TABLES.false)

pub returns-clause-few : goal.returns-clause-few
returns-clause-few c =
    let all : tables_of (take c.loop-module.module-index c.args.modules.now) ≡ tables_of c.args.modules.now =
    ap tables_of (take_all c.loop-module.module-index c.args.modules.now c.loop-module-test.false) in
    few_listed c.args.modules.now (subst (λ (n : ℕ). n ≤ 1000) (c.loop-module.invariant.0 ∙ all) c.loop-module.invariant.1)
