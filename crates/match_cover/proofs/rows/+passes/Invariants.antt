use Rattle.std.proofs.Common.{◌+◌, ◌*◌}
use Rattle.match_cover.specs.declared.test.Test.TheViews.{size-Test, size-Tests}
use Rattle.match_cover.proofs.rows.+passes.Given as goal

abbrev pub decreases-passes : goal.decreases-passes
decreases-passes l = 2 * size-Test l.t.now

abbrev pub decreases-fields_pass : goal.decreases-fields_pass
decreases-fields_pass l = 2 * size-Tests l.ts.now

abbrev pub decreases-field_passes : goal.decreases-field_passes
decreases-field_passes l = 2 * size-Test l.t.now + 1
