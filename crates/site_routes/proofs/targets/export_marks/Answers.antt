use Rattle.site_routes.proofs.Marks.{numbers_tell}
use Rattle.site_routes.proofs.targets.export_marks.Goals as goal

pub returns : goal.returns
returns c =
    numbers_tell c.args.count c.args.exports.now.items.items c.in_ok-marks.marks.items c.mark_exports.new.marks.items
    c.in_ok-marks.ensures.len c.in_ok-marks.ensures.off c.mark_exports.ensures
