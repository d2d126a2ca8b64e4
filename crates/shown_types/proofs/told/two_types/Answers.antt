use Rattle.std.proofs.Common.{rules, ◌≡◌, string_bytes, ◌∙◌}
use Rattle.con_terms.specs.View.{con_tree}
use Rattle.shown_types.specs.Printed.{put_con}
use Rattle.shown_types.specs.View.{known_view}
use Rattle.shown_types.proofs.Meaning.{two_are}
use Rattle.shown_types.proofs.told.two_types.Goals as goal

pub returns : goal.returns
returns c =
    let g = known_view c.args.known.now in
    let called = c.args.called.now in
    let whole : string_bytes c.into_text.result ≡ put_con g called 0 (con_tree c.args.right.now) (put_con g called 0 (con_tree c.args.left.now) c.args.beginning.now) = search rules in
    whole ∙ two_are g called (con_tree c.args.left.now) (con_tree c.args.right.now) c.args.beginning.now
