use Rattle.std.proofs.Common.{rules, ◌≡◌, string_bytes, codes, ◌∙◌}
use Rattle.con_terms.specs.View.{con_tree}
use Rattle.shown_types.specs.Printed.{put_con}
use Rattle.shown_types.specs.View.{known_view}
use Rattle.shown_types.specs.Words.{put_word}
use Rattle.shown_types.proofs.Meaning.{types_differ}
use Rattle.shown_types.proofs.told.differing_types.Goals as goal

pub returns : goal.returns
returns c =
    let g = known_view c.args.known.now in
    let called = c.args.called.now in
    let whole : string_bytes c.into_text.result ≡ put_con g called 0 (con_tree c.args.found.now) (put_word (codes "found")
    (put_con g called 0 (con_tree c.args.wanted.now) (put_word (codes "wanted") c.args.beginning.now))) = search rules in
    whole ∙ types_differ g called (con_tree c.args.wanted.now) (con_tree c.args.found.now) c.args.beginning.now
