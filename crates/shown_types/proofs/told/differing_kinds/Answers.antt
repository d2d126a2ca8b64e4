use Rattle.std.proofs.Common.{rules, ◌≡◌, false, string_bytes, codes, ◌∙◌}
use Rattle.con_terms.specs.View.{kind_tree}
use Rattle.shown_types.specs.Printed.{put_kind}
use Rattle.shown_types.specs.Words.{put_word}
use Rattle.shown_types.proofs.Meaning.{kinds_differ}
use Rattle.shown_types.proofs.told.differing_kinds.Goals as goal

pub returns : goal.returns
returns c =
    let whole : string_bytes c.into_text.result ≡ put_kind false (kind_tree c.args.found.now) (put_word (codes "found")
    (put_kind false (kind_tree c.args.wanted.now) (put_word (codes "wanted") c.args.beginning.now))) = search rules in
    whole ∙ kinds_differ (kind_tree c.args.wanted.now) (kind_tree c.args.found.now) c.args.beginning.now
