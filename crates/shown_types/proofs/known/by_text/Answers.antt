use Rattle.std.proofs.Common.{rules, ◌≡◌, ◌==◌, length}
use Rattle.std.specs.List.{position_or_len}
use Rattle.shown_types.proofs.Free.{found_nowhere}
use Rattle.shown_types.proofs.known.by_text.Goals as goal

pub returns-in-None : goal.returns-in-None
returns-in-None c =
    let at_end : position_or_len (λ b. b == 46) c.args.text.now ≡ length c.args.text.now = search rules in
    rw (found_nowhere (λ b. b == 46) c.args.text.now at_end) c.word-in-None.ensures
