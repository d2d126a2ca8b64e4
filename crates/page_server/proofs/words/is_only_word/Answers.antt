use Rattle.std.proofs.Common.{ℕ, List, ap, ◌∙◌, string_bytes}
use Rattle.std.specs.Prelude.{nat_eq}
use Rattle.std.specs.Cmp.Lexicographic.{pointwise}
use Rattle.page_server.proofs.OneWord.{one_word}
use Rattle.page_server.proofs.words.is_only_word.Goals as goal

pub returns-in-len1 : goal.returns-in-len1
returns-in-len1 c =
    one_word string_bytes c.args.words.now c.word-item.result c.args.wanted.now c.eq.result c.in-len1.len_at_least c.in-len1.len_below c.word-item.is
    (c.eq.ensures ∙ ap (λ (l : List ℕ). pointwise nat_eq l c.args.wanted.now) c.as_str.ensures.value)
