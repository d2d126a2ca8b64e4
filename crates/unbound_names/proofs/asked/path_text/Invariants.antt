use Rattle.std.proofs.Common.{◌≡◌, ◌++◌, drop}
use Rattle.unbound_names.specs.Asked.{path_words}
use Rattle.unbound_names.proofs.asked.path_text.Given as goal

abbrev pub invariant-loop-i : goal.invariant-loop-i
invariant-loop-i l =
    l.text ++ path_words (drop l.i l.path.modules) l.path.name ≡ path_words l.path.modules l.path.name
