-- What is asked of the leaves of a part of a term: an item of a call, and a declaration of a `let`.
use Rattle.std.specs.Prelude.{ℕ, ◌<◌}
use Rattle.core_terms.specs.Trees.{It, a_term, a_con, a_guard, Lo, a_val, a_rec}
use Rattle.core_terms.specs.Leaves.{NamesThere, NamedFit, TermFits}

abbrev pub ItemFits : ℕ → It → Type 0
ItemFits n (a_term e) = TermFits n e
ItemFits n (a_con p a c) = NamesThere n c
ItemFits n (a_guard p a) = Unit {0}

abbrev pub LocalFits : ℕ → Lo → Type 0
LocalFits n (a_val p x w t e) = (x < n) × NamesThere n t × TermFits n e
LocalFits n (a_rec ns) = NamedFit n ns
