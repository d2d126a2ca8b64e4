-- The lines that the program writes beside pages and refusals.
use Rattle.std.specs.Prelude.{ℕ, List, codes}

-- the one line that tells how the program is used
abbrev pub usage : List ℕ
usage = codes "usage: urweb page | check DIR | explicit DIR | run DIR | serve DIR ADDR | load SEED\n"

-- what is said of a project that is accepted
abbrev pub accepted : List ℕ
accepted = codes "accepted\n"
