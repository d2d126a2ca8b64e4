use Rattle.std.proofs.Common.{◌≡◌, ◌++◌, drop}
use Rattle.ur_outside.specs.Files.{names_in}
use Rattle.ur_outside.specs.MemFiles.{told_by}
use Rattle.ur_outside.proofs.mem_files.names_in.Given as goal

abbrev pub invariant-loop-file : goal.invariant-loop-file
invariant-loop-file l = l.names ++ names_in (told_by (drop l.file-index l.files)) l.dir ≡ names_in (told_by l.files) l.dir
