use Rattle.std.proofs.Common.{◌≡◌, drop}
use Rattle.ur_outside.specs.Files.{file_at}
use Rattle.ur_outside.specs.MemFiles.{told_by}
use Rattle.ur_outside.proofs.mem_files.file_at.Given as goal

abbrev pub invariant-loop-file : goal.invariant-loop-file
invariant-loop-file l = file_at (told_by l.files) l.path ≡ file_at (told_by (drop l.file-index l.files)) l.path
