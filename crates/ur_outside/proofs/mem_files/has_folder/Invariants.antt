use Rattle.std.proofs.Common.{◌≡◌, drop}
use Rattle.ur_outside.specs.Files.{has_folder}
use Rattle.ur_outside.specs.MemFiles.{told_by}
use Rattle.ur_outside.proofs.mem_files.has_folder.Given as goal

abbrev pub invariant-loop-file : goal.invariant-loop-file
invariant-loop-file l = has_folder (told_by l.files) l.dir ≡ has_folder (told_by (drop l.file-index l.files)) l.dir
