-- What files in memory tell.
use Rattle.std.specs.Prelude.{List, map}
use Rattle.ur_outside.specs.Files.{Told}
use Rattle.ur_outside.specs.declared.mem_files.MemFile.{MemFile}

-- files in memory, as their paths and what they hold
abbrev pub told_by : List MemFile → Told
told_by files = map (λ (f : MemFile). (f.path, f.bytes)) files
