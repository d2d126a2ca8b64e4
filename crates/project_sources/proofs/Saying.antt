-- What faults say, and what files tell.
use Rattle.std.proofs.Common.{Some, None, IfSome}
use Rattle.std.specs.declared.option.Option.{Option}
use Rattle.ur_outside.specs.Files.{Told}
use Rattle.project_sources.specs.Causes.{Says}
use Rattle.project_sources.specs.declared.fault.SourceFault.{SourceFault}
use Rattle.project_sources.specs.declared.fault.SourceFault.TheVariants.{BadProject, UnknownForeign, MissingFile}
use Rattle.project_sources.specs.declared.fault.SourceFault.TheVariants.{FileTooLong, NotUtf8, Unread, Unparsed}
use Rattle.project_sources.specs.declared.fault.SourceFault.TheVariants.{ReadFault, Memory}

-- what each fault says says something else
pub says-weaker : (P Q : SourceFault → Type 0) → ((fault : SourceFault) → P fault → Q fault) → (fault : SourceFault)
    → Says P fault → Says Q fault
says-weaker P Q step (BadProject file line) h = step (BadProject file line) h
says-weaker P Q step (UnknownForeign name) h = step (UnknownForeign name) h
says-weaker P Q step (MissingFile file) h = step (MissingFile file) h
says-weaker P Q step (FileTooLong file) h = step (FileTooLong file) h
says-weaker P Q step (NotUtf8 file) h = step (NotUtf8 file) h
says-weaker P Q step (Unread file fault) h = step (Unread file fault) h
says-weaker P Q step (Unparsed file fault) h = step (Unparsed file fault) h
says-weaker P Q step ReadFault h = tt
says-weaker P Q step Memory h = tt

-- from one fact, or from two, of the files that are told
pub told_one : (told : Option Told) (P Q : Told → Type 0) → IfSome told P → ((files : Told) → P files → Q files)
    → IfSome told Q
told_one None P Q p step = tt
told_one (Some files) P Q p step = step files p

pub told_two : (told : Option Told) (P Q R : Told → Type 0) → IfSome told P → IfSome told Q → ((files : Told)
    → P files → Q files → R files) → IfSome told R
told_two None P Q R p q step = tt
told_two (Some files) P Q R p q step = step files p q

-- what is so of all files is so of those that are told
pub told_all : (told : Option Told) (P : Told → Type 0) → ((files : Told) → P files) → IfSome told P
told_all None P step = tt
told_all (Some files) P step = step files

pub told_nothing : (told : Option Told) → IfSome told (λ files. Unit {0})
told_nothing None = tt
told_nothing (Some files) = tt
