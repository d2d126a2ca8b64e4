-- What a fault says.
use Rattle.project_sources.specs.declared.fault.SourceFault.{SourceFault}
use Rattle.project_sources.specs.declared.fault.SourceFault.TheVariants.{BadProject, UnknownForeign, MissingFile}
use Rattle.project_sources.specs.declared.fault.SourceFault.TheVariants.{FileTooLong, NotUtf8, Unread, Unparsed}
use Rattle.project_sources.specs.declared.fault.SourceFault.TheVariants.{ReadFault, Memory}

-- Want of memory and a failure of the outside say nothing of the files; each other fault says this.
abbrev pub Says : (SourceFault → Type 0) → SourceFault → Type 0
Says P (BadProject file line) = P (BadProject file line)
Says P (UnknownForeign name) = P (UnknownForeign name)
Says P (MissingFile file) = P (MissingFile file)
Says P (FileTooLong file) = P (FileTooLong file)
Says P (NotUtf8 file) = P (NotUtf8 file)
Says P (Unread file fault) = P (Unread file fault)
Says P (Unparsed file fault) = P (Unparsed file fault)
Says P ReadFault = Unit {0}
Says P Memory = Unit {0}
