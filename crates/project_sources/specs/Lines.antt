-- The lines that tell why a project's sources aren't read.
use Rattle.std.specs.Prelude.{ℕ, List, ◌++◌, codes, decimal, Option, Some, None}
use Rattle.surface_grammar.specs.declared.fault.ParseFault.{ParseFault}
use Rattle.surface_grammar.specs.declared.fault.ParseFault.TheVariants as parser
use Rattle.ur_lexer.specs.declared.fault.LexFault.{LexFault}
use Rattle.ur_lexer.specs.declared.fault.LexFault.TheVariants as lexer
use Rattle.project_sources.specs.declared.fault.SourceFault.{SourceFault}
use Rattle.project_sources.specs.declared.fault.SourceFault.TheVariants.{BadProject, UnknownForeign, MissingFile}
use Rattle.project_sources.specs.declared.fault.SourceFault.TheVariants.{FileTooLong, NotUtf8, Unread, Unparsed}
use Rattle.project_sources.specs.declared.fault.SourceFault.TheVariants.{ReadFault, Memory}

-- the line of a refusal of a whole file
abbrev pub line_whole : List ℕ → List ℕ → List ℕ
line_whole file name = file ++ codes ": " ++ name ++ codes "\n"

-- the line of a refusal at a number: a byte of a file, or a line of a project file
abbrev pub line_at : List ℕ → ℕ → List ℕ → List ℕ
line_at file at name = file ++ codes ":" ++ decimal at ++ codes ": " ++ name ++ codes "\n"

abbrev pub line_of_lex : List ℕ → LexFault → Option (List ℕ)
line_of_lex file (lexer.BadChar at) = Some (line_at file at (codes "BadChar"))
line_of_lex file (lexer.OpenText at) = Some (line_at file at (codes "OpenText"))
line_of_lex file (lexer.OpenComment at) = Some (line_at file at (codes "OpenComment"))
line_of_lex file (lexer.IntTooLarge at) = Some (line_at file at (codes "IntTooLarge"))
line_of_lex file lexer.Memory = None

abbrev pub line_of_parse : List ℕ → ParseFault → Option (List ℕ)
line_of_parse file (parser.Syntax at) = Some (line_at file at (codes "Syntax"))
line_of_parse file (parser.TooDeep at) = Some (line_at file at (codes "TooDeep"))
line_of_parse file parser.Memory = None

-- the line of a refusal; a failure of reading and want of memory have none
abbrev pub line_of : SourceFault → Option (List ℕ)
line_of (BadProject file line) = Some (line_at file line (codes "BadProject"))
line_of (UnknownForeign name) = Some (codes "UnknownForeign " ++ name ++ codes "\n")
line_of (MissingFile file) = Some (line_whole file (codes "MissingFile"))
line_of (FileTooLong file) = Some (line_whole file (codes "FileTooLong"))
line_of (NotUtf8 file) = Some (line_whole file (codes "NotUtf8"))
line_of (Unread file fault) = line_of_lex file fault
line_of (Unparsed file fault) = line_of_parse file fault
line_of ReadFault = None
line_of Memory = None
