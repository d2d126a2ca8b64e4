-- What a directive of a project file says.
use Rattle.std.specs.Prelude.{ℕ, Bool, true, false, ◌==◌, ◌&&◌, ◌||◌, not, nat_lt, List, [], ◌∷◌, length, drop, Option, Some, None, codes, if◌then◌else◌}
use Rattle.std.specs.Char.{is_ascii_lowercase, is_ascii_uppercase, is_ascii_alphanumeric, to_ascii_uppercase}
use Rattle.std.specs.List.{starts_with, list_all, position_or_len, before_first, after_first}
use Rattle.project_files.specs.Lines.{Line}

-- the line begins with these bytes
abbrev pub begins_with : Line → Line → Bool
begins_with front line = starts_with (λ a b. a == b) line front

-- what stands behind these bytes, where the line begins with them
abbrev pub behind : Line → Line → Option Line
behind front line = if begins_with front line then Some (drop (length front) line) else None

-- what stands before and behind the first of a byte
abbrev pub parted : ℕ → Line → Option (Line × Line)
parted byte line =
    if nat_lt (position_or_len (λ b. b == byte) line) (length line)
    then Some (before_first (λ b. b == byte) line, after_first (λ b. b == byte) line) else None

-- letters, digits and `_`; in a name of a source also `'`
abbrev pub is_word_byte : ℕ → Bool
is_word_byte b = is_ascii_alphanumeric b || (b == 95)

abbrev pub is_name_byte : ℕ → Bool
is_name_byte b = is_word_byte b || (b == 39)

-- the first byte passes one test, and each later one another
abbrev pub is_word : (ℕ → Bool) → (ℕ → Bool) → Line → Bool
is_word first later [] = false
is_word first later (b ∷ bs) = first b && list_all later bs

-- a module's name in a source: an upper-case letter, then letters, digits, `_` and `'`
abbrev pub is_module_name : Line → Bool
is_module_name = is_word is_ascii_uppercase is_name_byte

-- a value's name in a source: a lower-case letter or `_`, then letters, digits, `_` and `'`
abbrev pub is_value_name : Line → Bool
is_value_name = is_word (λ b. is_ascii_lowercase b || (b == 95)) is_name_byte

-- a module's line: a lower-case letter, then letters, digits and `_`
abbrev pub is_module_line : Line → Bool
is_module_line = is_word is_ascii_lowercase is_word_byte

-- the name in sources of a line's module: its first letter is upper case
abbrev pub module_name : Line → Line
module_name [] = []
module_name (b ∷ bs) = to_ascii_uppercase b ∷ bs

pub data Directive : Type 0 where
  -- addresses that fit are allowed, or denied
  a_rule : Bool → Line → Directive
  -- a function that may be called without a check of the request's origin: its module and its name
  a_safe_get : Line → Line → Directive
  -- a module of foreign effects
  a_foreign : Line → Directive
  -- an effect: its module and its name
  an_effect : Line → Line → Directive
  -- what has no effect here
  a_setting : Directive

-- a module's name and a value's name round a byte
abbrev pub two_names : ℕ → (Line → Line → Directive) → Line → Option Directive
two_names byte says line =
    elim (parted byte line) [
      | None ↦ None
      | Some p ↦ if is_module_name p.0 && is_value_name p.1 then Some (says p.0 p.1) else None
    ]

abbrev pub one_name : Line → Option Directive
one_name name = if is_module_name name then Some (a_foreign name) else None

-- a word ends where the line does, or before a space
abbrev pub at_word_end : Line → Bool
at_word_end [] = true
at_word_end (b ∷ bs) = b == 32

-- the line is a word, alone or before a space
abbrev pub has_word : Line → Line → Bool
has_word word line = elim (behind word line) [ None ↦ false | Some rest ↦ at_word_end rest ]

-- `database`, `sql`, `exe`, `timeout` and `debug`, with anything after them
abbrev pub is_setting : Line → Bool
is_setting line =
    has_word (codes "database") line || has_word (codes "sql") line || has_word (codes "exe") line
    || has_word (codes "timeout") line || has_word (codes "debug") line

abbrev pub or_else : Option Line → (Line → Option Directive) → Option Directive → Option Directive
or_else None says other = other
or_else (Some rest) says other = says rest

-- what a line says as a directive: `allow url P`, `deny url P`, `safeGet M/f`, `ffi M`, `effectful M.f`, or a setting
abbrev pub directive : Line → Option Directive
directive line =
    or_else (behind (codes "allow url ") line) (λ p. Some (a_rule true p))
    (or_else (behind (codes "deny url ") line) (λ p. Some (a_rule false p))
    (or_else (behind (codes "safeGet ") line) (two_names 47 a_safe_get)
    (or_else (behind (codes "ffi ") line) one_name
    (or_else (behind (codes "effectful ") line) (two_names 46 an_effect)
    (if is_setting line then Some a_setting else None)))))
