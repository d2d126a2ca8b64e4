-- What a function answered, against what is computed here in specs.
use Rattle.std.specs.Prelude.{◌≡◌, Result, Ok, Err}
use Rattle.ur_lexer.specs.declared.fault.LexFault.{LexFault}
use Rattle.ur_lexer.specs.declared.fault.LexFault.TheVariants.{BadChar, OpenText, OpenComment, IntTooLarge, Memory}

abbrev pub Fails : {X : Type 0} → LexFault → Result X LexFault → Type 0
Fails Memory read = Unit {0}
Fails (BadChar n) read = read ≡ Err (BadChar n)
Fails (OpenText n) read = read ≡ Err (OpenText n)
Fails (OpenComment n) read = read ≡ Err (OpenComment n)
Fails (IntTooLarge n) read = read ≡ Err (IntTooLarge n)

-- the answer is the definition's, unless memory ran out
abbrev pub Gives : {X : Type 0} → Result X LexFault → Result X LexFault → Type 0
Gives (Ok x) read = read ≡ Ok x
Gives (Err e) read = Fails e read
