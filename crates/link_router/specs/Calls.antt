-- The entries of a site, calls of them, and requests.
use Rattle.std.specs.Prelude.{ℕ, Bool, true, false, List, Option, Some, None, IsUtf8, FitsSigned}
use Rattle.std.specs.Int.{w64}
use Rattle.table_rows.specs.Wires.{Wr, int, words, unit, rec_of, bare, tagged, Wrs, no_wires, wire}
use Rattle.table_rows.specs.Shapes.{Sh, Shs, Cases}

-- a function that a request can call: its name piece by piece, the shapes of its arguments, and the form of an action
pub record Ent : Type 0 where
  pub name : List (List ℕ)
  pub arguments : Shs
  pub form : Option Sh

-- the entries of a site, with the datatypes that their arguments name
pub record Rts : Type 0 where
  pub datatypes : List Cases
  pub entries : List Ent

-- an entry with a form is read by POST, another one by GET
abbrev pub is_post : Option Sh → Bool
is_post None = false
is_post (Some s) = true

-- a call: the entry's number, its arguments, an action's form, and the value of the Cookie header
pub record Cl : Type 0 where
  pub entry : ℕ
  pub wires : Wrs
  pub form : Option Wr
  pub cookie : List ℕ

-- a request: whether it is a POST, its target without the query, its body, and the value of its first Cookie header
pub record Asked : Type 0 where
  pub post : Bool
  pub path : List ℕ
  pub body : List ℕ
  pub cookie : List ℕ

-- what a value of the program can be: its texts are UTF-8, and its numbers have 64 bits
abbrev mutual
  pub IsCarried : Wr → Type 0
  IsCarried (int z) = FitsSigned w64 z
  IsCarried (words t) = IsUtf8 t
  IsCarried unit = Unit {0}
  IsCarried (rec_of ws) = AreCarried ws
  IsCarried (bare n) = Unit {0}
  IsCarried (tagged n w) = IsCarried w

  pub AreCarried : Wrs → Type 0
  AreCarried no_wires = Unit {0}
  AreCarried (wire w ws) = IsCarried w × AreCarried ws
