-- What is answered to a path.
use Rattle.std.specs.Prelude.{◌≡◌, ℕ, ◌-◌, Bool, List, [], ◌∷◌, ◌++◌, length, Option, Some, None, slice_get, Result, MatchResult, IfSome, ◌⊎◌}
use Rattle.table_rows.specs.Wires.{Wrs}
use Rattle.table_rows.specs.Shapes.{Cases}
use Rattle.link_router.specs.Reading.{bad, few, ReadsAll, StopsAll}
use Rattle.link_router.specs.Calls.{Ent, Rts, Cl, is_post}
use Rattle.link_router.specs.Routed.{Astray, no_route, other_method, bad_piece, too_few, too_many, Refuses}
use Rattle.link_router.specs.View.{call_view}
use Rattle.link_router.specs.declared.call.Call.{Call}
use Rattle.link_router.specs.declared.router.LinkFault.{LinkFault}
use Rattle.link_router.specs.declared.router.LinkFault.TheVariants.{NoRoute, OtherMethod, BadPiece, TooFewPieces, TooManyPieces, Memory}

-- an entry is read by this method, and the pieces are those of its name and the rest
pub record FitsEntry (post : Bool) (pieces : List (List ℕ)) (e : Ent) (rest : List (List ℕ)) : Type 0 where
  pub by_method : is_post e.form ≡ post
  pub begins : pieces ≡ e.name ++ rest

-- the entry at this place does
pub record FoundEntry (routes : Rts) (post : Bool) (pieces : List (List ℕ)) (i : ℕ) (e : Ent)
    (rest : List (List ℕ)) : Type 0 where
  pub there : slice_get routes.entries i ≡ Some e
  pub fits : FitsEntry post pieces e rest

-- no entry does
abbrev pub NoEntryFound : Rts → Bool → List (List ℕ) → Type 0
NoEntryFound routes post pieces = (i : ℕ) (e : Ent) (rest : List (List ℕ)) → FoundEntry routes post pieces i e rest → ⊥

-- the call of the entry at a place whose arguments are these pieces, all of them
pub record IsCallAt (D : List Cases) (i : ℕ) (e : Ent) (rest : List (List ℕ)) (call : Cl) : Type 0 where
  pub entry : call.entry ≡ i
  pub arguments : ReadsAll D e.arguments rest call.wires []
  pub no_form : call.form ≡ None
  pub no_cookie : call.cookie ≡ []

-- why these pieces are no arguments of the entry
abbrev pub StraysAt : List Cases → Ent → List (List ℕ) → LinkFault → Type 0
StraysAt D e rest NoRoute = ⊥
StraysAt D e rest OtherMethod = ⊥
StraysAt D e rest (BadPiece i) =
    (left : List (List ℕ)) × StopsAll D e.arguments rest (bad left) × (i ≡ length rest - length left)
StraysAt D e rest TooFewPieces = StopsAll D e.arguments rest few
StraysAt D e rest TooManyPieces =
    (ws : Wrs) × (p : List ℕ) × (left : List (List ℕ)) × ReadsAll D e.arguments rest ws (p ∷ left)
StraysAt D e rest Memory = Unit {0}

-- the refusal that a fault tells
abbrev pub astray_of : LinkFault → Option Astray
astray_of NoRoute = Some no_route
astray_of OtherMethod = Some other_method
astray_of (BadPiece i) = Some (bad_piece i)
astray_of TooFewPieces = Some too_few
astray_of TooManyPieces = Some too_many
astray_of Memory = None

-- the fault is want of memory, or tells a refusal of the path
abbrev pub IsRefusal : Rts → Bool → List ℕ → LinkFault → Type 0
IsRefusal routes post target fault = IfSome (astray_of fault) (λ why. Refuses routes post target why)

-- the answer is this refusal, save for want of memory
abbrev pub AnswersSo : Result Call LinkFault → Astray → Type 0
AnswersSo result why = MatchResult result (λ call. ⊥) (λ fault. (astray_of fault ≡ None) ⊎ (astray_of fault ≡ Some why))

-- the answer is this call, save for want of memory
abbrev pub AnswersCall : Result Call LinkFault → Cl → Type 0
AnswersCall result call = MatchResult result (λ found. call_view found ≡ call) (λ fault. astray_of fault ≡ None)
