-- Laws of typing, for each of the three typings: with nothing asked beyond the manual's rules, with cover, with
-- kinds of exchanged types.
use Rattle.std.specs.Prelude.{◌≡◌, ℕ, ◌≤◌, List, Some, slice_get}
use Rattle.std.specs.List.{Contains}
use Rattle.con_terms.specs.Trees.{Kd, types, row_of, Cn}
use Rattle.con_terms.specs.Equal.{Equal}
use Rattle.core_terms.specs.Trees.{Pt, Ex, Xs, no_nodes, a_node}
use Rattle.core_terms.specs.Types.{no_types, xml_of}
use Rattle.core_typing.specs.Cover.{Covers}
use Rattle.core_typing.specs.Asks.{CoverAsked, Asks, no_cover, asking_cover, nothing_asked, cover_asked, kinds_asked}
use Rattle.core_typing.specs.Scopes.{Sc}
use Rattle.core_typing.specs.Judged.{HasKind}
use Rattle.core_typing.specs.Compared.{Alike}
use Rattle.core_typing.specs.Typed.{Typed}
use Rattle.core_typing.specs.Found.{FoundBy, Found, NodesFound}
use Rattle.core_typing.specs.PatternFaults.{PatFound}
use Rattle.core_typing.specs.KindLaws.{Widens}

-- of each typing
abbrev pub OfEach : (Asks → Type 0) → Type 0
OfEach F = F nothing_asked × F cover_asked × F kinds_asked

-- A term of a type has each type that is equal to it, where what is asked of that holds.
abbrev pub Exchanges : Asks → Type 0
Exchanges A = (G : Sc) (e : Ex) (t u : Cn) → Typed A G e t → Equal t u → A.exchange G.kinds u → Typed A G e u

abbrev pub EqualTypesExchange : Type 0
EqualTypesExchange = OfEach Exchanges

-- A typing that asks for cover or for kinds is one that asks nothing.
abbrev pub AskingLess : Type 0
AskingLess = OfEach (λ A. (G : Sc) (e : Ex) (t : Cn) → Typed A G e t → Typed nothing_asked G e t)

-- What is found from the parts by comparing normal forms is a typing, without and with cover.
abbrev pub FoundHasType : CoverAsked → Type 0
FoundHasType C = (G : Sc) (e : Ex) (t : Cn) → FoundBy C G e t → Typed (asking_cover C) G e t

abbrev pub FoundIsTyped : Type 0
FoundIsTyped = FoundHasType no_cover × FoundHasType Covers

-- What is found with cover is found without.
abbrev pub FoundAskingLess : Type 0
FoundAskingLess = (G : Sc) (e : Ex) (t : Cn) → FoundBy Covers G e t → FoundBy no_cover G e t

-- One type at most is found for a term, and one list of types for what a pattern binds.
abbrev pub OneTypeIsFound : Type 0
OneTypeIsFound = (G : Sc) (e : Ex) (t u : Cn) → Found G e t → Found G e u → t ≡ u

abbrev pub OneListIsBound : Type 0
OneListIsBound = (G : Sc) (q : Pt) (t : Cn) (ts us : List Cn) → PatFound G q t ts → PatFound G q t us → ts ≡ us

-- a scope with more guards, further variables and top-level values behind those that are there, more folders and
-- more effects
pub record Extends (G H : Sc) : Type 0 where
  pub kinds : Widens G.kinds H.kinds
  pub locals : (i : ℕ) (t : Cn) → slice_get G.locals i ≡ Some t → slice_get H.locals i ≡ Some t
  pub tops : (i : ℕ) (t : Cn) → slice_get G.tops i ≡ Some t → slice_get H.tops i ≡ Some t
  pub datatypes : H.datatypes ≡ G.datatypes
  pub folders : (f : Kd × ℕ) → Contains G.folders f → Contains H.folders f
  pub effects : G.effects ≤ H.effects

-- A typing stays in a larger scope.
abbrev pub TypingsStay : Type 0
TypingsStay = OfEach (λ A. (G H : Sc) (e : Ex) (t : Cn) → Extends G H → Typed A G e t → Typed A H e t)

-- a node that fills no field, where nothing is filled before it
pub record IsPlainNode (G : Sc) (c b : Cn) (e : Ex) : Type 0 where
  pub tree : Cn
  pub fills_none : b ≡ no_types
  pub found : Found G e tree
  pub in_place : Alike (xml_of c no_types no_types) tree

abbrev pub ArePlainNodes : Sc → Cn → Xs → Type 0
ArePlainNodes G c no_nodes = Unit {0}
ArePlainNodes G c (a_node b e xs) = IsPlainNode G c b e × ArePlainNodes G c xs

-- Nodes that fill no field are found and fill none, however many stand one after another.
abbrev pub PlainNodesFillNothing : Type 0
PlainNodesFillNothing = (G : Sc) (c : Cn) (xs : Xs)
    → ArePlainNodes G c xs
    → NodesFound no_cover G c no_types xs no_types

-- An only node is asked for no guard: whatever it fills, and whatever is filled before it, its type is enough.
abbrev pub OnlyNodesAskNoGuard : Type 0
OnlyNodesAskNoGuard = (G : Sc) (c u b t : Cn) (e : Ex)
    → HasKind G b (row_of types)
    → Found G e t
    → Alike (xml_of c u b) t
    → NodesFound no_cover G c u (a_node b e no_nodes) b
