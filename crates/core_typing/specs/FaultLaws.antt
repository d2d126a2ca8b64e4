-- Laws of told faults.
use Rattle.std.specs.Prelude.{◌≡◌, ◌≢◌, ◌⊎◌, ℕ, List, Some}
use Rattle.con_terms.specs.Trees.{Cn}
use Rattle.core_terms.specs.Names.{int_name, string_name}
use Rattle.core_terms.specs.Trees.{Pt, Ex, Dt, Pg}
use Rattle.core_terms.specs.Datatypes.{datatype_of}
use Rattle.core_typing.specs.Scopes.{Sc}
use Rattle.core_typing.specs.Faults.{Fault, unbound, kind_mismatch, mismatch, not_disjoint, inexhaustive, redeclared, link_not_call, not_serialisable, too_large, not_built}
use Rattle.core_typing.specs.Tells.{Fails, Tells, ProgramTells}
use Rattle.core_typing.specs.Accepts.{Formed}
use Rattle.core_typing.specs.Cover.{Covers}
use Rattle.core_typing.specs.Found.{FoundBy}
use Rattle.con_terms.specs.declared.place.Place.{Place}
use Rattle.xml_trees.specs.declared.source_name.AttrName.{AttrName}
use Rattle.core_typing.specs.Typed.{IsLinked}
use Rattle.core_typing.specs.Own.{Uncovered}

-- the two sides that a mismatch keeps differ
abbrev pub SidesDiffer : Fault → Type 0
SidesDiffer (mismatch p xs wanted found) = wanted ≢ found
SidesDiffer (kind_mismatch p wanted found) = wanted ≢ found
SidesDiffer (unbound p u) = Unit {0}
SidesDiffer (not_disjoint p xs c d) = Unit {0}
SidesDiffer (inexhaustive p xs s) = Unit {0}
SidesDiffer (redeclared p t) = Unit {0}
SidesDiffer (link_not_call p) = Unit {0}
SidesDiffer (not_serialisable p) = Unit {0}
SidesDiffer (too_large p) = Unit {0}
SidesDiffer (not_built p) = Unit {0}

-- no datatype has the symbol of int or string, as in each program that is built
abbrev pub OwnSymbols : Sc → Type 0
OwnSymbols G = (s : ℕ) (d : Dt) → datatype_of G.datatypes s ≡ Some d → (s ≢ int_name) × (s ≢ string_name)

-- A mismatch that a term tells keeps two sides that differ.
abbrev pub ToldSidesDiffer : Type 0
ToldSidesDiffer = (G : Sc) (e : Ex) (f : Fault) → OwnSymbols G → Tells G e f → SidesDiffer f

-- And so does a mismatch that a program tells.
abbrev pub ProgramSidesDiffer : Type 0
ProgramSidesDiffer = (p : Pg) (f : Fault) → Formed p → ProgramTells p f → SidesDiffer f

-- A term that is found with cover has no fault, neither itself nor in a part.
abbrev pub FoundTellsNothing : Type 0
FoundTellsNothing = (G : Sc) (e : Ex) (t : Cn) (f : Fault) → FoundBy Covers G e t → Fails G e f → ⊥

-- Whether patterns cover, and whether links are calls with arguments that travel, can be told. Both are premises of
-- the law below. The crate told_terms proves them (cover_is_decided, links_are_decided), and so its law that each term
-- is found or fails (each_term_is_found_or_fails) has neither premise.
abbrev pub CoverIsDecided : Type 0
CoverIsDecided = (G : Sc) (p : Place) (ps : List Pt) (t : Cn)
    → Covers G.datatypes ps t ⊎ ((f : Fault) × Uncovered G p ps t f)

abbrev pub LinksAreDecided : Type 0
LinksAreDecided = (G : Sc) (n : AttrName) (e : Ex) → IsLinked G n e ⊎ (IsLinked G n e → ⊥)

-- Where both can be told, a term is found with cover, or it has a fault: no premise fails untold.
abbrev pub FoundOrFails : Type 0
FoundOrFails = CoverIsDecided
    → LinksAreDecided
    → (G : Sc) (e : Ex)
    → ((t : Cn) × FoundBy Covers G e t) ⊎ ((f : Fault) × Fails G e f)
