-- Which programs are accepted.
use Rattle.std.specs.Prelude.{◌≡◌, ◌≢◌, ℕ, ◌<◌, Bool, List, [], ◌++◌, map, length, take, Some, slice_get}
use Rattle.std.specs.List.{All, AllByRecursion, Contains}
use Rattle.link_router.specs.RouteLaws.{IsPlain}
use Rattle.link_router.specs.Calls.{Ent}
use Rattle.core_terms.specs.Names.{basis_texts}
use Rattle.con_terms.specs.Trees.{Kd}
use Rattle.core_terms.specs.Trees.{Pg}
use Rattle.core_typing.specs.Scopes.{basis_kinds, datatype_kinds, folder_kinds}
use Rattle.core_typing.specs.Asks.{cover_asked}
use Rattle.core_typing.specs.Declarations.{DeclsTyped, Distinct, Value, values}
use Rattle.core_terms.specs.Leaves.{AllThere, DeclFits}
use Rattle.core_typing.specs.Entries.{IsEntry, all_datatypes, value_name}

-- the symbols of all types: those of the basis, of datatypes and of folders
abbrev pub type_symbols : Pg → List ℕ
type_symbols p = map (λ (b : ℕ × Kd). b.0) (basis_kinds ++ datatype_kinds (all_datatypes p) ++ folder_kinds
    p.folders)

-- no two symbols have one text
abbrev pub TextsDiffer : List (List ℕ) → Type 0
TextsDiffer names = (i j : ℕ) (t : List ℕ) → slice_get names i ≡ Some t → slice_get names j ≡ Some t → i ≡ j

-- no two folders are for one kind
abbrev pub FoldersDiffer : List (Kd × ℕ) → Type 0
FoldersDiffer fs = (i j : ℕ) (f g : Kd × ℕ) → slice_get fs i ≡ Some f → slice_get fs j ≡ Some g → f.0 ≡ g.0 → i ≡ j

-- no value's name in links begins another's
abbrev pub NamesBeginNone : Pg → Type 0
NamesBeginNone p = (v w : Value) (more : List (List ℕ)) → Contains (values p.decls) v → Contains (values p.decls) w
    → value_name p v ++ more ≡ value_name p w → more ≡ []

-- a value stands in a module, and its name and those of the structures around it have texts
pub record Located (p : Pg) (v : Value) : Type 0 where
  pub in_module : v.place.file < length p.modules
  pub named : v.name < length p.names
  pub around : AllThere (length p.names) v.path

-- What a program is built as, by whoever builds it: its symbols begin with those of the basis and have different
-- texts, which like modules' names have neither / nor %; no two types have one symbol, and no two folders one kind;
-- each value stands in a module and has a name, which begins no other's; each name of a field, an input, a
-- constructor or a datatype has a text, as has each that a binder or a declaration gives, and each literal fits; and
-- what it exports is there.
pub record Formed (p : Pg) : Type 0 where
  pub texts : take (length basis_texts) p.names ≡ basis_texts
  pub differ : TextsDiffer p.names
  pub plain : AllByRecursion IsPlain p.names
  pub plain_modules : AllByRecursion IsPlain p.modules
  pub located : (v : Value) → Contains (values p.decls) v → Located p v
  pub names_begin_none : NamesBeginNone p
  pub symbols : Distinct (type_symbols p)
  pub folders : FoldersDiffer p.folders
  pub leaves : AllByRecursion (DeclFits (length p.names)) p.decls
  pub exported : All (λ i. i < length (values p.decls)) p.exports

-- no two entries that are read by one method have one name
abbrev pub EntriesDiffer : Pg → Type 0
EntriesDiffer p = (i j : ℕ) (post : Bool) (e d : Ent)
    → IsEntry p i post e
    → IsEntry p j post d
    → i ≢ j
    → e.name ≢ d.name

-- each declaration is typed, with covering patterns, links and actions that are calls, and attributes that stand
-- once; entries differ by name or method
pub record Accepts (p : Pg) : Type 0 where
  pub formed : Formed p
  pub typed : DeclsTyped cover_asked p [] [] p.decls
  pub entries : EntriesDiffer p
