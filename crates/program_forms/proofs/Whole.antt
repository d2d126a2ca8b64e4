-- A program that passes each test is formed.
use Rattle.std.proofs.Common.{◌≡◌, ℕ, ◌<◌, ◌≤◌, length, take}
use Rattle.std.specs.List.{AllByRecursion}
use Rattle.core_terms.specs.Leaves.{DeclFits}
use Rattle.core_terms.specs.Names.{basis_texts}
use Rattle.core_terms.specs.Trees.{Pg}
use Rattle.core_typing.specs.Accepts.{Formed, TextsDiffer, type_symbols}
use Rattle.link_router.specs.RouteLaws.{IsPlain}
use Rattle.program_forms.specs.Values.{DeclStands, values_counted}
use Rattle.program_forms.specs.Symbols.{KindsDiffer, SymbolsDiffer}
use Rattle.program_forms.proofs.Lists.{distinct, folders_differ}
use Rattle.program_forms.proofs.Standing.{below_count, each_stands, located, names_begin_none}

pub formed_from : (p : Pg) (count : ℕ)
    → take (length basis_texts) p.names ≡ basis_texts
    → TextsDiffer p.names
    → SymbolsDiffer (type_symbols p)
    → KindsDiffer p.folders
    → AllByRecursion IsPlain p.names
    → AllByRecursion IsPlain p.modules
    → AllByRecursion (DeclStands (length p.modules) (length p.names)) p.decls
    → AllByRecursion (DeclFits (length p.names)) p.decls
    → count ≤ values_counted p.decls
    → AllByRecursion (λ i. i < count) p.exports
    → Formed p
formed_from p count texts differ symbols kinds plain plain_modules stand fit counted below =
    let standing = each_stands (length p.modules) (length p.names) p.decls stand in
    record {
      texts = texts;
      differ = differ;
      plain = plain;
      plain_modules = plain_modules;
      located = located p standing;
      names_begin_none = names_begin_none p standing;
      symbols = distinct (type_symbols p) symbols;
      folders = folders_differ p.folders kinds;
      leaves = fit;
      exported = below_count count p.decls p.exports counted below;
    }
