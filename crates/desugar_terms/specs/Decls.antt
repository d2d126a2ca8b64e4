-- Declarations of a module, each by its first word.
use Rattle.std.specs.Prelude.{ℕ, List, [], ◌∷◌}
use Rattle.plain_tree.specs.Trees.{DeclTree, decl_value, decl_con, decl_datatype, decl_table, decl_sequence, decl_cookie}
use Rattle.surface_tree.specs.declared.kind.Kind.{Kind}
use Rattle.surface_tree.specs.declared.kind.Kind.TheVariants.{KeywordVal, KeywordFun, KeywordCon, KeywordType, KeywordDatatype, KeywordTable, KeywordCookie}
use Rattle.desugar_values.specs.Meanings.{MeaningTree, MeaningsTree, no_meaning, meaning}
use Rattle.desugar_values.specs.Parts.{behind, group_of, named, part, word_of}
use Rattle.desugar_terms.specs.Locals.{function_group, value}
use Rattle.desugar_terms.specs.Types.{con_declared, datatype, type_declared}
use Rattle.desugar_terms.specs.Tables.{signed, table}

-- a declaration by its first word, which stands at this byte, from behind that on
abbrev pub decl_by : Kind → ℕ → MeaningsTree → DeclTree
decl_by KeywordVal p ps = decl_value (value p (group_of (part 0 ps)))
decl_by KeywordFun p ps = decl_value (function_group p ps)
decl_by KeywordCon p ps = decl_con (con_declared p ps)
decl_by KeywordType p ps = decl_con (type_declared p ps)
decl_by KeywordDatatype p ps = decl_datatype (datatype p ps)
decl_by KeywordTable p ps = decl_table (table p ps)
decl_by KeywordCookie p ps = decl_cookie (signed p ps)
decl_by _ p ps = decl_sequence p (named (word_of (part 0 ps)))

abbrev pub decl : MeaningsTree → DeclTree
decl ps = decl_by (word_of (part 0 ps)).kind (word_of (part 0 ps)).at (behind ps)

-- the declaration that a tree stands for
abbrev pub decl_of : MeaningTree → DeclTree
decl_of m = decl (group_of m)

-- the declarations of a module, in order
abbrev pub decls_of : MeaningsTree → List DeclTree
decls_of no_meaning = []
decls_of (meaning m ms) = decl_of m ∷ decls_of ms
