-- The trees that declarations, modules and interfaces of the program are.
use Rattle.std.specs.Prelude.{List, Option, Some, None, map}
use Rattle.con_terms.specs.Trees.{Kd}
use Rattle.con_terms.specs.View.{kind_tree}
use Rattle.con_terms.specs.declared.kind.Kind.{Kind}
use Rattle.plain_tree.specs.Trees.{TypeDeclTree, BuilderTree, DatatypeTree, KeyedTree, SignedTree, DeclTree, decl_value, decl_con, decl_datatype, decl_table, decl_sequence, decl_cookie}
use Rattle.plain_tree.specs.ConView.{con_tree, maybe_con}
use Rattle.plain_tree.specs.ExpView.{local_tree}
use Rattle.plain_tree.specs.declared.decl.TypeDecl.{TypeDecl}
use Rattle.plain_tree.specs.declared.decl.DatatypeBuilder.{DatatypeBuilder}
use Rattle.plain_tree.specs.declared.decl.Builders.{Builders}
use Rattle.plain_tree.specs.declared.decl.Datatype.{Datatype}
use Rattle.plain_tree.specs.declared.decl.Table.{Table}
use Rattle.plain_tree.specs.declared.decl.Cookie.{Cookie}
use Rattle.plain_tree.specs.declared.decl.Signed.{Signed}
use Rattle.plain_tree.specs.declared.decl.Decl.{Decl}
use Rattle.plain_tree.specs.declared.decl.Decl.TheVariants as decl
use Rattle.plain_tree.specs.declared.decl.Decls.{Decls}
use Rattle.plain_tree.specs.declared.decl.Plain.{Plain}
use Rattle.plain_tree.specs.declared.decl.Interface.{Interface}

abbrev pub maybe_kind : Option Kind → Option Kd
maybe_kind None = None
maybe_kind (Some k) = Some (kind_tree k)

abbrev pub type_decl_tree : TypeDecl → TypeDeclTree
type_decl_tree d = record { at = d.at; name = d.name; kind = maybe_kind d.kind; con = con_tree d.con }

abbrev pub builder_tree : DatatypeBuilder → BuilderTree
builder_tree b = record { name = b.name; holds = maybe_con b.holds }

abbrev pub builders_tree : Builders → List BuilderTree
builders_tree bs = map builder_tree bs.items.items

abbrev pub datatype_tree : Datatype → DatatypeTree
datatype_tree d = record { at = d.at; name = d.name; parameters = d.parameters; builders = builders_tree d.builders }

abbrev pub table_tree : Table → KeyedTree
table_tree t = record { at = t.at; name = t.name; con = con_tree t.con; key = t.key }

abbrev pub cookie_tree : Cookie → SignedTree
cookie_tree c = record { at = c.at; name = c.name; con = con_tree c.con }

abbrev pub signed_tree : Signed → SignedTree
signed_tree s = record { at = s.at; name = s.name; con = con_tree s.con }

abbrev pub decl_tree : Decl → DeclTree
decl_tree (decl.Value l) = decl_value (local_tree l)
decl_tree (decl.Con d) = decl_con (type_decl_tree d)
decl_tree (decl.Datatype d) = decl_datatype (datatype_tree d)
decl_tree (decl.Table t) = decl_table (table_tree t)
decl_tree (decl.Sequence p x) = decl_sequence p x
decl_tree (decl.Cookie c) = decl_cookie (cookie_tree c)

abbrev pub decls_tree : Decls → List DeclTree
decls_tree ds = map decl_tree ds.items.items

-- a module is its declarations
abbrev pub plain_view : Plain → List DeclTree
plain_view m = decls_tree m.decls

abbrev pub interface_view : Interface → List SignedTree
interface_view i = map signed_tree i.items.items
