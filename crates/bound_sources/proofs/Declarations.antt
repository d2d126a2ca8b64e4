-- Names in declarations, and what these declare.
use Rattle.std.proofs.Common.{◌≡◌, ℕ, ◌+◌, true, ◌&&◌, List, [], ◌∷◌, Option, Some, None, refl, ap, subst, ◌∙◌}
use Rattle.con_terms.specs.Trees.{Cn, basic}
use Rattle.core_terms.specs.Strip.{strip_decl}
use Rattle.core_terms.specs.Trees.{Cd, De, val, vals, con_is, datatype}
use Rattle.plain_tree.specs.Trees.{ConTree, NamedListTree, no_named_list, more_named_list, BuilderTree, DatatypeTree}
use Rattle.plain_tree.specs.Trees.{DeclTree, decl_value, decl_con, decl_datatype, decl_table, decl_sequence}
use Rattle.plain_tree.specs.Trees.{decl_cookie}
use Rattle.plain_tree.specs.Trees as plain
use Rattle.plain_tree.specs.declared.names.Word.{Word}
use Rattle.source_names.specs.Scopes.{Declared, Tables, Scope, at_top, under_variable, declare_value, declare_type}
use Rattle.source_names.specs.Scopes.{declare_builder}
use Rattle.source_names.specs.Standing.{is_text}
use Rattle.source_terms.specs.Alike.{each}
use Rattle.source_terms.specs.Declarations.{is_outside, reads_kind, reads_held, reads_builder, reads_head, reads_decl}
use Rattle.source_terms.specs.Declarations.{declared_after}
use Rattle.source_terms.specs.Declarations as read
use Rattle.source_terms.specs.Leaves.{form_of}
use Rattle.source_terms.specs.Terms.{reads_group}
use Rattle.source_terms.specs.Terms as terms
use Rattle.unbound_names.specs.Asked.{Ask}
use Rattle.unbound_names.specs.Declarations.{unbound_builders, unbound_decl, declared_behind}
use Rattle.unbound_names.specs.Declarations as scoped
use Rattle.unbound_names.specs.InScope.{tables_with}
use Rattle.unbound_names.specs.Terms.{unbound_group}
use Rattle.unbound_names.specs.Types.{unbound_maybe}
use Rattle.bound_sources.proofs.Clear.{Clear, no, never, nothing, two, later}
use Rattle.bound_sources.proofs.Bare.{bare_declared, bare_scope}
use Rattle.bound_sources.proofs.Types.{con_clear}
use Rattle.bound_sources.proofs.Terms.{name_same, named_clear, group_clear}

-- What declarations declare.

bare_group : (ns : NamedListTree) (d : Declared)
    → bare_declared (read.declare_group ns d) ≡ scoped.declare_group ns (bare_declared d)
bare_group no_named_list d = refl
bare_group (more_named_list n ns) d =
    bare_group ns (declare_value (terms.name_of n) d)
    ∙ ap (λ x. scoped.declare_group ns (declare_value x (bare_declared d))) (name_same n)

bare_builders : (s i : ℕ) (bs : List BuilderTree) (d : Declared)
    → bare_declared (read.declare_builders s i bs d) ≡ scoped.declare_builders bs (bare_declared d)
bare_builders s i [] d = refl
bare_builders s i (b ∷ bs) d = bare_builders s (i + 1) bs (declare_builder b.name.text s i d)

bare_parameters : (xs : List Word) (s : Scope)
    → bare_scope (read.under_parameters xs s) ≡ scoped.under_parameters xs (bare_scope s)
bare_parameters [] s = refl
bare_parameters (x ∷ xs) s = bare_parameters xs (under_variable x.text s)

bare_datatype : (t : Tables) (d : Declared) (x : DatatypeTree) (symbol : ℕ)
    → bare_scope (read.in_datatype t d x symbol) ≡ scoped.in_datatype (tables_with t.effects) (bare_declared d) x
bare_datatype t d x symbol = bare_parameters x.parameters (at_top t (declare_type x.name.text (basic symbol) d))

-- what is declared behind a declaration, by names alone, where the declaration is read
pub bare_behind : (t : Tables) (d : Declared) (x : DeclTree) (e : De) → reads_decl t d x (strip_decl e) ≡ true
    → bare_declared (declared_after d x e) ≡ declared_behind x (bare_declared d)
bare_behind t d (decl_value (plain.local_val a n)) e h = ap (λ y. declare_value y (bare_declared d)) (name_same n)
bare_behind t d (decl_value (plain.local_rec a ns)) e h = bare_group ns d
bare_behind t d (decl_con x) (con_is path p n w k c) h = refl
bare_behind t d (decl_con x) _ h = no h
bare_behind t d (decl_datatype x) (datatype e) h =
    bare_builders e.symbol 0 x.builders (declare_type x.name.text (basic e.symbol) d)
bare_behind t d (decl_datatype x) _ h = no h
bare_behind t d (decl_table x) e h = refl
bare_behind t d (decl_sequence a x) e h = refl
bare_behind t d (decl_cookie x) e h = refl

-- Names in declarations.

held_clear : (q : Ask) (s : Scope) (c : Option ConTree) (t : Option Cn)
    → Clear (reads_held s c t) (unbound_maybe q (bare_scope s) c)
held_clear q s None t = nothing
held_clear q s (Some c) None = never
held_clear q s (Some c) (Some t) = con_clear q s c t

builders_clear : (q : Ask) (s : Scope) (bs : List BuilderTree) (cs : List Cd)
    → Clear (each (reads_builder s) bs cs) (unbound_builders q (bare_scope s) bs)
builders_clear q s [] cs = nothing
builders_clear q s (b ∷ bs) [] = never
builders_clear q s (b ∷ bs) (c ∷ cs) =
    two (later (is_text s.tables c.name b.name.text) (held_clear q s b.holds c.holds)) (builders_clear q s bs cs)

pub decl_clear : (q : Ask) (t : Tables) (d : Declared) (x : DeclTree) (e : De)
    → Clear (reads_decl t d x e) (unbound_decl q (tables_with t.effects) (bare_declared d) x)
decl_clear q t d (decl_value (plain.local_val a n)) (val path p x w c e) =
    later (is_outside path) (named_clear q (at_top t d) n x w c (form_of e))
decl_clear q t d (decl_value (plain.local_val a n)) _ = never
decl_clear q t d (decl_value (plain.local_rec a ns)) (vals path ms) =
    later (is_outside path)
    (subst (λ z. Clear (reads_group (at_top t (read.declare_group ns d)) ns ms)
    (unbound_group q (at_top (tables_with t.effects) z) ns)) (bare_group ns d)
    (group_clear q (at_top t (read.declare_group ns d)) ns ms))
decl_clear q t d (decl_value (plain.local_rec a ns)) _ = never
decl_clear q t d (decl_con x) (con_is path p n w k c) =
    later (is_outside path && is_text t n x.name.text && reads_kind x.kind w k) (con_clear q (at_top t d) x.con c)
decl_clear q t d (decl_con x) _ = never
decl_clear q t d (decl_datatype x) (datatype e) =
    later (reads_head t d x e)
    (subst (λ z. Clear (each (reads_builder (read.in_datatype t d x e.symbol)) x.builders e.constructors)
    (unbound_builders q z x.builders)) (bare_datatype t d x e.symbol)
    (builders_clear q (read.in_datatype t d x e.symbol) x.builders e.constructors))
decl_clear q t d (decl_datatype x) _ = never
decl_clear q t d (decl_table x) e = nothing
decl_clear q t d (decl_sequence a x) e = nothing
decl_clear q t d (decl_cookie x) e = nothing
