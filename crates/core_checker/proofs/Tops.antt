-- Scopes at the top, and what is declared in them.
use Rattle.std.proofs.Common.{◌≡◌, ℕ, List, [], ◌∷◌, map, Result, Ok, Err, IfOk, OnOk, ap, sym, subst, ◌∙◌}
use Rattle.con_terms.specs.Kinded.{Scope}
use Rattle.con_terms.specs.Trees.{Cn}
use Rattle.core_terms.specs.Trees.{Nms, datatype}
use Rattle.core_terms.specs.View.{NamedTree, constructor_view, datatype_view, decl_tree, named_tree, symbols_view}
use Rattle.core_terms.specs.declared.decl.Datatype.{Datatype}
use Rattle.core_terms.specs.declared.decl.Decl.{Decl}
use Rattle.core_terms.specs.declared.decl.Decl.TheVariants.{Val}
use Rattle.core_terms.specs.declared.exp.Named.{Named}
use Rattle.core_terms.specs.declared.names.Symbols.{Symbols}
use Rattle.core_typing.specs.Declarations.{under_types}
use Rattle.core_typing.specs.Own.{place_of, type_place}
use Rattle.core_typing.specs.Scopes.{Sc}
use Rattle.told_faults.specs.Computed.{Jd}
use Rattle.judgements.specs.View.{called_view, locals_view, sc_view}
use Rattle.judgements.specs.declared.globals.Globals.{Globals}
use Rattle.judgements.specs.declared.scope.Here.{Here}
use Rattle.node_rules.specs.Locals.{Ls, none_yet, with_declared}
use Rattle.node_rules.specs.View.{found_tree}
use Rattle.node_rules.specs.declared.lets.Found.{Found}
use Rattle.judged_terms.specs.Judge.{Judges, JudgesAll}
use Rattle.judged_terms.specs.Listed.{name_terms, named_found}
use Rattle.core_checker.specs.Declarations.{Gl, After, AfterVal, AfterVals, constructors_found, of_data, scope_of, types_of, with_data, with_tops}
use Rattle.core_checker.specs.View.{IsTop, globals_view}

abbrev at_top : Gl → Scope → List ℕ → List Cn → Sc
at_top s k c l = record {
  kinds = k;
  called = c;
  locals = l;
  tops = s.tops;
  datatypes = s.datatypes;
  folders = s.folders;
  effects = s.effects;
}

pub top_is : (g : Globals) (h : Here) → IsTop (globals_view g) h → sc_view g h ≡ scope_of (globals_view g)
top_is g h t =
    ap (λ k. at_top (globals_view g) k (called_view h.called.value) (locals_view h.locals.value)) t.kinds
    ∙ ap (λ c. at_top (globals_view g) (scope_of (globals_view g)).kinds c (locals_view h.locals.value)) t.called
    ∙ ap (λ l. at_top (globals_view g) (scope_of (globals_view g)).kinds [] l) t.locals

-- further values change no kinds
pub still_top : (ts : List Cn) (s s' : Gl) (h : Here) → s' ≡ with_tops ts s → IsTop s h → IsTop s' h
still_top ts s s' h e t = subst (λ z. IsTop z h) (sym e) (record { kinds = t.kinds; called = t.called; locals = t.locals })

pub on_ok : {T E P : Type 0} (o : Result T E) → P → OnOk o P
on_ok (Ok r) p = p
on_ok (Err e) p = tt

pub values_after : {E : Type 0} (ns : Nms) (s : Gl) (g : Globals) (h : Here) (js : List Jd) (past : Ls) (o : Result Found E) →
    IsTop s h → globals_view g ≡ with_tops (types_of ns) s → JudgesAll (sc_view g h) (name_terms ns) js → past ≡ none_yet →
    IfOk o (λ r. found_tree r ≡ named_found (sc_view g h) ns js past) → IfOk o (λ r. AfterVals ns s (found_tree r) (globals_view g))
values_after ns s g h js past (Ok r) t e a b k =
    let at : sc_view g h ≡ scope_of (with_tops (types_of ns) s) = top_is g h (still_top (types_of ns) s (globals_view g) h e t) ∙ ap scope_of e in (
      js,
      (
        subst (λ G. JudgesAll G (name_terms ns) js) at a,
        k ∙ ap (λ G. named_found G ns js past) at ∙ ap (named_found (scope_of (with_tops (types_of ns) s)) ns js) b,
        e,
      ),
    )
values_after ns s g h js past (Err x) t e a b k = tt

pub data_is : {E : Type 0} (g : Globals) (s inner : Here) (d : Datatype) (o : Result Found E) → IsTop (globals_view g) s →
    ((k : Globals) → sc_view k inner ≡ under_types (symbols_view d.parameters) (sc_view k s)) →
    IfOk o (λ r. found_tree r ≡ constructors_found (sc_view g inner) [] none_yet (map constructor_view d.constructors.items.items)) →
    IfOk o (λ r. found_tree r ≡ of_data (datatype_view d) (globals_view g))
data_is g s inner d (Ok r) t u e =
    e ∙ ap (λ G. constructors_found G [] none_yet (map constructor_view d.constructors.items.items))
    (u g ∙ ap (under_types (symbols_view d.parameters)) (top_is g s t))
data_is g s inner d (Err x) t u e = tt

pub data_after : {E : Type 0} (d : Datatype) (s s' : Gl) (o : Result Found E) → s' ≡ with_data (datatype_view d) s →
    IfOk o (λ r. found_tree r ≡ of_data (datatype_view d) s') → IfOk o (λ r. After (datatype (datatype_view d)) s (found_tree r) s')
data_after d s s' (Ok r) e h = (h ∙ ap (of_data (datatype_view d)) e, e)
data_after d s s' (Err x) e h = tt

pub value_after : (n : NamedTree) (g : Globals) (s' : Gl) (h : Here) (j : Jd) (past r : Ls) → IsTop (globals_view g) h →
    Judges (sc_view g h) n.4 j → past ≡ none_yet →
    r ≡ with_declared (sc_view g h) (type_place n.2 n.0 n.4) (place_of n.4) n.3 j past →
    s' ≡ with_tops (n.3 ∷ []) (globals_view g) → AfterVal n (globals_view g) r s'
value_after n g s' h j past r t a b k e =
    let at = top_is g h t in (
      j,
      (
        subst (λ G. Judges G n.4 j) at a,
        k ∙ ap (λ G. with_declared G (type_place n.2 n.0 n.4) (place_of n.4) n.3 j past) at
            ∙ ap (λ z. with_declared (scope_of (globals_view g)) (type_place n.2 n.0 n.4) (place_of n.4) n.3 j z) b,
        e,
      ),
    )

pub val_after : {E : Type 0} (path : Symbols) (n : Named) (d : Decl) (s s' : Gl) (o : Result Found E) → d ≡ Val path n →
    IfOk o (λ r. AfterVal (named_tree n) s (found_tree r) s') → IfOk o (λ r. After (decl_tree d) s (found_tree r) s')
val_after path n d s s' o e h = subst (λ z. IfOk o (λ r. After (decl_tree z) s (found_tree r) s')) (sym e) h
