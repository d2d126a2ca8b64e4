-- The plain data that the values of this crate are.
use Rattle.std.specs.Prelude.{ℕ, List, [], ◌∷◌, map, Option, Some, None, Result, Ok, Err}
use Rattle.con_terms.specs.Trees.{Cn, con_list}
use Rattle.con_terms.specs.Substitution.{shift}
use Rattle.con_terms.specs.View.{con_tree, cons_tree}
use Rattle.con_terms.specs.declared.con.Cons.{Cons}
use Rattle.con_terms.specs.declared.symbol.Sym.{Sym}
use Rattle.kind_rules.specs.Flaws.{Flw, too_large}
use Rattle.kind_rules.specs.View.{scope_view}
use Rattle.core_terms.specs.Trees.{Dt, Cd}
use Rattle.core_terms.specs.View.{maybe_con, datatype_view, constructor_view, folder_view}
use Rattle.core_terms.specs.declared.decl.Datatype.{Datatype}
use Rattle.core_terms.specs.declared.decl.Constructor.{Constructor}
use Rattle.core_typing.specs.Scopes.{Sc}
use Rattle.told_faults.specs.Computed.{Jd}
use Rattle.type_faults.specs.View.{fault_tree, maybe_fault}
use Rattle.judgements.specs.Bindings.{Bd, bind_these, bad_pattern}
use Rattle.judgements.specs.declared.compare.Forms.{Forms}
use Rattle.judgements.specs.declared.called.Called.{Called}
use Rattle.judgements.specs.declared.called.Called.TheOpen.{Called-F}
use Rattle.judgements.specs.declared.called.Called.TheFolds.{fold-Called}
use Rattle.judgements.specs.declared.locals.Locals.{Locals}
use Rattle.judgements.specs.declared.locals.Locals.TheOpen.{Locals-F}
use Rattle.judgements.specs.declared.locals.Locals.TheFolds.{fold-Locals}
use Rattle.judgements.specs.declared.pieces.Taken.{Taken}
use Rattle.judgements.specs.declared.pieces.Taking.{Taking}
use Rattle.judgements.specs.declared.pieces.Leaving.{Leaving}
use Rattle.judgements.specs.Pieces.{Tg, Lv}
use Rattle.judgements.specs.declared.scope.Here.{Here}
use Rattle.judgements.specs.declared.globals.Globals.{Globals}
use Rattle.judgements.specs.declared.judged.Judged.{Judged}
use Rattle.judgements.specs.declared.judged.Bound.{Bound}
use Rattle.judgements.specs.declared.judged.Bound.TheVariants.{Under, Bad}

abbrev pub forms_tree : Option Forms → Result (Cn × Cn) Flw
forms_tree None = Err too_large
forms_tree (Some f) = Ok (con_tree f.left, con_tree f.right)

abbrev pub maybe_symbol : Option Sym → Option ℕ
maybe_symbol None = None
maybe_symbol (Some s) = Some s.number

-- what constructor variables are called
abbrev pub called_step : Called-F (List ℕ) → List ℕ
called_step Called-F.Nothing = []
called_step (Called-F.Under s rest) = s.number ∷ rest.value

abbrev pub called_view : Called → List ℕ
called_view = fold-Called (List ℕ) called_step

-- scopes
abbrev pub locals_step : Locals-F (List Cn) → List Cn
locals_step Locals-F.Empty = []
locals_step (Locals-F.Typed t rest) = con_tree t.value ∷ rest.value
locals_step (Locals-F.Binder rest) = map (λ t. shift 1 t 0) rest.value

abbrev pub locals_view : Locals → List Cn
locals_view = fold-Locals (List Cn) locals_step

abbrev pub sc_view : Globals → Here → Sc
sc_view g s = record {
  kinds = scope_view s.kinds.value;
  called = called_view s.called.value;
  locals = locals_view s.locals.value;
  tops = map con_tree g.tops.items;
  datatypes = map datatype_view g.datatypes.items;
  folders = map folder_view g.folders.items;
  effects = g.effects;
}

-- what is found
abbrev pub judged_tree : Judged → Jd
judged_tree j = record { type = maybe_con j.ty; told = maybe_fault j.told }

abbrev pub bound_tree : Bound → Bd
bound_tree (Under l) = bind_these (locals_view l.value)
bound_tree (Bad f) = bad_pattern (fault_tree f)

-- pieces of rows
abbrev pub cons_view : Cons → List Cn
cons_view cs = con_list (cons_tree cs)

abbrev pub maybe_taken : Option Taken → Option (Cn × List Cn)
maybe_taken None = None
maybe_taken (Some t) = Some (con_tree t.value, cons_view t.rest)

abbrev pub maybe_cons : Option Cons → Option (List Cn)
maybe_cons None = None
maybe_cons (Some cs) = Some (cons_view cs)

abbrev pub taking_tree : Taking → Tg
taking_tree t = record { value = maybe_con t.value; past = map con_tree t.past.items }

abbrev pub leaving_tree : Leaving → Lv
leaving_tree l = record { is_out = l.is_out; past = map con_tree l.past.items }
