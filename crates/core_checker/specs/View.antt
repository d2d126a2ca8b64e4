-- What is declared so far, as plain data.
use Rattle.std.specs.Prelude.{◌≡◌, [], map}
use Rattle.con_terms.specs.View.{con_tree}
use Rattle.core_terms.specs.View.{datatype_view, folder_view}
use Rattle.kind_rules.specs.View.{scope_view}
use Rattle.judgements.specs.View.{called_view, locals_view}
use Rattle.judgements.specs.declared.globals.Globals.{Globals}
use Rattle.judgements.specs.declared.scope.Here.{Here}
use Rattle.core_checker.specs.Declarations.{Gl, scope_of}

abbrev pub globals_view : Globals → Gl
globals_view g = record {
  tops = map con_tree g.tops.items;
  datatypes = map datatype_view g.datatypes.items;
  folders = map folder_view g.folders.items;
  effects = g.effects;
}

-- a scope at the top: the kinds of all types, and neither constructor variables nor variables
pub record IsTop (s : Gl) (h : Here) : Type 0 where
  pub kinds : scope_view h.kinds.value ≡ (scope_of s).kinds
  pub called : called_view h.called.value ≡ []
  pub locals : locals_view h.locals.value ≡ []
