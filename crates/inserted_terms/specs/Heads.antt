-- The type of what a call begins with.
-- The Ur/Web Manual, "Expression Typing".
use Rattle.std.specs.Prelude.{ℕ, Option, Some, None, option_map, option_and_then, slice_get}
use Rattle.con_terms.specs.Trees.{Cn}
use Rattle.core_terms.specs.Basis.{basis_type, fold_type}
use Rattle.core_terms.specs.Datatypes.{datatype_of, constructor_type}
use Rattle.core_terms.specs.Trees.{Ex, node, Fo, bound, top, foreign, basis, fold_over, number, text, built, fn, fn_con, fn_guard, call, let_in, case_of, ascribed, fields_of, select, concat, without, without_row, folder, element, literal, sql, Dt}
use Rattle.core_typing.specs.Scopes.{folder_of}
use Rattle.guided_terms.specs.Heres.{Here}

-- the type of a constructor of a datatype
abbrev pub type_of_built : ℕ → Dt → Option Cn
type_of_built j d = option_map (constructor_type d) (slice_get d.constructors j)

-- The type of an identifier that may take folders or instances. Constructors of the basis and foreign effects take
-- none, and calls that don't begin with an identifier have none inserted.
abbrev pub type_of_form : Here → Fo → Option Cn
type_of_form h (bound i) = slice_get h.types.locals i
type_of_form h (top i) = slice_get h.types.tops i
type_of_form h (foreign i) = None
type_of_form h (basis b) = Some (basis_type b)
type_of_form h (fold_over k) = option_map (fold_type k) (folder_of h.types.folders k)
type_of_form h (number z) = None
type_of_form h (text w) = None
type_of_form h (built s j) = option_and_then (type_of_built j) (datatype_of h.types.datatypes s)
type_of_form h (fn q t e) = None
type_of_form h (fn_con x i w k e) = None
type_of_form h (fn_guard c d e) = None
type_of_form h (call f s is) = None
type_of_form h (let_in ls e) = None
type_of_form h (case_of e p q b bs) = None
type_of_form h (ascribed e t) = None
type_of_form h (fields_of fs) = None
type_of_form h (select e c) = None
type_of_form h (concat e d) = None
type_of_form h (without e c) = None
type_of_form h (without_row e c) = None
type_of_form h (folder k ps) = None
type_of_form h (element m) = None
type_of_form h (literal c u xs) = None
type_of_form h (sql k es) = None

abbrev pub type_of : Here → Ex → Option Cn
type_of h (node p a f) = type_of_form h f
