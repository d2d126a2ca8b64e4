-- The entries of a program: which values a request can call, with the shapes of their arguments.
use Rattle.std.specs.Prelude.{◌≡◌, ◌≢◌, ℕ, suc, get_or, ◌-◌, ◌<◌, Bool, true, false, List, [], ◌∷◌, ◌++◌, map, Option, Some, None, slice_get, if◌then◌else◌}
use Rattle.std.specs.List.{Contains, flat_map}
use Rattle.std.specs.Ordering.{is_lt, nat_cmp}
use Rattle.std.specs.Cmp.Lexicographic.{slice_cmp}
use Rattle.con_terms.specs.Trees.{Cn, var, arrow, record_of}
use Rattle.table_rows.specs.Shapes.{Sh, an_int, a_text, a_unit, a_truth, a_record, a_data, parameter, Shs, no_shapes, shape, Pts, no_parts, part, Cases}
use Rattle.link_router.specs.Calls.{Ent, Rts}
use Rattle.core_terms.specs.Names.{bool_name}
use Rattle.core_terms.specs.Trees.{Cd, Dt, arity, Pg}
use Rattle.core_terms.specs.Types.{transaction_of, page_type}
use Rattle.core_terms.specs.Datatypes.{basis_datatypes}
use Rattle.core_typing.specs.Scopes.{normal_of}
use Rattle.core_typing.specs.Seen.{a_number, a_datatype, literal_fields, seen}
use Rattle.core_typing.specs.Seen as seen
use Rattle.core_typing.specs.Compared.{Alike}
use Rattle.core_typing.specs.Carried.{Carried, Filled}
use Rattle.core_typing.specs.Declarations.{Body, is_term, is_thing, Value, values, datatypes}
use Rattle.core_typing.specs.Targets.{Target, targets}

-- a field's name by its text, before the others in byte order
abbrev pub put_part : List ℕ → Sh → List (List ℕ × Sh) → List (List ℕ × Sh)
put_part n s [] = (n, s) ∷ []
put_part n s (p ∷ ps) = if is_lt (slice_cmp nat_cmp p.0 n) then p ∷ put_part n s ps else (n, s) ∷ p ∷ ps

abbrev pub parts_of : List (List ℕ × Sh) → Pts
parts_of [] = no_parts
parts_of (p ∷ ps) = part p.0 p.1 (parts_of ps)

mutual
  -- the shape of a type's values. A datatype is named by its place; in a datatype of n parameters, so is each of these
  pub data Shaped : List (List ℕ) → List Dt → ℕ → Cn → Sh → Type 0 where
    -- int
    of_int : {names : List (List ℕ)} {ds : List Dt} {k : ℕ} {t n : Cn}
        → normal_of t ≡ Some n
        → seen ds n ≡ a_number
        → Shaped names ds k t an_int
    -- string
    of_text : {names : List (List ℕ)} {ds : List Dt} {k : ℕ} {t n : Cn}
        → normal_of t ≡ Some n
        → seen ds n ≡ seen.a_text
        → Shaped names ds k t a_text
    -- bool
    of_truth : {names : List (List ℕ)} {ds : List Dt} {k : ℕ} {t n : Cn} {d : Dt} {args : List Cn}
        → normal_of t ≡ Some n
        → seen ds n ≡ a_datatype d args
        → d.symbol ≡ bool_name
        → Shaped names ds k t a_truth
    -- d t .., where d is another datatype, the one at place i
    of_datatype : {names : List (List ℕ)} {ds : List Dt} {k i : ℕ} {t n : Cn} {d : Dt} {args : List Cn} {ss : Shs}
        → normal_of t ≡ Some n
        → seen ds n ≡ a_datatype d args
        → d.symbol ≢ bool_name
        → slice_get ds i ≡ Some d
        → AllShaped names ds k args ss
        → Shaped names ds k t (a_data i ss)
    -- {}
    of_nothing : {names : List (List ℕ)} {ds : List Dt} {k : ℕ} {t r : Cn}
        → normal_of t ≡ Some (record_of r)
        → literal_fields r ≡ []
        → Shaped names ds k t a_unit
    -- $[n = t, ..], with a field at least
    of_fields : {names : List (List ℕ)} {ds : List Dt} {k : ℕ} {t r : Cn} {f : ℕ × Cn} {fs : List (ℕ × Cn)}
        {ps : List (List ℕ × Sh)}
        → normal_of t ≡ Some (record_of r)
        → literal_fields r ≡ f ∷ fs
        → FieldsShaped names ds k (f ∷ fs) ps
        → Shaped names ds k t (a_record (parts_of ps))
    -- a, a parameter of the datatype, counted from the first
    of_parameter : {names : List (List ℕ)} {ds : List Dt} {k i : ℕ} {t : Cn}
        → normal_of t ≡ Some (var i)
        → i < k
        → Shaped names ds k t (parameter (k - suc i))

  pub data AllShaped : List (List ℕ) → List Dt → ℕ → List Cn → Shs → Type 0 where
    -- no type
    none_shaped : {names : List (List ℕ)} {ds : List Dt} {k : ℕ} → AllShaped names ds k [] no_shapes
    -- t ..
    one_shaped : {names : List (List ℕ)} {ds : List Dt} {k : ℕ} {t : Cn} {ts : List Cn} {s : Sh} {ss : Shs}
        → Shaped names ds k t s
        → AllShaped names ds k ts ss
        → AllShaped names ds k (t ∷ ts) (shape s ss)

  -- fields in the byte order of their names
  pub data FieldsShaped : List (List ℕ) → List Dt → ℕ → List (ℕ × Cn) → List (List ℕ × Sh) → Type 0 where
    -- []
    no_field_shaped : {names : List (List ℕ)} {ds : List Dt} {k : ℕ} → FieldsShaped names ds k [] []
    -- [n = t, ..]
    field_shaped : {names : List (List ℕ)} {ds : List Dt} {k x : ℕ} {t : Cn} {fs : List (ℕ × Cn)} {name : List ℕ}
        {s : Sh} {ps : List (List ℕ × Sh)}
        → slice_get names x ≡ Some name
        → Shaped names ds k t s
        → FieldsShaped names ds k fs ps
        → FieldsShaped names ds k ((x, t) ∷ fs) (put_part name s ps)

-- what a constructor holds
pub data HeldShaped : List (List ℕ) → List Dt → ℕ → Option Cn → Option Sh → Type 0 where
  -- C
  holds_nothing : {names : List (List ℕ)} {ds : List Dt} {k : ℕ} → HeldShaped names ds k None None
  -- C of t
  holds_one : {names : List (List ℕ)} {ds : List Dt} {k : ℕ} {t : Cn} {s : Sh}
      → Shaped names ds k t s
      → HeldShaped names ds k (Some t) (Some s)

pub data CasesShaped : List (List ℕ) → List Dt → ℕ → List Cd → Cases → Type 0 where
  -- no further constructor
  no_case : {names : List (List ℕ)} {ds : List Dt} {k : ℕ} → CasesShaped names ds k [] []
  -- C of t | ..
  a_case : {names : List (List ℕ)} {ds : List Dt} {k : ℕ} {c : Cd} {cs : List Cd} {name : List ℕ} {held : Option Sh}
      {rest : Cases}
      → slice_get names c.name ≡ Some name
      → HeldShaped names ds k c.holds held
      → CasesShaped names ds k cs rest
      → CasesShaped names ds k (c ∷ cs) ((name, held) ∷ rest)

-- the cases of each datatype; one that holds what links can't carry has none
pub data DatatypesShaped : List (List ℕ) → List Dt → List Dt → List Cases → Type 0 where
  -- no further datatype
  no_datatype : {names : List (List ℕ)} {all : List Dt} → DatatypesShaped names all [] []
  -- datatype d = C of t | .., where each t has a shape
  carried : {names : List (List ℕ)} {all : List Dt} {d : Dt} {ds : List Dt} {cs : Cases} {rest : List Cases}
      → CasesShaped names all (arity d) d.constructors cs
      → DatatypesShaped names all ds rest
      → DatatypesShaped names all (d ∷ ds) (cs ∷ rest)
  -- datatype d = C of t | .., where they haven't
  not_carried : {names : List (List ℕ)} {all : List Dt} {d : Dt} {ds : List Dt} {rest : List Cases}
      → ((cs : Cases) → CasesShaped names all (arity d) d.constructors cs → ⊥)
      → DatatypesShaped names all ds rest
      → DatatypesShaped names all (d ∷ ds) ([] ∷ rest)

-- all datatypes of a program
abbrev pub all_datatypes : Pg → List Dt
all_datatypes p = basis_datatypes ++ datatypes p.decls

-- the name that a value has in links: its module, the structures around it, and its name
abbrev pub value_name : Pg → Value → List (List ℕ)
value_name p v = get_or p.modules v.place.file [] ∷ map (λ x. get_or p.names x []) (v.path ++ v.name ∷ [])

-- the arguments of a function that gives an action, and an action's form
pub data TakesToPage : Pg → Cn → Shs → Type 0 where
  -- transaction page
  no_argument : {p : Pg} {t : Cn}
      → Alike t (transaction_of page_type)
      → TakesToPage p t no_shapes
  -- a -> b, where a is carried, and b takes the other arguments to a page
  an_argument : {p : Pg} {t a b : Cn} {s : Sh} {ss : Shs}
      → normal_of t ≡ Some (arrow a b)
      → Carried (all_datatypes p) a
      → Shaped p.names (all_datatypes p) 0 a s
      → TakesToPage p b ss
      → TakesToPage p t (shape s ss)

pub data TakesFormToPage : Pg → Cn → Shs → Sh → Type 0 where
  -- a -> transaction page, where a form can fill a
  form_last : {p : Pg} {t a b : Cn} {f : Sh}
      → normal_of t ≡ Some (arrow a b)
      → Filled a
      → Shaped p.names (all_datatypes p) 0 a f
      → Alike b (transaction_of page_type)
      → TakesFormToPage p t no_shapes f
  -- a -> b, where a is carried, and b takes the other arguments and a form to a page
  form_behind : {p : Pg} {t a b : Cn} {s f : Sh} {ss : Shs}
      → normal_of t ≡ Some (arrow a b)
      → Carried (all_datatypes p) a
      → Shaped p.names (all_datatypes p) 0 a s
      → TakesFormToPage p b ss f
      → TakesFormToPage p t (shape s ss) f

abbrev pub body_targets : Body → List Target
body_targets (is_term e) = targets e
body_targets (is_thing k) = []

-- the links and actions of all values
abbrev pub program_targets : Pg → List Target
program_targets p = flat_map (λ (v : Value). body_targets v.body) (values p.decls)

-- The entry for a value and a method. By GET: an export whose arguments are carried and that gives an action for a
-- page, and each link's target. By POST: each action's.
pub data IsEntry : Pg → ℕ → Bool → Ent → Type 0 where
  -- val x : t = e, which the program exports
  by_export : {p : Pg} {i : ℕ} {v : Value} {ss : Shs}
      → slice_get (values p.decls) i ≡ Some v
      → Contains p.exports i
      → TakesToPage p v.con ss
      → IsEntry p i false (record { name = value_name p v; arguments = ss; form = None })
  -- val x : t = e, which a link={M.x e ..} calls
  by_link : {p : Pg} {i : ℕ} {v : Value} {ss : Shs}
      → slice_get (values p.decls) i ≡ Some v
      → Contains (program_targets p) (false, i)
      → TakesToPage p v.con ss
      → IsEntry p i false (record { name = value_name p v; arguments = ss; form = None })
  -- val x : t = e, which an action={M.x e ..} calls
  by_action : {p : Pg} {i : ℕ} {v : Value} {ss : Shs} {f : Sh}
      → slice_get (values p.decls) i ≡ Some v
      → Contains (program_targets p) (true, i)
      → TakesFormToPage p v.con ss f
      → IsEntry p i true (record { name = value_name p v; arguments = ss; form = Some f })

-- the entries from a value on, in the order of the values' numbers, GET before POST
pub data EntriesFrom : Pg → ℕ → List Value → List (ℕ × Ent) → Type 0 where
  -- no further value
  no_values : {p : Pg} {i : ℕ} → EntriesFrom p i [] []
  -- x .., where x has no entry
  neither : {p : Pg} {i : ℕ} {v : Value} {vs : List Value} {rest : List (ℕ × Ent)}
      → ((post : Bool) (e : Ent) → IsEntry p i post e → ⊥)
      → EntriesFrom p (suc i) vs rest
      → EntriesFrom p i (v ∷ vs) rest
  -- x .., where x has an entry by GET alone
  get_alone : {p : Pg} {i : ℕ} {v : Value} {vs : List Value} {e : Ent} {rest : List (ℕ × Ent)}
      → IsEntry p i false e
      → ((d : Ent) → IsEntry p i true d → ⊥)
      → EntriesFrom p (suc i) vs rest
      → EntriesFrom p i (v ∷ vs) ((i, e) ∷ rest)
  -- x .., where x has an entry by POST alone
  post_alone : {p : Pg} {i : ℕ} {v : Value} {vs : List Value} {e : Ent} {rest : List (ℕ × Ent)}
      → ((d : Ent) → IsEntry p i false d → ⊥)
      → IsEntry p i true e
      → EntriesFrom p (suc i) vs rest
      → EntriesFrom p i (v ∷ vs) ((i, e) ∷ rest)
  -- x .., where x has an entry by each
  get_and_post : {p : Pg} {i : ℕ} {v : Value} {vs : List Value} {e d : Ent} {rest : List (ℕ × Ent)}
      → IsEntry p i false e
      → IsEntry p i true d
      → EntriesFrom p (suc i) vs rest
      → EntriesFrom p i (v ∷ vs) ((i, e) ∷ (i, d) ∷ rest)

abbrev pub entries_of : List (ℕ × Ent) → List Ent
entries_of es = map (λ (e : ℕ × Ent). e.1) es

-- the routes of a program, with the value that each entry calls
pub record RoutesOf (p : Pg) (routes : Rts) (callees : List ℕ) : Type 0 where
  pub listed : List (ℕ × Ent)
  pub are_entries : EntriesFrom p 0 (values p.decls) listed
  pub entries : routes.entries ≡ entries_of listed
  pub called : callees ≡ map (λ (e : ℕ × Ent). e.0) listed
  pub datatypes : DatatypesShaped p.names (all_datatypes p) (all_datatypes p) routes.datatypes
