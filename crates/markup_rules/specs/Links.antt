-- Links and actions, as it is computed: calls of top-level functions whose arguments can travel.
-- Which datatypes' values can is told by marks.
use Rattle.std.specs.Prelude.{ℕ, Bool, true, false, ◌&&◌, List, [], ◌∷◌, length, Option, Some, None, slice_get, not}
use Rattle.con_terms.specs.Trees.{Cn, arrow, poly, guarded}
use Rattle.core_terms.specs.Trees.{Ex, node, top, call, It, a_term, a_con, a_guard, Dt}
use Rattle.core_terms.specs.Lists.{item_list}
use Rattle.core_typing.specs.Scopes.{normal_of}
use Rattle.told_faults.specs.Computed.{function_parts}
use Rattle.judgements.specs.Comparisons.{are_alike}
use Rattle.carried_types.specs.Filling.{can_fill}
use Rattle.carried_types.specs.Pages.{shows_page, sends_form, left_behind}

-- what a link or an action breaks
pub data Lk : Type 0 where
  nothing_broken : Lk
  no_call : Lk
  no_travel : Lk

-- a top-level value
abbrev pub is_top : Ex → Bool
is_top (node p a (top i)) = true
is_top (node p a _) = false

-- or a call of one
abbrev pub calls_top : Ex → Bool
calls_top (node p a (top i)) = true
calls_top (node p a (call f s is)) = is_top f
calls_top (node p a _) = false

-- items that are terms alone
abbrev pub is_term : It → Bool
is_term (a_term e) = true
is_term (a_con p o c) = false
is_term (a_guard p o) = false

abbrev pub all_terms : List It → Bool
all_terms [] = true
all_terms (i ∷ is) = is_term i && all_terms is

abbrev pub counted : List It → Bool → Option ℕ
counted is true = Some (length is)
counted is false = None

abbrev pub term_count : List It → Option ℕ
term_count is = counted is (all_terms is)

-- the value that is called, and with how many terms
abbrev pub with_count : ℕ → Option ℕ → Option (ℕ × ℕ)
with_count i None = None
with_count i (Some n) = Some (i, n)

abbrev pub call_of_top : Ex → Option ℕ → Option (ℕ × ℕ)
call_of_top (node p a (top i)) o = with_count i o
call_of_top (node p a _) o = None

abbrev pub call_of : Ex → Option (ℕ × ℕ)
call_of (node p a (top i)) = Some (i, 0)
call_of (node p a (call f s is)) = call_of_top f (term_count (item_list is))
call_of (node p a _) = None

-- the called value has the type of a link's or an action's function, and carries its arguments
abbrev pub carries_type : List Dt → List Bool → Bool → ℕ → Cn → Bool
carries_type ds bs true n t = sends_form ds bs n t
carries_type ds bs false n t = shows_page ds bs n t

abbrev pub carries : List Dt → List Bool → Bool → ℕ → Option Cn → Bool
carries ds bs action n None = false
carries ds bs action n (Some t) = carries_type ds bs action n t

abbrev pub linked_call : List Cn → List Dt → List Bool → Bool → Option (ℕ × ℕ) → Bool
linked_call ts ds bs action None = false
linked_call ts ds bs action (Some c) = carries ds bs action c.1 (slice_get ts c.0)

abbrev pub is_linked : List Cn → List Dt → List Bool → Bool → Ex → Bool
is_linked ts ds bs action e = linked_call ts ds bs action (call_of e)

-- a type takes a constructor or a guard's proof
abbrev pub is_generic : Cn → Bool
is_generic (poly i k t) = true
is_generic (guarded a b t) = true
is_generic _ = false

abbrev pub plain_form : Option Cn → Bool
plain_form None = false
plain_form (Some n) = not (is_generic n)

abbrev pub is_plain : Cn → Bool
is_plain t = plain_form (normal_of t)

-- what is behind a call's arguments lets it travel
abbrev pub fills_plain_at : Cn → Cn → Bool
fills_plain_at a b = can_fill a && is_plain b

abbrev pub fills_plain : Option (Cn × Cn) → Bool
fills_plain None = false
fills_plain (Some r) = fills_plain_at r.0 r.1

abbrev pub form_travels : Option Cn → Bool
form_travels None = false
form_travels (Some n) = fills_plain (function_parts n)

abbrev pub rest_travels : Bool → Cn → Bool
rest_travels true t = form_travels (normal_of t)
rest_travels false t = is_plain t

abbrev pub left_travels : Bool → Option Cn → Bool
left_travels action None = false
left_travels action (Some t) = rest_travels action t

abbrev pub type_travels : List Dt → List Bool → Bool → ℕ → Cn → Bool
type_travels ds bs action n t = left_travels action (left_behind ds bs n t)

abbrev pub arguments_travel : List Dt → List Bool → Bool → ℕ → Option Cn → Bool
arguments_travel ds bs action n None = false
arguments_travel ds bs action n (Some t) = type_travels ds bs action n t

abbrev pub travelling_call : List Cn → List Dt → List Bool → Bool → Option (ℕ × ℕ) → Bool
travelling_call ts ds bs action None = false
travelling_call ts ds bs action (Some c) = arguments_travel ds bs action c.1 (slice_get ts c.0)

abbrev pub travels : List Cn → List Dt → List Bool → Bool → Ex → Bool
travels ts ds bs action e = travelling_call ts ds bs action (call_of e)

-- what a link of another type than the wanted one lacks: it lacks arguments, or an action has all or lacks more than
-- the form; or it is called as it should be; or its type is too large
pub data Lx : Type 0 where
  lacks_call : Lx
  as_called : Lx
  not_known : Lx

abbrev pub link_lack : Cn → Lx
link_lack (arrow a b) = lacks_call
link_lack _ = as_called

abbrev pub behind_form : Option Cn → Lx
behind_form None = not_known
behind_form (Some n) = link_lack n

abbrev pub when_generic : Bool → Lx
when_generic true = as_called
when_generic false = lacks_call

abbrev pub lack_behind : Cn → Lx
lack_behind b = behind_form (normal_of b)

abbrev pub action_lack : Cn → Lx
action_lack (arrow a b) = lack_behind b
action_lack n = when_generic (is_generic n)

abbrev pub lack_of_form : Bool → Option Cn → Lx
lack_of_form action None = not_known
lack_of_form true (Some n) = action_lack n
lack_of_form false (Some n) = link_lack n

abbrev pub lack_of : Bool → Cn → Lx
lack_of action v = lack_of_form action (normal_of v)

abbrev pub told_unless : Bool → Lk
told_unless true = nothing_broken
told_unless false = no_travel

abbrev pub of_lack : Lx → Bool → Lk
of_lack lacks_call b = no_call
of_lack not_known b = nothing_broken
of_lack as_called b = told_unless b

-- of the wanted type, or of another
abbrev pub of_alike : List Cn → List Dt → List Bool → Bool → Ex → Cn → Bool → Lk
of_alike ts ds bs action e v true = told_unless (is_linked ts ds bs action e)
of_alike ts ds bs action e v false = of_lack (lack_of action v) (travels ts ds bs action e)

abbrev pub of_type : List Cn → List Dt → List Bool → Bool → Cn → Ex → Option Cn → Lk
of_type ts ds bs action t e None = nothing_broken
of_type ts ds bs action t e (Some v) = of_alike ts ds bs action e v (are_alike t v)

abbrev pub of_called : List Cn → List Dt → List Bool → Bool → Cn → Ex → Option Cn → Bool → Lk
of_called ts ds bs action t e o false = no_call
of_called ts ds bs action t e o true = of_type ts ds bs action t e o

-- what a link or an action breaks, whose wanted type is t
abbrev pub link_fault : List Cn → List Dt → List Bool → Bool → Cn → Ex → Option Cn → Lk
link_fault ts ds bs action t e o = of_called ts ds bs action t e o (calls_top e)
