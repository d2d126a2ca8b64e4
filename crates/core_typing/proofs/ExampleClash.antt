-- That a program tells the clash of its one term, whatever its type is.
use Rattle.std.proofs.Common.{ℕ, Bool, [], arith}
use Rattle.std.specs.Prelude.{Contains}
use Rattle.con_terms.specs.Trees.{Cn}
use Rattle.link_router.specs.Calls.{Ent}
use Rattle.core_typing.specs.Faults.{Fault, at, Earlier}
use Rattle.core_typing.specs.Entries.{IsEntry, by_export, by_link, by_action}
use Rattle.core_typing.specs.Tells.{Fails, itself, inside, left, right, type_kind, other_type, of_val, here, past_val, ProgramOwn, of_declaration, same_entry, in_declaration, ProgramFails, outside_terms, in_term, tells_in_term}
use Rattle.core_typing.specs.ExampleTerms.{byte, basis_scope, clashing}
use Rattle.core_typing.specs.ExampleProgram.{clashing_program, ClashOfProgramIsTold}
use Rattle.core_typing.proofs.ExampleFaults.{not_before, kind_at, wants_at, literal_is_well, concat_at, not_before_clash, clash_told}

pub none_in : {X : Type 0} {x : X} → Contains [] x → ⊥
none_in c = absurd (omega (arith, c.1))

no_entry : (t : Cn) (i : ℕ) (post : Bool) (e : Ent) → IsEntry (clashing_program t) i post e → ⊥
no_entry t i post e (by_export v x p) = none_in x
no_entry t i post e (by_link v x p) = none_in x
no_entry t i post e (by_action v x p) = none_in x

-- no fault stands before the term
term_not_before : (g : Fault) → Fails basis_scope clashing g → Earlier (at g) (byte 8) → ⊥
term_not_before g (itself o) h = not_before_clash g (concat_at o) h
term_not_before g (inside left k) h = literal_is_well k
term_not_before g (inside right k) h = literal_is_well k

outside_not_before : (t : Cn) (g : Fault) → ProgramOwn (clashing_program t) g → Earlier (at g) (byte 8) → ⊥
outside_not_before t g (of_declaration here (type_kind k)) h = not_before g (kind_at k) h
outside_not_before t g (of_declaration here (other_type k f w)) h = not_before g (wants_at w) h
outside_not_before t g (of_declaration (past_val d) o) h = elim d [ ]
outside_not_before t g (same_entry {i = i} {post = post} {b = b} x y l n v) h = no_entry t i post b x

nothing_before : (t : Cn) (g : Fault) → ProgramFails (clashing_program t) g → Earlier (at g) (byte 8) → ⊥
nothing_before t g (outside_terms o) h = outside_not_before t g o h
nothing_before t g (in_term (in_declaration here of_val) k) h = term_not_before g k h
nothing_before t g (in_term (in_declaration (past_val d) s) k) h = elim d [ ]

pub clash_of_program_is_told : ClashOfProgramIsTold
clash_of_program_is_told t = tells_in_term (in_declaration here of_val) clash_told (nothing_before t)
