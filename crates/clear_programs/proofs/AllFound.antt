-- The declarations of a program in which no premise fails are found, and its entries differ.
use Rattle.std.proofs.Common.{◌≡◌, ◌≢◌, ℕ, zero, suc, ◌<◌, Bool, List, [], ◌∷◌, ◌++◌, map, Some, slice_get, refl, ap}
use Rattle.std.proofs.Common.{sym, arith, ◌⊎◌, inl, inr}
use Rattle.std.specs.List.{AllByRecursion}
use Rattle.std.proofs.lemmas.List.Elements.{All-from_recursion}
use Rattle.con_terms.specs.Trees.{types, Cn}
use Rattle.link_router.specs.Calls.{Ent}
use Rattle.con_terms.specs.declared.place.Place.{Place}
use Rattle.core_terms.specs.Trees.{Ex, Nms, no_named, named, De, val, vals, con_is, datatype, thing, Cd, Dt, Pg}
use Rattle.core_typing.specs.Scopes.{Sc}
use Rattle.core_typing.specs.Own.{type_place}
use Rattle.core_typing.specs.Accepts.{EntriesDiffer}
use Rattle.core_typing.specs.Declarations.{Value, values, value_types, named_values, scope_with, under_types, Distinct}
use Rattle.core_typing.specs.Entries.{IsEntry, by_export, by_link, by_action}
use Rattle.core_typing.specs.Faults.{Fault, redeclared, twice_entry}
use Rattle.core_typing.specs.Found.{no_name_found}
use Rattle.core_typing.specs.FoundProgram.{HoldsFoundTypes, DeclsFound, no_decls_found, a_val_found, vals_found}
use Rattle.core_typing.specs.FoundProgram.{con_found, datatype_found}
use Rattle.core_typing.specs.Judged.{HasKind}
use Rattle.core_typing.specs.Tells.{Fails, DeclAt, here, past_val, past_vals, past_con, past_datatype, DeclOwn}
use Rattle.core_typing.specs.Tells.{type_kind, other_type, in_named, con_kind, held_kind, same_constructor}
use Rattle.core_typing.specs.Tells.{no_thing_rule, DeclSub, of_val, of_vals, of_declaration, same_entry}
use Rattle.core_typing.specs.Tells.{in_declaration, ProgramFails, outside_terms, in_term}
use Rattle.core_typing.proofs.DecidedForms.{kinding}
use Rattle.core_typing.proofs.DecidedPatterns.{Kds}
use Rattle.core_typing.proofs.DecidedParts.{NamedOut, all_named, named_fault, named_part, WrittenOut, as_written}
use Rattle.core_typing.proofs.DecidedParts.{bad_kind, bad_type, bad_term, written_dec, name_dec}
use Rattle.told_terms.proofs.Decided.{found_or_failing}

-- no premise fails in declarations
record Faultless (p : Pg) (tops : List Cn) (ds : List Dt) (decls : List De) : Type 0 where
  own : (us : List Cn) (es : List Dt) (d : De) (f : Fault) → DeclAt tops ds decls us es d → DeclOwn p us es d f → ⊥
  terms : (us : List Cn) (es : List Dt) (d : De) (G : Sc) (e : Ex) (f : Fault) → DeclAt tops ds decls us es d
      → DeclSub p us es d G e → Fails G e f → ⊥

-- those behind a declaration
behind : (p : Pg) (tops us : List Cn) (ds es : List Dt) (decls rest : List De)
    → ((vs : List Cn) (fs : List Dt) (d : De) → DeclAt us es rest vs fs d → DeclAt tops ds decls vs fs d)
    → Faultless p tops ds decls → Faultless p us es rest
behind p tops us ds es decls rest past n = record {
  own = λ vs fs d f a x. n.own vs fs d f (past vs fs d a) x;
  terms = λ vs fs d G e f a s x. n.terms vs fs d G e f (past vs fs d a) s x;
}

-- a term at its written type, and names that are declared together
value_out : (G H : Sc) (p : Place) (t : Cn) (e : Ex) → WrittenOut G H p t e
value_out G H p t e = written_dec G H p t e (kinding G t types) (found_or_failing H e)

names_out : (G H : Sc) (ns : Nms) → NamedOut G H ns
names_out G H no_named = all_named no_name_found
names_out G H (named p x w t e ns) =
    name_dec G H p x w t e ns (value_out G H (type_place w p e) t e) (names_out G H ns)

-- the types of the values behind such names
abbrev with_names : List Cn → List ℕ → Nms → List Cn
with_names tops path ns = tops ++ value_types (named_values path ns)

-- constructors of different names
abbrev NoneTwice : List Cd → Type 0
NoneTwice cs = (i j : ℕ) (b c : Cd) → slice_get cs i ≡ Some b → slice_get cs j ≡ Some c → i < j → b.name ≢ c.name

others_differ : (x : ℕ) (cs : List Cd) → ((j : ℕ) (c : Cd) → slice_get cs j ≡ Some c → x ≢ c.name)
    → AllByRecursion (λ y. x ≢ y) (map (λ (c : Cd). c.name) cs)
others_differ x [] h = tt
others_differ x (c ∷ cs) h = (h 0 c refl, others_differ x cs (λ j d e. h (suc j) d e))

distinct : (cs : List Cd) → NoneTwice cs → Distinct (map (λ (c : Cd). c.name) cs)
distinct [] h = tt
distinct (c ∷ cs) h = (
  All-from_recursion (λ y. c.name ≢ y) (map (λ (d : Cd). d.name) cs)
      (others_differ c.name cs (λ j d e. h 0 (suc j) c d refl e (omega arith))),
  distinct cs (λ i j b d e g l. h (suc i) (suc j) b d e g (omega (arith, l))),
)

-- the scope of what a datatype's constructors hold
abbrev inner_scope : Pg → List Cn → List Dt → Dt → Sc
inner_scope p tops ds d = under_types d.parameters (scope_with p tops (ds ++ d ∷ []))

-- declarations, one after another
decls_found : (p : Pg) (tops : List Cn) (ds : List Dt) (decls : List De) → Faultless p tops ds decls
    → DeclsFound p tops ds decls
decls_found p tops ds [] n = no_decls_found
decls_found p tops ds (val path q x w t e ∷ rest) n =
    by_term (value_out (scope_with p tops ds) (scope_with p tops ds) (type_place w q e) t e)
    (decls_found p (tops ++ t ∷ []) ds rest
    (behind p tops (tops ++ t ∷ []) ds ds (val path q x w t e ∷ rest) rest (λ vs fs d a. past_val a) n))
  where
    by_term : WrittenOut (scope_with p tops ds) (scope_with p tops ds) (type_place w q e) t e
        → DeclsFound p (tops ++ t ∷ []) ds rest → DeclsFound p tops ds (val path q x w t e ∷ rest)
    by_term (as_written u k h a) r = a_val_found k h a r
    by_term (bad_kind f y) r = absurd (n.own tops ds (val path q x w t e) f here (type_kind y))
    by_term (bad_type u f k h y) r = absurd (n.own tops ds (val path q x w t e) f here (other_type k h y))
    by_term (bad_term (f, y)) r =
        absurd (n.terms tops ds (val path q x w t e) (scope_with p tops ds) e f here of_val y)
decls_found p tops ds (vals path ns ∷ rest) n =
    by_names (names_out (scope_with p tops ds) (scope_with p (with_names tops path ns) ds) ns)
    (decls_found p (with_names tops path ns) ds rest
    (behind p tops (with_names tops path ns) ds ds (vals path ns ∷ rest) rest (λ vs fs d a. past_vals a) n))
  where
    by_names : NamedOut (scope_with p tops ds) (scope_with p (with_names tops path ns) ds) ns
        → DeclsFound p (with_names tops path ns) ds rest → DeclsFound p tops ds (vals path ns ∷ rest)
    by_names (all_named h) r = vals_found h r
    by_names (named_fault f y) r = absurd (n.own tops ds (vals path ns) f here (in_named y))
    by_names (named_part e i (f, y)) r =
        absurd (n.terms tops ds (vals path ns) (scope_with p (with_names tops path ns) ds) e f here (of_vals i) y)
decls_found p tops ds (con_is path q x w k c ∷ rest) n =
    by_kind (kinding (scope_with p tops ds) c k)
    (decls_found p tops ds rest
    (behind p tops tops ds ds (con_is path q x w k c ∷ rest) rest (λ vs fs d a. past_con a) n))
  where
    by_kind : Kds (scope_with p tops ds) c k → DeclsFound p tops ds rest
        → DeclsFound p tops ds (con_is path q x w k c ∷ rest)
    by_kind (inl h) r = con_found h r
    by_kind (inr l) r = let (f, y) = l q in absurd (n.own tops ds (con_is path q x w k c) f here (con_kind y))
decls_found p tops ds (datatype d ∷ rest) n =
    datatype_found holds (distinct d.constructors differ)
    (decls_found p tops (ds ++ d ∷ []) rest
    (behind p tops tops ds (ds ++ d ∷ []) (datatype d ∷ rest) rest (λ vs fs b a. past_datatype a) n))
  where
    holds : HoldsFoundTypes (scope_with p tops (ds ++ d ∷ [])) d
    holds c held i e = by_kind (kinding (inner_scope p tops ds d) held types)
      where
        by_kind : Kds (inner_scope p tops ds d) held types → HasKind (inner_scope p tops ds d) held types
        by_kind (inl h) = h
        by_kind (inr l) = let (f, y) = l c.place in absurd (n.own tops ds (datatype d) f here (held_kind i e y))

    differ : NoneTwice d.constructors
    differ i j b c e g l s = n.own tops ds (datatype d) _ here (same_constructor e g l s)
decls_found p tops ds (thing path q x k t ∷ rest) n =
    absurd (n.own tops ds (thing path q x k t) _ here no_thing_rule)

-- a program's declarations
pub declarations_found : (p : Pg) → ((f : Fault) → ProgramFails p f → ⊥) → DeclsFound p [] [] p.decls
declarations_found p none = decls_found p [] [] p.decls (record {
  own = λ us es d f a x. none f (outside_terms (of_declaration a x));
  terms = λ us es d G e f a s x. none f (in_term (in_declaration a s) x);
})

-- entries
apart : (i k : ℕ) → i ≢ k → (i < k) ⊎ (k < i)
apart zero zero h = absurd (h refl)
apart zero (suc k) h = inl (omega arith)
apart (suc i) zero h = inr (omega arith)
apart (suc i) (suc k) h = elim (apart i k (λ e. h (ap suc e))) [
  | inl l ↦ inl (omega arith)
  | inr l ↦ inr (omega arith)
]

entry_value : (p : Pg) (i : ℕ) (post : Bool) (e : Ent) → IsEntry p i post e
    → (v : Value) × (slice_get (values p.decls) i ≡ Some v)
entry_value p i post e (by_export {v = v} at c t) = (v, at)
entry_value p i post e (by_link {v = v} at c t) = (v, at)
entry_value p i post e (by_action {v = v} at c t) = (v, at)

not_second : (p : Pg) (i j : ℕ) (post : Bool) (b e : Ent) → ((f : Fault) → ProgramFails p f → ⊥) → IsEntry p i post b
    → IsEntry p j post e → i < j → b.name ≡ e.name → ⊥
not_second p i j post b e none x y l s =
    let (v, at) = entry_value p j post e y in
    none (redeclared v.place (twice_entry e.name)) (outside_terms (same_entry x y l s at))

pub entries_differ : (p : Pg) → ((f : Fault) → ProgramFails p f → ⊥) → EntriesDiffer p
entries_differ p none i j post e d x y ne s = elim (apart i j ne) [
  | inl l ↦ not_second p i j post e d none x y l s
  | inr l ↦ not_second p j i post d e none y x l (sym s)
]
