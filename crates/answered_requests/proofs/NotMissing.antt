-- No program is without routes: under a double denial each of finitely many questions may be taken as decided.
use Rattle.std.proofs.Common.{ℕ, suc, Bool, true, false, List, [], ◌∷◌, map, ◌⊎◌, inl, inr, refl}
use Rattle.table_rows.specs.Shapes.{Cases}
use Rattle.link_router.specs.Calls.{Ent}
use Rattle.core_terms.specs.Trees.{Dt, Pg, arity}
use Rattle.core_typing.specs.Declarations.{Value, values}
use Rattle.core_typing.specs.Entries.{IsEntry, EntriesFrom, no_values, neither, get_alone, post_alone, get_and_post, entries_of, CasesShaped, DatatypesShaped, no_datatype, carried, not_carried, all_datatypes}
use Rattle.answered_requests.specs.Laws.{RoutesAreNotMissing, NoRequestIsWithoutAnswer}
use Rattle.answered_requests.proofs.Answered.{each_request}

-- a question isn't left open
decided : (P : Type 0) → (P ⊎ (P → ⊥) → ⊥) → ⊥
decided P asks = asks (inr (λ h. asks (inl h)))

-- the cases of datatypes
abbrev AreCases : List (List ℕ) → List Dt → Dt → Type 0
AreCases names all d = (cs : Cases) × CasesShaped names all (arity d) d.constructors cs

with_datatype : (names : List (List ℕ)) (all : List Dt) (d : Dt) (ds : List Dt) (css : List Cases) → AreCases names all d ⊎ (AreCases names all d → ⊥) → DatatypesShaped names all ds css
    → (more : List Cases) × DatatypesShaped names all (d ∷ ds) more
with_datatype names all d ds css (inl g) h = (g.0 ∷ css, carried g.1 h)
with_datatype names all d ds css (inr f) h = ([] ∷ css, not_carried (λ cs g. f (cs, g)) h)

cases_there : (names : List (List ℕ)) (all ds : List Dt) → ((css : List Cases) → DatatypesShaped names all ds css → ⊥) → ⊥
cases_there names all [] lacks = lacks [] no_datatype
cases_there names all (d ∷ ds) lacks =
    decided (AreCases names all d) (λ o. cases_there names all ds (λ css h. let (more, are) = with_datatype names all d ds css o h in lacks more are))

-- the entries of values
abbrev HasEntry : Pg → ℕ → Bool → Type 0
HasEntry p i post = (e : Ent) × IsEntry p i post e

no_entry : {p : Pg} {i : ℕ} → (HasEntry p i false → ⊥) → (HasEntry p i true → ⊥) → (post : Bool) (e : Ent) → IsEntry p i post e → ⊥
no_entry f g false e h = f (e, h)
no_entry f g true e h = g (e, h)

with_value : (p : Pg) (i : ℕ) (v : Value) (vs : List Value) (xs : List (ℕ × Ent)) → HasEntry p i false ⊎ (HasEntry p i false → ⊥) → HasEntry p i true ⊎ (HasEntry p i true → ⊥) → EntriesFrom p (suc i) vs xs
    → (more : List (ℕ × Ent)) × EntriesFrom p i (v ∷ vs) more
with_value p i v vs xs (inl g) (inl k) h = ((i, g.0) ∷ (i, k.0) ∷ xs, get_and_post g.1 k.1 h)
with_value p i v vs xs (inl g) (inr l) h = ((i, g.0) ∷ xs, get_alone g.1 (λ d k. l (d, k)) h)
with_value p i v vs xs (inr f) (inl k) h = ((i, k.0) ∷ xs, post_alone (λ d g. f (d, g)) k.1 h)
with_value p i v vs xs (inr f) (inr l) h = (xs, neither (no_entry f l) h)

entries_there : (p : Pg) (i : ℕ) (vs : List Value) → ((xs : List (ℕ × Ent)) → EntriesFrom p i vs xs → ⊥) → ⊥
entries_there p i [] lacks = lacks [] no_values
entries_there p i (v ∷ vs) lacks =
    decided (HasEntry p i false) (λ get. decided (HasEntry p i true) (λ post. entries_there p (suc i) vs (λ xs h. let (more, are) = with_value p i v vs xs get post h in lacks more are)))

pub routes_are_not_missing : RoutesAreNotMissing
routes_are_not_missing p lacks =
    entries_there p 0 (values p.decls) (λ xs h. cases_there p.names (all_datatypes p) (all_datatypes p) (λ css g.
    lacks (record { datatypes = css; entries = entries_of xs }) (map (λ (x : ℕ × Ent). x.0) xs)
    (record { listed = xs; are_entries = h; entries = refl; called = refl; datatypes = g })))

pub none_is_without_answer : NoRequestIsWithoutAnswer
none_is_without_answer p ask n a lacks = routes_are_not_missing p (λ routes callees r. let (x, h) = each_request p routes callees ask n a r in lacks x h)
