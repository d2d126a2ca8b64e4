-- Each target is a call, or is refused.
use Rattle.std.proofs.Common.{◌≡◌, ℕ, ◌-◌, Bool, not, List, [], ◌∷◌, ◌++◌, length, Option, Some, None, bytes_eq}
use Rattle.std.proofs.Common.{refl, ap, sym, subst, ◌∙◌, ◌⊎◌, inl, inr}
use Rattle.std.specs.List.{Contains}
use Rattle.std.specs.Bool.{beq}
use Rattle.std.specs.Cmp.{booleans_Decides}
use Rattle.std.proofs.lemmas.Slice.Eq.{bytes_eq-Decides}
use Rattle.link_router.specs.Calls.{Ent, Rts, Cl, is_post}
use Rattle.link_router.specs.Links.{path_of, path_pieces}
use Rattle.link_router.specs.Reading.{bad, few}
use Rattle.link_router.specs.Routed.{Astray, no_route, other_method, bad_piece, too_few, too_many, Refuses}
use Rattle.link_router.specs.Routed.{has_bad_piece, has_too_few, has_too_many}
use Rattle.link_router.specs.RouteLaws.{ReadAs, EachTargetIsRead}
use Rattle.link_router.specs.Answered.{FitsEntry, FoundEntry, NoEntryFound}
use Rattle.link_router.proofs.Listed.{listed_head, listed_later, none_listed}
use Rattle.link_router.proofs.Sent.{listed_in}
use Rattle.link_router.proofs.ReadBack.{heads, tails}
use Rattle.link_router.proofs.OneCall.{read_route}
use Rattle.link_router.proofs.OneRefusal.{listed_at}
use Rattle.link_router.proofs.Answering.{no_pieces_refused, one_fits, other_refused, none_refused}
use Rattle.link_router.proofs.EachPiece.{Settled, by_test, settled_as, both_settled, either_settled, first_or_behind}
use Rattle.link_router.proofs.EachReading.{AllOutcome, all_read, all_stopped, all_outcome}

-- pieces begin with a name or don't
abbrev Begins : List (List ℕ) → List (List ℕ) → Type 0
Begins name pieces = (rest : List (List ℕ)) × (pieces ≡ name ++ rest)

no_piece : (n : List ℕ) (ns : List (List ℕ)) → [] ≡ n ∷ ns → ⊥
no_piece n ns h = cc

some_rest : (name pieces : List (List ℕ)) → Settled (Begins name pieces)
some_rest [] pieces = inl (pieces, refl)
some_rest (n ∷ name) [] = inr (λ b. no_piece n (name ++ b.0) b.1)
some_rest (n ∷ name) (p ∷ pieces) =
    settled_as whole parts (both_settled (by_test (bytes_eq p n) (bytes_eq-Decides p n)) (some_rest name pieces))
  where
    whole : (p ≡ n) × Begins name pieces → Begins (n ∷ name) (p ∷ pieces)
    whole (e, b) = (b.0, ap (λ x. x ∷ pieces) e ∙ ap (λ xs. n ∷ xs) b.1)

    parts : Begins (n ∷ name) (p ∷ pieces) → (p ≡ n) × Begins name pieces
    parts (rest, e) = let f : p ∷ pieces ≡ n ∷ (name ++ rest) = e in (heads f, (rest, tails f))

-- an entry is read by the method and has its name there, or not
abbrev EntryFits : Bool → List (List ℕ) → Ent → Type 0
EntryFits post pieces e = (rest : List (List ℕ)) × FitsEntry post pieces e rest

entry_fits : (post : Bool) (pieces : List (List ℕ)) (e : Ent) → Settled (EntryFits post pieces e)
entry_fits post pieces e =
    settled_as (λ h. (h.1.0, record { by_method = h.0; begins = h.1.1 }))
    (λ f. (f.1.by_method, (f.0, f.1.begins)))
    (both_settled (by_test (beq (is_post e.form) post) (booleans_Decides (is_post e.form) post))
    (some_rest e.name pieces))

-- one of these entries does, or none
abbrev OneAmong : Bool → List (List ℕ) → List Ent → Type 0
OneAmong post pieces es = (e : Ent) × Contains es e × EntryFits post pieces e

one_among : (post : Bool) (pieces : List (List ℕ)) (es : List Ent) → Settled (OneAmong post pieces es)
one_among post pieces [] = inr (λ f. none_listed f.0 f.1)
one_among post pieces (e ∷ es) =
    settled_as among apart (either_settled (entry_fits post pieces e) (one_among post pieces es))
  where
    among : EntryFits post pieces e ⊎ OneAmong post pieces es → OneAmong post pieces (e ∷ es)
    among (inl f) = (e, listed_head e es, f)
    among (inr h) = (h.0, listed_later e h.0 es h.1, h.2)

    apart : OneAmong post pieces (e ∷ es) → EntryFits post pieces e ⊎ OneAmong post pieces es
    apart (d, i, f) = elim (first_or_behind e d es i) [
      | inl s ↦ inl (subst (EntryFits post pieces) (sym s) f)
      | inr j ↦ inr (d, j, f)
    ]

-- an entry of the routes was found, or none
data Searched (routes : Rts) (post : Bool) (pieces : List (List ℕ)) : Type 0 where
  found : (i : ℕ) (e : Ent) (rest : List (List ℕ))
      → FoundEntry routes post pieces i e rest
      → Searched routes post pieces
  not_found : NoEntryFound routes post pieces → Searched routes post pieces

searched : (routes : Rts) (post : Bool) (pieces : List (List ℕ)) → Searched routes post pieces
searched routes post pieces = elim (one_among post pieces routes.entries) [
  | inl h ↦ found h.1.0 h.0 h.2.0 (record { there = listed_at routes.entries h.0 h.1; fits = h.2.1 })
  | inr f ↦ not_found (λ i e rest h. f (e, listed_in routes.entries i e h.there, (rest, h.fits)))
]

-- the target is read as a call, or is refused
abbrev ReadOrRefused : Rts → Bool → List ℕ → Type 0
ReadOrRefused routes post target =
    ((call : Cl) × ReadAs routes post target call) ⊎ ((why : Astray) × Refuses routes post target why)

module _ (routes : Rts) (post : Bool) (target : List ℕ) where
  -- behind the name of the entry that was found
  behind_name : (pieces : List (List ℕ)) (i : ℕ) (e : Ent) (rest : List (List ℕ))
      → path_pieces (path_of target) ≡ Some pieces
      → FoundEntry routes post pieces i e rest
      → AllOutcome routes.datatypes e.arguments rest
      → ReadOrRefused routes post target
  behind_name pieces i e rest q f (all_read ws [] r) =
      let fits = one_fits routes post target pieces i e rest q f in
      inl (
        record { entry = i; wires = ws; form = None; cookie = [] },
        record {
          entry = e;
          is_entry = f.there;
          by_method = f.fits.by_method;
          left = rest;
          named = fits.named;
          arguments = r;
          no_form = refl;
          no_cookie = refl;
        },
      )
  behind_name pieces i e rest q f (all_read ws (p ∷ left) r) =
      inr (too_many, has_too_many (one_fits routes post target pieces i e rest q f) r)
  behind_name pieces i e rest q f (all_stopped (bad left) t) =
      inr (bad_piece (length rest - length left), has_bad_piece (one_fits routes post target pieces i e rest q f) t)
  behind_name pieces i e rest q f (all_stopped few t) =
      inr (too_few, has_too_few (one_fits routes post target pieces i e rest q f) t)

  -- by the entries of the method, and else by those of the other one
  by_search : (pieces : List (List ℕ))
      → path_pieces (path_of target) ≡ Some pieces
      → Searched routes post pieces
      → Searched routes (not post) pieces
      → ReadOrRefused routes post target
  by_search pieces q (found i e rest f) b =
      behind_name pieces i e rest q f (all_outcome routes.datatypes e.arguments rest)
  by_search pieces q (not_found f) (found i e rest g) =
      inr (other_method, other_refused routes post target pieces i e rest q f g)
  by_search pieces q (not_found f) (not_found g) = inr (no_route, none_refused routes post target pieces q f g)

  by_pieces : (o : Option (List (List ℕ))) → path_pieces (path_of target) ≡ o → ReadOrRefused routes post target
  by_pieces None q = inr (no_route, no_pieces_refused routes post target q)
  by_pieces (Some pieces) q = by_search pieces q (searched routes post pieces) (searched routes (not post) pieces)

pub each_target_is_read : EachTargetIsRead
each_target_is_read routes post target n = elim (by_pieces routes post target (path_pieces (path_of target)) refl) [
  | inl h ↦ inl (h.0, read_route routes post target h.0 n h.1)
  | inr h ↦ inr h
]
