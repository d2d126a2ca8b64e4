-- What is added to a link, piece by piece.
use Rattle.std.proofs.Common.{◌≡◌, ℕ, ◌<◌, Bool, true, false, nat_lt, length, List, ◌∷◌, ◌++◌, map, refl, ap, sym, ◌∙◌, subst, arith, ltb-true, lt-ltb, []}
use Rattle.std.specs.String.{string_bytes}
use Rattle.std.proofs.lemmas.List.{length-append}
use Rattle.link_router.specs.Links.{joined}
use Rattle.page_walk.specs.Links.{longest_link}
use Rattle.page_walk.specs.Adding.{Holds, Adds}
use Rattle.page_walk.specs.declared.links.Link.{Link}
pub use Rattle.link_router.proofs.Escapes.{joined-append as joined_and}
pub use Rattle.run_values.proofs.Lists.{and_and}
pub use Rattle.std.proofs.lemmas.List.{append-nil as nothing_behind}

longer_still : (w more : List ℕ) → nat_lt longest_link (length w) ≡ true → nat_lt longest_link (length (w ++ more)) ≡ true
longer_still w more h =
    let far : longest_link < length w = ltb-true longest_link (length w) h in
    lt-ltb longest_link (length (w ++ more)) (omega (arith, far, length-append w more))

-- a link that is too long stays so
pub long_stays : (l : Link) (more : List ℕ) → l.long ≡ true → Adds l l more
long_stays l more h = record {
  adds = λ w k. record {
    is_long = h ∙ sym (longer_still w more (sym k.is_long ∙ h));
    bytes = λ f. absurd (different h f);
  };
}
  where
    different : {b : Bool} → b ≡ true → b ≡ false → ⊥
    different p q = cc

pub piece_added : (old new : Link) (text : List ℕ) → old.long ≡ false → string_bytes new.text ≡ string_bytes old.text ++ 47 ∷ text
    → new.long ≡ nat_lt longest_link (length (string_bytes new.text)) → Adds old new (47 ∷ text)
piece_added old new text short f g = record {
  adds = λ w k.
      let e : string_bytes new.text ≡ w ++ 47 ∷ text = f ∙ ap (λ xs. xs ++ 47 ∷ text) (k.bytes short) in
      record { is_long = g ∙ ap (λ xs. nat_lt longest_link (length xs)) e; bytes = λ _. e };
}

pub nothing_added : (l : Link) → Adds l l []
nothing_added l = record { adds = λ w k. subst (Holds l) (sym (nothing_behind w)) k }

pub both_added : (a b c : Link) (xs ys : List ℕ) → Adds a b xs → Adds b c ys → Adds a c (xs ++ ys)
both_added a b c xs ys p q = record { adds = λ w k. subst (Holds c) (and_and w xs ys) (q.adds (w ++ xs) (p.adds w k)) }

-- a name, piece by piece
pub one_more_piece : (a b c : Link) (f : ℕ → List ℕ) (xs : List ℕ) (x : ℕ) → Adds a b (joined (map f xs)) → Adds b c (47 ∷ f x) → Adds a c (joined (map f (xs ++ x ∷ [])))
one_more_piece a b c f xs x p q =
    subst (Adds a c) (ap (λ ys. joined (map f xs) ++ ys) (sym (nothing_behind (47 ∷ f x))) ∙ sym (joined_and (map f xs) (f x ∷ [])) ∙ ap joined (sym (map_and xs (x ∷ [])))) (both_added a b c (joined (map f xs)) (47 ∷ f x) p q)
  where
    map_and : (ys zs : List ℕ) → map f (ys ++ zs) ≡ map f ys ++ map f zs
    map_and [] zs = refl
    map_and (y ∷ ys) zs = ap (λ us. f y ∷ us) (map_and ys zs)

pub name_added : (a b c d : Link) (m : List ℕ) (f : ℕ → List ℕ) (xs : List ℕ) (x : ℕ)
    → Adds a b (47 ∷ m) → Adds b c (joined (map f xs)) → Adds c d (47 ∷ f x) → Adds a d (joined (m ∷ map f (xs ++ x ∷ [])))
name_added a b c d m f xs x p q r = both_added a b d (47 ∷ m) (joined (map f (xs ++ x ∷ []))) p (one_more_piece b c d f xs x q r)
