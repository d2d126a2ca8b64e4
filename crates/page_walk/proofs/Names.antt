-- The name of a top-level value, piece by piece.
use Rattle.std.proofs.Common.{◌≡◌, ℕ, zero, suc, ◌≤◌, List, [], ◌∷◌, ◌++◌, take, length, Option, Some, None, slice_get, get_or, unwrap_or, refl, ap, sym, ◌∙◌, subst, arith}
use Rattle.std.proofs.lemmas.Option.{unwrap_or-slice_get}
use Rattle.link_router.specs.Links.{joined}
use Rattle.core_terms.specs.declared.program.Program.{Program}
use Rattle.run_values.specs.Known.{Tp}
use Rattle.page_walk.specs.Links.{link_name}
use Rattle.page_walk.specs.Adding.{Adds, path_text}
use Rattle.page_walk.specs.declared.links.Link.{Link}
use Rattle.page_walk.proofs.Added.{nothing_added, one_more_piece, name_added}

pub without_text : (names : List (List ℕ)) (x : ℕ) → None ≡ slice_get names x → [] ≡ get_or names x []
without_text names x h = ap (λ (o : Option (List ℕ)). unwrap_or o []) h ∙ unwrap_or-slice_get names x []

-- one more
take_next : (xs : List ℕ) (i x : ℕ) → slice_get xs i ≡ Some x → take (suc i) xs ≡ take i xs ++ x ∷ []
take_next [] i x h = absurd (cc)
take_next (y ∷ ys) zero x h = let e : y ≡ x = cc in ap (λ z. z ∷ []) e
take_next (y ∷ ys) (suc i) x h = ap (λ zs. y ∷ zs) (take_next ys i x h)

take_all : (xs : List ℕ) (i : ℕ) → length xs ≤ i → take i xs ≡ xs
take_all [] zero h = refl
take_all [] (suc i) h = refl
take_all (x ∷ xs) zero h = absurd (omega (arith, h))
take_all (x ∷ xs) (suc i) h = ap (λ ys. x ∷ ys) (take_all xs i (omega (arith, h)))

pub no_path : (p : Program) (a : Link) (xs : List ℕ) → Adds a a (path_text p (take 0 xs))
no_path p a xs = nothing_added a

pub next_piece : (p : Program) (a b c : Link) (xs : List ℕ) (i k x : ℕ) (t : List ℕ) → k ≡ suc i → slice_get xs i ≡ Some x → t ≡ get_or p.names x []
    → Adds a b (path_text p (take i xs)) → Adds b c (47 ∷ t) → Adds a c (path_text p (take k xs))
next_piece p a b c xs i k x t g h e was more =
    subst (λ ys. Adds a c (path_text p ys)) (sym (ap (λ (j : ℕ). take j xs) g ∙ take_next xs i x h))
    (one_more_piece a b c (λ y. get_or p.names y []) (take i xs) x was (subst (λ u. Adds b c (47 ∷ u)) e more))

pub whole_path : (p : Program) (a b : Link) (xs : List ℕ) (i : ℕ) → length xs ≤ i → Adds a b (path_text p (take i xs)) → Adds a b (path_text p xs)
whole_path p a b xs i h was = subst (λ ys. Adds a b (path_text p ys)) (take_all xs i h) was

-- the whole name
pub named : (p : Program) (t : Tp) (a b c d : Link) (m n : List ℕ) → m ≡ get_or p.modules t.place.file [] → n ≡ get_or p.names t.name []
    → Adds a b (47 ∷ m) → Adds b c (path_text p t.path) → Adds c d (47 ∷ n) → Adds a d (joined (link_name p t))
named p t a b c d m n e f x y z =
    name_added a b c d (get_or p.modules t.place.file []) (λ u. get_or p.names u []) t.path t.name
    (subst (λ s. Adds a b (47 ∷ s)) e x) y (subst (λ s. Adds c d (47 ∷ s)) f z)
