-- Paths and the pieces between slashes.
use Rattle.std.proofs.Common.{◌≡◌, ℕ, ◌<◌, ◌==◌, Bool, true, false, IsTrue, ◌↔◌, List, [], ◌∷◌, ◌++◌, length, map, take, drop, codes, refl, ap, sym, subst, ◌∙◌, arith, if◌then◌else◌}
use Rattle.std.specs.Char.{to_ascii_lowercase}
use Rattle.std.specs.Str.{bytes_eq}
use Rattle.std.proofs.lemmas.Bool.{cases_lt, false_from_ne_true}
use Rattle.std.proofs.lemmas.Bool.Decides.{nat_tests}
use Rattle.std.proofs.lemmas.List.{append-nil, append_assoc, length-map, length-take}
use Rattle.std.proofs.lemmas.Slice.Eq.{bytes_eq-Decides}
use Rattle.percent_encoding.specs.Percent.{percent_decode}
use Rattle.link_router.specs.Links.{in_first, split, lowered, from_slash, path_of}

lowered_is : (b : ℕ) → lowered b ≡ to_ascii_lowercase b
lowered_is b = grind (arith, nat_tests)

all_lowered : (bs : List ℕ) → map lowered bs ≡ map to_ascii_lowercase bs
all_lowered [] = refl
all_lowered (b ∷ bs) = ap (λ x. x ∷ map lowered bs) (lowered_is b) ∙ ap (λ xs. to_ascii_lowercase b ∷ xs) (all_lowered bs)

abbrev scheme : List ℕ
scheme = codes "http://"

-- whether the path begins behind an authority
yes_path : (t : List ℕ) → bytes_eq (map lowered (take 7 t)) scheme ≡ true → path_of t ≡ from_slash (drop 7 t)
yes_path t e = rw e refl

no_path : (t : List ℕ) → bytes_eq (map lowered (take 7 t)) scheme ≡ false → path_of t ≡ t
no_path t e = rw e refl

pub short_path : (t : List ℕ) → length t < 7 → t ≡ path_of t
short_path t h = sym (no_path t (false_from_ne_true _ (λ e.
    let same : map lowered (take 7 t) ≡ scheme = (bytes_eq-Decides _ _).0 e in
    omega (arith, ap length same, length-map (take 7 t) lowered, length-take 7 t))))

pub plain_path : (t s : List ℕ) (r : Bool) → s ≡ take 7 t → (IsTrue r ↔ (map to_ascii_lowercase s ≡ map to_ascii_lowercase scheme)) → r ≡ false → t ≡ path_of t
plain_path t s r e h untrue = sym (no_path t (false_from_ne_true _ (λ k.
    let same : map lowered (take 7 t) ≡ scheme = (bytes_eq-Decides _ _).0 k in
    let told_same : r ≡ true = h.1 (ap (map to_ascii_lowercase) e ∙ sym (all_lowered (take 7 t)) ∙ same) in
    cc)))

pub scheme_path : (t s rest found : List ℕ) (r : Bool) → s ≡ take 7 t → rest ≡ drop 7 t → (IsTrue r ↔ (map to_ascii_lowercase s ≡ map to_ascii_lowercase scheme)) → r ≡ true → found ≡ from_slash rest → found ≡ path_of t
scheme_path t s rest found r e d h told_true k =
    let same : map to_ascii_lowercase s ≡ scheme = h.0 told_true in
    let begins : bytes_eq (map lowered (take 7 t)) scheme ≡ true = (bytes_eq-Decides _ _).1 (all_lowered (take 7 t) ∙ ap (map to_ascii_lowercase) (sym e) ∙ same) in
    k ∙ ap from_slash d ∙ sym (yes_path t begins)

-- bytes in front of the first piece
abbrev pub with_front : List ℕ → List (List ℕ) → List (List ℕ)
with_front cur [] = cur ∷ []
with_front cur (p ∷ ps) = (cur ++ p) ∷ ps

-- a path's pieces are never none
first_of : (bs : List ℕ) → (p : List ℕ) × (ps : List (List ℕ)) × (split bs ≡ p ∷ ps)
first_of [] = ([], [], refl)
first_of (b ∷ bs) = go (b == 47) (first_of bs)
  where
    go : (t : Bool) → ((p : List ℕ) × (ps : List (List ℕ)) × (split bs ≡ p ∷ ps)) → (p : List ℕ) × (ps : List (List ℕ)) × ((if t then [] ∷ split bs else in_first b (split bs)) ≡ p ∷ ps)
    go true r = ([], split bs, refl)
    go false (p, ps, e) = (b ∷ p, ps, rw e refl)

front_nothing : (bs : List ℕ) → with_front [] (split bs) ≡ split bs
front_nothing bs = let (p, ps, e) = first_of bs in rw e refl

pub at_slash : (b : ℕ) (bs cur : List ℕ) → b ≡ 47 → with_front cur (split (b ∷ bs)) ≡ cur ∷ with_front [] (split bs)
at_slash b bs cur e = rw e (ap (λ p. p ∷ split bs) (append-nil cur) ∙ ap (λ ps. cur ∷ ps) (sym (front_nothing bs)))

pub at_other : (b : ℕ) (bs cur : List ℕ) → (b == 47) ≡ false → with_front cur (split (b ∷ bs)) ≡ with_front (cur ++ b ∷ []) (split bs)
at_other b bs cur e = let (p, ps, f) = first_of bs in rw (e, f) (ap (λ x. x ∷ ps) (sym (append_assoc cur (b ∷ []) p)))

pub at_end : (cur : List ℕ) → with_front cur (split []) ≡ cur ∷ []
at_end cur = ap (λ p. p ∷ []) (append-nil cur)

pub at_start : (bs : List ℕ) → split bs ≡ with_front [] (split bs)
at_start bs = sym (front_nothing bs)

pub from_other : (b : ℕ) (bs : List ℕ) → (b == 47) ≡ false → from_slash (b ∷ bs) ≡ from_slash bs
from_other b bs e = rw e refl

pub from_here : (b : ℕ) (bs : List ℕ) → b ≡ 47 → from_slash (b ∷ bs) ≡ b ∷ bs
from_here b bs e = rw e refl

-- a slash ends a piece
pub slash_step : (whole done next : List (List ℕ)) (cur fresh rest others d : List ℕ) (b : ℕ) → whole ≡ done ++ map percent_decode (with_front cur (split rest)) → rest ≡ b ∷ others → b ≡ 47 → d ≡ percent_decode cur → next ≡ done ++ d ∷ [] → fresh ≡ [] → whole ≡ next ++ map percent_decode (with_front fresh (split others))
slash_step whole done next cur fresh rest others d b h e f g n k =
    let onward : whole ≡ done ++ percent_decode cur ∷ map percent_decode (with_front [] (split others)) =
    h ∙ ap (λ r. done ++ map percent_decode (with_front cur (split r))) e ∙ ap (λ ps. done ++ map percent_decode ps) (at_slash b others cur f) in
    rw (n, k, g) (onward ∙ sym (append_assoc done (percent_decode cur ∷ []) (map percent_decode (with_front [] (split others)))))
