-- A type in normal form tells what its head at its arguments tells.
use Rattle.std.proofs.Common.{◌≡◌, List, ◌∷◌, ◌++◌, refl, ap, sym, ◌∙◌, []}
use Rattle.con_terms.specs.Trees.{Cn, var, basic, arrow, poly, guarded, record_of, app, lambda, unit_con, name, row, cat, map_of, tuple, proj}
use Rattle.core_terms.specs.Trees.{Dt}
use Rattle.core_typing.specs.Seen.{seen_at, seen}
use Rattle.match_cover.specs.Spines.{head_of, arguments_of}
use Rattle.core_typing.proofs.Normal.{none_behind as nothing_behind}

appended : (xs : List Cn) (a : Cn) (ys : List Cn) → (xs ++ a ∷ []) ++ ys ≡ xs ++ a ∷ ys
appended [] a ys = refl
appended (x ∷ xs) a ys = ap (λ zs. x ∷ zs) (appended xs a ys)

pub spine_seen : (ds : List Dt) (c : Cn) (xs : List Cn) → seen_at ds c xs ≡ seen_at ds (head_of c) (arguments_of c ++ xs)
spine_seen ds (app f a) xs = spine_seen ds f (a ∷ xs) ∙ ap (seen_at ds (head_of f)) (sym (appended (arguments_of f) a xs))
spine_seen ds (var i) xs = refl
spine_seen ds (basic s) xs = refl
spine_seen ds (arrow a b) xs = refl
spine_seen ds (poly x k b) xs = refl
spine_seen ds (guarded a b c) xs = refl
spine_seen ds (record_of r) xs = refl
spine_seen ds (lambda k b) xs = refl
spine_seen ds unit_con xs = refl
spine_seen ds (name s) xs = refl
spine_seen ds (row k ps) xs = refl
spine_seen ds (cat a b) xs = refl
spine_seen ds (map_of k l) xs = refl
spine_seen ds (tuple cs) xs = refl
spine_seen ds (proj a n) xs = refl

pub whole_seen : (ds : List Dt) (c : Cn) → seen ds c ≡ seen_at ds (head_of c) (arguments_of c)
whole_seen ds c = spine_seen ds c [] ∙ ap (seen_at ds (head_of c)) (nothing_behind (arguments_of c))
