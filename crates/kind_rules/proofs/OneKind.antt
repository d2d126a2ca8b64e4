-- A constructor has one kind only.
use Rattle.std.proofs.Common.{◌≡◌, ℕ, Some, slice_get, refl, ap, sym, ◌∙◌}
use Rattle.std.proofs.lemmas.Option.{same_Some}
use Rattle.con_terms.specs.Trees.{Kd, to, tuple_of, Kds, kind, kind_list, Cn, Cns}
use Rattle.con_terms.specs.Kinded.{Scope, Kinded, of_var, of_basic, of_arrow, of_poly, of_guarded, of_record, of_app, of_lambda, of_unit, of_name, of_row, of_cat, of_map, of_tuple, of_proj, KindedAll, no_components, a_component}

result_of : (k l m n : Kd) → to k l ≡ to m n → l ≡ n
result_of k l m n e = cc

same_at : (ks ls : Kds) (n : ℕ) (k l : Kd) → tuple_of ks ≡ tuple_of ls → slice_get (kind_list ks) n ≡ Some k → slice_get (kind_list ls) n ≡ Some l → k ≡ l
same_at ks ls n k l e h g =
    let s : ks ≡ ls = cc in
    same_Some k l (sym h ∙ ap (λ z. slice_get (kind_list z) n) s ∙ g)

mutual
  pub one_kind : {G : Scope} {c : Cn} {k l : Kd} → Kinded G c k → Kinded G c l → k ≡ l
  one_kind (of_var {G} {i} {k} e) (of_var {k = l} h) = same_Some k l (sym e ∙ h)
  one_kind (of_basic {G} {s} {k} e) (of_basic {k = l} h) = same_Some k l (sym e ∙ h)
  one_kind (of_arrow _ _) (of_arrow _ _) = refl
  one_kind (of_poly _) (of_poly _) = refl
  one_kind (of_guarded _ _ _) (of_guarded _ _ _) = refl
  one_kind (of_record _) (of_record _) = refl
  one_kind (of_app {k = k} {l = l} h _) (of_app {k = m} {l = n} g _) = result_of k l m n (one_kind h g)
  one_kind (of_lambda {k = k} h) (of_lambda g) = ap (to k) (one_kind h g)
  one_kind of_unit of_unit = refl
  one_kind of_name of_name = refl
  one_kind (of_row _ _) (of_row _ _) = refl
  one_kind (of_cat h _ _) (of_cat g _ _) = one_kind h g
  one_kind of_map of_map = refl
  one_kind (of_tuple h) (of_tuple g) = ap tuple_of (one_kinds h g)
  one_kind (of_proj {ks = ks} {n = n} {k = k} h e) (of_proj {ks = ls} {k = l} g i) = same_at ks ls n k l (one_kind h g) e i

  one_kinds : {G : Scope} {cs : Cns} {ks ls : Kds} → KindedAll G cs ks → KindedAll G cs ls → ks ≡ ls
  one_kinds no_components no_components = refl
  one_kinds (a_component {k = k} {ks = ks} h i) (a_component {k = l} {ks = ls} g j) = ap (λ z. kind z ks) (one_kind h g) ∙ ap (kind l) (one_kinds i j)
