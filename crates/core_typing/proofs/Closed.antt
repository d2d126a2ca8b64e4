-- What has a kind under some binders stays as it is under a walk that begins further out.
use Rattle.std.proofs.Common.{◌≡◌, ℕ, zero, suc, ◌+◌, ◌<◌, ◌≤◌, length, refl, ap, ◌∙◌, arith}
use Rattle.std.proofs.lemmas.Option.{slice_get_within}
use Rattle.con_terms.specs.Trees.{Kd, Kds, Cn, var, arrow, poly, guarded, record_of, app, lambda, row, cat, tuple, proj, Cns, con, Prs, pair}
use Rattle.con_terms.specs.Substitution.{replaced, replaced_all, replaced_pairs, shift}
use Rattle.con_terms.specs.Kinded.{Scope, Kinded, of_var, of_basic, of_arrow, of_poly, of_guarded, of_record, of_app, of_lambda, of_unit, of_name, of_row, of_cat, of_map, of_tuple, of_proj, KindedAll, no_components, a_component, KindedPairs, no_fields, a_field}
use Rattle.core_typing.proofs.Moving.{Walks}
use Rattle.core_typing.proofs.KindsStay.{var_shifted}

at_suc : (f : ℕ → ℕ → Cn) (n i : ℕ) (x : Cn) → f (n + 1) i ≡ x → f (suc n) i ≡ x
at_suc f n i x h = let e : suc n ≡ n + 1 = omega arith in ap (λ m. f m i) e ∙ h

-- a number that is bound inside stays
pub inside : {f : ℕ → ℕ → Cn} → Walks f → (n i : ℕ) → i < n → f n i ≡ var i
inside {f} w zero i h = absurd (omega (arith, h))
inside {f} w (suc n) zero h = at_suc f n 0 (var 0) (w.first n)
inside {f} w (suc n) (suc i) h = at_suc f n (suc i) (var (suc i)) (w.next n i ∙ ap (λ x. shift 1 x 0) (inside w n i (omega (arith, h))) ∙ var_shifted i)

two : (F : Cn → Cn → Cn) {a b c d : Cn} → a ≡ c → b ≡ d → F a b ≡ F c d
two F {a} {b} {c} {d} h k = ap (λ x. F x b) h ∙ ap (F c) k

three : (F : Cn → Cn → Cn → Cn) {a b c x y z : Cn} → a ≡ x → b ≡ y → c ≡ z → F a b c ≡ F x y z
three F {a} {b} {c} {x} {y} {z} h k l = ap (λ o. F o b c) h ∙ ap (λ o. F x o c) k ∙ ap (F x y) l

one_more_component : {c d : Cn} {cs ds : Cns} → c ≡ d → cs ≡ ds → con c cs ≡ con d ds
one_more_component {c} {d} {cs} {ds} h k = ap (λ x. con x cs) h ∙ ap (con d) k

one_more_field : {n v m w : Cn} {ps qs : Prs} → n ≡ m → v ≡ w → ps ≡ qs → pair n v ps ≡ pair m w qs
one_more_field {n} {v} {m} {w} {ps} {qs} h k l = ap (λ x. pair x v ps) h ∙ ap (λ x. pair m x ps) k ∙ ap (pair m w) l

mutual
  pub closed : {f : ℕ → ℕ → Cn} {G : Scope} {c : Cn} {k : Kd} → Walks f → (n : ℕ) → length G.binders ≤ n → Kinded G c k → replaced f c n ≡ c
  closed w n h (of_var {G = G} {i = i} {k = k} e) = inside w n i (omega (arith, h, slice_get_within G.binders i k e))
  closed w n h (of_basic e) = refl
  closed w n h (of_arrow a b) = two arrow (closed w n h a) (closed w n h b)
  closed w n h (of_poly {x = x} {k = k} b) = ap (poly x k) (closed w (n + 1) (omega (arith, h)) b)
  closed w n h (of_guarded a b c) = three guarded (closed w n h a) (closed w n h b) (closed w n h c)
  closed w n h (of_record a) = ap record_of (closed w n h a)
  closed w n h (of_app a b) = two app (closed w n h a) (closed w n h b)
  closed w n h (of_lambda {k = k} b) = ap (lambda k) (closed w (n + 1) (omega (arith, h)) b)
  closed w n h of_unit = refl
  closed w n h of_name = refl
  closed w n h (of_row {k = k} ps m) = ap (row k) (closed_pairs w n h ps)
  closed w n h (of_cat a b m) = two cat (closed w n h a) (closed w n h b)
  closed w n h of_map = refl
  closed w n h (of_tuple cs) = ap tuple (closed_all w n h cs)
  closed w n h (of_proj {n = i} c e) = ap (λ x. proj x i) (closed w n h c)

  pub closed_all : {f : ℕ → ℕ → Cn} {G : Scope} {cs : Cns} {ks : Kds} → Walks f → (n : ℕ) → length G.binders ≤ n → KindedAll G cs ks → replaced_all f cs n ≡ cs
  closed_all w n h no_components = refl
  closed_all w n h (a_component c cs) = one_more_component (closed w n h c) (closed_all w n h cs)

  pub closed_pairs : {f : ℕ → ℕ → Cn} {G : Scope} {ps : Prs} {k : Kd} → Walks f → (n : ℕ) → length G.binders ≤ n → KindedPairs G ps k → replaced_pairs f ps n ≡ ps
  closed_pairs w n h no_fields = refl
  closed_pairs w n h (a_field x v ps) = one_more_field (closed w n h x) (closed w n h v) (closed_pairs w n h ps)
