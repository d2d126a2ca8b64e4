-- Covering patterns take each value.
use Rattle.std.proofs.Common.{◌≡◌, ℕ, ◌≤◌, Bool, true, false, List, Option, if◌then◌else◌, refl, ap, sym, ◌∙◌, arith, ◌⊎◌, inl, inr}
use Rattle.con_terms.specs.Trees.{Cn}
use Rattle.core_terms.specs.Trees.{Ex, Pt, Brs, no_branches, branch}
use Rattle.core_typing.specs.Scopes.{Sc}
use Rattle.core_typing.specs.Cover.{Shp, ShapeOf, pattern_depth, patterns_depth, takes, one_takes}
use Rattle.core_typing.specs.Own.{PatsFound, a_pat}
use Rattle.core_typing.specs.Typed.{branch_patterns}
use Rattle.core_meaning.specs.Values.{V, Ev, Out, then_do, constructors_in, env_with}
use Rattle.core_meaning.specs.Matching.{Taken, matched}
use Rattle.core_meaning.specs.Applied.{Rn, Next}
use Rattle.core_meaning.specs.Meaning.{walk, walk_branches, chosen}
use Rattle.shaped_values.specs.Values.{IsOf, HasShape}
use Rattle.shaped_values.specs.Laws.{AsTold, steps_end, is_taken, is_not_taken, NamesOfBranchesHold, IsBranch, RunsOut, TakesABranch, CoveringCasesTakeABranch}
use Rattle.shaped_values.proofs.Shaped.{some_shape}
use Rattle.shaped_values.proofs.Taken.{as_told, left_depth, right_depth}

-- a branch more before the others
behind : {P : Rn} {k : Next} {v : V} {bs : Brs} {ρ : Ev} {b c : ℕ} (w : Brs) → ((q : Pt) (e : Ex) → IsBranch bs q e → IsBranch w q e)
    → walk_branches P k v w ρ b ≡ walk_branches P k v bs ρ c → RunsOut P k v bs ρ c ⊎ TakesABranch P k v bs ρ c
    → RunsOut P k v w ρ b ⊎ TakesABranch P k v w ρ b
behind w f e (inl h) = inl (record {
  p = h.p;
  e = h.e;
  is_one = f h.p h.e h.is_one;
  steps = h.steps;
  needs_more = h.needs_more;
  comes_to = e ∙ h.comes_to;
})
behind w f e (inr h) = inr (record {
  p = h.p;
  e = h.e;
  is_one = f h.p h.e h.is_one;
  steps = h.steps;
  values = h.values;
  left = h.left;
  takes_it = h.takes_it;
  goes_on = e ∙ h.goes_on;
})

pub takes_one : {G : Sc} {t : Cn} (bs : Brs) (P : Rn) (k : Next) (v : V) (ρ : Ev) (d : ℕ) (s : Shp) (b : ℕ) → PatsFound G t (branch_patterns bs) → NamesOfBranchesHold (constructors_in ρ) bs
    → IsOf G.datatypes (constructors_in ρ) d t v → patterns_depth (branch_patterns bs) ≤ d → ShapeOf G.datatypes d t s → HasShape (constructors_in ρ) v s
    → one_takes (branch_patterns bs) s ≡ true → RunsOut P k v bs ρ b ⊎ TakesABranch P k v bs ρ b
takes_one no_branches P k v ρ d s b f i o l h g e = cc
takes_one {G} {t} (branch p q e bs) P k v ρ d s b (a_pat f fs) (i, is) o l h g one =
    by_told (λ u r. takes_one bs P k v ρ d s r fs is o (right_depth (pattern_depth q) (patterns_depth (branch_patterns bs)) d l) h g
    (sym (ap (λ y. if y then true else one_takes (branch_patterns bs) s) u) ∙ one))
    (takes q s) (matched (constructors_in ρ) q v b) refl refl (as_told d b f i o (left_depth (pattern_depth q) (patterns_depth (branch_patterns bs)) d l) h g)
  where
    go : Option (List V) → ℕ → Out V
    go o m = chosen o m (λ vs r. walk P k e (env_with vs ρ) r) (λ r. walk_branches P k v bs ρ r)

    by_told : (takes q s ≡ false → (r : ℕ) → RunsOut P k v bs ρ r ⊎ TakesABranch P k v bs ρ r) → (c : Bool) (x : Taken) → takes q s ≡ c → matched (constructors_in ρ) q v b ≡ x → AsTold c x
        → RunsOut P k v (branch p q e bs) ρ b ⊎ TakesABranch P k v (branch p q e bs) ρ b
    by_told others c _ u w steps_end = inl (record {
      p = q;
      e = e;
      is_one = inl (refl, refl);
      steps = b;
      needs_more = w;
      comes_to = ap (λ y. then_do y go) w;
    })
    by_told others _ _ u w (is_taken {vs = vs} {l = r}) = inr (record {
      p = q;
      e = e;
      is_one = inl (refl, refl);
      steps = b;
      values = vs;
      left = r;
      takes_it = w;
      goes_on = ap (λ y. then_do y go) w;
    })
    by_told others _ _ u w (is_not_taken {l = r}) =
        behind (branch p q e bs) (λ q e z. inr z) (ap (λ y. then_do y go) w)
        (others u r)

pub cover_takes : CoveringCasesTakeABranch
cover_takes G t bs P k v ρ b f c i o =
    let d = patterns_depth (branch_patterns bs) in
    let (s, is, has) = some_shape d o in
    takes_one bs P k v ρ d s b f i o (omega arith) is has (c.taken s is)
