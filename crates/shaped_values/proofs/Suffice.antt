-- Steps suffice for matching patterns whose names are literals.
use Rattle.std.proofs.Common.{◌≡◌, ◌≢◌, ℕ, ◌==◌, Bool, true, false, ◌&&◌, List, Option, Some, None, if◌then◌else◌, refl, sym, ◌∙◌, ap}
use Rattle.std.specs.Prelude.{bytes_eq}
use Rattle.std.specs.Ordering.{int_eq}
use Rattle.con_terms.specs.Trees.{Cn}
use Rattle.core_terms.specs.Trees.{Pt, pattern, Pf, any, binds, is_number, is_text, is_bare, is_holding, has_fields, annotated, Pfs, no_pat_fields, pat_field}
use Rattle.core_meaning.specs.Values.{V, of_number, of_text, of_fields, of_bare, of_holding, Slots, slot_at, Out, done, fault, more, deep, wrong_at, then_do, name_in}
use Rattle.core_meaning.specs.Matching.{Taken, takes_if, then_bind, with_slot, matched, matched_form, matched_fields}
use Rattle.shaped_values.specs.Laws.{EachNameIn, EachNameOf, IsLiteral, NamesAreLiteral}
use Rattle.shaped_values.proofs.Names.{literal_found}

done_is_not : {A : Type 0} {a : A} {l : ℕ} → done a l ≡ more → ⊥
done_is_not e = cc

-- what follows what doesn't need more, if it doesn't either
then_not : {A B : Type 0} (o : Out A) (go : A → ℕ → Out B) → o ≢ more → ((a : A) (l : ℕ) → go a l ≢ more) → then_do o go ≢ more
then_not (done a l) go h g = g a l
then_not (fault f) go h g = λ e. cc
then_not more go h g = λ e. h refl
then_not deep go h g = λ e. cc
then_not (wrong_at w) go h g = λ e. cc

if_not : (t : Bool) (b : ℕ) → takes_if t b ≢ more
if_not true b = λ e. cc
if_not false b = λ e. cc

bind_not : (ts : Option (List V)) (b : ℕ) (go : ℕ → Taken) → ((l : ℕ) → go l ≢ more) → then_bind ts b go ≢ more
bind_not None b go h = λ e. cc
bind_not (Some ts) b go h = then_not (go b) _ (h b) (λ us l e. cc)

slot_not : (o : Option V) (go : V → Taken) → ((v : V) → go v ≢ more) → with_slot o go ≢ more
slot_not None go h = λ e. cc
slot_not (Some v) go h = h v

either_not : (t : Bool) (o : Taken) (b : ℕ) → o ≢ more → (if t then o else done None b) ≢ more
either_not true o b h = h
either_not false o b h = λ e. cc

mutual
  pub suffice : (cs : List Cn) (p : Pt) (v : V) (b : ℕ) → NamesAreLiteral p → matched cs p v b ≢ more
  suffice cs (pattern p f) v b h = form_suffices cs f v b h

  form_suffices : (cs : List Cn) (f : Pf) (v : V) (b : ℕ) → EachNameIn IsLiteral f → matched_form cs f v b ≢ more
  form_suffices cs any v b h = λ e. cc
  form_suffices cs (binds x t) v b h = λ e. cc
  form_suffices cs (is_number z) (of_number y) b h = if_not (int_eq z y) b
  form_suffices cs (is_number z) _ b h = λ e. cc
  form_suffices cs (is_text t) (of_text w) b h = if_not (bytes_eq t w) b
  form_suffices cs (is_text t) _ b h = λ e. cc
  form_suffices cs (is_bare s j) (of_bare r i) b h = if_not ((s == r) && (j == i)) b
  form_suffices cs (is_bare s j) _ b h = λ e. cc
  form_suffices cs (is_holding s j p) (of_holding r i u) b h = either_not ((s == r) && (j == i)) (matched cs p u b) b (suffice cs p u b h)
  form_suffices cs (is_holding s j p) _ b h = λ e. cc
  form_suffices cs (has_fields fs w) (of_fields ss) b h = fields_suffice cs fs ss b h
  form_suffices cs (has_fields fs w) _ b h = λ e. cc
  form_suffices cs (annotated p t) v b h = suffice cs p v b h

  fields_suffice : (cs : List Cn) (fs : Pfs) (ss : Slots) (b : ℕ) → EachNameOf IsLiteral fs → matched_fields cs fs ss b ≢ more
  fields_suffice cs no_pat_fields ss b h = λ e. cc
  fields_suffice cs (pat_field p n q fs) ss b ((x, is), h, g) =
      then_not (name_in cs n b) _ (λ e. done_is_not (sym (ap (λ m. name_in cs m b) is ∙ literal_found cs x b) ∙ e))
      (λ y l. slot_not (slot_at ss y) _ (λ v. then_not (matched cs q v l) _ (suffice cs q v l h)
      (λ ts m. bind_not ts m (λ m'. matched_fields cs fs ss m') (λ m'. fields_suffice cs fs ss m' g))))
