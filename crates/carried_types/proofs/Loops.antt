-- Steps of the functions' loops and recursions.
use Rattle.std.proofs.Common.{◌≡◌, ℕ, suc, ◌+◌, ◌-◌, ◌<◌, ◌≤◌, Bool, true, false, List, Option, Some, None, refl, ap, sym, ◌∙◌, arith}
use Rattle.con_terms.specs.Trees.{Cn}
use Rattle.con_terms.specs.View.{con_tree}
use Rattle.con_terms.specs.declared.con.Con.{Con}
use Rattle.core_terms.specs.Trees.{Dt}
use Rattle.core_terms.specs.View.{maybe_con}
use Rattle.core_typing.specs.Scopes.{normal_of}
use Rattle.judgements.proofs.OwnForms.{own_form}
use Rattle.row_normal.specs.NormalForm.{IsNormal}
use Rattle.carried_types.specs.Built.{type_by, normal_by, built}
use Rattle.carried_types.specs.Pages.{left_of, left_behind}
use Rattle.carried_types.proofs.BuiltMeans.{built_step}

-- a type, one level down
pub built_nowhere : (room : ℕ) (ds : List Dt) (bs : List Bool) (k : ℕ) (t : Cn) (o : Option Con) → 0 < room → maybe_con o ≡ normal_of t → o ≡ None →
    built room ds bs k t ≡ Some false
built_nowhere room ds bs k t o h e n = built_step room ds bs k t h ∙ ap (type_by (built (room - 1) ds bs k) ds bs k) (sym e ∙ ap maybe_con n)

pub built_within : (room : ℕ) (ds : List Dt) (bs : List Bool) (k : ℕ) (t : Cn) (o : Option Con) (n : Con) (r : Bool) → 0 < room → maybe_con o ≡ normal_of t → o ≡ Some n →
    normal_by (built (room - 1) ds bs k) ds bs k (con_tree n) ≡ Some r → built room ds bs k t ≡ Some r
built_within room ds bs k t o n r h e s p = built_step room ds bs k t h ∙ ap (type_by (built (room - 1) ds bs k) ds bs k) (sym e ∙ ap maybe_con s) ∙ p

-- a type that is its own normal form
pub built_own : (room : ℕ) (ds : List Dt) (bs : List Bool) (k : ℕ) (t : Cn) (r : Bool) → 0 < room → IsNormal t →
    normal_by (built (room - 1) ds bs k) ds bs k t ≡ Some r → built room ds bs k t ≡ Some r
built_own room ds bs k t r h stays p = built_step room ds bs k t h ∙ ap (type_by (built (room - 1) ds bs k) ds bs k) (sym (own_form t stays)) ∙ p

-- behind an argument
left_after : (ds : List Dt) (bs : List Bool) (n i : ℕ) (t : Cn) → i < n → left_behind ds bs (n - i) t ≡ left_behind ds bs (suc (n - (i + 1))) t
left_after ds bs n i t h = ap (λ (m : ℕ). left_behind ds bs m t) (let p : n - i ≡ suc (n - (i + 1)) = omega arith in p)

pub past_none : (ds : List Dt) (bs : List Bool) (n i : ℕ) (t : Cn) → i < n → None ≡ left_of ds bs t → left_behind ds bs (n - i) t ≡ None
past_none ds bs n i t h e = left_after ds bs n i t h ∙ ap (λ (o : Option Cn). elim o [ None ↦ None | Some b ↦ left_behind ds bs (n - (i + 1)) b ]) (sym e)

pub past_one : (ds : List Dt) (bs : List Bool) (n i : ℕ) (t b : Cn) → i < n → Some b ≡ left_of ds bs t → left_behind ds bs (n - i) t ≡ left_behind ds bs (n - (i + 1)) b
past_one ds bs n i t b h e = left_after ds bs n i t h ∙ ap (λ (o : Option Cn). elim o [ None ↦ None | Some b ↦ left_behind ds bs (n - (i + 1)) b ]) (sym e)

pub past_all : (ds : List Dt) (bs : List Bool) (n i : ℕ) (t : Cn) → n ≤ i → left_behind ds bs (n - i) t ≡ Some t
past_all ds bs n i t h = ap (λ (m : ℕ). left_behind ds bs m t) (let p : n - i ≡ 0 = omega arith in p)
