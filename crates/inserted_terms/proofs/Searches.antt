-- The search for an instance finds the first of all candidates (for `is_instance_of`).
use Rattle.std.proofs.Common.{◌≡◌, ℕ, suc, ◌+◌, Bool, true, false, ◌&&◌, List, [], ◌∷◌, ◌++◌, length, Option, Some, None, option_map, slice_get, refl, ap, ◌∙◌, arith, if◌then◌else◌}
use Rattle.con_terms.specs.Trees.{Cn}
use Rattle.core_terms.specs.Basis.{basis_type}
use Rattle.core_terms.specs.Trees.{Fo, bound, top, basis}
use Rattle.core_terms.specs.declared.basis.BasisName.{BasisName}
use Rattle.core_typing.specs.Scopes.{normal_of}
use Rattle.guided_terms.specs.Heres.{Here}
use Rattle.guided_terms.specs.Implied.{basis_instances, bound_from, candidates, first_of_form, has_form, is_innermost, is_seen, tops_from, with_top, with_types}
use Rattle.source_names.specs.Scopes.{Words, DeclaredValue, Declared}
use Rattle.inserted_terms.specs.Forms.{if_has_form, instance_names}
use Rattle.inserted_terms.specs.Searches.{first_basis, first_bound, first_of_three, first_top, first_value}

abbrev or_else : Option Fo → Option Fo → Option Fo
or_else None b = b
or_else (Some a) b = Some a

-- one more candidate
one_more : (b : Bool) (f : Fo) (x y z : Option Fo) → x ≡ or_else y z
    → (if b then Some f else x) ≡ or_else (if b then Some f else y) z
one_more true f x y z e = refl
one_more false f x y z e = e

-- the first of two lists
both_lists : (n : Cn) (as' bs : List (Fo × Cn))
    → first_of_form n (as' ++ bs) ≡ or_else (first_of_form n as') (first_of_form n bs)
both_lists n [] bs = refl
both_lists n (a ∷ as') bs =
    one_more (has_form (normal_of a.1) n) a.0 (first_of_form n (as' ++ bs)) (first_of_form n as') (first_of_form n bs)
    (both_lists n as' bs)

-- a candidate that counts only where this holds
if_counted : (a b : Bool) (f : Fo) (t : Cn) (r : List (Fo × Cn)) (n : Cn) → has_form (normal_of t) n ≡ b
    → first_of_form n (if a then (f, t) ∷ r else r) ≡ (if b && a then Some f else first_of_form n r)
if_counted true true f t r n e = ap (λ b. if b then Some f else first_of_form n r) e
if_counted true false f t r n e = ap (λ b. if b then Some f else first_of_form n r) e
if_counted false true f t r n e = refl
if_counted false false f t r n e = refl

pub plus_one : (i : ℕ) → suc i ≡ i + 1
plus_one i = omega arith

-- variables

bound_pushed : (b : Bool) (i : ℕ) (o : Option ℕ) (r : Option Fo) → r ≡ option_map bound o
    → (if b then Some (bound i) else r) ≡ option_map bound (if b then Some i else o)
bound_pushed true i o r e = refl
bound_pushed false i o r e = e

bound_search : (all : List Words) (n : Cn) (i : ℕ) (xs : List Words) (ts : List Cn)
    → first_of_form n (bound_from all i xs ts) ≡ option_map bound (first_bound all n i xs ts)
bound_search all n i [] ts = refl
bound_search all n i (x ∷ xs) [] = refl
bound_search all n i (x ∷ xs) (t ∷ ts) =
    if_counted (is_innermost x all i) (has_form (normal_of t) n) (bound i) t (bound_from all (suc i) xs ts) n refl
    ∙ bound_pushed (has_form (normal_of t) n && is_innermost x all i) i (first_bound all n (i + 1) xs ts)
    (first_of_form n (bound_from all (suc i) xs ts))
    (ap (λ k. first_of_form n (bound_from all k xs ts)) (plus_one i) ∙ bound_search all n (i + 1) xs ts)

-- top-level values

top_at : (b : Bool) (i : ℕ) (n : Cn) (o : Option Cn) (r : List (Fo × Cn))
    → first_of_form n (if b then with_top i o r else r)
    ≡ (if if_has_form o n && b then Some (top i) else first_of_form n r)
top_at true i n None r = refl
top_at false i n None r = refl
top_at b i n (Some t) r = if_counted b (has_form (normal_of t) n) (top i) t r n refl

top_pushed : (b : Bool) (i : ℕ) (o : Option ℕ) (r : Option Fo) → r ≡ option_map top o
    → (if b then Some (top i) else r) ≡ option_map top (if b then Some i else o)
top_pushed true i o r e = refl
top_pushed false i o r e = e

top_search : (xs : List Words) (d : Declared) (ts : List Cn) (n : Cn) (vs : List DeclaredValue)
    → first_of_form n (tops_from xs d vs ts) ≡ option_map top (first_top xs d ts n vs)
top_search xs d ts n [] = refl
top_search xs d ts n (v ∷ vs) =
    top_at (is_seen xs d v (length vs)) (length vs) n (slice_get ts (length vs)) (tops_from xs d vs ts)
    ∙ top_pushed (if_has_form (slice_get ts (length vs)) n && is_seen xs d v (length vs)) (length vs)
    (first_top xs d ts n vs) (first_of_form n (tops_from xs d vs ts)) (top_search xs d ts n vs)

-- values of the basis

basis_pushed : (b : Bool) (x : BasisName) (o : Option BasisName) (r : Option Fo) → r ≡ option_map basis o
    → (if b then Some (basis x) else r) ≡ option_map basis (if b then Some x else o)
basis_pushed true x o r e = refl
basis_pushed false x o r e = e

basis_search : (n : Cn) (bs : List BasisName)
    → first_of_form n (with_types bs) ≡ option_map basis (first_basis n bs)
basis_search n [] = refl
basis_search n (b ∷ bs) =
    basis_pushed (has_form (normal_of (basis_type b)) n) b (first_basis n bs) (first_of_form n (with_types bs))
    (basis_search n bs)

three : (i : Option ℕ) (t : Option ℕ) (b : Option BasisName)
    → or_else (or_else (option_map bound i) (option_map top t)) (option_map basis b) ≡ first_of_three i t b
three (Some i) t b = refl
three None (Some i) b = refl
three None None (Some b) = refl
three None None None = refl

or_both : (a b c d : Option Fo) → a ≡ b → c ≡ d → or_else a c ≡ or_else b d
or_both a b c d e f = ap (λ x. or_else x c) e ∙ ap (or_else b) f

pub candidates_search : (h : Here) (n : Cn) → first_of_form n (candidates h) ≡ first_value h n
candidates_search h n =
    let xs = h.names.values in
    let d = h.names.declared in
    let bounds = bound_from xs 0 xs h.types.locals in
    let tops = tops_from xs d d.values h.types.tops in
    let i = first_bound xs n 0 xs h.types.locals in
    let t = first_top xs d h.types.tops n d.values in
    let b = first_basis n instance_names in
    both_lists n (bounds ++ tops) basis_instances
    ∙ or_both (first_of_form n (bounds ++ tops)) (or_else (option_map bound i) (option_map top t))
    (first_of_form n basis_instances) (option_map basis b)
    (both_lists n bounds tops
    ∙ or_both (first_of_form n bounds) (option_map bound i) (first_of_form n tops) (option_map top t)
    (bound_search xs n 0 xs h.types.locals) (top_search xs d h.types.tops n d.values))
    (basis_search n instance_names)
    ∙ three i t b
