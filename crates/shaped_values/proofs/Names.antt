-- What names are in an environment.
use Rattle.std.proofs.Common.{◌≡◌, ℕ, suc, List, [], ◌∷◌, ◌-◌, Some, None, refl, arith, ap, sym, subst, ◌∙◌, ◌⊎◌, inl, inr}
use Rattle.con_terms.specs.Trees.{Cn, name}
use Rattle.row_normal.specs.NormalForm.{nf}
use Rattle.kind_rules.specs.Compared.{comparison_units}
use Rattle.core_terms.specs.Trees.{Pt, pattern, Pf, any, binds, is_number, is_text, is_bare, is_holding, has_fields, annotated, Pfs, no_pat_fields, pat_field}
use Rattle.core_typing.specs.Scopes.{normal_of}
use Rattle.core_meaning.specs.Values.{Out, done, more, closed, reduced_in, as_name, then_do, name_in}
use Rattle.shaped_values.specs.Values.{IsName}
use Rattle.shaped_values.specs.Laws.{EachName, EachNameIn, EachNameOf, NameHolds, NamesHold, IsLiteral, NamesAreLiteral, IsInForm, NamesAreNormal}

pub some_is : {X : Type 0} {x y : X} → Some x ≡ Some y → x ≡ y
some_is e = cc

done_or_more : {P : Type 0} {x l : ℕ} → done x l ≡ more → P
done_or_more e = cc

same_done : {x y l m : ℕ} → ◌≡◌ {A = Out ℕ} (done x l) (done y m) → x ≡ y
same_done e = cc

-- a name has one symbol
pub one_symbol : {cs : List Cn} {n : Cn} {x y : ℕ} → IsName cs n x → IsName cs n y → x ≡ y
one_symbol {cs} {n} {x} {y} h g = by_either (g.nothing_else h.steps)
  where
    by_either : (name_in cs n h.steps ≡ more) ⊎ ((l : ℕ) × (name_in cs n h.steps ≡ done y l)) → x ≡ y
    by_either (inl e) = done_or_more (sym h.found ∙ e)
    by_either (inr (l, e)) = same_done (sym h.found ∙ e)

-- a literal is its own normal form, and has its symbol in each environment
literal_form : (s : ℕ) → nf comparison_units (name s) ≡ Some (name s, comparison_units)
unfolding comparison_units
literal_form s = refl

pub literal_normal : (s : ℕ) → normal_of (name s) ≡ Some (name s)
literal_normal s = ap (λ o. elim o [ None ↦ None | Some r ↦ Some r.0 ]) (literal_form s)

literal_closed : (cs : List Cn) (s : ℕ) → closed cs (name s) ≡ name s
literal_closed [] s = refl
literal_closed (c ∷ cs) s = literal_closed cs s

pub literal_found : (cs : List Cn) (s b : ℕ) → name_in cs (name s) b ≡ done s b
literal_found cs s b =
    let one : suc b - 1 ≡ b = omega arith in
    ap (λ c. then_do (reduced_in [] c b) (λ n l. as_name n l)) (literal_closed cs s) ∙ ap (λ l. done s l) one

pub literal_name : (cs : List Cn) (s : ℕ) → IsName cs (name s) s
literal_name cs s = record { steps = 0; left = 0; found = literal_found cs s 0; nothing_else = λ b. inr (b, literal_found cs s b) }

-- what is in normal form is what its normal form is
normal_holds : (cs : List Cn) (n : Cn) → IsInForm n → NameHolds cs n
normal_holds cs n e m x f h = subst (λ c. IsName cs c x) (some_is (sym f ∙ e)) h

literal_holds : (cs : List Cn) (n : Cn) → IsLiteral n → NameHolds cs n
literal_holds cs n (s, e) = normal_holds cs n (ap normal_of e ∙ literal_normal s ∙ ap (λ c. Some c) (sym e))

-- what holds of each name, where something else holds of it
mutual
  each_name : (P Q : Cn → Type 0) → ((n : Cn) → P n → Q n) → (p : Pt) → EachName P p → EachName Q p
  each_name P Q go (pattern p f) h = each_name_in P Q go f h

  each_name_in : (P Q : Cn → Type 0) → ((n : Cn) → P n → Q n) → (f : Pf) → EachNameIn P f → EachNameIn Q f
  each_name_in P Q go any h = tt
  each_name_in P Q go (binds x t) h = tt
  each_name_in P Q go (is_number z) h = tt
  each_name_in P Q go (is_text t) h = tt
  each_name_in P Q go (is_bare s j) h = tt
  each_name_in P Q go (is_holding s j p) h = each_name P Q go p h
  each_name_in P Q go (has_fields fs b) h = each_name_of P Q go fs h
  each_name_in P Q go (annotated p t) h = each_name P Q go p h

  each_name_of : (P Q : Cn → Type 0) → ((n : Cn) → P n → Q n) → (fs : Pfs) → EachNameOf P fs → EachNameOf Q fs
  each_name_of P Q go no_pat_fields h = tt
  each_name_of P Q go (pat_field p n q fs) (e, h, g) = (go n e, each_name P Q go q h, each_name_of P Q go fs g)

pub normals_hold : (cs : List Cn) (p : Pt) → NamesAreNormal p → NamesHold cs p
normals_hold cs p h = each_name IsInForm (NameHolds cs) (normal_holds cs) p h

pub literals_hold : (cs : List Cn) (p : Pt) → NamesAreLiteral p → NamesHold cs p
literals_hold cs p h = each_name IsLiteral (NameHolds cs) (literal_holds cs) p h
