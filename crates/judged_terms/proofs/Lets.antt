-- The declarations of a let.
use Rattle.std.proofs.Common.{◌≡◌, ℕ, Bool, true, false, Option, Some, None, Result, refl}
use Rattle.con_terms.specs.Trees.{Kd, types, Cn}
use Rattle.con_terms.specs.declared.place.Place.{Place}
use Rattle.kind_rules.specs.Flaws.{Flw}
use Rattle.kind_rules.specs.Kinding.{judged_at}
use Rattle.core_terms.specs.Trees.{Ex, Nms, named}
use Rattle.core_typing.specs.Scopes.{Sc}
use Rattle.core_typing.specs.Cover.{Covers}
use Rattle.core_typing.specs.Compared.{Alike}
use Rattle.core_typing.specs.Faults.{Fault}
use Rattle.core_typing.specs.Judged.{HasKind}
use Rattle.core_typing.specs.Found.{NamedFound, name_found}
use Rattle.told_faults.specs.Computed.{Jd, first, wants}
use Rattle.told_faults.specs.Heads.{Kindly, kindly, unkind}
use Rattle.told_faults.proofs.Parts.{kind_is}
use Rattle.node_rules.specs.Locals.{Ls, is_silent, is_as_wanted, both_true, of_declared, and_then_found, with_declared, if_found, of_let}
use Rattle.judged_terms.specs.Laws.{Sound, Clean, HasDeclared}
use Rattle.judged_terms.proofs.Basics.{none_some, first_parts, alike}
use Rattle.judged_terms.proofs.Cases.{false_not}

both_parts : (a b : Bool) → both_true a b ≡ true → (a ≡ true) × (b ≡ true)
both_parts true b h = (refl, h)
both_parts false b h = absurd (false_not refl h)

pub clean_parts : (r s : Ls) → Clean (and_then_found r s) → Clean r × Clean s
clean_parts r s c =
    let (a, b) = both_parts r.found s.found c.found in
    let (k, l) = first_parts r.kids s.kids c.kids in
    let (m, n) = first_parts r.own s.own c.own in
    (record { found = a; kids = k; own = m }, record { found = b; kids = l; own = n })

-- val x : t = e
pub record Declared (G : Sc) (t : Cn) (j : Jd) : Type 0 where
  pub kind : HasKind G t types
  pub given : Cn
  pub type : j.type ≡ Some given
  pub told : j.told ≡ None
  pub same : Alike t given

silent_is : (o : Option Fault) → is_silent o ≡ true → o ≡ None
silent_is None h = refl
silent_is (Some f) h = absurd (false_not refl h)

declared_by : (G : Sc) (p q : Place) (t : Cn) {r : Result Kd Flw} (j : Jd) → Kindly G t types r → Clean (of_declared G p q t r j) → Declared G t j
declared_by G p q t j (unkind x) c = absurd (false_not refl c.found)
declared_by G p q t j (kindly k) c = by_type j.type refl c.found
  where
    by_type : (o : Option Cn) → j.type ≡ o → is_as_wanted G q t o ≡ true → Declared G t j
    by_type None m h = absurd (false_not refl h)
    by_type (Some u) m h = record { kind = k; given = u; type = m; told = c.kids; same = alike G q t u (silent_is (wants G q t u) h) }

pub declared_is : (G : Sc) (p q : Place) (t : Cn) (j : Jd) (r : Ls) → Clean (with_declared G p q t j r) → Clean r × Declared G t j
declared_is G p q t j r c =
    let (a, b) = clean_parts r (of_declared G p q t (judged_at G.kinds t types) j) c in
    (a, declared_by G p q t j (kind_is G t types) b)

-- let d in e end
if_found_is : (b : Bool) (o : Option Cn) {t : Cn} → if_found b o ≡ Some t → (b ≡ true) × (o ≡ Some t)
if_found_is true o h = (refl, h)
if_found_is false o h = absurd (none_some h)

pub let_parts : (r : Ls) (j : Jd) {t : Cn} → (of_let r j).type ≡ Some t → (of_let r j).told ≡ None → Clean r × (j.type ≡ Some t) × (j.told ≡ None)
let_parts r j h n =
    let (a, b) = if_found_is r.found j.type h in
    let (k, l) = first_parts (first r.kids j.told) r.own n in
    let (m, i) = first_parts r.kids j.told k in
    (record { found = a; kids = m; own = l }, b, i)

pub one_found : (G H : Sc) (p q : Place) (t : Cn) (e : Ex) (j : Jd) (r : Ls) → Sound H e j → Clean (with_declared G p q t j r) → Clean r × HasDeclared G H t e
one_found G H p q t e j r v c =
    let (a, d) = declared_is G p q t j r c in
    (a, record { kind = d.kind; given = d.given; found = v d.given d.type d.told; same = d.same })

-- and x : t = e
pub name_step : (G H : Sc) (p q s : Place) (x : ℕ) (w : Bool) (t : Cn) (e : Ex) (ns : Nms) (j : Jd) (r : Ls) → Sound H e j → Clean (with_declared G p q t j r) × NamedFound Covers G H ns → Clean r × NamedFound Covers G H (named s x w t e ns)
name_step G H p q s x w t e ns j r v (c, k) =
    let (a, d) = declared_is G p q t j r c in
    (a, name_found d.kind (v d.given d.type d.told) d.same k)
