-- An identifier without arguments: its leading implicits are taken from the wanted type, as far as this doesn't begin
-- with them itself.
-- The Ur/Web Manual, "Type Inference".
use Rattle.std.specs.Prelude.{◌≡◌, ◌≢◌, true, List, [], ◌∷◌, Option, Some, None}
use Rattle.con_terms.specs.Trees.{Kd, Cn, arrow, poly, guarded}
use Rattle.core_terms.specs.declared.exp.ConOrigin.TheVariants.{Inserted}
use Rattle.core_terms.specs.declared.exp.Sigil.{Sigil}
use Rattle.core_terms.specs.declared.exp.Sigil.TheVariants.{Plain, AtAt}
use Rattle.core_terms.specs.Types.{no_types, xml_of}
use Rattle.unknowns.specs.Unknowns.{Fd, slot, count_of}
use Rattle.guided_terms.specs.Forms.{head_of}
use Rattle.guided_terms.specs.Heres.{Here}
use Rattle.guided_terms.specs.Implied.{IsImplied}
use Rattle.guided_terms.specs.Parts.{Part, a_found, a_proof, an_implied, seen_under}
use Rattle.guided_terms.specs.Wanted.{Want, whole, spliced_in}

-- what a type begins with, where that may be inserted
pub data Lead : Type 0 where
  an_implicit : Lead
  a_guard : Lead
  an_inserted : Lead

pub data BeginsWith (h : Here) : Cn → Lead → Type 0 where
  -- x ::: k -> b
  with_implicit : {t b : Cn} {k : Kd}
      (form : head_of t ≡ Some (poly true k b))
      → BeginsWith h t an_implicit
  -- [c ~ d] => b
  with_guard : {t c d b : Cn}
      (form : head_of t ≡ Some (guarded c d b))
      → BeginsWith h t a_guard
  -- a -> b, where a is the type of folders or of instances
  with_implied : {t a b : Cn}
      (form : head_of t ≡ Some (arrow a b))
      (implied : IsImplied h a)
      → BeginsWith h t an_inserted

-- behind this sigil that is inserted: behind @ constructors alone, behind @@ nothing
abbrev pub Allows : Sigil → Lead → Type 0
Allows s an_implicit = s ≢ AtAt
Allows s a_guard = s ≡ Plain
Allows s an_inserted = s ≡ Plain

-- a type begins with this, which is inserted, and the wanted type doesn't
pub record Leads (h : Here) (s : Sigil) (wanted t : Cn) (l : Lead) : Type 0 where
  pub begins : BeginsWith h t l
  pub allowed : Allows s l
  pub unwanted : BeginsWith h wanted l → ⊥

-- what is inserted before an identifier of a type, where this type is wanted
pub data Leading (h : Here) (s : Sigil) (wanted : Cn) : Fd → Cn → List Part → Fd → Cn → Type 0 where
  -- f, before which nothing more is inserted
  nothing_more : {f : Fd} {t : Cn}
      (none : (l : Lead) → Leads h s wanted t l → ⊥)
      → Leading h s wanted f t [] f t
  -- f : x ::: k -> b
  one_implicit : {f g : Fd} {t b r : Cn} {k : Kd} {ps : List Part}
      (leads : Leads h s wanted t an_implicit)
      (form : head_of t ≡ Some (poly true k b))
      (others : Leading h s wanted (slot k None f) b ps g r)
      → Leading h s wanted f t (a_found Inserted (count_of f) ∷ ps) g r
  -- f : [c ~ d] => b
  one_guard : {f g : Fd} {t c d b r : Cn} {ps : List Part}
      (leads : Leads h s wanted t a_guard)
      (form : head_of t ≡ Some (guarded c d b))
      (others : Leading h s wanted f b ps g r)
      → Leading h s wanted f t (a_proof true (seen_under f c) (seen_under f d) ∷ ps) g r
  -- f : a -> b, where a is the type of folders or of instances
  one_implied : {f g : Fd} {t a b r : Cn} {ps : List Part}
      (leads : Leads h s wanted t an_inserted)
      (form : head_of t ≡ Some (arrow a b))
      (others : Leading h s wanted f b ps g r)
      → Leading h s wanted f t (an_implied (seen_under f a) ∷ ps) g r

-- The type that leading implicits are taken from. Of a tree that is spliced in what it fills isn't known, but that it
-- is a page.
abbrev pub leading_wanted : Want → Option Cn
leading_wanted (whole t) = Some t
leading_wanted (spliced_in c u) = Some (xml_of c u no_types)
leading_wanted _ = None
