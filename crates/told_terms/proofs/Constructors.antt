-- What is told of the constructor that a pattern names, where the type should be its datatype's.
use Rattle.std.proofs.Common.{◌≡◌, ℕ, ◌==◌, Bool, true, false, List, Option, Some, None, slice_get, if◌then◌else◌, refl, ap, sym, ◌∙◌, subst}
use Rattle.std.proofs.lemmas.Bool.Decides.{Decides-eqb}
use Rattle.con_terms.specs.Trees.{Cn, basic}
use Rattle.con_terms.specs.declared.place.Place.{Place}
use Rattle.core_terms.specs.Trees.{Pt, pattern, is_bare, is_holding, Cd, Dt, arity}
use Rattle.core_terms.specs.Types.{at_types}
use Rattle.core_terms.specs.Datatypes.{datatype_of, held_at}
use Rattle.core_typing.specs.Scopes.{Sc, normal_of}
use Rattle.core_typing.specs.Seen.{Seen, a_number, a_text, a_datatype, a_record, nothing_more, seen}
use Rattle.core_typing.specs.Faults.{Fault, unbound, a_constructor, mismatch, too_large}
use Rattle.core_typing.specs.PatternFaults.{untold, Constructs, AtData, PatFault}
use Rattle.core_typing.specs.PatternFaults as pat
use Rattle.core_typing.proofs.Matched.{symbol_of}
use Rattle.core_typing.proofs.DecidedForms.{same_data}
use Rattle.core_typing.proofs.OneType.{one_value}
use Rattle.pattern_rules.specs.Binds.{Da, bad_data, bare_data, holding_data, held_data, other_data, seen_data, formed_data, constructor_data, datatype_data, data_at}
use Rattle.judged_terms.proofs.Cases.{false_not as not_both}
use Rattle.told_terms.proofs.PatternsOut.{other_out}
use Rattle.told_terms.proofs.Tests.{no_value}

-- why the type isn't the datatype's of this constructor
pub data NoData (G : Sc) (p : Place) (s j : ℕ) (t : Cn) : Fault → Type 0 where
  no_constructor : ((d : Dt) (c : Cd) → Constructs G s j d c → ⊥) → NoData G p s j t (unbound p (a_constructor s j))
  large_there : normal_of t ≡ None → NoData G p s j t (too_large p)
  other_datatype : {n : Cn} {d : Dt} {c : Cd}
      → Constructs G s j d c
      → normal_of t ≡ Some n
      → ((args : List Cn) → seen G.datatypes n ≡ a_datatype d args → ⊥)
      → NoData G p s j t (mismatch p G.called n (at_types (basic s) (untold (arity d))))

pub no_data_out : {G : Sc} {p : Place} {s j : ℕ} {t : Cn} {f : Fault} {c : Cd} {args : List Cn} → NoData G p s j t f → AtData G s j t c args → ⊥
no_data_out {c = c} (no_constructor h) a = h a.d c a.constructs
no_data_out (large_there h) a = no_value h a.normal
no_data_out (other_datatype k h n) a = other_out k h n a

pub bare_fault : {G : Sc} {p : Place} {s j : ℕ} {t : Cn} {f : Fault} → NoData G p s j t f → PatFault G (pattern p (is_bare s j)) t f
bare_fault (no_constructor h) = pat.no_bare h
bare_fault (large_there h) = pat.large_bare h
bare_fault (other_datatype k h n) = pat.other_bare k h n

pub holding_fault : {G : Sc} {p : Place} {s j : ℕ} {q : Pt} {t : Cn} {f : Fault} → NoData G p s j t f → PatFault G (pattern p (is_holding s j q)) t f
holding_fault (no_constructor h) = pat.no_holding h
holding_fault (large_there h) = pat.large_holding h
holding_fault (other_datatype k h n) = pat.other_holding k h n

-- or it is, and the constructor holds nothing, or something
pub record BareData (G : Sc) (s j : ℕ) (t n : Cn) : Type 0 where
  pub constructor : Cd
  pub args : List Cn
  pub at : AtData G s j t constructor args
  pub holds : constructor.holds ≡ None
  pub normal : normal_of t ≡ Some n

pub record HoldingData (G : Sc) (s j : ℕ) (t n u : Cn) : Type 0 where
  pub constructor : Cd
  pub args : List Cn
  pub held : Cn
  pub at : AtData G s j t constructor args
  pub holds : constructor.holds ≡ Some held
  pub normal : normal_of t ≡ Some n
  pub is : u ≡ held_at args held

abbrev pub DataTold : Sc → Place → ℕ → ℕ → Cn → Da → Type 0
DataTold G p s j t (bad_data f) = NoData G p s j t f
DataTold G p s j t (bare_data n) = BareData G s j t n
DataTold G p s j t (holding_data n u) = HoldingData G s j t n u

by_held : (G : Sc) (p : Place) (s j : ℕ) (t n : Cn) (c : Cd) (args : List Cn) (o : Option Cn) → AtData G s j t c args → normal_of t ≡ Some n → c.holds ≡ o → DataTold G p s j t (held_data n args o)
by_held G p s j t n c args None a k h = record { constructor = c; args = args; at = a; holds = h; normal = k }
by_held G p s j t n c args (Some u) a k h = record { constructor = c; args = args; held = u; at = a; holds = h; normal = k; is = refl }

first_data : {d e : Dt} {xs ys : List Cn} → a_datatype d xs ≡ a_datatype e ys → d ≡ e
first_data m = cc

-- another datatype's type isn't this one's
not_this : (ds : List Dt) (s : ℕ) (n : Cn) (d e : Dt) (args more : List Cn) → datatype_of ds s ≡ Some d → seen ds n ≡ a_datatype e args → (e.symbol == s) ≡ false → seen ds n ≡ a_datatype d more → ⊥
not_this ds s n d e args more h q r f =
    let same : e ≡ d = first_data (sym q ∙ f) in
    not_both r ((Decides-eqb e.symbol s).1 (ap (λ (z : Dt). z.symbol) same ∙ symbol_of ds s d h))

by_symbol : (G : Sc) (p : Place) (s j : ℕ) (t n : Cn) (d e : Dt) (c : Cd) (args : List Cn) (b : Bool)
    → Constructs G s j d c → normal_of t ≡ Some n → seen G.datatypes n ≡ a_datatype e args → (e.symbol == s) ≡ b
    → DataTold G p s j t (if b then held_data n args c.holds else other_data G p s d n)
by_symbol G p s j t n d e c args false h k q r = other_datatype h k (λ more f. not_this G.datatypes s n d e args more h.declared q r f)
by_symbol G p s j t n d e c args true h k q r =
    let same : e ≡ d = same_data G.datatypes n d e args s h.declared q ((Decides-eqb e.symbol s).0 r) in
    by_held G p s j t n c args c.holds
    (record { d = d; n = n; constructs = h; normal = k; at_datatype = subst (λ (x : Dt). seen G.datatypes n ≡ a_datatype x args) same q })
    k refl

by_seen : (G : Sc) (p : Place) (s j : ℕ) (t n : Cn) (d : Dt) (c : Cd) (w : Seen)
    → Constructs G s j d c → normal_of t ≡ Some n → seen G.datatypes n ≡ w
    → DataTold G p s j t (seen_data G p s d c n w)
by_seen G p s j t n d c a_number h k q = other_datatype h k (λ more f. let e = sym q ∙ f in cc)
by_seen G p s j t n d c a_text h k q = other_datatype h k (λ more f. let e = sym q ∙ f in cc)
by_seen G p s j t n d c (a_datatype e args) h k q = by_symbol G p s j t n d e c args (e.symbol == s) h k q refl
by_seen G p s j t n d c (a_record fs) h k q = other_datatype h k (λ more f. let e = sym q ∙ f in cc)
by_seen G p s j t n d c nothing_more h k q = other_datatype h k (λ more f. let e = sym q ∙ f in cc)

by_form : (G : Sc) (p : Place) (s j : ℕ) (t : Cn) (d : Dt) (c : Cd) (o : Option Cn) → Constructs G s j d c → normal_of t ≡ o → DataTold G p s j t (formed_data G p s d c o)
by_form G p s j t d c None h k = large_there k
by_form G p s j t d c (Some n) h k = by_seen G p s j t n d c (seen G.datatypes n) h k refl

-- what is declared is one
none_constructs : (G : Sc) (s j : ℕ) (d : Dt) → datatype_of G.datatypes s ≡ Some d → slice_get d.constructors j ≡ None → (e : Dt) (c : Cd) → Constructs G s j e c → ⊥
none_constructs G s j d h i e c k = no_value (ap (λ (z : Dt). slice_get z.constructors j) (one_value k.declared h) ∙ i) k.constructor

by_constructor : (G : Sc) (p : Place) (s j : ℕ) (t : Cn) (d : Dt) (o : Option Cd)
    → datatype_of G.datatypes s ≡ Some d → slice_get d.constructors j ≡ o
    → DataTold G p s j t (constructor_data G p s j d t o)
by_constructor G p s j t d None h i = no_constructor (λ e c k. none_constructs G s j d h i e c k)
by_constructor G p s j t d (Some c) h i = by_form G p s j t d c (normal_of t) (record { declared = h; constructor = i }) refl

by_datatype : (G : Sc) (p : Place) (s j : ℕ) (t : Cn) (o : Option Dt) → datatype_of G.datatypes s ≡ o → DataTold G p s j t (datatype_data G p s j t o)
by_datatype G p s j t None h = no_constructor (λ d c k. no_value h k.declared)
by_datatype G p s j t (Some d) h = by_constructor G p s j t d (slice_get d.constructors j) h refl

pub data_told : (G : Sc) (p : Place) (s j : ℕ) (t : Cn) → DataTold G p s j t (data_at G p s j t)
data_told G p s j t = by_datatype G p s j t (datatype_of G.datatypes s) refl
