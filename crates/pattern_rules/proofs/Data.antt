-- The constructor that a pattern names, where the type is its datatype's.
use Rattle.std.proofs.Common.{◌≡◌, ℕ, ◌==◌, Bool, true, false, List, [], Option, Some, None, slice_get, if◌then◌else◌, refl, ap, sym, subst, ◌∙◌}
use Rattle.std.proofs.lemmas.Bool.Decides.{Decides-eqb}
use Rattle.con_terms.specs.Trees.{Cn}
use Rattle.con_terms.specs.declared.place.Place.{Place}
use Rattle.core_terms.specs.Trees.{Cd, Dt}
use Rattle.core_terms.specs.Datatypes.{datatype_of, held_at}
use Rattle.core_typing.specs.Scopes.{Sc, normal_of}
use Rattle.core_typing.specs.Seen.{Seen, a_number, a_text, a_datatype, a_record, nothing_more, seen}
use Rattle.core_typing.specs.PatternFaults.{AtData}
use Rattle.core_typing.proofs.Matched.{seen_as, symbol_of}
use Rattle.pattern_rules.specs.Binds.{Da, bad_data, bare_data, holding_data, held_data, other_data, seen_data, formed_data, constructor_data, datatype_data, data_at}

pub record Bare (G : Sc) (s j : ℕ) (t : Cn) : Type 0 where
  pub constructor : Cd
  pub args : List Cn
  pub at : AtData G s j t constructor args
  pub holds : constructor.holds ≡ None

pub record Holding (G : Sc) (s j : ℕ) (t u : Cn) : Type 0 where
  pub constructor : Cd
  pub args : List Cn
  pub held : Cn
  pub at : AtData G s j t constructor args
  pub holds : constructor.holds ≡ Some held
  pub is : u ≡ held_at args held

abbrev pub DataIs : Sc → ℕ → ℕ → Cn → Da → Type 0
DataIs G s j t (bad_data f) = Unit {0}
DataIs G s j t (bare_data n) = Bare G s j t
DataIs G s j t (holding_data n u) = Holding G s j t u

by_held : (G : Sc) (s j : ℕ) (t n : Cn) (c : Cd) (args : List Cn) (o : Option Cn) → AtData G s j t c args → c.holds ≡ o → DataIs G s j t (held_data n args o)
by_held G s j t n c args None a h = record { constructor = c; args = args; at = a; holds = h }
by_held G s j t n c args (Some u) a h = record { constructor = c; args = args; held = u; at = a; holds = h; is = refl }

one_datatype : (ds : List Dt) (s : ℕ) (d e : Dt) (n : Cn) (args : List Cn) → datatype_of ds s ≡ Some d → seen ds n ≡ a_datatype e args → e.symbol ≡ s → e ≡ d
one_datatype ds s d e n args h k q =
    let w = seen_as ds n [] e args k in
    let here : w.symbol ≡ s = sym (symbol_of ds w.symbol e w.declared) ∙ q in
    let both : Some e ≡ Some d = sym w.declared ∙ ap (datatype_of ds) here ∙ h in
    cc

by_symbol : (G : Sc) (p : Place) (s j : ℕ) (t n : Cn) (d e : Dt) (c : Cd) (args : List Cn) (b : Bool)
    → datatype_of G.datatypes s ≡ Some d → slice_get d.constructors j ≡ Some c → normal_of t ≡ Some n
    → seen G.datatypes n ≡ a_datatype e args → (e.symbol == s) ≡ b
    → DataIs G s j t (if b then held_data n args c.holds else other_data G p s d n)
by_symbol G p s j t n d e c args false h i k q r = tt
by_symbol G p s j t n d e c args true h i k q r =
    let same : e ≡ d = one_datatype G.datatypes s d e n args h q ((Decides-eqb e.symbol s).0 r) in
    by_held G s j t n c args c.holds
    (record { d = d; n = n; constructs = record { declared = h; constructor = i }; normal = k; at_datatype = subst (λ (x : Dt). seen G.datatypes n ≡ a_datatype x args) same q })
    refl

by_seen : (G : Sc) (p : Place) (s j : ℕ) (t n : Cn) (d : Dt) (c : Cd) (w : Seen)
    → datatype_of G.datatypes s ≡ Some d → slice_get d.constructors j ≡ Some c → normal_of t ≡ Some n → seen G.datatypes n ≡ w
    → DataIs G s j t (seen_data G p s d c n w)
by_seen G p s j t n d c a_number h i k q = tt
by_seen G p s j t n d c a_text h i k q = tt
by_seen G p s j t n d c (a_datatype e args) h i k q = by_symbol G p s j t n d e c args (e.symbol == s) h i k q refl
by_seen G p s j t n d c (a_record fs) h i k q = tt
by_seen G p s j t n d c nothing_more h i k q = tt

by_form : (G : Sc) (p : Place) (s j : ℕ) (t : Cn) (d : Dt) (c : Cd) (o : Option Cn)
    → datatype_of G.datatypes s ≡ Some d → slice_get d.constructors j ≡ Some c → normal_of t ≡ o
    → DataIs G s j t (formed_data G p s d c o)
by_form G p s j t d c None h i k = tt
by_form G p s j t d c (Some n) h i k = by_seen G p s j t n d c (seen G.datatypes n) h i k refl

by_constructor : (G : Sc) (p : Place) (s j : ℕ) (t : Cn) (d : Dt) (o : Option Cd)
    → datatype_of G.datatypes s ≡ Some d → slice_get d.constructors j ≡ o
    → DataIs G s j t (constructor_data G p s j d t o)
by_constructor G p s j t d None h i = tt
by_constructor G p s j t d (Some c) h i = by_form G p s j t d c (normal_of t) h i refl

by_datatype : (G : Sc) (p : Place) (s j : ℕ) (t : Cn) (o : Option Dt) → datatype_of G.datatypes s ≡ o → DataIs G s j t (datatype_data G p s j t o)
by_datatype G p s j t None h = tt
by_datatype G p s j t (Some d) h = by_constructor G p s j t d (slice_get d.constructors j) h refl

pub data_is : (G : Sc) (p : Place) (s j : ℕ) (t : Cn) → DataIs G s j t (data_at G p s j t)
data_is G p s j t = by_datatype G p s j t (datatype_of G.datatypes s) refl
