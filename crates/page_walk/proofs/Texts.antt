-- What values write of a link, one after another.
use Rattle.std.proofs.Common.{◌≡◌, ℕ, ℤ, Bool, true, false, if◌then◌else◌, List, [], ◌∷◌, ◌++◌, map, Option, Some, None, option_map, slice_get, refl, ap, sym, ◌∙◌, subst}
use Rattle.std.specs.Ordering.{is_lt, nat_cmp}
use Rattle.std.specs.Cmp.Lexicographic.{slice_cmp}
use Rattle.std.specs.Fmt.{signed_decimal}
use Rattle.table_rows.specs.Wires.{Wr, int, words, bare, tagged, Wrs, wire}
use Rattle.table_rows.specs.Pieces.{pieces, all_pieces, escaped}
use Rattle.link_router.specs.Links.{joined}
use Rattle.core_terms.specs.Trees.{Dt}
use Rattle.core_terms.specs.declared.program.Program.{Program}
use Rattle.value_trees.specs.Values.{V, of_number, of_text, of_fields, of_bare, of_holding, Slots, no_slots, slot}
use Rattle.value_trees.specs.Wired.{constructor_text, put_field, in_order, record_wire, both, wire_of, slots_wire, wires_of}
use Rattle.page_walk.specs.Links.{datatypes_in, values_text}
use Rattle.page_walk.specs.Adding.{Adds, Amid, Never, put_value, put_named, sorted}
use Rattle.page_walk.specs.declared.links.Link.{Link}
use Rattle.page_walk.proofs.Added.{nothing_behind, and_and, joined_and, both_added}

-- texts, where there are any
abbrev pub text_of : Option Wrs → Option (List ℕ)
text_of o = elim o [ None ↦ None | Some ws ↦ Some (joined (all_pieces ws)) ]

abbrev pub with_first : Option Wr → Option Wrs → Option Wrs
with_first o p = elim o [ None ↦ None | Some w ↦ elim p [ None ↦ None | Some ws ↦ Some (wire w ws) ] ]

first_text : (w : Wr) (p : Option Wrs) → text_of (with_first (Some w) p) ≡ option_map (λ t. joined (pieces w) ++ t) (text_of p)
first_text w None = refl
first_text w (Some ws) = ap Some (joined_and (pieces w) (all_pieces ws))

-- the first value's wire
pub value_text : (names : List (List ℕ)) (ds : List Dt) (v : V) (vs : List V) (w : Wr) → wire_of names ds v ≡ Some w
    → values_text names ds (v ∷ vs) ≡ option_map (λ t. joined (pieces w) ++ t) (values_text names ds vs)
value_text names ds v vs w h = ap (λ o. text_of (with_first o (wires_of names ds vs))) h ∙ first_text w (wires_of names ds vs)

pub value_without : (names : List (List ℕ)) (ds : List Dt) (v : V) (vs : List V) → wire_of names ds v ≡ None → values_text names ds (v ∷ vs) ≡ None
value_without names ds v vs h = ap (λ o. text_of (with_first o (wires_of names ds vs))) h

pub still_text : (o : Option (List ℕ)) → o ≡ option_map (λ t. [] ++ t) o
still_text None = refl
still_text (Some t) = refl

both_texts : (xs ys : List ℕ) (o : Option (List ℕ)) → option_map (λ t. xs ++ t) (option_map (λ t. ys ++ t) o) ≡ option_map (λ t. (xs ++ ys) ++ t) o
both_texts xs ys None = refl
both_texts xs ys (Some t) = ap Some (sym (and_and xs ys t))

pub further_amid : (p : Program) (a b c : Link) (us vs ws : List V) → Amid p a b us vs → Amid p b c vs ws → Amid p a c us ws
further_amid p a b c us vs ws x y = record {
  written = x.written ++ y.written;
  adds = both_added a b c x.written y.written x.adds y.adds;
  whole = x.whole ∙ ap (option_map (λ t. x.written ++ t)) y.whole ∙ both_texts x.written y.written (values_text p.names (datatypes_in p) ws);
}

pub of_wire : (p : Program) (a b : Link) (v : V) (vs : List V) (w : Wr) → wire_of p.names (datatypes_in p) v ≡ Some w → Adds a b (joined (pieces w)) → Amid p a b (v ∷ vs) vs
of_wire p a b v vs w h x = record { written = joined (pieces w); adds = x; whole = value_text p.names (datatypes_in p) v vs w h }

one_piece : (a b : Link) (t : List ℕ) → Adds a b (47 ∷ t) → Adds a b (joined (t ∷ []))
one_piece a b t x = subst (Adds a b) (sym (nothing_behind (47 ∷ t))) x

pub number_amid : (p : Program) (a b : Link) (z : ℤ) (vs : List V) → Adds a b (47 ∷ signed_decimal z) → Amid p a b (of_number z ∷ vs) vs
number_amid p a b z vs x = of_wire p a b (of_number z) vs (int z) refl (one_piece a b (signed_decimal z) x)

pub words_amid : (p : Program) (a b : Link) (t : List ℕ) (vs : List V) → Adds a b (47 ∷ 95 ∷ escaped t) → Amid p a b (of_text t ∷ vs) vs
words_amid p a b t vs x = of_wire p a b (of_text t) vs (words t) refl (one_piece a b (95 ∷ escaped t) x)

-- constructors

pub bare_amid : (p : Program) (a b : Link) (s j : ℕ) (n : List ℕ) (vs : List V) → constructor_text p.names (datatypes_in p) s j ≡ Some n → Adds a b (47 ∷ n) → Amid p a b (of_bare s j ∷ vs) vs
bare_amid p a b s j n vs h x =
    let wired : wire_of p.names (datatypes_in p) (of_bare s j) ≡ Some (bare n) = ap (λ (o : Option (List ℕ)). elim o as (λ _. Option Wr) [ None ↦ None | Some m ↦ Some (bare m) ]) h in
    of_wire p a b (of_bare s j) vs (bare n) wired (one_piece a b n x)

held_text : (n : List ℕ) (o : Option Wr) (p : Option Wrs)
    → text_of (with_first (elim o as (λ _. Option Wr) [ None ↦ None | Some w ↦ Some (tagged n w) ]) p) ≡ option_map (λ t. (47 ∷ n) ++ t) (text_of (with_first o p))
held_text n None p = refl
held_text n (Some w) None = refl
held_text n (Some w) (Some ws) = ap Some (joined_and (n ∷ pieces w) (all_pieces ws) ∙ and_and (47 ∷ n) (joined (pieces w)) (joined (all_pieces ws)) ∙ ap (λ t. (47 ∷ n) ++ t) (sym (joined_and (pieces w) (all_pieces ws))))

pub holding_amid : (p : Program) (a b : Link) (s j : ℕ) (v : V) (n : List ℕ) (vs : List V) → constructor_text p.names (datatypes_in p) s j ≡ Some n → Adds a b (47 ∷ n)
    → Amid p a b (of_holding s j v ∷ vs) (v ∷ vs)
holding_amid p a b s j v n vs h x = record {
  written = 47 ∷ n;
  adds = x;
  whole =
      ap (λ (o : Option (List ℕ)). text_of (with_first (elim o as (λ _. Option Wr) [ None ↦ None | Some m ↦ elim (wire_of p.names (datatypes_in p) v) as (λ _. Option Wr) [ None ↦ None | Some w ↦ Some (tagged m w) ] ]) (wires_of p.names (datatypes_in p) vs))) h
      ∙ held_text n (wire_of p.names (datatypes_in p) v) (wires_of p.names (datatypes_in p) vs);
}

pub no_constructor : (p : Program) (s j : ℕ) → constructor_text p.names (datatypes_in p) s j ≡ None → Never p (of_bare s j)
no_constructor p s j h = record {
  never = λ vs. value_without p.names (datatypes_in p) (of_bare s j) vs (ap (λ (o : Option (List ℕ)). elim o as (λ _. Option Wr) [ None ↦ None | Some m ↦ Some (bare m) ]) h);
}

pub no_holder : (p : Program) (s j : ℕ) (v : V) → constructor_text p.names (datatypes_in p) s j ≡ None → Never p (of_holding s j v)
no_holder p s j v h = record {
  never = λ vs. value_without p.names (datatypes_in p) (of_holding s j v) vs (ap (λ (o : Option (List ℕ)). elim o as (λ _. Option Wr) [ None ↦ None | Some m ↦ elim (wire_of p.names (datatypes_in p) v) as (λ _. Option Wr) [ None ↦ None | Some w ↦ Some (tagged m w) ] ]) h);
}

-- fields: their wires once they are in order, and in order once they are wires
abbrev pub wire_before : List ℕ → Option Wr → Option (List (List ℕ × Wr)) → Option (List (List ℕ × Wr))
wire_before n o r = elim o [ None ↦ None | Some w ↦ elim r [ None ↦ None | Some ws ↦ Some ((n, w) ∷ ws) ] ]

abbrev pub each_wire : List (List ℕ) → List Dt → List (List ℕ × V) → Option (List (List ℕ × Wr))
each_wire names ds [] = Some []
each_wire names ds (f ∷ fs) = wire_before f.0 (wire_of names ds f.1) (each_wire names ds fs)

before_put : (n m : List ℕ) (o u : Option Wr) (r : Option (List (List ℕ × Wr))) → is_lt (slice_cmp nat_cmp m n) ≡ true
    → wire_before m u (both (Some n) o r) ≡ both (Some n) o (wire_before m u r)
before_put n m None None r h = refl
before_put n m (Some w) None None h = refl
before_put n m (Some w) None (Some ws) h = refl
before_put n m None (Some x) None h = refl
before_put n m None (Some x) (Some ws) h = refl
before_put n m (Some w) (Some x) None h = refl
before_put n m (Some w) (Some x) (Some ws) h =
    ap (λ (b : Bool). Some (if b then (m, x) ∷ put_field n w ws else (n, w) ∷ (m, x) ∷ ws)) (sym h)

put_before : (n m : List ℕ) (o u : Option Wr) (r : Option (List (List ℕ × Wr))) → is_lt (slice_cmp nat_cmp m n) ≡ false
    → wire_before n o (wire_before m u r) ≡ both (Some n) o (wire_before m u r)
put_before n m None None r h = refl
put_before n m (Some w) None None h = refl
put_before n m (Some w) None (Some ws) h = refl
put_before n m None (Some x) None h = refl
put_before n m None (Some x) (Some ws) h = refl
put_before n m (Some w) (Some x) None h = refl
put_before n m (Some w) (Some x) (Some ws) h =
    ap (λ (b : Bool). Some (if b then (m, x) ∷ put_field n w ws else (n, w) ∷ (m, x) ∷ ws)) (sym h)

put_alone : (n : List ℕ) (o : Option Wr) → wire_before n o (Some []) ≡ both (Some n) o (Some [])
put_alone n None = refl
put_alone n (Some w) = refl

by_order : (names : List (List ℕ)) (ds : List Dt) (n : List ℕ) (v : V) (f : List ℕ × V) (fs : List (List ℕ × V)) (b : Bool) → is_lt (slice_cmp nat_cmp f.0 n) ≡ b
    → each_wire names ds (put_value n v fs) ≡ both (Some n) (wire_of names ds v) (each_wire names ds fs)
    → each_wire names ds (if b then f ∷ put_value n v fs else (n, v) ∷ f ∷ fs) ≡ both (Some n) (wire_of names ds v) (each_wire names ds (f ∷ fs))
by_order names ds n v f fs true h ih =
    ap (wire_before f.0 (wire_of names ds f.1)) ih ∙ before_put n f.0 (wire_of names ds v) (wire_of names ds f.1) (each_wire names ds fs) h
by_order names ds n v f fs false h ih = put_before n f.0 (wire_of names ds v) (wire_of names ds f.1) (each_wire names ds fs) h

put_wired : (names : List (List ℕ)) (ds : List Dt) (n : List ℕ) (v : V) (fs : List (List ℕ × V)) → each_wire names ds (put_value n v fs) ≡ both (Some n) (wire_of names ds v) (each_wire names ds fs)
put_wired names ds n v [] = put_alone n (wire_of names ds v)
put_wired names ds n v (f ∷ fs) = by_order names ds n v f fs (is_lt (slice_cmp nat_cmp f.0 n)) refl (put_wired names ds n v fs)

abbrev pub wires_where : List (List ℕ) → List Dt → Option (List (List ℕ × V)) → Option (List (List ℕ × Wr))
wires_where names ds o = elim o [ None ↦ None | Some fs ↦ each_wire names ds fs ]

no_both : (n : Option (List ℕ)) (o : Option Wr) → both n o None ≡ None
no_both None o = refl
no_both (Some n) None = refl
no_both (Some n) (Some w) = refl

named_wired : (names : List (List ℕ)) (ds : List Dt) (n : Option (List ℕ)) (v : V) (o : Option (List (List ℕ × V)))
    → wires_where names ds (put_named n v o) ≡ both n (wire_of names ds v) (wires_where names ds o)
named_wired names ds None v None = refl
named_wired names ds None v (Some fs) = refl
named_wired names ds (Some n) v None = sym (no_both (Some n) (wire_of names ds v))
named_wired names ds (Some n) v (Some fs) = put_wired names ds n v fs

sorted_wired : (names : List (List ℕ)) (ds : List Dt) (ss : Slots) → slots_wire names ds ss ≡ wires_where names ds (sorted names ss)
sorted_wired names ds no_slots = refl
sorted_wired names ds (slot x v ss) =
    ap (both (slice_get names x) (wire_of names ds v)) (sorted_wired names ds ss) ∙ sym (named_wired names ds (slice_get names x) v (sorted names ss))

-- the pieces of fields in order, one after another
abbrev pub behind : Option (List (List ℕ × Wr)) → Option Wrs → Option (List ℕ)
behind o p = elim o [ None ↦ None | Some fs ↦ elim p [ None ↦ None | Some ws ↦ Some (joined (all_pieces (in_order fs)) ++ joined (all_pieces ws)) ] ]

first_behind : (n : List ℕ) (o : Option Wr) (r : Option (List (List ℕ × Wr))) (p q : Option Wrs) → text_of q ≡ behind r p → text_of (with_first o q) ≡ behind (wire_before n o r) p
first_behind n None r p q h = refl
first_behind n (Some w) None p q h = first_text w q ∙ ap (option_map (λ t. joined (pieces w) ++ t)) h
first_behind n (Some w) (Some fs) None q h = first_text w q ∙ ap (option_map (λ t. joined (pieces w) ++ t)) h
first_behind n (Some w) (Some fs) (Some ws) q h =
    first_text w q ∙ ap (option_map (λ t. joined (pieces w) ++ t)) h
    ∙ ap Some (sym (and_and (joined (pieces w)) (joined (all_pieces (in_order fs))) (joined (all_pieces ws))) ∙ ap (λ t. t ++ joined (all_pieces ws)) (sym (joined_and (pieces w) (all_pieces (in_order fs)))))

all_behind : (p : Option Wrs) → text_of p ≡ behind (Some []) p
all_behind None = refl
all_behind (Some ws) = refl

each_behind : (names : List (List ℕ)) (ds : List Dt) (fs : List (List ℕ × V)) (vs : List V)
    → values_text names ds (map (λ (f : List ℕ × V). f.1) fs ++ vs) ≡ behind (each_wire names ds fs) (wires_of names ds vs)
each_behind names ds [] vs = all_behind (wires_of names ds vs)
each_behind names ds (f ∷ fs) vs =
    first_behind f.0 (wire_of names ds f.1) (each_wire names ds fs) (wires_of names ds vs) (wires_of names ds (map (λ (g : List ℕ × V). g.1) fs ++ vs)) (each_behind names ds fs vs)

record_pieces : (fs : List (List ℕ × Wr)) → pieces (record_wire fs) ≡ all_pieces (in_order fs)
record_pieces [] = refl
record_pieces (f ∷ fs) = refl

record_text : (o : Option (List (List ℕ × Wr))) (p : Option Wrs)
    → text_of (with_first (elim o as (λ _. Option Wr) [ None ↦ None | Some fs ↦ Some (record_wire fs) ]) p) ≡ behind o p
record_text None p = refl
record_text (Some fs) None = refl
record_text (Some fs) (Some ws) = ap Some (joined_and (pieces (record_wire fs)) (all_pieces ws) ∙ ap (λ ps. joined ps ++ joined (all_pieces ws)) (record_pieces fs))

pub fields_text : (names : List (List ℕ)) (ds : List Dt) (ss : Slots) (fs : List (List ℕ × V)) (vs : List V) → sorted names ss ≡ Some fs
    → values_text names ds (of_fields ss ∷ vs) ≡ values_text names ds (map (λ (f : List ℕ × V). f.1) fs ++ vs)
fields_text names ds ss fs vs h =
    record_text (slots_wire names ds ss) (wires_of names ds vs)
    ∙ ap (λ o. behind o (wires_of names ds vs)) (sorted_wired names ds ss ∙ ap (wires_where names ds) h)
    ∙ sym (each_behind names ds fs vs)

pub no_fields_text : (names : List (List ℕ)) (ds : List Dt) (ss : Slots) (vs : List V) → sorted names ss ≡ None → values_text names ds (of_fields ss ∷ vs) ≡ None
no_fields_text names ds ss vs h =
    record_text (slots_wire names ds ss) (wires_of names ds vs)
    ∙ ap (λ o. behind o (wires_of names ds vs)) (sorted_wired names ds ss ∙ ap (wires_where names ds) h)
