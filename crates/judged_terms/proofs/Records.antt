-- Records, field by field.
use Rattle.std.proofs.Common.{◌≡◌, Bool, List, [], ◌∷◌, ◌++◌, Option, Some, None, Result, refl, ap, sym, ◌∙◌, subst}
use Rattle.std.proofs.lemmas.List.{append_assoc, append-nil}
use Rattle.con_terms.specs.Trees.{Kd, types, names, row_of, Cn, Prs, no_pairs, pair, pair_list, record_of}
use Rattle.con_terms.specs.View.{pairs_from}
use Rattle.con_terms.specs.declared.place.Place.{Place}
use Rattle.kind_rules.specs.Flaws.{Flw}
use Rattle.kind_rules.specs.Kinding.{judged_at}
use Rattle.core_terms.specs.Trees.{Ex, node, fields_of, Fds, no_fields, field}
use Rattle.core_terms.specs.Types.{type_row}
use Rattle.core_typing.specs.Scopes.{Sc}
use Rattle.core_typing.specs.Cover.{Covers}
use Rattle.core_typing.specs.Faults.{Fault}
use Rattle.core_typing.specs.Judged.{HasKind}
use Rattle.core_typing.specs.Found.{FoundBy, FieldsFound, no_field_found, field_found, fields_have}
use Rattle.told_faults.specs.Computed.{Jd, flawed}
use Rattle.told_faults.specs.Heads.{Kindly, kindly, unkind}
use Rattle.told_faults.proofs.Parts.{kind_is}
use Rattle.node_rules.specs.Records.{Rw, no_fields_yet, with_value, with_named, with_kinded, is_kinded, with_field, of_whole, of_row, of_fields}
use Rattle.node_rules.proofs.Listed.{rebuilt}
use Rattle.judged_terms.specs.Laws.{Sound}
use Rattle.judged_terms.proofs.Basics.{some_is, none_some, first_parts}

-- the fields so far have these types, and nothing is told
pub record Fields (r : Rw) (done : List (Cn × Cn)) : Type 0 where
  pub row : r.row ≡ Some done
  pub kids : r.kids ≡ None
  pub own : r.own ≡ None

-- the fields before some, and these
pub record FieldsBehind (G : Sc) (r : Rw) (fs : Fds) (done : List (Cn × Cn)) : Type 0 where
  pub start : List (Cn × Cn)
  pub pairs : Prs
  pub before : Fields r start
  pub found : FieldsFound Covers G fs pairs
  pub all : done ≡ start ++ pair_list pairs

pub none_behind : (G : Sc) (r : Rw) (done : List (Cn × Cn)) → Fields r done → FieldsBehind G r no_fields done
none_behind G r done h = record { start = done; pairs = no_pairs; before = h; found = no_field_found; all = sym (append-nil done) }

-- one more field
pub record OneField (G : Sc) (n : Cn) (j : Jd) (o : Option (List (Cn × Cn))) (done : List (Cn × Cn)) : Type 0 where
  pub start : List (Cn × Cn)
  pub given : Cn
  pub row : o ≡ Some start
  pub kind : HasKind G n names
  pub type : j.type ≡ Some given
  pub all : start ++ (n, given) ∷ [] ≡ done

field_by : (G : Sc) (n : Cn) (j : Jd) (o : Option (List (Cn × Cn))) {r : Result Kd Flw} {done : List (Cn × Cn)} → Kindly G n names r → with_kinded n (is_kinded r) j.type o ≡ Some done → OneField G n j o done
field_by G n j o (unkind x) h = absurd (none_some h)
field_by G n j o {done = done} (kindly k) h = by_row o refl h
  where
    by_value : (s : List (Cn × Cn)) (t : Option Cn) → o ≡ Some s → j.type ≡ t → with_value n t s ≡ Some done → OneField G n j o done
    by_value s None m i e = absurd (none_some e)
    by_value s (Some t) m i e = record { start = s; given = t; row = m; kind = k; type = i; all = some_is e }

    by_row : (s : Option (List (Cn × Cn))) → o ≡ s → with_named n j.type s ≡ Some done → OneField G n j o done
    by_row None m e = absurd (none_some e)
    by_row (Some s) m e = by_value s j.type m refl e

pub field_step : (G : Sc) (q : Place) (n : Cn) (e : Ex) (fs : Fds) (j : Jd) (r : Rw) {done : List (Cn × Cn)} → Sound G e j → FieldsBehind G (with_field G q n j r) fs done → FieldsBehind G r (field q n e fs) done
field_step G q n e fs j r v b =
    let (m, k) = first_parts r.kids j.told b.before.kids in
    let (o, f) = first_parts r.own (flawed G q (judged_at G.kinds n names)) b.before.own in
    let x = field_by G n j r.row (kind_is G n names) b.before.row in
    record {
      start = x.start;
      pairs = pair n x.given b.pairs;
      before = record { row = x.row; kids = m; own = o };
      found = field_found x.kind (v x.given x.type k) b.found;
      all = b.all ∙ ap (λ z. z ++ pair_list b.pairs) (sym x.all) ∙ append_assoc x.start ((n, x.given) ∷ []) (pair_list b.pairs);
    }

-- {n = e, ..}
whole_type : (G : Sc) (p : Place) (kids own : Option Fault) (r : Cn) {k : Result Kd Flw} {t : Cn} → Kindly G r (row_of types) k → (of_whole G p kids own r k).type ≡ Some t → (of_whole G p kids own r k).told ≡ None → HasKind G r (row_of types) × (record_of r ≡ t) × (kids ≡ None) × (own ≡ None)
whole_type G p kids own r (unkind x) h n = absurd (none_some h)
whole_type G p kids own r (kindly x) h n = let (a, b) = first_parts kids own n in (x, some_is h, a, b)

pub row_parts : (G : Sc) (p : Place) (r : Rw) {t : Cn} → (of_fields G p r).type ≡ Some t → (of_fields G p r).told ≡ None → (done : List (Cn × Cn)) × Fields r done × HasKind G (type_row (pairs_from done)) (row_of types) × (record_of (type_row (pairs_from done)) ≡ t)
row_parts G p r {t = t} h n = by_row r.row refl h n
  where
    by_row : (o : Option (List (Cn × Cn))) → r.row ≡ o → (of_row G p r.kids r.own o).type ≡ Some t → (of_row G p r.kids r.own o).told ≡ None → (done : List (Cn × Cn)) × Fields r done × HasKind G (type_row (pairs_from done)) (row_of types) × (record_of (type_row (pairs_from done)) ≡ t)
    by_row None m h n = absurd (none_some h)
    by_row (Some done) m h n =
        let (k, e, a, b) = whole_type G p r.kids r.own (type_row (pairs_from done)) (kind_is G (type_row (pairs_from done)) (row_of types)) h n in
        (done, record { row = m; kids = a; own = b }, k, e)

pub record_found : (G : Sc) (p : Place) (a : Bool) (fs : Fds) {done : List (Cn × Cn)} {t : Cn} → FieldsBehind G no_fields_yet fs done → HasKind G (type_row (pairs_from done)) (row_of types) → record_of (type_row (pairs_from done)) ≡ t → FoundBy Covers G (node p a (fields_of fs)) t
record_found G p a fs {done} {t} b k e =
    let none : [] ≡ b.start = some_is b.before.row in
    let listed : done ≡ pair_list b.pairs = b.all ∙ ap (λ z. z ++ pair_list b.pairs) (sym none) in
    let same : pairs_from done ≡ b.pairs = ap pairs_from listed ∙ rebuilt b.pairs in
    let kind : HasKind G (type_row b.pairs) (row_of types) = subst (λ z. HasKind G (type_row z) (row_of types)) same k in
    subst (λ z. FoundBy Covers G (node p a (fields_of fs)) z) (sym (ap (λ z. record_of (type_row z)) same) ∙ e) (fields_have b.found kind)
