-- A pattern that is found at a type is typed at it.
use Rattle.std.proofs.Common.{◌≡◌, ℕ, ◌==◌, Bool, true, false, Option, Some, None, List, [], ◌∷◌, length, if◌then◌else◌, refl, ap, sym, subst, ◌∙◌}
use Rattle.std.proofs.lemmas.Bool.Decides.{Decides-eqb}
use Rattle.con_terms.specs.Trees.{types, Cn, basic, app, cat, Prs, no_pairs, pair}
use Rattle.con_terms.specs.Equal.{Equal, same, back, step, in_record, in_row, in_cat, cat_swaps, cat_groups, cat_unit, row_splits, one_pair, none_pairs}
use Rattle.row_normal.proofs.OrderEqual.{cats}
use Rattle.row_normal.proofs.StepEqual.{along}
use Rattle.core_terms.specs.Names.{int_name, string_name}
use Rattle.core_terms.specs.Trees.{Pt, Pfs, Cd, Dt, arity}
use Rattle.core_terms.specs.Types.{at_types, type_row, one_field}
use Rattle.core_terms.specs.Datatypes.{datatype_of}
use Rattle.core_typing.specs.Scopes.{Sc}
use Rattle.core_typing.specs.Seen.{a_number, a_text, a_datatype, nothing_more, seen_at, seen_data}
use Rattle.core_typing.specs.Asks.{CoverAsked, asking_cover}
use Rattle.core_typing.specs.Patterns.{PatTyped, by_equal, of_any, of_binds, of_number, of_text, of_bare, of_holding, of_fields, of_more_fields, of_annotated, PatFieldsTyped, of_none, of_one, AtConstructor}
use Rattle.core_typing.specs.PatternFaults.{AtData, PatFound, any_binds, binds_one, number_binds, text_binds, bare_binds, holding_binds, fields_bind, more_fields_bind, annotated_binds, PatFieldsFound, none_bind, one_binds}
use Rattle.core_typing.proofs.Judging.{has_kind}
use Rattle.core_typing.proofs.Normal.{normal_equal, alike_equal, by_pieces, field_among}

-- what is seen as a datatype at arguments is its symbol at them
pub record SeenAs (ds : List Dt) (whole : Cn) (d : Dt) (xs : List Cn) : Type 0 where
  pub symbol : ℕ
  pub applied : whole ≡ at_types (basic symbol) xs
  pub declared : datatype_of ds symbol ≡ Some d
  pub number : length xs ≡ arity d

told : (ds : List Dt) (s : ℕ) (args : List Cn) (d e : Dt) (xs : List Cn) (b : Bool) → datatype_of ds s ≡ Some e → (length args == arity e) ≡ b → (if b then a_datatype e args else nothing_more) ≡ a_datatype d xs → SeenAs ds (at_types (basic s) args) d xs
told ds s args d e xs true h n q =
    let same_d : e ≡ d = cc in
    let same_args : args ≡ xs = cc in
    record {
      symbol = s;
      applied = ap (at_types (basic s)) same_args;
      declared = h ∙ ap Some same_d;
      number = subst (λ (ys : List Cn). length ys ≡ arity d) same_args (subst (λ (x : Dt). length args ≡ arity x) same_d ((Decides-eqb (length args) (arity e)).0 n));
    }
told ds s args d e xs false h n q = cc

by_datatype : (ds : List Dt) (s : ℕ) (args : List Cn) (d : Dt) (xs : List Cn) (o : Option Dt) → datatype_of ds s ≡ o → elim o [ None ↦ nothing_more | Some e ↦ seen_data e args ] ≡ a_datatype d xs → SeenAs ds (at_types (basic s) args) d xs
by_datatype ds s args d xs None h q = cc
by_datatype ds s args d xs (Some e) h q = told ds s args d e xs (length args == arity e) h refl q

by_symbol : (ds : List Dt) (s : ℕ) (args : List Cn) (d : Dt) (xs : List Cn) (b c : Bool) → (if b then a_number else (if c then a_text else elim (datatype_of ds s) [ None ↦ nothing_more | Some e ↦ seen_data e args ])) ≡ a_datatype d xs → SeenAs ds (at_types (basic s) args) d xs
by_symbol ds s args d xs true c q = cc
by_symbol ds s args d xs false true q = cc
by_symbol ds s args d xs false false q = by_datatype ds s args d xs (datatype_of ds s) refl q

pub seen_as : (ds : List Dt) (c : Cn) (args : List Cn) (d : Dt) (xs : List Cn) → seen_at ds c args ≡ a_datatype d xs → SeenAs ds (at_types c args) d xs
seen_as ds (basic s) args d xs h = by_symbol ds s args d xs (s == int_name) (s == string_name) h
seen_as ds (app f a) args d xs h = seen_as ds f (a ∷ args) d xs h
seen_as ds _ args d xs h = cc

-- the datatype of a symbol has it
symbol_if : (b : Bool) (ds : List Dt) (s : ℕ) (e d : Dt) → (e.symbol == s) ≡ b → (datatype_of ds s ≡ Some d → d.symbol ≡ s) → (if b then Some e else datatype_of ds s) ≡ Some d → d.symbol ≡ s
symbol_if true ds s e d q go g = let is : e ≡ d = cc in subst (λ (x : Dt). x.symbol ≡ s) is ((Decides-eqb e.symbol s).0 q)
symbol_if false ds s e d q go g = go g

pub symbol_of : (ds : List Dt) (s : ℕ) (d : Dt) → datatype_of ds s ≡ Some d → d.symbol ≡ s
symbol_of [] s d h = cc
symbol_of (e ∷ ds) s d h = symbol_if (e.symbol == s) ds s e d refl (symbol_of ds s d) h

at_constructor : {G : Sc} {s j : ℕ} {t : Cn} {c : Cd} {args : List Cn} → AtData G s j t c args → AtConstructor G s j args c × Equal (at_types (basic s) args) t
at_constructor {G} {s} {j} {t} {c} {args} x =
    let w = seen_as G.datatypes x.n [] x.d args x.at_datatype in
    let one : w.symbol ≡ s = sym (symbol_of G.datatypes w.symbol x.d w.declared) ∙ symbol_of G.datatypes s x.d x.constructs.declared in
    let is : x.n ≡ at_types (basic s) args = w.applied ∙ ap (λ z. at_types (basic z) args) one in
    (record { declared_as = x.d; declared = x.constructs.declared; constructor = x.constructs.constructor; number_of_types = w.number }, back (along (normal_equal x.normal) is))

-- the fields that patterns name, and the others
pub record FieldsOf (C : CoverAsked) (G : Sc) (fs : Pfs) (ps rs ts : List Cn) : Type 0 where
  pub named : Prs
  pub typed : PatFieldsTyped (asking_cover C) G fs named ts
  pub whole : Equal (cats types ps) (cat (type_row named) (cats types rs))

one_more : (n m v : Cn) (ps qs rs : List Cn) (xs : Prs) → Equal n m → Equal (cats types ps) (cat (one_field m v) (cats types qs)) → Equal (cats types qs) (cat (type_row xs) (cats types rs)) → Equal (cats types ps) (cat (type_row (pair n v xs)) (cats types rs))
one_more n m v ps qs rs xs h g k = step g (step (in_cat (in_row (one_pair (back h) same none_pairs)) k) (step (back cat_groups) (in_cat (back row_splits) same)))

mutual
  pub pattern_typed : {C : CoverAsked} {G : Sc} {p : Pt} {t : Cn} {ts : List Cn} → PatFound G p t ts → PatTyped (asking_cover C) G p t ts
  pattern_typed any_binds = of_any
  pattern_typed (binds_one k h) = by_equal (of_binds (has_kind k)) (back (alike_equal h)) tt
  pattern_typed (number_binds h) = by_equal of_number (back (alike_equal h)) tt
  pattern_typed (text_binds h) = by_equal of_text (back (alike_equal h)) tt
  pattern_typed (bare_binds a h) = let (c, e) = at_constructor a in by_equal (of_bare c h) e tt
  pattern_typed (holding_binds a h q) = let (c, e) = at_constructor a in by_equal (of_holding c h (pattern_typed q)) e tt
  pattern_typed (fields_bind {r = r} n fs) =
      let w = pattern_fields_typed fs in
      by_equal (of_fields w.typed) (back (step (normal_equal n) (in_record (step (by_pieces r) (step w.whole (step cat_swaps cat_unit)))))) tt
  pattern_typed (more_fields_bind {r = r} n fs) =
      let w = pattern_fields_typed fs in
      by_equal (of_more_fields w.typed) (back (step (normal_equal n) (in_record (step (by_pieces r) w.whole)))) tt
  pattern_typed (annotated_binds k h q) = by_equal (of_annotated (has_kind k) (pattern_typed q)) (back (alike_equal h)) tt

  pattern_fields_typed : {C : CoverAsked} {G : Sc} {fs : Pfs} {ps rs ts : List Cn} → PatFieldsFound G fs ps rs ts → FieldsOf C G fs ps rs ts
  pattern_fields_typed none_bind = record { named = no_pairs; typed = of_none; whole = back cat_unit }
  pattern_fields_typed (one_binds {n = n} {m = m} {v = v} {ps = ps} {qs = qs} {rs = rs} k h p q fs) =
      let w = pattern_fields_typed fs in
      record { named = pair n v w.named; typed = of_one (has_kind k) (pattern_typed q) w.typed; whole = one_more n m v ps qs rs w.named (normal_equal h) (field_among m ps v qs p) w.whole }
