-- What is computed of a program and its source, part by part.
use Rattle.std.proofs.Common.{◌≡◌, ◌↔◌, ℕ, Bool, true, false, ◌&&◌, bytes_eq, nat_eq, List, [], ◌∷◌, Option, Some}
use Rattle.std.proofs.Common.{None, refl, ap, sym, ◌∙◌, arith}
use Rattle.std.proofs.lemmas.Slice.Eq.{bytes_eq-Decides}
use Rattle.std.proofs.lemmas.Bool.{and_from as both_true}
use Rattle.core_terms.specs.Trees.{Ru, Pg}
use Rattle.plain_tree.specs.Trees.{DeclTree}
use Rattle.row_normal.specs.SameTree.{flag_eq}
use Rattle.source_names.specs.Scopes.{Words, Declared, nothing_declared}
use Rattle.source_terms.specs.Alike.{each, effect_eq, rule_eq}
use Rattle.source_terms.specs.Programs.{tables_of, after_modules, exports_of, are_exports, is_source}
use Rattle.source_terms.specs.SourceLaw.{IsSource, SourceIsRead}

first_true : (a b : Bool) → (a && b) ≡ true → a ≡ true
first_true true b h = refl
first_true false b h = cc

second_true : (a b : Bool) → (a && b) ≡ true → b ≡ true
second_true true b h = h
second_true false b h = cc

-- lists whose elements are one are one
each_same : {A : Type 0} (p : A → A → Bool) → ((x y : A) → p x y ≡ true → x ≡ y) → (xs ys : List A)
    → each p xs ys ≡ true → xs ≡ ys
each_same p f [] [] h = refl
each_same p f [] (y ∷ ys) h = cc
each_same p f (x ∷ xs) [] h = cc
each_same p f (x ∷ xs) (y ∷ ys) h =
    let one : x ≡ y = f x y (first_true (p x y) (each p xs ys) h) in
    let others : xs ≡ ys = each_same p f xs ys (second_true (p x y) (each p xs ys) h) in
    ap (λ z. z ∷ xs) one ∙ ap (λ zs. y ∷ zs) others

each_refl : {A : Type 0} (p : A → A → Bool) → ((x : A) → p x x ≡ true) → (xs : List A) → each p xs xs ≡ true
each_refl p f [] = refl
each_refl p f (x ∷ xs) = both_true (p x x) (each p xs xs) (f x) (each_refl p f xs)

each_one : {A : Type 0} (p : A → A → Bool) → ((x : A) → p x x ≡ true) → (xs ys : List A) → ys ≡ xs
    → each p xs ys ≡ true
each_one p f xs ys e = ap (λ zs. each p xs zs) e ∙ each_refl p f xs

text_same : (x y : List ℕ) → bytes_eq x y ≡ true → x ≡ y
text_same x y h = (bytes_eq-Decides x y).0 h

text_refl : (x : List ℕ) → bytes_eq x x ≡ true
text_refl x = (bytes_eq-Decides x x).1 refl

number_same : (x y : ℕ) → nat_eq x y ≡ true → x ≡ y
number_same x y h = grind (arith, h)

number_refl : (x : ℕ) → nat_eq x x ≡ true
number_refl x = grind arith

flag_same : (x y : Bool) → flag_eq x y ≡ true → x ≡ y
flag_same true true h = refl
flag_same false false h = refl
flag_same _ _ h = cc

flag_refl : (x : Bool) → flag_eq x x ≡ true
flag_refl true = refl
flag_refl false = refl

effect_same : (e f : Words × Words) → effect_eq e f ≡ true → e ≡ f
effect_same e f h =
    let m : e.0 ≡ f.0 = text_same e.0 f.0 (first_true _ _ h) in
    let n : e.1 ≡ f.1 = text_same e.1 f.1 (second_true (bytes_eq e.0 f.0) _ h) in
    λ i. (m i, n i)

effect_refl : (e : Words × Words) → effect_eq e e ≡ true
effect_refl e = both_true _ _ (text_refl e.0) (text_refl e.1)

rule_same : (r s : Ru) → rule_eq r s ≡ true → r ≡ s
rule_same r s h =
    let a : r.allow ≡ s.allow = flag_same r.allow s.allow (first_true _ _ h) in
    let q : r.pattern ≡ s.pattern = text_same r.pattern s.pattern (second_true (flag_eq r.allow s.allow) _ h) in
    λ i. record { allow = a i; pattern = q i }

rule_refl : (r : Ru) → rule_eq r r ≡ true
rule_refl r = both_true _ _ (flag_refl r.allow) (text_refl r.pattern)

-- what is declared behind all modules, where the exports are those of it
behind_read : (o : Option (List Words)) (b : Option Declared) (ns : List ℕ) → are_exports o b ns ≡ true
    → (d : Declared) × (b ≡ Some d) × (ns ≡ exports_of o d)
behind_read o None ns h = cc
behind_read o (Some d) ns h = (d, refl, sym (each_same nat_eq number_same (exports_of o d) ns h))

exports_read : (o : Option (List Words)) (b : Option Declared) (ns : List ℕ) (d : Declared) → b ≡ Some d
    → ns ≡ exports_of o d
    → are_exports o b ns ≡ true
exports_read o b ns d e h =
    ap (λ c. are_exports o c ns) e ∙ each_one nat_eq number_refl (exports_of o d) ns h

found : (ms : List Words) (xs : List (List DeclTree)) (o : Option (List Words)) (rs : List Ru)
    (es : List (Words × Words)) (p : Pg)
    → is_source ms xs o rs es p ≡ true → IsSource ms xs o rs es p
found ms xs o rs es p h =
    let behind = after_modules (tables_of p) nothing_declared ms xs p.decls in
    let one = each bytes_eq ms p.modules in
    let two = each rule_eq rs p.rules in
    let three = each effect_eq es p.foreigns in
    let four = are_exports o behind p.exports in
    let g : (one && two && three) ≡ true = first_true (one && two && three) four h in
    let f : (one && two) ≡ true = first_true (one && two) three g in
    let (d, e, n) = behind_read o behind p.exports (second_true (one && two && three) four h) in
    record {
      behind = d;
      modules = sym (each_same bytes_eq text_same ms p.modules (first_true one two f));
      rules = sym (each_same rule_eq rule_same rs p.rules (second_true one two f));
      effects = sym (each_same effect_eq effect_same es p.foreigns (second_true (one && two) three g));
      decls = e;
      exports = n;
    }

kept : (ms : List Words) (xs : List (List DeclTree)) (o : Option (List Words)) (rs : List Ru)
    (es : List (Words × Words)) (p : Pg)
    → IsSource ms xs o rs es p → is_source ms xs o rs es p ≡ true
kept ms xs o rs es p s =
    let behind = after_modules (tables_of p) nothing_declared ms xs p.decls in
    let one = each bytes_eq ms p.modules in
    let two = each rule_eq rs p.rules in
    let three = each effect_eq es p.foreigns in
    let four = are_exports o behind p.exports in
    both_true (one && two && three) four
    (both_true (one && two) three
    (both_true one two (each_one bytes_eq text_refl ms p.modules s.modules)
    (each_one rule_eq rule_refl rs p.rules s.rules))
    (each_one effect_eq effect_refl es p.foreigns s.effects))
    (exports_read o behind p.exports s.behind s.decls s.exports)

pub source_is_read : SourceIsRead
source_is_read ms xs o rs es p = (found ms xs o rs es p, kept ms xs o rs es p)
