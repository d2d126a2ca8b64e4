-- Names in the modules of a program.
use Rattle.std.proofs.Common.{◌≡◌, ℕ, zero, suc, Bool, true, false, List, [], ◌∷◌, Option, Some, None, get_or}
use Rattle.std.proofs.Common.{option_and_then, if◌then◌else◌, refl, ap, sym, ◌∙◌}
use Rattle.core_terms.specs.Strip.{strip_decl}
use Rattle.core_terms.specs.Trees.{De, Ru, Pg}
use Rattle.plain_tree.specs.Trees.{DeclTree}
use Rattle.source_names.specs.Scopes.{Words, Declared, Tables, nothing_declared, begin_module}
use Rattle.source_terms.specs.Declarations.{reads_decl, declared_after}
use Rattle.source_terms.specs.Programs.{Reading, after_decls, after_modules, tables_of}
use Rattle.source_terms.specs.SourceLaw.{IsSource}
use Rattle.source_terms.proofs.Sources.{source_is_read}
use Rattle.unbound_names.specs.Asked.{Ask}
use Rattle.unbound_names.specs.Declarations.{unbound_decl, unbound_decls, declared_behind, declared_behind_all}
use Rattle.unbound_names.specs.InScope.{tables_with}
use Rattle.unbound_names.specs.Programs.{declared_before, unbound}
use Rattle.bound_sources.specs.Laws.{UnboundIsNoSource}
use Rattle.bound_sources.proofs.Clear.{no, neither}
use Rattle.bound_sources.proofs.Bare.{bare_declared}
use Rattle.bound_sources.proofs.Declarations.{bare_behind, decl_clear}

-- The declarations of one module.

-- no name in these declarations is unbound, and what is declared behind them is so by names alone, too
record Read (q : Ask) (t : Tables) (d : Declared) (xs : List DeclTree) (r : Reading) : Type 0 where
  clear : unbound_decls q (tables_with t.effects) (bare_declared d) xs ≡ false
  behind : bare_declared r.0 ≡ declared_behind_all xs (bare_declared d)

some_is : {A : Type 0} {a b : A} → Some a ≡ Some b → a ≡ b
some_is e = cc

none_is : {A B : Type 0} {a : A} → None ≡ Some a → B
none_is e = cc

one_more : (q : Ask) (t : Tables) (d : Declared) (x : DeclTree) (xs : List DeclTree) (e : De) (es : List De)
    (r : Reading)
    → (after_decls t (declared_after d x e) xs es ≡ Some r → Read q t (declared_after d x e) xs r)
    → (b : Bool) → reads_decl t d x (strip_decl e) ≡ b
    → (if b then after_decls t (declared_after d x e) xs es else None) ≡ Some r → Read q t d (x ∷ xs) r
one_more q t d x xs e es r f false k g = none_is g
one_more q t d x xs e es r f true k g =
    let rest : Read q t (declared_after d x e) xs r = f g in
    let same : bare_declared (declared_after d x e) ≡ declared_behind x (bare_declared d) = bare_behind t d x e k in
    record {
      clear = neither (unbound_decl q (tables_with t.effects) (bare_declared d) x)
          (unbound_decls q (tables_with t.effects) (declared_behind x (bare_declared d)) xs)
          (decl_clear q t d x (strip_decl e) k)
          (ap (λ z. unbound_decls q (tables_with t.effects) z xs) (sym same) ∙ rest.clear);
      behind = rest.behind ∙ ap (declared_behind_all xs) same;
    }

decls_read : (q : Ask) (t : Tables) (d : Declared) (xs : List DeclTree) (es : List De) (r : Reading)
    → after_decls t d xs es ≡ Some r → Read q t d xs r
decls_read q t d [] es r h =
    record { clear = refl; behind = ap (λ (z : Reading). bare_declared z.0) (sym (some_is h)) }
decls_read q t d (x ∷ xs) [] r h = none_is h
decls_read q t d (x ∷ xs) (e ∷ es) r h =
    one_more q t d x xs e es r (decls_read q t (declared_after d x e) xs es r) (reads_decl t d x (strip_decl e)) refl h

-- Module after module.

-- what is declared where the module with this number begins, where this is declared before the first one
abbrev before : Declared → List Words → List (List DeclTree) → ℕ → Declared
before d names trees zero = begin_module (get_or names 0 []) d
before d names trees (suc n) =
    begin_module (get_or names (suc n) []) (declared_behind_all (get_or trees n []) (before d names trees n))

before_first : (names : List Words) (trees : List (List DeclTree)) (n : ℕ)
    → before nothing_declared names trees n ≡ declared_before names trees n
before_first names trees zero = refl
before_first names trees (suc n) =
    ap (λ z. begin_module (get_or names (suc n) []) (declared_behind_all (get_or trees n []) z))
    (before_first names trees n)

-- behind the first module the others are the first ones
before_next : (d : Declared) (m : Words) (ms : List Words) (x : List DeclTree) (xs : List (List DeclTree)) (n : ℕ)
    → before d (m ∷ ms) (x ∷ xs) (suc n) ≡ before (declared_behind_all x (begin_module m d)) ms xs n
before_next d m ms x xs zero = refl
before_next d m ms x xs (suc n) =
    ap (λ z. begin_module (get_or ms (suc n) []) (declared_behind_all (get_or xs n []) z)) (before_next d m ms x xs n)

get_none : (n : ℕ) → get_or {A = List DeclTree} [] n [] ≡ []
get_none zero = refl
get_none (suc n) = refl

-- no name of these modules is unbound, where this is declared before them
abbrev AllRead : Ask → Tables → Declared → List Words → List (List DeclTree) → Type 0
AllRead q t d ms xs = (n : ℕ)
    → unbound_decls q (tables_with t.effects) (before (bare_declared d) ms xs n) (get_or xs n []) ≡ false

module_more : (q : Ask) (t : Tables) (d : Declared) (m : Words) (ms : List Words) (x : List DeclTree)
    (xs : List (List DeclTree)) (es : List De) (b : Declared)
    → ((r : Reading) → after_modules t r.0 ms xs r.1 ≡ Some b → AllRead q t r.0 ms xs)
    → (o : Option Reading) → after_decls t (begin_module m d) x es ≡ o
    → option_and_then (λ (r : Reading). after_modules t r.0 ms xs r.1) o ≡ Some b
    → AllRead q t d (m ∷ ms) (x ∷ xs)
module_more q t d m ms x xs es b f None k g n = none_is g
module_more q t d m ms x xs es b f (Some r) k g zero = (decls_read q t (begin_module m d) x es r k).clear
module_more q t d m ms x xs es b f (Some r) k g (suc n) =
    ap (λ z. unbound_decls q (tables_with t.effects) z (get_or xs n []))
    (before_next (bare_declared d) m ms x xs n
    ∙ ap (λ z. before z ms xs n) (sym (decls_read q t (begin_module m d) x es r k).behind))
    ∙ f r g n

modules_read : (q : Ask) (t : Tables) (d : Declared) (ms : List Words) (xs : List (List DeclTree)) (es : List De)
    (b : Declared) → after_modules t d ms xs es ≡ Some b → AllRead q t d ms xs
modules_read q t d [] [] es b h n =
    ap (unbound_decls q (tables_with t.effects) (before (bare_declared d) [] [] n)) (get_none n)
modules_read q t d [] (x ∷ xs) es b h n = none_is h
modules_read q t d (m ∷ ms) [] es b h n = none_is h
modules_read q t d (m ∷ ms) (x ∷ xs) es b h n =
    module_more q t d m ms x xs es b (λ r g. modules_read q t r.0 ms xs r.1 b g)
    (after_decls t (begin_module m d) x es) refl h n

-- no name is unbound in the source of a program
none_unbound : (names : List Words) (trees : List (List DeclTree)) (effects : List (Words × Words)) (file at : ℕ)
    (written : Words) (exported : Option (List Words)) (rules : List Ru) (p : Pg)
    → IsSource names trees exported rules effects p → unbound names trees effects file at written ≡ false
none_unbound names trees effects file at written exported rules p h =
    ap (λ z. unbound_decls (record { at = at; written = written }) (tables_with effects) z (get_or trees file []))
    (sym (before_first names trees file))
    ∙ ap (λ z. unbound_decls (record { at = at; written = written }) (tables_with z)
    (before nothing_declared names trees file) (get_or trees file [])) (sym h.effects)
    ∙ modules_read (record { at = at; written = written }) (tables_of p) nothing_declared names trees p.decls h.behind
    h.decls file

pub unbound_is_none : UnboundIsNoSource
unbound_is_none names trees effects file at written exported rules p u h =
    no (sym (none_unbound names trees effects file at written exported rules p
    ((source_is_read names trees exported rules effects p).0 h)) ∙ u)
