-- Reading declaration by declaration, and module by module.
use Rattle.std.proofs.Common.{◌≡◌, ◌≢◌, ℕ, suc, ◌+◌, ◌<◌, ◌≤◌, Bool, true, false, if◌then◌else◌, List, [], ◌∷◌}
use Rattle.std.proofs.Common.{length, map, get_or, drop, drop-cons, drop_of_length-le, Option, Some, None}
use Rattle.std.proofs.Common.{option_and_then, refl, ap, sym, ◌∙◌, arith}
use Rattle.std.proofs.lemmas.List.{drop-map, length-map}
use Rattle.core_terms.specs.Strip.{strip_decl}
use Rattle.core_terms.specs.Trees.{De}
use Rattle.core_terms.specs.View as made
use Rattle.core_terms.specs.declared.decl.Decl.{Decl}
use Rattle.plain_tree.specs.Trees.{DeclTree}
use Rattle.plain_tree.specs.View as plain
use Rattle.plain_tree.specs.declared.decl.Decl.{Decl as PlainDecl}
use Rattle.plain_tree.specs.declared.decl.Plain.{Plain}
use Rattle.source_names.specs.Scopes.{Words, Declared, Tables, begin_module}
use Rattle.source_terms.specs.Declarations.{reads_decl, declared_after}
use Rattle.source_terms.specs.Programs.{Reading, after_decls, after_modules}

-- the element at a place comes first of what is left there
first_left : {A B : Type 0} (f : A → B) (xs : List A) (i : ℕ) (x : A) → x ≡ get_or xs i x → i < length xs
    → map f (drop i xs) ≡ f x ∷ map f (drop (i + 1) xs)
first_left f xs i x e h =
    ap (map f) (drop-cons xs i x h)
    ∙ ap (λ y. f y ∷ map f (drop (suc i) xs)) (sym e)
    ∙ ap (λ n. f x ∷ map f (drop n xs)) (let p : suc i ≡ i + 1 = omega arith in p)

-- the same where it is left of what the elements stand for
first_seen : {A B : Type 0} (f : A → B) (xs : List A) (i : ℕ) (x : A) → x ≡ get_or xs i x → i < length xs
    → drop i (map f xs) ≡ f x ∷ drop (i + 1) (map f xs)
first_seen f xs i x e h =
    drop-map f i xs ∙ first_left f xs i x e h ∙ ap (λ ys. f x ∷ ys) (sym (drop-map f (i + 1) xs))

none_seen : (es : List Decl) (n : ℕ) → length es ≤ n → drop n (map made.decl_tree es) ≡ []
none_seen es n h = let m : length (map made.decl_tree es) ≤ n = omega (arith, length-map es made.decl_tree) in
    drop_of_length-le (map made.decl_tree es) m

-- one declaration of each side
one_read : (t : Tables) (d : Declared) (x : DeclTree) (xs : List DeclTree) (e : De) (es : List De) (b : Bool)
    → reads_decl t d x (strip_decl e) ≡ b
    → after_decls t d (x ∷ xs) (e ∷ es) ≡ (if b then after_decls t (declared_after d x e) xs es else None)
one_read t d x xs e es b h = ap (λ c. if c then after_decls t (declared_after d x e) xs es else None) h

pub next_read : (t : Tables) (d : Declared) (xs : List PlainDecl) (i : ℕ) (x : PlainDecl) (es : List Decl) (n : ℕ)
    (e : Decl) (b : Bool)
    → x ≡ get_or xs i x → i < length xs → e ≡ get_or es n e → n < length es
    → b ≡ reads_decl t d (plain.decl_tree x) (strip_decl (made.decl_tree e))
    → after_decls t d (map plain.decl_tree (drop i xs)) (drop n (map made.decl_tree es))
    ≡ (if b then after_decls t (declared_after d (plain.decl_tree x) (made.decl_tree e))
    (map plain.decl_tree (drop (i + 1) xs)) (drop (n + 1) (map made.decl_tree es)) else None)
next_read t d xs i x es n e b ex hx ee he h =
    ap (λ ys. after_decls t d ys (drop n (map made.decl_tree es))) (first_left plain.decl_tree xs i x ex hx)
    ∙ ap (λ fs. after_decls t d (plain.decl_tree x ∷ map plain.decl_tree (drop (i + 1) xs)) fs)
    (first_seen made.decl_tree es n e ee he)
    ∙ one_read t d (plain.decl_tree x) (map plain.decl_tree (drop (i + 1) xs)) (made.decl_tree e)
    (drop (n + 1) (map made.decl_tree es)) b (sym h)

-- more declarations than the program has left
pub none_left : (t : Tables) (d : Declared) (xs : List PlainDecl) (i : ℕ) (es : List Decl) (n : ℕ)
    → i < length xs → length es ≤ n
    → after_decls t d (map plain.decl_tree (drop i xs)) (drop n (map made.decl_tree es)) ≡ None
none_left t d [] i es n h m = absurd (omega arith)
none_left t d (y ∷ ys) i es n h m =
    ap (λ zs. after_decls t d (map plain.decl_tree zs) (drop n (map made.decl_tree es))) (drop-cons (y ∷ ys) i y h)
    ∙ ap (λ fs. after_decls t d (map plain.decl_tree (get_or (y ∷ ys) i y ∷ drop (suc i) (y ∷ ys))) fs)
    (none_seen es n m)

never : (o : Option Reading) (f : Reading → Option Declared) → ((r : Reading) → f r ≡ None)
    → option_and_then f o ≡ None
never None f h = refl
never (Some r) f h = h r

modules_differ : (t : Tables) (d : Declared) (ms : List Words) (xs : List (List DeclTree)) (es : List De)
    → length xs ≢ length ms → after_modules t d ms xs es ≡ None
modules_differ t d [] [] es h = absurd (h refl)
modules_differ t d [] (x ∷ xs) es h = refl
modules_differ t d (m ∷ ms) [] es h = refl
modules_differ t d (m ∷ ms) (x ∷ xs) es h =
    never (after_decls t (begin_module m d) x es) (λ (r : Reading). after_modules t r.0 ms xs r.1)
    (λ r. modules_differ t r.0 ms xs r.1 (λ e. h (ap suc e)))

-- not as many trees as names
pub trees_differ : (t : Tables) (d : Declared) (ms : List Words) (xs : List Plain) (es : List De)
    → length xs ≢ length ms → after_modules t d ms (map plain.plain_view xs) es ≡ None
trees_differ t d ms xs es h =
    modules_differ t d ms (map plain.plain_view xs) es (λ e. h (sym (length-map xs plain.plain_view) ∙ e))

at_end : (t : Tables) (d : Declared) (ms : List Words) (xs : List Plain) (es : List De) (i : ℕ)
    → length ms ≤ i → length xs ≤ i
    → after_modules t d (drop i ms) (map plain.plain_view (drop i xs)) es ≡ after_modules t d [] [] es
at_end t d ms xs es i m h =
    ap (λ ns. after_modules t d ns (map plain.plain_view (drop i xs)) es) (drop_of_length-le ms m)
    ∙ ap (λ ys. after_modules t d [] (map plain.plain_view ys) es) (drop_of_length-le xs h)

-- all modules are read, and nothing is left
pub all_read : (t : Tables) (d : Declared) (ms : List Words) (xs : List Plain) (es : List Decl) (i n : ℕ)
    → length ms ≤ i → length xs ≤ i → length es ≤ n
    → after_modules t d (drop i ms) (map plain.plain_view (drop i xs)) (drop n (map made.decl_tree es)) ≡ Some d
all_read t d ms xs es i n m h k =
    at_end t d ms xs (drop n (map made.decl_tree es)) i m h
    ∙ ap (λ fs. after_modules t d [] [] fs) (none_seen es n k)

-- all modules are read, and something is left
pub some_left : (t : Tables) (d : Declared) (ms : List Words) (xs : List Plain) (es : List Decl) (i n : ℕ)
    → length ms ≤ i → length xs ≤ i → n < length es
    → after_modules t d (drop i ms) (map plain.plain_view (drop i xs)) (drop n (map made.decl_tree es)) ≡ None
some_left t d ms xs [] i n m h k = absurd (omega arith)
some_left t d ms xs (e ∷ es) i n m h k =
    at_end t d ms xs (drop n (map made.decl_tree (e ∷ es))) i m h
    ∙ ap (λ fs. after_modules t d [] [] fs)
    (drop-map made.decl_tree n (e ∷ es) ∙ ap (map made.decl_tree) (drop-cons (e ∷ es) n e k))
