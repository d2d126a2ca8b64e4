-- Marks of the values that links and actions call.
use Rattle.std.proofs.Common.{◌≡◌, ℕ, zero, suc, ◌+◌, ◌<◌, ◌≤◌, Bool, true, false, List, [], ◌∷◌, ◌++◌, length, map, get_or, set, drop, drop_of_length-le, refl, ap, sym, ◌∙◌, subst, arith, ◌⊎◌, inl, inr}
use Rattle.std.specs.Bool.{Decides}
use Rattle.std.specs.List.{Contains, flat_map}
use Rattle.std.proofs.lemmas.Grind.{flat_map-append}
use Rattle.std.proofs.lemmas.List.{append-nil}
use Rattle.core_terms.specs.Trees.{De, val, vals, con_is, datatype, thing, Nms, no_named, named}
use Rattle.core_typing.specs.Declarations.{Value, values, named_values}
use Rattle.core_typing.specs.Targets.{Target, targets, named_targets}
use Rattle.core_typing.specs.Entries.{body_targets}
use Rattle.carried_types.proofs.Places.{here, there, not_in_none, one_of}
use Rattle.site_routes.specs.Marking.{Marks, mark_one, mark_all, marks_of, decl_targets, Unmarked, TellsTargets, mark_numbers, TellsNumbers}
use Rattle.site_routes.proofs.Steps.{open_at}
use Rattle.site_routes.proofs.Names.{values_more}

-- one after another
pub mark_append : (a b : List Target) (m : Marks) → mark_all (a ++ b) m ≡ mark_all b (mark_all a m)
mark_append [] b m = refl
mark_append (t ∷ a) b m = mark_append a b (mark_one t m)

pub marked_twice : (a b : List Target) (m n o : Marks) → n ≡ mark_all a m → o ≡ mark_all b n → o ≡ mark_all (a ++ b) m
marked_twice a b m n o p q = q ∙ ap (mark_all b) p ∙ sym (mark_append a b m)

pub marked_thrice : (a b c : List Target) (m n o r : Marks) → n ≡ mark_all a m → o ≡ mark_all b n → r ≡ mark_all c o → r ≡ mark_all (a ++ b ++ c) m
marked_thrice a b c m n o r p q s = marked_twice (a ++ b) c m o r (marked_twice a b m n o p q) s

pub marked_on : {X : Type 0} (g : List X → List Target) (each : X → List Target) → ((x : X) (ys : List X) → g (x ∷ ys) ≡ each x ++ g ys) →
    (xs : List X) (i : ℕ) (x : X) (m n all : Marks) → x ≡ get_or xs i x → i < length xs → n ≡ mark_all (each x) m →
    mark_all (g (drop i xs)) m ≡ all → mark_all (g (drop (i + 1) xs)) n ≡ all
marked_on g each split xs i x m n all e h p k =
    ap (mark_all (g (drop (i + 1) xs))) p ∙ sym (mark_append (each x) (g (drop (i + 1) xs)) m)
    ∙ ap (λ ts. mark_all ts m) (sym (split x (drop (i + 1) xs))) ∙ ap (λ ys. mark_all (g ys) m) (sym (open_at xs i x e h)) ∙ k

pub marked_end : {X : Type 0} (g : List X → List Target) → g [] ≡ [] → (xs : List X) (i : ℕ) (m all : Marks) → length xs ≤ i → mark_all (g (drop i xs)) m ≡ all → m ≡ all
marked_end g none xs i m all h k = sym (ap (λ ts. mark_all ts m) (ap g (drop_of_length-le xs h) ∙ none)) ∙ k

-- marks in a list
set_keeps : (bs : List Bool) (j i : ℕ) → get_or bs i false ≡ true → get_or (set bs j true) i false ≡ true
set_keeps [] j i h = h
set_keeps (b ∷ bs) zero zero h = refl
set_keeps (b ∷ bs) zero (suc i) h = h
set_keeps (b ∷ bs) (suc j) zero h = h
set_keeps (b ∷ bs) (suc j) (suc i) h = set_keeps bs j i h

set_only : (bs : List Bool) (j i : ℕ) → get_or (set bs j true) i false ≡ true → (get_or bs i false ≡ true) ⊎ (j ≡ i)
set_only [] j i h = inl h
set_only (b ∷ bs) zero zero h = inr refl
set_only (b ∷ bs) zero (suc i) h = inl h
set_only (b ∷ bs) (suc j) zero h = inl h
set_only (b ∷ bs) (suc j) (suc i) h = elim (set_only bs j i h) [ inl a ↦ inl a | inr e ↦ inr (ap suc e) ]

set_there : (bs : List Bool) (i : ℕ) → i < length bs → get_or (set bs i true) i false ≡ true
set_there [] i h = absurd (omega arith)
set_there (b ∷ bs) zero h = refl
set_there (b ∷ bs) (suc i) h = set_there bs i (omega arith)

set_length : (bs : List Bool) (i : ℕ) → length (set bs i true) ≡ length bs
set_length [] i = refl
set_length (b ∷ bs) zero = refl
set_length (b ∷ bs) (suc i) = ap suc (set_length bs i)

-- marks of both kinds
one_length : (t : Target) (post : Bool) (m : Marks) → length (marks_of post (mark_one t m)) ≡ length (marks_of post m)
one_length (true, j) true m = set_length m.1 j
one_length (true, j) false m = refl
one_length (false, j) true m = refl
one_length (false, j) false m = set_length m.0 j

one_keeps : (t : Target) (post : Bool) (i : ℕ) (m : Marks) → get_or (marks_of post m) i false ≡ true → get_or (marks_of post (mark_one t m)) i false ≡ true
one_keeps (true, j) true i m h = set_keeps m.1 j i h
one_keeps (true, j) false i m h = h
one_keeps (false, j) true i m h = h
one_keeps (false, j) false i m h = set_keeps m.0 j i h

one_only : (t : Target) (post : Bool) (i : ℕ) (m : Marks) → get_or (marks_of post (mark_one t m)) i false ≡ true → (get_or (marks_of post m) i false ≡ true) ⊎ (t ≡ (post, i))
one_only (true, j) true i m h = elim (set_only m.1 j i h) [ inl a ↦ inl a | inr e ↦ inr (ap (λ (z : ℕ). (true, z)) e) ]
one_only (true, j) false i m h = inl h
one_only (false, j) true i m h = inl h
one_only (false, j) false i m h = elim (set_only m.0 j i h) [ inl a ↦ inl a | inr e ↦ inr (ap (λ (z : ℕ). (false, z)) e) ]

one_there : (post : Bool) (i : ℕ) (m : Marks) → i < length (marks_of post m) → get_or (marks_of post (mark_one (post, i) m)) i false ≡ true
one_there true i m h = set_there m.1 i h
one_there false i m h = set_there m.0 i h

all_keep : (ts : List Target) (post : Bool) (i : ℕ) (m : Marks) → get_or (marks_of post m) i false ≡ true → get_or (marks_of post (mark_all ts m)) i false ≡ true
all_keep [] post i m h = h
all_keep (t ∷ ts) post i m h = all_keep ts post i (mark_one t m) (one_keeps t post i m h)

all_only : (ts : List Target) (post : Bool) (i : ℕ) (m : Marks) → get_or (marks_of post (mark_all ts m)) i false ≡ true → (get_or (marks_of post m) i false ≡ true) ⊎ Contains ts (post, i)
all_only [] post i m h = inl h
all_only (t ∷ ts) post i m h = elim (all_only ts post i (mark_one t m) h) [
  | inl a ↦ elim (one_only t post i m a) [ inl b ↦ inl b | inr e ↦ inr (subst (λ (z : Target). Contains (t ∷ ts) z) e (here t ts)) ]
  | inr c ↦ inr (there t (post, i) ts c)
]

all_there : (ts : List Target) (post : Bool) (i : ℕ) (m : Marks) → i < length (marks_of post m) → Contains ts (post, i) → get_or (marks_of post (mark_all ts m)) i false ≡ true
all_there [] post i m h c = absurd (not_in_none (post, i) c)
all_there (t ∷ ts) post i m h c = one_of (get_or (marks_of post (mark_all (t ∷ ts) m)) i false ≡ true) t (post, i) ts c
    (λ e. all_keep ts post i (mark_one t m) (subst (λ (z : Target). get_or (marks_of post (mark_one z m)) i false ≡ true) (sym e) (one_there post i m h)))
    (λ d. all_there ts post i (mark_one t m) (let l = one_length t post m in omega (arith, l)) d)

length_of : (n : ℕ) (post : Bool) (m : Marks) → Unmarked n m → length (marks_of post m) ≡ n
length_of n true m u = u.actions
length_of n false m u = u.links

none_marked : (n : ℕ) (post : Bool) (i : ℕ) (m : Marks) → Unmarked n m → get_or (marks_of post m) i false ≡ true → ⊥
none_marked n true i m u h = let e = u.no_action i in cc
none_marked n false i m u h = let e = u.no_link i in cc

pub marks_tell : (n : ℕ) (ts : List Target) (old new : Marks) → Unmarked n old → new ≡ mark_all ts old → TellsTargets n ts new
marks_tell n ts old new u e post i h =
    let l = length_of n post old u in (
      λ t. elim (all_only ts post i old (ap (λ (m : Marks). get_or (marks_of post m) i false) (sym e) ∙ t)) [ inl a ↦ absurd (none_marked n post i old u a) | inr c ↦ c ],
      λ c. ap (λ (m : Marks). get_or (marks_of post m) i false) e ∙ all_there ts post i old (omega (arith, l)) c,
    )

-- the targets of declarations are those of their values
flat_append : {X A : Type 0} (f : X → List A) (xs ys : List X) → flat_map f (xs ++ ys) ≡ flat_map f xs ++ flat_map f ys
flat_append f xs ys = flat_map-append f xs ys

named_same : (path : List ℕ) (ns : Nms) → named_targets ns ≡ flat_map (λ (v : Value). body_targets v.body) (named_values path ns)
named_same path no_named = refl
named_same path (named p x w t e ns) = ap (λ (ts : List Target). targets e ++ ts) (named_same path ns)

one_same : (d : De) → decl_targets d ≡ flat_map (λ (v : Value). body_targets v.body) (values (d ∷ []))
one_same (val path p x w t e) = sym (append-nil (targets e))
one_same (vals path ns) = named_same path ns ∙ ap (flat_map (λ (v : Value). body_targets v.body)) (sym (append-nil (named_values path ns)))
one_same (con_is path p x w k c) = refl
one_same (datatype d) = refl
one_same (thing path p x k t) = refl

pub targets_same : (ds : List De) → flat_map decl_targets ds ≡ flat_map (λ (v : Value). body_targets v.body) (values ds)
targets_same [] = refl
targets_same (d ∷ ds) =
    ap (λ (ts : List Target). ts ++ flat_map decl_targets ds) (one_same d)
    ∙ ap (λ (ts : List Target). flat_map (λ (v : Value). body_targets v.body) (values (d ∷ [])) ++ ts) (targets_same ds)
    ∙ sym (flat_append (λ (v : Value). body_targets v.body) (values (d ∷ [])) (values ds))
    ∙ ap (flat_map (λ (v : Value). body_targets v.body)) (sym (values_more d ds))

-- the marks of numbers
numbers_keep : (es : List ℕ) (i : ℕ) (m : List Bool) → get_or m i false ≡ true → get_or (mark_numbers es m) i false ≡ true
numbers_keep [] i m h = h
numbers_keep (e ∷ es) i m h = numbers_keep es i (set m e true) (set_keeps m e i h)

numbers_only : (es : List ℕ) (i : ℕ) (m : List Bool) → get_or (mark_numbers es m) i false ≡ true → (get_or m i false ≡ true) ⊎ Contains es i
numbers_only [] i m h = inl h
numbers_only (e ∷ es) i m h = elim (numbers_only es i (set m e true) h) [
  | inl a ↦ elim (set_only m e i a) [ inl b ↦ inl b | inr same ↦ inr (subst (λ (z : ℕ). Contains (e ∷ es) z) same (here e es)) ]
  | inr c ↦ inr (there e i es c)
]

numbers_there : (es : List ℕ) (i : ℕ) (m : List Bool) → i < length m → Contains es i → get_or (mark_numbers es m) i false ≡ true
numbers_there [] i m h c = absurd (not_in_none i c)
numbers_there (e ∷ es) i m h c = one_of (get_or (mark_numbers (e ∷ es) m) i false ≡ true) e i es c
    (λ same. numbers_keep es i (set m e true) (subst (λ (z : ℕ). get_or (set m z true) i false ≡ true) (sym same) (set_there m i h)))
    (λ d. numbers_there es i (set m e true) (let l = set_length m e in omega (arith, l)) d)

pub numbers_tell : (n : ℕ) (es : List ℕ) (old new : List Bool) → length old ≡ n → ((j : ℕ) → get_or old j false ≡ false) →
    new ≡ mark_numbers es old → TellsNumbers n es new
numbers_tell n es old new len off e i h = (
  λ t. elim (numbers_only es i old (ap (λ (m : List Bool). get_or m i false) (sym e) ∙ t)) [ inl a ↦ (let z = off i in absurd (cc)) | inr c ↦ c ],
  λ c. ap (λ (m : List Bool). get_or m i false) e ∙ numbers_there es i old (omega (arith, len)) c,
)

pub numbers_on : (es : List ℕ) (e x : ℕ) (m new all : List Bool) → x ≡ get_or es e x → e < length es → new ≡ set m x true →
    mark_numbers (drop e es) m ≡ all → mark_numbers (drop (e + 1) es) new ≡ all
numbers_on es e x m new all is h p k =
    ap (mark_numbers (drop (e + 1) es)) p ∙ ap (λ (ys : List ℕ). mark_numbers ys m) (sym (open_at es e x is h)) ∙ k

pub numbers_end : (es : List ℕ) (e : ℕ) (m all : List Bool) → length es ≤ e → mark_numbers (drop e es) m ≡ all → m ≡ all
numbers_end es e m all h k = sym (ap (λ (ys : List ℕ). mark_numbers ys m) (drop_of_length-le es h)) ∙ k
