-- A typing under further constructor binders, and with a constructor put for a binder.
use Rattle.std.proofs.Common.{◌≡◌, ℕ, List, [], ◌∷◌, ◌++◌, map, length, slice_get, refl, ap, sym, subst, ◌∙◌, arith}
use Rattle.con_terms.specs.Trees.{Kd, Cn}
use Rattle.con_terms.specs.Substitution.{replaced, shift, moved, subst_at, put}
use Rattle.con_terms.specs.Substitution as walk
use Rattle.con_terms.specs.Apart.{Guards}
use Rattle.con_terms.specs.Kinded.{Kinded}
use Rattle.con_terms.proofs.Walks.{subst_gone}
use Rattle.core_terms.specs.Trees.{Ex}
use Rattle.core_typing.specs.Asks.{Asks, nothing_asked, kinds_asked}
use Rattle.core_typing.specs.Scopes.{Sc, under_con}
use Rattle.core_typing.specs.KindLaws.{guards_with}
use Rattle.core_typing.specs.ConSubstitution.{subst_in}
use Rattle.core_typing.specs.Grounded.{Grounded}
use Rattle.core_typing.specs.Typed.{Typed}
use Rattle.core_typing.specs.ConLaws.{scope_replaced, TypingsStayUnderBinders, ConstructorsSubstituteInTerms, TypingsSubstitute}
use Rattle.core_typing.proofs.Moving.{kinded_moved}
use Rattle.core_typing.proofs.KindsStay.{IsBound, bound_images, shift_walks, still_bound, put_walks, kinded_images, image_kinded, find, put_back, shift_none}
use Rattle.core_typing.proofs.ScopesMove.{Goes, Walked, grounded_con}
use Rattle.core_typing.proofs.TypesMove.{typed_moves}

-- the walks of the two typings
nothing_shifts : (by : ℕ) → Goes nothing_asked IsBound (moved by)
nothing_shifts by = record { images = bound_images; walks = shift_walks by; exchange = λ m x. tt; cover = λ n ds ps t x. tt }

kinds_shift : (by : ℕ) → Goes kinds_asked IsBound (moved by)
kinds_shift by = record { images = bound_images; walks = shift_walks by; exchange = λ m x. kinded_moved bound_images (shift_walks by) m x; cover = λ n ds ps t x. tt }

nothing_puts : (a : Cn) → Goes nothing_asked Kinded (put a)
nothing_puts a = record { images = kinded_images; walks = put_walks a; exchange = λ m x. tt; cover = λ n ds ps t x. tt }

kinds_put : (a : Cn) → Goes kinds_asked Kinded (put a)
kinds_put a = record { images = kinded_images; walks = put_walks a; exchange = λ m x. kinded_moved kinded_images (put_walks a) m x; cover = λ n ds ps t x. tt }

-- the scopes of the two laws
scope_shifts : (G : Sc) (inner outer new : List Kd) (called : List ℕ) → Grounded G → G.kinds.binders ≡ inner ++ outer → Walked IsBound (moved (length new)) (length inner) G (scope_replaced (moved (length new)) (length inner) (inner ++ new ++ outer) called G)
scope_shifts G inner outer new called g e = record {
  kinds = record { image = λ i k h. still_bound inner new outer i k (ap (λ bs. slice_get bs i) (sym e) ∙ h); guards = refl; basics = refl };
  locals = refl;
  tops = refl;
  datatypes = refl;
  folders = refl;
  effects = refl;
  grounded = g;
}

scope_puts : (G : Sc) (inner outer : List Kd) (called : List ℕ) (l : Kd) (a : Cn) → Grounded G → G.kinds.binders ≡ inner ++ l ∷ outer → Kinded (scope_replaced (put a) (length inner) (inner ++ outer) called G).kinds (shift (length inner) a 0) l → Walked Kinded (put a) (length inner) G (scope_replaced (put a) (length inner) (inner ++ outer) called G)
scope_puts G inner outer called l a g e h = record {
  kinds = record { image = λ i k x. image_kinded refl h (find a inner outer l i k (ap (λ bs. slice_get bs i) (sym e) ∙ x)); guards = refl; basics = refl };
  locals = refl;
  tops = refl;
  datatypes = refl;
  folders = refl;
  effects = refl;
  grounded = g;
}

pub typings_stay_under_binders : TypingsStayUnderBinders
typings_stay_under_binders = (
  λ G inner outer new called e t g b h. typed_moves (nothing_shifts (length new)) (scope_shifts G inner outer new called g b) h,
  λ G inner outer new called e t g b h. typed_moves (kinds_shift (length new)) (scope_shifts G inner outer new called g b) h,
)

pub constructors_substitute_in_terms : ConstructorsSubstituteInTerms
constructors_substitute_in_terms = (
  λ G inner outer called l a e t g b k h. typed_moves (nothing_puts a) (scope_puts G inner outer called l a g b k) h,
  λ G inner outer called l a e t g b k h. typed_moves (kinds_put a) (scope_puts G inner outer called l a g b k) h,
)

-- a constructor put for a binder that isn't mentioned
locals_back : (a : Cn) (ts : List Cn) → map (λ t. replaced (put a) t 0) (map (λ t. shift 1 t 0) ts) ≡ ts
locals_back a [] = refl
locals_back a (t ∷ ts) =
    let first : subst_at a (shift 1 t 0) 0 ≡ t = subst_gone a t 0 0 (omega arith) ∙ shift_none t in
    ap (λ x. x ∷ map (λ t. replaced (put a) t 0) (map (λ t. shift 1 t 0) ts)) first ∙ ap (λ xs. t ∷ xs) (locals_back a ts)

-- a scope with these guards and these types of variables
abbrev scope_of : Sc → Guards → List Cn → Sc
scope_of G gs ts = record { kinds = record { binders = G.kinds.binders; guards = gs; basics = G.kinds.basics }; called = G.called; locals = ts; tops = G.tops; datatypes = G.datatypes; folders = G.folders; effects = G.effects }

put_in : {A : Asks} (G : Sc) (x : ℕ) (k : Kd) (c : Cn) (e : Ex) (t : Cn) → Goes A Kinded (put c) → Grounded G → Kinded G.kinds c k → Typed A (under_con x k G) e t → Typed A G (subst_in e c) (walk.subst t c)
put_in {A} G x k c e t go g h y =
    let gs : Guards = (under_con x k G).kinds.guards in
    let guards : guards_with c 0 gs ≡ G.kinds.guards = put_back c G.kinds.guards in
    let locals : map (λ t. replaced (put c) t 0) (map (λ t. shift 1 t 0) G.locals) ≡ G.locals = locals_back c G.locals in
    let same : Kinded G.kinds (shift 0 c 0) k = subst (λ y. Kinded G.kinds y k) (sym (shift_none c)) h in
    let here : Kinded (scope_of G (guards_with c 0 gs) G.locals).kinds (shift 0 c 0) k = subst (λ hs. Kinded (scope_of G hs G.locals).kinds (shift 0 c 0) k) (sym guards) same in
    let done : Typed A (scope_replaced (put c) 0 G.kinds.binders G.called (under_con x k G)) (subst_in e c) (walk.subst t c) = typed_moves go (scope_puts (under_con x k G) [] G.kinds.binders G.called k c (grounded_con {x = x} k g) refl here) y in
    subst (λ ts. Typed A (scope_of G G.kinds.guards ts) (subst_in e c) (walk.subst t c)) locals
    (subst (λ hs. Typed A (scope_of G hs (map (λ t. replaced (put c) t 0) (map (λ t. shift 1 t 0) G.locals))) (subst_in e c) (walk.subst t c)) guards done)

pub typings_substitute : TypingsSubstitute
typings_substitute = (
  λ G x k c e t g h y. put_in G x k c e t (nothing_puts c) g h y,
  λ G x k c e t g h y. put_in G x k c e t (kinds_put c) g h y,
)
