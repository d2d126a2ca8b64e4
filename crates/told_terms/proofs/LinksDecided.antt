-- Whether links are calls with arguments that travel is decided: the datatypes that links carry are marked, beginning
-- with all of them, and taking away those that hold more than the marked ones carry, until none is taken away.
use Rattle.std.proofs.Common.{◌≡◌, ℕ, zero, suc, ◌<◌, Bool, true, false, List, [], ◌∷◌, length, get_or, Option, Some, None, slice_get, refl, ap, sym, ◌∙◌, subst, arith, ◌⊎◌, inl, inr}
use Rattle.con_terms.specs.Trees.{Cn}
use Rattle.xml_trees.specs.declared.source_name.AttrName.TheVariants as attr
use Rattle.core_terms.specs.Trees.{Ex, Cd, Dt, arity}
use Rattle.core_typing.specs.Scopes.{Sc}
use Rattle.core_typing.specs.Typed.{IsLinked, as_title, as_href, as_src, as_alt, as_border, as_value, as_size}
use Rattle.core_typing.specs.FaultLaws.{LinksAreDecided}
use Rattle.carried_types.specs.Built.{both, held_by, holds_by, built, nested, stays, or_no}
use Rattle.carried_types.specs.Carriers.{NoneElse, AreCarriers, MarkedAnew}
use Rattle.carried_types.proofs.Marks.{none_else_next, none_else_first, settled}
use Rattle.markup_rules.specs.Links.{is_linked}
use Rattle.markup_rules.proofs.Basics.{some_none}
use Rattle.told_terms.proofs.Room.{room_enough}
use Rattle.told_terms.proofs.Links.{name_of, linked_so, linked_is}

-- an answer is given for each datatype
both_answer : (a b : Option Bool) → (a ≡ None → ⊥) → (b ≡ None → ⊥) → both a b ≡ None → ⊥
both_answer None b f g h = f refl
both_answer (Some false) b f g h = some_none h
both_answer (Some true) b f g h = g h

held_answer : (f : Cn → Option Bool) (o : Option Cn) → ((t : Cn) → f t ≡ None → ⊥) → held_by f o ≡ None → ⊥
held_answer f None go h = some_none h
held_answer f (Some t) go h = go t h

holds_answer : (f : Cn → Option Bool) (cs : List Cd) → ((t : Cn) → f t ≡ None → ⊥) → holds_by f cs ≡ None → ⊥
holds_answer f [] go h = some_none h
holds_answer f (c ∷ cs) go h = both_answer (held_by f c.holds) (holds_by f cs) (held_answer f c.holds go) (holds_answer f cs go) h

stays_answer : (ds : List Dt) (bs : List Bool) (b : Bool) (d : Dt) → stays ds bs b d ≡ None → ⊥
stays_answer ds bs false d h = some_none h
stays_answer ds bs true d h = holds_answer (built nested ds bs (arity d)) d.constructors (λ t e. room_enough ds bs (arity d) t e) h

is_answer : (o : Option Bool) → (o ≡ None → ⊥) → o ≡ Some (or_no o)
is_answer None h = absurd (h refl)
is_answer (Some b) h = refl

-- marks, one a place
abbrev marks : (ℕ → Bool) → ℕ → List Bool
marks f zero = []
marks f (suc n) = f 0 ∷ marks (λ i. f (suc i)) n

marks_at : (f : ℕ → Bool) (n j : ℕ) → j < n → get_or (marks f n) j false ≡ f j
marks_at f zero j h = absurd (omega (arith, h))
marks_at f (suc n) zero h = refl
marks_at f (suc n) (suc j) h = marks_at (λ i. f (suc i)) n j (omega (arith, h))

-- marked anew
abbrev stays_at : List Dt → List Bool → Bool → Option Dt → Bool
stays_at ds old b None = false
stays_at ds old b (Some d) = or_no (stays ds old b d)

abbrev anew : List Dt → List Bool → ℕ → Bool
anew ds old j = stays_at ds old (get_or old j false) (slice_get ds j)

abbrev next : List Dt → List Bool → List Bool
next ds old = marks (anew ds old) (length ds)

next_is : (ds : List Dt) (old : List Bool) → MarkedAnew ds old (length ds) (next ds old)
next_is ds old j d h at =
    is_answer (stays ds old (get_or old j false) d) (stays_answer ds old (get_or old j false) d)
    ∙ ap (λ (b : Bool). Some b) (sym (marks_at (anew ds old) (length ds) j h ∙ ap (stays_at ds old (get_or old j false)) at))

none_new : (ds : List Dt) (old : List Bool) (b : Bool) (o : Option Dt) → stays_at ds old b o ≡ true → b ≡ true
none_new ds old true o h = refl
none_new ds old false None h = h
none_new ds old false (Some d) h = h

-- how many are marked
abbrev counted : Bool → ℕ → ℕ
counted true n = suc n
counted false n = n

abbrev marked : (ℕ → Bool) → ℕ → ℕ
marked g zero = 0
marked g (suc n) = counted (g n) (marked g n)

-- the same are marked, or fewer
data Fewer (g h : ℕ → Bool) (n : ℕ) : Type 0 where
  the_same : ((j : ℕ) → j < n → h j ≡ g j) → marked h n ≡ marked g n → Fewer g h n
  are_fewer : marked h n < marked g n → Fewer g h n

same_or_less : (j n : ℕ) → j < suc n → (j ≡ n) ⊎ (j < n)
same_or_less zero zero k = inl refl
same_or_less zero (suc n) k = inr (omega arith)
same_or_less (suc j) zero k = absurd (omega (arith, k))
same_or_less (suc j) (suc n) k = elim (same_or_less j n (omega (arith, k))) [ inl e ↦ inl (ap suc e) | inr l ↦ inr (omega (arith, l)) ]

last_by : (g h : ℕ → Bool) (n j : ℕ) → h n ≡ g n → ((i : ℕ) → i < n → h i ≡ g i) → (j ≡ n) ⊎ (j < n) → h j ≡ g j
last_by g h n j e all (inl m) = subst (λ (z : ℕ). h z ≡ g z) (sym m) e
last_by g h n j e all (inr l) = all j l

last_or : (g h : ℕ → Bool) (n : ℕ) → h n ≡ g n → ((j : ℕ) → j < n → h j ≡ g j) → (j : ℕ) → j < suc n → h j ≡ g j
last_or g h n e all j k = last_by g h n j e all (same_or_less j n k)

same_count : (g h : ℕ → Bool) (n : ℕ) (b c : Bool) → h n ≡ b → g n ≡ c → (b ≡ true → c ≡ true) → Fewer g h n → Fewer g h (suc n)
same_count g h n true true e k m (the_same all s) = the_same (last_or g h n (e ∙ sym k) all) (ap (λ (b : Bool). counted b (marked h n)) e ∙ ap suc s ∙ sym (ap (λ (b : Bool). counted b (marked g n)) k))
same_count g h n true true e k m (are_fewer l) =
    are_fewer (let x = ap (λ (b : Bool). counted b (marked h n)) e in let y = ap (λ (b : Bool). counted b (marked g n)) k in omega (arith, x, y, l))
same_count g h n false false e k m (the_same all s) = the_same (last_or g h n (e ∙ sym k) all) (ap (λ (b : Bool). counted b (marked h n)) e ∙ s ∙ sym (ap (λ (b : Bool). counted b (marked g n)) k))
same_count g h n false false e k m (are_fewer l) =
    are_fewer (let x = ap (λ (b : Bool). counted b (marked h n)) e in let y = ap (λ (b : Bool). counted b (marked g n)) k in omega (arith, x, y, l))
same_count g h n false true e k m (the_same all s) =
    are_fewer (let x = ap (λ (b : Bool). counted b (marked h n)) e in let y = ap (λ (b : Bool). counted b (marked g n)) k in omega (arith, x, y, s))
same_count g h n false true e k m (are_fewer l) =
    are_fewer (let x = ap (λ (b : Bool). counted b (marked h n)) e in let y = ap (λ (b : Bool). counted b (marked g n)) k in omega (arith, x, y, l))
same_count g h n true false e k m f = let x : false ≡ true = m refl in cc

fewer : (g h : ℕ → Bool) (n : ℕ) → ((j : ℕ) → j < n → h j ≡ true → g j ≡ true) → Fewer g h n
fewer g h zero m = the_same (λ j k. absurd (omega (arith, k))) refl
fewer g h (suc n) m =
    same_count g h n (h n) (g n) refl refl (m n (omega arith)) (fewer g h n (λ j k e. m j (omega (arith, k)) e))

abbrev mark_of : List Bool → ℕ → Bool
mark_of bs j = get_or bs j false

next_fewer : (ds : List Dt) (old : List Bool) → Fewer (mark_of old) (mark_of (next ds old)) (length ds)
next_fewer ds old =
    fewer (mark_of old) (mark_of (next ds old)) (length ds)
    (λ j k e. none_new ds old (get_or old j false) (slice_get ds j) (sym (marks_at (anew ds old) (length ds) j k) ∙ e))

-- the marks of what links carry
settle_by : (ds : List Dt) (old : List Bool) (most : ℕ) → ((new : List Bool) → marked (mark_of new) (length ds) < most → NoneElse ds new → (bs : List Bool) × AreCarriers ds bs)
    → marked (mark_of old) (length ds) < suc most → NoneElse ds old → Fewer (mark_of old) (mark_of (next ds old)) (length ds) → (bs : List Bool) × AreCarriers ds bs
settle_by ds old most go h g (the_same all s) = (old, settled ds old (next ds old) g (next_is ds old) all)
settle_by ds old most go h g (are_fewer l) = go (next ds old) (omega (arith, h, l)) (none_else_next ds old (next ds old) g (next_is ds old))

settle : (most : ℕ) (ds : List Dt) (old : List Bool) → marked (mark_of old) (length ds) < most → NoneElse ds old → (bs : List Bool) × AreCarriers ds bs
settle zero ds old h g = absurd (omega (arith, h))
settle (suc most) ds old h g = settle_by ds old most (λ new k f. settle most ds new k f) h g (next_fewer ds old)

pub some_carriers : (ds : List Dt) → (bs : List Bool) × AreCarriers ds bs
some_carriers ds =
    let all = marks (λ j. true) (length ds) in
    settle (suc (marked (mark_of all) (length ds))) ds all (omega arith) (none_else_first ds all (λ j h. marks_at (λ i. true) (length ds) j h))

-- a link or an action
by_linked : (G : Sc) (bs : List Bool) (action : Bool) (e : Ex) (b : Bool) → AreCarriers G.datatypes bs → is_linked G.tops G.datatypes bs action e ≡ b → IsLinked G (name_of action) e ⊎ (IsLinked G (name_of action) e → ⊥)
by_linked G bs action e true m h = inl (linked_is G bs action e m h)
by_linked G bs action e false m h = inr (λ x. let k = linked_so G bs action e m x in never (sym h ∙ k))
  where
    never : false ≡ true → ⊥
    never k = cc

called : (G : Sc) (action : Bool) (e : Ex) → IsLinked G (name_of action) e ⊎ (IsLinked G (name_of action) e → ⊥)
called G action e = let (bs, m) = some_carriers G.datatypes in by_linked G bs action e (is_linked G.tops G.datatypes bs action e) m refl

pub links_decided : LinksAreDecided
links_decided G attr.Link e = called G false e
links_decided G attr.Action e = called G true e
links_decided G attr.Title e = inl as_title
links_decided G attr.Href e = inl as_href
links_decided G attr.Src e = inl as_src
links_decided G attr.Alt e = inl as_alt
links_decided G attr.Border e = inl as_border
links_decided G attr.Value e = inl as_value
links_decided G attr.Size e = inl as_size
