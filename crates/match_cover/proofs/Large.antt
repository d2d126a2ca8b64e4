-- Whether a type or that of a part is too large, level by level.
use Rattle.std.proofs.Common.{◌≡◌, ℕ, zero, suc, ◌<◌, Bool, true, false, List, [], ◌∷◌, ◌++◌, length, get_or, Option, Some, None, slice_get, if◌then◌else◌, refl, ap, sym, subst, ◌∙◌, arith, ◌⊎◌, inl, inr}
use Rattle.std.specs.List.{Contains}
use Rattle.con_terms.specs.Trees.{Cn}
use Rattle.row_normal.specs.SameTree.{cn_eq}
use Rattle.row_normal.proofs.SameTrees.{cn_eq_same}
use Rattle.core_terms.specs.Trees.{Cd, Dt}
use Rattle.core_terms.specs.Datatypes.{held_at}
use Rattle.core_typing.specs.Scopes.{normal_of}
use Rattle.core_typing.specs.Seen.{Seen, a_number, a_text, a_datatype, a_record, nothing_more, seen}
use Rattle.core_typing.specs.Cover.{TooLargeIn, itself, in_held, in_field}
use Rattle.match_cover.specs.Levels.{is_among, added, add_held, add_fields, add_parts, next_level, large_among}
use Rattle.match_cover.specs.Laws.{Tells, LevelsTell}

-- one of some types
data Among (t : Cn) : List Cn → Type 0 where
  here : {ts : List Cn} → Among t (t ∷ ts)
  behind : {u : Cn} {ts : List Cn} → Among t ts → Among t (u ∷ ts)

among_end : (t : Cn) (us : List Cn) → Among t (us ++ t ∷ [])
among_end t [] = here
among_end t (u ∷ us) = behind (among_end t us)

among_more : (u t : Cn) (us : List Cn) → Among u us → Among u (us ++ t ∷ [])
among_more u t [] h = elim h [ ]
among_more u t (v ∷ us) here = here
among_more u t (v ∷ us) (behind h) = behind (among_more u t us h)

among_which : (u t : Cn) (us : List Cn) → Among u (us ++ t ∷ []) → (u ≡ t) ⊎ Among u us
among_which u t [] here = inl refl
among_which u t [] (behind h) = elim h [ ]
among_which u t (v ∷ us) here = inr here
among_which u t (v ∷ us) (behind h) = elim (among_which u t us h) [ inl e ↦ inl e | inr k ↦ inr (behind k) ]

found_step : (b : Bool) (t u : Cn) (us : List Cn) → cn_eq u t ≡ b → (is_among t us ≡ true → Among t us) → (if b then true else is_among t us) ≡ true → Among t (u ∷ us)
found_step true t u us e go h = subst (λ v. Among t (v ∷ us)) (sym (cn_eq_same u t e)) here
found_step false t u us e go h = behind (go h)

found_among : (t : Cn) (us : List Cn) → is_among t us ≡ true → Among t us
found_among t [] h = cc
found_among t (u ∷ us) h = found_step (cn_eq u t) t u us refl (found_among t us) h

-- a type that is added
added_here : (b : Bool) (t : Cn) (us : List Cn) → is_among t us ≡ b → Among t (if b then us else us ++ t ∷ [])
added_here true t us e = found_among t us e
added_here false t us e = among_end t us

added_keeps : (b : Bool) (u t : Cn) (us : List Cn) → Among u us → Among u (if b then us else us ++ t ∷ [])
added_keeps true u t us h = h
added_keeps false u t us h = among_more u t us h

added_which : (b : Bool) (u t : Cn) (us : List Cn) → Among u (if b then us else us ++ t ∷ []) → (u ≡ t) ⊎ Among u us
added_which true u t us h = inr h
added_which false u t us h = among_which u t us h

-- what constructors hold
held_keeps_at : (args : List Cn) (cs : List Cd) (u : Cn) (us : List Cn) (o : Option Cn) → Among u us → ((vs : List Cn) → Among u vs → Among u (add_held args cs vs))
    → Among u (elim o [ None ↦ add_held args cs us | Some g ↦ add_held args cs (added (held_at args g) us) ])
held_keeps_at args cs u us None h go = go us h
held_keeps_at args cs u us (Some g) h go = go (added (held_at args g) us) (added_keeps (is_among (held_at args g) us) u (held_at args g) us h)

held_keeps : (args : List Cn) (cs : List Cd) (u : Cn) (us : List Cn) → Among u us → Among u (add_held args cs us)
held_keeps args [] u us h = h
held_keeps args (c ∷ cs) u us h = held_keeps_at args cs u us c.holds h (held_keeps args cs u)

held_at_once : (args : List Cn) (c : Cd) (cs : List Cd) (us : List Cn) (g : Cn) (o : Option Cn) → o ≡ Some g → Among (held_at args g) (elim o [ None ↦ add_held args cs us | Some h ↦ add_held args cs (added (held_at args h) us) ])
held_at_once args c cs us g None e = cc
held_at_once args c cs us g (Some h) e =
    let same : h ≡ g = cc in
    held_keeps args cs (held_at args g) (added (held_at args h) us)
    (subst (λ v. Among (held_at args g) (added (held_at args v) us)) (sym same) (added_here (is_among (held_at args g) us) (held_at args g) us refl))

held_behind : (args : List Cn) (cs : List Cd) (us : List Cn) (g : Cn) (o : Option Cn) → ((vs : List Cn) → Among (held_at args g) (add_held args cs vs))
    → Among (held_at args g) (elim o [ None ↦ add_held args cs us | Some k ↦ add_held args cs (added (held_at args k) us) ])
held_behind args cs us g None go = go us
held_behind args cs us g (Some k) go = go (added (held_at args k) us)

held_there : (args : List Cn) (cs : List Cd) (us : List Cn) (j : ℕ) (c : Cd) (g : Cn) → slice_get cs j ≡ Some c → c.holds ≡ Some g → Among (held_at args g) (add_held args cs us)
held_there args [] us j c g h e = let no : None ≡ Some c = h in cc
held_there args (b ∷ cs) us zero c g h e =
    let both : Some b ≡ Some c = h in
    let same : b ≡ c = cc in
    held_at_once args b cs us g b.holds (ap (λ (x : Cd). x.holds) same ∙ e)
held_there args (b ∷ cs) us (suc j) c g h e = held_behind args cs us g b.holds (λ vs. held_there args cs vs j c g h e)

-- a part of a type in normal form
data PartOf (ds : List Dt) (n : Cn) : Cn → Type 0 where
  held_part : {x : Dt} {args : List Cn} (j : ℕ) {c : Cd} {g : Cn} → seen ds n ≡ a_datatype x args → slice_get x.constructors j ≡ Some c → c.holds ≡ Some g → PartOf ds n (held_at args g)
  field_part : {fs : List (Cn × Cn)} {x u : Cn} → seen ds n ≡ a_record fs → Contains fs (x, u) → PartOf ds n u

record HeldIn (args : List Cn) (cs : List Cd) (u : Cn) : Type 0 where
  at : ℕ
  constructor : Cd
  holds : Cn
  is_there : slice_get cs at ≡ Some constructor
  is_held : constructor.holds ≡ Some holds
  is : u ≡ held_at args holds

held_later : (args : List Cn) (b : Cd) (cs : List Cd) (u : Cn) → HeldIn args cs u → HeldIn args (b ∷ cs) u
held_later args b cs u h = record { at = suc h.at; constructor = h.constructor; holds = h.holds; is_there = h.is_there; is_held = h.is_held; is = h.is }

which_added : (args : List Cn) (c : Cd) (cs : List Cd) (u : Cn) (us : List Cn) (g : Cn) → c.holds ≡ Some g → HeldIn args cs u ⊎ Among u (added (held_at args g) us) → HeldIn args (c ∷ cs) u ⊎ Among u us
which_added args c cs u us g e (inl k) = inl (held_later args c cs u k)
which_added args c cs u us g e (inr k) = elim (added_which (is_among (held_at args g) us) u (held_at args g) us k) [
  | inl q ↦ inl (record { at = 0; constructor = c; holds = g; is_there = refl; is_held = e; is = q })
  | inr q ↦ inr q
]

which_none : (args : List Cn) (c : Cd) (cs : List Cd) (u : Cn) (us : List Cn) → HeldIn args cs u ⊎ Among u us → HeldIn args (c ∷ cs) u ⊎ Among u us
which_none args c cs u us (inl k) = inl (held_later args c cs u k)
which_none args c cs u us (inr k) = inr k

which_at : (args : List Cn) (c : Cd) (cs : List Cd) (u : Cn) (us : List Cn) (o : Option Cn) → c.holds ≡ o
    → ((vs : List Cn) → Among u (add_held args cs vs) → HeldIn args cs u ⊎ Among u vs)
    → Among u (elim o [ None ↦ add_held args cs us | Some g ↦ add_held args cs (added (held_at args g) us) ])
    → HeldIn args (c ∷ cs) u ⊎ Among u us
which_at args c cs u us None e go k = which_none args c cs u us (go us k)
which_at args c cs u us (Some g) e go k = which_added args c cs u us g e (go (added (held_at args g) us) k)

held_which : (args : List Cn) (cs : List Cd) (u : Cn) (us : List Cn) → Among u (add_held args cs us) → HeldIn args cs u ⊎ Among u us
held_which args [] u us h = inr h
held_which args (c ∷ cs) u us h = which_at args c cs u us c.holds refl (held_which args cs u) h

-- fields
fields_keep : (fs : List (Cn × Cn)) (u : Cn) (us : List Cn) → Among u us → Among u (add_fields fs us)
fields_keep [] u us h = h
fields_keep (f ∷ fs) u us h = fields_keep fs u (added f.1 us) (added_keeps (is_among f.1 us) u f.1 us h)

fields_there : (fs : List (Cn × Cn)) (us : List Cn) (k : ℕ) (p : Cn × Cn) → k < length fs → get_or fs k p ≡ p → Among p.1 (add_fields fs us)
fields_there [] us k p h e = absurd (omega (arith, h))
fields_there (f ∷ fs) us zero p h e =
    fields_keep fs p.1 (added f.1 us) (subst (λ v. Among p.1 (added v us)) (sym (ap (λ (z : Cn × Cn). z.1) e)) (added_here (is_among p.1 us) p.1 us refl))
fields_there (f ∷ fs) us (suc k) p h e = fields_there fs (added f.1 us) k p (omega (arith, h)) e

record FieldIn (fs : List (Cn × Cn)) (u : Cn) : Type 0 where
  at : ℕ
  name : Cn
  is_below : at < length fs
  is : get_or fs at (name, u) ≡ (name, u)

field_later : (f : Cn × Cn) (fs : List (Cn × Cn)) (u : Cn) → FieldIn fs u → FieldIn (f ∷ fs) u
field_later f fs u h = record { at = suc h.at; name = h.name; is_below = omega (arith, h.is_below); is = h.is }

fields_which : (fs : List (Cn × Cn)) (u : Cn) (us : List Cn) → Among u (add_fields fs us) → FieldIn fs u ⊎ Among u us
fields_which [] u us h = inr h
fields_which (f ∷ fs) u us h = elim (fields_which fs u (added f.1 us) h) [
  | inl k ↦ inl (field_later f fs u k)
  | inr k ↦ elim (added_which (is_among f.1 us) u f.1 us k) [
    | inl e ↦ inl (record { at = 0; name = f.0; is_below = omega arith; is = ap (λ v. (f.0, v)) (sym e) })
    | inr q ↦ inr q
  ]
]

-- parts
parts_keep : (w : Seen) (u : Cn) (us : List Cn) → Among u us → Among u (add_parts w us)
parts_keep a_number u us h = h
parts_keep a_text u us h = h
parts_keep (a_datatype x args) u us h = held_keeps args x.constructors u us h
parts_keep (a_record fs) u us h = fields_keep fs u us h
parts_keep nothing_more u us h = h

parts_there : (ds : List Dt) (n u : Cn) (us : List Cn) → PartOf ds n u → Among u (add_parts (seen ds n) us)
parts_there ds n u us (held_part {x = x} {args = args} j {c = c} {g = g} e h k) = subst (λ w. Among (held_at args g) (add_parts w us)) (sym e) (held_there args x.constructors us j c g h k)
parts_there ds n u us (field_part {fs = fs} {x = x} e (k, below, is)) = subst (λ w. Among u (add_parts w us)) (sym e) (fields_there fs us k (x, u) below is)

parts_which : (ds : List Dt) (n u : Cn) (us : List Cn) (w : Seen) → seen ds n ≡ w → Among u (add_parts w us) → PartOf ds n u ⊎ Among u us
parts_which ds n u us a_number e h = inr h
parts_which ds n u us a_text e h = inr h
parts_which ds n u us (a_datatype x args) e h = elim (held_which args x.constructors u us h) [
  | inl k ↦ inl (subst (λ v. PartOf ds n v) (sym k.is) (held_part k.at e k.is_there k.is_held))
  | inr k ↦ inr k
]
parts_which ds n u us (a_record fs) e h = elim (fields_which fs u us h) [
  | inl k ↦ inl (field_part e (k.at, k.is_below, k.is))
  | inr k ↦ inr k
]
parts_which ds n u us nothing_more e h = inr h

-- one level
record LargeOne (ts : List Cn) : Type 0 where
  large : Cn
  among : Among large ts
  is_large : normal_of large ≡ None

large_later : (t : Cn) (ts : List Cn) → LargeOne ts → LargeOne (t ∷ ts)
large_later t ts h = record { large = h.large; among = behind h.among; is_large = h.is_large }

none_at : (ds : List Dt) (t : Cn) (ts us : List Cn) (o : Option Cn) → normal_of t ≡ o → ((vs : List Cn) → next_level ds ts vs ≡ None → LargeOne ts)
    → ◌≡◌ {A = Option (List Cn)} (elim o [ None ↦ None | Some n ↦ next_level ds ts (add_parts (seen ds n) us) ]) None → LargeOne (t ∷ ts)
none_at ds t ts us None e go k = record { large = t; among = here; is_large = e }
none_at ds t ts us (Some n) e go k = large_later t ts (go (add_parts (seen ds n) us) k)

level_none : (ds : List Dt) (ts us : List Cn) → next_level ds ts us ≡ None → LargeOne ts
level_none ds [] us h = let no : Some us ≡ None = h in cc
level_none ds (t ∷ ts) us h = none_at ds t ts us (normal_of t) refl (level_none ds ts) h

-- a part of one of the types
record PartAmong (ds : List Dt) (ts : List Cn) (u : Cn) : Type 0 where
  whole : Cn
  form : Cn
  among : Among whole ts
  normal : normal_of whole ≡ Some form
  part : PartOf ds form u

part_later : (ds : List Dt) (t : Cn) (ts : List Cn) (u : Cn) → PartAmong ds ts u → PartAmong ds (t ∷ ts) u
part_later ds t ts u h = record { whole = h.whole; form = h.form; among = behind h.among; normal = h.normal; part = h.part }

keeps_at : (ds : List Dt) (ts us vs : List Cn) (u : Cn) (o : Option Cn) → Among u us → ((ws : List Cn) → next_level ds ts ws ≡ Some vs → Among u ws → Among u vs)
    → elim o [ None ↦ None | Some n ↦ next_level ds ts (add_parts (seen ds n) us) ] ≡ Some vs → Among u vs
keeps_at ds ts us vs u None k go e = cc
keeps_at ds ts us vs u (Some n) k go e = go (add_parts (seen ds n) us) e (parts_keep (seen ds n) u us k)

level_keeps : (ds : List Dt) (ts us vs : List Cn) (u : Cn) → next_level ds ts us ≡ Some vs → Among u us → Among u vs
level_keeps ds [] us vs u h k = let both : Some us ≡ Some vs = h in let same : us ≡ vs = cc in subst (λ ws. Among u ws) same k
level_keeps ds (t ∷ ts) us vs u h k = keeps_at ds ts us vs u (normal_of t) k (λ ws. level_keeps ds ts ws vs u) h

there_at : (ds : List Dt) (ts us vs : List Cn) (n u : Cn) (o : Option Cn) → PartOf ds n u → o ≡ Some n
    → elim o [ None ↦ None | Some m ↦ next_level ds ts (add_parts (seen ds m) us) ] ≡ Some vs → Among u vs
there_at ds ts us vs n u None p q k = cc
there_at ds ts us vs n u (Some m) p q k =
    let same : m ≡ n = cc in
    level_keeps ds ts (add_parts (seen ds m) us) vs u k (subst (λ v. Among u (add_parts (seen ds v) us)) (sym same) (parts_there ds n u us p))

behind_at : (ds : List Dt) (ts us vs : List Cn) (u : Cn) (o : Option Cn) → ((ws : List Cn) → next_level ds ts ws ≡ Some vs → Among u vs)
    → elim o [ None ↦ None | Some m ↦ next_level ds ts (add_parts (seen ds m) us) ] ≡ Some vs → Among u vs
behind_at ds ts us vs u None go q = cc
behind_at ds ts us vs u (Some m) go q = go (add_parts (seen ds m) us) q

level_there : (ds : List Dt) (ts us vs : List Cn) (t n u : Cn) → next_level ds ts us ≡ Some vs → Among t ts → normal_of t ≡ Some n → PartOf ds n u → Among u vs
level_there ds [] us vs t n u h k e p = elim k [ ]
level_there ds (b ∷ ts) us vs t n u h here e p = there_at ds ts us vs n u (normal_of t) p e h
level_there ds (b ∷ ts) us vs t n u h (behind k) e p = behind_at ds ts us vs u (normal_of b) (λ ws q. level_there ds ts ws vs t n u q k e p) h

small_at : (ds : List Dt) (ts us vs : List Cn) (o : Option Cn) → o ≡ None → elim o [ None ↦ None | Some m ↦ next_level ds ts (add_parts (seen ds m) us) ] ≡ Some vs → ⊥
small_at ds ts us vs None q k = cc
small_at ds ts us vs (Some m) q k = cc

small_behind : (ds : List Dt) (ts us vs : List Cn) (o : Option Cn) → ((ws : List Cn) → next_level ds ts ws ≡ Some vs → ⊥) → elim o [ None ↦ None | Some m ↦ next_level ds ts (add_parts (seen ds m) us) ] ≡ Some vs → ⊥
small_behind ds ts us vs None go q = cc
small_behind ds ts us vs (Some m) go q = go (add_parts (seen ds m) us) q

level_small : (ds : List Dt) (ts us vs : List Cn) (t : Cn) → next_level ds ts us ≡ Some vs → Among t ts → normal_of t ≡ None → ⊥
level_small ds [] us vs t h k e = elim k [ ]
level_small ds (b ∷ ts) us vs t h here e = small_at ds ts us vs (normal_of t) e h
level_small ds (b ∷ ts) us vs t h (behind k) e = small_behind ds ts us vs (normal_of b) (λ ws q. level_small ds ts ws vs t q k e) h

which_part : (ds : List Dt) (t : Cn) (ts us : List Cn) (u n : Cn) → normal_of t ≡ Some n → PartAmong ds ts u ⊎ Among u (add_parts (seen ds n) us) → PartAmong ds (t ∷ ts) u ⊎ Among u us
which_part ds t ts us u n e (inl p) = inl (part_later ds t ts u p)
which_part ds t ts us u n e (inr p) = elim (parts_which ds n u us (seen ds n) refl p) [
  | inl q ↦ inl (record { whole = t; form = n; among = here; normal = e; part = q })
  | inr q ↦ inr q
]

which_level : (ds : List Dt) (t : Cn) (ts us vs : List Cn) (u : Cn) (o : Option Cn) → normal_of t ≡ o
    → ((ws : List Cn) → next_level ds ts ws ≡ Some vs → PartAmong ds ts u ⊎ Among u ws)
    → elim o [ None ↦ None | Some n ↦ next_level ds ts (add_parts (seen ds n) us) ] ≡ Some vs → PartAmong ds (t ∷ ts) u ⊎ Among u us
which_level ds t ts us vs u None e go q = cc
which_level ds t ts us vs u (Some n) e go q = which_part ds t ts us u n e (go (add_parts (seen ds n) us) q)

level_which : (ds : List Dt) (ts us vs : List Cn) (u : Cn) → next_level ds ts us ≡ Some vs → Among u vs → PartAmong ds ts u ⊎ Among u us
level_which ds [] us vs u h k = let both : Some us ≡ Some vs = h in let same : us ≡ vs = cc in inr (subst (λ ws. Among u ws) (sym same) k)
level_which ds (t ∷ ts) us vs u h k = which_level ds t ts us vs u (normal_of t) refl (λ ws q. level_which ds ts ws vs u q k) h

-- all levels
record LargeAmong (ds : List Dt) (d : ℕ) (ts : List Cn) : Type 0 where
  whole : Cn
  among : Among whole ts
  is_large : TooLargeIn ds d whole

abbrev Told : List Dt → ℕ → List Cn → Bool → Type 0
Told ds d ts true = LargeAmong ds d ts
Told ds d ts false = (t : Cn) → Among t ts → TooLargeIn ds d t → ⊥

part_large : (ds : List Dt) (d : ℕ) (t n u : Cn) → normal_of t ≡ Some n → PartOf ds n u → TooLargeIn ds d u → TooLargeIn ds (suc d) t
part_large ds d t n u h (held_part j e i k) p = in_held j h e i k p
part_large ds d t n u h (field_part {x = x} e i) p = in_field x h e i p

whole_large : (ds : List Dt) (d : ℕ) (ts vs : List Cn) → next_level ds ts [] ≡ Some vs → LargeAmong ds d vs → LargeAmong ds (suc d) ts
whole_large ds d ts vs h k = large_of (level_which ds ts [] vs k.whole h k.among)
  where
    large_of : PartAmong ds ts k.whole ⊎ Among k.whole [] → LargeAmong ds (suc d) ts
    large_of (inl p) = record { whole = p.whole; among = p.among; is_large = part_large ds d p.whole p.form k.whole p.normal p.part k.is_large }
    large_of (inr p) = elim p [ ]

none_large : (ds : List Dt) (d : ℕ) (ts vs : List Cn) → next_level ds ts [] ≡ Some vs → ((u : Cn) → Among u vs → TooLargeIn ds d u → ⊥) → (t : Cn) → Among t ts → TooLargeIn ds (suc d) t → ⊥
none_large ds d ts vs h go t k (itself e) = level_small ds ts [] vs t h k e
none_large ds d ts vs h go t k (in_held j {n = n} {held = g} {args = args} e f i q p) = go (held_at args g) (level_there ds ts [] vs t n (held_at args g) h k e (held_part j f i q)) p
none_large ds d ts vs h go t k (in_field x {n = n} {u = u} e f i p) = go u (level_there ds ts [] vs t n u h k e (field_part f i)) p

told_next : (ds : List Dt) (d : ℕ) (ts vs : List Cn) (b : Bool) → next_level ds ts [] ≡ Some vs → Told ds d vs b → Told ds (suc d) ts b
told_next ds d ts vs true h k = whole_large ds d ts vs h k
told_next ds d ts vs false h k = none_large ds d ts vs h k

told_at : (ds : List Dt) (d : ℕ) (ts : List Cn) (o : Option (List Cn)) → ((vs : List Cn) → Told ds d vs (large_among ds d vs)) → next_level ds ts [] ≡ o
    → Told ds (suc d) ts (elim o [ None ↦ true | Some us ↦ large_among ds d us ])
told_at ds d ts None go h = let one = level_none ds ts [] h in record { whole = one.large; among = one.among; is_large = itself one.is_large }
told_at ds d ts (Some vs) go h = told_next ds d ts vs (large_among ds d vs) h (go vs)

none_at_zero : (ds : List Dt) (t : Cn) → TooLargeIn ds zero t → ⊥
none_at_zero ds t h = elim h [ ]

told : (ds : List Dt) (d : ℕ) (ts : List Cn) → Told ds d ts (large_among ds d ts)
told ds zero ts = λ t k h. none_at_zero ds t h
told ds (suc d) ts = told_at ds d ts (next_level ds ts []) (told ds d) refl

one_type : (ds : List Dt) (d : ℕ) (t : Cn) (b : Bool) → Told ds d (t ∷ []) b → Tells ds d t b
one_type ds d t true h = large_one h.whole h.among h.is_large
  where
    large_one : (u : Cn) → Among u (t ∷ []) → TooLargeIn ds d u → TooLargeIn ds d t
    large_one u here p = p
    large_one u (behind k) p = elim k [ ]
one_type ds d t false h = h t here

pub levels_tell : LevelsTell
levels_tell ds d t = one_type ds d t (large_among ds d (t ∷ [])) (told ds d (t ∷ []))
