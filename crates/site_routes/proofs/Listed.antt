-- The entries of a program's values, one value after another.
use Rattle.std.proofs.Common.{◌≡◌, ℕ, zero, suc, ◌+◌, ◌<◌, ◌≤◌, Bool, true, false, List, [], ◌∷◌, ◌++◌, length, map, get_or, drop, Option, Some, None, Result, Ok, Err, OnOk, option_map, slice_get, refl, ap, sym, ◌∙◌, subst, arith, ◌⊎◌, inl, inr, drop-cons, drop_of_length-le}
use Rattle.std.specs.Bool.{Decides}
use Rattle.std.specs.List.{Contains, flat_map}
use Rattle.std.proofs.lemmas.List.{append_assoc, append-nil, map-append, length-map}
use Rattle.std.proofs.lemmas.Option.{same_Some, slice_get-map, slice_get_read, slice_get_within}
use Rattle.con_terms.specs.Trees.{Cn}
use Rattle.table_rows.specs.Shapes.{Sh, Shs, Cases}
use Rattle.link_router.specs.Calls.{Ent, Rts}
use Rattle.core_terms.specs.Trees.{Dt, Pg, De}
use Rattle.core_typing.specs.Declarations.{Value, values}
use Rattle.core_typing.specs.Entries.{TakesToPage, TakesFormToPage, IsEntry, by_export, by_link, by_action, EntriesFrom, no_values, neither, get_alone, post_alone, get_and_post, entries_of, value_name, program_targets, all_datatypes, DatatypesShaped, RoutesOf}
use Rattle.site_routes.specs.Linked.{Linked, linked}
use Rattle.site_routes.specs.Marking.{Marks, TellsTargets, decl_targets, TellsNumbers}
use Rattle.site_routes.specs.Taking.{Knows, Takes, NothingTaken, EntryIs, MethodIs, listed_one, numbers_of, Kept, with_listed, AddsOne, AddsMethod, AddsBoth, Called, AddsAll, SoFar, KeepsAll}
use Rattle.site_routes.specs.View.{value_view}
use Rattle.site_routes.specs.declared.values.Value.{Value as Kept_value}
use Rattle.site_routes.proofs.Marks.{targets_same}

-- whether a value is called
pub tells_by : (p : Pg) (n : ℕ) (m : Marks) → TellsTargets n (flat_map decl_targets p.decls) m → TellsTargets n (program_targets p) m
tells_by p n m t post i h =
    let d = t post i h in
    (λ e. subst (λ ts. Contains ts (post, i)) (targets_same p.decls) (d.0 e), λ c. d.1 (subst (λ ts. Contains ts (post, i)) (sym (targets_same p.decls)) c))

pub got_by_link : (p : Pg) (n i : ℕ) (m : Marks) (r : Bool) → r ≡ get_or m.0 i false → r ≡ true → TellsTargets n (program_targets p) m → i < n → Decides true (Called p false i)
got_by_link p n i m r e h t l = (λ _. inr ((t false i l).0 (sym e ∙ h)), λ _. refl)

no_link : (P : Type 0) (p : Pg) (n i : ℕ) (m : Marks) (r : Bool) → r ≡ get_or m.0 i false → r ≡ false → TellsTargets n (program_targets p) m → i < n → Contains (program_targets p) (false, i) → P
no_link P p n i m r e h t l c = let z = (t false i l).1 c in absurd (cc)

pub got_by_export : (p : Pg) (n i : ℕ) (m : Marks) (r x : Bool) (es : List Bool) → r ≡ get_or m.0 i false → r ≡ false →
    x ≡ get_or es i false → TellsTargets n (program_targets p) m → TellsNumbers n p.exports es → i < n → Decides x (Called p false i)
got_by_export p n i m r x es e h g t u l = (
  λ z. inl ((u i l).0 (sym g ∙ z)),
  λ c. elim c [ inl a ↦ g ∙ (u i l).1 a | inr b ↦ no_link (x ≡ true) p n i m r e h t l b ],
)

pub posted_by : (p : Pg) (n i : ℕ) (m : Marks) (r : Bool) → r ≡ get_or m.1 i false → TellsTargets n (program_targets p) m → i < n → Decides r (Called p true i)
posted_by p n i m r e t l = (λ z. (t true i l).0 (sym e ∙ z), λ c. e ∙ (t true i l).1 c)

-- entries of a value
got_entry : (p : Pg) (i : ℕ) (v : Value) (name : List (List ℕ)) (ss : Shs) (form : Option Sh) → slice_get (values p.decls) i ≡ Some v → Called p false i → Takes p false v.con ss form → name ≡ value_name p v →
    IsEntry p i false (record { name = name; arguments = ss; form = form })
got_entry p i v name ss None at (inl c) t e = subst (λ (z : List (List ℕ)). IsEntry p i false (record { name = z; arguments = ss; form = None })) (sym e) (by_export at c t)
got_entry p i v name ss None at (inr c) t e = subst (λ (z : List (List ℕ)). IsEntry p i false (record { name = z; arguments = ss; form = None })) (sym e) (by_link at c t)
got_entry p i v name ss (Some f) at c t e = absurd t

posted_entry : (p : Pg) (i : ℕ) (v : Value) (name : List (List ℕ)) (ss : Shs) (form : Option Sh) → slice_get (values p.decls) i ≡ Some v → Called p true i → Takes p true v.con ss form → name ≡ value_name p v →
    IsEntry p i true (record { name = name; arguments = ss; form = form })
posted_entry p i v name ss None at c t e = absurd t
posted_entry p i v name ss (Some f) at c t e = subst (λ (z : List (List ℕ)). IsEntry p i true (record { name = z; arguments = ss; form = Some f })) (sym e) (by_action at c t)

entry_yes : (p : Pg) (i : ℕ) (w : Bool) (v : Value) (e : Ent) → slice_get (values p.decls) i ≡ Some v → Called p w i → EntryIs p w (linked p v) (Some e) → IsEntry p i w e
entry_yes p i false v e at c t = got_entry p i v e.name e.arguments e.form at c t.0 t.1
entry_yes p i true v e at c t = posted_entry p i v e.name e.arguments e.form at c t.0 t.1

entry_takes : (p : Pg) (i : ℕ) (w : Bool) (e : Ent) → IsEntry p i w e → (v : Value) × (slice_get (values p.decls) i ≡ Some v) × Takes p w v.con e.arguments e.form × Called p w i
entry_takes p i w e (by_export {v = v} at c t) = (v, at, t, inl c)
entry_takes p i w e (by_link {v = v} at c t) = (v, at, t, inr c)
entry_takes p i w e (by_action {v = v} at c t) = (v, at, t, c)

method_yes : (p : Pg) (i : ℕ) (w b : Bool) (v : Value) (e : Ent) → slice_get (values p.decls) i ≡ Some v → Decides b (Called p w i) → MethodIs p w b (linked p v) (Some e) → IsEntry p i w e
method_yes p i w false v e at d m = absurd (cc)
method_yes p i w true v e at d m = entry_yes p i w v e at (d.0 refl) m

method_no : (p : Pg) (i : ℕ) (w b : Bool) (v : Value) → slice_get (values p.decls) i ≡ Some v → Decides b (Called p w i) → MethodIs p w b (linked p v) None → (e : Ent) → IsEntry p i w e → ⊥
method_no p i w false v at d m e is =
    let (u, there, t, c) = entry_takes p i w e is in
    let z = d.1 c in
    cc
method_no p i w true v at d m e is =
    let (u, there, t, c) = entry_takes p i w e is in
    m e.arguments e.form (subst (λ (z : Value). Takes p w z.con e.arguments e.form) (same_Some u v (sym there ∙ at)) t)

neither_is : (p : Pg) (i : ℕ) → ((e : Ent) → IsEntry p i false e → ⊥) → ((e : Ent) → IsEntry p i true e → ⊥) → (post : Bool) (e : Ent) → IsEntry p i post e → ⊥
neither_is p i f g false = f
neither_is p i f g true = g

entries_step : (p : Pg) (i : ℕ) (v : Value) (vs : List Value) (rest : List (ℕ × Ent)) (bg bp : Bool) (og op : Option Ent) → slice_get (values p.decls) i ≡ Some v →
    Decides bg (Called p false i) → Decides bp (Called p true i) → MethodIs p false bg (linked p v) og → MethodIs p true bp (linked p v) op →
    EntriesFrom p (suc i) vs rest → EntriesFrom p i (v ∷ vs) (listed_one i og ++ listed_one i op ++ rest)
entries_step p i v vs rest bg bp None None at dg dp mg mp es =
    neither (neither_is p i (method_no p i false bg v at dg mg) (method_no p i true bp v at dp mp)) es
entries_step p i v vs rest bg bp (Some e) None at dg dp mg mp es = get_alone (method_yes p i false bg v e at dg mg) (method_no p i true bp v at dp mp) es
entries_step p i v vs rest bg bp None (Some e) at dg dp mg mp es = post_alone (method_no p i false bg v at dg mg) (method_yes p i true bp v e at dp mp) es
entries_step p i v vs rest bg bp (Some e) (Some d) at dg dp mg mp es = get_and_post (method_yes p i false bg v e at dg mg) (method_yes p i true bp v d at dp mp) es

-- entries that are added
kept_same : (k : Kept) → k ≡ with_listed k []
kept_same k = ap (λ (xs : List Ent). (xs, k.1)) (sym (append-nil k.0)) ∙ ap (λ (ys : List ℕ). (k.0 ++ [], ys)) (sym (append-nil k.1))

pub adds_one : {X E : Type 0} (r : Result X E) (names : List (List ℕ)) (ds : List Dt) (bs : List Bool) (w : Bool) (i : ℕ) (v : Linked) (old new : Kept) (o : Option Ent) →
    ((p : Pg) → Knows p names ds bs → EntryIs p w v o) → OnOk r (new ≡ with_listed old (listed_one i o)) → OnOk r ((p : Pg) → Knows p names ds bs → AddsOne p w i v old new)
adds_one (Ok x) names ds bs w i v old new o f e = λ p k. (o, f p k, e)
adds_one (Err x) names ds bs w i v old new o f e = tt

pub adds_called : {X E : Type 0} (r : Result X E) (names : List (List ℕ)) (ds : List Dt) (bs : List Bool) (w called : Bool) (i : ℕ) (v : Linked) (old new : Kept) → called ≡ true →
    OnOk r ((p : Pg) → Knows p names ds bs → AddsOne p w i v old new) → OnOk r ((p : Pg) → Knows p names ds bs → AddsMethod p w called i v old new)
adds_called (Ok x) names ds bs w true i v old new h f = f
adds_called (Ok x) names ds bs w false i v old new h f = absurd (cc)
adds_called (Err x) names ds bs w called i v old new h f = tt

pub adds_none : (p : Pg) (w called : Bool) (i : ℕ) (v : Linked) (old : Kept) → called ≡ false → AddsMethod p w called i v old old
adds_none p w true i v old h = absurd (cc)
adds_none p w false i v old h = (None, refl, kept_same old)

pub adds_all : {X E : Type 0} (r : Result X E) (p : Pg) (names : List (List ℕ)) (ds : List Dt) (bs : List Bool) (m : Marks) (es : List Bool) (i : ℕ) (v : Linked) (old mid new : Kept) (bg bp : Bool) →
    ((q : Pg) (n : ℕ) → TellsTargets n (program_targets q) m → TellsNumbers n q.exports es → i < n → Decides bg (Called q false i)) →
    ((q : Pg) (n : ℕ) → TellsTargets n (program_targets q) m → i < n → Decides bp (Called q true i)) →
    ((q : Pg) → Knows q names ds bs → AddsMethod q false bg i v old mid) → OnOk r ((q : Pg) → Knows q names ds bs → AddsMethod q true bp i v mid new) →
    OnOk r ((n : ℕ) → Knows p names ds bs → TellsTargets n (program_targets p) m → TellsNumbers n p.exports es → i < n → AddsAll p i v old new)
adds_all (Ok x) p names ds bs m es i v old mid new bg bp dg dp f g = λ n k t u l. (bg, bp, dg p n t u l, dp p n t l, (mid, f p k, g p k))
adds_all (Err x) p names ds bs m es i v old mid new bg bp dg dp f g = tt

-- the values that are left
left_of : {X : Type 0} (xs : List X) (i : ℕ) (x : X) → slice_get xs i ≡ Some x → drop i xs ≡ x ∷ drop (suc i) xs
left_of [] i x h = absurd (cc)
left_of (y ∷ xs) zero x h = ap (λ z. z ∷ xs) (same_Some y x h)
left_of (y ∷ xs) (suc i) x h = left_of xs i x h

found_at : {X Y : Type 0} (f : X → Y) (o : Option X) (y : Y) → option_map f o ≡ Some y → (x : X) × (o ≡ Some x) × (f x ≡ y)
found_at f None y h = absurd (cc)
found_at f (Some x) y h = (x, refl, same_Some (f x) y h)

meant_at : (p : Pg) (ls : List Linked) (i : ℕ) (l : Linked) → ls ≡ map (linked p) (values p.decls) → slice_get ls i ≡ Some l → (v : Value) × (slice_get (values p.decls) i ≡ Some v) × (linked p v ≡ l)
meant_at p ls i l e h = found_at (linked p) (slice_get (values p.decls) i) l (sym (slice_get-map (linked p) (values p.decls) i) ∙ ap (λ zs. slice_get zs i) (sym e) ∙ h)

-- with the entries of one more value
kept_twice : (k : Kept) (a b : List (ℕ × Ent)) (es : List (ℕ × Ent)) → k.0 ≡ entries_of es → k.1 ≡ numbers_of es →
    ((with_listed (with_listed k a) b).0 ≡ entries_of (es ++ (a ++ b))) × ((with_listed (with_listed k a) b).1 ≡ numbers_of (es ++ (a ++ b)))
kept_twice k a b es h g = (
  ap (λ xs. (xs ++ entries_of a) ++ entries_of b) h ∙ append_assoc (entries_of es) (entries_of a) (entries_of b)
      ∙ ap (λ ys. entries_of es ++ ys) (sym (map-append (λ (e : ℕ × Ent). e.1) a b)) ∙ sym (map-append (λ (e : ℕ × Ent). e.1) es (a ++ b)),
  ap (λ xs. (xs ++ numbers_of a) ++ numbers_of b) g ∙ append_assoc (numbers_of es) (numbers_of a) (numbers_of b)
      ∙ ap (λ ys. numbers_of es ++ ys) (sym (map-append (λ (e : ℕ × Ent). e.0) a b)) ∙ sym (map-append (λ (e : ℕ × Ent). e.0) es (a ++ b)),
)

pub so_far_none : (p : Pg) (k : Kept) → k.0 ≡ [] → k.1 ≡ [] → SoFar p 0 k
so_far_none p k e f = record { listed = []; onward = λ rest h. h; entries = e; called = f }

onward_more : (p : Pg) (i : ℕ) (v : Value) (es more rest : List (ℕ × Ent)) → slice_get (values p.decls) i ≡ Some v →
    ((r : List (ℕ × Ent)) → EntriesFrom p i (drop i (values p.decls)) r → EntriesFrom p 0 (values p.decls) (es ++ r)) →
    EntriesFrom p i (v ∷ drop (suc i) (values p.decls)) (more ++ rest) → EntriesFrom p 0 (values p.decls) ((es ++ more) ++ rest)
onward_more p i v es more rest at f h =
    subst (λ (z : List (ℕ × Ent)). EntriesFrom p 0 (values p.decls) z) (sym (append_assoc es more rest))
    (f (more ++ rest) (subst (λ (z : List Value). EntriesFrom p i z (more ++ rest)) (sym (left_of (values p.decls) i v at)) h))

added : (p : Pg) (i : ℕ) (v : Value) (old mid new : Kept) (bg bp : Bool) (og op : Option Ent) → slice_get (values p.decls) i ≡ Some v → Decides bg (Called p false i) → Decides bp (Called p true i) →
    MethodIs p false bg (linked p v) og → MethodIs p true bp (linked p v) op → mid ≡ with_listed old (listed_one i og) → new ≡ with_listed mid (listed_one i op) → SoFar p i old → SoFar p (suc i) new
added p i v old mid new bg bp og op at dg dp mg mp e f s =
    let same : new ≡ with_listed (with_listed old (listed_one i og)) (listed_one i op) = f ∙ ap (λ (k : Kept). with_listed k (listed_one i op)) e in
    let (g, h) = kept_twice old (listed_one i og) (listed_one i op) s.listed s.entries s.called in
    record {
      listed = s.listed ++ (listed_one i og ++ listed_one i op);
      onward = λ rest es. onward_more p i v s.listed (listed_one i og ++ listed_one i op) rest at s.onward
          (entries_step p i v (drop (suc i) (values p.decls)) rest bg bp og op at dg dp mg mp es);
      entries = ap (λ (k : Kept). k.0) same ∙ g;
      called = ap (λ (k : Kept). k.1) same ∙ h;
    }

pub so_far_more : (p : Pg) (ls : List Linked) (i : ℕ) (l : Linked) (old new : Kept) → ls ≡ map (linked p) (values p.decls) → slice_get ls i ≡ Some l → AddsAll p i l old new → SoFar p i old → SoFar p (i + 1) new
so_far_more p ls i l old new e h (bg, bp, dg, dp, (mid, (og, mg, eg), (op, mp, ep))) s =
    let (v, at, same) = meant_at p ls i l e h in
    let one : suc i ≡ i + 1 = omega arith in
    subst (λ (n : ℕ). SoFar p n new) one
    (added p i v old mid new bg bp og op at dg dp
    (subst (λ (z : Linked). MethodIs p false bg z og) (sym same) mg)
    (subst (λ (z : Linked). MethodIs p true bp z op) (sym same) mp) eg ep s)

pub so_far_all : (p : Pg) (i : ℕ) (k : Kept) → length (values p.decls) ≤ i → SoFar p i k → KeepsAll p k
so_far_all p i k h s = (
  s.listed,
  subst (λ (z : List (ℕ × Ent)). EntriesFrom p 0 (values p.decls) z) (append-nil s.listed)
      (s.onward [] (subst (λ (z : List Value). EntriesFrom p i z []) (sym (drop_of_length-le (values p.decls) h)) no_values)),
  s.entries,
  s.called,
)

-- the values as the program keeps them
pub view_at : (xs : List Kept_value) (i : ℕ) (x : Kept_value) → x ≡ get_or xs i x → i < length xs → slice_get (map value_view xs) i ≡ Some (value_view x)
view_at xs i x e h = slice_get-map value_view xs i ∙ ap (option_map value_view) (slice_get_read xs (length xs) i x refl h e)

pub as_many : (p : Pg) (xs : List Kept_value) → map value_view xs ≡ map (linked p) (values p.decls) → length xs ≡ length (values p.decls)
as_many p xs e = sym (length-map xs value_view) ∙ ap length e ∙ length-map (values p.decls) (linked p)

-- the routes
pub routes_are : (p : Pg) (names : List (List ℕ)) (ds : List Dt) (bs : List Bool) (r : Rts) (cs : List ℕ) (k : Kept) (css : List Cases) → Knows p names ds bs → DatatypesShaped names ds ds css →
    r.datatypes ≡ css → KeepsAll p k → r.entries ≡ k.0 → cs ≡ k.1 → RoutesOf p r cs
routes_are p names ds bs r cs k css n d of (es, from, e, c) same are = record {
  listed = es;
  are_entries = from;
  entries = same ∙ e;
  called = are ∙ c;
  datatypes = subst (λ (ns : List (List ℕ)). DatatypesShaped ns (all_datatypes p) (all_datatypes p) r.datatypes) n.named
      (subst (λ (xs : List Dt). DatatypesShaped names xs xs r.datatypes) n.declared (subst (λ (zs : List Cases). DatatypesShaped names ds ds zs) (sym of) d));
}
