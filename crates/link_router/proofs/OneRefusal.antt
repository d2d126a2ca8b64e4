-- A target has one answer: it is read, or it is refused for one reason.
use Rattle.std.proofs.Common.{◌≡◌, ℕ, ◌-◌, ◌<◌, Bool, true, false, not, List, [], ◌∷◌, ◌++◌, length, get_or, Option, Some, None, slice_get, refl, ap, sym, subst, ◌∙◌, ◌⊎◌, inl, inr, arith}
use Rattle.std.specs.List.{Contains}
use Rattle.std.proofs.lemmas.Option.{same_Some, slice_get_read}
use Rattle.table_rows.specs.Wires.{Wr, Wrs}
use Rattle.table_rows.specs.Shapes.{Sh, Shs, Pts, Cases, at_arguments}
use Rattle.link_router.specs.Calls.{Ent, Rts, Cl, is_post}
use Rattle.link_router.specs.Reading.{IsNumber, IsWords, IsTruth, Names, Reads, reads_int, reads_text, reads_unit, reads_truth, reads_record, reads_bare, reads_tagged, ReadsParts, reads_no_part, reads_part, ReadsAll, reads_none, reads_one, Stop, bad, few, Stops, few_for_int, few_for_text, few_for_truth, few_for_data, few_for_parameter, no_int, no_text, no_truth, no_data, no_datatype, no_argument, in_record, in_held, StopsParts, in_part, in_later_part, StopsAll, in_argument, in_later}
use Rattle.link_router.specs.Routed.{Astray, no_route, other_method, bad_piece, too_few, too_many, NoneFits, OneFits, Refuses, has_no_route, has_other_method, has_bad_piece, has_too_few, has_too_many}
use Rattle.link_router.specs.RouteLaws.{AreNamed, ReadAs}
use Rattle.link_router.specs.Links.{Route}
use Rattle.link_router.proofs.Listed.{no_value, one_value}
use Rattle.link_router.proofs.Sent.{listed_in}
use Rattle.link_router.proofs.OneCall.{both_parts, route_read}
use Rattle.link_router.proofs.ReadBack.{OneOfAName, heads, one_held, one_read, tails}

no_pieces : {p : List ℕ} {ps : List (List ℕ)} → p ∷ ps ≡ [] → ⊥
no_pieces h = cc

-- a name among the constructors of a datatype found twice
still_named : (D : List Cases) (d : ℕ) {cs es : Cases} {p q : List ℕ} {h : Option Sh} → slice_get D d ≡ Some cs → Contains cs (p, h) → slice_get D d ≡ Some es → p ≡ q → Names es q
still_named D d {cs} {es} {p} {q} {h} e i g same = (h, subst (λ x. Contains x (q, h)) (one_value e g) (subst (λ x. Contains cs (x, h)) same i))

bare_or_holding : (D : List Cases) (d : ℕ) {cs es : Cases} {p q : List ℕ} {s : Sh} → OneOfAName D → slice_get D d ≡ Some cs → Contains cs (p, None) → slice_get D d ≡ Some es → Contains es (q, Some s) → p ≡ q → ⊥
bare_or_holding D d o e i g j same = no_value (one_held D d o e i g j same) refl

-- reading a value and stopping in it exclude each other
mutual
  pub read_or_stop : {D : List Cases} {s : Sh} {ps qs rs : List (List ℕ)} {w : Wr} {x : Stop} → OneOfAName D → Reads D s ps w rs → Stops D s qs x → ps ≡ qs → ⊥
  read_or_stop o (reads_int n) few_for_int e = no_pieces e
  read_or_stop o (reads_int {z = z} n) (no_int f) e = f z (subst (λ p. IsNumber p z) (heads e) n)
  read_or_stop o (reads_text n) few_for_text e = no_pieces e
  read_or_stop o (reads_text {t = t} n) (no_text f) e = f t (subst (λ p. IsWords p t) (heads e) n)
  read_or_stop o reads_unit st e = elim st [ ]
  read_or_stop o (reads_truth t) few_for_truth e = no_pieces e
  read_or_stop o (reads_truth t) (no_truth f) e = f (subst IsTruth (heads e) t)
  read_or_stop o (reads_record h) (in_record k) e = parts_read_or_stop o h k e
  read_or_stop o (reads_bare h i) few_for_data e = no_pieces e
  read_or_stop {D} o (reads_bare {d = d} h i) (no_data g f) e = f (still_named D d h i g (heads e))
  read_or_stop o (reads_bare h i) (no_datatype g) e = no_value h g
  read_or_stop {D} o (reads_bare {d = d} h i) (in_held g j k) e = bare_or_holding D d o h i g j (heads e)
  read_or_stop o (reads_tagged h i r) few_for_data e = no_pieces e
  read_or_stop {D} o (reads_tagged {d = d} h i r) (no_data g f) e = f (still_named D d h i g (heads e))
  read_or_stop o (reads_tagged h i r) (no_datatype g) e = no_value h g
  read_or_stop {D} {x = x} o (reads_tagged {d = d} {ss = ss} {s = s} h i r) (in_held {s = t} {ps = us} g j k) e =
      let same : s ≡ t = same_Some _ _ (one_held D d o h i g j (heads e)) in
      read_or_stop o r (subst (λ u. Stops D (at_arguments ss u) us x) (sym same) k) (tails e)

  pub parts_read_or_stop : {D : List Cases} {fs : Pts} {ps qs rs : List (List ℕ)} {ws : Wrs} {x : Stop} → OneOfAName D → ReadsParts D fs ps ws rs → StopsParts D fs qs x → ps ≡ qs → ⊥
  parts_read_or_stop o reads_no_part st e = elim st [ ]
  parts_read_or_stop o (reads_part h k) (in_part g) e = read_or_stop o h g e
  parts_read_or_stop o (reads_part h k) (in_later_part g l) e = parts_read_or_stop o k l (one_read o h g e).1

-- and so at arguments
pub all_read_or_stop : {D : List Cases} {ss : Shs} {ps qs rs : List (List ℕ)} {ws : Wrs} {x : Stop} → OneOfAName D → ReadsAll D ss ps ws rs → StopsAll D ss qs x → ps ≡ qs → ⊥
all_read_or_stop o reads_none st e = elim st [ ]
all_read_or_stop o (reads_one h k) (in_argument g) e = read_or_stop o h g e
all_read_or_stop o (reads_one h k) (in_later g l) e = all_read_or_stop o k l (one_read o h g e).1

-- the pieces that are left behind arguments
all_left : {D : List Cases} {ss : Shs} {ps us qs rs : List (List ℕ)} {ws vs : Wrs} → OneOfAName D → ReadsAll D ss ps ws qs → ReadsAll D ss us vs rs → ps ≡ us → qs ≡ rs
all_left o reads_none reads_none e = e
all_left o (reads_one h k) (reads_one g l) e = all_left o k l (one_read o h g e).1

-- a reading stops for one reason
mutual
  pub one_stop : {D : List Cases} {s : Sh} {ps qs : List (List ℕ)} {x y : Stop} → OneOfAName D → Stops D s ps x → Stops D s qs y → ps ≡ qs → x ≡ y
  one_stop o few_for_int few_for_int e = refl
  one_stop o few_for_int (no_int f) e = absurd (no_pieces (sym e))
  one_stop o (no_int f) few_for_int e = absurd (no_pieces e)
  one_stop o (no_int f) (no_int g) e = ap bad e
  one_stop o few_for_text few_for_text e = refl
  one_stop o few_for_text (no_text f) e = absurd (no_pieces (sym e))
  one_stop o (no_text f) few_for_text e = absurd (no_pieces e)
  one_stop o (no_text f) (no_text g) e = ap bad e
  one_stop o few_for_truth few_for_truth e = refl
  one_stop o few_for_truth (no_truth f) e = absurd (no_pieces (sym e))
  one_stop o (no_truth f) few_for_truth e = absurd (no_pieces e)
  one_stop o (no_truth f) (no_truth g) e = ap bad e
  one_stop o few_for_parameter few_for_parameter e = refl
  one_stop o few_for_parameter no_argument e = absurd (no_pieces (sym e))
  one_stop o no_argument few_for_parameter e = absurd (no_pieces e)
  one_stop o no_argument no_argument e = ap bad e
  one_stop o (in_record h) (in_record k) e = one_stop_of_parts o h k e
  one_stop o few_for_data few_for_data e = refl
  one_stop o few_for_data (no_data g f) e = absurd (no_pieces (sym e))
  one_stop o few_for_data (no_datatype g) e = absurd (no_pieces (sym e))
  one_stop o few_for_data (in_held g j k) e = absurd (no_pieces (sym e))
  one_stop o (no_data h f) few_for_data e = absurd (no_pieces e)
  one_stop o (no_data h f) (no_data g k) e = ap bad e
  one_stop o (no_data h f) (no_datatype g) e = absurd (no_value h g)
  one_stop {D} o (no_data {d = d} h f) (in_held g j k) e = absurd (f (still_named D d g j h (sym (heads e))))
  one_stop o (no_datatype g) few_for_data e = absurd (no_pieces e)
  one_stop o (no_datatype g) (no_data h f) e = absurd (no_value h g)
  one_stop o (no_datatype g) (no_datatype h) e = ap bad e
  one_stop o (no_datatype g) (in_held h i k) e = absurd (no_value h g)
  one_stop o (in_held h i k) few_for_data e = absurd (no_pieces e)
  one_stop {D} o (in_held {d = d} h i k) (no_data g f) e = absurd (f (still_named D d h i g (heads e)))
  one_stop o (in_held h i k) (no_datatype g) e = absurd (no_value h g)
  one_stop {D} {y = y} o (in_held {d = d} {ss = ss} {s = s} h i k) (in_held {s = t} {ps = us} g j l) e =
      let same : s ≡ t = same_Some _ _ (one_held D d o h i g j (heads e)) in
      one_stop o k (subst (λ u. Stops D (at_arguments ss u) us y) (sym same) l) (tails e)

  one_stop_of_parts : {D : List Cases} {fs : Pts} {ps qs : List (List ℕ)} {x y : Stop} → OneOfAName D → StopsParts D fs ps x → StopsParts D fs qs y → ps ≡ qs → x ≡ y
  one_stop_of_parts o (in_part h) (in_part g) e = one_stop o h g e
  one_stop_of_parts o (in_part h) (in_later_part g l) e = absurd (read_or_stop o g h (sym e))
  one_stop_of_parts o (in_later_part h k) (in_part g) e = absurd (read_or_stop o h g e)
  one_stop_of_parts o (in_later_part h k) (in_later_part g l) e = one_stop_of_parts o k l (one_read o h g e).1

one_stop_of_all : {D : List Cases} {ss : Shs} {ps qs : List (List ℕ)} {x y : Stop} → OneOfAName D → StopsAll D ss ps x → StopsAll D ss qs y → ps ≡ qs → x ≡ y
one_stop_of_all o (in_argument h) (in_argument g) e = one_stop o h g e
one_stop_of_all o (in_argument h) (in_later g l) e = absurd (read_or_stop o g h (sym e))
one_stop_of_all o (in_later h k) (in_argument g) e = absurd (read_or_stop o h g e)
one_stop_of_all o (in_later h k) (in_later g l) e = one_stop_of_all o k l (one_read o h g e).1

-- one entry
pub listed_at : {X : Type 0} (xs : List X) (x : X) → (c : Contains xs x) → slice_get xs c.0 ≡ Some x
listed_at xs x c = slice_get_read xs (length xs) c.0 x refl c.1 (sym c.2)

one_entry : (routes : Rts) (post : Bool) (target : List ℕ) {e d : Ent} {rest left : List (List ℕ)} → AreNamed routes → OneFits routes post target e rest → OneFits routes post target d left → (e ≡ d) × (rest ≡ left)
one_entry routes post target {e} {d} {rest} {left} n h k =
    let (names, rests) = both_parts routes e d rest left n h.one_of_them k.one_of_them (same_Some _ _ (sym h.named ∙ k.named)) in
    let at_h = listed_at routes.entries e h.one_of_them in
    let at_k = listed_at routes.entries d k.one_of_them in
    let places : h.one_of_them.0 ≡ k.one_of_them.0 = n.entries_differ h.one_of_them.0 k.one_of_them.0 e d at_h at_k (h.by_method ∙ sym k.by_method) names in
    (same_Some _ _ (sym at_h ∙ ap (λ i. slice_get routes.entries i) places ∙ at_k), rests)

none_or_one : {routes : Rts} {post : Bool} {target : List ℕ} {e : Ent} {rest : List (List ℕ)} → NoneFits routes post target → OneFits routes post target e rest → ⊥
none_or_one {e = e} {rest = rest} f h = f e rest h.one_of_them h.by_method h.named

-- what stands in the way behind an entry's name
data Within (routes : Rts) (e : Ent) (rest : List (List ℕ)) : Astray → Type 0 where
  piece_within : {left : List (List ℕ)} → StopsAll routes.datatypes e.arguments rest (bad left) → Within routes e rest (bad_piece (length rest - length left))
  few_within : StopsAll routes.datatypes e.arguments rest few → Within routes e rest too_few
  many_within : {ws : Wrs} {p : List ℕ} {left : List (List ℕ)} → ReadsAll routes.datatypes e.arguments rest ws (p ∷ left) → Within routes e rest too_many

left_of : {ps qs : List (List ℕ)} → bad ps ≡ bad qs → ps ≡ qs
left_of h = cc

bad_not_few : {ps : List (List ℕ)} → bad ps ≡ few → ⊥
bad_not_few h = cc

one_within : {routes : Rts} {e : Ent} {rest : List (List ℕ)} {a b : Astray} → OneOfAName routes.datatypes → Within routes e rest a → Within routes e rest b → a ≡ b
one_within {rest = rest} o (piece_within h) (piece_within k) = ap (λ ps. bad_piece (length rest - length ps)) (left_of (one_stop_of_all o h k refl))
one_within o (piece_within h) (few_within k) = absurd (bad_not_few (one_stop_of_all o h k refl))
one_within o (piece_within h) (many_within k) = absurd (all_read_or_stop o k h refl)
one_within o (few_within h) (piece_within k) = absurd (bad_not_few (sym (one_stop_of_all o h k refl)))
one_within o (few_within h) (few_within k) = refl
one_within o (few_within h) (many_within k) = absurd (all_read_or_stop o k h refl)
one_within o (many_within h) (piece_within k) = absurd (all_read_or_stop o h k refl)
one_within o (many_within h) (few_within k) = absurd (all_read_or_stop o h k refl)
one_within o (many_within h) (many_within k) = refl

not_within : {routes : Rts} {e : Ent} {rest : List (List ℕ)} {ws : Wrs} {a : Astray} → OneOfAName routes.datatypes → Within routes e rest a → ReadsAll routes.datatypes e.arguments rest ws [] → ⊥
not_within o (piece_within h) r = all_read_or_stop o r h refl
not_within o (few_within h) r = all_read_or_stop o r h refl
not_within o (many_within h) r = no_pieces (all_left o h r refl)

-- a refusal before an entry was found, or behind its name
data Sorted (routes : Rts) (post : Bool) (target : List ℕ) (a : Astray) : Type 0 where
  nowhere : NoneFits routes post target → NoneFits routes (not post) target → a ≡ no_route → Sorted routes post target a
  elsewhere : {e : Ent} {rest : List (List ℕ)} → NoneFits routes post target → OneFits routes (not post) target e rest → a ≡ other_method → Sorted routes post target a
  behind : {e : Ent} {rest : List (List ℕ)} → OneFits routes post target e rest → Within routes e rest a → Sorted routes post target a

sorted : {routes : Rts} {post : Bool} {target : List ℕ} {a : Astray} → Refuses routes post target a → Sorted routes post target a
sorted (has_no_route f g) = nowhere f g refl
sorted (has_other_method f h) = elsewhere f h refl
sorted (has_bad_piece h s) = behind h (piece_within s)
sorted (has_too_few h s) = behind h (few_within s)
sorted (has_too_many h r) = behind h (many_within r)

one_sorted : {routes : Rts} {post : Bool} {target : List ℕ} {a b : Astray} → AreNamed routes → Sorted routes post target a → Sorted routes post target b → a ≡ b
one_sorted n (nowhere f g e) (nowhere h k d) = e ∙ sym d
one_sorted n (nowhere f g e) (elsewhere h k d) = absurd (none_or_one g k)
one_sorted n (nowhere f g e) (behind h k) = absurd (none_or_one f h)
one_sorted n (elsewhere f g e) (nowhere h k d) = absurd (none_or_one k g)
one_sorted n (elsewhere f g e) (elsewhere h k d) = e ∙ sym d
one_sorted n (elsewhere f g e) (behind h k) = absurd (none_or_one f h)
one_sorted n (behind f g) (nowhere h k d) = absurd (none_or_one h f)
one_sorted n (behind f g) (elsewhere h k d) = absurd (none_or_one h f)
one_sorted {routes} {post} {target} {a} {b} n (behind {e = e} {rest = rest} f g) (behind {e = d} {rest = left} h k) =
    let (entries, rests) = one_entry routes post target n f h in
    one_within n.constructors_differ g (subst (λ ps. Within routes e ps b) (sym rests) (subst (λ x. Within routes x left b) (sym entries) k))

pub one_refusal : {routes : Rts} {post : Bool} {target : List ℕ} {x y : Astray} → AreNamed routes → Refuses routes post target x → Refuses routes post target y → x ≡ y
one_refusal n h k = one_sorted n (sorted h) (sorted k)

read_fits : {routes : Rts} {post : Bool} {target : List ℕ} {c : Cl} → (r : ReadAs routes post target c) → OneFits routes post target r.entry r.left
read_fits {routes} {c = c} r = record { one_of_them = listed_in routes.entries c.entry r.entry r.is_entry; by_method = r.by_method; named = r.named }

read_not_sorted : {routes : Rts} {post : Bool} {target : List ℕ} {a : Astray} {c : Cl} → AreNamed routes → Sorted routes post target a → ReadAs routes post target c → ⊥
read_not_sorted n (nowhere f g e) r = none_or_one f (read_fits r)
read_not_sorted n (elsewhere f g e) r = none_or_one f (read_fits r)
read_not_sorted {routes} {post} {target} {c = c} n (behind {e = e} {rest = rest} f g) r =
    let (entries, rests) = one_entry routes post target n f (read_fits r) in
    not_within n.constructors_differ g (subst (λ ps. ReadsAll routes.datatypes e.arguments ps c.wires []) (sym rests) (subst (λ (x : Ent). ReadsAll routes.datatypes x.arguments r.left c.wires []) (sym entries) r.arguments))

pub refused_or_read : (routes : Rts) (post : Bool) (target : List ℕ) (a : Astray) (c : Cl) → AreNamed routes → Refuses routes post target a → ReadAs routes post target c → ⊥
refused_or_read routes post target a c n h r = read_not_sorted n (sorted h) r

pub calls_are_not_refused : (routes : Rts) (post : Bool) (target : List ℕ) (call : Cl) (x : Astray) → AreNamed routes → Route routes post target call → Refuses routes post target x → ⊥
calls_are_not_refused routes post target call x n r h = refused_or_read routes post target x call n h (route_read routes post target call n r)
