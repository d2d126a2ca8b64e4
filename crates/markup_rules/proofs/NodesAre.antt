-- Nodes for which a row is computed are found.
use Rattle.std.proofs.Common.{◌≡◌, Bool, true, false, List, [], ◌∷◌, Option, Some, None, refl, ap, subst}
use Rattle.con_terms.specs.Trees.{types, row_of, Cn, cat}
use Rattle.con_terms.specs.declared.place.Place.{Place}
use Rattle.row_normal.specs.Ordered.{ordered}
use Rattle.kind_rules.specs.Kinding.{judged_at}
use Rattle.core_terms.specs.Trees.{Ex, Xs, no_nodes, a_node}
use Rattle.core_terms.specs.Types.{xml_of}
use Rattle.core_terms.specs.Lists.{node_list}
use Rattle.core_terms.specs.View.{NodeTree}
use Rattle.core_typing.specs.Scopes.{Sc}
use Rattle.core_typing.specs.Own.{place_of}
use Rattle.core_typing.specs.Asks.{CoverAsked}
use Rattle.core_typing.specs.Found.{FoundBy, NodesFound, no_node_found, last_found, node_found}
use Rattle.core_typing.specs.Faults.{Fault}
use Rattle.core_typing.specs.Compared.{Alike, Disjoint}
use Rattle.core_typing.specs.Judged.{HasKind}
use Rattle.told_faults.specs.Computed.{Jd, first, flawed, wants}
use Rattle.judgements.specs.Comparisons.{meets}
use Rattle.markup_rules.specs.Nodes.{On, at_place, of_kinded, node_told, silent, Fw, forward, going_on, when_apart, last_row, Be, nobody, filling, lost, Bk, behind_of, node_at, backward, whole_row, nodes_found}
use Rattle.markup_rules.specs.Laws.{node_terms}
use Rattle.markup_rules.proofs.Basics.{none_some, some_is, false_true, and_left, and_right, silent_is, alike, kinded, apart, Given}

-- a node that is found by itself
record IsOne (G : Sc) (c u b : Cn) (t : Option Cn) (last : Bool) : Type 0 where
  kind : HasKind G b (row_of types)
  type : Cn
  typed : t ≡ Some type
  same : Alike (xml_of c u b) type
  before : last ≡ false → Disjoint G.kinds.guards u b

-- its type
record HasType (c u b : Cn) (t : Option Cn) : Type 0 where
  type : Cn
  typed : t ≡ Some type
  same : Alike (xml_of c u b) type

at_its_place : (G : Sc) (p : Place) (c u b : Cn) (t : Option Cn) → (at_place G p c u b t).found ≡ true → HasType c u b t
at_its_place G p c u b None h = absurd (false_true h)
at_its_place G p c u b (Some t) h = record { type = t; typed = refl; same = alike G p (xml_of c u b) t (silent_is (wants G p (xml_of c u b) t) h) }

true_false : {X : Type 0} → true ≡ false → X
true_false h = cc

by_kind : (G : Sc) (p : Place) (c u b : Cn) (t : Option Cn) (last : Bool) (k : Option Fault) → flawed G p (judged_at G.kinds b (row_of types)) ≡ k → (of_kinded G p c u b t last k).found ≡ true → IsOne G c u b t last
by_kind G p c u b t last (Some f) e h = absurd (false_true h)
by_kind G p c u b t true None e h =
    let x : HasType c u b t = at_its_place G p c u b t h in
    record { kind = kinded G p b (row_of types) e; type = x.type; typed = x.typed; same = x.same; before = λ n. true_false n }
by_kind G p c u b t false None e h =
    let o : On = at_place G p c u b t in
    let clash : Option Fault = meets G p u b in
    let x : HasType c u b t = at_its_place G p c u b t (and_left o.found (silent clash) h) in
    let y : Disjoint G.kinds.guards u b = apart G p u b (silent_is clash (and_right o.found (silent clash) h)) in
    record { kind = kinded G p b (row_of types) e; type = x.type; typed = x.typed; same = x.same; before = λ n. y }

one_found : (G : Sc) (p : Place) (c u b : Cn) (t : Option Cn) (last : Bool) → (node_told G p c u b t last).found ≡ true → IsOne G c u b t last
one_found G p c u b t last h = by_kind G p c u b t last (flawed G p (judged_at G.kinds b (row_of types))) refl h

-- what is behind a node
lost_filling : {X : Type 0} {d : Cn} → lost ≡ filling d → X
lost_filling h = cc

nobody_filling : {X : Type 0} {d : Cn} → nobody ≡ filling d → X
nobody_filling h = cc

filling_is : {b d : Cn} → filling b ≡ filling d → b ≡ d
filling_is h = cc

filling_nobody : {d : Cn} → filling d ≡ nobody → ⊥
filling_nobody h = cc

lost_nobody : lost ≡ nobody → ⊥
lost_nobody h = cc

last_fills : (b d : Cn) (f : Bool) → behind_of (last_row b f).row ≡ filling d → (f ≡ true) × (b ≡ d)
last_fills b d true h = (refl, filling_is h)
last_fills b d false h = lost_filling h

both_fill : (b e d : Cn) (f : Bool) (o : Option Fault) → behind_of (when_apart f b e o).row ≡ filling d → (f ≡ true) × (o ≡ None) × (ordered (cat b e) ≡ d)
both_fill b e d f (Some clash) h = lost_filling h
both_fill b e d true None h = (refl, refl, filling_is h)
both_fill b e d false None h = lost_filling h

by_row : (o : Option Cn) → behind_of o ≡ nobody → ⊥
by_row None h = lost_nobody h
by_row (Some d) h = filling_nobody h

by_behind : (G : Sc) (x : NodeTree) (f : Bool) (own : Option Fault) (m : Be) → (node_at G x f own m).behind ≡ nobody → ⊥
by_behind G x f own nobody h = by_row (last_row x.0 f).row h
by_behind G x f own (filling d) h = by_row (when_apart f x.0 d (meets G (place_of x.1) x.0 d)).row h
by_behind G x f own lost h = lost_nobody h

somebody : (G : Sc) (told : Option Fault) (x : NodeTree) (xs : List NodeTree) (fs : List Bool) → (backward G told (x ∷ xs) fs).behind ≡ nobody → ⊥
somebody G told x xs [] h = lost_nobody h
somebody G told x xs (f ∷ fs) h = let r : Bk = backward G told xs fs in by_behind G x f r.own r.behind h

-- a node with others behind it
record HasBehind (G : Sc) (x : NodeTree) (f : Bool) (m : Be) (d : Cn) : Type 0 where
  row : Cn
  is : m ≡ filling row
  found : f ≡ true
  apart : meets G (place_of x.1) x.0 row ≡ None
  all : ordered (cat x.0 row) ≡ d

with_behind : (G : Sc) (x : NodeTree) (f : Bool) (own : Option Fault) (m : Be) (d : Cn) → (m ≡ nobody → ⊥) → (node_at G x f own m).behind ≡ filling d → HasBehind G x f m d
with_behind G x f own nobody d n h = absurd (n refl)
with_behind G x f own (filling e) d n h =
    let y = both_fill x.0 e d f (meets G (place_of x.1) x.0 e) h in
    record { row = e; is = refl; found = y.0; apart = y.1; all = y.2 }
with_behind G x f own lost d n h = lost_filling h

-- the last node
last_is : (C : CoverAsked) (G : Sc) (c u b d : Cn) (e : Ex) (j : Jd) → ((t : Cn) → j.type ≡ Some t → FoundBy C G e t) → (node_told G (place_of e) c u b j.type true).found ≡ true → b ≡ d → NodesFound C G c u (a_node b e no_nodes) d
last_is C G c u b d e j x h k =
    let o : IsOne G c u b j.type true = one_found G (place_of e) c u b j.type true h in
    subst (λ z. NodesFound C G c u (a_node b e no_nodes) z) k (last_found o.kind (x o.type o.typed) o.same)

by_last : (C : CoverAsked) (G : Sc) (c u b d : Cn) (e : Ex) (j : Jd) (told own : Option Fault) (go : Bool) (r : Fw) → ((t : Cn) → j.type ≡ Some t → FoundBy C G e t) →
    (backward G told ((b, e) ∷ []) (going_on go (node_told G (place_of e) c u b j.type true).found own r).found).behind ≡ filling d → NodesFound C G c u (a_node b e no_nodes) d
by_last C G c u b d e j told own true r x h =
    let y = last_fills b d (node_told G (place_of e) c u b j.type true).found h in last_is C G c u b d e j x y.0 y.1
by_last C G c u b d e j told own false r x h =
    let y = last_fills b d (node_told G (place_of e) c u b j.type true).found h in last_is C G c u b d e j x y.0 y.1

-- a node that has others behind it
each_is : (C : CoverAsked) (G : Sc) (c u b h d : Cn) (e f : Ex) (xs : Xs) (j : Jd) (m : Be) → ((t : Cn) → j.type ≡ Some t → FoundBy C G e t) → HasBehind G (b, e) (node_told G (place_of e) c u b j.type false).found m d →
    ((v : Cn) → m ≡ filling v → NodesFound C G c (ordered (cat u b)) (a_node h f xs) v) → NodesFound C G c u (a_node b e (a_node h f xs)) d
each_is C G c u b h d e f xs j m x y rest =
    let o : IsOne G c u b j.type false = one_found G (place_of e) c u b j.type false y.found in
    subst (λ z. NodesFound C G c u (a_node b e (a_node h f xs)) z) y.all
    (node_found o.kind (x o.type o.typed) o.same (o.before refl) (rest y.row y.is) (apart G (place_of e) b y.row y.apart))

by_each : (C : CoverAsked) (G : Sc) (c u b h d : Cn) (e f : Ex) (xs : Xs) (j : Jd) (told own : Option Fault) (go : Bool) (r : Fw) → ((t : Cn) → j.type ≡ Some t → FoundBy C G e t) →
    ((v : Cn) → (backward G told ((h, f) ∷ node_list xs) r.found).behind ≡ filling v → NodesFound C G c (ordered (cat u b)) (a_node h f xs) v) →
    (backward G told ((b, e) ∷ (h, f) ∷ node_list xs) (going_on go (node_told G (place_of e) c u b j.type false).found own r).found).behind ≡ filling d →
    NodesFound C G c u (a_node b e (a_node h f xs)) d
by_each C G c u b h d e f xs j told own true r x rest k =
    let back : Bk = backward G told ((h, f) ∷ node_list xs) r.found in
    each_is C G c u b h d e f xs j back.behind x
    (with_behind G (b, e) (node_told G (place_of e) c u b j.type false).found back.own back.behind d (somebody G told (h, f) (node_list xs) r.found) k)
    rest
by_each C G c u b h d e f xs j told own false r x rest k = lost_filling k

-- all nodes
behind_found : (C : CoverAsked) (G : Sc) (c u b d : Cn) (e : Ex) (xs : Xs) (js : List Jd) (told own : Option Fault) → Given C G (e ∷ node_terms xs) js →
    (backward G told ((b, e) ∷ node_list xs) (forward G c u own ((b, e) ∷ node_list xs) js).found).behind ≡ filling d → NodesFound C G c u (a_node b e xs) d
behind_found C G c u b d e xs [] told own x k = absurd x
behind_found C G c u b d e no_nodes (j ∷ js) told own x k =
    let o : On = node_told G (place_of e) c u b j.type true in
    by_last C G c u b d e j told (first own o.told) o.goes_on (forward G c (ordered (cat u b)) (first own o.told) [] js) x.0 k
behind_found C G c u b d e (a_node h f xs) (j ∷ js) told own x k =
    let o : On = node_told G (place_of e) c u b j.type false in
    let r : Fw = forward G c (ordered (cat u b)) (first own o.told) ((h, f) ∷ node_list xs) js in
    by_each C G c u b h d e f xs j told (first own o.told) o.goes_on r x.0
    (λ v. behind_found C G c (ordered (cat u b)) h v f xs js told (first own o.told) x.1) k

whole_is : (m : Be) (d : Cn) → (m ≡ nobody → ⊥) → whole_row m ≡ Some d → m ≡ filling d
whole_is nobody d n h = absurd (n refl)
whole_is (filling b) d n h = ap filling (some_is h)
whole_is lost d n h = absurd (none_some h)

pub nodes_are_found : (C : CoverAsked) (G : Sc) (c u d : Cn) (xs : Xs) (js : List Jd) → Given C G (node_terms xs) js → (nodes_found G c u (node_list xs) js).row ≡ Some d → NodesFound C G c u xs d
nodes_are_found C G c u d no_nodes js x h = subst (λ z. NodesFound C G c u no_nodes z) (some_is h) no_node_found
nodes_are_found C G c u d (a_node b e xs) js x h =
    let r : Fw = forward G c u None ((b, e) ∷ node_list xs) js in
    behind_found C G c u b d e xs js r.told None x
    (whole_is (backward G r.told ((b, e) ∷ node_list xs) r.found).behind d (somebody G r.told (b, e) (node_list xs) r.found) h)
