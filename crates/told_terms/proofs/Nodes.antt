-- What nodes beside one another tell, and the fields that they fill: from the first node to the last, and back.
use Rattle.std.proofs.Common.{◌≡◌, Bool, true, false, ◌&&◌, List, [], ◌∷◌, Option, Some, None, Result, Ok, Err, refl, sym, subst}
use Rattle.con_terms.specs.Trees.{Kd, types, row_of, Cn, cat}
use Rattle.con_terms.specs.declared.place.Place.{Place}
use Rattle.row_normal.specs.Ordered.{ordered}
use Rattle.kind_rules.specs.Flaws.{Flw}
use Rattle.kind_rules.specs.Kinding.{judged_at}
use Rattle.core_terms.specs.Trees.{Ex, Ats, no_attributes, attribute, Xs, no_nodes, a_node}
use Rattle.core_terms.specs.Types.{xml_of}
use Rattle.core_terms.specs.Lists.{node_list}
use Rattle.core_typing.specs.Scopes.{Sc}
use Rattle.core_typing.specs.Asks.{no_cover}
use Rattle.core_typing.specs.Compared.{Alike, Disjoint}
use Rattle.core_typing.specs.Judged.{HasKind, LacksKind, lacks, flaw_at}
use Rattle.core_typing.specs.Faults.{Fault}
use Rattle.core_typing.specs.Found.{Found, NodesFound, no_node_found, last_found, node_found}
use Rattle.core_typing.specs.Own.{place_of, Wants, Meets, NodeFault, fills_kind, other_place, filled_before, filled_behind, later_node}
use Rattle.core_typing.specs.Tells.{InNodes, this_node, past_node, InAttributes, this_attribute, past_attribute}
use Rattle.core_typing.proofs.Excluded.{wants_out, kind_out}
use Rattle.core_typing.proofs.OneType.{one_nodes}
use Rattle.told_faults.specs.Computed.{Jd, first, flawed, wants}
use Rattle.told_faults.specs.Told.{TypeIs, Picks, Nodes, Least, Holds, Or, or_first, or_second, Either, in_first, in_second, Only, only, Nowhere, Never}
use Rattle.told_faults.specs.Heads.{Wanted, agree, disagree, Kindly, kindly, unkind}
use Rattle.told_faults.proofs.Parts.{same_type, wanted, picks_wants, kind_is, picks_flaw}
use Rattle.told_faults.proofs.Verdict.{picks_as, picks_two, picks_never, least_nowhere}
use Rattle.judgements.specs.Comparisons.{meets}
use Rattle.markup_rules.specs.Nodes.{silent, told_after, told_of, On, at_place, kinded_node, of_kinded, node_told, none_behind, Fw, forward, going_on, when_apart, last_row, Be, nobody, filling, lost, Bk, behind_of, node_at, backward, whole_row, nodes_found}
use Rattle.markup_rules.proofs.Basics.{false_true, true_false}
use Rattle.told_terms.proofs.Verdicts.{first_none, picks_is}
use Rattle.told_terms.proofs.Beside.{picks_from, picks_only_first, picks_rest, picks_start, least_only_first, least_more, least_rest, least_start}
use Rattle.told_terms.proofs.Says.{Says, yes, no, says_as, says_both, says_is}
use Rattle.told_terms.proofs.Meets.{AreApart, they_are, they_meet, are_apart, meets_out, picks_meets}
use Rattle.told_terms.proofs.Wanted.{NodesTold, AttributesTold, Here, here_is}

-- what is told of a list of terms, after what is told already
in_no_node : (G H : Sc) (c : Ex) → Here G (InNodes no_nodes) H c → ⊥
in_no_node G H c (here_is i) = elim i [ ]

nodes_after : (G : Sc) (N : Nodes) (xs : Xs) (js : List Jd) (told : Option Fault) → NodesTold G xs js → Least N told → Least (Either N (Here G (InNodes xs))) (told_after told js)
nodes_after G N no_nodes [] told t l = least_only_first N (Here G (InNodes no_nodes)) told (in_no_node G) l
nodes_after G N no_nodes (j ∷ js) told t l = absurd t
nodes_after G N (a_node b e xs) [] told t l = absurd t
nodes_after G N (a_node b e xs) (j ∷ js) told t l =
    least_rest N (Only G e) (Here G (InNodes xs)) (Here G (InNodes (a_node b e xs))) (told_after (first told j.told) js) there back
    (nodes_after G (Either N (Only G e)) xs js (first told j.told) t.1 (least_more N G e told j l t.0))
  where
    there : (H : Sc) (c : Ex) → Either (Only G e) (Here G (InNodes xs)) H c → Here G (InNodes (a_node b e xs)) H c
    there H c (in_first only) = here_is this_node
    there H c (in_second (here_is i)) = here_is (past_node i)

    back : (H : Sc) (c : Ex) → Here G (InNodes (a_node b e xs)) H c → Either (Only G e) (Here G (InNodes xs)) H c
    back H c (here_is this_node) = in_first only
    back H c (here_is (past_node i)) = in_second (here_is i)

pub nodes_least : (G : Sc) (xs : Xs) (js : List Jd) → NodesTold G xs js → Least (Here G (InNodes xs)) (told_of js)
nodes_least G xs js t = least_start (Here G (InNodes xs)) (told_of js) (nodes_after G Nowhere xs js None t least_nowhere)

in_no_attribute : (G H : Sc) (c : Ex) → Here G (InAttributes no_attributes) H c → ⊥
in_no_attribute G H c (here_is i) = elim i [ ]

attributes_after : (G : Sc) (N : Nodes) (as' : Ats) (js : List Jd) (told : Option Fault) → AttributesTold G as' js → Least N told → Least (Either N (Here G (InAttributes as'))) (told_after told js)
attributes_after G N no_attributes [] told t l = least_only_first N (Here G (InAttributes no_attributes)) told (in_no_attribute G) l
attributes_after G N no_attributes (j ∷ js) told t l = absurd t
attributes_after G N (attribute p n e as') [] told t l = absurd t
attributes_after G N (attribute p n e as') (j ∷ js) told t l =
    least_rest N (Only G e) (Here G (InAttributes as')) (Here G (InAttributes (attribute p n e as'))) (told_after (first told j.told) js) there back
    (attributes_after G (Either N (Only G e)) as' js (first told j.told) t.1 (least_more N G e told j l t.0))
  where
    there : (H : Sc) (c : Ex) → Either (Only G e) (Here G (InAttributes as')) H c → Here G (InAttributes (attribute p n e as')) H c
    there H c (in_first only) = here_is this_attribute
    there H c (in_second (here_is i)) = here_is (past_attribute i)

    back : (H : Sc) (c : Ex) → Here G (InAttributes (attribute p n e as')) H c → Either (Only G e) (Here G (InAttributes as')) H c
    back H c (here_is this_attribute) = in_first only
    back H c (here_is (past_attribute i)) = in_second (here_is i)

pub attributes_least : (G : Sc) (as' : Ats) (js : List Jd) → AttributesTold G as' js → Least (Here G (InAttributes as')) (told_of js)
attributes_least G as' js t = least_start (Here G (InAttributes as')) (told_of js) (attributes_after G Nowhere as' js None t least_nowhere)

-- a node, the last one or not, beside those before it: the kind of the row that it fills, its type, and where it isn't
-- the last one the fields that are filled before it
pub data AtNode (G : Sc) (c u b : Cn) (e : Ex) : Bool → Fault → Type 0 where
  node_kind : {l : Bool} {f : Fault}
      → LacksKind G (place_of e) b (row_of types) f
      → AtNode G c u b e l f
  node_place : {l : Bool} {t : Cn} {f : Fault}
      → HasKind G b (row_of types)
      → Found G e t
      → Wants G (place_of e) (xml_of c u b) t f
      → AtNode G c u b e l f
  node_before : {f : Fault}
      → HasKind G b (row_of types)
      → Meets G (place_of e) u b f
      → AtNode G c u b e false f

of_place : (G : Sc) (c u b : Cn) (e : Ex) (t : Option Cn) → HasKind G b (row_of types) → TypeIs G e t → Picks (AtNode G c u b e true) (at_place G (place_of e) c u b t).told
of_place G c u b e None h v = none
  where
    none : (f : Fault) → AtNode G c u b e true f → ⊥
    none f (node_kind x) = kind_out h x
    none f (node_place {t = t} k x w) = v t x
of_place G c u b e (Some t) h v =
    picks_as (Wants G (place_of e) (xml_of c u b) t) (AtNode G c u b e true) (wants G (place_of e) (xml_of c u b) t) there back (picks_wants G (place_of e) (xml_of c u b) t)
  where
    there : (f : Fault) → Wants G (place_of e) (xml_of c u b) t f → AtNode G c u b e true f
    there f x = node_place h v x

    back : (f : Fault) → AtNode G c u b e true f → Wants G (place_of e) (xml_of c u b) t f
    back f (node_kind x) = absurd (kind_out h x)
    back f (node_place k x w) = same_type (λ z. Wants G (place_of e) (xml_of c u b) z f) v x w

of_kinded_node : (G : Sc) (c u b : Cn) (e : Ex) (t : Option Cn) (last : Bool) → HasKind G b (row_of types) → TypeIs G e t → Picks (AtNode G c u b e last) (kinded_node G (place_of e) c u b t last).told
of_kinded_node G c u b e t true h v = of_place G c u b e t h v
of_kinded_node G c u b e t false h v =
    picks_from (AtNode G c u b e true) (Meets G (place_of e) u b) (AtNode G c u b e false) (at_place G (place_of e) c u b t).told (meets G (place_of e) u b) there also back
    (of_place G c u b e t h v) (picks_meets G (place_of e) u b)
  where
    there : (f : Fault) → AtNode G c u b e true f → AtNode G c u b e false f
    there f (node_kind x) = node_kind x
    there f (node_place k x w) = node_place k x w

    also : (f : Fault) → Meets G (place_of e) u b f → AtNode G c u b e false f
    also f x = node_before h x

    back : (f : Fault) → AtNode G c u b e false f → Or (AtNode G c u b e true) (Meets G (place_of e) u b) f
    back f (node_kind x) = or_first (node_kind x)
    back f (node_place k x w) = or_first (node_place k x w)
    back f (node_before k x) = or_second x

no_kind : (G : Sc) (p : Place) (b : Cn) (k : Kd) (w : Flw) → judged_at G.kinds b k ≡ Err w → HasKind G b k → ⊥
no_kind G p b k w x h = let y : LacksKind G p b k (flaw_at p G.called w) = lacks x in kind_out h y

of_node_kind : (G : Sc) (c u b : Cn) (e : Ex) (t : Option Cn) (last : Bool) (r : Result Kd Flw) → Kindly G b (row_of types) r → TypeIs G e t → Picks (LacksKind G (place_of e) b (row_of types)) (flawed G (place_of e) r) →
    Picks (AtNode G c u b e last) (of_kinded G (place_of e) c u b t last (flawed G (place_of e) r)).told
of_node_kind G c u b e t last (Ok l) (kindly h) v p = of_kinded_node G c u b e t last h v
of_node_kind G c u b e t last (Err w) (unkind x) v p =
    picks_as (LacksKind G (place_of e) b (row_of types)) (AtNode G c u b e last) (Some (flaw_at (place_of e) G.called w)) there (back last) p
  where
    there : (f : Fault) → LacksKind G (place_of e) b (row_of types) f → AtNode G c u b e last f
    there f y = node_kind y

    back : (l : Bool) (f : Fault) → AtNode G c u b e l f → LacksKind G (place_of e) b (row_of types) f
    back l f (node_kind y) = y
    back l f (node_place k y z) = absurd (no_kind G (place_of e) b (row_of types) w x k)
    back l f (node_before k y) = absurd (no_kind G (place_of e) b (row_of types) w x k)

node_picks : (G : Sc) (c u b : Cn) (e : Ex) (t : Option Cn) (last : Bool) → TypeIs G e t → Picks (AtNode G c u b e last) (node_told G (place_of e) c u b t last).told
node_picks G c u b e t last v =
    of_node_kind G c u b e t last (judged_at G.kinds b (row_of types)) (kind_is G b (row_of types)) v
    (picks_flaw G (place_of e) b (row_of types) (judged_at G.kinds b (row_of types)) (kind_is G b (row_of types)))

-- a node that is found by itself
pub record IsNode (G : Sc) (c u b : Cn) (e : Ex) (last : Bool) : Type 0 where
  pub kind : HasKind G b (row_of types)
  pub type : Cn
  pub found : Found G e type
  pub same : Alike (xml_of c u b) type
  pub before : last ≡ false → Disjoint G.kinds.guards u b

-- its type
record InPlace (G : Sc) (c u b : Cn) (e : Ex) : Type 0 where
  type : Cn
  found : Found G e type
  same : Alike (xml_of c u b) type

place_says : (G : Sc) (c u b : Cn) (e : Ex) (t : Option Cn) → TypeIs G e t → Says (InPlace G c u b e) (at_place G (place_of e) c u b t).found
place_says G c u b e None v = no (λ y. v y.type y.found)
place_says G c u b e (Some t) v = by_wanted (wants G (place_of e) (xml_of c u b) t) (wanted G (place_of e) (xml_of c u b) t)
  where
    by_wanted : (o : Option Fault) → Wanted G (place_of e) (xml_of c u b) t o → Says (InPlace G c u b e) (silent o)
    by_wanted None (agree a) = yes (record { type = t; found = v; same = a })
    by_wanted (Some f) (disagree x) = no (λ y. wants_out y.same (same_type (λ z. Wants G (place_of e) (xml_of c u b) z f) y.found v x))

apart_says : (G : Sc) (p : Place) (a b : Cn) (o : Option Fault) → AreApart G p a b o → Says (Disjoint G.kinds.guards a b) (silent o)
apart_says G p a b None (they_are d) = yes d
apart_says G p a b (Some f) (they_meet x) = no (λ d. meets_out d x)

kinded_says : (G : Sc) (c u b : Cn) (e : Ex) (t : Option Cn) (last : Bool) → HasKind G b (row_of types) → TypeIs G e t → Says (IsNode G c u b e last) (kinded_node G (place_of e) c u b t last).found
kinded_says G c u b e t true h v = says_as (InPlace G c u b e) (IsNode G c u b e true) (at_place G (place_of e) c u b t).found there back (place_says G c u b e t v)
  where
    there : InPlace G c u b e → IsNode G c u b e true
    there y = record { kind = h; type = y.type; found = y.found; same = y.same; before = λ n. absurd (true_false n) }

    back : IsNode G c u b e true → InPlace G c u b e
    back y = record { type = y.type; found = y.found; same = y.same }
kinded_says G c u b e t false h v =
    says_as (InPlace G c u b e × Disjoint G.kinds.guards u b) (IsNode G c u b e false) ((at_place G (place_of e) c u b t).found && silent (meets G (place_of e) u b)) there back
    (says_both (InPlace G c u b e) (Disjoint G.kinds.guards u b) (at_place G (place_of e) c u b t).found (silent (meets G (place_of e) u b)) (place_says G c u b e t v)
    (apart_says G (place_of e) u b (meets G (place_of e) u b) (are_apart G (place_of e) u b)))
  where
    there : InPlace G c u b e × Disjoint G.kinds.guards u b → IsNode G c u b e false
    there y = record { kind = h; type = y.0.type; found = y.0.found; same = y.0.same; before = λ n. y.1 }

    back : IsNode G c u b e false → InPlace G c u b e × Disjoint G.kinds.guards u b
    back y = (record { type = y.type; found = y.found; same = y.same }, y.before refl)

by_kind_says : (G : Sc) (c u b : Cn) (e : Ex) (t : Option Cn) (last : Bool) (r : Result Kd Flw) → Kindly G b (row_of types) r → TypeIs G e t → Says (IsNode G c u b e last) (of_kinded G (place_of e) c u b t last (flawed G (place_of e) r)).found
by_kind_says G c u b e t last (Ok l) (kindly h) v = kinded_says G c u b e t last h v
by_kind_says G c u b e t last (Err w) (unkind x) v = no (λ y. no_kind G (place_of e) b (row_of types) w x y.kind)

node_says : (G : Sc) (c u b : Cn) (e : Ex) (t : Option Cn) (last : Bool) → TypeIs G e t → Says (IsNode G c u b e last) (node_told G (place_of e) c u b t last).found
node_says G c u b e t last v = by_kind_says G c u b e t last (judged_at G.kinds b (row_of types)) (kind_is G b (row_of types)) v

-- nodes behind it can be looked at where the row that it fills has its kind
place_goes : (G : Sc) (p : Place) (c u b : Cn) (t : Option Cn) → true ≡ (at_place G p c u b t).goes_on
place_goes G p c u b None = refl
place_goes G p c u b (Some t) = refl

kinded_goes : (G : Sc) (p : Place) (c u b : Cn) (t : Option Cn) (last : Bool) → true ≡ (kinded_node G p c u b t last).goes_on
kinded_goes G p c u b t true = place_goes G p c u b t
kinded_goes G p c u b t false = refl

by_kind_goes : (G : Sc) (p : Place) (c u b : Cn) (t : Option Cn) (last : Bool) (r : Result Kd Flw) → Kindly G b (row_of types) r → Says (HasKind G b (row_of types)) (of_kinded G p c u b t last (flawed G p r)).goes_on
by_kind_goes G p c u b t last (Ok l) (kindly h) = says_is (HasKind G b (row_of types)) true (kinded_node G p c u b t last).goes_on (kinded_goes G p c u b t last) (yes h)
by_kind_goes G p c u b t last (Err w) (unkind x) = no (λ y. no_kind G p b (row_of types) w x y)

node_goes : (G : Sc) (p : Place) (c u b : Cn) (t : Option Cn) (last : Bool) → Says (HasKind G b (row_of types)) (node_told G p c u b t last).goes_on
node_goes G p c u b t last = by_kind_goes G p c u b t last (judged_at G.kinds b (row_of types)) (kind_is G b (row_of types))

-- faults of nodes in two parts: those that are found from the first to the last, and those of fields that are filled
-- behind a node
pub data Fore (G : Sc) (c : Cn) : Cn → Xs → Fault → Type 0 where
  fore_here : {u b : Cn} {e : Ex} {xs : Xs} {f : Fault}
      → AtNode G c u b e (none_behind (node_list xs)) f
      → Fore G c u (a_node b e xs) f
  fore_later : {u b : Cn} {e : Ex} {xs : Xs} {f : Fault}
      → HasKind G b (row_of types)
      → Fore G c (ordered (cat u b)) xs f
      → Fore G c u (a_node b e xs) f

pub data Aft (G : Sc) (c : Cn) : Cn → Xs → Fault → Type 0 where
  aft_here : {u b h r : Cn} {e d : Ex} {xs : Xs} {f : Fault}
      → HasKind G b (row_of types)
      → NodesFound no_cover G c (ordered (cat u b)) (a_node h d xs) r
      → Meets G (place_of e) b r f
      → Aft G c u (a_node b e (a_node h d xs)) f
  aft_later : {u b : Cn} {e : Ex} {xs : Xs} {f : Fault}
      → HasKind G b (row_of types)
      → Aft G c (ordered (cat u b)) xs f
      → Aft G c u (a_node b e xs) f

one_later : {G : Sc} {c u b : Cn} {e : Ex} {xs : Xs} {f : Fault} → HasKind G b (row_of types) → Or (Fore G c (ordered (cat u b)) xs) (Aft G c (ordered (cat u b)) xs) f → Or (Fore G c u (a_node b e xs)) (Aft G c u (a_node b e xs)) f
one_later h (or_first x) = or_first (fore_later h x)
one_later h (or_second x) = or_second (aft_later h x)

divided : {G : Sc} {c u : Cn} {xs : Xs} {f : Fault} → NodeFault G c u xs f → Or (Fore G c u xs) (Aft G c u xs) f
divided (fills_kind x) = or_first (fore_here (node_kind x))
divided (other_place h x w) = or_first (fore_here (node_place h x w))
divided (filled_before h m) = or_first (fore_here (node_before h m))
divided (filled_behind h n m) = or_second (aft_here h n m)
divided (later_node h x) = one_later h (divided x)

at_node : (G : Sc) (c u b : Cn) (e : Ex) (xs : Xs) (f : Fault) (l : Bool) → l ≡ none_behind (node_list xs) → AtNode G c u b e l f → NodeFault G c u (a_node b e xs) f
at_node G c u b e xs f l k (node_kind x) = fills_kind x
at_node G c u b e xs f l k (node_place h x w) = other_place h x w
at_node G c u b e no_nodes f l k (node_before h m) = absurd (false_true k)
at_node G c u b e (a_node g d xs) f l k (node_before h m) = filled_before h m

of_fore : {G : Sc} {c u : Cn} {xs : Xs} {f : Fault} → Fore G c u xs f → NodeFault G c u xs f
of_fore {G = G} {c = c} {f = f} (fore_here {u = u} {b = b} {e = e} {xs = xs} x) = at_node G c u b e xs f (none_behind (node_list xs)) refl x
of_fore (fore_later {xs = no_nodes} h x) = elim x [ ]
of_fore (fore_later {xs = a_node g d xs} h x) = later_node h (of_fore x)

of_aft : {G : Sc} {c u : Cn} {xs : Xs} {f : Fault} → Aft G c u xs f → NodeFault G c u xs f
of_aft (aft_here h n m) = filled_behind h n m
of_aft (aft_later {xs = no_nodes} h x) = elim x [ ]
of_aft (aft_later {xs = a_node g d xs} h x) = later_node h (of_aft x)

-- from the first to the last
fore_step : (G : Sc) (c u b : Cn) (e : Ex) (xs : Xs) (P : Fault → Type 0) (go f : Bool) (told : Option Fault) (r : Fw) → Says (HasKind G b (row_of types)) go →
    Picks (Or P (AtNode G c u b e (none_behind (node_list xs)))) told → Picks (Or (Or P (AtNode G c u b e (none_behind (node_list xs)))) (Fore G c (ordered (cat u b)) xs)) r.told →
    Picks (Or P (Fore G c u (a_node b e xs))) (going_on go f told r).told
fore_step G c u b e xs P true f told r (yes h) p rest =
    picks_rest P (AtNode G c u b e (none_behind (node_list xs))) (Fore G c (ordered (cat u b)) xs) (Fore G c u (a_node b e xs)) r.told there back rest
  where
    there : (g : Fault) → Or (AtNode G c u b e (none_behind (node_list xs))) (Fore G c (ordered (cat u b)) xs) g → Fore G c u (a_node b e xs) g
    there g (or_first x) = fore_here x
    there g (or_second x) = fore_later h x

    back : (g : Fault) → Fore G c u (a_node b e xs) g → Or (AtNode G c u b e (none_behind (node_list xs))) (Fore G c (ordered (cat u b)) xs) g
    back g (fore_here x) = or_first x
    back g (fore_later k x) = or_second x
fore_step G c u b e xs P false f told r (no n) p rest =
    picks_as (Or P (AtNode G c u b e (none_behind (node_list xs)))) (Or P (Fore G c u (a_node b e xs))) told there back p
  where
    there : (g : Fault) → Or P (AtNode G c u b e (none_behind (node_list xs))) g → Or P (Fore G c u (a_node b e xs)) g
    there g (or_first x) = or_first x
    there g (or_second x) = or_second (fore_here x)

    back : (g : Fault) → Or P (Fore G c u (a_node b e xs)) g → Or P (AtNode G c u b e (none_behind (node_list xs))) g
    back g (or_first x) = or_first x
    back g (or_second (fore_here x)) = or_second x
    back g (or_second (fore_later k x)) = absurd (n k)

fore_told : (G : Sc) (c : Cn) (P : Fault → Type 0) (u : Cn) (xs : Xs) (js : List Jd) (told : Option Fault) → NodesTold G xs js → Picks P told → Picks (Or P (Fore G c u xs)) (forward G c u told (node_list xs) js).told
fore_told G c P u no_nodes [] told t p = picks_only_first P (Fore G c u no_nodes) told (λ f x. elim x [ ]) p
fore_told G c P u no_nodes (j ∷ js) told t p = absurd t
fore_told G c P u (a_node b e xs) [] told t p = absurd t
fore_told G c P u (a_node b e xs) (j ∷ js) told t p =
    let last : Bool = none_behind (node_list xs) in
    let o : On = node_told G (place_of e) c u b j.type last in
    let q = picks_two P (AtNode G c u b e last) told o.told p (node_picks G c u b e j.type last t.0.type) in
    fore_step G c u b e xs P o.goes_on o.found (first told o.told) (forward G c (ordered (cat u b)) (first told o.told) (node_list xs) js) (node_goes G (place_of e) c u b j.type last) q
    (fore_told G c (Or P (AtNode G c u b e last)) (ordered (cat u b)) xs js (first told o.told) t.1 q)

-- what is behind nodes that were looked at, from the last to the first
pub data RestIs (G : Sc) (c u : Cn) : Xs → Be → Type 0 where
  nothing : RestIs G c u no_nodes nobody
  fills : {b d : Cn} {e : Ex} {xs : Xs}
      → NodesFound no_cover G c u (a_node b e xs) d
      → RestIs G c u (a_node b e xs) (filling d)
  fills_not : {b : Cn} {e : Ex} {xs : Xs}
      → ((d : Cn) → NodesFound no_cover G c u (a_node b e xs) d → ⊥)
      → RestIs G c u (a_node b e xs) lost

record After (G : Sc) (c : Cn) (P : Fault → Type 0) (u : Cn) (xs : Xs) (r : Bk) : Type 0 where
  own : Picks (Or P (Aft G c u xs)) r.own
  behind : RestIs G c u xs r.behind

-- where no fault is added
none_added : (G : Sc) (c : Cn) (P : Fault → Type 0) (u b : Cn) (e : Ex) (xs : Xs) (o : Option Fault) → HasKind G b (row_of types) → ((f : Fault) → Aft G c u (a_node b e xs) f → Aft G c (ordered (cat u b)) xs f) →
    Picks (Or P (Aft G c (ordered (cat u b)) xs)) o → Picks (Or P (Aft G c u (a_node b e xs))) o
none_added G c P u b e xs o h a p = picks_as (Or P (Aft G c (ordered (cat u b)) xs)) (Or P (Aft G c u (a_node b e xs))) o there back p
  where
    there : (f : Fault) → Or P (Aft G c (ordered (cat u b)) xs) f → Or P (Aft G c u (a_node b e xs)) f
    there f (or_first x) = or_first x
    there f (or_second x) = or_second (aft_later h x)

    back : (f : Fault) → Or P (Aft G c u (a_node b e xs)) f → Or P (Aft G c (ordered (cat u b)) xs) f
    back f (or_first x) = or_first x
    back f (or_second x) = or_second (a f x)

-- the last node
last_found_only : (G : Sc) (c u b d : Cn) (e : Ex) → NodesFound no_cover G c u (a_node b e no_nodes) d → IsNode G c u b e true
last_found_only G c u b d e (last_found {t = t} k x a) = record { kind = k; type = t; found = x; same = a; before = λ n. absurd (true_false n) }

last_behind : (G : Sc) (c u b : Cn) (e : Ex) (f : Bool) → Says (IsNode G c u b e true) f → RestIs G c u (a_node b e no_nodes) (behind_of (last_row b f).row)
last_behind G c u b e true (yes x) = fills (last_found x.kind x.found x.same)
last_behind G c u b e false (no n) = fills_not (λ d x. n (last_found_only G c u b d e x))

last_own : (b : Cn) (f : Bool) → None ≡ (last_row b f).own
last_own b true = refl
last_own b false = refl

with_last : (G : Sc) (c : Cn) (P : Fault → Type 0) (u b : Cn) (e : Ex) (f : Bool) (own : Option Fault) → HasKind G b (row_of types) → Says (IsNode G c u b e true) f → Picks (Or P (Aft G c (ordered (cat u b)) no_nodes)) own →
    After G c P u (a_node b e no_nodes) (node_at G (b, e) f own nobody)
with_last G c P u b e f own h s p = record {
  own = none_added G c P u b e no_nodes (first own (last_row b f).own) h back
      (picks_is (Or P (Aft G c (ordered (cat u b)) no_nodes)) own (first own (last_row b f).own) (subst (λ (z : Option Fault). own ≡ first own z) (last_own b f) (sym (first_none own))) p);
  behind = last_behind G c u b e f s;
}
  where
    back : (g : Fault) → Aft G c u (a_node b e no_nodes) g → Aft G c (ordered (cat u b)) no_nodes g
    back g (aft_later k x) = x

-- a node that has others behind it
amid_found : (G : Sc) (c u b h d : Cn) (e g : Ex) (xs : Xs) → NodesFound no_cover G c u (a_node b e (a_node h g xs)) d → IsNode G c u b e false × ((r : Cn) × NodesFound no_cover G c (ordered (cat u b)) (a_node h g xs) r × Disjoint G.kinds.guards b r)
amid_found G c u b h d e g xs (node_found {d = r} {t = t} k x a l ys m) = (record { kind = k; type = t; found = x; same = a; before = λ n. l }, (r, ys, m))

one_rest_found : (G : Sc) (c u b h r s : Cn) (g : Ex) (xs : Xs) → NodesFound no_cover G c u (a_node h g xs) r → NodesFound no_cover G c u (a_node h g xs) s → Disjoint G.kinds.guards b s → Disjoint G.kinds.guards b r
one_rest_found G c u b h r s g xs n m d = subst (λ (z : Cn). Disjoint G.kinds.guards b z) (one_nodes m n) d

amid_behind : (G : Sc) (c u b h r : Cn) (e g : Ex) (xs : Xs) (f : Bool) (o : Option Fault) → NodesFound no_cover G c (ordered (cat u b)) (a_node h g xs) r → Says (IsNode G c u b e false) f → AreApart G (place_of e) b r o →
    RestIs G c u (a_node b e (a_node h g xs)) (behind_of (when_apart f b r o).row)
amid_behind G c u b h r e g xs true None n (yes x) (they_are d) = fills (node_found x.kind x.found x.same (x.before refl) n d)
amid_behind G c u b h r e g xs false None n (no m) (they_are d) = fills_not (λ k y. m (amid_found G c u b h k e g xs y).0)
amid_behind G c u b h r e g xs f (Some w) n s (they_meet x) =
    fills_not (λ k y. let z = (amid_found G c u b h k e g xs y).1 in meets_out (one_rest_found G c (ordered (cat u b)) b h r z.0 g xs n z.1 z.2) x)

apart_own : (f : Bool) (b r : Cn) (o : Option Fault) → o ≡ (when_apart f b r o).own
apart_own true b r None = refl
apart_own false b r None = refl
apart_own f b r (Some w) = refl

amid_own : (G : Sc) (c : Cn) (P : Fault → Type 0) (u b h r : Cn) (e g : Ex) (xs : Xs) (own : Option Fault) → HasKind G b (row_of types) → NodesFound no_cover G c (ordered (cat u b)) (a_node h g xs) r →
    Picks (Or P (Aft G c (ordered (cat u b)) (a_node h g xs))) own → Picks (Or P (Aft G c u (a_node b e (a_node h g xs)))) (first own (meets G (place_of e) b r))
amid_own G c P u b h r e g xs own k n p =
    picks_from (Or P (Aft G c (ordered (cat u b)) (a_node h g xs))) (Meets G (place_of e) b r) (Or P (Aft G c u (a_node b e (a_node h g xs)))) own (meets G (place_of e) b r) there also back p
    (picks_meets G (place_of e) b r)
  where
    there : (f : Fault) → Or P (Aft G c (ordered (cat u b)) (a_node h g xs)) f → Or P (Aft G c u (a_node b e (a_node h g xs))) f
    there f (or_first x) = or_first x
    there f (or_second x) = or_second (aft_later k x)

    also : (f : Fault) → Meets G (place_of e) b r f → Or P (Aft G c u (a_node b e (a_node h g xs))) f
    also f x = or_second (aft_here k n x)

    later : (f : Fault) → Aft G c u (a_node b e (a_node h g xs)) f → Or (Or P (Aft G c (ordered (cat u b)) (a_node h g xs))) (Meets G (place_of e) b r) f
    later f (aft_here l m x) = or_second (subst (λ (z : Cn). Meets G (place_of e) b z f) (one_nodes m n) x)
    later f (aft_later l x) = or_first (or_second x)

    back : (f : Fault) → Or P (Aft G c u (a_node b e (a_node h g xs))) f → Or (Or P (Aft G c (ordered (cat u b)) (a_node h g xs))) (Meets G (place_of e) b r) f
    back f (or_first x) = or_first (or_first x)
    back f (or_second x) = later f x

with_amid : (G : Sc) (c : Cn) (P : Fault → Type 0) (u b h r : Cn) (e g : Ex) (xs : Xs) (f : Bool) (own : Option Fault) → HasKind G b (row_of types) → Says (IsNode G c u b e false) f →
    NodesFound no_cover G c (ordered (cat u b)) (a_node h g xs) r → Picks (Or P (Aft G c (ordered (cat u b)) (a_node h g xs))) own → After G c P u (a_node b e (a_node h g xs)) (node_at G (b, e) f own (filling r))
with_amid G c P u b h r e g xs f own k s n p = record {
  own = picks_is (Or P (Aft G c u (a_node b e (a_node h g xs)))) (first own (meets G (place_of e) b r)) (first own (when_apart f b r (meets G (place_of e) b r)).own)
      (subst (λ (z : Option Fault). first own (meets G (place_of e) b r) ≡ first own z) (apart_own f b r (meets G (place_of e) b r)) refl)
      (amid_own G c P u b h r e g xs own k n p);
  behind = amid_behind G c u b h r e g xs f (meets G (place_of e) b r) n s (are_apart G (place_of e) b r);
}

-- where what is behind isn't found
with_lost : (G : Sc) (c : Cn) (P : Fault → Type 0) (u b h : Cn) (e g : Ex) (xs : Xs) (own : Option Fault) → HasKind G b (row_of types) → ((d : Cn) → NodesFound no_cover G c (ordered (cat u b)) (a_node h g xs) d → ⊥) →
    Picks (Or P (Aft G c (ordered (cat u b)) (a_node h g xs))) own → After G c P u (a_node b e (a_node h g xs)) (record { own = own; behind = lost })
with_lost G c P u b h e g xs own k n p = record {
  own = none_added G c P u b e (a_node h g xs) own k back p;
  behind = fills_not (λ d y. let z = (amid_found G c u b h d e g xs y).1 in n z.0 z.1);
}
  where
    back : (f : Fault) → Aft G c u (a_node b e (a_node h g xs)) f → Aft G c (ordered (cat u b)) (a_node h g xs) f
    back f (aft_here {r = r} l m x) = absurd (n r m)
    back f (aft_later l x) = x

node_step : (G : Sc) (c : Cn) (P : Fault → Type 0) (u b : Cn) (e : Ex) (xs : Xs) (m : Be) → RestIs G c (ordered (cat u b)) xs m → (f : Bool) (own : Option Fault) → HasKind G b (row_of types) → Says (IsNode G c u b e (none_behind (node_list xs))) f →
    Picks (Or P (Aft G c (ordered (cat u b)) xs)) own → After G c P u (a_node b e xs) (node_at G (b, e) f own m)
node_step G c P u b e xs m nothing f own k s p = with_last G c P u b e f own k s p
node_step G c P u b e xs m (fills {b = h} {d = r} {e = g} {xs = ys} n) f own k s p = with_amid G c P u b h r e g ys f own k s n p
node_step G c P u b e xs m (fills_not {b = h} {e = g} {xs = ys} n) f own k s p = with_lost G c P u b h e g ys own k n p

-- where the row that a node fills hasn't its kind
unkinded : (G : Sc) (c u b d : Cn) (e : Ex) (xs : Xs) → NodesFound no_cover G c u (a_node b e xs) d → HasKind G b (row_of types)
unkinded G c u b d e xs (last_found k x a) = k
unkinded G c u b d e xs (node_found k x a l ys m) = k

aft_kind : (G : Sc) (c u b : Cn) (e : Ex) (xs : Xs) (f : Fault) → Aft G c u (a_node b e xs) f → HasKind G b (row_of types)
aft_kind G c u b e xs f (aft_here k n m) = k
aft_kind G c u b e xs f (aft_later k x) = k

untouched : (G : Sc) (told : Option Fault) (xs : Xs) → told ≡ (backward G told (node_list xs) []).own
untouched G told no_nodes = refl
untouched G told (a_node b e xs) = untouched G told xs

bad_own : (G : Sc) (c : Cn) (P : Fault → Type 0) (u b : Cn) (e : Ex) (xs : Xs) (o : Option Fault) → (HasKind G b (row_of types) → ⊥) → Picks P o → Picks (Or P (Aft G c u (a_node b e xs))) o
bad_own G c P u b e xs o n p = picks_only_first P (Aft G c u (a_node b e xs)) o (λ f x. n (aft_kind G c u b e xs f x)) p

bad_node : (G : Sc) (c : Cn) (P : Fault → Type 0) (u b : Cn) (e : Ex) (xs : Xs) (told : Option Fault) → (HasKind G b (row_of types) → ⊥) → Picks P told → After G c P u (a_node b e xs) (backward G told ((b, e) ∷ node_list xs) (false ∷ []))
bad_node G c P u b e no_nodes told n p = record {
  own = bad_own G c P u b e no_nodes (first told None) n (picks_is P told (first told None) (sym (first_none told)) p);
  behind = fills_not (λ d x. n (unkinded G c u b d e no_nodes x));
}
bad_node G c P u b e (a_node h g xs) told n p = record {
  own = bad_own G c P u b e (a_node h g xs) (backward G told (node_list xs) []).own n (picks_is P told (backward G told (node_list xs) []).own (untouched G told xs) p);
  behind = fills_not (λ d x. n (unkinded G c u b d e (a_node h g xs) x));
}

-- from the last to the first
after_step : (G : Sc) (c : Cn) (P : Fault → Type 0) (u b : Cn) (e : Ex) (xs : Xs) (go f : Bool) (told own : Option Fault) (r : Fw) → Says (HasKind G b (row_of types)) go → Says (IsNode G c u b e (none_behind (node_list xs))) f →
    Picks P told → After G c P (ordered (cat u b)) xs (backward G told (node_list xs) r.found) → After G c P u (a_node b e xs) (backward G told ((b, e) ∷ node_list xs) (going_on go f own r).found)
after_step G c P u b e xs true f told own r (yes k) s p a =
    let back : Bk = backward G told (node_list xs) r.found in node_step G c P u b e xs back.behind a.behind f back.own k s a.own
after_step G c P u b e xs false true told own r (no n) (yes x) p a = absurd (n x.kind)
after_step G c P u b e xs false false told own r (no n) (no m) p a = bad_node G c P u b e xs told n p

after : (G : Sc) (c : Cn) (P : Fault → Type 0) (u : Cn) (xs : Xs) (js : List Jd) (told own : Option Fault) → NodesTold G xs js → Picks P told → After G c P u xs (backward G told (node_list xs) (forward G c u own (node_list xs) js).found)
after G c P u no_nodes [] told own t p = record { own = picks_only_first P (Aft G c u no_nodes) told (λ f x. elim x [ ]) p; behind = nothing }
after G c P u no_nodes (j ∷ js) told own t p = absurd t
after G c P u (a_node b e xs) [] told own t p = absurd t
after G c P u (a_node b e xs) (j ∷ js) told own t p =
    let last : Bool = none_behind (node_list xs) in
    let o : On = node_told G (place_of e) c u b j.type last in
    after_step G c P u b e xs o.goes_on o.found told (first own o.told) (forward G c (ordered (cat u b)) (first own o.told) (node_list xs) js) (node_goes G (place_of e) c u b j.type last)
    (node_says G c u b e j.type last t.0.type) p (after G c P (ordered (cat u b)) xs js told (first own o.told) t.1 p)

-- all nodes: what they tell, and the fields that they fill
whole_after : (G : Sc) (c u : Cn) (xs : Xs) (ks : List Jd) → NodesTold G xs ks → After G c (Fore G c u xs) u xs (backward G (forward G c u None (node_list xs) ks).told (node_list xs) (forward G c u None (node_list xs) ks).found)
whole_after G c u xs ks t =
    after G c (Fore G c u xs) u xs ks (forward G c u None (node_list xs) ks).told None t
    (picks_start (Fore G c u xs) (forward G c u None (node_list xs) ks).told (fore_told G c Never u xs ks None t picks_never))

pub nodes_pick : (G : Sc) (c u : Cn) (xs : Xs) (ks : List Jd) → NodesTold G xs ks → Picks (NodeFault G c u xs) (nodes_found G c u (node_list xs) ks).own
nodes_pick G c u xs ks t =
    picks_as (Or (Fore G c u xs) (Aft G c u xs)) (NodeFault G c u xs) (nodes_found G c u (node_list xs) ks).own there (λ f x. divided x) (whole_after G c u xs ks t).own
  where
    there : (f : Fault) → Or (Fore G c u xs) (Aft G c u xs) f → NodeFault G c u xs f
    there f (or_first x) = of_fore x
    there f (or_second x) = of_aft x

by_rest : (G : Sc) (c u : Cn) (xs : Xs) (m : Be) → RestIs G c u xs m → Holds (NodesFound no_cover G c u xs) (whole_row m)
by_rest G c u xs m nothing = no_node_found
by_rest G c u xs m (fills n) = n
by_rest G c u xs m (fills_not n) = n

pub nodes_hold : (G : Sc) (c u : Cn) (xs : Xs) (ks : List Jd) → NodesTold G xs ks → Holds (NodesFound no_cover G c u xs) (nodes_found G c u (node_list xs) ks).row
nodes_hold G c u xs ks t =
    by_rest G c u xs (backward G (forward G c u None (node_list xs) ks).told (node_list xs) (forward G c u None (node_list xs) ks).found).behind (whole_after G c u xs ks t).behind
