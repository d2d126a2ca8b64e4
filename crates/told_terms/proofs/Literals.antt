-- <xml>..</xml>
use Rattle.std.proofs.Common.{Bool, List, Option, Some, None, Result, Ok, Err}
use Rattle.con_terms.specs.Trees.{Kd, types, units, row_of, Cn}
use Rattle.con_terms.specs.declared.place.Place.{Place}
use Rattle.kind_rules.specs.Flaws.{Flw}
use Rattle.kind_rules.specs.Kinding.{judged_at}
use Rattle.core_terms.specs.Trees.{Ex, node, literal, Xs}
use Rattle.core_terms.specs.Lists.{node_list}
use Rattle.core_typing.specs.Scopes.{Sc}
use Rattle.core_typing.specs.Asks.{no_cover}
use Rattle.core_typing.specs.Judged.{HasKind, LacksKind, lacks, flaw_at}
use Rattle.core_typing.specs.Faults.{Fault}
use Rattle.core_typing.specs.Found.{Found, literal_has, NodesFound}
use Rattle.core_typing.specs.Own.{Own, NodeFault}
use Rattle.core_typing.specs.Own as own
use Rattle.core_typing.specs.Tells.{Sub, InNodes}
use Rattle.core_typing.specs.Tells as tells
use Rattle.core_typing.proofs.Excluded.{kind_out}
use Rattle.told_faults.specs.Computed.{Jd, flawed}
use Rattle.told_faults.specs.Told.{TypeIs, Verdict, Picks, Least, Holds, Or, or_first, or_second}
use Rattle.told_faults.specs.Heads.{Kindly, kindly, unkind}
use Rattle.told_faults.proofs.Parts.{kind_is, picks_flaw}
use Rattle.told_faults.proofs.Verdict.{picks_as, picks_two, least_as}
use Rattle.markup_rules.specs.Nodes.{Nd, told_of, nodes_found}
use Rattle.markup_rules.specs.Standing.{rows_told}
use Rattle.markup_rules.specs.Elements.{row_type, of_nodes, unless_flawed, literal_found, of_literal}
use Rattle.told_terms.proofs.Verdicts.{whole}
use Rattle.told_terms.proofs.Nodes.{nodes_least, nodes_pick, nodes_hold}
use Rattle.told_terms.proofs.Wanted.{NodesTold, Here, here_is}

-- what the kinds of the rows of a context and of the fields before it tell
abbrev pub RowFault : Sc → Place → Cn → Cn → Fault → Type 0
RowFault G p c u = Or (LacksKind G p c (row_of units)) (LacksKind G p u (row_of types))

pub rows_pick : (G : Sc) (p : Place) (c u : Cn) → Picks (RowFault G p c u) (rows_told G p c u)
rows_pick G p c u =
    picks_two (LacksKind G p c (row_of units)) (LacksKind G p u (row_of types)) (flawed G p (judged_at G.kinds c (row_of units))) (flawed G p (judged_at G.kinds u (row_of types)))
    (picks_flaw G p c (row_of units) (judged_at G.kinds c (row_of units)) (kind_is G c (row_of units)))
    (picks_flaw G p u (row_of types) (judged_at G.kinds u (row_of types)) (kind_is G u (row_of types)))

-- where none is told, both have their kinds
kind_unless : (G : Sc) (p : Place) (c : Cn) (k : Kd) (r : Result Kd Flw) → Kindly G c k r → ((f : Fault) → LacksKind G p c k f → ⊥) → HasKind G c k
kind_unless G p c k (Ok l) (kindly h) n = h
kind_unless G p c k (Err w) (unkind x) n = absurd (n (flaw_at p G.called w) (lacks x))

pub rows_kind : (G : Sc) (p : Place) (c u : Cn) → ((f : Fault) → RowFault G p c u f → ⊥) → HasKind G c (row_of units) × HasKind G u (row_of types)
rows_kind G p c u n = (
  kind_unless G p c (row_of units) (judged_at G.kinds c (row_of units)) (kind_is G c (row_of units)) (λ f x. n f (or_first x)),
  kind_unless G p u (row_of types) (judged_at G.kinds u (row_of types)) (kind_is G u (row_of types)) (λ f x. n f (or_second x)),
)

pub rows_out : (G : Sc) (p : Place) (c u : Cn) (f : Fault) → RowFault G p c u f → HasKind G c (row_of units) → HasKind G u (row_of types) → ⊥
rows_out G p c u f (or_first x) h k = kind_out h x
rows_out G p c u f (or_second x) h k = kind_out k x

-- its own faults
own_picks : (G : Sc) (p : Place) (a : Bool) (c u : Cn) (xs : Xs) (o : Option Fault) (n : Nd) → Picks (RowFault G p c u) o → Picks (NodeFault G c u xs) n.own → Picks (Own G (node p a (literal c u xs))) (unless_flawed o (of_nodes c u n)).told
own_picks G p a c u xs (Some f) n r q = picks_as (RowFault G p c u) (Own G (node p a (literal c u xs))) (Some f) there back r
  where
    there : (g : Fault) → RowFault G p c u g → Own G (node p a (literal c u xs)) g
    there g (or_first x) = own.literal_context x
    there g (or_second x) = own.literal_uses x

    back : (g : Fault) → Own G (node p a (literal c u xs)) g → RowFault G p c u g
    back g (own.literal_context x) = or_first x
    back g (own.literal_uses x) = or_second x
    back g (own.literal_node h k x) = absurd (rows_out G p c u f r.0 h k)
own_picks G p a c u xs None n r q = picks_as (NodeFault G c u xs) (Own G (node p a (literal c u xs))) n.own there back q
  where
    there : (g : Fault) → NodeFault G c u xs g → Own G (node p a (literal c u xs)) g
    there g x = let k = rows_kind G p c u r in own.literal_node k.0 k.1 x

    back : (g : Fault) → Own G (node p a (literal c u xs)) g → NodeFault G c u xs g
    back g (own.literal_context x) = absurd (r g (or_first x))
    back g (own.literal_uses x) = absurd (r g (or_second x))
    back g (own.literal_node h k x) = x

-- its type
by_row : (G : Sc) (p : Place) (a : Bool) (c u : Cn) (xs : Xs) (o : Option Cn) → HasKind G c (row_of units) → HasKind G u (row_of types) → Holds (NodesFound no_cover G c u xs) o → TypeIs G (node p a (literal c u xs)) (row_type c u o)
by_row G p a c u xs None h k v = none
  where
    none : (t : Cn) → Found G (node p a (literal c u xs)) t → ⊥
    none t (literal_has {b = b} l m ys) = v b ys
by_row G p a c u xs (Some b) h k v = literal_has h k v

type_is : (G : Sc) (p : Place) (a : Bool) (c u : Cn) (xs : Xs) (o : Option Fault) (n : Nd) → Picks (RowFault G p c u) o → Holds (NodesFound no_cover G c u xs) n.row → TypeIs G (node p a (literal c u xs)) (unless_flawed o (of_nodes c u n)).type
type_is G p a c u xs (Some f) n r v = none
  where
    none : (t : Cn) → Found G (node p a (literal c u xs)) t → ⊥
    none t (literal_has h k ys) = rows_out G p c u f r.0 h k
type_is G p a c u xs None n r v = let k = rows_kind G p c u r in by_row G p a c u xs n.row k.0 k.1 v

-- the nodes in it
nodes_in : (G : Sc) (p : Place) (a : Bool) (c u : Cn) (xs : Xs) (js : List Jd) → NodesTold G xs js → Least (Sub G (node p a (literal c u xs))) (told_of js)
nodes_in G p a c u xs js t = least_as (Here G (InNodes xs)) (Sub G (node p a (literal c u xs))) (told_of js) there back (nodes_least G xs js t)
  where
    there : (H : Sc) (d : Ex) → Here G (InNodes xs) H d → Sub G (node p a (literal c u xs)) H d
    there H d (here_is i) = tells.literal_node i

    back : (H : Sc) (d : Ex) → Sub G (node p a (literal c u xs)) H d → Here G (InNodes xs) H d
    back H d (tells.literal_node i) = here_is i

pub literal_told : (G : Sc) (p : Place) (a : Bool) (c u : Cn) (xs : Xs) (js : List Jd) → NodesTold G xs js → Verdict G (node p a (literal c u xs)) (of_literal G p c u xs js)
literal_told G p a c u xs js t =
    let n : Nd = nodes_found G c u (node_list xs) js in
    let j : Jd = literal_found G p c u xs js in
    whole G (node p a (literal c u xs)) j.type (told_of js) j.told (type_is G p a c u xs (rows_told G p c u) n (rows_pick G p c u) (nodes_hold G c u xs js t)) (nodes_in G p a c u xs js t)
    (own_picks G p a c u xs (rows_told G p c u) n (rows_pick G p c u) (nodes_pick G c u xs js t))
