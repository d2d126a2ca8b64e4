-- Nodes that fill no field fill none together.
use Rattle.std.proofs.Common.{◌≡◌, refl, sym, subst}
use Rattle.con_terms.specs.Trees.{types, row_of, Cn}
use Rattle.con_terms.specs.Apart.{Guards}
use Rattle.kind_rules.specs.Compared.{comparison_units}
use Rattle.core_terms.specs.Trees.{Xs, no_nodes, a_node}
use Rattle.core_terms.specs.Types.{no_types}
use Rattle.core_typing.specs.Scopes.{Sc}
use Rattle.core_typing.specs.Asks.{no_cover}
use Rattle.core_typing.specs.Compared.{Disjoint}
use Rattle.core_typing.specs.Found.{NodesFound, no_node_found, node_found, last_found}
use Rattle.core_typing.specs.TypingLaws.{ArePlainNodes, PlainNodesFillNothing, OnlyNodesAskNoGuard}
use Rattle.core_typing.specs.Judged.{HasKind, has}

nothing_touches : (gs : Guards) → Disjoint gs no_types no_types
unfolding comparison_units
nothing_touches gs = record { none_touch = refl }

none_is_row : (G : Sc) → HasKind G no_types (row_of types)
unfolding comparison_units
none_is_row G = has refl

plain_nodes : (G : Sc) (c : Cn) (xs : Xs) → ArePlainNodes G c xs → NodesFound no_cover G c no_types xs no_types
plain_nodes G c no_nodes h = no_node_found
plain_nodes G c (a_node b e no_nodes) h = of_none h.0.fills_none (last_found (none_is_row G) h.0.found h.0.in_place)
  where
    of_none : b ≡ no_types → NodesFound no_cover G c no_types (a_node no_types e no_nodes) no_types → NodesFound no_cover G c no_types (a_node b e no_nodes) no_types
    of_none i f = subst (λ x. NodesFound no_cover G c no_types (a_node x e no_nodes) no_types) (sym i) f
plain_nodes G c (a_node b e (a_node d f xs)) h =
    of_none h.0.fills_none (node_found (none_is_row G) h.0.found h.0.in_place (nothing_touches G.kinds.guards) (plain_nodes G c (a_node d f xs) h.1) (nothing_touches G.kinds.guards))
  where
    of_none : b ≡ no_types → NodesFound no_cover G c no_types (a_node no_types e (a_node d f xs)) no_types → NodesFound no_cover G c no_types (a_node b e (a_node d f xs)) no_types
    of_none i g = subst (λ x. NodesFound no_cover G c no_types (a_node x e (a_node d f xs)) no_types) (sym i) g

pub plain_nodes_fill_nothing : PlainNodesFillNothing
plain_nodes_fill_nothing G c xs h = plain_nodes G c xs h

pub only_node : OnlyNodesAskNoGuard
only_node G c u b t e k f a = last_found k f a
