-- What is told of an element, from what is told of its attributes and of its nodes.
use Rattle.std.proofs.Common.{Bool, List, Option}
use Rattle.con_terms.specs.Trees.{Cn}
use Rattle.con_terms.specs.declared.place.Place.{Place}
use Rattle.xml_trees.specs.declared.source_name.TagName.{TagName}
use Rattle.core_terms.specs.Trees.{Ex, node, element, El, tagged, Ats, Xs}
use Rattle.core_typing.specs.Scopes.{Sc}
use Rattle.core_typing.specs.Faults.{Fault}
use Rattle.core_typing.specs.Own.{ElementFault, Own, an_element}
use Rattle.core_typing.specs.Tells.{InNodes, InAttributes, Sub, attribute_term, inner_node}
use Rattle.told_faults.specs.Computed.{Jd, first}
use Rattle.told_faults.specs.Told.{Verdict, Picks, Least, Either, in_first, in_second}
use Rattle.told_faults.proofs.Verdict.{picks_as, least_as, least_two}
use Rattle.markup_rules.specs.Nodes.{told_of}
use Rattle.markup_rules.specs.Elements.{attributes_of, nodes_of, ElementJudged, LinksMarked, element_found, of_element}
use Rattle.told_terms.proofs.Wanted.{AttributesTold, NodesTold, Here, here_is}
use Rattle.told_terms.proofs.Verdicts.{verdict_as, whole}
use Rattle.told_terms.proofs.Nodes.{nodes_least, attributes_least}
use Rattle.told_terms.proofs.ElementFaults.{element_pick}
use Rattle.told_terms.proofs.ElementTypes.{element_type}

-- its own faults
own_fault : {G : Sc} {p : Place} {a : Bool} {m : El} {f : Fault} → Own G (node p a (element m)) f → ElementFault G p m f
own_fault (an_element x) = x

own_pick : (G : Sc) (p : Place) (a : Bool) (m : El) (o : Option Fault) → Picks (ElementFault G p m) o → Picks (Own G (node p a (element m))) o
own_pick G p a m o h = picks_as (ElementFault G p m) (Own G (node p a (element m))) o (λ f x. an_element x) (λ f x. own_fault x) h

-- its parts
part_there : (G : Sc) (p : Place) (a : Bool) (g : TagName) (n : Option (Place × Cn)) (c u : Cn) (as' : Ats) (xs : Xs) (H : Sc) (e : Ex) → Either (Here G (InAttributes as')) (Here G (InNodes xs)) H e → Sub G (node p a (element (tagged g n c u as' xs))) H e
part_there G p a g n c u as' xs H e (in_first (here_is x)) = attribute_term x
part_there G p a g n c u as' xs H e (in_second (here_is x)) = inner_node x

part_back : (G : Sc) (p : Place) (a : Bool) (g : TagName) (n : Option (Place × Cn)) (c u : Cn) (as' : Ats) (xs : Xs) (H : Sc) (e : Ex) → Sub G (node p a (element (tagged g n c u as' xs))) H e → Either (Here G (InAttributes as')) (Here G (InNodes xs)) H e
part_back G p a g n c u as' xs H e (attribute_term x) = in_first (here_is x)
part_back G p a g n c u as' xs H e (inner_node x) = in_second (here_is x)

parts_least : (G : Sc) (p : Place) (a : Bool) (g : TagName) (n : Option (Place × Cn)) (c u : Cn) (as' : Ats) (xs : Xs) (js ks : List Jd) → AttributesTold G as' js → NodesTold G xs ks →
    Least (Sub G (node p a (element (tagged g n c u as' xs)))) (first (told_of js) (told_of ks))
parts_least G p a g n c u as' xs js ks x y =
    least_as (Either (Here G (InAttributes as')) (Here G (InNodes xs))) (Sub G (node p a (element (tagged g n c u as' xs)))) (first (told_of js) (told_of ks))
    (part_there G p a g n c u as' xs) (part_back G p a g n c u as' xs)
    (least_two (Here G (InAttributes as')) (Here G (InNodes xs)) (told_of js) (told_of ks) (attributes_least G as' js x) (nodes_least G xs ks y))

-- at marks that its links ask for
marked_told : (bs : List Bool) (G : Sc) (p : Place) (a : Bool) (g : TagName) (n : Option (Place × Cn)) (c u : Cn) (as' : Ats) (xs : Xs) (js ks : List Jd) → LinksMarked bs G (tagged g n c u as' xs) → AttributesTold G as' js → NodesTold G xs ks →
    Verdict G (node p a (element (tagged g n c u as' xs))) (of_element bs G p (tagged g n c u as' xs) js ks)
marked_told bs G p a g n c u as' xs js ks m x y =
    whole G (node p a (element (tagged g n c u as' xs))) (element_found bs G p (tagged g n c u as' xs) js ks).type (first (told_of js) (told_of ks)) (element_found bs G p (tagged g n c u as' xs) js ks).told
    (element_type bs G p a g n c u as' xs js ks m x y)
    (parts_least G p a g n c u as' xs js ks x y)
    (own_pick G p a (tagged g n c u as' xs) (element_found bs G p (tagged g n c u as' xs) js ks).told (element_pick bs G p g n c u as' xs js ks m x y))

-- an element
pub element_told : (G : Sc) (p : Place) (a : Bool) (m : El) (js ks : List Jd) (j : Jd)
    → AttributesTold G (attributes_of m) js
    → NodesTold G (nodes_of m) ks
    → ElementJudged G p m js ks j
    → Verdict G (node p a (element m)) j
element_told G p a (tagged g n c u as' xs) js ks j x y e =
    verdict_as G (node p a (element (tagged g n c u as' xs))) j (of_element e.marks G p (tagged g n c u as' xs) js ks) e.is
    (marked_told e.marks G p a g n c u as' xs js ks e.marked x y)
