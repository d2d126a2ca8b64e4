-- What is computed for elements and for literals is found, where what is computed for their terms is.
use Rattle.std.specs.Prelude.{◌≡◌, Bool, List, [], ◌∷◌, Some, None}
use Rattle.con_terms.specs.Trees.{Cn}
use Rattle.con_terms.specs.declared.place.Place.{Place}
use Rattle.core_terms.specs.Trees.{Ex, node, literal, El, Ats, no_attributes, attribute, Xs, no_nodes, a_node}
use Rattle.core_typing.specs.Scopes.{Sc}
use Rattle.core_typing.specs.Cover.{Covers}
use Rattle.core_typing.specs.Asks.{CoverAsked, no_cover}
use Rattle.core_typing.specs.Found.{FoundBy, ElementFound}
use Rattle.told_faults.specs.Computed.{Jd}
use Rattle.markup_rules.specs.Elements.{attributes_of, nodes_of, ElementJudged, of_literal}

-- a term for which a type and no fault is computed has that type
abbrev pub Sound : CoverAsked → Sc → Ex → Jd → Type 0
Sound C G e j = (t : Cn) → j.type ≡ Some t → j.told ≡ None → FoundBy C G e t

-- each of some terms, with what is computed for it
abbrev pub Founds : CoverAsked → Sc → List Ex → List Jd → Type 0
Founds C G [] [] = Unit {0}
Founds C G (e ∷ es) (j ∷ js) = Sound C G e j × Founds C G es js
Founds C G [] (j ∷ js) = ⊥
Founds C G (e ∷ es) [] = ⊥

-- the terms of attributes, and of nodes
abbrev pub attribute_terms : Ats → List Ex
attribute_terms no_attributes = []
attribute_terms (attribute p n e as') = e ∷ attribute_terms as'

abbrev pub node_terms : Xs → List Ex
node_terms no_nodes = []
node_terms (a_node b e xs) = e ∷ node_terms xs

-- an element has the type that is computed for it, where no fault is
abbrev pub ElementsAreFound : CoverAsked → Type 0
ElementsAreFound C = (G : Sc) (p : Place) (m : El) (js ks : List Jd) (j : Jd) (t : Cn)
    → Founds C G (attribute_terms (attributes_of m)) js
    → Founds C G (node_terms (nodes_of m)) ks
    → ElementJudged G p m js ks j
    → j.type ≡ Some t
    → j.told ≡ None
    → ElementFound C G m t

-- and so has a literal
abbrev pub LiteralsAreFound : CoverAsked → Type 0
LiteralsAreFound C = (G : Sc) (p : Place) (a : Bool) (c u : Cn) (xs : Xs) (ks : List Jd) (t : Cn)
    → Founds C G (node_terms xs) ks
    → (of_literal G p c u xs ks).type ≡ Some t
    → (of_literal G p c u xs ks).told ≡ None
    → FoundBy C G (node p a (literal c u xs)) t

-- whatever is asked of patterns' cover
abbrev pub MarkupIsFound : Type 0
MarkupIsFound =
    ElementsAreFound no_cover × ElementsAreFound Covers × LiteralsAreFound no_cover × LiteralsAreFound Covers
