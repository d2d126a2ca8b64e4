-- How a page grows by its pieces.
use Rattle.std.proofs.Common.{◌≡◌, ℕ, List, [], ◌∷◌, ◌++◌, ◌-◌, take, get_or, length, length-append, arith, refl, sym, ap, ◌∙◌, subst}
use Rattle.std.proofs.lemmas.List.{get_or_push, take_at}
use Rattle.xml_trees.specs.declared.name.Name.{Name}
use Rattle.xml_trees.specs.declared.tag.Tag.{Tag}
use Rattle.xml_trees.specs.declared.attrs.Attr.{Attr}
use Rattle.xml_trees.specs.declared.page.Piece.{Piece}
use Rattle.xml_trees.specs.declared.page.Piece.TheVariants.{Begin, Words as Said, End}
use Rattle.xml_trees.specs.Tags.{name_of}
use Rattle.xml_trees.specs.Trees.{Trees, Nothing, Words, Element, trees_and, Built, Whole, Within, built_and, ended, IsWhole, IsUnfinished, trees_of, grown, grown_by, built, unfinished_names, EndsWith, AreNested}

-- more pieces

pub grown_by-append : (b : Built) (ps qs : List Piece) → grown_by b (ps ++ qs) ≡ grown_by (grown_by b ps) qs
grown_by-append b [] qs = refl
grown_by-append b (p ∷ ps) qs = grown_by-append (grown b p) ps qs

pub nested-append : (b : Built) (ps qs : List Piece) → AreNested b ps → AreNested (grown_by b ps) qs → AreNested b (ps ++ qs)
nested-append b [] qs p q = q
nested-append b (Begin tag attrs ∷ ps) qs p q = nested-append (Within b tag attrs Nothing) ps qs p q
nested-append b (Said text ∷ ps) qs p q = nested-append (built_and b (Words text Nothing)) ps qs p q
nested-append b (End name ∷ ps) qs p q = (p.0, nested-append (ended b) ps qs p.1 q)

-- trees after trees

pub trees_and-nothing : (t : Trees) → trees_and t Nothing ≡ t
trees_and-nothing Nothing = refl
trees_and-nothing (Words text rest) = ap (Words text) (trees_and-nothing rest)
trees_and-nothing (Element tag attrs inside rest) = ap (Element tag attrs inside) (trees_and-nothing rest)

pub trees_and-and : (t u v : Trees) → trees_and (trees_and t u) v ≡ trees_and t (trees_and u v)
trees_and-and Nothing u v = refl
trees_and-and (Words text rest) u v = ap (Words text) (trees_and-and rest u v)
trees_and-and (Element tag attrs inside rest) u v = ap (Element tag attrs inside) (trees_and-and rest u v)

pub built_and-nothing : (b : Built) → built_and b Nothing ≡ b
built_and-nothing (Whole t) = ap Whole (trees_and-nothing t)
built_and-nothing (Within outer tag attrs t) = ap (Within outer tag attrs) (trees_and-nothing t)

pub built_and-and : (b : Built) (t u : Trees) → built_and (built_and b t) u ≡ built_and b (trees_and t u)
built_and-and (Whole v) t u = ap Whole (trees_and-and v t u)
built_and-and (Within outer tag attrs v) t u = ap (Within outer tag attrs) (trees_and-and v t u)

unfinished_names-and : (b : Built) (t : Trees) → unfinished_names (built_and b t) ≡ unfinished_names b
unfinished_names-and (Whole v) t = refl
unfinished_names-and (Within outer tag attrs v) t = refl

-- a page that is built at the end of another

abbrev onto : Built → Built → Built
onto b (Whole t) = built_and b t
onto b (Within outer tag attrs t) = Within (onto b outer) tag attrs t

onto-and : (b c : Built) (t : Trees) → built_and (onto b c) t ≡ onto b (built_and c t)
onto-and b (Whole u) t = built_and-and b u t
onto-and b (Within outer tag attrs u) t = refl

onto-ended : (b c : Built) (name : Name) → EndsWith c name → ended (onto b c) ≡ onto b (ended c)
onto-ended b (Whole t) name p = absurd p
onto-ended b (Within outer tag attrs t) name p = onto-and b outer (Element tag attrs t Nothing)

onto-ends : (b c : Built) (name : Name) → EndsWith c name → EndsWith (onto b c) name
onto-ends b (Whole t) name p = absurd p
onto-ends b (Within outer tag attrs t) name p = p

grown_by-onto : (b c : Built) (ps : List Piece) → AreNested c ps → grown_by (onto b c) ps ≡ onto b (grown_by c ps)
grown_by-onto b c [] p = refl
grown_by-onto b c (Begin tag attrs ∷ ps) p = grown_by-onto b (Within c tag attrs Nothing) ps p
grown_by-onto b c (Said text ∷ ps) p =
    ap (λ (d : Built). grown_by d ps) (onto-and b c (Words text Nothing)) ∙ grown_by-onto b (built_and c (Words text Nothing)) ps p
grown_by-onto b c (End name ∷ ps) p =
    ap (λ (d : Built). grown_by d ps) (onto-ended b c name p.0) ∙ grown_by-onto b (ended c) ps p.1

nested-onto : (b c : Built) (ps : List Piece) → AreNested c ps → AreNested (onto b c) ps
nested-onto b c [] p = tt
nested-onto b c (Begin tag attrs ∷ ps) p = nested-onto b (Within c tag attrs Nothing) ps p
nested-onto b c (Said text ∷ ps) p =
    subst (λ (d : Built). AreNested d ps) (sym (onto-and b c (Words text Nothing))) (nested-onto b (built_and c (Words text Nothing)) ps p)
nested-onto b c (End name ∷ ps) p =
    (onto-ends b c name p.0, subst (λ (d : Built). AreNested d ps) (sym (onto-ended b c name p.0)) (nested-onto b (ended c) ps p.1))

-- one step of each kind, on the pieces of a page and the names of its unfinished elements

-- what a page keeps of its pieces and of the names of its unfinished elements
abbrev pub IsKept : List Piece → List Name → Type 0
IsKept ps names = AreNested (Whole Nothing) ps × (names ≡ unfinished_names (built ps))

pub built-append : (ps qs : List Piece) → built (ps ++ qs) ≡ grown_by (built ps) qs
built-append ps qs = grown_by-append (Whole Nothing) ps qs

pub begun : (ps qs : List Piece) (names more : List Name) (tag : Tag) (attrs : List Attr) → IsKept ps names → qs ≡ ps ++ Begin tag attrs ∷ [] → more ≡ names ++ name_of tag ∷ [] → IsKept qs more
begun ps qs names more tag attrs p e f =
    rw (e, f) (
      nested-append (Whole Nothing) ps (Begin tag attrs ∷ []) p.0 tt,
      ap (λ (l : List Name). l ++ name_of tag ∷ []) p.1 ∙ ap unfinished_names (sym (built-append ps (Begin tag attrs ∷ []))),
    )

pub said : (ps qs : List Piece) (names : List Name) (text : List ℕ) → IsKept ps names → qs ≡ ps ++ Said text ∷ [] → IsKept qs names
said ps qs names text p e =
    rw e (
      nested-append (Whole Nothing) ps (Said text ∷ []) p.0 tt,
      p.1 ∙ sym (unfinished_names-and (built ps) (Words text Nothing)) ∙ ap unfinished_names (sym (built-append ps (Said text ∷ []))),
    )

pub joined : (ps more qs : List Piece) (names : List Name) → IsKept ps names → AreNested (Whole Nothing) more → IsWhole (built more)
    → qs ≡ ps ++ more → IsKept qs names × (built qs ≡ built_and (built ps) (trees_of (built more)))
joined ps more qs names p q h e = rw e (
  (
    nested-append (Whole Nothing) ps more p.0 (subst (λ (b : Built). AreNested b more) (built_and-nothing (built ps)) (nested-onto (built ps) (Whole Nothing) more q)),
    p.1 ∙ sym (ap unfinished_names (same ∙ all) ∙ unfinished_names-and (built ps) (trees_of (built more))),
  ),
  same ∙ all,
)
  where
    whole : (b c : Built) → IsWhole c → onto b c ≡ built_and b (trees_of c)
    whole b (Whole t) h = refl
    whole b (Within outer tag attrs t) h = absurd h

    same : built (ps ++ more) ≡ grown_by (onto (built ps) (Whole Nothing)) more
    same = built-append ps more ∙ ap (λ (b : Built). grown_by b more) (sym (built_and-nothing (built ps)))

    all : grown_by (onto (built ps) (Whole Nothing)) more ≡ built_and (built ps) (trees_of (built more))
    all = grown_by-onto (built ps) (Whole Nothing) more q ∙ whole (built ps) (built more) h

pub built-begun : (ps qs old : List Piece) (tag : Tag) (attrs : List Attr) → ps ≡ old → qs ≡ ps ++ Begin tag attrs ∷ [] → built qs ≡ Within (built old) tag attrs Nothing
built-begun ps qs old tag attrs v e = rw (e, v) (built-append old (Begin tag attrs ∷ []))

pub built-said : (ps qs old : List Piece) (text : List ℕ) → ps ≡ old → qs ≡ ps ++ Said text ∷ [] → built qs ≡ built_and (built old) (Words text Nothing)
built-said ps qs old text v e = rw (e, v) (built-append old (Said text ∷ []))

pub built-ended : (ps qs old : List Piece) (name : Name) → ps ≡ old → qs ≡ ps ++ End name ∷ [] → built qs ≡ ended (built old)
built-ended ps qs old name v e = rw (e, v) (built-append old (End name ∷ []))

-- the last of the names is that of the element that is ended
last_name : (b : Built) (names rest : List Name) (name : Name) (n : ℕ) → IsUnfinished b → names ≡ unfinished_names b → n ≡ length names - 1
    → name ≡ get_or names n name → rest ≡ take n names → EndsWith b name × (rest ≡ unfinished_names (ended b))
last_name (Whole t) names rest name n u e l g r = absurd u
last_name (Within outer tag attrs t) names rest name n u e l g r =
    let before = unfinished_names outer in
    let long : length before ≡ n = omega (arith, length-append before (name_of tag ∷ []), ap (λ (k : List Name). length k) e) in (
      g ∙ ap (λ (k : List Name). get_or k n name) e ∙ get_or_push before (name_of tag) name n long,
      r ∙ ap (λ (k : List Name). take n k) e ∙ take_at before (name_of tag ∷ []) n long ∙ sym (unfinished_names-and outer (Element tag attrs t Nothing)),
    )

pub ended_kept : (ps qs : List Piece) (names rest : List Name) (name : Name) (n : ℕ) → IsKept ps names → IsUnfinished (built ps) → n ≡ length names - 1
    → name ≡ get_or names n name → rest ≡ take n names → qs ≡ ps ++ End name ∷ [] → IsKept qs rest
ended_kept ps qs names rest name n p u l g r e =
    let last = last_name (built ps) names rest name n u p.1 l g r in
    rw e (
      nested-append (Whole Nothing) ps (End name ∷ []) p.0 (last.0, tt),
      last.1 ∙ ap unfinished_names (sym (built-append ps (End name ∷ []))),
    )
