-- An element is found, or it has a fault, or a part has one.
use Rattle.std.proofs.Common.{◌≡◌, Bool, true, false, Option, Some, None, refl, sym, ◌∙◌, subst, ◌⊎◌, inl, inr}
use Rattle.con_terms.specs.Trees.{types, units, names, row_of, Cn, cat}
use Rattle.row_normal.specs.Ordered.{ordered}
use Rattle.con_terms.specs.declared.place.Place.{Place}
use Rattle.xml_trees.specs.declared.source_name.TagName.{TagName}
use Rattle.xml_trees.specs.declared.source_name.AttrName.TheVariants as attr
use Rattle.core_terms.specs.Trees.{Ex, node, element, tagged, Ats, Xs, no_nodes, a_node}
use Rattle.core_terms.specs.Types.{no_types}
use Rattle.core_typing.specs.Scopes.{Sc, normal_of}
use Rattle.core_typing.specs.Cover.{Covers}
use Rattle.core_terms.specs.Markup.{Where, in_html, in_head, in_body, in_table, in_tr, context_row, MayBeInForm, Sort, holding, of_words, empty, a_form, an_input, a_button, stands, sort_of}
use Rattle.core_typing.specs.Typed.{NodesAreWords, IsWords}
use Rattle.core_typing.specs.Compared.{Alike}
use Rattle.core_typing.specs.Judged.{HasKind}
use Rattle.core_typing.specs.Faults.{Fault}
use Rattle.core_typing.specs.Faults as fault
use Rattle.core_typing.specs.Found.{FoundBy, element_has, ElementFound, holding_found, words_found, empty_found, form_found, input_found, button_found, AttributesFound, NodesFound, node_found, last_found}
use Rattle.core_typing.specs.Own.{place_of, any_function, any_poly, any_guarded, any_record, Wants, NotOf, other_form, large_form, IsFunction, IsPoly, IsGuarded, IsRecord, Meets, they_touch, they_are_large, Uncovered, CallsTop, top_alone, top_called, NotLinked, ItemFault, NamedFault, LocalFault, BranchFault, BranchDiffers, FieldFault, AttributeFault, SecondAt, AttributeTwice, NodeFault, NotWords, NotHeld, held_there, large_there, StandsEitherWay, ElementFault, PatsFound, no_pats, a_pat, Own}
use Rattle.core_typing.specs.Own as own
use Rattle.core_typing.specs.Tells.{InItems, InFields, InBranches, InNamed, InLocals, Behind, InAttributes, InNodes, Sub, Fails, itself, inside}
use Rattle.core_typing.specs.Tells as tells
use Rattle.core_typing.proofs.Excluded.{second_there}
use Rattle.core_typing.proofs.Shapes.{is_words}
use Rattle.core_typing.proofs.DecidedForms.{Fd, Fl, Told, own_fails, part_fails, bare, wanted, not_alike, kinding}
use Rattle.core_typing.proofs.DecidedPatterns.{Kds}
use Rattle.core_typing.proofs.DecidedParts.{AttributesOut, all_attributes, attribute_fault, twice_fault, attribute_part, NodesOut, all_nodes, node_fault, node_part, SecondOut, alone, second, second_dec}

-- elements
pub data ElementOut (G : Sc) (p : Place) (g : TagName) (n : Option (Place × Cn)) (c u : Cn) (as' : Ats) (xs : Xs) : Type 0 where
  element_is : (t : Cn) → ElementFound Covers G (tagged g n c u as' xs) t → ElementOut G p g n c u as' xs
  element_fault : (f : Fault) → ElementFault G p (tagged g n c u as' xs) f → ElementOut G p g n c u as' xs
  element_attribute : (e : Ex) → InAttributes as' e → Fl G e → ElementOut G p g n c u as' xs
  element_node : (e : Ex) → InNodes xs e → Fl G e → ElementOut G p g n c u as' xs

-- both rows and the attributes are well, or what is told
pub data CommonOut (G : Sc) (p : Place) (g : TagName) (n : Option (Place × Cn)) (c u : Cn) (as' : Ats) (xs : Xs) : Type 0 where
  both_well : HasKind G c (row_of units) → HasKind G u (row_of types) → AttributesFound Covers G u g as' → CommonOut G p g n c u as' xs
  common : ElementOut G p g n c u as' xs → CommonOut G p g n c u as' xs

pub common_dec : (G : Sc) (p : Place) (g : TagName) (n : Option (Place × Cn)) (c u : Cn) (as' : Ats) (xs : Xs) → Kds G c (row_of units) → Kds G u (row_of types) → AttributesOut G u g as' → CommonOut G p g n c u as' xs
common_dec G p g n c u as' xs (inr l) m r = let (f, y) = l p in common (element_fault f (own.context_kind y))
common_dec G p g n c u as' xs (inl j) (inr l) r = let (f, y) = l p in common (element_fault f (own.uses_kind y))
common_dec G p g n c u as' xs (inl j) (inl k) (all_attributes r) = both_well j k r
common_dec G p g n c u as' xs (inl j) (inl k) (attribute_fault f y) = common (element_fault f (own.in_attributes y))
common_dec G p g n c u as' xs (inl j) (inl k) (twice_fault f y) = common (element_fault f (own.same_attribute y))
common_dec G p g n c u as' xs (inl j) (inl k) (attribute_part e i y) = common (element_attribute e i y)

-- a name on a tag that isn't an input's
pub name_on_dec : (G : Sc) (p : Place) (g : TagName) (at : Place) (n c u : Cn) (as' : Ats) (xs : Xs) → ((t : Cn) → sort_of g ≡ an_input t → ⊥) → Kds G n names → (o : Option Cn) → normal_of n ≡ o → ElementOut G p g (Some (at, n)) c u as' xs
name_on_dec G p g at n c u as' xs none (inr l) o h = let (f, y) = l at in element_fault f (own.name_kind_of y)
name_on_dec G p g at n c u as' xs none (inl k) None h = element_fault _ (own.large_on_other none k h)
name_on_dec G p g at n c u as' xs none (inl k) (Some m) h = element_fault _ (own.name_on_other none k h)

-- where an element stands
pub data Stood (G : Sc) (p : Place) (w : Where) (c : Cn) : Type 0 where
  stands_there : (o : Bool) → MayBeInForm w o → Alike (context_row w o) c → Stood G p w c
  stands_not : ((o : Bool) → Alike (context_row w o) c → ⊥) → Told (Wants G p (context_row w false) c) → Stood G p w c

pub outside_form : (w : Where) → MayBeInForm w false
outside_form in_html = tt
outside_form in_head = tt
outside_form in_body = tt
outside_form in_table = tt
outside_form in_tr = tt

pub both_out : (w : Where) (c : Cn) → (Alike (context_row w false) c → ⊥) → (Alike (context_row w true) c → ⊥) → (o : Bool) → Alike (context_row w o) c → ⊥
both_out w c x y false a = x a
both_out w c x y true a = y a

pub inside_form : (G : Sc) (p : Place) (w : Where) (c : Cn) → Told (Wants G p (context_row w false) c) → Alike (context_row w true) c → Stood G p w c
inside_form G p in_html c x a = absurd (not_alike x a)
inside_form G p in_head c x a = absurd (not_alike x a)
inside_form G p in_body c x a = stands_there true tt a
inside_form G p in_table c x a = stands_there true tt a
inside_form G p in_tr c x a = stands_there true tt a

pub stood : (G : Sc) (p : Place) (w : Where) (c : Cn) → Stood G p w c
stood G p w c = by_outside (wanted G p (context_row w false) c) (wanted G p (context_row w true) c)
  where
    by_outside : Alike (context_row w false) c ⊎ Told (Wants G p (context_row w false) c) → Alike (context_row w true) c ⊎ Told (Wants G p (context_row w true) c) → Stood G p w c
    by_outside (inl a) y = stands_there false (outside_form w) a
    by_outside (inr x) (inl a) = inside_form G p w c x a
    by_outside (inr x) (inr y) = stands_not (both_out w c (not_alike x) (not_alike y)) x

-- what stands where nothing may
pub not_held : (G : Sc) (p : Place) (t : Cn) (o : Option Cn) → normal_of t ≡ o → Told (NotHeld G p t)
not_held G p t None h = (fault.too_large p, large_there h)
not_held G p t (Some n) h = (_, held_there h)

-- text alone
pub all_words_dec : (xs : Xs) → NodesAreWords xs ⊎ ((e : Ex) × InNodes xs e × NotWords xs e)
all_words_dec no_nodes = inl tt
all_words_dec (a_node b e xs) = by_first (is_words e) (all_words_dec xs)
  where
    by_first : IsWords e ⊎ (IsWords e → ⊥) → NodesAreWords xs ⊎ ((e : Ex) × InNodes xs e × NotWords xs e) → NodesAreWords (a_node b e xs) ⊎ ((d : Ex) × InNodes (a_node b e xs) d × NotWords (a_node b e xs) d)
    by_first (inr none) r = inr (e, tells.this_node, own.this_node none)
    by_first (inl w) (inl ws) = inl (w, ws)
    by_first (inl w) (inr (d, i, x)) = inr (d, tells.past_node i, own.later_words w x)

-- a node of those that are found is found
pub record TreeIn (G : Sc) (e : Ex) : Type 0 where
  pub t : Cn
  pub found : FoundBy Covers G e t

pub tree_in : {G : Sc} {c u b : Cn} {xs : Xs} {e : Ex} → InNodes xs e → NodesFound Covers G c u xs b → TreeIn G e
tree_in tells.this_node (last_found {t = t} k f a) = record { t = t; found = f }
tree_in (tells.past_node i) (last_found k f a) = elim i [ ]
tree_in tells.this_node (node_found {t = t} k f a x r y) = record { t = t; found = f }
tree_in {u = u} (tells.past_node i) (node_found {b = b} k f a x r y) = tree_in {u = ordered (cat u b)} i r

pub no_sort : {x y z : Sort} → x ≡ y → x ≡ z → (y ≡ z → ⊥) → ⊥
no_sort h k none = none (sym h ∙ k)

abbrev pub FirstNode : Sc → Xs → Type 0
FirstNode G no_nodes = Unit {0}
FirstNode G (a_node b e xs) = Fd G e ⊎ Fl G e

pub either_way : {x y : Sort} → x ≡ y → StandsEitherWay y → StandsEitherWay x
either_way h w = subst StandsEitherWay (sym h) w

pub holding_dec' : (G : Sc) (p : Place) (g : TagName) (w : Where) (c u : Cn) (as' : Ats) (xs : Xs) → sort_of g ≡ holding w → Stood G p (stands g) c → CommonOut G p g None c u as' xs → ((d : Cn) → NodesOut G d u xs) → ElementOut G p g None c u as' xs
holding_dec' G p g w c u as' xs s (stands_not none (f, x)) m go = element_fault f (own.stands_elsewhere (either_way s tt) none x)
holding_dec' G p g w c u as' xs s (stands_there o i a) (common r) go = r
holding_dec' G p g w c u as' xs s (stands_there o i a) (both_well q k h) go = by_nodes (go (context_row w o))
  where
    by_nodes : NodesOut G (context_row w o) u xs → ElementOut G p g None c u as' xs
    by_nodes (all_nodes b r) = element_is _ (holding_found o s i a q k h r)
    by_nodes (node_fault f y) = element_fault f (own.in_nodes o s i a y)
    by_nodes (node_part e j y) = element_node e j y

pub words_dec : (G : Sc) (p : Place) (g : TagName) (c u : Cn) (as' : Ats) (xs : Xs) → sort_of g ≡ of_words → Stood G p (stands g) c → CommonOut G p g None c u as' xs → ((d : Cn) → NodesOut G d u xs) → ElementOut G p g None c u as' xs
words_dec G p g c u as' xs s (stands_not none (f, x)) m go = element_fault f (own.stands_elsewhere (either_way s tt) none x)
words_dec G p g c u as' xs s (stands_there o i a) (common r) go = r
words_dec G p g c u as' xs s (stands_there o i a) (both_well q k h) go = by_nodes (go (context_row (stands g) o)) (all_words_dec xs)
  where
    by_nodes : NodesOut G (context_row (stands g) o) u xs → NodesAreWords xs ⊎ ((e : Ex) × InNodes xs e × NotWords xs e) → ElementOut G p g None c u as' xs
    by_nodes (node_fault f y) w = element_fault f (own.in_title o s a y)
    by_nodes (node_part e j y) w = element_node e j y
    by_nodes (all_nodes b r) (inl w) = element_is _ (words_found o s a q k h w r)
    by_nodes (all_nodes b r) (inr (e, j, x)) = let y = tree_in j r in by_type e x y.t y.found (normal_of y.t) refl
      where
        by_type : (e : Ex) → NotWords xs e → (t : Cn) → FoundBy Covers G e t → (m : Option Cn) → normal_of t ≡ m → ElementOut G p g None c u as' xs
        by_type e x t f None h = element_fault _ (own.large_words s x (bare f) h)
        by_type e x t f (Some n) h = element_fault _ (own.no_words s x (bare f) h)

pub empty_dec : (G : Sc) (p : Place) (g : TagName) (c u : Cn) (as' : Ats) (xs : Xs) → sort_of g ≡ empty → Stood G p (stands g) c → CommonOut G p g None c u as' xs → FirstNode G xs → ElementOut G p g None c u as' xs
empty_dec G p g c u as' xs s (stands_not none (f, x)) m n = element_fault f (own.stands_elsewhere (either_way s tt) none x)
empty_dec G p g c u as' xs s (stands_there o i a) (common r) n = r
empty_dec G p g c u as' no_nodes s (stands_there o i a) (both_well q k h) n = element_is _ (empty_found o s a q k h)
empty_dec G p g c u as' (a_node b e xs) s (stands_there o i a) (both_well q k h) (inr x) = element_node e tells.this_node x
empty_dec G p g c u as' (a_node b e xs) s (stands_there o i a) (both_well q k h) (inl (t, f)) = let (x, y) = not_held G (place_of e) t (normal_of t) refl in element_fault x (own.holds_nothing s (bare f) y)

pub form_dec : (G : Sc) (p : Place) (g : TagName) (c u : Cn) (as' : Ats) (xs : Xs) → sort_of g ≡ a_form → Alike (context_row in_body false) c ⊎ Told (Wants G p (context_row in_body false) c) → Alike no_types u ⊎ Told (Wants G p no_types u) → CommonOut G p g None c u as' xs → ((d v : Cn) → NodesOut G d v xs) → ElementOut G p g None c u as' xs
form_dec G p g c u as' xs s (inr (f, x)) v m go = element_fault f (own.form_in_form s x)
form_dec G p g c u as' xs s (inl a) (inr (f, x)) m go = element_fault f (own.form_filled_before s x)
form_dec G p g c u as' xs s (inl a) (inl b) (common r) go = r
form_dec G p g c u as' xs s (inl a) (inl b) (both_well q k h) go = by_nodes (go (context_row in_body true) no_types)
  where
    by_nodes : NodesOut G (context_row in_body true) no_types xs → ElementOut G p g None c u as' xs
    by_nodes (all_nodes d r) = element_is _ (form_found s a b q k h r)
    by_nodes (node_fault f y) = element_fault f (own.in_form_nodes s y)
    by_nodes (node_part e j y) = element_node e j y

pub input_dec : (G : Sc) (p : Place) (g : TagName) (at : Place) (t n c u : Cn) (as' : Ats) (xs : Xs) → sort_of g ≡ an_input t → Alike (context_row in_body true) c ⊎ Told (Wants G p (context_row in_body true) c) → Kds G n names → CommonOut G p g (Some (at, n)) c u as' xs → FirstNode G xs → ElementOut G p g (Some (at, n)) c u as' xs
input_dec G p g at t n c u as' xs s (inr (f, x)) l m r = element_fault f (own.input_outside s x)
input_dec G p g at t n c u as' xs s (inl a) (inr l) m r = let (f, y) = l at in element_fault f (own.name_kind_of y)
input_dec G p g at t n c u as' xs s (inl a) (inl l) (common m) r = m
input_dec G p g at t n c u as' no_nodes s (inl a) (inl l) (both_well q k h) r = element_is _ (input_found s a q k l h)
input_dec G p g at t n c u as' (a_node b e xs) s (inl a) (inl l) (both_well q k h) (inr x) = element_node e tells.this_node x
input_dec G p g at t n c u as' (a_node b e xs) s (inl a) (inl l) (both_well q k h) (inl (v, f)) = let (x, y) = not_held G (place_of e) v (normal_of v) refl in element_fault x (own.input_holds_nothing s (bare f) y)

pub button_dec : (G : Sc) (p : Place) (g : TagName) (c u : Cn) (as' : Ats) (xs : Xs) → sort_of g ≡ a_button → Alike (context_row in_body true) c ⊎ Told (Wants G p (context_row in_body true) c) → SecondOut attr.Action as' → CommonOut G p g None c u as' xs → FirstNode G xs → ElementOut G p g None c u as' xs
button_dec G p g c u as' xs s (inr (f, x)) l m r = element_fault f (own.button_outside s x)
button_dec G p g c u as' xs s (inl a) (alone none) m r = element_fault _ (own.no_action s none)
button_dec G p g c u as' xs s (inl a) (second f x) (common m) r = m
button_dec G p g c u as' no_nodes s (inl a) (second f x) (both_well q k h) r = element_is _ (button_found s a q k h (second_there x))
button_dec G p g c u as' (a_node b e xs) s (inl a) (second f x) (both_well q k h) (inr y) = element_node e tells.this_node y
button_dec G p g c u as' (a_node b e xs) s (inl a) (second f x) (both_well q k h) (inl (v, d)) = let (y, z) = not_held G (place_of e) v (normal_of v) refl in element_fault y (own.button_holds_nothing s (bare d) z)

pub unnamed_dec : (G : Sc) (p : Place) (g : TagName) (c u : Cn) (as' : Ats) (xs : Xs) → (x : Sort) → sort_of g ≡ x → CommonOut G p g None c u as' xs → FirstNode G xs → ((d v : Cn) → NodesOut G d v xs) → ElementOut G p g None c u as' xs
unnamed_dec G p g c u as' xs (holding w) s m r go = holding_dec' G p g w c u as' xs s (stood G p (stands g) c) m (λ d. go d u)
unnamed_dec G p g c u as' xs of_words s m r go = words_dec G p g c u as' xs s (stood G p (stands g) c) m (λ d. go d u)
unnamed_dec G p g c u as' xs empty s m r go = empty_dec G p g c u as' xs s (stood G p (stands g) c) m r
unnamed_dec G p g c u as' xs a_form s m r go = form_dec G p g c u as' xs s (wanted G p (context_row in_body false) c) (wanted G p no_types u) m go
unnamed_dec G p g c u as' xs (an_input t) s m r go = element_fault _ (own.no_name s)
unnamed_dec G p g c u as' xs a_button s m r go = button_dec G p g c u as' xs s (wanted G p (context_row in_body true) c) (second_dec attr.Action as') m r

abbrev pub NotInput : Sort → Type 0
NotInput (an_input t) = ⊥
NotInput _ = Unit {0}

pub no_input : {x y : Sort} → x ≡ y → NotInput y → (t : Cn) → x ≡ an_input t → ⊥
no_input h n t k = subst NotInput (sym h ∙ k) n

pub named_dec' : (G : Sc) (p : Place) (g : TagName) (at : Place) (n c u : Cn) (as' : Ats) (xs : Xs) → (x : Sort) → sort_of g ≡ x → CommonOut G p g (Some (at, n)) c u as' xs → FirstNode G xs → ElementOut G p g (Some (at, n)) c u as' xs
named_dec' G p g at n c u as' xs (an_input t) s m r = input_dec G p g at t n c u as' xs s (wanted G p (context_row in_body true) c) (kinding G n names) m r
named_dec' G p g at n c u as' xs (holding w) s m r = name_on_dec G p g at n c u as' xs (no_input s tt) (kinding G n names) (normal_of n) refl
named_dec' G p g at n c u as' xs of_words s m r = name_on_dec G p g at n c u as' xs (no_input s tt) (kinding G n names) (normal_of n) refl
named_dec' G p g at n c u as' xs empty s m r = name_on_dec G p g at n c u as' xs (no_input s tt) (kinding G n names) (normal_of n) refl
named_dec' G p g at n c u as' xs a_form s m r = name_on_dec G p g at n c u as' xs (no_input s tt) (kinding G n names) (normal_of n) refl
named_dec' G p g at n c u as' xs a_button s m r = name_on_dec G p g at n c u as' xs (no_input s tt) (kinding G n names) (normal_of n) refl

pub element_dec : (G : Sc) (p : Place) (a : Bool) (g : TagName) (n : Option (Place × Cn)) (c u : Cn) (as' : Ats) (xs : Xs) → ElementOut G p g n c u as' xs → Fd G (node p a (element (tagged g n c u as' xs))) ⊎ Fl G (node p a (element (tagged g n c u as' xs)))
element_dec G p a g n c u as' xs (element_is t h) = inl (t, element_has h)
element_dec G p a g n c u as' xs (element_fault f h) = inr (own_fails (own.an_element h))
element_dec G p a g n c u as' xs (element_attribute e i h) = inr (part_fails (tells.attribute_term i) h)
element_dec G p a g n c u as' xs (element_node e i h) = inr (part_fails (tells.inner_node i) h)

pub tagged_dec : (G : Sc) (p : Place) (g : TagName) (n : Option (Place × Cn)) (c u : Cn) (as' : Ats) (xs : Xs) → AttributesOut G u g as' → FirstNode G xs → ((d v : Cn) → NodesOut G d v xs) → ElementOut G p g n c u as' xs
tagged_dec G p g None c u as' xs m r go = unnamed_dec G p g c u as' xs (sort_of g) refl (common_dec G p g None c u as' xs (kinding G c (row_of units)) (kinding G u (row_of types)) m) r go
tagged_dec G p g (Some (at, n)) c u as' xs m r go = named_dec' G p g at n c u as' xs (sort_of g) refl (common_dec G p g (Some (at, n)) c u as' xs (kinding G c (row_of units)) (kinding G u (row_of types)) m) r
