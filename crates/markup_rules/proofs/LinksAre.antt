-- Links and actions that break nothing are linked.
use Rattle.std.proofs.Common.{◌≡◌, ℕ, Bool, true, false, List, length, Option, Some, None, slice_get, refl, ap, subst}
use Rattle.con_terms.specs.Trees.{Cn}
use Rattle.con_terms.specs.declared.place.Place.{Place}
use Rattle.xml_trees.specs.declared.source_name.AttrName.{AttrName}
use Rattle.xml_trees.specs.declared.source_name.AttrName.TheVariants as attr
use Rattle.core_terms.specs.declared.exp.Sigil.{Sigil}
use Rattle.core_terms.specs.Trees.{Ex, node, top, call, Its, no_items, with_term, with_con, with_guard, It, Dt}
use Rattle.core_terms.specs.Lists.{item_list}
use Rattle.core_typing.specs.Scopes.{Sc}
use Rattle.core_typing.specs.Typed.{AreTerms, no_term, one_more, IsCallOf, alone, applied, IsLinked, as_link, as_action, as_title, as_href, as_src, as_alt, as_border, as_value, as_size}
use Rattle.core_typing.specs.Compared.{Alike}
use Rattle.judgements.specs.Comparisons.{are_alike}
use Rattle.carried_types.specs.Carriers.{AreCarriers}
use Rattle.carried_types.proofs.Shown.{shown_is_shown, sent_is_sent}
use Rattle.markup_rules.specs.Links.{Lk, nothing_broken, no_call, no_travel, all_terms, counted, term_count, with_count, call_of_top, call_of, carries, linked_call, is_linked, told_unless, of_alike, of_called, link_fault, calls_top}
use Rattle.markup_rules.specs.Attributes.{link_told, link_of, is_link}
use Rattle.markup_rules.proofs.Basics.{some_none, none_some, some_is, false_true, test_holds}

are_terms : (is : Its) → all_terms (item_list is) ≡ true → AreTerms is (length (item_list is))
are_terms no_items h = no_term
are_terms (with_term e is) h = one_more (are_terms is h)
are_terms (with_con p o c is) h = absurd (false_true h)
are_terms (with_guard p a is) h = absurd (false_true h)

by_all : (xs : List It) (n : ℕ) (b : Bool) → counted xs b ≡ Some n → (b ≡ true) × (length xs ≡ n)
by_all xs n true h = (refl, some_is h)
by_all xs n false h = absurd (none_some h)

terms_of : (is : Its) (n : ℕ) → term_count (item_list is) ≡ Some n → AreTerms is n
terms_of is n h =
    let x = by_all (item_list is) n (all_terms (item_list is)) h in
    subst (λ z. AreTerms is z) x.1 (are_terms is x.0)

abbrev top_of : Option (ℕ × ℕ) → ℕ
top_of None = 0
top_of (Some r) = r.0

abbrev count_of : Option (ℕ × ℕ) → ℕ
count_of None = 0
count_of (Some r) = r.1

-- a call
by_count : (p q : Place) (a b : Bool) (i j n : ℕ) (s : Sigil) (is : Its) (o : Option ℕ) → term_count (item_list is) ≡ o → with_count i o ≡ Some (j, n) → IsCallOf (node p a (call (node q b (top i)) s is)) j n
by_count p q a b i j n s is None e h = absurd (none_some h)
by_count p q a b i j n s is (Some m) e h =
    let x : i ≡ j = ap top_of h in
    let y : m ≡ n = ap count_of h in
    subst (λ z. IsCallOf (node p a (call (node q b (top i)) s is)) z n) x
    (subst (λ z. IsCallOf (node p a (call (node q b (top i)) s is)) i z) y (applied (terms_of is m e)))

by_head : (p : Place) (a : Bool) (f : Ex) (s : Sigil) (is : Its) (j n : ℕ) → call_of_top f (term_count (item_list is)) ≡ Some (j, n) → IsCallOf (node p a (call f s is)) j n
by_head p a (node q b (top i)) s is j n h = by_count p q a b i j n s is (term_count (item_list is)) refl h
by_head p a (node q b _) s is j n h = absurd (none_some h)

pub call_is : (e : Ex) (j n : ℕ) → call_of e ≡ Some (j, n) → IsCallOf e j n
call_is (node p a (top i)) j n h =
    let x : i ≡ j = ap top_of h in
    let y : 0 ≡ n = ap count_of h in
    subst (λ z. IsCallOf (node p a (top i)) z n) x (subst (λ z. IsCallOf (node p a (top i)) i z) y alone)
call_is (node p a (call f s is)) j n h = by_head p a f s is j n h
call_is (node p a _) j n h = absurd (none_some h)

-- whose function carries its arguments
record Calls (ts : List Cn) (ds : List Dt) (bs : List Bool) (action : Bool) (e : Ex) : Type 0 where
  number : ℕ
  count : ℕ
  type : Cn
  is : IsCallOf e number count
  has : slice_get ts number ≡ Some type
  carried : carries ds bs action count (Some type) ≡ true

by_type : (ts : List Cn) (ds : List Dt) (bs : List Bool) (action : Bool) (e : Ex) (i n : ℕ) (o : Option Cn) → slice_get ts i ≡ o → IsCallOf e i n → carries ds bs action n o ≡ true → Calls ts ds bs action e
by_type ts ds bs action e i n None k c h = absurd (false_true h)
by_type ts ds bs action e i n (Some t) k c h = record { number = i; count = n; type = t; is = c; has = k; carried = h }

by_call : (ts : List Cn) (ds : List Dt) (bs : List Bool) (action : Bool) (e : Ex) (o : Option (ℕ × ℕ)) → call_of e ≡ o → linked_call ts ds bs action o ≡ true → Calls ts ds bs action e
by_call ts ds bs action e None k h = absurd (false_true h)
by_call ts ds bs action e (Some (i, n)) k h = by_type ts ds bs action e i n (slice_get ts i) refl (call_is e i n k) h

calls : (ts : List Cn) (ds : List Dt) (bs : List Bool) (action : Bool) (e : Ex) → is_linked ts ds bs action e ≡ true → Calls ts ds bs action e
calls ts ds bs action e h = by_call ts ds bs action e (call_of e) refl h

-- which breaks nothing
travel_nothing : {X : Type 0} → no_travel ≡ nothing_broken → X
travel_nothing h = cc

call_nothing : {X : Type 0} → no_call ≡ nothing_broken → X
call_nothing h = cc

told_carried : (b : Bool) → told_unless b ≡ nothing_broken → b ≡ true
told_carried true h = refl
told_carried false h = travel_nothing h

by_alike : (ts : List Cn) (ds : List Dt) (bs : List Bool) (action : Bool) (e : Ex) (v : Cn) (b : Bool) → b ≡ true → of_alike ts ds bs action e v b ≡ nothing_broken → is_linked ts ds bs action e ≡ true
by_alike ts ds bs action e v true k h = told_carried (is_linked ts ds bs action e) h
by_alike ts ds bs action e v false k h = absurd (false_true k)

by_called : (ts : List Cn) (ds : List Dt) (bs : List Bool) (action : Bool) (t v : Cn) (e : Ex) (b : Bool) → Alike t v → of_called ts ds bs action t e (Some v) b ≡ nothing_broken → is_linked ts ds bs action e ≡ true
by_called ts ds bs action t v e true x h = by_alike ts ds bs action e v (are_alike t v) (test_holds t v x) h
by_called ts ds bs action t v e false x h = call_nothing h

broken_is : (p : Place) (l : Lk) → link_told p l ≡ None → l ≡ nothing_broken
broken_is p nothing_broken h = refl
broken_is p no_call h = absurd (some_none h)
broken_is p no_travel h = absurd (some_none h)

linked_call_is : (G : Sc) (bs : List Bool) (action : Bool) (p : Place) (t v : Cn) (e : Ex) → Alike t v → link_told p (link_fault G.tops G.datatypes bs action t e (Some v)) ≡ None → Calls G.tops G.datatypes bs action e
linked_call_is G bs action p t v e x h =
    calls G.tops G.datatypes bs action e
    (by_called G.tops G.datatypes bs action t v e (calls_top e) x (broken_is p (link_fault G.tops G.datatypes bs action t e (Some v)) h))

pub link_is : (G : Sc) (bs : List Bool) (p : Place) (n : AttrName) (t v : Cn) (e : Ex) → (is_link n ≡ true → AreCarriers G.datatypes bs) → Alike t v → link_told p (link_of bs G n t e (Some v)) ≡ None → IsLinked G n e
link_is G bs p attr.Link t v e m x h =
    let c : Calls G.tops G.datatypes bs false e = linked_call_is G bs false p t v e x h in
    as_link c.is c.has (shown_is_shown G.datatypes bs c.count c.type (m refl) c.carried)
link_is G bs p attr.Action t v e m x h =
    let c : Calls G.tops G.datatypes bs true e = linked_call_is G bs true p t v e x h in
    as_action c.is c.has (sent_is_sent G.datatypes bs c.count c.type (m refl) c.carried)
link_is G bs p attr.Title t v e m x h = as_title
link_is G bs p attr.Href t v e m x h = as_href
link_is G bs p attr.Src t v e m x h = as_src
link_is G bs p attr.Alt t v e m x h = as_alt
link_is G bs p attr.Border t v e m x h = as_border
link_is G bs p attr.Value t v e m x h = as_value
link_is G bs p attr.Size t v e m x h = as_size
