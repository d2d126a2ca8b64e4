-- What an element holds: what is told of it, and the fields that it fills, by its sort.
use Rattle.std.proofs.Common.{◌≡◌, Bool, true, false, List, Option, Some, None, refl, sym, subst}
use Rattle.con_terms.specs.Trees.{Cn}
use Rattle.con_terms.specs.declared.place.Place.{Place}
use Rattle.xml_trees.specs.declared.source_name.TagName.{TagName}
use Rattle.xml_trees.specs.declared.source_name.TagName.TheVariants as tag
use Rattle.core_terms.specs.Trees.{Xs, no_nodes, a_node}
use Rattle.core_terms.specs.Types.{no_types, xml_of}
use Rattle.core_terms.specs.Lists.{node_list}
use Rattle.core_terms.specs.Markup.{Where, in_head, in_body, context_row, MayBeInForm, Sort, holding, of_words, empty, a_form, an_input, a_button, stands, sort_of}
use Rattle.core_typing.specs.Scopes.{Sc}
use Rattle.core_typing.specs.Asks.{no_cover}
use Rattle.core_typing.specs.Typed.{NodesAreWords}
use Rattle.core_typing.specs.Compared.{Alike, Disjoint}
use Rattle.core_typing.specs.Found.{NodesFound, last_found, node_found}
use Rattle.core_typing.specs.Faults.{Fault}
use Rattle.core_typing.specs.Own.{NodeFault, fills_kind, other_place, filled_before, filled_behind, later_node}
use Rattle.core_typing.proofs.OneType.{one_found, one_value, one_nodes}
use Rattle.core_typing.proofs.Excluded.{wants_out, kind_out, context_form, differ_by_form, words_out as not_words}
use Rattle.core_typing.proofs.DecidedElements.{both_out, outside_form}
use Rattle.told_faults.specs.Computed.{Jd}
use Rattle.told_faults.specs.Told.{Picks, Or, or_first, or_second, Holds}
use Rattle.told_faults.proofs.Verdict.{picks_as, picks_two}
use Rattle.judgements.specs.Comparisons.{are_alike}
use Rattle.carried_types.proofs.Alike.{alike_is, is_alike}
use Rattle.markup_rules.specs.Nodes.{nodes_found}
use Rattle.markup_rules.specs.Standing.{around_by, around_of, stands_by, field_row}
use Rattle.markup_rules.specs.Content.{words_in, within, nodes_at, row_if, fills_none, holds_nothing, content_by}
use Rattle.markup_rules.proofs.ContentIs.{words_are, may_be_in}
use Rattle.told_terms.proofs.Wanted.{NodesTold}
use Rattle.markup_rules.proofs.Basics.{none_some}
use Rattle.told_terms.proofs.Tests.{true_false, refused}
use Rattle.told_terms.proofs.Meets.{meets_out}
use Rattle.told_terms.proofs.Nodes.{nodes_pick, nodes_hold}
use Rattle.told_terms.proofs.Words.{NoWords, other_word, large_word, words_pick, all_words}
use Rattle.told_terms.proofs.Content.{Held, held_first, held_pick}

-- a context with a form around it isn't one without
never_both : (w : Where) (c : Cn) → MayBeInForm w true → Alike (context_row w false) c → Alike (context_row w true) c → ⊥
never_both w c m a b = differ_by_form w m (one_value (context_form w false c a) (context_form w true c b))

-- nodes of a place, where the element stands as its tag does
pub data Within (G : Sc) (w v : Where) (c u : Cn) (xs : Xs) : Fault → Type 0 where
  is_within : {f : Fault} (o : Bool)
      → MayBeInForm w o
      → Alike (context_row w o) c
      → NodeFault G (context_row v o) u xs f
      → Within G w v c u xs f

outside_only : {G : Sc} {w v : Where} {c u : Cn} {xs : Xs} {f : Fault} → Alike (context_row w false) c → Within G w v c u xs f → NodeFault G (context_row v false) u xs f
outside_only a (is_within false m b x) = x
outside_only {w = w} {c = c} a (is_within true m b x) = absurd (never_both w c m a b)

inside_only : {G : Sc} {w v : Where} {c u : Cn} {xs : Xs} {f : Fault} → (Alike (context_row w false) c → ⊥) → Within G w v c u xs f → NodeFault G (context_row v true) u xs f
inside_only n (is_within true m b x) = x
inside_only n (is_within false m b x) = absurd (n b)

not_within : {G : Sc} {w v : Where} {c u : Cn} {xs : Xs} {f : Fault} → ((o : Bool) → Alike (context_row w o) c → ⊥) → Within G w v c u xs f → ⊥
not_within n (is_within o m a x) = n o a

within_by : (G : Sc) (w v : Where) (c u : Cn) (xs : Xs) (ks : List Jd) (a b : Bool) → are_alike (context_row w false) c ≡ a → are_alike (context_row w true) c ≡ b → NodesTold G xs ks →
    Picks (Within G w v c u xs) (within G u v (around_by a b) (node_list xs) ks).own
within_by G w v c u xs ks true b h k t =
    picks_as (NodeFault G (context_row v false) u xs) (Within G w v c u xs) (nodes_found G (context_row v false) u (node_list xs) ks).own
    (λ f x. is_within false (outside_form w) (alike_is (context_row w false) c h) x) (λ f x. outside_only (alike_is (context_row w false) c h) x)
    (nodes_pick G (context_row v false) u xs ks t)
within_by G w v c u xs ks false true h k t =
    picks_as (NodeFault G (context_row v true) u xs) (Within G w v c u xs) (nodes_found G (context_row v true) u (node_list xs) ks).own
    (λ f x. is_within true (may_be_in w c h k) (alike_is (context_row w true) c k) x) (λ f x. inside_only (refused (is_alike (context_row w false) c) h) x)
    (nodes_pick G (context_row v true) u xs ks t)
within_by G w v c u xs ks false false h k t =
    λ f x. not_within (both_out w c (refused (is_alike (context_row w false) c) h) (refused (is_alike (context_row w true) c) k)) x

within_pick : (G : Sc) (w v : Where) (c u : Cn) (xs : Xs) (ks : List Jd) → NodesTold G xs ks → Picks (Within G w v c u xs) (within G u v (around_of w c) (node_list xs) ks).own
within_pick G w v c u xs ks t = within_by G w v c u xs ks (are_alike (context_row w false) c) (are_alike (context_row w true) c) refl refl t

-- and the fields that they fill
pub data HoldsAt (G : Sc) (w v : Where) (c u : Cn) (xs : Xs) : Cn → Type 0 where
  holds_at : {b : Cn} (o : Bool)
      → MayBeInForm w o
      → Alike (context_row w o) c
      → NodesFound no_cover G (context_row v o) u xs b
      → HoldsAt G w v c u xs b

holds_as : (P Q : Cn → Type 0) (o : Option Cn) → ((t : Cn) → P t → Q t) → ((t : Cn) → Q t → P t) → Holds P o → Holds Q o
holds_as P Q None a b h = λ t x. h t (b t x)
holds_as P Q (Some t) a b h = a t h

outside_held : {G : Sc} {w v : Where} {c u b : Cn} {xs : Xs} → Alike (context_row w false) c → HoldsAt G w v c u xs b → NodesFound no_cover G (context_row v false) u xs b
outside_held a (holds_at false m b x) = x
outside_held {w = w} {c = c} a (holds_at true m b x) = absurd (never_both w c m a b)

inside_held : {G : Sc} {w v : Where} {c u b : Cn} {xs : Xs} → (Alike (context_row w false) c → ⊥) → HoldsAt G w v c u xs b → NodesFound no_cover G (context_row v true) u xs b
inside_held n (holds_at true m b x) = x
inside_held n (holds_at false m b x) = absurd (n b)

not_held_there : {G : Sc} {w v : Where} {c u b : Cn} {xs : Xs} → ((o : Bool) → Alike (context_row w o) c → ⊥) → HoldsAt G w v c u xs b → ⊥
not_held_there n (holds_at o m a x) = n o a

hold_by : (G : Sc) (w v : Where) (c u : Cn) (xs : Xs) (ks : List Jd) (a b : Bool) → are_alike (context_row w false) c ≡ a → are_alike (context_row w true) c ≡ b → NodesTold G xs ks →
    Holds (HoldsAt G w v c u xs) (within G u v (around_by a b) (node_list xs) ks).row
hold_by G w v c u xs ks true b h k t =
    holds_as (NodesFound no_cover G (context_row v false) u xs) (HoldsAt G w v c u xs) (nodes_found G (context_row v false) u (node_list xs) ks).row
    (λ d x. holds_at false (outside_form w) (alike_is (context_row w false) c h) x) (λ d x. outside_held (alike_is (context_row w false) c h) x)
    (nodes_hold G (context_row v false) u xs ks t)
hold_by G w v c u xs ks false true h k t =
    holds_as (NodesFound no_cover G (context_row v true) u xs) (HoldsAt G w v c u xs) (nodes_found G (context_row v true) u (node_list xs) ks).row
    (λ d x. holds_at true (may_be_in w c h k) (alike_is (context_row w true) c k) x) (λ d x. inside_held (refused (is_alike (context_row w false) c) h) x)
    (nodes_hold G (context_row v true) u xs ks t)
hold_by G w v c u xs ks false false h k t =
    λ d x. not_held_there (both_out w c (refused (is_alike (context_row w false) c) h) (refused (is_alike (context_row w true) c) k)) x

within_hold : (G : Sc) (w v : Where) (c u : Cn) (xs : Xs) (ks : List Jd) → NodesTold G xs ks → Holds (HoldsAt G w v c u xs) (within G u v (around_of w c) (node_list xs) ks).row
within_hold G w v c u xs ks t = hold_by G w v c u xs ks (are_alike (context_row w false) c) (are_alike (context_row w true) c) refl refl t

-- a title, which stands in a head
pub data InTitle (G : Sc) (w : Where) (c u : Cn) (xs : Xs) : Fault → Type 0 where
  is_in_title : {f : Fault} (o : Bool)
      → Alike (context_row w o) c
      → NodeFault G (context_row w o) u xs f
      → InTitle G w c u xs f

pub data TitleAt (G : Sc) (w : Where) (c u : Cn) (xs : Xs) : Cn → Type 0 where
  title_at : {b : Cn} (o : Bool)
      → Alike (context_row w o) c
      → NodesFound no_cover G (context_row w o) u xs b
      → TitleAt G w c u xs b

head_fault : {G : Sc} {c u : Cn} {xs : Xs} {f : Fault} → InTitle G in_head c u xs f → NodeFault G (context_row in_head false) u xs f
head_fault (is_in_title o a x) = x

head_held : {G : Sc} {c u b : Cn} {xs : Xs} → TitleAt G in_head c u xs b → NodesFound no_cover G (context_row in_head false) u xs b
head_held (title_at o a x) = x

not_titled : {G : Sc} {w : Where} {c u : Cn} {xs : Xs} {f : Fault} → ((o : Bool) → Alike (context_row w o) c → ⊥) → InTitle G w c u xs f → ⊥
not_titled n (is_in_title o a x) = n o a

not_titled_at : {G : Sc} {w : Where} {c u b : Cn} {xs : Xs} → ((o : Bool) → Alike (context_row w o) c → ⊥) → TitleAt G w c u xs b → ⊥
not_titled_at n (title_at o a x) = n o a

head_by : (G : Sc) (c u : Cn) (xs : Xs) (ks : List Jd) (a b : Bool) → are_alike (context_row in_head false) c ≡ a → are_alike (context_row in_head true) c ≡ b → NodesTold G xs ks →
    Picks (InTitle G in_head c u xs) (within G u in_head (around_by a b) (node_list xs) ks).own
head_by G c u xs ks true b h k t =
    picks_as (NodeFault G (context_row in_head false) u xs) (InTitle G in_head c u xs) (nodes_found G (context_row in_head false) u (node_list xs) ks).own
    (λ f x. is_in_title false (alike_is (context_row in_head false) c h) x) (λ f x. head_fault x)
    (nodes_pick G (context_row in_head false) u xs ks t)
head_by G c u xs ks false true h k t =
    picks_as (NodeFault G (context_row in_head true) u xs) (InTitle G in_head c u xs) (nodes_found G (context_row in_head true) u (node_list xs) ks).own
    (λ f x. is_in_title true (alike_is (context_row in_head true) c k) x) (λ f x. head_fault x)
    (nodes_pick G (context_row in_head true) u xs ks t)
head_by G c u xs ks false false h k t =
    λ f x. not_titled (both_out in_head c (refused (is_alike (context_row in_head false) c) h) (refused (is_alike (context_row in_head true) c) k)) x

head_hold : (G : Sc) (c u : Cn) (xs : Xs) (ks : List Jd) (a b : Bool) → are_alike (context_row in_head false) c ≡ a → are_alike (context_row in_head true) c ≡ b → NodesTold G xs ks →
    Holds (TitleAt G in_head c u xs) (within G u in_head (around_by a b) (node_list xs) ks).row
head_hold G c u xs ks true b h k t =
    holds_as (NodesFound no_cover G (context_row in_head false) u xs) (TitleAt G in_head c u xs) (nodes_found G (context_row in_head false) u (node_list xs) ks).row
    (λ d x. title_at false (alike_is (context_row in_head false) c h) x) (λ d x. head_held x)
    (nodes_hold G (context_row in_head false) u xs ks t)
head_hold G c u xs ks false true h k t =
    holds_as (NodesFound no_cover G (context_row in_head true) u xs) (TitleAt G in_head c u xs) (nodes_found G (context_row in_head true) u (node_list xs) ks).row
    (λ d x. title_at true (alike_is (context_row in_head true) c k) x) (λ d x. head_held x)
    (nodes_hold G (context_row in_head true) u xs ks t)
head_hold G c u xs ks false false h k t =
    λ d x. not_titled_at (both_out in_head c (refused (is_alike (context_row in_head false) c) h) (refused (is_alike (context_row in_head true) c) k)) x

in_title_pick : (G : Sc) (w : Where) (c u : Cn) (xs : Xs) (ks : List Jd) → w ≡ in_head → NodesTold G xs ks → Picks (InTitle G w c u xs) (within G u w (around_of w c) (node_list xs) ks).own
in_title_pick G w c u xs ks h t =
    subst (λ z. Picks (InTitle G z c u xs) (within G u z (around_of z c) (node_list xs) ks).own) (sym h)
    (head_by G c u xs ks (are_alike (context_row in_head false) c) (are_alike (context_row in_head true) c) refl refl t)

in_title_hold : (G : Sc) (w : Where) (c u : Cn) (xs : Xs) (ks : List Jd) → w ≡ in_head → NodesTold G xs ks → Holds (TitleAt G w c u xs) (within G u w (around_of w c) (node_list xs) ks).row
in_title_hold G w c u xs ks h t =
    subst (λ z. Holds (TitleAt G z c u xs) (within G u z (around_of z c) (node_list xs) ks).row) (sym h)
    (head_hold G c u xs ks (are_alike (context_row in_head false) c) (are_alike (context_row in_head true) c) refl refl t)

-- all of whose nodes are texts
by_words : (G : Sc) (xs : Xs) (ks : List Jd) (P : Cn → Type 0) (b : Bool) (o : Option Cn) → NodesTold G xs ks → (words_in G (node_list xs) ks).are_all ≡ b → Holds P o → Holds (λ t. NodesAreWords xs × P t) (row_if b o)
by_words G xs ks P true o t e h = holds_as P (λ z. NodesAreWords xs × P z) o (λ z x. (words_are G xs ks e, x)) (λ z x. x.1) h
by_words G xs ks P false o t e h = λ z x. true_false (all_words G xs ks t x.0) e

-- what holds nothing
nothing_hold : (G : Sc) (xs : Xs) (ks : List Jd) (o : Option Cn) → NodesTold G xs ks → Holds (λ b. (xs ≡ no_nodes) × (o ≡ Some b)) (holds_nothing G (node_list xs) ks o).row
nothing_hold G no_nodes ks None t = λ b x. none_some x.1
nothing_hold G no_nodes ks (Some b) t = (refl, refl)
nothing_hold G (a_node b e xs) ks o t = λ d x. not_empty x.0
  where
    not_empty : a_node b e xs ≡ no_nodes → ⊥
    not_empty h = cc

-- a form, which fills no field outside
pub record FormAt (G : Sc) (xs : Xs) (b : Cn) : Type 0 where
  pub inner : Cn
  pub found : NodesFound no_cover G (context_row in_body true) no_types xs inner
  pub none : Some no_types ≡ Some b

form_hold : (G : Sc) (xs : Xs) (o : Option Cn) → Holds (NodesFound no_cover G (context_row in_body true) no_types xs) o → Holds (FormAt G xs) (fills_none o)
form_hold G xs None h = λ b x. h x.inner x.found
form_hold G xs (Some d) h = record { inner = d; found = h; none = refl }

-- by its sort
abbrev pub ContentFault : Sc → Where → Cn → Cn → Xs → Sort → Fault → Type 0
ContentFault G w c u xs (holding v) = Within G w v c u xs
ContentFault G w c u xs of_words = Or (NoWords G xs) (InTitle G w c u xs)
ContentFault G w c u xs empty = Held G xs
ContentFault G w c u xs a_form = NodeFault G (context_row in_body true) no_types xs
ContentFault G w c u xs (an_input t) = Held G xs
ContentFault G w c u xs a_button = Held G xs

abbrev pub Empty : Xs → Option Cn → Cn → Type 0
Empty xs o b = (xs ≡ no_nodes) × (o ≡ Some b)

abbrev pub ContentAs : Sc → Option (Place × Cn) → Where → Cn → Cn → Xs → Sort → Cn → Type 0
ContentAs G n w c u xs (holding v) b = HoldsAt G w v c u xs b
ContentAs G n w c u xs of_words b = NodesAreWords xs × TitleAt G w c u xs b
ContentAs G n w c u xs empty b = Empty xs (Some no_types) b
ContentAs G n w c u xs a_form b = FormAt G xs b
ContentAs G n w c u xs (an_input t) b = Empty xs (field_row n t) b
ContentAs G n w c u xs a_button b = Empty xs (Some no_types) b

-- a title stands in a head
abbrev pub WordsStand : Sort → Where → Type 0
WordsStand of_words w = w ≡ in_head
WordsStand _ w = Unit {0}

pub words_stand : (g : TagName) → WordsStand (sort_of g) (stands g)
words_stand tag.Title = refl
words_stand _ = tt

pub content_pick : (G : Sc) (p : Place) (n : Option (Place × Cn)) (w : Where) (c u : Cn) (xs : Xs) (ks : List Jd) (s : Sort) → WordsStand s w → NodesTold G xs ks →
    Picks (ContentFault G w c u xs s) (content_by G n u w (stands_by G p c u w s).around (node_list xs) ks s).own
content_pick G p n w c u xs ks (holding v) h t = within_pick G w v c u xs ks t
content_pick G p n w c u xs ks of_words h t =
    picks_two (NoWords G xs) (InTitle G w c u xs) (words_in G (node_list xs) ks).told (within G u w (around_of w c) (node_list xs) ks).own
    (words_pick G xs ks t) (in_title_pick G w c u xs ks h t)
content_pick G p n w c u xs ks empty h t = held_pick G xs ks (Some no_types) t
content_pick G p n w c u xs ks a_form h t = nodes_pick G (context_row in_body true) no_types xs ks t
content_pick G p n w c u xs ks (an_input v) h t = held_pick G xs ks (field_row n v) t
content_pick G p n w c u xs ks a_button h t = held_pick G xs ks (Some no_types) t

pub content_hold : (G : Sc) (p : Place) (n : Option (Place × Cn)) (w : Where) (c u : Cn) (xs : Xs) (ks : List Jd) (s : Sort) → WordsStand s w → NodesTold G xs ks →
    Holds (ContentAs G n w c u xs s) (content_by G n u w (stands_by G p c u w s).around (node_list xs) ks s).row
content_hold G p n w c u xs ks (holding v) h t = within_hold G w v c u xs ks t
content_hold G p n w c u xs ks of_words h t =
    by_words G xs ks (TitleAt G w c u xs) (words_in G (node_list xs) ks).are_all (within G u w (around_of w c) (node_list xs) ks).row t refl (in_title_hold G w c u xs ks h t)
content_hold G p n w c u xs ks empty h t = nothing_hold G xs ks (Some no_types) t
content_hold G p n w c u xs ks a_form h t =
    form_hold G xs (nodes_at G no_types in_body true (node_list xs) ks).row (nodes_hold G (context_row in_body true) no_types xs ks t)
content_hold G p n w c u xs ks (an_input v) h t = nothing_hold G xs ks (field_row n v) t
content_hold G p n w c u xs ks a_button h t = nothing_hold G xs ks (Some no_types) t

-- what is held breaks nothing
pub nodes_out : {G : Sc} {c u b : Cn} {xs : Xs} {f : Fault} → NodeFault G c u xs f → NodesFound no_cover G c u xs b → ⊥
nodes_out (fills_kind x) (last_found k e a) = kind_out k x
nodes_out (fills_kind x) (node_found k e a h ys j) = kind_out k x
nodes_out (other_place {c = c} {u = u} {b = b} l y w) (last_found k e a) = wants_out (subst (λ z. Alike (xml_of c u b) z) (one_found e y) a) w
nodes_out (other_place {c = c} {u = u} {b = b} l y w) (node_found k e a h ys j) = wants_out (subst (λ z. Alike (xml_of c u b) z) (one_found e y) a) w
nodes_out (filled_before l x) (node_found k e a h ys j) = meets_out h x
nodes_out {G} (filled_behind {b = b} l zs x) (node_found k e a h ys j) = meets_out (subst (λ z. Disjoint G.kinds.guards b z) (one_nodes ys zs) j) x
nodes_out (later_node l x) (node_found k e a h ys j) = nodes_out x ys

words_out : {G : Sc} {xs : Xs} {f : Fault} → NodesAreWords xs → NoWords G xs f → ⊥
words_out w (other_word x y h) = not_words x w
words_out w (large_word x y h) = not_words x w

held_out : {G : Sc} {xs : Xs} {f : Fault} → xs ≡ no_nodes → Held G xs f → ⊥
held_out h (held_first x y) = cc

within_out : {G : Sc} {w v : Where} {c u b : Cn} {xs : Xs} {f : Fault} → HoldsAt G w v c u xs b → Within G w v c u xs f → ⊥
within_out (holds_at false m a x) y = nodes_out (outside_only a y) x
within_out {w = w} {c = c} (holds_at true m a x) y = nodes_out (inside_only (λ z. never_both w c m z a) y) x

head_out : {G : Sc} {c u b : Cn} {xs : Xs} {f : Fault} → TitleAt G in_head c u xs b → InTitle G in_head c u xs f → ⊥
head_out x y = nodes_out (head_fault y) (head_held x)

title_out : (G : Sc) (w : Where) (c u b : Cn) (xs : Xs) (f : Fault) → w ≡ in_head → TitleAt G w c u xs b → InTitle G w c u xs f → ⊥
title_out G w c u b xs f h x y = head_out (subst (λ z. TitleAt G z c u xs b) h x) (subst (λ z. InTitle G z c u xs f) h y)

words_or_title : (G : Sc) (w : Where) (c u b : Cn) (xs : Xs) (f : Fault) → w ≡ in_head → NodesAreWords xs → TitleAt G w c u xs b → Or (NoWords G xs) (InTitle G w c u xs) f → ⊥
words_or_title G w c u b xs f h ws x (or_first y) = words_out ws y
words_or_title G w c u b xs f h ws x (or_second y) = title_out G w c u b xs f h x y

pub content_out : (G : Sc) (n : Option (Place × Cn)) (w : Where) (c u b : Cn) (xs : Xs) (s : Sort) (f : Fault) → WordsStand s w → ContentAs G n w c u xs s b → ContentFault G w c u xs s f → ⊥
content_out G n w c u b xs (holding v) f h x y = within_out x y
content_out G n w c u b xs of_words f h x y = words_or_title G w c u b xs f h x.0 x.1 y
content_out G n w c u b xs empty f h x y = held_out x.0 y
content_out G n w c u b xs a_form f h x y = nodes_out y x.found
content_out G n w c u b xs (an_input t) f h x y = held_out x.0 y
content_out G n w c u b xs a_button f h x y = held_out x.0 y
