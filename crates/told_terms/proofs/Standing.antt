-- Where an element stands, its rows, its field's name and its action: what is told of them, by its sort.
use Rattle.std.proofs.Common.{◌≡◌, Bool, true, false, Option, Some, None, Result, Ok, Err, refl, subst}
use Rattle.con_terms.specs.Trees.{Kd, names, Cn, unit_con}
use Rattle.con_terms.specs.declared.place.Place.{Place}
use Rattle.kind_rules.specs.Flaws.{Flw}
use Rattle.kind_rules.specs.Kinding.{judged_at}
use Rattle.xml_trees.specs.declared.source_name.AttrName.TheVariants as attr
use Rattle.core_terms.specs.Trees.{Ats}
use Rattle.core_terms.specs.Types.{no_types, one_field}
use Rattle.core_terms.specs.Lists.{attribute_list}
use Rattle.core_terms.specs.Markup.{Where, in_body, context_row, Sort, holding, of_words, empty, a_form, an_input, a_button}
use Rattle.core_typing.specs.Scopes.{Sc, normal_of}
use Rattle.core_typing.specs.Typed.{HasAttribute}
use Rattle.core_typing.specs.Compared.{Alike}
use Rattle.core_typing.specs.Judged.{HasKind, LacksKind, lacks, flaw_at}
use Rattle.core_typing.specs.Faults.{Fault, at, unbound, an_input_name, mismatch, link_not_call, too_large}
use Rattle.core_typing.specs.Own.{Wants}
use Rattle.core_typing.proofs.Excluded.{wants_out, kind_out}
use Rattle.core_typing.proofs.DecidedElements.{both_out}
use Rattle.told_faults.specs.Computed.{flawed, wants}
use Rattle.told_faults.specs.Told.{Picks, Or, or_first, or_second, Never, Just}
use Rattle.told_faults.specs.Heads.{Kindly, kindly, unkind}
use Rattle.told_faults.proofs.Verdict.{picks_as, picks_two, picks_never, picks_just}
use Rattle.told_faults.proofs.Parts.{at_one, picks_wants, kind_is, picks_flaw}
use Rattle.judgements.specs.Comparisons.{are_alike}
use Rattle.carried_types.proofs.Alike.{alike_is, is_alike}
use Rattle.markup_rules.specs.Attributes.{stands_among}
use Rattle.markup_rules.specs.Standing.{Ar, within_form, no_form, elsewhere, around_by, around_of, context_told, elsewhere_told, stands_by, other_name, other_name_of, name_by, name_told}
use Rattle.markup_rules.specs.Elements.{unless_action, action_by}
use Rattle.markup_rules.proofs.Basics.{some_none, first_parts, alike}
use Rattle.markup_rules.proofs.ContentIs.{Around, around_form, around_none, stands_there, no_name, Named, named}
use Rattle.markup_rules.proofs.AttributesAre.{has_attribute}
pub use Rattle.markup_rules.proofs.Found.{rows_are}
use Rattle.told_terms.proofs.Tests.{refused}
use Rattle.told_terms.proofs.Attributes.{attribute_stands}

-- nothing is told where nothing breaks
pub silent : (P : Fault → Type 0) (o : Option Fault) → Picks P o → ((f : Fault) → P f → ⊥) → o ≡ None
silent P None h n = refl
silent P (Some f) h n = absurd (n f h.0)

-- an element stands neither with a form around it nor without
pub data Elsewhere (G : Sc) (p : Place) (w : Where) (c : Cn) : Fault → Type 0 where
  is_elsewhere : {f : Fault}
      → ((o : Bool) → Alike (context_row w o) c → ⊥)
      → Wants G p (context_row w false) c f
      → Elsewhere G p w c f

abbrev pub StandsFault : Sc → Place → Where → Cn → Cn → Sort → Fault → Type 0
StandsFault G p w c u (holding v) = Elsewhere G p w c
StandsFault G p w c u of_words = Elsewhere G p w c
StandsFault G p w c u empty = Elsewhere G p w c
StandsFault G p w c u a_form = Or (Wants G p (context_row in_body false) c) (Wants G p no_types u)
StandsFault G p w c u (an_input t) = Wants G p (context_row in_body true) c
StandsFault G p w c u a_button = Wants G p (context_row in_body true) c

not_there : {G : Sc} {p : Place} {w : Where} {c : Cn} {f : Fault} (o : Bool) → Alike (context_row w o) c → Elsewhere G p w c f → ⊥
not_there o a (is_elsewhere none x) = none o a

elsewhere_wants : {G : Sc} {p : Place} {w : Where} {c : Cn} {f : Fault} → Elsewhere G p w c f → Wants G p (context_row w false) c f
elsewhere_wants (is_elsewhere none x) = x

by_tests : (G : Sc) (p : Place) (w : Where) (c : Cn) (a b : Bool) → are_alike (context_row w false) c ≡ a → are_alike (context_row w true) c ≡ b → Picks (Elsewhere G p w c) (elsewhere_told G p w c (around_by a b))
by_tests G p w c true b h k = λ f x. not_there false (alike_is (context_row w false) c h) x
by_tests G p w c false true h k = λ f x. not_there true (alike_is (context_row w true) c k) x
by_tests G p w c false false h k =
    picks_as (Wants G p (context_row w false) c) (Elsewhere G p w c) (context_told G p w false c)
    (λ f x. is_elsewhere (both_out w c (refused (is_alike (context_row w false) c) h) (refused (is_alike (context_row w true) c) k)) x)
    (λ f x. elsewhere_wants x)
    (picks_wants G p (context_row w false) c)

elsewhere_pick : (G : Sc) (p : Place) (w : Where) (c : Cn) → Picks (Elsewhere G p w c) (elsewhere_told G p w c (around_of w c))
elsewhere_pick G p w c = by_tests G p w c (are_alike (context_row w false) c) (are_alike (context_row w true) c) refl refl

pub stands_pick : (G : Sc) (p : Place) (w : Where) (c u : Cn) (s : Sort) → Picks (StandsFault G p w c u s) (stands_by G p c u w s).told
stands_pick G p w c u (holding v) = elsewhere_pick G p w c
stands_pick G p w c u of_words = elsewhere_pick G p w c
stands_pick G p w c u empty = elsewhere_pick G p w c
stands_pick G p w c u a_form =
    picks_two (Wants G p (context_row in_body false) c) (Wants G p no_types u) (context_told G p in_body false c) (wants G p no_types u)
    (picks_wants G p (context_row in_body false) c) (picks_wants G p no_types u)
stands_pick G p w c u (an_input t) = picks_wants G p (context_row in_body true) c
stands_pick G p w c u a_button = picks_wants G p (context_row in_body true) c

-- it stands as its tag does
abbrev pub StandsAs : Where → Cn → Cn → Sort → Type 0
StandsAs w c u (holding v) = (o : Bool) × Alike (context_row w o) c
StandsAs w c u of_words = (o : Bool) × Alike (context_row w o) c
StandsAs w c u empty = (o : Bool) × Alike (context_row w o) c
StandsAs w c u a_form = Alike (context_row in_body false) c × Alike no_types u
StandsAs w c u (an_input t) = Alike (context_row in_body true) c
StandsAs w c u a_button = Alike (context_row in_body true) c

form_out : {G : Sc} {p : Place} {c u : Cn} {f : Fault} → Alike (context_row in_body false) c → Alike no_types u → Or (Wants G p (context_row in_body false) c) (Wants G p no_types u) f → ⊥
form_out a b (or_first x) = wants_out a x
form_out a b (or_second x) = wants_out b x

pub stands_out : (G : Sc) (p : Place) (w : Where) (c u : Cn) (s : Sort) (f : Fault) → StandsAs w c u s → StandsFault G p w c u s f → ⊥
stands_out G p w c u (holding v) f (o, a) x = not_there o a x
stands_out G p w c u of_words f (o, a) x = not_there o a x
stands_out G p w c u empty f (o, a) x = not_there o a x
stands_out G p w c u a_form f (a, b) x = form_out a b x
stands_out G p w c u (an_input t) f a x = wants_out a x
stands_out G p w c u a_button f a x = wants_out a x

either_row : (w : Where) (c : Cn) (r : Ar) → Around w c r → (o : Bool) × Alike (context_row w o) c
either_row w c within_form (around_form m a) = (true, a)
either_row w c no_form (around_none m a) = (false, a)
either_row w c elsewhere x = elim x [ ]

pub stands_is : (G : Sc) (p : Place) (w : Where) (c u : Cn) (s : Sort) → (stands_by G p c u w s).told ≡ None → StandsAs w c u s
stands_is G p w c u (holding v) h = either_row w c (around_of w c) (stands_there G p w c h)
stands_is G p w c u of_words h = either_row w c (around_of w c) (stands_there G p w c h)
stands_is G p w c u empty h = either_row w c (around_of w c) (stands_there G p w c h)
stands_is G p w c u a_form h =
    let (x, y) = first_parts (context_told G p in_body false c) (wants G p no_types u) h in
    (alike G p (context_row in_body false) c x, alike G p no_types u y)
stands_is G p w c u (an_input t) h = alike G p (context_row in_body true) c h
stands_is G p w c u a_button h = alike G p (context_row in_body true) c h

-- the name of its field, on another tag than an input's
pub data OtherName (G : Sc) (q : Place) (n : Cn) : Fault → Type 0 where
  other_is : {m : Cn}
      → HasKind G n names
      → normal_of n ≡ Some m
      → OtherName G q n (mismatch q G.called no_types (one_field m unit_con))
  other_large : HasKind G n names
      → normal_of n ≡ None
      → OtherName G q n (too_large q)

other_at : {G : Sc} {q : Place} {n : Cn} {f : Fault} → OtherName G q n f → at f ≡ q
other_at (other_is h k) = refl
other_at (other_large h k) = refl

other_kind : {G : Sc} {q : Place} {n : Cn} {f : Fault} → OtherName G q n f → HasKind G n names
other_kind (other_is h k) = h
other_kind (other_large h k) = h

other_by : (G : Sc) (q : Place) (n : Cn) (o : Option Cn) → normal_of n ≡ o → HasKind G n names → Picks (OtherName G q n) (other_name G q o)
other_by G q n None e h = at_one (OtherName G q n) q (too_large q) (λ f x. other_at x) (other_large h e)
other_by G q n (Some m) e h = at_one (OtherName G q n) q (mismatch q G.called no_types (one_field m unit_con)) (λ f x. other_at x) (other_is h e)

-- the name, of an input or of another tag
abbrev pub NameFault : Sc → Place → Bool → Option (Place × Cn) → Fault → Type 0
NameFault G p true None = Just (unbound p an_input_name)
NameFault G p false None = Never
NameFault G p true (Some n) = LacksKind G n.0 n.1 names
NameFault G p false (Some n) = Or (LacksKind G n.0 n.1 names) (OtherName G n.0 n.1)

lacking : {G : Sc} {n : Cn} {w : Flw} (q : Place) → judged_at G.kinds n names ≡ Err w → LacksKind G q n names (flaw_at q G.called w)
lacking q e = lacks e

lacks_alone : {G : Sc} {q : Place} {n : Cn} {w : Flw} {f : Fault} → judged_at G.kinds n names ≡ Err w → Or (LacksKind G q n names) (OtherName G q n) f → LacksKind G q n names f
lacks_alone e (or_first x) = x
lacks_alone {q = q} e (or_second x) = absurd (kind_out (other_kind x) (lacking q e))

other_alone : {G : Sc} {q : Place} {n : Cn} {f : Fault} → HasKind G n names → Or (LacksKind G q n names) (OtherName G q n) f → OtherName G q n f
other_alone h (or_first x) = absurd (kind_out h x)
other_alone h (or_second x) = x

name_kind : (G : Sc) (p q : Place) (n : Cn) (b : Bool) (r : Result Kd Flw) → Kindly G n names r → Picks (NameFault G p b (Some (q, n))) (name_by G q n b (flawed G q r))
name_kind G p q n true (Ok l) (kindly h) = λ f x. kind_out h x
name_kind G p q n true (Err w) (unkind e) = picks_flaw G q n names (Err w) (unkind e)
name_kind G p q n false (Ok l) (kindly h) =
    picks_as (OtherName G q n) (NameFault G p false (Some (q, n))) (other_name_of G q n) (λ f x. or_second x) (λ f x. other_alone h x)
    (other_by G q n (normal_of n) refl h)
name_kind G p q n false (Err w) (unkind e) =
    picks_as (LacksKind G q n names) (NameFault G p false (Some (q, n))) (Some (flaw_at q G.called w)) (λ f x. or_first x) (λ f x. lacks_alone e x)
    (picks_flaw G q n names (Err w) (unkind e))

pub name_pick : (G : Sc) (p : Place) (b : Bool) (n : Option (Place × Cn)) → Picks (NameFault G p b n) (name_told G p b n)
name_pick G p true None = picks_just (unbound p an_input_name)
name_pick G p false None = picks_never
name_pick G p b (Some (q, n)) = name_kind G p q n b (judged_at G.kinds n names) (kind_is G n names)

-- an input has one, and no other tag has
abbrev pub NamedAs : Sc → Bool → Option (Place × Cn) → Type 0
NamedAs G true n = Named G n
NamedAs G false n = n ≡ None

never : {f : Fault} → Never f → ⊥
never x = elim x [ ]

pub name_out : (G : Sc) (p : Place) (b : Bool) (n : Option (Place × Cn)) (f : Fault) → NamedAs G b n → NameFault G p b n f → ⊥
name_out G p true n f h x = kind_out h.kind (subst (λ z. NameFault G p true z f) h.is x)
name_out G p false n f h x = never (subst (λ z. NameFault G p false z f) h x)

pub name_is : (G : Sc) (p : Place) (b : Bool) (n : Option (Place × Cn)) → name_told G p b n ≡ None → NamedAs G b n
name_is G p true n h = named G p n h
name_is G p false n h = no_name G p n h

-- a button's action
pub data NoAction (p : Place) (as' : Ats) : Fault → Type 0 where
  acts_not : (HasAttribute as' attr.Action → ⊥)
      → NoAction p as' (link_not_call p)

abbrev pub ActionFault : Place → Ats → Sort → Fault → Type 0
ActionFault p as' (holding v) = Never
ActionFault p as' of_words = Never
ActionFault p as' empty = Never
ActionFault p as' a_form = Never
ActionFault p as' (an_input t) = Never
ActionFault p as' a_button = NoAction p as'

action_at : {p : Place} {as' : Ats} {f : Fault} → NoAction p as' f → at f ≡ p
action_at (acts_not h) = refl

acts : {p : Place} {as' : Ats} {f : Fault} → HasAttribute as' attr.Action → NoAction p as' f → ⊥
acts h (acts_not n) = n h

by_action : (p : Place) (as' : Ats) (b : Bool) → stands_among attr.Action (attribute_list as') ≡ b → Picks (NoAction p as') (unless_action p b)
by_action p as' true h = λ f x. acts (has_attribute attr.Action as' h) x
by_action p as' false h = at_one (NoAction p as') p (link_not_call p) (λ f x. action_at x) (acts_not (refused attribute_stands h))

pub action_pick : (p : Place) (as' : Ats) (s : Sort) → Picks (ActionFault p as' s) (action_by p (attribute_list as') s)
action_pick p as' (holding v) = picks_never
action_pick p as' of_words = picks_never
action_pick p as' empty = picks_never
action_pick p as' a_form = picks_never
action_pick p as' (an_input t) = picks_never
action_pick p as' a_button = by_action p as' (stands_among attr.Action (attribute_list as')) refl

abbrev pub ActsAs : Ats → Sort → Type 0
ActsAs as' (holding v) = Unit {0}
ActsAs as' of_words = Unit {0}
ActsAs as' empty = Unit {0}
ActsAs as' a_form = Unit {0}
ActsAs as' (an_input t) = Unit {0}
ActsAs as' a_button = HasAttribute as' attr.Action

pub action_out : (p : Place) (as' : Ats) (s : Sort) (f : Fault) → ActsAs as' s → ActionFault p as' s f → ⊥
action_out p as' (holding v) f h x = never x
action_out p as' of_words f h x = never x
action_out p as' empty f h x = never x
action_out p as' a_form f h x = never x
action_out p as' (an_input t) f h x = never x
action_out p as' a_button f h x = acts h x

acts_by : (p : Place) (as' : Ats) (b : Bool) → stands_among attr.Action (attribute_list as') ≡ b → unless_action p b ≡ None → HasAttribute as' attr.Action
acts_by p as' true h k = has_attribute attr.Action as' h
acts_by p as' false h k = absurd (some_none k)

pub action_is : (p : Place) (as' : Ats) (s : Sort) → action_by p (attribute_list as') s ≡ None → ActsAs as' s
action_is p as' (holding v) h = tt
action_is p as' of_words h = tt
action_is p as' empty h = tt
action_is p as' a_form h = tt
action_is p as' (an_input t) h = tt
action_is p as' a_button h = acts_by p as' (stands_among attr.Action (attribute_list as')) refl h
