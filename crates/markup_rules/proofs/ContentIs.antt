-- What an element holds, where it stands, and its field's name, where nothing is told of them.
use Rattle.std.proofs.Common.{◌≡◌, Bool, true, false, List, [], ◌∷◌, Option, Some, None, refl, sym, ◌∙◌}
use Rattle.con_terms.specs.Trees.{names, Cn}
use Rattle.con_terms.specs.declared.place.Place.{Place}
use Rattle.kind_rules.specs.Kinding.{judged_at}
use Rattle.core_terms.specs.declared.basis.BasisName.{BasisName}
use Rattle.core_terms.specs.declared.basis.BasisName.TheVariants.{Txt, Cdata}
use Rattle.core_terms.specs.declared.exp.Sigil.{Sigil}
use Rattle.core_terms.specs.Trees.{Ex, node, basis, call, Its, Xs, no_nodes, a_node}
use Rattle.core_terms.specs.Types.{no_types}
use Rattle.core_terms.specs.Lists.{node_list}
use Rattle.core_terms.specs.Markup.{Where, in_html, in_head, in_body, in_table, in_tr, context_row, MayBeInForm}
use Rattle.core_terms.specs.View.{NodeTree}
use Rattle.core_typing.specs.Scopes.{Sc, normal_of}
use Rattle.core_typing.specs.Typed.{IsWords, of_cdata, of_txt, NodesAreWords}
use Rattle.core_typing.specs.Compared.{Alike}
use Rattle.core_typing.specs.Judged.{HasKind}
use Rattle.core_typing.specs.Faults.{Fault}
use Rattle.core_typing.proofs.DecidedElements.{outside_form as may_be_out}
use Rattle.told_faults.specs.Computed.{Jd, flawed}
use Rattle.judgements.specs.Comparisons.{are_alike}
use Rattle.markup_rules.specs.Standing.{Ar, within_form, no_form, around_by, around_of, elsewhere_told, other_name, name_by, name_told}
use Rattle.markup_rules.specs.Content.{is_text_name, is_text_maker, is_words, Wd, word_or, words_in, row_if, fills_none, holds_nothing}
use Rattle.markup_rules.proofs.Basics.{some_none, none_some, some_is, false_true, true_false, alike, tested, test_holds, kinded}

-- texts
by_text_name : (p q : Place) (a b : Bool) (n : BasisName) (s : Sigil) (is : Its) → is_text_name n ≡ true → IsWords (node p a (call (node q b (basis n)) s is))
by_text_name p q a b Cdata s is h = of_cdata
by_text_name p q a b Txt s is h = of_txt
by_text_name p q a b _ s is h = absurd (false_true h)

text_call : (p : Place) (a : Bool) (f : Ex) (s : Sigil) (is : Its) → is_text_maker f ≡ true → IsWords (node p a (call f s is))
text_call p a (node q b (basis n)) s is h = by_text_name p q a b n s is h
text_call p a (node q b _) s is h = absurd (false_true h)

word_is : (e : Ex) → is_words e ≡ true → IsWords e
word_is (node p a (call f s is)) h = text_call p a f s is h
word_is (node p a _) h = absurd (false_true h)

by_word : (G : Sc) (x : NodeTree) (o : Option Cn) (b : Bool) (r : Wd) → (word_or G x o b r).are_all ≡ true → (b ≡ true) × (r.are_all ≡ true)
by_word G x o true r h = (refl, h)
by_word G x o false r h = absurd (false_true h)

pub words_are : (G : Sc) (xs : Xs) (js : List Jd) → (words_in G (node_list xs) js).are_all ≡ true → NodesAreWords xs
words_are G no_nodes js h = tt
words_are G (a_node b e xs) [] h = absurd (false_true h)
words_are G (a_node b e xs) (j ∷ js) h =
    let x = by_word G (b, e) j.type (is_words e) (words_in G (node_list xs) js) h in
    (word_is e x.0, words_are G xs js x.1)

pub if_all : (b : Bool) (o : Option Cn) (d : Cn) → row_if b o ≡ Some d → (b ≡ true) × (o ≡ Some d)
if_all true o d h = (refl, h)
if_all false o d h = absurd (none_some h)

pub none_filled : (o : Option Cn) (d : Cn) → fills_none o ≡ Some d → (e : Cn) × (no_types ≡ d) × (o ≡ Some e)
none_filled None d h = absurd (none_some h)
none_filled (Some e) d h = (e, some_is h, refl)

-- what holds nothing
pub held_none : (G : Sc) (xs : Xs) (js : List Jd) (o : Option Cn) (d : Cn) → (holds_nothing G (node_list xs) js o).row ≡ Some d → (xs ≡ no_nodes) × (o ≡ Some d)
held_none G no_nodes js o d h = (refl, h)
held_none G (a_node b e xs) js o d h = absurd (none_some h)

-- where it stands
pub may_be_in : (w : Where) (c : Cn) → are_alike (context_row w false) c ≡ false → are_alike (context_row w true) c ≡ true → MayBeInForm w true
may_be_in in_html c h k = absurd (true_false (sym k ∙ h))
may_be_in in_head c h k = absurd (true_false (sym k ∙ h))
may_be_in in_body c h k = tt
may_be_in in_table c h k = tt
may_be_in in_tr c h k = tt

-- with a form around it, or without one
pub data Around (w : Where) (c : Cn) : Ar → Type 0 where
  around_form : MayBeInForm w true → Alike (context_row w true) c → Around w c within_form
  around_none : MayBeInForm w false → Alike (context_row w false) c → Around w c no_form

by_tests : (G : Sc) (p : Place) (w : Where) (c : Cn) (a b : Bool) → are_alike (context_row w false) c ≡ a → are_alike (context_row w true) c ≡ b → elsewhere_told G p w c (around_by a b) ≡ None → Around w c (around_by a b)
by_tests G p w c true b k l h = around_none (may_be_out w) (tested (context_row w false) c k)
by_tests G p w c false true k l h = around_form (may_be_in w c k l) (tested (context_row w true) c l)
by_tests G p w c false false k l h =
    absurd (true_false (sym (test_holds (context_row w false) c (alike G p (context_row w false) c h)) ∙ k))

pub stands_there : (G : Sc) (p : Place) (w : Where) (c : Cn) → elsewhere_told G p w c (around_of w c) ≡ None → Around w c (around_of w c)
stands_there G p w c h = by_tests G p w c (are_alike (context_row w false) c) (are_alike (context_row w true) c) refl refl h

-- the name of its field
other_is_told : (G : Sc) (q : Place) (o : Option Cn) → other_name G q o ≡ None → ⊥
other_is_told G q None h = some_none h
other_is_told G q (Some n) h = some_none h

by_flaw : (G : Sc) (q : Place) (n : Cn) (k : Option Fault) → name_by G q n false k ≡ None → ⊥
by_flaw G q n (Some f) h = some_none h
by_flaw G q n None h = other_is_told G q (normal_of n) h

pub no_name : (G : Sc) (p : Place) (n : Option (Place × Cn)) → name_told G p false n ≡ None → n ≡ None
no_name G p None h = refl
no_name G p (Some n) h = absurd (by_flaw G n.0 n.1 (flawed G n.0 (judged_at G.kinds n.1 names)) h)

pub record Named (G : Sc) (n : Option (Place × Cn)) : Type 0 where
  pub place : Place
  pub name : Cn
  pub is : n ≡ Some (place, name)
  pub kind : HasKind G name names

by_kind : (G : Sc) (q : Place) (n : Cn) (k : Option Fault) → flawed G q (judged_at G.kinds n names) ≡ k → name_by G q n true k ≡ None → HasKind G n names
by_kind G q n (Some f) e h = absurd (some_none h)
by_kind G q n None e h = kinded G q n names e

pub named : (G : Sc) (p : Place) (n : Option (Place × Cn)) → name_told G p true n ≡ None → Named G n
named G p None h = absurd (some_none h)
named G p (Some (q, m)) h =
    record { place = q; name = m; is = refl; kind = by_kind G q m (flawed G q (judged_at G.kinds m names)) refl h }
