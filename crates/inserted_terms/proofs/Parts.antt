-- One more item of a call, and one more declaration of a let, in front.
use Rattle.std.proofs.Common.{◌≡◌, true, false, refl}
use Rattle.con_terms.specs.Trees.{Cn}
use Rattle.core_terms.specs.Trees.{node, It, a_term, a_con, a_guard, Its, Lo, a_val, a_rec, Los}
use Rattle.core_terms.specs.View.{with_item, with_local}
use Rattle.guided_terms.specs.Heres.{Here}
use Rattle.inserted_terms.specs.Asked.{ItemsAsked}
use Rattle.inserted_terms.specs.Chosen.{ItemsChosen, LocalsChosen}
use Rattle.inserted_terms.specs.Inside.{inside_locals}
use Rattle.inserted_terms.specs.Parts.{ItemAsked, ItemChosen, LocalChosen, inside_local, is_added, past_item}
use Rattle.std.specs.Prelude.{Option}

pub items_more : (h : Here) (i : It) (is : Its) → ItemChosen h i → ItemsChosen h is → ItemsChosen h (with_item i is)
items_more h (a_term e) is a b = (a, b)
items_more h (a_con p o c) is a b = b
items_more h (a_guard p o) is a b = b

pub asked_more : (h : Here) (t : Option Cn) (i : It) (is : Its) → ItemAsked h t i → ItemsAsked h (past_item i t) is
    → ItemsAsked h t (with_item i is)
asked_more h t (a_term e) is a b = (a, b)
asked_more h t (a_con p o c) is a b = b
asked_more h t (a_guard p o) is a b = b

-- a term that wasn't inserted is asked nothing
pub nothing_asked : (i : It) (is : Its) → is_added i ≡ false
    → ((h : Here) (t : Option Cn) → ItemsAsked h t is)
    → (h : Here) (t : Option Cn) → ItemsAsked h t (with_item i is)
nothing_asked (a_term (node p true f)) is n more h t = absurd cc
nothing_asked (a_term (node p false f)) is n more h t = (tt, more h (past_item (a_term (node p false f)) t))
nothing_asked (a_con p o c) is n more h t = more h (past_item (a_con p o c) t)
nothing_asked (a_guard p o) is n more h t = more h (past_item (a_guard p o) t)

pub locals_more : (h : Here) (l : Lo) (ls : Los) → LocalChosen h l → LocalsChosen (inside_local l h) ls
    → LocalsChosen h (with_local l ls)
locals_more h (a_val p x w t e) ls a b = (a, b)
locals_more h (a_rec ns) ls a b = (a, b)

pub inside_more : (h : Here) (l : Lo) (ls : Los) → inside_locals (with_local l ls) h ≡ inside_locals ls (inside_local l h)
inside_more h (a_val p x w t e) ls = refl
inside_more h (a_rec ns) ls = refl
