-- Calls of which only the head is left, and calls that stay.
use Rattle.std.proofs.Common.{◌≡◌, Bool, true, false, List, ◌∷◌, refl}
use Rattle.core_terms.specs.declared.exp.ConOrigin.TheVariants.{Written, Inserted, Wild}
use Rattle.con_terms.specs.declared.place.Place.{Place}
use Rattle.core_terms.specs.declared.exp.Sigil.{Sigil}
use Rattle.core_terms.specs.declared.exp.Sigil.TheVariants.{Plain, At, AtAt}
use Rattle.core_terms.specs.Strip.{call_left, strip_items}
use Rattle.core_terms.specs.Trees.{Ex, node, Its, no_items, with_term, with_con, with_guard, It, a_term, a_con}
use Rattle.core_terms.specs.Trees.{a_guard}
use Rattle.core_terms.specs.View.{with_item}
use Rattle.placed_terms.specs.Left.{is_alone, is_empty, is_left}
use Rattle.placed_terms.specs.Made.{exp_then, items_then}

pub alone_is : (p : Place) (a : Bool) (h : Ex) (s : Sigil) (is : Its) (more : List Place) → is_alone s is ≡ true
    → exp_then (call_left p a h s is) more ≡ exp_then h more
alone_is p a (node q b f) Plain no_items more e = refl
alone_is p a (node q b f) Plain (with_term x is) more e = cc
alone_is p a (node q b f) Plain (with_con r o c is) more e = cc
alone_is p a (node q b f) Plain (with_guard r g is) more e = cc
alone_is p a (node q b f) At is more e = cc
alone_is p a (node q b f) AtAt is more e = cc

pub call_is_kept : (p : Place) (a : Bool) (h : Ex) (s : Sigil) (is : Its) (more : List Place) → is_alone s is ≡ false
    → exp_then (call_left p a h s is) more ≡ (p ∷ exp_then h (items_then is more))
call_is_kept p a (node q b f) Plain no_items more e = cc
call_is_kept p a (node q b f) Plain (with_term x is) more e = refl
call_is_kept p a (node q b f) Plain (with_con r o c is) more e = refl
call_is_kept p a (node q b f) Plain (with_guard r g is) more e = refl
call_is_kept p a (node q b f) At is more e = refl
call_is_kept p a (node q b f) AtAt is more e = refl

-- an item that was inserted is passed, and one that was written stays
pub passed : (i : It) (is : Its) → is_left i ≡ false → strip_items (with_item i is) ≡ strip_items is
passed (a_term (node p true f)) is h = refl
passed (a_term (node p false f)) is h = cc
passed (a_con p Inserted c) is h = refl
passed (a_con p Written c) is h = cc
passed (a_con p Wild c) is h = cc
passed (a_guard p true) is h = refl
passed (a_guard p false) is h = cc

pub some_left : (i : It) (is : Its) → is_left i ≡ true → is_empty (strip_items (with_item i is)) ≡ false
some_left (a_term (node p true f)) is h = cc
some_left (a_term (node p false f)) is h = refl
some_left (a_con p Inserted c) is h = cc
some_left (a_con p Written c) is h = refl
some_left (a_con p Wild c) is h = refl
some_left (a_guard p true) is h = cc
some_left (a_guard p false) is h = refl
