-- The whole link: its name, and all values behind it.
use Rattle.std.proofs.Common.{◌≡◌, ℕ, zero, suc, ◌<◌, Bool, true, false, nat_lt, if◌then◌else◌, length, get_or, drop, List, [], ◌∷◌, ◌++◌, map, Option, Some, None, option_map, refl, ap, sym, ◌∙◌, subst, arith, inl, inr}
use Rattle.std.specs.String.{string_bytes}
use Rattle.table_rows.specs.Shapes.{no_shapes}
use Rattle.table_rows.specs.Wires.{Wrs}
use Rattle.table_rows.specs.Pieces.{all_pieces}
use Rattle.link_router.specs.Links.{joined, link}
use Rattle.core_terms.specs.declared.program.Program.{Program}
use Rattle.value_trees.specs.Values.{V, Out, done, fault, wrong, link_too_long}
use Rattle.value_trees.specs.Wired.{wires_of}
use Rattle.run_values.specs.Known.{Tp}
use Rattle.run_values.specs.Outcomes.{StopsWith}
use Rattle.run_values.specs.View.{value_tree}
use Rattle.run_values.specs.declared.stop.Stop.{Stop}
use Rattle.run_values.specs.declared.value.Value.{Value}
use Rattle.page_walk.specs.Links.{longest_link, datatypes_in, link_name, linked, values_text}
use Rattle.page_walk.specs.Adding.{Holds, Adds, Amid, Never, StopsFor, pending}
use Rattle.page_walk.specs.declared.links.Link.{Link}
use Rattle.page_walk.proofs.Added.{nothing_behind, joined_and}
use Rattle.page_walk.proofs.Texts.{text_of, further_amid}
use Rattle.page_walk.proofs.Forms.{last_first}

-- lists from their ends
drop_at : {X : Type 0} (xs : List X) (j : ℕ) (x : X) → j < length xs → x ≡ get_or xs j x → drop j xs ≡ x ∷ drop (suc j) xs
drop_at [] j x h e = absurd (omega (arith, h))
drop_at (y ∷ xs) zero x h e = ap (λ z. z ∷ xs) (sym e)
drop_at (y ∷ xs) (suc j) x h e = drop_at xs j x (omega (arith, h)) e

pub next_back : {X : Type 0} (xs : List X) (j k : ℕ) (x : X) → j < length xs → x ≡ get_or xs j x → k ≡ suc j → drop j xs ≡ x ∷ drop k xs
next_back xs j k x h e g = drop_at xs j x h e ∙ ap (λ i. x ∷ drop i xs) (sym g)

-- one more value that is still to be written
pub one_pending : (values : List Value) (xs ys : List Value) (x : Value) (vs : List V) (j k : ℕ) → j < length values → x ≡ get_or values j x → k ≡ suc j
    → pending xs [] ≡ map value_tree (drop k values) → ys ≡ xs ++ x ∷ [] → pending ys [] ≡ map value_tree (drop j values)
one_pending values xs ys x vs j k h e g was f =
    ap (λ zs. pending zs []) f ∙ last_first xs x [] ∙ ap (λ us. value_tree x ∷ us) was ∙ ap (map value_tree) (sym (next_back values j k x h e g))

pub all_pending : (values : List Value) (xs : List Value) (k : ℕ) → k ≡ 0 → pending xs [] ≡ map value_tree (drop k values) → pending xs [] ≡ map value_tree values
all_pending values xs k z was = was ∙ ap (λ (i : ℕ). map value_tree (drop i values)) z

-- one turn
pub one_turn : (p : Program) (a b c : Link) (us : List V) (v : Value) (xs ys zs : List Value) → Amid p a b us (pending xs []) → xs ≡ ys ++ v ∷ []
    → Amid p b c (value_tree v ∷ pending ys []) (pending zs []) → Amid p a c us (pending zs [])
one_turn p a b c us v xs ys zs x e y =
    further_amid p a b c us (value_tree v ∷ pending ys []) (pending zs []) (subst (Amid p a b us) (ap (λ ws. pending ws []) e ∙ last_first ys v []) x) y

pub all_written : (p : Program) (a b : Link) (us vs : List V) (xs : List Value) → us ≡ vs → xs ≡ [] → Amid p a b us (pending xs []) → Amid p a b vs []
all_written p a b us vs xs e f x = subst (λ ws. Amid p a b ws []) e (subst (λ ys. Amid p a b us (pending ys [])) f x)

no_more : (o p : Option (List ℕ)) (w : List ℕ) → o ≡ option_map (λ t. w ++ t) p → p ≡ None → o ≡ None
no_more o p w e h = e ∙ ap (option_map (λ t. w ++ t)) h

pub all_stopped : (p : Program) (a b : Link) (us vs : List V) (v : Value) (xs ys : List Value) (stop : Stop) → us ≡ vs → Amid p a b us (pending xs []) → xs ≡ ys ++ v ∷ []
    → StopsFor stop (Never p (value_tree v)) → StopsFor stop (values_text p.names (datatypes_in p) vs ≡ None)
all_stopped p a b us vs v xs ys stop g x e (inl h) = inl h
all_stopped p a b us vs v xs ys stop g x e (inr h) = inr (
  h.0,
  ap (values_text p.names (datatypes_in p)) (sym g)
      ∙ no_more (values_text p.names (datatypes_in p) us) (values_text p.names (datatypes_in p) (pending xs [])) x.written x.whole
      (ap (λ ws. values_text p.names (datatypes_in p) (pending ws [])) e ∙ ap (values_text p.names (datatypes_in p)) (last_first ys v []) ∙ h.1.never (pending ys [])),
)

-- the link
abbrev pub link_from : List (List ℕ) → Option Wrs → Out (List ℕ)
link_from name o =
    elim o [
      | None ↦ wrong
      | Some ws ↦ let text = link (record { name = name; arguments = no_shapes; form = None }) ws in
          if nat_lt longest_link (length text) then fault link_too_long else done text 0
    ]

from_texts : (name : List (List ℕ)) (o : Option Wrs) (tail whole : List ℕ) → text_of o ≡ Some tail → joined name ++ tail ≡ whole
    → link_from name o ≡ (if nat_lt longest_link (length whole) then fault link_too_long else done whole 0)
from_texts name None tail whole h e = absurd (cc)
from_texts name (Some ws) tail whole h e =
    let same : joined (all_pieces ws) ≡ tail = cc in
    ap (λ text. if nat_lt longest_link (length text) then fault link_too_long else done text 0) (joined_and name (all_pieces ws) ∙ ap (λ t. joined name ++ t) same ∙ e)

pub from_none : (name : List (List ℕ)) (o : Option Wrs) → text_of o ≡ None → link_from name o ≡ wrong
from_none name None h = refl
from_none name (Some ws) h = absurd (cc)

held_at_last : (p : Program) (a b c : Link) (name : List (List ℕ)) (vs : List V) → string_bytes a.text ≡ [] → a.long ≡ false → Adds a b (joined name)
    → (x : Amid p b c vs []) → Holds c (joined name ++ x.written)
held_at_last p a b c name vs e f x y =
    y.adds.adds (joined name) (x.adds [] (record { is_long = f; bytes = λ _. e }))

whole_text : (p : Program) (b c : Link) (vs : List V) → (x : Amid p b c vs []) → text_of (wires_of p.names (datatypes_in p) vs) ≡ Some x.written
whole_text p b c vs x = x.whole ∙ ap Some (nothing_behind x.written)

pub whole_link : (p : Program) (t : Tp) (a b c : Link) (vs : List V) → string_bytes a.text ≡ [] → a.long ≡ false → Adds a b (joined (link_name p t))
    → Amid p b c vs [] → c.long ≡ false → linked p t vs ≡ done (string_bytes c.text) 0
whole_link p t a b c vs e f x y short =
    let whole = joined (link_name p t) ++ y.written in
    let held = held_at_last p a b c (link_name p t) vs e f x y in
    from_texts (link_name p t) (wires_of p.names (datatypes_in p) vs) y.written whole (whole_text p b c vs y) refl
    ∙ ap (λ (l : Bool). if l then fault link_too_long else done whole 0) (sym held.is_long ∙ short)
    ∙ ap (λ text. done text 0) (sym (held.bytes short))

pub long_link : (p : Program) (t : Tp) (a b c : Link) (vs : List V) → string_bytes a.text ≡ [] → a.long ≡ false → Adds a b (joined (link_name p t))
    → Amid p b c vs [] → c.long ≡ true → linked p t vs ≡ fault link_too_long
long_link p t a b c vs e f x y long =
    let whole = joined (link_name p t) ++ y.written in
    let held = held_at_last p a b c (link_name p t) vs e f x y in
    from_texts (link_name p t) (wires_of p.names (datatypes_in p) vs) y.written whole (whole_text p b c vs y) refl
    ∙ ap (λ (l : Bool). if l then fault link_too_long else done whole 0) (sym held.is_long ∙ long)

pub no_link : (p : Program) (t : Tp) (vs : List V) (stop : Stop) → StopsFor stop (values_text p.names (datatypes_in p) vs ≡ None) → StopsWith stop (linked p t vs)
no_link p t vs stop (inl h) = subst (λ s. StopsWith s (linked p t vs)) (sym h) tt
no_link p t vs stop (inr h) = subst (λ s. StopsWith s (linked p t vs)) (sym h.0) (from_none (link_name p t) (wires_of p.names (datatypes_in p) vs) h.1)
