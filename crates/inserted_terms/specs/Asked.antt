-- What is asked of the folders and instances among what a call is applied to: each is the one that is inserted for its
-- parameter's type, or a gap where the rules choose none. The types of the parameters come from walking the head's
-- type, item by item.
-- The Ur/Web Manual, "Type Inference", "Folders" and "Type Classes".
use Rattle.std.specs.Prelude.{Bool, true, false, Option, Some, None, option_and_then, ◌⊎◌}
use Rattle.con_terms.specs.Trees.{Cn, arrow, poly, guarded}
use Rattle.con_terms.specs.Substitution.{subst}
use Rattle.core_terms.specs.Strip.{was_added}
use Rattle.core_terms.specs.Trees.{Ex, Its, no_items, with_term, with_con, with_guard}
use Rattle.guided_terms.specs.Forms.{head_of}
use Rattle.guided_terms.specs.Heres.{Here}
use Rattle.guided_terms.specs.Implied.{Inserts}
use Rattle.inserted_terms.specs.Lacking.{Lacks}

-- a type as far as its form is known: as it is where it takes something, which is then looked at by itself
abbrev pub form_of : Cn → Option Cn
form_of (arrow a b) = Some (arrow a b)
form_of (poly i k b) = Some (poly i k b)
form_of (guarded c d b) = Some (guarded c d b)
form_of t = head_of t

-- what is left of a type behind a constructor, a guard's proof and a term; none where it takes no such thing
abbrev pub body_with : Cn → Option Cn → Option Cn
body_with c (Some (poly i k b)) = Some (subst b c)
body_with c _ = None

abbrev pub past_con : Cn → Option Cn → Option Cn
past_con c t = body_with c (option_and_then form_of t)

abbrev pub guarded_body : Option Cn → Option Cn
guarded_body (Some (guarded c d b)) = Some b
guarded_body _ = None

abbrev pub past_guard : Option Cn → Option Cn
past_guard t = guarded_body (option_and_then form_of t)

abbrev pub given_back : Option Cn → Option Cn
given_back (Some (arrow a b)) = Some b
given_back _ = None

abbrev pub past_term : Option Cn → Option Cn
past_term t = given_back (option_and_then form_of t)

-- the type of the parameter that a term is for
abbrev pub taken : Option Cn → Option Cn
taken (Some (arrow a b)) = Some a
taken _ = None

abbrev pub parameter : Option Cn → Option Cn
parameter t = taken (option_and_then form_of t)

-- a term is the one that is inserted for a parameter's type, where that is known, or a gap where there is none
abbrev pub InsertsFor : Here → Option Cn → Ex → Type 0
InsertsFor h None e = ⊥
InsertsFor h (Some t) e = Inserts h t e ⊎ Lacks h t e

-- this holds of a term that was inserted
abbrev pub IfAdded : Bool → Type 0 → Type 0
IfAdded true P = P
IfAdded false P = Unit {0}

-- behind a head of a type, the inserted ones among these are those that are asked for
abbrev pub ItemsAsked : Here → Option Cn → Its → Type 0
ItemsAsked h t no_items = Unit {0}
ItemsAsked h t (with_term e is) = IfAdded (was_added e) (InsertsFor h (parameter t) e) × ItemsAsked h (past_term t) is
ItemsAsked h t (with_con p o c is) = ItemsAsked h (past_con c t) is
ItemsAsked h t (with_guard p a is) = ItemsAsked h (past_guard t) is
