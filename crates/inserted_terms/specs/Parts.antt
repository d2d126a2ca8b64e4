-- What is asked of one item of a call, and of one declaration of a let, one constructor or one declaration.
use Rattle.std.specs.Prelude.{Bool, false, Option}
use Rattle.con_terms.specs.Trees.{Cn}
use Rattle.core_terms.specs.Strip.{was_added}
use Rattle.core_terms.specs.Trees.{It, a_term, a_con, a_guard, Lo, a_val, a_rec}
use Rattle.guided_terms.specs.Heres.{Here}
use Rattle.inserted_terms.specs.Asked.{IfAdded, InsertsFor, parameter, past_con, past_guard, past_term}
use Rattle.inserted_terms.specs.Chosen.{Chosen, NamesChosen}
use Rattle.inserted_terms.specs.Inside.{inside_binder, inside_names}

-- an item, behind a head of a type
abbrev pub ItemAsked : Here → Option Cn → It → Type 0
ItemAsked h t (a_term e) = IfAdded (was_added e) (InsertsFor h (parameter t) e)
ItemAsked h t (a_con p o c) = Unit {0}
ItemAsked h t (a_guard p a) = Unit {0}

-- the type behind an item
abbrev pub past_item : It → Option Cn → Option Cn
past_item (a_term e) t = past_term t
past_item (a_con p o c) t = past_con c t
past_item (a_guard p a) t = past_guard t

-- whether an item is a term that was inserted
abbrev pub is_added : It → Bool
is_added (a_term e) = was_added e
is_added (a_con p o c) = false
is_added (a_guard p a) = false

-- what is chosen in an item
abbrev pub ItemChosen : Here → It → Type 0
ItemChosen h (a_term e) = Chosen h e
ItemChosen h (a_con p o c) = Unit {0}
ItemChosen h (a_guard p a) = Unit {0}

-- what is chosen in a declaration of a let, and what is in scope behind it
abbrev pub LocalChosen : Here → Lo → Type 0
LocalChosen h (a_val p x w t e) = Chosen h e
LocalChosen h (a_rec ns) = NamesChosen (inside_names ns h) ns

abbrev pub inside_local : Lo → Here → Here
inside_local (a_val p x w t e) h = inside_binder x t h
inside_local (a_rec ns) h = inside_names ns h
