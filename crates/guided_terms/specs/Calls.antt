-- Calls: what is inserted where an identifier is applied, or stands alone.
-- The Ur/Web Manual, "Type Inference".
use Rattle.std.specs.Prelude.{◌≡◌, ℕ, Bool, true, false, List, [], ◌∷◌, Some, None}
use Rattle.con_terms.specs.Trees.{Cn}
use Rattle.con_terms.specs.Apart.{Apart}
use Rattle.con_terms.specs.declared.place.Place.{Place}
use Rattle.core_terms.specs.declared.exp.ConOrigin.{ConOrigin}
use Rattle.core_terms.specs.declared.exp.ConOrigin.TheVariants.{Written}
use Rattle.core_terms.specs.declared.exp.Sigil.{Sigil}
use Rattle.core_terms.specs.declared.exp.Sigil.TheVariants.{Plain, AtAt}
use Rattle.core_terms.specs.Trees.{Ex, node, Fo, call, Its, with_term, with_con, with_guard}
use Rattle.core_terms.specs.Trees as core
use Rattle.plain_tree.specs.Trees.{ExpTree}
use Rattle.unknowns.specs.Unknowns.{Fd, known, told}
use Rattle.unknowns.specs.Unknowns as unknown
use Rattle.guided_terms.specs.Alone.{an_implicit, BeginsWith, Leading, leading_wanted}
use Rattle.guided_terms.specs.Heads.{Given, Heads, is_identifier}
use Rattle.guided_terms.specs.Heres.{Here}
use Rattle.guided_terms.specs.Implied.{Inserts}
use Rattle.guided_terms.specs.Parts.{Part, a_found, a_written, a_proof, an_implied, a_told, Pattern, Told, raised, found_at, AllFound}
use Rattle.guided_terms.specs.Settles.{ResultTries, Settles}
use Rattle.guided_terms.specs.Walks.{Walks}
use Rattle.guided_terms.specs.Wanted.{Want, nothing_ever, Judge}

-- What is asked of the two sides of a guard whose proof stands at a call: that they are apart, or nothing, where this
-- is left to the checker.
abbrev pub GuardAsked : Type 1
GuardAsked = Here → Cn → Cn → Type 0

abbrev pub guards_hold : GuardAsked
guards_hold h c d = Apart h.types.kinds.guards c d

abbrev pub guards_unasked : GuardAsked
guards_unasked h c d = Unit {0}

-- the items of a call, with what is found put in
pub data Items (A : GuardAsked) (h : Here) (f : Fd) : List Part → Its → Type 0 where
  no_item : Items A h f [] core.no_items
  -- the constructor that is found for an unknown
  a_constructor : {o : ConOrigin} {n : ℕ} {ps : List Part} {p : Place} {c : Cn} {is : Its}
      (found : found_at f n ≡ Some c)
      (others : Items A h f ps is)
      → Items A h f (a_found o n ∷ ps) (with_con p o c is)
  -- [c]
  written : {c : Cn} {ps : List Part} {p : Place} {is : Its}
      (others : Items A h f ps is)
      → Items A h f (a_written c ∷ ps) (with_con p Written c is)
  -- !, inserted or written
  a_guard : {inserted : Bool} {c d : Pattern} {ps : List Part} {p : Place} {is : Its}
      (holds : A h (told f (raised f c)) (told f (raised f d)))
      (others : Items A h f ps is)
      → Items A h f (a_proof inserted c d ∷ ps) (with_guard p inserted is)
  -- a folder or an instance
  a_folder_or_instance : {a : Pattern} {ps : List Part} {e : Ex} {is : Its}
      (all_found : known f (raised f a) 0 ≡ true)
      (inserted : Inserts h (told f (raised f a)) e)
      (others : Items A h f ps is)
      → Items A h f (an_implied a ∷ ps) (with_term e is)
  -- an argument
  an_argument : {e : Told} {a : Pattern} {m : Bool} {ps : List Part} {is : Its}
      (others : Items A h f ps is)
      → Items A h f (a_told e a m ∷ ps) (with_term e.term is)

-- The end of a call whose type was walked: what is still unknown is found, its items are there, and its type is the one
-- that is left.
pub record Ends (A : GuardAsked) (js : List Judge) (h : Here) (w : Want) (ps : List Part) (f : Fd) (r : Cn) (is : Its)
    (t : Cn) : Type 0 where
  pub with_result : Fd
  pub result : ResultTries w f r with_result
  pub found : Fd
  pub parts : List Part
  pub others : Settles js h w with_result ps found parts
  pub all_found : AllFound found
  pub items : Items A h found parts is
  pub type_known : known found r 0 ≡ true
  pub type : t ≡ told found r

-- whether a head has no item and no sigil
abbrev pub is_bare : Sigil → Its → Bool
is_bare Plain core.no_items = true
is_bare _ _ = false

-- what stands in the place of a call: its head alone, where that is bare
pub data Applied : Ex → Sigil → Its → Ex → Type 0 where
  head_alone : {e : Ex} {s : Sigil} {is : Its}
      (bare : is_bare s is ≡ true)
      → Applied e s is e
  with_items : {e : Ex} {s : Sigil} {is : Its} {p : Place}
      (not_bare : is_bare s is ≡ false)
      → Applied e s is (node p false (call e s is))

-- A head of a type, applied to these, where this is wanted. The term has one sigil, and another tells what is inserted:
-- where the head is no identifier that is nothing, as behind @@, though the term has none.
pub data CallOf (A : GuardAsked) (js : List Judge) (h : Here) (w : Want) (s inserts : Sigil) (e : Ex) (t : Cn) :
    List Given → Ex → Cn → Type 0 where
  -- e d ..
  to_some : {i : Given} {is : List Given} {ps : List Part} {f : Fd} {r u : Cn} {its : Its} {x : Ex}
      (walked : Walks js h inserts unknown.nothing t (i ∷ is) ps f r)
      (ends : Ends A js h w ps f r its u)
      (applied : Applied e s its x)
      → CallOf A js h w s inserts e t (i ∷ is) x u
  -- e, where this is wanted
  to_nothing : {v : Cn} {ps : List Part} {f : Fd} {r u : Cn} {its : Its} {x : Ex}
      (wanted : leading_wanted w ≡ Some v)
      (leading : Leading h inserts v unknown.nothing t ps f r)
      (ends : Ends A js h w ps f r its u)
      (applied : Applied e s its x)
      → CallOf A js h w s inserts e t [] x u
  -- @@e, where no type is wanted
  as_it_is : {x : Ex}
      (unwanted : leading_wanted w ≡ None)
      (inserts_nothing : inserts ≡ AtAt)
      (applied : Applied e s core.no_items x)
      → CallOf A js h w s inserts e t [] x t
  -- e, whose type begins with no implicit constructor, where no type is wanted
  without_implicit : {x : Ex}
      (unwanted : leading_wanted w ≡ None)
      (no_implicit : BeginsWith h t an_implicit → ⊥)
      (applied : Applied e s core.no_items x)
      → CallOf A js h w s inserts e t [] x t

-- a term with what it is applied to
pub data CallGuided (A : GuardAsked) (head : Judge) (js : List Judge) (h : Here) (w : Want) :
    ExpTree → List Given → Ex → Cn → Type 0 where
  -- M.x d ..
  of_identifier : {e : ExpTree} {gs : List Given} {s : Sigil} {f : Fo} {p : Place} {t u : Cn} {x : Ex}
      (stands_for : Heads h e gs s f t)
      (called : CallOf A js h w s s (node p false f) t gs x u)
      → CallGuided A head js h w e gs x u
  -- e d .., where e is no identifier
  of_term : {e : ExpTree} {gs : List Given} {f x : Ex} {t u : Cn}
      (no_identifier : is_identifier e ≡ false)
      (guided : head h nothing_ever f t)
      (called : CallOf A js h w Plain AtAt f t gs x u)
      → CallGuided A head js h w e gs x u
