-- The walk of an identifier's type at a call: what is inserted, what is written, and the arguments that tell their type
-- by themselves, from left to right. An argument's type is matched with its parameter's when it is told.
-- The Ur/Web Manual, "Type Inference".
use Rattle.std.specs.Prelude.{◌≡◌, ◌≢◌, ℕ, ◌==◌, Bool, true, false, List, [], ◌∷◌, ◌⊎◌, Some, None, if◌then◌else◌}
use Rattle.con_terms.specs.Trees.{Kd, Cn, arrow, poly, guarded}
use Rattle.con_terms.specs.Substitution.{shift, subst}
use Rattle.core_terms.specs.declared.exp.ConOrigin.TheVariants.{Inserted, Wild}
use Rattle.core_terms.specs.declared.exp.Sigil.{Sigil}
use Rattle.core_terms.specs.declared.exp.Sigil.TheVariants.{Plain, AtAt}
use Rattle.core_terms.specs.Trees.{Ex}
use Rattle.plain_tree.specs.Trees.{ConTree, con, con_wild}
use Rattle.unknowns.specs.Unknowns.{Fd, slot, count_of, known, told}
use Rattle.guided_terms.specs.Forms.{head_of, takes_something}
use Rattle.guided_terms.specs.Heads.{Given, a_term, a_con, a_guard}
use Rattle.guided_terms.specs.Heres.{Here, IsCon}
use Rattle.guided_terms.specs.Implied.{IsImplied}
use Rattle.guided_terms.specs.Matching.{Tries}
use Rattle.guided_terms.specs.Parts.{Part, a_found, a_written, a_proof, an_implied, a_told, a_later, seen_under, gives}
use Rattle.guided_terms.specs.Wanted.{Want, nothing_yet, whole, Judge, HasNoType}

-- Wanted of an argument when it is walked past: its parameter's type, where no unknown is bound before it.
abbrev pub first_want : Fd → Cn → Want
first_want f a = if count_of f == 0 then whole a else nothing_yet

-- behind this sigil a parameter of this type is inserted: where nothing stands before the identifier
pub record InsertsTerm (h : Here) (s : Sigil) (a : Cn) : Type 0 where
  pub plain : s ≡ Plain
  pub implied : IsImplied h a

-- behind this sigil a constructor isn't inserted: for ::, and behind @@
abbrev pub IsGivenCon : Sigil → Bool → Type 0
IsGivenCon s implicit = (implicit ≡ false) ⊎ (s ≡ AtAt)

-- whether a constructor is _
abbrev pub is_wild : ConTree → Bool
is_wild (con at con_wild) = true
is_wild _ = false

-- With what is found so far, a type is walked past these: its parts, what is found then, and the type that is left.
pub data Walks (js : List Judge) (h : Here) (s : Sigil) : Fd → Cn → List Given → List Part → Fd → Cn → Type 0 where
  -- f, behind the last argument
  at_end : {f : Fd} {t : Cn} → Walks js h s f t [] [] f t
  -- f : x ::: k -> b, where a constructor is inserted
  past_implicit : {f g : Fd} {k : Kd} {b r : Cn} {i : Given} {is : List Given} {ps : List Part}
      (inserts : s ≢ AtAt)
      (walked : Walks js h s (slot k None f) b (i ∷ is) ps g r)
      → Walks js h s f (poly true k b) (i ∷ is) (a_found Inserted (count_of f) ∷ ps) g r
  -- f [c] .., where f : x :: k -> b
  past_con : {f g : Fd} {implicit : Bool} {k : Kd} {b r c : Cn} {d : ConTree} {is : List Given} {ps : List Part}
      (given : IsGivenCon s implicit)
      (not_wild : is_wild d ≡ false)
      (written : IsCon h d k c)
      (walked : Walks js h s f (subst b (shift (count_of f) c 0)) is ps g r)
      → Walks js h s f (poly implicit k b) (a_con d ∷ is) (a_written c ∷ ps) g r
  -- f [_] .., where f : x :: k -> b, and a constructor is found as an inserted one is
  past_wild : {f g : Fd} {implicit : Bool} {k : Kd} {b r : Cn} {d : ConTree} {is : List Given} {ps : List Part}
      (given : IsGivenCon s implicit)
      (wild : is_wild d ≡ true)
      (walked : Walks js h s (slot k None f) b is ps g r)
      → Walks js h s f (poly implicit k b) (a_con d ∷ is) (a_found Wild (count_of f) ∷ ps) g r
  -- f : [c ~ d] => b, where the proof is inserted
  past_inserted_guard : {f g : Fd} {c d b r : Cn} {i : Given} {is : List Given} {ps : List Part}
      (plain : s ≡ Plain)
      (walked : Walks js h s f b (i ∷ is) ps g r)
      → Walks js h s f (guarded c d b) (i ∷ is) (a_proof true (seen_under f c) (seen_under f d) ∷ ps) g r
  -- f ! .., where f : [c ~ d] => b, behind @ or @@
  past_guard : {f g : Fd} {c d b r : Cn} {is : List Given} {ps : List Part}
      (not_plain : s ≢ Plain)
      (walked : Walks js h s f b is ps g r)
      → Walks js h s f (guarded c d b) (a_guard ∷ is) (a_proof false (seen_under f c) (seen_under f d) ∷ ps) g r
  -- f : a -> b, where a folder or an instance is inserted
  past_implied : {f g : Fd} {a b r : Cn} {i : Given} {is : List Given} {ps : List Part}
      (inserts : InsertsTerm h s a)
      (walked : Walks js h s f b (i ∷ is) ps g r)
      → Walks js h s f (arrow a b) (i ∷ is) (an_implied (seen_under f a) ∷ ps) g r
  -- f e .., where f : a -> b, and e tells its type
  past_told : {f g l : Fd} {a b r u : Cn} {n : ℕ} {e : Ex} {m : Bool} {is : List Given} {ps : List Part}
      (given : InsertsTerm h s a → ⊥)
      (tells : gives js n h (first_want f a) e u)
      (matched : Tries f a u g m)
      (walked : Walks js h s g b is ps l r)
      → Walks js h s f (arrow a b) (a_term n ∷ is)
      (a_told (record { term = e; type = u }) (seen_under f a) m ∷ ps) l r
  -- f e .., where f : a -> b, and e tells no type as yet
  past_later : {f g : Fd} {a b r : Cn} {n : ℕ} {is : List Given} {ps : List Part}
      (given : InsertsTerm h s a → ⊥)
      (tells_none : HasNoType (gives js n h (first_want f a)))
      (walked : Walks js h s f b is ps g r)
      → Walks js h s f (arrow a b) (a_term n ∷ is) (a_later n (seen_under f a) ∷ ps) g r
  -- f : t, where t is the type of a function once it is reduced
  by_steps : {f g : Fd} {t u r : Cn} {i : Given} {is : List Given} {ps : List Part}
      (no_form : takes_something t ≡ false)
      (form : head_of t ≡ Some u)
      (has_form : takes_something u ≡ true)
      (walked : Walks js h s f u (i ∷ is) ps g r)
      → Walks js h s f t (i ∷ is) ps g r
  -- f : t, where t is one with what is found so far
  by_found : {f g : Fd} {t u v r : Cn} {i : Given} {is : List Given} {ps : List Part}
      (form : head_of t ≡ Some u)
      (no_form : takes_something u ≡ false)
      (all_found : known f t 0 ≡ true)
      (found : head_of (told f t) ≡ Some v)
      (has_form : takes_something v ≡ true)
      (walked : Walks js h s f (shift (count_of f) v 0) (i ∷ is) ps g r)
      → Walks js h s f t (i ∷ is) ps g r
