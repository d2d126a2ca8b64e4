-- The verdict of a whole, from what is told of its parts, what it has at fault itself, and what its type is.
use Rattle.std.proofs.Common.{◌≡◌, List, [], ◌∷◌, Option, Some, None, option_map, refl, ap, sym, subst}
use Rattle.con_terms.specs.Trees.{Cn}
use Rattle.core_terms.specs.Trees.{Ex}
use Rattle.core_typing.specs.Scopes.{Sc}
use Rattle.core_typing.specs.Found.{Found}
use Rattle.core_typing.specs.Own.{Own}
use Rattle.core_typing.specs.Tells.{Sub}
use Rattle.core_typing.specs.Faults.{Fault}
use Rattle.told_faults.specs.Computed.{Jd, first, faulty, neither}
use Rattle.told_faults.specs.Told.{TypeIs, ToldIs, Verdict, Picks, Nodes, Least, Either, in_first, in_second, Only, only}
use Rattle.told_faults.proofs.Verdict.{least_as, least_two, one, settled}
use Rattle.core_typing.proofs.OneType.{one_found}

-- what is equal to a judgement that is told so
pub verdict_as : (G : Sc) (e : Ex) (j i : Jd) → j ≡ i → Verdict G e i → Verdict G e j
verdict_as G e j i h v = subst (λ (z : Jd). Verdict G e z) (sym h) v

-- a whole
pub whole : (G : Sc) (e : Ex) (t : Option Cn) (k o : Option Fault) → TypeIs G e t → Least (Sub G e) k → Picks (Own G e) o → Verdict G e (record { type = t; told = first k o })
whole G e t k o x l p = record { type = x; told = settled G e k o l p }

pub verdict_of : (G : Sc) (e : Ex) (t : Option Cn) (k o : Option Fault) (j : Jd) → j ≡ record { type = t; told = first k o } → TypeIs G e t → Least (Sub G e) k → Picks (Own G e) o → Verdict G e j
verdict_of G e t k o j h x l p = verdict_as G e j (record { type = t; told = first k o }) h (whole G e t k o x l p)

-- the first of a fault and none
pub first_none : (k : Option Fault) → first k None ≡ k
first_none None = refl
first_none (Some f) = refl

pub least_is : (N : Nodes) (k l : Option Fault) → k ≡ l → Least N k → Least N l
least_is N k l h x = subst (λ (z : Option Fault). Least N z) h x

pub picks_is : (P : Fault → Type 0) (k l : Option Fault) → k ≡ l → Picks P k → Picks P l
picks_is P k l h x = subst (λ (z : Option Fault). Picks P z) h x

pub told_is : (G : Sc) (e : Ex) (k l : Option Fault) → k ≡ l → ToldIs G e k → ToldIs G e l
told_is G e k l h x = subst (λ (z : Option Fault). ToldIs G e z) h x

pub type_as : (G : Sc) (e : Ex) (k l : Option Cn) → k ≡ l → TypeIs G e k → TypeIs G e l
type_as G e k l h x = subst (λ (z : Option Cn). TypeIs G e z) h x

-- no part; no part and no fault; no type and one fault alone
pub least_empty : (N : Nodes) → ((H : Sc) (c : Ex) → N H c → ⊥) → Least N None
least_empty N n = λ H c g s x. absurd (n H c s)

pub no_part : (G : Sc) (e : Ex) (t : Option Cn) (o : Option Fault) → TypeIs G e t → ((H : Sc) (c : Ex) → Sub G e H c → ⊥) → Picks (Own G e) o → Verdict G e (record { type = t; told = o })
no_part G e t o x n p = whole G e t None o x (least_empty (Sub G e) n) p

-- no fault of its own
pub no_own : (G : Sc) (e : Ex) (t : Option Cn) (k : Option Fault) → TypeIs G e t → Least (Sub G e) k → ((f : Fault) → Own G e f → ⊥) → Verdict G e (record { type = t; told = k })
no_own G e t k x l n = record { type = x; told = told_is G e (first k None) k (first_none k) (settled G e k None l n) }

-- of the nodes, one; two
pub least_part : (N : Nodes) (K : Sc) (d : Ex) (o : Option Fault) → N K d → ((H : Sc) (c : Ex) → N H c → Only K d H c) → ToldIs K d o → Least N o
least_part N K d o s a v = least_as (Only K d) N o there a (one K d o v)
  where
    there : (H : Sc) (c : Ex) → Only K d H c → N H c
    there H c only = s

pub least_parts : (N : Nodes) (K L : Sc) (d b : Ex) (o p : Option Fault) → N K d → N L b → ((H : Sc) (c : Ex) → N H c → Either (Only K d) (Only L b) H c) → ToldIs K d o → ToldIs L b p → Least N (first o p)
least_parts N K L d b o p s t a v w = least_as (Either (Only K d) (Only L b)) N (first o p) there a (least_two (Only K d) (Only L b) o p (one K d o v) (one L b p w))
  where
    there : (H : Sc) (c : Ex) → Either (Only K d) (Only L b) H c → N H c
    there H c (in_first only) = s
    there H c (in_second only) = t

-- a whole with one part; with two
pub one_part : (G : Sc) (e : Ex) (K : Sc) (d : Ex) (i : Jd) (t : Option Cn) (o : Option Fault) → Verdict K d i → Sub G e K d → ((H : Sc) (c : Ex) → Sub G e H c → Only K d H c) → TypeIs G e t → Picks (Own G e) o → Verdict G e (record { type = t; told = first i.told o })
one_part G e K d i t o v s a x p = whole G e t i.told o x (least_part (Sub G e) K d i.told s a v.told) p

pub two_parts : (G : Sc) (e : Ex) (K L : Sc) (d b : Ex) (i k : Jd) (t : Option Cn) (o : Option Fault) → Verdict K d i → Verdict L b k → Sub G e K d → Sub G e L b → ((H : Sc) (c : Ex) → Sub G e H c → Either (Only K d) (Only L b) H c) → TypeIs G e t → Picks (Own G e) o → Verdict G e (record { type = t; told = first (first i.told k.told) o })
two_parts G e K L d b i k t o v w s r a x p = whole G e t (first i.told k.told) o x (least_parts (Sub G e) K L d b i.told k.told s r a v.told w.told) p

-- one part, and no fault of its own
pub one_part_alone : (G : Sc) (e : Ex) (K : Sc) (d : Ex) (i : Jd) (t : Option Cn) → Verdict K d i → Sub G e K d → ((H : Sc) (c : Ex) → Sub G e H c → Only K d H c) → TypeIs G e t → ((f : Fault) → Own G e f → ⊥) → Verdict G e (record { type = t; told = i.told })
one_part_alone G e K d i t v s a x n = no_own G e t i.told x (least_part (Sub G e) K d i.told s a v.told) n

-- no part, no type, and these faults of its own
pub only_faulty : (G : Sc) (e : Ex) (f : Fault) → ((t : Cn) → Found G e t → ⊥) → ((H : Sc) (c : Ex) → Sub G e H c → ⊥) → Picks (Own G e) (Some f) → Verdict G e (faulty f)
only_faulty G e f x n p = no_part G e None (Some f) x n p

-- a type from a part's
pub type_none : (G : Sc) (e : Ex) (H : Sc) (c : Ex) → ((t : Cn) → Found G e t → (u : Cn) × Found H c u) → TypeIs H c None → TypeIs G e None
type_none G e H c h v = λ t x. let (u, y) = h t x in v u y

pub type_mapped : (G : Sc) (e : Ex) (H : Sc) (c : Ex) (F : Cn → Cn) (o : Option Cn) → ((t : Cn) → Found G e t → (u : Cn) × Found H c u) → ((u : Cn) → Found H c u → Found G e (F u)) → TypeIs H c o → TypeIs G e (option_map F o)
type_mapped G e H c F None h k v = type_none G e H c h v
type_mapped G e H c F (Some u) h k v = k u v

-- the type of a part is known
pub is_the_type : (G : Sc) (e : Ex) (o : Option Cn) (t : Cn) → TypeIs G e o → Found G e t → o ≡ Some t
is_the_type G e None t v x = absurd (v t x)
is_the_type G e (Some u) t v x = ap (λ z. Some z) (one_found v x)

pub found_by_type : (G : Sc) (e : Ex) (o : Option Cn) (t : Cn) → TypeIs G e o → o ≡ Some t → Found G e t
found_by_type G e o t v h = type_as G e o (Some t) h v

pub none_by_type : (G : Sc) (e : Ex) (o : Option Cn) → TypeIs G e o → o ≡ None → (t : Cn) → Found G e t → ⊥
none_by_type G e o v h = type_as G e o None h v

-- each of some terms, with what is told of it
abbrev pub Verdicts : Sc → List Ex → List Jd → Type 0
Verdicts G [] [] = Unit {0}
Verdicts G (e ∷ es) (j ∷ js) = Verdict G e j × Verdicts G es js
Verdicts G [] (j ∷ js) = ⊥
Verdicts G (e ∷ es) [] = ⊥

-- of a part of a list: where no term stands, neither a type nor a fault
abbrev pub PartTold : Sc → Option Ex → Jd → Type 0
PartTold G None j = j ≡ neither
PartTold G (Some e) j = Verdict G e j

abbrev pub PartsTold : Sc → List (Option Ex) → List Jd → Type 0
PartsTold G [] [] = Unit {0}
PartsTold G (o ∷ os) (j ∷ js) = PartTold G o j × PartsTold G os js
PartsTold G [] (j ∷ js) = ⊥
PartsTold G (o ∷ os) [] = ⊥
