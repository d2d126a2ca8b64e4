-- The first thing that has a name, and what it says of all things that none has it.
use Rattle.std.proofs.Common.{◌≡◌, ◌≢◌, ◌<◌, ℕ, zero, suc, List, [], ◌∷◌, length, get_or, Option, Some, None, IfSome, Bool, true, false, if◌then◌else◌, refl, arith}
use Rattle.std.specs.Bool.{Decides}
use Rattle.std.specs.Option.{IfNone}
use Rattle.std.proofs.lemmas.Slice.Eq.{bytes_eq-Decides}
use Rattle.std.specs.Str.{bytes_eq}
use Rattle.type_makers.specs.Lookup.{first_named}

some_step : {A : Type 0} (name : A → List ℕ) (x : A) (rest : Option A) (text : List ℕ) (b : Bool) → Decides b (name x ≡ text)
    → IfSome rest (λ y. name y ≡ text) → IfSome (if b then Some x else rest) (λ y. name y ≡ text)
some_step name x rest text true d h = d.0 refl
some_step name x rest text false d h = h

-- what is found has the name
pub has_name : {A : Type 0} (name : A → List ℕ) (xs : List A) (text : List ℕ) → IfSome (first_named name xs text) (λ x. name x ≡ text)
has_name name [] text = tt
has_name name (x ∷ xs) text =
    some_step name x (first_named name xs text) text (bytes_eq (name x) text) (bytes_eq-Decides (name x) text) (has_name name xs text)

on_none : {A : Type 0} (P : Type 0) (rest : Option A) → P → IfNone rest P
on_none P None p = p
on_none P (Some x) p = tt

here : {A : Type 0} (name : A → List ℕ) (x : A) (rest : Option A) (text : List ℕ) (b : Bool) → Decides b (name x ≡ text)
    → IfNone (if b then Some x else rest) (name x ≢ text)
here name x rest text true d = tt
here name x rest text false d = on_none (name x ≢ text) rest (λ e. let h : false ≡ true = d.1 e in cc)

there : {A : Type 0} (x : A) (rest : Option A) (b : Bool) (P : Type 0) → IfNone rest P → IfNone (if b then Some x else rest) P
there x rest true P h = tt
there x rest false P h = h

-- where nothing is found, no thing of the list has the name
pub none_at : {A : Type 0} (name : A → List ℕ) (xs : List A) (text : List ℕ) (i : ℕ) (d : A) → i < length xs
    → IfNone (first_named name xs text) (name (get_or xs i d) ≢ text)
none_at name [] text i d h = absurd (omega (arith, h))
none_at name (x ∷ xs) text zero d h = here name x (first_named name xs text) text (bytes_eq (name x) text) (bytes_eq-Decides (name x) text)
none_at name (x ∷ xs) text (suc i) d h = there x (first_named name xs text) (bytes_eq (name x) text) _ (none_at name xs text i d (omega (arith, h)))

-- what holds of each thing where nothing was found holds of all
pub of_all : {A B : Type 0} (r : Option A) (P : B → Type 0) → ((b : B) → IfNone r (P b)) → IfNone r ((b : B) → P b)
of_all None P h = h
of_all (Some x) P h = tt
