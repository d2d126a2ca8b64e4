-- Putting bytes out one after the other.
use Rattle.std.proofs.Common.{◌≡◌, false, true, ℕ, suc, ◌+◌, ◌-◌, ◌≤◌, ◌<◌, List, [], ◌∷◌, length, length-drop, get_or, subst, add-one, drop-cons, ◌++◌, Result, Ok, Err, IsErr, sym, ap, ◌∙◌, append_assoc, append-nil, take, drop, take-append-drop, arith}
use Rattle.std.proofs.Math.Seq.{take-suc, take-add}
use Rattle.std.proofs.lemmas.Grind.{flat_map-append}
use Rattle.std.proofs.lemmas.List.{get_or-drop, get_or_default, take_rest, take_all}
use Rattle.std.specs.List.{flat_map}
use Rattle.std.specs.declared.option.Option.{Option}
use Rattle.std.proofs.KnownBytes.{Appends-trans, Appends-nil}
use Rattle.ur_outside.specs.Causes.{Rose}
use Rattle.ur_outside.specs.Whole.{AppendsFront}
use Rattle.page_bytes.specs.Puts.{Sends, Stops, Puts}

sends_then : (a b c : Option (List ℕ)) (h k l x y : List ℕ) → Sends a b h k x → Sends b c k l y → Sends a c h l (x ++ y)
sends_then a b c h k l x y p q = (
  p.0 ++ q.0,
  Appends-trans a b c p.0 q.0 p.1 q.1,
  append_assoc p.0 q.0 l ∙ ap (λ (m : List ℕ). p.0 ++ m) q.2 ∙ sym (append_assoc p.0 k y) ∙ ap (λ (m : List ℕ). m ++ y) p.2 ∙ append_assoc h x y,
)

stops_then : (a b c : Option (List ℕ)) (h k x y : List ℕ) → Sends a b h k x → Stops b c k y → Stops a c h (x ++ y)
stops_then a b c h k x y p q = (
  p.0 ++ q.0,
  q.1,
  Appends-trans a b c p.0 q.0 p.1 q.2,
  append_assoc p.0 q.0 q.1 ∙ ap (λ (m : List ℕ). p.0 ++ m) q.3 ∙ sym (append_assoc p.0 k y) ∙ ap (λ (m : List ℕ). m ++ y) p.2 ∙ append_assoc h x y,
)

stops_more : (a b : Option (List ℕ)) (h x y : List ℕ) → Stops a b h x → Stops a b h (x ++ y)
stops_more a b h x y p = (p.0, p.1 ++ y, p.2, sym (append_assoc p.0 p.1 y) ∙ ap (λ (m : List ℕ). m ++ y) p.3 ∙ append_assoc h x y)

rose_then : (f g k : ℕ) → f ≤ g → Rose g k → Rose f k
rose_then f g k p q = omega (arith, q)

-- bytes, and then other bytes
pub puts_then : {E F : Type 0} (u : Unit {0}) (r : Result (Unit {0}) F) (a b c : Option (List ℕ)) (h k l : List ℕ) (f g i : ℕ) (x y : List ℕ)
    → Puts {E = E} (Ok u) a b h k f g x → Puts r b c k l g i y → Puts r a c h l f i (x ++ y)
puts_then u (Ok v) a b c h k l f g i x y p q = record {
  sends = sends_then a b c h k l x y p.sends q.sends;
  stops = tt;
  later = omega (arith, p.later, q.later);
  failed = tt;
}
puts_then u (Err e) a b c h k l f g i x y p q = record {
  sends = tt;
  stops = stops_then a b c h k x y p.sends q.stops;
  later = omega (arith, p.later, q.later);
  failed = rose_then f g i p.later q.failed;
}

differ : false ≡ true → ⊥
differ e = cc

-- a failure before other bytes
pub puts_cut : {E F : Type 0} (e : E) (r : Result (Unit {0}) F) (a b : Option (List ℕ)) (h k : List ℕ) (f g : ℕ) (x y : List ℕ)
    → IsErr r → Puts (Err e) a b h k f g x → Puts r a b h k f g (x ++ y)
puts_cut e (Ok u) a b h k f g x y i p = absurd (differ i)
puts_cut e (Err e') a b h k f g x y i p = record {
  sends = tt;
  stops = stops_more a b h x y p.stops;
  later = p.later;
  failed = p.failed;
}

-- nothing
pub puts_nothing : {E : Type 0} (u : Unit {0}) (a : Option (List ℕ)) (h : List ℕ) (f : ℕ) → Puts {E = E} (Ok u) a a h h f f []
puts_nothing u a h f = record {
  sends = ([], Appends-nil a, sym (append-nil h));
  stops = tt;
  later = omega arith;
  failed = tt;
}

-- bytes that are held behind the others
pub puts_held : {E : Type 0} (u : Unit {0}) (a : Option (List ℕ)) (h k : List ℕ) (f : ℕ) (x : List ℕ) → k ≡ h ++ x → Puts {E = E} (Ok u) a a h k f f x
puts_held u a h k f x e = record {
  sends = ([], Appends-nil a, e);
  stops = tt;
  later = omega arith;
  failed = tt;
}

-- a failure of the sink while nothing is held
pub puts_stopped : {E : Type 0} (e : E) (a b : Option (List ℕ)) (f g : ℕ) (x : List ℕ) → AppendsFront a b x → f ≤ g → Rose f g → Puts (Err e) a b [] [] f g x
puts_stopped e a b f g x p later failed = record {
  sends = tt;
  stops = (take p.0 x, drop p.0 x, p.1, take-append-drop p.0 x);
  later = later;
  failed = failed;
}

-- bytes that are sent while nothing is held
pub puts_sent : {E : Type 0} (r : Result (Unit {0}) E) (a b : Option (List ℕ)) (h k : List ℕ) (f g : ℕ) (x : List ℕ)
    → h ≡ [] → k ≡ h → Puts r a b [] [] f g x → Puts r a b h k f g x
puts_sent r a b h k f g x e d p = rw (d, e) p

-- bytes, and then other bytes, which are all of them
pub puts_on : {E F : Type 0} (u : Unit {0}) (r : Result (Unit {0}) F) (a b c : Option (List ℕ)) (h k l : List ℕ) (f g i : ℕ) (x y all : List ℕ)
    → x ++ y ≡ all → Puts {E = E} (Ok u) a b h k f g x → Puts r b c k l g i y → Puts r a c h l f i all
puts_on u r a b c h k l f g i x y all e p q = subst (λ (bytes : List ℕ). Puts r a c h l f i bytes) e (puts_then u r a b c h k l f g i x y p q)

-- bytes, and then a failure among other bytes, before the rest of them
pub puts_off : {E F G : Type 0} (u : Unit {0}) (e : F) (r : Result (Unit {0}) G) (a b c : Option (List ℕ)) (h k l : List ℕ) (f g i : ℕ) (x y z all : List ℕ)
    → x ++ (y ++ z) ≡ all → IsErr r → Puts {E = E} (Ok u) a b h k f g x → Puts (Err e) b c k l g i y → Puts r a c h l f i all
puts_off u e r a b c h k l f g i x y z all same is p q =
    puts_on u r a b c h k l f g i x (y ++ z) all same p (puts_cut e r b c k l g i y z is q)

-- a list's bytes up to one of its items, those of the item, and those of the items behind it
pub item_between : {X : Type 0} (f : X → List ℕ) (xs : List X) (i : ℕ) (x : X) → i < length xs → x ≡ get_or xs i x
    → flat_map f (take i xs) ++ (f x ++ flat_map f (drop (i + 1) xs)) ≡ flat_map f xs
item_between f xs i x le is =
    let split : take i xs ++ (x ∷ drop (i + 1) xs) ≡ xs =
    ap (λ l. take i xs ++ l) (rw add-one (ap (λ y. y ∷ drop (suc i) xs) is ∙ sym (drop-cons xs i x le))) ∙ take-append-drop i xs in
    sym (flat_map-append f (take i xs) (x ∷ drop (i + 1) xs)) ∙ ap (flat_map f) split

-- a list's bytes up to one of its items, and those of the item
pub item_behind : {X : Type 0} (f : X → List ℕ) (xs : List X) (i : ℕ) (x : X) → i < length xs → x ≡ get_or xs i x
    → flat_map f (take i xs) ++ f x ≡ flat_map f (take (i + 1) xs)
item_behind f xs i x le is =
    ap (λ l. flat_map f (take i xs) ++ l) (sym (append-nil (f x))) ∙ sym (flat_map-append f (take i xs) (x ∷ []))
    ∙ ap (flat_map f) (rw add-one (ap (λ y. take i xs ++ y ∷ []) is ∙ sym (take-suc xs i x le)))

-- runs of a text that need no escape

-- a run that needs no escape, and one byte more that needs none
pub plain_more : (f : ℕ → List ℕ) (text : List ℕ) (from at c : ℕ) → from ≤ at → at < length text → c ≡ get_or text at 0 → f c ≡ c ∷ []
    → flat_map f (take (at - from) (drop from text)) ≡ take (at - from) (drop from text)
    → flat_map f (take (at + 1 - from) (drop from text)) ≡ take (at + 1 - from) (drop from text)
plain_more f text from at c le lt is one before =
    let xs = drop from text in
    let n = at - from in
    let next : at + 1 - from ≡ suc n = rw (← add-one) (omega arith) in
    let some : n < length xs = omega (arith, length-drop from text) in
    let byte : get_or xs n 0 ≡ c = get_or-drop from text n 0 ∙ ap (λ (k : ℕ). get_or text k 0) (let e : from + n ≡ at = omega arith in e) ∙ sym is in
    let grown : take (suc n) xs ≡ take n xs ++ c ∷ [] = take-suc xs n 0 some ∙ ap (λ (b : ℕ). take n xs ++ b ∷ []) byte in
    rw (next, grown) (flat_map-append f (take n xs) (c ∷ []) ∙ rw before (ap (λ (l : List ℕ). take n xs ++ l) (append-nil (f c) ∙ one)))

-- what was put out, and a run that needs no escape
pub run_behind : (f : ℕ → List ℕ) (text : List ℕ) (from at : ℕ) → from ≤ at
    → flat_map f (take (at - from) (drop from text)) ≡ take (at - from) (drop from text)
    → flat_map f (take from text) ++ take (at - from) (drop from text) ≡ flat_map f (take at text)
run_behind f text from at le plain =
    ap (λ (l : List ℕ). flat_map f (take from text) ++ l) (sym plain) ∙ sym (flat_map-append f (take from text) (take (at - from) (drop from text)))
    ∙ ap (flat_map f) (sym (take-add from (at - from) text) ∙ ap (λ (k : ℕ). take k text) (let e : from + (at - from) ≡ at = omega arith in e))

-- what was put out, a run that needs no escape, the bytes for the byte behind it, and those for the bytes behind that
pub run_between : (f : ℕ → List ℕ) (text : List ℕ) (from at c : ℕ) (escape : List ℕ) → from ≤ at → at < length text → c ≡ get_or text at 0 → f c ≡ escape
    → flat_map f (take (at - from) (drop from text)) ≡ take (at - from) (drop from text)
    → flat_map f (take from text) ++ ((take (at - from) (drop from text) ++ escape) ++ flat_map f (drop (at + 1) text)) ≡ flat_map f text
run_between f text from at c escape le lt is one plain =
    let run = take (at - from) (drop from text) in
    let rest = flat_map f (drop (at + 1) text) in
    ap (λ (l : List ℕ). flat_map f (take from text) ++ l) (append_assoc run escape rest)
    ∙ sym (append_assoc (flat_map f (take from text)) run (escape ++ rest))
    ∙ ap (λ (l : List ℕ). l ++ (escape ++ rest)) (run_behind f text from at le plain)
    ∙ ap (λ (l : List ℕ). flat_map f (take at text) ++ (l ++ rest)) (sym one ∙ ap f is)
    ∙ item_between f text at (get_or text at 0) lt (get_or_default text at 0 (get_or text at 0) lt)

-- what was put out, a run that needs no escape, and the bytes for the byte behind it
pub run_and_byte : (f : ℕ → List ℕ) (text : List ℕ) (from at c : ℕ) (escape : List ℕ) → from ≤ at → at < length text → c ≡ get_or text at 0 → f c ≡ escape
    → flat_map f (take (at - from) (drop from text)) ≡ take (at - from) (drop from text)
    → flat_map f (take from text) ++ (take (at - from) (drop from text) ++ escape) ≡ flat_map f (take (at + 1) text)
run_and_byte f text from at c escape le lt is one plain =
    let run = take (at - from) (drop from text) in
    sym (append_assoc (flat_map f (take from text)) run escape)
    ∙ ap (λ (l : List ℕ). l ++ escape) (run_behind f text from at le plain)
    ∙ ap (λ (l : List ℕ). flat_map f (take at text) ++ l) (sym one ∙ ap f is)
    ∙ item_behind f text at (get_or text at 0) lt (get_or_default text at 0 (get_or text at 0) lt)

-- what was put out, and a run to the end that needs no escape
pub run_to_end : (f : ℕ → List ℕ) (text : List ℕ) (from at : ℕ) → from ≤ at → length text ≤ at
    → flat_map f (take (at - from) (drop from text)) ≡ take (at - from) (drop from text)
    → flat_map f (take from text) ++ take (length text - from) (drop from text) ≡ flat_map f text
run_to_end f text from at le end plain =
    let long : length (drop from text) ≤ at - from = omega (arith, length-drop from text) in
    ap (λ (l : List ℕ). flat_map f (take from text) ++ l) (take_rest text from ∙ sym (take_all (at - from) (drop from text) long))
    ∙ run_behind f text from at le plain ∙ ap (flat_map f) (take_all at text end)

-- a failure before the rest of the bytes
pub puts_short : {E F : Type 0} (e : E) (r : Result (Unit {0}) F) (a b : Option (List ℕ)) (h k : List ℕ) (f g : ℕ) (x y all : List ℕ)
    → x ++ y ≡ all → IsErr r → Puts (Err e) a b h k f g x → Puts r a b h k f g all
puts_short e r a b h k f g x y all same is p = subst (λ (bytes : List ℕ). Puts r a b h k f g bytes) same (puts_cut e r a b h k f g x y is p)

-- bytes that are all of them
pub puts_all : {E : Type 0} (r : Result (Unit {0}) E) (a b : Option (List ℕ)) (h k : List ℕ) (f g : ℕ) (x all : List ℕ) → x ≡ all → Puts r a b h k f g x → Puts r a b h k f g all
puts_all r a b h k f g x all e p = subst (λ (bytes : List ℕ). Puts r a b h k f g bytes) e p
