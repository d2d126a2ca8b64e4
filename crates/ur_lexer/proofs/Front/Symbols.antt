-- Symbols: the first of a table that fits is the longest.
use Rattle.std.proofs.Common.{◌≡◌, ◌<◌, ◌≤◌, ◌-◌, ℕ, Bool, true, false, List, [], ◌∷◌, length, take, get_or, refl, sym, ap, ◌∙◌, subst, arith, inl, inr, Option, Some, None}
use Rattle.std.specs.Prelude.{◌&&◌, ◌==◌, not, nat_le, nat_eq}
use Rattle.std.specs.List.{list_all, starts_with}
use Rattle.std.specs.Cmp.Lexicographic.{pointwise, same_text, other_text}
use Rattle.std.proofs.lemmas.Bool.Decides.{nat_tests}
use Rattle.std.proofs.lemmas.Bool.{and_parts, not-true}
use Rattle.surface_tree.specs.declared.kind.Kind.{Kind}
use Rattle.surface_tree.specs.declared.token.Content.TheVariants.{Nothing}
use Rattle.ur_lexer.specs.declared.pieces.Found.{Found}
use Rattle.ur_lexer.specs.declared.state.Turn.{Turn}
use Rattle.ur_lexer.specs.Bytes.{Bytes}
use Rattle.ur_lexer.specs.Words.{symbol_at, stands}
use Rattle.ur_lexer.specs.Lexing.{IsSymbol, IsEntry}
use Rattle.ur_lexer.proofs.Steps.EntitySteps.{front_length, front_reads_at}

abbrev Entry : Type 0
Entry = Bytes × Kind × Turn

abbrev pub entry_token : Kind × ℕ × Turn → Found
entry_token s = record { kind = s.0; content = Nothing; len = s.1; turn = s.2 }

abbrev pub symbol_found : Option (Kind × ℕ × Turn) → Option Found
symbol_found None = None
symbol_found (Some s) = Some (entry_token s)

-- none of the entries is longer than the spelling, and none is spelled so
abbrev fewer : Bytes → Entry → Bool
fewer spelling entry = nat_le (length entry.0) (length spelling) && not (pointwise nat_eq entry.0 spelling)

-- the entries of a table go from longer to shorter, and differ
abbrev pub falls : List Entry → Bool
falls [] = true
falls (entry ∷ table) = list_all (fewer entry.0) table && falls table

stands_entry : (spelling bs : Bytes) → stands spelling bs ≡ true → (0 < length spelling) × (starts_with nat_eq bs spelling ≡ true)
stands_entry spelling bs h =
    (nonzero (length spelling) (and_parts (not (length spelling == 0)) (starts_with nat_eq bs spelling) h).0, (and_parts (not (length spelling == 0)) (starts_with nat_eq bs spelling) h).1)
  where
    nonzero : (n : ℕ) → not (n == 0) ≡ true → 0 < n
    nonzero n e = grind (arith, nat_tests)

entry_stands : (spelling bs : Bytes) → 0 < length spelling → starts_with nat_eq bs spelling ≡ true → stands spelling bs ≡ true
entry_stands spelling bs l h = rw (nonzero (length spelling) l, h) refl
  where
    nonzero : (n : ℕ) → 0 < n → not (n == 0) ≡ true
    nonzero n e = grind (arith, nat_tests)

some_same : (a b : Found) → ◌≡◌ {A = Option Found} (Some a) (Some b) → b ≡ a
some_same a b e = cc

symbol_step : (entry : Entry) (table : List Entry) (bs : Bytes) (token : Found) (t : Bool) → stands entry.0 bs ≡ t → symbol_found (symbol_at (entry ∷ table) bs) ≡ Some token
    → (symbol_found (symbol_at table bs) ≡ Some token → IsSymbol table bs token) → IsSymbol (entry ∷ table) bs token
symbol_step entry table bs token true s h more =
    let here : symbol_found (symbol_at (entry ∷ table) bs) ≡ Some (entry_token (entry.1, length entry.0, entry.2)) = rw s refl in
    let e = stands_entry entry.0 bs s in
    inl (e.0, e.1, some_same (entry_token (entry.1, length entry.0, entry.2)) token (sym here ∙ h))
symbol_step entry table bs token false s h more =
    let there : symbol_found (symbol_at (entry ∷ table) bs) ≡ symbol_found (symbol_at table bs) = rw s refl in
    inr (more (sym there ∙ h))

-- what is found stands at the front
pub symbol_stands : (table : List Entry) (bs : Bytes) (token : Found) → symbol_found (symbol_at table bs) ≡ Some token → IsSymbol table bs token
symbol_stands [] bs token h = cc
symbol_stands (entry ∷ table) bs token h = symbol_step entry table bs token (stands entry.0 bs) refl h (symbol_stands table bs token)

is_fewer : (n m : ℕ) (t : Bool) → (nat_le n m && not t) ≡ true → (n ≤ m) × (t ≡ false)
is_fewer n m t h = (fits (and_parts (nat_le n m) (not t) h).0, not-true t (and_parts (nat_le n m) (not t) h).1)
  where
    fits : nat_le n m ≡ true → n ≤ m
    fits e = grind (arith, nat_tests)

same_spelling : (a b bs : Bytes) → starts_with nat_eq bs a ≡ true → starts_with nat_eq bs b ≡ true → length a ≡ length b → a ≡ b
same_spelling a b bs p q e =
    same_text a (take (length a) bs) (sym p) ∙ ap (λ (n : ℕ). take n bs) e ∙ sym (same_text b (take (length b) bs) (sym q))

entry_below : (spelling bs : Bytes) (entry : Entry) (token : Found) → starts_with nat_eq bs spelling ≡ true → fewer spelling entry ≡ true → IsEntry bs token entry → (token.len ≤ length spelling) × (token.len ≡ length spelling → ⊥)
entry_below spelling bs entry token s f is =
    let e = is_fewer (length entry.0) (length spelling) (pointwise nat_eq entry.0 spelling) f in
    let long : token.len ≡ length entry.0 = ap (λ (x : Found). x.len) is.2 in (
      omega (arith, e.0, long),
      λ same. other_text entry.0 spelling (sym e.1) (same_spelling entry.0 spelling bs is.1 s (sym long ∙ same)),
    )

below : (spelling bs : Bytes) (table : List Entry) (token : Found) → starts_with nat_eq bs spelling ≡ true → list_all (fewer spelling) table ≡ true → IsSymbol table bs token → (token.len ≤ length spelling) × (token.len ≡ length spelling → ⊥)
below spelling bs [] token s f h = absurd h
below spelling bs (entry ∷ table) token s f (inl h) = entry_below spelling bs entry token s (and_parts (fewer spelling entry) (list_all (fewer spelling) table) f).0 h
below spelling bs (entry ∷ table) token s f (inr h) = below spelling bs table token s (and_parts (fewer spelling entry) (list_all (fewer spelling) table) f).1 h

-- a token that is at least as long as another, and the same where it is as long
pub record Best (found : Option Found) (other : Found) : Type 0 where
  pub token : Found
  pub is : found ≡ Some token
  pub longer : other.len ≤ token.len
  pub same : other.len ≡ token.len → other ≡ token

pub best_from : (a b : Option Found) (other : Found) → a ≡ b → Best b other → Best a other
best_from a b other e best = record { token = best.token; is = e ∙ best.is; longer = best.longer; same = best.same }

longest_step : (entry : Entry) (table : List Entry) (bs : Bytes) (other : Found) (t : Bool) → stands entry.0 bs ≡ t → list_all (fewer entry.0) table ≡ true → IsSymbol table bs other
    → Best (symbol_found (symbol_at table bs)) other → Best (symbol_found (symbol_at (entry ∷ table) bs)) other
longest_step entry table bs other true s f h more =
    let token = entry_token (entry.1, length entry.0, entry.2) in
    let e = below entry.0 bs table other (stands_entry entry.0 bs s).1 f h in
    record { token = token; is = rw s refl; longer = e.0; same = λ l. absurd (e.1 l) }
longest_step entry table bs other false s f h more = best_from _ (symbol_found (symbol_at table bs)) other (rw s refl) more

-- what is found is the longest
pub symbol_longest : (table : List Entry) (bs : Bytes) (other : Found) → falls table ≡ true → IsSymbol table bs other → Best (symbol_found (symbol_at table bs)) other
symbol_longest [] bs other f h = absurd h
symbol_longest (entry ∷ table) bs other f (inl h) =
    let token = entry_token (entry.1, length entry.0, entry.2) in
    let s = entry_stands entry.0 bs h.0 h.1 in
    let long : other.len ≡ length entry.0 = ap (λ (x : Found). x.len) h.2 in
    record { token = token; is = rw s refl; longer = omega (arith, long); same = λ l. h.2 }
symbol_longest (entry ∷ table) bs other f (inr h) =
    longest_step entry table bs other (stands entry.0 bs) refl (and_parts (list_all (fewer entry.0) table) (falls table) f).0 h (symbol_longest table bs other (and_parts (list_all (fewer entry.0) table) (falls table) f).1 h)

-- what is true of the byte at a place of each spelling
pub symbol_first : (p : ℕ → Bool) (table : List Entry) (bs : Bytes) (token : Found) → list_all (λ e. p (get_or e.0 0 0)) table ≡ true → IsSymbol table bs token → p (get_or bs 0 0) ≡ true
symbol_first p [] bs token f h = absurd h
symbol_first p (entry ∷ table) bs token f (inl h) =
    let same = front_reads_at bs entry.0 0 h.0 h.1 in
    subst (λ (b : ℕ). p b ≡ true) (sym same) (and_parts (p (get_or entry.0 0 0)) (list_all (λ e. p (get_or e.0 0 0)) table) f).0
symbol_first p (entry ∷ table) bs token f (inr h) = symbol_first p table bs token (and_parts (p (get_or entry.0 0 0)) (list_all (λ e. p (get_or e.0 0 0)) table) f).1 h

pub symbol_last : (p : ℕ → Bool) (table : List Entry) (bs : Bytes) (token : Found) → list_all (λ e. p (get_or e.0 (length e.0 - 1) 0)) table ≡ true → IsSymbol table bs token → (0 < token.len) × (token.len ≤ length bs) × (p (get_or bs (token.len - 1) 0) ≡ true)
symbol_last p [] bs token f h = absurd h
symbol_last p (entry ∷ table) bs token f (inl h) =
    let n = length entry.0 in
    let some : 0 < n = h.0 in
    let long : token.len ≡ n = ap (λ (x : Found). x.len) h.2 in
    let within = front_length bs entry.0 h.1 in
    let same : get_or bs (n - 1) 0 ≡ get_or entry.0 (n - 1) 0 = front_reads_at bs entry.0 (n - 1) (omega arith) h.1 in
    let last = (and_parts (p (get_or entry.0 (n - 1) 0)) (list_all (λ e. p (get_or e.0 (length e.0 - 1) 0)) table) f).0 in
    let there : p (get_or bs (n - 1) 0) ≡ true = subst (λ (b : ℕ). p b ≡ true) (sym same) last in
    (omega (arith, long), omega (arith, long, within), subst (λ (k : ℕ). p (get_or bs (k - 1) 0) ≡ true) (sym long) there)
symbol_last p (entry ∷ table) bs token f (inr h) = symbol_last p table bs token (and_parts (p (get_or entry.0 (length entry.0 - 1) 0)) (list_all (λ e. p (get_or e.0 (length e.0 - 1) 0)) table) f).1 h
