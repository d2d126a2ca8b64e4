-- How many races within each other what is to be read may need.
use Rattle.std.proofs.Common.{◌≡◌, ◌≤◌, ℕ, List, [], ◌∷◌, ◌++◌, refl, sym, subst, arith, Bool, true, false, not, ◌&&◌, ◌||◌, nat_le}
use Rattle.std.proofs.lemmas.Bool.{or_left, and_from}
use Rattle.surface_tree.specs.declared.token.Token.{Token}
use Rattle.surface_grammar.specs.declared.form.Form.{Form}
use Rattle.surface_grammar.specs.declared.form.Form.TheVariants as f
use Rattle.surface_grammar.specs.declared.part.Part.{Part}
use Rattle.surface_grammar.specs.declared.part.Part.TheVariants.{Word, One, Many, Maybe}
use Rattle.surface_grammar.specs.Sides.{is_tag}
use Rattle.surface_grammar.specs.Table.{body_of}
use Rattle.grammar_engine.specs.declared.want.Want.{Want}
use Rattle.grammar_engine.specs.declared.machine.Machine.{Machine}
use Rattle.grammar_engine.specs.Moves.{goes_by, MeetsPart}
use Rattle.grammar_engine.specs.Passing.{races_of}
use Rattle.grammar_engine.proofs.Short.Calm.{at_most, parts_of}
use Rattle.grammar_engine.proofs.Table.Levels.{level_of, part_keeps, keep_all, rule_keeps}
use Rattle.grammar_engine.proofs.Keeping.Passed.{want}
use Rattle.surface_grammar.proofs.Every.{of_each}
use Rattle.grammar_engine.proofs.Bools.{and_left, and_right}
use Rattle.grammar_engine.proofs.Keeping.Readies.{parts_append}

-- so many races are enough for all that is to be read
abbrev pub Raced : ℕ → List Want → Type 0
Raced races ws = keep_all races (parts_of ws) ≡ true

wider : (a n m : ℕ) → nat_le a n ≡ true → n ≤ m → nat_le a m ≡ true
wider a n m h l = grown (at_most a n h)
  where
    grown : a ≤ n → nat_le a m ≡ true
    grown k = search (arith, k, l)

or_either : (a b c : Bool) → (a ≡ true → c ≡ true) → (a || b) ≡ true → (c || b) ≡ true
or_either true b c m h = or_left c b (m refl)
or_either false b true m h = refl
or_either false b false m h = h

part_more : (n m : ℕ) (p : Part) → n ≤ m → part_keeps n p ≡ true → part_keeps m p ≡ true
part_more n m (Word w) l h = or_either (nat_le 2 n) (not (is_tag w)) (nat_le 2 m) (λ i. wider 2 n m i l) h
part_more n m (One g) l h = wider (level_of g) n m h l
part_more n m (Many g) l h = wider (level_of g) n m h l
part_more n m (Maybe g) l h = wider (level_of g) n m h l

all_more : (n m : ℕ) (ps : List Part) → n ≤ m → keep_all n ps ≡ true → keep_all m ps ≡ true
all_more n m [] l h = refl
all_more n m (p ∷ ps) l h = and_from (part_keeps m p) (keep_all m ps) (part_more n m p l (and_left (part_keeps n p) (keep_all n ps) h)) (all_more n m ps l (and_right (part_keeps n p) (keep_all n ps) h))

keep_append : (n : ℕ) (ps qs : List Part) → keep_all n ps ≡ true → keep_all n qs ≡ true → keep_all n (ps ++ qs) ≡ true
keep_append n [] qs h k = k
keep_append n (p ∷ ps) qs h k = and_from (part_keeps n p) (keep_all n (ps ++ qs)) (and_left (part_keeps n p) (keep_all n ps) h) (keep_append n ps qs (and_right (part_keeps n p) (keep_all n ps) h) k)

raced_goes : (b : Bool) (races : ℕ) (g : Form) (room tag : ℕ) (extra : List Want) (a c : Machine) → goes_by b g room tag extra a c → Raced races (want (One g) room tag ∷ extra ++ a.wants) → Raced races a.wants → Raced races c.wants
raced_goes true races g room tag extra a c by on off = subst (Raced races) (sym by.0) on
raced_goes false races g room tag extra a c by on off = subst (Raced races) (sym by.0) off

-- a step of reading keeps it
pub raced_meets : (races : ℕ) (items : List Token) (q : Part) (room tag : ℕ) (a c : Machine) → MeetsPart items q room tag a c → Raced races (want q room tag ∷ a.wants) → Raced races c.wants
raced_meets races items (Word w) room tag a c s h = subst (Raced races) (sym s.wants) (and_right (part_keeps races (Word w)) (keep_all races (parts_of a.wants)) h)
raced_meets races items (One g) room tag a c s h =
    let level = at_most (level_of g) races (and_left (part_keeps races (One g)) (keep_all races (parts_of a.wants)) h) in
    subst (Raced races) (sym s.wants)
    (subst (λ l. keep_all races l ≡ true) (sym (parts_append s.inner s.own (body_of s.rule) a.wants))
    (keep_append races (body_of s.rule) (parts_of a.wants) (all_more (level_of g) races (body_of s.rule) level (rule_keeps g s.rule s.built.rule)) (and_right (part_keeps races (One g)) (keep_all races (parts_of a.wants)) h)))
raced_meets races items (Many g) room tag a c s h =
    raced_goes s.taken races g room tag (want (Many g) room tag ∷ []) a c s.by (and_from (part_keeps races (One g)) (keep_all races (Many g ∷ parts_of a.wants)) (and_left (part_keeps races (Many g)) (keep_all races (parts_of a.wants)) h) h)
    (and_right (part_keeps races (Many g)) (keep_all races (parts_of a.wants)) h)
raced_meets races items (Maybe g) room tag a c s h = raced_goes s.taken races g room tag [] a c s.by h (and_right (part_keeps races (Maybe g)) (keep_all races (parts_of a.wants)) h)

-- computed
all_levels : (g : Form) → nat_le (level_of g) 2 ≡ true
all_levels g = of_each (λ (g : Form). nat_le (level_of g) 2) refl g

two_enough : (p : Part) (races : ℕ) → 2 ≤ races → part_keeps races p ≡ true
two_enough (Word w) races l = or_left (nat_le 2 races) (not (is_tag w)) (wider 2 2 races refl l)
two_enough (One g) races l = wider (level_of g) 2 races (all_levels g) l
two_enough (Many g) races l = wider (level_of g) 2 races (all_levels g) l
two_enough (Maybe g) races l = wider (level_of g) 2 races (all_levels g) l

start_part : (p : Part) (races : ℕ) → races_of p ≤ races → part_keeps races p ≡ true
start_part (One f.KindTerm) races l = wider 0 0 races refl l
start_part (One f.Pat) races l = wider 1 1 races refl l
start_part p races l = two_enough p races l

-- at the start
pub raced_start : (p : Part) (room tag races : ℕ) → races_of p ≤ races → Raced races (want p room tag ∷ [])
raced_start p room tag races l = and_from (part_keeps races p) true (start_part p races l) refl

least : (a n : ℕ) (b : Bool) → (nat_le a n && b) ≡ true → a ≤ n
least a n b h = at_most a n (and_left (nat_le a n) b h)

-- an expression needs two, and the open option one
pub raced_exp : (races : ℕ) (g : Form) (room tag : ℕ) (ws : List Want) → Raced races (want (One g) room tag ∷ ws) → g ≡ f.Exp → 2 ≤ races
raced_exp races g room tag ws h e = least 2 races (keep_all races (parts_of ws)) (subst (λ z. (nat_le (level_of z) races && keep_all races (parts_of ws)) ≡ true) e h)

pub raced_open : (races : ℕ) (g : Form) (room tag : ℕ) (ws : List Want) → Raced races (want (Maybe g) room tag ∷ ws) → g ≡ f.ConForall → 1 ≤ races
raced_open races g room tag ws h e = least 1 races (keep_all races (parts_of ws)) (subst (λ z. (nat_le (level_of z) races && keep_all races (parts_of ws)) ≡ true) e h)
