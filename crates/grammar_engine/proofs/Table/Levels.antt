-- How deep the forms race: 0 where one token decides each choice, 1 where the open option may stand, 2 elsewhere. Elements
-- stand in the latter alone.
use Rattle.std.proofs.Common.{◌≡◌, ◌≤◌, ℕ, List, [], ◌∷◌, refl, arith, Bool, true, false, not, ◌&&◌, ◌||◌, nat_le, Option}
use Rattle.std.proofs.lemmas.Bool.{or_right, and_from, not-true}
use Rattle.surface_tree.specs.declared.kind.Kind.{Kind}
use Rattle.surface_tree.specs.declared.token.Content.{Content}
use Rattle.surface_grammar.specs.declared.form.Form.{Form}
use Rattle.surface_grammar.specs.declared.form.Form.TheVariants as f
use Rattle.surface_grammar.specs.declared.part.Part.{Part}
use Rattle.surface_grammar.specs.declared.part.Part.TheVariants.{Word, One, Many, Maybe}
use Rattle.surface_grammar.specs.declared.rule.Rule.{Rule}
use Rattle.surface_grammar.specs.Forms.{rules_of}
use Rattle.surface_grammar.specs.Sides.{is_element, is_tag}
use Rattle.surface_grammar.specs.Table.{body_of}
use Rattle.surface_grammar.specs.Trees.{Node, leaf, branch, several, absent, present, Nodes, none, more, spell_all, front, IsIn, Fits, FitsAll, FitsEach}
use Rattle.grammar_engine.proofs.Short.Calm.{at_most}
use Rattle.surface_grammar.proofs.Every.{of_each}
use Rattle.grammar_engine.proofs.Bools.{and_left, and_right, every, every_in, no_tag}

abbrev pub level_of : Form → ℕ
level_of f.KindTerm = 0
level_of f.KindArrow = 0
level_of f.KindAtom = 0
level_of f.KindTimes = 0
level_of f.KindMark = 0
level_of f.Con = 1
level_of f.ConForall = 1
level_of f.ConArrow = 1
level_of f.ConProduct = 1
level_of f.ConTimes = 1
level_of f.ConSum = 1
level_of f.ConConcat = 1
level_of f.ConApply = 1
level_of f.ConTerm = 1
level_of f.ConDollar = 0
level_of f.ConPrimary = 1
level_of f.ConIndex = 0
level_of f.ConAtom = 1
level_of f.HashName = 0
level_of f.ConParenRest = 1
level_of f.ConParenEnd = 1
level_of f.ConComma = 1
level_of f.ConFieldTypes = 1
level_of f.ConFieldMore = 1
level_of f.ConRowFields = 1
level_of f.ConFieldValue = 1
level_of f.ConRowMore = 1
level_of f.FieldName = 0
level_of f.Path = 0
level_of f.UpperDot = 0
level_of f.BracketOpen = 0
level_of f.BracketRest = 1
level_of f.BracketFields = 1
level_of f.BracketNameRest = 1
level_of f.BracketUpperRest = 1
level_of f.BracketHashRest = 1
level_of f.GuardSides = 1
level_of f.NameSides = 1
level_of f.PathSides = 1
level_of f.IntSides = 1
level_of f.Pat = 1
level_of f.PatCons = 1
level_of f.PatTerm = 1
level_of f.PatAtom = 1
level_of f.UpperPath = 0
level_of f.DotUpper = 0
level_of f.PatParenRest = 1
level_of f.PatParenEnd = 1
level_of f.PatComma = 1
level_of f.PatRecordRest = 1
level_of f.PatFieldMore = 1
level_of f.PatFieldNext = 1
level_of f.Arg = 1
level_of f.ArgBracketRest = 1
level_of f.ArgLowerRest = 1
level_of f.CaseBar = 0
level_of f.CutMore = 1
level_of f.ArgumentRest = 1
level_of f.Dot = 0
level_of f.AnyName = 0
level_of f.TagName = 1
level_of f.TypeMark = 1
level_of f.Parameter = 0
level_of f.Constructor = 1
level_of f.ConstructorOf = 1
level_of f.ConstructorMore = 1
level_of f.KeyMark = 0
level_of f.KeyColumns = 0
level_of f.ColumnList = 0
level_of f.ColumnMore = 0
level_of f.InterfaceItem = 1
level_of f.ItemBracesRow = 1
level_of f.AsMark = 0
level_of f.Direction = 0
level_of _ = 2

abbrev pub part_keeps : ℕ → Part → Bool
part_keeps n (Word w) = nat_le 2 n || not (is_tag w)
part_keeps n (One g) = nat_le (level_of g) n
part_keeps n (Many g) = nat_le (level_of g) n
part_keeps n (Maybe g) = nat_le (level_of g) n

abbrev pub keep_all : ℕ → List Part → Bool
keep_all n [] = true
keep_all n (p ∷ ps) = part_keeps n p && keep_all n ps

abbrev pub is_kept : Form → Rule → Bool
is_kept g q = keep_all (level_of g) (body_of q) && (nat_le 2 (level_of g) || not (is_element q))

-- computed
all_kept : (g : Form) → every (is_kept g) (rules_of g) ≡ true
all_kept g = of_each (λ (g : Form). every (is_kept g) (rules_of g)) refl g

pub rule_keeps : (g : Form) (q : Rule) → IsIn q (rules_of g) → keep_all (level_of g) (body_of q) ≡ true
rule_keeps g q i = and_left (keep_all (level_of g) (body_of q)) _ (every_in (is_kept g) (rules_of g) q (all_kept g) i)

low_or : (n : ℕ) (b : Bool) → n ≤ 1 → (nat_le 2 n || b) ≡ true → b ≡ true
low_or n b l h = by_low (nat_le 2 n) b (above n l) h
  where
    by_low : (a b : Bool) → a ≡ false → (a || b) ≡ true → b ≡ true
    by_low true b e h = cc
    by_low false b e h = h

    above : (m : ℕ) → m ≤ 1 → nat_le 2 m ≡ false
    above m k = search (arith, k)

pub no_element : (g : Form) (q : Rule) → IsIn q (rules_of g) → level_of g ≤ 1 → is_element q ≡ false
no_element g q i l = not-true (is_element q) (low_or (level_of g) (not (is_element q)) l (and_right (keep_all (level_of g) (body_of q)) _ (every_in (is_kept g) (rules_of g) q (all_kept g) i)))

wider : (a n m : ℕ) → a ≤ n → n ≤ m → nat_le a m ≡ true
wider a n m b l = search (arith, b, l)

raise_part : (n m : ℕ) (p : Part) → n ≤ m → m ≤ 1 → part_keeps n p ≡ true → part_keeps m p ≡ true
raise_part n m (Word w) l k h = or_right (nat_le 2 m) (not (is_tag w)) (low_or n (not (is_tag w)) (omega (arith, l, k)) h)
raise_part n m (One g) l k h = wider (level_of g) n m (at_most (level_of g) n h) l
raise_part n m (Many g) l k h = wider (level_of g) n m (at_most (level_of g) n h) l
raise_part n m (Maybe g) l k h = wider (level_of g) n m (at_most (level_of g) n h) l

raise_all : (n : ℕ) (ps : List Part) → n ≤ 1 → keep_all n ps ≡ true → keep_all 1 ps ≡ true
raise_all n [] l h = refl
raise_all n (p ∷ ps) l h = and_from (part_keeps 1 p) (keep_all 1 ps) (raise_part n 1 p l (omega arith) (and_left (part_keeps n p) (keep_all n ps) h)) (raise_all n ps l (and_right (part_keeps n p) (keep_all n ps) h))

-- in a tree without elements the name of the element around it doesn't matter
mutual
  pub rename : (n : Node) (p : Part) (room : ℕ) (name other : Content) (x : Option Kind) → part_keeps 1 p ≡ true → Fits room name n p x → Fits room other n p x
  rename (leaf t) (Word w) room name other x k f = (f.0, λ i. no_tag (is_tag w) k i)
  rename (leaf t) (One g) room name other x k f = absurd f
  rename (leaf t) (Many g) room name other x k f = absurd f
  rename (leaf t) (Maybe g) room name other x k f = absurd f
  rename (branch q ns) (Word w) room name other x k f = absurd f
  rename (branch q ns) (One g) room name other x k f = (
    f.0,
    other,
    record { rule = f.2.rule; room_left = f.2.room_left; named = λ i. refl; free = f.2.free },
    rename_all ns (body_of q) f.0 f.1 other x (raise_all (level_of g) (body_of q) (at_most (level_of g) 1 k) (rule_keeps g q f.2.rule)) f.3,
  )
  rename (branch q ns) (Many g) room name other x k f = absurd f
  rename (branch q ns) (Maybe g) room name other x k f = absurd f
  rename (several ns) (Word w) room name other x k f = absurd f
  rename (several ns) (One g) room name other x k f = absurd f
  rename (several ns) (Many g) room name other x k f = rename_each ns g room name other x k f
  rename (several ns) (Maybe g) room name other x k f = absurd f
  rename absent (Word w) room name other x k f = absurd f
  rename absent (One g) room name other x k f = absurd f
  rename absent (Many g) room name other x k f = absurd f
  rename absent (Maybe g) room name other x k f = f
  rename (present n) (Word w) room name other x k f = absurd f
  rename (present n) (One g) room name other x k f = absurd f
  rename (present n) (Many g) room name other x k f = absurd f
  rename (present n) (Maybe g) room name other x k f = rename n (One g) room name other x k f

  rename_all : (ns : Nodes) (ps : List Part) (room : ℕ) (name other : Content) (x : Option Kind) → keep_all 1 ps ≡ true → FitsAll room name ns ps x → FitsAll room other ns ps x
  rename_all none [] room name other x k f = tt
  rename_all none (p ∷ ps) room name other x k f = absurd f
  rename_all (more n ns) [] room name other x k f = absurd f
  rename_all (more n ns) (p ∷ ps) room name other x k f = (rename n p room name other (front (spell_all ns) x) (and_left (part_keeps 1 p) (keep_all 1 ps) k) f.0, rename_all ns ps room name other x (and_right (part_keeps 1 p) (keep_all 1 ps) k) f.1)

  rename_each : (ns : Nodes) (g : Form) (room : ℕ) (name other : Content) (x : Option Kind) → part_keeps 1 (One g) ≡ true → FitsEach room name ns g x → FitsEach room other ns g x
  rename_each none g room name other x k f = f
  rename_each (more n ns) g room name other x k f = (rename n (One g) room name other (front (spell_all ns) x) k f.0, rename_each ns g room name other x k f.1)
