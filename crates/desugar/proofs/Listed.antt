-- What a listing leaves on the stack.
use Rattle.std.proofs.Common.{◌≡◌, ℕ, List, [], ◌∷◌, ◌++◌, reverse, None, Option, refl, ap, sym, ◌∙◌}
use Rattle.std.proofs.lemmas.List.{reverse-append, append_assoc, append-nil}
use Rattle.surface_tree.specs.declared.kind.Kind.{Kind}
use Rattle.surface_tree.specs.declared.token.Token.{Token}
use Rattle.surface_tree.specs.declared.token.Content.{Content}
use Rattle.surface_grammar.specs.declared.form.Form.{Form}
use Rattle.surface_grammar.specs.declared.part.Part.{Part}
use Rattle.surface_grammar.specs.declared.part.Part.TheVariants.{Word, One, Many, Maybe}
use Rattle.surface_grammar.specs.declared.tree.Mark.{Mark}
use Rattle.surface_grammar.specs.declared.tree.Mark.TheVariants as m
use Rattle.surface_grammar.specs.Refusals.{Whole}
use Rattle.surface_grammar.specs.Listings.{Listing, Lists, marks_of, marks_all, marks_each}
use Rattle.surface_grammar.specs.Table.{body_of}
use Rattle.surface_grammar.specs.Trees.{Node, leaf, branch, several, absent, present, Nodes, none, more, spell, spell_all, Fits, FitsAll, FitsEach}
use Rattle.desugar_values.specs.Meanings as meant
use Rattle.desugar_values.specs.Parts.{several_of}
use Rattle.desugar_values.specs.Meanings.{MeaningTree, a_word, MeaningsTree, no_meaning, meaning}
use Rattle.desugar.specs.Leaves.{spelled}
use Rattle.desugar.specs.Plain as plain
use Rattle.desugar.specs.Plain.{values, built}
use Rattle.desugar.specs.Reading.{reads, reduced}
use Rattle.desugar.specs.Stacks.{Entry, item, end, value, repeated, part_met, parts_met}

-- what a tree leaves on the stack, before what stands there
abbrev mutual
  pub before : Node → List Entry → List Entry
  before (leaf t) es = value (a_word (spelled t)) ∷ es
  before (branch q ns) es = value (built q (values ns)) ∷ es
  before (several ns) es = before_each ns es
  before absent es = end ∷ es
  before (present n) es = item ∷ before n es

  pub before_each : Nodes → List Entry → List Entry
  before_each none es = end ∷ es
  before_each (more n ns) es = item ∷ before n (before_each ns es)

abbrev pub before_all : Nodes → List Entry → List Entry
before_all none es = es
before_all (more n ns) es = before n (before_all ns es)

-- what is left behind a repetition
pub repeated_each : (room : ℕ) (name : Content) (ns : Nodes) (g : Form) (x : Option Kind) (es : List Entry) → FitsEach room name ns g x → repeated (before_each ns es) ≡ (values ns, es)
repeated_each room name none g x es fits = refl
repeated_each room name (more (branch q os) ns) g x es fits =
    ap (λ r. (meaning (built q (values os)) r.0, r.1)) (repeated_each room name ns g x es fits.1)
repeated_each room name (more (leaf t) ns) g x es fits = absurd fits.0
repeated_each room name (more (several os) ns) g x es fits = absurd fits.0
repeated_each room name (more absent ns) g x es fits = absurd fits.0
repeated_each room name (more (present n) ns) g x es fits = absurd fits.0

-- a tree for a part is taken as what it stands for
pub part_is : (room : ℕ) (name : Content) (n : Node) (p : Part) (x : Option Kind) (es : List Entry) → Fits room name n p x → part_met p (before n es) ≡ (plain.value n, es)
part_is room name (leaf t) (Word w) x es fits = refl
part_is room name (branch q ns) (One g) x es fits = refl
part_is room name (several ns) (Many g) x es fits = ap (λ r. (meant.several r.0, r.1)) (repeated_each room name ns g x es fits)
part_is room name absent (Maybe g) x es fits = refl
part_is room name (present (branch q ns)) (Maybe g) x es fits = refl
part_is room name (leaf t) (One g) x es fits = absurd fits
part_is room name (leaf t) (Many g) x es fits = absurd fits
part_is room name (leaf t) (Maybe g) x es fits = absurd fits
part_is room name (branch q ns) (Word w) x es fits = absurd fits
part_is room name (branch q ns) (Many g) x es fits = absurd fits
part_is room name (branch q ns) (Maybe g) x es fits = absurd fits
part_is room name (several ns) (Word w) x es fits = absurd fits
part_is room name (several ns) (One g) x es fits = absurd fits
part_is room name (several ns) (Maybe g) x es fits = absurd fits
part_is room name absent (Word w) x es fits = absurd fits
part_is room name absent (One g) x es fits = absurd fits
part_is room name absent (Many g) x es fits = absurd fits
part_is room name (present n) (Word w) x es fits = absurd fits
part_is room name (present n) (One g) x es fits = absurd fits
part_is room name (present n) (Many g) x es fits = absurd fits
part_is room name (present (leaf t)) (Maybe g) x es fits = absurd fits
part_is room name (present (several ns)) (Maybe g) x es fits = absurd fits
part_is room name (present absent) (Maybe g) x es fits = absurd fits
part_is room name (present (present n)) (Maybe g) x es fits = absurd fits

-- the parts of a rule
pub parts_are : (room : ℕ) (name : Content) (ns : Nodes) (ps : List Part) (x : Option Kind) (es : List Entry) → FitsAll room name ns ps x → parts_met ps (before_all ns es) ≡ (values ns, es)
parts_are room name none [] x es fits = refl
parts_are room name none (p ∷ ps) x es fits = absurd fits
parts_are room name (more n ns) [] x es fits = absurd fits
parts_are room name (more n ns) (p ∷ ps) x es fits =
    ap (λ r. (meaning r.0 (parts_met ps r.1).0, (parts_met ps r.1).1)) (part_is room name n p _ (before_all ns es) fits.0)
    ∙ ap (λ r. (meaning (plain.value n) r.0, r.1)) (parts_are room name ns ps x es fits.1)

-- lists from the last to the first, one behind another
pub turned : {X : Type 0} (xs ys zs : List X) → reverse (xs ++ ys) ++ zs ≡ reverse ys ++ (reverse xs ++ zs)
turned xs ys zs = ap (λ os. os ++ zs) (reverse-append xs ys) ∙ append_assoc (reverse ys) (reverse xs) zs

-- reading a listing leaves what its tree leaves
mutual
  pub read_tree : (room : ℕ) (name : Content) (n : Node) (p : Part) (x : Option Kind) (ms : List Mark) (ts : List Token) (es : List Entry) → Fits room name n p x
      → reads (reverse (marks_of n) ++ ms) (reverse (spell n) ++ ts) es ≡ reads ms ts (before n es)
  read_tree room name (leaf t) p x ms ts es fits = refl
  read_tree room name (branch q ns) (One g) x ms ts es (inner, own, made, all) =
      ap (λ l. reads l (reverse (spell_all ns) ++ ts) es) (turned (m.Rule q ∷ []) (marks_all ns) ms)
      ∙ read_all inner own ns (body_of q) x (m.Rule q ∷ ms) ts es all
      ∙ ap (λ r. reads ms ts (value (built q r.0) ∷ r.1)) (parts_are inner own ns (body_of q) x es all)
  read_tree room name (branch q ns) (Word w) x ms ts es fits = absurd fits
  read_tree room name (branch q ns) (Many g) x ms ts es fits = absurd fits
  read_tree room name (branch q ns) (Maybe g) x ms ts es fits = absurd fits
  read_tree room name (several ns) (Many g) x ms ts es fits = read_each room name ns g x ms ts es fits
  read_tree room name (several ns) (Word w) x ms ts es fits = absurd fits
  read_tree room name (several ns) (One g) x ms ts es fits = absurd fits
  read_tree room name (several ns) (Maybe g) x ms ts es fits = absurd fits
  read_tree room name absent p x ms ts es fits = refl
  read_tree room name (present n) (Maybe g) x ms ts es fits =
      ap (λ l. reads l (reverse (spell n) ++ ts) es) (turned (m.Item ∷ []) (marks_of n) ms)
      ∙ read_tree room name n (One g) x (m.Item ∷ ms) ts es fits
  read_tree room name (present n) (Word w) x ms ts es fits = absurd fits
  read_tree room name (present n) (One g) x ms ts es fits = absurd fits
  read_tree room name (present n) (Many g) x ms ts es fits = absurd fits

  pub read_all : (room : ℕ) (name : Content) (ns : Nodes) (ps : List Part) (x : Option Kind) (ms : List Mark) (ts : List Token) (es : List Entry) → FitsAll room name ns ps x
      → reads (reverse (marks_all ns) ++ ms) (reverse (spell_all ns) ++ ts) es ≡ reads ms ts (before_all ns es)
  read_all room name none ps x ms ts es fits = refl
  read_all room name (more n ns) [] x ms ts es fits = absurd fits
  read_all room name (more n ns) (p ∷ ps) x ms ts es fits =
      ap (λ l. reads l (reverse (spell n ++ spell_all ns) ++ ts) es) (turned (marks_of n) (marks_all ns) ms)
      ∙ ap (λ l. reads (reverse (marks_all ns) ++ (reverse (marks_of n) ++ ms)) l es) (turned (spell n) (spell_all ns) ts)
      ∙ read_all room name ns ps x (reverse (marks_of n) ++ ms) (reverse (spell n) ++ ts) es fits.1
      ∙ read_tree room name n p _ ms ts (before_all ns es) fits.0

  pub read_each : (room : ℕ) (name : Content) (ns : Nodes) (g : Form) (x : Option Kind) (ms : List Mark) (ts : List Token) (es : List Entry) → FitsEach room name ns g x
      → reads (reverse (marks_each ns) ++ ms) (reverse (spell_all ns) ++ ts) es ≡ reads ms ts (before_each ns es)
  read_each room name none g x ms ts es fits = refl
  read_each room name (more n ns) g x ms ts es fits =
      ap (λ l. reads l (reverse (spell n ++ spell_all ns) ++ ts) es) (turned (m.Item ∷ marks_of n) (marks_each ns) ms)
      ∙ ap (λ l. reads (reverse (marks_each ns) ++ (reverse (m.Item ∷ marks_of n) ++ ms)) l es) (turned (spell n) (spell_all ns) ts)
      ∙ read_each room name ns g x (reverse (m.Item ∷ marks_of n) ++ ms) (reverse (spell n) ++ ts) es fits.1
      ∙ ap (λ l. reads l (reverse (spell n) ++ ts) (before_each ns es)) (turned (m.Item ∷ []) (marks_of n) ms)
      ∙ read_tree room name n (One g) _ (m.Item ∷ ms) ts (before_each ns es) fits.0

-- the trees of a whole listing
pub listed_trees : (l : Listing) (room : ℕ) (g : Form) (n : Node) → Lists l n → Whole room (Many g) n
    → (repeated (reads (reverse l.marks) (reverse l.leaves) [])).0 ≡ several_of (plain.value n)
listed_trees l room g n lists (name, fits) =
    ap (λ ms. (repeated (reads (reverse ms) (reverse l.leaves) [])).0) lists.1
    ∙ ap (λ ts. (repeated (reads (reverse (marks_of n)) (reverse ts) [])).0) lists.0
    ∙ ap (λ ms. (repeated (reads ms (reverse (spell n)) [])).0) (sym (append-nil (reverse (marks_of n))))
    ∙ ap (λ ts. (repeated (reads (reverse (marks_of n) ++ []) ts [])).0) (sym (append-nil (reverse (spell n))))
    ∙ ap (λ es. (repeated es).0) (read_tree room name n (Many g) None [] [] [] fits)
    ∙ ap (λ r. several_of r.0) (part_is room name n (Many g) None [] fits)
