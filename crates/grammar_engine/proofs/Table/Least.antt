-- How many levels every tree of a rule has: as many as the table tells of the rule.
use Rattle.std.proofs.Common.{◌≡◌, ◌≤◌, ◌+◌, ℕ, max, List, [], ◌∷◌, refl, arith, Bool, true, ◌&&◌, nat_le, Option}
use Rattle.surface_tree.specs.declared.kind.Kind.{Kind}
use Rattle.surface_tree.specs.declared.token.Content.{Content}
use Rattle.surface_grammar.specs.declared.form.Form.{Form}
use Rattle.surface_grammar.specs.declared.form.Form.TheVariants as f
use Rattle.surface_grammar.specs.declared.part.Part.{Part}
use Rattle.surface_grammar.specs.declared.part.Part.TheVariants.{Word, One, Many, Maybe}
use Rattle.surface_grammar.specs.declared.rule.Rule.{Rule}
use Rattle.surface_grammar.specs.Forms.{rules_of}
use Rattle.surface_grammar.specs.Table.{body_of}
use Rattle.surface_grammar.specs.Trees.{Node, leaf, branch, several, absent, present, Nodes, none, more, spell_all, front, IsIn, depth_of, Fits, FitsAll}
use Rattle.grammar_engine.specs.Rooms.{least_of}
use Rattle.grammar_engine.proofs.Short.Calm.{at_most}
use Rattle.surface_grammar.proofs.Every.{of_each}
use Rattle.grammar_engine.proofs.Bools.{and_left, and_right, every, every_in}

-- how many levels every tree of the form has, as far as the rules below need it
abbrev pub floor_of : Form → ℕ
floor_of f.BracketOpen = 1
floor_of f.Splice = 1
floor_of f.BracketFields = 1
floor_of f.BracketNameRest = 1
floor_of f.BracketUpperRest = 1
floor_of f.BracketHashRest = 1
floor_of f.ExpBindRest = 1
floor_of f.ValueList = 1
floor_of f.ItemBracesRow = 1
floor_of f.TableBracesExp = 1
floor_of _ = 0

-- the most that a part asks that can't be left out
abbrev pub floors : List Part → ℕ
floors [] = 0
floors (Word w ∷ ps) = floors ps
floors (One g ∷ ps) = max (floor_of g) (floors ps)
floors (Many g ∷ ps) = floors ps
floors (Maybe g ∷ ps) = floors ps

abbrev is_floored : Form → Rule → Bool
is_floored g q = nat_le (floor_of g) (depth_of q + floors (body_of q)) && (nat_le (least_of q) (depth_of q + floors (body_of q)) && nat_le (least_of q) 2)

-- computed
all_floored : (g : Form) → every (is_floored g) (rules_of g) ≡ true
all_floored g = of_each (λ (g : Form). every (is_floored g) (rules_of g)) refl g

rule_floored : (g : Form) (q : Rule) → IsIn q (rules_of g) → is_floored g q ≡ true
rule_floored g q i = every_in (is_floored g) (rules_of g) q (all_floored g) i

form_below : (g : Form) (q : Rule) → IsIn q (rules_of g) → floor_of g ≤ depth_of q + floors (body_of q)
form_below g q i = at_most (floor_of g) (depth_of q + floors (body_of q)) (and_left (nat_le (floor_of g) (depth_of q + floors (body_of q))) _ (rule_floored g q i))

rule_below : (g : Form) (q : Rule) → IsIn q (rules_of g) → least_of q ≤ depth_of q + floors (body_of q)
rule_below g q i = at_most (least_of q) (depth_of q + floors (body_of q)) (and_left (nat_le (least_of q) (depth_of q + floors (body_of q))) _ (and_right (nat_le (floor_of g) (depth_of q + floors (body_of q))) _ (rule_floored g q i)))

-- no rule asks for more than two levels
pub least_low : (g : Form) (q : Rule) → IsIn q (rules_of g) → least_of q ≤ 2
least_low g q i = at_most (least_of q) 2 (and_right (nat_le (least_of q) (depth_of q + floors (body_of q))) _ (and_right (nat_le (floor_of g) (depth_of q + floors (body_of q))) _ (rule_floored g q i)))

enough : (l d fl i room : ℕ) → l ≤ d + fl → fl ≤ i → i + d ≡ room → l ≤ room
enough l d fl i room a b e = omega (arith, a, b, e)

both : (a b c : ℕ) → a ≤ c → b ≤ c → max a b ≤ c
both a b c h l = omega (arith, h, l)

mutual
  floor_needed : (n : Node) (g : Form) (room : ℕ) (name : Content) (x : Option Kind) → Fits room name n (One g) x → floor_of g ≤ room
  floor_needed (leaf t) g room name x f = absurd f
  floor_needed (branch q ns) g room name x f = enough (floor_of g) (depth_of q) (floors (body_of q)) f.0 room (form_below g q f.2.rule) (floors_needed ns (body_of q) f.0 f.1 x f.3) f.2.room_left
  floor_needed (several ns) g room name x f = absurd f
  floor_needed absent g room name x f = absurd f
  floor_needed (present n) g room name x f = absurd f

  pub floors_needed : (ns : Nodes) (ps : List Part) (room : ℕ) (name : Content) (x : Option Kind) → FitsAll room name ns ps x → floors ps ≤ room
  floors_needed none [] room name x f = omega arith
  floors_needed none (p ∷ ps) room name x f = absurd f
  floors_needed (more n ns) [] room name x f = absurd f
  floors_needed (more n ns) (Word w ∷ ps) room name x f = floors_needed ns ps room name x f.1
  floors_needed (more n ns) (One g ∷ ps) room name x f = both (floor_of g) (floors ps) room (floor_needed n g room name (front (spell_all ns) x) f.0) (floors_needed ns ps room name x f.1)
  floors_needed (more n ns) (Many g ∷ ps) room name x f = floors_needed ns ps room name x f.1
  floors_needed (more n ns) (Maybe g ∷ ps) room name x f = floors_needed ns ps room name x f.1

-- a tree of a rule has as many levels as the table tells of the rule
pub least_needed : (q : Rule) (ns : Nodes) (g : Form) (room : ℕ) (name : Content) (x : Option Kind) → Fits room name (branch q ns) (One g) x → least_of q ≤ room
least_needed q ns g room name x f = enough (least_of q) (depth_of q) (floors (body_of q)) f.0 room (rule_below g q f.2.rule) (floors_needed ns (body_of q) f.0 f.1 x f.3) f.2.room_left
