-- A tree fits where there is more room.
use Rattle.std.proofs.Common.{◌≡◌, ◌≤◌, ◌+◌, ◌-◌, ℕ, List, [], ◌∷◌, subst, arith, Option}
use Rattle.surface_tree.specs.declared.kind.Kind.{Kind}
use Rattle.surface_tree.specs.declared.token.Content.{Content}
use Rattle.surface_grammar.specs.declared.form.Form.{Form}
use Rattle.surface_grammar.specs.declared.part.Part.{Part}
use Rattle.surface_grammar.specs.declared.part.Part.TheVariants.{Word, One, Many, Maybe}
use Rattle.surface_grammar.specs.Table.{body_of}
use Rattle.surface_grammar.specs.Trees.{Node, leaf, branch, several, absent, present, Nodes, none, more, spell_all, front, Fits, FitsAll, FitsEach}

shifted : (inner deep room d : ℕ) → inner + deep ≡ room → (inner + d) + deep ≡ room + d
shifted inner deep room d e = omega (arith, e)

mutual
  pub fits_more : (n : Node) (p : Part) (room d : ℕ) (name : Content) (x : Option Kind) → Fits room name n p x → Fits (room + d) name n p x
  fits_more (leaf t) (Word w) room d name x f = f
  fits_more (leaf t) (One g) room d name x f = absurd f
  fits_more (leaf t) (Many g) room d name x f = absurd f
  fits_more (leaf t) (Maybe g) room d name x f = absurd f
  fits_more (branch q ns) (Word w) room d name x f = absurd f
  fits_more (branch q ns) (One g) room d name x f = (
    f.0 + d,
    f.1,
    record { rule = f.2.rule; room_left = shifted f.0 _ room d f.2.room_left; named = f.2.named; free = f.2.free },
    fits_more_all ns (body_of q) f.0 d f.1 x f.3,
  )
  fits_more (branch q ns) (Many g) room d name x f = absurd f
  fits_more (branch q ns) (Maybe g) room d name x f = absurd f
  fits_more (several ns) (Word w) room d name x f = absurd f
  fits_more (several ns) (One g) room d name x f = absurd f
  fits_more (several ns) (Many g) room d name x f = fits_more_each ns g room d name x f
  fits_more (several ns) (Maybe g) room d name x f = absurd f
  fits_more absent (Word w) room d name x f = absurd f
  fits_more absent (One g) room d name x f = absurd f
  fits_more absent (Many g) room d name x f = absurd f
  fits_more absent (Maybe g) room d name x f = f
  fits_more (present n) (Word w) room d name x f = absurd f
  fits_more (present n) (One g) room d name x f = absurd f
  fits_more (present n) (Many g) room d name x f = absurd f
  fits_more (present n) (Maybe g) room d name x f = fits_more n (One g) room d name x f

  pub fits_more_all : (ns : Nodes) (ps : List Part) (room d : ℕ) (name : Content) (x : Option Kind) → FitsAll room name ns ps x → FitsAll (room + d) name ns ps x
  fits_more_all none [] room d name x f = tt
  fits_more_all none (p ∷ ps) room d name x f = absurd f
  fits_more_all (more n ns) [] room d name x f = absurd f
  fits_more_all (more n ns) (p ∷ ps) room d name x f = (fits_more n p room d name (front (spell_all ns) x) f.0, fits_more_all ns ps room d name x f.1)

  pub fits_more_each : (ns : Nodes) (g : Form) (room d : ℕ) (name : Content) (x : Option Kind) → FitsEach room name ns g x → FitsEach (room + d) name ns g x
  fits_more_each none g room d name x f = f
  fits_more_each (more n ns) g room d name x f = (fits_more n (One g) room d name (front (spell_all ns) x) f.0, fits_more_each ns g room d name x f.1)

-- a tree that fits in some room fits in each larger one
pub fits_in : (n : Node) (p : Part) (room space : ℕ) (name : Content) (x : Option Kind) → room ≤ space → Fits room name n p x → Fits space name n p x
fits_in n p room space name x l f = subst (λ r. Fits r name n p x) (grown room space l) (fits_more n p room (space - room) name x f)
  where
    grown : (a b : ℕ) → a ≤ b → a + (b - a) ≡ b
    grown a b h = omega (arith, h)
