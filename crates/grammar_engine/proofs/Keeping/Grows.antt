-- A step of reading keeps that what was read grows to a whole tree.
use Rattle.std.proofs.Common.{◌≡◌, ℕ, List, [], ◌∷◌, ◌++◌, refl, ap, sym, ◌∙◌, subst, append_assoc, append-nil, Bool, true, false, drop}
use Rattle.surface_tree.specs.declared.token.Token.{Token}
use Rattle.surface_grammar.specs.declared.form.Form.{Form}
use Rattle.surface_grammar.specs.declared.part.Part.{Part}
use Rattle.surface_grammar.specs.declared.part.Part.TheVariants.{Word, One, Many, Maybe}
use Rattle.surface_grammar.specs.declared.tree.Mark.{Mark}
use Rattle.surface_grammar.specs.Fronts.{first_kind}
use Rattle.surface_grammar.specs.Trees.{none, must_go_on, spell}
use Rattle.grammar_engine.specs.declared.want.Want.{Want}
use Rattle.grammar_engine.specs.declared.machine.Machine.{Machine}
use Rattle.grammar_engine.specs.Moves.{Begun, goes_by, MeetsPart}
use Rattle.grammar_engine.specs.Reads.{Reads}
use Rattle.grammar_engine.proofs.Keeping.Grown.{Grows, grows_first, grows_word, grows_rule, grows_end, grows_item, grows_absent, grows_present}

-- the same at equal parts of a state
moved : (items : List Token) (p : Part) (at room : ℕ) (rest rest' : List Token) (ws ws' : List Want) (leaves leaves' : List Token) (marks marks' : List Mark)
    → rest' ≡ rest → ws' ≡ ws → leaves' ≡ leaves → marks' ≡ marks → Grows items p at room rest ws leaves marks → Grows items p at room rest' ws' leaves' marks'
moved items p at room rest rest' ws ws' leaves leaves' marks marks' e1 e2 e3 e4 grows =
    subst (λ l. Grows items p at room l ws' leaves' marks') (sym e1)
    (subst (λ l. Grows items p at room rest l leaves' marks') (sym e2)
    (subst (λ l. Grows items p at room rest ws l marks') (sym e3)
    (subst (λ l. Grows items p at room rest ws leaves l) (sym e4) grows)))

grows_many : (b : Bool) (items : List Token) (p : Part) (at room : ℕ) (g : Form) (r tag : ℕ) (a c : Machine)
    → (b ≡ false → must_go_on g (first_kind (drop a.at items)) ≡ false) → goes_by b g r tag (record { part = Many g; room = r; tag = tag } ∷ []) a c → c.at ≡ a.at → c.tree.leaves ≡ a.tree.leaves
    → Grows items p at room (drop a.at items) (record { part = Many g; room = r; tag = tag } ∷ a.wants) a.tree.leaves a.tree.marks
    → Grows items p at room (drop c.at items) c.wants c.tree.leaves c.tree.marks
grows_many true items p at room g r tag a c is by here same grows =
    moved items p at room _ _ _ _ _ _ _ _ (ap (λ i. drop i items) here) by.0 same by.1 (grows_item items p at room (drop a.at items) g r tag a.wants a.tree.leaves a.tree.marks grows)
grows_many false items p at room g r tag a c is by here same grows =
    moved items p at room _ _ _ _ _ _ _ _ (ap (λ i. drop i items) here) by.0 same by.1 (grows_end items p at room (drop a.at items) g r tag a.wants a.tree.leaves a.tree.marks (is refl) grows)

grows_maybe : (b : Bool) (items : List Token) (p : Part) (at room : ℕ) (g : Form) (r tag : ℕ) (a c : Machine)
    → (b ≡ false → must_go_on g (first_kind (drop a.at items)) ≡ false) → goes_by b g r tag [] a c → c.at ≡ a.at → c.tree.leaves ≡ a.tree.leaves
    → Grows items p at room (drop a.at items) (record { part = Maybe g; room = r; tag = tag } ∷ a.wants) a.tree.leaves a.tree.marks
    → Grows items p at room (drop c.at items) c.wants c.tree.leaves c.tree.marks
grows_maybe true items p at room g r tag a c is by here same grows =
    moved items p at room _ _ _ _ _ _ _ _ (ap (λ i. drop i items) here) by.0 same by.1 (grows_present items p at room (drop a.at items) g r tag a.wants a.tree.leaves a.tree.marks grows)
grows_maybe false items p at room g r tag a c is by here same grows =
    moved items p at room _ _ _ _ _ _ _ _ (ap (λ i. drop i items) here) by.0 same by.1 (grows_absent items p at room (drop a.at items) g r tag a.wants a.tree.leaves a.tree.marks (is refl) grows)

pub grows_meets : (items : List Token) (p : Part) (at room : ℕ) (q : Part) (r tag : ℕ) (a c : Machine) → MeetsPart items q r tag a c
    → Grows items p at room (drop a.at items) (record { part = q; room = r; tag = tag } ∷ a.wants) a.tree.leaves a.tree.marks
    → Grows items p at room (drop c.at items) c.wants c.tree.leaves c.tree.marks
grows_meets items p at room (Word w) r tag a c s grows =
    moved items p at room _ _ _ _ _ _ _ _ refl s.wants s.leaves s.marks
    (grows_word items p at room (drop c.at items) w r tag s.token a.wants a.tree.leaves a.tree.marks s.accepted s.named (subst (λ l. Grows items p at room l (record { part = Word w; room = r; tag = tag } ∷ a.wants) a.tree.leaves a.tree.marks) s.next grows))
grows_meets items p at room (One g) r tag a c s grows =
    moved items p at room _ _ _ _ _ _ _ _ (ap (λ i. drop i items) s.at) s.wants s.leaves s.marks
    (grows_rule items p at room (drop a.at items) g r tag s.rule s.inner s.own a.wants a.tree.leaves a.tree.marks s.built grows)
grows_meets items p at room (Many g) r tag a c s grows = grows_many s.taken items p at room g r tag a c s.sure s.by s.at s.leaves grows
grows_meets items p at room (Maybe g) r tag a c s grows = grows_maybe s.taken items p at room g r tag a c s.sure s.by s.at s.leaves grows

-- and what was read and what is left are the tokens
pub read_meets : (items all : List Token) (q : Part) (r tag : ℕ) (a c : Machine) → MeetsPart items q r tag a c → all ≡ a.tree.leaves ++ drop a.at items → all ≡ c.tree.leaves ++ drop c.at items
read_meets items all (Word w) r tag a c s e = e ∙ ap (λ l. a.tree.leaves ++ l) s.next ∙ sym (append_assoc a.tree.leaves (s.token ∷ []) (drop c.at items)) ∙ ap (λ l. l ++ drop c.at items) (sym s.leaves)
read_meets items all (One g) r tag a c s e = e ∙ ap (λ l. l ++ drop a.at items) (sym s.leaves) ∙ ap (λ i. c.tree.leaves ++ drop i items) (sym s.at)
read_meets items all (Many g) r tag a c s e = e ∙ ap (λ l. l ++ drop a.at items) (sym s.leaves) ∙ ap (λ i. c.tree.leaves ++ drop i items) (sym s.at)
read_meets items all (Maybe g) r tag a c s e = e ∙ ap (λ l. l ++ drop a.at items) (sym s.leaves) ∙ ap (λ i. c.tree.leaves ++ drop i items) (sym s.at)

pub begun_grows : (items : List Token) (p : Part) (at room : ℕ) (a : Machine) → Begun p at room a → Grows items p at room (drop a.at items) a.wants a.tree.leaves a.tree.marks
begun_grows items p at room a b = moved items p at room _ _ _ _ _ _ _ _ refl b.wants b.leaves b.marks (grows_first items p at room (drop a.at items))

pub begun_read : (items : List Token) (p : Part) (at room : ℕ) (a : Machine) → Begun p at room a → drop at items ≡ a.tree.leaves ++ drop a.at items
begun_read items p at room a b = ap (λ i. drop i items) (sym b.place) ∙ ap (λ l. l ++ drop a.at items) (sym b.leaves)

-- with nothing left to be read, the tree is whole
pub reads_at_end : (items : List Token) (p : Part) (at room : ℕ) (a : Machine) → a.wants ≡ [] → Grows items p at room (drop a.at items) a.wants a.tree.leaves a.tree.marks
    → drop at items ≡ a.tree.leaves ++ drop a.at items → Reads items p at room a.tree a.at
reads_at_end items p at room a done grows read =
    let g = subst (λ l. Grows items p at room (drop a.at items) l a.tree.leaves a.tree.marks) done grows none (first_kind (drop a.at items)) refl tt in
    let leaves : a.tree.leaves ≡ spell g.node = sym (append-nil a.tree.leaves) ∙ sym g.spelled in
    record {
      node = g.node;
      fits = g.fits;
      lists = (leaves, sym (append-nil a.tree.marks) ∙ sym g.listed);
      spells = read ∙ ap (λ l. l ++ drop a.at items) leaves;
    }
