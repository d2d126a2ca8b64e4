-- An expression that begins with `[` begins with the empty list.
use Rattle.std.proofs.Common.{◌≡◌, ℕ, List, [], ◌∷◌, ◌++◌, drop, append_assoc, refl, ap, sym, ◌∙◌, subst, Bool, true, false, not, ◌||◌, Option, Some}
use Rattle.std.proofs.Math.Logic.{inl, inr}
use Rattle.std.proofs.lemmas.Option.{same_Some}
use Rattle.surface_tree.specs.declared.kind.Kind.{Kind}
use Rattle.surface_tree.specs.declared.kind.Kind.TheVariants as k
use Rattle.surface_tree.specs.declared.token.Token.{Token}
use Rattle.surface_tree.specs.declared.token.Content.{Content}
use Rattle.surface_grammar.specs.declared.form.Form.{Form}
use Rattle.surface_grammar.specs.declared.form.Form.TheVariants as f
use Rattle.surface_grammar.specs.declared.part.Part.{Part}
use Rattle.surface_grammar.specs.declared.part.Part.TheVariants.{Word, One, Many, Maybe}
use Rattle.surface_grammar.specs.declared.rule.Rule.{Rule}
use Rattle.surface_grammar.specs.Firsts.{first_of}
use Rattle.surface_grammar.specs.Forms.{rules_of}
use Rattle.surface_grammar.specs.Fronts.{first_kind}
use Rattle.surface_grammar.specs.Table.{body_of}
use Rattle.surface_grammar.specs.Trees.{Node, branch, leaf, several, absent, present, Nodes, spell, spell_all, front, begins, IsIn, Fits, FitsAll}
use Rattle.grammar_engine.proofs.Fronts.Context.{headed, leafed}
use Rattle.grammar_engine.proofs.Trees.Leading.{node_led}
use Rattle.grammar_engine.proofs.Trees.Pieces.{Pieces, Step, gather}
use Rattle.grammar_engine.proofs.Fronts.Scanned.{accepted}
use Rattle.grammar_engine.proofs.Fronts.Skimmed.{exact}
use Rattle.surface_grammar.proofs.Every.{of_each}
use Rattle.grammar_engine.proofs.Bools.{every, every_in, unless}

abbrev is_list_front : Form → Bool
is_list_front f.Exp = true
is_list_front f.Pat = true
is_list_front f.PatTerm = true
is_list_front f.PatAtom = true
is_list_front f.UpperPath = true
is_list_front f.Term = true
is_list_front f.Or = true
is_list_front f.And = true
is_list_front f.Compare = true
is_list_front f.Cons = true
is_list_front f.Join = true
is_list_front f.Sum = true
is_list_front f.Product = true
is_list_front f.Sign = true
is_list_front f.Cut = true
is_list_front f.Apply = true
is_list_front f.Atom = true
is_list_front f.Operand = true
is_list_front f.Primary = true
is_list_front _ = false

abbrev is_right : Kind → Bool
is_right k.RightBracket = true
is_right _ = false

abbrev lists_at : Kind → Bool → Bool
lists_at k.LeftBracket b = b
lists_at _ b = true

abbrev right_first : List Token → Bool
right_first [] = false
right_first (t ∷ ts) = is_right t.kind

-- behind `[` at the front stands `]`
abbrev lists : List Token → Bool
lists [] = true
lists (t ∷ ts) = lists_at t.kind (right_first ts)

abbrev begins_right : List Part → Bool
begins_right (Word w ∷ ps) = is_right w
begins_right _ = false

abbrev list_fronts : List Part → Bool
list_fronts (Word w ∷ ps) = lists_at w (begins_right ps)
list_fronts (One g ∷ ps) = is_list_front g
list_fronts _ = false

abbrev is_listed : Form → Rule → Bool
is_listed g q = not (is_list_front g) || list_fronts (body_of q)

-- computed
listed : (g : Form) → every (is_listed g) (rules_of g) ≡ true
listed g = of_each (λ (g : Form). every (is_listed g) (rules_of g)) refl g

abbrev Listed : Form → List Token → Type 0
Listed g ts = is_list_front g ≡ true → (rest : List Token) → lists (ts ++ rest) ≡ true

lists_more : (x : Kind) (b c : Bool) → lists_at x b ≡ true → (b ≡ true → c ≡ true) → lists_at x c ≡ true
lists_more k.LeftBracket b c h m = m h
lists_more x b c h m = refl

right_more : (ps : List Part) (l : List Token) → Pieces Listed ps l → begins_right ps ≡ true → (rest : List Token) → right_first (l ++ rest) ≡ true
right_more [] l p h rest = cc
right_more (Word w ∷ ps) l (t, us, is, ok, more) h rest = ap (λ z. right_first (z ++ rest)) is ∙ accepted is_right w t.kind refl refl refl ok ∙ h
right_more (One g ∷ ps) l p h rest = cc
right_more (Many g ∷ ps) l p h rest = cc
right_more (Maybe g ∷ ps) l p h rest = cc

list_pieces : (ps : List Part) (l : List Token) → Pieces Listed ps l → list_fronts ps ≡ true → (rest : List Token) → lists (l ++ rest) ≡ true
list_pieces [] l p h rest = cc
list_pieces (Word w ∷ ps) l (t, us, is, ok, more) h rest =
    ap (λ z. lists (z ++ rest)) is ∙ lists_more t.kind (begins_right ps) (right_first (us ++ rest)) (accepted (λ z. lists_at z (begins_right ps)) w t.kind refl refl refl ok ∙ h) (λ i. right_more ps us more i rest)
list_pieces (One g ∷ ps) l (ts, us, is, q, more) h rest = ap (λ z. lists (z ++ rest)) is ∙ ap lists (append_assoc ts us rest) ∙ q h (us ++ rest)
list_pieces (Many g ∷ ps) l p h rest = cc
list_pieces (Maybe g ∷ ps) l p h rest = cc

list_step : Step Listed
list_step g q ts i p = λ e. list_pieces (body_of q) ts p (unless (is_list_front g) (list_fronts (body_of q)) (every_in (is_listed g) (rules_of g) q (listed g) i) e)

right_is : (x : Kind) → is_right x ≡ true → x ≡ k.RightBracket
right_is k.RightBracket h = refl
right_is x h = cc

-- no expression begins with `]`
not_right : {A : Type 0} → begins f.Exp (Some k.RightBracket) ≡ true → A
unfolding first_of
not_right h = cc

splice_rule : {A : Type 0} (q : Rule) (ms ns : Nodes) (room space : ℕ) (name other : Content) (x y : Option Kind) (after behind : List Token) → IsIn q (rules_of f.Splice) → FitsAll room name ms (body_of q) x
    → FitsAll space other ns (One f.Exp ∷ Word k.RightBrace ∷ []) y → spell_all ms ++ after ≡ spell_all ns ++ behind → A
splice_rule q ms ns room space name other x y after behind (inl e) fit fits is =
    let a = headed room name ms (Word k.LeftBracket) (One f.Exp ∷ Word k.RightBracket ∷ []) x (subst (λ z. FitsAll room name ms (body_of z) x) e fit) in
    let l = leafed room name a.head k.LeftBracket (front (spell_all a.tail) x) a.fits in
    let b = headed room name a.tail (One f.Exp) (Word k.RightBracket ∷ []) x a.others in
    let m = node_led b.head f.Exp room name (front (spell_all b.tail) x) b.fits in
    let opens : l.token.kind ≡ k.LeftBracket = exact k.LeftBracket l.token.kind refl l.ok in
    let text : spell_all ms ++ after ≡ l.token ∷ (m.token ∷ ((m.rest ++ spell_all b.tail) ++ after)) =
    ap (λ z. z ++ after) (a.spelled ∙ ap (λ z. z ++ spell_all a.tail) l.spelled ∙ ap (λ z. l.token ∷ z) (b.spelled ∙ ap (λ z. z ++ spell_all b.tail) m.is)) in
    let d = headed space other ns (One f.Exp) (Word k.RightBrace ∷ []) y fits in
    let found : lists (spell d.head ++ (spell_all d.tail ++ behind)) ≡ true = gather Listed list_step d.head f.Exp space other (front (spell_all d.tail) y) d.fits refl (spell_all d.tail ++ behind) in
    let here : lists (l.token ∷ (m.token ∷ ((m.rest ++ spell_all b.tail) ++ after))) ≡ true = ap lists (sym text ∙ is ∙ ap (λ z. z ++ behind) d.spelled ∙ append_assoc (spell d.head) (spell_all d.tail) behind) ∙ found in
    let right : is_right m.token.kind ≡ true = sym (ap (λ z. lists_at z (is_right m.token.kind)) opens) ∙ here in
    not_right (ap (λ z. begins f.Exp (Some z)) (sym (right_is m.token.kind right)) ∙ m.passes)
splice_rule q ms ns room space name other x y after behind (inr e) fit fits is = absurd e

splice_node : {A : Type 0} (n : Node) (ns : Nodes) (room space : ℕ) (name other : Content) (x y : Option Kind) (after behind : List Token) → Fits room name n (One f.Splice) x
    → FitsAll space other ns (One f.Exp ∷ Word k.RightBrace ∷ []) y → spell n ++ after ≡ spell_all ns ++ behind → A
splice_node (leaf t) ns room space name other x y after behind fit fits is = absurd fit
splice_node (several ms) ns room space name other x y after behind fit fits is = absurd fit
splice_node absent ns room space name other x y after behind fit fits is = absurd fit
splice_node (present n) ns room space name other x y after behind fit fits is = absurd fit
splice_node (branch q ms) ns room space name other x y after behind fit fits is = splice_rule q ms ns fit.0 space fit.1 other x y after behind fit.2.rule fit.3 fits is

-- a spliced value is no expression
pub splices_apart : {A : Type 0} (ms ns : Nodes) (room space : ℕ) (name other : Content) (x y : Option Kind) (after behind : List Token) → FitsAll room name ms (One f.Splice ∷ Word k.RightBrace ∷ []) x
    → FitsAll space other ns (One f.Exp ∷ Word k.RightBrace ∷ []) y → spell_all ms ++ after ≡ spell_all ns ++ behind → A
splices_apart ms ns room space name other x y after behind fit fits is =
    let a = headed room name ms (One f.Splice) (Word k.RightBrace ∷ []) x fit in
    splice_node a.head ns room space name other (front (spell_all a.tail) x) y (spell_all a.tail ++ after) behind a.fits fits
    (sym (append_assoc (spell a.head) (spell_all a.tail) after) ∙ ap (λ z. z ++ after) (sym a.spelled) ∙ is)

second_right : (text : List Token) → lists text ≡ true → first_kind text ≡ Some k.LeftBracket → first_kind (drop 1 text) ≡ Some k.RightBracket
second_right [] h e = cc
second_right (t ∷ text) h e = by_rest text (sym (ap (λ z. lists_at z (right_first text)) (same_Some t.kind k.LeftBracket e)) ∙ h)
  where
    by_rest : (us : List Token) → right_first us ≡ true → first_kind us ≡ Some k.RightBracket
    by_rest [] i = cc
    by_rest (u ∷ us) i = ap Some (right_is u.kind i)

-- an expression that begins with `[` goes on with `]`
pub list_second : (n : Node) (room : ℕ) (name : Content) (x : Option Kind) (rest : List Token) → Fits room name n (One f.Exp) x → first_kind (spell n ++ rest) ≡ Some k.LeftBracket → first_kind (drop 1 (spell n ++ rest)) ≡ Some k.RightBracket
list_second n room name x rest fit e = second_right (spell n ++ rest) (gather Listed list_step n f.Exp room name x fit refl rest) e

-- a spliced value begins with `[`, and doesn't go on with `]`
pub record SpliceFront (text : List Token) : Type 0 where
  pub opens : first_kind text ≡ Some k.LeftBracket
  pub second : first_kind (drop 1 text) ≡ Some k.RightBracket → ⊥

splice_front : (q : Rule) (ns : Nodes) (room : ℕ) (name : Content) (x : Option Kind) (text : List Token) → IsIn q (rules_of f.Splice) → FitsAll room name ns (body_of q) x → SpliceFront (spell_all ns ++ text)
splice_front q ns room name x text (inl e) fit =
    let a = headed room name ns (Word k.LeftBracket) (One f.Exp ∷ Word k.RightBracket ∷ []) x (subst (λ z. FitsAll room name ns (body_of z) x) e fit) in
    let l = leafed room name a.head k.LeftBracket (front (spell_all a.tail) x) a.fits in
    let b = headed room name a.tail (One f.Exp) (Word k.RightBracket ∷ []) x a.others in
    let m = node_led b.head f.Exp room name (front (spell_all b.tail) x) b.fits in
    let is : spell_all ns ++ text ≡ l.token ∷ (m.token ∷ ((m.rest ++ spell_all b.tail) ++ text)) =
    ap (λ z. z ++ text) (a.spelled ∙ ap (λ z. z ++ spell_all a.tail) l.spelled ∙ ap (λ z. l.token ∷ z) (b.spelled ∙ ap (λ z. z ++ spell_all b.tail) m.is)) in
    record {
      opens = ap first_kind is ∙ ap Some (exact k.LeftBracket l.token.kind refl l.ok);
      second = λ h. not_begun m.token.kind m.passes (sym (ap (λ z. first_kind (drop 1 z)) is) ∙ h);
    }
  where
    not_begun : (y : Kind) → begins f.Exp (Some y) ≡ true → Some y ≡ Some k.RightBracket → ⊥
    not_begun y h e = not_right (ap (begins f.Exp) (sym e) ∙ h)
splice_front q ns room name x text (inr e) fit = absurd e

splice_front_node : (n : Node) (room : ℕ) (name : Content) (x : Option Kind) (text : List Token) → Fits room name n (One f.Splice) x → SpliceFront (spell n ++ text)
splice_front_node (leaf t) room name x text fit = absurd fit
splice_front_node (several ns) room name x text fit = absurd fit
splice_front_node absent room name x text fit = absurd fit
splice_front_node (present n) room name x text fit = absurd fit
splice_front_node (branch q ns) room name x text fit = splice_front q ns fit.0 fit.1 x text fit.2.rule fit.3

pub splice_begins : (ns : Nodes) (room : ℕ) (name : Content) (x : Option Kind) (text : List Token) → FitsAll room name ns (One f.Splice ∷ Word k.RightBrace ∷ []) x → SpliceFront (spell_all ns ++ text)
splice_begins ns room name x text fit =
    let a = headed room name ns (One f.Splice) (Word k.RightBrace ∷ []) x fit in
    subst SpliceFront (sym (ap (λ z. z ++ text) a.spelled ∙ append_assoc (spell a.head) (spell_all a.tail) text)) (splice_front_node a.head room name (front (spell_all a.tail) x) (spell_all a.tail ++ text) a.fits)

pub exp_begins : (ns : Nodes) (room : ℕ) (name : Content) (x : Option Kind) (text : List Token) → FitsAll room name ns (One f.Exp ∷ Word k.RightBrace ∷ []) x → first_kind (spell_all ns ++ text) ≡ Some k.LeftBracket
    → first_kind (drop 1 (spell_all ns ++ text)) ≡ Some k.RightBracket
exp_begins ns room name x text fit e =
    let a = headed room name ns (One f.Exp) (Word k.RightBrace ∷ []) x fit in
    let is : spell_all ns ++ text ≡ spell a.head ++ (spell_all a.tail ++ text) = ap (λ z. z ++ text) a.spelled ∙ append_assoc (spell a.head) (spell_all a.tail) text in
    ap (λ z. first_kind (drop 1 z)) is ∙ list_second a.head room name (front (spell_all a.tail) x) (spell_all a.tail ++ text) a.fits (sym (ap first_kind is) ∙ e)
