-- What stands behind a part that is to be read: of the parts behind it alone is told what may begin there.
use Rattle.std.proofs.Common.{◌≡◌, ◌+◌, ℕ, List, [], ◌∷◌, ◌++◌, append_assoc, refl, ap, sym, ◌∙◌, subst, arith, Bool, true, false, not, ◌&&◌, ◌||◌, Option, Some, None}
use Rattle.std.proofs.Math.Logic.{inl, inr}
use Rattle.std.proofs.lemmas.Bool.{and_from, not-true}
use Rattle.std.proofs.lemmas.Option.{same_Some}
use Rattle.surface_tree.specs.declared.kind.Kind.{Kind}
use Rattle.surface_tree.specs.declared.kind.Kind.TheVariants as k
use Rattle.surface_tree.specs.declared.token.Token.{Token}
use Rattle.surface_tree.specs.declared.token.Content.{Content}
use Rattle.surface_grammar.specs.declared.form.Form.{Form}
use Rattle.surface_grammar.specs.declared.form.Form.TheVariants as f
use Rattle.surface_grammar.specs.declared.part.Part.{Part}
use Rattle.surface_grammar.specs.declared.part.Part.TheVariants.{Word, One, Many, Maybe}
use Rattle.surface_grammar.specs.declared.rule.Rule.{Rule}
use Rattle.surface_grammar.specs.Firsts.{first_of}
use Rattle.surface_grammar.specs.Forms.{rules_of}
use Rattle.surface_grammar.specs.Fronts.{first_kind}
use Rattle.surface_grammar.specs.Table.{body_of}
use Rattle.surface_grammar.specs.Trees.{Node, leaf, branch, several, absent, present, Nodes, none, more, spell, spell_all, front, begins, depth_of, IsIn, Fits, FitsAll}
use Rattle.surface_grammar.specs.Words.{accept}
use Rattle.grammar_engine.specs.declared.want.Want.{Want}
use Rattle.grammar_engine.specs.declared.machine.Machine.{Machine}
use Rattle.grammar_engine.specs.Allowed.{may_stand_behind}
use Rattle.grammar_engine.specs.Moves.{wants_of, goes_by, MeetsPart}
use Rattle.grammar_engine.specs.Passing.{FilledBy}
use Rattle.grammar_engine.specs.Places.{name_at}
use Rattle.grammar_engine.specs.Single.{is_text_part}
use Rattle.grammar_engine.specs.Solid.{first_solid}
use Rattle.grammar_engine.proofs.Short.Calm.{parts_of}
use Rattle.grammar_engine.proofs.Fronts.Context.{is_exp_tail, is_con_tail, is_paren_end, ends_at, ends_next, colon_next, part_ok, tidy, rule_tidy, Ends, headed, leafed, last_none, next_part, led_colon}
use Rattle.grammar_engine.proofs.Table.Levels.{rename}
use Rattle.grammar_engine.proofs.Keeping.Passed.{want, MarkStands}
use Rattle.grammar_engine.proofs.Trees.Roomier.{fits_in}
use Rattle.grammar_engine.proofs.Fronts.Scan.{scan}
use Rattle.grammar_engine.proofs.Fronts.Skimmed.{exact}
use Rattle.grammar_engine.proofs.Bools.{and_left, and_right, every, unless, or_split}
use Rattle.grammar_engine.proofs.Trees.TextParts.{part_whole}
use Rattle.grammar_engine.proofs.Keeping.Readies.{parts_append}

-- the parts of what is to be read are tidy, where behind all of it such a text stands
abbrev pub Trails : Bool → List Want → Type 0
Trails e ws = tidy e true (parts_of ws) ≡ true

-- the text behind all of it: behind an expression the scan stops at it, and it doesn't begin with `::`
pub record Closes (e : Bool) (tail : List Token) : Type 0 where
  pub ends : Ends e tail
  pub plain : first_kind tail ≡ Some k.DoubleColon → ⊥

-- at the start
pub record Starts (p : Part) (tail : List Token) : Type 0 where
  pub e : Bool
  pub trails : tidy e true (p ∷ []) ≡ true
  pub closes : Closes e tail

start_with : (p : Part) (tail : List Token) (x : Option Kind) → first_kind tail ≡ x → is_text_part p ≡ true → may_stand_behind p x ≡ true → Starts p tail
start_with p [] None is h ok = record { e = true; trails = and_from (part_ok true true p []) true (part_whole p h) refl; closes = record { ends = λ i. refl; plain = λ i. cc } }
start_with p (t ∷ tail) None is h ok = cc
start_with p [] (Some x) is h ok = cc
start_with (One f.Pat) (t ∷ tail) (Some k.LeftArrow) is h ok = record { e = false; trails = refl; closes = record { ends = λ i. cc; plain = λ i. let bad : Some k.LeftArrow ≡ Some k.DoubleColon = sym is ∙ i in cc } }
start_with (One f.KindTerm) (t ∷ tail) (Some k.RightParenthesis) is h ok = record { e = false; trails = refl; closes = record { ends = λ i. cc; plain = λ i. let bad : Some k.RightParenthesis ≡ Some k.DoubleColon = sym is ∙ i in cc } }
start_with p (t ∷ tail) (Some x) is h ok = cc

pub starts_tidy : (p : Part) (tail : List Token) → is_text_part p ≡ true → may_stand_behind p (first_kind tail) ≡ true → Starts p tail
starts_tidy p tail h ok = start_with p tail (first_kind tail) refl h ok

-- behind the parts of a rule
ends_append : (e : Bool) (ps qs : List Part) → ends_next e (ps ++ qs) ≡ ends_next (ends_next e qs) ps
ends_append e [] qs = refl
ends_append e (Word w ∷ ps) qs = refl
ends_append e (One g ∷ ps) qs = refl
ends_append e (Many g ∷ ps) qs = ap (λ b. every ends_at (first_of g) && b) (ends_append e ps qs)
ends_append e (Maybe g ∷ ps) qs = ap (λ b. every ends_at (first_of g) && b) (ends_append e ps qs)

colon_append : (c : Bool) (ps qs : List Part) → colon_next c (ps ++ qs) ≡ colon_next (colon_next c qs) ps
colon_append c [] qs = refl
colon_append c (Word w ∷ ps) qs = refl
colon_append c (One g ∷ ps) qs = refl
colon_append c (Many g ∷ ps) qs = ap (λ b. not (begins g (Some k.DoubleColon)) && b) (colon_append c ps qs)
colon_append c (Maybe g ∷ ps) qs = ap (λ b. not (begins g (Some k.DoubleColon)) && b) (colon_append c ps qs)

and_more : (a b c : Bool) → (b ≡ true → c ≡ true) → (a && b) ≡ true → (a && c) ≡ true
and_more true b c m h = m h
and_more false b c m h = cc

or_more : (a b c : Bool) → (b ≡ true → c ≡ true) → (a || b) ≡ true → (a || c) ≡ true
or_more true b c m h = refl
or_more false b c m h = m h

ends_more : (a b : Bool) (ps : List Part) → (a ≡ true → b ≡ true) → ends_next a ps ≡ true → ends_next b ps ≡ true
ends_more a b [] m h = m h
ends_more a b (Word w ∷ ps) m h = h
ends_more a b (One g ∷ ps) m h = h
ends_more a b (Many g ∷ ps) m h = and_more (every ends_at (first_of g)) (ends_next a ps) (ends_next b ps) (ends_more a b ps m) h
ends_more a b (Maybe g ∷ ps) m h = and_more (every ends_at (first_of g)) (ends_next a ps) (ends_next b ps) (ends_more a b ps m) h

colon_more : (a b : Bool) (ps : List Part) → (a ≡ true → b ≡ true) → colon_next a ps ≡ true → colon_next b ps ≡ true
colon_more a b [] m h = m h
colon_more a b (Word w ∷ ps) m h = h
colon_more a b (One g ∷ ps) m h = h
colon_more a b (Many g ∷ ps) m h = and_more (not (begins g (Some k.DoubleColon))) (colon_next a ps) (colon_next b ps) (colon_more a b ps m) h
colon_more a b (Maybe g ∷ ps) m h = and_more (not (begins g (Some k.DoubleColon))) (colon_next a ps) (colon_next b ps) (colon_more a b ps m) h

-- what follows inside a rule, and behind it where it ends
ends_behind : (a e : Bool) (ps qs : List Part) → (a ≡ true → ends_next e qs ≡ true) → ends_next a ps ≡ true → ends_next e (ps ++ qs) ≡ true
ends_behind a e ps qs m h = ends_append e ps qs ∙ ends_more a (ends_next e qs) ps m h

colon_behind : (a c : Bool) (ps qs : List Part) → (a ≡ true → colon_next c qs ≡ true) → colon_next a ps ≡ true → colon_next c (ps ++ qs) ≡ true
colon_behind a c ps qs m h = colon_append c ps qs ∙ colon_more a (colon_next c qs) ps m h

both_more : (a b c a' b' c' : Bool) → (b ≡ true → b' ≡ true) → (c ≡ true → c' ≡ true) → ((a || b) && (a' || c)) ≡ true → ((a || b') && (a' || c')) ≡ true
both_more a b c a' b' c' m n h = and_from (a || b') (a' || c') (or_more a b b' m (and_left (a || b) (a' || c) h)) (or_more a' c c' n (and_right (a || b) (a' || c) h))

part_behind : (a b e c : Bool) (p : Part) (ps qs : List Part) → (a ≡ true → ends_next e qs ≡ true) → (b ≡ true → colon_next c qs ≡ true) → part_ok a b p ps ≡ true → part_ok e c p (ps ++ qs) ≡ true
part_behind a b e c (Word w) ps qs m n h = refl
part_behind a b e c (One g) ps qs m n h =
    both_more (not (is_exp_tail g)) (ends_next a ps) (colon_next b ps) (not (is_con_tail g)) (ends_next e (ps ++ qs)) (colon_next c (ps ++ qs)) (ends_behind a e ps qs m) (colon_behind b c ps qs n) h
part_behind a b e c (Many g) ps qs m n h =
    both_more (not (is_exp_tail g)) (every ends_at (first_of g) && ends_next a ps) (not (begins g (Some k.DoubleColon)) && colon_next b ps) (not (is_con_tail g)) (every ends_at (first_of g) && ends_next e (ps ++ qs)) (not (begins g (Some k.DoubleColon)) && colon_next c (ps ++ qs))
    (and_more (every ends_at (first_of g)) (ends_next a ps) (ends_next e (ps ++ qs)) (ends_behind a e ps qs m)) (and_more (not (begins g (Some k.DoubleColon))) (colon_next b ps) (colon_next c (ps ++ qs)) (colon_behind b c ps qs n)) h
part_behind a b e c (Maybe g) ps qs m n h =
    both_more (not (is_exp_tail g)) (ends_next a ps) (colon_next b ps) (not (is_con_tail g)) (ends_next e (ps ++ qs)) (colon_next c (ps ++ qs)) (ends_behind a e ps qs m) (colon_behind b c ps qs n) h

tidy_behind : (a b e c : Bool) (ps qs : List Part) → (a ≡ true → ends_next e qs ≡ true) → (b ≡ true → colon_next c qs ≡ true) → tidy a b ps ≡ true → tidy e c qs ≡ true → tidy e c (ps ++ qs) ≡ true
tidy_behind a b e c [] qs m n h k = k
tidy_behind a b e c (p ∷ ps) qs m n h k =
    and_from (part_ok e c p (ps ++ qs)) (tidy e c (ps ++ qs)) (part_behind a b e c p ps qs m n (and_left (part_ok a b p ps) (tidy a b ps) h)) (tidy_behind a b e c ps qs m n (and_right (part_ok a b p ps) (tidy a b ps) h) k)

-- the parts of a rule in place of its form
rule_trails : (e : Bool) (g : Form) (q : Rule) (ps : List Part) → IsIn q (rules_of g) → tidy e true (One g ∷ ps) ≡ true → tidy e true (body_of q ++ ps) ≡ true
rule_trails e g q ps i h =
    let ok = and_left (part_ok e true (One g) ps) (tidy e true ps) h in
    tidy_behind (is_exp_tail g) (is_con_tail g) e true (body_of q) ps (unless (is_exp_tail g) (ends_next e ps) (and_left (not (is_exp_tail g) || ends_next e ps) _ ok))
    (unless (is_con_tail g) (colon_next true ps) (and_right (not (is_exp_tail g) || ends_next e ps) _ ok)) (rule_tidy g q i) (and_right (part_ok e true (One g) ps) (tidy e true ps) h)

trails_goes : (b : Bool) (e : Bool) (g : Form) (room tag : ℕ) (extra : List Want) (a c : Machine) → goes_by b g room tag extra a c → Trails e (want (One g) room tag ∷ extra ++ a.wants) → Trails e a.wants → Trails e c.wants
trails_goes true e g room tag extra a c by on off = subst (Trails e) (sym by.0) on
trails_goes false e g room tag extra a c by on off = subst (Trails e) (sym by.0) off

-- a step of reading keeps it
pub trails_meets : (e : Bool) (items : List Token) (q : Part) (room tag : ℕ) (a c : Machine) → MeetsPart items q room tag a c → Trails e (want q room tag ∷ a.wants) → Trails e c.wants
trails_meets e items (Word w) room tag a c s h = subst (Trails e) (sym s.wants) (and_right (part_ok e true (Word w) (parts_of a.wants)) (tidy e true (parts_of a.wants)) h)
trails_meets e items (One g) room tag a c s h =
    subst (Trails e) (sym s.wants) (subst (λ l. tidy e true l ≡ true) (sym (parts_append s.inner s.own (body_of s.rule) a.wants)) (rule_trails e g s.rule (parts_of a.wants) s.built.rule h))
trails_meets e items (Many g) room tag a c s h =
    let ok = and_left (part_ok e true (Many g) (parts_of a.wants)) (tidy e true (parts_of a.wants)) h in
    trails_goes s.taken e g room tag (want (Many g) room tag ∷ []) a c s.by (and_from (part_ok e true (One g) (Many g ∷ parts_of a.wants)) (tidy e true (Many g ∷ parts_of a.wants)) ok h) (and_right (part_ok e true (Many g) (parts_of a.wants)) (tidy e true (parts_of a.wants)) h)
trails_meets e items (Maybe g) room tag a c s h =
    let ok = and_left (part_ok e true (Maybe g) (parts_of a.wants)) (tidy e true (parts_of a.wants)) h in
    let rest = and_right (part_ok e true (Maybe g) (parts_of a.wants)) (tidy e true (parts_of a.wants)) h in
    trails_goes s.taken e g room tag [] a c s.by (and_from (part_ok e true (One g) (parts_of a.wants)) (tidy e true (parts_of a.wants)) ok rest) rest

-- no repetition of the open option is tidy
forall_untidy : (e : Bool) (ps : List Part) → tidy e true (Many f.ConForall ∷ ps) ≡ true → ⊥
unfolding first_of
forall_untidy e ps k = cc

pub never_open : (e : Bool) (g : Form) (room tag : ℕ) (ws : List Want) → Trails e (want (Many g) room tag ∷ ws) → g ≡ f.ConForall → ⊥
never_open e g room tag ws h i = forall_untidy e (parts_of ws) (subst (λ z. tidy e true (Many z ∷ parts_of ws) ≡ true) i h)

-- the scan stops at what the parts begin with
trail_ends : (extra : ℕ) (items : List Token) (ns : Nodes) (ws : List Want) (e : Bool) (tail : List Token) → FilledBy extra items ns ws (first_kind tail) → ends_next e (parts_of ws) ≡ true → Ends e tail → scan 0 (spell_all ns ++ tail) ≡ false
trail_ends extra items none [] e tail f h ends = ends h
trail_ends extra items none (w ∷ ws) e tail f h ends = absurd f
trail_ends extra items (more n ns) [] e tail f h ends = absurd f
trail_ends extra items (more n ns) (w ∷ ws) e tail f h ends =
    ap (scan 0) (append_assoc (spell n) (spell_all ns) tail)
    ∙ next_part n w.part (parts_of ws) e (w.room + extra) (name_at items w.tag) (front (spell_all ns) (first_kind tail)) (spell_all ns ++ tail) f.0 h (λ i. trail_ends extra items ns ws e tail f.1 i ends)

-- behind a form that may end with an expression
pub text_ends : (extra : ℕ) (items : List Token) (g : Form) (room tag : ℕ) (ns : Nodes) (ws : List Want) (e : Bool) (tail : List Token) → Trails e (want (One g) room tag ∷ ws) → Closes e tail
    → FilledBy extra items ns ws (first_kind tail) → is_exp_tail g ≡ true → scan 0 (spell_all ns ++ tail) ≡ false
text_ends extra items g room tag ns ws e tail h c f i =
    trail_ends extra items ns ws e tail f
    (unless (is_exp_tail g) (ends_next e (parts_of ws)) (and_left (not (is_exp_tail g) || ends_next e (parts_of ws)) _ (and_left (part_ok e true (One g) (parts_of ws)) (tidy e true (parts_of ws)) h)) i) c.ends

-- a tree that ends a constructor in brackets and begins with `::`
record Standing (room : ℕ) (name : Content) (text : List Token) : Type 0 where
  pub colons : Token
  pub node : Node
  pub close : Token
  pub rest : List Token
  pub fits : Fits room name node (One f.KindTerm) (Some k.RightParenthesis)
  pub closes : close.kind ≡ k.RightParenthesis
  pub is : text ≡ colons ∷ (spell node ++ close ∷ rest)

not_word : {A : Type 0} (w : Kind) (t : Token) (ts : List Token) → accept w k.DoubleColon ≡ false → accept w t.kind ≡ true → first_kind (t ∷ ts) ≡ Some k.DoubleColon → A
not_word w t ts lacks ok e =
    let same : t.kind ≡ k.DoubleColon = same_Some t.kind k.DoubleColon e in
    let bad : accept w k.DoubleColon ≡ true = subst (λ z. accept w z ≡ true) same ok in
    let wrong : true ≡ false = sym bad ∙ lacks in
    cc

stands_rule : (q : Rule) (ns : Nodes) (room : ℕ) (name : Content) (x : Option Kind) (text : List Token) → IsIn q (rules_of f.ConParenEnd) → FitsAll room name ns (body_of q) x → first_kind (spell_all ns ++ text) ≡ Some k.DoubleColon
    → Standing room name (spell_all ns ++ text)
stands_rule q ns room name x text (inl e) fit h =
    let a = headed room name ns (Word k.RightParenthesis) [] x (subst (λ z. FitsAll room name ns (body_of z) x) e fit) in
    let l = leafed room name a.head k.RightParenthesis (front (spell_all a.tail) x) a.fits in
    not_word k.RightParenthesis l.token (spell_all a.tail ++ text) refl l.ok (ap first_kind (sym (ap (λ z. z ++ text) (a.spelled ∙ ap (λ z. z ++ spell_all a.tail) l.spelled))) ∙ h)
stands_rule q ns room name x text (inr (inl e)) fit h =
    let a = headed room name ns (Word k.DoubleColon) (One f.KindTerm ∷ Word k.RightParenthesis ∷ []) x (subst (λ z. FitsAll room name ns (body_of z) x) e fit) in
    let l = leafed room name a.head k.DoubleColon (front (spell_all a.tail) x) a.fits in
    let b = headed room name a.tail (One f.KindTerm) (Word k.RightParenthesis ∷ []) x a.others in
    let d = headed room name b.tail (Word k.RightParenthesis) [] x b.others in
    let m = leafed room name d.head k.RightParenthesis (front (spell_all d.tail) x) d.fits in
    let ended : spell_all b.tail ≡ m.token ∷ [] = d.spelled ∙ ap (λ z. z ++ spell_all d.tail) m.spelled ∙ ap (λ z. m.token ∷ z) (last_none room name d.tail x d.others) in
    let close : m.token.kind ≡ k.RightParenthesis = exact k.RightParenthesis m.token.kind refl m.ok in
    record {
      colons = l.token;
      node = b.head;
      close = m.token;
      rest = text;
      fits = subst (λ y. Fits room name b.head (One f.KindTerm) y) (ap (λ z. front z x) ended ∙ ap Some close) b.fits;
      closes = close;
      is = ap (λ z. z ++ text) (a.spelled ∙ ap (λ z. z ++ spell_all a.tail) l.spelled ∙ ap (λ z. l.token ∷ z) (b.spelled ∙ ap (λ z. spell b.head ++ z) ended)) ∙ ap (λ z. l.token ∷ z) (append_assoc (spell b.head) (m.token ∷ []) text);
    }
stands_rule q ns room name x text (inr (inr (inl e))) fit h =
    let a = headed room name ns (Word k.Comma) (One f.Con ∷ Many f.ConComma ∷ Word k.RightParenthesis ∷ []) x (subst (λ z. FitsAll room name ns (body_of z) x) e fit) in
    let l = leafed room name a.head k.Comma (front (spell_all a.tail) x) a.fits in
    not_word k.Comma l.token (spell_all a.tail ++ text) refl l.ok (ap first_kind (sym (ap (λ z. z ++ text) (a.spelled ∙ ap (λ z. z ++ spell_all a.tail) l.spelled))) ∙ h)
stands_rule q ns room name x text (inr (inr (inr e))) fit h = absurd e

stands_in : (room space inner deep : ℕ) (name own : Content) (text : List Token) → inner + deep ≡ room → Standing inner own text → Standing room name text
stands_in room space inner deep name own text e s = record {
  colons = s.colons;
  node = s.node;
  close = s.close;
  rest = s.rest;
  fits = fits_in s.node (One f.KindTerm) inner room name (Some k.RightParenthesis) (omega (arith, e)) (rename s.node (One f.KindTerm) inner own name (Some k.RightParenthesis) refl s.fits);
  closes = s.closes;
  is = s.is;
}

stands_node : (n : Node) (g : Form) (room : ℕ) (name : Content) (x : Option Kind) (text : List Token) → is_paren_end g ≡ true → Fits room name n (One g) x → first_kind (spell n ++ text) ≡ Some k.DoubleColon → (g ≡ f.ConParenEnd) × Standing room name (spell n ++ text)
stands_node (leaf t) g room name x text i fit h = absurd fit
stands_node (several ns) g room name x text i fit h = absurd fit
stands_node absent g room name x text i fit h = absurd fit
stands_node (present n) g room name x text i fit h = absurd fit
stands_node (branch q ns) f.ConParenEnd room name x text i fit h = (refl, stands_in room room fit.0 (depth_of q) name fit.1 (spell_all ns ++ text) fit.2.room_left (stands_rule q ns fit.0 fit.1 x text fit.2.rule fit.3 h))
stands_node (branch q ns) g room name x text i fit h = cc

stands_here : (items : List Token) (extra : ℕ) (g : Form) (room tag : ℕ) (ws : List Want) (text : List Token) → g ≡ f.ConParenEnd → Standing (room + extra) (name_at items tag) text → MarkStands items (want (One g) room tag ∷ ws) extra text
stands_here items extra g room tag ws text i s = record { want = want (One g) room tag; solid = refl; part = ap One i; colons = s.colons; node = s.node; close = s.close; rest = s.rest; fits = s.fits; closes = s.closes; is = s.is }

-- the same of what stands behind a part that takes no token
stands_later : (items : List Token) (extra : ℕ) (w : Want) (ws : List Want) (text : List Token) → first_solid (w ∷ ws) ≡ first_solid ws → MarkStands items ws extra text → MarkStands items (w ∷ ws) extra text
stands_later items extra w ws text e s = record { want = s.want; solid = e ∙ s.solid; part = s.part; colons = s.colons; node = s.node; close = s.close; rest = s.rest; fits = s.fits; closes = s.closes; is = s.is }

stands_part : (items : List Token) (extra : ℕ) (p : Part) (room tag : ℕ) (ws : List Want) (n : Node) (x : Option Kind) (text : List Token) → Fits (room + extra) (name_at items tag) n p x → colon_next true (p ∷ parts_of ws) ≡ true
    → (colon_next true (parts_of ws) ≡ true → first_kind text ≡ Some k.DoubleColon → MarkStands items ws extra text) → first_kind (spell n ++ text) ≡ Some k.DoubleColon → MarkStands items (want p room tag ∷ ws) extra (spell n ++ text)
stands_part items extra (Word w) room tag ws n x text fit lacks later h =
    let l = leafed (room + extra) (name_at items tag) n w x fit in
    not_word w l.token text (not-true (accept w k.DoubleColon) lacks) l.ok (ap first_kind (sym (ap (λ z. z ++ text) l.spelled)) ∙ h)
stands_part items extra (One g) room tag ws n x text fit lacks later h =
    or_split (is_paren_end g) (not (begins g (Some k.DoubleColon))) lacks (λ i. let s = stands_node n g (room + extra) (name_at items tag) x text i fit h in stands_here items extra g room tag ws (spell n ++ text) s.0 s.1)
    (λ i. led_colon n g (room + extra) (name_at items tag) x text fit i h)
stands_part items extra (Many g) room tag ws (leaf t) x text fit lacks later h = absurd fit
stands_part items extra (Many g) room tag ws (branch q ns) x text fit lacks later h = absurd fit
stands_part items extra (Many g) room tag ws absent x text fit lacks later h = absurd fit
stands_part items extra (Many g) room tag ws (present n) x text fit lacks later h = absurd fit
stands_part items extra (Many g) room tag ws (several none) x text fit lacks later h = stands_later items extra (want (Many g) room tag) ws text refl (later (and_right (not (begins g (Some k.DoubleColon))) (colon_next true (parts_of ws)) lacks) h)
stands_part items extra (Many g) room tag ws (several (more n ns)) x text fit lacks later h =
    led_colon n g (room + extra) (name_at items tag) (front (spell_all ns) x) (spell_all ns ++ text) fit.0 (and_left (not (begins g (Some k.DoubleColon))) (colon_next true (parts_of ws)) lacks) (ap first_kind (sym (append_assoc (spell n) (spell_all ns) text)) ∙ h)
stands_part items extra (Maybe g) room tag ws (leaf t) x text fit lacks later h = absurd fit
stands_part items extra (Maybe g) room tag ws (branch q ns) x text fit lacks later h = absurd fit
stands_part items extra (Maybe g) room tag ws (several ns) x text fit lacks later h = absurd fit
stands_part items extra (Maybe g) room tag ws absent x text fit lacks later h = stands_later items extra (want (Maybe g) room tag) ws text refl (later (and_right (not (begins g (Some k.DoubleColon))) (colon_next true (parts_of ws)) lacks) h)
stands_part items extra (Maybe g) room tag ws (present n) x text fit lacks later h = led_colon n g (room + extra) (name_at items tag) x text fit (and_left (not (begins g (Some k.DoubleColon))) (colon_next true (parts_of ws)) lacks) h

stands : (items : List Token) (extra : ℕ) (ns : Nodes) (ws : List Want) (tail : List Token) → FilledBy extra items ns ws (first_kind tail) → colon_next true (parts_of ws) ≡ true → (first_kind tail ≡ Some k.DoubleColon → ⊥)
    → first_kind (spell_all ns ++ tail) ≡ Some k.DoubleColon → MarkStands items ws extra (spell_all ns ++ tail)
stands items extra none [] tail f lacks plain h = absurd (plain h)
stands items extra none (w ∷ ws) tail f lacks plain h = absurd f
stands items extra (more n ns) [] tail f lacks plain h = absurd f
stands items extra (more n ns) (w ∷ ws) tail f lacks plain h =
    subst (MarkStands items (w ∷ ws) extra) (sym (append_assoc (spell n) (spell_all ns) tail))
    (stands_part items extra w.part w.room w.tag ws n (front (spell_all ns) (first_kind tail)) (spell_all ns ++ tail) f.0 lacks (λ i j. stands items extra ns ws tail f.1 i plain j) (ap first_kind (sym (append_assoc (spell n) (spell_all ns) tail)) ∙ h))

-- behind the open option `::` stands only where the brackets of a constructor end with a kind
pub text_marks : (extra : ℕ) (items : List Token) (g : Form) (room tag : ℕ) (ns : Nodes) (ws : List Want) (e : Bool) (tail : List Token) → Trails e (want (Maybe g) room tag ∷ ws) → Closes e tail
    → FilledBy extra items ns ws (first_kind tail) → first_kind (spell_all ns ++ tail) ≡ Some k.DoubleColon → g ≡ f.ConForall → MarkStands items ws extra (spell_all ns ++ tail)
text_marks extra items g room tag ns ws e tail h c filled colons i = stands items extra ns ws tail filled (lacks (parts_of ws) (subst (λ z. part_ok e true (Maybe z) (parts_of ws) ≡ true) i (and_left (part_ok e true (Maybe g) (parts_of ws)) (tidy e true (parts_of ws)) h))) c.plain colons
  where
    lacks : (ps : List Part) → part_ok e true (Maybe f.ConForall) ps ≡ true → colon_next true ps ≡ true
    lacks ps k = k
