-- What may stand behind a tree: behind an expression nothing at which the scan goes on, and behind a constructor `::` only
-- where a kind and `)` follow.
use Rattle.std.proofs.Common.{◌≡◌, ◌==◌, ℕ, List, [], ◌∷◌, ◌++◌, append_assoc, refl, ap, sym, ◌∙◌, subst, Bool, true, false, not, ◌&&◌, ◌||◌, Option, Some}
use Rattle.std.proofs.Math.Logic.{inl, inr}
use Rattle.std.proofs.lemmas.Bool.{not-true}
use Rattle.surface_tree.specs.declared.kind.Kind.{Kind}
use Rattle.surface_tree.specs.declared.kind.Kind.TheVariants as k
use Rattle.surface_tree.specs.declared.token.Token.{Token}
use Rattle.surface_tree.specs.declared.token.Content.{Content}
use Rattle.surface_grammar.specs.declared.form.Form.{Form}
use Rattle.surface_grammar.specs.declared.form.Form.TheVariants as f
use Rattle.surface_grammar.specs.declared.part.Part.{Part}
use Rattle.surface_grammar.specs.declared.part.Part.TheVariants.{Word, One, Many, Maybe}
use Rattle.surface_grammar.specs.declared.rule.Rule.{Rule}
use Rattle.surface_grammar.specs.Firsts.{first_of}
use Rattle.surface_grammar.specs.Forms.{rules_of}
use Rattle.surface_grammar.specs.Fronts.{first_kind}
use Rattle.surface_grammar.specs.Table.{body_of}
use Rattle.surface_grammar.specs.Trees.{Node, leaf, branch, several, absent, present, Nodes, none, more, spell, spell_all, front, begins, IsIn, Fits, FitsAll, FitsEach}
use Rattle.surface_grammar.specs.Words.{kind_code, accept, any_accepts}
use Rattle.grammar_engine.proofs.Trees.Leading.{node_led}
use Rattle.grammar_engine.proofs.Fronts.Scan.{Turn, up, down, flat, turn_of, outside, after_token, scan}
use Rattle.grammar_engine.proofs.Fronts.Scanned.{accepted}
use Rattle.grammar_engine.proofs.Fronts.Skimmed.{exact}
use Rattle.surface_grammar.proofs.Listed.{of_each_by}
use Rattle.grammar_engine.proofs.Bools.{and_left, and_right, every, every_in, unless, or_split, clash}

-- a tree of the form may end with an expression, with a constructor
abbrev pub is_exp_tail : Form → Bool
is_exp_tail f.Exp = true
is_exp_tail f.ExpBindRest = true
is_exp_tail f.ExpThen = true
is_exp_tail f.Term = true
is_exp_tail f.CaseMore = true
is_exp_tail f.ExpComma = true
is_exp_tail f.ExpFields = true
is_exp_tail f.ExpFieldMore = true
is_exp_tail f.Decl = true
is_exp_tail f.LetDecl = true
is_exp_tail f.ValRest = true
is_exp_tail f.RecMore = true
is_exp_tail f.FunMore = true
is_exp_tail _ = false

abbrev pub is_con_tail : Form → Bool
is_con_tail f.Con = true
is_con_tail f.ConForall = true
is_con_tail f.ConArrow = true
is_con_tail f.ConComma = true
is_con_tail f.ConFieldTypes = true
is_con_tail f.ConFieldMore = true
is_con_tail f.ConRowFields = true
is_con_tail f.ConFieldValue = true
is_con_tail f.ConRowMore = true
is_con_tail f.BracketRest = true
is_con_tail f.BracketNameRest = true
is_con_tail f.BracketUpperRest = true
is_con_tail f.BracketHashRest = true
is_con_tail f.Decl = true
is_con_tail f.TypeMark = true
is_con_tail f.Constructor = true
is_con_tail f.ConstructorOf = true
is_con_tail f.ConstructorMore = true
is_con_tail f.InterfaceItem = true
is_con_tail _ = false

abbrev pub is_paren_end : Form → Bool
is_paren_end f.ConParenEnd = true
is_paren_end _ = false

abbrev ends_turn : Turn → Bool → Bool
ends_turn up o = false
ends_turn down o = true
ends_turn flat o = not o

-- the scan stops at the token
abbrev pub ends_at : Kind → Bool
ends_at x = ends_turn (turn_of x) (outside x true)

-- the scan stops at what begins the parts, where these words begin each form
abbrev ends_by : (Form → List Kind) → Bool → List Part → Bool
ends_by first e [] = e
ends_by first e (Word w ∷ ps) = ends_at w
ends_by first e (One g ∷ ps) = every ends_at (first g)
ends_by first e (Many g ∷ ps) = every ends_at (first g) && ends_by first e ps
ends_by first e (Maybe g ∷ ps) = every ends_at (first g) && ends_by first e ps

abbrev pub ends_next : Bool → List Part → Bool
ends_next e ps = ends_by first_of e ps

-- no `::` begins the parts but one behind a constructor in brackets, where these words begin each form
abbrev colon_by : (Form → List Kind) → Bool → List Part → Bool
colon_by first c [] = c
colon_by first c (Word w ∷ ps) = not (accept w k.DoubleColon)
colon_by first c (One g ∷ ps) = is_paren_end g || not (any_accepts (first g) k.DoubleColon)
colon_by first c (Many g ∷ ps) = not (any_accepts (first g) k.DoubleColon) && colon_by first c ps
colon_by first c (Maybe g ∷ ps) = not (any_accepts (first g) k.DoubleColon) && colon_by first c ps

abbrev pub colon_next : Bool → List Part → Bool
colon_next c ps = colon_by first_of c ps

abbrev ok_by : (Form → List Kind) → Bool → Bool → Part → List Part → Bool
ok_by first e c (Word w) ps = true
ok_by first e c (One g) ps = (not (is_exp_tail g) || ends_by first e ps) && (not (is_con_tail g) || colon_by first c ps)
ok_by first e c (Many g) ps =
    (not (is_exp_tail g) || (every ends_at (first g) && ends_by first e ps))
    && (not (is_con_tail g) || (not (any_accepts (first g) k.DoubleColon) && colon_by first c ps))
ok_by first e c (Maybe g) ps =
    (not (is_exp_tail g) || ends_by first e ps) && (not (is_con_tail g) || colon_by first c ps)

abbrev pub part_ok : Bool → Bool → Part → List Part → Bool
part_ok e c p ps = ok_by first_of e c p ps

abbrev tidy_by : (Form → List Kind) → Bool → Bool → List Part → Bool
tidy_by first e c [] = true
tidy_by first e c (p ∷ ps) = ok_by first e c p ps && tidy_by first e c ps

abbrev pub tidy : Bool → Bool → List Part → Bool
tidy e c ps = tidy_by first_of e c ps

abbrev is_tidy : (Form → List Kind) → Form → Rule → Bool
is_tidy first g q = tidy_by first (is_exp_tail g) (is_con_tail g) (body_of q)

-- computed
all_tidy : (g : Form) → every (is_tidy first_of g) (rules_of g) ≡ true
all_tidy g = of_each_by (λ first g. every (is_tidy first g) (rules_of g)) refl g

pub rule_tidy : (g : Form) (q : Rule) → IsIn q (rules_of g) → tidy (is_exp_tail g) (is_con_tail g) (body_of q) ≡ true
rule_tidy g q i = every_in (is_tidy first_of g) (rules_of g) q (all_tidy g) i

-- `::`, a kind and `)` stand here
pub record MarkedText (text : List Token) : Type 0 where
  pub colons : Token
  pub node : Node
  pub close : Token
  pub rest : List Token
  pub room : ℕ
  pub name : Content
  pub next : Option Kind
  pub fits : Fits room name node (One f.KindTerm) next
  pub closes : close.kind ≡ k.RightParenthesis
  pub is : text ≡ colons ∷ (spell node ++ close ∷ rest)

-- what is known of the text behind a part
abbrev pub Ends : Bool → List Token → Type 0
Ends e text = e ≡ true → scan 0 text ≡ false

abbrev pub Marks : Bool → List Token → Type 0
Marks c text = c ≡ true → first_kind text ≡ Some k.DoubleColon → MarkedText text

pub record Behind (e c : Bool) (text : List Token) : Type 0 where
  pub ends : Ends e text
  pub marks : Marks c text

-- the first of several parts' trees, and the others
pub record Headed (room : ℕ) (name : Content) (ns : Nodes) (p : Part) (ps : List Part) (x : Option Kind) : Type 0 where
  pub head : Node
  pub tail : Nodes
  pub spelled : spell_all ns ≡ spell head ++ spell_all tail
  pub fits : Fits room name head p (front (spell_all tail) x)
  pub others : FitsAll room name tail ps x

pub headed : (room : ℕ) (name : Content) (ns : Nodes) (p : Part) (ps : List Part) (x : Option Kind) → FitsAll room name ns (p ∷ ps) x → Headed room name ns p ps x
headed room name none p ps x fit = absurd fit
headed room name (more n ns) p ps x fit = record { head = n; tail = ns; spelled = refl; fits = fit.0; others = fit.1 }

pub record Leafed (n : Node) (w : Kind) : Type 0 where
  pub token : Token
  pub spelled : spell n ≡ token ∷ []
  pub ok : accept w token.kind ≡ true

pub leafed : (room : ℕ) (name : Content) (n : Node) (w : Kind) (x : Option Kind) → Fits room name n (Word w) x → Leafed n w
leafed room name (leaf t) w x fit = record { token = t; spelled = refl; ok = fit.0 }
leafed room name (branch q ns) w x fit = absurd fit
leafed room name (several ns) w x fit = absurd fit
leafed room name absent w x fit = absurd fit
leafed room name (present n) w x fit = absurd fit

pub last_none : (room : ℕ) (name : Content) (ns : Nodes) (x : Option Kind) → FitsAll room name ns [] x → spell_all ns ≡ []
last_none room name none x fit = refl
last_none room name (more n ns) x fit = absurd fit

outside_stops : (x : Kind) (b : Bool) → outside x true ≡ false → outside x b ≡ false
outside_stops x true e = e
outside_stops k.LeftArrow false e = cc
outside_stops x false e = refl

end_turn : (x : Kind) (v : Turn) (a b c : Bool) → ends_turn v (outside x true) ≡ true → after_token 0 v x a b c ≡ false
end_turn x up a b c e = cc
end_turn x down a b c e = refl
end_turn x flat a b c e = outside_stops x c (not-true (outside x true) e)

pub end_scan : (t : Token) (ts : List Token) → ends_at t.kind ≡ true → scan 0 (t ∷ ts) ≡ false
end_scan t ts e = end_turn t.kind (turn_of t.kind) (scan 1 ts) (scan 0 ts) (scan 0 ts) e

-- a token that begins the form is one of its first words
ends_any : (ws : List Kind) (x : Kind) → any_accepts ws x ≡ true → every ends_at ws ≡ true → ends_at x ≡ true
ends_any [] x h e = cc
ends_any (w ∷ ws) x h e =
    or_split (accept w x) (any_accepts ws x) h (λ i. accepted ends_at w x refl refl refl i ∙ and_left (ends_at w) (every ends_at ws) e) (λ i. ends_any ws x i (and_right (ends_at w) (every ends_at ws) e))

-- what a tree of the form begins with stops the scan
led_ends : (n : Node) (g : Form) (room : ℕ) (name : Content) (x : Option Kind) (text : List Token) → Fits room name n (One g) x → every ends_at (first_of g) ≡ true → scan 0 (spell n ++ text) ≡ false
led_ends n g room name x text fit e =
    let l = node_led n g room name x fit in
    ap (λ z. scan 0 (z ++ text)) l.is ∙ end_scan l.token (l.rest ++ text) (ends_any (first_of g) l.token.kind l.passes e)

each_ends : (ns : Nodes) (g : Form) (room : ℕ) (name : Content) (x : Option Kind) (text : List Token) → FitsEach room name ns g x → every ends_at (first_of g) ≡ true → scan 0 text ≡ false → scan 0 (spell_all ns ++ text) ≡ false
each_ends none g room name x text fit e h = h
each_ends (more n ns) g room name x text fit e h = ap (scan 0) (append_assoc (spell n) (spell_all ns) text) ∙ led_ends n g room name (front (spell_all ns) x) (spell_all ns ++ text) fit.0 e

pub next_part : (n : Node) (p : Part) (ps : List Part) (e : Bool) (room : ℕ) (name : Content) (x : Option Kind) (text : List Token) → Fits room name n p x → ends_next e (p ∷ ps) ≡ true → (ends_next e ps ≡ true → scan 0 text ≡ false) → scan 0 (spell n ++ text) ≡ false
next_part n (Word w) ps e room name x text fit h later =
    let l = leafed room name n w x fit in
    ap (λ z. scan 0 (z ++ text)) l.spelled ∙ end_scan l.token text (accepted ends_at w l.token.kind refl refl refl l.ok ∙ h)
next_part n (One g) ps e room name x text fit h later = led_ends n g room name x text fit h
next_part (leaf t) (Many g) ps e room name x text fit h later = absurd fit
next_part (branch q ns) (Many g) ps e room name x text fit h later = absurd fit
next_part (several ns) (Many g) ps e room name x text fit h later = each_ends ns g room name x text fit (and_left (every ends_at (first_of g)) (ends_next e ps) h) (later (and_right (every ends_at (first_of g)) (ends_next e ps) h))
next_part absent (Many g) ps e room name x text fit h later = absurd fit
next_part (present n) (Many g) ps e room name x text fit h later = absurd fit
next_part (leaf t) (Maybe g) ps e room name x text fit h later = absurd fit
next_part (branch q ns) (Maybe g) ps e room name x text fit h later = absurd fit
next_part (several ns) (Maybe g) ps e room name x text fit h later = absurd fit
next_part absent (Maybe g) ps e room name x text fit h later = later (and_right (every ends_at (first_of g)) (ends_next e ps) h)
next_part (present n) (Maybe g) ps e room name x text fit h later = led_ends n g room name x text fit (and_left (every ends_at (first_of g)) (ends_next e ps) h)

-- the scan stops at what the parts begin with, or at what follows them
next_ends : (ns : Nodes) (ps : List Part) (e : Bool) (room : ℕ) (name : Content) (x : Option Kind) (text : List Token) → FitsAll room name ns ps x → ends_next e ps ≡ true → Ends e text → scan 0 (spell_all ns ++ text) ≡ false
next_ends none [] e room name x text fit h after = after h
next_ends none (p ∷ ps) e room name x text fit h after = absurd fit
next_ends (more n ns) [] e room name x text fit h after = absurd fit
next_ends (more n ns) (p ∷ ps) e room name x text fit h after =
    ap (scan 0) (append_assoc (spell n) (spell_all ns) text) ∙ next_part n p ps e room name (front (spell_all ns) x) (spell_all ns ++ text) fit.0 h (λ i. next_ends ns ps e room name x text fit.1 i after)

-- a tree that ends a constructor in brackets and begins with `::` is a kind with `)` behind it
marked_rule : (q : Rule) (ns : Nodes) (room : ℕ) (name : Content) (x : Option Kind) (text : List Token) → IsIn q (rules_of f.ConParenEnd) → FitsAll room name ns (body_of q) x → first_kind (spell_all ns ++ text) ≡ Some k.DoubleColon → MarkedText (spell_all ns ++ text)
marked_rule q ns room name x text (inl e) fit h =
    let a = headed room name ns (Word k.RightParenthesis) [] x (subst (λ z. FitsAll room name ns (body_of z) x) e fit) in
    let l = leafed room name a.head k.RightParenthesis (front (spell_all a.tail) x) a.fits in
    wrong k.RightParenthesis l.token ((spell_all a.tail) ++ text) refl refl l.ok (ap first_kind (sym (ap (λ z. z ++ text) (a.spelled ∙ ap (λ z. z ++ spell_all a.tail) l.spelled))) ∙ h)
  where
    wrong : {A : Type 0} (w : Kind) (t : Token) (ts : List Token) → (kind_code w == kind_code k.UpperName) ≡ false → accept w k.DoubleColon ≡ false → accept w t.kind ≡ true → first_kind (t ∷ ts) ≡ Some k.DoubleColon → A
    wrong w t ts u lacks ok e = let same : t.kind ≡ k.DoubleColon = cc in let bad : accept w k.DoubleColon ≡ true = subst (λ z. accept w z ≡ true) same ok in cc
marked_rule q ns room name x text (inr (inl e)) fit h =
    let a = headed room name ns (Word k.DoubleColon) (One f.KindTerm ∷ Word k.RightParenthesis ∷ []) x (subst (λ z. FitsAll room name ns (body_of z) x) e fit) in
    let l = leafed room name a.head k.DoubleColon (front (spell_all a.tail) x) a.fits in
    let b = headed room name a.tail (One f.KindTerm) (Word k.RightParenthesis ∷ []) x a.others in
    let d = headed room name b.tail (Word k.RightParenthesis) [] x b.others in
    let m = leafed room name d.head k.RightParenthesis (front (spell_all d.tail) x) d.fits in
    let ended : spell_all b.tail ≡ m.token ∷ [] = d.spelled ∙ ap (λ z. z ++ spell_all d.tail) m.spelled ∙ ap (λ z. m.token ∷ z) (last_none room name d.tail x d.others) in
    record {
      colons = l.token;
      node = b.head;
      close = m.token;
      rest = text;
      room = room;
      name = name;
      next = front (spell_all b.tail) x;
      fits = b.fits;
      closes = exact k.RightParenthesis m.token.kind refl m.ok;
      is = ap (λ z. z ++ text) (a.spelled ∙ ap (λ z. z ++ spell_all a.tail) l.spelled ∙ ap (λ z. l.token ∷ z) (b.spelled ∙ ap (λ z. spell b.head ++ z) ended)) ∙ ap (λ z. l.token ∷ z) (append_assoc (spell b.head) (m.token ∷ []) text);
    }
marked_rule q ns room name x text (inr (inr (inl e))) fit h =
    let a = headed room name ns (Word k.Comma) (One f.Con ∷ Many f.ConComma ∷ Word k.RightParenthesis ∷ []) x (subst (λ z. FitsAll room name ns (body_of z) x) e fit) in
    let l = leafed room name a.head k.Comma (front (spell_all a.tail) x) a.fits in
    wrong k.Comma l.token ((spell_all a.tail) ++ text) refl refl l.ok (ap first_kind (sym (ap (λ z. z ++ text) (a.spelled ∙ ap (λ z. z ++ spell_all a.tail) l.spelled))) ∙ h)
  where
    wrong : {A : Type 0} (w : Kind) (t : Token) (ts : List Token) → (kind_code w == kind_code k.UpperName) ≡ false → accept w k.DoubleColon ≡ false → accept w t.kind ≡ true → first_kind (t ∷ ts) ≡ Some k.DoubleColon → A
    wrong w t ts u lacks ok e = let same : t.kind ≡ k.DoubleColon = cc in let bad : accept w k.DoubleColon ≡ true = subst (λ z. accept w z ≡ true) same ok in cc
marked_rule q ns room name x text (inr (inr (inr e))) fit h = absurd e

marked_node : (n : Node) (g : Form) (room : ℕ) (name : Content) (x : Option Kind) (text : List Token) → is_paren_end g ≡ true → Fits room name n (One g) x → first_kind (spell n ++ text) ≡ Some k.DoubleColon → MarkedText (spell n ++ text)
marked_node (leaf t) g room name x text i fit h = absurd fit
marked_node (several ns) g room name x text i fit h = absurd fit
marked_node absent g room name x text i fit h = absurd fit
marked_node (present n) g room name x text i fit h = absurd fit
marked_node (branch q ns) f.ConParenEnd room name x text i fit h = marked_rule q ns fit.0 fit.1 x text fit.2.rule fit.3 h
marked_node (branch q ns) g room name x text i fit h = cc

-- a tree of a form that `::` doesn't begin doesn't begin with it
pub led_colon : {A : Type 0} (n : Node) (g : Form) (room : ℕ) (name : Content) (x : Option Kind) (text : List Token) → Fits room name n (One g) x → not (begins g (Some k.DoubleColon)) ≡ true → first_kind (spell n ++ text) ≡ Some k.DoubleColon → A
led_colon n g room name x text fit lacks h =
    let l = node_led n g room name x fit in
    let first : Some l.token.kind ≡ Some k.DoubleColon = sym (ap (λ z. first_kind (z ++ text)) l.is) ∙ h in
    let begun : begins g (Some k.DoubleColon) ≡ true = ap (begins g) (sym first) ∙ l.passes in
    let bad : begins g (Some k.DoubleColon) ≡ false = not-true (begins g (Some k.DoubleColon)) lacks in
    let same : true ≡ false = sym begun ∙ bad in cc

colon_each : (ns : Nodes) (g : Form) (room : ℕ) (name : Content) (x : Option Kind) (text : List Token) → FitsEach room name ns g x → not (begins g (Some k.DoubleColon)) ≡ true → (first_kind text ≡ Some k.DoubleColon → MarkedText text) → first_kind (spell_all ns ++ text) ≡ Some k.DoubleColon → MarkedText (spell_all ns ++ text)
colon_each none g room name x text fit lacks later h = later h
colon_each (more n ns) g room name x text fit lacks later h = led_colon n g room name (front (spell_all ns) x) (spell_all ns ++ text) fit.0 lacks (ap first_kind (sym (append_assoc (spell n) (spell_all ns) text)) ∙ h)

colon_part : (n : Node) (p : Part) (ps : List Part) (c : Bool) (room : ℕ) (name : Content) (x : Option Kind) (text : List Token) → Fits room name n p x → colon_next c (p ∷ ps) ≡ true → (colon_next c ps ≡ true → first_kind text ≡ Some k.DoubleColon → MarkedText text)
    → first_kind (spell n ++ text) ≡ Some k.DoubleColon → MarkedText (spell n ++ text)
colon_part n (Word w) ps c room name x text fit lacks later h =
    let l = leafed room name n w x fit in
    let first : Some l.token.kind ≡ Some k.DoubleColon = sym (ap (λ z. first_kind (z ++ text)) l.spelled) ∙ h in
    wrong l.token.kind first l.ok
  where
    wrong : {A : Type 0} (y : Kind) → Some y ≡ Some k.DoubleColon → accept w y ≡ true → A
    wrong y e ok = let same : y ≡ k.DoubleColon = cc in let bad : accept w k.DoubleColon ≡ true = subst (λ z. accept w z ≡ true) same ok in let good : accept w k.DoubleColon ≡ false = not-true (accept w k.DoubleColon) lacks in let clash : true ≡ false = sym bad ∙ good in cc
colon_part n (One g) ps c room name x text fit lacks later h = or_split (is_paren_end g) (not (begins g (Some k.DoubleColon))) lacks (λ i. marked_node n g room name x text i fit h) (λ i. led_colon n g room name x text fit i h)
colon_part (leaf t) (Many g) ps c room name x text fit lacks later h = absurd fit
colon_part (branch q ns) (Many g) ps c room name x text fit lacks later h = absurd fit
colon_part (several ns) (Many g) ps c room name x text fit lacks later h = colon_each ns g room name x text fit (and_left (not (begins g (Some k.DoubleColon))) (colon_next c ps) lacks) (later (and_right (not (begins g (Some k.DoubleColon))) (colon_next c ps) lacks)) h
colon_part absent (Many g) ps c room name x text fit lacks later h = absurd fit
colon_part (present n) (Many g) ps c room name x text fit lacks later h = absurd fit
colon_part (leaf t) (Maybe g) ps c room name x text fit lacks later h = absurd fit
colon_part (branch q ns) (Maybe g) ps c room name x text fit lacks later h = absurd fit
colon_part (several ns) (Maybe g) ps c room name x text fit lacks later h = absurd fit
colon_part absent (Maybe g) ps c room name x text fit lacks later h = later (and_right (not (begins g (Some k.DoubleColon))) (colon_next c ps) lacks) h
colon_part (present n) (Maybe g) ps c room name x text fit lacks later h = led_colon n g room name x text fit (and_left (not (begins g (Some k.DoubleColon))) (colon_next c ps) lacks) h

-- where `::` comes next, a kind and `)` stand there
next_marks : (ns : Nodes) (ps : List Part) (c : Bool) (room : ℕ) (name : Content) (x : Option Kind) (text : List Token) → FitsAll room name ns ps x → colon_next c ps ≡ true → Marks c text → first_kind (spell_all ns ++ text) ≡ Some k.DoubleColon → MarkedText (spell_all ns ++ text)
next_marks none [] c room name x text fit lacks after h = after lacks h
next_marks none (p ∷ ps) c room name x text fit lacks after h = absurd fit
next_marks (more n ns) [] c room name x text fit lacks after h = absurd fit
next_marks (more n ns) (p ∷ ps) c room name x text fit lacks after h =
    subst MarkedText (sym (append_assoc (spell n) (spell_all ns) text))
    (colon_part n p ps c room name (front (spell_all ns) x) (spell_all ns ++ text) fit.0 lacks (λ i j. next_marks ns ps c room name x text fit.1 i after j) (ap first_kind (sym (append_assoc (spell n) (spell_all ns) text)) ∙ h))

-- a part is tidy before a text: what follows it, and of a repetition what begins its trees
pub record Tidy (room : ℕ) (name : Content) (p : Part) (text : List Token) : Type 0 where
  pub e : Bool
  pub c : Bool
  pub ps : List Part
  pub ns : Nodes
  pub next : Option Kind
  pub rest : List Token
  pub fits : FitsAll room name ns ps next
  pub next_is : next ≡ first_kind rest
  pub is : text ≡ spell_all ns ++ rest
  pub ok : part_ok e c p ps ≡ true
  pub ends : Ends e rest
  pub marks : Marks c rest

pub tidy_ends : (room : ℕ) (name : Content) (g : Form) (text : List Token) → Tidy room name (One g) text → is_exp_tail g ≡ true → scan 0 text ≡ false
tidy_ends room name g text t i = ap (scan 0) t.is ∙ next_ends t.ns t.ps t.e room name t.next t.rest t.fits (unless (is_exp_tail g) (ends_next t.e t.ps) (and_left (not (is_exp_tail g) || ends_next t.e t.ps) _ t.ok) i) t.ends

pub tidy_marks : (room : ℕ) (name : Content) (g : Form) (text : List Token) → Tidy room name (One g) text → is_con_tail g ≡ true → first_kind text ≡ Some k.DoubleColon → MarkedText text
tidy_marks room name g text t i h =
    subst MarkedText (sym t.is)
    (next_marks t.ns t.ps t.c room name t.next t.rest t.fits (unless (is_con_tail g) (colon_next t.c t.ps) (and_right (not (is_exp_tail g) || ends_next t.e t.ps) _ t.ok) i) t.marks (ap first_kind (sym t.is) ∙ h))
