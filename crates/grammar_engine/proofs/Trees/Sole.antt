-- Two trees of a part at the front of one list of tokens, behind which stands what may stand there, are one tree.
use Rattle.std.proofs.Common.{◌≡◌, ℕ, List, [], ◌∷◌, ◌++◌, refl, ap, sym, ◌∙◌, subst, append_assoc, Bool, true, false, not, ◌&&◌, ◌||◌, Option, Some, None}
use Rattle.std.proofs.lemmas.Bool.{cases_Bool}
use Rattle.surface_tree.specs.declared.kind.Kind.{Kind}
use Rattle.surface_tree.specs.declared.kind.Kind.TheVariants as k
use Rattle.surface_tree.specs.declared.token.Token.{Token}
use Rattle.surface_tree.specs.declared.token.Content.{Content}
use Rattle.surface_grammar.specs.declared.form.Form.{Form}
use Rattle.surface_grammar.specs.declared.form.Form.TheVariants as f
use Rattle.surface_grammar.specs.declared.part.Part.{Part}
use Rattle.surface_grammar.specs.declared.part.Part.TheVariants.{Word, One, Many, Maybe}
use Rattle.surface_grammar.specs.declared.rule.Rule.{Rule}
use Rattle.surface_grammar.specs.Firsts.{first_of}
use Rattle.surface_grammar.specs.Forms.{rules_of}
use Rattle.surface_grammar.specs.Fronts.{first_kind}
use Rattle.surface_grammar.specs.Leads.{starts}
use Rattle.surface_grammar.specs.Table.{body_of}
use Rattle.surface_grammar.specs.Trees.{Node, leaf, branch, several, absent, present, Nodes, none, more, spell, spell_all, front, begins, is_open, IsIn, Built, Fits, FitsAll, FitsEach}
use Rattle.surface_grammar.specs.Words.{accept}
use Rattle.grammar_engine.specs.Laws.{is_raced_form}
use Rattle.grammar_engine.specs.Single.{is_text_part, OnlyTree}
use Rattle.surface_grammar.specs.Listings.{Listing, Lists}
use Rattle.surface_grammar.specs.Refusals.{WholeTree}
use Rattle.std.proofs.Math.Logic.{◌⊎◌, inl, inr}
use Rattle.grammar_engine.proofs.Fronts.ConFronts.{kinds_apart}
use Rattle.grammar_engine.proofs.Fronts.Context.{is_exp_tail, is_con_tail, part_ok, tidy, rule_tidy, Ends, Marks, MarkedText, headed, leafed, Tidy, tidy_ends, tidy_marks}
use Rattle.grammar_engine.proofs.Table.Decided.{rule_solid, one_rule}
use Rattle.grammar_engine.proofs.Trees.Leading.{started, node_led, nodes_led}
use Rattle.grammar_engine.proofs.Fronts.ListFronts.{splices_apart}
use Rattle.grammar_engine.proofs.Fronts.Scan.{scan}
use Rattle.grammar_engine.proofs.Fronts.Scanned.{bindings_apart}
use Rattle.grammar_engine.proofs.Fronts.Skimmed.{exact}
use Rattle.grammar_engine.proofs.Trees.Unique.{front_kind, begun_kind, first_same, is_left_open}
use Rattle.grammar_engine.proofs.Bools.{and_left, and_right, both_open, clash}
use Rattle.grammar_engine.proofs.Trees.TextParts.{part_whole}

pub record Same (n o : Node) (after behind : List Token) : Type 0 where
  pub tree : n ≡ o
  pub rest : after ≡ behind

pub record SameAll (ns os : Nodes) (after behind : List Token) : Type 0 where
  pub trees : ns ≡ os
  pub rest : after ≡ behind

or_first : (b : Bool) → (b || false) ≡ true → b ≡ true
or_first true h = refl
or_first false h = h

pub arrow : (x : Kind) → begins f.ExpBindRest (Some x) ≡ true → x ≡ k.LeftArrow
unfolding first_of
arrow x h = exact k.LeftArrow x refl (or_first (accept k.LeftArrow x) h)

-- a binding is no other expression, where the scan stops at what follows
pub bind_clash : {A : Type 0} (ns os : Nodes) (after behind : List Token) (inner inside : ℕ) (own mine : Content) → FitsAll inner own ns (One f.Pat ∷ One f.ExpBindRest ∷ []) (first_kind after)
    → FitsAll inside mine os (One f.Term ∷ Maybe f.ExpThen ∷ []) (first_kind behind) → spell_all ns ++ after ≡ spell_all os ++ behind → scan 0 behind ≡ false → A
bind_clash ns os after behind inner inside own mine fit fit' e quiet =
    let a = headed inner own ns (One f.Pat) (One f.ExpBindRest ∷ []) (first_kind after) fit in
    let b = headed inner own a.tail (One f.ExpBindRest) [] (first_kind after) a.others in
    let l = node_led b.head f.ExpBindRest inner own (front (spell_all b.tail) (first_kind after)) b.fits in
    let text : spell_all ns ++ after ≡ spell a.head ++ l.token ∷ ((l.rest ++ spell_all b.tail) ++ after) =
    ap (λ z. z ++ after) (a.spelled ∙ ap (λ z. spell a.head ++ z) (b.spelled ∙ ap (λ z. z ++ spell_all b.tail) l.is)) ∙ append_assoc (spell a.head) (l.token ∷ (l.rest ++ spell_all b.tail)) after in
    absurd (bindings_apart a.head os inner inside own mine (front (spell_all a.tail) (first_kind after)) (first_kind behind) l.token ((l.rest ++ spell_all b.tail) ++ after) behind a.fits fit' (sym text ∙ e) (arrow l.token.kind l.passes) quiet)

-- the rules of the two raced forms are told apart by what follows
raced_rule : (g : Form) (q p : Rule) (ns os : Nodes) (after behind : List Token) (inner inside : ℕ) (own mine : Content) → is_raced_form g ≡ true → IsIn q (rules_of g) → IsIn p (rules_of g)
    → FitsAll inner own ns (body_of q) (first_kind after) → FitsAll inside mine os (body_of p) (first_kind behind) → spell_all ns ++ after ≡ spell_all os ++ behind
    → (is_exp_tail g ≡ true → scan 0 after ≡ false) → (is_exp_tail g ≡ true → scan 0 behind ≡ false) → q ≡ p
raced_rule f.Exp q p ns os after behind inner inside own mine i (inl e) (inl e') fit fit' is u v = e ∙ sym e'
raced_rule f.Exp q p ns os after behind inner inside own mine i (inl e) (inr (inl e')) fit fit' is u v =
    bind_clash ns os after behind inner inside own mine (subst (λ z. FitsAll inner own ns (body_of z) (first_kind after)) e fit) (subst (λ z. FitsAll inside mine os (body_of z) (first_kind behind)) e' fit') is (v refl)
raced_rule f.Exp q p ns os after behind inner inside own mine i (inl e) (inr (inr e')) fit fit' is u v = absurd e'
raced_rule f.Exp q p ns os after behind inner inside own mine i (inr (inl e)) (inl e') fit fit' is u v =
    bind_clash os ns behind after inside inner mine own (subst (λ z. FitsAll inside mine os (body_of z) (first_kind behind)) e' fit') (subst (λ z. FitsAll inner own ns (body_of z) (first_kind after)) e fit) (sym is) (u refl)
raced_rule f.Exp q p ns os after behind inner inside own mine i (inr (inl e)) (inr (inl e')) fit fit' is u v = e ∙ sym e'
raced_rule f.Exp q p ns os after behind inner inside own mine i (inr (inl e)) (inr (inr e')) fit fit' is u v = absurd e'
raced_rule f.Exp q p ns os after behind inner inside own mine i (inr (inr e)) j fit fit' is u v = absurd e
raced_rule f.SqlBraceRest q p ns os after behind inner inside own mine i (inl e) (inl e') fit fit' is u v = e ∙ sym e'
raced_rule f.SqlBraceRest q p ns os after behind inner inside own mine i (inl e) (inr (inl e')) fit fit' is u v =
    splices_apart ns os inner inside own mine (first_kind after) (first_kind behind) after behind (subst (λ z. FitsAll inner own ns (body_of z) (first_kind after)) e fit) (subst (λ z. FitsAll inside mine os (body_of z) (first_kind behind)) e' fit') is
raced_rule f.SqlBraceRest q p ns os after behind inner inside own mine i (inl e) (inr (inr e')) fit fit' is u v = absurd e'
raced_rule f.SqlBraceRest q p ns os after behind inner inside own mine i (inr (inl e)) (inl e') fit fit' is u v =
    splices_apart os ns inside inner mine own (first_kind behind) (first_kind after) behind after (subst (λ z. FitsAll inside mine os (body_of z) (first_kind behind)) e' fit') (subst (λ z. FitsAll inner own ns (body_of z) (first_kind after)) e fit) (sym is)
raced_rule f.SqlBraceRest q p ns os after behind inner inside own mine i (inr (inl e)) (inr (inl e')) fit fit' is u v = e ∙ sym e'
raced_rule f.SqlBraceRest q p ns os after behind inner inside own mine i (inr (inl e)) (inr (inr e')) fit fit' is u v = absurd e'
raced_rule f.SqlBraceRest q p ns os after behind inner inside own mine i (inr (inr e)) j fit fit' is u v = absurd e
raced_rule g q p ns os after behind inner inside own mine i a b fit fit' is u v = cc

same_rule : (g : Form) (q p : Rule) (ns os : Nodes) (after behind : List Token) (inner inside room space : ℕ) (own mine name other : Content)
    → Built room inner name own q g (front (spell_all ns) (first_kind after)) → Built space inside other mine p g (front (spell_all os) (first_kind behind))
    → FitsAll inner own ns (body_of q) (first_kind after) → FitsAll inside mine os (body_of p) (first_kind behind) → spell_all ns ++ after ≡ spell_all os ++ behind
    → (is_exp_tail g ≡ true → scan 0 after ≡ false) → (is_exp_tail g ≡ true → scan 0 behind ≡ false) → (is_raced_form g ≡ true) ⊎ (is_raced_form g ≡ false) → q ≡ p
same_rule g q p ns os after behind inner inside room space own mine name other b b' fit fit' e u v (inl raced) = raced_rule g q p ns os after behind inner inside own mine raced b.rule b'.rule fit fit' e u v
same_rule g q p ns os after behind inner inside room space own mine name other b b' fit fit' e u v (inr calm) =
    let l = nodes_led ns (body_of q) inner own (first_kind after) (rule_solid g q b.rule) fit in
    let m = nodes_led os (body_of p) inside mine (first_kind behind) (rule_solid g p b'.rule) fit' in
    let same = first_same l.token m.token l.rest m.rest (spell_all ns) (spell_all os) after behind l.is m.is e in
    let here : starts q l.token.kind ≡ true = started q (spell_all ns) (first_kind after) l.token l.rest l.is b.free l.passes in
    let there : starts p m.token.kind ≡ true = started p (spell_all os) (first_kind behind) m.token m.rest m.is b'.free m.passes in
    one_rule g q p l.token.kind calm b.rule b'.rule here (subst (λ t. starts p t.kind ≡ true) (sym same) there)

-- the parts of a rule are tidy before what follows its tree
inside_tidy : (g : Form) (ns : Nodes) (p : Part) (ps : List Part) (room : ℕ) (name : Content) (text : List Token) → FitsAll room name ns ps (first_kind text) → part_ok (is_exp_tail g) (is_con_tail g) p ps ≡ true
    → Ends (is_exp_tail g) text → Marks (is_con_tail g) text → Tidy room name p (spell_all ns ++ text)
inside_tidy g ns p ps room name text fit ok ends marks =
    record { e = is_exp_tail g; c = is_con_tail g; ps = ps; ns = ns; next = first_kind text; rest = text; fits = fit; next_is = refl; is = refl; ok = ok; ends = ends; marks = marks }

-- a tree of a repetition before the others
item_tidy : (g : Form) (ns : Nodes) (room : ℕ) (name : Content) (text : List Token) → FitsEach room name ns g (first_kind text) → Tidy room name (Many g) text → Tidy room name (One g) (spell_all ns ++ text)
item_tidy g ns room name text fit t =
    let first : first_kind text ≡ front (spell_all t.ns) t.next = ap first_kind t.is ∙ sym (front_kind (spell_all t.ns) t.rest) ∙ ap (front (spell_all t.ns)) (sym t.next_is) in
    record {
      e = t.e;
      c = t.c;
      ps = Many g ∷ t.ps;
      ns = more (several ns) t.ns;
      next = t.next;
      rest = t.rest;
      fits = (subst (λ x. FitsEach room name ns g x) first fit, t.fits);
      next_is = t.next_is;
      is = ap (λ z. spell_all ns ++ z) t.is ∙ sym (append_assoc (spell_all ns) (spell_all t.ns) t.rest);
      ok = t.ok;
      ends = t.ends;
      marks = t.marks;
    }

option_tidy : (g : Form) (room : ℕ) (name : Content) (text : List Token) → Tidy room name (Maybe g) text → Tidy room name (One g) text
option_tidy g room name text t = record { e = t.e; c = t.c; ps = t.ps; ns = t.ns; next = t.next; rest = t.rest; fits = t.fits; next_is = t.next_is; is = t.is; ok = t.ok; ends = t.ends; marks = t.marks }

-- only one option is open, and no repetition of it is tidy
pub open_is : (g : Form) (x : Option Kind) → is_open g x ≡ true → (g ≡ f.ConForall) × (x ≡ Some k.DoubleColon)
open_is f.ConForall (Some k.DoubleColon) h = (refl, refl)
open_is f.ConForall None h = cc
open_is f.ConForall (Some x) h = cc
open_is g x h = cc

many_forall : {A : Type 0} (e c : Bool) (ps : List Part) → part_ok e c (Many f.ConForall) ps ≡ true → A
unfolding first_of
many_forall e c ps h = cc

pub not_many : {A : Type 0} (e c : Bool) (ps : List Part) (g : Form) → g ≡ f.ConForall → part_ok e c (Many g) ps ≡ true → A
not_many e c ps g i h = many_forall e c ps (subst (λ z. part_ok e c (Many z) ps ≡ true) i h)

-- the open option is there, or a kind and `)` follow: not both
pub forall_rule : {A : Type 0} (q : Rule) (ns : Nodes) (room : ℕ) (name : Content) (after behind : List Token) → IsIn q (rules_of f.ConForall) → FitsAll room name ns (body_of q) (first_kind after) → spell_all ns ++ after ≡ behind → first_kind behind ≡ Some k.DoubleColon → MarkedText behind → A
forall_rule q ns room name after behind (inl e) fit is colons m =
    let a = headed room name ns (Word k.DoubleColon) (One f.KindAtom ∷ Word k.Arrow ∷ One f.Con ∷ []) (first_kind after) (subst (λ z. FitsAll room name ns (body_of z) (first_kind after)) e fit) in
    let l = leafed room name a.head k.DoubleColon (front (spell_all a.tail) (first_kind after)) a.fits in
    let b = headed room name a.tail (One f.KindAtom) (Word k.Arrow ∷ One f.Con ∷ []) (first_kind after) a.others in
    let c = headed room name b.tail (Word k.Arrow) (One f.Con ∷ []) (first_kind after) b.others in
    let w = leafed room name c.head k.Arrow (front (spell_all c.tail) (first_kind after)) c.fits in
    let d = headed room name c.tail (One f.Con) [] (first_kind after) c.others in
    let inner : spell_all a.tail ≡ spell b.head ++ w.token ∷ (spell d.head ++ spell_all d.tail) = b.spelled ∙ ap (λ z. spell b.head ++ z) (c.spelled ∙ ap (λ z. z ++ spell_all c.tail) w.spelled ∙ ap (λ z. w.token ∷ z) d.spelled) in
    let text : spell_all ns ++ after ≡ l.token ∷ (spell b.head ++ w.token ∷ (spell d.head ++ (spell_all d.tail ++ after))) =
    ap (λ z. z ++ after) (a.spelled ∙ ap (λ z. z ++ spell_all a.tail) l.spelled ∙ ap (λ z. l.token ∷ z) inner)
    ∙ ap (λ z. l.token ∷ z) (append_assoc (spell b.head) (w.token ∷ (spell d.head ++ spell_all d.tail)) after ∙ ap (λ z. spell b.head ++ w.token ∷ z) (append_assoc (spell d.head) (spell_all d.tail) after)) in
    let same = tail_same m.colons l.token _ _ (sym m.is ∙ sym is ∙ text) in
    absurd (kinds_apart m.node b.head d.head m.room room room m.name name name m.next (front (spell_all b.tail) (first_kind after)) (front (spell_all d.tail) (first_kind after)) m.close w.token m.rest (spell_all d.tail ++ after) m.fits b.fits d.fits m.closes (exact k.Arrow w.token.kind refl w.ok) same)
  where
    tail_same : (t u : Token) (ts us : List Token) → t ∷ ts ≡ u ∷ us → ts ≡ us
    tail_same t u ts us e = cc
forall_rule q ns room name after behind (inr (inl e)) fit is colons m =
    let a = headed room name ns (Word k.TripleColon) (One f.KindAtom ∷ Word k.Arrow ∷ One f.Con ∷ []) (first_kind after) (subst (λ z. FitsAll room name ns (body_of z) (first_kind after)) e fit) in
    let l = leafed room name a.head k.TripleColon (front (spell_all a.tail) (first_kind after)) a.fits in
    let first : Some l.token.kind ≡ Some k.DoubleColon = sym (ap (λ z. first_kind (z ++ after)) (a.spelled ∙ ap (λ z. z ++ spell_all a.tail) l.spelled)) ∙ ap first_kind is ∙ colons in
    let three : l.token.kind ≡ k.TripleColon = exact k.TripleColon l.token.kind refl l.ok in
    let clash : Some k.TripleColon ≡ Some k.DoubleColon = ap Some (sym three) ∙ first in
    cc
forall_rule q ns room name after behind (inr (inr e)) fit is colons m = absurd e

forall_clash : {A : Type 0} (g : Form) (n : Node) (room space : ℕ) (name other : Content) (after behind : List Token) → is_open g (first_kind behind) ≡ true → Fits room name n (One g) (first_kind after) → spell n ++ after ≡ behind → Tidy space other (Maybe g) behind → A
forall_clash g n room space name other after behind o fit is t =
    let i = open_is g (first_kind behind) o in
    by_node n (subst (λ z. Fits room name n (One z) (first_kind after)) i.0 fit) is (tidy_marks space other f.ConForall behind (subst (λ z. Tidy space other (One z) behind) i.0 (option_tidy g space other behind t)) refl i.1)
  where
    by_node : {A : Type 0} (n : Node) → Fits room name n (One f.ConForall) (first_kind after) → spell n ++ after ≡ behind → MarkedText behind → A
    by_node (leaf u) fit is m = absurd fit
    by_node (several ns) fit is m = absurd fit
    by_node absent fit is m = absurd fit
    by_node (present n) fit is m = absurd fit
    by_node (branch q ns) fit is m = forall_rule q ns fit.0 fit.1 after behind fit.2.rule fit.3 is (open_is g (first_kind behind) o).1 m

mutual
  pub same_node : (n o : Node) (p : Part) (after behind : List Token) (room space : ℕ) (name other : Content) → Fits room name n p (first_kind after) → Fits space other o p (first_kind behind) → spell n ++ after ≡ spell o ++ behind
      → Tidy room name p after → Tidy space other p behind → Same n o after behind
  same_node (leaf t) (leaf u) (Word w) after behind room space name other f f' e u1 u2 = record { tree = ap leaf cc; rest = cc }
  same_node (leaf t) (branch q ns) (Word w) after behind room space name other f f' e u1 u2 = absurd f'
  same_node (leaf t) (several ns) (Word w) after behind room space name other f f' e u1 u2 = absurd f'
  same_node (leaf t) absent (Word w) after behind room space name other f f' e u1 u2 = absurd f'
  same_node (leaf t) (present o) (Word w) after behind room space name other f f' e u1 u2 = absurd f'
  same_node (branch q ns) o (Word w) after behind room space name other f f' e u1 u2 = absurd f
  same_node (several ns) o (Word w) after behind room space name other f f' e u1 u2 = absurd f
  same_node absent o (Word w) after behind room space name other f f' e u1 u2 = absurd f
  same_node (present n) o (Word w) after behind room space name other f f' e u1 u2 = absurd f
  same_node (leaf t) o (One g) after behind room space name other f f' e u1 u2 = absurd f
  same_node (several ns) o (One g) after behind room space name other f f' e u1 u2 = absurd f
  same_node absent o (One g) after behind room space name other f f' e u1 u2 = absurd f
  same_node (present n) o (One g) after behind room space name other f f' e u1 u2 = absurd f
  same_node (branch q ns) (leaf u) (One g) after behind room space name other f f' e u1 u2 = absurd f'
  same_node (branch q ns) (several os) (One g) after behind room space name other f f' e u1 u2 = absurd f'
  same_node (branch q ns) absent (One g) after behind room space name other f f' e u1 u2 = absurd f'
  same_node (branch q ns) (present o) (One g) after behind room space name other f f' e u1 u2 = absurd f'
  same_node (branch q ns) (branch p os) (One g) after behind room space name other f f' e u1 u2 =
      let rule : q ≡ p = same_rule g q p ns os after behind f.0 f'.0 room space f.1 f'.1 name other f.2 f'.2 f.3 f'.3 e (λ i. tidy_ends room name g after u1 i) (λ i. tidy_ends space other g behind u2 i) (cases_Bool (is_raced_form g)) in
      let fits : FitsAll f'.0 f'.1 os (body_of q) (first_kind behind) = subst (λ z. FitsAll f'.0 f'.1 os (body_of z) (first_kind behind)) (sym rule) f'.3 in
      let inside = same_nodes g ns os (body_of q) after behind f.0 f'.0 f.1 f'.1 f.3 fits e (rule_tidy g q f.2.rule) (λ i. tidy_ends room name g after u1 i) (λ i. tidy_marks room name g after u1 i) (λ i. tidy_ends space other g behind u2 i) (λ i. tidy_marks space other g behind u2 i) in
      record { tree = ap (branch q) inside.trees ∙ ap (λ z. branch z os) rule; rest = inside.rest }
  same_node (leaf t) o (Many g) after behind room space name other f f' e u1 u2 = absurd f
  same_node (branch q ns) o (Many g) after behind room space name other f f' e u1 u2 = absurd f
  same_node absent o (Many g) after behind room space name other f f' e u1 u2 = absurd f
  same_node (present n) o (Many g) after behind room space name other f f' e u1 u2 = absurd f
  same_node (several ns) (leaf u) (Many g) after behind room space name other f f' e u1 u2 = absurd f'
  same_node (several ns) (branch q os) (Many g) after behind room space name other f f' e u1 u2 = absurd f'
  same_node (several ns) absent (Many g) after behind room space name other f f' e u1 u2 = absurd f'
  same_node (several ns) (present o) (Many g) after behind room space name other f f' e u1 u2 = absurd f'
  same_node (several ns) (several os) (Many g) after behind room space name other f f' e u1 u2 =
      let inside = same_each ns os g after behind room space name other f f' e u1 u2 in
      record { tree = ap several inside.trees; rest = inside.rest }
  same_node (leaf t) o (Maybe g) after behind room space name other f f' e u1 u2 = absurd f
  same_node (branch q ns) o (Maybe g) after behind room space name other f f' e u1 u2 = absurd f
  same_node (several ns) o (Maybe g) after behind room space name other f f' e u1 u2 = absurd f
  same_node absent (leaf u) (Maybe g) after behind room space name other f f' e u1 u2 = absurd f'
  same_node absent (branch q os) (Maybe g) after behind room space name other f f' e u1 u2 = absurd f'
  same_node absent (several os) (Maybe g) after behind room space name other f f' e u1 u2 = absurd f'
  same_node absent absent (Maybe g) after behind room space name other f f' e u1 u2 = record { tree = refl; rest = e }
  same_node absent (present o) (Maybe g) after behind room space name other f f' e u1 u2 =
      let begun = begun_kind g (spell o) behind (node_led o g space other (first_kind behind) f') in
      forall_clash g o space room other name behind after (is_left_open (begins g (first_kind after)) (is_open g (first_kind after)) f (ap (λ z. begins g (first_kind z)) e ∙ begun)) f' (sym e) u1
  same_node (present n) (leaf u) (Maybe g) after behind room space name other f f' e u1 u2 = absurd f'
  same_node (present n) (branch q os) (Maybe g) after behind room space name other f f' e u1 u2 = absurd f'
  same_node (present n) (several os) (Maybe g) after behind room space name other f f' e u1 u2 = absurd f'
  same_node (present n) absent (Maybe g) after behind room space name other f f' e u1 u2 =
      let begun = begun_kind g (spell n) after (node_led n g room name (first_kind after) f) in
      forall_clash g n room space name other after behind (is_left_open (begins g (first_kind behind)) (is_open g (first_kind behind)) f' (ap (λ z. begins g (first_kind z)) (sym e) ∙ begun)) f e u2
  same_node (present n) (present o) (Maybe g) after behind room space name other f f' e u1 u2 =
      let inside = same_node n o (One g) after behind room space name other f f' e (option_tidy g room name after u1) (option_tidy g space other behind u2) in
      record { tree = ap present inside.tree; rest = inside.rest }

  pub same_nodes : (g : Form) (ns os : Nodes) (ps : List Part) (after behind : List Token) (room space : ℕ) (name other : Content) → FitsAll room name ns ps (first_kind after) → FitsAll space other os ps (first_kind behind) → spell_all ns ++ after ≡ spell_all os ++ behind
      → tidy (is_exp_tail g) (is_con_tail g) ps ≡ true → Ends (is_exp_tail g) after → Marks (is_con_tail g) after → Ends (is_exp_tail g) behind → Marks (is_con_tail g) behind → SameAll ns os after behind
  same_nodes g none none [] after behind room space name other f f' e t e1 m1 e2 m2 = record { trees = refl; rest = e }
  same_nodes g none none (p ∷ ps) after behind room space name other f f' e t e1 m1 e2 m2 = absurd f
  same_nodes g none (more o os) [] after behind room space name other f f' e t e1 m1 e2 m2 = absurd f'
  same_nodes g none (more o os) (p ∷ ps) after behind room space name other f f' e t e1 m1 e2 m2 = absurd f
  same_nodes g (more n ns) os [] after behind room space name other f f' e t e1 m1 e2 m2 = absurd f
  same_nodes g (more n ns) none (p ∷ ps) after behind room space name other f f' e t e1 m1 e2 m2 = absurd f'
  same_nodes g (more n ns) (more o os) (p ∷ ps) after behind room space name other f f' e t e1 m1 e2 m2 =
      let ok = and_left (part_ok (is_exp_tail g) (is_con_tail g) p ps) (tidy (is_exp_tail g) (is_con_tail g) ps) t in
      let first = same_node n o p (spell_all ns ++ after) (spell_all os ++ behind) room space name other (subst (Fits room name n p) (front_kind (spell_all ns) after) f.0) (subst (Fits space other o p) (front_kind (spell_all os) behind) f'.0)
      (sym (append_assoc (spell n) (spell_all ns) after) ∙ e ∙ append_assoc (spell o) (spell_all os) behind) (inside_tidy g ns p ps room name after f.1 ok e1 m1) (inside_tidy g os p ps space other behind f'.1 ok e2 m2) in
      let others = same_nodes g ns os ps after behind room space name other f.1 f'.1 first.rest (and_right (part_ok (is_exp_tail g) (is_con_tail g) p ps) (tidy (is_exp_tail g) (is_con_tail g) ps) t) e1 m1 e2 m2 in
      record { trees = ap (λ z. more z ns) first.tree ∙ ap (more o) others.trees; rest = others.rest }

  pub same_each : (ns os : Nodes) (g : Form) (after behind : List Token) (room space : ℕ) (name other : Content) → FitsEach room name ns g (first_kind after) → FitsEach space other os g (first_kind behind) → spell_all ns ++ after ≡ spell_all os ++ behind
      → Tidy room name (Many g) after → Tidy space other (Many g) behind → SameAll ns os after behind
  same_each none none g after behind room space name other f f' e u1 u2 = record { trees = refl; rest = e }
  same_each none (more o os) g after behind room space name other f f' e u1 u2 =
      let led = node_led o g space other (front (spell_all os) (first_kind behind)) f'.0 in
      let begun : begins g (first_kind ((spell o ++ spell_all os) ++ behind)) ≡ true = subst (λ z. begins g (first_kind z) ≡ true) (sym (append_assoc (spell o) (spell_all os) behind)) (begun_kind g (spell o) (spell_all os ++ behind) led) in
      let opens = is_left_open (begins g (first_kind after)) (is_open g (first_kind after)) f (ap (λ z. begins g (first_kind z)) e ∙ begun) in
      not_many u1.e u1.c u1.ps g (open_is g (first_kind after) opens).0 u1.ok
  same_each (more n ns) none g after behind room space name other f f' e u1 u2 =
      let led = node_led n g room name (front (spell_all ns) (first_kind after)) f.0 in
      let begun : begins g (first_kind ((spell n ++ spell_all ns) ++ after)) ≡ true = subst (λ z. begins g (first_kind z) ≡ true) (sym (append_assoc (spell n) (spell_all ns) after)) (begun_kind g (spell n) (spell_all ns ++ after) led) in
      let opens = is_left_open (begins g (first_kind behind)) (is_open g (first_kind behind)) f' (ap (λ z. begins g (first_kind z)) (sym e) ∙ begun) in
      not_many u2.e u2.c u2.ps g (open_is g (first_kind behind) opens).0 u2.ok
  same_each (more n ns) (more o os) g after behind room space name other f f' e u1 u2 =
      let first = same_node n o (One g) (spell_all ns ++ after) (spell_all os ++ behind) room space name other (subst (Fits room name n (One g)) (front_kind (spell_all ns) after) f.0) (subst (Fits space other o (One g)) (front_kind (spell_all os) behind) f'.0)
      (sym (append_assoc (spell n) (spell_all ns) after) ∙ e ∙ append_assoc (spell o) (spell_all os) behind) (item_tidy g ns room name after f.1 u1) (item_tidy g os space other behind f'.1 u2) in
      let others = same_each ns os g after behind room space name other f.1 f'.1 first.rest u1 u2 in
      record { trees = ap (λ z. more z ns) first.tree ∙ ap (more o) others.trees; rest = others.rest }

-- nothing behind a whole text is tidy
whole_tidy : (p : Part) (room : ℕ) (name : Content) → is_text_part p ≡ true → Tidy room name p []
whole_tidy p room name h = record { e = true; c = true; ps = []; ns = none; next = None; rest = []; fits = tt; next_is = refl; is = refl; ok = part_whole p h; ends = λ i. refl; marks = λ i j. cc }

pub one_whole : (p : Part) (n o : Node) (room space : ℕ) (name other : Content) → is_text_part p ≡ true → Fits room name n p None → Fits space other o p None → spell n ≡ spell o → n ≡ o
one_whole p n o room space name other h fit fit' e = (same_node n o p [] [] room space name other fit fit' (ap (λ z. z ++ []) e) (whole_tidy p room name h) (whole_tidy p space other h)).tree

pub only_tree : (p : Part) (room : ℕ) (items : List Token) (tree : Listing) → WholeTree room p items tree → OnlyTree p items tree
only_tree p room items tree w n space h whole e = subst (Lists tree) (one_whole p w.node n room space w.whole.0 whole.0 h w.whole.1 whole.1 (w.spells ∙ sym e)) w.lists
