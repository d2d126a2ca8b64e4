-- Where one token doesn't decide, what was seen beside tells the tree's rule, and whether its option is there.
use Rattle.std.proofs.Common.{◌≡◌, ◌<◌, ◌≤◌, ◌+◌, ◌-◌, ◌*◌, ℕ, suc, List, [], ◌∷◌, ◌++◌, length, take, drop, append_assoc, refl, ap, sym, ◌∙◌, subst, arith, true, false, Some}
use Rattle.std.proofs.lemmas.List.{length-drop, drop-drop}
use Rattle.std.proofs.Math.Logic.{◌⊎◌, inl, inr}
use Rattle.std.proofs.lemmas.Option.{same_Some}
use Rattle.surface_tree.specs.declared.kind.Kind.{Kind}
use Rattle.surface_tree.specs.declared.kind.Kind.TheVariants as k
use Rattle.surface_tree.specs.declared.token.Token.{Token}
use Rattle.surface_tree.specs.declared.token.Content.{Content}
use Rattle.surface_grammar.specs.declared.form.Form.{Form}
use Rattle.surface_grammar.specs.declared.form.Form.TheVariants as f
use Rattle.surface_grammar.specs.declared.part.Part.TheVariants.{Word, One, Maybe}
use Rattle.surface_grammar.specs.declared.rule.Rule.{Rule}
use Rattle.surface_grammar.specs.Forms.{rules_of}
use Rattle.surface_grammar.specs.Fronts.{first_kind}
use Rattle.surface_grammar.specs.Table.{body_of}
use Rattle.surface_grammar.specs.Trees.{Node, leaf, branch, several, absent, present, Nodes, spell, spell_all, front, begins, is_open, must_go_on, depth_of, IsIn, Built, Fits, FitsAll}
use Rattle.grammar_engine.specs.declared.want.Want.{Want}
use Rattle.grammar_engine.specs.Allowed.{may_stand_behind}
use Rattle.grammar_engine.specs.Passing.{Agrees, Ample, Counts, WayOpen, WayShut, BindSure, BraceSure, OptionSure}
use Rattle.grammar_engine.specs.Places.{name_at}
use Rattle.grammar_engine.specs.Solid.{first_solid}
use Rattle.grammar_engine.proofs.Keeping.Agreeing.{kinds_same, agrees_less, agrees_next, agrees_later, agrees_front, opens}
use Rattle.grammar_engine.proofs.Fronts.Context.{headed, MarkedText}
use Rattle.grammar_engine.proofs.Trees.Leading.{node_led}
use Rattle.grammar_engine.proofs.Table.Least.{floors_needed}
use Rattle.grammar_engine.proofs.Table.Levels.{rename}
use Rattle.grammar_engine.proofs.Fronts.ListFronts.{exp_begins, splice_begins}
use Rattle.grammar_engine.proofs.Keeping.Passed.{RuleSame, OptionSame, MarkStands}
use Rattle.grammar_engine.proofs.Fronts.Scan.{scan}
use Rattle.grammar_engine.proofs.Fronts.Scanned.{bindings_apart}
use Rattle.grammar_engine.proofs.Trees.Sole.{arrow, forall_rule, open_is}
use Rattle.grammar_engine.proofs.Keeping.Steps.{form_begins, begun_rule, one_started}
use Rattle.grammar_engine.proofs.Trees.Unique.{front_kind, is_left_open}

none : {A : Type 0} → ⊥ → A
none e = absurd e

-- the token at the front
record Front (ts : List Token) (y : Kind) : Type 0 where
  pub token : Token
  pub rest : List Token
  pub is : ts ≡ token ∷ rest
  pub kind : token.kind ≡ y

front_at : (ts : List Token) (y : Kind) → first_kind ts ≡ Some y → Front ts y
front_at [] y e = cc
front_at (t ∷ ts) y e = record { token = t; rest = ts; is = refl; kind = same_Some t.kind y e }

-- a pattern and `<-` stand here: no plain expression has them
bind_open : (items : List Token) (os : Nodes) (at far place inner : ℕ) (own : Content) (text : List Token) → WayOpen items f.Pat k.LeftArrow at far → FitsAll inner own os (One f.Term ∷ Maybe f.ExpThen ∷ []) (first_kind text)
    → Agrees items at place (spell_all os ++ text) → far ≤ place → scan 0 text ≡ false → ⊥
bind_open items os at far place inner own text w fit agrees l quiet =
    let t = front_at (drop w.behind items) k.LeftArrow w.next in
    let d = agrees_front items at w.behind place (spell w.node) t.token t.rest (spell_all os ++ text) w.read t.is (omega (arith, w.seen, l)) agrees in
    bindings_apart w.node os w.room inner (name_at items at) own (Some k.LeftArrow) (first_kind text) t.token d.after text w.fits fit (sym d.is) t.kind quiet

-- no pattern and `<-` stand here: no binding has the tokens
bind_shut : (items : List Token) (os : Nodes) (at far place inner room races extra : ℕ) (own : Content) (text : List Token) → WayShut items f.Pat k.LeftArrow at room races far → FitsAll inner own os (One f.Pat ∷ One f.ExpBindRest ∷ []) (first_kind text)
    → inner ≡ room + extra → Counts items at room races extra → Agrees items at place (spell_all os ++ text) → far ≤ place → ⊥
bind_shut items os at far place inner room races extra own text w fit same counts agrees l =
    let a = headed inner own os (One f.Pat) (One f.ExpBindRest ∷ []) (first_kind text) fit in
    let b = headed inner own a.tail (One f.ExpBindRest) [] (first_kind text) a.others in
    let m = node_led b.head f.ExpBindRest inner own (front (spell_all b.tail) (first_kind text)) b.fits in
    let led : first_kind (spell_all a.tail ++ text) ≡ Some k.LeftArrow = ap (λ z. first_kind (z ++ text)) (b.spelled ∙ ap (λ z. z ++ spell_all b.tail) m.is) ∙ ap Some (arrow m.token.kind m.passes) in
    let pat : Fits (room + extra) (name_at items at) a.head (One f.Pat) (first_kind (spell_all a.tail ++ text)) =
    rename a.head (One f.Pat) (room + extra) own (name_at items at) (first_kind (spell_all a.tail ++ text)) refl
    (subst (λ y. Fits (room + extra) own a.head (One f.Pat) y) (front_kind (spell_all a.tail) text) (subst (λ i. Fits i own a.head (One f.Pat) (front (spell_all a.tail) (first_kind text))) same a.fits)) in
    w
    (record {
      extra = extra;
      node = a.head;
      tail = spell_all a.tail ++ text;
      counts = counts;
      fits = pat;
      behind = ap (λ y. may_stand_behind (One f.Pat) y) led;
      agrees = subst (Agrees items at far) (ap (λ z. z ++ text) a.spelled ∙ append_assoc (spell a.head) (spell_all a.tail) text) (agrees_less items at far place (spell_all os ++ text) l agrees);
    })
    led

ample_some : (items : List Token) (at room races : ℕ) → Ample items at room races → 0 < room
ample_some items at room races h = omega (arith, h)

roomy_some : (room extra : ℕ) → 1 ≤ room + extra → (extra ≡ 0) ⊎ (2 ≤ room) → 0 < room
roomy_some room extra l (inl e) = omega (arith, l, e)
roomy_some room extra l (inr e) = omega (arith, e)

add_none : (inner room : ℕ) → inner + 0 ≡ room → inner ≡ room
add_none inner room e = omega (arith, e)

bind_same : (items : List Token) (q p : Rule) (os : Nodes) (room tag inner races at far place extra : ℕ) (own : Content) (text : List Token) → IsIn q (rules_of f.Exp)
    → Built (room + extra) inner (name_at items tag) own p f.Exp (front (spell_all os) (first_kind text)) → IsIn p (rules_of f.Exp) → FitsAll inner own os (body_of p) (first_kind text) → Agrees items at place (spell_all os ++ text) → far ≤ place
    → (extra ≡ 0) ⊎ (2 ≤ room) → scan 0 text ≡ false → Counts items at room (races - 1) extra → BindSure items q room races at far → p ≡ q
bind_same items q p os room tag inner races at far place extra own text (inl e) b (inl e') fit agrees l roomy quiet counts sure = e' ∙ sym e
bind_same items q p os room tag inner races at far place extra own text (inl e) b (inr (inl e')) fit agrees l roomy quiet counts sure =
    let s = subst (λ z. BindSure items z room races at far) e sure in
    none (bind_open items os at far place inner own text s.1 (subst (λ z. FitsAll inner own os (body_of z) (first_kind text)) e' fit) agrees l quiet)
bind_same items q p os room tag inner races at far place extra own text (inl e) b (inr (inr e')) fit agrees l roomy quiet counts sure = absurd e'
bind_same items q p os room tag inner races at far place extra own text (inr (inl e)) b (inl e') fit agrees l roomy quiet counts sure =
    let s = subst (λ z. BindSure items z room races at far) e sure in
    let body = subst (λ z. FitsAll inner own os (body_of z) (first_kind text)) e' fit in
    let deep : inner ≡ room + extra = add_none inner (room + extra) (subst (λ z. inner + depth_of z ≡ room + extra) e' b.room_left) in
    let some : 1 ≤ room + extra = subst (λ i. 1 ≤ i) deep (floors_needed os (One f.Pat ∷ One f.ExpBindRest ∷ []) inner own (first_kind text) body) in
    none (bind_shut items os at far place inner room (races - 1) extra own text (s (roomy_some room extra some roomy)) body deep counts agrees l)
bind_same items q p os room tag inner races at far place extra own text (inr (inl e)) b (inr (inl e')) fit agrees l roomy quiet counts sure = e' ∙ sym e
bind_same items q p os room tag inner races at far place extra own text (inr (inl e)) b (inr (inr e')) fit agrees l roomy quiet counts sure = absurd e'
bind_same items q p os room tag inner races at far place extra own text (inr (inr e)) b i fit agrees l roomy quiet counts sure = absurd e

-- the second token of the text
second_kind : (items : List Token) (at place : ℕ) (text : List Token) → suc at ≤ place → Agrees items at place text → first_kind (drop 1 text) ≡ first_kind (drop (suc at) items)
second_kind items at place [] l e = by_items (drop at items) (drop (suc at) items) (drop-drop 1 at items ∙ ap (λ i. drop i items) next) (agrees_next items at place [] (omega (arith, l)) e)
  where
    next : at + 1 ≡ suc at
    next = omega arith

    by_items : (ts us : List Token) → drop 1 ts ≡ us → take 1 [] ≡ take 1 ts → first_kind (drop 1 []) ≡ first_kind us
    by_items [] us i h = ap first_kind i
    by_items (t ∷ ts) us i h = cc
second_kind items at place (t ∷ text) l e =
    let o = opens t text (drop at items) (agrees_next items at place (t ∷ text) (omega (arith, l)) e) in
    let rest : drop (suc at) items ≡ o.rest = ap (λ i. drop i items) next ∙ sym (drop-drop 1 at items) ∙ ap (drop 1) o.is in
    kinds_same text (drop (suc at) items) (agrees_next items (suc at) place text l (agrees_later items at place t t text (o.is ∙ ap (λ z. t ∷ z) (sym rest)) e))
  where
    next : suc at ≡ at + 1
    next = omega arith

pub brace_same : (items : List Token) (q p : Rule) (os : Nodes) (room tag inner at far place extra : ℕ) (own : Content) (text : List Token) → IsIn q (rules_of f.SqlBraceRest)
    → Built (room + extra) inner (name_at items tag) own p f.SqlBraceRest (front (spell_all os) (first_kind text)) → IsIn p (rules_of f.SqlBraceRest) → FitsAll inner own os (body_of p) (first_kind text) → Agrees items at place (spell_all os ++ text)
    → at ≤ place → far ≤ place → (extra ≡ 0) ⊎ (2 ≤ room) → BraceSure items q room at far → p ≡ q
brace_same items q p os room tag inner at far place extra own text (inl e) b (inl e') fit agrees here l roomy sure = e' ∙ sym e
brace_same items q p os room tag inner at far place extra own text (inl e) b (inr (inl e')) fit agrees here l roomy sure =
    let s = subst (λ z. BraceSure items z room at far) e sure in
    let first = kinds_same (spell_all os ++ text) (drop at items) (agrees_next items at place (spell_all os ++ text) here agrees) in
    let right = exp_begins os inner own (first_kind text) text (subst (λ z. FitsAll inner own os (body_of z) (first_kind text)) e' fit) (first ∙ s.1) in
    none (s.3 (sym (second_kind items at place (spell_all os ++ text) (omega (arith, s.2, l)) agrees) ∙ right))
brace_same items q p os room tag inner at far place extra own text (inl e) b (inr (inr e')) fit agrees here l roomy sure = absurd e'
brace_same items q p os room tag inner at far place extra own text (inr (inl e)) b (inl e') fit agrees here l roomy sure =
    let s = subst (λ z. BraceSure items z room at far) e sure in
    let body = subst (λ z. FitsAll inner own os (body_of z) (first_kind text)) e' fit in
    let deep : inner ≡ room + extra = add_none inner (room + extra) (subst (λ z. inner + depth_of z ≡ room + extra) e' b.room_left) in
    let some : 1 ≤ room + extra = subst (λ i. 1 ≤ i) deep (floors_needed os (One f.Splice ∷ Word k.RightBrace ∷ []) inner own (first_kind text) body) in
    let d = splice_begins os inner own (first_kind text) text body in
    let first = kinds_same (spell_all os ++ text) (drop at items) (agrees_next items at place (spell_all os ++ text) here agrees) in
    let t = s (roomy_some room extra some roomy) (sym first ∙ d.opens) in
    none (d.second (second_kind items at place (spell_all os ++ text) (omega (arith, t.0, l)) agrees ∙ t.1))
brace_same items q p os room tag inner at far place extra own text (inr (inl e)) b (inr (inl e')) fit agrees here l roomy sure = e' ∙ sym e
brace_same items q p os room tag inner at far place extra own text (inr (inl e)) b (inr (inr e')) fit agrees here l roomy sure = absurd e'
brace_same items q p os room tag inner at far place extra own text (inr (inr e)) b i fit agrees here l roomy sure = absurd e

pub rule_same : RuleSame
rule_same items f.Exp q p os room tag inner races at far place extra own text i b fit agrees here l roomy quiet races_ok counts sure =
    bind_same items q p os room tag inner races at far place extra own text i b b.rule fit agrees l roomy (quiet refl) (counts (less races (races_ok refl))) (sure (races_ok refl))
  where
    less : (n : ℕ) → 2 ≤ n → 1 ≤ n
    less n h = omega (arith, h)
rule_same items f.SqlBraceRest q p os room tag inner races at far place extra own text i b fit agrees here l roomy quiet races_ok counts sure =
    brace_same items q p os room tag inner at far place extra own text i b b.rule fit agrees here l roomy sure
rule_same items g q p os room tag inner races at far place extra own text i b fit agrees here l roomy quiet races_ok counts sure =
    one_started g p q (first_kind (drop at items)) refl b.rule i
    (begun_rule g p os (room + extra) inner at (name_at items tag) own items text (first_kind text) b fit (agrees_next items at place (spell_all os ++ text) here agrees)) sure

next_rest : (items : List Token) (at : ℕ) (t : Token) (rest : List Token) → drop at items ≡ t ∷ rest → drop (suc at) items ≡ rest
next_rest items at t rest e = ap (λ i. drop i items) next ∙ sym (drop-drop 1 at items) ∙ ap (drop 1) e
  where
    next : suc at ≡ at + 1
    next = omega arith

counts_later : (items : List Token) (at room races extra : ℕ) → Counts items at room races extra → Counts items (suc at) room races extra
counts_later items at room races extra (inl e) = inl e
counts_later items at room races extra (inr h) = inr (less (length items) (length (drop at items)) (length (drop (suc at) items)) (length-drop at items) (length-drop (suc at) items) h)
  where
    less : (n a b : ℕ) → a ≡ n - at → b ≡ n - suc at → 400 * (a + races + 1) ≤ room → 400 * (b + races + 1) ≤ room
    less n a b e i l = omega (arith, e, i, l)

-- where no kind and `)` stand behind the `::`, the option isn't left out
mark_shut : (items : List Token) (at far place races extra : ℕ) (wants : List Want) (text : List Token) → MarkStands items wants extra text → Agrees items at place text → at ≤ place → far ≤ place
    → ((w : Want) → first_solid wants ≡ Some w → Counts items at w.room races extra) → ((w : Want) → first_solid wants ≡ Some w → w.part ≡ One f.ConParenEnd → WayShut items f.KindTerm k.RightParenthesis (suc at) w.room races far) → ⊥
mark_shut items at far place races extra wants text s agrees here l counts shut =
    let inside = spell s.node ++ s.close ∷ s.rest in
    let whole : Agrees items at place (s.colons ∷ inside) = subst (Agrees items at place) s.is agrees in
    let o = opens s.colons inside (drop at items) (agrees_next items at place (s.colons ∷ inside) here whole) in
    let read : drop at items ≡ s.colons ∷ drop (suc at) items = o.is ∙ ap (λ z. s.colons ∷ z) (sym (next_rest items at s.colons o.rest o.is)) in
    let close : Some s.close.kind ≡ Some k.RightParenthesis = ap Some s.closes in
    shut s.want s.solid s.part
    (record {
      extra = extra;
      node = s.node;
      tail = s.close ∷ s.rest;
      counts = counts_later items at s.want.room races extra (counts s.want s.solid);
      fits = subst (λ y. Fits (s.want.room + extra) (name_at items (suc at)) s.node (One f.KindTerm) y) (sym close) (rename s.node (One f.KindTerm) (s.want.room + extra) (name_at items s.want.tag) (name_at items (suc at)) (Some k.RightParenthesis) refl s.fits);
      behind = ap (λ y. may_stand_behind (One f.KindTerm) y) close;
      agrees = agrees_less items (suc at) far place inside l (agrees_later items at place s.colons s.colons inside read whole);
    })
    close

-- where a kind and `)` stand behind the `::`, the option isn't there
forall_none : (o : Node) (room : ℕ) (name : Content) (text whole : List Token) → Fits room name o (One f.ConForall) (first_kind text) → spell o ++ text ≡ whole → first_kind whole ≡ Some k.DoubleColon → MarkedText whole → ⊥
forall_none (leaf t) room name text whole fit is colons m = absurd fit
forall_none (several ns) room name text whole fit is colons m = absurd fit
forall_none absent room name text whole fit is colons m = absurd fit
forall_none (present n) room name text whole fit is colons m = absurd fit
forall_none (branch q ns) room name text whole fit is colons m = forall_rule q ns fit.0 fit.1 text whole fit.2.rule fit.3 is colons m

mark_open : (items : List Token) (at far place : ℕ) (text : List Token) → WayOpen items f.KindTerm k.RightParenthesis (suc at) far → first_kind text ≡ Some k.DoubleColon → Agrees items at place text → at ≤ place → far ≤ place → MarkedText text
mark_open items at far place text w colons agrees here l =
    let u = front_at text k.DoubleColon colons in
    let whole : Agrees items at place (u.token ∷ u.rest) = subst (Agrees items at place) u.is agrees in
    let o = opens u.token u.rest (drop at items) (agrees_next items at place (u.token ∷ u.rest) here whole) in
    let read : drop at items ≡ u.token ∷ drop (suc at) items = o.is ∙ ap (λ z. u.token ∷ z) (sym (next_rest items at u.token o.rest o.is)) in
    let t = front_at (drop w.behind items) k.RightParenthesis w.next in
    let d = agrees_front items (suc at) w.behind place (spell w.node) t.token t.rest u.rest w.read t.is (omega (arith, w.seen, l)) (agrees_later items at place u.token u.token u.rest read whole) in
    record {
      colons = u.token;
      node = w.node;
      close = t.token;
      rest = d.after;
      room = w.room;
      name = name_at items (suc at);
      next = Some k.RightParenthesis;
      fits = w.fits;
      closes = t.kind;
      is = u.is ∙ ap (λ z. u.token ∷ z) d.is;
    }

absent_none : (items : List Token) (g : Form) (room tag races at far place extra : ℕ) (wants : List Want) (text : List Token) → Fits (room + extra) (name_at items tag) absent (Maybe g) (first_kind text) → Agrees items at place text → at ≤ place → far ≤ place
    → (g ≡ f.ConForall → 1 ≤ races) → (first_kind text ≡ Some k.DoubleColon → g ≡ f.ConForall → MarkStands items wants extra text) → ((w : Want) → first_solid wants ≡ Some w → 1 ≤ races → Counts items at w.room (races - 1) extra)
    → begins g (first_kind (drop at items)) ≡ true → OptionSure true items g races at wants far → ⊥
absent_none items g room tag races at far place extra wants text fit agrees here l raced stands counts begun sure =
    let next : first_kind text ≡ first_kind (drop at items) = kinds_same text (drop at items) (agrees_next items at place text here agrees) in
    let opened : is_open g (first_kind (drop at items)) ≡ true = is_left_open (begins g (first_kind (drop at items))) (is_open g (first_kind (drop at items))) (subst (λ y. must_go_on g y ≡ false) next fit) begun in
    let i = open_is g (first_kind (drop at items)) opened in
    let some = raced i.0 in
    mark_shut items at far place (races - 1) extra wants text (stands (next ∙ i.1) i.0) agrees here l (λ w e. counts w e some) (sure opened some)

present_none : (items : List Token) (g : Form) (o : Node) (room tag races at far place extra : ℕ) (wants : List Want) (text : List Token) → Fits (room + extra) (name_at items tag) o (One g) (first_kind text) → Agrees items at place (spell o ++ text) → at ≤ place → far ≤ place
    → (g ≡ f.ConForall → 1 ≤ races) → must_go_on g (first_kind (drop at items)) ≡ false → OptionSure false items g races at wants far → ⊥
present_none items g o room tag races at far place extra wants text fit agrees here l raced ends sure =
    let first = agrees_next items at place (spell o ++ text) here agrees in
    let opened : is_open g (first_kind (drop at items)) ≡ true =
    is_left_open (begins g (first_kind (drop at items))) (is_open g (first_kind (drop at items))) ends (form_begins g o (room + extra) at (name_at items tag) items text (first_kind text) fit first) in
    let i = open_is g (first_kind (drop at items)) opened in
    let colons : first_kind (spell o ++ text) ≡ Some k.DoubleColon = kinds_same (spell o ++ text) (drop at items) first ∙ i.1 in
    forall_none o (room + extra) (name_at items tag) text (spell o ++ text) (subst (λ z. Fits (room + extra) (name_at items tag) o (One z) (first_kind text)) i.0 fit) refl colons
    (mark_open items at far place (spell o ++ text) (sure opened (raced i.0)) colons agrees here l)

pub option_same : OptionSame
option_same taken items g n room tag races at far place extra wants text fit agrees here l raced stands counts ends begun sure = (
  λ yes e. absent_none items g room tag races at far place extra wants text (subst (λ z. Fits (room + extra) (name_at items tag) z (Maybe g) (first_kind text)) e fit) (subst (λ z. Agrees items at place (spell z ++ text)) e agrees) here l raced stands counts (begun yes)
      (subst (λ b. OptionSure b items g races at wants far) yes sure),
  λ no o e. present_none items g o room tag races at far place extra wants text (subst (λ z. Fits (room + extra) (name_at items tag) z (Maybe g) (first_kind text)) e fit) (subst (λ z. Agrees items at place (spell z ++ text)) e agrees) here l raced (ends no)
      (subst (λ b. OptionSure b items g races at wants far) no sure),
)
