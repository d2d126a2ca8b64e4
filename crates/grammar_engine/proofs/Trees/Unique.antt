-- Two trees at the front of one list of tokens that choose alike are one tree.
use Rattle.std.proofs.Common.{◌≡◌, ℕ, List, [], ◌∷◌, ◌++◌, refl, ap, sym, ◌∙◌, subst, append_assoc, Bool, true, false, not, ◌&&◌, if◌then◌else◌, Option, Some}
use Rattle.std.proofs.lemmas.Bool.{cases_Bool}
use Rattle.surface_tree.specs.declared.kind.Kind.{Kind}
use Rattle.surface_tree.specs.declared.token.Token.{Token}
use Rattle.surface_tree.specs.declared.token.Content.{Content}
use Rattle.surface_grammar.specs.declared.form.Form.{Form}
use Rattle.surface_grammar.specs.declared.form.Form.TheVariants as f
use Rattle.surface_grammar.specs.declared.part.Part.{Part}
use Rattle.surface_grammar.specs.declared.part.Part.TheVariants.{Word, One, Many, Maybe}
use Rattle.surface_grammar.specs.declared.rule.Rule.{Rule}
use Rattle.surface_grammar.specs.declared.tree.Mark.{Mark}
use Rattle.surface_grammar.specs.declared.tree.Mark.TheVariants as m
use Rattle.surface_grammar.specs.Forms.{rules_of}
use Rattle.surface_grammar.specs.Fronts.{first_kind}
use Rattle.surface_grammar.specs.Leads.{starts}
use Rattle.surface_grammar.specs.Table.{body_of}
use Rattle.surface_grammar.specs.Trees.{Node, leaf, branch, several, absent, present, Nodes, none, more, spell, spell_all, front, begins, is_open, must_go_on, IsIn, Built, Fits, FitsAll, FitsEach}
use Rattle.grammar_engine.specs.Choices.{is_raced, choices, choices_all, choices_each}
use Rattle.grammar_engine.specs.Laws.{is_raced_form}
use Rattle.std.proofs.Math.Logic.{◌⊎◌, inl, inr}
use Rattle.grammar_engine.proofs.Table.Decided.{rule_solid, one_rule}
use Rattle.grammar_engine.proofs.Trees.Leading.{Led, started, node_led, nodes_led}

pub record Same (n o : Node) (after behind : List Token) (c d : List Mark) : Type 0 where
  pub tree : n ≡ o
  pub rest : after ≡ behind
  pub chosen : c ≡ d

pub record SameAll (ns os : Nodes) (after behind : List Token) (c d : List Mark) : Type 0 where
  pub trees : ns ≡ os
  pub rest : after ≡ behind
  pub chosen : c ≡ d

pub front_kind : (a b : List Token) → front a (first_kind b) ≡ first_kind (a ++ b)
front_kind [] b = refl
front_kind (t ∷ a) b = refl

-- the choice of a rule, if it is raced, goes before those inside
cancel : (b : Bool) (z : Mark) (a a' c d : List Mark) → ((if b then z ∷ [] else []) ++ a) ++ c ≡ ((if b then z ∷ [] else []) ++ a') ++ d → a ++ c ≡ a' ++ d
cancel true z a a' c d e = cc
cancel false z a a' c d e = e

heads : (b b' : Bool) (q p : Rule) (a a' c d : List Mark) → b ≡ true → b' ≡ true → ((if b then m.Rule q ∷ [] else []) ++ a) ++ c ≡ ((if b' then m.Rule p ∷ [] else []) ++ a') ++ d → q ≡ p
heads true true q p a a' c d e e' h = let same : m.Rule q ≡ m.Rule p = cc in cc
heads false b' q p a a' c d e e' h = cc
heads true false q p a a' c d e e' h = cc

not_both : {A : Type 0} (b b' : Bool) (a c d : List Mark) → b ≡ true → b' ≡ true → (if b then m.End ∷ [] else []) ++ c ≡ ((if b' then m.Item ∷ [] else []) ++ a) ++ d → A
not_both true true a c d e e' h = let same : m.End ≡ m.Item = cc in cc
not_both false b' a c d e e' h = cc
not_both true false a c d e e' h = cc

-- where a form has to go on or ends all the same, the place is open
pub is_left_open : (b o : Bool) → (b && not o) ≡ false → b ≡ true → o ≡ true
is_left_open true true h e = refl
is_left_open true false h e = cc
is_left_open false o h e = cc

-- of two ways, one that ends and one that goes on, the choices differ
end_or_item : {A : Type 0} (g : Form) (x y : Option Kind) (a c d : List Mark) → must_go_on g x ≡ false → begins g y ≡ true → x ≡ y
    → (if is_open g x then m.End ∷ [] else []) ++ c ≡ ((if is_open g y then m.Item ∷ [] else []) ++ a) ++ d → A
end_or_item g x y a c d ended begun same h =
    let open_x : is_open g x ≡ true = is_left_open (begins g x) (is_open g x) ended (ap (begins g) same ∙ begun) in
    not_both (is_open g x) (is_open g y) a c d open_x (ap (is_open g) (sym same) ∙ open_x) h

-- the first token of a tree, as the kind of the first of all tokens
pub begun_kind : (g : Form) (ts after : List Token) → Led (λ k. begins g (Some k)) ts → begins g (first_kind (ts ++ after)) ≡ true
begun_kind g ts after l = subst (λ z. begins g (first_kind (z ++ after)) ≡ true) (sym l.is) l.passes

-- the rules of the raced forms are raced
raced_rules : (g : Form) (q : Rule) → is_raced_form g ≡ true → IsIn q (rules_of g) → is_raced q ≡ true
raced_rules f.Exp q h (inl e) = ap is_raced e
raced_rules f.Exp q h (inr (inl e)) = ap is_raced e
raced_rules f.Exp q h (inr (inr e)) = absurd e
raced_rules f.SqlBraceRest q h (inl e) = ap is_raced e
raced_rules f.SqlBraceRest q h (inr (inl e)) = ap is_raced e
raced_rules f.SqlBraceRest q h (inr (inr e)) = absurd e
raced_rules g q h i = cc

pub first_same : (t u : Token) (a b : List Token) (ts us after behind : List Token) → ts ≡ t ∷ a → us ≡ u ∷ b → ts ++ after ≡ us ++ behind → t ≡ u
first_same t u a b ts us after behind e e' h = let same : t ∷ (a ++ after) ≡ u ∷ (b ++ behind) = ap (λ z. z ++ after) (sym e) ∙ h ∙ ap (λ z. z ++ behind) e' in cc

-- two trees of a form at the front of one list of tokens are of one rule
same_rule : (g : Form) (q p : Rule) (ns os : Nodes) (after behind : List Token) (c d : List Mark) (inner inside room space : ℕ) (own mine name other : Content)
    → Built room inner name own q g (front (spell_all ns) (first_kind after)) → Built space inside other mine p g (front (spell_all os) (first_kind behind))
    → FitsAll inner own ns (body_of q) (first_kind after) → FitsAll inside mine os (body_of p) (first_kind behind) → spell_all ns ++ after ≡ spell_all os ++ behind
    → choices (branch q ns) (One g) (first_kind after) ++ c ≡ choices (branch p os) (One g) (first_kind behind) ++ d → (is_raced_form g ≡ true) ⊎ (is_raced_form g ≡ false) → q ≡ p
same_rule g q p ns os after behind c d inner inside room space own mine name other b b' f f' e ec (inl raced) =
    heads (is_raced q) (is_raced p) q p _ _ c d (raced_rules g q raced b.rule) (raced_rules g p raced b'.rule) ec
same_rule g q p ns os after behind c d inner inside room space own mine name other b b' f f' e ec (inr calm) =
    let l = nodes_led ns (body_of q) inner own (first_kind after) (rule_solid g q b.rule) f in
    let k = nodes_led os (body_of p) inside mine (first_kind behind) (rule_solid g p b'.rule) f' in
    let same = first_same l.token k.token l.rest k.rest (spell_all ns) (spell_all os) after behind l.is k.is e in
    let here : starts q l.token.kind ≡ true = started q (spell_all ns) (first_kind after) l.token l.rest l.is b.free l.passes in
    let there : starts p k.token.kind ≡ true = started p (spell_all os) (first_kind behind) k.token k.rest k.is b'.free k.passes in
    one_rule g q p l.token.kind calm b.rule b'.rule here (subst (λ t. starts p t.kind ≡ true) (sym same) there)

mutual
  pub same_node : (n o : Node) (p : Part) (after behind : List Token) (c d : List Mark) (room space : ℕ) (name other : Content)
      → Fits room name n p (first_kind after) → Fits space other o p (first_kind behind) → spell n ++ after ≡ spell o ++ behind
      → choices n p (first_kind after) ++ c ≡ choices o p (first_kind behind) ++ d → Same n o after behind c d
  same_node (leaf t) (leaf u) (Word w) after behind c d room space name other f f' e ec = record { tree = ap leaf cc; rest = cc; chosen = ec }
  same_node (leaf t) (branch q ns) (Word w) after behind c d room space name other f f' e ec = absurd f'
  same_node (leaf t) (several ns) (Word w) after behind c d room space name other f f' e ec = absurd f'
  same_node (leaf t) absent (Word w) after behind c d room space name other f f' e ec = absurd f'
  same_node (leaf t) (present o) (Word w) after behind c d room space name other f f' e ec = absurd f'
  same_node (branch q ns) o (Word w) after behind c d room space name other f f' e ec = absurd f
  same_node (several ns) o (Word w) after behind c d room space name other f f' e ec = absurd f
  same_node absent o (Word w) after behind c d room space name other f f' e ec = absurd f
  same_node (present n) o (Word w) after behind c d room space name other f f' e ec = absurd f
  same_node (leaf t) o (One g) after behind c d room space name other f f' e ec = absurd f
  same_node (several ns) o (One g) after behind c d room space name other f f' e ec = absurd f
  same_node absent o (One g) after behind c d room space name other f f' e ec = absurd f
  same_node (present n) o (One g) after behind c d room space name other f f' e ec = absurd f
  same_node (branch q ns) (leaf u) (One g) after behind c d room space name other f f' e ec = absurd f'
  same_node (branch q ns) (several os) (One g) after behind c d room space name other f f' e ec = absurd f'
  same_node (branch q ns) absent (One g) after behind c d room space name other f f' e ec = absurd f'
  same_node (branch q ns) (present o) (One g) after behind c d room space name other f f' e ec = absurd f'
  same_node (branch q ns) (branch p os) (One g) after behind c d room space name other f f' e ec =
      let rule : q ≡ p = same_rule g q p ns os after behind c d f.0 f'.0 room space f.1 f'.1 name other f.2 f'.2 f.3 f'.3 e ec (cases_Bool (is_raced_form g)) in
      let fits : FitsAll f'.0 f'.1 os (body_of q) (first_kind behind) = subst (λ z. FitsAll f'.0 f'.1 os (body_of z) (first_kind behind)) (sym rule) f'.3 in
      let chosen : choices (branch q ns) (One g) (first_kind after) ++ c ≡ choices (branch q os) (One g) (first_kind behind) ++ d = subst (λ z. choices (branch q ns) (One g) (first_kind after) ++ c ≡ choices (branch z os) (One g) (first_kind behind) ++ d) (sym rule) ec in
      let inside = same_nodes ns os (body_of q) after behind c d f.0 f'.0 f.1 f'.1 f.3 fits e (cancel (is_raced q) (m.Rule q) _ _ c d chosen) in
      record { tree = ap (branch q) inside.trees ∙ ap (λ z. branch z os) rule; rest = inside.rest; chosen = inside.chosen }
  same_node (leaf t) o (Many g) after behind c d room space name other f f' e ec = absurd f
  same_node (branch q ns) o (Many g) after behind c d room space name other f f' e ec = absurd f
  same_node absent o (Many g) after behind c d room space name other f f' e ec = absurd f
  same_node (present n) o (Many g) after behind c d room space name other f f' e ec = absurd f
  same_node (several ns) (leaf u) (Many g) after behind c d room space name other f f' e ec = absurd f'
  same_node (several ns) (branch q os) (Many g) after behind c d room space name other f f' e ec = absurd f'
  same_node (several ns) absent (Many g) after behind c d room space name other f f' e ec = absurd f'
  same_node (several ns) (present o) (Many g) after behind c d room space name other f f' e ec = absurd f'
  same_node (several ns) (several os) (Many g) after behind c d room space name other f f' e ec =
      let inside = same_each ns os g after behind c d room space name other f f' e ec in
      record { tree = ap several inside.trees; rest = inside.rest; chosen = inside.chosen }
  same_node (leaf t) o (Maybe g) after behind c d room space name other f f' e ec = absurd f
  same_node (branch q ns) o (Maybe g) after behind c d room space name other f f' e ec = absurd f
  same_node (several ns) o (Maybe g) after behind c d room space name other f f' e ec = absurd f
  same_node absent (leaf u) (Maybe g) after behind c d room space name other f f' e ec = absurd f'
  same_node absent (branch q os) (Maybe g) after behind c d room space name other f f' e ec = absurd f'
  same_node absent (several os) (Maybe g) after behind c d room space name other f f' e ec = absurd f'
  same_node absent absent (Maybe g) after behind c d room space name other f f' e ec =
      record { tree = refl; rest = e; chosen = left_over (is_open g (first_kind after)) (is_open g (first_kind behind)) c d (ap (λ l. is_open g (first_kind l)) e) ec }
    where
      left_over : (b b' : Bool) (c d : List Mark) → b ≡ b' → (if b then m.End ∷ [] else []) ++ c ≡ (if b' then m.End ∷ [] else []) ++ d → c ≡ d
      left_over true true c d s h = cc
      left_over false false c d s h = h
      left_over true false c d s h = cc
      left_over false true c d s h = cc
  same_node absent (present o) (Maybe g) after behind c d room space name other f f' e ec =
      let led = node_led o g space other (first_kind behind) f' in
      end_or_item g (first_kind after) (front (spell o) (first_kind behind)) _ c d f
      (subst (λ z. begins g z ≡ true) (sym (front_kind (spell o) behind)) (begun_kind g (spell o) behind led))
      (ap first_kind e ∙ sym (front_kind (spell o) behind)) ec
  same_node (present n) (leaf u) (Maybe g) after behind c d room space name other f f' e ec = absurd f'
  same_node (present n) (branch q os) (Maybe g) after behind c d room space name other f f' e ec = absurd f'
  same_node (present n) (several os) (Maybe g) after behind c d room space name other f f' e ec = absurd f'
  same_node (present n) absent (Maybe g) after behind c d room space name other f f' e ec =
      let led = node_led n g room name (first_kind after) f in
      end_or_item g (first_kind behind) (front (spell n) (first_kind after)) _ d c f'
      (subst (λ z. begins g z ≡ true) (sym (front_kind (spell n) after)) (begun_kind g (spell n) after led))
      (ap first_kind (sym e) ∙ sym (front_kind (spell n) after)) (sym ec)
  same_node (present n) (present o) (Maybe g) after behind c d room space name other f f' e ec =
      let same : is_open g (front (spell n) (first_kind after)) ≡ is_open g (front (spell o) (first_kind behind)) = ap (is_open g) (front_kind (spell n) after ∙ ap first_kind e ∙ sym (front_kind (spell o) behind)) in
      let inside = same_node n o (One g) after behind c d room space name other f f' e (cancel (is_open g (front (spell n) (first_kind after))) m.Item _ _ c d (subst (λ z. choices (present n) (Maybe g) (first_kind after) ++ c ≡ ((if z then m.Item ∷ [] else []) ++ choices o (One g) (first_kind behind)) ++ d) (sym same) ec)) in
      record { tree = ap present inside.tree; rest = inside.rest; chosen = inside.chosen }

  pub same_nodes : (ns os : Nodes) (ps : List Part) (after behind : List Token) (c d : List Mark) (room space : ℕ) (name other : Content)
      → FitsAll room name ns ps (first_kind after) → FitsAll space other os ps (first_kind behind) → spell_all ns ++ after ≡ spell_all os ++ behind
      → choices_all ns ps (first_kind after) ++ c ≡ choices_all os ps (first_kind behind) ++ d → SameAll ns os after behind c d
  same_nodes none none [] after behind c d room space name other f f' e ec = record { trees = refl; rest = e; chosen = ec }
  same_nodes none none (p ∷ ps) after behind c d room space name other f f' e ec = absurd f
  same_nodes none (more o os) [] after behind c d room space name other f f' e ec = absurd f'
  same_nodes none (more o os) (p ∷ ps) after behind c d room space name other f f' e ec = absurd f
  same_nodes (more n ns) os [] after behind c d room space name other f f' e ec = absurd f
  same_nodes (more n ns) none (p ∷ ps) after behind c d room space name other f f' e ec = absurd f'
  same_nodes (more n ns) (more o os) (p ∷ ps) after behind c d room space name other f f' e ec =
      let x = front_kind (spell_all ns) after in
      let y = front_kind (spell_all os) behind in
      let here : choices n p (first_kind (spell_all ns ++ after)) ++ (choices_all ns ps (first_kind after) ++ c) ≡ choices o p (first_kind (spell_all os ++ behind)) ++ (choices_all os ps (first_kind behind) ++ d) =
      ap (λ z. choices n p z ++ (choices_all ns ps (first_kind after) ++ c)) (sym x) ∙ sym (append_assoc (choices n p (front (spell_all ns) (first_kind after))) (choices_all ns ps (first_kind after)) c) ∙ ec
      ∙ append_assoc (choices o p (front (spell_all os) (first_kind behind))) (choices_all os ps (first_kind behind)) d ∙ ap (λ z. choices o p z ++ (choices_all os ps (first_kind behind) ++ d)) y in
      let first = same_node n o p (spell_all ns ++ after) (spell_all os ++ behind) _ _ room space name other (subst (Fits room name n p) x f.0) (subst (Fits space other o p) y f'.0)
      (sym (append_assoc (spell n) (spell_all ns) after) ∙ e ∙ append_assoc (spell o) (spell_all os) behind) here in
      let others = same_nodes ns os ps after behind c d room space name other f.1 f'.1 first.rest first.chosen in
      record { trees = ap (λ z. more z ns) first.tree ∙ ap (more o) others.trees; rest = others.rest; chosen = others.chosen }

  pub same_each : (ns os : Nodes) (g : Form) (after behind : List Token) (c d : List Mark) (room space : ℕ) (name other : Content)
      → FitsEach room name ns g (first_kind after) → FitsEach space other os g (first_kind behind) → spell_all ns ++ after ≡ spell_all os ++ behind
      → choices_each ns g (first_kind after) ++ c ≡ choices_each os g (first_kind behind) ++ d → SameAll ns os after behind c d
  same_each none none g after behind c d room space name other f f' e ec =
      record { trees = refl; rest = e; chosen = left_over (is_open g (first_kind after)) (is_open g (first_kind behind)) c d (ap (λ l. is_open g (first_kind l)) e) ec }
    where
      left_over : (b b' : Bool) (c d : List Mark) → b ≡ b' → (if b then m.End ∷ [] else []) ++ c ≡ (if b' then m.End ∷ [] else []) ++ d → c ≡ d
      left_over true true c d s h = cc
      left_over false false c d s h = h
      left_over true false c d s h = cc
      left_over false true c d s h = cc
  same_each none (more o os) g after behind c d room space name other f f' e ec =
      let led = node_led o g space other (front (spell_all os) (first_kind behind)) f'.0 in
      let begun : begins g (first_kind ((spell o ++ spell_all os) ++ behind)) ≡ true = subst (λ z. begins g (first_kind z) ≡ true) (sym (append_assoc (spell o) (spell_all os) behind)) (begun_kind g (spell o) (spell_all os ++ behind) led) in
      end_or_item g (first_kind after) (front (spell o ++ spell_all os) (first_kind behind)) (choices o (One g) (front (spell_all os) (first_kind behind)) ++ choices_each os g (first_kind behind)) c d f
      (subst (λ z. begins g z ≡ true) (sym (front_kind (spell o ++ spell_all os) behind)) begun)
      (ap first_kind e ∙ sym (front_kind (spell o ++ spell_all os) behind)) (ec ∙ ap (λ l. l ++ d) (append_assoc (if is_open g (front (spell o ++ spell_all os) (first_kind behind)) then m.Item ∷ [] else []) _ _))
  same_each (more n ns) none g after behind c d room space name other f f' e ec =
      let led = node_led n g room name (front (spell_all ns) (first_kind after)) f.0 in
      let begun : begins g (first_kind ((spell n ++ spell_all ns) ++ after)) ≡ true = subst (λ z. begins g (first_kind z) ≡ true) (sym (append_assoc (spell n) (spell_all ns) after)) (begun_kind g (spell n) (spell_all ns ++ after) led) in
      end_or_item g (first_kind behind) (front (spell n ++ spell_all ns) (first_kind after)) (choices n (One g) (front (spell_all ns) (first_kind after)) ++ choices_each ns g (first_kind after)) d c f'
      (subst (λ z. begins g z ≡ true) (sym (front_kind (spell n ++ spell_all ns) after)) begun)
      (ap first_kind (sym e) ∙ sym (front_kind (spell n ++ spell_all ns) after)) (sym ec ∙ ap (λ l. l ++ c) (append_assoc (if is_open g (front (spell n ++ spell_all ns) (first_kind after)) then m.Item ∷ [] else []) _ _))
  same_each (more n ns) (more o os) g after behind c d room space name other f f' e ec =
      let x = front_kind (spell_all ns) after in
      let y = front_kind (spell_all os) behind in
      let b = is_open g (front (spell n ++ spell_all ns) (first_kind after)) in
      let same : b ≡ is_open g (front (spell o ++ spell_all os) (first_kind behind)) = ap (is_open g) (front_kind (spell n ++ spell_all ns) after ∙ ap first_kind e ∙ sym (front_kind (spell o ++ spell_all os) behind)) in
      let cn = choices n (One g) (front (spell_all ns) (first_kind after)) in
      let co = choices o (One g) (front (spell_all os) (first_kind behind)) in
      let rest_n = choices_each ns g (first_kind after) in
      let rest_o = choices_each os g (first_kind behind) in
      let ec' : ((if b then m.Item ∷ [] else []) ++ (cn ++ rest_n)) ++ c ≡ ((if b then m.Item ∷ [] else []) ++ (co ++ rest_o)) ++ d =
      ap (λ l. l ++ c) (sym (append_assoc (if b then m.Item ∷ [] else []) cn rest_n)) ∙ subst (λ z. choices_each (more n ns) g (first_kind after) ++ c ≡ ((if z then m.Item ∷ [] else []) ++ co ++ rest_o) ++ d) (sym same) ec ∙ ap (λ l. l ++ d) (append_assoc (if b then m.Item ∷ [] else []) co rest_o) in
      let inner : cn ++ (rest_n ++ c) ≡ co ++ (rest_o ++ d) = sym (append_assoc cn rest_n c) ∙ cancel b m.Item (cn ++ rest_n) (co ++ rest_o) c d ec' ∙ append_assoc co rest_o d in
      let here : choices n (One g) (first_kind (spell_all ns ++ after)) ++ (rest_n ++ c) ≡ choices o (One g) (first_kind (spell_all os ++ behind)) ++ (rest_o ++ d) =
      ap (λ z. choices n (One g) z ++ (rest_n ++ c)) (sym x) ∙ inner ∙ ap (λ z. choices o (One g) z ++ (rest_o ++ d)) y in
      let first = same_node n o (One g) (spell_all ns ++ after) (spell_all os ++ behind) (rest_n ++ c) (rest_o ++ d) room space name other (subst (Fits room name n (One g)) x f.0) (subst (Fits space other o (One g)) y f'.0)
      (sym (append_assoc (spell n) (spell_all ns) after) ∙ e ∙ append_assoc (spell o) (spell_all os) behind) here in
      let others = same_each ns os g after behind c d room space name other f.1 f'.1 first.rest first.chosen in
      record { trees = ap (λ z. more z ns) first.tree ∙ ap (more o) others.trees; rest = others.rest; chosen = others.chosen }
