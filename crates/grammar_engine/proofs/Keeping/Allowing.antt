-- What was read, and what other ways of reading came to, begins a tree.
use Rattle.std.proofs.Common.{◌≡◌, ◌<◌, ◌≤◌, ◌+◌, ℕ, zero, suc, max, List, [], ◌∷◌, ◌++◌, length, drop, append_assoc, refl, ap, sym, ◌∙◌, subst, arith, Bool, true, false, not, ◌&&◌, nat_le, Option, Some, None}
use Rattle.std.proofs.lemmas.List.{drop_all}
use Rattle.std.proofs.Math.Logic.{◌⊎◌, inl, inr}
use Rattle.std.proofs.lemmas.Bool.{not-true}
use Rattle.std.proofs.lemmas.Option.{same_Some}
use Rattle.surface_tree.specs.declared.kind.Kind.{Kind}
use Rattle.surface_tree.specs.declared.kind.Kind.TheVariants as k
use Rattle.surface_tree.specs.declared.token.Token.{Token}
use Rattle.surface_tree.specs.declared.token.Content.TheVariants.{Nothing}
use Rattle.surface_grammar.specs.declared.form.Form.{Form}
use Rattle.surface_grammar.specs.declared.form.Form.TheVariants as f
use Rattle.surface_grammar.specs.declared.constructors.ConRule.TheVariants as con
use Rattle.surface_grammar.specs.declared.expressions.ExpRule.TheVariants as exp
use Rattle.surface_grammar.specs.declared.part.Part.{Part}
use Rattle.surface_grammar.specs.declared.part.Part.TheVariants.{Word, One, Many, Maybe}
use Rattle.surface_grammar.specs.declared.rule.Rule.TheVariants as r
use Rattle.surface_grammar.specs.declared.tree.Mark.{Mark}
use Rattle.surface_grammar.specs.Firsts.{first_of}
use Rattle.surface_grammar.specs.Fronts.{first_kind}
use Rattle.surface_grammar.specs.Trees.{Node, leaf, branch, several, absent, Nodes, none, more, spell, spell_all, front, among, must_go_on, Fits}
use Rattle.surface_grammar.specs.Words.{accept}
use Rattle.grammar_engine.specs.declared.want.Want.{Want}
use Rattle.grammar_engine.specs.Allowed.{may_stand_behind, Begins, AllowedAt, MarksKind}
use Rattle.grammar_engine.specs.Places.{name_at}
use Rattle.grammar_engine.specs.Solid.{solid_or, first_solid}
use Rattle.grammar_engine.proofs.Short.Calm.{nexts, follows, behind, calm, shortest, fill_wants, parts_of, Roomy, TailRoomy, calm_some}
use Rattle.grammar_engine.proofs.Short.Filling.{rule_calm, short, short_leads, short_fits, front_wants, filled, follows_one}
use Rattle.grammar_engine.proofs.Keeping.Grown.{Filled, Grows, front_append}
use Rattle.grammar_engine.proofs.Table.Levels.{rename}
use Rattle.grammar_engine.proofs.Bools.{and_left, and_right, every}

-- what stays to be read can be filled, and what was read is allowed
pub record Ready (items : List Token) (p : Part) (at room here far : ℕ) (ws : List Want) : Type 0 where
  pub quiet : (x : Option Kind) → may_stand_behind p x ≡ true → calm (parts_of ws) (x ∷ []) ≡ true
  pub roomy : TailRoomy ws
  pub come : AllowedAt items p at room here
  pub farther : AllowedAt items p at room far

pub max_cases : (a b : ℕ) → (max a b ≡ a) ⊎ (max a b ≡ b)
max_cases a b = by_order (nat_le b a) refl
  where
    by_order : (c : Bool) → nat_le b a ≡ c → (max a b ≡ a) ⊎ (max a b ≡ b)
    by_order true e = inl (search (arith, e))
    by_order false e = inr (search (arith, e))

pub at_max : (P : ℕ → Type 0) (a b : ℕ) → P a → P b → P (max a b)
at_max P a b x y = by_case (max_cases a b)
  where
    by_case : (max a b ≡ a) ⊎ (max a b ≡ b) → P (max a b)
    by_case (inl e) = subst P (sym e) x
    by_case (inr e) = subst P (sym e) y

pub inside : (items : List Token) (i : ℕ) (t : Token) (rest : List Token) → drop i items ≡ t ∷ rest → i < length items
inside items i t rest e = by_order (nat_le (length items) i) refl
  where
    by_order : (c : Bool) → nat_le (length items) i ≡ c → i < length items
    by_order true h = let none : t ∷ rest ≡ [] = sym e ∙ drop_all i items (search (arith, h)) in cc
    by_order false h = search (arith, h)

pub among_none : (x : Option Kind) → among [] x ≡ false
among_none None = refl
among_none (Some y) = refl

-- a tree that grows out of what was read, and begins with what comes next
pub grown_begins : (items : List Token) (p : Part) (at room here place : ℕ) (ws : List Want) (leaves : List Token) (marks : List Mark) (x : Option Kind) (ns : Nodes) (ts rest : List Token)
    → Grows items p at room (drop here items) ws leaves marks → drop at items ≡ leaves ++ drop here items → Begins items p at room here x → place ≤ length items
    → Filled items ns ws x → spell_all ns ≡ ts ++ rest → drop here items ≡ ts ++ drop place items → Begins items p at room place x
grown_begins items p at room here place ws leaves marks x ns [] rest grows read b within fits e e' =
    record { node = b.node; front = b.front; after = b.after; within = within; fits = b.fits; read = b.read ∙ ap (λ l. b.front ++ l) e'; spelled = b.spelled }
grown_begins items p at room here place ws leaves marks x ns (t ∷ ts) rest grows read b within fits e e' =
    let g = grows ns x (ap (λ l. front l x) e ∙ sym (ap first_kind e')) fits in
    record {
      node = g.node;
      front = leaves ++ t ∷ ts;
      after = rest;
      within = within;
      fits = g.fits;
      read = read ∙ ap (λ l. leaves ++ l) e' ∙ sym (append_assoc leaves (t ∷ ts) (drop place items));
      spelled = g.spelled ∙ ap (λ l. leaves ++ l) e ∙ sym (append_assoc leaves (t ∷ ts) rest);
    }

pub begins_at : (items : List Token) (p : Part) (at room : ℕ) → AllowedAt items p at room at
begins_at items p at room x ok within n f = record { node = n; front = []; after = spell n; within = within; fits = f; read = refl; spelled = refl }

-- a pattern that comes up to the place begins a binding
pub bind_allowed : (items : List Token) (p : Part) (at room here place space tag : ℕ) (ws : List Want) (leaves : List Token) (marks : List Mark)
    → Grows items p at room (drop here items) (record { part = One f.Exp; room = space; tag = tag } ∷ ws) leaves marks → drop at items ≡ leaves ++ drop here items
    → Ready items p at room here here (record { part = One f.Exp; room = space; tag = tag } ∷ ws) → 0 < space → AllowedAt items (One f.Pat) here space place → AllowedAt items p at room place
bind_allowed items p at room here place space tag ws leaves marks grows read ready deep allowed x ok within n fit =
    let come = ready.come x ok within n fit in
    let pat = allowed (Some k.LeftArrow) refl come.within (shortest 24 (name_at items here) f.Pat) (short_fits 24 (name_at items here) f.Pat space (Some k.LeftArrow) (short f.Pat).high refl (search (arith, deep))) in
    let name = name_at items tag in
    let quiet = ready.quiet x ok in
    let y = front (spell_all (fill_wants items ws)) x in
    let behind_it : follows f.Exp y ≡ true = front_wants items (follows f.Exp) ws x (and_left (every (behind (One f.Exp)) (nexts (parts_of ws) (x ∷ []))) _ quiet) in
    let rest = shortest 24 name f.ExpBindRest in
    let body : calm (One f.Pat ∷ One f.ExpBindRest ∷ []) (y ∷ []) ≡ true = calm_some f.Exp (One f.Pat ∷ One f.ExpBindRest ∷ []) (y ∷ []) (follows_one f.Exp y behind_it) (rule_calm f.Exp (r.Exp exp.ExpBind) (inl refl)) in
    let ends : follows f.ExpBindRest y ≡ true = and_left (follows f.ExpBindRest y) true (and_left (every (behind (One f.ExpBindRest)) (y ∷ [])) true (and_right (every (behind (One f.Pat)) (nexts (One f.ExpBindRest ∷ []) (y ∷ []))) _ body)) in
    let rest_fits : Fits space name rest (One f.ExpBindRest) y = short_fits 24 name f.ExpBindRest space y (short f.ExpBindRest).high ends (search (arith, deep)) in
    let lead : front (spell rest ++ []) y ≡ Some k.LeftArrow = front_append (spell rest) [] y ∙ short_leads 24 name f.ExpBindRest (short f.ExpBindRest).high y in
    let pat_fits : Fits space name pat.node (One f.Pat) (front (spell rest ++ []) y) = subst (λ z. Fits space name pat.node (One f.Pat) z) (sym lead) (rename pat.node (One f.Pat) space (name_at items here) name (Some k.LeftArrow) refl pat.fits) in
    let bind = branch (r.Exp exp.ExpBind) (more pat.node (more rest none)) in
    let free = among_none (front (spell_all (more pat.node (more rest none))) y) in
    let bind_fits : Fits space name bind (One f.Exp) y = (space, name, record { rule = inl refl; room_left = add_zero space; named = λ i. refl; free = free }, (pat_fits, (rest_fits, tt))) in
    grown_begins items p at room here place (record { part = One f.Exp; room = space; tag = tag } ∷ ws) leaves marks x (more bind (fill_wants items ws)) pat.front (pat.after ++ ((spell rest ++ []) ++ spell_all (fill_wants items ws)))
    grows read come pat.within (bind_fits, filled items ws x (and_right (every (behind (One f.Exp)) (nexts (parts_of ws) (x ∷ []))) _ quiet) ready.roomy)
    (ap (λ l. (l ++ (spell rest ++ [])) ++ spell_all (fill_wants items ws)) pat.spelled ∙ assoc_three pat.front pat.after (spell rest ++ []) (spell_all (fill_wants items ws))) pat.read
  where
    add_zero : (a : ℕ) → a + 0 ≡ a
    add_zero a = search arith

    assoc_three : (a b c d : List Token) → ((a ++ b) ++ c) ++ d ≡ a ++ (b ++ (c ++ d))
    assoc_three a b c d = append_assoc (a ++ b) c d ∙ append_assoc a b (c ++ d)

-- the first that can't be left out, where it ends a constructor in brackets, is filled by this tree
abbrev mark_part : Node → Part → Nodes → Nodes → Nodes
mark_part mark (Word u) after later = more mark after
mark_part mark (One g) after later = more mark after
mark_part mark (Many g) after later = more (several none) later
mark_part mark (Maybe g) after later = more absent later

abbrev fill_mark : List Token → Node → List Want → Nodes
fill_mark items mark [] = none
fill_mark items mark (w ∷ ws) = mark_part mark w.part (fill_wants items ws) (fill_mark items mark ws)

record Marked (items : List Token) (ns : Nodes) (ts : List Token) (ws : List Want) (x : Option Kind) : Type 0 where
  pub fits : Filled items ns ws x
  pub lead : front (spell_all ns) x ≡ Some k.DoubleColon
  pub rest : List Token
  pub spelled : spell_all ns ≡ ts ++ rest

one_same : (g h : Form) → One g ≡ One h → g ≡ h
one_same g h e = cc

is_one : {A : Type 0} (u : Kind) (g : Form) → Word u ≡ One g → A
is_one u g e = cc

solid_next_at : (P : Option Kind → Bool) (wanted : Want) (p : Part) (space tag : ℕ) (ws : List Want) (ys : List (Option Kind)) → solid_or p (record { part = p; room = space; tag = tag }) (first_solid ws) ≡ Some wanted → wanted.part ≡ One f.ConParenEnd
    → (first_solid ws ≡ Some wanted → every P (nexts (parts_of ws) ys) ≡ true → P (Some k.DoubleColon) ≡ true) → every P (nexts (p ∷ parts_of ws) ys) ≡ true → P (Some k.DoubleColon) ≡ true
solid_next_at P wanted (Word u) space tag ws ys e is later a = is_one u f.ConParenEnd (ap (λ w. w.part) (same_Some (record { part = Word u; room = space; tag = tag }) wanted e) ∙ is)
solid_next_at P wanted (One g) space tag ws ys e is later a =
    let same : g ≡ f.ConParenEnd = one_same g f.ConParenEnd (ap (λ w. w.part) (same_Some (record { part = One g; room = space; tag = tag }) wanted e) ∙ is) in
    let b : every P (nexts (One f.ConParenEnd ∷ parts_of ws) ys) ≡ true = subst (λ z. every P (nexts (One z ∷ parts_of ws) ys) ≡ true) same a in
    and_left (P (Some k.DoubleColon)) true (and_right (P (Some k.RightParenthesis)) _ b)
solid_next_at P wanted (Many g) space tag ws ys e is later a = later e a
solid_next_at P wanted (Maybe g) space tag ws ys e is later a = later e a

solid_next : (P : Option Kind → Bool) (wanted : Want) (ws : List Want) (ys : List (Option Kind)) → first_solid ws ≡ Some wanted → wanted.part ≡ One f.ConParenEnd → every P (nexts (parts_of ws) ys) ≡ true → P (Some k.DoubleColon) ≡ true
solid_next P wanted [] ys e is a = cc
solid_next P wanted (w ∷ ws) ys e is a = solid_next_at P wanted w.part w.room w.tag ws ys e is (λ e' a'. solid_next P wanted ws ys e' is a') a

skips : (items : List Token) (g : Form) (wanted : Want) (ws : List Want) (x : Option Kind) (ns : Nodes) → first_solid ws ≡ Some wanted → wanted.part ≡ One f.ConParenEnd
    → every (λ y. follows g y && not (must_go_on g y)) (nexts (parts_of ws) (x ∷ [])) ≡ true → front (spell_all ns) x ≡ Some k.DoubleColon → must_go_on g (front (spell_all ns) x) ≡ false
skips items g wanted ws x ns e is a lead =
    subst (λ y. must_go_on g y ≡ false) (sym lead)
    (not-true (must_go_on g (Some k.DoubleColon)) (and_right (follows g (Some k.DoubleColon)) _ (solid_next (λ y. follows g y && not (must_go_on g y)) wanted ws (x ∷ []) e is a)))

marked_at : (items : List Token) (mark : Node) (wanted : Want) (p : Part) (space tag : ℕ) (ws : List Want) (x : Option Kind) → solid_or p (record { part = p; room = space; tag = tag }) (first_solid ws) ≡ Some wanted → wanted.part ≡ One f.ConParenEnd
    → ((y : Option Kind) → Fits wanted.room (name_at items wanted.tag) mark (One f.ConParenEnd) y) → ((y : Option Kind) → front (spell mark) y ≡ Some k.DoubleColon)
    → (first_solid ws ≡ Some wanted → Marked items (fill_mark items mark ws) (spell mark) ws x) → every (behind p) (nexts (parts_of ws) (x ∷ [])) ≡ true → calm (parts_of ws) (x ∷ []) ≡ true → Roomy ws
    → Marked items (mark_part mark p (fill_wants items ws) (fill_mark items mark ws)) (spell mark) (record { part = p; room = space; tag = tag } ∷ ws) x
marked_at items mark wanted (Word u) space tag ws x e is fits lead later b c roomy = is_one u f.ConParenEnd (ap (λ w. w.part) (same_Some (record { part = Word u; room = space; tag = tag }) wanted e) ∙ is)
marked_at items mark wanted (One g) space tag ws x e is fits lead later b c roomy =
    let same = same_Some (record { part = One g; room = space; tag = tag }) wanted e in
    let y = front (spell_all (fill_wants items ws)) x in
    let here : Fits wanted.room (name_at items wanted.tag) mark wanted.part y = subst (λ z. Fits wanted.room (name_at items wanted.tag) mark z y) (sym is) (fits y) in
    record {
      fits = (subst (λ w. Fits w.room (name_at items w.tag) mark w.part y) (sym same) here, filled items ws x c roomy);
      lead = front_append (spell mark) (spell_all (fill_wants items ws)) x ∙ lead y;
      rest = spell_all (fill_wants items ws);
      spelled = refl;
    }
marked_at items mark wanted (Many g) space tag ws x e is fits lead later b c roomy =
    let m = later e in
    record { fits = (skips items g wanted ws x (fill_mark items mark ws) e is b m.lead, m.fits); lead = m.lead; rest = m.rest; spelled = m.spelled }
marked_at items mark wanted (Maybe g) space tag ws x e is fits lead later b c roomy =
    let m = later e in
    record { fits = (skips items g wanted ws x (fill_mark items mark ws) e is b m.lead, m.fits); lead = m.lead; rest = m.rest; spelled = m.spelled }

marked : (items : List Token) (mark : Node) (wanted : Want) (ws : List Want) (x : Option Kind) → first_solid ws ≡ Some wanted → wanted.part ≡ One f.ConParenEnd
    → ((y : Option Kind) → Fits wanted.room (name_at items wanted.tag) mark (One f.ConParenEnd) y) → ((y : Option Kind) → front (spell mark) y ≡ Some k.DoubleColon)
    → calm (parts_of ws) (x ∷ []) ≡ true → Roomy ws → Marked items (fill_mark items mark ws) (spell mark) ws x
marked items mark wanted [] x e is fits lead c roomy = cc
marked items mark wanted (w ∷ ws) x e is fits lead c roomy =
    let b = and_left (every (behind w.part) (nexts (parts_of ws) (x ∷ []))) (calm (parts_of ws) (x ∷ [])) c in
    let d = and_right (every (behind w.part) (nexts (parts_of ws) (x ∷ []))) (calm (parts_of ws) (x ∷ [])) c in
    marked_at items mark wanted w.part w.room w.tag ws x e is fits lead (λ e'. marked items mark wanted ws x e' is fits lead d roomy.1) b d roomy.1

pub record Found (items : List Token) (i : ℕ) (y : Kind) : Type 0 where
  pub token : Token
  pub is : drop i items ≡ token ∷ drop (suc i) items
  pub kind : token.kind ≡ y
  pub within : suc i ≤ length items

pub token_at : (items : List Token) (i : ℕ) (y : Kind) → first_kind (drop i items) ≡ Some y → Found items i y
token_at [] zero y e = cc
token_at [] (suc i) y e = cc
token_at (t ∷ ts) zero y e = record { token = t; is = refl; kind = cc; within = omega arith }
token_at (t ∷ ts) (suc i) y e =
    let d = token_at ts i y e in
    record { token = d.token; is = d.is; kind = d.kind; within = omega (arith, d.within) }

-- the open option may be left out before `::`
left_open : must_go_on f.ConForall (Some k.DoubleColon) ≡ false
unfolding first_of
left_open = refl

-- a kind that comes up to the place ends a constructor in brackets
pub kind_allowed : (items : List Token) (p : Part) (at room here place space tag : ℕ) (ws : List Want) (leaves : List Token) (marks : List Mark)
    → Grows items p at room (drop here items) (record { part = Maybe f.ConForall; room = space; tag = tag } ∷ ws) leaves marks → drop at items ≡ leaves ++ drop here items
    → Ready items p at room here here (record { part = Maybe f.ConForall; room = space; tag = tag } ∷ ws) → MarksKind items here ws place → AllowedAt items p at room place
kind_allowed items p at room here place space tag ws leaves marks grows read ready m x ok within n fit =
    let come = ready.come x ok within n fit in
    let d = token_at items here k.DoubleColon m.mark in
    let t = d.token in
    let w = m.want in
    let kind = m.allowed (Some k.RightParenthesis) refl d.within (shortest 24 (name_at items (suc here)) f.KindTerm) (short_fits 24 (name_at items (suc here)) f.KindTerm w.room (Some k.RightParenthesis) (short f.KindTerm).high refl (omega arith)) in
    let name = name_at items w.tag in
    let close : Token = record { kind = k.RightParenthesis; at = 0; content = Nothing } in
    let mark = branch (r.Con con.ConMarked) (more (leaf t) (more kind.node (more (leaf close) none))) in
    let colons : accept k.DoubleColon t.kind ≡ true = subst (λ z. accept k.DoubleColon z ≡ true) (sym d.kind) refl in
    let node_fits : Fits w.room name kind.node (One f.KindTerm) (Some k.RightParenthesis) = rename kind.node (One f.KindTerm) w.room (name_at items (suc here)) name (Some k.RightParenthesis) refl kind.fits in
    let mark_fits : (y : Option Kind) → Fits w.room name mark (One f.ConParenEnd) y = λ y. (w.room, name, record { rule = inr (inl refl); room_left = add_zero w.room; named = λ i. refl; free = among_none (Some t.kind) }, ((colons, λ i. no_tag i), (node_fits, ((refl, λ i. no_tag i), tt)))) in
    let quiet = ready.quiet x ok in
    let made = marked items mark w ws x m.solid m.part mark_fits (λ y. ap Some d.kind) (and_right (every (behind (Maybe f.ConForall)) (nexts (parts_of ws) (x ∷ []))) _ quiet) ready.roomy in
    let gone : must_go_on f.ConForall (front (spell_all (fill_mark items mark ws)) x) ≡ false = subst (λ y. must_go_on f.ConForall y ≡ false) (sym made.lead) left_open in
    grown_begins items p at room here place (record { part = Maybe f.ConForall; room = space; tag = tag } ∷ ws) leaves marks x (more absent (fill_mark items mark ws)) (t ∷ kind.front) (kind.after ++ (close ∷ made.rest))
    grows read come kind.within (gone, made.fits)
    (made.spelled ∙ ap (λ l. t ∷ ((l ++ close ∷ []) ++ made.rest)) kind.spelled ∙ ap (λ l. t ∷ l) (assoc_three kind.front kind.after close made.rest)) (d.is ∙ ap (λ l. t ∷ l) kind.read)
  where
    add_zero : (a : ℕ) → a + 0 ≡ a
    add_zero a = search arith

    no_tag : {A : Type 0} → false ≡ true → A
    no_tag e = cc

    assoc_three : (a b : List Token) (c : Token) (l : List Token) → ((a ++ b) ++ c ∷ []) ++ l ≡ a ++ (b ++ (c ∷ l))
    assoc_three a b c l = append_assoc (a ++ b) (c ∷ []) l ∙ append_assoc a b (c ∷ l)
