-- A `[` in braces of a query begins a tree.
use Rattle.std.proofs.Common.{◌≡◌, ◌<◌, ◌≤◌, ◌+◌, ◌-◌, ℕ, suc, List, [], ◌∷◌, ◌++◌, length, drop, refl, ap, sym, ◌∙◌, subst, arith, true, false, Some}
use Rattle.std.proofs.Math.Logic.{inl}
use Rattle.surface_tree.specs.declared.kind.Kind.TheVariants as k
use Rattle.surface_tree.specs.declared.token.Token.{Token}
use Rattle.surface_tree.specs.declared.token.Content.TheVariants.{Nothing}
use Rattle.surface_grammar.specs.declared.form.Form.TheVariants as f
use Rattle.surface_grammar.specs.declared.markup.MarkupRule.TheVariants as markup
use Rattle.surface_grammar.specs.declared.part.Part.{Part}
use Rattle.surface_grammar.specs.declared.part.Part.TheVariants.{One}
use Rattle.surface_grammar.specs.declared.queries.SqlRule.TheVariants as sql
use Rattle.surface_grammar.specs.declared.rule.Rule.TheVariants as r
use Rattle.surface_grammar.specs.declared.tree.Mark.{Mark}
use Rattle.surface_grammar.specs.Fronts.{first_kind}
use Rattle.surface_grammar.specs.Trees.{leaf, branch, none, more, spell_all, front, Fits}
use Rattle.surface_grammar.specs.Words.{accept}
use Rattle.grammar_engine.specs.declared.want.Want.{Want}
use Rattle.grammar_engine.specs.Allowed.{AllowedAt}
use Rattle.grammar_engine.specs.Places.{name_at}
use Rattle.grammar_engine.proofs.Keeping.Allowing.{Ready, token_at, grown_begins, among_none}
use Rattle.grammar_engine.proofs.Short.Calm.{nexts, behind, calm, shortest, fill_wants, parts_of}
use Rattle.grammar_engine.proofs.Short.Filling.{short, short_fits, filled}
use Rattle.grammar_engine.proofs.Keeping.Grown.{Grows}
use Rattle.grammar_engine.proofs.Bools.{and_right, every}

pub splice_allowed : (items : List Token) (p : Part) (at room here place space tag : ℕ) (ws : List Want) (leaves : List Token) (marks : List Mark)
    → Grows items p at room (drop here items) (record { part = One f.SqlBraceRest; room = space; tag = tag } ∷ ws) leaves marks → drop at items ≡ leaves ++ drop here items
    → Ready items p at room here here (record { part = One f.SqlBraceRest; room = space; tag = tag } ∷ ws) → 0 < space → first_kind (drop here items) ≡ Some k.LeftBracket → place ≡ suc here → AllowedAt items p at room place
splice_allowed items p at room here place space tag ws leaves marks grows read ready deep bracket next x ok within n fit =
    let come = ready.come x ok within n fit in
    let d = token_at items here k.LeftBracket bracket in
    let t = d.token in
    let name = name_at items tag in
    let y = front (spell_all (fill_wants items ws)) x in
    let quiet = ready.quiet x ok in
    let close : Token = record { kind = k.RightBracket; at = 0; content = Nothing } in
    let brace : Token = record { kind = k.RightBrace; at = 0; content = Nothing } in
    let inner = shortest 24 name f.Exp in
    let inner_fits : Fits (space - 1) name inner (One f.Exp) (Some k.RightBracket) = short_fits 24 name f.Exp (space - 1) (Some k.RightBracket) (short f.Exp).high refl (omega arith) in
    let opens : accept k.LeftBracket t.kind ≡ true = subst (λ z. accept k.LeftBracket z ≡ true) (sym d.kind) refl in
    let splice = branch (r.Markup markup.Splice) (more (leaf t) (more inner (more (leaf close) none))) in
    let splice_fits : Fits space name splice (One f.Splice) (Some k.RightBrace) = (space - 1, name, record { rule = inl refl; room_left = less_one space deep; named = λ i. refl; free = among_none (Some t.kind) }, ((opens, λ i. no_tag i), (inner_fits, ((refl, λ i. no_tag i), tt)))) in
    let node = branch (r.Sql sql.SqlSplice) (more splice (more (leaf brace) none)) in
    let node_fits : Fits space name node (One f.SqlBraceRest) y = (space, name, record { rule = inl refl; room_left = add_zero space; named = λ i. refl; free = among_none (Some t.kind) }, (splice_fits, ((refl, λ i. no_tag i), tt))) in
    grown_begins items p at room here place (record { part = One f.SqlBraceRest; room = space; tag = tag } ∷ ws) leaves marks x (more node (fill_wants items ws)) (t ∷ []) _
    grows read come (subst (λ i. i ≤ length items) (sym next) d.within)
    (node_fits, filled items ws x (and_right (every (behind (One f.SqlBraceRest)) (nexts (parts_of ws) (x ∷ []))) (calm (parts_of ws) (x ∷ [])) quiet) ready.roomy) refl (d.is ∙ ap (λ i. t ∷ drop i items) (sym next))
  where
    add_zero : (a : ℕ) → a + 0 ≡ a
    add_zero a = search arith

    less_one : (a : ℕ) → 0 < a → (a - 1) + 1 ≡ a
    less_one a h = omega (arith, h)

    no_tag : {A : Type 0} → false ≡ true → A
    no_tag e = cc
