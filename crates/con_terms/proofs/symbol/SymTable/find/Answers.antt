use Rattle.std.proofs.Common.{◌≡◌, Option, None, Some, IsSome, ◌↔◌, ℕ, sym, subst}
use Rattle.std.specs.List.{Contains}
use Rattle.con_terms.specs.Symbols.{symbol_of}
use Rattle.con_terms.proofs.Tables.{found_at, symbol_named, symbol_there}
use Rattle.con_terms.proofs.symbol.SymTable.find.Goals as goal

pub returns-in-Some-clause-exact : goal.returns-in-Some-clause-exact
returns-in-Some-clause-exact c = found_at c.self.inside.texts.keys _ _ _ c.self.view_is c.in-Some.ensures.index

pub returns-in-Some-clause-named : goal.returns-in-Some-clause-named
returns-in-Some-clause-named c = symbol_named _ _ _ (sym (found_at c.self.inside.texts.keys _ _ _ c.self.view_is c.in-Some.ensures.index))

pub returns-in-Some-clause-there : goal.returns-in-Some-clause-there
returns-in-Some-clause-there c =
    let P : Option ℕ → Type 0 = λ o. IsSome o ↔ Contains c.args.self.now c.args.text.now in
    subst P (sym (found_at c.self.inside.texts.keys _ _ _ c.self.view_is c.in-Some.ensures.index)) (symbol_there c.args.self.now c.args.text.now)

pub returns-in-None-clause-exact : goal.returns-in-None-clause-exact
returns-in-None-clause-exact c = found_at c.self.inside.texts.keys _ _ _ c.self.view_is c.in-None.ensures.index

pub returns-in-None-clause-there : goal.returns-in-None-clause-there
returns-in-None-clause-there c =
    let P : Option ℕ → Type 0 = λ o. IsSome o ↔ Contains c.args.self.now c.args.text.now in
    subst P (sym (found_at c.self.inside.texts.keys _ _ _ c.self.view_is c.in-None.ensures.index)) (symbol_there c.args.self.now c.args.text.now)
