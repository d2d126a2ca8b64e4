use Rattle.std.proofs.Common.{◌≡◌, ◌∙◌, sym, ap, is_some, false, None, option_map}
use Rattle.std.specs.List.{list_any}
use Rattle.std.specs.String.{string_bytes}
use Rattle.std.specs.Str.{bytes_eq}
use Rattle.con_terms.specs.Symbols.{symbol_of}
use Rattle.con_terms.proofs.Tables.{known_stays, none_any, list_any_map, put_new}
use Rattle.con_terms.proofs.symbol.SymTable.intern.Goals as goal

pub returns-in-Some-clause-grown : goal.returns-in-Some-clause-grown
returns-in-Some-clause-grown c = known_stays c.args.self.now c.args.text.now (ap is_some (sym c.in-Some.ensures.exact))

pub returns-clause-named : goal.returns-clause-named
returns-clause-named c =
    let absent : list_any (λ k. bytes_eq c.args.text.now (string_bytes k)) c.self.inside.texts.keys ≡ false =
    sym (list_any_map (bytes_eq c.args.text.now) string_bytes c.self.inside.texts.keys)
    ∙ ap (list_any (bytes_eq c.args.text.now)) c.self.view_is ∙ none_any c.args.self.now c.args.text.now (sym c.in-None.ensures.exact) in
    let added = put_new c.self.inside.texts.keys c.insert_full.new.self.keys c.in_ok-owned.owned c.args.text.now c.in_ok-owned.ensures.ok c.in-Ok.ensures.keys absent in
    rw c.len-number.ensures.len added.1

pub returns-clause-grown : goal.returns-clause-grown
returns-clause-grown c =
    let absent : list_any (λ k. bytes_eq c.args.text.now (string_bytes k)) c.self.inside.texts.keys ≡ false =
    sym (list_any_map (bytes_eq c.args.text.now) string_bytes c.self.inside.texts.keys)
    ∙ ap (list_any (bytes_eq c.args.text.now)) c.self.view_is ∙ none_any c.args.self.now c.args.text.now (sym c.in-None.ensures.exact) in
    let added = put_new c.self.inside.texts.keys c.insert_full.new.self.keys c.in_ok-owned.owned c.args.text.now c.in_ok-owned.ensures.ok c.in-Ok.ensures.keys absent in
    rw (← c.self.view_is) added.0
