-- A token that begins no rule of a form doesn't begin the form.
use Rattle.std.proofs.Common.{◌≡◌, ◌≤◌, ℕ, List, drop, length, sym, ap, ◌∙◌, refl, subst, Bool, true, false, not, ◌||◌, if◌then◌else◌, Option, Some}
use Rattle.std.proofs.lemmas.List.{drop_all}
use Rattle.surface_tree.specs.declared.kind.Kind.{Kind}
use Rattle.surface_grammar.specs.declared.form.Form.{Form}
use Rattle.surface_grammar.specs.declared.rule.Rule.{Rule}
use Rattle.surface_grammar.specs.Forms.{rules_of}
use Rattle.surface_grammar.specs.Trees.{begins}
use Rattle.grammar_engine.specs.Laws.{is_raced_form, starts_none, starts_single}
use Rattle.grammar_engine.proofs.Table.Decided.{decides}
use Rattle.grammar_engine.proofs.Bools.{and_left}

no_rule : (b s : Bool) → (if b then not s else s) ≡ true → s ≡ true → b ≡ false
no_rule true true h e = cc
no_rule true false h e = cc
no_rule false s h e = refl

pub none_begins : (g : Form) (x : Kind) (next : Option Kind) (qs : List Rule) (i : ℕ) → next ≡ Some x → qs ≡ rules_of g → starts_none (drop i qs) x ≡ starts_none qs x → length qs ≤ i → begins g next ≡ false
none_begins g x next qs i is of_form kept over =
    let none : starts_none (rules_of g) x ≡ true = ap (λ l. starts_none l x) (sym of_form) ∙ sym kept ∙ ap (λ l. starts_none l x) (drop_all i qs over) in
    subst (λ o. begins g o ≡ false) (sym is) (no_rule (begins g (Some x)) (starts_none (rules_of g) x) (and_left (if begins g (Some x) then not (starts_none (rules_of g) x) else starts_none (rules_of g) x) (is_raced_form g || starts_single (rules_of g) x) (decides g x)) none)
