-- Which tokens begin a rule, and that one of them decides, where these words begin each form.
use Rattle.std.proofs.Common.{Bool, true, false, not, ◌&&◌, ◌||◌, if◌then◌else◌, List, [], ◌∷◌}
use Rattle.surface_tree.specs.declared.kind.Kind.{Kind}
use Rattle.surface_grammar.specs.declared.form.Form.{Form}
use Rattle.surface_grammar.specs.declared.part.Part.{Part}
use Rattle.surface_grammar.specs.declared.part.Part.TheVariants.{Word, One, Many, Maybe}
use Rattle.surface_grammar.specs.declared.rule.Rule.{Rule}
use Rattle.surface_grammar.specs.Forms.{rules_of}
use Rattle.surface_grammar.specs.Sides.{bars_of}
use Rattle.surface_grammar.specs.Table.{body_of}
use Rattle.surface_grammar.specs.Words.{accept, any_accepts}
use Rattle.grammar_engine.specs.Laws.{is_raced_form}

abbrev pub leads_by : (Form → List Kind) → List Part → Kind → Bool
leads_by first [] x = false
leads_by first (Word w ∷ ps) x = accept w x
leads_by first (One g ∷ ps) x = any_accepts (first g) x
leads_by first (Many g ∷ ps) x = any_accepts (first g) x || leads_by first ps x
leads_by first (Maybe g ∷ ps) x = any_accepts (first g) x || leads_by first ps x

abbrev pub starts_by : (Form → List Kind) → Rule → Kind → Bool
starts_by first q x = not (any_accepts (bars_of q) x) && leads_by first (body_of q) x

abbrev pub none_by : (Form → List Kind) → List Rule → Kind → Bool
none_by first [] x = true
none_by first (q ∷ qs) x = not (starts_by first q x) && none_by first qs x

abbrev pub single_by : (Form → List Kind) → List Rule → Kind → Bool
single_by first [] x = true
single_by first (q ∷ qs) x = if starts_by first q x then none_by first qs x else single_by first qs x

abbrev pub decides_by : (Form → List Kind) → Form → Kind → Bool
decides_by first g x =
    (if any_accepts (first g) x then not (none_by first (rules_of g) x) else none_by first (rules_of g) x)
    && (is_raced_form g || single_by first (rules_of g) x)
