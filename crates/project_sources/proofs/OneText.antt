-- A file has one tree at most, and is refused for one reason.
use Rattle.std.proofs.Common.{◌≡◌, ◌≢◌, ℕ, ◌<◌, ◌≤◌, true, List, length, sym, ap, ◌∙◌, subst, arith, inl, inr}
use Rattle.std.proofs.Common.{◌⊎◌}
use Rattle.surface_tree.specs.TokenList.{TokenList}
use Rattle.surface_grammar.specs.declared.fault.ParseFault.{ParseFault}
use Rattle.surface_grammar.specs.declared.fault.ParseFault.TheVariants as parser
use Rattle.surface_grammar.specs.declared.part.Part.{Part}
use Rattle.surface_grammar.specs.Refusals.{deepest}
use Rattle.surface_grammar.specs.Trees.{Node, spell}
use Rattle.grammar_engine.specs.Exact.{FaultExact, OneRefusal, TreesAreNotRefused}
use Rattle.grammar_engine.specs.Single.{is_text_part, OneWholeTree}
use Rattle.ur_lexer.specs.Lexing.{at_end, at_fault, Ending, TextsHaveOneReading}
use Rattle.ur_lexer.specs.declared.fault.LexFault.{LexFault}
use Rattle.project_sources.specs.declared.fault.SourceFault.{SourceFault}
use Rattle.project_sources.specs.declared.fault.SourceFault.TheVariants.{Unread, Unparsed}
use Rattle.project_sources.specs.Texts.{longest, HasTree, HasTokens, HasNoTree, too_long, no_text, no_tokens}
use Rattle.project_sources.specs.Texts.{no_node}

-- the laws of the readers below
pub record Readers : Type 0 where
  pub reading : TextsHaveOneReading
  pub tree : OneWholeTree
  pub refusal : OneRefusal
  pub refused : TreesAreNotRefused

-- no reading ends both at the text's end and at a fault
never : (fault : LexFault) → ◌≡◌ {A = Ending} at_end (at_fault fault) → ⊥
never fault same = absurd (cc same)

fault_same : (told again : LexFault) → ◌≡◌ {A = Ending} (at_fault told) (at_fault again) → told ≡ again
fault_same told again same = cc

too_few : (bytes : List ℕ) → longest < length bytes → length bytes ≤ longest → ⊥
too_few bytes l few = omega (arith, l, few)

pub one_tree : Readers → (part : Part) (bytes : List ℕ) (n o : Node) → is_text_part part ≡ true
    → HasTree part bytes n → HasTree part bytes o → n ≡ o
one_tree laws part bytes n o is h k =
    laws.tree part n o deepest deepest is h.whole k.whole (laws.reading bytes (spell n)
    (spell o) at_end at_end h.tokens k.tokens).0

-- two lists of tokens of a text are one
one_list : Readers → (bytes : List ℕ) (ts us : TokenList) → HasTokens bytes ts → HasTokens bytes us → us ≡ ts
one_list laws bytes ts us h k =
    let items : us.items ≡ ts.items = (laws.reading bytes us.items ts.items at_end at_end k.lexes h.lexes).0 in
    let ends : us.end ≡ ts.end = k.end ∙ sym h.end in
    λ i. record { items = items i; end = ends i }

pub tree_or_none : Readers → (part : Part) (name bytes : List ℕ) (n : Node) (fault : SourceFault)
    → HasTree part bytes n → HasNoTree part name bytes fault → ⊥
tree_or_none laws part name bytes n fault h (too_long l e) = too_few bytes l h.text.0
tree_or_none laws part name bytes n fault h (no_text few bad e) = bad h.text.1
tree_or_none laws part name bytes n fault h (no_tokens text tokens told lexes e) =
    never told (laws.reading bytes (spell n) tokens at_end (at_fault told) h.tokens lexes).1
tree_or_none laws part name bytes n fault h (no_node text ts told tokens exact other e) =
    other (laws.refused part ts told n exact h.whole (laws.reading bytes
    (spell n) ts.items at_end at_end h.tokens tokens.lexes).0)

one_refused : (told again : ParseFault) → told ≢ parser.Memory → again ≢ parser.Memory → (told ≡ parser.Memory) ⊎
    (again ≡ parser.Memory) ⊎ (told ≡ again) → told ≡ again
one_refused told again a b (inl e) = absurd (a e)
one_refused told again a b (inr (inl e)) = absurd (b e)
one_refused told again a b (inr (inr e)) = e

pub one_reason : Readers → (part : Part) (name bytes : List ℕ) (fault again : SourceFault)
    → HasNoTree part name bytes fault → HasNoTree part name bytes again → fault ≡ again
one_reason laws part name bytes fault again (too_long l e) (too_long l' e') = e ∙ sym e'
one_reason laws part name bytes fault again (too_long l e) (no_text few bad e') = absurd (too_few bytes l few)
one_reason laws part name bytes fault again (too_long l e) (no_tokens text tokens told lexes e') = absurd
    (too_few bytes l text.0)
one_reason laws part name bytes fault again (too_long l e) (no_node text ts told tokens exact other e') = absurd
    (too_few bytes l text.0)
one_reason laws part name bytes fault again (no_text few bad e) (too_long l e') = absurd (too_few bytes l few)
one_reason laws part name bytes fault again (no_text few bad e) (no_text few' bad' e') = e ∙ sym e'
one_reason laws part name bytes fault again (no_text few bad e) (no_tokens text tokens told lexes e') = absurd
    (bad text.1)
one_reason laws part name bytes fault again (no_text few bad e) (no_node text ts told tokens exact other e') = absurd
    (bad text.1)
one_reason laws part name bytes fault again (no_tokens text tokens told lexes e) (too_long l e') = absurd
    (too_few bytes l text.0)
one_reason laws part name bytes fault again (no_tokens text tokens told lexes e) (no_text few bad e') = absurd
    (bad text.1)
one_reason laws part name bytes fault again (no_tokens text tokens told lexes e)
    (no_tokens text' tokens' told' lexes' e') =
    e ∙ ap (Unread name) (fault_same told told' (laws.reading bytes tokens tokens' (at_fault told)
    (at_fault told') lexes lexes').1) ∙ sym e'
one_reason laws part name bytes fault again (no_tokens text tokens told lexes e)
    (no_node text' ts told' tokens' exact other e') =
    absurd (never told (laws.reading bytes ts.items tokens at_end (at_fault told) tokens'.lexes lexes).1)
one_reason laws part name bytes fault again (no_node text ts told tokens exact other e) (too_long l e') = absurd
    (too_few bytes l text.0)
one_reason laws part name bytes fault again (no_node text ts told tokens exact other e) (no_text few bad e') = absurd
    (bad text.1)
one_reason laws part name bytes fault again (no_node text ts told tokens exact other e)
    (no_tokens text' tokens' told' lexes e') =
    absurd (never told' (laws.reading bytes ts.items tokens' at_end (at_fault told') tokens.lexes lexes).1)
one_reason laws part name bytes fault again (no_node text ts told tokens exact other e)
    (no_node text' us told' tokens' exact' other' e') =
    let same : us ≡ ts = one_list laws bytes ts us tokens tokens' in
    e ∙ ap (Unparsed name) (one_refused told told' other other' (laws.refusal part ts told told' exact (subst (λ
    (l : TokenList). FaultExact part l told') same exact'))) ∙ sym e'
