-- The laws of the table, computed, and what they say.
use Rattle.std.proofs.Common.{◌≡◌, ◌<◌, ℕ, zero, suc, List, [], ◌∷◌, length, get_or, refl, sym, subst, ◌∙◌, arith, Bool, true, false, not, ◌||◌, if◌then◌else◌, Some, nat_lt, ltb-true}
use Rattle.std.proofs.lemmas.Bool.{and_left as no_left, and_right as no_right, not_from_true}
use Rattle.std.proofs.Math.Logic.{inl, inr}
use Rattle.surface_tree.specs.declared.kind.Kind.{Kind}
use Rattle.surface_tree.specs.declared.kind.Kind.TheVariants as k
use Rattle.surface_grammar.specs.declared.form.Form.{Form}
use Rattle.surface_grammar.specs.declared.form.Form.TheVariants as f
use Rattle.surface_grammar.specs.declared.rule.Rule.{Rule}
use Rattle.surface_grammar.specs.Firsts.{first_of}
use Rattle.surface_grammar.specs.Forms.{rules_of}
use Rattle.surface_grammar.specs.Leads.{starts}
use Rattle.surface_grammar.specs.Table.{body_of}
use Rattle.surface_grammar.specs.Trees.{IsIn, begins}
use Rattle.surface_grammar.specs.Words.{kind_code}
use Rattle.grammar_engine.specs.Laws.{is_raced_form, starts_none, starts_single, one_token_decides, solid, all_solid, every_kind}
use Rattle.surface_grammar.proofs.Every.{of_each}
use Rattle.surface_grammar.proofs.Listed.{of_each_by}
use Rattle.grammar_engine.proofs.Bools.{and_left, and_right}
use Rattle.grammar_engine.proofs.Table.ByWords.{decides_by}

abbrev pub kinds : List Kind
kinds =
    k.KeywordAnd ∷ k.KeywordCase ∷ k.KeywordCon ∷ k.KeywordCookie ∷ k.KeywordDatatype ∷ k.KeywordElse ∷
    k.KeywordEnd ∷ k.KeywordFn ∷ k.KeywordFun ∷ k.KeywordFunctor ∷ k.KeywordIf ∷ k.KeywordIn ∷ k.KeywordLet ∷
    k.KeywordOf ∷ k.KeywordOpen ∷ k.KeywordRec ∷ k.KeywordSequence ∷ k.KeywordSig ∷ k.KeywordSignature ∷
    k.KeywordStruct ∷ k.KeywordStructure ∷ k.KeywordTable ∷ k.KeywordThen ∷ k.KeywordType ∷ k.KeywordVal ∷
    k.KeywordWhere ∷ k.SqlAnd ∷ k.SqlAs ∷ k.SqlAsc ∷ k.SqlBy ∷ k.SqlConstraint ∷ k.SqlDelete ∷ k.SqlDesc ∷
    k.SqlFalse ∷ k.SqlFrom ∷ k.SqlInsert ∷ k.SqlInto ∷ k.SqlIs ∷ k.SqlJoin ∷ k.SqlKey ∷ k.SqlLeft ∷ k.SqlLimit ∷
    k.SqlNot ∷ k.SqlNull ∷ k.SqlOffset ∷ k.SqlOn ∷ k.SqlOr ∷ k.SqlOrder ∷ k.SqlPrimary ∷ k.SqlSelect ∷
    k.SqlSet ∷ k.SqlTrue ∷ k.SqlUnique ∷ k.SqlUpdate ∷ k.SqlValues ∷ k.SqlWhere ∷ k.TypeWord ∷ k.UnitWord ∷
    k.NameWord ∷ k.Exclamation ∷ k.Hash ∷ k.Dollar ∷ k.Percent ∷ k.DoubleAmpersand ∷ k.LeftParenthesis ∷
    k.RightParenthesis ∷ k.Star ∷ k.Plus ∷ k.DoublePlus ∷ k.Comma ∷ k.Dash ∷ k.DoubleDash ∷ k.TripleDash ∷
    k.Arrow ∷ k.Dot ∷ k.Ellipsis ∷ k.Slash ∷ k.Colon ∷ k.DoubleColon ∷ k.TripleColon ∷ k.Semicolon ∷
    k.LessThan ∷ k.LeftArrow ∷ k.LessOrEqual ∷ k.NotEqual ∷ k.XmlEmpty ∷ k.XmlOpen ∷ k.EqualSign ∷
    k.DoubleArrow ∷ k.GreaterThan ∷ k.GreaterOrEqual ∷ k.AtSign ∷ k.DoubleAtSign ∷ k.LeftBracket ∷
    k.RightBracket ∷ k.Caret ∷ k.LeftBrace ∷ k.Bar ∷ k.DoubleBar ∷ k.RightBrace ∷ k.Tilde ∷ k.Underscore ∷
    k.LowerName ∷ k.UpperName ∷ k.Integer ∷ k.StringLiteral ∷ k.TextRun ∷ k.TagOpen ∷ k.TagClose ∷ k.XmlClose ∷
    k.AttributeName ∷ k.TagSelfClose ∷ []

pub found : (x : Kind) → get_or kinds (kind_code x) k.KeywordAnd ≡ x
found k.KeywordAnd = refl
found _ = refl

low : (x : Kind) → nat_lt (kind_code x) (length kinds) ≡ true
low k.KeywordAnd = refl
low _ = refl

every_at : (p : Kind → Bool) (xs : List Kind) (i : ℕ) (d : Kind) → every_kind p xs ≡ true → i < length xs → p (get_or xs i d) ≡ true
every_at p [] i d h lt = absurd (omega arith)
every_at p (x ∷ xs) zero d h lt = and_left (p x) (every_kind p xs) h
every_at p (x ∷ xs) (suc i) d h lt = every_at p xs i d (and_right (p x) (every_kind p xs) h) (omega arith)

-- computed
decided : (g : Form) → every_kind (decides_by first_of g) kinds ≡ true
decided g = of_each_by (λ first g. every_kind (decides_by first g) kinds) refl g

all_solid_of : (g : Form) → all_solid (rules_of g) ≡ true
all_solid_of g = of_each (λ (g : Form). all_solid (rules_of g)) refl g

pub decides : (g : Form) (x : Kind) → one_token_decides g x ≡ true
decides g x = subst (λ y. decides_by first_of g y ≡ true) (found x) (every_at (decides_by first_of g) kinds (kind_code x) k.KeywordAnd (decided g) (ltb-true (kind_code x) (length kinds) (low x)))

solid_in : (qs : List Rule) (q : Rule) → all_solid qs ≡ true → IsIn q qs → solid (body_of q) ≡ true
solid_in [] q h i = absurd i
solid_in (p ∷ qs) q h (inl e) = subst (λ z. solid (body_of z) ≡ true) (sym e) (and_left (solid (body_of p)) _ h)
solid_in (p ∷ qs) q h (inr i) = solid_in qs q (and_right (solid (body_of p)) _ h) i

pub rule_solid : (g : Form) (q : Rule) → IsIn q (rules_of g) → solid (body_of q) ≡ true
rule_solid g q i = solid_in (rules_of g) q (all_solid_of g) i

some_starts : (qs : List Rule) (q : Rule) (x : Kind) → IsIn q qs → starts q x ≡ true → starts_none qs x ≡ false
some_starts [] q x i h = absurd i
some_starts (p ∷ qs) q x (inl e) h = no_left (not (starts p x)) (starts_none qs x) (not_from_true (starts p x) (subst (λ z. starts z x ≡ true) e h))
some_starts (p ∷ qs) q x (inr i) h = no_right (not (starts p x)) (starts_none qs x) (some_starts qs q x i h)

-- a token that begins a rule of the form begins the form
pub starts_begins : (g : Form) (q : Rule) (x : Kind) → IsIn q (rules_of g) → starts q x ≡ true → begins g (Some x) ≡ true
starts_begins g q x i h = must (begins g (Some x)) (starts_none (rules_of g) x) (and_left _ (is_raced_form g || starts_single (rules_of g) x) (decides g x)) (some_starts (rules_of g) q x i h)
  where
    must : (b s : Bool) → (if b then not s else s) ≡ true → s ≡ false → b ≡ true
    must true s h e = refl
    must false s h e = cc

single_in : (qs : List Rule) (q p : Rule) (x : Kind) → starts_single qs x ≡ true → IsIn q qs → IsIn p qs → starts q x ≡ true → starts p x ≡ true → q ≡ p
single_in [] q p x one i j a b = absurd i
single_in (o ∷ qs) q p x one (inl e) (inl e') a b = e ∙ sym e'
single_in (o ∷ qs) q p x one (inl e) (inr j) a b = clash (starts o x) (starts_none qs x) (starts_single qs x) one (subst (λ z. starts z x ≡ true) e a) (some_starts qs p x j b)
  where
    clash : {A : Type 0} (s n t : Bool) → (if s then n else t) ≡ true → s ≡ true → n ≡ false → A
    clash true n t h e f = cc
    clash false n t h e f = cc
single_in (o ∷ qs) q p x one (inr i) (inl e') a b = clash (starts o x) (starts_none qs x) (starts_single qs x) one (subst (λ z. starts z x ≡ true) e' b) (some_starts qs q x i a)
  where
    clash : {A : Type 0} (s n t : Bool) → (if s then n else t) ≡ true → s ≡ true → n ≡ false → A
    clash true n t h e f = cc
    clash false n t h e f = cc
single_in (o ∷ qs) q p x one (inr i) (inr j) a b = single_in qs q p x (rest (starts o x) (starts_none qs x) (starts_single qs x) one (some_starts qs q x i a)) i j a b
  where
    rest : (s n t : Bool) → (if s then n else t) ≡ true → n ≡ false → t ≡ true
    rest true n t h f = cc
    rest false n t h f = h

-- one token begins one rule of a form that isn't raced
pub one_rule : (g : Form) (q p : Rule) (x : Kind) → is_raced_form g ≡ false → IsIn q (rules_of g) → IsIn p (rules_of g) → starts q x ≡ true → starts p x ≡ true → q ≡ p
one_rule g q p x calm i j a b =
    single_in (rules_of g) q p x
    (plain (is_raced_form g) (starts_single (rules_of g) x) (and_right (if begins g (Some x) then not (starts_none (rules_of g) x) else starts_none (rules_of g) x) _ (decides g x)) calm) i j a b
  where
    plain : (r s : Bool) → (r || s) ≡ true → r ≡ false → s ≡ true
    plain true s h e = cc
    plain false s h e = h
