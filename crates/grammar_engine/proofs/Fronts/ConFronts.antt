-- The front of a constructor, which is none of a kind.
use Rattle.std.proofs.Common.{◌≡◌, ℕ, List, [], ◌∷◌, ◌++◌, append_assoc, refl, ap, sym, ◌∙◌, Bool, true, false, not, ◌&&◌, ◌||◌, Option}
use Rattle.std.proofs.Math.Logic.{inl, inr}
use Rattle.std.proofs.lemmas.Bool.{not-true}
use Rattle.surface_tree.specs.declared.kind.Kind.{Kind}
use Rattle.surface_tree.specs.declared.kind.Kind.TheVariants as k
use Rattle.surface_tree.specs.declared.token.Token.{Token}
use Rattle.surface_tree.specs.declared.token.Content.{Content}
use Rattle.surface_grammar.specs.declared.form.Form.{Form}
use Rattle.surface_grammar.specs.declared.form.Form.TheVariants as f
use Rattle.surface_grammar.specs.declared.part.Part.{Part}
use Rattle.surface_grammar.specs.declared.part.Part.TheVariants.{Word, One, Many, Maybe}
use Rattle.surface_grammar.specs.declared.rule.Rule.{Rule}
use Rattle.surface_grammar.specs.Forms.{rules_of}
use Rattle.surface_grammar.specs.Table.{body_of}
use Rattle.surface_grammar.specs.Trees.{Node, spell, Fits}
use Rattle.surface_grammar.specs.Words.{accept}
use Rattle.grammar_engine.proofs.Trees.Pieces.{Run, nil, cons, Pieces, Step, gather}
use Rattle.grammar_engine.proofs.Fronts.Scanned.{accepted}
use Rattle.grammar_engine.proofs.Fronts.Skimmed.{is_after, after_kind, skim_at, skim, past, kind_facts, atom_past, past_kind}
use Rattle.surface_grammar.proofs.Every.{of_each}
use Rattle.grammar_engine.proofs.Bools.{and_left, and_right, every, every_in, unless, or_split}

-- the forms in whose front no kind stands
abbrev is_con_front : Form → Bool
is_con_front f.Con = true
is_con_front f.ConProduct = true
is_con_front f.ConSum = true
is_con_front f.ConApply = true
is_con_front f.ConTerm = true
is_con_front f.ConPrimary = true
is_con_front f.ConAtom = true
is_con_front f.ConParenRest = true
is_con_front f.ConFieldTypes = true
is_con_front f.Path = true
is_con_front f.UpperDot = true
is_con_front f.BracketOpen = true
is_con_front _ = false

abbrev is_field : Form → Bool
is_field f.FieldName = true
is_field _ = false

-- the parts begin with a word that doesn't follow the name of a kind
abbrev breaks : List Part → Bool
breaks (Word w ∷ ps) = not (is_after w)
breaks _ = false

-- a word at which the search for a kind ends with no; where it goes on; and where what follows decides
abbrev front_word : Kind → Bool → Bool → Bool
front_word k.LeftParenthesis s b = s
front_word k.LeftBrace s b = s
front_word k.TypeWord s b = b
front_word k.UnitWord s b = b
front_word k.NameWord s b = b
front_word k.UpperName s b = b
front_word _ s b = true

abbrev fronts : List Part → Bool
fronts [] = false
fronts (Word w ∷ ps) = front_word w (fronts ps) (breaks ps)
fronts (One g ∷ ps) = is_con_front g || (is_field g && breaks ps)
fronts (Many g ∷ ps) = is_con_front g && fronts ps
fronts (Maybe g ∷ ps) = is_con_front g && fronts ps

abbrev field_words : List Part → Bool
field_words (Word w ∷ []) = front_word w false true
field_words (Word w ∷ ps) = front_word w false false
field_words _ = false

abbrev is_fronted : Form → Rule → Bool
is_fronted g q = (not (is_con_front g) || fronts (body_of q)) && (not (is_field g) || field_words (body_of q))

-- computed
fronted : (g : Form) → every (is_fronted g) (rules_of g) ≡ true
fronted g = of_each (λ (g : Form). every (is_fronted g) (rules_of g)) refl g

record Fronted (g : Form) (ts : List Token) : Type 0 where
  pub plain : is_con_front g ≡ true → (rest : List Token) → skim (ts ++ rest) ≡ false
  pub field : is_field g ≡ true → (rest : List Token) → after_kind rest ≡ false → skim (ts ++ rest) ≡ false

-- the search at a word, where what follows settles it
skip_same : (x : Kind) (s b u v : Bool) → front_word x s b ≡ true → (s ≡ true → u ≡ false) → (b ≡ true → v ≡ false) → skim_at x u v ≡ false
skip_same k.LeftParenthesis s b u v h a c = a h
skip_same k.LeftBrace s b u v h a c = a h
skip_same k.TypeWord s b u v h a c = c h
skip_same k.UnitWord s b u v h a c = c h
skip_same k.NameWord s b u v h a c = c h
skip_same x s b u v h a c = refl

skip_word : (w : Kind) (t : Token) (us rest : List Token) (s b : Bool) → accept w t.kind ≡ true → front_word w s b ≡ true → (s ≡ true → skim (us ++ rest) ≡ false) → (b ≡ true → after_kind (us ++ rest) ≡ false) → skim (t ∷ (us ++ rest)) ≡ false
skip_word w t us rest s b ok h a c = skip_same t.kind s b (skim (us ++ rest)) (after_kind (us ++ rest)) (accepted (λ z. front_word z s b) w t.kind refl refl refl ok ∙ h) a c

breaks_after : (ps : List Part) (l : List Token) → Pieces Fronted ps l → breaks ps ≡ true → (rest : List Token) → after_kind (l ++ rest) ≡ false
breaks_after [] l p h rest = cc
breaks_after (Word w ∷ ps) l (t, us, is, ok, more) h rest = ap (λ z. after_kind (z ++ rest)) is ∙ accepted is_after w t.kind refl refl refl ok ∙ not-true (is_after w) h
breaks_after (One g ∷ ps) l p h rest = cc
breaks_after (Many g ∷ ps) l p h rest = cc
breaks_after (Maybe g ∷ ps) l p h rest = cc

no_way : {A : Type 0} → false ≡ true → A
no_way e = cc

run_front : (g : Form) (ts us : List Token) → Run Fronted g ts → is_con_front g ≡ true → ((rest : List Token) → skim (us ++ rest) ≡ false) → (rest : List Token) → skim ((ts ++ us) ++ rest) ≡ false
run_front g ts us nil e h rest = h rest
run_front g ts us (cons vs ws q r) e h rest = ap skim (append_assoc (vs ++ ws) us rest ∙ append_assoc vs ws (us ++ rest)) ∙ q.plain e (ws ++ (us ++ rest))

fronts_pieces : (ps : List Part) (l : List Token) → Pieces Fronted ps l → fronts ps ≡ true → (rest : List Token) → skim (l ++ rest) ≡ false
fronts_pieces [] l p h rest = cc
fronts_pieces (Word w ∷ ps) l (t, us, is, ok, more) h rest =
    ap (λ z. skim (z ++ rest)) is ∙ skip_word w t us rest (fronts ps) (breaks ps) ok h (λ i. fronts_pieces ps us more i rest) (λ i. breaks_after ps us more i rest)
fronts_pieces (One g ∷ ps) l (ts, us, is, q, more) h rest =
    ap (λ z. skim (z ++ rest)) is ∙ ap skim (append_assoc ts us rest)
    ∙ or_split (is_con_front g) (is_field g && breaks ps) h (λ i. q.plain i (us ++ rest)) (λ i. q.field (and_left (is_field g) (breaks ps) i) (us ++ rest) (breaks_after ps us more (and_right (is_field g) (breaks ps) i) rest))
fronts_pieces (Many g ∷ ps) l (ts, us, is, r, more) h rest =
    ap (λ z. skim (z ++ rest)) is ∙ run_front g ts us r (and_left (is_con_front g) (fronts ps) h) (fronts_pieces ps us more (and_right (is_con_front g) (fronts ps) h)) rest
fronts_pieces (Maybe g ∷ ps) l (ts, us, is, inl e, more) h rest = ap (λ z. skim (z ++ rest)) (is ∙ ap (λ z. z ++ us) e) ∙ fronts_pieces ps us more (and_right (is_con_front g) (fronts ps) h) rest
fronts_pieces (Maybe g ∷ ps) l (ts, us, is, inr q, more) h rest = ap (λ z. skim (z ++ rest)) is ∙ ap skim (append_assoc ts us rest) ∙ q.plain (and_left (is_con_front g) (fronts ps) h) (us ++ rest)

field_pieces : (ps : List Part) (l : List Token) → Pieces Fronted ps l → field_words ps ≡ true → (rest : List Token) → after_kind rest ≡ false → skim (l ++ rest) ≡ false
field_pieces [] l p h rest o = cc
field_pieces (Word w ∷ []) l (t, us, is, ok, more) h rest o =
    ap (λ z. skim (z ++ rest)) is ∙ skip_word w t us rest false true ok h (λ i. no_way i) (λ i. ap (λ z. after_kind (z ++ rest)) more ∙ o)
field_pieces (Word w ∷ (p ∷ ps)) l (t, us, is, ok, more) h rest o = ap (λ z. skim (z ++ rest)) is ∙ skip_word w t us rest false false ok h (λ i. no_way i) (λ i. no_way i)
field_pieces (One g ∷ ps) l p h rest o = cc
field_pieces (Many g ∷ ps) l p h rest o = cc
field_pieces (Maybe g ∷ ps) l p h rest o = cc

front_step : Step Fronted
front_step g q ts i p =
    let all = every_in (is_fronted g) (rules_of g) q (fronted g) i in
    record {
      plain = λ e. fronts_pieces (body_of q) ts p (unless (is_con_front g) (fronts (body_of q)) (and_left (not (is_con_front g) || fronts (body_of q)) _ all) e);
      field = λ e. field_pieces (body_of q) ts p (unless (is_field g) (field_words (body_of q)) (and_right (not (is_con_front g) || fronts (body_of q)) _ all) e);
    }

-- a kind with `)` behind it doesn't begin with a kind, an arrow and a constructor
pub kinds_apart : (n o c : Node) (room space place : ℕ) (name other third : Content) (x y z : Option Kind) (close arrow : Token) (after behind : List Token)
    → Fits room name n (One f.KindTerm) x → Fits space other o (One f.KindAtom) y → Fits place third c (One f.Con) z → close.kind ≡ k.RightParenthesis → arrow.kind ≡ k.Arrow
    → spell n ++ close ∷ after ≡ spell o ++ arrow ∷ (spell c ++ behind) → ⊥
kinds_apart n o c room space place name other third x y z close arrow after behind fit fit' fit2 closes points e =
    let kind : past 0 (spell n ++ close ∷ after) ≡ true = (kind_facts n room name x fit).2 close after closes in
    let con : past 0 (spell o ++ arrow ∷ (spell c ++ behind)) ≡ false = atom_past o space other y fit' (arrow ∷ (spell c ++ behind)) ∙ past_kind 0 arrow k.Arrow (spell c ++ behind) points ∙ (gather Fronted front_step c f.Con place third z fit2).plain refl behind in
    let same : true ≡ false = sym kind ∙ ap (past 0) e ∙ con in
    cc
