-- What the scan finds in the tokens of a tree.
use Rattle.std.proofs.Common.{◌≡◌, ◌==◌, ℕ, zero, suc, pred, List, [], ◌∷◌, ◌++◌, append_assoc, refl, ap, sym, ◌∙◌, subst, Bool, true, false, not, ◌&&◌, ◌||◌, Option, eqb-true}
use Rattle.std.proofs.Math.Logic.{◌⊎◌, inl, inr}
use Rattle.std.proofs.lemmas.Bool.{not-true}
use Rattle.surface_tree.specs.declared.kind.Kind.{Kind}
use Rattle.surface_tree.specs.declared.kind.Kind.TheVariants as k
use Rattle.surface_tree.specs.declared.token.Token.{Token}
use Rattle.surface_tree.specs.declared.token.Content.{Content}
use Rattle.surface_grammar.specs.declared.form.Form.{Form}
use Rattle.surface_grammar.specs.declared.form.Form.TheVariants as f
use Rattle.surface_grammar.specs.declared.part.Part.{Part}
use Rattle.surface_grammar.specs.declared.part.Part.TheVariants.{Word, One, Many, Maybe}
use Rattle.surface_grammar.specs.Forms.{rules_of}
use Rattle.surface_grammar.specs.Table.{body_of}
use Rattle.surface_grammar.specs.Trees.{Node, Nodes, spell, spell_all, Fits, FitsAll}
use Rattle.surface_grammar.specs.Words.{kind_code, accept, is_upper_word}
use Rattle.grammar_engine.proofs.Short.Calm.{same_code}
use Rattle.grammar_engine.proofs.Trees.Pieces.{Run, nil, cons, Pieces, Step, gather, gather_all}
use Rattle.grammar_engine.proofs.Fronts.Scan.{Turn, up, down, flat, turn_of, outside, after_token, scan, net_of, is_low, is_low_close, is_calm_exp, is_calm_close, by_turn, if_flat, goes_to, from, till, passes, low_word, low_one, low_to, calm_word, calm_to, is_scanned, scanned}
use Rattle.grammar_engine.proofs.Bools.{and_left, and_right, every_in, unless, or_split}

-- inside brackets, the tokens lead on with so many more or fewer open
abbrev pub Moves : Turn → List Token → Type 0
Moves up ts = (d : ℕ) (rest : List Token) → scan (suc d) (ts ++ rest) ≡ scan (suc (suc d)) rest
Moves down ts = (d : ℕ) (rest : List Token) → scan (suc (suc d)) (ts ++ rest) ≡ scan (suc d) rest
Moves flat ts = (d : ℕ) (rest : List Token) → scan (suc d) (ts ++ rest) ≡ scan (suc d) rest

-- with so many open, the tokens lead to none, or to no `<-`
abbrev pub Passed : ℕ → List Token → Type 0
Passed a ts = (rest : List Token) → scan a (ts ++ rest) ≡ scan 0 rest

abbrev pub Calmed : ℕ → List Token → Type 0
Calmed a ts = (rest : List Token) → scan 0 rest ≡ false → scan a (ts ++ rest) ≡ false

pub record Scans (g : Form) (ts : List Token) : Type 0 where
  pub high : Moves (net_of g) ts
  pub low : is_low g ≡ true → Passed 0 ts
  pub low_close : is_low_close g ≡ true → Passed 1 ts
  pub calm : is_calm_exp g ≡ true → Calmed 0 ts
  pub calm_close : is_calm_close g ≡ true → Calmed 1 ts

-- the same of a repetition or an option
record Parted (g : Form) (ts : List Token) : Type 0 where
  pub level : net_of g ≡ flat → Moves flat ts
  pub low : is_low g ≡ true → Passed 0 ts
  pub calm : is_calm_exp g ≡ true → Calmed 0 ts

upper_word : {A : Type 0} (F : Kind → A) (x : Kind) → F k.TypeWord ≡ F k.UpperName → F k.UnitWord ≡ F k.UpperName → F k.NameWord ≡ F k.UpperName → is_upper_word x ≡ true → F x ≡ F k.UpperName
upper_word F k.TypeWord a b c h = a
upper_word F k.UnitWord a b c h = b
upper_word F k.NameWord a b c h = c
upper_word F x a b c h = cc

-- what a token that is taken for a word has in common with it
pub accepted : {A : Type 0} (F : Kind → A) (w x : Kind) → F k.TypeWord ≡ F k.UpperName → F k.UnitWord ≡ F k.UpperName → F k.NameWord ≡ F k.UpperName → accept w x ≡ true → F x ≡ F w
accepted F w x a b c h =
    or_split (kind_code w == kind_code x) ((kind_code w == kind_code k.UpperName) && is_upper_word x) h (λ e. ap F (sym (same_code w x (eqb-true (kind_code w) (kind_code x) e))))
    (λ e. upper_word F x a b c (and_right (kind_code w == kind_code k.UpperName) (is_upper_word x) e) ∙ ap F (sym (same_code w k.UpperName (eqb-true (kind_code w) (kind_code k.UpperName) (and_left (kind_code w == kind_code k.UpperName) (is_upper_word x) e)))))

turn_moves : (v : Turn) (t : Token) → turn_of t.kind ≡ v → Moves v (t ∷ [])
turn_moves up t e = λ d rest. ap (λ z. after_token (suc d) z t.kind (scan (suc (suc d)) rest) (scan d rest) (scan (suc d) rest)) e
turn_moves down t e = λ d rest. ap (λ z. after_token (suc (suc d)) z t.kind (scan (suc (suc (suc d))) rest) (scan (suc d) rest) (scan (suc (suc d)) rest)) e
turn_moves flat t e = λ d rest. ap (λ z. after_token (suc d) z t.kind (scan (suc (suc d)) rest) (scan d rest) (scan (suc d) rest)) e

abbrev rise : ℕ → ℕ → ℕ
rise zero d = d
rise (suc e) d = suc (rise e d)

-- the parts before and those behind
combine : (e n : ℕ) (v : Turn) (ts us : List Token) (u w s : Bool) → Moves v ts → by_turn e v u w s ≡ true
    → (u ≡ true → (d : ℕ) (rest : List Token) → scan (suc (rise (suc e) d)) (us ++ rest) ≡ scan (suc (rise n d)) rest)
    → (w ≡ true → (d : ℕ) (rest : List Token) → scan (suc (rise (pred e) d)) (us ++ rest) ≡ scan (suc (rise n d)) rest)
    → (s ≡ true → (d : ℕ) (rest : List Token) → scan (suc (rise e d)) (us ++ rest) ≡ scan (suc (rise n d)) rest)
    → (d : ℕ) (rest : List Token) → scan (suc (rise e d)) ((ts ++ us) ++ rest) ≡ scan (suc (rise n d)) rest
combine zero n up ts us u w s m h a b c d rest = ap (λ l. scan (suc d) l) (append_assoc ts us rest) ∙ m d (us ++ rest) ∙ a h d rest
combine (suc e) n up ts us u w s m h a b c d rest = ap (λ l. scan (suc (suc (rise e d))) l) (append_assoc ts us rest) ∙ m (suc (rise e d)) (us ++ rest) ∙ a h d rest
combine zero n down ts us u w s m h a b c d rest = cc
combine (suc e) n down ts us u w s m h a b c d rest = ap (λ l. scan (suc (suc (rise e d))) l) (append_assoc ts us rest) ∙ m (rise e d) (us ++ rest) ∙ b h d rest
combine zero n flat ts us u w s m h a b c d rest = ap (λ l. scan (suc d) l) (append_assoc ts us rest) ∙ m d (us ++ rest) ∙ c h d rest
combine (suc e) n flat ts us u w s m h a b c d rest = ap (λ l. scan (suc (suc (rise e d))) l) (append_assoc ts us rest) ∙ m (suc (rise e d)) (us ++ rest) ∙ c h d rest

pub append_cut : (f g : List Token → Bool) (ts us rest : List Token) → f (ts ++ (us ++ rest)) ≡ g rest → f ((ts ++ us) ++ rest) ≡ g rest
append_cut f g ts us rest e = ap f (append_assoc ts us rest) ∙ e

run_flat : (g : Form) (ts : List Token) → Run Scans g ts → net_of g ≡ flat → Moves flat ts
run_flat g ts nil e = λ d rest. refl
run_flat g ts (cons us vs q r) e = λ d rest. ap (λ l. scan (suc d) l) (append_assoc us vs rest) ∙ subst (λ z. Moves z us) e q.high d (vs ++ rest) ∙ run_flat g vs r e d rest

run_low : (g : Form) (ts : List Token) → Run Scans g ts → is_low g ≡ true → Passed 0 ts
run_low g ts nil e = λ rest. refl
run_low g ts (cons us vs q r) e = λ rest. ap (λ l. scan 0 l) (append_assoc us vs rest) ∙ q.low e (vs ++ rest) ∙ run_low g vs r e rest

run_calm : (g : Form) (ts : List Token) → Run Scans g ts → is_calm_exp g ≡ true → Calmed 0 ts
run_calm g ts nil e = λ rest h. h
run_calm g ts (cons us vs q r) e = λ rest h. ap (λ l. scan 0 l) (append_assoc us vs rest) ∙ q.calm e (vs ++ rest) (run_calm g vs r e rest h)

of_run : (g : Form) (ts : List Token) → Run Scans g ts → Parted g ts
of_run g ts r = record { level = run_flat g ts r; low = run_low g ts r; calm = run_calm g ts r }

of_one : (g : Form) (ts : List Token) → Scans g ts → Parted g ts
of_one g ts q = record { level = λ e. subst (λ z. Moves z ts) e q.high; low = q.low; calm = q.calm }

of_option : (g : Form) (ts : List Token) → (ts ≡ []) ⊎ Scans g ts → Parted g ts
of_option g ts (inl e) = subst (Parted g) (sym e) (record { level = λ e d rest. refl; low = λ e rest. refl; calm = λ e rest h. h })
of_option g ts (inr q) = of_one g ts q

when_flat : (v : Turn) (b : Bool) → if_flat v b ≡ true → v ≡ flat
when_flat up b h = cc
when_flat down b h = cc
when_flat flat b h = refl

then_flat : (v : Turn) (b : Bool) → if_flat v b ≡ true → b ≡ true
then_flat up b h = cc
then_flat down b h = cc
then_flat flat b h = h

high_pieces : (ps : List Part) (l : List Token) (e n : ℕ) → Pieces Scans ps l → goes_to e ps n ≡ true → (d : ℕ) (rest : List Token) → scan (suc (rise e d)) (l ++ rest) ≡ scan (suc (rise n d)) rest
high_pieces [] l e n p h d rest = subst (λ z. scan (suc (rise e d)) (z ++ rest) ≡ scan (suc (rise n d)) rest) (sym p) (ap (λ i. scan (suc (rise i d)) rest) (eqb-true e n h))
high_pieces (Word w ∷ ps) l e n (t, us, is, ok, more) h d rest =
    subst (λ z. scan (suc (rise e d)) (z ++ rest) ≡ scan (suc (rise n d)) rest) (sym is)
    (combine e n (turn_of w) (t ∷ []) us (goes_to (suc e) ps n) (goes_to (pred e) ps n) (goes_to e ps n) (turn_moves (turn_of w) t (accepted turn_of w t.kind refl refl refl ok)) h
    (λ i. high_pieces ps us (suc e) n more i) (λ i. high_pieces ps us (pred e) n more i) (λ i. high_pieces ps us e n more i) d rest)
high_pieces (One g ∷ ps) l e n (ts, us, is, q, more) h d rest =
    subst (λ z. scan (suc (rise e d)) (z ++ rest) ≡ scan (suc (rise n d)) rest) (sym is)
    (combine e n (net_of g) ts us (goes_to (suc e) ps n) (goes_to (pred e) ps n) (goes_to e ps n) q.high h
    (λ i. high_pieces ps us (suc e) n more i) (λ i. high_pieces ps us (pred e) n more i) (λ i. high_pieces ps us e n more i) d rest)
high_pieces (Many g ∷ ps) l e n (ts, us, is, r, more) h d rest =
    subst (λ z. scan (suc (rise e d)) (z ++ rest) ≡ scan (suc (rise n d)) rest) (sym is)
    (ap (λ z. scan (suc (rise e d)) z) (append_assoc ts us rest) ∙ (of_run g ts r).level (when_flat (net_of g) (goes_to e ps n) h) (rise e d) (us ++ rest) ∙ high_pieces ps us e n more (then_flat (net_of g) (goes_to e ps n) h) d rest)
high_pieces (Maybe g ∷ ps) l e n (ts, us, is, r, more) h d rest =
    subst (λ z. scan (suc (rise e d)) (z ++ rest) ≡ scan (suc (rise n d)) rest) (sym is)
    (ap (λ z. scan (suc (rise e d)) z) (append_assoc ts us rest) ∙ (of_option g ts r).level (when_flat (net_of g) (goes_to e ps n) h) (rise e d) (us ++ rest) ∙ high_pieces ps us e n more (then_flat (net_of g) (goes_to e ps n) h) d rest)

passes_all : (x : Kind) (b : Bool) → passes x ≡ true → outside x b ≡ b
passes_all x true h = and_right (not (outside x false)) (outside x true) h
passes_all x false h = not-true (outside x false) (and_left (not (outside x false)) (outside x true) h)

low_token : (a : ℕ) (v : Turn) (p : Bool) (t : Token) (us : List Token) (u w s : Bool) → turn_of t.kind ≡ v → passes t.kind ≡ p → low_word a v p u w s ≡ true
    → (u ≡ true → Passed (suc a) us) → (w ≡ true → Passed (pred a) us) → (s ≡ true → Passed a us) → Passed a (t ∷ us)
low_token zero up p t us u w s e i h a b c rest = ap (λ z. after_token 0 z t.kind (scan 1 (us ++ rest)) (scan 0 (us ++ rest)) (scan 0 (us ++ rest))) e ∙ a h rest
low_token (suc d) up p t us u w s e i h a b c rest = ap (λ z. after_token (suc d) z t.kind (scan (suc (suc d)) (us ++ rest)) (scan d (us ++ rest)) (scan (suc d) (us ++ rest))) e ∙ a h rest
low_token zero down p t us u w s e i h a b c rest = cc
low_token (suc d) down p t us u w s e i h a b c rest = ap (λ z. after_token (suc d) z t.kind (scan (suc (suc d)) (us ++ rest)) (scan d (us ++ rest)) (scan (suc d) (us ++ rest))) e ∙ b h rest
low_token zero flat p t us u w s e i h a b c rest =
    ap (λ z. after_token 0 z t.kind (scan 1 (us ++ rest)) (scan 0 (us ++ rest)) (scan 0 (us ++ rest))) e ∙ passes_all t.kind (scan 0 (us ++ rest)) (i ∙ and_left p s h) ∙ c (and_right p s h) rest
low_token (suc d) flat p t us u w s e i h a b c rest = ap (λ z. after_token (suc d) z t.kind (scan (suc (suc d)) (us ++ rest)) (scan d (us ++ rest)) (scan (suc d) (us ++ rest))) e ∙ c h rest

low_form : (a : ℕ) (v : Turn) (l c z s : Bool) (ts us : List Token) → low_one a v l c z s ≡ true → (v ≡ flat → Moves flat ts) → (l ≡ true → Passed 0 ts) → (c ≡ true → Passed 1 ts)
    → (z ≡ true → Passed 0 us) → (s ≡ true → Passed a us) → Passed a (ts ++ us)
low_form zero v l c z s ts us h m a b i j rest = ap (λ x. scan 0 x) (append_assoc ts us rest) ∙ a (and_left l s h) (us ++ rest) ∙ j (and_right l s h) rest
low_form (suc zero) flat l c z s ts us h m a b i j rest = ap (λ x. scan 1 x) (append_assoc ts us rest) ∙ m refl 0 (us ++ rest) ∙ j h rest
low_form (suc zero) down l c z s ts us h m a b i j rest = ap (λ x. scan 1 x) (append_assoc ts us rest) ∙ b (and_left c z h) (us ++ rest) ∙ i (and_right c z h) rest
low_form (suc zero) up l c z s ts us h m a b i j rest = cc
low_form (suc (suc d)) v l c z s ts us h m a b i j rest = cc

no_way : {A : Type 0} → false ≡ true → A
no_way e = cc

low_pieces : (ps : List Part) (l : List Token) (a : ℕ) → Pieces Scans ps l → low_to a ps ≡ true → Passed a l
low_pieces [] l zero p h = subst (Passed 0) (sym p) (λ rest. refl)
low_pieces [] l (suc a) p h = cc
low_pieces (Word w ∷ ps) l a (t, us, is, ok, more) h =
    subst (Passed a) (sym is)
    (low_token a (turn_of w) (passes w) t us (low_to (suc a) ps) (low_to (pred a) ps) (low_to a ps) (accepted turn_of w t.kind refl refl refl ok) (accepted passes w t.kind refl refl refl ok) h
    (λ i. low_pieces ps us (suc a) more i) (λ i. low_pieces ps us (pred a) more i) (λ i. low_pieces ps us a more i))
low_pieces (One g ∷ ps) l a (ts, us, is, q, more) h =
    subst (Passed a) (sym is)
    (low_form a (net_of g) (is_low g) (is_low_close g) (low_to zero ps) (low_to a ps) ts us h (of_one g ts q).level q.low q.low_close (λ i. low_pieces ps us zero more i) (λ i. low_pieces ps us a more i))
low_pieces (Many g ∷ ps) l a (ts, us, is, r, more) h =
    subst (Passed a) (sym is) (low_form a (net_of g) (is_low g) false false (low_to a ps) ts us h (of_run g ts r).level (of_run g ts r).low (λ i. no_way i) (λ i. no_way i) (λ i. low_pieces ps us a more i))
low_pieces (Maybe g ∷ ps) l a (ts, us, is, r, more) h =
    subst (Passed a) (sym is) (low_form a (net_of g) (is_low g) false false (low_to a ps) ts us h (of_option g ts r).level (of_option g ts r).low (λ i. no_way i) (λ i. no_way i) (λ i. low_pieces ps us a more i))

-- outside, a token that isn't `<-` finds none where none is found behind, or where it stops
calm_at : (x : Kind) (b p : Bool) → outside x false ≡ false → outside x true ≡ p → (p ≡ true → b ≡ false) → outside x b ≡ false
calm_at x true true e i h = let same : true ≡ false = h refl in cc
calm_at x true false e i h = i
calm_at x false p e i h = e

calm_or : (arrow p s : Bool) → (not arrow && (not p || s)) ≡ true → p ≡ true → s ≡ true
calm_or true p s h e = cc
calm_or false true s h e = h
calm_or false false s h e = cc

no_arrow : (arrow p s : Bool) → (not arrow && (not p || s)) ≡ true → arrow ≡ false
no_arrow true p s h = cc
no_arrow false p s h = refl

calm_token : (a : ℕ) (v : Turn) (x p : Bool) (t : Token) (us : List Token) (u w s : Bool) → turn_of t.kind ≡ v → outside t.kind false ≡ x → outside t.kind true ≡ p → calm_word a v x p u w s ≡ true
    → (u ≡ true → Calmed (suc a) us) → (w ≡ true → Calmed (pred a) us) → (s ≡ true → Calmed a us) → Calmed a (t ∷ us)
calm_token zero up x p t us u w s e i j h a b c rest o = ap (λ z. after_token 0 z t.kind (scan 1 (us ++ rest)) (scan 0 (us ++ rest)) (scan 0 (us ++ rest))) e ∙ a h rest o
calm_token (suc d) up x p t us u w s e i j h a b c rest o = ap (λ z. after_token (suc d) z t.kind (scan (suc (suc d)) (us ++ rest)) (scan d (us ++ rest)) (scan (suc d) (us ++ rest))) e ∙ a h rest o
calm_token zero down x p t us u w s e i j h a b c rest o = ap (λ z. after_token 0 z t.kind (scan 1 (us ++ rest)) (scan 0 (us ++ rest)) (scan 0 (us ++ rest))) e
calm_token (suc d) down x p t us u w s e i j h a b c rest o = ap (λ z. after_token (suc d) z t.kind (scan (suc (suc d)) (us ++ rest)) (scan d (us ++ rest)) (scan (suc d) (us ++ rest))) e ∙ b h rest o
calm_token zero flat x p t us u w s e i j h a b c rest o =
    ap (λ z. after_token 0 z t.kind (scan 1 (us ++ rest)) (scan 0 (us ++ rest)) (scan 0 (us ++ rest))) e ∙ calm_at t.kind (scan 0 (us ++ rest)) p (i ∙ no_arrow x p s h) j (λ y. c (calm_or x p s h y) rest o)
calm_token (suc d) flat x p t us u w s e i j h a b c rest o = ap (λ z. after_token (suc d) z t.kind (scan (suc (suc d)) (us ++ rest)) (scan d (us ++ rest)) (scan (suc d) (us ++ rest))) e ∙ c h rest o

calm_form : (a : ℕ) (v : Turn) (l c z s : Bool) (ts us : List Token) → low_one a v l c z s ≡ true → (v ≡ flat → Moves flat ts) → (l ≡ true → Calmed 0 ts) → (c ≡ true → Calmed 1 ts)
    → (z ≡ true → Calmed 0 us) → (s ≡ true → Calmed a us) → Calmed a (ts ++ us)
calm_form zero v l c z s ts us h m a b i j rest o = ap (λ x. scan 0 x) (append_assoc ts us rest) ∙ a (and_left l s h) (us ++ rest) (j (and_right l s h) rest o)
calm_form (suc zero) flat l c z s ts us h m a b i j rest o = ap (λ x. scan 1 x) (append_assoc ts us rest) ∙ m refl 0 (us ++ rest) ∙ j h rest o
calm_form (suc zero) down l c z s ts us h m a b i j rest o = ap (λ x. scan 1 x) (append_assoc ts us rest) ∙ b (and_left c z h) (us ++ rest) (i (and_right c z h) rest o)
calm_form (suc zero) up l c z s ts us h m a b i j rest o = cc
calm_form (suc (suc d)) v l c z s ts us h m a b i j rest o = cc

calm_pieces : (ps : List Part) (l : List Token) (a : ℕ) → Pieces Scans ps l → calm_to a ps ≡ true → Calmed a l
calm_pieces [] l zero p h = subst (Calmed 0) (sym p) (λ rest o. o)
calm_pieces [] l (suc a) p h = cc
calm_pieces (Word w ∷ ps) l a (t, us, is, ok, more) h =
    subst (Calmed a) (sym is)
    (calm_token a (turn_of w) (outside w false) (outside w true) t us (calm_to (suc a) ps) (calm_to (pred a) ps) (calm_to a ps) (accepted turn_of w t.kind refl refl refl ok)
    (accepted (λ x. outside x false) w t.kind refl refl refl ok) (accepted (λ x. outside x true) w t.kind refl refl refl ok) h (λ i. calm_pieces ps us (suc a) more i) (λ i. calm_pieces ps us (pred a) more i) (λ i. calm_pieces ps us a more i))
calm_pieces (One g ∷ ps) l a (ts, us, is, q, more) h =
    subst (Calmed a) (sym is)
    (calm_form a (net_of g) (is_calm_exp g) (is_calm_close g) (calm_to zero ps) (calm_to a ps) ts us h (of_one g ts q).level q.calm q.calm_close (λ i. calm_pieces ps us zero more i) (λ i. calm_pieces ps us a more i))
calm_pieces (Many g ∷ ps) l a (ts, us, is, r, more) h =
    subst (Calmed a) (sym is) (calm_form a (net_of g) (is_calm_exp g) false false (calm_to a ps) ts us h (of_run g ts r).level (of_run g ts r).calm (λ i. no_way i) (λ i. no_way i) (λ i. calm_pieces ps us a more i))
calm_pieces (Maybe g ∷ ps) l a (ts, us, is, r, more) h =
    subst (Calmed a) (sym is) (calm_form a (net_of g) (is_calm_exp g) false false (calm_to a ps) ts us h (of_option g ts r).level (of_option g ts r).calm (λ i. no_way i) (λ i. no_way i) (λ i. calm_pieces ps us a more i))

high_moves : (v : Turn) (ts : List Token) → ((d : ℕ) (rest : List Token) → scan (suc (rise (from v) d)) (ts ++ rest) ≡ scan (suc (rise (till v) d)) rest) → Moves v ts
high_moves up ts h = h
high_moves down ts h = h
high_moves flat ts h = h

step : Step Scans
step g q ts i p =
    let all = every_in (is_scanned g) (rules_of g) q (scanned g) i in
    let b = and_right (goes_to (from (net_of g)) (body_of q) (till (net_of g))) _ all in
    let c = and_right (not (is_low g) || low_to 0 (body_of q)) _ b in
    let d = and_right (not (is_low_close g) || low_to 1 (body_of q)) _ c in
    record {
      high = high_moves (net_of g) ts (high_pieces (body_of q) ts (from (net_of g)) (till (net_of g)) p (and_left (goes_to (from (net_of g)) (body_of q) (till (net_of g))) _ all));
      low = λ e. low_pieces (body_of q) ts 0 p (unless (is_low g) (low_to 0 (body_of q)) (and_left (not (is_low g) || low_to 0 (body_of q)) _ b) e);
      low_close = λ e. low_pieces (body_of q) ts 1 p (unless (is_low_close g) (low_to 1 (body_of q)) (and_left (not (is_low_close g) || low_to 1 (body_of q)) _ c) e);
      calm = λ e. calm_pieces (body_of q) ts 0 p (unless (is_calm_exp g) (calm_to 0 (body_of q)) (and_left (not (is_calm_exp g) || calm_to 0 (body_of q)) _ d) e);
      calm_close = λ e. calm_pieces (body_of q) ts 1 p (unless (is_calm_close g) (calm_to 1 (body_of q)) (and_right (not (is_calm_exp g) || calm_to 0 (body_of q)) _ d) e);
    }

pub scans : (n : Node) (g : Form) (room : ℕ) (name : Content) (x : Option Kind) → Fits room name n (One g) x → Scans g (spell n)
scans n g room name x fit = gather Scans step n g room name x fit

-- no expression but a binding begins with a pattern and `<-`, where what stands behind it doesn't lead to one
pub bindings_apart : (n : Node) (ns : Nodes) (room space : ℕ) (name other : Content) (x y : Option Kind) (t : Token) (after behind : List Token)
    → Fits room name n (One f.Pat) x → FitsAll space other ns (One f.Term ∷ Maybe f.ExpThen ∷ []) y → spell n ++ t ∷ after ≡ spell_all ns ++ behind → t.kind ≡ k.LeftArrow → scan 0 behind ≡ false → ⊥
bindings_apart n ns room space name other x y t after behind fit fits e arrow quiet =
    let found : scan 0 (spell n ++ t ∷ after) ≡ true = (scans n f.Pat room name x fit).low refl (t ∷ after) ∙ ap (λ z. after_token 0 (turn_of z) z (scan 1 after) (scan 0 after) (scan 0 after)) arrow in
    let none_found : scan 0 (spell_all ns ++ behind) ≡ false = calm_pieces (One f.Term ∷ Maybe f.ExpThen ∷ []) (spell_all ns) 0 (gather_all Scans step ns (One f.Term ∷ Maybe f.ExpThen ∷ []) space other y fits) refl behind quiet in
    let same : true ≡ false = sym found ∙ ap (scan 0) e ∙ none_found in
    cc
