-- Short trees for what stays to be read.
use Rattle.std.proofs.Common.{◌≡◌, ◌≤◌, ◌-◌, ◌==◌, ℕ, zero, suc, List, [], ◌∷◌, ◌++◌, map, length, get_or, refl, ap, sym, ◌∙◌, subst, arith, Bool, true, false, not, ◌&&◌, ◌||◌, nat_lt, nat_le, Option, Some, None, eqb-true}
use Rattle.std.proofs.lemmas.Bool.{and_from}
use Rattle.surface_tree.specs.declared.kind.Kind.{Kind}
use Rattle.surface_tree.specs.declared.kind.Kind.TheVariants as k
use Rattle.surface_tree.specs.declared.token.Token.{Token}
use Rattle.surface_tree.specs.declared.token.Content.{Content}
use Rattle.surface_grammar.specs.declared.form.Form.{Form}
use Rattle.surface_grammar.specs.declared.form.Form.TheVariants as f
use Rattle.surface_grammar.specs.declared.kinds.KindRule.TheVariants as kind
use Rattle.surface_grammar.specs.declared.part.Part.{Part}
use Rattle.surface_grammar.specs.declared.part.Part.TheVariants.{Word, One, Many, Maybe}
use Rattle.surface_grammar.specs.declared.rule.Rule.{Rule}
use Rattle.surface_grammar.specs.declared.rule.Rule.TheVariants as r
use Rattle.surface_grammar.specs.Firsts.{first_of}
use Rattle.surface_grammar.specs.Forms.{rules_of}
use Rattle.surface_grammar.specs.Sides.{bars_of}
use Rattle.surface_grammar.specs.Table.{body_of}
use Rattle.surface_grammar.specs.Trees.{Node, leaf, branch, several, absent, Nodes, none, more, among, is_open, depth_of}
use Rattle.surface_grammar.specs.Words.{kind_code, any_accepts}
use Rattle.grammar_engine.specs.declared.want.Want.{Want}
use Rattle.grammar_engine.specs.Places.{name_at}
use Rattle.grammar_engine.specs.Rooms.{least_of}
use Rattle.grammar_engine.proofs.Table.Decided.{kinds, found}
use Rattle.grammar_engine.proofs.Short.Shortest.{pick_of, need_of, start_of, follow_of}
use Rattle.grammar_engine.proofs.Bools.{and_left, and_right, every}

-- the rule of the short tree
abbrev pub picked : Form → Rule
picked g = get_or (rules_of g) (pick_of g) (r.Kind kind.KindTerm)

-- what else may begin a tree that is read behind
abbrev pub extra_of : Form → List (Option Kind)
extra_of f.ConParenEnd = Some k.DoubleColon ∷ []
extra_of _ = []

-- the tokens that come next where the parts are filled by short trees, with these behind them
abbrev pub nexts : List Part → List (Option Kind) → List (Option Kind)
nexts [] ys = ys
nexts (Word w ∷ ps) ys = Some w ∷ []
nexts (One g ∷ ps) ys = Some (start_of g) ∷ extra_of g
nexts (Many g ∷ ps) ys = nexts ps ys
nexts (Maybe g ∷ ps) ys = nexts ps ys

abbrev pub holds : Kind → List Kind → Bool
holds x [] = false
holds x (y ∷ ys) = (kind_code x == kind_code y) || holds x ys

abbrev pub follows : Form → Option Kind → Bool
follows g None = true
follows g (Some x) = holds x (follow_of g)

-- a part that is filled by a short tree may have the token behind it, where these words begin each form
abbrev pub behind_by : (Form → List Kind) → Part → Option Kind → Bool
behind_by first (Word w) y = true
behind_by first (One g) y = follows g y
behind_by first (Many g) y = follows g y && not (among (first g) y && not (is_open g y))
behind_by first (Maybe g) y = follows g y && not (among (first g) y && not (is_open g y))

abbrev pub behind : Part → Option Kind → Bool
behind p y = behind_by first_of p y

abbrev pub calm_by : (Form → List Kind) → List Part → List (Option Kind) → Bool
calm_by first [] ys = true
calm_by first (p ∷ ps) ys = every (behind_by first p) (nexts ps ys) && calm_by first ps ys

abbrev pub calm : List Part → List (Option Kind) → Bool
calm ps ys = calm_by first_of ps ys

abbrev pub all_follow : Form → List (Option Kind)
all_follow g = None ∷ map Some (follow_of g)

-- the room is enough for a short tree
abbrev pub fits_room : ℕ → Part → Bool
fits_room n (Word w) = true
fits_room n (One g) = nat_le (need_of g) n
fits_room n (Many g) = true
fits_room n (Maybe g) = true

abbrev pub rooms : ℕ → List Part → Bool
rooms n [] = true
rooms n (p ∷ ps) = fits_room n p && rooms n ps

abbrev pub tail_rooms : ℕ → List Part → Bool
tail_rooms n [] = true
tail_rooms n (p ∷ ps) = rooms n ps

abbrev pub enough_part : (Form → Bool) → Part → Bool
enough_part e (Word w) = true
enough_part e (One g) = e g
enough_part e (Many g) = true
enough_part e (Maybe g) = true

abbrev pub enough_all : (Form → Bool) → List Part → Bool
enough_all e [] = true
enough_all e (p ∷ ps) = enough_part e p && enough_all e ps

-- the short tree is at most so high
abbrev pub enough : ℕ → Form → Bool
enough zero g = false
enough (suc n) g = enough_all (enough n) (body_of (picked g))

-- the first token of the parts' short trees
abbrev pub leading : List Part → Option Kind
leading [] = None
leading (Word w ∷ ps) = Some w
leading (One g ∷ ps) = Some (start_of g)
leading (Many g ∷ ps) = leading ps
leading (Maybe g ∷ ps) = leading ps

-- the laws of the table of short trees
abbrev pub calm_rule_by : (Form → List Kind) → Form → Rule → Bool
calm_rule_by first g q = calm_by first (body_of q) (all_follow g) && tail_rooms (least_of q - depth_of q) (body_of q)

abbrev pub is_calm_rule : Form → Rule → Bool
is_calm_rule g q = calm_rule_by first_of g q

abbrev pub is_short : Form → Bool
is_short g =
    nat_lt (pick_of g) (length (rules_of g)) && (nat_le (depth_of (picked g)) (need_of g) && (rooms (need_of g - depth_of (picked g)) (body_of (picked g))
    && (not (any_accepts (bars_of (picked g)) (start_of g)) && enough 24 g)))

abbrev pub sound_by : (Form → List Kind) → Form → Bool
sound_by first g = every (calm_rule_by first g) (rules_of g) && is_short g

abbrev pub is_sound : Form → Bool
is_sound g = sound_by first_of g

abbrev pub fill_part : (Form → Node) → Content → Part → Node
fill_part make name (Word w) = leaf (record { kind = w; at = 0; content = name })
fill_part make name (One g) = make g
fill_part make name (Many g) = several none
fill_part make name (Maybe g) = absent

abbrev pub fill_all : (Form → Node) → Content → List Part → Nodes
fill_all make name [] = none
fill_all make name (p ∷ ps) = more (fill_part make name p) (fill_all make name ps)

-- the short tree of a form
abbrev pub shortest : ℕ → Content → Form → Node
shortest zero name g = absent
shortest (suc n) name g = branch (picked g) (fill_all (shortest n name) name (body_of (picked g)))

-- the short trees of what stays to be read
abbrev pub fill_wants : List Token → List Want → Nodes
fill_wants items [] = none
fill_wants items (w ∷ ws) = more (fill_part (shortest 24 (name_at items w.tag)) (name_at items w.tag) w.part) (fill_wants items ws)

abbrev pub parts_of : List Want → List Part
parts_of [] = []
parts_of (w ∷ ws) = w.part ∷ parts_of ws

-- there is room for each of them
abbrev pub Roomy : List Want → Type 0
Roomy [] = Unit {0}
Roomy (w ∷ ws) = (fits_room w.room w.part ≡ true) × Roomy ws

-- and for each but the first
abbrev pub TailRoomy : List Want → Type 0
TailRoomy [] = Unit {0}
TailRoomy (w ∷ ws) = Roomy ws

pub at_most : (a b : ℕ) → nat_le a b ≡ true → a ≤ b
at_most a b h = search (arith, h)

pub is_at_most : (a b : ℕ) → a ≤ b → nat_le a b ≡ true
is_at_most a b h = search (arith, h)

pub same_code : (x y : Kind) → kind_code x ≡ kind_code y → x ≡ y
same_code x y e = sym (found x) ∙ ap (λ i. get_or kinds i k.KeywordAnd) e ∙ found y

or_cases : (P : Option Kind → Bool) (x y : Kind) (b c : Bool) → (b || c) ≡ true → (b ≡ true → x ≡ y) → (c ≡ true → P (Some x) ≡ true) → P (Some y) ≡ true → P (Some x) ≡ true
or_cases P x y true c h e m p = subst (λ z. P (Some z) ≡ true) (sym (e refl)) p
or_cases P x y false c h e m p = m h

holds_every : (P : Option Kind → Bool) (x : Kind) (ys : List Kind) → holds x ys ≡ true → every P (map Some ys) ≡ true → P (Some x) ≡ true
holds_every P x [] h e = cc
holds_every P x (y ∷ ys) h e =
    or_cases P x y (kind_code x == kind_code y) (holds x ys) h (λ s. same_code x y (eqb-true (kind_code x) (kind_code y) s))
    (λ m. holds_every P x ys m (and_right (P (Some y)) (every P (map Some ys)) e)) (and_left (P (Some y)) (every P (map Some ys)) e)

pub follows_at : (P : Option Kind → Bool) (g : Form) (y : Option Kind) → follows g y ≡ true → every P (all_follow g) ≡ true → P y ≡ true
follows_at P g None h e = and_left (P None) (every P (map Some (follow_of g))) e
follows_at P g (Some x) h e = holds_every P x (follow_of g) h (and_right (P None) (every P (map Some (follow_of g))) e)

follows_all : (P : Option Kind → Bool) (g : Form) (ys : List (Option Kind)) → every (follows g) ys ≡ true → every P (all_follow g) ≡ true → every P ys ≡ true
follows_all P g [] h e = refl
follows_all P g (y ∷ ys) h e =
    and_from (P y) (every P ys) (follows_at P g y (and_left (follows g y) (every (follows g) ys) h) e) (follows_all P g ys (and_right (follows g y) (every (follows g) ys) h) e)

nexts_all : (P : Option Kind → Bool) (g : Form) (ps : List Part) (ys : List (Option Kind)) → every (follows g) ys ≡ true → every P (nexts ps (all_follow g)) ≡ true → every P (nexts ps ys) ≡ true
nexts_all P g [] ys h e = follows_all P g ys h e
nexts_all P g (Word w ∷ ps) ys h e = e
nexts_all P g (One i ∷ ps) ys h e = e
nexts_all P g (Many i ∷ ps) ys h e = nexts_all P g ps ys h e
nexts_all P g (Maybe i ∷ ps) ys h e = nexts_all P g ps ys h e

-- parts that are calm before all that may follow the form are calm before some of it
pub calm_some : (g : Form) (ps : List Part) (ys : List (Option Kind)) → every (follows g) ys ≡ true → calm ps (all_follow g) ≡ true → calm ps ys ≡ true
calm_some g [] ys h e = refl
calm_some g (p ∷ ps) ys h e =
    and_from (every (behind p) (nexts ps ys)) (calm ps ys)
    (nexts_all (behind p) g ps ys h (and_left (every (behind p) (nexts ps (all_follow g))) (calm ps (all_follow g)) e))
    (calm_some g ps ys h (and_right (every (behind p) (nexts ps (all_follow g))) (calm ps (all_follow g)) e))

nexts_append : (ps qs : List Part) (ys : List (Option Kind)) → nexts (ps ++ qs) ys ≡ nexts ps (nexts qs ys)
nexts_append [] qs ys = refl
nexts_append (Word w ∷ ps) qs ys = refl
nexts_append (One g ∷ ps) qs ys = refl
nexts_append (Many g ∷ ps) qs ys = nexts_append ps qs ys
nexts_append (Maybe g ∷ ps) qs ys = nexts_append ps qs ys

pub calm_append : (ps qs : List Part) (ys : List (Option Kind)) → calm ps (nexts qs ys) ≡ true → calm qs ys ≡ true → calm (ps ++ qs) ys ≡ true
calm_append [] qs ys a b = b
calm_append (p ∷ ps) qs ys a b =
    and_from (every (behind p) (nexts (ps ++ qs) ys)) (calm (ps ++ qs) ys)
    (subst (λ z. every (behind p) z ≡ true) (sym (nexts_append ps qs ys)) (and_left (every (behind p) (nexts ps (nexts qs ys))) (calm ps (nexts qs ys)) a))
    (calm_append ps qs ys (and_right (every (behind p) (nexts ps (nexts qs ys))) (calm ps (nexts qs ys)) a) b)
