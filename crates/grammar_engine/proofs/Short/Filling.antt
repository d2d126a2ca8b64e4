-- The short trees fit.
use Rattle.std.proofs.Common.{◌≡◌, ◌<◌, ◌≤◌, ◌+◌, ◌-◌, ◌==◌, ℕ, zero, suc, List, [], ◌∷◌, ◌++◌, length, refl, sym, ◌∙◌, subst, arith, Bool, true, false, not, ◌&&◌, nat_lt, nat_le, Option, Some, eq-eqb, ltb-true}
use Rattle.std.proofs.lemmas.Bool.{or_left, and_from, not-true}
use Rattle.surface_tree.specs.declared.kind.Kind.{Kind}
use Rattle.surface_tree.specs.declared.token.Token.{Token}
use Rattle.surface_tree.specs.declared.token.Content.{Content}
use Rattle.surface_grammar.specs.declared.form.Form.{Form}
use Rattle.surface_grammar.specs.declared.kinds.KindRule.TheVariants as kind
use Rattle.surface_grammar.specs.declared.part.Part.{Part}
use Rattle.surface_grammar.specs.declared.part.Part.TheVariants.{Word, One, Many, Maybe}
use Rattle.surface_grammar.specs.declared.rule.Rule.{Rule}
use Rattle.surface_grammar.specs.declared.rule.Rule.TheVariants as r
use Rattle.surface_grammar.specs.Forms.{rules_of}
use Rattle.surface_grammar.specs.Sides.{bars_of}
use Rattle.surface_grammar.specs.Table.{body_of}
use Rattle.surface_grammar.specs.Trees.{Node, spell, spell_all, front, among, must_go_on, depth_of, IsIn, Fits, FitsAll}
use Rattle.surface_grammar.specs.Words.{kind_code, accept, any_accepts}
use Rattle.grammar_engine.specs.declared.want.Want.{Want}
use Rattle.grammar_engine.specs.Places.{name_at}
use Rattle.grammar_engine.specs.Rooms.{least_of}
use Rattle.grammar_engine.proofs.Short.Calm.{picked, nexts, follows, behind, calm, all_follow, fits_room, rooms, tail_rooms, enough_part, enough_all, enough, leading, is_calm_rule, fill_part, fill_all, shortest, fill_wants, parts_of, Roomy, at_most, calm_some}
use Rattle.grammar_engine.proofs.Table.Chosen.{is_in_at}
use Rattle.grammar_engine.proofs.Keeping.Grown.{Filled, front_append}
use Rattle.grammar_engine.proofs.Short.Shortest.{pick_of, need_of, start_of}
use Rattle.grammar_engine.proofs.Short.Sound.{sound, led_by}
use Rattle.grammar_engine.proofs.Bools.{and_left, and_right, every, every_in}

pub accept_self : (w : Kind) → accept w w ≡ true
accept_self w = or_left (kind_code w == kind_code w) _ (eq-eqb (kind_code w) (kind_code w) refl)

-- the laws, one by one
pub rule_calm : (g : Form) (q : Rule) → IsIn q (rules_of g) → calm (body_of q) (all_follow g) ≡ true
rule_calm g q i = and_left (calm (body_of q) (all_follow g)) _ (every_in (is_calm_rule g) (rules_of g) q (and_left (every (is_calm_rule g) (rules_of g)) _ (sound g)) i)

pub rule_rooms : (g : Form) (q : Rule) → IsIn q (rules_of g) → tail_rooms (least_of q - depth_of q) (body_of q) ≡ true
rule_rooms g q i = and_right (calm (body_of q) (all_follow g)) _ (every_in (is_calm_rule g) (rules_of g) q (and_left (every (is_calm_rule g) (rules_of g)) _ (sound g)) i)

pub record Short (g : Form) : Type 0 where
  pub is_rule : pick_of g < length (rules_of g)
  pub deep : depth_of (picked g) ≤ need_of g
  pub roomy : rooms (need_of g - depth_of (picked g)) (body_of (picked g)) ≡ true
  pub free : any_accepts (bars_of (picked g)) (start_of g) ≡ false
  pub high : enough 24 g ≡ true

split_short : (a b c d e : Bool) → (a && (b && (c && (not d && e)))) ≡ true → (a ≡ true) × (b ≡ true) × (c ≡ true) × (d ≡ false) × (e ≡ true)
split_short true true true false true h = (refl, refl, refl, refl, refl)
split_short false b c d e h = cc
split_short true false c d e h = cc
split_short true true false d e h = cc
split_short true true true true e h = cc
split_short true true true false false h = cc

pub short : (g : Form) → Short g
short g =
    let s = split_short (nat_lt (pick_of g) (length (rules_of g))) (nat_le (depth_of (picked g)) (need_of g)) (rooms (need_of g - depth_of (picked g)) (body_of (picked g))) (any_accepts (bars_of (picked g)) (start_of g)) (enough 24 g)
    (and_right (every (is_calm_rule g) (rules_of g)) _ (sound g)) in
    record { is_rule = ltb-true _ _ s.0; deep = at_most _ _ s.1; roomy = s.2; free = s.3; high = s.4 }

pub picked_in : (g : Form) → IsIn (picked g) (rules_of g)
picked_in g = is_in_at (rules_of g) (pick_of g) (r.Kind kind.KindTerm) (short g).is_rule

lead_all : (make : Form → Node) (name : Content) (e : Form → Bool) → ((h : Form) → e h ≡ true → (x : Option Kind) → front (spell (make h)) x ≡ Some (start_of h))
    → (ps : List Part) (k : Kind) (y : Option Kind) → leading ps ≡ Some k → enough_all e ps ≡ true → front (spell_all (fill_all make name ps)) y ≡ Some k
lead_all make name e leads [] k y l h = cc
lead_all make name e leads (Word w ∷ ps) k y l h = l
lead_all make name e leads (One g ∷ ps) k y l h = front_append (spell (make g)) (spell_all (fill_all make name ps)) y ∙ leads g (and_left (e g) (enough_all e ps) h) _ ∙ l
lead_all make name e leads (Many g ∷ ps) k y l h = lead_all make name e leads ps k y l h
lead_all make name e leads (Maybe g ∷ ps) k y l h = lead_all make name e leads ps k y l h

pub short_leads : (n : ℕ) (name : Content) (g : Form) → enough n g ≡ true → (x : Option Kind) → front (spell (shortest n name g)) x ≡ Some (start_of g)
short_leads zero name g h x = cc
short_leads (suc n) name g h x = lead_all (shortest n name) name (enough n) (λ i e y. short_leads n name i e y) (body_of (picked g)) (start_of g) x (led_by g) h

front_behind : (make : Form → Node) (name : Content) (e : Form → Bool) → ((h : Form) → e h ≡ true → (x : Option Kind) → front (spell (make h)) x ≡ Some (start_of h))
    → (P : Option Kind → Bool) (ps : List Part) (y : Option Kind) → enough_all e ps ≡ true → every P (nexts ps (y ∷ [])) ≡ true → P (front (spell_all (fill_all make name ps)) y) ≡ true
front_behind make name e leads P [] y h a = and_left (P y) true a
front_behind make name e leads P (Word w ∷ ps) y h a = and_left (P (Some w)) true a
front_behind make name e leads P (One g ∷ ps) y h a =
    subst (λ z. P z ≡ true) (sym (front_append (spell (make g)) (spell_all (fill_all make name ps)) y ∙ leads g (and_left (e g) (enough_all e ps) h) _)) (and_left (P (Some (start_of g))) _ a)
front_behind make name e leads P (Many g ∷ ps) y h a = front_behind make name e leads P ps y h a
front_behind make name e leads P (Maybe g ∷ ps) y h a = front_behind make name e leads P ps y h a

fit_part : (make : Form → Node) (name : Content) (room : ℕ) (e : Form → Bool)
    → ((h : Form) (y : Option Kind) → e h ≡ true → follows h y ≡ true → need_of h ≤ room → Fits room name (make h) (One h) y)
    → (p : Part) (x : Option Kind) → enough_part e p ≡ true → behind p x ≡ true → fits_room room p ≡ true → Fits room name (fill_part make name p) p x
fit_part make name room e fits (Word w) x h b c = (accept_self w, λ i. refl)
fit_part make name room e fits (One g) x h b c = fits g x h b (at_most (need_of g) room c)
fit_part make name room e fits (Many g) x h b c = not-true (must_go_on g x) (and_right (follows g x) (not (must_go_on g x)) b)
fit_part make name room e fits (Maybe g) x h b c = not-true (must_go_on g x) (and_right (follows g x) (not (must_go_on g x)) b)

fit_all : (make : Form → Node) (name : Content) (room : ℕ) (e : Form → Bool) → ((h : Form) → e h ≡ true → (x : Option Kind) → front (spell (make h)) x ≡ Some (start_of h))
    → ((h : Form) (y : Option Kind) → e h ≡ true → follows h y ≡ true → need_of h ≤ room → Fits room name (make h) (One h) y)
    → (ps : List Part) (y : Option Kind) → enough_all e ps ≡ true → calm ps (y ∷ []) ≡ true → rooms room ps ≡ true → FitsAll room name (fill_all make name ps) ps y
fit_all make name room e leads fits [] y h c d = tt
fit_all make name room e leads fits (p ∷ ps) y h c d =
    let more_enough = and_right (enough_part e p) (enough_all e ps) h in
    let here = front_behind make name e leads (behind p) ps y more_enough (and_left (every (behind p) (nexts ps (y ∷ []))) (calm ps (y ∷ [])) c) in (
      fit_part make name room e fits p (front (spell_all (fill_all make name ps)) y) (and_left (enough_part e p) (enough_all e ps) h) here (and_left (fits_room room p) (rooms room ps) d),
      fit_all make name room e leads fits ps y more_enough (and_right (every (behind p) (nexts ps (y ∷ []))) (calm ps (y ∷ [])) c) (and_right (fits_room room p) (rooms room ps) d),
    )

more_room : (n m : ℕ) (ps : List Part) → n ≤ m → rooms n ps ≡ true → rooms m ps ≡ true
more_room n m [] l h = refl
more_room n m (Word w ∷ ps) l h = more_room n m ps l h
more_room n m (One g ∷ ps) l h =
    and_from (nat_le (need_of g) m) (rooms m ps) (wider (need_of g) (at_most (need_of g) n (and_left (nat_le (need_of g) n) (rooms n ps) h))) (more_room n m ps l (and_right (nat_le (need_of g) n) (rooms n ps) h))
  where
    wider : (a : ℕ) → a ≤ n → nat_le a m ≡ true
    wider a b = search (arith, l, b)
more_room n m (Many g ∷ ps) l h = more_room n m ps l h
more_room n m (Maybe g ∷ ps) l h = more_room n m ps l h

pub tail_more_room : (n m : ℕ) (ps : List Part) → n ≤ m → tail_rooms n ps ≡ true → tail_rooms m ps ≡ true
tail_more_room n m [] l h = refl
tail_more_room n m (p ∷ ps) l h = more_room n m ps l h

pub follows_one : (g : Form) (y : Option Kind) → follows g y ≡ true → every (follows g) (y ∷ []) ≡ true
follows_one g y h = and_from (follows g y) true h refl

pub short_fits : (n : ℕ) (name : Content) (g : Form) (room : ℕ) (y : Option Kind) → enough n g ≡ true → follows g y ≡ true → need_of g ≤ room → Fits room name (shortest n name g) (One g) y
short_fits zero name g room y h b c = cc
short_fits (suc n) name g room y h b c =
    let q = picked g in
    let s = short g in
    let lead = lead_all (shortest n name) name (enough n) (λ i e x. short_leads n name i e x) (body_of q) (start_of g) y (led_by g) h in (
      room - depth_of q,
      name,
      record {
        rule = picked_in g;
        room_left = adds (depth_of q) (need_of g) s.deep;
        named = λ i. refl;
        free = subst (λ o. among (bars_of q) o ≡ false) (sym lead) s.free;
      },
      fit_all (shortest n name) name (room - depth_of q) (enough n) (λ i e x. short_leads n name i e x) (λ i x e f l. short_fits n name i (room - depth_of q) x e f l) (body_of q) y h
          (calm_some g (body_of q) (y ∷ []) (follows_one g y b) (rule_calm g q (picked_in g)))
          (more_room (need_of g - depth_of q) (room - depth_of q) (body_of q) (fewer (depth_of q) (need_of g)) s.roomy),
    )
  where
    adds : (d a : ℕ) → d ≤ need_of g → room - d + d ≡ room
    adds d a l = omega (arith, l, c)

    fewer : (d a : ℕ) → need_of g - d ≤ room - d
    fewer d a = omega (arith, c)

front_want : (name : Content) (P : Option Kind → Bool) (p : Part) (ps : List Part) (ts : List Token) (y : Option Kind) → (every P (nexts ps (y ∷ [])) ≡ true → P (front ts y) ≡ true)
    → every P (nexts (p ∷ ps) (y ∷ [])) ≡ true → P (front (spell (fill_part (shortest 24 name) name p) ++ ts) y) ≡ true
front_want name P (Word u) ps ts y later a = and_left (P (Some u)) true a
front_want name P (One g) ps ts y later a = subst (λ z. P z ≡ true) (sym (front_append (spell (shortest 24 name g)) ts y ∙ short_leads 24 name g (short g).high _)) (and_left (P (Some (start_of g))) _ a)
front_want name P (Many g) ps ts y later a = later a
front_want name P (Maybe g) ps ts y later a = later a

pub front_wants : (items : List Token) (P : Option Kind → Bool) (ws : List Want) (y : Option Kind) → every P (nexts (parts_of ws) (y ∷ [])) ≡ true → P (front (spell_all (fill_wants items ws)) y) ≡ true
front_wants items P [] y a = and_left (P y) true a
front_wants items P (w ∷ ws) y a = front_want (name_at items w.tag) P w.part (parts_of ws) (spell_all (fill_wants items ws)) y (λ b. front_wants items P ws y b) a

enough_any : (p : Part) → enough_part (enough 24) p ≡ true
enough_any (Word w) = refl
enough_any (One g) = (short g).high
enough_any (Many g) = refl
enough_any (Maybe g) = refl

-- what stays to be read can be filled
pub filled : (items : List Token) (ws : List Want) (x : Option Kind) → calm (parts_of ws) (x ∷ []) ≡ true → Roomy ws → Filled items (fill_wants items ws) ws x
filled items [] x c r = tt
filled items (w ∷ ws) x c r = (
  fit_part (shortest 24 (name_at items w.tag)) (name_at items w.tag) w.room (enough 24) (λ i y e f l. short_fits 24 (name_at items w.tag) i w.room y e f l) w.part (front (spell_all (fill_wants items ws)) x)
      (enough_any w.part) (front_wants items (behind w.part) ws x (and_left (every (behind w.part) (nexts (parts_of ws) (x ∷ []))) _ c)) r.0,
  filled items ws x (and_right (every (behind w.part) (nexts (parts_of ws) (x ∷ []))) (calm (parts_of ws) (x ∷ [])) c) r.1,
)
