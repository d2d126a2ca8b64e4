-- The open form stands in constructors alone.
use Rattle.std.proofs.Common.{◌≡◌, ℕ, List, [], ◌∷◌, ◌++◌, refl, sym, subst, Bool, true, false, not, ◌&&◌, ◌||◌, None}
use Rattle.std.proofs.lemmas.Bool.{and_from}
use Rattle.surface_tree.specs.declared.token.Token.{Token}
use Rattle.surface_grammar.specs.declared.form.Form.{Form}
use Rattle.surface_grammar.specs.declared.form.Form.TheVariants as f
use Rattle.surface_grammar.specs.declared.part.Part.{Part}
use Rattle.surface_grammar.specs.declared.part.Part.TheVariants.{Word, One, Many, Maybe}
use Rattle.surface_grammar.specs.declared.rule.Rule.{Rule}
use Rattle.surface_grammar.specs.Forms.{rules_of}
use Rattle.surface_grammar.specs.Listings.{Listing}
use Rattle.surface_grammar.specs.Table.{body_of}
use Rattle.surface_grammar.specs.Trees.{IsIn}
use Rattle.grammar_engine.specs.declared.machine.Machine.{Machine}
use Rattle.grammar_engine.specs.declared.want.Want.{Want}
use Rattle.grammar_engine.specs.Moves.{goes_by, MeetsPart}
use Rattle.grammar_engine.proofs.Short.Calm.{parts_of}
use Rattle.grammar_engine.proofs.Keeping.Passed.{want}
use Rattle.grammar_engine.proofs.Keeping.Readies.{parts_append}
use Rattle.hole_reader.specs.Holes.{hole_of, is_hole, is_open_part}
use Rattle.hole_reader.specs.Progress.{Comes}
use Rattle.hole_reader.specs.Progress.Comes.{begun, met, took}
use Rattle.hole_reader.proofs.Growing.{no_hole}
use Rattle.grammar_engine.proofs.Bools.{and_left, and_right, every, every_in}

abbrev pub all_shut : List Part → Bool
all_shut [] = true
all_shut (p ∷ ps) = not (is_open_part p) && all_shut ps

abbrev is_shut : Rule → Bool
is_shut q = all_shut (body_of q)

-- computed
every_shut : (g : Form) → (is_hole g || every is_shut (rules_of g)) ≡ true
every_shut f.KindTerm = refl
every_shut _ = refl

or_false : (a b : Bool) → (a || b) ≡ true → a ≡ false → b ≡ true
or_false true b h e = cc
or_false false b h e = h

rule_shut : (g : Form) (q : Rule) → is_hole g ≡ false → IsIn q (rules_of g) → all_shut (body_of q) ≡ true
rule_shut g q e i = every_in is_shut (rules_of g) q (or_false (is_hole g) (every is_shut (rules_of g)) (every_shut g) e) i

shut_append : (ps qs : List Part) → all_shut ps ≡ true → all_shut qs ≡ true → all_shut (ps ++ qs) ≡ true
shut_append [] qs h k = k
shut_append (p ∷ ps) qs h k = and_from (not (is_open_part p)) (all_shut (ps ++ qs)) (and_left (not (is_open_part p)) (all_shut ps) h) (shut_append ps qs (and_right (not (is_open_part p)) (all_shut ps) h) k)

shut_goes : (b : Bool) (g : Form) (room tag : ℕ) (rest : List Want) (a c : Machine) → goes_by b g room tag rest a c → all_shut (parts_of (want (One g) room tag ∷ rest ++ a.wants)) ≡ true → all_shut (parts_of a.wants) ≡ true → all_shut (parts_of c.wants) ≡ true
shut_goes true g room tag rest a c by on off = subst (λ l. all_shut (parts_of l) ≡ true) (sym by.0) on
shut_goes false g room tag rest a c by on off = subst (λ l. all_shut (parts_of l) ≡ true) (sym by.0) off

shut_met : (items : List Token) (q : Part) (room tag : ℕ) (a c : Machine) → hole_of q ≡ None → MeetsPart items q room tag a c → all_shut (q ∷ parts_of a.wants) ≡ true → all_shut (parts_of c.wants) ≡ true
shut_met items (Word w) room tag a c skips s h = subst (λ l. all_shut (parts_of l) ≡ true) (sym s.wants) h
shut_met items (One g) room tag a c skips s h =
    subst (λ l. all_shut (parts_of l) ≡ true) (sym s.wants)
    (subst (λ l. all_shut l ≡ true) (sym (parts_append s.inner s.own (body_of s.rule) a.wants)) (shut_append (body_of s.rule) (parts_of a.wants) (rule_shut g s.rule (no_hole g skips) s.built.rule) h))
shut_met items (Many g) room tag a c skips s h = shut_goes s.taken g room tag (want (Many g) room tag ∷ []) a c s.by h (and_right (not (is_open_part (Many g))) (all_shut (parts_of a.wants)) h)
shut_met items (Maybe g) room tag a c skips s h =
    let rest = and_right (not (is_open_part (Maybe g))) (all_shut (parts_of a.wants)) h in
    shut_goes s.taken g room tag [] a c s.by rest rest

-- so reading comes to it only in a part of that form
pub comes_shut : (items : List Token) (whole : Want) (handed : List Listing) (at far : ℕ) (tree : Listing) (ws : List Want) → is_open_part whole.part ≡ false → Comes items whole handed at far tree ws → all_shut (parts_of ws) ≡ true
comes_shut items whole handed at far tree ws e (begun first leaves marks) = and_from (not (is_open_part whole.part)) true (negated (is_open_part whole.part) e) refl
  where
    negated : (b : Bool) → b ≡ false → not b ≡ true
    negated true i = cc
    negated false i = refl
comes_shut items whole handed at far tree ws e (met same w a c skips s sure looked counted before) = shut_met items w.part w.room w.tag a c skips s (comes_shut items whole same a.at a.far a.tree (w ∷ a.wants) e before)
comes_shut items whole handed at far tree ws e (took fewer longer hole w rest from seen behind_it old next filling form r hands leaves marks before) =
    and_right (not (is_open_part w.part)) (all_shut (parts_of rest)) (comes_shut items whole fewer from seen old (w ∷ rest) e before)

pub many_shut : (g : Form) (ps : List Part) → all_shut (Many g ∷ ps) ≡ true → g ≡ f.ConForall → ⊥
many_shut g ps h e = wrong (subst (λ z. not (is_open_part (Many z)) ≡ true) e (and_left (not (is_open_part (Many g))) (all_shut ps) h))
  where
    wrong : not (is_open_part (Many f.ConForall)) ≡ true → ⊥
    wrong i = cc

pub maybe_shut : (g : Form) (ps : List Part) → all_shut (Maybe g ∷ ps) ≡ true → g ≡ f.ConForall → ⊥
maybe_shut g ps h e = wrong (subst (λ z. not (is_open_part (Maybe z)) ≡ true) e (and_left (not (is_open_part (Maybe g))) (all_shut ps) h))
  where
    wrong : not (is_open_part (Maybe f.ConForall)) ≡ true → ⊥
    wrong i = cc
