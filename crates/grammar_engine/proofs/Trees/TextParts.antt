-- Parts that may be whole texts.
use Rattle.std.proofs.Common.{◌≡◌, refl, true, not, []}
use Rattle.surface_grammar.specs.declared.form.Form.{Form}
use Rattle.surface_grammar.specs.declared.form.Form.TheVariants as f
use Rattle.surface_grammar.specs.declared.part.Part.{Part}
use Rattle.surface_grammar.specs.declared.part.Part.TheVariants.{Word, One, Many, Maybe}
use Rattle.surface_grammar.specs.Firsts.{first_of}
use Rattle.grammar_engine.specs.Single.{is_text_part}
use Rattle.grammar_engine.proofs.Bools.{both_open}
use Rattle.grammar_engine.proofs.Fronts.Context.{part_ok, is_exp_tail, is_con_tail}

-- the last line stands for each other form, and is checked for each
many_whole : (g : Form) → is_text_part (Many g) ≡ true → part_ok true true (Many g) [] ≡ true
unfolding first_of
many_whole f.ConForall h = cc
many_whole f.Exp h = cc
many_whole f.ExpBindRest h = cc
many_whole f.Term h = cc
many_whole f.ExpFields h = cc
many_whole f.ValRest h = cc
many_whole _ h = refl

pub part_whole : (p : Part) → is_text_part p ≡ true → part_ok true true p [] ≡ true
part_whole (Word w) h = refl
part_whole (One g) h = both_open (not (is_exp_tail g)) (not (is_con_tail g))
part_whole (Many g) h = many_whole g h
part_whole (Maybe g) h = both_open (not (is_exp_tail g)) (not (is_con_tail g))
