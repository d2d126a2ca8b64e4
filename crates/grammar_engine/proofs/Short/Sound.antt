-- The laws of the table of short trees, computed.
use Rattle.std.proofs.Common.{◌≡◌, refl, true, Some}
use Rattle.surface_grammar.specs.declared.form.Form.{Form}
use Rattle.surface_grammar.specs.declared.form.Form.TheVariants as f
use Rattle.surface_grammar.specs.Table.{body_of}
use Rattle.grammar_engine.proofs.Short.Calm.{picked, leading, sound_by, is_sound}
use Rattle.grammar_engine.proofs.Short.Shortest.{start_of}
use Rattle.surface_grammar.proofs.Listed.{of_each_by}

pub sound : (g : Form) → is_sound g ≡ true
sound g = of_each_by sound_by refl g

pub led_by : (g : Form) → leading (body_of (picked g)) ≡ Some (start_of g)
led_by f.KindTerm = refl
led_by _ = refl
