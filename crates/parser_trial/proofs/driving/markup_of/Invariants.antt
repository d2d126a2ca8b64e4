use Rattle.std.proofs.Common.{◌≡◌, List}
use Rattle.surface_grammar.specs.declared.form.Form.TheVariants as f
use Rattle.surface_grammar.specs.declared.part.Part.TheVariants.{Many}
use Rattle.surface_grammar.specs.Listings.{Listing}
use Rattle.hole_reader.specs.Readers.{most, IsOpen, Reading}
use Rattle.parser_trial.proofs.driving.markup_of.Given as goal

abbrev pub invariant-loop : goal.invariant-loop
invariant-loop l = record {
  reading : (handed : List Listing) × Reading l.tokens.items handed l.reader.reader;
  closed : IsOpen l.reader.reader → ⊥;
  part : l.reader.reader.whole.part ≡ Many f.Node;
  place : l.reader.reader.whole.tag ≡ l.fn.at;
  room : l.reader.reader.whole.room ≡ most;
}
