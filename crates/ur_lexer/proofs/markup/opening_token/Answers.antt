use Rattle.ur_lexer.specs.declared.classes.Class.TheVariants.{TagName}
use Rattle.ur_lexer.proofs.Readings.Cuts.{cut_narrow}
use Rattle.ur_lexer.proofs.markup.opening_token.Goals as goal

pub spelling-requires : goal.spelling-requires
spelling-requires c = cut_narrow TagName c.args.text.now c.run_len-len.result (cc) c.utf8.text tt
