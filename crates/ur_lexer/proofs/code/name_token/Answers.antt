use Rattle.ur_lexer.proofs.Readings.Cuts.{cut_narrow}
use Rattle.ur_lexer.proofs.code.name_token.Goals as goal

pub spelling-requires : goal.spelling-requires
spelling-requires c = cut_narrow c.args.class c.args.text.now c.run_len-len.result (cc) c.utf8.text c.requires
