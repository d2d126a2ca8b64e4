use Rattle.link_router.proofs.Paths.{plain_path, scheme_path}
use Rattle.link_router.proofs.pieces.path.Goals as goal

pub returns-then-eq_ignore_ascii_case : goal.returns-then-eq_ignore_ascii_case
returns-then-eq_ignore_ascii_case c = scheme_path c.args.target.now _ _ _ _ c.split_at.ensures.front c.split_at.ensures.back c.eq_ignore_ascii_case.ensures.test c.if-eq_ignore_ascii_case.true c.behind_authority.ensures

pub returns-else-eq_ignore_ascii_case : goal.returns-else-eq_ignore_ascii_case
returns-else-eq_ignore_ascii_case c = plain_path c.args.target.now _ _ c.split_at.ensures.front c.eq_ignore_ascii_case.ensures.test c.if-eq_ignore_ascii_case.false
