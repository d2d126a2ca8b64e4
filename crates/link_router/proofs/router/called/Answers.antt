use Rattle.std.proofs.Common.{◌≡◌, None}
use Rattle.link_router.specs.Links.{path_of, path_pieces}
use Rattle.link_router.proofs.OnePiece.{if_none}
use Rattle.link_router.proofs.Answering.{no_pieces_refused}
use Rattle.link_router.proofs.router.called.Goals as goal

pub returns-in-None-clause-refused : goal.returns-in-None-clause-refused
returns-in-None-clause-refused c = no_pieces_refused _ _ _ (if_none (path_pieces (path_of c.args.target.now) ≡ None) _ c.in_ok-found.ensures.none c.in-None.is)
