use Rattle.std.proofs.Common.{List, OnOk, IfErr, subst}
use Rattle.con_terms.specs.View.{con_tree}
use Rattle.core_terms.specs.Trees.{Dt}
use Rattle.core_terms.specs.View.{pats_view}
use Rattle.core_typing.specs.Cover.{Covers}
use Rattle.match_cover.specs.Laws.{Refused}
use Rattle.match_cover.proofs.cover.covers.Goals as goal

pub returns : goal.returns
returns c = record {
  covers = subst (λ (ds : List Dt). OnOk c.covers_asked.result (Covers ds (pats_view c.args.ps.now) (con_tree c.args.t.now))) c.in_ok-datatypes.ensures
      (c.covers_asked.ensures.covers (pats_view c.args.ps.now) c.in_ok-asked.ensures);
  refused = subst (λ (ds : List Dt). IfErr c.covers_asked.result (Refused ds (pats_view c.args.ps.now) (con_tree c.args.t.now))) c.in_ok-datatypes.ensures
      (c.covers_asked.ensures.refused (pats_view c.args.ps.now) c.in_ok-asked.ensures);
}
