-- What is counted of a pass that takes the turn.
use Rattle.std.proofs.Common.{◌≡◌, List, sym, subst}
use Rattle.commit_cell.specs.declared.view.Known.{Known}
use Rattle.commit_cell.specs.declared.view.View.{View}
use Rattle.commit_cell.specs.World.{IsCounted, looked}
use Rattle.commit_cell.specs.Rule.{acting}

module _ {S E : Type 0} where
  -- it is so of the pass once it has looked
  pub counted_acting : (v w : View S E) (log : List E) → w ≡ acting v log → IsCounted log v.known → IsCounted w.known.seen w.known
  counted_acting v w log is k = subst (λ (u : View S E). IsCounted u.known.seen u.known) (sym is) record { made = k.made; once = k.once }

module _ {E : Type 0} where
  -- and so of the pass as it was before
  pub counted_before : (p q : Known E) (log : List E) → q ≡ looked p log → IsCounted log q → IsCounted log p
  counted_before p q log is k =
      let h : IsCounted log (looked p log) = subst (λ (u : Known E). IsCounted log u) is k in
      record { made = h.made; once = h.once }
