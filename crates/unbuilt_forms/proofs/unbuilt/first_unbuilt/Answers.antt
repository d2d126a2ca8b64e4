use Rattle.std.proofs.Common.{List, sym, subst}
use Rattle.surface_tree.specs.declared.token.Token.{Token}
use Rattle.unbuilt_forms.specs.Unbuilt.{IsFirstUnbuilt}
use Rattle.unbuilt_forms.proofs.First.{first_is}
use Rattle.unbuilt_forms.proofs.unbuilt.first_unbuilt.Goals as goal

pub returns : goal.returns
returns c =
    let of_leaves = subst (IsFirstUnbuilt c.leaves.result.now) (sym c.first_among.ensures) (first_is c.leaves.result.now) in
    subst (λ (l : List Token). IsFirstUnbuilt l c.first_among.result) c.leaves.ensures of_leaves
