-- What an answer tells of the pieces, by the pair that is computed.
use Rattle.std.proofs.Common.{◌≡◌, Result, Ok, Err, IfOk, IfErr, subst}
use Rattle.con_terms.specs.Trees.{Cn}
use Rattle.con_terms.specs.Apart.{Apart, Guards, pieces}
use Rattle.con_terms.specs.View.{con_tree}
use Rattle.disjoint_prover.specs.Separation.{first_touch}
use Rattle.disjoint_prover.specs.Touching.{AllKeptApart, Touches}
use Rattle.disjoint_prover.specs.View.{Gives, IfTouch}
use Rattle.disjoint_prover.specs.declared.fault.DisjointFault.{DisjointFault}
use Rattle.disjoint_prover.specs.declared.fault.DisjointFault.TheVariants.{Touch, Memory}
use Rattle.disjoint_prover.proofs.Sound.{all_keep, touch_sound}
use Rattle.disjoint_prover.proofs.Touching.{touch_told}

pub gives_apart : {X : Type 0} (r : Result X DisjointFault) (gs : Guards) (c d : Cn) → Gives r (first_touch gs c d) → IfOk r (λ _. Apart gs c d)
gives_apart (Ok x) gs c d h = touch_sound gs c d h
gives_apart (Err e) gs c d h = tt

pub gives_kept : {X : Type 0} (r : Result X DisjointFault) (gs : Guards) (c d : Cn) → Gives r (first_touch gs c d) → IfOk r (λ _. AllKeptApart gs (pieces c) (pieces d))
gives_kept (Ok x) gs c d h = all_keep gs (pieces c) (pieces d) h
gives_kept (Err e) gs c d h = tt

pub gives_touch : {X : Type 0} (r : Result X DisjointFault) (gs : Guards) (c d : Cn) → Gives r (first_touch gs c d) → IfErr r (λ fault. IfTouch fault (Touches gs c d))
gives_touch (Ok x) gs c d h = tt
gives_touch (Err (Touch p)) gs c d h = touch_told gs c d (con_tree p.left) (con_tree p.right) h
gives_touch (Err Memory) gs c d h = tt

-- along the trees
pub gives_along : {X : Type 0} (r : Result X DisjointFault) (gs : Guards) (c d c' d' : Cn) → c ≡ c' → d ≡ d' → Gives r (first_touch gs c d) → Gives r (first_touch gs c' d')
gives_along {X} r gs c d c' d' i j h =
    let P : Cn → Type 0 = λ z. Gives r (first_touch gs z d) in
    let Q : Cn → Type 0 = λ z. Gives r (first_touch gs c' z) in
    subst Q j (subst P i h)
