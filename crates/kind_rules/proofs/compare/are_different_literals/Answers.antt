use Rattle.std.proofs.Common.{◌≡◌, ◌==◌, ◌++◌, [], ◌∷◌, Bool, false, if◌then◌else◌, map, arith, refl, ap, sym, ◌∙◌}
use Rattle.std.specs.List.{list_any}
use Rattle.std.proofs.lemmas.List.{map-append}
use Rattle.con_terms.specs.Trees.{name}
use Rattle.con_terms.specs.Apart.{Guards}
use Rattle.kind_rules.specs.Compared.{not_pairwise_apart}
use Rattle.kind_rules.proofs.Literals.{all_names, distinct_apart, name_more, none_there}
use Rattle.kind_rules.proofs.compare.are_different_literals.Goals as goal

pub loop-i-preserved : goal.loop-i-preserved
loop-i-preserved c =
    let number = c.in-Name.s.number in
    let keys = c.loop-i.numbers.keys in
    let fresh : list_any (λ k. number == k) keys ≡ false = none_there c.in_ok-insert-in-Name.field-0 (list_any (λ k. number == k) keys) c.in_ok-insert-in-Name.ensures.added c.if-not-branch.false in
    let grown : c.insert.new.self.keys ≡ keys ++ number ∷ [] = c.in_ok-insert-in-Name.ensures.keys ∙ ap (λ (b : Bool). if b then keys else keys ++ number ∷ []) fresh in
    record {
      named =
          ap (map name) grown ∙ map-append name c.loop-i.numbers.keys (number ∷ [])
          ∙ name_more c.args.ps.now c.loop-i.i c.index.result.now c.in-Name.s (map name c.loop-i.numbers.keys) (omega arith) c.index.ensures c.in-Name.is c.loop-i.invariant.named;
      distinct = c.insert.ensures.unique;
    }

pub returns : goal.returns
returns c =
    λ _ gs.
    ap (not_pairwise_apart gs) (all_names c.args.ps.now c.loop-i.i (map name c.loop-i.numbers.keys) (omega arith) c.loop-i.invariant.named)
    ∙ distinct_apart gs c.loop-i.numbers.keys c.loop-i.invariant.distinct
