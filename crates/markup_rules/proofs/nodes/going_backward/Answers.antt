use Rattle.std.proofs.Common.{◌≡◌, refl, ℕ, ◌-◌, ◌+◌, ◌<◌, ◌≤◌, ap, length, Some, slice_get, arith}
use Rattle.std.proofs.lemmas.Option.{slice_get_read}
use Rattle.con_terms.specs.View.{con_tree}
use Rattle.core_terms.specs.Lists.{node_list, node_tree}
use Rattle.core_terms.specs.View.{nodes_tree, maybe_con}
use Rattle.type_faults.specs.View.{maybe_fault}
use Rattle.judgements.specs.View.{sc_view}
use Rattle.markup_rules.specs.Nodes.{of_all}
use Rattle.markup_rules.specs.View.{nodes_found_tree}
use Rattle.markup_rules.proofs.Loops.{back_on, back_stop, back_short}
use Rattle.markup_rules.proofs.nodes.going_backward.Goals as goal

pub returns-then-left-len : goal.returns-then-left-len
returns-then-left-len c =
    let G = sc_view c.args.g.now c.args.s.now in
    let xs = node_list (nodes_tree c.args.nodes.now) in
    let fs = c.args.forward.found.items in
    let d : ℕ = c.loop-done.done in
    let i : ℕ = c.len-count.result - 1 - d in
    let next : i + 1 ≡ length xs - d = omega (arith, c.len-count.ensures, c.loop-done-test.true) in
    let short : length fs ≤ i = omega (arith, c.len.ensures, c.if-left-len.true, c.args.forward.found.ok.0) in
    ap of_all (back_short G (maybe_fault c.args.forward.told) (maybe_fault c.loop-done.own) xs fs (length xs) d i (node_tree c.at-node.result.now) (maybe_con c.loop-done.behind) c.at-node.ensures short next c.loop-done.invariant)

pub returns-in-None : goal.returns-in-None
returns-in-None c =
    let G = sc_view c.args.g.now c.args.s.now in
    let xs = node_list (nodes_tree c.args.nodes.now) in
    let fs = c.args.forward.found.items in
    let d : ℕ = c.loop-done.done in
    let i : ℕ = c.len-count.result - 1 - d in
    let next : i + 1 ≡ length xs - d = omega (arith, c.len-count.ensures, c.loop-done-test.true) in
    let within : i < length fs = omega (arith, c.len.ensures, c.if-left-len.false, c.args.forward.found.ok.0) in
    let at : slice_get fs i ≡ Some c.index-is_found.result.now = slice_get_read fs (length fs) i c.index-is_found.result.now refl within c.index-is_found.ensures in
    ap of_all (back_stop G (maybe_fault c.args.forward.told) (maybe_fault c.loop-done.own) (maybe_fault c.first-own.result) xs fs (length xs) d i (node_tree c.at-node.result.now) c.index-is_found.result.now (maybe_con c.loop-done.behind)
    (nodes_found_tree c.in_ok-one.one) c.at-node.ensures at next c.in_ok-one.ensures (ap maybe_con c.in-None.is) c.first-own.ensures c.loop-done.invariant)

pub loop-done-preserved : goal.loop-done-preserved
loop-done-preserved c =
    let G = sc_view c.args.g.now c.args.s.now in
    let xs = node_list (nodes_tree c.args.nodes.now) in
    let fs = c.args.forward.found.items in
    let d : ℕ = c.loop-done.done in
    let i : ℕ = c.len-count.result - 1 - d in
    let next : i + 1 ≡ length xs - d = omega (arith, c.len-count.ensures, c.loop-done-test.true) in
    let last : i ≡ length xs - (d + 1) = omega (arith, c.len-count.ensures, c.loop-done-test.true) in
    let within : i < length fs = omega (arith, c.len.ensures, c.if-left-len.false, c.args.forward.found.ok.0) in
    let at : slice_get fs i ≡ Some c.index-is_found.result.now = slice_get_read fs (length fs) i c.index-is_found.result.now refl within c.index-is_found.ensures in
    back_on G (maybe_fault c.args.forward.told) (maybe_fault c.loop-done.own) (maybe_fault c.first-own.result) xs fs (length xs) d i (node_tree c.at-node.result.now) c.index-is_found.result.now (maybe_con c.loop-done.behind)
    (nodes_found_tree c.in_ok-one.one) (con_tree c.in-Some.row) c.at-node.ensures at next last c.in_ok-one.ensures (ap maybe_con c.in-Some.is) c.first-own.ensures c.loop-done.invariant
