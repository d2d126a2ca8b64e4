use Rattle.std.proofs.Common.{◌≡◌, ◌<◌, ℕ, List, Some, length, slice_get, sym, subst, ◌∙◌, arith}
use Rattle.std.proofs.lemmas.List.{length-map}
use Rattle.std.proofs.lemmas.Option.{slice_get_within}
use borrow.Author.Count.{below_more}
use Rattle.link_router.specs.Calls.{Ent}
use Rattle.link_router.specs.View.{entry_view, routes_view}
use Rattle.link_router.specs.Answered.{FitsEntry, FoundEntry}
use Rattle.link_router.proofs.Escapes.{mapped_at}
use Rattle.link_router.proofs.Listed.{one_value}
use Rattle.link_router.proofs.router.entry_named.Goals as goal

pub returns-in-Some-clause-some : goal.returns-in-Some-clause-some
returns-in-Some-clause-some c =
    let within : c.loop-i.i < length c.args.routes.now.entries.items = omega (arith, c.loop-i-test.true, c.len-i-end.ensures, c.args.routes.now.entries.ok) in
    record { there = mapped_at entry_view c.args.routes.now.entries.items c.loop-i.i c.index-entry.result.now within c.index-entry.ensures; fits = c.in-Some.ensures.some }

pub loop-i-preserved : goal.loop-i-preserved
loop-i-preserved c =
    let within : c.loop-i.i < length c.args.routes.now.entries.items = omega (arith, c.loop-i-test.true, c.len-i-end.ensures, c.args.routes.now.entries.ok) in
    let there = mapped_at entry_view c.args.routes.now.entries.items c.loop-i.i c.index-entry.result.now within c.index-entry.ensures in
    below_more (λ k. (e : Ent) (rest : List (List ℕ)) → FoundEntry (routes_view c.args.routes.now) c.args.post c.args.pieces.now k e rest → ⊥) c.loop-i.i c.loop-i.invariant (λ e rest f.
    c.in-None.ensures.none rest (subst (λ x. FitsEntry c.args.post c.args.pieces.now x rest) (one_value f.there there) f.fits))

pub returns-clause-none : goal.returns-clause-none
returns-clause-none c i e rest f =
    c.loop-i.invariant i (omega (arith, slice_get_within (routes_view c.args.routes.now).entries i e f.there, length-map c.args.routes.now.entries.items entry_view, c.loop-i-test.false, c.len-i-end.ensures, c.args.routes.now.entries.ok)) e rest f
