use Rattle.std.proofs.Common.{◌≡◌, ℕ, ◌+◌, ◌<◌, ◌≤◌, true, List, Bor, length, drop, arith, sym, ap, ◌∙◌, subst}
use Rattle.std.specs.Prelude.{codes}
use Rattle.std.specs.Option.{option_map}
use Rattle.std.specs.declared.option.Option.{Option}
use Rattle.std.proofs.lemmas.Str.Pattern.{ends_text}
use Rattle.project_sources.specs.Projects.{is_project_name}
use Rattle.project_sources.proofs.Names.{Found, pass_at, two_some, first_some, all_found}
use Rattle.project_sources.proofs.projects.only_project.Goals as goal
use Rattle.project_sources.proofs.projects.only_project.Goals.{then-ends_with+else-is_some, else-ends_with}

pub returns-then-is_some : goal.returns-then-is_some
returns-then-is_some c = λ other only.
    let below : c.loop-i.i < length c.args.names.now = omega (arith, c.len-i-end.ensures, c.loop-i-test.true) in
    let is : is_project_name c.at-name.result.now ≡ true =
    ap is_project_name (sym c.as_str.ensures) ∙ sym (ends_text c.ends_with.result
    (codes ".urp") c.as_str.result.now c.ends_with.ensures.cases)
    ∙ c.if-ends_with.true in
    two_some c.loop-i.found c.args.names.now c.loop-i.i c.at-name.result.now other (sym c.is_some.ensures
    ∙ c.if-is_some.true) c.loop-i.invariant
    below c.at-name.ensures is only

pub loop-i-preserved : goal.loop-i-preserved
loop-i-preserved c =
    let below : c.loop-i.i < length c.args.names.now = omega (arith, c.len-i-end.ensures, c.loop-i-test.true) in
    let name_is : is_project_name c.at-name.result.now ≡ c.ends_with.result =
    ap is_project_name (sym c.as_str.ensures) ∙ sym (ends_text c.ends_with.result
    (codes ".urp") c.as_str.result.now c.ends_with.ensures.cases) in
    elim c.if-ends_with.branch [
      | then-ends_with+else-is_some w ↦
          subst (λ (o : Option (Bor (List ℕ))). Found (option_map (λ (x : Bor (List ℕ)). x.now) o) (drop
          (c.loop-i.i + 1) c.args.names.now) c.args.names.now)
          (sym w.found-is)
          (first_some c.loop-i.found c.args.names.now c.loop-i.i c.at-name.result.now (sym w.is_some.ensures
          ∙ w.if-is_some.false) c.loop-i.invariant
          below c.at-name.ensures (name_is ∙ w.if-ends_with.true))
      | else-ends_with w ↦
          subst (λ (o : Option (Bor (List ℕ))). Found (option_map (λ (x : Bor (List ℕ)). x.now) o) (drop
          (c.loop-i.i + 1) c.args.names.now) c.args.names.now)
          (sym w.found-is)
          (pass_at (option_map (λ (x : Bor (List ℕ)). x.now) c.loop-i.found) c.args.names.now c.loop-i.i
          c.at-name.result.now c.loop-i.invariant
          below c.at-name.ensures (name_is ∙ w.if-ends_with.false))
    ]

pub returns : goal.returns
returns c =
    let past : length c.args.names.now ≤ c.loop-i.i = omega (arith, c.len-i-end.ensures, c.loop-i-test.false) in
    all_found c.loop-i.found c.args.names.now c.loop-i.i c.loop-i.invariant past
