use Rattle.std.proofs.Common.{◌≡◌, true, false, sym, ap, ◌∙◌}
use Rattle.project_files.specs.Projects.{is_among}
use Rattle.project_sources.specs.declared.fault.SourceFault.TheVariants.{UnknownForeign}
use Rattle.project_sources.proofs.Foreign.{all_known, first_unknown, known_more}
use Rattle.project_sources.proofs.projects.knows_foreign.Goals as goal

pub returns-then-not-is_among-clause-unknown : goal.returns-then-not-is_among-clause-unknown
returns-then-not-is_among-clause-unknown c =
    let unknown : is_among c.name-item.result c.args.objects.now ≡ false =
    ap (λ l. is_among l c.args.objects.now) (sym c.as_str.ensures) ∙ sym c.is_among.ensures
    ∙ c.if-not-is_among.true in (
      c.name-item.result,
      first_unknown c.args.objects.now c.args.names.now c.loop-name.name-index c.name-item.result
          c.loop-name-test.true c.name-item.is unknown
          c.loop-name.invariant,
      ap UnknownForeign c.in_ok-name.ensures,
    )

pub loop-name-preserved : goal.loop-name-preserved
loop-name-preserved c =
    let there : is_among c.name-item.result c.args.objects.now ≡ true =
    ap (λ l. is_among l c.args.objects.now) (sym c.as_str.ensures) ∙ sym c.is_among.ensures ∙ c.if-not-is_among.false in
    known_more c.args.objects.now c.args.names.now c.loop-name.name-index c.name-item.result c.loop-name-test.true
    c.name-item.is there
    c.loop-name.invariant

pub returns-clause-known : goal.returns-clause-known
returns-clause-known c = all_known c.args.objects.now c.args.names.now c.loop-name.name-index c.loop-name-test.false
    c.loop-name.invariant
