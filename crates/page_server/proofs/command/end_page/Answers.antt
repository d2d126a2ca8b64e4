use Rattle.std.proofs.Common.{ℕ, List, arith, subst}
use Rattle.site_build.specs.Unshown.{HasNoPage}
use Rattle.page_server.specs.Top.{IsMeant}
use Rattle.page_server.proofs.Inputs.{refusal, page, front}
use Rattle.page_server.proofs.command.end_page.Goals as goal

pub returns-in-Ok-clause-page : goal.returns-in-Ok-clause-page
returns-in-Ok-clause-page g c done =
    let (trees, meant, writes) = c.end_text.ensures.page done in
    page _ _ _ _ c.in-Ok.bytes.items c.in-Ok.ensures.bytes (λ h. c.in-Ok.ensures.end (omega (arith, h, c.in-Ok.bytes.ok.0)))
    (trees, subst (λ (l : List ℕ). IsMeant l trees) c.deref.ensures.value meant, writes)

pub returns-in-Ok-clause-refused : goal.returns-in-Ok-clause-refused
returns-in-Ok-clause-refused g c done =
    let (line, why, grew) = c.end_text.ensures.refused done in
    refusal _ _ _ _ c.in-Ok.bytes.items c.in-Ok.ensures.bytes (λ h. c.in-Ok.ensures.end (omega (arith, h, c.in-Ok.bytes.ok.0)))
    (line, subst (λ (l : List ℕ). HasNoPage l line) c.deref.ensures.value why, grew)

pub returns-in-Ok-clause-front : goal.returns-in-Ok-clause-front
returns-in-Ok-clause-front g c done =
    front _ _ _ _ c.in-Ok.bytes.items c.deref.result.now c.in-Ok.ensures.bytes (λ h. c.in-Ok.ensures.end (omega (arith, h, c.in-Ok.bytes.ok.0)))
    c.deref.ensures.value (c.end_text.ensures.front done)
