use Rattle.std.proofs.Common.{◌≡◌, refl, subst}
use Rattle.hole_reader.specs.declared.reader.Next.TheVariants.{Open}
use Rattle.hole_reader.specs.Readers.{ReadingBy}
use Rattle.hole_reader.proofs.reader.Reader.fill.Goals as goal

pub returns-in-Open-clause-handed : goal.returns-in-Open-clause-handed
returns-in-Open-clause-handed c items handed reading hands =
    let r = c.args.self.now in
    let is : r.next ≡ Open c.in-Open.want = c.in-Open.is in
    let o = subst (ReadingBy items handed r) is reading in
    (handed, refl, o.0, o.1, hands c.in-Open.want is)
