use Rattle.std.proofs.Common.{length, ap, arith}
use Rattle.std.proofs.lemmas.List.{length-map}
use Rattle.table_rows.specs.View.{wire_tree}
use Rattle.table_rows.specs.declared.wire.Wire.TheViews.{out-Wires}
use Rattle.table_rows.proofs.Lists.{wires_listed}
use Rattle.table_rows.proofs.wire.Wires.len.Goals as goal

pub returns : goal.returns
returns c =
    let listed = wires_listed c.args.self.now in
    omega (arith, ap length listed, length-map (out-Wires c.args.self.now).items.items wire_tree, (out-Wires c.args.self.now).items.ok.0)
