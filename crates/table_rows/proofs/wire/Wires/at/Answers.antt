use Rattle.std.proofs.Common.{◌<◌, length, ap, arith}
use Rattle.std.proofs.lemmas.List.{length-map}
use Rattle.table_rows.specs.View.{wire_tree}
use Rattle.table_rows.specs.declared.wire.Wire.TheViews.{out-Wires}
use Rattle.table_rows.proofs.Lists.{wires_listed, wire_at}
use Rattle.table_rows.proofs.wire.Wires.at.Goals as goal

pub index-requires : goal.index-requires
index-requires c =
    let listed = wires_listed c.args.self.now in
    omega (arith, ap length listed, length-map (out-Wires c.args.self.now).items.items wire_tree, (out-Wires c.args.self.now).items.ok.0)

pub returns : goal.returns
returns c =
    let listed = wires_listed c.args.self.now in
    let there : c.args.i < length (out-Wires c.args.self.now).items.items = omega (arith, ap length listed, length-map (out-Wires c.args.self.now).items.items wire_tree) in
    wire_at c.args.self.now _ c.args.i c.index.ensures there
