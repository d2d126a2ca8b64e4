use Rattle.std.proofs.Common.{rules, map, refl, false}
use Rattle.run_values.specs.Known.{top_tree}
use Rattle.run_values.specs.View.{value_tree}
use Rattle.page_walk.proofs.Whole.{whole_link, long_link}
use Rattle.page_walk.proofs.links.link_of.Goals as goal

pub returns-then-link : goal.returns-then-link
returns-then-link c = record {
  means =
      long_link c.args.program.now (top_tree c.args.top.now) (record { text = c.new.result; long = false }) c.write_name.new.link c.write_values.new.link
      (map value_tree c.args.values.now) (search rules) refl c.in_ok-write_name.ensures c.in_ok-write_values.ensures.done (search rules);
}

pub returns : goal.returns
returns c = record {
  means =
      whole_link c.args.program.now (top_tree c.args.top.now) (record { text = c.new.result; long = false }) c.write_name.new.link c.write_values.new.link
      (map value_tree c.args.values.now) (search rules) refl c.in_ok-write_name.ensures c.in_ok-write_values.ensures.done (search rules);
}
