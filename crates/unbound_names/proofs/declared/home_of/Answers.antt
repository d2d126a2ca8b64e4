use Rattle.std.proofs.Common.{◌≡◌, ◌-◌, ◌<◌, length, map, reverse, take, ap, ◌∙◌, rules, arith}
use Rattle.source_names.specs.Scopes.{capital}
use Rattle.source_names.specs.Standing.{home_of, module_named}
use Rattle.unbound_names.proofs.Homes.{home_by_name}
use Rattle.unbound_names.proofs.declared.home_of.Goals as goal

pub returns-in-len1 : goal.returns-in-len1
returns-in-len1 c =
    let names = c.args.known.now.modules.items in
    let count : c.len-count.result ≡ length c.args.known.now.modules.items = search rules in
    let one : length c.as_slice.result.now ≡ 1 = omega (arith, c.in-len1.len_below, c.in-len1.len_at_least) in
    let some : 0 < length c.args.known.now.modules.items = omega (arith, count, c.if-count-eq0.false) in
    let path : c.as_slice.result.now ≡ c.args.path.now.modules = search rules in
    c.module_named.ensures
    ∙ ap (λ n. module_named c.home-item.result (reverse (map capital (take (n - 1) names)))) count
    ∙ home_by_name c.as_slice.result.now names c.home-item.result one c.home-item.is some
    ∙ ap (λ ms. home_of ms (reverse (map capital names))) path
