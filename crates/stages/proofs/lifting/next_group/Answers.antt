use Rattle.std.proofs.Common.{rules, ◌≡◌, ◌-◌, ℕ, length, reverse, ap}
use Rattle.stages.proofs.NextTask.{split_group}
use Rattle.stages.proofs.lifting.next_group.Goals as goal

pub returns-clause-count : goal.returns-clause-count
returns-clause-count c =
    let old = c.args.left.now.items in
    let many : c.len.result ≡ length old = search rules in
    let from = ap (λ (n : ℕ). n - c.args.count) many in
    (split_group old c.split_off.new.self.items c.in_ok-group.group.items c.reverse.new.self.items (c.len.result - c.args.count) c.args.count c.requires from c.in_ok-group.ensures.items c.in_ok-group.ensures.tail c.reverse.ensures.items).0

pub returns-clause-items : goal.returns-clause-items
returns-clause-items c =
    let old = c.args.left.now.items in
    let many : c.len.result ≡ length old = search rules in
    let from = ap (λ (n : ℕ). n - c.args.count) many in
    (split_group old c.split_off.new.self.items c.in_ok-group.group.items c.reverse.new.self.items (c.len.result - c.args.count) c.args.count c.requires from c.in_ok-group.ensures.items c.in_ok-group.ensures.tail c.reverse.ensures.items).1
