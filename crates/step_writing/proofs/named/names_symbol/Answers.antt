use Rattle.std.proofs.Common.{[], All, IsTrue, sym, subst}
use Rattle.kernel.specs.trees.Node.{tree_at}
use Rattle.name_tables.specs.declared.name_entries.names.NameOf.TheVariants.{Symbol}
use Rattle.kernel.specs.rules.declared.rule.Rule.{Rule}
use Rattle.kernel.specs.rules.Meaning.{rule_at}
use Rattle.step_writing.specs.tree_writing.Spelt.{IsSpelt}
use Rattle.step_writing.specs.Named.{rule_symbols}
use Rattle.step_writing.proofs.Naming.{only}
use Rattle.step_writing.proofs.named.names_symbol.Goals as goal
use Rattle.step_writing.proofs.tree_writing.Whole.{found_iff}

pub returns-in-Def : goal.returns-in-Def
returns-in-Def c =
    let s = c.args.store.now in
    let table = c.args.table.now in
    let b = c.is_some.result in
    subst (λ (r : Rule). (IsTrue b → All (λ k. IsSpelt table (Symbol k) []) (rule_symbols (rule_at s r))) × (All (λ k. IsSpelt table (Symbol k) []) (rule_symbols (rule_at s r)) → IsTrue b)) (sym c.in-Def.is)
    (only (λ k. IsSpelt table (Symbol k) []) c.in-Def.k b (found_iff table (Symbol c.in-Def.k) [] (tree_at s c.args.names.now.end) c.find_spelling.result b c.is_some.ensures c.requires.none c.find_spelling.ensures.spells c.find_spelling.ensures.found))

pub returns-in-Clause : goal.returns-in-Clause
returns-in-Clause c =
    let s = c.args.store.now in
    let table = c.args.table.now in
    let b = c.is_some-in-Clause.result in
    subst (λ (r : Rule). (IsTrue b → All (λ k. IsSpelt table (Symbol k) []) (rule_symbols (rule_at s r))) × (All (λ k. IsSpelt table (Symbol k) []) (rule_symbols (rule_at s r)) → IsTrue b)) (sym c.in-Clause.is)
    (only (λ k. IsSpelt table (Symbol k) []) c.in-Clause.k b (found_iff table (Symbol c.in-Clause.k) [] (tree_at s c.args.names.now.end) c.find_spelling-in-Clause.result b c.is_some-in-Clause.ensures c.requires.none c.find_spelling-in-Clause.ensures.spells c.find_spelling-in-Clause.ensures.found))

pub returns-in-Inv : goal.returns-in-Inv
returns-in-Inv c =
    let s = c.args.store.now in
    let table = c.args.table.now in
    let b = c.is_some-in-Inv.result in
    subst (λ (r : Rule). (IsTrue b → All (λ k. IsSpelt table (Symbol k) []) (rule_symbols (rule_at s r))) × (All (λ k. IsSpelt table (Symbol k) []) (rule_symbols (rule_at s r)) → IsTrue b)) (sym c.in-Inv.is)
    (only (λ k. IsSpelt table (Symbol k) []) c.in-Inv.k b (found_iff table (Symbol c.in-Inv.k) [] (tree_at s c.args.names.now.end) c.find_spelling-in-Inv.result b c.is_some-in-Inv.ensures c.requires.none c.find_spelling-in-Inv.ensures.spells c.find_spelling-in-Inv.ensures.found))
