-- A whole text, read back.
use Rattle.std.proofs.Common.{◌≡◌, ℕ, List, ◌++◌, get_or, All, inl, inr, sym, ap, subst}
use Rattle.std.specs.Prelude.{flat_map}
use Rattle.kernel.specs.trees.Tree.{Tree}
use Rattle.kernel.specs.trees.Sorts.{sort_of, IsExpression}
use Rattle.name_tables.specs.declared.name_entries.names.NameEntry.{NameEntry}
use Rattle.kernel.specs.rules.declared.rule.Step.{Step}
use Rattle.kernel.specs.rules.Trees.{StepTree, rule_types}
use Rattle.kernel.specs.rules.Meaning.{steps_at}
use Rattle.step_writing.specs.declared.tree_writing.writer.LineKind.{LineKind}
use Rattle.step_writing.specs.declared.tree_writing.writer.LineKind.TheVariants as kind
use Rattle.step_writing.specs.tree_writing.Spelt.{AreNamesOf}
use Rattle.step_writing.specs.tree_writing.Referring.{HasLine}
use Rattle.step_writing.specs.tree_writing.Whole.{kind_of_sort, IsOfKind, TopNamed, IsWritten, HaveLines, LacksName}
use Rattle.step_writing.specs.declared.words.Lines.{Lines}
use Rattle.step_writing.specs.Named.{AreWords, rule_expressions, step_trees, IsNamedTree, AreNamed, SymbolsNamed, AreSorted}
use Rattle.step_writing.specs.Words.{StepReady}
use Rattle.step_writing.specs.Written.{read_with, AddsSteps, StepsReadBack}
use Rattle.step_writing.proofs.Texts.{trees_text, text_read}
use Rattle.step_writing.proofs.Rightness.{all_used, all_good, all_stand, flat_all, all_flat}
use Rattle.step_writing.proofs.tree_writing.Sorting.{expression_kind as kind_expression}
use Rattle.tasks.proofs.plain_laws.Lists.{All-left as front_all, All-right as back_all}

pub finished : (x : Lines) (steps : List Step) (roots : List Tree) (start new : List ℕ) → roots ≡ flat_map step_trees (steps_at x.store.now steps) → IsWritten x.store.now x.table.now roots start x.numbers.now → AreWords x.table.now → AddsSteps x steps start new → StepsReadBack x.table.now (steps_at x.store.now steps) new
finished x steps roots start new are written words adds t tallest closes low =
    let s = x.store.now in
    let all = steps_at s steps in
    let w = subst (λ (l : List Tree). IsWritten s x.table.now l start x.numbers.now) are written in
    let text = trees_text t x.table.now tallest s (flat_map step_trees all) start x.numbers.now w (all_used t all closes.right) (all_good t tallest all closes.right low) in
    text_read t x.table.now tallest words new (read_with w.earlier all) (adds t tallest w.earlier w.numbered closes.right text) closes.starts

pub no_name : (table : List NameEntry) (steps : List StepTree) (roots : List Tree) → roots ≡ flat_map step_trees steps → LacksName table roots → AreNamed table steps → ⊥
no_name table steps roots are lacks named =
    let a = flat_all (IsNamedTree table) step_trees steps (λ k d l. (named k d l).trees) in
    lacks (all_stand (TopNamed table) roots (subst (All (IsNamedTree table)) (sym are) a))

pub steps_ready : (x : Lines) (steps : List StepTree) (roots : List Tree) → roots ≡ flat_map step_trees steps → AreNamesOf x.store.now x.table.now x.names.now → HaveLines x.store.now x.numbers.now roots → AreSorted steps → All (SymbolsNamed x.table.now) steps → All (StepReady x) steps
steps_ready x steps roots are names lines sorted symbols k d l =
    let s = x.store.now in
    let numbers = x.numbers.now in
    let Has : Tree → Type 0 = λ e. (j : LineKind) → IsOfKind j e → HasLine s numbers e in
    let st = get_or steps k d in
    let a = all_flat Has step_trees steps (subst (All Has) are lines) k d l in
    let rule = back_all Has st.sequent (rule_expressions st.rule ++ rule_types st.rule) a in
    let o = sorted k d l in
    record {
      names = names;
      sequent = λ i y m. record { sort = o.sequent i y m; line = front_all Has st.sequent (rule_expressions st.rule ++ rule_types st.rule) a i y m kind.Expression (kind_expression (get_or st.sequent i y) (o.sequent i y m)) };
      rule = record {
        expressions = λ i y m. record { sort = o.expressions i y m; line = front_all Has (rule_expressions st.rule) (rule_types st.rule) rule i y m kind.Expression (kind_expression (get_or (rule_expressions st.rule) i y) (o.expressions i y m)) };
        types = λ i y m. record { sort = o.types i y m; line = back_all Has (rule_expressions st.rule) (rule_types st.rule) rule i y m kind.Type (ap kind_of_sort (o.types i y m)) };
        symbols = symbols k d l;
      };
    }
