-- What the instance of an open tree at an environment asks of the environment.
use Rattle.std.proofs.Common.{◌≡◌, ℕ, suc, ◌<◌, List, [], ◌∷◌, length, get_or, All, arith}
use Rattle.trees.specs.declared.TermId.{TermId}
use Rattle.trees.specs.declared.Sort.TheVariants.{Term}
use Rattle.trees.specs.Tree.{Tree}
use Rattle.trees.specs.Node.{tree_at, trees_at, Holds}
use Rattle.trees.specs.Binding.{inst_many}
use Rattle.trees.specs.Facts.{IndicesFit}
use Rattle.trees.specs.Sorts.{WellSorted, sort_of}
use Rattle.trees.proofs.RaisesNoIndex.{closed_many_fits}
use Rattle.trees.proofs.Sizes.{sorted_fits}
use Rattle.trees.specs.binders.Visits.{HoldTerms}
use Rattle.tasks.specs.Vocabulary.{Vocabulary}
use Rattle.tasks.proofs.Closing.{typed_sorted}
use Rattle.congruence.specs.tasks.typed_trees.instances.Instances.{AreFor}
use Rattle.images.proofs.Environments.{term_for, closed_for}

hold_each : (s : List Tree) (ids : List TermId) → ((k : ℕ) (e : Tree) → k < length (trees_at s ids) → sort_of (get_or (trees_at s ids) k e) ≡ Term) → All (Holds s) ids → HoldTerms s ids
hold_each s [] h held = tt
hold_each s (i ∷ ids) h held = ((held 0 i (omega arith), h 0 (tree_at s i) (omega arith)), hold_each s ids (λ k e l. h (suc k) e (omega arith)) (λ k z l. held (suc k) z (omega arith)))

pub hold_terms : (v : Vocabulary) (types : List Tree) (s : List Tree) (ids : List TermId) → AreFor v types (trees_at s ids) → All (Holds s) ids → HoldTerms s ids
hold_terms v types s ids a held = hold_each s ids (λ k e l. (term_for v types (trees_at s ids) a k e l).1.sort) held

pub instance_fits : (v : Vocabulary) (types env : List Tree) (e : Tree) → AreFor v types env → WellSorted e → IndicesFit (inst_many e env)
instance_fits v types env e a w = closed_many_fits e env (sorted_fits e w) (closed_for v types env a) (λ j x l. sorted_fits (get_or env j x) (typed_sorted v [] (get_or env j x) (term_for v types env a j x l).1.typed))
