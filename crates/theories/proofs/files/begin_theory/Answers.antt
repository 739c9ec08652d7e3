use Rattle.std.proofs.Common.{◌≡◌, ◌+◌, ℕ, List, length, ◌∙◌, arith}
use Rattle.tasks.specs.trees.Tree.{Tree}
use Rattle.theory_states.specs.declared.states.Opened.{Opened}
use Rattle.theory_states.specs.States.{opened_empty}
use Rattle.theory_states.specs.Meaning.{opened_at, state_at, OpenedHeld}
use Rattle.theories.specs.Files.{IsTheoryBegun}
use Rattle.theories.specs.Right.{IsStateRight, between_at}
use Rattle.theories.proofs.Ending.{begun_is, begun_right}
use Rattle.theories.proofs.Passed.{ok_of_three}
use Rattle.theories.proofs.files.begin_theory.Goals as goal

pub returns-in-Some-clause-ok : goal.returns-in-Some-clause-ok
returns-in-Some-clause-ok c =
    let s = c.args.store.now in
    let t = c.args.typed.now in
    let q : c.in-Some.first ≡ c.args.count + 1 = omega arith in
    let P : Opened → Type 0 = λ o. (s' : List Tree) → opened_at s' o ≡ opened_empty c.args.path in
    let Q : Opened → Type 0 = λ o. o.count ≡ c.in-Some.first in
    let H : Opened → Type 0 = λ o. (s' : List Tree) (n : ℕ) → OpenedHeld s' n o in
    let S : Opened → Type 0 = λ o. IsTheoryBegun c.args.path (between_at s t c.args.count) (state_at s t o) in
    ok_of_three c.new.result P Q H S (λ o e n h. begun_is s t c.args.path c.args.count o (e s) (n ∙ q)) c.new.ensures.is c.new.ensures.number c.new.ensures.held

pub returns-in-Some-clause-right : goal.returns-in-Some-clause-right
returns-in-Some-clause-right c =
    let s = c.args.store.now in
    let t = c.args.typed.now in
    let q : c.in-Some.first ≡ c.args.count + 1 = omega arith in
    let P : Opened → Type 0 = λ o. (s' : List Tree) → opened_at s' o ≡ opened_empty c.args.path in
    let Q : Opened → Type 0 = λ o. o.count ≡ c.in-Some.first in
    let H : Opened → Type 0 = λ o. (s' : List Tree) (n : ℕ) → OpenedHeld s' n o in
    let S : Opened → Type 0 = λ o. IsStateRight s t o in
    ok_of_three c.new.result P Q H S (λ o e n h. begun_right s t c.args.path c.args.count o (e s) (n ∙ q) (h s (length t.decls)) c.requires.path c.requires.right) c.new.ensures.is c.new.ensures.number c.new.ensures.held
