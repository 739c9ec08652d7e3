use Rattle.std.proofs.Common.{◌≡◌, ℕ, false, List, refl, sym, ap, ◌∙◌}
use Rattle.std.proofs.lemmas.Result.{IfOk-weaker}
use Rattle.surface.specs.SurfaceDeclarations.{theory_of}
use Rattle.theories.specs.Files.{IsTypedTheoryBy, is_path_taken, IsNewTheoryBy, IsTheoryFault, IsNewFault, twice, inside}
use Rattle.theories.specs.Sound.{AreSoundlyTyped}
use Rattle.theories.specs.Right.{between_at}
use Rattle.theories.proofs.Walking.{answer_so}
use Rattle.theories.proofs.Paths.{new_path}
use Rattle.theories.proofs.files.type_new.Goals as goal

pub type_theory-requires-clause-path : goal.type_theory-requires-clause-path
type_theory-requires-clause-path c =
    let known = (between_at c.args.store.now c.args.typed.now c.args.count).known in
    new_path c.args.path known (ap (λ (p : List ℕ). is_path_taken p known) (sym c.as_slice.ensures) ∙ sym c.is_taken.ensures ∙ c.if-is_taken.false)

pub returns-then-is_taken-clause-err : goal.returns-then-is_taken-clause-err
returns-then-is_taken-clause-err c =
    let known = (between_at c.args.store.now c.args.typed.now c.args.count).known in
    twice (ap (λ (p : List ℕ). is_path_taken p known) (sym c.as_slice.ensures) ∙ sym c.is_taken.ensures ∙ c.if-is_taken.true) refl

pub returns-clause-ok : goal.returns-clause-ok
returns-clause-ok c =
    let b = between_at c.args.store.now c.args.typed.now c.args.count in
    let new : is_path_taken c.args.path b.known ≡ false = ap (λ (p : List ℕ). is_path_taken p b.known) (sym c.as_slice.ensures) ∙ sym c.is_taken.ensures ∙ c.if-is_taken.false in
    let ds = (theory_of c.args.theory.now).decls in
    let s = c.type_theory.new.store in
    let t = c.type_theory.new.typed in
    let P : ℕ → Type 0 = λ n. IsTypedTheoryBy AreSoundlyTyped c.args.path ds b (between_at s t n) in
    let Q : ℕ → Type 0 = λ n. IsNewTheoryBy AreSoundlyTyped c.args.path ds b (between_at s t n) in
    let k : (n : ℕ) → P n → Q n = λ n q. record { new = new; typed = q } in
    IfOk-weaker c.type_theory.result P Q k c.type_theory.ensures.ok

pub returns-clause-err : goal.returns-clause-err
returns-clause-err c =
    let b = between_at c.args.store.now c.args.typed.now c.args.count in
    let ds = (theory_of c.args.theory.now).decls in
    let new : is_path_taken c.args.path b.known ≡ false = ap (λ (p : List ℕ). is_path_taken p b.known) (sym c.as_slice.ensures) ∙ sym c.is_taken.ensures ∙ c.if-is_taken.false in
    answer_so (IsTheoryFault c.args.path ds b) (IsNewFault c.args.path c.args.theory.now.name.at ds b) (λ f h. inside new h) c.type_theory.result c.type_theory.ensures.err

pub returns-clause-right : goal.returns-clause-right
returns-clause-right c = c.type_theory.ensures.right

pub returns-clause-grows : goal.returns-clause-grows
returns-clause-grows c = c.type_theory.ensures.grows
