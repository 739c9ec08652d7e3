use Rattle.std.proofs.Common.{◌++◌, ℕ, suc, List, ap, ◌∙◌, arith, append_assoc}
use Rattle.std.proofs.lemmas.Result.{on_ok_weaker}
use Rattle.tasks.specs.trees.Tree.{Tree}
use Rattle.tasks.specs.Meaning.{symbols_at}
use Rattle.surface.specs.SurfaceDeclarations.{element_of}
use Rattle.clones.specs.clone_elements.Replacements.{PlacedEffects, type_for, with_side, replaced_types}
use Rattle.clones.specs.clone_elements.Origins.{origin_at}
use Rattle.clones.specs.clone_elements.Meaning.{right_at, side_at, sides_at, effects_at, type_pairs_at}
use Rattle.clones.proofs.clone_elements.replacements.+push_types.Goals as goal
use Rattle.tasks.proofs.outside.Passed.{no_ok}

pub returns-clause-types : goal.returns-clause-types
returns-clause-types t c =
    let x = c.in-Some.first.now in
    let xs = c.in-Some.rest.now in
    let ids = c.push_type.new.types.items in
    rw c.in-Some.ensures.cases.0 (on_ok_weaker c.push_types.result (λ h s.
    let symbols = symbols_at s c.args.sig.now.symbols in
    let o = origin_at s c.args.source.now in
    let old = type_pairs_at s c.args.types.now.items in
    let here = type_for symbols o (effects_at c.args.effects.now) (element_of x.element.now) x.left (right_at s x.right) in
    let more = replaced_types symbols o (with_side (side_at s x) (effects_at c.args.effects.now)) (sides_at s xs) in
    h s ∙ (ap (λ (f : PlacedEffects). type_pairs_at s ids ++ replaced_types symbols o f (sides_at s xs)) (c.in_ok-enter_side.ensures s)
    ∙ (ap (λ (z : List (ℕ × Tree)). z ++ more) (c.in_ok-push_type.ensures.types s) ∙ append_assoc old here more))) c.push_types.ensures.types)

pub returns-clause-held : goal.returns-clause-held
returns-clause-held t c = rw c.in-Some.ensures.cases.0 (on_ok_weaker c.push_types.result (λ h s a b. h s (c.in_ok-push_type.ensures.held s a (b 0 c.in-Some.first.now (omega arith)).right) (λ k d l. b (suc k) d (omega arith))) c.push_types.ensures.held)

pub returns-in_err-push_type-clause-types : goal.returns-in_err-push_type-clause-types
returns-in_err-push_type-clause-types t c = no_ok _ _ c.from_residual.result c.from_residual.ensures.1

pub returns-in_err-push_type-clause-held : goal.returns-in_err-push_type-clause-held
returns-in_err-push_type-clause-held t c = no_ok _ _ c.from_residual.result c.from_residual.ensures.1

pub returns-in_err-enter_side-clause-types : goal.returns-in_err-enter_side-clause-types
returns-in_err-enter_side-clause-types t c = no_ok _ _ c.from_residual-in_err-enter_side.result c.from_residual-in_err-enter_side.ensures.1

pub returns-in_err-enter_side-clause-held : goal.returns-in_err-enter_side-clause-held
returns-in_err-enter_side-clause-held t c = no_ok _ _ c.from_residual-in_err-enter_side.result c.from_residual-in_err-enter_side.ensures.1
