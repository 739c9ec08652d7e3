use Rattle.std.proofs.Common.{◌≡◌, ℕ, [], ap, ◌∙◌}
use Rattle.std.proofs.lemmas.Result.{IfOk-weaker}
use Rattle.clones.specs.clone_elements.Replacements.{no_effects, kept, map_of}
use Rattle.clones.specs.clone_elements.Origins.{origin_at}
use Rattle.clones.specs.clone_elements.Meaning.{type_pairs_at}
use Rattle.clones.proofs.clone_elements.elements.tried_map.Goals as goal
use Rattle.tasks.proofs.outside.Passed.{no_value}

pub returns-clause-is : goal.returns-clause-is
returns-clause-is c =
    let s = c.args.store.now in
    let ts = type_pairs_at s c.args.types.now in
    let o = origin_at s c.args.source.now in
    let all : c.as_slice.result.now ≡ kept o no_effects = c.as_slice.ensures.value ∙ c.in_ok-all.ensures s in
    IfOk-weaker c.map_of.result _ _ (λ m h. h ∙ (ap (λ (n : ℕ). map_of ts [] n c.as_slice.result.now) c.len.ensures ∙ ap (map_of ts [] _) all)) c.map_of.ensures.is

pub returns-in_err-all-clause-is : goal.returns-in_err-all-clause-is
returns-in_err-all-clause-is c = no_value _ _ c.from_residual.result c.from_residual.ensures.1

pub returns-in_err-all-clause-held : goal.returns-in_err-all-clause-held
returns-in_err-all-clause-held c = no_value _ _ c.from_residual.result c.from_residual.ensures.1

pub returns-clause-held : goal.returns-clause-held
returns-clause-held c = c.map_of.ensures.held
