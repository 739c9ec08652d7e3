use Rattle.std.proofs.Common.{◌++◌, ℕ, List, sym, ap, ◌∙◌}
use Rattle.std.proofs.lemmas.Result.{on_ok_weaker}
use Rattle.std.proofs.lemmas.List.Elements.{same_from_all_zip}
use Rattle.surface.specs.declared.declarations.Link.{Link}
use Rattle.theory_states.specs.declared.moves.Move.{Move}
use Rattle.theory_states.specs.Moves.{handed}
use Rattle.theory_states.proofs.moves.hand_on.Goals as goal

pub returns-in-Export : goal.returns-in-Export
returns-in-Export c =
    let old = c.args.out.now.items in
    let ms = c.args.moves.now in
    on_ok_weaker c.extend_with_clones.result (λ h. h.1 ∙ ap (λ (zs : List (Move ℕ)). old ++ zs) (same_from_all_zip _ ms h.0 h.2 (λ x y e. e)) ∙ ap (λ (l : Link). old ++ handed l ms) (sym c.in-Export.is)) c.extend_with_clones.ensures.items
