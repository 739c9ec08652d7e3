use Rattle.std.proofs.Common.{◌++◌, ◌∷◌, []}
use Rattle.std.proofs.lemmas.List.Elements.{All-same, All-push}
use Rattle.checks.specs.match_cover.Meaning.{RowHeld}
use Rattle.checks.proofs.match_cover.patterns.push_opened.Goals as goal

pub returns-in_ok-push-in-Some-2-clause-held : goal.returns-in_ok-push-in-Some-2-clause-held
returns-in_ok-push-in-Some-2-clause-held c =
    let whole = c.in_ok-whole-in-Some-2.whole in
    All-same (RowHeld c.args.store.now) c.push.new.self.items (c.args.out.now.items ++ whole ∷ []) c.in_ok-push-in-Some-2.ensures.items
    (All-push (RowHeld c.args.store.now) c.args.out.now.items whole c.requires.out_held c.in_ok-whole-in-Some-2.ensures.held)
