-- The equation of a transformation that rewrites declarations one by one.
use Rattle.std.specs.Prelude.{ℕ, List, [], ◌∷◌, Result, Ok}
use Rattle.tasks.specs.Task.{TaskTree}
use Rattle.declarations.specs.Rewritten.{DeclarationRule, rewritten_task}

-- one task
abbrev pub rewrite_equation : DeclarationRule → TaskTree → Result (List TaskTree) ℕ
rewrite_equation g t = Ok (rewritten_task g t ∷ [])
