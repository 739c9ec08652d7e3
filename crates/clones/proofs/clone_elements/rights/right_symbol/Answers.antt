use Rattle.std.proofs.Common.{◌≡◌, ◌++◌, ◌∷◌, [], ℕ, List, Option, sym, ap, ◌∙◌}
use Rattle.tasks.specs.trees.Tree.{Tree}
use Rattle.surface.specs.Forms.{Called}
use Rattle.surface.specs.Lexeme.{Word}
use Rattle.surface.specs.Surface.{own_of, called_of}
use Rattle.name_resolution.specs.scopes.declared.Table.TheVariants.{Symbols}
use Rattle.name_resolution.specs.scopes.Names.{ScopeNames, find_number}
use Rattle.name_resolution.specs.Abstract.{text_of_own}
use Rattle.name_resolution.specs.Naming.{scope_at}
use Rattle.name_resolution.proofs.ScopeAt.{symbol_named_at}
use Rattle.clones.specs.clone_elements.Rights.{called_symbol, symbol_missing}
use Rattle.clones.proofs.clone_elements.rights.right_symbol.Goals as goal
use Rattle.tasks.proofs.outside.Passed.{no_value}

looked : (s : List Tree) (names : ScopeNames) (d : Called) (qs : List Word) (x : Word) (r : Option ℕ) → r ≡ find_number names Symbols (qs ++ x ∷ []) → qs ≡ d.scopes → x ≡ text_of_own d.own → called_symbol (scope_at s names) d ≡ r
looked s names d qs x r h p q =
    symbol_named_at s names d.scopes (text_of_own d.own) ∙ sym (h ∙ ap (λ (ys : List Word). find_number names Symbols (ys ++ x ∷ [])) p ∙ ap (λ (y : Word). find_number names Symbols (d.scopes ++ y ∷ [])) q)

pub returns-in-Some-clause-found : goal.returns-in-Some-clause-found
returns-in-Some-clause-found c = λ s.
    let q = c.args.name.now in
    looked s c.args.scope.now (called_of q) c.as_slice-2.result.now c.as_slice-3.result.now c.look_at.result c.look_at.ensures c.as_slice-2.ensures (c.as_slice-3.ensures ∙ (c.in_ok-own.ensures ∙ ap (λ (z : Word). text_of_own (own_of q.style z)) c.as_slice.ensures)) ∙ c.in-Some.is

pub returns-clause-err : goal.returns-clause-err
returns-clause-err c = λ s.
    let q = c.args.name.now in
    ap (symbol_missing q.at) (looked s c.args.scope.now (called_of q) c.as_slice-2.result.now c.as_slice-3.result.now c.look_at.result c.look_at.ensures c.as_slice-2.ensures (c.as_slice-3.ensures ∙ (c.in_ok-own.ensures ∙ ap (λ (z : Word). text_of_own (own_of q.style z)) c.as_slice.ensures)) ∙ c.in-None.is)

pub returns-in_err-own-clause-found : goal.returns-in_err-own-clause-found
returns-in_err-own-clause-found c = no_value _ _ c.from_residual.result c.from_residual.ensures.1
