-- The propositions that a driver removes, declaration by declaration.
use Rattle.std.proofs.Common.{◌≡◌, ◌∙◌, ◌<◌, ◌+◌, ℕ, List, ◌++◌, length, get_or, drop, ap, sym, append_assoc}
use Rattle.tasks.specs.trees.Tree.{Tree}
use Rattle.tasks.specs.declared.declaration.Decl.{Decl}
use Rattle.tasks.specs.Meaning.{declaration_at, declarations_at}
use Rattle.stages.specs.Listing.{name_if, removed_of}
use Rattle.tasks.proofs.plain_laws.Lists.{drop_at as left_at}

pub removed_step : (s : List Tree) (paths : List (List ℕ)) (decls : List Decl) (i : ℕ) (d : Decl) (old new all : List (List ℕ × List ℕ)) → d ≡ get_or decls i d → i < length decls
    → new ≡ old ++ name_if paths (declaration_at s d) → old ++ removed_of paths (declarations_at s (drop i decls)) ≡ all
    → new ++ removed_of paths (declarations_at s (drop (i + 1) decls)) ≡ all
removed_step s paths decls i d old new all is l e so =
    let rest = removed_of paths (declarations_at s (drop (i + 1) decls)) in
    ap (λ z. z ++ rest) e ∙ append_assoc old (name_if paths (declaration_at s d)) rest
    ∙ ap (λ (ds : List Decl). old ++ removed_of paths (declarations_at s ds)) (sym (left_at decls i d is l)) ∙ so
