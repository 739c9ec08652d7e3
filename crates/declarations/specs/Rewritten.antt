-- Declarations rewritten one by one: some declarations are put in the place of each. What is
-- declared stays, though a symbol may be made as nothing more than a symbol.
use Rattle.std.specs.Prelude.{◌≡◌, ◌⊎◌, true, IsTrue, ℕ, List, All, Contains}
use Rattle.std.specs.List.{flat_map}
use Rattle.tasks.specs.Task.{SymbolTree, DeclarationTree, TaskTree, made, made_by}
use Rattle.tasks.specs.Roles.{RoleTree, PlainRole, is_constructor, role_in, role_by, maker, is_made_by}
use Rattle.tasks.specs.Vocabulary.{Vocabulary}
use Rattle.tasks.specs.Valid.{IsValidDecl}

-- what is put in the place of a declaration, over the entries of a signature
abbrev pub DeclarationRule : Type 0
DeclarationRule = List SymbolTree → DeclarationTree → List DeclarationTree

abbrev pub rewritten_decls : DeclarationRule → TaskTree → List DeclarationTree
rewritten_decls g t = flat_map (g t.symbols) t.decls

abbrev pub rewritten_task : DeclarationRule → TaskTree → TaskTree
rewritten_task g t = record t { decls = rewritten_decls g t }

-- a symbol is made as nothing more than a symbol, or as it was
abbrev pub IsAsBefore : RoleTree → RoleTree → Type 0
IsAsBefore new old = (new ≡ PlainRole) ⊎ (new ≡ old)

-- What is put in the place of a declaration makes the same symbols in the same order, none as
-- something new.
pub record KeepsMade (g : DeclarationRule) : Type 0 where
  pub made : (symbols : List SymbolTree) (d : DeclarationTree) → made (g symbols d) ≡ made_by d.body
  pub roles : (symbols : List SymbolTree) (d : DeclarationTree) (k : ℕ) → is_made_by k d.body ≡ true
      → IsAsBefore (role_by k (maker (g symbols d) k)) (role_in k d.body)

-- each constructor is made as a constructor, and nothing else is
abbrev pub KeepsConstructors : DeclarationRule → Type 0
KeepsConstructors g = (symbols : List SymbolTree) (d : DeclarationTree) (k : ℕ)
    → is_made_by k d.body ≡ true
    → is_constructor (role_by k (maker (g symbols d) k)) ≡ is_constructor (role_in k d.body)

-- what a declaration makes may be named
abbrev pub AreUsable : Vocabulary → List ℕ → Type 0
AreUsable v ks = (k : ℕ) → Contains ks k → IsTrue (v.usable k)

-- What is put in the place of a declaration that is valid over one vocabulary, and whose symbols
-- may be named there, is valid over the other, where each of these declarations is small.
abbrev pub KeepsValid : (DeclarationTree → Type 0) → DeclarationRule → Vocabulary
    → Vocabulary → Type 0
KeepsValid Small g v w = (d : DeclarationTree) → AreUsable v (made_by d.body)
    → All Small (g v.symbols d) → IsValidDecl v d → All (IsValidDecl w) (g v.symbols d)
