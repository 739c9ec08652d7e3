-- Tokens that are a source, or where they go wrong.
use Rattle.std.specs.Prelude.{ℕ, ◌≡◌, Bool, true, false, List, [], ◌∷◌, ◌++◌, take, slice_get, Some}
use Rattle.grammar.specs.recognise.Common.{⊤, Terminal, Lexeme, mark, terminals, SyntaxTheory, write_file, IsLevelFile, PlacedFile, read, Begins, IsLeastFault, IsOnly, SyntaxFault}
use Rattle.tokens_why.specs.declared.terminal.Terminal.TheVariants as t
use Rattle.grammar.specs.declared.symbols.Symbol.TheVariants as s
use Rattle.grammar.specs.recognise.Depth.{IsTooDeep, IsShallow}
use Rattle.grammar.specs.declared.recognise.fault.SyntaxFault.TheVariants as f

-- the one right file of these tokens that has their places
abbrev pub IsOnlyFile : List Lexeme → List SyntaxTheory → Type 0
IsOnlyFile xs f = IsOnly IsLevelFile (PlacedFile 0) write_file xs f

-- there is one, and it is read
pub record IsSource (xs : List Lexeme) : Type 0 where
  pub file : List SyntaxTheory
  pub only : IsOnlyFile xs file
  pub reads : read xs 0 false (s.File ∷ []) ≡ Some (file, tt)

-- Where tokens that are no source go wrong.
abbrev pub IsFileFault : List Lexeme → ℕ → Type 0
IsFileFault xs i = IsLeastFault IsLevelFile write_file xs i

-- the words with which declarations of programs begin
abbrev pub begins_program : Terminal → Bool
begins_program t.LetWord = true
begins_program t.ProgramWord = true
begins_program _ = false

-- a declaration of a program begins where a scope may stand
pub record IsProgramDecl (xs : List Lexeme) (i : ℕ) : Type 0 where
  pub token : Lexeme
  pub is : slice_get xs i ≡ Some token
  pub program : begins_program token.terminal ≡ true
  pub scope : Begins IsLevelFile write_file (take i xs ++ mark t.ScopeWord ∷ [])

-- What a refusal says: want of memory; else the first token that is nested too deep; else the least
-- place with which no source begins, which may be that of a declaration of a program.
abbrev pub IsSyntaxRefusal : List Lexeme → SyntaxFault → Type 0
IsSyntaxRefusal xs f.Memory = ⊤
IsSyntaxRefusal xs (f.TooDeep i) = IsTooDeep (terminals xs) i
IsSyntaxRefusal xs (f.Syntax i) =
    IsShallow (terminals xs) × IsFileFault xs i × (IsProgramDecl xs i → ⊥)
IsSyntaxRefusal xs (f.ProgramDecl i) =
    IsShallow (terminals xs) × IsFileFault xs i × IsProgramDecl xs i
