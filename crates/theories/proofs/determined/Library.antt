-- The files of the library are those of its texts, so that there is one tree for each.
use Rattle.std.proofs.Common.{◌≡◌, ℕ, List, [], ◌∷◌, sym, subst, ◌∙◌}
use Rattle.surface.specs.tokens_why.declared.token.Token.{Token}
use Rattle.surface.specs.Lexeme.{rest}
use Rattle.surface.specs.declared.declarations.File.{File}
use Rattle.surface.specs.SurfaceDeclarations.{file_of}
use Rattle.parser.specs.grammar.recognise.Sources.{IsOnlyFile}
use Rattle.parser.specs.std_theories.Library.{LibraryEntry, IsFileOfText, AreFilesOf}
use Rattle.parser.proofs.std_theories.Readings.{one_tokens}

-- ---- a text has one file
one_file : (bytes : List ℕ) (f g : File) → IsFileOfText bytes f → IsFileOfText bytes g → file_of f ≡ file_of g
one_file bytes f g a b =
    let there : IsOnlyFile (rest bytes b.tokens 0) (file_of f) = subst (λ (ts : List Token). IsOnlyFile (rest bytes ts 0) (file_of f)) (one_tokens bytes a.tokens b.tokens a.are b.are) a.only in
    b.only.only (file_of f) there.of there.placed

-- ---- files with the same paths and trees
abbrev pub AreSameFiles : List (List ℕ × File) → List (List ℕ × File) → Type 0
AreSameFiles [] [] = Unit {0}
AreSameFiles (f ∷ fs) (g ∷ gs) = (f.0 ≡ g.0) × (file_of f.1 ≡ file_of g.1) × AreSameFiles fs gs
AreSameFiles _ _ = ⊥

pub one_files : (es : List LibraryEntry) (fs gs : List (List ℕ × File)) → AreFilesOf es fs → AreFilesOf es gs → AreSameFiles fs gs
one_files [] [] [] a b = tt
one_files [] [] (g ∷ gs) a b = absurd b
one_files [] (f ∷ fs) gs a b = absurd a
one_files (e ∷ es) [] gs a b = absurd a
one_files (e ∷ es) (f ∷ fs) [] a b = absurd b
one_files (e ∷ es) (f ∷ fs) (g ∷ gs) a b = (a.0 ∙ sym b.0, one_file e.1 f.1 g.1 a.1 b.1, one_files es fs gs a.2 b.2)
