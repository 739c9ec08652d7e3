-- The tokens of a source are read as its file.
use Rattle.parser.proofs.parse_decls.Common.{◌≡◌, ◌∙◌, ℕ, false, List, [], ◌∷◌, map, Option, Some, None, ap, sym, subst, lexeme, SyntaxTheory, read, IsReadFile}
use Rattle.tokens_why.specs.declared.token.Token.{Token}
use Rattle.grammar.specs.declared.symbols.Symbol.TheVariants as s
use Rattle.surface.specs.Lexeme.{rest}
use Rattle.grammar.specs.recognise.Sources.{IsOnlyFile, IsSource}

-- the file, if there is one
abbrev value_or : List SyntaxTheory → Option (List SyntaxTheory × Unit {0}) → List SyntaxTheory
value_or g None = g
value_or g (Some v) = v.0

module _ (text : List ℕ) (ts : List Token) (h : IsSource (rest text ts 0)) where
  pub is_file : IsReadFile (map (lexeme text) ts)
  is_file = record { value = (h.file, tt); reads = h.reads }

  pub only_file : (f : List SyntaxTheory) → read (map (lexeme text) ts) 0 false (s.File ∷ []) ≡ Some (f, tt) → IsOnlyFile (rest text ts 0) f
  only_file f e = subst (IsOnlyFile (rest text ts 0)) (ap (value_or f) (sym h.reads ∙ e)) h.only
