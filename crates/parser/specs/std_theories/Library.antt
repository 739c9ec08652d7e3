-- The embedded library: nine theories with their paths (Why3's standard library, in part).
use Rattle.std.specs.Prelude.{ℕ, ◌≡◌, List, [], ◌∷◌, ◌++◌, codes}
use Rattle.std.specs.Borrow.{Bor}
use Rattle.tokens_why.specs.Tokens.{AreTokens}
use Rattle.tokens_why.specs.declared.token.Token.{Token}
use Rattle.surface.specs.declared.declarations.File.{File}
use Rattle.surface.specs.Lexeme.{rest, terminals}
use Rattle.surface.specs.SurfaceDeclarations.{file_of}
use Rattle.grammar.specs.recognise.Depth.{IsShallow}
use Rattle.grammar.specs.recognise.Sources.{IsOnlyFile, IsSource}

-- a path, and the text of its file
abbrev pub LibraryEntry : Type 0
LibraryEntry = List ℕ × List ℕ

abbrev pub int_int : List ℕ
int_int =
    codes "theory Int\n  function (-_) int : int\n  function (+) int int : int\n"
    ++ codes "  function (-) int int : int\n  function (*) int int : int\n"
    ++ codes "  predicate (<) int int\n  predicate (<=) int int\n"
    ++ codes "  predicate (>) int int\n  predicate (>=) int int\n"
    ++ codes "  axiom Mul_comm: forall x y: int. x * y = y * x\n"
    ++ codes "  axiom Mul_assoc: forall x y z: int. (x * y) * z = x * (y * z)\n"
    ++ codes "  axiom Mul_distr: forall x y z: int. x * (y + z) = x * y + x * z\nend\n"

abbrev pub int_abs : List ℕ
int_abs =
    codes "theory Abs\n  use int.Int\n"
    ++ codes "  function abs (x: int) : int = if x >= 0 then x else - x\nend\n"

abbrev pub int_min_max : List ℕ
int_min_max =
    codes "theory MinMax\n  use int.Int\n"
    ++ codes "  function min (x y: int) : int = if x <= y then x else y\n"
    ++ codes "  function max (x y: int) : int = if x <= y then y else x\nend\n"

abbrev pub bool_bool : List ℕ
bool_bool =
    codes "theory Bool\n  type bool = True | False\n"
    ++ codes "  function andb (x y: bool) : bool = match x with True -> y | False -> False end\n"
    ++ codes "  function orb (x y: bool) : bool = match x with True -> True | False -> y end\n"
    ++ codes "  function notb (x: bool) : bool = match x with True -> False | False -> True end\n"
    ++ codes "end\n"

abbrev pub option_option : List ℕ
option_option = codes "theory Option\n  type option 'a = None | Some 'a\nend\n"

abbrev pub list_list : List ℕ
list_list = codes "theory List\n  type list 'a = Nil | Cons 'a (list 'a)\nend\n"

abbrev pub list_length : List ℕ
list_length =
    codes "theory Length\n  use int.Int\n  use list.List\n"
    ++ codes "  function length (l: list 'a) : int ="
    ++ codes " match l with Nil -> 0 | Cons _ r -> 1 + length r end\n"
    ++ codes "  lemma Length_nonnegative: forall l: list 'a. length l >= 0\nend\n"

abbrev pub list_mem : List ℕ
list_mem =
    codes "theory Mem\n  use list.List\n"
    ++ codes "  predicate mem (x: 'a) (l: list 'a) ="
    ++ codes " match l with Nil -> false | Cons y r -> x = y \\/ mem x r end\nend\n"

abbrev pub list_append : List ℕ
list_append =
    codes "theory Append\n  use list.List\n"
    ++ codes "  function (++) (l1 l2: list 'a) : list 'a ="
    ++ codes " match l1 with Nil -> l2 | Cons x r -> Cons x (r ++ l2) end\n"
    ++ codes "  lemma Append_assoc: forall a b c: list 'a. a ++ (b ++ c) = (a ++ b) ++ c\n"
    ++ codes "  lemma Append_l_nil: forall l: list 'a. l ++ Nil = l\nend\n"

-- the library, in the order in which its theories are known
abbrev pub library : List LibraryEntry
library =
    (codes "int.Int", int_int) ∷ (codes "int.Abs", int_abs) ∷ (codes "int.MinMax", int_min_max)
    ∷ (codes "bool.Bool", bool_bool) ∷ (codes "option.Option", option_option)
    ∷ (codes "list.List", list_list)
    ∷ (codes "list.Length", list_length) ∷ (codes "list.Mem", list_mem)
    ∷ (codes "list.Append", list_append) ∷ []

-- the entries of the code's table
abbrev pub library_entry : Bor (List ℕ) × Bor (List ℕ) → LibraryEntry
library_entry e = (e.0.now, e.1.now)

-- a text that is a source, and isn't nested too deep
pub record IsSourceText (text : List ℕ) : Type 0 where
  pub tokens : List Token
  pub are : AreTokens text tokens
  pub shallow : IsShallow (terminals (rest text tokens 0))
  pub source : IsSource (rest text tokens 0)

-- the file that a text writes, with the place of each part
pub record IsFileOfText (text : List ℕ) (file : File) : Type 0 where
  pub tokens : List Token
  pub are : AreTokens text tokens
  pub only : IsOnlyFile (rest text tokens 0) (file_of file)

-- the file of an entry comes after others, with its path
pub record IsFilePushed (e : LibraryEntry) (old new : List (List ℕ × File)) : Type 0 where
  pub file : List ℕ × File
  pub is : new ≡ old ++ file ∷ []
  pub path : file.0 ≡ e.0
  pub written : IsFileOfText e.1 file.1

-- the files of the entries, each with its path, in order
abbrev pub AreFilesOf : List LibraryEntry → List (List ℕ × File) → Type 0
AreFilesOf [] [] = Unit {0}
AreFilesOf (e ∷ es) (f ∷ fs) = (f.0 ≡ e.0) × IsFileOfText e.1 f.1 × AreFilesOf es fs
AreFilesOf _ _ = ⊥
