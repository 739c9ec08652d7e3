-- Names of symbols: the words of a line as which they can be written, and how those of a source are
-- made.
use Rattle.std.specs.Prelude.{◌≢◌, ℕ, ◌&&◌, nat_eq, nat_le, not, Bool, true, List, [], ◌∷◌, All, IsTrue, codes}
use Rattle.std.specs.List.{list_all, list_any}
use Rattle.tasks.specs.Task.{SymbolTree, TaskTree}

-- no space and no line feed
abbrev pub IsPlainByte : ℕ → Type 0
IsPlainByte c = (c ≢ 32) × (c ≢ 10)

-- a word of a line: such bytes are in it
abbrev pub IsLineWord : List ℕ → Type 0
IsLineWord w = All IsPlainByte w

-- the names of a task's symbols have no space and no line feed
abbrev pub NamesAreWords : TaskTree → Type 0
NamesAreWords t = All (λ (e : SymbolTree). IsLineWord e.name) t.symbols

-- a letter, a digit, `_`, `'`, a character of operators or a dot: what can be printed of ASCII, but
-- for these marks and the space
abbrev pub is_name_byte : ℕ → Bool
is_name_byte c = nat_le 33 c && (nat_le c 126 && not (list_any (nat_eq c) (codes "\"(),:;[]`{|}")))

-- after a byte, no digit comes right after a dot
abbrev pub has_no_number : ℕ → List ℕ → Bool
has_no_number before [] = true
has_no_number before (c ∷ cs) =
    not (nat_eq before 46 && (nat_le 48 c && nat_le c 57)) && has_no_number c cs

-- a name after those of its scopes, each followed by a dot: none of them begins with a digit
pub record IsScopedName (w : List ℕ) : Type 0 where
  pub bytes : IsTrue (list_all is_name_byte w)
  pub parts : IsTrue (has_no_number 46 w)

-- the names of a task's symbols are such names
abbrev pub NamesAreScoped : TaskTree → Type 0
NamesAreScoped t = All (λ (e : SymbolTree). IsScopedName e.name) t.symbols
