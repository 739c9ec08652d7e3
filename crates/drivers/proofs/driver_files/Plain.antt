-- The strings of imports are UTF-8, so their names are the folder with the string after it.
use Rattle.std.proofs.Common.{◌≡◌, ◌∙◌, ℕ, Bool, true, false, List, [], ◌∷◌, ◌++◌, length, map, Option, Some, None, Result, Ok, Err, refl, sym, ap, subst}
use Rattle.std.specs.List.{flat_map}
use Rattle.std.specs.Str.{IsUtf8}
use Rattle.drivers.specs.declared.driver_tokens.terminal.DriverTerminal.{DriverTerminal}
use Rattle.drivers.specs.declared.driver_tokens.terminal.DriverTerminal.TheVariants as t
use Rattle.drivers.specs.declared.driver_tokens.terminal.DriverWord.TheVariants as w
use Rattle.drivers.specs.declared.driver_tokens.terminal.Heading.TheVariants as h
use Rattle.drivers.specs.declared.driver_tokens.terminal.NameKind.{NameKind}
use Rattle.drivers.specs.driver_tokens.Grammar.{GrammarLine, heading_line, prelude_line, answer_line, meta_line, theory_line, end_of_block_line, template_line, removal_line, removal_of_all_line, write_line}
use Rattle.drivers.specs.driver_tokens.Lines.{driver_terminals}
use Rattle.drivers.specs.driver_tokens.Machine.{cut}
use Rattle.drivers.specs.driver_tokens.Tokens.{DriverLexeme, driver_lexemes}
use Rattle.drivers.specs.driver_tokens.File.{or_byte, driver_lines}
use Rattle.drivers.proofs.driver_tokens.Files.{only_lines}
use Rattle.drivers.specs.driver_items.Items.{string_value_of}
use Rattle.drivers.specs.driver_parts.Items.{DriverItem, file_import, template_by, syntax_by, removed_by, removal_by, item_by, item_alone, item_of}
use Rattle.drivers.specs.driver_files.Reading.{folder, name_from}
use Rattle.drivers.proofs.driver_files.Strings.{AreTexts, texts}
use Rattle.drivers.proofs.driver_files.Naming.{name-plain}

-- the string of an import is UTF-8
abbrev pub IsPlain : DriverItem → Type 0
IsPlain (file_import byte string) = IsUtf8 string
IsPlain _ = Unit {0}

abbrev pub ArePlain : List (List DriverLexeme) → Type 0
ArePlain [] = Unit {0}
ArePlain (l ∷ ls) = IsPlain (item_of l) × ArePlain ls

template-plain : (k : NameKind) (x z : Option DriverLexeme) (name : List DriverLexeme) → IsPlain (template_by k x z name)
template-plain k (Some x) (Some z) name = tt
template-plain k (Some x) None name = tt
template-plain k None z name = tt

removed-plain : (x : Option DriverLexeme) (name : List DriverLexeme) → IsPlain (removed_by x name)
removed-plain (Some x) name = tt
removed-plain None name = tt

syntax-plain : (y : DriverTerminal) (line : List DriverLexeme) → IsPlain (syntax_by y line)
syntax-plain (t.Word (w.Kind k)) line = template-plain k _ _ _
syntax-plain _ line = tt

removal-plain : (y : DriverTerminal) (line : List DriverLexeme) → IsPlain (removal_by y line)
removal-plain (t.Word w.Prop) line = removed-plain _ _
removal-plain _ line = tt

abbrev is_import : DriverTerminal → Bool
is_import (t.Word (w.Heading h.Import)) = true
is_import _ = false

-- an import has the string that it has; no other item has one
item-plain : (a : DriverTerminal) (y : DriverLexeme) (line : List DriverLexeme) → (is_import a ≡ true → IsUtf8 (string_value_of y)) → IsPlain (item_by a y line)
item-plain (t.Word w.Syntax) y line u = syntax-plain y.terminal line
item-plain (t.Word w.Remove) y line u = removal-plain y.terminal line
item-plain (t.Word (w.Heading h.Printer)) y line u = tt
item-plain (t.Word (w.Heading h.Transformation)) y line u = tt
item-plain (t.Word (w.Heading h.Import)) y line u = u refl
item-plain (t.Word (w.Heading h.Silent)) y line u = tt
item-plain _ y line u = tt

alone-plain : (a : DriverTerminal) → IsPlain (item_alone a)
alone-plain (t.Word w.End) = tt
alone-plain _ = tt

no-import : (a b : DriverTerminal) → b ≡ a → is_import b ≡ false → is_import a ≡ true → ⊥
no-import a b e n i = let no : is_import a ≡ false = sym (ap is_import e) ∙ n in cc

-- a line that begins with the word is a heading with a string
second : (l : GrammarLine) (a b : DriverTerminal) (rest : List DriverTerminal) → write_line l ≡ a ∷ b ∷ rest → is_import a ≡ true → b ≡ t.Text
second (heading_line k) a b rest e i = cc
second prelude_line a b rest e i = absurd (no-import a (t.Word w.Prelude) (cc) refl i)
second (answer_line v vs) a b rest e i = absurd (no-import a (t.Word w.Answer) (cc) refl i)
second (meta_line c arguments) a b rest e i = absurd (no-import a (t.Word w.Meta) (cc) refl i)
second (theory_line s ss) a b rest e i = absurd (no-import a (t.Word w.Theory) (cc) refl i)
second end_of_block_line a b rest e i = cc
second (template_line k n) a b rest e i = absurd (no-import a (t.Word w.Syntax) (cc) refl i)
second (removal_line n) a b rest e i = absurd (no-import a (t.Word w.Remove) (cc) refl i)
second removal_of_all_line a b rest e i = absurd (no-import a (t.Word w.Remove) (cc) refl i)

line-plain : (l : GrammarLine) (xs : List DriverLexeme) → write_line l ≡ driver_terminals xs → AreTexts xs → IsPlain (item_of xs)
line-plain l [] e k = tt
line-plain l (x ∷ []) e k = alone-plain x.terminal
line-plain l (x ∷ y ∷ zs) e k = item-plain x.terminal y (x ∷ y ∷ zs) (λ i. k.1.0 (second l x.terminal y.terminal (driver_terminals zs) e i))

front : (xs ys : List DriverLexeme) → AreTexts (xs ++ ys) → AreTexts xs
front [] ys k = tt
front (x ∷ xs) ys k = (k.0, front xs ys k.1)

back : (xs ys : List DriverLexeme) → AreTexts (xs ++ ys) → AreTexts ys
back [] ys k = k
back (x ∷ xs) ys k = back xs ys k.1

lines-plain : (ls : List GrammarLine) (found : List (List DriverLexeme)) → map write_line ls ≡ map driver_terminals found → AreTexts (flat_map (λ l. l) found) → ArePlain found
lines-plain ls [] e k = tt
lines-plain [] (xs ∷ found) e k = absurd (cc)
lines-plain (l ∷ ls) (xs ∷ found) e k =
    let this : write_line l ≡ driver_terminals xs = cc in
    let rest : map write_line ls ≡ map driver_terminals found = cc in
    (line-plain l xs this (front xs (flat_map (λ l. l) found) k), lines-plain ls found rest (back xs (flat_map (λ l. l) found) k))

cut-ok : (end : ℕ) (r : Result (List (List DriverLexeme)) (List DriverLexeme)) (found : List (List DriverLexeme)) → or_byte end r ≡ Ok found → r ≡ Ok found
cut-ok end (Ok lines) found e = cc
cut-ok end (Err after) found e = absurd (cc)

-- the strings of the imports of a text
strings-plain : (text : List ℕ) (found : List (List DriverLexeme)) → driver_lines text ≡ Ok found → ArePlain found
strings-plain text found e =
    let o = only_lines text found (cut-ok (length text) (cut (λ x. x.terminal) (driver_lexemes text)) found e) in
    lines-plain o.of.lines found o.of.written (subst AreTexts (sym o.of.tokens) (texts text))

-- an import's name is the folder with the string after it
abbrev pub NamesPlainly : List ℕ → DriverItem → Type 0
NamesPlainly importer (file_import byte string) = name_from importer string ≡ folder importer ++ string
NamesPlainly importer _ = Unit {0}

abbrev pub AllNamePlainly : List ℕ → List (List DriverLexeme) → Type 0
AllNamePlainly importer [] = Unit {0}
AllNamePlainly importer (l ∷ ls) = NamesPlainly importer (item_of l) × AllNamePlainly importer ls

item-names : (importer : List ℕ) (item : DriverItem) → IsUtf8 importer → IsPlain item → NamesPlainly importer item
item-names importer (file_import byte string) u k = name-plain importer string u k
item-names importer _ u k = tt

all-name : (importer : List ℕ) (ls : List (List DriverLexeme)) → IsUtf8 importer → ArePlain ls → AllNamePlainly importer ls
all-name importer [] u k = tt
all-name importer (l ∷ ls) u k = (item-names importer (item_of l) u k.0, all-name importer ls u k.1)

-- In the definition of names nothing is ever replaced: each import of a file names the file's folder with its string after it.
pub names-plain : (importer text : List ℕ) (found : List (List DriverLexeme)) → IsUtf8 importer → driver_lines text ≡ Ok found → AllNamePlainly importer found
names-plain importer text found u e = all-name importer found u (strings-plain text found e)
