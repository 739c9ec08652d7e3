-- The driver of drivers/smt_syntax.drv, by its lines: what each says by computation, and what each does.
use Rattle.std.proofs.Common.{◌≡◌, ℕ, Bool, true, if◌then◌else◌, List, [], ◌∷◌, ◌++◌, map, codes, Option, Some, None, Result, Ok, Err, IsOkAnd, refl, sym, ap, subst, ◌∙◌}
use Rattle.std.specs.Str.{chars, is_utf8}
use lib.Utf8.{encode}
use Rattle.outside.specs.State.{Files}
use Rattle.tasks.specs.declared.signature.SymbolInfo.{SymbolInfo}
use Rattle.printed_problems.specs.drivers.declared.driver_tokens.terminal.NameKind.{NameKind}
use Rattle.printed_problems.specs.drivers.declared.driver_tokens.terminal.NameKind.TheVariants as kinds
use Rattle.printed_problems.specs.drivers.driver_tokens.Tokens.{DriverLexeme}
use Rattle.printed_problems.specs.drivers.driver_tokens.File.{driver_lines}
use Rattle.printed_problems.specs.drivers.declared.driver_items.kinds.Piece.{Piece}
use Rattle.printed_problems.specs.drivers.declared.driver_items.kinds.Printer.TheVariants.{Smt}
use Rattle.printed_problems.specs.drivers.declared.driver_items.symbols.Target.{Target}
use Rattle.printed_problems.specs.drivers.declared.driver_items.symbols.Target.TheVariants.{Entry}
use Rattle.printed_problems.specs.drivers.driver_items.Symbols.{NamedTheories, is_known}
use Rattle.printed_problems.specs.drivers.driver_items.Templates.{template_pieces}
use Rattle.printed_problems.specs.drivers.declared.driver_parts.driver.Driver.{Driver}
use Rattle.printed_problems.specs.drivers.driver_parts.Items.{DriverItem, prelude, printer, block, end_of_block, template, removal_of_all, silent, item_of}
use Rattle.printed_problems.specs.drivers.driver_parts.Parts.{with_template, with_all_removed}
use Rattle.printed_problems.specs.drivers.driver_parts.Steps.{targeted, templated, block_step, block_after}
use Rattle.printed_problems.specs.drivers.declared.driver_files.reading.Progress.{Progress}
use Rattle.printed_problems.specs.drivers.driver_files.Reading.{DriverOutcome, ◌then◌, or_syntax, if_file_there, if_file_short, short_file, with_parts, finished, ReadingPlace, reading_place, one_file_more, Importer, no_progress, driver_with_printer, take_item, take_lines, take_bytes, read_from, driver_named}
use Rattle.part_texts.specs.smt_law.Shipped.{HasShippedTemplates, pieces_of, shipped_text, first_entries, IsIntName, KnowsInts, ShippedAreRead}
use Rattle.part_texts.proofs.smt_law.Sound.{EachOf}

-- a line of the block of int.Int, with what its name stands for
record IntRow : Type 0 where
  kind : NameKind
  name_byte : ℕ
  name : List ℕ
  byte : ℕ
  string : List ℕ
  entry : ℕ
  arity : ℕ

abbrev int_row : NameKind → ℕ → List ℕ → ℕ → List ℕ → ℕ → ℕ → IntRow
int_row kind name_byte name byte string entry arity = record { kind = kind; name_byte = name_byte; name = name; byte = byte; string = string; entry = entry; arity = arity }

abbrev int_rows : List IntRow
int_rows = int_row kinds.Function 166 (codes "-_") 171 (codes "(- %1)") 1 1
    ∷ int_row kinds.Function 200 (codes "+") 204 (codes "(+ %1 %2)") 2 2
    ∷ int_row kinds.Function 234 (codes "-") 238 (codes "(- %1 %2)") 3 2
    ∷ int_row kinds.Function 268 (codes "*") 272 (codes "(* %1 %2)") 4 2
    ∷ int_row kinds.Predicate 303 (codes "<") 307 (codes "(< %1 %2)") 5 2
    ∷ int_row kinds.Predicate 337 (codes "<=") 342 (codes "(<= %1 %2)") 6 2
    ∷ int_row kinds.Predicate 374 (codes ">") 378 (codes "(> %1 %2)") 7 2
    ∷ int_row kinds.Predicate 408 (codes ">=") 413 (codes "(>= %1 %2)") 8 2 ∷ []

abbrev row_item : IntRow → DriverItem
row_item r = template r.kind r.name_byte r.name r.byte r.string

abbrev last_items : List DriverItem
last_items = removal_of_all ∷ end_of_block ∷ []

abbrev first_items : List DriverItem
first_items = prelude (codes "(set-logic UFNIA)")
    ∷ printer 36 (codes "smtv2")
    ∷ silent
    ∷ block (codes "BuiltIn")
    ∷ template kinds.Type 86 (codes "int") 90 (codes "Int")
    ∷ template kinds.Predicate 113 (codes "=") 117 (codes "(= %1 %2)")
    ∷ end_of_block
    ∷ block (codes "int.Int") ∷ []

abbrev shipped_items : List DriverItem
shipped_items = first_items ++ map row_item int_rows ++ last_items

-- what the lines of the file say
abbrev items_of : Result (List (List DriverLexeme)) ℕ → Option (List DriverItem)
items_of (Ok lines) = Some (map item_of lines)
items_of (Err byte) = None

file_says : items_of (driver_lines shipped_text) ≡ Some shipped_items
unfolding is_utf8 chars encode
file_says = refl

lines_of : (r : Result (List (List DriverLexeme)) ℕ) (items : List DriverItem) → items_of r ≡ Some items → (lines : List (List DriverLexeme)) × (r ≡ Ok lines) × (map item_of lines ≡ items)
lines_of (Ok lines) items e = (lines, refl, cc)
lines_of (Err byte) items e = absurd (cc)

then_same : {A B : Type 0} (r : DriverOutcome A) (f g : A → DriverOutcome B) → ((a : A) → f a ≡ g a) → (r then f) ≡ (r then g)
then_same (Ok a) f g h = h a
then_same (Err e) f g h = refl

module _ (symbols : List SymbolInfo) (theories : NamedTheories) (read : Importer) (place : ReadingPlace) where
  abbrev take_items : Option (List ℕ) → List DriverItem → Progress → DriverOutcome Progress
  take_items path [] p = Ok p
  take_items path (i ∷ is) p = take_item symbols theories read place path i p then take_items (block_after path i) is

  by_items : (path : Option (List ℕ)) (ls : List (List DriverLexeme)) (p : Progress) → take_lines symbols theories read place path ls p ≡ take_items path (map item_of ls) p
  by_items path [] p = refl
  by_items path (l ∷ ls) p = then_same (take_item symbols theories read place path (item_of l) p) (take_lines symbols theories read place (block_after path (item_of l)) ls) (take_items (block_after path (item_of l)) (map item_of ls)) (by_items (block_after path (item_of l)) ls)

  abbrev int_path : List ℕ
  int_path = codes "int.Int"

  -- a template for what a name stands for
  abbrev row_taken : IntRow → Progress → Progress
  row_taken r p = record p { parts = with_template p.parts (Entry r.entry) (pieces_of r.string r.arity) }

  one_taken : (r : IntRow) (p : Progress) → is_known theories int_path ≡ true → IsIntName symbols r.kind r.name r.entry r.arity → template_pieces r.string r.arity ≡ Some (pieces_of r.string r.arity) → take_item symbols theories read place (Some int_path) (row_item r) p ≡ Ok (row_taken r p)
  one_taken r p known named pieces =
      ap (λ (v : Bool). with_parts p (if v then block_step symbols theories place.file int_path (row_item r) p.parts else Ok p.parts)) known
      ∙ ap (λ (v : Option (Target × ℕ)). with_parts p (targeted place.file r.name_byte r.byte r.string p.parts v)) named
      ∙ ap (λ (v : Option (List Piece)). with_parts p (templated place.file r.byte p.parts (Entry r.entry) v)) pieces

  abbrev rows_taken : List IntRow → Progress → Progress
  rows_taken [] p = p
  rows_taken (r ∷ rs) p = rows_taken rs (row_taken r p)

  abbrev IsNamedRow : IntRow → Type 0
  IsNamedRow r = IsIntName symbols r.kind r.name r.entry r.arity × (template_pieces r.string r.arity ≡ Some (pieces_of r.string r.arity))

  all_taken : (rs : List IntRow) (is : List DriverItem) (p : Progress) → is_known theories int_path ≡ true → EachOf IsNamedRow rs → take_items (Some int_path) (map row_item rs ++ is) p ≡ take_items (Some int_path) is (rows_taken rs p)
  all_taken [] is p known named = refl
  all_taken (r ∷ rs) is p known named =
      ap (λ (v : DriverOutcome Progress). v then take_items (Some int_path) (map row_item rs ++ is)) (one_taken r p known named.0.0 named.0.1)
      ∙ all_taken rs is (row_taken r p) known named.1

  abbrev all_removed : Progress → Progress
  all_removed p = record p { parts = with_all_removed p.parts int_path }

  last_taken : (p : Progress) → is_known theories int_path ≡ true → take_items (Some int_path) last_items p ≡ Ok (all_removed p)
  last_taken p known =
      ap (λ (v : Bool). with_parts p (if v then Ok (with_all_removed p.parts int_path) else Ok p.parts) then take_items (Some int_path) (end_of_block ∷ [])) known
      ∙ ap (λ (v : Bool). with_parts (all_removed p) (if v then Ok (all_removed p).parts else Ok (all_removed p).parts) then take_items None []) known

  module _ (k : KnowsInts symbols theories first_entries) where
    named : EachOf IsNamedRow int_rows
    named = ((k.neg, refl), ((k.add, refl), ((k.sub, refl), ((k.mul, refl), ((k.lt, refl), ((k.le, refl), ((k.gt, refl), ((k.ge, refl), tt))))))))

    -- the lines before the block of int.Int, from no parts on
    abbrev before_ints : Progress → Progress
    before_ints p = record p { parts = record p.parts { printer = Some Smt; int_template = Some (codes "Int"); eq_template = Some (pieces_of (codes "(= %1 %2)") 2); preludes = p.parts.preludes ++ (None, codes "(set-logic UFNIA)") ∷ [] } }

    first_taken : (is : List DriverItem) (p : Progress) → take_items None (first_items ++ is) p ≡ take_items (Some int_path) is (before_ints p)
    first_taken is p = refl

    abbrev file_read : Progress → Progress
    file_read p = all_removed (rows_taken int_rows (before_ints p))

    items_taken : (p : Progress) → take_items None shipped_items p ≡ Ok (file_read p)
    items_taken p =
        first_taken (map row_item int_rows ++ last_items) p
        ∙ all_taken int_rows last_items (before_ints p) k.known named
        ∙ last_taken (rows_taken int_rows (before_ints p)) k.known

    lines_taken : (p : Progress) → take_bytes symbols theories read place shipped_text p ≡ Ok (finished place.name shipped_text (file_read p))
    lines_taken p =
        let l = lines_of (driver_lines shipped_text) shipped_items file_says in
        let end = λ (q : Progress). Ok (finished place.name shipped_text q) in
        ap (λ (v : Result (List (List DriverLexeme)) ℕ). (or_syntax place.file v then (λ lines. take_lines symbols theories read place None lines p)) then end) l.1
        ∙ ap (λ (v : DriverOutcome Progress). v then end) (by_items None l.0 p ∙ ap (λ (v : List DriverItem). take_items None v p) l.2 ∙ items_taken p)

-- the file is short
file_there : (files : Files) (name : List ℕ) → files name ≡ Some shipped_text → short_file 1 name files None ≡ Ok shipped_text
file_there files name h = ap (λ (v : Option (List ℕ)). if_file_there 1 v then if_file_short 1) h

opened : (symbols : List SymbolInfo) (theories : NamedTheories) (files : Files) (name : List ℕ) → driver_named symbols theories name files None ≡ ((short_file 1 name files None then (λ bytes. take_bytes symbols theories (read_from symbols theories 30 files None) (reading_place 31 [] name 1) bytes (one_file_more no_progress))) then (λ q. driver_with_printer q q.parts.printer))
unfolding read_from
opened symbols theories files name = refl

pub shipped_are_read : ShippedAreRead
shipped_are_read symbols theories files name k h =
    let first = reading_place 31 [] name 1 in
    let reader = read_from symbols theories 30 files None in
    let p = one_file_more no_progress in
    let end = λ (q : Progress). driver_with_printer q q.parts.printer in
    let read : driver_named symbols theories name files None ≡ driver_with_printer (finished name shipped_text (file_read symbols theories reader first k p)) (Some Smt) =
    opened symbols theories files name
    ∙ ap (λ (v : DriverOutcome (List ℕ)). (v then (λ bytes. take_bytes symbols theories reader first bytes p)) then end) (file_there files name h)
    ∙ ap (λ (v : DriverOutcome Progress). v then end) (lines_taken symbols theories reader first k p) in
    subst (λ (v : DriverOutcome Driver). IsOkAnd v (λ d. (d.printer ≡ Smt) × HasShippedTemplates d (Some first_entries))) (sym read) (refl, record { int = refl; equality = refl; symbols = refl })
