-- Imports, and lines that are none.
use Rattle.std.proofs.Common.{◌≡◌, ℕ, zero, suc, Bool, true, false, cond, ◌||◌, ◌-◌, nat_eq, List, Option, Some, None, Result, Ok, Err, refl, ap, ◌∙◌, subst, arith}
use Rattle.outside.specs.State.{Files, LibraryState}
use Rattle.tasks.specs.declared.signature.SymbolInfo.{SymbolInfo}
use Rattle.drivers.specs.driver_tokens.Tokens.{DriverLexeme}
use Rattle.drivers.specs.driver_items.Names.{printer_of, trans_of}
use Rattle.drivers.specs.driver_items.Symbols.{NamedTheories, is_known, target_of, has_proposition}
use Rattle.drivers.specs.driver_items.Templates.{template_pieces}
use Rattle.drivers.specs.declared.driver_items.kinds.Piece.{Piece}
use Rattle.drivers.specs.declared.driver_items.kinds.Printer.{Printer}
use Rattle.drivers.specs.declared.driver_items.kinds.Trans.{Trans}
use Rattle.drivers.specs.declared.driver_items.symbols.Target.{Target}
use Rattle.drivers.specs.declared.driver_parts.fault.DriverFault.{DriverFault}
use Rattle.drivers.specs.declared.driver_parts.fault.DriverFault.TheVariants as f
use Rattle.drivers.specs.declared.driver_parts.parts.DriverParts.{DriverParts}
use Rattle.drivers.specs.driver_parts.Items.{DriverItem, prelude, printer, transformation, file_import, block, end_of_block, template, removal, removal_of_all, silent, item_of}
use Rattle.drivers.specs.driver_parts.Steps.{Read, printer_read, staged, templated, targeted, removed, block_step, item_in_block, item_step, MeetsResult}
use Rattle.drivers.specs.declared.driver_files.reading.Progress.{Progress}
use Rattle.drivers.specs.driver_files.Reading.{file_refused, ReadingPlace, is_named_among, importer, read_from, with_parts, take_item, ReadsAs}
use Rattle.drivers.specs.driver_files.Calls.{next_of, place, with_progress, ImportMeaning, OneLineMeaning, FileMeaning, NoImport}
use Rattle.drivers.proofs.driver_files.Answering.{told_memory, told_value, told_fault, IsPlain, reworded}

-- a step tells no fault of a file
abbrev IsPlainRead : Read → Type 0
IsPlainRead (Ok p) = Unit {0}
IsPlainRead (Err e) = IsPlain e

plain-printed : (file byte : ℕ) (p : DriverParts) (o : Option Printer) → IsPlainRead (printer_read file byte p o)
plain-printed file byte p (Some x) = tt
plain-printed file byte p None = tt

plain-staged : (file byte : ℕ) (p : DriverParts) (o : Option Trans) → IsPlainRead (staged file byte p o)
plain-staged file byte p (Some x) = tt
plain-staged file byte p None = tt

plain-templated : (file byte : ℕ) (p : DriverParts) (t : Target) (o : Option (List Piece)) → IsPlainRead (templated file byte p t o)
plain-templated file byte p t (Some x) = tt
plain-templated file byte p t None = tt

plain-targeted : (file name_byte byte : ℕ) (text : List ℕ) (p : DriverParts) (o : Option (Target × ℕ)) → IsPlainRead (targeted file name_byte byte text p o)
plain-targeted file name_byte byte text p (Some t) = plain-templated file byte p t.0 (template_pieces text t.1)
plain-targeted file name_byte byte text p None = tt

plain-removed : (file byte : ℕ) (p : DriverParts) (path name : List ℕ) (b : Bool) → IsPlainRead (removed file byte p path name b)
plain-removed file byte p path name true = tt
plain-removed file byte p path name false = tt

plain-if : (b : Bool) (x y : Read) → IsPlainRead x → IsPlainRead y → IsPlainRead (cond b x y)
plain-if true x y h k = h
plain-if false x y h k = k

module _ (symbols : List SymbolInfo) (theories : NamedTheories) (file : ℕ) where
  plain-block : (path : List ℕ) (item : DriverItem) (p : DriverParts) → IsPlainRead (block_step symbols theories file path item p)
  plain-block path (template kind name_byte name byte text) p = plain-targeted file name_byte byte text p (target_of symbols path kind name)
  plain-block path (removal byte name) p = plain-removed file byte p path name (has_proposition theories path name)
  plain-block path removal_of_all p = tt
  plain-block path (prelude text) p = tt
  plain-block path _ p = tt

  plain-in : (path : Option (List ℕ)) (item : DriverItem) (p : DriverParts) → IsPlainRead (item_in_block symbols theories file path item p)
  plain-in None (prelude text) p = tt
  plain-in None _ p = tt
  plain-in (Some path) item p = plain-if (is_known theories path) (block_step symbols theories file path item p) (Ok p) (plain-block path item p) tt

  plain-step : (path : Option (List ℕ)) (item : DriverItem) (p : DriverParts) → IsPlainRead (item_step symbols theories file path item p)
  plain-step path (printer byte word) p = plain-printed file byte p (printer_of word)
  plain-step path (transformation byte word) p = plain-staged file byte p (trans_of word)
  plain-step path (prelude text) p = plain-in path (prelude text) p
  plain-step path (file_import byte text) p = plain-in path (file_import byte text) p
  plain-step path (block its) p = plain-in path (block its) p
  plain-step path end_of_block p = plain-in path end_of_block p
  plain-step path (template kind name_byte name byte text) p = plain-in path (template kind name_byte name byte text) p
  plain-step path (removal byte name) p = plain-in path (removal byte name) p
  plain-step path removal_of_all p = plain-in path removal_of_all p
  plain-step path silent p = plain-in path silent p

module _ (symbols : List SymbolInfo) (theories : NamedTheories) where
  -- an item that is no import
  no-import : (at : ReadingPlace) (path : Option (List ℕ)) (item : DriverItem) (p : Progress) → NoImport item → (g : Files) (limit : Option ℕ) → take_item symbols theories (importer symbols theories at.room g limit) at path item p ≡ with_parts p (item_step symbols theories at.file path item p.parts)
  no-import at path (file_import byte text) p n g limit = absurd n
  no-import at path (printer byte word) p n g limit = refl
  no-import at path (transformation byte word) p n g limit = refl
  no-import at path (prelude text) p n g limit = refl
  no-import at path (block its) p n g limit = refl
  no-import at path end_of_block p n g limit = refl
  no-import at path (template kind name_byte name byte text) p n g limit = refl
  no-import at path (removal byte name) p n g limit = refl
  no-import at path removal_of_all p n g limit = refl
  no-import at path silent p n g limit = refl

  -- else it is read, where one less may be read besides
  pub import-read : (file byte : ℕ) (its name : List ℕ) (opened : List (List ℕ)) (room : ℕ) (p : Progress) → (nat_eq (suc room) 0 || is_named_among opened name) ≡ false → is_named_among p.whole name ≡ false → (g : Files) (limit : Option ℕ) → ImportMeaning symbols theories (place file its opened (suc room)) byte name p g limit ≡ FileMeaning symbols theories room opened name p g limit
  import-read file byte its name opened room p e h g limit =
      ap (λ v. cond v (Err (file_refused (f.ImportCycle file byte))) (cond (is_named_among p.whole name) (Ok p) (read_from symbols theories room g limit opened name p))) e
      ∙ ap (λ v. cond v (Ok p) (read_from symbols theories room g limit opened name p)) h

  pub import-made : (file byte : ℕ) (its name : List ℕ) (opened : List (List ℕ)) (room less : ℕ) (p : Progress) (old new : LibraryState) (r : Result Progress DriverFault) → (nat_eq room 0 || is_named_among opened name) ≡ false → is_named_among p.whole name ≡ false → less ≡ room - 1 → ReadsAs (FileMeaning symbols theories less opened name p) p.next next_of old new r → ReadsAs (ImportMeaning symbols theories (place file its opened room) byte name p) p.next next_of old new r
  import-made file byte its name opened zero less p old new r e h l k = absurd (cc)
  import-made file byte its name opened (suc room) less p old new r e h l k =
      let same : less ≡ room = omega (arith, l) in
      reworded (ImportMeaning symbols theories (place file its opened (suc room)) byte name p) (FileMeaning symbols theories room opened name p) p.next next_of old new r
      (import-read file byte its name opened room p e h)
      (subst (λ v. ReadsAs (FileMeaning symbols theories v opened name p) p.next next_of old new r) same k)

  abbrev done : Progress → DriverParts → Progress
  done p parts = record p { parts = parts }

  step_ok : (at : ReadingPlace) (path : Option (List ℕ)) (l : List DriverLexeme) (p : Progress) (parts : DriverParts) (s : LibraryState) → NoImport (item_of l) → item_step symbols theories at.file path (item_of l) p.parts ≡ Ok parts → ReadsAs (OneLineMeaning symbols theories at path l p) p.next next_of s s (Ok (done p parts))
  step_ok at path l p parts s n e =
      told_value (OneLineMeaning symbols theories at path l p) p.next next_of s (done p parts)
      (λ g limit. no-import at path (item_of l) p n g limit ∙ ap (with_parts p) e) (omega arith)

  step_err : (at : ReadingPlace) (path : Option (List ℕ)) (l : List DriverLexeme) (p : Progress) (e : DriverFault) (s : LibraryState) → NoImport (item_of l) → item_step symbols theories at.file path (item_of l) p.parts ≡ Err e → ReadsAs (OneLineMeaning symbols theories at path l p) p.next next_of s s (Err e)
  step_err at path l p e s n h =
      told_fault (OneLineMeaning symbols theories at path l p) p.next next_of s e
      (subst IsPlainRead h (plain-step symbols theories at.file path (item_of l) p.parts))
      (λ g. no-import at path (item_of l) p n g None ∙ ap (with_parts p) h)

  -- a line that is no import
  pub plain-line : {X : Type 0} (at : ReadingPlace) (path : Option (List ℕ)) (l : List DriverLexeme) (p : Progress) (parts : DriverParts) (r : Result X DriverFault) (s : LibraryState) → NoImport (item_of l) → MeetsResult r parts (item_step symbols theories at.file path (item_of l) p.parts) → ReadsAs (OneLineMeaning symbols theories at path l p) p.next next_of s s (with_progress r (done p parts))
  plain-line at path l p parts (Ok x) s n h = step_ok at path l p parts s n h
  plain-line at path l p parts (Err f.Memory) s n h = told_memory (OneLineMeaning symbols theories at path l p) p.next next_of s
  plain-line at path l p parts (Err (f.Absent file)) s n h = step_err at path l p (f.Absent file) s n h
  plain-line at path l p parts (Err (f.ReadFault file)) s n h = step_err at path l p (f.ReadFault file) s n h
  plain-line at path l p parts (Err (f.TooLong file)) s n h = step_err at path l p (f.TooLong file) s n h
  plain-line at path l p parts (Err (f.DriverSyntax file byte)) s n h = step_err at path l p (f.DriverSyntax file byte) s n h
  plain-line at path l p parts (Err (f.UnknownTransformation file byte)) s n h = step_err at path l p (f.UnknownTransformation file byte) s n h
  plain-line at path l p parts (Err (f.BadTemplate file byte)) s n h = step_err at path l p (f.BadTemplate file byte) s n h
  plain-line at path l p parts (Err (f.UnknownSymbol file byte)) s n h = step_err at path l p (f.UnknownSymbol file byte) s n h
  plain-line at path l p parts (Err (f.ImportCycle file byte)) s n h = step_err at path l p (f.ImportCycle file byte) s n h
  plain-line at path l p parts (Err (f.UnknownPrinter file byte)) s n h = step_err at path l p (f.UnknownPrinter file byte) s n h
