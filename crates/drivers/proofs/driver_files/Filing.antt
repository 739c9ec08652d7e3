-- The parts of a file's reading, one after another: its bytes, its lines, and what is kept after it.
use Rattle.std.proofs.Common.{◌≡◌, ◌<◌, ◌+◌, ℕ, zero, suc, List, ◌∷◌, Option, None, Result, Ok, Err, length, map, drop, get_or, slice_range, refl, ap, subst, arith}
use Rattle.std.proofs.lemmas.List.{drop_more}
use Rattle.outside.specs.State.{Files, LibraryState}
use Rattle.tasks.specs.declared.signature.SymbolInfo.{SymbolInfo}
use Rattle.drivers.specs.declared.driver_tokens.file.DriverLine.{DriverLine}
use Rattle.drivers.specs.declared.driver_tokens.token.DriverToken.{DriverToken}
use Rattle.drivers.specs.driver_tokens.Tokens.{DriverLexeme, lexeme_in}
use Rattle.drivers.specs.driver_tokens.File.{driver_lines, line_in}
use Rattle.drivers.specs.driver_items.Symbols.{NamedTheories}
use Rattle.drivers.specs.declared.driver_parts.fault.DriverFault.{DriverFault}
use Rattle.drivers.specs.driver_parts.Items.{item_of}
use Rattle.drivers.specs.driver_parts.Steps.{block_after}
use Rattle.drivers.specs.declared.driver_files.reading.Progress.{Progress}
use Rattle.drivers.specs.driver_files.Reading.{DriverOutcome, ◌then◌, ReadingPlace, CallMeaning, or_syntax, short_file, take_lines, finished, reading_place, one_file_more, importer, read_from, ReadsAs}
use Rattle.drivers.specs.driver_files.Calls.{next_of, both_meanings, OneLineMeaning, LinesMeaning, WholeMeaning, BytesMeaning, FileMeaning}
use Rattle.drivers.proofs.driver_files.Answering.{Goes, ends, first_err, first_ok, told_value, reworded}

module _ (symbols : List SymbolInfo) (theories : NamedTheories) where
  -- ---- a file: it is fetched, and read
  abbrev Read : ℕ → List (List ℕ) → List ℕ → Progress → List ℕ → CallMeaning Progress
  Read room opened name p bytes = BytesMeaning symbols theories (reading_place room opened name p.next) bytes (one_file_more p)

  file-both : (room : ℕ) (opened : List (List ℕ)) (name : List ℕ) (p : Progress) (g : Files) (limit : Option ℕ) → FileMeaning symbols theories room opened name p g limit ≡ both_meanings (short_file p.next name) (Read room opened name p) g limit
  unfolding read_from
  file-both zero opened name p g limit = refl
  file-both (suc room) opened name p g limit = refl

  pub not-fetched : (room : ℕ) (opened : List (List ℕ)) (name : List ℕ) (p : Progress) (old new : LibraryState) (e : DriverFault) → ReadsAs (short_file p.next name) p.next (λ _. p.next + 1) old new (Err e) → ReadsAs (FileMeaning symbols theories room opened name p) p.next next_of old new (Err e)
  not-fetched room opened name p old new e h =
      reworded (FileMeaning symbols theories room opened name p) (both_meanings (short_file p.next name) (Read room opened name p)) p.next next_of old new (Err e) (file-both room opened name p)
      (first_err (short_file p.next name) (Read room opened name p) p.next (λ _. p.next + 1) next_of old new e h)

  pub fetched-then : (room : ℕ) (opened : List (List ℕ)) (name : List ℕ) (p : Progress) (old mid new : LibraryState) (bytes : List ℕ) (r : Result Progress DriverFault) → ReadsAs (short_file p.next name) p.next (λ _. p.next + 1) old mid (Ok bytes)
      → ReadsAs (BytesMeaning symbols theories (reading_place room opened name p.next) bytes (one_file_more p)) (p.next + 1) next_of mid new r → ReadsAs (FileMeaning symbols theories room opened name p) p.next next_of old new r
  fetched-then room opened name p old mid new bytes r h k =
      reworded (FileMeaning symbols theories room opened name p) (both_meanings (short_file p.next name) (Read room opened name p)) p.next next_of old new r (file-both room opened name p)
      (ends (both_meanings (short_file p.next name) (Read room opened name p)) (Read room opened name p bytes) p.next (p.next + 1) next_of old mid new r (first_ok (short_file p.next name) (Read room opened name p) p.next (λ _. p.next + 1) old mid bytes h) k)

  -- ---- its bytes: they have lines, or not
  abbrev after-syntax : ReadingPlace → List ℕ → Progress → Files → Option ℕ → DriverOutcome (List (List DriverLexeme)) → DriverOutcome Progress
  after-syntax at bytes p g limit v = v then (λ lines. take_lines symbols theories (importer symbols theories at.room g limit) at None lines p) then (λ q. Ok (finished at.name bytes q))

  pub with-lines : (at : ReadingPlace) (bytes : List ℕ) (lines : List (List DriverLexeme)) (p : Progress) (old new : LibraryState) (r : Result Progress DriverFault) → or_syntax at.file (driver_lines bytes) ≡ Ok lines → ReadsAs (WholeMeaning symbols theories at bytes lines p) p.next next_of old new r → ReadsAs (BytesMeaning symbols theories at bytes p) p.next next_of old new r
  with-lines at bytes lines p old new r e h =
      reworded (BytesMeaning symbols theories at bytes p) (WholeMeaning symbols theories at bytes lines p) p.next next_of old new r (λ g limit. ap (after-syntax at bytes p g limit) e) h

  -- ---- its lines, and that it was read whole
  abbrev Closing : ReadingPlace → List ℕ → Progress → CallMeaning Progress
  Closing at bytes q g limit = Ok (finished at.name bytes q)

  pub whole-fails : (at : ReadingPlace) (bytes : List ℕ) (lines : List (List DriverLexeme)) (p : Progress) (old new : LibraryState) (e : DriverFault) → ReadsAs (LinesMeaning symbols theories at None lines p) p.next next_of old new (Err e) → ReadsAs (WholeMeaning symbols theories at bytes lines p) p.next next_of old new (Err e)
  whole-fails at bytes lines p old new e h = first_err (LinesMeaning symbols theories at None lines p) (Closing at bytes) p.next next_of next_of old new e h

  pub whole-read : (at : ReadingPlace) (bytes : List ℕ) (lines : List (List DriverLexeme)) (p q : Progress) (old new : LibraryState) → ReadsAs (LinesMeaning symbols theories at None lines p) p.next next_of old new (Ok q) → ReadsAs (WholeMeaning symbols theories at bytes lines p) p.next next_of old new (Ok (finished at.name bytes q))
  whole-read at bytes lines p q old new h =
      ends (WholeMeaning symbols theories at bytes lines p) (Closing at bytes q) p.next q.next next_of old new new (Ok (finished at.name bytes q))
      (first_ok (LinesMeaning symbols theories at None lines p) (Closing at bytes) p.next next_of old new q h)
      (told_value (Closing at bytes q) q.next next_of new (finished at.name bytes q) (λ g limit. refl) (omega arith))

  -- ---- its lines, one after another
  abbrev Left : ReadingPlace → Option (List ℕ) → List DriverLexeme → List (List DriverLexeme) → Progress → CallMeaning Progress
  Left at path l ls = λ q. LinesMeaning symbols theories at (block_after path (item_of l)) ls q

  one-ends : (whole : CallMeaning Progress) (at : ReadingPlace) (path : Option (List ℕ)) (l : List DriverLexeme) (ls : List (List DriverLexeme)) (start : ℕ) (p : Progress) (old mid new : LibraryState) (e : DriverFault) → Goes whole (LinesMeaning symbols theories at path (l ∷ ls) p) start p.next old mid → ReadsAs (OneLineMeaning symbols theories at path l p) p.next next_of mid new (Err e) → ReadsAs whole start next_of old new (Err e)
  one-ends whole at path l ls start p old mid new e g h =
      ends whole (LinesMeaning symbols theories at path (l ∷ ls) p) start p.next next_of old mid new (Err e) g
      (first_err (OneLineMeaning symbols theories at path l p) (Left at path l ls) p.next next_of next_of mid new e h)

  -- the lines of the code
  module _ (whole : CallMeaning Progress) (at : ReadingPlace) (path : Option (List ℕ)) (text : List ℕ) (tokens : List DriverToken) (ls : List DriverLine) (i : ℕ) (d : DriverLine) (start : ℕ) (p : Progress) (old mid new : LibraryState)
      (lt : i < length ls) (g : Goes whole (LinesMeaning symbols theories at path (map (line_in text tokens) (drop i ls)) p) start p.next old mid) where
    next-line : Goes whole (LinesMeaning symbols theories at path (line_in text tokens (get_or ls i d) ∷ map (line_in text tokens) (drop (i + 1) ls)) p) start p.next old mid
    next-line = subst (λ v. Goes whole (LinesMeaning symbols theories at path (map (line_in text tokens) v) p) start p.next old mid) (drop_more ls i d lt) g

    -- a line is wrong
    pub line-ends : (xs : List DriverToken) (e : DriverFault) → xs ≡ slice_range tokens (get_or ls i d).first (get_or ls i d).end → ReadsAs {A = Progress} (OneLineMeaning symbols theories at path (map (lexeme_in text) xs) p) p.next next_of mid new (Err e) → ReadsAs {A = Progress} whole start next_of old new (Err e)
    line-ends xs e is h =
        let l = line_in text tokens (get_or ls i d) in
        let same : map (lexeme_in text) xs ≡ l = ap (map (lexeme_in text)) is in
        one-ends whole at path l (map (line_in text tokens) (drop (i + 1) ls)) start p old mid new e next-line (subst (λ v. ReadsAs {A = Progress} (OneLineMeaning symbols theories at path v p) p.next next_of mid new (Err e)) same h)
