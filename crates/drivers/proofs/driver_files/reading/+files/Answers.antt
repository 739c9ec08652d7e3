use Rattle.std.proofs.Common.{rules, ◌≡◌, ◌<◌, ◌∙◌, ◌||◌, ◌++◌, ◌∷◌, [], ℕ, nat_eq, List, None, Ok, Err, Result, length, get_or, slice_range, map, sym, ap, subst}
use Rattle.drivers.specs.declared.driver_tokens.token.DriverToken.{DriverToken}
use Rattle.drivers.specs.declared.driver_tokens.file.DriverLine.{DriverLine}
use Rattle.drivers.specs.driver_tokens.Tokens.{lexeme_in}
use Rattle.drivers.specs.driver_tokens.File.{lines_in}
use Rattle.drivers.specs.declared.driver_parts.fault.DriverFault.{DriverFault}
use Rattle.drivers.specs.declared.driver_files.reading.Progress.{Progress}
use Rattle.drivers.specs.driver_files.Reading.{is_named_among, reading_place, one_file_more, ReadsAs}
use Rattle.drivers.specs.driver_files.Calls.{place, with_progress, next_of, OneLineMeaning, LinesMeaning, WholeMeaning, BytesMeaning}
use Rattle.drivers.proofs.driver_files.Filing.{not-fetched, fetched-then, with-lines, whole-fails, whole-read, line-ends}
use Rattle.drivers.proofs.driver_files.Importing.{import-made, plain-line}
use Rattle.drivers.proofs.driver_files.reading.+files.Goals as goal

pub read_bytes-returns-clause-answers : goal.read_bytes-returns-clause-answers
read_bytes-returns-clause-answers g t c =
    with-lines c.args.context.symbols.now c.args.context.theories.now (reading_place c.args.at.room c.args.opened.now c.args.at.name.now c.args.at.file) c.args.at.text.now (lines_in c.args.at.text.now c.in_ok-its.its) c.args.progress.now (g.L.Library.state c.args.lib.now) (g.L.Library.state c.read_whole.new.lib)
    (with_progress c.read_whole.result c.read_whole.new.progress) c.in_ok-its.ensures c.read_whole.ensures.answers

pub read_file-returns-in_err-bytes-clause-answers : goal.read_file-returns-in_err-bytes-clause-answers
read_file-returns-in_err-bytes-clause-answers g t c =
    let whole = not-fetched c.args.context.symbols.now c.args.context.theories.now c.args.room c.args.opened.now c.args.name.now c.args.progress.now (g.L.Library.state c.args.lib.now) (g.L.Library.state c.fetch_file.new.lib) c.in_err-bytes.field-0.0 c.in_err-bytes.ensures in
    search rules

pub read_file-returns-clause-answers : goal.read_file-returns-clause-answers
read_file-returns-clause-answers g t c =
    let p = c.args.progress.now in
    let r = with_progress c.read_bytes.result c.read_bytes.new.progress in
    let at = reading_place c.args.room c.args.opened.now c.args.name.now p.next in
    let read = subst (λ (v : List ℕ). ReadsAs (BytesMeaning c.args.context.symbols.now c.args.context.theories.now at v (one_file_more p)) (one_file_more p).next next_of (g.L.Library.state c.fetch_file.new.lib) (g.L.Library.state c.read_bytes.new.lib) r) c.deref.ensures.value c.read_bytes.ensures.answers in
    fetched-then c.args.context.symbols.now c.args.context.theories.now c.args.room c.args.opened.now c.args.name.now p (g.L.Library.state c.args.lib.now) (g.L.Library.state c.fetch_file.new.lib) (g.L.Library.state c.read_bytes.new.lib) c.in_ok-bytes.bytes.items r c.in_ok-bytes.ensures read

pub read_import-returns-clause-answers : goal.read_import-returns-clause-answers
read_import-returns-clause-answers g t c =
    let opened = c.args.opened.now in
    let name = c.args.name.now in
    let cycle : c.is_cycle.result ≡ (nat_eq c.args.at.room 0 || is_named_among opened name) =
    c.is_cycle.ensures ∙ ap (λ (v : List (List ℕ)). nat_eq c.args.at.room 0 || is_named_among v c.as_bytes.result.now) c.as_slice.ensures ∙ ap (λ (v : List ℕ). nat_eq c.args.at.room 0 || is_named_among opened v) c.as_bytes.ensures.value in
    let whole : c.is_among.result ≡ is_named_among c.args.progress.now.whole name =
    c.is_among.ensures ∙ ap (λ (v : List (List ℕ)). is_named_among v c.as_bytes-2.result.now) c.as_slice-2.ensures ∙ ap (λ (v : List ℕ). is_named_among c.args.progress.now.whole v) c.as_bytes-2.ensures.value in
    import-made c.args.context.symbols.now c.args.context.theories.now c.args.at.file c.args.byte c.args.at.name.now name opened c.args.at.room c.saturating_sub-room.result c.args.progress.now (g.L.Library.state c.args.lib.now) (g.L.Library.state c.read_file.new.lib)
    (with_progress c.read_file.result c.read_file.new.progress) (sym cycle ∙ c.if-is_cycle.false) (sym whole ∙ c.if-is_among.false) (search rules) c.read_file.ensures.answers

pub read_line-returns-in-None-clause-answers : goal.read_line-returns-in-None-clause-answers
read_line-returns-in-None-clause-answers g t c =
    plain-line c.args.context.symbols.now c.args.context.theories.now (place c.args.at.file c.args.at.name.now c.args.opened.now c.args.at.room) c.args.block.now (map (lexeme_in c.args.at.text.now) c.args.tokens.now) c.args.progress.now c.take_line.new.parts c.take_line.result (g.L.Library.state c.args.lib.now)
    (c.in-None.ensures c.args.at.text.now) c.take_line.ensures

pub read_lines-returns-in_err-read_line-clause-answers : goal.read_lines-returns-in_err-read_line-clause-answers
read_lines-returns-in_err-read_line-clause-answers g t c =
    let p = c.loop-line.progress in
    let tokens = c.args.its.now.tokens.items in
    let lines = c.args.its.now.lines.items in
    let i = c.loop-line.line-index in
    let d : DriverLine = record { first = 0; end = 0 } in
    let e = c.in_err-read_line.field-0.0 in
    let r : Result Progress DriverFault = Err e in
    let at = place c.args.at.file c.args.at.name.now c.args.opened.now c.args.at.room in
    let within : i < length lines = subst (λ (v : List DriverLine). i < length v) c.deref-line-items.ensures.value c.loop-line-test.true in
    let is : c.part-tokens.result.now ≡ slice_range tokens (get_or lines i d).first (get_or lines i d).end =
    c.part-tokens.ensures ∙ ap (λ (v : List DriverToken). slice_range v (get_or c.deref-line-items.result.now i d).first (get_or c.deref-line-items.result.now i d).end) c.deref.ensures.value
    ∙ ap (λ (v : List DriverLine). slice_range tokens (get_or v i d).first (get_or v i d).end) c.deref-line-items.ensures.value in
    let read = subst (λ (o : List (List ℕ)). ReadsAs (OneLineMeaning c.args.context.symbols.now c.args.context.theories.now (place c.args.at.file c.args.at.name.now o c.args.at.room) c.loop-line.block (map (lexeme_in c.args.at.text.now) c.part-tokens.result.now) p) p.next next_of (g.L.Library.state c.loop-line.lib) (g.L.Library.state c.read_line.new.lib) r) c.loop-line.invariant.opened c.in_err-read_line.ensures.answers in
    let whole = line-ends c.args.context.symbols.now c.args.context.theories.now (LinesMeaning c.args.context.symbols.now c.args.context.theories.now at None (lines_in c.args.at.text.now c.args.its.now) c.args.progress.now) at c.loop-line.block c.args.at.text.now tokens lines i d c.args.progress.now.next p
    (g.L.Library.state c.args.lib.now) (g.L.Library.state c.loop-line.lib) (g.L.Library.state c.read_line.new.lib) within c.loop-line.invariant.goes c.part-tokens.result.now e is read in
    search rules

pub read_whole-returns-in_err-read_lines-clause-answers : goal.read_whole-returns-in_err-read_lines-clause-answers
read_whole-returns-in_err-read_lines-clause-answers g t c =
    let p = c.args.progress.now in
    let lines = lines_in c.args.at.text.now c.args.its.now in
    let e = c.in_err-read_lines.field-0.0 in
    let r : Result Progress DriverFault = Err e in
    let opened : c.push.new.self ≡ c.args.opened.now ++ c.args.at.name.now ∷ [] =
    c.in_ok-push.ensures.ok ∙ ap (λ (v : List ℕ). c.args.opened.now ++ v ∷ []) (c.in_ok-from_slice.ensures ∙ c.as_bytes.ensures.value) in
    let read = subst (λ (o : List (List ℕ)). ReadsAs (LinesMeaning c.args.context.symbols.now c.args.context.theories.now (place c.args.at.file c.args.at.name.now o c.args.at.room) None lines p) p.next next_of (g.L.Library.state c.args.lib.now) (g.L.Library.state c.read_lines.new.lib) r) opened c.in_err-read_lines.ensures.answers in
    let whole = whole-fails c.args.context.symbols.now c.args.context.theories.now (reading_place c.args.at.room c.args.opened.now c.args.at.name.now c.args.at.file) c.args.at.text.now lines p (g.L.Library.state c.args.lib.now) (g.L.Library.state c.read_lines.new.lib) e read in
    search rules

pub read_whole-returns-clause-answers : goal.read_whole-returns-clause-answers
read_whole-returns-clause-answers g t c =
    let p = c.args.progress.now in
    let q = c.read_lines.new.progress in
    let lines = lines_in c.args.at.text.now c.args.its.now in
    let at = reading_place c.args.at.room c.args.opened.now c.args.at.name.now c.args.at.file in
    let r : Result Progress DriverFault = Ok q in
    let opened : c.push.new.self ≡ c.args.opened.now ++ c.args.at.name.now ∷ [] =
    c.in_ok-push.ensures.ok ∙ ap (λ (v : List ℕ). c.args.opened.now ++ v ∷ []) (c.in_ok-from_slice.ensures ∙ c.as_bytes.ensures.value) in
    let read = subst (λ (o : List (List ℕ)). ReadsAs (LinesMeaning c.args.context.symbols.now c.args.context.theories.now (place c.args.at.file c.args.at.name.now o c.args.at.room) None lines p) p.next next_of (g.L.Library.state c.args.lib.now) (g.L.Library.state c.read_lines.new.lib) r) opened c.in_ok-read_lines.ensures.answers in
    let whole = whole-read c.args.context.symbols.now c.args.context.theories.now at c.args.at.text.now lines p q (g.L.Library.state c.args.lib.now) (g.L.Library.state c.read_lines.new.lib) read in
    let closed = c.in_ok-close_file.ensures c.args.opened.now c.args.at.name.now (c.in_ok-read_lines.ensures.opened ∙ opened) in
    subst (λ (v : Progress). ReadsAs (WholeMeaning c.args.context.symbols.now c.args.context.theories.now at c.args.at.text.now lines p) p.next next_of (g.L.Library.state c.args.lib.now) (g.L.Library.state c.read_lines.new.lib) (Ok v)) (sym closed.1) whole
