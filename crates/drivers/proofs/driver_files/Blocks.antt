-- The block in which what comes after a line of the code is.
use Rattle.std.proofs.Common.{◌≡◌, ◌≤◌, ◌∙◌, ℕ, true, false, List, length, map, get_or, slice_get, slice_range, ◌-◌, Option, Some, None, refl, sym, ap}
use Rattle.std.specs.Option.{option_map}
use Rattle.drivers.specs.declared.driver_tokens.terminal.DriverTerminal.{DriverTerminal}
use Rattle.drivers.specs.declared.driver_tokens.terminal.DriverTerminal.TheVariants as t
use Rattle.drivers.specs.declared.driver_tokens.terminal.DriverWord.TheVariants as w
use Rattle.drivers.specs.declared.driver_tokens.terminal.Heading.TheVariants as h
use Rattle.drivers.specs.declared.driver_tokens.terminal.NameKind.{NameKind}
use Rattle.drivers.specs.declared.driver_tokens.token.DriverToken.{DriverToken}
use Rattle.drivers.specs.driver_tokens.Tokens.{DriverLexeme, lexeme_in}
use Rattle.drivers.specs.driver_items.Items.{written_name}
use Rattle.drivers.specs.driver_parts.Items.{template_by, removed_by, item_of}
use Rattle.drivers.specs.driver_parts.Lines.{syntax_in, remove_in, item_in}
use Rattle.drivers.specs.driver_parts.Steps.{block_after}
use Rattle.drivers.proofs.driver_parts.Saying.{two-tokens}
use Rattle.drivers.specs.driver_files.Calls.{is_theory}

module _ (path : Option (List ℕ)) where
  template-stays : (k : NameKind) (x z : Option DriverLexeme) (name : List DriverLexeme) → block_after path (template_by k x z name) ≡ path
  template-stays k (Some x) (Some z) name = refl
  template-stays k (Some x) None name = refl
  template-stays k None z name = refl

  removed-stays : (x : Option DriverLexeme) (name : List DriverLexeme) → block_after path (removed_by x name) ≡ path
  removed-stays (Some x) name = refl
  removed-stays None name = refl

  syntax-stays : (text : List ℕ) (y : DriverTerminal) (line : List DriverToken) → block_after path (syntax_in text y line) ≡ path
  syntax-stays text (t.Word (w.Kind k)) line =
      template-stays k (option_map (lexeme_in text) (slice_get line 2)) (option_map (lexeme_in text) (slice_get line (length line - 1))) (map (lexeme_in text) (slice_range line 2 (length line - 1)))
  syntax-stays text _ line = refl

  removal-stays : (text : List ℕ) (y : DriverTerminal) (line : List DriverToken) → block_after path (remove_in text y line) ≡ path
  removal-stays text (t.Word w.Prop) line = removed-stays (option_map (lexeme_in text) (slice_get line 2)) (map (lexeme_in text) (slice_range line 2 (length line)))
  removal-stays text _ line = refl

  other-stays : (text : List ℕ) (x : DriverTerminal) (y : DriverToken) (line : List DriverToken) → is_theory x ≡ false → block_after path (item_in text x y line) ≡ path
  other-stays text (t.Word w.Theory) y line e = absurd (cc)
  other-stays text (t.Word w.Syntax) y line e = syntax-stays text y.terminal line
  other-stays text (t.Word w.Remove) y line e = removal-stays text y.terminal line
  other-stays text (t.Word (w.Heading h.Printer)) y line e = refl
  other-stays text (t.Word (w.Heading h.Transformation)) y line e = refl
  other-stays text (t.Word (w.Heading h.Import)) y line e = refl
  other-stays text (t.Word (w.Heading h.Silent)) y line e = refl
  other-stays text _ y line e = refl

  theory-opens : (text : List ℕ) (x : DriverTerminal) (y : DriverToken) (line : List DriverToken) → is_theory x ≡ true → block_after path (item_in text x y line) ≡ Some (written_name (map (lexeme_in text) (slice_range line 1 (length line))))
  theory-opens text (t.Word w.Theory) y line e = refl
  theory-opens text _ y line e = absurd (cc)

  pub following-theory : (text : List ℕ) (line : List DriverToken) (d : DriverToken) → 2 ≤ length line → is_theory (get_or line 0 d).terminal ≡ true → Some (written_name (map (lexeme_in text) (slice_range line 1 (length line)))) ≡ block_after path (item_of (map (lexeme_in text) line))
  following-theory text line d le e =
      sym (ap (block_after path) (two-tokens text line d d le) ∙ theory-opens text (get_or line 0 d).terminal (get_or line 1 d) line e)

  pub following-other : (text : List ℕ) (line : List DriverToken) (d : DriverToken) → 2 ≤ length line → is_theory (get_or line 0 d).terminal ≡ false → path ≡ block_after path (item_of (map (lexeme_in text) line))
  following-other text line d le e =
      sym (ap (block_after path) (two-tokens text line d d le) ∙ other-stays text (get_or line 0 d).terminal (get_or line 1 d) line e)
