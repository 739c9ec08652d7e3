-- What a line of the code says is what the line of its tokens says.
use Rattle.std.proofs.Common.{◌≡◌, ℕ, zero, suc, ◌-◌, ◌<◌, ◌≤◌, List, [], ◌∷◌, length, map, take, drop, slice_get, slice_range, get_or, Option, Some, None, Bool, true, false, cond, Ok, refl, ap, ◌∙◌, arith}
use Rattle.std.specs.Option.{option_map}
use Rattle.drivers.specs.declared.driver_tokens.terminal.DriverTerminal.{DriverTerminal}
use Rattle.drivers.specs.declared.driver_tokens.terminal.DriverTerminal.TheVariants as t
use Rattle.drivers.specs.declared.driver_tokens.terminal.DriverWord.TheVariants as w
use Rattle.drivers.specs.declared.driver_tokens.terminal.Heading.TheVariants as h
use Rattle.drivers.specs.declared.driver_tokens.token.DriverToken.{DriverToken}
use Rattle.drivers.specs.driver_tokens.Tokens.{DriverLexeme, lexeme_in}
use Rattle.drivers.specs.driver_items.Items.{written_name}
use Rattle.drivers.specs.driver_parts.Items.{block, silent, template_by, removed_by, syntax_by, removal_by, item_by, item_alone, item_of, end_of_block}
use Rattle.tasks.specs.declared.signature.SymbolInfo.{SymbolInfo}
use Rattle.drivers.specs.driver_items.Symbols.{NamedTheories, is_known}
use Rattle.drivers.specs.declared.driver_parts.parts.DriverParts.{DriverParts}
use Rattle.drivers.specs.driver_parts.Steps.{Read, item_step}
use Rattle.drivers.specs.driver_parts.Lines.{syntax_in, remove_in, item_in}

module _ (f : DriverToken → DriverLexeme) where
  get-map : (ts : List DriverToken) (i : ℕ) → slice_get (map f ts) i ≡ option_map f (slice_get ts i)
  get-map [] i = refl
  get-map (t ∷ ts) zero = refl
  get-map (t ∷ ts) (suc i) = get-map ts i

  length-of : (ts : List DriverToken) → length (map f ts) ≡ length ts
  length-of [] = refl
  length-of (t ∷ ts) = ap suc (length-of ts)

  take-map : (n : ℕ) (ts : List DriverToken) → take n (map f ts) ≡ map f (take n ts)
  take-map zero ts = refl
  take-map (suc n) [] = refl
  take-map (suc n) (t ∷ ts) = ap (λ v. f t ∷ v) (take-map n ts)

  drop-map : (n : ℕ) (ts : List DriverToken) → drop n (map f ts) ≡ map f (drop n ts)
  drop-map zero ts = refl
  drop-map (suc n) [] = refl
  drop-map (suc n) (t ∷ ts) = drop-map n ts

  range-map : (a b : ℕ) (ts : List DriverToken) → slice_range (map f ts) a b ≡ map f (slice_range ts a b)
  range-map a b ts = ap (take (b - a)) (drop-map a ts) ∙ take-map (b - a) (drop a ts)

  -- the names and strings of a line
  last-map : (ts : List DriverToken) → slice_get (map f ts) (length (map f ts) - 1) ≡ option_map f (slice_get ts (length ts - 1))
  last-map ts = ap (λ v. slice_get (map f ts) (v - 1)) (length-of ts) ∙ get-map ts (length ts - 1)

  front-map : (ts : List DriverToken) → slice_range (map f ts) 2 (length (map f ts) - 1) ≡ map f (slice_range ts 2 (length ts - 1))
  front-map ts = ap (λ v. slice_range (map f ts) 2 (v - 1)) (length-of ts) ∙ range-map 2 (length ts - 1) ts

  rest-map : (n : ℕ) (ts : List DriverToken) → slice_range (map f ts) n (length (map f ts)) ≡ map f (slice_range ts n (length ts))
  rest-map n ts = ap (λ v. slice_range (map f ts) n v) (length-of ts) ∙ range-map n (length ts) ts

syntax-same : (text : List ℕ) (y : DriverTerminal) (line : List DriverToken) → syntax_by y (map (lexeme_in text) line) ≡ syntax_in text y line
syntax-same text (t.Word (w.Kind k)) line =
    let f = lexeme_in text in
    ap (λ v. template_by k v (slice_get (map f line) (length (map f line) - 1)) (slice_range (map f line) 2 (length (map f line) - 1))) (get-map f line 2)
    ∙ ap (λ v. template_by k (option_map f (slice_get line 2)) v (slice_range (map f line) 2 (length (map f line) - 1))) (last-map f line)
    ∙ ap (λ v. template_by k (option_map f (slice_get line 2)) (option_map f (slice_get line (length line - 1))) v) (front-map f line)
syntax-same text _ line = refl

removal-same : (text : List ℕ) (y : DriverTerminal) (line : List DriverToken) → removal_by y (map (lexeme_in text) line) ≡ remove_in text y line
removal-same text (t.Word w.Prop) line =
    let f = lexeme_in text in
    ap (λ v. removed_by v (slice_range (map f line) 2 (length (map f line)))) (get-map f line 2)
    ∙ ap (λ v. removed_by (option_map f (slice_get line 2)) v) (rest-map f 2 line)
removal-same text _ line = refl

item-same : (text : List ℕ) (x : DriverTerminal) (y : DriverToken) (line : List DriverToken) → item_by x (lexeme_in text y) (map (lexeme_in text) line) ≡ item_in text x y line
item-same text (t.Word w.Theory) y line = ap (λ v. block (written_name v)) (rest-map (lexeme_in text) 1 line)
item-same text (t.Word w.Syntax) y line = syntax-same text y.terminal line
item-same text (t.Word w.Remove) y line = removal-same text y.terminal line
item-same text (t.Word (w.Heading h.Printer)) y line = refl
item-same text (t.Word (w.Heading h.Transformation)) y line = refl
item-same text (t.Word (w.Heading h.Import)) y line = refl
item-same text (t.Word (w.Heading h.Silent)) y line = refl
item-same text _ y line = refl

-- a line with two tokens or more
pub two-tokens : (text : List ℕ) (line : List DriverToken) (d e : DriverToken) → 2 ≤ length line → item_of (map (lexeme_in text) line) ≡ item_in text (get_or line 0 d).terminal (get_or line 1 e) line
two-tokens text [] d e le = absurd (omega arith)
two-tokens text (x ∷ []) d e le = absurd (omega arith)
two-tokens text (x ∷ y ∷ zs) d e le = item-same text x.terminal y (x ∷ y ∷ zs)

-- lines that change nothing
abbrev kept : DriverParts → Read
kept p = Ok p

same-both : (b : Bool) (p : DriverParts) → cond b (Ok p) (Ok p) ≡ kept p
same-both true p = refl
same-both false p = refl

silent-step : (symbols : List SymbolInfo) (theories : NamedTheories) (file : ℕ) (path : Option (List ℕ)) (p : DriverParts) → item_step symbols theories file path silent p ≡ Ok p
silent-step symbols theories file None p = refl
silent-step symbols theories file (Some path) p = same-both (is_known theories path) p

end-step : (symbols : List SymbolInfo) (theories : NamedTheories) (file : ℕ) (path : Option (List ℕ)) (p : DriverParts) → item_step symbols theories file path end_of_block p ≡ Ok p
end-step symbols theories file None p = refl
end-step symbols theories file (Some path) p = same-both (is_known theories path) p

alone-step : (symbols : List SymbolInfo) (theories : NamedTheories) (file : ℕ) (path : Option (List ℕ)) (p : DriverParts) (x : DriverTerminal) → item_step symbols theories file path (item_alone x) p ≡ Ok p
alone-step symbols theories file path p (t.Word w.End) = end-step symbols theories file path p
alone-step symbols theories file path p _ = silent-step symbols theories file path p

pub short-line : (symbols : List SymbolInfo) (theories : NamedTheories) (file : ℕ) (path : Option (List ℕ)) (p : DriverParts) (text : List ℕ) (line : List DriverToken) → length line < 2 → item_step symbols theories file path (item_of (map (lexeme_in text) line)) p ≡ Ok p
short-line symbols theories file path p text [] lt = silent-step symbols theories file path p
short-line symbols theories file path p text (x ∷ []) lt = alone-step symbols theories file path p x.terminal
short-line symbols theories file path p text (x ∷ y ∷ zs) lt = absurd (omega arith)
