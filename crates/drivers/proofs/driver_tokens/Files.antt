-- The lines of a text are the only ones, and a fault is at the least token that no driver file allows there.
use Rattle.std.proofs.Common.{◌≡◌, ℕ, Bool, true, false, List, [], ◌∷◌, ◌++◌, map, length, Ok, Err, refl, sym, ap, ◌∙◌, append_assoc, append-nil}
use Rattle.std.proofs.lemmas.List.{map-append}
use Rattle.std.specs.List.{flat_map}
use Rattle.drivers.specs.declared.driver_tokens.terminal.DriverTerminal.{DriverTerminal}
use Rattle.drivers.specs.declared.driver_tokens.machine.DriverState.{DriverState}
use Rattle.drivers.specs.declared.driver_tokens.machine.DriverState.TheVariants as q
use Rattle.drivers.specs.driver_tokens.Machine.{runs, put, put_all, cut}
use Rattle.drivers.specs.driver_tokens.Grammar.{GrammarLine, write_line}
use Rattle.drivers.specs.driver_tokens.Tokens.{DriverLexeme, driver_lexemes}
use Rattle.drivers.specs.driver_tokens.Lines.{driver_terminals, IsDriverFile, BeginsFile, AreDriverLines, AreOnlyLines, byte_of, CannotFollow, IsSyntaxFault}
use Rattle.drivers.proofs.driver_tokens.Rests.{Cut, cut_of}
use Rattle.drivers.proofs.driver_tokens.Sound.{sound}
use Rattle.drivers.proofs.driver_tokens.Complete.{run, complete, completion, completed, is_taken}
use Rattle.drivers.proofs.driver_tokens.Cutting.{Ends, concat, image, runs-map, flat, runs_flat, IsStuck, Stuck, runs_stuck, stays_stuck, end_stuck, one_cut}

abbrev pub terminal : DriverLexeme → DriverTerminal
terminal x = x.terminal

abbrev start : DriverState
start = q.Lines false

-- what is taken is that of a cut
taken_cut : (r : Ends DriverTerminal) → is_taken r ≡ true → (c : Cut) × (r ≡ Ok c)
taken_cut (Ok c) e = (c, refl)
taken_cut (Err d) e = cc

concat-map : (ls : List GrammarLine) → flat_map write_line ls ≡ concat (map write_line ls)
concat-map [] = refl
concat-map (l ∷ ls) = ap (λ v. write_line l ++ v) (concat-map ls)

-- what is taken is a file, and a file is taken
file_of : (xs : List DriverTerminal) → is_taken (run start xs) ≡ true → IsDriverFile xs
file_of xs e =
    let c = taken_cut (run start xs) e in
    let s = sound xs start c.0 c.1 in
    record {
      lines = s.0.lines;
      are = s.0.are;
      written = concat-map s.0.lines ∙ ap flat s.1 ∙ runs_flat (λ x. x) xs start c.0 c.1;
    }

taken_file : (xs : List DriverTerminal) → IsDriverFile xs → is_taken (run start xs) ≡ true
taken_file xs f = ap (λ v. is_taken (run start v)) (sym f.written) ∙ ap is_taken (complete false f.lines f.are)

no_both : (b : Bool) → b ≡ true → b ≡ false → ⊥
no_both b e f = cc

begins_of : (text : List ℕ) (after : List DriverLexeme) (s : Stuck terminal start (driver_lexemes text) after) → BeginsFile (driver_terminals s.before)
begins_of text after s = record {
  more = completion s.state;
  file = file_of (driver_terminals s.before ++ completion s.state) (s.goes (completion s.state) ∙ completed s.state);
}

stops_of : (before after : List DriverLexeme) (state : DriverState) → IsStuck terminal state after → ((ys : List DriverTerminal) → is_taken (run start (driver_terminals before ++ ys)) ≡ is_taken (run state ys)) → CannotFollow before after
stops_of before [] state stuck goes = λ f.
    no_both (is_taken (run start (driver_terminals before ++ []))) (ap (λ v. is_taken (run start v)) (append-nil (driver_terminals before)) ∙ taken_file (driver_terminals before) f) (goes [] ∙ end_stuck state stuck)
stops_of before (x ∷ after) state stuck goes = λ b.
    no_both (is_taken (run start (driver_terminals before ++ (x.terminal ∷ b.more)))) (ap (λ v. is_taken (run start v)) (sym (append_assoc (driver_terminals before) (x.terminal ∷ []) b.more)) ∙ taken_file _ b.file) (goes (x.terminal ∷ b.more) ∙ stays_stuck state x.terminal b.more stuck)

put_err : (r : Ends DriverLexeme) (after : List DriverLexeme) → put_all r ≡ Err after → r ≡ Err after
put_err (Ok c) after e = cc
put_err (Err d) after e = cc

-- where no lines are found the text goes wrong at that byte
pub fault_of : (text : List ℕ) (after : List DriverLexeme) (byte : ℕ) → cut terminal (driver_lexemes text) ≡ Err after → byte ≡ byte_of after (length text) → IsSyntaxFault text byte
fault_of text after byte e at =
    let s = runs_stuck terminal (driver_lexemes text) start after (put_err (runs terminal start (driver_lexemes text)) after e) in
    record {
      before = s.before;
      after = after;
      tokens = s.tokens;
      begins = begins_of text after s;
      stops = stops_of s.before after s.state s.stuck s.goes;
      at = at;
    }

put_ok : (r : Ends DriverLexeme) (found : List (List DriverLexeme)) → put_all r ≡ Ok found → (c : List DriverLexeme × List (List DriverLexeme)) × (r ≡ Ok c) × (put c.0 c.1 ≡ found)
put_ok (Ok c) found e = (c, refl, cc)
put_ok (Err d) found e = cc

put_none : (f : DriverLexeme → DriverTerminal) (xs : List DriverLexeme) (ls : List (List DriverLexeme)) → [] ≡ map f xs → (put xs ls ≡ ls) × (xs ++ concat ls ≡ concat ls)
put_none f [] ls e = (refl, refl)
put_none f (x ∷ xs) ls e = cc

-- a cut of a text whose lines can be written
lines_found : (text : List ℕ) (c : List DriverLexeme × List (List DriverLexeme)) (found : List (List DriverLexeme)) → runs terminal start (driver_lexemes text) ≡ Ok c → put c.0 c.1 ≡ found → AreDriverLines text found
lines_found text c found e h =
    let t : run start (driver_terminals (driver_lexemes text)) ≡ Ok (cut_of (driver_terminals c.0) (map driver_terminals c.1)) = runs-map terminal (λ x. x) (driver_lexemes text) start ∙ ap (image terminal) e in
    let s = sound (driver_terminals (driver_lexemes text)) start (cut_of (driver_terminals c.0) (map driver_terminals c.1)) t in
    let first : [] ≡ driver_terminals c.0 = ap (λ (d : Cut). d.0) s.1 in
    let lines : map write_line s.0.lines ≡ map driver_terminals c.1 = ap (λ (d : Cut). d.1) s.1 in
    let p = put_none terminal c.0 c.1 first in
    let same : c.1 ≡ found = sym p.0 ∙ h in
    record {
      lines = s.0.lines;
      are = s.0.are;
      written = lines ∙ ap (map driver_terminals) same;
      tokens = ap concat (sym same) ∙ sym p.1 ∙ runs_flat terminal (driver_lexemes text) start c e;
    }

terminals-concat : (ls : List (List DriverLexeme)) → driver_terminals (concat ls) ≡ concat (map driver_terminals ls)
terminals-concat [] = refl
terminals-concat (l ∷ ls) = map-append terminal l (concat ls) ∙ ap (λ v. driver_terminals l ++ v) (terminals-concat ls)

-- the lines that are written are those that the machine finds
found_by : (text : List ℕ) (found : List (List DriverLexeme)) → AreDriverLines text found → run start (driver_terminals (driver_lexemes text)) ≡ Ok (cut_of [] (map driver_terminals found))
found_by text found a =
    let w : flat_map write_line a.lines ≡ driver_terminals (driver_lexemes text) = concat-map a.lines ∙ ap concat a.written ∙ sym (terminals-concat found) ∙ ap driver_terminals a.tokens in
    ap (run start) (sym w) ∙ complete false a.lines a.are ∙ ap (λ v. Ok (cut_of [] v)) a.written

abbrev taken : List (List DriverTerminal) → Ends DriverTerminal
taken ls = Ok (cut_of [] ls)

abbrev lines_taken : Ends DriverTerminal → List (List DriverTerminal)
lines_taken (Ok c) = c.1
lines_taken (Err e) = []

same_lines : (a b : List (List DriverTerminal)) → taken a ≡ taken b → a ≡ b
same_lines a b e = ap lines_taken e

-- the lines that are found are those of the text, and no others are
pub only_lines : (text : List ℕ) (found : List (List DriverLexeme)) → cut terminal (driver_lexemes text) ≡ Ok found → AreOnlyLines text found
only_lines text found e =
    let p = put_ok (runs terminal start (driver_lexemes text)) found e in
    let a = lines_found text p.0 found p.1 p.2 in
    record {
      of = a;
      only = λ others b.
          let same : taken (map driver_terminals others) ≡ taken (map driver_terminals found) = sym (found_by text others b) ∙ found_by text found a in
          let i = same_lines (map driver_terminals others) (map driver_terminals found) same in
          one_cut terminal others found i (b.tokens ∙ sym a.tokens);
    }
