-- What the machine takes can be written.
use Rattle.std.proofs.Common.{◌≡◌, Bool, true, false, List, [], ◌∷◌, Option, Some, None, Result, Ok, Err, refl, sym, ap, ◌∙◌, append-nil}
use Rattle.drivers.specs.declared.driver_tokens.terminal.DriverWord.{DriverWord}
use Rattle.drivers.specs.declared.driver_tokens.terminal.DriverWord.TheVariants as w
use Rattle.drivers.specs.declared.driver_tokens.terminal.DriverTerminal.{DriverTerminal}
use Rattle.drivers.specs.declared.driver_tokens.terminal.DriverTerminal.TheVariants as t
use Rattle.drivers.specs.declared.driver_tokens.machine.Owner.{Owner}
use Rattle.drivers.specs.declared.driver_tokens.machine.Owner.TheVariants as o
use Rattle.drivers.specs.declared.driver_tokens.machine.DriverState.{DriverState}
use Rattle.drivers.specs.declared.driver_tokens.machine.DriverState.TheVariants as q
use Rattle.drivers.specs.declared.driver_tokens.machine.Transition.{Transition}
use Rattle.drivers.specs.declared.driver_tokens.machine.Transition.TheVariants as m
use Rattle.drivers.specs.driver_tokens.Machine.{line_word, line_move, state_after, machine_step, state_may_end, ending, within, begins, moves_from, runs}
use Rattle.drivers.specs.driver_tokens.Grammar.{DriverName, scoped_name, word_name, star_name, infix_operator, prefix_operator, string_value, number_value, value_argument, kind_argument, proposition_argument, by_string, by_word, GrammarLine, heading_line, prelude_line, answer_line, meta_line, theory_line, end_of_block_line, template_line, removal_line, removal_of_all_line, are_lines, write_name}
use Rattle.drivers.proofs.driver_tokens.Rests.{Lines, After, Rest, Cut, cut_of, written}

-- A state is told from the one after a terminal: what may follow there, with the terminal in front, may follow here.
abbrev pub From : (s : DriverState) → Cut → Type 0
From s c = (r : Rest s) × (written s r ≡ c)

abbrev Back : DriverState → DriverTerminal → Transition → Type 0
Back s x m.Stuck = Unit {0}
Back s x (m.Within n) = (r : Rest n) → From s (cut_of (x ∷ (written n r).0) (written n r).1)
Back s x (m.Begins n) = (r : Rest n) → From s (cut_of [] ((x ∷ (written n r).0) ∷ (written n r).1))

-- what may follow in the state s, with what it writes, may follow in the state t
abbrev Passes : DriverState → DriverState → Type 0
Passes s t = (r : Rest s) → From t (written s r)

passed : (s t : DriverState) → Passes s t → (x : DriverTerminal) (y : Transition) → Back s x y → Back t x y
passed s t p x m.Stuck b = tt
passed s t p x (m.Within n) b = λ r. let f = b r in let g = p f.0 in (g.0, g.1 ∙ f.1)
passed s t p x (m.Begins n) b = λ r. let f = b r in let g = p f.0 in (g.0, g.1 ∙ f.1)

abbrev with_line : (b : Bool) (l : GrammarLine) (ls : List GrammarLine) → are_lines b (l ∷ ls) ≡ true → Lines b
with_line b l ls e = record { lines = l ∷ ls; are = e }

removed : (n : Option DriverName) (r : Lines true) → From (q.Lines true) (cut_of [] ((t.Word w.Remove ∷ (written q.Removal (n, r)).0) ∷ (written q.Removal (n, r)).1))
removed (Some n) r = (with_line true (removal_line n) r.lines r.are, refl)
removed None r = (with_line true removal_of_all_line r.lines r.are, refl)

back_line : (b : Bool) (s : DriverWord) → Back (q.Lines b) (t.Word s) (line_word b s)
back_line b w.Prelude = λ r. (with_line b prelude_line r.lines r.are, refl)
back_line b w.Meta = λ r. (with_line b (meta_line r.0 r.1) r.2.lines r.2.are, refl)
back_line false (w.Heading h) = λ r. (with_line false (heading_line h) r.lines r.are, refl)
back_line false w.Answer = λ r. (with_line false (answer_line r.0 r.1) r.2.lines r.2.are, refl)
back_line false w.Theory = λ r. (with_line false (theory_line r.0 r.1) r.2.lines r.2.are, refl)
back_line true w.End = λ r. (with_line true end_of_block_line r.lines r.are, refl)
back_line true w.Syntax = λ r. (with_line true (template_line r.0 r.1) r.2.lines r.2.are, refl)
back_line true w.Remove = λ r. removed r.0 r.1
back_line false _ = tt
back_line true _ = tt

back_lines : (b : Bool) (x : DriverTerminal) → Back (q.Lines b) x (line_move b x)
back_lines b (t.Word s) = back_line b s
back_lines b _ = tt

path_passes : Passes (q.Lines true) q.Path
path_passes r = (([], r), refl)

arguments_pass : (b : Bool) → Passes (q.Lines b) (q.Arguments b)
arguments_pass b r = (([], r), refl)

more_passes : (b : Bool) → Passes (q.Lines b) (q.MoreArguments b)
more_passes b r = (([], r), refl)

values_pass : Passes (q.Lines false) q.Values
values_pass r = (([], r), refl)

dot_passes : (x : Owner) → Passes (state_after x) (q.NameDot x)
dot_passes o.Syntax r = ((None, r), refl)
dot_passes o.Remove r = ((None, r), refl)
dot_passes (o.Meta b) r = ((None, r), refl)

back_path : (x : DriverTerminal) → Back q.Path x (machine_step q.Path x)
back_path t.Dot = λ r. ((r.0 ∷ r.1, r.2), refl)
back_path (t.Word s) = passed (q.Lines true) q.Path path_passes (t.Word s) (line_word true s) (back_line true s)
back_path _ = tt

back_meta_name : (b : Bool) (x : DriverTerminal) → Back (q.MetaName b) x (machine_step (q.MetaName b) x)
back_meta_name b t.Text = λ r. ((by_string, r.0, r.1), refl)
back_meta_name b (t.Word s) = λ r. ((by_word s, r.0, r.1), refl)
back_meta_name b _ = tt

back_arguments : (b : Bool) (x : DriverTerminal) → Back (q.Arguments b) x (machine_step (q.Arguments b) x)
back_arguments b t.Text = λ r. ((value_argument string_value ∷ r.0, r.1), refl)
back_arguments b t.Number = λ r. ((value_argument number_value ∷ r.0, r.1), refl)
back_arguments b (t.Word s) = by_word_of s
  where
    by_line : (s : DriverWord) → Back (q.Arguments b) (t.Word s) (line_word b s)
    by_line s = passed (q.Lines b) (q.Arguments b) (arguments_pass b) (t.Word s) (line_word b s) (back_line b s)

    by_word_of : (s : DriverWord) → Back (q.Arguments b) (t.Word s) (machine_step (q.Arguments b) (t.Word s))
    by_word_of (w.Kind k) = λ r. ((kind_argument k r.0 ∷ r.1.0, r.1.1), refl)
    by_word_of w.Prop = λ r. ((proposition_argument r.0 ∷ r.1.0, r.1.1), refl)
    by_word_of w.Allprops = by_line w.Allprops
    by_word_of w.Answer = by_line w.Answer
    by_word_of w.End = by_line w.End
    by_word_of (w.Heading h) = by_line (w.Heading h)
    by_word_of w.Line = by_line w.Line
    by_word_of w.Meta = by_line w.Meta
    by_word_of w.Prelude = by_line w.Prelude
    by_word_of w.Remove = by_line w.Remove
    by_word_of w.Syntax = by_line w.Syntax
    by_word_of w.Theory = by_line w.Theory
    by_word_of w.Other = by_line w.Other
back_arguments b _ = tt

back_argument : (b : Bool) (x : DriverTerminal) → Back (q.Argument b) x (machine_step (q.Argument b) x)
back_argument b t.Text = λ r. ((value_argument string_value, r.0, r.1), refl)
back_argument b t.Number = λ r. ((value_argument number_value, r.0, r.1), refl)
back_argument b (t.Word (w.Kind k)) = λ r. ((kind_argument k r.0, r.1.0, r.1.1), refl)
back_argument b (t.Word w.Prop) = λ r. ((proposition_argument r.0, r.1.0, r.1.1), refl)
back_argument b _ = tt

back_more : (b : Bool) (x : DriverTerminal) → Back (q.MoreArguments b) x (machine_step (q.MoreArguments b) x)
back_more b t.Comma = λ r. ((r.0 ∷ r.1, r.2), refl)
back_more b (t.Word s) = passed (q.Lines b) (q.MoreArguments b) (more_passes b) (t.Word s) (line_word b s) (back_line b s)
back_more b _ = tt

back_value : (x : DriverTerminal) → Back q.Value x (machine_step q.Value x)
back_value t.Text = λ r. ((string_value, r.0, r.1), refl)
back_value t.Number = λ r. ((number_value, r.0, r.1), refl)
back_value _ = tt

back_values : (x : DriverTerminal) → Back q.Values x (machine_step q.Values x)
back_values t.Text = λ r. ((string_value ∷ r.0, r.1), refl)
back_values t.Number = λ r. ((number_value ∷ r.0, r.1), refl)
back_values (t.Word s) = passed (q.Lines false) q.Values values_pass (t.Word s) (line_word false s) (back_line false s)
back_values _ = tt

back_name_kind : (x : DriverTerminal) → Back q.NameKind x (machine_step q.NameKind x)
back_name_kind (t.Word (w.Kind k)) = λ r. ((k, r.0, r.1), refl)
back_name_kind _ = tt

back_removal : (x : DriverTerminal) → Back q.Removal x (machine_step q.Removal x)
back_removal (t.Word w.Prop) = λ r. ((Some r.0, r.1), ap (λ xs. cut_of (t.Word w.Prop ∷ xs) (written (q.Lines true) r.1).1) (sym (append-nil (write_name r.0))))
back_removal (t.Word w.Allprops) = λ r. ((None, r), refl)
back_removal _ = tt

back_name : (x : Owner) (y : DriverTerminal) → Back (q.Name x) y (machine_step (q.Name x) y)
back_name x (t.Word s) = λ r. by_dot r.0 r.1
  where
    by_dot : (n : Option DriverName) (r : After x) → From (q.Name x) (cut_of (t.Word s ∷ (written (q.NameDot x) (n, r)).0) (written (q.NameDot x) (n, r)).1)
    by_dot (Some n) r = ((scoped_name s n, r), refl)
    by_dot None r = ((word_name s, r), refl)
back_name x t.Open = λ r. by_end r.0 r.1
  where
    by_end : (c : Bool) (r : After x) → From (q.Name x) (cut_of (t.Open ∷ (written (q.Operator x) (c, r)).0) (written (q.Operator x) (c, r)).1)
    by_end true r = ((prefix_operator, r), refl)
    by_end false r = ((infix_operator, r), refl)
back_name o.Syntax t.Star = λ r. ((star_name, r), refl)
back_name o.Remove t.Star = λ r. ((star_name, r), refl)
back_name (o.Meta b) t.Star = λ r. ((star_name, r), refl)
back_name x _ = tt

back_dot : (x : Owner) (y : DriverTerminal) → Back (q.NameDot x) y (machine_step (q.NameDot x) y)
back_dot x t.Dot = λ r. ((Some r.0, r.1), refl)
back_dot o.Syntax t.Text = λ r. ((None, r), refl)
back_dot o.Remove (t.Word s) = passed (q.Lines true) (q.NameDot o.Remove) (dot_passes o.Remove) (t.Word s) (line_word true s) (back_line true s)
back_dot (o.Meta b) t.Comma = λ r. ((None, (r.0 ∷ r.1, r.2)), refl)
back_dot (o.Meta b) (t.Word s) = passed (q.MoreArguments b) (q.NameDot (o.Meta b)) (dot_passes (o.Meta b)) (t.Word s) (line_word b s) (back_more b (t.Word s))
back_dot o.Syntax _ = tt
back_dot o.Remove _ = tt
back_dot (o.Meta b) _ = tt

back_operator : (x : Owner) (y : DriverTerminal) → Back (q.Operator x) y (machine_step (q.Operator x) y)
back_operator x t.Operator = λ r. (r, refl)
back_operator x _ = tt

back_end : (x : Owner) (y : DriverTerminal) → Back (q.OperatorEnd x) y (machine_step (q.OperatorEnd x) y)
back_end o.Syntax t.Close = λ r. ((false, r), refl)
back_end o.Remove t.Close = λ r. ((false, r), refl)
back_end (o.Meta b) t.Close = λ r. ((false, r), refl)
back_end x (t.Word w.Line) = λ r. ((true, r), refl)
back_end x _ = tt

back_close : (x : Owner) (y : DriverTerminal) → Back (q.OperatorClose x) y (machine_step (q.OperatorClose x) y)
back_close o.Syntax t.Close = λ r. (r, refl)
back_close o.Remove t.Close = λ r. (r, refl)
back_close (o.Meta b) t.Close = λ r. (r, refl)
back_close x _ = tt

back_word : (x : DriverTerminal) → Back q.PathWord x (machine_step q.PathWord x)
back_word (t.Word s) = λ r. ((s, r.0, r.1), refl)
back_word _ = tt

back_text : (b : Bool) (x : DriverTerminal) → Back (q.LineText b) x (machine_step (q.LineText b) x)
back_text b t.Text = λ r. (r, refl)
back_text b _ = tt

back : (s : DriverState) (x : DriverTerminal) → Back s x (machine_step s x)
back (q.Lines b) x = back_lines b x
back q.PathWord x = back_word x
back q.Path x = back_path x
back (q.LineText b) x = back_text b x
back (q.MetaName b) x = back_meta_name b x
back (q.Arguments b) x = back_arguments b x
back (q.Argument b) x = back_argument b x
back (q.MoreArguments b) x = back_more b x
back q.Value x = back_value x
back q.Values x = back_values x
back q.NameKind x = back_name_kind x
back q.Removal x = back_removal x
back (q.Name o) x = back_name o x
back (q.NameDot o) x = back_dot o x
back (q.Operator o) x = back_operator o x
back (q.OperatorEnd o) x = back_end o x
back (q.OperatorClose o) x = back_close o x

abbrev Ends : Type 0
Ends = Result Cut (List DriverTerminal)

lines_end : (b : Bool) (c : Cut) → ending (state_may_end (q.Lines b)) ≡ Ok c → From (q.Lines b) c
lines_end false c e = (record { lines = []; are = refl }, cc)
lines_end true c e = cc

ends : (s : DriverState) (c : Cut) → ending (state_may_end s) ≡ Ok c → From s c
ends (q.Lines b) c e = lines_end b c e
ends (q.Arguments b) c e = let f = lines_end b c e in (([], f.0), f.1)
ends (q.MoreArguments b) c e = let f = lines_end b c e in (([], f.0), f.1)
ends (q.NameDot (o.Meta b)) c e = let f = lines_end b c e in ((None, ([], f.0)), f.1)
ends q.Values c e = let f = lines_end false c e in (([], f.0), f.1)
ends q.PathWord c e = cc
ends q.Path c e = cc
ends (q.LineText b) c e = cc
ends (q.MetaName b) c e = cc
ends (q.Argument b) c e = cc
ends q.Value c e = cc
ends q.NameKind c e = cc
ends q.Removal c e = cc
ends (q.Name x) c e = cc
ends (q.NameDot o.Syntax) c e = cc
ends (q.NameDot o.Remove) c e = cc
ends (q.Operator x) c e = cc
ends (q.OperatorEnd x) c e = cc
ends (q.OperatorClose x) c e = cc

within_ok : (x : DriverTerminal) (r : Ends) (c : Cut) → within x r ≡ Ok c → (d : Cut) × (r ≡ Ok d) × (cut_of (x ∷ d.0) d.1 ≡ c)
within_ok x (Ok d) c e = (d, refl, cc)
within_ok x (Err d) c e = cc

begins_ok : (x : DriverTerminal) (r : Ends) (c : Cut) → begins x r ≡ Ok c → (d : Cut) × (r ≡ Ok d) × (cut_of [] ((x ∷ d.0) ∷ d.1) ≡ c)
begins_ok x (Ok d) c e = (d, refl, cc)
begins_ok x (Err d) c e = cc

abbrev pub Sound : List DriverTerminal → Type 0
Sound xs = (s : DriverState) (c : Cut) → runs (λ x. x) s xs ≡ Ok c → From s c

by_move : (x : DriverTerminal) (xs : List DriverTerminal) → Sound xs → (s : DriverState) (c : Cut) (y : Transition) → Back s x y → moves_from x xs y (λ n. runs (λ z. z) n xs) ≡ Ok c → From s c
by_move x xs ih s c m.Stuck b e = cc
by_move x xs ih s c (m.Within n) b e =
    let i = within_ok x (runs (λ z. z) n xs) c e in
    let f = ih n i.0 i.1 in
    let g = b f.0 in
    (g.0, g.1 ∙ ap (λ (d : Cut). cut_of (x ∷ d.0) d.1) f.1 ∙ i.2)
by_move x xs ih s c (m.Begins n) b e =
    let i = begins_ok x (runs (λ z. z) n xs) c e in
    let f = ih n i.0 i.1 in
    let g = b f.0 in
    (g.0, g.1 ∙ ap (λ (d : Cut). cut_of [] ((x ∷ d.0) ∷ d.1)) f.1 ∙ i.2)

-- What the machine takes from a state on is what may follow there.
pub sound : (xs : List DriverTerminal) → Sound xs
sound [] s c e = ends s c e
sound (x ∷ xs) s c e = by_move x xs (sound xs) s c (machine_step s x) (back s x) e
