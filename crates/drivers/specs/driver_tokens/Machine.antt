-- A finite automaton for driver files, any textbook on parsing: a state takes a terminal, and goes
-- on in a line or begins one.
use Rattle.std.specs.Prelude.{Bool, true, false, not, List, [], ◌∷◌, Result, Ok, Err}
use Rattle.drivers.specs.declared.driver_tokens.terminal.DriverWord.{DriverWord}
use Rattle.drivers.specs.declared.driver_tokens.terminal.DriverWord.TheVariants as w
use Rattle.drivers.specs.declared.driver_tokens.terminal.DriverTerminal.{DriverTerminal}
use Rattle.drivers.specs.declared.driver_tokens.terminal.DriverTerminal.TheVariants as t
use Rattle.drivers.specs.declared.driver_tokens.machine.Owner.{Owner}
use Rattle.drivers.specs.declared.driver_tokens.machine.Owner.TheVariants as o
use Rattle.drivers.specs.declared.driver_tokens.machine.DriverState.{DriverState}
use Rattle.drivers.specs.declared.driver_tokens.machine.DriverState.TheVariants as q
use Rattle.drivers.specs.declared.driver_tokens.machine.Transition.{Transition}
use Rattle.drivers.specs.declared.driver_tokens.machine.Transition.TheVariants as m

abbrev pub line_word : Bool → DriverWord → Transition
line_word b w.Prelude = m.Begins (q.LineText b)
line_word b w.Meta = m.Begins (q.MetaName b)
line_word false (w.Heading h) = m.Begins (q.LineText false)
line_word false w.Answer = m.Begins q.Value
line_word false w.Theory = m.Begins q.PathWord
line_word true w.End = m.Begins (q.Lines false)
line_word true w.Syntax = m.Begins q.NameKind
line_word true w.Remove = m.Begins q.Removal
line_word b _ = m.Stuck

abbrev pub line_move : Bool → DriverTerminal → Transition
line_move b (t.Word s) = line_word b s
line_move b _ = m.Stuck

abbrev pub path_word : DriverTerminal → Transition
path_word (t.Word s) = m.Within q.Path
path_word _ = m.Stuck

abbrev pub path : DriverTerminal → Transition
path t.Dot = m.Within q.PathWord
path x = line_move true x

abbrev pub line_text_move : Bool → DriverTerminal → Transition
line_text_move b t.Text = m.Within (q.Lines b)
line_text_move b _ = m.Stuck

abbrev pub meta_name : Bool → DriverTerminal → Transition
meta_name b t.Text = m.Within (q.Arguments b)
meta_name b (t.Word s) = m.Within (q.Arguments b)
meta_name b _ = m.Stuck

abbrev pub argument_word : Bool → DriverWord → Transition
argument_word b (w.Kind k) = m.Within (q.Name (o.Meta b))
argument_word b w.Prop = m.Within (q.Name (o.Meta b))
argument_word b _ = m.Stuck

abbrev pub argument_move : Bool → DriverTerminal → Transition
argument_move b t.Text = m.Within (q.MoreArguments b)
argument_move b t.Number = m.Within (q.MoreArguments b)
argument_move b (t.Word s) = argument_word b s
argument_move b _ = m.Stuck

abbrev pub or_move : Transition → Transition → Transition
or_move m.Stuck y = y
or_move x y = x

abbrev pub arguments_move : Bool → DriverTerminal → Transition
arguments_move b x = or_move (argument_move b x) (line_move b x)

abbrev pub more_arguments : Bool → DriverTerminal → Transition
more_arguments b t.Comma = m.Within (q.Argument b)
more_arguments b x = line_move b x

abbrev pub value : DriverTerminal → Transition
value t.Text = m.Within q.Values
value t.Number = m.Within q.Values
value _ = m.Stuck

abbrev pub values : DriverTerminal → Transition
values t.Text = m.Within q.Values
values t.Number = m.Within q.Values
values x = line_move false x

abbrev pub name_kind_word : DriverWord → Transition
name_kind_word (w.Kind k) = m.Within (q.Name o.Syntax)
name_kind_word _ = m.Stuck

abbrev pub name_kind : DriverTerminal → Transition
name_kind (t.Word s) = name_kind_word s
name_kind _ = m.Stuck

abbrev pub removal_word : DriverWord → Transition
removal_word w.Prop = m.Within (q.Name o.Remove)
removal_word w.Allprops = m.Within (q.Lines true)
removal_word _ = m.Stuck

abbrev pub removal_move : DriverTerminal → Transition
removal_move (t.Word s) = removal_word s
removal_move _ = m.Stuck

abbrev pub state_after : Owner → DriverState
state_after o.Syntax = q.LineText true
state_after o.Remove = q.Lines true
state_after (o.Meta b) = q.MoreArguments b

abbrev pub step_after : Owner → DriverTerminal → Transition
step_after o.Syntax x = line_text_move true x
step_after o.Remove x = line_move true x
step_after (o.Meta b) x = more_arguments b x

abbrev pub name_move : Owner → DriverTerminal → Transition
name_move o (t.Word s) = m.Within (q.NameDot o)
name_move o t.Open = m.Within (q.Operator o)
name_move o t.Star = m.Within (state_after o)
name_move o _ = m.Stuck

abbrev pub name_dot : Owner → DriverTerminal → Transition
name_dot o t.Dot = m.Within (q.Name o)
name_dot o x = step_after o x

abbrev pub operator : Owner → DriverTerminal → Transition
operator o t.Operator = m.Within (q.OperatorEnd o)
operator o _ = m.Stuck

abbrev pub operator_end_word : Owner → DriverWord → Transition
operator_end_word o w.Line = m.Within (q.OperatorClose o)
operator_end_word o _ = m.Stuck

abbrev pub operator_end : Owner → DriverTerminal → Transition
operator_end o t.Close = m.Within (state_after o)
operator_end o (t.Word s) = operator_end_word o s
operator_end o _ = m.Stuck

abbrev pub operator_close : Owner → DriverTerminal → Transition
operator_close o t.Close = m.Within (state_after o)
operator_close o _ = m.Stuck

abbrev pub machine_step : DriverState → DriverTerminal → Transition
machine_step (q.Lines b) = line_move b
machine_step q.PathWord = path_word
machine_step q.Path = path
machine_step (q.LineText b) = line_text_move b
machine_step (q.MetaName b) = meta_name b
machine_step (q.Arguments b) = arguments_move b
machine_step (q.Argument b) = argument_move b
machine_step (q.MoreArguments b) = more_arguments b
machine_step q.Value = value
machine_step q.Values = values
machine_step q.NameKind = name_kind
machine_step q.Removal = removal_move
machine_step (q.Name o) = name_move o
machine_step (q.NameDot o) = name_dot o
machine_step (q.Operator o) = operator o
machine_step (q.OperatorEnd o) = operator_end o
machine_step (q.OperatorClose o) = operator_close o

abbrev pub state_may_end : DriverState → Bool
state_may_end (q.Lines b) = not b
state_may_end (q.Arguments b) = not b
state_may_end (q.MoreArguments b) = not b
state_may_end (q.NameDot (o.Meta b)) = not b
state_may_end q.Values = true
state_may_end _ = false

-- the end of a file, where it may be
abbrev pub ending : {A : Type 0} → Bool → Result (List A × List (List A)) (List A)
ending true = Ok ([], [])
ending false = Err []

-- one token more of the line, or of a new one
abbrev pub within : {A : Type 0} → A → Result (List A × List (List A)) (List A)
    → Result (List A × List (List A)) (List A)
within x (Ok w) = Ok (x ∷ w.0, w.1)
within x (Err e) = Err e

abbrev pub begins : {A : Type 0} → A → Result (List A × List (List A)) (List A)
    → Result (List A × List (List A)) (List A)
begins x (Ok w) = Ok ([], (x ∷ w.0) ∷ w.1)
begins x (Err e) = Err e

abbrev pub moves_from : {A : Type 0} → A → List A → Transition
    → (DriverState → Result (List A × List (List A)) (List A))
    → Result (List A × List (List A)) (List A)
moves_from x xs m.Stuck next = Err (x ∷ xs)
moves_from x xs (m.Within s) next = within x (next s)
moves_from x xs (m.Begins s) next = begins x (next s)

-- The rest of a line and the lines after it, or the tokens from the first on that can't be there.
abbrev pub runs : {A : Type 0} → (A → DriverTerminal) → DriverState → List A
    → Result (List A × List (List A)) (List A)
runs f s [] = ending (state_may_end s)
runs f s (x ∷ xs) = moves_from x xs (machine_step s (f x)) (λ next. runs f next xs)

-- a line in front, if it has tokens
abbrev pub put : {A : Type 0} → List A → List (List A) → List (List A)
put [] ls = ls
put (x ∷ xs) ls = (x ∷ xs) ∷ ls

abbrev pub put_all : {A : Type 0} → Result (List A × List (List A)) (List A)
    → Result (List (List A)) (List A)
put_all (Ok w) = Ok (put w.0 w.1)
put_all (Err e) = Err e

-- the lines of tokens
abbrev pub cut : {A : Type 0} → (A → DriverTerminal) → List A → Result (List (List A)) (List A)
cut f xs = put_all (runs f (q.Lines false) xs)
