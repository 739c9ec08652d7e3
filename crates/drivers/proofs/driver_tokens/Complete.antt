-- What can be written is taken by the machine, and each state can be completed.
use Rattle.std.proofs.Common.{◌≡◌, Bool, true, false, ◌&&◌, List, [], ◌∷◌, ◌++◌, map, Result, Ok, Err, refl, sym, ap, ◌∙◌, append_assoc, append-nil}
use Rattle.std.specs.List.{flat_map}
use Rattle.drivers.specs.declared.driver_tokens.terminal.DriverWord.{DriverWord}
use Rattle.drivers.specs.declared.driver_tokens.terminal.DriverWord.TheVariants as w
use Rattle.drivers.specs.declared.driver_tokens.terminal.NameKind.TheVariants as k
use Rattle.drivers.specs.declared.driver_tokens.terminal.DriverTerminal.{DriverTerminal}
use Rattle.drivers.specs.declared.driver_tokens.terminal.DriverTerminal.TheVariants as t
use Rattle.drivers.specs.declared.driver_tokens.machine.Owner.{Owner}
use Rattle.drivers.specs.declared.driver_tokens.machine.Owner.TheVariants as o
use Rattle.drivers.specs.declared.driver_tokens.machine.DriverState.{DriverState}
use Rattle.drivers.specs.declared.driver_tokens.machine.DriverState.TheVariants as q
use Rattle.drivers.specs.driver_tokens.Machine.{state_after, within, begins, runs}
use Rattle.drivers.specs.driver_tokens.Grammar.{DriverName, scoped_name, word_name, star_name, infix_operator, prefix_operator, Value, string_value, number_value, MetaArgument, value_argument, kind_argument, proposition_argument, by_string, by_word, GrammarLine, heading_line, prelude_line, answer_line, meta_line, theory_line, end_of_block_line, template_line, removal_line, removal_of_all_line, are_lines, may_be_in_block, in_block, write_name, write_value, write_argument, write_more, write_arguments, write_driver_path, write_line}
use Rattle.drivers.proofs.driver_tokens.Rests.{Cut, cut_of, join}
use Rattle.tasks.proofs.plain_laws.Bools.{and_first as and_left, and_second as and_right}

abbrev pub run : DriverState → List DriverTerminal → Result Cut (List DriverTerminal)
run = runs (λ x. x)

abbrev pub Taken : DriverState → List DriverTerminal → Cut → Type 0
Taken s xs c = run s xs ≡ Ok c

abbrev pub Concat : List (List DriverTerminal) → List DriverTerminal
Concat = flat_map (λ l. l)

-- where nothing more of a part stands, what is after it goes on
path_ends : (xs : List DriverTerminal) (c : Cut) → Taken (q.Lines true) xs c → Taken q.Path xs c
path_ends [] c h = cc
path_ends (t.Dot ∷ xs) c h = cc
path_ends (t.Word s ∷ xs) c h = h
path_ends (_ ∷ xs) c h = cc

values_end : (xs : List DriverTerminal) (c : Cut) → Taken (q.Lines false) xs c → Taken q.Values xs c
values_end [] c h = h
values_end (t.Word s ∷ xs) c h = h
values_end (_ ∷ xs) c h = cc

more_ends : (b : Bool) (xs : List DriverTerminal) (c : Cut) → Taken (q.Lines b) xs c → Taken (q.MoreArguments b) xs c
more_ends b [] c h = h
more_ends b (t.Word s ∷ xs) c h = h
more_ends b (_ ∷ xs) c h = cc

arguments_end : (b : Bool) (xs : List DriverTerminal) (c : Cut) → Taken (q.Lines b) xs c → Taken (q.Arguments b) xs c
arguments_end b [] c h = h
arguments_end b (t.Word s ∷ xs) c h = by_word_of b s h
  where
    by_word_of : (b : Bool) (s : DriverWord) → Taken (q.Lines b) (t.Word s ∷ xs) c → Taken (q.Arguments b) (t.Word s ∷ xs) c
    by_word_of true (w.Kind k) h = cc
    by_word_of false (w.Kind k) h = cc
    by_word_of true w.Prop h = cc
    by_word_of false w.Prop h = cc
    by_word_of true w.Allprops h = h
    by_word_of false w.Allprops h = h
    by_word_of true w.Answer h = h
    by_word_of false w.Answer h = h
    by_word_of true w.End h = h
    by_word_of false w.End h = h
    by_word_of true (w.Heading k) h = h
    by_word_of false (w.Heading k) h = h
    by_word_of true _ h = h
    by_word_of false _ h = h
arguments_end b (_ ∷ xs) c h = cc

name_ends : (x : Owner) (xs : List DriverTerminal) (c : Cut) → Taken (state_after x) xs c → Taken (q.NameDot x) xs c
name_ends o.Syntax [] c h = h
name_ends o.Remove [] c h = cc
name_ends (o.Meta b) [] c h = h
name_ends o.Syntax (t.Dot ∷ xs) c h = cc
name_ends o.Syntax (_ ∷ xs) c h = h
name_ends o.Remove (t.Dot ∷ xs) c h = cc
name_ends o.Remove (_ ∷ xs) c h = h
name_ends (o.Meta b) (t.Dot ∷ xs) c h = cc
name_ends (o.Meta b) (_ ∷ xs) c h = h

name_taken : (x : Owner) (n : DriverName) (xs : List DriverTerminal) (c : Cut) → Taken (state_after x) xs c → Taken (q.Name x) (write_name n ++ xs) (join (write_name n) c)
name_taken x (scoped_name s n) xs c h = ap (within (t.Word s)) (ap (within t.Dot) (name_taken x n xs c h))
name_taken x (word_name s) xs c h = ap (within (t.Word s)) (name_ends x xs c h)
name_taken x star_name xs c h = ap (within t.Star) h
name_taken x infix_operator xs c h = ap (within t.Open) (ap (within t.Operator) (ap (within t.Close) h))
name_taken x prefix_operator xs c h = ap (within t.Open) (ap (within t.Operator) (ap (within (t.Word w.Line)) (ap (within t.Close) h)))

path_taken : (ss : List DriverWord) (xs : List DriverTerminal) (c : Cut) → Taken (q.Lines true) xs c → Taken q.Path (write_driver_path ss ++ xs) (join (write_driver_path ss) c)
path_taken [] xs c h = path_ends xs c h
path_taken (s ∷ ss) xs c h = ap (within t.Dot) (ap (within (t.Word s)) (path_taken ss xs c h))

values_taken : (vs : List Value) (xs : List DriverTerminal) (c : Cut) → Taken (q.Lines false) xs c → Taken q.Values (map write_value vs ++ xs) (join (map write_value vs) c)
values_taken [] xs c h = values_end xs c h
values_taken (string_value ∷ vs) xs c h = ap (within t.Text) (values_taken vs xs c h)
values_taken (number_value ∷ vs) xs c h = ap (within t.Number) (values_taken vs xs c h)

argument_taken : (b : Bool) (a : MetaArgument) (xs : List DriverTerminal) (c : Cut) → Taken (q.MoreArguments b) xs c → Taken (q.Argument b) (write_argument a ++ xs) (join (write_argument a) c)
argument_taken b (value_argument string_value) xs c h = ap (within t.Text) h
argument_taken b (value_argument number_value) xs c h = ap (within t.Number) h
argument_taken b (kind_argument k n) xs c h = ap (within (t.Word (w.Kind k))) (name_taken (o.Meta b) n xs c h)
argument_taken b (proposition_argument n) xs c h = ap (within (t.Word w.Prop)) (name_taken (o.Meta b) n xs c h)

first_taken : (b : Bool) (a : MetaArgument) (xs : List DriverTerminal) (c : Cut) → Taken (q.MoreArguments b) xs c → Taken (q.Arguments b) (write_argument a ++ xs) (join (write_argument a) c)
first_taken b (value_argument string_value) xs c h = ap (within t.Text) h
first_taken b (value_argument number_value) xs c h = ap (within t.Number) h
first_taken b (kind_argument k n) xs c h = ap (within (t.Word (w.Kind k))) (name_taken (o.Meta b) n xs c h)
first_taken b (proposition_argument n) xs c h = ap (within (t.Word w.Prop)) (name_taken (o.Meta b) n xs c h)

-- where terminals are written in two parts, they are taken as one list
moved_on : (s : DriverState) (xs ys zs : List DriverTerminal) (c : Cut) → Taken s (xs ++ (ys ++ zs)) (join xs (join ys c)) → Taken s ((xs ++ ys) ++ zs) (join (xs ++ ys) c)
moved_on s xs ys zs c h =
    ap (run s) (append_assoc xs ys zs) ∙ h ∙ ap (λ v. Ok (cut_of v c.1)) (sym (append_assoc xs ys c.0))

more_taken : (b : Bool) (rest : List MetaArgument) (xs : List DriverTerminal) (c : Cut) → Taken (q.Lines b) xs c → Taken (q.MoreArguments b) (write_more rest ++ xs) (join (write_more rest) c)
more_taken b [] xs c h = more_ends b xs c h
more_taken b (a ∷ rest) xs c h =
    ap (within t.Comma) (moved_on (q.Argument b) (write_argument a) (write_more rest) xs c (argument_taken b a (write_more rest ++ xs) (join (write_more rest) c) (more_taken b rest xs c h)))

arguments_taken : (b : Bool) (rest : List MetaArgument) (xs : List DriverTerminal) (c : Cut) → Taken (q.Lines b) xs c → Taken (q.Arguments b) (write_arguments rest ++ xs) (join (write_arguments rest) c)
arguments_taken b [] xs c h = arguments_end b xs c h
arguments_taken b (a ∷ rest) xs c h =
    moved_on (q.Arguments b) (write_argument a) (write_more rest) xs c (first_taken b a (write_more rest ++ xs) (join (write_more rest) c) (more_taken b rest xs c h))

-- lines after which nothing of a line is left
abbrev whole : List (List DriverTerminal) → Cut
whole ls = cut_of [] ls

abbrev Line_taken : Bool → GrammarLine → Type 0
Line_taken b l = (xs : List DriverTerminal) (ls : List (List DriverTerminal)) → Taken (q.Lines (in_block b l)) xs (whole ls) → Taken (q.Lines b) (write_line l ++ xs) (whole (write_line l ∷ ls))

line_taken : (b : Bool) (l : GrammarLine) → may_be_in_block b l ≡ true → Line_taken b l
line_taken true (heading_line h) m xs ls i = cc
line_taken false (heading_line h) m xs ls i = ap (begins (t.Word (w.Heading h))) (ap (within t.Text) i)
line_taken b prelude_line m xs ls i = ap (begins (t.Word w.Prelude)) (ap (within t.Text) i)
line_taken true (answer_line v vs) m xs ls i = cc
line_taken false (answer_line string_value vs) m xs ls i = ap (begins (t.Word w.Answer)) (ap (within t.Text) (values_taken vs xs (whole ls) i)) ∙ ap (λ v. Ok (whole ((t.Word w.Answer ∷ t.Text ∷ v) ∷ ls))) (append-nil _)
line_taken false (answer_line number_value vs) m xs ls i = ap (begins (t.Word w.Answer)) (ap (within t.Number) (values_taken vs xs (whole ls) i)) ∙ ap (λ v. Ok (whole ((t.Word w.Answer ∷ t.Number ∷ v) ∷ ls))) (append-nil _)
line_taken b (meta_line by_string rest) m xs ls i = ap (begins (t.Word w.Meta)) (ap (within t.Text) (arguments_taken b rest xs (whole ls) i)) ∙ ap (λ v. Ok (whole ((t.Word w.Meta ∷ t.Text ∷ v) ∷ ls))) (append-nil _)
line_taken b (meta_line (by_word s) rest) m xs ls i = ap (begins (t.Word w.Meta)) (ap (within (t.Word s)) (arguments_taken b rest xs (whole ls) i)) ∙ ap (λ v. Ok (whole ((t.Word w.Meta ∷ t.Word s ∷ v) ∷ ls))) (append-nil _)
line_taken true (theory_line s ss) m xs ls i = cc
line_taken false (theory_line s ss) m xs ls i = ap (begins (t.Word w.Theory)) (ap (within (t.Word s)) (path_taken ss xs (whole ls) i)) ∙ ap (λ v. Ok (whole ((t.Word w.Theory ∷ t.Word s ∷ v) ∷ ls))) (append-nil _)
line_taken true end_of_block_line m xs ls i = ap (begins (t.Word w.End)) i
line_taken false end_of_block_line m xs ls i = cc
line_taken true (template_line k n) m xs ls i =
    ap (λ v. run (q.Lines true) (t.Word w.Syntax ∷ t.Word (w.Kind k) ∷ v)) (append_assoc (write_name n) (t.Text ∷ []) xs)
    ∙ ap (begins (t.Word w.Syntax)) (ap (within (t.Word (w.Kind k))) (name_taken o.Syntax n (t.Text ∷ xs) (cut_of (t.Text ∷ []) ls) (ap (within t.Text) i)))
line_taken false (template_line k n) m xs ls i = cc
line_taken true (removal_line n) m xs ls i = ap (begins (t.Word w.Remove)) (ap (within (t.Word w.Prop)) (name_taken o.Remove n xs (whole ls) i)) ∙ ap (λ v. Ok (whole ((t.Word w.Remove ∷ t.Word w.Prop ∷ v) ∷ ls))) (append-nil _)
line_taken false (removal_line n) m xs ls i = cc
line_taken true removal_of_all_line m xs ls i = ap (begins (t.Word w.Remove)) (ap (within (t.Word w.Allprops)) i)
line_taken false removal_of_all_line m xs ls i = cc

-- what can be written is taken, with these lines
pub complete : (b : Bool) (ls : List GrammarLine) → are_lines b ls ≡ true → Taken (q.Lines b) (flat_map write_line ls) (cut_of [] (map write_line ls))
complete true [] e = cc
complete false [] e = refl
complete b (l ∷ ls) e =
    line_taken b l (and_left (may_be_in_block b l) _ e) (flat_map write_line ls) (map write_line ls) (complete (in_block b l) ls (and_right (may_be_in_block b l) _ e))

-- terminals that complete a state
abbrev pub closing : Bool → List DriverTerminal
closing true = t.Word w.End ∷ []
closing false = []

abbrev pub closing_after : Owner → List DriverTerminal
closing_after o.Syntax = t.Text ∷ closing true
closing_after o.Remove = closing true
closing_after (o.Meta b) = closing b

abbrev pub completion : DriverState → List DriverTerminal
completion (q.Lines b) = closing b
completion q.PathWord = t.Word w.Other ∷ closing true
completion q.Path = closing true
completion (q.LineText b) = t.Text ∷ closing b
completion (q.MetaName b) = t.Text ∷ closing b
completion (q.Arguments b) = closing b
completion (q.Argument b) = t.Text ∷ closing b
completion (q.MoreArguments b) = closing b
completion q.Value = t.Text ∷ []
completion q.Values = []
completion q.NameKind = t.Word (w.Kind k.Type) ∷ t.Star ∷ t.Text ∷ closing true
completion q.Removal = t.Word w.Allprops ∷ closing true
completion (q.Name x) = t.Star ∷ closing_after x
completion (q.NameDot x) = closing_after x
completion (q.Operator x) = t.Operator ∷ t.Close ∷ closing_after x
completion (q.OperatorEnd x) = t.Close ∷ closing_after x
completion (q.OperatorClose x) = t.Close ∷ closing_after x

abbrev pub is_taken : {A : Type 0} → Result (List A × List (List A)) (List A) → Bool
is_taken (Ok c) = true
is_taken (Err e) = false

-- each state can be completed
pub completed : (s : DriverState) → is_taken (run s (completion s)) ≡ true
completed (q.Lines true) = refl
completed (q.Lines false) = refl
completed q.PathWord = refl
completed q.Path = refl
completed (q.LineText true) = refl
completed (q.LineText false) = refl
completed (q.MetaName true) = refl
completed (q.MetaName false) = refl
completed (q.Arguments true) = refl
completed (q.Arguments false) = refl
completed (q.Argument true) = refl
completed (q.Argument false) = refl
completed (q.MoreArguments true) = refl
completed (q.MoreArguments false) = refl
completed q.Value = refl
completed q.Values = refl
completed q.NameKind = refl
completed q.Removal = refl
completed (q.Name o.Syntax) = refl
completed (q.Name o.Remove) = refl
completed (q.Name (o.Meta true)) = refl
completed (q.Name (o.Meta false)) = refl
completed (q.NameDot o.Syntax) = refl
completed (q.NameDot o.Remove) = refl
completed (q.NameDot (o.Meta true)) = refl
completed (q.NameDot (o.Meta false)) = refl
completed (q.Operator o.Syntax) = refl
completed (q.Operator o.Remove) = refl
completed (q.Operator (o.Meta true)) = refl
completed (q.Operator (o.Meta false)) = refl
completed (q.OperatorEnd o.Syntax) = refl
completed (q.OperatorEnd o.Remove) = refl
completed (q.OperatorEnd (o.Meta true)) = refl
completed (q.OperatorEnd (o.Meta false)) = refl
completed (q.OperatorClose o.Syntax) = refl
completed (q.OperatorClose o.Remove) = refl
completed (q.OperatorClose (o.Meta true)) = refl
completed (q.OperatorClose (o.Meta false)) = refl
