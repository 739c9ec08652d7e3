-- The names of symbols in the task of a goal of a source.
use Rattle.std.proofs.Common.{◌≡◌, ℕ, ◌+◌, codes, List, [], ◌∷◌, ◌++◌, Option, Some, None, IsSomeAnd, refl, sym, subst, ap}
use Rattle.std.proofs.lemmas.List.Elements.{All-nil, All-cons, All-push, All-weaker}
use Rattle.surface.specs.tokens_why.declared.token.Token.{Token}
use Rattle.surface.specs.tokens_why.declared.terminal.Terminal.TheVariants as t
use Rattle.surface.specs.tokens_why.Tokens.{AreTokens}
use Rattle.tasks.specs.Task.{SymbolTree, TaskTree, int_symbol}
use Rattle.surface.specs.Lexeme.{Lexeme, mark, lx, rest}
use Rattle.surface.specs.Declarations.{SyntaxDeclarations, SyntaxTheory, heading, write_decls, write_theory, write_file}
use Rattle.surface.specs.declared.declarations.File.{File}
use Rattle.surface.specs.SurfaceDeclarations.{file_of}
use Rattle.parser.specs.grammar.recognise.Sources.{IsOnlyFile}
use Rattle.parser.specs.std_theories.Library.{LibraryEntry, AreFilesOf, library}
use Rattle.elaboration_laws.specs.theory_states.goal_tasks.Theories.{GoalTree, KnownTheoryTree, TheoriesTree, theory_named, goal_named}
use Rattle.elaboration_laws.specs.theory_states.goal_tasks.Tasks.{task_for, IsTaskOf}
use Rattle.theory_states.specs.States.{KnownTree, StateTree, known_as, opened_empty}
use Rattle.theories.specs.Typing.{AreDeclarationsTyped}
use Rattle.theories.specs.Files.{IsNewTheory, AreTypedIn, AreEmbeddedIn, AreEmbeddedBy, nothing_known, TheoriesOf}
use Rattle.tasks.specs.Words.{IsLineWord, NamesAreWords, NamesAreScoped}
use Rattle.theories.specs.Lexemes.{IsWordLexeme, AreWordLexemes}
use Rattle.theories.specs.Names.{HaveWords, HaveWordVariables, HasWordNames}
use Rattle.theories.proofs.Words.{written_name, line_word}
use Rattle.theories.proofs.Tokens.{tokens_words}
use Rattle.elaboration_laws.proofs.Variables.{tail_of, front_of, back_of}
use Rattle.theories.proofs.Tuples.{HasWord}
use Rattle.theories.proofs.Declared.{HasWordVariables}
use Rattle.theories.proofs.Typed.{all_typed_words}

abbrev Are : List Lexeme → Type 0
Are = AreWordLexemes

abbrev HasAxiomWords : KnownTree → Type 0
HasAxiomWords k = HaveWordVariables k.axioms

-- ---- a theory
begun_words : (c : StateTree) (path : List ℕ) (n : ℕ) → HasWordNames c → HasWordNames (record c { opened = opened_empty path; number = n })
begun_words c path n h = record { symbols = h.symbols; within = written_name [] refl; axioms = All-nil HasWordVariables; known = h.known }

ended_words : (c : StateTree) → HasWordNames c → HasWordNames (record c { known = c.known ++ known_as c.opened ∷ []; opened = opened_empty [] })
ended_words c h = record { symbols = h.symbols; within = written_name [] refl; axioms = All-nil HasWordVariables; known = All-push HasAxiomWords c.known (known_as c.opened) h.known h.axioms }

theory_words : (path : List ℕ) (ds : SyntaxDeclarations) (c c' : StateTree) → Are (write_decls ds) → IsNewTheory path ds c c' → HasWordNames c → HasWordNames c'
theory_words path ds c c' q s h =
    let begun = subst HasWordNames (sym s.typed.first) (begun_words c path (c.number + 1) h) in
    let m = all_typed_words ds s.typed.between s.typed.second.between q s.typed.second.first begun in
    subst HasWordNames (sym s.typed.second.second) (ended_words s.typed.second.between m)

declarations_of : (t' : SyntaxTheory) (ls : List Lexeme) → Are (write_theory t' ++ ls) → Are (write_decls t'.decls) × Are ls
declarations_of t' ls q =
    let end = mark t.EndWord ∷ [] in
    let own = front_of IsWordLexeme (write_theory t') ls q in
    let inner = tail_of IsWordLexeme (lx t.Uident t'.name.text) (write_decls t'.decls ++ end) (tail_of IsWordLexeme (mark (heading t'.is_module)) (lx t.Uident t'.name.text ∷ (write_decls t'.decls ++ end)) own) in
    (front_of IsWordLexeme (write_decls t'.decls) end inner, back_of IsWordLexeme (write_theory t') ls q)

-- ---- the theories of a source, and of a file of the library
source_words : (hs : List SyntaxTheory) (c c' : StateTree) → Are (write_file hs) → AreTypedIn hs c c' → HasWordNames c → HasWordNames c'
source_words [] c c' q s h = subst HasWordNames s h
source_words (x ∷ hs) c c' q s h =
    let parts = declarations_of x (write_file hs) q in
    source_words hs s.between c' parts.1 s.second (theory_words x.name.text x.decls c s.between parts.0 s.first h)

embedded_words : (path : List ℕ) (hs : List SyntaxTheory) (c c' : StateTree) → Are (write_file hs) → AreEmbeddedIn path hs c c' → HasWordNames c → HasWordNames c'
embedded_words path [] c c' q s h = subst HasWordNames s h
embedded_words path (x ∷ hs) c c' q s h =
    let parts = declarations_of x (write_file hs) q in
    let m = theory_words path x.decls c s.first.between parts.0 s.first.first h in
    let again : HasWordNames s.between = subst HasWordNames (sym s.first.second) (record { symbols = m.symbols; within = m.within; axioms = m.axioms; known = m.known }) in
    embedded_words path hs s.between c' parts.1 s.second again

file_words : (text : List ℕ) (ts : List Token) (file : List SyntaxTheory) → AreTokens text ts → IsOnlyFile (rest text ts 0) file → Are (write_file file)
file_words text ts file h only = subst Are (sym only.of.tokens) (tokens_words text ts 0 h)

library_words : (es : List LibraryEntry) (fs : List (List ℕ × File)) (c c' : StateTree) → AreFilesOf es fs → AreEmbeddedBy AreDeclarationsTyped fs c c' → HasWordNames c → HasWordNames c'
library_words [] [] c c' a s h = subst HasWordNames s h
library_words [] (f ∷ fs) c c' a s h = absurd a
library_words (e ∷ es) [] c c' a s h = absurd a
library_words (e ∷ es) (f ∷ fs) c c' a s h =
    let q = file_words e.1 a.1.tokens (file_of f.1) a.1.are a.1.only in
    library_words es fs s.between c' a.2 s.second (embedded_words f.0 (file_of f.1) c s.between q s.first h)

nothing_words : HasWordNames nothing_known
nothing_words = record { symbols = All-cons HasWord int_symbol [] (written_name (codes "int") refl) (All-nil HasWord); within = written_name [] refl; axioms = All-nil HasWordVariables; known = All-nil HasAxiomWords }

theories_words : (text : List ℕ) (ts : List Token) (file : List SyntaxTheory) (all : TheoriesTree) → AreTokens text ts → IsOnlyFile (rest text ts 0) file → TheoriesOf file all → HaveWords all.symbols
theories_words text ts file all h only of =
    let before = library_words library of.library.files nothing_known of.before of.library.are of.library.typed nothing_words in
    let after = source_words file of.before of.after (file_words text ts file h only) of.typed before in
    subst HaveWords (sym (ap (λ (x : TheoriesTree). x.symbols) of.are)) after.symbols

-- ---- the task of a goal
goal_words : (all : TheoriesTree) (th : KnownTheoryTree) (o : Option GoalTree) (task : TaskTree) → IsSomeAnd o (λ g. task ≡ task_for all th g) → HaveWords all.symbols → NamesAreScoped task
goal_words all th None task e h = absurd e
goal_words all th (Some g) task e h = subst NamesAreScoped (sym e) h

task_words : (all : TheoriesTree) (o : Option KnownTheoryTree) (goal : List ℕ) (task : TaskTree) → IsSomeAnd o (λ th. IsSomeAnd (goal_named th goal) (λ g. task ≡ task_for all th g)) → HaveWords all.symbols → NamesAreScoped task
task_words all None goal task e h = absurd e
task_words all (Some th) goal task e h = goal_words all th (goal_named th goal) task e h

pub names_scoped : (text : List ℕ) (ts : List Token) (file : List SyntaxTheory) (all : TheoriesTree) (theory goal : List ℕ) (task : TaskTree) → AreTokens text ts → IsOnlyFile (rest text ts 0) file → TheoriesOf file all → IsTaskOf all theory goal task → NamesAreScoped task
names_scoped text ts file all theory goal task h only of is = task_words all (theory_named all theory) goal task is (theories_words text ts file all h only of)

pub names_words : (text : List ℕ) (ts : List Token) (file : List SyntaxTheory) (all : TheoriesTree) (theory goal : List ℕ) (task : TaskTree) → AreTokens text ts → IsOnlyFile (rest text ts 0) file → TheoriesOf file all → IsTaskOf all theory goal task → NamesAreWords task
names_words text ts file all theory goal task h only of is = All-weaker HasWord (λ (e : SymbolTree). IsLineWord e.name) (λ e w. line_word e.name w) task.symbols (names_scoped text ts file all theory goal task h only of is)
