-- A source has its theories and a goal its task, or one fault that is first, where the theories of each file are determined.
use Rattle.std.proofs.Common.{◌≡◌, ◌≢◌, ◌<◌, ◌++◌, ◌∷◌, [], ◌∙◌, ℕ, List, Option, Ok, Err, refl, sym, ap, subst, arith, append_assoc, append-nil}
use Rattle.statuses.specs.outside.State.{Files}
use Rattle.surface.specs.tokens_why.declared.terminal.Terminal.{Terminal}
use Rattle.surface.specs.tokens_why.declared.token.Token.{Token}
use Rattle.surface.specs.tokens_why.Tokens.{Reads, AreTokens}
use Rattle.surface.specs.tokens_why.Tokens as text
use Rattle.surface.proofs.tokens_why.TurnLemmas.{Turn, first, turn, Reading, stopped}
use Rattle.surface.specs.Lexeme.{rest, terminals}
use Rattle.surface.specs.Declarations.{SyntaxTheory, write_file}
use Rattle.surface.specs.DeclarationRules.{IsLevelFile}
use Rattle.parser.specs.grammar.reading.Sentences.{IsOf}
use Rattle.parser.specs.grammar.recognise.Depth.{IsTooDeep, IsShallow}
use Rattle.parser.specs.grammar.recognise.Sources.{IsProgramDecl}
use Rattle.parser.proofs.grammar.recognise.OneFault.{one_least}
use Rattle.statuses.specs.declared.fault_order.faults.Fault.TheVariants.{Lexical, BigLiteral, Syntax, TooDeep, ProgramDecl}
use Rattle.statuses.specs.fault_order.Order.{RunStop, refused, misused, Answer, HasOneAnswer, fetched, if_short, ShortFile}
use Rattle.program.specs.source_goals.Order.{HasNoTokens, Lexes, IsNoFile, Parses, Declares, AreDetermined, FileTheories, SourceTheories, SourceTheoriesOf, TaskOf, Goal}
use Rattle.statuses.proofs.fault_order.OneStage.{one_answer, one_after}
use Rattle.parser.proofs.std_theories.Readings.{reading_from}

reading : (bytes : List ℕ) (stop : text.Stop) (ts : List Token) → Reads bytes stop 0 ts → Reading bytes stop ts
reading bytes stop ts r = reading_from bytes 0 stop [] ts (first bytes) r

-- what a run tells where a reading stops
abbrev text_stop : text.Stop → RunStop
text_stop text.whole = misused
text_stop (text.lexical byte) = refused (Lexical byte)
text_stop (text.big byte) = refused (BigLiteral byte)

record NoTokens (bytes : List ℕ) (stop : RunStop) : Type 0 where
  at : text.Stop
  tokens : List Token
  reads : Reads bytes at 0 tokens
  short : at ≢ text.whole
  is : stop ≡ text_stop at

no_tokens : (bytes : List ℕ) (stop : RunStop) → HasNoTokens bytes stop → NoTokens bytes stop
no_tokens bytes (refused (Lexical byte)) h = record { at = text.lexical byte; tokens = h.0; reads = h.1; short = λ e. cc; is = refl }
no_tokens bytes (refused (BigLiteral byte)) h = record { at = text.big byte; tokens = h.0; reads = h.1; short = λ e. cc; is = refl }
no_tokens bytes _ h = absurd h

tokens_or : (bytes : List ℕ) (ts : List Token) (stop : RunStop) → AreTokens bytes ts → HasNoTokens bytes stop → ⊥
tokens_or bytes ts stop a h =
    let n = no_tokens bytes stop h in
    n.short ((reading bytes text.whole ts a).only n.at n.tokens n.reads).0

one_lexes : (bytes : List ℕ) → HasOneAnswer (Lexes bytes)
one_lexes bytes (Ok ts) (Ok us) a b = ap (λ (z : List Token). Ok z) (sym ((reading bytes text.whole ts a).only text.whole us b).1)
one_lexes bytes (Ok ts) (Err stop) a b = absurd (tokens_or bytes ts stop a b)
one_lexes bytes (Err stop) (Ok ts) a b = absurd (tokens_or bytes ts stop b a)
one_lexes bytes (Err stop) (Err other) a b =
    let n = no_tokens bytes stop a in
    let m = no_tokens bytes other b in
    let same : m.at ≡ n.at = ((reading bytes n.at n.tokens n.reads).only m.at m.tokens m.reads).0 in
    ap (λ (z : RunStop). Err z) (n.is ∙ ap text_stop (sym same) ∙ sym m.is)

one_deep : (xs : List Terminal) (i j : ℕ) → IsTooDeep xs i → IsTooDeep xs j → i ≡ j
one_deep xs i j a b =
    let above : (i < j → ⊥) = λ h. let l = b.first i h in let d = a.deep in let n : ⊥ = omega arith in n in
    let below : (j < i → ⊥) = λ h. let l = a.first j h in let d = b.deep in let n : ⊥ = omega arith in n in
    omega arith

deep_or : (xs : List Terminal) (i : ℕ) → IsShallow xs → IsTooDeep xs i → ⊥
deep_or xs i s h = let l = s i h.within in let d = h.deep in omega arith

-- why tokens are no source
data Why : Type 0 where
  deep : ℕ → Why
  program : ℕ → Why
  syntax_at : ℕ → Why

abbrev why_stop : Why → RunStop
why_stop (deep token) = refused (TooDeep token)
why_stop (program token) = refused (ProgramDecl token)
why_stop (syntax_at token) = refused (Syntax token)

-- the tokens of a text
module _ (bytes : List ℕ) (tokens : List Token) where
  abbrev IsWhy : Why → Type 0
  IsWhy w = IsNoFile (rest bytes tokens 0) (why_stop w)

  record NoFile (stop : RunStop) : Type 0 where
    why : Why
    holds : IsWhy why
    is : stop ≡ why_stop why

  no_file : (stop : RunStop) → IsNoFile (rest bytes tokens 0) stop → NoFile stop
  no_file (refused (TooDeep token)) h = record { why = deep token; holds = h; is = refl }
  no_file (refused (ProgramDecl token)) h = record { why = program token; holds = h; is = refl }
  no_file (refused (Syntax token)) h = record { why = syntax_at token; holds = h; is = refl }
  no_file _ h = absurd h

  one_why : (v w : Why) → IsWhy v → IsWhy w → v ≡ w
  one_why (deep i) (deep j) a b = ap deep (one_deep (terminals (rest bytes tokens 0)) i j a b)
  one_why (deep i) (program j) a b = absurd (deep_or (terminals (rest bytes tokens 0)) i b.0 a)
  one_why (deep i) (syntax_at j) a b = absurd (deep_or (terminals (rest bytes tokens 0)) i b.0 a)
  one_why (program i) (deep j) a b = absurd (deep_or (terminals (rest bytes tokens 0)) j a.0 b)
  one_why (program i) (program j) a b = ap program (one_least bytes tokens i j a.1 b.1)
  one_why (program i) (syntax_at j) a b = absurd (b.2 (subst (IsProgramDecl (rest bytes tokens 0)) (one_least bytes tokens i j a.1 b.1) a.2))
  one_why (syntax_at i) (deep j) a b = absurd (deep_or (terminals (rest bytes tokens 0)) j a.0 b)
  one_why (syntax_at i) (program j) a b = absurd (a.2 (subst (IsProgramDecl (rest bytes tokens 0)) (one_least bytes tokens j i b.1 a.1) b.2))
  one_why (syntax_at i) (syntax_at j) a b = ap syntax_at (one_least bytes tokens i j a.1 b.1)

  file_or : (file : List SyntaxTheory) (w : Why) → IsShallow (terminals (rest bytes tokens 0)) → IsOf IsLevelFile write_file (rest bytes tokens 0) file → IsWhy w → ⊥
  file_or file (deep i) s f h = deep_or (terminals (rest bytes tokens 0)) i s h
  file_or file (program i) s f h = h.1.none file f
  file_or file (syntax_at i) s f h = h.1.none file f

  one_parses : HasOneAnswer (Parses (rest bytes tokens 0))
  one_parses (Ok f) (Ok g) a b = ap (λ (z : List SyntaxTheory). Ok z) (b.1.only f a.1.of a.1.placed)
  one_parses (Ok f) (Err stop) a b = let n = no_file stop b in absurd (file_or f n.why a.0 a.1.of n.holds)
  one_parses (Err stop) (Ok f) a b = let n = no_file stop a in absurd (file_or f n.why b.0 b.1.of n.holds)
  one_parses (Err stop) (Err other) a b =
      let n = no_file stop a in
      let m = no_file other b in
      ap (λ (z : RunStop). Err z) (n.is ∙ ap why_stop (one_why n.why m.why n.holds m.holds) ∙ sym m.is)

pub one_short_file : (file : ℕ) (name : List ℕ) (files : Files) (limit : Option ℕ) → HasOneAnswer (ShortFile file name files limit)
one_short_file file name files limit =
    one_after (Answer (fetched file name 67108865 files limit)) (λ bytes. Answer (if_short file bytes)) (one_answer _) (λ bytes. one_answer _)

module _ (determined : AreDetermined) where
  one_file_theories : (bytes : List ℕ) (tokens : List Token) → HasOneAnswer (FileTheories bytes tokens)
  one_file_theories bytes tokens = one_after (Parses (rest bytes tokens 0)) Declares (one_parses bytes tokens) determined

  one_theories : (bytes : List ℕ) → HasOneAnswer (SourceTheories bytes)
  one_theories bytes = one_after (Lexes bytes) (FileTheories bytes) (one_lexes bytes) (one_file_theories bytes)

  pub one_source : (src : List ℕ) (files : Files) (limit : Option ℕ) → HasOneAnswer (SourceTheoriesOf src files limit)
  one_source src files limit = one_after (ShortFile 0 src files limit) SourceTheories (one_short_file 0 src files limit) one_theories

  pub one_goal : (src theory goal : List ℕ) (files : Files) (limit : Option ℕ) → HasOneAnswer (Goal src theory goal files limit)
  one_goal src theory goal files limit = one_after (SourceTheoriesOf src files limit) (TaskOf theory goal) (one_source src files limit) (λ all. one_answer _)
