-- The theories of the embedded library are sound, and then those of a source.
use Rattle.std.proofs.Common.{◌≡◌, ℕ, ◌+◌, false, List, [], ◌∷◌, ◌++◌, length, Option, Some, None, refl, sym, subst}
use Rattle.std.specs.Prelude.{◌||◌}
use Rattle.std.specs.Str.{bytes_eq}
use Rattle.std.specs.Option.{is_some}
use Rattle.std.proofs.lemmas.List.Elements.{All-nil}
use Rattle.surface.specs.tokens_why.declared.token.Token.{Token}
use Rattle.surface.specs.tokens_why.Tokens.{AreTokens}
use Rattle.surface.specs.tokens_why.declared.terminal.Terminal.TheVariants as t
use Rattle.tasks.specs.Vocabulary.{is_empty}
use Rattle.surface.specs.Lexeme.{mark, lx, rest}
use Rattle.surface.specs.Declarations.{SyntaxDeclarations, SyntaxTheory, heading, write_decls, write_theory, write_file}
use Rattle.surface.specs.DeclarationRules.{AreLevelDecls, IsLevelFile}
use Rattle.surface.specs.declared.declarations.File.{File}
use Rattle.surface.specs.SurfaceDeclarations.{file_of}
use Rattle.parser.specs.grammar.recognise.Sources.{IsOnlyFile}
use Rattle.parser.specs.std_theories.Library.{LibraryEntry, AreFilesOf, library}
use Rattle.elaboration_laws.specs.elab_groups.parts.Entries.{builtin}
use Rattle.elaboration_laws.proofs.QuotedTokens.{tokens_quoted}
use Rattle.elaboration_laws.specs.theory_states.goal_tasks.Theories.{TheoriesTree}
use Rattle.elaboration_laws.specs.Placed.{ArePlaced}
use Rattle.theory_states.specs.States.{KnownTree, StateTree, known_named, opened_empty}
use Rattle.elaboration_laws.specs.TypedStates.{AreTypedTheories}
use Rattle.elaboration_laws.proofs.Keeping.{theories_same, begun_typed, ended_typed}
use Rattle.elaboration_laws.specs.Sound.{AreSoundTheories}
use Rattle.elaboration_laws.proofs.Begun.{begins, ends, nothing_sound}
use Rattle.theories.specs.Plain.{ArePlainAxioms, ArePlainTheories}
use Rattle.theories.proofs.Plain.{begins_plain, ends_plain}
use Rattle.theories.specs.Files.{IsTheoryBegun, IsEnded, is_path_taken, IsNewTheoryBy, AreTypedInBy, IsRestarted, AreEmbeddedInBy, AreEmbeddedBy, nothing_known}
use Rattle.theories.specs.Sound.{AreSoundlyTyped, SoundTheoriesOf}
use Rattle.theories.proofs.Ending.{nothing_typed, int_placed}
use Rattle.theories.proofs.Paths.{new_path}
use Rattle.theories.proofs.Forgetting.{source_forgotten, library_forgotten}
use Rattle.theories.proofs.IntGrowth.{source_ints}
use Rattle.theories.proofs.IntLibrary.{library_ints}
use Rattle.theories.specs.Sources.{AreSoundIn}
use Rattle.theories.proofs.SourceSteps.{AreQuoted, tail_of, front_of, back_of, IsGood, decls_good}
use Rattle.tasks.proofs.plain_laws.Bools.{or_second as right_false}

-- ---- between theories
pub record AreGood (c : StateTree) : Type 0 where
  pub typed : AreTypedTheories c
  pub placed : ArePlaced c.symbols
  pub plain : ArePlainTheories c.decls c.known
  pub sound : AreSoundTheories c.symbols c.decls c.known

none_of : (o : Option KnownTree) → is_some o ≡ false → o ≡ None
none_of None q = refl
none_of (Some k) q = absurd (cc)

-- no theory has a path that isn't taken
not_known : (path : List ℕ) (known : List KnownTree) → is_path_taken path known ≡ false → known_named known path ≡ None
not_known path known h = none_of (known_named known path) (right_false (bytes_eq path builtin) (is_some (known_named known path)) (right_false (is_empty path) (bytes_eq path builtin || is_some (known_named known path)) h))

begun_good : (path : List ℕ) (c c' : StateTree) → is_path_taken path c.known ≡ false → IsTheoryBegun path c c' → AreGood c → IsGood c'
begun_good path c c' new e h =
    let p = new_path path c.known new in
    subst IsGood (sym e) (record {
      typed = begun_typed c path (c.number + 1) p.named p.other h.typed;
      placed = h.placed;
      plain = begins_plain c.symbols c.decls c.known path (c.number + 1) h.plain;
      sound = begins c.symbols c.decls c.known path (c.number + 1) h.sound p.named p.other (not_known path c.known new);
    })

ended_good : (c c' : StateTree) → IsEnded c c' → IsGood c → AreGood c'
ended_good c c' e h = subst AreGood (sym e) (record {
  typed = ended_typed c (opened_empty []) c.number h.typed;
  placed = h.placed;
  plain = ends_plain c h.plain;
  sound = ends c h.sound;
})

new_good : (path : List ℕ) (ds : SyntaxDeclarations) (c c' : StateTree) → AreLevelDecls ds → AreQuoted (write_decls ds) → IsNewTheoryBy AreSoundlyTyped path ds c c' → AreGood c → AreGood c'
new_good path ds c c' w q u h =
    let x = u.typed in
    ended_good x.second.between c' x.second.second (decls_good ds x.between x.second.between w q x.second.first (begun_good path c x.between u.new x.first h))

restarted_good : (c c' : StateTree) → IsRestarted c c' → AreGood c → AreGood c'
restarted_good c c' e h = subst AreGood (sym e) (record { typed = theories_same c c.opened 0 h.typed; placed = h.placed; plain = h.plain; sound = h.sound })

-- ---- theories one after another
inside : (x : SyntaxTheory) → AreQuoted (write_theory x) → AreQuoted (write_decls x.decls)
inside x q =
    let more = write_decls x.decls ++ (mark t.EndWord ∷ []) in
    front_of (write_decls x.decls) (mark t.EndWord ∷ []) (tail_of (lx t.Uident x.name.text) more (tail_of (mark (heading x.is_module)) (lx t.Uident x.name.text ∷ more) q))

theories_good : (xs : List SyntaxTheory) (c c' : StateTree) → IsLevelFile xs → AreQuoted (write_file xs) → AreTypedInBy AreSoundlyTyped xs c c' → AreGood c → AreGood c'
theories_good [] c c' w q u h = subst AreGood u h
theories_good (x ∷ xs) c c' w q u h =
    theories_good xs u.between c' w.1 (back_of (write_theory x) (write_file xs) q) u.second
    (new_good x.name.text x.decls c u.between w.0 (inside x (front_of (write_theory x) (write_file xs) q)) u.first h)

embedded_good : (path : List ℕ) (xs : List SyntaxTheory) (c c' : StateTree) → IsLevelFile xs → AreQuoted (write_file xs) → AreEmbeddedInBy AreSoundlyTyped path xs c c' → AreGood c → AreGood c'
embedded_good path [] c c' w q u h = subst AreGood u h
embedded_good path (x ∷ xs) c c' w q u h =
    embedded_good path xs u.between c' w.1 (back_of (write_theory x) (write_file xs) q) u.second
    (restarted_good u.first.between u.between u.first.second (new_good path x.decls c u.first.between w.0 (inside x (front_of (write_theory x) (write_file xs) q)) u.first.first h))

-- ---- files
quoted_file : (text : List ℕ) (ts : List Token) (xs : List SyntaxTheory) → AreTokens text ts → IsOnlyFile (rest text ts 0) xs → AreQuoted (write_file xs)
quoted_file text ts xs are only = subst AreQuoted (sym only.of.tokens) (tokens_quoted text ts 0 are)

files_good : (es : List LibraryEntry) (fs : List (List ℕ × File)) (c c' : StateTree) → AreFilesOf es fs → AreEmbeddedBy AreSoundlyTyped fs c c' → AreGood c → AreGood c'
files_good [] [] c c' a u h = subst AreGood u h
files_good [] (f ∷ fs) c c' a u h = absurd a
files_good (e ∷ es) [] c c' a u h = absurd a
files_good (e ∷ es) (f ∷ fs) c c' a u h =
    files_good es fs u.between c' a.2 u.second
    (embedded_good f.0 (file_of f.1) c u.between a.1.only.of.right (quoted_file e.1 a.1.tokens (file_of f.1) a.1.are a.1.only) u.first h)

nothing_good : AreGood nothing_known
nothing_good = record { typed = nothing_typed; placed = int_placed; plain = All-nil (λ (t : KnownTree). ArePlainAxioms [] t.axioms); sound = nothing_sound }

pub source_sound : (text : List ℕ) (ts : List Token) (file : List SyntaxTheory) (all : TheoriesTree) → AreTokens text ts → IsOnlyFile (rest text ts 0) file → SoundTheoriesOf file all → AreSoundIn all
source_sound text ts file all are only h =
    let b : AreGood h.before = files_good library h.library.files nothing_known h.before h.library.are h.library.typed nothing_good in
    let a : AreGood h.after = theories_good file h.before h.after only.of.right (quoted_file text ts file are only) h.typed b in
    record {
      state = h.after;
      embedded = length h.before.known;
      are = h.are;
      ints = source_ints file h.before h.after (source_forgotten file h.before h.after h.typed) (library_ints h.before (library_forgotten h.before h.library));
      sound = a.sound;
    }
