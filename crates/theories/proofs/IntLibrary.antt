-- The library's first theory is int.Int, so that its entries are the first ones after `int`.
use Rattle.std.proofs.Common.{ℕ, List, [], ◌∷◌, codes, refl, sym, subst}
use Rattle.tasks.specs.Task.{SymbolTree}
use Rattle.tasks.specs.Valid.{AreInts}
use Rattle.surface.specs.Declarations.{SyntaxDeclarations, SyntaxTheory}
use Rattle.surface.specs.declared.declarations.File.{File}
use Rattle.surface.specs.SurfaceDeclarations.{file_of}
use Rattle.parser.specs.std_theories.Library.{AreFilesOf, library}
use Rattle.parser.proofs.std_theories.IntFile.{IsIntTheory, IsIntFile, int_file}
use Rattle.elaboration_laws.specs.theory_states.goal_tasks.Theories.{TheoriesTree}
use Rattle.theory_states.specs.States.{StateTree}
use Rattle.theories.specs.Ints.{int_entries}
use Rattle.theories.specs.Typing.{AreDeclarationsTyped}
use Rattle.theories.specs.Files.{IsNewTheory, AreEmbeddedIn, AreEmbeddedBy, nothing_known, IsLibraryTyped, TheoriesOf}
use Rattle.theories.proofs.IntSteps.{IsIntState}
use Rattle.theories.proofs.IntEntries.{scope_0, symbols_0, symbols_8, int_state}
use Rattle.theories.proofs.IntGrowth.{HasInts, all_typed_ints, embedded_ints, files_ints, source_ints}

ints_there : AreInts symbols_8 int_entries
ints_there = record { neg = refl; add = refl; sub = refl; mul = refl; lt = refl; le = refl; gt = refl; ge = refl }

-- ---- the theory
declared_ints : (h : SyntaxTheory) (c c' : StateTree) → IsIntTheory h → AreDeclarationsTyped h.decls c c' → IsIntState symbols_0 scope_0 c → HasInts c'
declared_ints h c c' i s at =
    let b = int_state i.others c c' (subst (λ (ds : SyntaxDeclarations). AreDeclarationsTyped ds c c') i.is s) at in
    let there : HasInts b.0 = subst (λ (es : List SymbolTree). AreInts es int_entries) (sym b.1.symbols_are) ints_there in
    all_typed_ints i.others b.0 c' b.2 there

theory_ints : (h : SyntaxTheory) (c' : StateTree) → IsIntTheory h → IsNewTheory (codes "int.Int") h.decls nothing_known c' → HasInts c'
theory_ints h c' i u =
    let x = u.typed in
    let begun : IsIntState symbols_0 scope_0 x.between = subst (IsIntState symbols_0 scope_0) (sym x.first) (record { symbols_are = refl; scope_is = refl; within_is = refl; path_is = refl }) in
    subst HasInts (sym x.second.second) (declared_ints h x.between x.second.between i x.second.first begun)

-- ---- its file
file_ints : (hs : List SyntaxTheory) (c' : StateTree) → IsIntFile hs → AreEmbeddedIn (codes "int.Int") hs nothing_known c' → HasInts c'
file_ints [] c' i u = absurd i
file_ints (h ∷ []) c' i u =
    let there : HasInts u.between = subst HasInts (sym u.first.second) (theory_ints h u.first.between i u.first.first) in
    embedded_ints (codes "int.Int") [] u.between c' u.second there
file_ints (h ∷ k ∷ hs) c' i u = absurd i

-- ---- the library, and then a source
files_of_library : (fs : List (List ℕ × File)) (c : StateTree) → AreFilesOf library fs → AreEmbeddedBy AreDeclarationsTyped fs nothing_known c → HasInts c
files_of_library [] c a u = absurd a
files_of_library (f ∷ fs) c a u =
    let first : AreEmbeddedIn (codes "int.Int") (file_of f.1) nothing_known u.between = subst (λ (path : List ℕ). AreEmbeddedIn path (file_of f.1) nothing_known u.between) a.0 u.first in
    files_ints fs u.between c u.second (file_ints (file_of f.1) u.between (int_file f.1 a.1) first)

pub library_ints : (c : StateTree) → IsLibraryTyped c → AreInts c.symbols int_entries
library_ints c h = files_of_library h.files c h.are h.typed

pub theories_ints : (file : List SyntaxTheory) (all : TheoriesTree) → TheoriesOf file all → AreInts all.symbols int_entries
theories_ints file all h =
    let after : HasInts h.after = source_ints file h.before h.after h.typed (library_ints h.before h.library) in
    subst (λ (x : TheoriesTree). AreInts x.symbols int_entries) (sym h.are) after
