use Rattle.std.proofs.Common.{◌≡◌, ℕ, zero, suc, ◌++◌, List, [], ◌∷◌, Option, Some, None, slice_get, option_map, All, IfSome, refl, sym, ap, subst, ◌∙◌, arith}
use Rattle.std.proofs.lemmas.Result.{on_ok_weaker}
use Rattle.trees.specs.Tree.{Tree}
use Rattle.trees.specs.declared.TermId.{TermId}
use Rattle.trees.specs.Node.{tree_at, Holds}
use Rattle.tasks.specs.declared.signature.SymbolInfo.{SymbolInfo}
use Rattle.tasks.specs.Task.{SymbolTree, symbol_or, int_symbol}
use Rattle.tasks.specs.Meaning.{trees_at, symbol_at, symbols_at, SymbolHeld}
use Rattle.theory_states.specs.goal_tasks.Named.{all_named, option_named, signature_named}
use Rattle.theory_states.specs.goal_tasks.Gathered.{Walks}
use Rattle.theory_states.proofs.goal_tasks.Lists.{walks_step}
use Rattle.theory_states.proofs.goal_tasks.Steps.{walks_none}
use Rattle.theory_states.proofs.goal_tasks.declarations.note_symbol.Goals as goal
use Rattle.tasks.proofs.outside.Passed.{no_ok}

missing : (s : List Tree) (xs : List SymbolInfo) (k : ℕ) → None ≡ slice_get xs k → int_symbol ≡ symbol_or (symbols_at s xs) k
missing s [] k e = refl
missing s (x ∷ xs) zero e = absurd (cc)
missing s (x ∷ xs) (suc k) e = missing s xs k e

there : (s : List Tree) (xs : List SymbolInfo) (k : ℕ) (x : SymbolInfo) → Some x ≡ slice_get xs k → symbol_or (symbols_at s xs) k ≡ symbol_at s x
there s [] k x e = absurd (cc)
there s (y ∷ ys) zero x e = let f : Some x ≡ Some y = e in let q : y ≡ x = cc in ap (symbol_at s) q
there s (y ∷ ys) (suc k) x e = there s ys k x e

held : (P : SymbolInfo → Type 0) (xs : List SymbolInfo) (k : ℕ) (x : SymbolInfo) → Some x ≡ slice_get xs k → All P xs → P x
held P [] k x e a = absurd (cc)
held P (y ∷ ys) zero x e a = let f : Some x ≡ Some y = e in let q : y ≡ x = cc in subst P q (a 0 y (omega arith))
held P (y ∷ ys) (suc k) x e a = held P ys k x e (λ i d l. a (suc i) d (omega arith))

named_there : (s : List Tree) (xs : List SymbolInfo) (k : ℕ) (x : SymbolInfo) (args : List TermId) (o : Option TermId) → Some x ≡ slice_get xs k → args ≡ x.args → x.result ≡ o → signature_named (symbol_or (symbols_at s xs) k) ≡ all_named (trees_at s args) ++ option_named (option_map (tree_at s) o)
named_there s xs k x args o e q r =
    ap signature_named (there s xs k x e)
    ∙ ap (λ (z : List TermId). all_named (trees_at s z) ++ option_named (option_map (tree_at s) x.result)) (sym q)
    ∙ ap (λ (z : Option TermId). all_named (trees_at s args) ++ option_named (option_map (tree_at s) z)) r

pub note_trees-requires-clause-walk : goal.note_trees-requires-clause-walk
note_trees-requires-clause-walk c = c.requires.walk

pub note_trees-requires-clause-held : goal.note_trees-requires-clause-held
note_trees-requires-clause-held c =
    let s = c.args.store.now in
    let info : SymbolHeld s c.in-Some.info.now = held (SymbolHeld s) c.args.sig.now.symbols c.args.symbol c.in-Some.info.now c.in-Some.ensures.value c.requires.symbols_held in
    subst (λ (z : List TermId). All (Holds s) z) (sym c.as_slice.ensures) info.args

pub note_tree-requires-clause-walk : goal.note_tree-requires-clause-walk
note_tree-requires-clause-walk c = c.in_ok-note_trees-in-Some.ensures.is_done

pub note_tree-requires-clause-held : goal.note_tree-requires-clause-held
note_tree-requires-clause-held c =
    let s = c.args.store.now in
    let info : SymbolHeld s c.in-Some.info.now = held (SymbolHeld s) c.args.sig.now.symbols c.args.symbol c.in-Some.info.now c.in-Some.ensures.value c.requires.symbols_held in
    subst (λ (o : Option TermId). IfSome o (Holds s)) c.in-Some-result.is info.result

pub returns-in_err-note_trees-in-Some : goal.returns-in_err-note_trees-in-Some
returns-in_err-note_trees-in-Some c = no_ok _ _ c.from_residual.result c.from_residual.ensures.1

pub returns-in-Some-result : goal.returns-in-Some-result
returns-in-Some-result c =
    let s = c.args.store.now in
    let q = named_there s c.args.sig.now.symbols c.args.symbol c.in-Some.info.now c.as_slice.result.now (Some c.in-Some-result.ty) c.in-Some.ensures.value c.as_slice.ensures c.in-Some-result.is in
    on_ok_weaker c.note_tree.result (λ k. walks_step s _ _ _ _ _ _ _ _ q c.in_ok-note_trees-in-Some.ensures k) c.note_tree.ensures

pub returns-in-None-result : goal.returns-in-None-result
returns-in-None-result c =
    let s = c.args.store.now in
    let q = named_there s c.args.sig.now.symbols c.args.symbol c.in-Some.info.now c.as_slice.result.now None c.in-Some.ensures.value c.as_slice.ensures c.in-None-result.is in
    walks_step s _ _ _ _ _ _ _ _ q c.in_ok-note_trees-in-Some.ensures (walks_none s _ _ c.in_ok-note_trees-in-Some.ensures.is_done)

pub returns-in-None : goal.returns-in-None
returns-in-None c =
    let s = c.args.store.now in
    let xs = c.args.sig.now.symbols in
    let f = c.args.found.now.keys in
    let d = c.args.done.now.keys in
    let none : Walks s f f d (signature_named int_symbol) = walks_none s f d c.requires.walk in
    subst (λ (x : SymbolTree). Walks s f f d (signature_named x)) (missing s xs c.args.symbol c.in-None.ensures.value) none
