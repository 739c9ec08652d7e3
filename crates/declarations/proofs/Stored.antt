-- Declarations in the place of others, over a store that grows, one more.
use Rattle.std.specs.List.{flat_map}
use Rattle.std.proofs.Common.{◌≡◌, ℕ, zero, suc, ◌+◌, ◌<◌, List, [], ◌∷◌, ◌++◌, length, get_or, drop, All, sym, ap, subst, ◌∙◌, arith, append_assoc}
use Rattle.std.proofs.lemmas.List.{at_drop_more}
use Rattle.std.proofs.lemmas.List.Elements.{All-weaker}
use Rattle.trees.specs.Tree.{Tree}
use Rattle.trees.specs.declared.TermId.{TermId}
use Rattle.trees.specs.Node.{tree_at, trees_at, Grows}
use Rattle.tasks.specs.declared.signature.SymbolInfo.{SymbolInfo}
use Rattle.tasks.specs.declared.declaration.Decl.{Decl}
use Rattle.tasks.specs.declared.task.Task.{Task}
use Rattle.tasks.specs.Task.{SymbolTree, DeclarationTree, TaskTree}
use Rattle.tasks.specs.Vocabulary.{of_task}
use Rattle.tasks.specs.Valid.{IsValid, IsValidDecl}
use Rattle.tasks.specs.Meaning.{symbols_at, declaration_at, declarations_at, task_at, SymbolHeld, DeclHeld, TaskHeld}
use Rattle.tasks.proofs.Growth.{symbol_held_later, symbols_later, declaration_later, decl_held_later, task_later}
use Rattle.evidence.specs.task_parts.Parts.{task_with}
use Rattle.declarations.specs.Rewritten.{DeclarationRule, rewritten_task}
use Rattle.declarations.specs.Stored.{IsValidIn}

-- a declaration of a valid task, in a store that has grown
pub own_valid : (s s1 : List Tree) → Grows s s1 → (t : Task) (i : ℕ) (d : Decl) → i < length t.decls → d ≡ get_or t.decls i d → TaskHeld s t → IsValid (task_at s t) → IsValidIn s1 t.sig.value.symbols d
own_valid s s1 g t i d l q h v =
    let held : DeclHeld s d = subst (DeclHeld s) (sym q) (h.decls i d l) in
    record {
      symbols = All-weaker (SymbolHeld s) (SymbolHeld s1) (symbol_held_later s s1 g) t.sig.value.symbols h.symbols;
      held = decl_held_later s s1 g d held;
      vocabulary = of_task (task_at s t);
      same = sym (symbols_later s s1 g t.sig.value.symbols h.symbols);
      valid = subst (IsValidDecl (of_task (task_at s t))) (sym (declaration_later s s1 g d held)) (at_place s t.decls i d l q v.decls);
    }
  where
    at_place : (s : List Tree) (ds : List Decl) (i : ℕ) (d : Decl) → i < length ds → d ≡ get_or ds i d → All (IsValidDecl (of_task (task_at s t))) (declarations_at s ds) → IsValidDecl (of_task (task_at s t)) (declaration_at s d)
    at_place s [] i d l q a = absurd (omega arith)
    at_place s (x ∷ ds) zero d l q a = subst (λ (z : Decl). IsValidDecl (of_task (task_at s t)) (declaration_at s z)) (sym q) (a 0 (declaration_at s x) (omega arith))
    at_place s (x ∷ ds) (suc i) d l q a = at_place s ds i d (omega arith) q (λ k e m. a (suc k) e (omega arith))

-- what a rule says of a declaration stays as the store grows
pub rule_later : (s s1 : List Tree) → Grows s s1 → (g : DeclarationRule) (is : List SymbolInfo) (d : Decl) → All (SymbolHeld s) is → DeclHeld s d → g (symbols_at s1 is) (declaration_at s1 d) ≡ g (symbols_at s is) (declaration_at s d)
rule_later s s1 x g is d a h = ap (λ (z : List SymbolTree). g z (declaration_at s1 d)) (symbols_later s s1 x is a) ∙ ap (g (symbols_at s is)) (declaration_later s s1 x d h)

-- one declaration more
pub rewritten_more : (f : DeclarationTree → List DeclarationTree) (s : List Tree) (decls : List Decl) (i : ℕ) (d : Decl) (old new : List DeclarationTree) → i < length decls → d ≡ get_or decls i d
    → new ≡ old ++ f (declaration_at s d) → old ++ flat_map f (declarations_at s (drop i decls)) ≡ flat_map f (declarations_at s decls)
    → new ++ flat_map f (declarations_at s (drop (i + 1) decls)) ≡ flat_map f (declarations_at s decls)
rewritten_more f s decls i d old new l q e h =
    let rest = flat_map f (declarations_at s (drop (i + 1) decls)) in
    let at : flat_map f (declarations_at s (drop i decls)) ≡ f (declaration_at s d) ++ rest =
    at_drop_more (λ (ds : List Decl). flat_map f (declarations_at s ds)) decls i d l ∙ ap (λ (x : Decl). flat_map f (declarations_at s (x ∷ drop (i + 1) decls))) (sym q) in
    ap (λ (z : List DeclarationTree). z ++ rest) e ∙ append_assoc old (f (declaration_at s d)) rest ∙ ap (λ (z : List DeclarationTree). old ++ z) (sym at) ∙ h

-- a task with other declarations and its own other parts
pub own_parts : (s : List Tree) (t : Task) (ds : List DeclarationTree) (params locals : List TermId) (copy : TaskTree) → params ≡ t.params → locals ≡ t.locals
    → copy ≡ task_with (task_at s t) ds (trees_at s params) (trees_at s locals) (tree_at s t.goal) → copy ≡ record (task_at s t) { decls = ds }
own_parts s t ds params locals copy p q e =
    e ∙ ap (λ (z : List TermId). task_with (task_at s t) ds (trees_at s z) (trees_at s locals) (tree_at s t.goal)) p ∙ ap (λ (z : List TermId). task_with (task_at s t) ds (trees_at s t.params) (trees_at s z) (tree_at s t.goal)) q

pub task_is : (s s1 : List Tree) → Grows s s1 → (g : DeclarationRule) (t : Task) (ds : List DeclarationTree) (copy : TaskTree) → TaskHeld s t → copy ≡ record (task_at s1 t) { decls = ds }
    → ds ≡ flat_map (g (symbols_at s t.sig.value.symbols)) (declarations_at s t.decls) → copy ≡ rewritten_task g (task_at s t)
task_is s s1 x g t ds copy h e q =
    e ∙ ap (λ (z : TaskTree). record z { decls = ds }) (task_later s s1 x t h) ∙ ap (λ (z : List DeclarationTree). record (task_at s t) { decls = z }) q
