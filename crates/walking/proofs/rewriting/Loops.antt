-- One declaration more, or one local, over a store that has grown.
use Rattle.std.proofs.Common.{◌≡◌, ℕ, ◌+◌, ◌<◌, List, [], ◌∷◌, ◌++◌, map, length, get_or, drop, All, refl, sym, ap, subst, ◌∙◌, arith}
use Rattle.std.proofs.lemmas.List.{length-map, get_or-map}
use Rattle.tasks.specs.trees.declared.TermId.{TermId}
use Rattle.tasks.specs.trees.Tree.{Tree}
use Rattle.tasks.specs.trees.Node.{tree_at, Holds, Grows}
use Rattle.tasks.specs.declared.declaration.Decl.{Decl}
use Rattle.tasks.specs.declared.task.Task.{Task}
use Rattle.tasks.specs.Task.{TaskTree, DeclarationTree}
use Rattle.tasks.specs.Meaning.{trees_at, body_at, declaration_at, declarations_at, task_at, DeclHeld}
use Rattle.tasks.proofs.Growth.{task_later, tree_later}
use Rattle.evidence.specs.declared.stage.StageFault.{StageFault}
use Rattle.evidence.specs.changed_tasks.Changed.{with_formula, changed_declarations}
use Rattle.evidence.specs.changed_tasks.Limits.{IsLarge, AreLarge, IsLargeBody, AreLargeDeclarations}
use Rattle.evidence.proofs.changed_tasks.Large.{large_declaration, large_formula}
use Rattle.walking.specs.rewriting.Formulas.{CanRewrite, IsFormulaIn}
use Rattle.walking.specs.rewriting.Faults.{IsLimitFault}
use Rattle.walking.proofs.rewriting.Faults.{limit_weaker}
use Rattle.walking.proofs.rewriting.Mapped.{mapped_more, decls_pushed, ids_pushed, can_later, becomes_later, own_decl, own_local}

module _ (ready : TaskTree → List Tree → Type 0) (stays : (t : TaskTree) (s s1 : List Tree) → Grows s s1 → ready t s → ready t s1) (g : TaskTree → Tree → Tree) (s s1 : List Tree) (w : Grows s s1) (task : Task) (c : CanRewrite ready s task) where
  pub can_now : CanRewrite ready s1 task
  can_now = can_later s s1 w ready (λ t r. stays t s s1 w r) task c

  abbrev becomes : DeclarationTree → DeclarationTree
  becomes d = with_formula (g (task_at s task)) d d.body

  module _ (i : ℕ) (d : Decl) (l : i < length task.decls) (q : d ≡ get_or task.decls i d) where
    held : DeclHeld s d
    held = (own_decl ready s task i d c l q).0

    same_becomes : with_formula (g (task_at s1 task)) (declaration_at s1 d) (body_at s1 d.body) ≡ becomes (declaration_at s d)
    same_becomes = becomes_later s s1 w g task d c.held held

    pub decl_fault : (f : StageFault) → IsLimitFault (IsLargeBody (with_formula (g (task_at s1 task)) (declaration_at s1 d) (body_at s1 d.body)).body) f
        → IsLimitFault (AreLargeDeclarations (changed_declarations (g (task_at s task)) (task_at s task).decls)) f
    decl_fault f x =
        let m = length-map task.decls (declaration_at s) in
        let n = length-map (declarations_at s task.decls) becomes in
        let at : get_or (map becomes (declarations_at s task.decls)) i (becomes (declaration_at s d)) ≡ becomes (declaration_at s d) =
        get_or-map becomes (declarations_at s task.decls) i (declaration_at s d) (becomes (declaration_at s d)) (omega (arith, l, m))
        ∙ ap becomes (get_or-map (declaration_at s) task.decls i d (declaration_at s d) l ∙ ap (declaration_at s) (sym q)) in
        limit_weaker _ _ (λ y. large_declaration (map becomes (declarations_at s task.decls)) i (becomes (declaration_at s d)) (omega (arith, l, m, n)) (subst (λ (z : DeclarationTree). IsLargeBody z.body) (sym at) (subst (λ (z : DeclarationTree). IsLargeBody z.body) same_becomes y))) f x

    pub decl_more : (s2 : List Tree) → Grows s1 s2 → (old new : List Decl) (made : Decl) → All (DeclHeld s1) old → DeclHeld s2 made → new ≡ old ++ made ∷ []
        → declaration_at s2 made ≡ with_formula (g (task_at s1 task)) (declaration_at s1 d) (body_at s1 d.body)
        → declarations_at s1 old ++ map becomes (declarations_at s (drop i task.decls)) ≡ map becomes (declarations_at s task.decls)
        → declarations_at s2 new ++ map becomes (declarations_at s (drop (i + 1) task.decls)) ≡ map becomes (declarations_at s task.decls)
    decl_more s2 y old new made a h e p k =
        mapped_more (declaration_at s) becomes task.decls i d (declarations_at s1 old) (declarations_at s2 new) l q
        ((decls_pushed s1 s2 y old made new e a h).1 ∙ ap (λ (z : DeclarationTree). declarations_at s1 old ++ z ∷ []) (p ∙ same_becomes)) k

  module _ (i : ℕ) (a : TermId) (l : i < length task.locals) (q : a ≡ get_or task.locals i a) where
    local_held : Holds s a
    local_held = (own_local ready s task i a c l q).held

    same_image : g (task_at s1 task) (tree_at s1 a) ≡ g (task_at s task) (tree_at s a)
    same_image = ap (λ (t : TaskTree). g t (tree_at s1 a)) (task_later s s1 w task c.held) ∙ ap (g (task_at s task)) (tree_later s s1 w a local_held)

    pub local_fault : (f : StageFault) → IsLimitFault (IsLarge (g (task_at s1 task) (tree_at s1 a))) f → IsLimitFault (AreLarge (map (g (task_at s task)) (task_at s task).locals)) f
    local_fault f x =
        let h = g (task_at s task) in
        let m = length-map task.locals (tree_at s) in
        let n = length-map (trees_at s task.locals) h in
        let at : get_or (map h (trees_at s task.locals)) i (h (tree_at s a)) ≡ h (tree_at s a) =
        get_or-map h (trees_at s task.locals) i (tree_at s a) (h (tree_at s a)) (omega (arith, l, m)) ∙ ap h (get_or-map (tree_at s) task.locals i a (tree_at s a) l ∙ ap (tree_at s) (sym q)) in
        limit_weaker _ _ (λ y. large_formula (map h (trees_at s task.locals)) i (h (tree_at s a)) (omega (arith, l, m, n)) (subst IsLarge (sym at) (subst IsLarge same_image y))) f x

    pub local_more : (s2 : List Tree) → Grows s1 s2 → (old new : List TermId) (made : TermId) → All (Holds s1) old → Holds s2 made → new ≡ old ++ made ∷ [] → tree_at s2 made ≡ g (task_at s1 task) (tree_at s1 a)
        → trees_at s1 old ++ map (g (task_at s task)) (trees_at s (drop i task.locals)) ≡ map (g (task_at s task)) (trees_at s task.locals)
        → trees_at s2 new ++ map (g (task_at s task)) (trees_at s (drop (i + 1) task.locals)) ≡ map (g (task_at s task)) (trees_at s task.locals)
    local_more s2 y old new made b h e p k =
        mapped_more (tree_at s) (g (task_at s task)) task.locals i a (trees_at s1 old) (trees_at s2 new) l q
        ((ids_pushed s1 s2 y old made new e b h).1 ∙ ap (λ (z : Tree). trees_at s1 old ++ z ∷ []) (p ∙ same_image)) k
