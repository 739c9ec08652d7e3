-- A list made item by item, in a store that grows, and what a declaration becomes.
use Rattle.std.proofs.Common.{◌≡◌, ℕ, ◌<◌, ◌+◌, List, [], ◌∷◌, ◌++◌, map, length, get_or, drop, All, refl, sym, ap, subst, ◌∙◌, arith, append_assoc}
use Rattle.std.proofs.lemmas.List.{at_drop_more, map-append, length-map, get_or-map}
use Rattle.std.proofs.lemmas.List.Elements.{All-push, All-weaker}
use Rattle.tasks.specs.trees.declared.TermId.{TermId}
use Rattle.tasks.specs.trees.Tree.{Tree}
use Rattle.tasks.specs.trees.Node.{tree_at, Holds, Grows}
use Rattle.tasks.specs.declared.declaration.Decl.{Decl}
use Rattle.tasks.specs.declared.declaration.Body.{Body}
use Rattle.tasks.specs.declared.declaration.Body.TheVariants.{TypeSymbol, Symbol, Defs, Inductives, Algebraics, Prop}
use Rattle.tasks.specs.declared.task.Task.{Task}
use Rattle.tasks.specs.Task.{TaskTree, BodyTree, Says, DeclarationTree}
use Rattle.tasks.specs.Vocabulary.{of_task}
use Rattle.tasks.specs.Valid.{IsValid, IsValidDecl, IsFormula}
use Rattle.tasks.specs.Meaning.{trees_at, body_at, declaration_at, declarations_at, task_at, BodyHeld, DeclHeld, TaskHeld}
use Rattle.tasks.proofs.Growth.{all_held_later, trees_later, decl_held_later, declaration_later, declarations_later, body_later, task_held_later, task_later}
use Rattle.evidence.specs.changed_tasks.Changed.{with_formula, changed_declarations}
use Rattle.evidence.specs.declared.stage.StageFault.{StageFault}
use Rattle.evidence.specs.changed_tasks.Limits.{IsLarge, IsLargeBody}
use Rattle.walking.specs.rewriting.Faults.{IsLimitFault}
use Rattle.walking.specs.rewriting.Formulas.{CanRewrite, IsFormulaIn}

-- one item more
pub mapped_more : {X Z Y : Type 0} (h : X → Z) (f : Z → Y) (xs : List X) (i : ℕ) (x : X) (old new : List Y) → i < length xs → x ≡ get_or xs i x → new ≡ old ++ f (h x) ∷ [] → old ++ map f (map h (drop i xs)) ≡ map f (map h xs)
    → new ++ map f (map h (drop (i + 1) xs)) ≡ map f (map h xs)
mapped_more h f xs i x old new l q e m =
    let rest = map f (map h (drop (i + 1) xs)) in
    let at : map f (map h (drop i xs)) ≡ f (h x) ∷ rest = at_drop_more (λ zs. map f (map h zs)) xs i x l ∙ ap (λ z. f (h z) ∷ rest) (sym q) in
    ap (λ z. z ++ rest) e ∙ append_assoc old (f (h x) ∷ []) rest ∙ ap (λ z. old ++ z) (sym at) ∙ m

module _ (s s1 : List Tree) (w : Grows s s1) where
  -- a declaration more, over a store that has grown
  pub decls_pushed : (ds : List Decl) (d : Decl) (new : List Decl) → new ≡ ds ++ d ∷ [] → All (DeclHeld s) ds → DeclHeld s1 d
      → All (DeclHeld s1) new × (declarations_at s1 new ≡ declarations_at s ds ++ declaration_at s1 d ∷ [])
  decls_pushed ds d new e a h = (
    subst (All (DeclHeld s1)) (sym e) (All-push (DeclHeld s1) ds d (All-weaker (DeclHeld s) (DeclHeld s1) (decl_held_later s s1 w) ds a) h),
    ap (declarations_at s1) e ∙ map-append (declaration_at s1) ds (d ∷ []) ∙ ap (λ (z : List DeclarationTree). z ++ declaration_at s1 d ∷ []) (declarations_later s s1 w ds a),
  )

  -- a number more
  pub ids_pushed : (ids : List TermId) (id : TermId) (new : List TermId) → new ≡ ids ++ id ∷ [] → All (Holds s) ids → Holds s1 id
      → All (Holds s1) new × (trees_at s1 new ≡ trees_at s ids ++ tree_at s1 id ∷ [])
  ids_pushed ids id new e a h = (
    subst (All (Holds s1)) (sym e) (All-push (Holds s1) ids id (all_held_later s s1 w ids a) h),
    ap (trees_at s1) e ∙ map-append (tree_at s1) ids (id ∷ []) ∙ ap (λ (z : List Tree). z ++ tree_at s1 id ∷ []) (trees_later s s1 w ids a),
  )

  pub can_later : (ready : TaskTree → List Tree → Type 0) → ((t : TaskTree) → ready t s → ready t s1) → (task : Task) → CanRewrite ready s task → CanRewrite ready s1 task
  can_later ready stays task c =
      let e : task_at s1 task ≡ task_at s task = task_later s s1 w task c.held in
      record {
        held = task_held_later s s1 w task c.held;
        valid = subst IsValid (sym e) c.valid;
        is_ready = subst (λ (t : TaskTree). ready t s1) (sym e) (stays (task_at s task) c.is_ready);
      }

  -- what a declaration becomes stays
  pub becomes_later : (g : TaskTree → Tree → Tree) (task : Task) (d : Decl) → TaskHeld s task → DeclHeld s d
      → with_formula (g (task_at s1 task)) (declaration_at s1 d) (body_at s1 d.body) ≡ with_formula (g (task_at s task)) (declaration_at s d) (body_at s d.body)
  becomes_later g task d t h =
      ap (λ (u : TaskTree). with_formula (g u) (declaration_at s1 d) (body_at s1 d.body)) (task_later s s1 w task t)
      ∙ ap (λ (x : DeclarationTree). with_formula (g (task_at s task)) x x.body) (declaration_later s s1 w d h)

-- a declaration of a valid task
pub own_decl : (ready : TaskTree → List Tree → Type 0) (s : List Tree) (task : Task) (i : ℕ) (d : Decl) → CanRewrite ready s task → i < length task.decls → d ≡ get_or task.decls i d
    → DeclHeld s d × IsValidDecl (of_task (task_at s task)) (declaration_at s d)
own_decl ready s task i d c l q =
    let v = of_task (task_at s task) in
    let m = length-map task.decls (declaration_at s) in
    let e : get_or (declarations_at s task.decls) i (declaration_at s d) ≡ declaration_at s d = get_or-map (declaration_at s) task.decls i d (declaration_at s d) l ∙ ap (declaration_at s) (sym q) in
    (subst (DeclHeld s) (sym q) (c.held.decls i d l), subst (IsValidDecl v) e (c.valid.decls i (declaration_at s d) (omega (arith, l, m))))

-- a proposition
module _ (s : List Tree) (d : Decl) (a : TermId) (p : d.body ≡ Prop a) where
  pub said_formula : (t : TaskTree) → DeclHeld s d → IsValidDecl (of_task t) (declaration_at s d) → IsFormulaIn s t a
  said_formula t h v =
      let f : IsFormula t [] d.vars (tree_at s a) = subst (λ (b : Body). IsValidDecl (of_task t) (record (declaration_at s d) { body = body_at s b })) p v in
      let k : Holds s a = subst (λ (b : Body). BodyHeld s b) p h in
      record { held = k; sort = f.sort; typed = f.typed }

  pub said_becomes : (g : Tree → Tree) → with_formula g (declaration_at s d) (body_at s d.body) ≡ record (declaration_at s d) { body = Says (g (tree_at s a)) }
  said_becomes g = ap (λ (b : Body). with_formula g (declaration_at s d) (body_at s b)) p

  pub said_made : (g : Tree → Tree) (s1 : List Tree) (m : TermId) (new : Decl) → new ≡ record d { body = Prop m } → tree_at s1 m ≡ g (tree_at s a) → declaration_at s1 new ≡ with_formula g (declaration_at s d) (body_at s d.body)
  said_made g s1 m new e t = ap (declaration_at s1) e ∙ ap (λ (z : Tree). record (declaration_at s d) { body = Says z }) t ∙ sym (said_becomes g)

  pub said_fault : (g : Tree → Tree) (f : StageFault) → IsLimitFault (IsLarge (g (tree_at s a))) f → IsLimitFault (IsLargeBody (with_formula g (declaration_at s d) (body_at s d.body)).body) f
  said_fault g f x = subst (λ (z : DeclarationTree). IsLimitFault (IsLargeBody z.body) f) (sym (said_becomes g)) x

pub said_held : (s1 : List Tree) (d new : Decl) (m : TermId) → new ≡ record d { body = Prop m } → Holds s1 m → DeclHeld s1 new
said_held s1 d new m e h = subst (DeclHeld s1) (sym e) h

-- any other declaration
other_body : (g : Tree → Tree) (s : List Tree) (t : DeclarationTree) (b : Body) → ((a : TermId) → b ≡ Prop a → ⊥) → with_formula g t (body_at s b) ≡ t
other_body g s t (Prop a) n = absurd (n a refl)
other_body g s t (TypeSymbol k) n = refl
other_body g s t (Symbol k) n = refl
other_body g s t (Defs ds) n = refl
other_body g s t (Inductives is) n = refl
other_body g s t (Algebraics ts) n = refl

pub other_made : (g : Tree → Tree) (s : List Tree) (d new : Decl) → ((a : TermId) → d.body ≡ Prop a → ⊥) → new ≡ d → declaration_at s new ≡ with_formula g (declaration_at s d) (body_at s d.body)
other_made g s d new n e = ap (declaration_at s) e ∙ sym (other_body g s (declaration_at s d) d.body n)

-- a local of a valid task
pub own_local : (ready : TaskTree → List Tree → Type 0) (s : List Tree) (task : Task) (i : ℕ) (a : TermId) → CanRewrite ready s task → i < length task.locals → a ≡ get_or task.locals i a → IsFormulaIn s (task_at s task) a
own_local ready s task i a c l q =
    let t = task_at s task in
    let m = length-map task.locals (tree_at s) in
    let e : get_or (trees_at s task.locals) i (tree_at s a) ≡ tree_at s a = get_or-map (tree_at s) task.locals i a (tree_at s a) l ∙ ap (tree_at s) (sym q) in
    let f : IsFormula t t.params 0 (tree_at s a) = subst (IsFormula t t.params 0) e (c.valid.locals i (tree_at s a) (omega (arith, l, m))) in
    record { held = subst (Holds s) (sym q) (c.held.locals i a l); sort = f.sort; typed = f.typed }

pub own_goal : (ready : TaskTree → List Tree → Type 0) (s : List Tree) (task : Task) → CanRewrite ready s task → IsFormulaIn s (task_at s task) task.goal
own_goal ready s task c = record { held = c.held.goal; sort = c.valid.goal.sort; typed = c.valid.goal.typed }
