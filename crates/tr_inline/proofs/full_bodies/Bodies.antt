-- The rule of full bodies; what is found for a symbol; one body more.
use Rattle.std.proofs.Common.{◌≡◌, ℕ, ◌==◌, if◌then◌else◌, Bool, true, false, List, [], ◌∷◌, ◌++◌, Option, Some, None, subst, refl, sym, ap, ◌∙◌, arith}
use Rattle.std.proofs.lemmas.Bool.Decides.{nat_tests}
use Rattle.trees.specs.Tree.{Tree, Two, Three, HFun, HPred}
use Rattle.trees.specs.Node.{tree_at, Holds, Grows}
use Rattle.tasks.specs.declared.task.Task.{Task}
use Rattle.tasks.specs.Task.{TaskTree}
use Rattle.tasks.specs.Meaning.{task_at}
use Rattle.tasks.specs.Vocabulary.{Vocabulary, of_task}
use Rattle.tasks.proofs.Growth.{task_later}
use Rattle.tasks.proofs.TypeInstances.{IsSoundVocabulary, sound_task}
use Rattle.inlining.specs.images.Images.{image}
use Rattle.inlining.specs.images.image_trees.Imaged.{KeepsItsTyping}
use Rattle.inlining.specs.Inlining.{use_body}
use Rattle.inlining.specs.FullBodies.{use_rule}
use Rattle.inlining.proofs.Bodies.{IsBody}
use Rattle.inlining.proofs.FullBodies.{IsSteadyRule, nothing_steady, full_body, use_steady}
use Rattle.tr_inline.specs.declared.full_bodies.uses.FullBody.{FullBody}
use Rattle.tr_inline.specs.full_bodies.FullBodies.{body_for, rule_after, rule_over_bodies, IsFull, AreFullBodies, AreReady, IsFoundBody, IsFound}
use Rattle.tr_inline.specs.full_bodies.lemmas.Later.{ready_later, after_later}

-- ---- the rule keeps typing
after_steady : (v : Vocabulary) → IsSoundVocabulary v → (s : List Tree) (f : Tree → Tree) → IsSteadyRule v f → (bodies : List FullBody) → AreFullBodies s v f bodies → IsSteadyRule v (rule_after s f bodies)
after_steady v sound s f steady [] r = steady
after_steady v sound s f steady (b ∷ bs) r =
    after_steady v sound s (use_rule b.symbol (image f (tree_at s b.body)) f)
    (use_steady v sound f steady b.symbol (image f (tree_at s b.body)) (full_body v sound f steady b.symbol (tree_at s b.body) r.0.1)) bs r.1

pub ready_steady : (s : List Tree) (task : Task) (bodies : List FullBody) → AreReady s task bodies → IsSteadyRule (of_task (task_at s task)) (rule_after s (λ e. e) bodies)
ready_steady s task bodies r =
    let sound = sound_task (task_at s task) r.valid in
    after_steady (of_task (task_at s task)) sound s (λ e. e) (nothing_steady (of_task (task_at s task)) sound) bodies r.bodies_are

pub rule_keeps : (s : List Tree) (task : Task) (bodies : List FullBody) → AreReady s task bodies → KeepsItsTyping (rule_over_bodies s task bodies)
rule_keeps s task bodies r = (ready_steady s task bodies r).typed

-- ---- what is found for a symbol
module _ (s : List Tree) (v : Vocabulary) (sound : IsSoundVocabulary v) (k : ℕ) where
  another : (f : Tree → Tree) (b : FullBody) (known : Option FullBody) (whole : Tree) → (k == b.symbol) ≡ false → IsFound s v f k known → IsFound s v (use_rule b.symbol whole f) k known
  another f b (Some o) whole q h = record {
    whole = h.whole;
    is_body = h.is_body;
    full = h.full;
    function = λ zs ts ty. ap (λ (t : Bool). if t then use_body whole zs ts else f (Three (HFun k) zs ts ty)) q ∙ h.function zs ts ty;
    predicate = λ zs ts. ap (λ (t : Bool). if t then use_body whole zs ts else f (Two (HPred k) zs ts)) q ∙ h.predicate zs ts;
  }
  another f b None whole q h = record {
    function = λ zs ts ty. ap (λ (t : Bool). if t then use_body whole zs ts else f (Three (HFun k) zs ts ty)) q ∙ h.function zs ts ty;
    predicate = λ zs ts. ap (λ (t : Bool). if t then use_body whole zs ts else f (Two (HPred k) zs ts)) q ∙ h.predicate zs ts;
  }

  this_one : (f : Tree → Tree) (b : FullBody) (whole : Tree) → (k == b.symbol) ≡ true → IsBody v b.symbol whole → IsFull s whole b.full → IsFoundBody s v (use_rule b.symbol whole f) k b
  this_one f b whole q p h =
      let n : b.symbol ≡ k = grind (arith, nat_tests, q) in record {
        whole = whole;
        is_body = subst (λ (m : ℕ). IsBody v m whole) n p;
        full = h;
        function = λ zs ts ty. ap (λ (t : Bool). if t then use_body whole zs ts else f (Three (HFun k) zs ts ty)) q;
        predicate = λ zs ts. ap (λ (t : Bool). if t then use_body whole zs ts else f (Two (HPred k) zs ts)) q;
      }

  pub found_after : (f : Tree → Tree) → IsSteadyRule v f → (known : Option FullBody) → IsFound s v f k known → (bodies : List FullBody) → AreFullBodies s v f bodies → IsFound s v (rule_after s f bodies) k (body_for k known bodies)
  found_after f steady known h [] r = h
  found_after f steady known h (b ∷ bs) r =
      let p = full_body v sound f steady b.symbol (tree_at s b.body) r.0.1 in
      let next = use_steady v sound f steady b.symbol (image f (tree_at s b.body)) p in
      pick (k == b.symbol) refl (λ q. found_after (use_rule b.symbol (image f (tree_at s b.body)) f) next (Some b) (this_one f b (image f (tree_at s b.body)) q p r.0.2) bs r.1)
      (λ q. found_after (use_rule b.symbol (image f (tree_at s b.body)) f) next known (another f b known (image f (tree_at s b.body)) q h) bs r.1)
    where
      pick : (t : Bool) → (k == b.symbol) ≡ t → ((k == b.symbol) ≡ true → IsFound s v (rule_after s (use_rule b.symbol (image f (tree_at s b.body)) f) bs) k (body_for k (Some b) bs))
          → ((k == b.symbol) ≡ false → IsFound s v (rule_after s (use_rule b.symbol (image f (tree_at s b.body)) f) bs) k (body_for k known bs))
          → IsFound s v (rule_after s (use_rule b.symbol (image f (tree_at s b.body)) f) bs) k (body_for k (if t then Some b else known) bs)
      pick true q g h = g q
      pick false q g h = h q

pub found_here : (s : List Tree) (task : Task) (bodies : List FullBody) → AreReady s task bodies → (k : ℕ) → IsFound s (of_task (task_at s task)) (rule_after s (λ e. e) bodies) k (body_for k None bodies)
found_here s task bodies r k =
    let sound = sound_task (task_at s task) r.valid in
    found_after s (of_task (task_at s task)) sound k (λ e. e) (nothing_steady (of_task (task_at s task)) sound) None (record { function = λ zs ts ty. refl; predicate = λ zs ts. refl }) bodies r.bodies_are

-- ---- one body more
bodies_push : (s : List Tree) (v : Vocabulary) (f : Tree → Tree) (bodies : List FullBody) (b : FullBody) → AreFullBodies s v f bodies → Holds s b.body → IsBody v b.symbol (tree_at s b.body)
    → IsFull s (image (rule_after s f bodies) (tree_at s b.body)) b.full → AreFullBodies s v f (bodies ++ b ∷ [])
bodies_push s v f [] b r h p q = ((h, p, q), tt)
bodies_push s v f (x ∷ xs) b r h p q = (r.0, bodies_push s v (use_rule x.symbol (image f (tree_at s x.body)) f) xs b r.1 h p q)

rule_push : (s : List Tree) (f : Tree → Tree) (bodies : List FullBody) (b : FullBody) → rule_after s f (bodies ++ b ∷ []) ≡ use_rule b.symbol (image (rule_after s f bodies) (tree_at s b.body)) (rule_after s f bodies)
rule_push s f [] b = refl
rule_push s f (x ∷ xs) b = rule_push s (use_rule x.symbol (image f (tree_at s x.body)) f) xs b

module _ (s t : List Tree) (task : Task) (bodies : List FullBody) (w : Grows s t) (r : AreReady s task bodies) (b : FullBody) (h : Holds s b.body) (p : IsBody (of_task (task_at s task)) b.symbol (tree_at s b.body))
    (full : IsFull t (image (rule_after s (λ e. e) bodies) (tree_at s b.body)) b.full) where
  rule_same : rule_after t (λ e. e) bodies ≡ rule_after s (λ e. e) bodies
  rule_same = after_later s t (of_task (task_at s task)) (λ e. e) bodies w r.bodies_are

  body_same : tree_at s b.body ≡ tree_at t b.body
  body_same = sym (w.same b.body.0 h)

  pub ready_push : (more : List FullBody) → more ≡ bodies ++ b ∷ [] → AreReady t task more
  ready_push more q =
      let e : task_at t task ≡ task_at s task = task_later s t w task r.held in
      let later = ready_later s t task bodies w r in
      let held : Holds t b.body = omega (arith, h, w.longer) in
      let is_body : IsBody (of_task (task_at t task)) b.symbol (tree_at t b.body) = subst (λ (z : TaskTree). IsBody (of_task z) b.symbol (tree_at t b.body)) (sym e) (subst (IsBody (of_task (task_at s task)) b.symbol) body_same p) in
      let is_full : IsFull t (image (rule_after t (λ y. y) bodies) (tree_at t b.body)) b.full =
      subst (λ (z : Tree). IsFull t (image (rule_after t (λ y. y) bodies) z) b.full) body_same (subst (λ (g : Tree → Tree). IsFull t (image g (tree_at s b.body)) b.full) (sym rule_same) full) in
      subst (AreReady t task) (sym q)
      (record { held = later.held; valid = later.valid; bodies_are = bodies_push t (of_task (task_at t task)) (λ y. y) bodies b later.bodies_are held is_body is_full })

  pub rule_is : (more : List FullBody) → more ≡ bodies ++ b ∷ [] → rule_after t (λ e. e) more ≡ use_rule b.symbol (image (rule_after s (λ e. e) bodies) (tree_at s b.body)) (rule_after s (λ e. e) bodies)
  rule_is more q =
      ap (rule_after t (λ e. e)) q ∙ rule_push t (λ e. e) bodies b ∙ ap (λ (z : Tree). use_rule b.symbol (image (rule_after t (λ e. e) bodies) z) (rule_after t (λ e. e) bodies)) (sym body_same)
      ∙ ap (λ (g : Tree → Tree). use_rule b.symbol (image g (tree_at s b.body)) g) rule_same
