-- The first branch of a `match` by its numbers in a store, and the branches after it, as the store grows.
use Rattle.std.proofs.Common.{◌≡◌, List, [], ◌∷◌, refl, sym, ap, subst, ◌∙◌, arith}
use Rattle.trees.specs.declared.TermId.{TermId}
use Rattle.trees.specs.declared.Node.{Node}
use Rattle.trees.specs.declared.Node.TheVariants as node
use Rattle.trees.specs.Tree.{Tree, Leaf, Two, Three, HEnd, HCell, HArm, HIf, HCase}
use Rattle.trees.specs.Node.{tree_at, node_tree, Holds, Grows}
use Rattle.trees.specs.Binding.{inst_many}
use Rattle.trees.specs.Sorts.{Fits, sort_of, type_of}
use Rattle.tasks.specs.declared.lookup.Lookup.{Lookup}
use Rattle.tasks.specs.Task.{TaskTree}
use Rattle.tasks.specs.Vocabulary.{of_task}
use Rattle.tasks.specs.MatchTests.{test, bind}
use Rattle.tasks.specs.Looking.{LookupHeld}
use Rattle.tasks.specs.Valid.{IsValid}
use Rattle.tasks.proofs.Growth.{task_later, task_held_later}
use Rattle.images.specs.PatternTerms.{IsTypedPattern}
use Rattle.images.specs.typing_laws.HasTyping.{HasTyping}
use Rattle.tr_match.specs.match_forms.Forms.{if_form, match_rule}
use Rattle.tr_match.specs.match_forms.Branches.{ArmTree, arms_tree, AreTypedBranches, IsMatchOf}
use Rattle.tr_match.specs.match_forms.Held.{look_task, CanForm, CanOpenBranch}
use Rattle.tr_match.specs.declared.match_forms.forms.FirstBranch.{FirstBranch}
use Rattle.tr_match.specs.match_forms.lemmas.Rule.{IsMadeOf, asked, form_made, match_of}

-- a typed `match`
pub can_form : (s : List Tree) (look : Lookup) (scrutinee branches : TermId) → LookupHeld s look → IsValid (look_task s look) → Holds s scrutinee → Holds s branches → (types : List Tree) → HasTyping (of_task (look_task s look)) types (Two HCase (tree_at s scrutinee) (tree_at s branches))
    → CanForm s look scrutinee branches
can_form s look scrutinee branches l valid hs hb types x =
    let m : IsMatchOf (of_task (look_task s look)) types (tree_at s scrutinee) (tree_at s branches) = match_of (of_task (look_task s look)) types (tree_at s scrutinee) (tree_at s branches) x in
    record { look_held = l; valid = valid; scrutinee_held = hs; branches_held = hb; types = types; term = x.0.0.0; term_typed = x.2; body = m.first.body; first = m.first; others = m.others; are = m.is; typed = m.typed }

-- ---- as the store grows
module _ (s s1 : List Tree) (w : Grows s s1) (look : Lookup) where
  pub task_same : LookupHeld s look → look_task s1 look ≡ look_task s look
  task_same l = task_later s s1 w look.task.now l.task

  pub held_after : (id : TermId) → Holds s id → Holds s1 id
  held_after id h = omega (arith, h, w.longer)

  pub can_later : (scrutinee branches : TermId) → CanForm s look scrutinee branches → CanForm s1 look scrutinee branches
  can_later scrutinee branches k =
      let t : look_task s look ≡ look_task s1 look = sym (task_same k.look_held) in
      let q : tree_at s scrutinee ≡ tree_at s1 scrutinee = sym (w.same scrutinee.0 k.scrutinee_held) in
      record {
        look_held = record { task = task_held_later s s1 w look.task.now k.look_held.task; index = k.look_held.index };
        valid = subst IsValid t k.valid;
        scrutinee_held = held_after scrutinee k.scrutinee_held;
        branches_held = held_after branches k.branches_held;
        types = k.types;
        term = ap sort_of (sym q) ∙ k.term;
        term_typed = subst (λ (u : TaskTree). HasTyping (of_task u) k.types (tree_at s1 scrutinee)) t (subst (HasTyping (of_task (look_task s look)) k.types) q k.term_typed);
        body = k.body;
        first = k.first;
        others = k.others;
        are = w.same branches.0 k.branches_held ∙ k.are;
        typed = subst (λ (u : TaskTree). AreTypedBranches (of_task u) k.types (type_of (tree_at s1 scrutinee)) k.body (k.first ∷ k.others)) t
            (subst (λ (z : Tree). AreTypedBranches (of_task (look_task s look)) k.types (type_of z) k.body (k.first ∷ k.others)) q k.typed);
      }

-- ---- the first branch
module _ (s : List Tree) (look : Lookup) (scrutinee branches : TermId) (k : CanForm s look scrutinee branches) where
  abbrev t : TaskTree
  t = look_task s look

  abbrev S : Tree
  S = tree_at s scrutinee

  pub first_is : (p : Tree) × ((a : Tree) × ((r : Tree) × (tree_at s branches ≡ Two HCell (Two HArm p a) r)))
  first_is = (k.first.pattern, (k.first.body, (arms_tree k.others, k.are)))

  module _ (b : FirstBranch) (is : tree_at s branches ≡ Two HCell (Two HArm (tree_at s b.pattern) (tree_at s b.body)) (tree_at s b.others)) where
    abbrev P : Tree
    P = tree_at s b.pattern

    abbrev A : Tree
    A = tree_at s b.body

    abbrev R : Tree
    R = tree_at s b.others

    both : Two HCell (Two HArm k.first.pattern k.first.body) (arms_tree k.others) ≡ Two HCell (Two HArm P A) R
    both = sym k.are ∙ is

    pattern_is : k.first.pattern ≡ P
    pattern_is = cc (both)

    body_is : k.first.body ≡ A
    body_is = cc (both)

    others_are : arms_tree k.others ≡ R
    others_are = cc (both)

    pub can_open : Holds s b.pattern → Holds s b.body → CanOpenBranch s look scrutinee b
    can_open hp hb = record {
      look_held = k.look_held;
      valid = k.valid;
      scrutinee_held = k.scrutinee_held;
      term = k.term;
      pattern_held = hp;
      types = k.types;
      pattern = subst (IsTypedPattern t k.types) pattern_is (asked t k.valid k.types S k.term k.term_typed k.body k.first k.typed.0).pattern;
      body_held = hb;
    }

    -- with branches after it
    pub record HasRest : Type 0 where
      pub can : CanForm s look scrutinee b.others
      pub form : if_form t S (tree_at s branches) ≡ Three HIf (test t P S) (inst_many A (bind t P S)) (if_form t S R)
      pub fits : Fits (Three HIf (test t P S) (inst_many A (bind t P S)) (if_form t S R))

    parted : (bs : List ArmTree) → arms_tree bs ≡ R → AreTypedBranches (of_task t) k.types (type_of S) k.body (k.first ∷ bs) → tree_at s branches ≡ arms_tree (k.first ∷ bs) → (x y : Tree) → R ≡ Two HCell x y → Holds s b.others → HasRest
    parted [] q w e x y n h = absurd (let z : Leaf HEnd ≡ Two HCell x y = q ∙ n in cc)
    parted (c ∷ cs) q w e x y n h =
        let m : IsMadeOf (of_task t) k.types S (arms_tree (k.first ∷ c ∷ cs)) k.body (if_form t S (arms_tree (k.first ∷ c ∷ cs))) = form_made t k.valid k.types S k.term k.term_typed k.body k.first (c ∷ cs) w in
        let f : if_form t S (arms_tree (k.first ∷ c ∷ cs)) ≡ Three HIf (test t P S) (inst_many A (bind t P S)) (if_form t S R) =
        ap (λ (z : Tree). Three HIf (test t z S) (inst_many k.first.body (bind t z S)) (if_form t S (arms_tree (c ∷ cs)))) pattern_is
        ∙ ap (λ (z : Tree). Three HIf (test t P S) (inst_many z (bind t P S)) (if_form t S (arms_tree (c ∷ cs)))) body_is ∙ ap (λ (z : Tree). Three HIf (test t P S) (inst_many A (bind t P S)) (if_form t S z)) q in
        record {
          can = record { look_held = k.look_held; valid = k.valid; scrutinee_held = k.scrutinee_held; branches_held = h; types = k.types; term = k.term; term_typed = k.term_typed; body = k.body; first = c; others = cs; are = sym q; typed = w.1 };
          form = ap (if_form t S) e ∙ f;
          fits = (subst (HasTyping (of_task t) k.types) f m.typed).0;
        }

    pub has_rest : (x y : Tree) → R ≡ Two HCell x y → Holds s b.others → HasRest
    has_rest x y n h = parted k.others others_are k.typed k.are x y n h

    last : (bs : List ArmTree) → arms_tree bs ≡ R → tree_at s branches ≡ arms_tree (k.first ∷ bs) → ((x y : Tree) → R ≡ Two HCell x y → ⊥) → if_form t S (tree_at s branches) ≡ inst_many A (bind t P S)
    last [] q e n = ap (if_form t S) e ∙ ap (λ (z : Tree). inst_many k.first.body (bind t z S)) pattern_is ∙ ap (λ (z : Tree). inst_many z (bind t P S)) body_is
    last (c ∷ cs) q e n = absurd (n (Two HArm c.pattern c.body) (arms_tree cs) (sym q))

    -- without
    pub is_last : ((x y : Tree) → R ≡ Two HCell x y → ⊥) → if_form t S (tree_at s branches) ≡ inst_many A (bind t P S)
    is_last n = last k.others others_are k.are n

-- ---- nodes
pub if_same : (a b c x y z : Tree) → a ≡ x → b ≡ y → c ≡ z → Three HIf a b c ≡ Three HIf x y z
if_same a b c x y z p q r = ap (λ (u : Tree). Three HIf u b c) p ∙ ap (λ (u : Tree). Three HIf x u c) q ∙ ap (λ (u : Tree). Three HIf x y u) r

pub no_cell : (s : List Tree) (n : Node) (e : Tree) → e ≡ node_tree s n → ((x y : TermId) → n ≡ node.Cell x y → ⊥) → (a b : Tree) → e ≡ Two HCell a b → ⊥
no_cell s (node.Cell x y) e q f a b r = f x y refl
no_cell s n e q f a b r = let z : node_tree s n ≡ Two HCell a b = sym q ∙ r in cc

other_stays : (t : TaskTree) (s : List Tree) (n : Node) → ((x y : TermId) → n ≡ node.Case x y → ⊥) → match_rule t (node_tree s n) ≡ node_tree s n
other_stays t s (node.Case x y) f = absurd (f x y refl)
other_stays t s _ f = refl

pub node_stays : (t : TaskTree) (s : List Tree) (n : Node) (e : Tree) → e ≡ node_tree s n → ((x y : TermId) → n ≡ node.Case x y → ⊥) → e ≡ match_rule t e
node_stays t s n e q f = q ∙ sym (other_stays t s n f) ∙ ap (match_rule t) (sym q)

-- the first branch, read in the same store
pub branch_there : (s z : List Tree) (branches : TermId) (b : FirstBranch) → z ≡ s → tree_at z branches ≡ Two HCell (Two HArm (tree_at z b.pattern) (tree_at z b.body)) (tree_at z b.others) → tree_at s branches ≡ Two HCell (Two HArm (tree_at s b.pattern) (tree_at s b.body)) (tree_at s b.others)
branch_there s z branches b q e = subst (λ (u : List Tree). tree_at u branches ≡ Two HCell (Two HArm (tree_at u b.pattern) (tree_at u b.body)) (tree_at u b.others)) q e

pub there : (s z : List Tree) (id : TermId) → z ≡ s → Holds z id → Holds s id
there s z id q h = subst (λ (u : List Tree). Holds u id) q h
