-- An open tree at an environment depends on the terms for the variables that it can see, the innermost ones: it is at these alone, and what
-- is at these is at the whole environment.
use Rattle.std.proofs.Common.{◌≡◌, ℕ, suc, ◌+◌, ◌≤◌, List, [], ◌∷◌, ◌++◌, length, get_or, slice_get, All, Some, refl, sym, ap, subst, ◌∙◌, arith}
use Rattle.trees.specs.Tree.{Tree, loose, above_params}
use Rattle.trees.specs.Binding.{instantiating_many, inst_many, AreClosed}
use Rattle.trees.specs.laws.Changes.{change_closed}
use Rattle.trees.proofs.Many.{right_at, length_joined, keeps_many, inst_many_under}
use Rattle.tasks.specs.Task.{TaskTree}
use Rattle.tasks.specs.Open.{VariablesHave}
use Rattle.tasks.specs.Vocabulary.{Vocabulary, of_task}
use Rattle.tasks.specs.Typing.{TypedUnder}
use Rattle.tasks.specs.Valid.{IsGround}
use Rattle.tasks.proofs.Closing.{closed_typed, typed_closed, typed_has, typed_open}
use Rattle.tasks.proofs.TypeInstances.{typed_further}
use Rattle.congruence.specs.tasks.typed_trees.instances.Instances.{IsTermOf, AreFor}
use Rattle.congruence.proofs.tasks.KeptInstances.{slot}
use Rattle.images.specs.Open.{IsEnvironment, IsAt}
use Rattle.images.proofs.Environments.{closed_for}
use Rattle.images.proofs.Slices.{slice_front}

-- ---- typing
have_near : (v : Vocabulary) (d : ℕ) (xs types : List Tree) (e : Tree) → ((i : ℕ) (ty : Tree) → slice_get xs i ≡ Some ty → slice_get types (d + i) ≡ Some ty) → TypedUnder v types e → VariablesHave d xs e
have_near v d [] types e f x = tt
have_near v d (ty ∷ xs) types e f x = (
  typed_has v types d ty e x (subst (λ (n : ℕ). slice_get types n ≡ Some ty) (omega arith) (f 0 ty refl)),
  have_near v (d + 1) xs types e (λ i t q. subst (λ (n : ℕ). slice_get types n ≡ Some t) (omega arith) (f (suc i) t q)) x,
)

pub typed_near : (v : Vocabulary) (near far : List Tree) (e : Tree) → TypedUnder v (near ++ far) e → loose e ≤ length near → TypedUnder v near e
typed_near v near far e x l =
    closed_typed v near e (typed_open v (near ++ far) e x) (have_near v 0 near (near ++ far) e (λ i ty q. subst (λ (n : ℕ). slice_get (near ++ far) n ≡ Some ty) (omega arith) (slice_front near far i (slot near i ty q) ∙ q)) x) l

-- ---- instances
pub many_near : (env us : List Tree) → AreClosed env → (e : Tree) → loose e ≤ length us → inst_many e (env ++ us) ≡ inst_many e us
many_near env us c e l = sym (inst_many_under env us (length us) c refl e) ∙ ap (λ (z : Tree). inst_many z us) (change_closed (instantiating_many env) (keeps_many env) (length us) e l)

closed_front : (env us : List Tree) → AreClosed (env ++ us) → AreClosed env
closed_front [] us c = tt
closed_front (t ∷ ts) us c = (c.0, closed_front ts us c.1)

-- ---- environments
pub for_near : (v : Vocabulary) (near far us env : List Tree) → length us ≡ length near → AreFor v (near ++ far) (env ++ us) → AreFor v near us
for_near v near far us env m a = record { as_many = m; each = by }
  where
    by : (i k : ℕ) (ty e : Tree) → slice_get near i ≡ Some ty → i + k + 1 ≡ length us → IsTermOf v ty (get_or us k e)
    by i k ty e q n =
        subst (IsTermOf v ty) (right_at env us (length env + k) k e refl) (a.each i (length env + k) ty e (slice_front near far i (slot near i ty q) ∙ q) (omega (arith, n, length_joined env us)))

all_near : (P : Tree → Type 0) (env us : List Tree) → All P (env ++ us) → All P us
all_near P env us h = λ k z l. subst P (right_at env us (length env + k) k z refl) (h (length env + k) z (omega (arith, l, length_joined env us)))

pub environment_near : (t : TaskTree) (near far us env : List Tree) (n : ℕ) → length us ≡ length near → IsEnvironment t (near ++ far) (env ++ us) n → IsEnvironment t near us n
environment_near t near far us env n m E = record {
  terms = for_near (of_task t) near far us env m E.terms;
  ground = all_near IsGround env us E.ground;
  above = all_near (λ a. above_params a ≤ n) env us E.above;
}

-- ---- open trees
pub at_near : (t : TaskTree) (near far us env : List Tree) (e l : Tree) (n : ℕ) → length us ≡ length near → loose e ≤ length us → IsAt t (near ++ far) (env ++ us) e l n → IsAt t near us e l n
at_near t near far us env e l n m k w = record {
  around = environment_near t near far us env n m w.around;
  shape = record { typed = typed_near (of_task t) near far e w.shape.typed (omega (arith, m, k)); ground = w.shape.ground; above = w.shape.above };
  is = w.is ∙ many_near env us (closed_front env us (closed_for (of_task t) (near ++ far) (env ++ us) w.around.terms)) e k;
}

pub at_whole : (t : TaskTree) (near far us env : List Tree) (e l : Tree) (n m : ℕ) → length us ≡ length near → IsEnvironment t (near ++ far) (env ++ us) n → above_params e ≤ n → IsAt t near us e l m → IsAt t (near ++ far) (env ++ us) e l n
at_whole t near far us env e l n m q E b w =
    let k = typed_closed (of_task t) near e w.shape.typed in
    record {
      around = E;
      shape = record { typed = typed_further (of_task t) near far e w.shape.typed; ground = w.shape.ground; above = b };
      is = w.is ∙ sym (many_near env us (closed_front env us (closed_for (of_task t) (near ++ far) (env ++ us) E.terms)) e (omega (arith, q, k)));
    }
