use Rattle.std.proofs.Common.{◌≡◌, suc, length, ap, arith, ◌∙◌, sym}
use Rattle.std.proofs.lemmas.Result.{IfOk-weaker}
use Rattle.trees.specs.Node.{tree_at}
use Rattle.trees.specs.Binding.{inst, Param}
use Rattle.trees.proofs.Nodes.{Grows_refl, Grows_trans}
use Rattle.tr_introduce.specs.Introduce.{prefix}
use Rattle.tr_introduce.proofs.Introduced.{prefix_inst, held_universal, is_universal, is_implication, held_implication, of_neither}
use Rattle.tasks.specs.Meaning.{trees_at}
use Rattle.tr_introduce.proofs.introduction.+introduce.Goals as goal
use Rattle.outside.proofs.Passed.{no_value}

pub introduce-requires : goal.introduce-requires
introduce-requires t c =
    let s = c.args.store.now in
    let s1 = c.open_body.new.g in
    let b = c.in-Universal.ensures in
    let ty = c.in-Universal.ty in
    let body = c.in-Universal.body in
    let o = c.in_ok-goal_at-in-Universal.ensures in
    let m : prefix (tree_at s1 c.in_ok-goal_at-in-Universal.goal_at) ≡ prefix (tree_at s body) = ap prefix o.tree ∙ prefix_inst c.len.result (tree_at s ty) (tree_at s body) in
    let n : prefix (tree_at s c.args.goal) ≡ suc (prefix (tree_at s body)) = ap prefix b.0 in
    (omega (arith, m, n), held_universal s s1 c.args.params.now.items c.args.locals.now.items c.args.goal o.grows c.requires ty c.in_ok-goal_at-in-Universal.goal_at c.push.new.self.items b.1 o.held c.in_ok-push-in-Universal.ensures.items)

pub returns-in_ok-push-in-Universal-clause-is : goal.returns-in_ok-push-in-Universal-clause-is
returns-in_ok-push-in-Universal-clause-is t c =
    let s = c.args.store.now in
    let s1 = c.open_body.new.g in
    let b = c.in-Universal.ensures in
    let ty = c.in-Universal.ty in
    let body = c.in-Universal.body in
    let o = c.in_ok-goal_at-in-Universal.ensures in
    let z : c.len.result ≡ length c.args.params.now.items = omega (arith, c.len.ensures, c.args.params.now.ok.0) in
    let e : tree_at s1 c.in_ok-goal_at-in-Universal.goal_at ≡ inst (tree_at s body) (Param (length c.args.params.now.items) (tree_at s ty)) = o.tree ∙ ap (λ n. inst (tree_at s body) (Param n (tree_at s ty))) z in
    IfOk-weaker c.introduce.result _ _ (λ g q. q ∙ is_universal s s1 c.args.params.now.items c.args.locals.now.items c.args.goal o.grows c.requires ty body c.in_ok-goal_at-in-Universal.goal_at c.push.new.self.items b.1 c.in_ok-push-in-Universal.ensures.items b.0 e) c.introduce.ensures.is

pub returns-in_ok-push-in-Implication-clause-is : goal.returns-in_ok-push-in-Implication-clause-is
returns-in_ok-push-in-Implication-clause-is t c =
    let s = c.args.store.now in
    let b = c.in-Implication.ensures in
    IfOk-weaker c.introduce-in-Implication.result _ _ (λ g q. q ∙ is_implication s s c.args.params.now.items c.args.locals.now.items c.args.goal (Grows_refl s) c.requires c.in-Implication.premise c.in-Implication.conclusion c.push-in-Implication.new.self.items c.in_ok-push-in-Implication.ensures.items b.0) c.introduce-in-Implication.ensures.is

pub returns-in_err-goal_at-in-Universal : goal.returns-in_err-goal_at-in-Universal
returns-in_err-goal_at-in-Universal t c = record {
  held = no_value _ _ c.from_residual.result c.from_residual.ensures.1;
  is = no_value _ _ c.from_residual.result c.from_residual.ensures.1;
  grows = c.open_body.ensures.grows;
}

pub returns-in_err-push-in-Universal : goal.returns-in_err-push-in-Universal
returns-in_err-push-in-Universal t c = record {
  held = no_value _ _ c.from_residual-in_err-push-in-Universal.result c.from_residual-in_err-push-in-Universal.ensures.1;
  is = no_value _ _ c.from_residual-in_err-push-in-Universal.result c.from_residual-in_err-push-in-Universal.ensures.1;
  grows = c.in_ok-goal_at-in-Universal.ensures.grows;
}

pub returns-in_err-push-in-Implication : goal.returns-in_err-push-in-Implication
returns-in_err-push-in-Implication t c = record {
  held = no_value _ _ c.from_residual-in_err-push-in-Implication.result c.from_residual-in_err-push-in-Implication.ensures.1;
  is = no_value _ _ c.from_residual-in_err-push-in-Implication.result c.from_residual-in_err-push-in-Implication.ensures.1;
  grows = Grows_refl _;
}

pub beginning_of-requires : goal.beginning_of-requires
beginning_of-requires t c = c.requires.goal

pub open_body-requires-clause-ty_held : goal.open_body-requires-clause-ty_held
open_body-requires-clause-ty_held t c = c.in-Universal.ensures.1

pub open_body-requires-clause-kind : goal.open_body-requires-clause-kind
open_body-requires-clause-kind t c = c.in-Universal.ensures.3

pub open_body-requires-clause-body_held : goal.open_body-requires-clause-body_held
open_body-requires-clause-body_held t c = c.in-Universal.ensures.2

pub introduce-requires-in-Implication : goal.introduce-requires-in-Implication
introduce-requires-in-Implication t c =
    let s = c.args.store.now in
    let b = c.in-Implication.ensures in
    let n : prefix (tree_at s c.args.goal) ≡ suc (prefix (tree_at s c.in-Implication.conclusion)) = ap prefix b.0 in
    (omega (arith, n), held_implication s s c.args.params.now.items c.args.locals.now.items c.args.goal (Grows_refl s) c.requires c.in-Implication.premise c.in-Implication.conclusion c.push-in-Implication.new.self.items b.1 b.2 c.in_ok-push-in-Implication.ensures.items)

pub returns-in_ok-push-in-Universal-clause-held : goal.returns-in_ok-push-in-Universal-clause-held
returns-in_ok-push-in-Universal-clause-held t c = c.introduce.ensures.held

pub returns-in_ok-push-in-Universal-clause-grows : goal.returns-in_ok-push-in-Universal-clause-grows
returns-in_ok-push-in-Universal-clause-grows t c = Grows_trans _ _ _ c.in_ok-goal_at-in-Universal.ensures.grows c.introduce.ensures.grows

pub returns-in_ok-push-in-Implication-clause-held : goal.returns-in_ok-push-in-Implication-clause-held
returns-in_ok-push-in-Implication-clause-held t c = c.introduce-in-Implication.ensures.held

pub returns-in_ok-push-in-Implication-clause-grows : goal.returns-in_ok-push-in-Implication-clause-grows
returns-in_ok-push-in-Implication-clause-grows t c = c.introduce-in-Implication.ensures.grows

pub returns-in-Neither-clause-held : goal.returns-in-Neither-clause-held
returns-in-Neither-clause-held t c = c.requires

pub returns-in-Neither-clause-is : goal.returns-in-Neither-clause-is
returns-in-Neither-clause-is t c =
    let s = c.args.store.now in
    sym (of_neither (trees_at s c.args.params.now.items) (trees_at s c.args.locals.now.items) (tree_at s c.args.goal) c.in-Neither.ensures)

pub returns-in-Neither-clause-grows : goal.returns-in-Neither-clause-grows
returns-in-Neither-clause-grows t c = Grows_refl _
