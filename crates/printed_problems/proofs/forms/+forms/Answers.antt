use Rattle.std.proofs.Common.{◌≡◌, true, false, ◌&&◌, refl, sym, ap, subst, IfOk, ◌∙◌}
use Rattle.trees.specs.declared.Parts.TheVariants as parts
use Rattle.trees.specs.Tree.{Tree, head_of}
use Rattle.trees.specs.Node.{tree_at, head_of_node, parts_of}
use Rattle.drivers.specs.driver_items.Syntaxes.{syntax_of}
use Rattle.printed_problems.specs.Faults.{has_head, has_forms}
use Rattle.printed_problems.specs.Checks.{LooksAt, parts_have_forms}
use Rattle.printed_problems.proofs.Forming.{head_of_assembled, forms_are, formed_parts, pass_there, pass_marked}
use Rattle.printed_problems.proofs.forms.+forms.Goals as goal
use Rattle.tasks.proofs.outside.Passed.{no_value}

pub has_forms-returns-then-contains : goal.has_forms-returns-then-contains
has_forms-returns-then-contains t c =
    record {
      is = sym (pass_there (has_forms (syntax_of c.args.printer)) c.args.store.now c.args.done.now.keys c.args.e.0 c.requires.done (sym c.contains.ensures ∙ c.if-contains.true));
      done = c.requires.done;
    }

pub has_forms-returns-then-not-has_head : goal.has_forms-returns-then-not-has_head
has_forms-returns-then-not-has_head t c =
    let s = c.args.store.now in
    let p = syntax_of c.args.printer in
    let e = tree_at s c.args.e in
    let node = c.node.result in
    let top : has_head p (head_of e) ≡ false =
    ap (λ (z : Tree). has_head p (head_of z)) c.node.ensures.tree ∙ ap (has_head p) (head_of_assembled s (head_of_node node) (parts_of node)) ∙ sym c.has_head.ensures ∙ c.if-not-has_head.true in
    record { is = forms_are p e false (parts_have_forms p e) top refl; done = c.requires.done }

pub has_forms-returns-in_err-parts_have_forms : goal.has_forms-returns-in_err-parts_have_forms
has_forms-returns-in_err-parts_have_forms t c = no_value _ _ c.from_residual.result c.from_residual.ensures.1

pub has_forms-returns-then-not-branch : goal.has_forms-returns-then-not-branch
has_forms-returns-then-not-branch t c =
    let s = c.args.store.now in
    let p = syntax_of c.args.printer in
    let e = tree_at s c.args.e in
    let node = c.node.result in
    let top : has_head p (head_of e) ≡ true =
    ap (λ (z : Tree). has_head p (head_of z)) c.node.ensures.tree ∙ ap (has_head p) (head_of_assembled s (head_of_node node) (parts_of node)) ∙ sym c.has_head.ensures ∙ c.if-not-has_head.false in
    let looked = c.in_ok-parts_have_forms.ensures in
    record { is = forms_are p e true false top (sym looked.is ∙ c.if-not-branch.true); done = looked.done }

pub has_forms-returns-in_err-insert : goal.has_forms-returns-in_err-insert
has_forms-returns-in_err-insert t c = no_value _ _ c.from_residual-in_err-insert.result c.from_residual-in_err-insert.ensures.1

pub has_forms-returns : goal.has_forms-returns
has_forms-returns t c =
    let s = c.args.store.now in
    let p = syntax_of c.args.printer in
    let e = tree_at s c.args.e in
    let node = c.node.result in
    let top : has_head p (head_of e) ≡ true =
    ap (λ (z : Tree). has_head p (head_of z)) c.node.ensures.tree ∙ ap (has_head p) (head_of_assembled s (head_of_node node) (parts_of node)) ∙ sym c.has_head.ensures ∙ c.if-not-has_head.false in
    let looked = c.in_ok-parts_have_forms.ensures in
    let all = forms_are p e true true top (sym looked.is ∙ c.if-not-branch.false) in
    record { is = all; done = pass_marked (has_forms p) s c.parts_have_forms.new.done.keys c.insert.new.self.keys c.args.e.0 looked.done (sym all) c.in_ok-insert.ensures.keys }

pub parts_have_forms-returns-in-None : goal.parts_have_forms-returns-in-None
parts_have_forms-returns-in-None t c =
    let s = c.args.store.now in
    let p = syntax_of c.args.printer in
    let e = tree_at s c.args.e in
    let node = c.node.result in
    record { is = formed_parts p s e (head_of_node node) (parts_of node) parts.None c.node.ensures.tree c.in-None.ensures; done = c.requires.done }

pub parts_have_forms-returns-in-One : goal.parts_have_forms-returns-in-One
parts_have_forms-returns-in-One t c =
    let s = c.args.store.now in
    let p = syntax_of c.args.printer in
    let e = tree_at s c.args.e in
    let node = c.node.result in
    let due : has_forms p (tree_at s c.in-One.a) ≡ parts_have_forms p e = formed_parts p s e (head_of_node node) (parts_of node) (parts.One c.in-One.a) c.node.ensures.tree c.in-One.ensures in
    subst (λ z. IfOk c.has_forms.result (λ b. LooksAt p s z b c.has_forms.new.done.keys)) due c.has_forms.ensures

pub parts_have_forms-returns-in_err-has_forms-in-Two : goal.parts_have_forms-returns-in_err-has_forms-in-Two
parts_have_forms-returns-in_err-has_forms-in-Two t c = no_value _ _ c.from_residual.result c.from_residual.ensures.1

pub parts_have_forms-returns-then-not-branch : goal.parts_have_forms-returns-then-not-branch
parts_have_forms-returns-then-not-branch t c =
    let s = c.args.store.now in
    let p = syntax_of c.args.printer in
    let e = tree_at s c.args.e in
    let node = c.node.result in
    let looked = c.in_ok-has_forms-in-Two.ensures in
    let off = sym looked.is ∙ c.if-not-branch.true in
    record { is = sym (ap (λ z. z && has_forms p (tree_at s c.in-Two.b)) off) ∙ formed_parts p s e (head_of_node node) (parts_of node) (parts.Two c.in-Two.a c.in-Two.b) c.node.ensures.tree c.in-Two.ensures; done = looked.done }

pub parts_have_forms-returns-else-not-branch : goal.parts_have_forms-returns-else-not-branch
parts_have_forms-returns-else-not-branch t c =
    let s = c.args.store.now in
    let p = syntax_of c.args.printer in
    let e = tree_at s c.args.e in
    let node = c.node.result in
    let on = sym c.in_ok-has_forms-in-Two.ensures.is ∙ c.if-not-branch.false in
    let due : has_forms p (tree_at s c.in-Two.b) ≡ parts_have_forms p e = sym (ap (λ z. z && has_forms p (tree_at s c.in-Two.b)) on) ∙ formed_parts p s e (head_of_node node) (parts_of node) (parts.Two c.in-Two.a c.in-Two.b) c.node.ensures.tree c.in-Two.ensures in
    subst (λ z. IfOk c.has_forms-in-Two-2.result (λ b. LooksAt p s z b c.has_forms-in-Two-2.new.done.keys)) due c.has_forms-in-Two-2.ensures

pub parts_have_forms-returns-in_err-has_forms-in-Three : goal.parts_have_forms-returns-in_err-has_forms-in-Three
parts_have_forms-returns-in_err-has_forms-in-Three t c = no_value _ _ c.from_residual-in_err-has_forms-in-Three.result c.from_residual-in_err-has_forms-in-Three.ensures.1

pub parts_have_forms-returns-then-not-branch-2 : goal.parts_have_forms-returns-then-not-branch-2
parts_have_forms-returns-then-not-branch-2 t c =
    let s = c.args.store.now in
    let p = syntax_of c.args.printer in
    let e = tree_at s c.args.e in
    let node = c.node.result in
    let looked = c.in_ok-has_forms-in-Three.ensures in
    let off = sym looked.is ∙ c.if-not-branch-2.true in
    record { is = sym (ap (λ z. z && (has_forms p (tree_at s c.in-Three.b) && has_forms p (tree_at s c.in-Three.c))) off) ∙ formed_parts p s e (head_of_node node) (parts_of node) (parts.Three c.in-Three.a c.in-Three.b c.in-Three.c) c.node.ensures.tree c.in-Three.ensures; done = looked.done }

pub parts_have_forms-returns-in_err-has_forms-in-Three-2 : goal.parts_have_forms-returns-in_err-has_forms-in-Three-2
parts_have_forms-returns-in_err-has_forms-in-Three-2 t c = no_value _ _ c.from_residual-in_err-has_forms-in-Three-2.result c.from_residual-in_err-has_forms-in-Three-2.ensures.1

pub parts_have_forms-returns-then-not-branch-3 : goal.parts_have_forms-returns-then-not-branch-3
parts_have_forms-returns-then-not-branch-3 t c =
    let s = c.args.store.now in
    let p = syntax_of c.args.printer in
    let e = tree_at s c.args.e in
    let node = c.node.result in
    let looked = c.in_ok-has_forms-in-Three-2.ensures in
    let on = sym c.in_ok-has_forms-in-Three.ensures.is ∙ c.if-not-branch-2.false in
    let off = sym looked.is ∙ c.if-not-branch-3.true in
    record { is = sym (λ i. on i && (off i && has_forms p (tree_at s c.in-Three.c))) ∙ formed_parts p s e (head_of_node node) (parts_of node) (parts.Three c.in-Three.a c.in-Three.b c.in-Three.c) c.node.ensures.tree c.in-Three.ensures; done = looked.done }

pub parts_have_forms-returns-else-not-branch-3 : goal.parts_have_forms-returns-else-not-branch-3
parts_have_forms-returns-else-not-branch-3 t c =
    let s = c.args.store.now in
    let p = syntax_of c.args.printer in
    let e = tree_at s c.args.e in
    let node = c.node.result in
    let on = sym c.in_ok-has_forms-in-Three.ensures.is ∙ c.if-not-branch-2.false in
    let next = sym c.in_ok-has_forms-in-Three-2.ensures.is ∙ c.if-not-branch-3.false in
    let due : has_forms p (tree_at s c.in-Three.c) ≡ parts_have_forms p e = sym (λ i. on i && (next i && has_forms p (tree_at s c.in-Three.c))) ∙ formed_parts p s e (head_of_node node) (parts_of node) (parts.Three c.in-Three.a c.in-Three.b c.in-Three.c) c.node.ensures.tree c.in-Three.ensures in
    subst (λ z. IfOk c.has_forms-in-Three-3.result (λ b. LooksAt p s z b c.has_forms-in-Three-3.new.done.keys)) due c.has_forms-in-Three-3.ensures
