use Rattle.std.proofs.Common.{◌≡◌, ℕ, List, [], ◌++◌, ap, ◌∙◌}
use Rattle.trees.specs.Tree.{Tree}
use Rattle.trees.specs.Node.{tree_at, trees_at, Grows}
use Rattle.trees.proofs.Nodes.{Grows_trans}
use Rattle.tasks.specs.Task.{ConstructorTree}
use Rattle.tasks.specs.Meaning.{cons_at}
use Rattle.tr_algebraic.specs.algebraic_forms.Formulas.{all_projection_laws, distinctness_laws, exhaustion_law}
use Rattle.tr_algebraic.proofs.algebraic_forms.Making.{own_later, own_itself, cons_fit_later, cons_same, one_more, pushed_held, laws_made}
use Rattle.tr_algebraic.proofs.algebraic_forms.laws.type_laws.Goals as goal

pub push_all_projection_laws-requires-clause-own : goal.push_all_projection_laws-requires-clause-own
push_all_projection_laws-requires-clause-own c = own_itself c.own_type.new.store c.args.alg.now.symbol c.args.vars c.in_ok-own.own c.in_ok-own.ensures.own

pub push_all_projection_laws-requires-clause-cons : goal.push_all_projection_laws-requires-clause-cons
push_all_projection_laws-requires-clause-cons c = rw c.as_slice-cons.ensures (cons_fit_later c.args.store.now c.own_type.new.store c.in_ok-own.ensures.grows c.args.alg.now.cons c.requires.alg)

pub push_distinctness_laws-requires-clause-own : goal.push_distinctness_laws-requires-clause-own
push_distinctness_laws-requires-clause-own c =
    let own = c.in_ok-own.own in
    own_later c.own_type.new.store c.push_all_projection_laws.new.store c.in_ok-push_all_projection_laws.ensures.grows own.symbol own.vars own (own_itself c.own_type.new.store c.args.alg.now.symbol c.args.vars own c.in_ok-own.ensures.own)

pub push_distinctness_laws-requires-clause-cons : goal.push_distinctness_laws-requires-clause-cons
push_distinctness_laws-requires-clause-cons c =
    let s = c.args.store.now in
    let s2 = c.push_all_projection_laws.new.store in
    rw c.as_slice-cons.ensures (cons_fit_later s s2 (Grows_trans s c.own_type.new.store s2 c.in_ok-own.ensures.grows c.in_ok-push_all_projection_laws.ensures.grows) c.args.alg.now.cons c.requires.alg)

pub exhaustion_law-requires-clause-own : goal.exhaustion_law-requires-clause-own
exhaustion_law-requires-clause-own c =
    let own = c.in_ok-own.own in
    let s1 = c.own_type.new.store in
    let s3 = c.push_distinctness_laws.new.store in
    own_later s1 s3 (Grows_trans s1 c.push_all_projection_laws.new.store s3 c.in_ok-push_all_projection_laws.ensures.grows c.in_ok-push_distinctness_laws.ensures.grows) own.symbol own.vars own (own_itself s1 c.args.alg.now.symbol c.args.vars own c.in_ok-own.ensures.own)

pub exhaustion_law-requires-clause-cons : goal.exhaustion_law-requires-clause-cons
exhaustion_law-requires-clause-cons c =
    let s = c.args.store.now in
    let s2 = c.push_all_projection_laws.new.store in
    let s3 = c.push_distinctness_laws.new.store in
    rw c.as_slice-cons.ensures (cons_fit_later s s3 (Grows_trans s s2 s3 (Grows_trans s c.own_type.new.store s2 c.in_ok-own.ensures.grows c.in_ok-push_all_projection_laws.ensures.grows) c.in_ok-push_distinctness_laws.ensures.grows) c.args.alg.now.cons c.requires.alg)

pub returns-clause-held : goal.returns-clause-held
returns-clause-held c =
    pushed_held c.push_distinctness_laws.new.store c.exhaustion_law.new.store c.in_ok-last.ensures.grows c.push_distinctness_laws.new.laws.items c.push.new.self.items c.in_ok-last.last c.in_ok-push_distinctness_laws.ensures.held c.in_ok-push.ensures.items c.in_ok-last.ensures.formula.held

pub returns-clause-laws : goal.returns-clause-laws
returns-clause-laws c =
    let s = c.args.store.now in
    let s1 = c.own_type.new.store in
    let s2 = c.push_all_projection_laws.new.store in
    let s3 = c.push_distinctness_laws.new.store in
    let s4 = c.exhaustion_law.new.store in
    let g1 = c.in_ok-own.ensures.grows in
    let g2 : Grows s s2 = Grows_trans s s1 s2 g1 c.in_ok-push_all_projection_laws.ensures.grows in
    let g3 : Grows s s3 = Grows_trans s s2 s3 g2 c.in_ok-push_distinctness_laws.ensures.grows in
    let type = c.args.alg.now.symbol in
    let vars = c.args.vars in
    let own = c.in_ok-own.own in
    let o = c.in_ok-own.ensures.own in
    let cons = c.args.alg.now.cons in
    let cs = cons_at s cons in
    let l1 = c.push_all_projection_laws.new.laws.items in
    let l2 = c.push_distinctness_laws.new.laws.items in
    let at : (f : ℕ → ℕ → List ConstructorTree → List Tree) (zs : List ConstructorTree) → zs ≡ cs → f own.symbol own.vars zs ≡ f type vars cs =
    λ f zs e. ap (λ (n : ℕ). f n own.vars zs) o.symbol_is ∙ ap (λ (n : ℕ). f type n zs) o.vars_are ∙ ap (f type vars) e in
    let first : trees_at s2 l1 ≡ [] ++ all_projection_laws type vars cs =
    (rw (c.new-laws.ensures.items, c.as_slice-cons.ensures) at c.in_ok-push_all_projection_laws.ensures.laws) ∙ at all_projection_laws (cons_at s1 cons) (cons_same s s1 g1 cons c.requires.alg) in
    let second : trees_at s3 l2 ≡ trees_at s2 l1 ++ distinctness_laws type vars cs =
    (rw c.as_slice-cons.ensures at c.in_ok-push_distinctness_laws.ensures.laws) ∙ ap (λ (z : List Tree). trees_at s2 l1 ++ z) (at distinctness_laws (cons_at s2 cons) (cons_same s s2 g2 cons c.requires.alg)) in
    let e : Tree = exhaustion_law type vars cs in
    let last : tree_at s4 c.in_ok-last.last ≡ e =
    (rw c.as_slice-cons.ensures at c.in_ok-last.ensures.tree) ∙ ap (λ (n : ℕ). exhaustion_law n own.vars (cons_at s3 cons)) o.symbol_is ∙ ap (λ (n : ℕ). exhaustion_law type n (cons_at s3 cons)) o.vars_are ∙ ap (exhaustion_law type vars) (cons_same s s3 g3 cons c.requires.alg) in
    laws_made (all_projection_laws type vars cs) (distinctness_laws type vars cs) e (trees_at s2 l1) (trees_at s3 l2) (trees_at s4 c.push.new.self.items) first second
    (one_more s3 s4 c.in_ok-last.ensures.grows l2 c.push.new.self.items c.in_ok-last.last e c.in_ok-push_distinctness_laws.ensures.held c.in_ok-push.ensures.items last)
