use Rattle.std.proofs.Common.{◌≡◌, List, sym, ap, subst, ◌∙◌, slice_get, map}
use Rattle.tasks.specs.declared.facts.Fact.{Fact}
use Rattle.tasks.specs.declared.facts.Fact.TheVariants as fact
use Rattle.tasks.specs.Task.{TaskTree, DeclarationTree}
use Rattle.tasks.specs.Looking.{fact_name}
use Rattle.tasks.specs.Meaning.{declarations_at}
use Rattle.declarations.specs.Rewritten.{rewritten_task}
use Rattle.declarations.specs.Said.{said_from}
use Rattle.declarations.specs.Names.{IsOldName}
use Rattle.declarations.proofs.Names.{old_proposition, no_proposition, old_equation, old_clause, old_inversion}
use Rattle.declarations.proofs.citing.old_name.Goals as goal

pub returns-in-Some : goal.returns-in-Some
returns-in-Some g c =
    let t = c.args.draft.now.task in
    let r = g.R.RewriteDeclarations.rule c.args.rule.now in
    let w = g.R.RewriteDeclarations.said c.args.rule.now in
    let q = (rw (c.store.ensures, c.as_slice.ensures) at (c.in-Some.ensures t.symbols)) in
    let e : declarations_at c.args.draft.now.trees c.args.from.now.decls ≡ t.decls = ap (λ (z : TaskTree). z.decls) c.requires.own.is in
    subst (λ (n : Fact). IsOldName t (rewritten_task r t) n c.in-Some.old) (sym c.in-Proposition.is)
    (old_proposition r c.requires.keeps w c.requires.said c.requires.facts t c.requires.own.valid c.in-Proposition.k c.in-Some.old (ap (λ (ds : List DeclarationTree). slice_get (map fact_name (said_from w t.symbols 0 ds)) c.in-Proposition.k) (sym e) ∙ sym q))

pub returns-in-None : goal.returns-in-None
returns-in-None g c =
    let t = c.args.draft.now.task in
    let r = g.R.RewriteDeclarations.rule c.args.rule.now in
    let w = g.R.RewriteDeclarations.said c.args.rule.now in
    let q = (rw (c.store.ensures, c.as_slice.ensures) at (c.in-None.ensures t.symbols)) in
    let e : declarations_at c.args.draft.now.trees c.args.from.now.decls ≡ t.decls = ap (λ (z : TaskTree). z.decls) c.requires.own.is in
    subst (λ (n : Fact). IsOldName t (rewritten_task r t) n (fact.Proposition c.in-Proposition.k)) (sym c.in-Proposition.is)
    (no_proposition r c.requires.keeps w c.requires.said c.requires.facts t c.requires.own.valid c.in-Proposition.k (fact.Proposition c.in-Proposition.k) (ap (λ (ds : List DeclarationTree). slice_get (map fact_name (said_from w t.symbols 0 ds)) c.in-Proposition.k) (sym e) ∙ sym q))

pub returns-in-Equation : goal.returns-in-Equation
returns-in-Equation g c =
    let t = c.args.draft.now.task in
    let r = g.R.RewriteDeclarations.rule c.args.rule.now in
    subst (λ (n : Fact). IsOldName t (rewritten_task r t) n (fact.Equation c.in-Equation.k)) (sym c.in-Equation.is)
    (old_equation r c.requires.keeps (g.R.RewriteDeclarations.said c.args.rule.now) c.requires.said c.requires.facts t c.requires.own.valid c.in-Equation.k)

pub returns-in-Clause : goal.returns-in-Clause
returns-in-Clause g c =
    let t = c.args.draft.now.task in
    let r = g.R.RewriteDeclarations.rule c.args.rule.now in
    subst (λ (n : Fact). IsOldName t (rewritten_task r t) n (fact.Clause c.in-Clause.k c.in-Clause.c)) (sym c.in-Clause.is)
    (old_clause r c.requires.keeps (g.R.RewriteDeclarations.said c.args.rule.now) c.requires.said c.requires.facts t c.requires.own.valid c.in-Clause.k c.in-Clause.c)

pub returns-in-Inversion : goal.returns-in-Inversion
returns-in-Inversion g c =
    let t = c.args.draft.now.task in
    let r = g.R.RewriteDeclarations.rule c.args.rule.now in
    subst (λ (n : Fact). IsOldName t (rewritten_task r t) n (fact.Inversion c.in-Inversion.k)) (sym c.in-Inversion.is)
    (old_inversion r c.requires.keeps (g.R.RewriteDeclarations.said c.args.rule.now) c.requires.said c.requires.facts t c.requires.own.valid c.in-Inversion.k)
