use Rattle.std.proofs.Common.{◌≡◌, ℕ, ◌<◌, List, ◌∷◌, length, ap, arith, rules}
use Rattle.std.proofs.lemmas.List.{length-map}
use Rattle.std.proofs.lemmas.List.Elements.{All-rest}
use Rattle.trees.specs.declared.TermId.{TermId}
use Rattle.trees.specs.Tree.{Tree}
use Rattle.trees.specs.Node.{Holds}
use Rattle.tasks.specs.Meaning.{symbols_at}
use Rattle.checks.specs.decl_checks.Meaning.{clause_at, own_clauses_at, PassesAs}
use Rattle.checks.proofs.decl_checks.Firsts.{first_has, first_within}
use Rattle.checks.proofs.decl_checks.checks.+first_without.Goals as goal

pub passes-requires : goal.passes-requires
passes-requires t c =
    first_has (λ (q : ℕ × TermId). Holds c.args.store.now q.1) c.in-Some.first.now c.in-Some.rest.now c.args.clauses.now c.in-Some.ensures.cases.0 c.requires

pub first_without-requires : goal.first_without-requires
first_without-requires t c =
    (search rules, All-rest (λ (q : ℕ × TermId). Holds c.args.store.now q.1) c.in-Some.first.now c.in-Some.rest.now c.args.clauses.now c.in-Some.ensures.cases.0 c.requires)

shorter : (s : List Tree) (qs : List (ℕ × TermId)) (q : ℕ × TermId) (rest : List (ℕ × TermId)) → qs ≡ q ∷ rest → length (own_clauses_at s rest) < length qs
shorter s qs q rest e =
    let m : length (own_clauses_at s rest) ≡ length rest = length-map rest (clause_at s) in
    let l : length qs ≡ length (q ∷ rest) = ap length e in
    omega (arith, m, l)

pub prove-unreachable-requires : goal.prove-unreachable-requires
prove-unreachable-requires t c =
    let s = c.args.store.now in
    let rest = c.in-Some.rest.now in
    let place = c.in-Some-first_without.place in
    let within : place < length (own_clauses_at s rest) = first_within (PassesAs (symbols_at s c.args.sig.now.symbols) c.args.group.now c.args.positive) (own_clauses_at s rest) place c.in-Some-first_without.ensures in
    let less = shorter s c.args.clauses.now c.in-Some.first.now rest c.in-Some.ensures.cases.0 in
    let past = c.if-prove.true in
    omega (arith, within, less, past)
