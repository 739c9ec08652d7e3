-- The laws of pattern terms, each of lemmas.
use Rattle.std.proofs.Common.{◌≡◌, ◌∷◌, All, get_or, subst, sym}
use Rattle.tasks.specs.MatchTests.{constructor_projections}
use Rattle.images.specs.PatternTerms.{HasClosedResult, MatchesAreTyped, ClosedMatchesAreFor, MatchesHaveParts, ConstructorsHaveResults, TypesHaveResults}
use Rattle.images.proofs.Constructors.{made_con, con_projections, type_cons, con_of_type, closed_results}
use Rattle.images.proofs.PatternTyping.{made_of, test_typed, closed_for_terms}
use Rattle.images.proofs.PatternParts.{test_parts, tests_parts, bind_parts}

pub matches_typed : MatchesAreTyped
matches_typed t valid types p s k j y q =
    let m = made_of t valid types p s k.sort k.typed j y q in
    let f = test_typed t valid types p s m in
    record { sort = f.0; formula = f.1; each = m.tests; terms = m.terms }

pub matches_closed : ClosedMatchesAreFor
matches_closed t valid p s k j y q = closed_for_terms t valid p s k.sort k.typed j y q

pub matches_parts : MatchesHaveParts
matches_parts t valid types p s k = record { formula = test_parts t valid types p s k.typed; each = tests_parts t valid types p s k.typed; terms = bind_parts t valid types p s k.typed }

pub constructor_results : ConstructorsHaveResults
constructor_results t valid k h =
    let m = made_con t valid k h in
    let es : k ∷ constructor_projections t k ≡ m.con.symbol ∷ m.con.projections = cc (sym m.symbol, con_projections t valid k m) in
    subst (All (HasClosedResult t)) (sym es) (closed_results t m.known.type m.known.vars m.con m.known.is)

pub type_results : TypesHaveResults
type_results t valid k cs q j c l =
    let o = con_of_type _ k _ cs (type_cons t valid k cs q) j c l in
    closed_results t o.type o.vars (get_or cs j c) o.is
