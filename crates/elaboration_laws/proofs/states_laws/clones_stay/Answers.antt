use Rattle.std.proofs.lemmas.List.Elements.{All-contains}
use Rattle.elaboration_laws.specs.Sound.{IsSoundKnown, IsApart}
use Rattle.elaboration_laws.proofs.Cloned.{state_cloned}
use Rattle.elaboration_laws.proofs.states_laws.clones_stay.Goals as goal

pub returns : goal.returns
returns u = λ c next t tuples more new m within ss axioms goals link last alias moves h known a s.
    state_cloned c next t tuples more new m within ss axioms goals link last alias moves h
    (All-contains (IsSoundKnown c.symbols c.decls) c.known t h.known known) (All-contains (IsApart c.decls c.opened.path) c.known t h.apart known) a s
