-- A clause with its form, in which the group is where it may, is a clause as a valid task has it.
use Rattle.std.proofs.Common.{ℕ, List}
use Rattle.trees.specs.Tree.{Tree, Two, HPred, HJoin, HForall, HExists}
use Rattle.trees.specs.declared.Op.TheVariants.{And, AndThen, Or, OrElse, Imp}
use Rattle.tasks.specs.Clauses.{IsPremise, IsRule, IsClauseOf}
use Rattle.checks.specs.decl_checks.Clauses.{rule, conclusion, IsOfPredicate, StandAtTypes, HasClauseForm, IsPositive, ArePositive, IsPositiveClause}

module _ (group : List ℕ) (types : Tree) where
  premise : (e : Tree) → StandAtTypes group types e → IsPositive group e → IsPremise group types e
  premise (Two (HPred p) a b) s h = (s.0, h)
  premise (Two (HJoin And) a b) s h = (premise a s.1 h.0, premise b s.2 h.1)
  premise (Two (HJoin AndThen) a b) s h = (premise a s.1 h.0, premise b s.2 h.1)
  premise (Two (HJoin Or) a b) s h = (premise a s.1 h.0, premise b s.2 h.1)
  premise (Two (HJoin OrElse) a b) s h = (premise a s.1 h.0, premise b s.2 h.1)
  premise (Two (HJoin Imp) a b) s h = (h.0, premise b s.2 h.1)
  premise (Two HForall a b) s h = premise b s.2 h
  premise (Two HExists a b) s h = premise b s.2 h
  premise e s h = h

  is_rule : (k : ℕ) (e : Tree) → StandAtTypes group types e → IsOfPredicate k types (conclusion e) → ArePositive group e → IsRule group k types e
  is_rule k (Two (HJoin Imp) a b) s c h = (premise a s.1 h.0, is_rule k b s.2 c h.1)
  is_rule k (Two (HPred p) a b) s c h = (c.0, (c.1, h))
  is_rule k e s c h = absurd c

  is_clause : (k : ℕ) (e : Tree) → StandAtTypes group types e → IsOfPredicate k types (conclusion (rule e)) → ArePositive group (rule e) → IsClauseOf group k types e
  is_clause k (Two HForall a b) s c h = is_clause k b s.2 c h
  is_clause k e s c h = is_rule k e s c h

  pub clause_of : (k vars : ℕ) (e : Tree) → HasClauseForm group k vars types e → IsPositiveClause group e → IsClauseOf group k types e
  clause_of k vars e f p = is_clause k e f.uses f.conclusion p
