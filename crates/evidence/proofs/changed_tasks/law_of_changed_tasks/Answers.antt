-- All are lemmas.
use Rattle.evidence.proofs.ChangedTasks.{made_changed, role_changed, changed_valid, goal_changed_valid}
use Rattle.evidence.proofs.changed_tasks.Large.{large_goal, large_refused}
use Rattle.evidence.proofs.changed_tasks.law_of_changed_tasks.Goals as goal

pub returns-clause-declares : goal.returns-clause-declares
returns-clause-declares c = λ g t. (made_changed g t.decls, λ k. role_changed g t k)

pub returns-clause-valid : goal.returns-clause-valid
returns-clause-valid c = λ g t k v. (λ l. changed_valid g t k v l, λ l. goal_changed_valid g t k v l)

pub returns-clause-large : goal.returns-clause-large
returns-clause-large c = λ t. (large_goal t, large_refused t)
