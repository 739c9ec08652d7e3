-- An answer is exact: what is right is refused by nothing, and one fault at most refuses.
use Rattle.std.proofs.Common.{◌≡◌, ◌↔◌, ℕ, List, Result, Ok, Err, IsOk, refl, subst, ap, arith}
use Rattle.tasks.specs.Task.{SymbolTree, BodyTree, Defines, Induces, Constructs}
use Rattle.checks.specs.decl_checks.Checks.{all_clauses, group_of, ClauseHasForm, ClauseIsPositive, HasNoFault, HasFault, TakesMemory, IsAnswer, IsAnswerTo, OwnClause, ClausesAnswer, HasMemory}
use Rattle.checks.specs.declared.decl_checks.fault.CheckFault.{CheckFault}
use Rattle.checks.specs.declared.decl_checks.fault.CheckFault.TheVariants.{Memory, BadClause, NotPositive, NotStructural, GroupTooWide, Uninhabited}
use Rattle.checks.proofs.decl_checks.Firsts.{not_all, one_first}

pub right_not : (symbols : List SymbolTree) (b : BodyTree) (f : CheckFault) → HasNoFault symbols b → HasFault symbols b f → ⊥
right_not symbols (Induces is) (BadClause n) r f = not_all (ClauseHasForm symbols (group_of is)) (all_clauses is) n f r.form
right_not symbols (Induces is) (NotPositive n) r f = not_all (ClauseIsPositive (group_of is)) (all_clauses is) n f.1 r.positive
right_not symbols (Defines ds) GroupTooWide r f = (let l = r.narrow f.0 in omega (arith, f.1))
right_not symbols (Defines ds) NotStructural r f = f.2 (r.structural f.0)
right_not symbols (Constructs ts) Uninhabited r f = f r
right_not symbols _ _ r f = f

pub one_fault : (symbols : List SymbolTree) (b : BodyTree) (f g : CheckFault) → HasFault symbols b f → HasFault symbols b g → f ≡ g
one_fault symbols (Induces is) (BadClause n) (BadClause m) f g = ap BadClause (one_first (ClauseHasForm symbols (group_of is)) (all_clauses is) n m f g)
one_fault symbols (Induces is) (BadClause n) (NotPositive m) f g = absurd (not_all (ClauseHasForm symbols (group_of is)) (all_clauses is) n f g.0)
one_fault symbols (Induces is) (NotPositive n) (BadClause m) f g = absurd (not_all (ClauseHasForm symbols (group_of is)) (all_clauses is) m g f.0)
one_fault symbols (Induces is) (NotPositive n) (NotPositive m) f g = ap NotPositive (one_first (ClauseIsPositive (group_of is)) (all_clauses is) n m f.1 g.1)
one_fault symbols (Defines ds) GroupTooWide GroupTooWide f g = refl
one_fault symbols (Defines ds) GroupTooWide NotStructural f g = absurd (omega (arith, f.1, g.1))
one_fault symbols (Defines ds) NotStructural GroupTooWide f g = absurd (omega (arith, f.1, g.1))
one_fault symbols (Defines ds) NotStructural NotStructural f g = refl
one_fault symbols (Constructs ts) Uninhabited Uninhabited f g = refl
one_fault symbols (Induces is) (BadClause n) _ f g = absurd g
one_fault symbols (Induces is) (NotPositive n) _ f g = absurd g
one_fault symbols (Defines ds) GroupTooWide _ f g = absurd g
one_fault symbols (Defines ds) NotStructural _ f g = absurd g
one_fault symbols (Constructs ts) Uninhabited _ f g = absurd g
one_fault symbols _ _ _ f g = absurd f

-- a fault that isn't want of memory
told : (right : Type 0) (refused : CheckFault → Type 0) (memory : Type 0) (f : CheckFault) → IsAnswer right refused memory (Err f) → (f ≡ Memory → ⊥) → refused f
told right refused memory Memory a n = absurd (n refl)
told right refused memory (BadClause k) a n = a
told right refused memory (NotPositive k) a n = a
told right refused memory NotStructural a n = a
told right refused memory GroupTooWide a n = a
told right refused memory Uninhabited a n = a

module _ (symbols : List SymbolTree) (b : BodyTree) where
  is_told : (f : CheckFault) → IsAnswerTo symbols b (Err f) → HasMemory (Err f) → HasFault symbols b f
  is_told f a h = told (HasNoFault symbols b) (HasFault symbols b) (TakesMemory symbols b) f a (λ e. h (ap Err e))

  pub exact_right : (r : Result Unit CheckFault) → IsAnswerTo symbols b r → HasMemory r → IsOk r ↔ HasNoFault symbols b
  exact_right (Ok u) a h = (λ o. a, λ r. refl)
  exact_right (Err f) a h = (λ o. absurd (cc), λ r. absurd (right_not symbols b f r (is_told f a h)))

  pub exact_refused : (r : Result Unit CheckFault) → IsAnswerTo symbols b r → HasMemory r → (f : CheckFault) → (r ≡ Err f) ↔ HasFault symbols b f
  exact_refused (Ok u) a h f = (λ e. absurd (cc), λ n. absurd (right_not symbols b f a n))
  exact_refused (Err g) a h f = (λ e. (let q : g ≡ f = cc in subst (HasFault symbols b) q (is_told g a h)), λ n. ap Err (one_fault symbols b g f (is_told g a h) n))

  pub exact_memory : (r : Result Unit CheckFault) → IsAnswerTo symbols b r → r ≡ Err Memory → TakesMemory symbols b
  exact_memory r a e = let m : IsAnswerTo symbols b (Err Memory) = subst (IsAnswerTo symbols b) e a in m

-- an answer to a group's clauses is one to the same clauses and group
pub moved : (symbols : List SymbolTree) (g h : List ℕ) (cs ds : List OwnClause) (r : Result Unit CheckFault) → g ≡ h → cs ≡ ds
    → ClausesAnswer symbols g cs r → ClausesAnswer symbols h ds r
moved symbols g h cs ds r p q a = subst (λ k. ClausesAnswer symbols k ds r) p (subst (λ k. ClausesAnswer symbols g k r) q a)
