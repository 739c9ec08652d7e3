-- The side conditions of a declaration have one first fault, and none where they hold.
use Rattle.std.proofs.Common.{◌≡◌, ◌≢◌, ℕ, ◌<◌, ◌≤◌, List, [], ◌∷◌, All, refl, sym, ap, ◌∙◌, arith, inl, inr}
use Rattle.std.proofs.lemmas.List.Elements.{All-head, All-tail}
use Rattle.tasks.specs.trees.Tree.{Tree}
use Rattle.tasks.specs.Task.{SymbolTree, DefinitionTree, AlgebraicTree, BodyTree}
use Rattle.elaboration_laws.specs.checks.decl_checks.Structure.{IsStructural, IsRecursive, choices}
use Rattle.elaboration_laws.specs.checks.decl_checks.Values.{AreInhabited}
use Rattle.elaboration_laws.specs.checks.decl_checks.Checks.{OwnClause, ClauseHasForm, ClauseIsPositive, IsFirstWithout, ClausesHaveFault, DefinitionsHaveFault, TypesHaveFault, HasNoFault}
use Rattle.elaboration_laws.specs.checks.declared.decl_checks.fault.CheckFault.{CheckFault}
use Rattle.elaboration_laws.specs.checks.declared.decl_checks.fault.CheckFault.TheVariants as check
use Rattle.theories.specs.declared.side_conditions.sides.SideFault.{SideFault}
use Rattle.theories.specs.declared.side_conditions.sides.SideFault.TheVariants as side
use Rattle.theories.specs.side_conditions.Sides.{IsCovered, IsFirstOpenMatch, IsFirstCheckFault, IsSideFault}
use Rattle.theories.proofs.determined.FirstWithout.{without_or, one_without}
use Rattle.elaboration_laws.proofs.checks.decl_checks.Exact.{one_fault, right_not as fault_or}

-- ---- what is wrong with clauses, definitions and types
data ClauseWrong (symbols : List SymbolTree) (group : List ℕ) (cs : List OwnClause) (f : CheckFault) : Type 0 where
  form : (n : ℕ) → f ≡ check.BadClause n → IsFirstWithout (ClauseHasForm symbols group) cs n → ClauseWrong symbols group cs f
  positive : (n : ℕ) → f ≡ check.NotPositive n → All (ClauseHasForm symbols group) cs → IsFirstWithout (ClauseIsPositive group) cs n → ClauseWrong symbols group cs f

clause_wrong : (symbols : List SymbolTree) (group : List ℕ) (cs : List OwnClause) (f : CheckFault) → ClausesHaveFault symbols group cs f → ClauseWrong symbols group cs f
clause_wrong symbols group cs (check.BadClause n) h = form n refl h
clause_wrong symbols group cs (check.NotPositive n) h = positive n refl h.0 h.1
clause_wrong symbols group cs check.Memory h = absurd h
clause_wrong symbols group cs check.NotStructural h = absurd h
clause_wrong symbols group cs check.GroupTooWide h = absurd h
clause_wrong symbols group cs check.Uninhabited h = absurd h

one_clause : (symbols : List SymbolTree) (group : List ℕ) (cs : List OwnClause) (f g : CheckFault) → ClauseWrong symbols group cs f → ClauseWrong symbols group cs g → f ≡ g
one_clause symbols group cs f g (form n e h) (form m k i) = e ∙ ap (λ (z : ℕ). check.BadClause z) (one_without (ClauseHasForm symbols group) cs n m h i) ∙ sym k
one_clause symbols group cs f g (form n e h) (positive m k a i) = absurd (without_or (ClauseHasForm symbols group) cs n a h)
one_clause symbols group cs f g (positive n e a h) (form m k i) = absurd (without_or (ClauseHasForm symbols group) cs m a i)
one_clause symbols group cs f g (positive n e a h) (positive m k b i) = e ∙ ap (λ (z : ℕ). check.NotPositive z) (one_without (ClauseIsPositive group) cs n m h i) ∙ sym k

data DefinitionWrong (symbols : List SymbolTree) (ds : List DefinitionTree) (f : CheckFault) : Type 0 where
  wide : f ≡ check.GroupTooWide → IsRecursive ds → 4096 < choices symbols ds → DefinitionWrong symbols ds f
  structure : f ≡ check.NotStructural → IsRecursive ds → choices symbols ds ≤ 4096 → (IsStructural symbols ds → ⊥) → DefinitionWrong symbols ds f

definition_wrong : (symbols : List SymbolTree) (ds : List DefinitionTree) (f : CheckFault) → DefinitionsHaveFault symbols ds f → DefinitionWrong symbols ds f
definition_wrong symbols ds check.GroupTooWide h = wide refl h.0 h.1
definition_wrong symbols ds check.NotStructural h = structure refl h.0 h.1 h.2
definition_wrong symbols ds check.Memory h = absurd h
definition_wrong symbols ds (check.BadClause n) h = absurd h
definition_wrong symbols ds (check.NotPositive n) h = absurd h
definition_wrong symbols ds check.Uninhabited h = absurd h

-- a number is not both above and at most another
above_or : (m n : ℕ) → m < n → n ≤ m → ⊥
above_or m n h k = omega arith

one_definition : (symbols : List SymbolTree) (ds : List DefinitionTree) (f g : CheckFault) → DefinitionWrong symbols ds f → DefinitionWrong symbols ds g → f ≡ g
one_definition symbols ds f g (wide e r l) (wide k s m) = e ∙ sym k
one_definition symbols ds f g (wide e r l) (structure k s m n) = absurd (above_or 4096 (choices symbols ds) l m)
one_definition symbols ds f g (structure e r l n) (wide k s m) = absurd (above_or 4096 (choices symbols ds) m l)
one_definition symbols ds f g (structure e r l n) (structure k s m o) = e ∙ sym k

type_wrong : (ts : List AlgebraicTree) (f : CheckFault) → TypesHaveFault ts f → (f ≡ check.Uninhabited) × (AreInhabited ts → ⊥)
type_wrong ts check.Uninhabited h = (refl, h)
type_wrong ts check.Memory h = absurd h
type_wrong ts (check.BadClause n) h = absurd h
type_wrong ts (check.NotPositive n) h = absurd h
type_wrong ts check.NotStructural h = absurd h
type_wrong ts check.GroupTooWide h = absurd h

-- ---- of one declaration

-- ---- of all
module _ (symbols : List SymbolTree) where
  open_or : (ms : List (ℕ × List Tree)) (token : ℕ) → All (IsCovered symbols) ms → IsFirstOpenMatch symbols ms token → ⊥
  open_or [] token a h = h
  open_or (m ∷ ms) token a (inl h) = h.1 (All-head (IsCovered symbols) m ms a)
  open_or (m ∷ ms) token a (inr h) = open_or ms token (All-tail (IsCovered symbols) m ms a) h.1

  one_open : (ms : List (ℕ × List Tree)) (i j : ℕ) → IsFirstOpenMatch symbols ms i → IsFirstOpenMatch symbols ms j → i ≡ j
  one_open [] i j h k = absurd h
  one_open (m ∷ ms) i j (inl h) (inl k) = sym h.0 ∙ k.0
  one_open (m ∷ ms) i j (inl h) (inr k) = absurd (h.1 k.0)
  one_open (m ∷ ms) i j (inr h) (inl k) = absurd (k.1 h.0)
  one_open (m ∷ ms) i j (inr h) (inr k) = one_open ms i j h.1 k.1

  first_or : (bs : List BodyTree) (f : CheckFault) → All (HasNoFault symbols) bs → IsFirstCheckFault symbols bs f → ⊥
  first_or [] f a h = h
  first_or (b ∷ bs) f a (inl h) = fault_or symbols b f (All-head (HasNoFault symbols) b bs a) h
  first_or (b ∷ bs) f a (inr h) = first_or bs f (All-tail (HasNoFault symbols) b bs a) h.1

  one_first : (bs : List BodyTree) (f g : CheckFault) → IsFirstCheckFault symbols bs f → IsFirstCheckFault symbols bs g → f ≡ g
  one_first [] f g h k = absurd h
  one_first (b ∷ bs) f g (inl h) (inl k) = one_fault symbols b f g h k
  one_first (b ∷ bs) f g (inl h) (inr k) = absurd (fault_or symbols b f k.0 h)
  one_first (b ∷ bs) f g (inr h) (inl k) = absurd (fault_or symbols b g h.0 k)
  one_first (b ∷ bs) f g (inr h) (inr k) = one_first bs f g h.1 k.1

  pub side_or : (ms : List (ℕ × List Tree)) (bs : List BodyTree) (f : SideFault) → All (IsCovered symbols) ms → All (HasNoFault symbols) bs → IsSideFault symbols ms bs f → f ≢ side.Memory → ⊥
  side_or ms bs side.Memory a b h n = n refl
  side_or ms bs (side.NotExhaustive token) a b h n = open_or ms token a h
  side_or ms bs (side.Check f) a b h n = first_or bs f b h.1

  pub one_side : (ms : List (ℕ × List Tree)) (bs : List BodyTree) (f g : SideFault) → IsSideFault symbols ms bs f → IsSideFault symbols ms bs g → f ≢ side.Memory → g ≢ side.Memory → f ≡ g
  one_side ms bs side.Memory g h k n m = absurd (n refl)
  one_side ms bs (side.NotExhaustive i) side.Memory h k n m = absurd (m refl)
  one_side ms bs (side.Check f) side.Memory h k n m = absurd (m refl)
  one_side ms bs (side.NotExhaustive i) (side.NotExhaustive j) h k n m = ap (λ (z : ℕ). side.NotExhaustive z) (one_open ms i j h k)
  one_side ms bs (side.NotExhaustive i) (side.Check g) h k n m = absurd (open_or ms i k.0 h)
  one_side ms bs (side.Check f) (side.NotExhaustive j) h k n m = absurd (open_or ms j h.0 k)
  one_side ms bs (side.Check f) (side.Check g) h k n m = ap (λ (z : CheckFault). side.Check z) (one_first bs f g h.1 k.1)
