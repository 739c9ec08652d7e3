-- What is said of a value doesn't matter after a fault, nor what is said of faults where memory alone can run out.
use Rattle.std.proofs.Common.{◌≡◌, Result, Ok, Err, IfOk, IfErr, IsErrAnd, sym, subst}
use Rattle.theory_states.specs.declared.fault.SourceFault.{SourceFault}
use Rattle.theory_states.specs.declared.fault.SourceFault.TheVariants.{Memory}
use Rattle.theory_states.specs.Uses.{OrMemory}

pub only_memory : {T : Type 0} (P : SourceFault → Type 0) (r : Result T SourceFault) → IfErr r (λ (f : SourceFault). f ≡ Memory) → IfErr r (OrMemory P)
only_memory P (Ok v) h = tt
only_memory P (Err f) h = subst (OrMemory P) (sym h) tt

pub is_memory : {T : Type 0} (r : Result T SourceFault) → IsErrAnd r (λ (f : SourceFault). f ≡ Memory) → IfErr r (λ (f : SourceFault). f ≡ Memory)
is_memory (Ok v) h = tt
is_memory (Err f) h = h

pub memory_so : (P : SourceFault → Type 0) (f : SourceFault) → f ≡ Memory → OrMemory P f
memory_so P f h = subst (OrMemory P) (sym h) tt

pub no_memory : {T : Type 0} (P : SourceFault → Type 0) (r : Result T SourceFault) → IsErrAnd r (λ (f : SourceFault). f ≡ Memory) → IfErr r (OrMemory P)
no_memory P (Ok v) h = tt
no_memory P (Err f) h = subst (OrMemory P) (sym h) tt

-- a value of which more is known
pub ok_of_three : {T E : Type 0} (r : Result T E) (P Q R S : T → Type 0) → ((v : T) → P v → Q v → R v → S v) → IfOk r P → IfOk r Q → IfOk r R → IfOk r S
ok_of_three (Ok v) P Q R S k p q h = k v p q h
ok_of_three (Err e) P Q R S k p q h = tt
