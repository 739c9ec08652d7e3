-- What is said of a value doesn't matter after a fault.
use Rattle.std.proofs.Common.{Result, Ok, Err, OnOk, IfOk, IsErrAnd}

pub no_ok : {T E : Type 0} (P : Type 0) (Q : E → Type 0) (r : Result T E) → IsErrAnd r Q → OnOk r P
no_ok P Q (Ok v) h = absurd h
no_ok P Q (Err e) h = tt

pub no_value : {T E : Type 0} (P : T → Type 0) (Q : E → Type 0) (r : Result T E) → IsErrAnd r Q → IfOk r P
no_value P Q (Ok v) h = absurd h
no_value P Q (Err e) h = tt
