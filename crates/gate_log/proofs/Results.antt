-- Answers that are errors.
use Rattle.std.specs.Result.{IsErrAnd}
use Rattle.std.proofs.Common.{Result, Ok, Err, OnOk}

-- an error owes nothing of a success
pub err_owes : {T E : Type 0} (r : Result T E) (P : E → Type 0) (X : Type 0) → IsErrAnd r P → OnOk r X
err_owes (Ok x) P X is = absurd is
err_owes (Err e) P X is = tt
