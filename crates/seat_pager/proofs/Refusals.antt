-- The count of a pager's refusals.
use Rattle.std.proofs.Common.{◌≡◌, ◌≤◌, ℕ, Some, Err, ap, subst, sym, arith}
use Rattle.retro_base.specs.Cause.{HasCause, raised}
use Rattle.retro_base.specs.declared.refusal.Refusal.{Refusal}
use Rattle.seat_pager.specs.declared.refused.Refused.{Refused}

pub caused : {T : Type 0} (old new : Refused) (why : Refusal) → old.count ≤ new.count → new ≡ record { last = Some why; count = raised old.count } → HasCause {T = T} {E = Refusal} old.count new.count (Err why)
caused old new why later more =
    let count : new.count ≡ raised old.count = ap (λ (r : Refused). r.count) more in
    record { later = later; failed = subst (λ (n : ℕ). raised old.count ≤ n) (sym count) (omega arith); steady = tt }
