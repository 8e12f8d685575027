-- How many listed writes are still to come.
use Rattle.std.proofs.Common.{◌≡◌, ℕ, zero, suc, ◌+◌, ◌<◌, ◌≤◌, List, [], ◌∷◌, length, get_or, ap, subst, sym, arith}
use Rattle.disk_mem.specs.Plan.{Plan, counted, IsListed, writes_over}
use Rattle.disk_mem.specs.declared.schedule.Call.{Call}
use Rattle.disk_mem.specs.declared.schedule.Call.TheVariants.{Read, Write, Sync}

-- no more than are listed
pub over_all : (number : ℕ) (listed : List (Call × ℕ)) → writes_over number listed ≤ length listed
over_all number [] = omega arith
over_all number ((Write, one) ∷ rest) = let more = over_all number rest in omega (arith, more)
over_all number ((Read, one) ∷ rest) = let more = over_all number rest in omega (arith, more)
over_all number ((Sync, one) ∷ rest) = let more = over_all number rest in omega (arith, more)

-- fewer have a greater number
over_later : (number later : ℕ) (listed : List (Call × ℕ)) → number ≤ later → writes_over later listed ≤ writes_over number listed
over_later number later [] le = omega arith
over_later number later ((Write, one) ∷ rest) le = let more = over_later number later rest le in omega (arith, more, le)
over_later number later ((Read, one) ∷ rest) le = over_later number later rest le
over_later number later ((Sync, one) ∷ rest) le = over_later number later rest le

-- one fewer where the next is listed
over_next : (number : ℕ) (listed : List (Call × ℕ)) (k : ℕ) (d : Call × ℕ) → k < length listed → get_or listed k d ≡ (Write, number + 1)
    → writes_over (number + 1) listed + 1 ≤ writes_over number listed
over_next number [] k d lt is = absurd (omega (arith, lt))
over_next number (one ∷ rest) zero d lt is =
    let more : writes_over (number + 1) rest ≤ writes_over number rest = over_later number (number + 1) rest (omega arith) in
    subst (λ (x : Call × ℕ). writes_over (number + 1) (x ∷ rest) + 1 ≤ writes_over number (x ∷ rest)) (sym is) (omega (arith, more))
over_next number ((Write, one) ∷ rest) (suc k) d lt is = let more = over_next number rest k d (omega (arith, lt)) is in omega (arith, more)
over_next number ((Read, one) ∷ rest) (suc k) d lt is = over_next number rest k d (omega (arith, lt)) is
over_next number ((Sync, one) ∷ rest) (suc k) d lt is = over_next number rest k d (omega (arith, lt)) is

-- a write leaves no more to come
pub over_counted : (plan next : Plan) → next ≡ counted plan Write → plan.writes ≤ next.writes → writes_over next.writes next.failing ≤ writes_over plan.writes plan.failing
over_counted plan next is later = rw (ap (λ (p : Plan). p.failing) is) (over_later plan.writes next.writes plan.failing later)

-- a listed write leaves one fewer
pub over_listed : (plan next : Plan) → next ≡ counted plan Write → IsListed plan Write → writes_over next.writes next.failing + 1 ≤ writes_over plan.writes plan.failing
over_listed plan next is (small, (k, lt, listed)) =
    let one : next.writes ≡ plan.writes + 1 = omega (arith, ap (λ (p : Plan). p.writes) is, small) in
    rw (ap (λ (p : Plan). p.failing) is, one) (over_next plan.writes plan.failing k _ lt listed)
