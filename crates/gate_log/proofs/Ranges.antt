-- Images that are the same outside a range.
use Rattle.std.proofs.Common.{◌≤◌, ℕ, List, inl, inr, arith}
use Rattle.disk_model.specs.Disk.{State, InRange, IsDurable, SameOutside}
use Rattle.disk_model.specs.Moments.{Clock, LeavesOnly}
use Rattle.disk_model.proofs.Moments.{weaker}
use Rattle.gate_log.specs.Appending.{LooseOrIn}

-- where what is loose is known to be nothing
pub outside_alone : (state : State) (from count : ℕ) (old image : List ℕ) → IsDurable state → SameOutside (LooseOrIn state from count) old image → SameOutside (InRange from count) old image
outside_alone state from count old image durable same = record {
  size = same.size;
  kept = λ i out. same.kept i (λ there. elim there [ inl l ↦ durable i l | inr r ↦ out r ]);
}

-- in a range that reaches further
pub wider : (remembers : Type 0) (start next : Clock) (state : State) (from count more : ℕ) (old : List ℕ) → count ≤ more → LeavesOnly remembers start next (SameOutside (LooseOrIn state from count) old) → LeavesOnly remembers start next (SameOutside (LooseOrIn state from more) old)
wider remembers start next state from count more old le run =
    weaker remembers start next _ _ (λ image same. record {
      size = same.size;
      kept = λ i out. same.kept i (λ there. elim there [ inl l ↦ out (inl l) | inr r ↦ out (inr (r.0, omega (arith, r.1, le))) ]);
    }) run
