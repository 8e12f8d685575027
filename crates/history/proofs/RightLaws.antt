-- Tests of what is right, and what they mean.
use Rattle.std.proofs.Common.{◌≡◌, ◌<◌, ◌≤◌, ◌+◌, ◌-◌, ◌^◌, ◌↔◌, ◌⊎◌, inl, inr, cond, ℕ, List, length, Option, Some, None, refl, sym, subst, arith}
use Rattle.std.proofs.lemmas.List.{length_push}
use Rattle.retro_base.specs.declared.limits.TheConstants.{MAX_CAPTURES, RETAINED_SNAPSHOTS}
use Rattle.history.specs.declared.entry.Mark.{Mark}
use Rattle.history.specs.Marks.{newest, oldest_start}
use Rattle.std.specs.Option.{is_some}
use Rattle.history.specs.History.{declared}
use Rattle.history.specs.Right.{IsWithinLimits}
use Rattle.history.proofs.MarkLaws.{newest-push, oldest_start-push}

pub limits_are : (capacity captures start retained number : ℕ) (marks : List Mark) → oldest_start marks ≡ start → length marks ≡ retained → newest marks ≡ number
    → ((captures ≤ MAX_CAPTURES) × (captures - start ≤ capacity) × (retained ≤ RETAINED_SNAPSHOTS) × (number < 2 ^ 32)) ↔ IsWithinLimits capacity captures marks
limits_are capacity captures start retained number marks a b c = (
  λ all. record { total = all.0; room = subst (λ n. captures - n ≤ capacity) (sym a) all.1; retained = omega (arith, b, all.2); newest = omega (arith, c, all.3) },
  λ limits. (limits.total, subst (λ n. captures - n ≤ capacity) a limits.room, omega (arith, b, limits.retained), omega (arith, c, limits.newest)),
)

-- behind a commit there is one mark more where it declares
pub declared_more : (marks : List Mark) (captures more : ℕ) (label : Option (List ℕ)) → more ≡ cond (is_some label) 1 0
    → (length (declared marks captures label) ≡ length marks + more) × (newest (declared marks captures label) ≡ newest marks + more)
declared_more marks captures more None e = (omega arith, omega arith)
declared_more marks captures more (Some label) e =
    let mark : Mark = record { number = newest marks + 1; label = label; start = captures } in
    (omega (arith, length_push marks mark), omega (arith, newest-push marks mark))

pub declared_start : (marks : List Mark) (captures : ℕ) (label : Option (List ℕ)) → (label ≡ None) ⊎ (0 < length marks) → oldest_start (declared marks captures label) ≡ oldest_start marks
declared_start marks captures None h = refl
declared_start marks captures (Some label) (inl e) = absurd cc
declared_start marks captures (Some label) (inr some) = oldest_start-push marks (record { number = newest marks + 1; label = label; start = captures }) some
