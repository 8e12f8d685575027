-- Idle rounds are counted.
use Rattle.std.proofs.Common.{◌≡◌, ◌+◌, ◌∙◌, ℕ, Bool, true, false, cond, Option, Some, Result, Ok, IfSome, ap, subst, sym}
use Rattle.std.specs.declared.sync.OnceToken.{OnceToken}
use Rattle.retro_base.specs.declared.refusal.Refusal.{Refusal}
use Rattle.store.specs.declared.pace.Ended.{Ended}
use Rattle.store.specs.declared.pace.Ended.TheVariants.{Idled, Told}
use Rattle.store.specs.WorkerRounds.{AreAnswered, EndsSo, FoundMore, FoundNone, MayEnd}

some_is : {X : Type 0} (x y : X) → Some x ≡ Some y → x ≡ y
some_is x y e = cc e

-- a worker may end that was told so by this flag, or had as many idle rounds
pub may_end : (flag idle : ℕ) (told : Option (OnceToken (Unit {0}))) (ended : Ended) → IfSome told (λ token. token.of ≡ flag) → EndsSo told idle ended → MayEnd flag idle ended
may_end flag idle told (Told token) of so = subst (λ (t : Option (OnceToken (Unit {0}))). IfSome t (λ x. x.of ≡ flag)) so of
may_end flag idle told Idled of so = so

-- one more round was answered
module _ {S : Type 0} (Round : Result Bool Refusal → S → S → Type 0) where
  pub one_more : (idle later : ℕ) (more : Bool) (old middle new : S) → later ≡ cond more 0 (idle + 1) → AreAnswered Round idle old middle → Round (Ok more) middle new → AreAnswered Round later old new
  one_more idle later true old middle new counted answered round = subst (λ (n : ℕ). AreAnswered Round n old new) (sym counted) (FoundMore idle old middle new answered round)
  one_more idle later false old middle new counted answered round = subst (λ (n : ℕ). AreAnswered Round n old new) (sym counted) (FoundNone idle old middle new answered round)

  -- the last found nothing
  pub last_none : (more : Bool) (old new : S) → more ≡ false → Round (Ok more) old new → Round (Ok false) old new
  last_none more old new none round = subst (λ (b : Bool). Round (Ok b) old new) none round

-- that round is one more idle one
pub last_idle : (idle later : ℕ) (more : Bool) → more ≡ false → later ≡ cond more 0 (idle + 1) → later ≡ idle + 1
last_idle idle later more none counted = counted ∙ ap (λ (b : Bool). cond b 0 (idle + 1)) none

-- so a worker may end behind a round that found nothing
pub ended_so : (flag idle later : ℕ) (more : Bool) (told : Option (OnceToken (Unit {0}))) (ended : Ended) → IfSome told (λ token. token.of ≡ flag) → more ≡ false → later ≡ cond more 0 (idle + 1) → EndsSo told later ended → MayEnd flag (idle + 1) ended
ended_so flag idle later more told ended of none counted so = subst (λ (n : ℕ). MayEnd flag n ended) (last_idle idle later more none counted) (may_end flag later told ended of so)
