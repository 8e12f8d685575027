-- The run of a script over a store that a cabinet keeps.
use Rattle.std.specs.Prelude.{◌≡◌, ◌≢◌, ◌⊎◌, ◌==◌, ℕ, zero, suc, Bool, true, false, IsTrue, List, [], ◌∷◌, Option}
use Rattle.std.specs.Prelude.{Some, Result, Ok, Err, MatchResult, if◌then◌else◌}
use Rattle.std.specs.List.{list_any}
use Rattle.std.specs.Result.{IsErrAnd}
use Rattle.disk_model.specs.Disk.{State}
use Rattle.disk_model.specs.Moments.{Clock}
use Rattle.disk_model.specs.declared.four.Four.{Four}
use Rattle.retro_base.specs.declared.refusal.Refusal.{Refusal}
use Rattle.history.specs.declared.journal.Line.{Line}
use Rattle.history.specs.declared.journal.What.{What}
use Rattle.history.specs.declared.journal.What.TheVariants.{Fault}
use Rattle.session.specs.Plan.{Plan}
use Rattle.retro.specs.Asked.{AsksFor, IsAsked, RefusesScript}
use Rattle.retro.specs.Program.{FeedsTold}
use Rattle.retro.specs.Says.{IsStatusOf, Refuses, WritesOne}
use Rattle.retro.specs.Seen.{IsSteady, Seen}
use Rattle.retro.specs.Stores.{HandsOutNone, TakesBack}
use Rattle.retro.specs.Storing.{IsPrinted, RunsOn}
use Rattle.retro.specs.declared.asking.NoPlan.{NoPlan}
use Rattle.retro.specs.declared.storing.Ended.{Ended}

-- the cabinet handed out no devices, or a plan was run over the store on those that it handed out, or was not
abbrev pub RunsOnStore : {C D : Type 0} → (C → ℕ) → (C → List ℕ → Type 0) → (C → Type 0) →
    (C → List ℕ → Option (Four D))
    → (D → ℕ) → (D → ℕ) → (D → Type 0) → Type 0 → (D → State) → (D → Clock) → List ℕ → Plan → C → C →
    Result Ended Refusal
    → Type 0
RunsOnStore faults is_out tells store extent device_faults is_honest remembers state clock dir plan old new result =
    IsErrAnd result (HandsOutNone faults is_out tells store old new)
    ⊎ ((first last : Four _) × (tells old → store old dir ≡ Some first)
    × TakesBack faults is_out tells store dir old new last
    × RunsOn extent device_faults is_honest remembers state clock plan first last result)

-- ---- how it ends

abbrev pub is_fault : What → Bool
is_fault (Fault device count call) = true
is_fault what = false

-- a line of the journal tells a fault of a device
abbrev pub has_fault : List Line → Bool
has_fault journal = list_any (λ (line : Line). is_fault line.what) journal

-- a status in place of 0
abbrev pub in_place : ℕ → ℕ → ℕ
in_place other zero = other
in_place other (suc status) = suc status

-- The status of a run that ends so: in place of 0, it is 6 where its journal tells a fault, and else 8 where memory was
-- wanting to copy all that it captured.
abbrev pub ending_status : Ended → ℕ → ℕ
ending_status ended status =
    if has_fault ended.journal then in_place 6 status else if ended.copied then status else in_place 8 status

-- how a run of a plan over a store ends: its transcript is written
abbrev pub EndsRun : Seen → Plan → Result Ended Refusal → ℕ → Type 0
EndsRun sink plan (Ok ended) status =
    (written : ℕ) × WritesOne sink (IsPrinted plan ended) written × (status ≡ ending_status ended written)
EndsRun sink plan (Err why) status = Refuses sink why status

-- `run DIR`: the script is read before the cabinet is touched; so it was run, and so it ends
pub record RunsIn {C D : Type 0} (faults : C → ℕ) (is_out : C → List ℕ → Type 0) (tells : C → Type 0)
    (store : C → List ℕ → Option (Four D)) (extent device_faults : D → ℕ) (is_honest : D → Type 0) (remembers : Type 0)
    (state : D → State) (clock : D → Clock) (dir : List ℕ) (source sink : Seen) (old new : C) (status : ℕ)
    : Type 0 where
  pub asked : Result Plan NoPlan
  pub is_asked : IsAsked source asked
  pub runs : MatchResult asked
      (λ plan. (ended : Result Ended Refusal)
      × RunsOnStore faults is_out tells store extent device_faults is_honest remembers state clock dir plan old new
      ended
      × EndsRun sink plan ended status)
      (λ why. (new ≡ old) × RefusesScript sink why status)

-- ---- what the status tells

-- The status of a run whose journal tells a fault of a device: 6 where the sink did not fail, and 5 where it did. Of
-- one that tells none: 0, and then all is copied, or 5.
abbrev pub IsStatusBy : Bool → Seen → Ended → ℕ → Type 0
IsStatusBy true sink ended status = ((status ≡ 6) × IsSteady sink) ⊎ (status ≡ 5)
IsStatusBy false sink ended status = ((status ≡ 0) × (ended.copied ≡ true)) ⊎ (status ≡ 5)

module _ {C D : Type 0} (faults : C → ℕ) (is_out : C → List ℕ → Type 0) (tells : C → Type 0)
    (store : C → List ℕ → Option (Four D)) (extent device_faults : D → ℕ) (is_honest : D → Type 0) (remembers : Type 0)
    (state : D → State) (clock : D → Clock) (dir : List ℕ) (source sink : Seen) (old new : C) (status : ℕ) where
  -- the script asks for a plan, which was run over the store or not, and the status is that of what this came to
  pub record CameTo : Type 0 where
    pub plan : Plan
    pub asks : AsksFor source.bytes_old plan
    pub result : Result Ended Refusal
    pub ran : RunsOnStore faults is_out tells store extent device_faults is_honest remembers state clock dir plan old
        new result
    pub is : IsStatusOf (λ ended. IsStatusBy (has_fault ended.journal) sink ended) result status

  -- What the status of `run DIR` tells. No other comes. Where the source failed or the script is bad the cabinet is as
  -- it was.
  pub record HasCausesIn : Type 0 where
    pub statuses : IsTrue (list_any (λ one. one == status) (0 ∷ 3 ∷ 4 ∷ 5 ∷ 6 ∷ 7 ∷ 8 ∷ []))
    pub feeds : FeedsTold source sink status
    pub untouched : (status ≡ 3) ⊎ (status ≡ 4) → new ≡ old
    pub came : status ≢ 3 → status ≢ 4 → status ≢ 8 → CameTo

  -- the law of `run DIR`
  abbrev pub StatusesInTellCauses : Type 0
  StatusesInTellCauses =
      RunsIn faults is_out tells store extent device_faults is_honest remembers state clock dir source sink old new
      status
      → HasCausesIn
