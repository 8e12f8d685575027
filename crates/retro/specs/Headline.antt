-- The headline: what the program does.
use Rattle.std.specs.Prelude.{◌≡◌, ◌⊎◌, ℕ, List, Option, Some, None, Result, Ok, Err}
use Rattle.disk_model.specs.Disk.{State}
use Rattle.disk_model.specs.Moments.{Clock}
use Rattle.disk_model.specs.declared.four.Four.{Four}
use Rattle.retro_base.specs.declared.limits.TheConstants.{MEMORY_PAGES}
use Rattle.retro.specs.Formats.{Formats}
use Rattle.retro.specs.Keeping.{RunsIn}
use Rattle.retro.specs.Loads.{Loads}
use Rattle.retro.specs.Memory.{memory_opening}
use Rattle.retro.specs.Program.{RunsPlainly}
use Rattle.retro.specs.Says.{LacksMemory, Says, bad_sizes_line, bad_words_line}
use Rattle.retro.specs.Seen.{Seen}
use Rattle.retro.specs.Shows.{Shows}
use Rattle.retro.specs.declared.words.Command.{Command}
use Rattle.retro.specs.declared.words.Command.TheVariants.{Format, Load, Run, Show}
use Rattle.retro.specs.declared.words.Mistake.{Mistake}
use Rattle.retro.specs.declared.words.Mistake.TheVariants.{BadSizes, BadWords, OutOfMemory}

module _ {C D : Type 0} (faults : C → ℕ) (is_out : C → List ℕ → Type 0) (tells : C → Type 0)
    (store : C → List ℕ → Option (Four D)) (extent device_faults : D → ℕ) (is_honest : D → Type 0) (remembers : Type 0)
    (state : D → State) (clock : D → Clock) (unread : Type 0) (source sink : Seen) (old new : C) where
  -- What the program does, and its exit status, by what its words ask for: how it runs a script over an empty store in
  -- memory, and over the store in a folder; makes a store; shows one; runs a load; and refuses other words. But for a
  -- script that is run the source is unread; and but for a store in a folder the cabinet is as it was.
  abbrev pub DoesAsAsked : Result (Command (List ℕ)) Mistake → ℕ → Type 0
  DoesAsAsked (Ok (Run None)) status = (new ≡ old) × RunsPlainly MEMORY_PAGES memory_opening source sink status
  DoesAsAsked (Ok (Run (Some dir))) status =
      RunsIn faults is_out tells store extent device_faults is_honest remembers state clock dir source sink old new
      status
  DoesAsAsked (Ok (Format dir sizes)) status =
      unread × Formats faults is_out tells store extent device_faults is_honest state dir sizes sink old new status
  DoesAsAsked (Ok (Show dir)) status =
      unread × Shows faults is_out tells store extent device_faults is_honest remembers state clock dir sink old new
      status
  DoesAsAsked (Ok (Load seed rounds)) status = unread × (new ≡ old) × Loads seed rounds sink status
  DoesAsAsked (Err BadWords) status = unread × (new ≡ old) × (status ≡ 2) × Says sink bad_words_line
  DoesAsAsked (Err BadSizes) status = unread × (new ≡ old) × (status ≡ 9) × Says sink bad_sizes_line
  DoesAsAsked (Err OutOfMemory) status = ⊥

  -- that; or memory ran out before it was known what the words ask for
  abbrev pub Does : Result (Command (List ℕ)) Mistake → ℕ → Type 0
  Does asked status = DoesAsAsked asked status ⊎ (unread × (new ≡ old) × LacksMemory sink status)
