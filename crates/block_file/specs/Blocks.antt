-- The blocks of 1,024 bytes of a device, numbered from 0.
use Rattle.std.specs.Prelude.{◌≡◌, ◌↔◌, ℕ, ◌+◌, ◌*◌, ◌%◌, ◌≤◌, List, length, take, drop}
use Rattle.disk_model.specs.Disk.{State, InRange}
use Rattle.disk_model.specs.Moments.{Clock, LeavesOnly}
use Rattle.retro_base.specs.declared.limits.TheConstants.{PAGE_BYTES}

-- a device, and how many blocks it has
pub record File (D : Type 0) : Type 0 where
  pub disk : D
  pub blocks : ℕ

-- it has as many blocks, and its device is as honest as it was
pub record SameFile {D : Type 0} (is_honest : D → Type 0) (old new : File D) : Type 0 where
  pub blocks : new.blocks ≡ old.blocks
  pub honest : is_honest old.disk ↔ is_honest new.disk

-- a device of that many bytes has the block of that number
abbrev pub HasBlock : ℕ → ℕ → Type 0
HasBlock extent number = PAGE_BYTES * number + PAGE_BYTES ≤ extent

-- the block of that number of these bytes
abbrev pub block_at : List ℕ → ℕ → List ℕ
block_at bytes number = take PAGE_BYTES (drop (PAGE_BYTES * number) bytes)

-- nothing in the block is loose: a crash leaves of it what a read returns
abbrev pub IsSettled : State → ℕ → Type 0
IsSettled state number = (place : ℕ) → InRange (PAGE_BYTES * number) PAGE_BYTES place → state.is_loose place → ⊥

-- each block but those of `changed` reads the same, and is settled if it was
pub record ChangesOnly (changed : ℕ → Type 0) (old new : State) : Type 0 where
  pub size : length new.seen ≡ length old.seen
  pub same : (number : ℕ) → (changed number → ⊥) → block_at new.seen number ≡ block_at old.seen number
  pub settled : (number : ℕ) → (changed number → ⊥) → IsSettled old number → IsSettled new number

-- the image has each block that was settled as it was, but those of `changed`
pub record KeepsSettled (changed : ℕ → Type 0) (old : State) (image : List ℕ) : Type 0 where
  pub size : length image ≡ length old.seen
  pub kept : (number : ℕ) → (changed number → ⊥) → IsSettled old number
      → block_at image number ≡ block_at old.seen number

-- A run that writes these blocks alone: each other block stays as it was, and a crash at any moment of it leaves each
-- other settled block.
pub record WritesOnly {D : Type 0} (changed : ℕ → Type 0) (remembers : Type 0) (state : D → State) (clock : D → Clock)
    (old new : D) : Type 0 where
  pub others : ChangesOnly changed (state old) (state new)
  pub any_moment : LeavesOnly remembers (clock old) (clock new) (KeepsSettled changed (state old))

-- what a crash leaves is as long as what is read
abbrev pub IsAsLong : State → List ℕ → Type 0
IsAsLong state image = length image ≡ length state.seen

-- what is read of the device is as long as its blocks
abbrev pub FillsDevice : {D : Type 0} → (D → Type 0) → (D → State) → File D → Type 0
FillsDevice is_honest state file = is_honest file.disk → length (state file.disk).seen ≡ PAGE_BYTES * file.blocks

-- the slot of a number in a ring of that many
abbrev pub slot_of : ℕ → ℕ → ℕ
slot_of blocks number = number % blocks
