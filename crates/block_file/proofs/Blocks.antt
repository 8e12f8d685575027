-- What stays of blocks, and what a crash may leave of them.
use Rattle.std.proofs.Common.{◌≡◌, ◌∙◌, refl, sym, ap, ⊎_elim, ℕ, ◌+◌, ◌*◌, ◌-◌, ◌≤◌, ◌<◌, List, ◌++◌, length, get_or, take, drop, min, Result, arith, length-drop}
use Rattle.std.proofs.lemmas.Grind.{same_number_lists}
use Rattle.std.proofs.lemmas.List.{get_or-take, get_or-drop, length-take, length-take-le}
use Rattle.std.proofs.Math.Seq.{drop-append_seam, take-append_seam}
use Rattle.disk_model.specs.Disk.{State, InRange, IsImage, Writes, written}
use Rattle.disk_model.specs.Moments.{Clock, Elapses, LeavesOnly}
use Rattle.disk_model.specs.Runs.{WritesNothing}
use Rattle.disk_model.proofs.Moments.{started, goes_on, joined_weaker, weaker}
use Rattle.retro_base.specs.declared.limits.TheConstants.{PAGE_BYTES}
use Rattle.block_file.specs.Blocks.{block_at, IsAsLong, IsSettled, ChangesOnly, KeepsSettled, WritesOnly}

-- the length of a block follows from that of the bytes
length_block : (number : ℕ) (bytes : List ℕ) → length (block_at bytes number) ≡ min PAGE_BYTES (length bytes - PAGE_BYTES * number)
length_block number bytes = length-take PAGE_BYTES (drop (PAGE_BYTES * number) bytes) ∙ ap (λ (n : ℕ). min PAGE_BYTES n) (length-drop (PAGE_BYTES * number) bytes)

get_or_block : (number i : ℕ) (bytes : List ℕ) → i < PAGE_BYTES → get_or (block_at bytes number) i 0 ≡ get_or bytes (PAGE_BYTES * number + i) 0
get_or_block number i bytes lt = get_or-take PAGE_BYTES (drop (PAGE_BYTES * number) bytes) i 0 lt ∙ get_or-drop (PAGE_BYTES * number) bytes i 0

-- bytes that are the same in a block's range
pub block_same : (number : ℕ) (old new : List ℕ) → length new ≡ length old → ((place : ℕ) → InRange (PAGE_BYTES * number) PAGE_BYTES place → get_or new place 0 ≡ get_or old place 0) → block_at new number ≡ block_at old number
block_same number old new size same = same_number_lists (block_at new number) (block_at old number)
    (length_block number new ∙ ap (λ (n : ℕ). min PAGE_BYTES (n - PAGE_BYTES * number)) size ∙ sym (length_block number old))
    (λ i lt.
    let small : i < PAGE_BYTES = omega (arith, lt, length_block number new, length_block number old) in
    get_or_block number i new small ∙ same (PAGE_BYTES * number + i) (omega arith, omega (arith, small)) ∙ sym (get_or_block number i old small))

-- a settled block is in each image as it is read
pub image_settled : (state : State) (image : List ℕ) (number : ℕ) → IsImage state image → IsSettled state number → block_at image number ≡ block_at state.seen number
image_settled state image number is settled = block_same number state.seen image is.size (λ place within. is.kept place (settled place within))

-- an image of what has changed since in these blocks alone
pub image_keeps : (changed : ℕ → Type 0) (old new : State) (image : List ℕ) → ChangesOnly changed old new → IsImage new image → KeepsSettled changed old image
image_keeps changed old new image change is = record {
  size = is.size ∙ change.size;
  kept = λ number other settled. image_settled new image number is (change.settled number other settled) ∙ change.same number other;
}

-- nothing has changed
pub changes_none : (changed : ℕ → Type 0) (state : State) → ChangesOnly changed state state
changes_none changed state = record { size = refl; same = λ number other. refl; settled = λ number other was. was }

-- one change of these blocks alone, and then another
pub changes_on : (changed : ℕ → Type 0) (old mid new : State) → ChangesOnly changed old mid → ChangesOnly changed mid new → ChangesOnly changed old new
changes_on changed old mid new first second = record {
  size = second.size ∙ first.size;
  same = λ number other. second.same number other ∙ first.same number other;
  settled = λ number other was. second.settled number other (first.settled number other was);
}

-- a change of some of these blocks alone
pub changes_among : (some changed : ℕ → Type 0) (old new : State) → ((number : ℕ) → some number → changed number) → ChangesOnly some old new → ChangesOnly changed old new
changes_among some changed old new among change = record {
  size = change.size;
  same = λ number other. change.same number (λ is. other (among number is));
  settled = λ number other. change.settled number (λ is. other (among number is));
}

-- blocks that are kept over a change are kept before it
pub keeps_before : (changed : ℕ → Type 0) (old mid : State) (image : List ℕ) → ChangesOnly changed old mid → KeepsSettled changed mid image → KeepsSettled changed old image
keeps_before changed old mid image change keeps = record {
  size = keeps.size ∙ change.size;
  kept = λ number other settled. keeps.kept number other (change.settled number other settled) ∙ change.same number other;
}

-- an image that keeps all settled blocks but some of these
pub keeps_among : (some changed : ℕ → Type 0) (old : State) (image : List ℕ) → ((number : ℕ) → some number → changed number) → KeepsSettled some old image → KeepsSettled changed old image
keeps_among some changed old image among keeps = record { size = keeps.size; kept = λ number other. keeps.kept number (λ is. other (among number is)) }

module _ {D : Type 0} (changed : ℕ → Type 0) (remembers : Type 0) (state : D → State) (clock : D → Clock) where
  -- a run that writes these blocks alone, and then another
  pub writes_on : (old mid new : D) → WritesOnly changed remembers state clock old mid → WritesOnly changed remembers state clock mid new → WritesOnly changed remembers state clock old new
  writes_on old mid new first second = record {
    others = changes_on changed (state old) (state mid) (state new) first.others second.others;
    any_moment = joined_weaker remembers (clock old) (clock mid) (clock new) (KeepsSettled changed (state old)) (KeepsSettled changed (state mid)) (KeepsSettled changed (state old)) first.any_moment second.any_moment
        (λ image keeps. keeps) (λ image. keeps_before changed (state old) (state mid) image first.others);
  }

  -- a run that writes some of these blocks alone
  pub writes_among : (some : ℕ → Type 0) (old new : D) → ((number : ℕ) → some number → changed number) → WritesOnly some remembers state clock old new → WritesOnly changed remembers state clock old new
  writes_among some old new among run = record {
    others = changes_among some changed (state old) (state new) among run.others;
    any_moment = weaker remembers (clock old) (clock new) (KeepsSettled some (state old)) (KeepsSettled changed (state old)) (λ image. keeps_among some changed (state old) image among) run.any_moment;
  }

  -- what a crash leaves of a run that writes these blocks alone is as long as before
  pub writes_long : (old new : D) → WritesOnly changed remembers state clock old new → LeavesOnly remembers (clock old) (clock new) (IsAsLong (state old))
  writes_long old new run = weaker remembers (clock old) (clock new) (KeepsSettled changed (state old)) (IsAsLong (state old)) (λ image keeps. keeps.size) run.any_moment

  -- a run that writes nothing
  pub writes_none : (old new : D) → WritesNothing remembers state clock old new → WritesOnly changed remembers state clock old new
  writes_none old new run = record {
    others = record {
      size = ap length run.same;
      same = λ number other. ap (λ (seen : List ℕ). block_at seen number) run.same;
      settled = λ number other was place within loose. was place within (run.loose place loose);
    };
    any_moment = weaker remembers (clock old) (clock new) (IsImage (state old)) (KeepsSettled changed (state old)) (λ image. image_keeps changed (state old) (state old) image (changes_none changed (state old))) run.any_moment;
  }

apart : (number other place : ℕ) → (other ≡ number → ⊥) → InRange (PAGE_BYTES * other) PAGE_BYTES place → InRange (PAGE_BYTES * number) PAGE_BYTES place → ⊥
apart number other place differ within there = omega (arith, within.0, within.1, there.0, there.1)

-- a write of one block changes it alone
pub write_changes : {E : Type 0} (number from : ℕ) (bytes : List ℕ) (old new : State) (result : Result (Unit {0}) E) → from ≡ PAGE_BYTES * number → length bytes ≡ PAGE_BYTES → Writes from bytes old new result → ChangesOnly (λ other. other ≡ number) old new
write_changes number from bytes old new result at whole writes = record {
  size = writes.outside.size;
  same = λ other differ. block_same other old.seen new.seen writes.outside.size (λ place within. writes.outside.kept place (λ there. apart number other place differ within (in_block place there)));
  settled = λ other differ was place within loose. ⊎_elim (was place within) (λ there. apart number other place differ within (in_block place there)) (writes.loose place loose);
}
  where
    in_block : (place : ℕ) → InRange from (length bytes) place → InRange (PAGE_BYTES * number) PAGE_BYTES place
    in_block place there = (omega (arith, at, there.0), omega (arith, at, there.1, whole))

-- the block that was written
pub block_written : (number from : ℕ) (bytes old new : List ℕ) → from ≡ PAGE_BYTES * number → length bytes ≡ PAGE_BYTES → PAGE_BYTES * number + PAGE_BYTES ≤ length old → new ≡ written from bytes old → block_at new number ≡ bytes
block_written number from bytes old new at whole fits done =
    let rest = drop (from + length bytes) old in
    let front : length (take from old) ≡ from = length-take-le from old (omega (arith, at, fits)) in
    ap (λ (seen : List ℕ). block_at seen number) done
    ∙ ap (λ (n : ℕ). take PAGE_BYTES (drop n (take from old ++ (bytes ++ rest)))) (sym (front ∙ at))
    ∙ ap (take PAGE_BYTES) (drop-append_seam (take from old) (bytes ++ rest))
    ∙ ap (λ (n : ℕ). take n (bytes ++ rest)) (sym whole)
    ∙ take-append_seam bytes rest

-- one call that changes these blocks alone
pub keeps_over : (changed : ℕ → Type 0) (remembers : Type 0) (old_clock new_clock : Clock) (old new : State) → ((image : List ℕ) → old_clock.left_since old_clock.moment image → IsImage old image) → ChangesOnly changed old new → Elapses remembers old_clock new_clock (IsImage new) → LeavesOnly remembers old_clock new_clock (KeepsSettled changed old)
keeps_over changed remembers old_clock new_clock old new here change time =
    goes_on remembers old_clock old_clock new_clock (KeepsSettled changed old) (IsImage new)
    (started remembers old_clock (KeepsSettled changed old) (λ image left. image_keeps changed old old image (changes_none changed old) (here image left)))
    time (λ image. image_keeps changed old new image change)

-- a run that writes nothing leaves what is as long as before
pub nothing_long : {D : Type 0} (remembers : Type 0) (state : D → State) (clock : D → Clock) (old new : D) → WritesNothing remembers state clock old new → LeavesOnly remembers (clock old) (clock new) (IsAsLong (state old))
nothing_long remembers state clock old new run = weaker remembers (clock old) (clock new) (IsImage (state old)) (IsAsLong (state old)) (λ image is. is.size) run.any_moment

-- nor does none
pub rests_long : {D : Type 0} (remembers : Type 0) (state : D → State) (clock : D → Clock) (disk : D) → ((image : List ℕ) → (clock disk).left_since (clock disk).moment image → IsImage (state disk) image)
    → LeavesOnly remembers (clock disk) (clock disk) (IsAsLong (state disk))
rests_long remembers state clock disk here = started remembers (clock disk) (IsAsLong (state disk)) (λ image left. (here image left).size)
