-- Slots that are laid one by one.
use Rattle.std.proofs.Common.{◌≡◌, ◌∙◌, ◌+◌, ◌-◌, ◌*◌, ◌/◌, ◌%◌, ◌≤◌, ◌<◌, ◌⊎◌, ℕ, List, length, get_or, refl, sym, ap, arith, inl, inr}
use Rattle.std.proofs.lemmas.Bool.{cases_lt}
use Rattle.std.proofs.lemmas.Nat.{div-add-mod'}
use Rattle.std.proofs.Math.Nat.{mul-le-mul_right}
use Rattle.disk_model.specs.Disk.{State, IsImage}
use Rattle.disk_model.specs.Moments.{Clock}
use Rattle.disk_model.specs.Runs.{WritesNothing}
use Rattle.disk_model.proofs.Moments.{started}
use Rattle.block_file.specs.Blocks.{block_at, WritesOnly}
use Rattle.block_file.proofs.Blocks.{writes_among, writes_none, writes_on}
use Rattle.replay.specs.Opened.{forgotten}
use Rattle.race_model.specs.Vault.{Batch, IsSlotOf}

-- two numbers less than a ring apart are in different slots
pub slots_differ : (first near far capacity : ℕ) → near < far → far - near < capacity → (first + near) % capacity ≡ (first + far) % capacity → ⊥
slots_differ first near far capacity less few same =
    let a : (first + near) / capacity * capacity + (first + near) % capacity ≡ first + near = div-add-mod' (first + near) capacity in
    let b : (first + far) / capacity * capacity + (first + far) % capacity ≡ first + far = div-add-mod' (first + far) capacity in
    go a b (cases_lt ((first + near) / capacity) ((first + far) / capacity))
  where
    go : (first + near) / capacity * capacity + (first + near) % capacity ≡ first + near → (first + far) / capacity * capacity + (first + far) % capacity ≡ first + far
        → ((first + near) / capacity < (first + far) / capacity) ⊎ ((first + far) / capacity ≤ (first + near) / capacity) → ⊥
    go a b (inl up) =
        let more : (first + near) / capacity + 1 ≤ (first + far) / capacity = omega arith in
        omega (arith, mul-le-mul_right capacity more)
    go a b (inr down) = omega (arith, mul-le-mul_right capacity down)

module _ {D : Type 0} (capacity : ℕ) (batch : Batch) (remembers : Type 0) (state : D → State) (clock : D → Clock) where
  -- before the first call
  pub lays_none : (disk : D) → ((image : List ℕ) → (clock disk).left_since (clock disk).moment image → IsImage (state disk) image) → WritesOnly (IsSlotOf capacity batch) remembers state clock disk disk
  lays_none disk only_now =
      let nothing : WritesNothing remembers state clock disk disk = record { same = refl; loose = λ place is. is; any_moment = started remembers (clock disk) (IsImage (state disk)) only_now } in
      writes_none (IsSlotOf capacity batch) remembers state clock disk disk nothing

  module _ (front slot : ℕ) (within : front < length batch.images) (is : slot ≡ (batch.first + front) % capacity) (old mid new : D) (before : WritesOnly (IsSlotOf capacity batch) remembers state clock old mid) (lays : WritesOnly (λ other. other ≡ slot) remembers state clock mid new) where
    -- one capture more
    pub lays_more : WritesOnly (IsSlotOf capacity batch) remembers state clock old new
    lays_more =
        writes_on (IsSlotOf capacity batch) remembers state clock old mid new before
        (writes_among (IsSlotOf capacity batch) remembers state clock (λ other. other ≡ slot) mid new (λ number same. (front, within, same ∙ is)) lays)

    pub holds_more : length batch.images ≤ capacity → (bytes : List ℕ) → block_at (state new).seen slot ≡ bytes → bytes ≡ (get_or batch.images front forgotten).bytes
        → ((place : ℕ) → place < front → block_at (state mid).seen ((batch.first + place) % capacity) ≡ (get_or batch.images place forgotten).bytes)
        → (place : ℕ) → place < front + 1 → block_at (state new).seen ((batch.first + place) % capacity) ≡ (get_or batch.images place forgotten).bytes
    holds_more few bytes there laid held place less = by (cases_lt place front)
      where
        by : (place < front) ⊎ (front ≤ place) → block_at (state new).seen ((batch.first + place) % capacity) ≡ (get_or batch.images place forgotten).bytes
        by (inl earlier) =
            let near : front - place < capacity = omega arith in
            lays.others.same ((batch.first + place) % capacity) (λ same. slots_differ batch.first place front capacity earlier near (same ∙ is)) ∙ held place earlier
        by (inr at) =
            let same : place ≡ front = omega arith in
            ap (λ n. block_at (state new).seen ((batch.first + n) % capacity)) same ∙ ap (λ n. block_at (state new).seen n) (sym is) ∙ there ∙ laid ∙ ap (λ n. (get_or batch.images n forgotten).bytes) (sym same)
