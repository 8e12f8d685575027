-- How a run of device calls goes on.
use Rattle.std.proofs.Common.{ℕ, List, ◌≤◌, ◌∙◌, ⊎_elim, inl, inr, arith}
use Rattle.disk_model.specs.Disk.{State, IsImage}
use Rattle.disk_model.specs.Moments.{Clock, Elapses, LeavesOnly}
use Rattle.disk_model.specs.Runs.{OnlyReads, WritesNothing}
use Rattle.disk_model.proofs.Images.{image-same}

module _ (remembers : Type 0) where
  -- before the first call
  pub started : (old : Clock) (P : List ℕ → Type 0) → ((image : List ℕ) → old.left_since old.moment image → P image) → LeavesOnly remembers old old P
  started old P here = record { later = omega arith; each = here; before = λ t image le left. inl left; kept = λ r t image le left. left }

  -- one call more, after which a crash leaves what has P
  pub goes_on : (old mid new : Clock) (P Image : List ℕ → Type 0) → LeavesOnly remembers old mid P → Elapses remembers mid new Image → ((image : List ℕ) → Image image → P image) → LeavesOnly remembers old new P
  goes_on old mid new P Image so_far time here = record {
    later = omega (arith, so_far.later, time.later);
    each = λ image left. ⊎_elim (so_far.each image) (here image) (time.nothing_else old.moment image so_far.later left);
    before = λ t image le left. ⊎_elim (so_far.before t image le) (λ now. inr (here image now)) (time.nothing_else t image (omega (arith, le, so_far.later)) left);
    kept = λ r t image le left. time.kept r t image (omega (arith, le, so_far.later)) (so_far.kept r t image le left);
  }

  -- what has P has Q
  pub weaker : (old new : Clock) (P Q : List ℕ → Type 0) → ((image : List ℕ) → P image → Q image) → LeavesOnly remembers old new P → LeavesOnly remembers old new Q
  weaker old new P Q leads run = record {
    later = run.later;
    each = λ image left. leads image (run.each image left);
    before = λ t image le left. ⊎_elim (λ had. inl had) (λ now. inr (leads image now)) (run.before t image le left);
    kept = run.kept;
  }

  -- one run and then another
  pub joined : (old mid new : Clock) (P : List ℕ → Type 0) → LeavesOnly remembers old mid P → LeavesOnly remembers mid new P → LeavesOnly remembers old new P
  joined old mid new P first second = record {
    later = omega (arith, first.later, second.later);
    each = λ image left. ⊎_elim (first.each image) (λ now. now) (second.before old.moment image first.later left);
    before = λ t image le left. ⊎_elim (first.before t image le) (λ now. inr now) (second.before t image (omega (arith, le, first.later)) left);
    kept = λ r t image le left. second.kept r t image (omega (arith, le, first.later)) (first.kept r t image le left);
  }

  -- one run and then another, of which each leaves what has R
  pub joined_weaker : (old mid new : Clock) (P Q R : List ℕ → Type 0) → LeavesOnly remembers old mid P → LeavesOnly remembers mid new Q → ((image : List ℕ) → P image → R image) → ((image : List ℕ) → Q image → R image) → LeavesOnly remembers old new R
  joined_weaker old mid new P Q R first second leads also = joined old mid new R (weaker old mid P R leads first) (weaker mid new Q R also second)

  -- what a crash may leave now has P
  pub now_has : (old new : Clock) (P Image : List ℕ → Type 0) → LeavesOnly remembers old new P → ((t : ℕ) (image : List ℕ) → t ≤ new.moment → Image image → new.left_since t image) → (image : List ℕ) → Image image → P image
  now_has old new P Image run counts_now image is = run.each image (counts_now old.moment image run.later is)

  module _ {Device : Type 0} (state : Device → State) (clock : Device → Clock) (old mid new : Device) where
    -- a run that only reads, and then one that leaves what might have been left before
    pub reads_before : OnlyReads remembers state clock old mid → LeavesOnly remembers (clock mid) (clock new) (IsImage (state mid)) → LeavesOnly remembers (clock old) (clock new) (IsImage (state old))
    reads_before first second =
        joined (clock old) (clock mid) (clock new) (IsImage (state old)) first.any_moment
        (weaker (clock mid) (clock new) (IsImage (state mid)) (IsImage (state old)) (image-same (state old) (state mid) first.unchanged.same (λ i. (first.unchanged.loose i).0)) second)

    -- a run that only reads, and then another
    pub reads_on : OnlyReads remembers state clock old mid → OnlyReads remembers state clock mid new → OnlyReads remembers state clock old new
    reads_on first second = record {
      unchanged = record {
        same = second.unchanged.same ∙ first.unchanged.same;
        loose = λ i. (λ l. (first.unchanged.loose i).0 ((second.unchanged.loose i).0 l), λ l. (second.unchanged.loose i).1 ((first.unchanged.loose i).1 l));
      };
      any_moment = reads_before first second.any_moment;
    }

    -- a run that writes nothing, and then another
    pub writes_nothing_on : WritesNothing remembers state clock old mid → WritesNothing remembers state clock mid new → WritesNothing remembers state clock old new
    writes_nothing_on first second = record {
      same = second.same ∙ first.same;
      loose = λ i l. first.loose i (second.loose i l);
      any_moment = joined (clock old) (clock mid) (clock new) (IsImage (state old)) first.any_moment
          (weaker (clock mid) (clock new) (IsImage (state mid)) (IsImage (state old)) (image-same (state old) (state mid) first.same first.loose) second.any_moment);
    }

  -- a run that only reads writes nothing
  pub reads_write_nothing : {Device : Type 0} (state : Device → State) (clock : Device → Clock) (old new : Device) → OnlyReads remembers state clock old new → WritesNothing remembers state clock old new
  reads_write_nothing state clock old new run = record { same = run.unchanged.same; loose = λ i. (run.unchanged.loose i).0; any_moment = run.any_moment }
