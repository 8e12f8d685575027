-- The pages' device and the pages in memory behind a call.
use Rattle.std.proofs.Common.{◌≡◌, ⊎_elim, ◌∙◌, ◌*◌, ℕ, length, List, Bool, true, false, cond, eqb, Option, None, Contains, refl, sym, ap, subst}
use Rattle.std.proofs.lemmas.Bool.{both_ways, cases_eq, eq-eqb, ne_eqb}
use Rattle.disk_model.specs.Disk.{State, IsDurable, IsImage, Unchanged}
use Rattle.retro_base.specs.declared.limits.TheConstants.{PAGE_BYTES}
use Rattle.block_file.specs.Blocks.{block_at, ChangesOnly, KeepsSettled}
use Rattle.block_file.proofs.Blocks as blocks
use Rattle.page_pool.specs.Side.{HoldsSure, IsNear, Pool, ReadsAs, with_page}
use Rattle.std.specs.Prelude.{IsSome}
use Rattle.page_pool.specs.declared.frames.Frame.{Frame}
use Rattle.page_pool.specs.Frames.{frame_at}

module _ {X : Type 0} (pages : ℕ → X) (page : ℕ) (x : X) where
  pub with_here : with_page pages page x page ≡ x
  with_here = ap (λ b. cond b x (pages page)) (eq-eqb page page refl)

  pub with_other : (other : ℕ) → (other ≡ page → ⊥) → with_page pages page x other ≡ pages other
  with_other other apart = ap (λ b. cond b x (pages other)) (ne_eqb other page apart)

-- the pages that are not loose beside one that is
module _ (loose : ℕ → Bool) (page : ℕ) where
  pub sure_apart : (other : ℕ) → with_page loose page true other ≡ false → other ≡ page → ⊥
  sure_apart other sure is = both_ways (with_page loose page true other) sure (ap (with_page loose page true) is ∙ with_here loose page true)

  pub sure_before : (other : ℕ) → with_page loose page true other ≡ false → loose other ≡ false
  sure_before other sure = sym (with_other loose page true other (sure_apart other sure)) ∙ sure

module _ (old new : State) (size later : ℕ) (device : ℕ → List ℕ) (loose : ℕ → Bool) (reads : ReadsAs old size device loose) where
  -- a device that only was read
  pub reads_still : Unchanged old new → length new.seen ≡ PAGE_BYTES * later → ReadsAs new later device loose
  reads_still same whole = record {
    reads = λ page. ap (λ (b : List ℕ). block_at b page) same.same ∙ reads.reads page;
    sure = λ page sure place at is. reads.sure page sure place at ((same.loose place).0 is);
    whole = whole;
  }

  -- each image has what is not loose
  pub image_holds : (image : List ℕ) → IsImage old image → HoldsSure device loose image
  image_holds image is = λ page sure. blocks.image_settled old image page is (reads.sure page sure) ∙ reads.reads page

  -- a device of which one page was written
  pub reads_written : (page : ℕ) → ChangesOnly (λ other. other ≡ page) old new → length new.seen ≡ PAGE_BYTES * later → ReadsAs new later (with_page device page (block_at new.seen page)) (with_page loose page true)
  reads_written page changes whole = record {
    reads = λ other. ⊎_elim
        (λ (is : other ≡ page). ap (block_at new.seen) is ∙ sym (with_here device page (block_at new.seen page)) ∙ ap (with_page device page (block_at new.seen page)) (sym is))
        (λ apart. changes.same other apart ∙ reads.reads other ∙ sym (with_other device page (block_at new.seen page) other apart))
        (cases_eq other page);
    sure = λ other sure. changes.settled other (sure_apart loose page other sure) (reads.sure other (sure_before loose page other sure));
    whole = whole;
  }

  -- and what a crash within the write leaves
  pub write_leaves : (page : ℕ) (left image : List ℕ) → KeepsSettled (λ other. other ≡ page) old image → HoldsSure (with_page device page left) (with_page loose page true) image
  write_leaves page left image kept = λ other sure.
      let apart = sure_apart loose page other sure in
      kept.kept other apart (reads.sure other (sure_before loose page other sure)) ∙ reads.reads other ∙ sym (with_other device page left other apart)

  -- a device that was settled
  pub reads_settled : new.seen ≡ old.seen → IsDurable new → length new.seen ≡ PAGE_BYTES * later → ReadsAs new later device (λ _. false)
  reads_settled same durable whole = record {
    reads = λ page. ap (λ (b : List ℕ). block_at b page) same ∙ reads.reads page;
    sure = λ page sure place at is. durable place is;
    whole = whole;
  }

  -- a device that may have been
  pub reads_synced : new.seen ≡ old.seen → ((place : ℕ) → new.is_loose place → old.is_loose place) → length new.seen ≡ PAGE_BYTES * later → ReadsAs new later device loose
  reads_synced same fewer whole = record {
    reads = λ page. ap (λ (b : List ℕ). block_at b page) same ∙ reads.reads page;
    sure = λ page sure place at is. reads.sure page sure place at (fewer place is);
    whole = whole;
  }

module _ {X : Type 0} (f g : ℕ → X) (page : ℕ) (x : X) where
  pub with_same : ((other : ℕ) → f other ≡ g other) → (other : ℕ) → with_page f page x other ≡ with_page g page x other
  with_same same other = ap (λ y. cond (eqb other page) x y) (same other)

-- behind a write the page is as it is now, and each clean one was
pub same_written : (device now : ℕ → List ℕ) (dirty : ℕ → Bool) (page : ℕ) → ((other : ℕ) → dirty other ≡ false → device other ≡ now other) → (other : ℕ) → with_page dirty page false other ≡ false → with_page device page (now page) other ≡ now other
same_written device now dirty page same other clean = ⊎_elim
    (λ (is : other ≡ page). ap (with_page device page (now page)) is ∙ with_here device page (now page) ∙ ap now (sym is))
    (λ apart. with_other device page (now page) other apart ∙ same other (sym (with_other dirty page false other apart) ∙ clean))
    (cases_eq other page)

-- a dirty page may hold any bytes on the device
pub same_failed : (device now : ℕ → List ℕ) (dirty : ℕ → Bool) (page : ℕ) (left : List ℕ) → dirty page ≡ true → ((other : ℕ) → dirty other ≡ false → device other ≡ now other) → (other : ℕ) → dirty other ≡ false → with_page device page left other ≡ now other
same_failed device now dirty page left soiled_now same other clean = ⊎_elim
    (λ (is : other ≡ page). absurd (both_ways (dirty page) (ap dirty (sym is) ∙ clean) soiled_now))
    (λ apart. with_other device page left other apart ∙ same other clean)
    (cases_eq other page)

-- a page that is nowhere in memory
pub not_near : {D : Type 0} (old new : Pool D) (page : ℕ) → frame_at old.frames page ≡ None → ((bytes : List ℕ) → Contains old.clean (page, bytes) → ⊥) → IsNear old new page
not_near old new page none missed = record {
  framed = λ some. absurd (both_ways false refl (subst (λ (o : Option Frame). IsSome o) none some));
  cached = λ bytes at. absurd (missed bytes at);
}
