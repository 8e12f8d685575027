-- The status of a run whose journal tells a fault, or whose captures were not all copied.
use Rattle.std.proofs.Common.{◌≡◌, ◌∙◌, ℕ, Bool, true, false, List, Result, Ok, Err, ap, inl, inr, if◌then◌else◌, sym}
use Rattle.std.specs.Prelude.{IfErr, IfOk}
use Rattle.retro.specs.Keeping.{ending_status, has_fault, in_place}
use Rattle.retro.specs.Says.{LacksMemory, Writes, WritesOne}
use Rattle.retro.specs.Seen.{Seen}
use Rattle.retro.specs.declared.storing.Ended.{Ended}

module _ (ended : Ended) (status : ℕ) where
  abbrev Quiet : ℕ
  Quiet = if ended.copied then status else in_place 8 status

  pub with_fault : has_fault ended.journal ≡ true → in_place 6 status ≡ ending_status ended status
  with_fault is = sym (ap (λ (b : Bool). if b then in_place 6 status else Quiet) is)

  quiet : has_fault ended.journal ≡ false → Quiet ≡ ending_status ended status
  quiet is = sym (ap (λ (b : Bool). if b then in_place 6 status else Quiet) is)

  pub with_wanting : has_fault ended.journal ≡ false → ended.copied ≡ false → in_place 8 status ≡ ending_status ended status
  with_wanting is lacks = sym (ap (λ (b : Bool). if b then status else in_place 8 status) lacks) ∙ quiet is

  pub with_none : has_fault ended.journal ≡ false → ended.copied ≡ true → status ≡ ending_status ended status
  with_none is all = sym (ap (λ (b : Bool). if b then status else in_place 8 status) all) ∙ quiet is

-- a text that was made was written, or there was none for want of memory
pub writes_one : {V E : Type 0} (sink : Seen) (items : V → List ℕ) (IsIt : List ℕ → Type 0) (text : Result V E) (status : ℕ) → IfOk text (λ made. IsIt (items made)) → IfOk text (λ made. Writes sink (items made) status)
    → IfErr text (λ why. LacksMemory sink status) → WritesOne sink IsIt status
writes_one sink items IsIt (Ok made) status is ok err = inl (items made, is, ok)
writes_one sink items IsIt (Err why) status is ok err = inr err
