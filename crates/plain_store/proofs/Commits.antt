-- Limits of commits.
use Rattle.std.proofs.Common.{◌≡◌, ◌+◌, ◌-◌, ◌^◌, ◌<◌, ◌≤◌, ℕ, Bool, true, false, cond, List, [], ◌∷◌, length, refl, arith, length-append}
use Rattle.std.specs.Prelude.{Option, Some, None, is_some, filter}
use Rattle.retro_base.specs.declared.limits.TheConstants.{JOURNAL_IMAGES, MAX_CAPTURES, RETAINED_SNAPSHOTS}
use Rattle.history.specs.declared.entry.Base.{Base}
use Rattle.history.specs.declared.entry.Mark.{Mark}
use Rattle.history.specs.declared.entry.Change.TheVariants.{Commit}
use Rattle.history.specs.declared.journal.Line.{Line}
use Rattle.history.specs.declared.writes.PageImage.{PageImage}
use Rattle.history.specs.History.{base_after, captures_page, capturing, declared}
use Rattle.history.specs.Lines.{images_in}
use Rattle.history.specs.Marks.{newest, oldest_start}
use Rattle.history.specs.Right.{IsBase}
use Rattle.history.proofs.MarkLaws.{newest-push}
use Rattle.plain_store.specs.Limits.{MayCommit}

filter_shorter : {X : Type 0} (p : X → Bool) (xs : List X) → length (filter p xs) ≤ length xs
filter_shorter p [] = omega arith
filter_shorter p (x ∷ xs) = by_test (p x) (filter_shorter p xs)
  where
    by_test : (b : Bool) → length (filter p xs) ≤ length xs → length (cond b (x ∷ filter p xs) (filter p xs)) ≤ length (x ∷ xs)
    by_test true rest = omega (arith, rest)
    by_test false rest = omega (arith, rest)

pub capturing_shorter : (base : Base) (writes : List PageImage) → length (capturing base writes) ≤ length writes
capturing_shorter base writes = filter_shorter (λ (write : PageImage). captures_page base write.page) writes

retained : (marks : List Mark) (captures : ℕ) (label : Option (List ℕ)) → length marks ≤ RETAINED_SNAPSHOTS → (is_some label ≡ true → length marks < RETAINED_SNAPSHOTS) → length (declared marks captures label) ≤ RETAINED_SNAPSHOTS
retained marks captures None within free = within
retained marks captures (Some label) within free = omega (arith, free refl, length-append {A = Mark} marks (record { number = newest marks + 1; label = label; start = captures } ∷ []))

numbered : (marks : List Mark) (captures : ℕ) (label : Option (List ℕ)) → newest marks < 2 ^ 32 → (is_some label ≡ true → newest marks < 2 ^ 32 - 1) → newest (declared marks captures label) < 2 ^ 32
numbered marks captures None within free = within
numbered marks captures (Some label) within free = rw (newest-push marks (record { number = newest marks + 1; label = label; start = captures })) (omega (arith, free refl))

pub may_commit : (base : Base) (lines : List Line) (label : Option (List ℕ)) (writes : List PageImage) → IsBase base → images_in lines + length writes ≤ JOURNAL_IMAGES
    → (is_some label ≡ true → (length base.marks < RETAINED_SNAPSHOTS) × (newest base.marks < 2 ^ 32 - 1))
    → ((base_after base (Commit label writes)).captures ≤ MAX_CAPTURES) × ((base_after base (Commit label writes)).captures - oldest_start (base_after base (Commit label writes)).marks ≤ (base_after base (Commit label writes)).capacity)
    → MayCommit base lines label writes
may_commit base lines label writes right images snapshots archive = record {
  images = images;
  limits = record {
    total = archive.0;
    room = archive.1;
    retained = retained base.marks _ label right.limits.retained (λ is. (snapshots is).0);
    newest = numbered base.marks _ label right.limits.newest (λ is. (snapshots is).1);
  };
}
