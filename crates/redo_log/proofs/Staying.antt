-- Bases that fit their records.
use Rattle.std.proofs.Common.{◌<◌, ◌≤◌, ◌+◌, ◌%◌, ◌^◌, ◌++◌, ℕ, Bool, true, false, cond, leb, List, [], ◌∷◌, Option, Some, None, arith}
use Rattle.std.specs.List.{AllByRecursion}
use Rattle.history.specs.declared.entry.Base.{Base}
use Rattle.history.specs.declared.entry.Mark.{Mark}
use Rattle.history.specs.declared.entry.Change.{Change}
use Rattle.history.specs.declared.entry.Change.TheVariants.{Commit, Drop}
use Rattle.history.specs.declared.log.Version.{Version}
use Rattle.history.specs.declared.log.Version.TheVariants.{One, Two}
use Rattle.history.specs.History.{base_after, declared}
use Rattle.history.specs.Marks.{kept_marks, MarksRise, newest, oldest}
use Rattle.history.specs.Right.{IsBase, WritesRise}
use Rattle.history.proofs.BaseStays.{stays_right}
use Rattle.records.specs.Entries.{BaseFits, ChangeFits, IsNumberedFrom, LabelFits, MarkFits, page_width}
use Rattle.records.proofs.Numbering.{numbered_stays}
use Rattle.records.proofs.Short.{captured_few}
use Rattle.redo_log.specs.Laws.{FittingBasesStay}

newest-from : (captures number start : ℕ) (first : Mark) (marks : List Mark) → MarksRise captures number start (first ∷ marks) → first.number ≤ newest (first ∷ marks)
newest-from captures number start first [] rise = omega arith
newest-from captures number start first (next ∷ marks) rise = omega (arith, rise.2.0, newest-from captures first.number first.start next marks rise.2)

oldest-fits : (captures : ℕ) (marks : List Mark) → MarksRise captures 0 0 marks → newest marks < 2 ^ 32 → oldest marks < 2 ^ 32
oldest-fits captures [] rise lt = omega arith
oldest-fits captures (mark ∷ marks) rise lt = omega (arith, newest-from captures 0 0 mark marks rise, lt)

narrow-page : (version : Version) (page : ℕ) → page < 65536 → page < 256 ^ page_width version
narrow-page One page lt = lt
narrow-page Two page lt = omega (arith, lt)

narrow-pages : (version : Version) (limit : ℕ) (pages : List ℕ) → limit ≤ 65536 → AllByRecursion (λ page. page < limit) pages → AllByRecursion (λ page. page < 256 ^ page_width version) pages
narrow-pages version limit [] le all = tt
narrow-pages version limit (page ∷ pages) le all = (narrow-page version page (omega (arith, le, all.0)), narrow-pages version limit pages le all.1)

fits_of : (version : Version) (base : Base) → IsBase base → base.changes < 2 ^ 64 → AllByRecursion MarkFits base.marks → IsNumberedFrom (oldest base.marks) base.marks → BaseFits version base
fits_of version base right changes marks numbered = record {
  page_count = omega (arith, right.pages.1);
  capacity = omega (arith, right.capacity.1);
  changes = changes;
  captures = omega (arith, right.limits.total);
  horizon = (oldest-fits base.captures base.marks right.marks right.limits.newest, right.limits.newest);
  marks = marks;
  numbered = numbered;
  count = omega (arith, captured_few base right);
  rising = right.rising;
  pages = narrow-pages version base.page_count base.captured right.pages.1 right.in_store;
}

marks-push : (marks : List Mark) (mark : Mark) → AllByRecursion MarkFits marks → MarkFits mark → AllByRecursion MarkFits (marks ++ mark ∷ [])
marks-push [] mark all fits = (fits, tt)
marks-push (first ∷ marks) mark all fits = (all.0, marks-push marks mark all.1 fits)

marks-declared : (marks : List Mark) (count : ℕ) (label : Option (List ℕ)) → AllByRecursion MarkFits marks → LabelFits label → count < 2 ^ 64 → AllByRecursion MarkFits (declared marks count label)
marks-declared marks count None all fits lt = all
marks-declared marks count (Some label) all fits lt = marks-push marks (record { number = newest marks + 1; label = label; start = count }) all (record { label = fits; start = lt })

marks-kept : (below : ℕ) (marks : List Mark) → AllByRecursion MarkFits marks → AllByRecursion MarkFits (kept_marks below marks)
marks-kept below [] all = tt
marks-kept below (mark ∷ marks) all = go (leb below mark.number) (marks-kept below marks all.1) where
  go : (b : Bool) → AllByRecursion MarkFits (kept_marks below marks) → AllByRecursion MarkFits (cond b (mark ∷ marks) (kept_marks below marks))
  go true again = all
  go false again = again

rising : (version : Version) (change : Change) → ChangeFits version change → WritesRise change
rising version (Commit label writes) fits = fits.2
rising version (Drop below) fits = tt

small : (n : ℕ) → n % 2 ^ 64 < 2 ^ 64
small n = omega arith

pub fitting_bases_stay : FittingBasesStay
fitting_bases_stay version base (Commit label writes) right fits change may =
    let after = base_after base (Commit label writes) in
    let is = stays_right base (Commit label writes) right (rising version (Commit label writes) change) may in
    fits_of version after is (small (base.changes + 1)) (marks-declared base.marks after.captures label fits.marks change.0 (omega (arith, is.limits.total))) (numbered_stays base (Commit label writes) fits.numbered)
fitting_bases_stay version base (Drop below) right fits change may =
    let is = stays_right base (Drop below) right tt may in
    fits_of version (base_after base (Drop below)) is (small (base.changes + 1)) (marks-kept below base.marks fits.marks) (numbered_stays base (Drop below) fits.numbered)
