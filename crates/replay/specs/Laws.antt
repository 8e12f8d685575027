-- What follows from these definitions, in the words of the subject.
use Rattle.std.specs.Prelude.{◌≡◌, ◌≤◌, ◌<◌, ◌%◌, true, ℕ, length, Option, Some, None}
use Rattle.retro_base.specs.FirstMet.{first_met}
use Rattle.history.specs.History.{History, now, captures, pages_as_of}
use Rattle.history.specs.Laws.{IsConsistent}
use Rattle.history.specs.Marks.{is_retained, start_of}
use Rattle.history.specs.Right.{IsBase, AreRight}
use Rattle.history.specs.Writes.{pages_of}
use Rattle.skippy.specs.Mappings.{end_of}
use Rattle.replay.specs.Joined.{AreJoined}
use Rattle.replay.specs.Opened.{Contents, opened}

-- a right log, and mappings that belong to it
pub record AreRightContents (contents : Contents) : Type 0 where
  pub base : IsBase contents.log.base
  pub right : AreRight contents.log.base contents.log.changes
  pub joined : AreJoined contents

-- Whatever devices hold, the history that they open to is consistent.
abbrev pub OpenedIsConsistent : Type 0
OpenedIsConsistent = (contents : Contents) → AreRightContents contents → IsConsistent (opened contents)

-- As of a retained snapshot a page has the bytes of its first capture from the snapshot's start on: those in the
-- capture's slot, where the archive holds the capture. Where there is none, the page is as it is.
abbrev pub PastByFirstCapture : Type 0
PastByFirstCapture = (contents : Contents) (snapshot page : ℕ) → AreRightContents contents →
    is_retained snapshot (now (opened contents)).base.marks ≡ true →
    let history : History = opened contents in
    let first : Option ℕ =
    first_met (pages_of (captures history)) (start_of snapshot (now history).base.marks)
    (length (captures history)) page in
    ((number : ℕ) → first ≡ Some number → number < end_of contents.mappings → (contents.mappings.low ≤ number)
    × (pages_as_of history snapshot page ≡ contents.slots (number % contents.log.base.capacity)))
    × (first ≡ None → pages_as_of history snapshot page ≡ (now history).pages page)
