-- What sessions have open: a finite map by session number.
use Rattle.std.specs.Prelude.{◌≡◌, ◌+◌, ◌<◌, ◌≤◌, ◌==◌, ◌&&◌, nat_lt, ℕ, zero, suc, Bool, true, false, not, List}
use Rattle.std.specs.Prelude.{[], ◌∷◌, length, Option, Some, None, slice_index, slice_index_or, if◌then◌else◌}
use Rattle.std.specs.BTreeSet.{insert_key}
use Rattle.std.specs.Ordering.{nat_cmp}
use Rattle.std.specs.Option.{option_or}
use Rattle.retro_base.specs.declared.who.Who.{Who}
use Rattle.retro_base.specs.declared.refusal.Refusal.{Refusal}
use Rattle.history.specs.declared.writes.PageImage.{PageImage}
use Rattle.history.specs.Writes.{pages_of, is_among}
use Rattle.journal_book.specs.declared.work.Transaction.{Transaction}
use Rattle.journal_book.specs.declared.work.Work.{Work}
use Rattle.journal_book.specs.declared.work.Work.TheVariants.{Open, Looking, KeptDrop}

-- the pages of the store, and the work of each session by its number; past the end there is none
pub record Works : Type 0 where
  pub pages : ℕ
  pub slots : List (Option Work)

abbrev pub work_at : List (Option Work) → ℕ → Option Work
work_at slots session = slice_index_or slots session None

-- with this work, or none, of one session
abbrev pub with_work : List (Option Work) → ℕ → Option Work → List (Option Work)
with_work [] zero work = work ∷ []
with_work [] (suc session) work = None ∷ with_work [] session work
with_work (slot ∷ slots) zero work = work ∷ slots
with_work (slot ∷ slots) (suc session) work = slot ∷ with_work slots session work

abbrev pub working : Works → ℕ → Option Work → Works
working works session work = record works { slots = with_work works.slots session work }

-- whose a work is
abbrev pub who_of : Work → Who
who_of (Open transaction) = transaction.who
who_of (Looking look) = look.who
who_of (KeptDrop who) = who

-- a transaction of this session is open
pub record IsOpenAt (slots : List (Option Work)) (session : ℕ) : Type 0 where
  pub transaction : Transaction
  pub open_there : work_at slots session ≡ Some (Open transaction)

-- the edits of a session's work
abbrev pub edits_of : Option Work → List PageImage
edits_of (Some (Open transaction)) = transaction.edits
edits_of _ = []

abbrev pub edits_page : ℕ → Option Work → Bool
edits_page page work = is_among page (pages_of (edits_of work))

-- the item that edits the page, if it is of another session than this one
abbrev pub latched_by : Who → ℕ → Option Work → Option Who
latched_by who page (Some (Open transaction)) =
    if is_among page (pages_of transaction.edits) && not (transaction.who.session == who.session)
    then Some transaction.who else None
latched_by who page _ = None

-- the item that holds the page's latch against this one
abbrev pub latch_holder : Who → ℕ → List (Option Work) → Option Who
latch_holder who page [] = None
latch_holder who page (slot ∷ slots) = option_or (latched_by who page slot) (latch_holder who page slots)

-- the least snapshot that a work pins, with its session
abbrev pub first_pin : Option Work → Option (ℕ × ℕ)
first_pin (Some (Looking look)) = first_of look.pins where
  first_of : List ℕ → Option (ℕ × ℕ)
  first_of [] = None
  first_of (snapshot ∷ snapshots) = Some (snapshot, look.who.session)
first_pin _ = None

-- the one of the lesser snapshot, the first where they are of one
abbrev pub lesser : Option (ℕ × ℕ) → Option (ℕ × ℕ) → Option (ℕ × ℕ)
lesser None other = other
lesser (Some pin) None = Some pin
lesser (Some pin) (Some other) = if nat_lt other.0 pin.0 then Some other else Some pin

-- the least snapshot that is pinned, with the least session that pins it
abbrev pub least_pin : List (Option Work) → Option (ℕ × ℕ)
least_pin [] = None
least_pin (slot ∷ slots) = lesser (first_pin slot) (least_pin slots)

-- edits with one more, which takes the place of an earlier one of its page
abbrev pub with_edit : PageImage → List PageImage → List PageImage
with_edit image [] = image ∷ []
with_edit image (other ∷ images) =
    if nat_lt other.page image.page then other ∷ with_edit image images else if image.page == other.page
    then image ∷ images else image ∷ other ∷ images

-- the bytes of the page's edit, if it has one
abbrev pub own_edit : ℕ → List PageImage → Option (List ℕ)
own_edit page [] = None
own_edit page (image ∷ images) = if image.page == page then Some image.bytes else own_edit page images

-- the page's edit stands at this place, and those before it are of lesser pages
pub record IsThere (page : ℕ) (images : List PageImage) (place : ℕ) : Type 0 where
  pub inside : place < length images
  pub below : (other : ℕ) (d : PageImage) → other < place → (slice_index_or images other d).page < page
  pub is : (d : PageImage) → (slice_index_or images place d).page ≡ page

-- the page has no edit, and its own would go to this place
pub record GoesTo (page : ℕ) (images : List PageImage) (place : ℕ) : Type 0 where
  pub inside : place ≤ length images
  pub below : (other : ℕ) (d : PageImage) → other < place → (slice_index_or images other d).page < page
  pub above : (d : PageImage) → place < length images → page < (slice_index_or images place d).page

-- the transaction with this page read, with this edit, and with this refusal kept
abbrev pub reading : ℕ → Transaction → Transaction
reading page transaction =
    record transaction { reads = record { keys = insert_key nat_cmp transaction.reads.keys page } }

abbrev pub editing : PageImage → Transaction → Transaction
editing image transaction = record transaction { edits = with_edit image transaction.edits }

abbrev pub keeping_refusal : Refusal → Transaction → Transaction
keeping_refusal why transaction = record transaction { kept = Some why }

-- The table of latches by page: one more than the number of the session that edits the page, or 0.
pub record AreLatches (latches : List ℕ) (slots : List (Option Work)) : Type 0 where
  pub named : (page session : ℕ) → page < length latches → slice_index latches page ≡ session + 1 →
      edits_page page (work_at slots session) ≡ true
  pub held : (page session : ℕ) → edits_page page (work_at slots session) ≡ true → (page < length latches)
      × (slice_index latches page ≡ session + 1)

-- no session edits any of these pages, each of which is the store's
pub record AreFree (works : Works) (images : List PageImage) : Type 0 where
  pub in_store : (page : ℕ) → is_among page (pages_of images) ≡ true → page < works.pages
  pub unlatched : (page session : ℕ) → is_among page (pages_of images) ≡ true →
      edits_page page (work_at works.slots session) ≡ false
