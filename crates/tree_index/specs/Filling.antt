-- Entries that go on one leaf, one after the other.
use Rattle.std.specs.Prelude.{◌≡◌, ◌⊎◌, ◌≤◌, ◌+◌, ℕ, zero, suc, Bool, true, false, List, [], ◌∷◌}
use Rattle.std.specs.Prelude.{length, take, Option, Some, None, Result, Ok, Err, if◌then◌else◌}
use Rattle.std.specs.List.{AllByRecursion, find}
use Rattle.std.specs.Ordering.{is_lt}
use Rattle.retro_base.specs.declared.refusal.Refusal.{Refusal}
use Rattle.values.specs.Value.{kind_of}
use Rattle.pager.specs.Allows.{◌>>=◌, in_turn, only}
use Rattle.pager.specs.Index.{found_cmp}
use Rattle.pager.specs.Pages.{Pages, with_bytes}
use Rattle.pager.specs.declared.index.Found.{Found}
use Rattle.index_page.specs.Entries.{entry_inserted}
use Rattle.index_page.specs.IndexPage.{AreWritable, page_bytes}
use Rattle.tree_index.specs.declared.filling.Filled.{Filled}
use Rattle.tree_index.specs.declared.walk.Met.{Met}
use Rattle.tree_index.specs.Walk.{children}
use Rattle.tree_index.specs.Work.{added, all_written, edited}

-- an entry goes the way of another behind a page
abbrev pub GoesAlong : Found → Found → Met → Type 0
GoesAlong first entry met = children entry entry met.held ≡ children first first met.held

-- the first key that is above an entry
abbrev pub first_above : Found → List Found → Option Found
first_above entry = find (λ (key : Found). is_lt (found_cmp entry key))

-- of two bounds the lower one
abbrev pub lower : Option Found → Option Found → Option Found
lower None b = b
lower (Some a) None = Some a
lower (Some a) (Some b) = Some (if is_lt (found_cmp b a) then b else a)

-- an entry is below a bound, where there is one
abbrev pub is_under : Option Found → Found → Bool
is_under None entry = true
is_under (Some key) entry = is_lt (found_cmp entry key)

-- a bound above an entry: each that is not below the entry, and below the bound, goes its way
pub record IsBound (first : Found) (way : List Met) (bound : Option Found) : Type 0 where
  pub above : is_under bound first ≡ true
  pub leads : (entry : Found) → is_lt (found_cmp entry first) ≡ false → is_under bound entry ≡ true
      → AllByRecursion (GoesAlong first entry) way

-- an entry is of the kind of the first, and lies between it and the bound
pub record Follows (first : Found) (bound : Option Found) (entry : Found) : Type 0 where
  pub kind : kind_of entry.value ≡ kind_of first.value
  pub behind : is_lt (found_cmp entry first) ≡ false
  pub under : is_under bound entry ≡ true

-- an entry is of the kind of the first, and goes its way
abbrev pub BelongsWith : Found → List Met → Found → Type 0
BelongsWith first way entry =
    (kind_of entry.value ≡ kind_of first.value) × AllByRecursion (GoesAlong first entry) way

-- what a leaf holds once entries are added, each of which has room there
abbrev pub IsFilled : List Found → List Found → List Found → Type 0
IsFilled held [] after = after ≡ held
IsFilled held (entry ∷ rest) after =
    AreWritable (entry_inserted entry held) × IsFilled (entry_inserted entry held) rest after

-- Some of the first entries belong on one leaf, and all of them are added to it, or all but the last.
pub record Fills (held : List Found) (way : List Met) (entries : List Found) (filled : Filled) : Type 0 where
  pub first : Found
  pub rest : List Found
  pub begin : entries ≡ first ∷ rest
  pub some : 1 ≤ filled.run
  pub among : filled.run ≤ length entries
  pub all : (filled.run ≡ filled.count) ⊎ (filled.run ≡ filled.count + 1)
  pub belong : AllByRecursion (BelongsWith first way) (take filled.run entries)
  pub fills : IsFilled held (take filled.count entries) filled.held

-- the pages after so many entries are added to a leaf, which holds this then
abbrev pub kept : ℕ → Met → Pages → Pages
kept zero met pages = pages
kept (suc count) met pages = with_bytes pages met.page (page_bytes met.held)

-- an entry is added where the way to its leaf is known
abbrev pub added_on : ℕ → ℕ → List Met → Found → Pages → Result (Unit {0} × Pages) Refusal → Type 0
added_on size root way entry pages = do
  edits ← edited size root entry pages way
  only (Ok (tt, all_written edits.1 edits.0))

-- so many of the first entries are added, one after the other; a refusal is that of all of them
abbrev pub run_added : ℕ → ℕ → List Found → Pages → Result (ℕ × Pages) Refusal → Type 0
run_added size root entries pages (Ok answer) =
    in_turn (added size root) (take answer.0 entries) pages (Ok (tt, answer.1))
run_added size root entries pages (Err why) = in_turn (added size root) entries pages (Err why)
