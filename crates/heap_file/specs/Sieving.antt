-- The rows of a table that pass a test.
use Rattle.std.specs.Prelude.{◌≡◌, ◌⊎◌, ◌++◌, ℕ, Bool, List, [], ◌∷◌, All, Option, Some, None}
use Rattle.std.specs.Prelude.{Result, Ok, Err, true, if◌then◌else◌}
use Rattle.retro_base.specs.Gives.{◌>>=◌}
use Rattle.retro_base.specs.declared.refusal.Refusal.{Refusal}
use Rattle.retro_base.specs.declared.refusal.Refusal.TheVariants.{OutOfMemory}
use Rattle.pager.specs.Draft.{drafted}
use Rattle.pager.specs.Pages.{Pages, broken}
use Rattle.pager.specs.declared.draft.Draft.{Draft}
use Rattle.heap_file.specs.declared.chain.Link.{Link}
use Rattle.heap_file.specs.declared.chain.Placed.{Placed}
use Rattle.heap_file.specs.declared.page.HeapPage.{HeapPage}
use Rattle.heap_file.specs.declared.page.Entry.{Entry}
use Rattle.heap_file.specs.HeapPage.{AreFirstEntries, HoldsRows}
use Rattle.heap_file.specs.Chain.{IsWay, chain, rows_of, rows_on, scanned}

-- the rows that pass, in order; the first refusal stands
abbrev pub passing : (Placed → Result Bool Refusal) → List Placed → Result (List Placed) Refusal
passing passes [] = Ok []
passing passes (row ∷ rows) = do
  stays ← passes row
  others ← passing passes rows
  Ok (if stays then row ∷ others else others)

-- each of these rows passes
abbrev pub AllPass : (Placed → Result Bool Refusal) → List Placed → Type 0
AllPass passes rows = All (λ (row : Placed). passes row ≡ Ok true) rows

-- the rows so far, and those that pass behind them
abbrev pub onto : List Placed → Result (List Placed) Refusal → Result (List Placed) Refusal
onto front (Ok rows) = Ok (front ++ rows)
onto front (Err why) = Err why

-- What is made of a page's bytes: the rows so far with those of it that pass, and the next page; or it is refused, as
-- broken or as its first row is that the test refuses, or memory ran out.
abbrev pub walked : (Placed → Result Bool Refusal) → List ℕ → ℕ → List Placed → List Placed → Result ℕ Refusal
    → Type 0
walked passes bytes page front kept (Ok next) =
    (held : HeapPage) × HoldsRows bytes held × (held.next ≡ next)
    × (onto front (passing passes (rows_on (record { page = page; held = held }))) ≡ Ok kept)
walked passes bytes page front kept (Err why) =
    (why ≡ OutOfMemory)
    ⊎ ((why ≡ broken page) × ((held : HeapPage) → HoldsRows bytes held → ⊥))
    ⊎ ((held : HeapPage) × HoldsRows bytes held
    × (onto front (passing passes (rows_on (record { page = page; held = held }))) ≡ Err why))

-- why a page is refused of which a row is refused so, and these bytes stand behind it: it is broken where so many
-- entries do not stand there; or memory ran out
abbrev pub refused : List ℕ → ℕ → ℕ → Refusal → Refusal → Type 0
refused behind count page why answer =
    (answer ≡ OutOfMemory)
    ⊎ ((answer ≡ broken page) × AreFirstEntries behind count None)
    ⊎ ((answer ≡ why) × (entries : List Entry) × AreFirstEntries behind count (Some entries))

-- The rows that pass of the table that begins with a page, in rising number. Refused where the chain is broken, or as
-- the first row is that the test refuses on the way along it.
abbrev pub sifted : (Placed → Result Bool Refusal) → ℕ → Pages → ℕ → Result (List Placed) Refusal → Type 0
sifted passes size pages first (Ok kept) =
    (rows : List Placed) × scanned size pages first (Ok rows) × (passing passes rows ≡ Ok kept)
sifted passes size pages first (Err why) =
    chain size pages first (Err why)
    ⊎ ((links : List Link) × (to : ℕ) × IsWay size pages first links to × (passing passes (rows_of links) ≡ Err why))

-- behind the rows before, a test has met those of the table that begins with a page, page by page
abbrev pub meets : (List Placed → Type 0) → ℕ → Pages → ℕ → List Placed → Type 0
meets met size pages first front =
    (links : List Link) × chain size pages first (Ok links) × met (front ++ rows_of links)

-- the same whatever pages a pager shows, with the edits of a draft
abbrev pub HasMet : (List Placed → Type 0) → (Pages → Pages → Type 0) → Draft → ℕ → List Placed → Type 0
HasMet met tells draft first front =
    (base shown : Pages) → tells base shown → meets met draft.size (drafted shown draft.list) first front
