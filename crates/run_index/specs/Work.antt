-- What the calls do to the pages.
use Rattle.std.specs.Prelude.{◌≡◌, ◌<◌, ◌^◌, ◌++◌, ℕ, List, [], ◌∷◌, take, drop, IfOk, Result, Ok}
use Rattle.std.specs.List.{flat_map}
use Rattle.retro_base.specs.declared.refusal.Refusal.{Refusal}
use Rattle.values.specs.Value.{kind_of}
use Rattle.values.specs.declared.value.Value.{Value}
use Rattle.pager.specs.Allows.{◌>>=◌, only, either}
use Rattle.pager.specs.Index.{between}
use Rattle.pager.specs.Pages.{Pages, with_bytes}
use Rattle.pager.specs.Root.{taken}
use Rattle.pager.specs.declared.index.Found.{Found}
use Rattle.index_page.specs.Entries.{entry_inserted, is_past, reaches, taken_out}
use Rattle.index_page.specs.IndexPage.{have_room, half, page_bytes}
use Rattle.run_index.specs.declared.walk.Met.{Met}
use Rattle.run_index.specs.Run.{run_of}
use Rattle.run_index.specs.Walk.{met_at, walked}

-- the page that is taken, whose number fits in four bytes
abbrev pub taken_page : ℕ → Pages → Result (ℕ × Pages) Refusal → Type 0
taken_page size pages answer = (taken size pages ≡ answer) × IfOk answer (λ next. next.0 < 2 ^ 32)

-- a page is taken for a chain without entries
abbrev pub made : ℕ → Pages → Result (ℕ × Pages) Refusal → Type 0
made size pages = do
  next ← taken_page size pages
  only (Ok (next.0, with_bytes next.1 next.0 (page_bytes (run_of 0 []))))

-- entries go on the page that names that one where they fit, else the second half of them goes on a new page behind it
abbrev pub stored : ℕ → Pages → ℕ → ℕ → List Found → Result (Unit {0} × Pages) Refusal → Type 0
stored size pages page link entries =
    either (have_room entries)
    (only (Ok (tt, with_bytes pages page (page_bytes (run_of link entries)))))
    (do
      next ← taken_page size pages
      only
          (Ok (
            tt,
            with_bytes
                (with_bytes next.1 next.0 (page_bytes (run_of link (drop (half entries) entries))))
                page (page_bytes (run_of next.0 (take (half entries) entries))),
          )))

-- an entry is added on the page in which it belongs
abbrev pub added : ℕ → ℕ → Found → Pages → Result (Unit {0} × Pages) Refusal → Type 0
added size root entry pages = do
  met ← met_at (reaches entry) (kind_of entry.value) size pages root
  stored size pages met.page met.held.link (entry_inserted entry met.held.entries)

-- an entry is taken out of that page
abbrev pub removed : ℕ → ℕ → Found → Pages → Result (Unit {0} × Pages) Refusal → Type 0
removed size root entry pages = do
  met ← met_at (reaches entry) (kind_of entry.value) size pages root
  only (Ok (tt, with_bytes pages met.page (page_bytes (run_of met.held.link (taken_out entry met.held.entries)))))

-- the entries between two values, from the first page to the one with an entry past them
abbrev pub ranged : ℕ → ℕ → Value → Value → Pages → Result (List Found) Refusal → Type 0
ranged size root low high pages = do
  way ← walked (is_past high) (kind_of low) size pages root
  only (Ok (flat_map (λ (met : Met). between low high met.held.entries) (way.0 ++ way.1 ∷ [])))
