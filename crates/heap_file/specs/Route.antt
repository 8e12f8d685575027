-- The route along the pages of a table, while rows are taken out of it.
use Rattle.std.specs.Prelude.{◌≡◌, ◌≢◌, ◌++◌, ℕ, List, ◌∷◌, map, Option, Some, None, IfSome, Result, Ok, Err}
use Rattle.retro_base.specs.declared.refusal.Refusal.{Refusal}
use Rattle.pager.specs.Allows.{◌>>=◌}
use Rattle.pager.specs.Pages.{Pages}
use Rattle.heap_file.specs.declared.chain.Link.{Link}
use Rattle.heap_file.specs.declared.page.HeapPage.{HeapPage}
use Rattle.heap_file.specs.declared.removing.Cursor.{Cursor}
use Rattle.heap_file.specs.Chain.{IsAt, HoldsStill, chain, met}
use Rattle.heap_file.specs.Work.{unlinked}

-- these are the numbers of the pages of the chain that begins with a page, in order
abbrev pub IsRoute : ℕ → Pages → ℕ → List ℕ → Type 0
IsRoute size pages first route =
    (links : List Link) × chain size pages first (Ok links) × (route ≡ map (λ (link : Link). link.page) links)

-- the route along the chain that begins with a page
abbrev pub routed : ℕ → Pages → ℕ → Result (List ℕ) Refusal → Type 0
routed size pages first (Ok route) = IsRoute size pages first route
routed size pages first (Err why) = chain size pages first (Err why)

-- the page before a page of a route, and the route without that page; none where it stands behind no other page
abbrev pub IsPassed : List ℕ → ℕ → Option (ℕ × List ℕ) → Type 0
IsPassed route page None =
    (front : List ℕ) (previous : ℕ) (behind : List ℕ) → route ≡ front ++ previous ∷ page ∷ behind → ⊥
IsPassed route page (Some passed) = (front : List ℕ) × (behind : List ℕ)
    × (route ≡ front ++ passed.0 ∷ page ∷ behind) × (passed.1 ≡ front ++ passed.0 ∷ behind)

-- a heap page holds a heap page still, which names the same next page
abbrev pub NextStays : ℕ → Pages → Pages → ℕ → Type 0
NextStays size pages after page = (held : HeapPage) → IsAt size pages page held
    → (now : HeapPage) × IsAt size after page now × (now.next ≡ held.next)

-- a page is passed over: the previous page names the next one, and every other page the one that it named
pub record PassesOver (size : ℕ) (pages after : Pages) (previous page next : ℕ) : Type 0 where
  pub named : (now : HeapPage) × IsAt size after previous now × (now.next ≡ next)
  pub others : (other : ℕ) → other ≢ previous → other ≢ page → NextStays size pages after other

-- a page that is then empty is taken out of the chain
abbrev pub left : ℕ → Pages → ℕ → ℕ → ℕ → Result (Unit {0} × Pages) Refusal → Type 0
left size pages first page next = do
  found ← met size pages first page
  unlinked size pages first found.0 page next

-- the answer of a step that edits, with the route after it
abbrev pub with_route : ℕ → ℕ → (Result (Unit {0} × Pages) Refusal → Type 0) → Result (List ℕ × Pages) Refusal → Type 0
with_route size first allows (Ok answer) = allows (Ok (tt, answer.1)) × IsRoute size answer.1 first answer.0
with_route size first allows (Err why) = allows (Err why)

-- what a cursor keeps of a table's pages holds
abbrev pub IsCursor : ℕ → Pages → ℕ → Cursor → Type 0
IsCursor size pages first cursor =
    HoldsStill size pages cursor.page × IfSome cursor.route (IsRoute size pages first)

-- the answer of a step that edits, with the cursor after it
abbrev pub with_cursor : ℕ → ℕ → (Result (Unit {0} × Pages) Refusal → Type 0) → Result (Cursor × Pages) Refusal → Type 0
with_cursor size first allows (Ok answer) = allows (Ok (tt, answer.1)) × IsCursor size answer.1 first answer.0
with_cursor size first allows (Err why) = allows (Err why)
