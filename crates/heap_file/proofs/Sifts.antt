-- A table that is walked page by page, and the rows of it that pass so far.
use Rattle.std.proofs.Common.{◌⊎◌, ◌≤◌, ◌≡◌, ◌≢◌, ◌∙◌, ◌+◌, ◌<◌, ◌++◌, ℕ, true, List, [], ◌∷◌, length, Result, Ok, Err, inl, inr, refl, sym, ap, subst, arith, append-nil, length-append}
use Rattle.std.proofs.lemmas.List.Concat.{flat_map-append}
use Rattle.std.proofs.lemmas.List.Sorted.{All-permutation}
use Rattle.retro_base.specs.Fields.{number_at}
use Rattle.retro_base.specs.declared.refusal.Refusal.{Refusal}
use Rattle.pager.specs.Pages.{Pages, broken}
use Rattle.heap_file.specs.declared.chain.Link.{Link}
use Rattle.heap_file.specs.declared.chain.Placed.{Placed}
use Rattle.heap_file.specs.declared.page.HeapPage.{HeapPage}
use Rattle.heap_file.specs.Chain.{InOrder, IsAt, IsOpenWay, IsWay, chain, page_there, rows_of, rows_on, scanned}
use Rattle.heap_file.specs.HeapPage.{HoldsRows}
use Rattle.heap_file.specs.Sieving.{AllPass, meets, onto, passing, sifted, walked}
use Rattle.heap_file.specs.Work.{scanned_with_next}
use Rattle.heap_file.proofs.Sieves.{Test, everything, passing-append, whole}
use Rattle.heap_file.proofs.Ways.{goes_on, leads-more, not-there}

-- what is read so far: the pages before one that is there, and the rows of theirs that pass
pub record SoFar (passes : Test) (seen : List Placed → Type 0) (size : ℕ) (pages : Pages) (first count number : ℕ) (bytes : List ℕ) (kept : List Placed) : Type 0 where
  pub links : List Link
  pub way : IsWay size pages first links number
  pub there : page_there size pages number (Ok bytes)
  pub goes : IsOpenWay links number
  pub many : length links ≡ count
  pub passed : passing passes (rows_of links) ≡ Ok kept
  pub shown : seen (rows_of links)

-- a table whose first page is not there has no chain
pub no-chain : (size : ℕ) (pages : Pages) (first : ℕ) (why : Refusal) → page_there size pages first (Err why) → chain size pages first (Err why)
no-chain size pages first why h = ([], first, h.0, refl, tt, inr (not-there size pages first h.1))

-- the same test
pub same-test : (other passes : Test) (bytes : List ℕ) (page : ℕ) (kept after : List Placed) (r : Result ℕ Refusal) → other ≡ passes → walked other bytes page kept after r → walked passes bytes page kept after r
same-test other passes bytes page kept after r same e = subst (λ (t : Test). walked t bytes page kept after r) same e

-- rows that pass, with those of one page more, and sorted
pub all-pass-on : (other passes : Test) (kept more : List Placed) → other ≡ passes → AllPass passes kept → (AllPass other kept → AllPass other more) → AllPass passes more
all-pass-on other passes kept more same all go =
    subst (λ (t : Test). AllPass t kept → AllPass t more) same go all

pub all-pass-sorted : (passes : Test) (rows sorted : List Placed) → InOrder rows sorted → AllPass passes rows → AllPass passes sorted
all-pass-sorted passes rows sorted order all = All-permutation (λ (row : Placed). passes row ≡ Ok true) rows sorted order.0 all

-- the rows of one page more
rows-more : (links : List Link) (link : Link) → rows_of (links ++ link ∷ []) ≡ rows_of links ++ rows_on link
rows-more links link = flat_map-append rows_on links (link ∷ []) ∙ ap (λ (l : List Placed). rows_of links ++ l) (append-nil (rows_on link))

module _ (passes : Test) (seen : List Placed → Type 0) (size : ℕ) (pages : Pages) (first count number : ℕ) (bytes : List ℕ) (kept : List Placed) (so_far : SoFar passes seen size pages first count number bytes kept) where
  -- what the page holds, of which the rows pass that do
  module _ (held : HeapPage) (holds : HoldsRows bytes held) where
    abbrev link : Link
    link = record { page = number; held = held }

    abbrev links : List Link
    links = so_far.links ++ link ∷ []

    at : IsAt size pages number held
    at = record { named = so_far.there.0; there = so_far.there.1; holds = subst (λ (b : List ℕ). HoldsRows b held) (sym so_far.there.2) holds }

    way : IsWay size pages first links held.next
    way = leads-more size pages first number held so_far.links so_far.way at

    passed : (r : Result (List Placed) Refusal) → onto kept (passing passes (rows_on link)) ≡ r → passing passes (rows_of links) ≡ r
    passed r e = ap (passing passes) (rows-more so_far.links link) ∙ passing-append passes (rows_of so_far.links) (rows_on link) kept so_far.passed ∙ e

    long : length links ≡ count + 1
    long = omega (arith, so_far.many, length-append so_far.links (link ∷ []))

  -- the page is refused
  pub sift-here : (why : Refusal) → ((why ≡ broken number) × ((held : HeapPage) → HoldsRows bytes held → ⊥)) ⊎ ((held : HeapPage) × HoldsRows bytes held × (onto kept (passing passes (rows_on (record { page = number; held = held }))) ≡ Err why)) → sifted passes size pages first (Err why)
  sift-here why (inl none) =
      inl (so_far.links, number, none.0, so_far.way, so_far.goes, inr (λ held at. none.1 held (subst (λ (b : List ℕ). HoldsRows b held) so_far.there.2 at.holds)))
  sift-here why (inr refused) =
      inr (links refused.0 refused.1, refused.0.next, way refused.0 refused.1, passed refused.0 refused.1 (Err why) refused.2)

  module _ (more : List Placed) (next : ℕ) (walk : walked passes bytes number kept more (Ok next)) where
    abbrev held : HeapPage
    held = walk.0

    -- it is the last page
    pub sift-ended : (sorted : List Placed) → next ≡ 0 → count < size → InOrder more sorted → sifted passes size pages first (Ok sorted)
    sift-ended sorted end few order =
        let found = whole passes (rows_of (links held walk.1)) more sorted (passed held walk.1 (Ok more) walk.3) order in
        let ends : held.next ≡ 0 = walk.2 ∙ end in
        (found.all, (links held walk.1, (omega (arith, long held walk.1), omega (arith, long held walk.1, few), subst (λ (to : ℕ). IsWay size pages first (links held walk.1) to) ends (way held walk.1)), found.order), found.pass)

    -- the page that it names is none
    pub sift-stopped : (why : Refusal) → next ≢ 0 → page_there size pages next (Err why) → sifted passes size pages first (Err why)
    sift-stopped why named h =
        inl (links held walk.1, next, h.0, subst (λ (to : ℕ). IsWay size pages first (links held walk.1) to) walk.2 (way held walk.1), goes_on so_far.links (link held walk.1) next named, inr (not-there size pages next h.1))

    module _ (after : List Placed → Type 0) (goes : (rows : List Placed) → seen rows → (held : HeapPage) → HoldsRows bytes held → after (rows ++ rows_on (record { page = number; held = held }))) where
      shown : after (rows_of (links held walk.1))
      shown = subst after (sym (rows-more so_far.links (link held walk.1))) (goes (rows_of so_far.links) so_far.shown held walk.1)

      -- it is the last page, and all rows were met
      pub met-ended : next ≡ 0 → count < size → (front : List Placed) (met : List Placed → Type 0) → (after (rows_of (links held walk.1)) → met (front ++ rows_of (links held walk.1))) → meets met size pages first front
      met-ended end few front met is =
          let ends : held.next ≡ 0 = walk.2 ∙ end in
          (links held walk.1, (omega (arith, long held walk.1), omega (arith, long held walk.1, few), subst (λ (to : ℕ). IsWay size pages first (links held walk.1) to) ends (way held walk.1)), is shown)

      -- the page that it names is there
      pub sift-next : (page : List ℕ) → next ≢ 0 → page_there size pages next (Ok page) → SoFar passes after size pages first (count + 1) next page more
      sift-next page named there = record {
        links = links held walk.1;
        way = subst (λ (to : ℕ). IsWay size pages first (links held walk.1) to) walk.2 (way held walk.1);
        there = there;
        goes = goes_on so_far.links (link held walk.1) next named;
        many = long held walk.1;
        passed = passed held walk.1 (Ok more) walk.3;
        shown = shown;
      }

  -- the chain is longer than the store
  pub sift-endless : (why : Refusal) → why ≡ broken number → count ≡ size → sifted passes size pages first (Err why)
  sift-endless why is many = inl (so_far.links, number, is, so_far.way, so_far.goes, inl (so_far.many ∙ many))

-- every row passes
pub every-row : (size : ℕ) (pages : Pages) (first : ℕ) (a : Result (List Placed) Refusal) → sifted (λ row. Ok true) size pages first a → scanned size pages first a
every-row size pages first (Ok kept) h =
    let same : h.0 ≡ kept = cc (sym (everything h.0) ∙ h.2) in
    subst (λ (rows : List Placed). scanned size pages first (Ok rows)) same h.1
every-row size pages first (Err why) (inl stops) = stops
every-row size pages first (Err why) (inr refused) =
    let no : Ok (rows_of refused.0) ≡ Err why = sym (everything (rows_of refused.0)) ∙ refused.3 in
    absurd (cc no)

-- the rows, with the next row number that the first page's bytes tell
pub with-next : (size : ℕ) (pages : Pages) (first next : ℕ) (bytes : List ℕ) (rows : List Placed) → page_there size pages first (Ok bytes) → next ≡ number_at 8 bytes 8 → sifted (λ row. Ok true) size pages first (Ok rows) → scanned_with_next size pages first (Ok (rows, next))
with-next size pages first next bytes rows there is h = by h.1.0 h.1.1.0 h.1.1.2
  where
    scan : scanned size pages first (Ok rows)
    scan = every-row size pages first (Ok rows) h

    by : (links : List Link) → 1 ≤ length links → IsWay size pages first links 0 → scanned_with_next size pages first (Ok (rows, next))
    by [] some way = absurd (omega arith)
    by (link ∷ links) some way =
        let at : IsAt size pages first link.held = subst (λ (page : ℕ). IsAt size pages page link.held) way.0 way.1 in
        let same : link.held.next_number ≡ next = sym at.holds.next_number ∙ ap (λ (b : List ℕ). number_at 8 b 8) there.2 ∙ sym is in
        (rows, scan, (next, (link.held, at, ap (λ (n : ℕ). Ok n) same), refl))

pub with-next-not : (size : ℕ) (pages : Pages) (first : ℕ) (why : Refusal) → sifted (λ row. Ok true) size pages first (Err why) → scanned_with_next size pages first (Err why)
with-next-not size pages first why h = inl (every-row size pages first (Err why) h)
