-- A table is made in a well-formed store.
use Rattle.std.proofs.Common.{◌≡◌, ◌<◌, ◌≤◌, ◌+◌, ◌++◌, ◌∙◌, ℕ, List, [], ◌∷◌, flat_map, Ok, Err, inl, inr, refl, sym, ap, arith, subst, eq-eqb}
use Rattle.std.proofs.lemmas.List.{map-append}
use Rattle.std.proofs.lemmas.List.Sorted.{IsPermutation-refl, IsNonDecreasingBy-short}
use Rattle.pager.specs.Pages.{Pages, with_bytes}
use Rattle.heap_file.specs.declared.chain.Placed.{Placed}
use Rattle.heap_file.specs.Chain.{IsAt, rows_of}
use Rattle.heap_file.specs.HeapPage.{empty_page, page_bytes}
use Rattle.heap_laws.specs.Laws.{DoesOrIsFull, MakeLaw}
use Rattle.heap_laws.specs.Store.{Chain, IsChain, IsSized, free_pages, pages_behind, pages_held, pages_inner, pages_of, root_at, times, times_numbered}
use Rattle.heap_laws.specs.Table.{EditsExactly, IsTable, MakesTable}
use Rattle.heap_laws.proofs.Counts.{one_if}
use Rattle.heap_laws.proofs.Editing.{edits-write, free-same}
use Rattle.heap_laws.proofs.Reading.{ok-err}
use Rattle.heap_laws.proofs.Roots.{rooted-edits, take-answer, Taken}
use Rattle.heap_laws.proofs.Routes.{at-written, link_of, rows-cons, times-append, times-cons, written-other}
use Rattle.heap_laws.proofs.Stores.{all-join, all-stay, chains-same, frees-same, root_in-same, times-chains}

-- a page without entries can be written
pub empty-sized : IsSized empty_page
empty-sized = record { page = record { lawful = tt; fits = refl }; next = omega arith; next_number = omega arith; last = omega arith }

pub no-rows : (page : ℕ) → rows_of (link_of page empty_page ∷ []) ≡ []
no-rows page = rows-cons (link_of page empty_page) []

-- a page without entries is a table without rows
pub empty-chain : (size : ℕ) (pages : Pages) (page : ℕ) → IsAt size pages page empty_page → IsChain size pages (record { first = page; links = link_of page empty_page ∷ [] })
empty-chain size pages page at =
    let none : (number : ℕ) → times_numbered number (rows_of (link_of page empty_page ∷ [])) ≡ 0 = λ number. ap (times_numbered number) (no-rows page) in
    record {
      leads = (refl, at, refl);
      sized = (empty-sized, tt);
      head = empty_page;
      at_first = at;
      names_last = refl;
      differ = λ number. omega (arith, none number);
      below = λ number some. absurd (omega (arith, some, none number));
    }

pub empty-table : (size : ℕ) (pages : Pages) (page : ℕ) → IsAt size pages page empty_page → IsTable size pages page (record { next_number = 0; rows = [] })
empty-table size pages page at = record {
  next_number = (empty_page, at, refl);
  rows = (
    link_of page empty_page ∷ [],
    (omega arith, omega (arith, at.there), (refl, at, refl)),
    (rw (no-rows page) (IsPermutation-refl []), IsNonDecreasingBy-short (λ (placed : Placed). placed.number) [] (omega arith)),
  );
}

-- the page that was taken becomes the first page of a table
make-on : (size : ℕ) (pages : Pages) (firsts indexes : List ℕ) (page : ℕ) (base : Pages) → Taken size pages firsts indexes page base → MakesTable size pages firsts indexes page (with_bytes base page (page_bytes empty_page))
make-on size pages firsts indexes page base taken =
    let well = taken.well in
    let bytes = page_bytes empty_page in
    let after = with_bytes base page bytes in
    let now : Chain = record { first = page; links = link_of page empty_page ∷ [] } in
    let held : (p : ℕ) (list : List ℕ) → times p (pages_held well.chains list well.free) ≡ times p (flat_map pages_of well.chains) + (times p list + times p well.free) =
    λ p list. times-append p (flat_map pages_of well.chains) (list ++ well.free) ∙ ap (λ (k : ℕ). times p (flat_map pages_of well.chains) + k) (times-append p list well.free) in
    let inners : (p : ℕ) (list : List ℕ) → times p (pages_inner well.chains list well.free) ≡ times p (flat_map pages_behind well.chains) + (times p list + times p well.free) =
    λ p list. times-append p (flat_map pages_behind well.chains) (list ++ well.free) ∙ ap (λ (k : ℕ). times p (flat_map pages_behind well.chains) + k) (times-append p list well.free) in
    let all : (p : ℕ) → times p (pages_held (well.chains ++ now ∷ []) indexes well.free) ≡ times p (pages_held well.chains (page ∷ indexes) well.free) =
    λ p. omega (arith, times-chains p pages_of well.chains now [] indexes well.free, held p (page ∷ indexes), times-cons p page indexes, times-cons p page []) in
    let inner : (p : ℕ) → times p (pages_inner (well.chains ++ now ∷ []) indexes well.free) ≤ times p (pages_inner well.chains (page ∷ indexes) well.free) =
    λ p. omega (arith, times-chains p pages_behind well.chains now [] indexes well.free, inners p (page ∷ indexes), times-cons p page indexes) in
    let off : (p : ℕ) (list : List ℕ) → times p list + times p (page ∷ indexes) ≤ times p (pages_held well.chains (page ∷ indexes) well.free) → 0 < times p list → after.at p ≡ base.at p =
    λ p list part some. written-other base page p bytes (λ e. absurd (omega (arith, part, some, well.once p, times-cons p page indexes, ap one_if (eq-eqb page p (sym e))))) in
    let in_chains : (p : ℕ) → 0 < times p (flat_map pages_of well.chains) → after.at p ≡ base.at p = λ p some. off p (flat_map pages_of well.chains) (omega (arith, held p (page ∷ indexes))) some in
    let zero_same : after.at 0 ≡ base.at 0 = written-other base page 0 bytes (λ e. absurd (omega (arith, e, taken.behind))) in
    let at = at-written size base page empty_page (omega (arith, taken.behind)) taken.there empty-sized in
    record {
      shows = empty-table size after page at;
      others = λ first has table shows. all-stay size base after firsts (page ∷ indexes) well in_chains first has table (taken.stay first has table shows);
      well = record {
        small = well.small;
        root = root_in-same size base after zero_same ∙ well.root ∙ ap (λ (b : List ℕ). Ok (root_at (record { at = λ p. b; edited = base.edited }))) (sym zero_same);
        chains = well.chains ++ now ∷ [];
        free = well.free;
        named = map-append (λ (c : Chain). c.first) well.chains (now ∷ []) ∙ ap (λ (f : List ℕ). f ++ page ∷ []) well.named;
        lawful = all-join (IsChain size after) well.chains (now ∷ []) (chains-same size base after well.chains in_chains well.lawful) (empty-chain size after page at, tt);
        listed = rw zero_same (frees-same base after (root_at base).first_free well.free (λ p some. off p well.free (omega (arith, held p (page ∷ indexes))) some) well.listed);
        counted = rw zero_same well.counted;
        once = λ p. omega (arith, all p, well.once p);
        inside = λ p some. rw zero_same (well.inside p (omega (arith, some, all p)));
        inner = λ p some. well.inner p (omega (arith, some, inner p));
      };
      takes = record { next = taken.takes.next; one_less = ap (λ (k : ℕ). 1 + k) (free-same size base after zero_same) ∙ taken.takes.one_less };
      edits = edits-write pages base (0 ∷ []) page bytes (subst (λ (q : Pages). EditsExactly pages q (0 ∷ [])) (sym taken.after_is) (rooted-edits pages taken.root));
    }

pub make_law : MakeLaw
make_law size pages firsts indexes (Ok y) well (next, take, h) =
    subst (DoesOrIsFull size (λ first after. MakesTable size pages firsts indexes first after) (free_pages size pages ≡ 0)) h
    (make-on size pages firsts indexes next.0 next.1 (take-answer size pages firsts indexes (Ok next) well take))
make_law size pages firsts indexes (Err why) well (inl take) = take-answer size pages firsts indexes (Err why) well take
make_law size pages firsts indexes (Err why) well (inr (next, take, h)) = ok-err h
