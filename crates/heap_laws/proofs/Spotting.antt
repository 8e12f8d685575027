-- A row of a table, found on its page, and the rows around it.
use Rattle.heap_file.proofs.Positions.{none-at}
use Rattle.std.proofs.lemmas.Bool.{eqb-false}
use Rattle.std.proofs.Common.{◌≡◌, ◌≤◌, ◌+◌, ◌++◌, ◌∙◌, ◌⊎◌, ℕ, List, [], ◌∷◌, length, map, Some, Ok, Err, inl, inr, refl, sym, ap, arith, subst, eq-eqb, append_assoc, length-append, eqb, get_or}
use Rattle.std.proofs.lemmas.List.{get_or_at, map-append}
use Rattle.retro_base.specs.declared.refusal.Refusal.{Refusal}
use Rattle.pager.specs.Pages.{Pages}
use Rattle.heap_file.specs.declared.page.Entry.{Entry}
use Rattle.heap_file.specs.declared.page.HeapPage.{HeapPage}
use Rattle.heap_file.specs.declared.chain.Link.{Link}
use Rattle.heap_file.specs.declared.chain.Placed.{Placed}
use Rattle.heap_file.specs.Chain.{IsWay, met, rows_of, rows_on}
use Rattle.heap_file.specs.Work.{place_of, place_in}
use Rattle.heap_laws.specs.Store.{times_numbered}
use Rattle.heap_laws.proofs.Counts.{keyed, keyed-append, keyed-middle, keyed-same, one_if, others, others-append, others-none, others-same}
use Rattle.heap_laws.proofs.Orders.{number_of}
use Rattle.heap_laws.proofs.Reading.{chain-never}
use Rattle.heap_laws.proofs.Routes.{around, at-one, IsRoute, leads-one, link_of, rows-middle}
use Rattle.heap_laws.proofs.Rows.{entries_numbered, entry_of, Met, met-at, no-place, place-at, placed_on, Standing}

-- a row of a table, found on a page of its chain, among the entries of that page
pub record Spot (links : List Link) (page number previous : ℕ) (held : HeapPage) (place : ℕ) : Type 0 where
  pub before : List Link
  pub behind : List Link
  pub links_are : links ≡ before ++ link_of page held ∷ behind
  pub previous_is : ((before ≡ []) × (previous ≡ 0)) ⊎ ((front : List Link) × (last : Link) × (before ≡ front ++ last ∷ []) × (last.page ≡ previous))
  pub front : List Entry
  pub entry : Entry
  pub rest : List Entry
  pub entries_are : held.entries ≡ front ++ entry ∷ rest
  pub place_is : length front ≡ place
  pub number_is : entry.number ≡ number

-- what is met at a page of a chain is one of its links
pub met-one : (size : ℕ) (pages : Pages) (first page previous : ℕ) (held : HeapPage) (links : List Link) → IsWay size pages first links 0 → met size pages first page (Ok (previous, held)) → Met links page previous held
met-one size pages first page previous held links leads (found, chain_, stands) =
    let one : found ≡ links = leads-one size size pages first found links chain_.2 leads in
    subst (λ (l : List Link). Met l page previous held) one (met-at found page previous held stands)

pub spot : (size : ℕ) (pages : Pages) (first page number previous place : ℕ) (held : HeapPage) (links : List Link) → IsWay size pages first links 0 → met size pages first page (Ok (previous, held)) → place_of number held.entries ≡ Some place → Spot links page number previous held place
spot size pages first page number previous place held links leads found at =
    let one = met-one size pages first page previous held links leads found in
    let entry = place-at number held.entries place at in
    record {
      before = one.before;
      behind = one.behind;
      links_are = one.links_are;
      previous_is = one.previous_is;
      front = entry.front;
      entry = entry.entry;
      rest = entry.rest;
      entries_are = entry.entries_are;
      place_is = entry.place_is;
      number_is = entry.number_is;
    }

-- a row of a table stands on its page, so neither the page nor its place is missed
pub met-never : (size : ℕ) (pages : Pages) (first : ℕ) (links : List Link) (placed : Placed) (why : Refusal) → IsRoute size pages first links → length links ≤ size → (first ≡ 0 → ⊥) → Standing links placed → met size pages first placed.page (Err why) → ⊥
met-never size pages first links placed why route few named stands (inl refused) = chain-never size pages first links why route.leads few named refused
met-never size pages first links placed why route few named stands (inr (found, chain_, e, none)) =
    let one : found ≡ links = leads-one size size pages first found links chain_.2 route.leads in
    missed stands.before stands.behind (one ∙ stands.links_are)
  where
    missed : (before behind : List Link) → found ≡ before ++ link_of placed.page stands.held ∷ behind → ⊥
    missed before behind e =
        let x : Link = link_of placed.page stands.held in
        let away = none-at (λ (link : Link). eqb link.page placed.page) found none (length before) x (omega (arith, ap length e, length-append before (x ∷ behind))) in
        eqb-false (get_or found (length before) x).page placed.page away
        (rw e (ap (λ (l : Link). l.page) (get_or_at before (link_of placed.page stands.held) behind (link_of placed.page stands.held) (length before) refl)))

pub place-never : (size : ℕ) (pages : Pages) (first previous : ℕ) (held : HeapPage) (links : List Link) (placed : Placed) (why : Refusal) → IsRoute size pages first links → Standing links placed → met size pages first placed.page (Ok (previous, held)) → place_in placed.page placed.number held.entries (Err why) → ⊥
place-never size pages first previous held links placed why route stands found (e, none) =
    let one = met-one size pages first placed.page previous held links route.leads found in
    let here = around size pages first one.before (link_of placed.page held) one.behind (subst (IsRoute size pages first) one.links_are route) in
    let there = around size pages first stands.before (link_of placed.page stands.held) stands.behind (subst (IsRoute size pages first) stands.links_are route) in
    let same : held ≡ stands.held = at-one size size pages placed.page held stands.held here.here there.here in
    let count = no-place placed.number held.entries none in
    let entries : held.entries ≡ stands.front ++ entry_of placed ∷ stands.rest = ap (λ (h : HeapPage). h.entries) same ∙ stands.entries_are in
    omega (arith, count, ap (entries_numbered placed.number) entries, keyed-middle (λ (e : Entry). e.number) placed.number stands.front (entry_of placed) stands.rest, ap one_if (eq-eqb placed.number placed.number refl))

-- the rows before and behind a row of a chain, none of its number
pub record Split (links : List Link) (page number : ℕ) (held : HeapPage) (before behind : List Link) (front : List Entry) (entry : Entry) (rest : List Entry) : Type 0 where
  pub rows_are : rows_of links ≡ (rows_of before ++ map (placed_on page) front) ++ placed_on page entry ∷ (map (placed_on page) rest ++ rows_of behind)
  pub none_before : keyed number_of number (rows_of before ++ map (placed_on page) front) ≡ 0
  pub none_behind : keyed number_of number (map (placed_on page) rest ++ rows_of behind) ≡ 0

-- the rows of a page and of those around it
pub rows-at : (before : List Link) (page : ℕ) (held : HeapPage) (behind : List Link) (front : List Entry) (entry : Entry) (rest : List Entry) → held.entries ≡ front ++ entry ∷ rest
    → rows_of (before ++ link_of page held ∷ behind) ≡ (rows_of before ++ map (placed_on page) front) ++ placed_on page entry ∷ (map (placed_on page) rest ++ rows_of behind)
rows-at before page held behind front entry rest e =
    let on : rows_on (link_of page held) ≡ map (placed_on page) front ++ placed_on page entry ∷ map (placed_on page) rest = ap (map (placed_on page)) e ∙ map-append (placed_on page) front (entry ∷ rest) in
    rows-middle before (link_of page held) behind
    ∙ ap (λ (r : List Placed). rows_of before ++ (r ++ rows_of behind)) on
    ∙ ap (λ (r : List Placed). rows_of before ++ r) (append_assoc (map (placed_on page) front) (placed_on page entry ∷ map (placed_on page) rest) (rows_of behind))
    ∙ sym (append_assoc (rows_of before) (map (placed_on page) front) (placed_on page entry ∷ (map (placed_on page) rest ++ rows_of behind)))

pub split-rows : (links : List Link) (page number : ℕ) (held : HeapPage) (before behind : List Link) (front : List Entry) (entry : Entry) (rest : List Entry) → links ≡ before ++ link_of page held ∷ behind → held.entries ≡ front ++ entry ∷ rest → entry.number ≡ number
    → times_numbered number (rows_of links) ≤ 1 → Split links page number held before behind front entry rest
split-rows links page number held before behind front entry rest is entries same once =
    let all = ap rows_of is ∙ rows-at before page held behind front entry rest entries in
    let x = rows_of before ++ map (placed_on page) front in
    let y = map (placed_on page) rest ++ rows_of behind in
    let count : times_numbered number (rows_of links) ≡ keyed number_of number x + (1 + keyed number_of number y) =
    ap (times_numbered number) all ∙ keyed-append number_of number x (placed_on page entry ∷ y) ∙ ap (λ (k : ℕ). keyed number_of number x + k) (keyed-same number_of number (placed_on page entry) y same) in
    record { rows_are = all; none_before = omega (arith, once, count); none_behind = omega (arith, once, count) }

-- the rows without that one
pub split-others : (links : List Link) (page number : ℕ) (held : HeapPage) (before behind : List Link) (front : List Entry) (entry : Entry) (rest : List Entry) → entry.number ≡ number → Split links page number held before behind front entry rest
    → others number_of number (rows_of links) ≡ (rows_of before ++ map (placed_on page) front) ++ (map (placed_on page) rest ++ rows_of behind)
split-others links page number held before behind front entry rest same split =
    let x = rows_of before ++ map (placed_on page) front in
    let y = map (placed_on page) rest ++ rows_of behind in
    ap (others number_of number) split.rows_are ∙ others-append number_of number x (placed_on page entry ∷ y)
    ∙ ap (λ (r : List Placed). r ++ others number_of number (placed_on page entry ∷ y)) (others-none number_of number x split.none_before)
    ∙ ap (λ (r : List Placed). x ++ r) (others-same number_of number (placed_on page entry) y same ∙ others-none number_of number y split.none_behind)
