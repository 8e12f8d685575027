-- A row of a table of a well-formed store is changed.
use Rattle.std.proofs.Common.{◌≡◌, ◌≢◌, ◌<◌, ◌≤◌, ◌+◌, ◌++◌, ◌∙◌, ◌⊎◌, ◌||◌, ℕ, zero, suc, Bool, true, false, cond, eqb, List, [], ◌∷◌, length, map, get_or, Some, Result, Ok, Err, inl, inr, refl, sym, ap, arith, subst, eq-eqb, append_assoc}
use Rattle.std.specs.List.{Contains, insert, list_any}
use Rattle.std.specs.List.Sorted.{IsPermutation, IsNonDecreasingBy}
use Rattle.std.proofs.lemmas.Bool.Decides.{eqb_tells}
use Rattle.std.proofs.lemmas.List.{map-append}
use Rattle.std.proofs.lemmas.List.Sorted.{Contains-permutation, IsNonDecreasingBy-from_default, IsPermutation-append_left, IsPermutation-append_right, IsPermutation-map, IsPermutation-sym, IsPermutation-to_front, IsPermutation-trans}
use Rattle.retro_base.specs.declared.refusal.Refusal.{Refusal}
use Rattle.retro_base.specs.declared.refusal.Refusal.TheVariants.{PagesFull}
use Rattle.values.specs.declared.value.Value.{Value}
use Rattle.pager.specs.Pages.{Pages, with_bytes}
use Rattle.pager.specs.Allows.{only, either}
use Rattle.heap_file.specs.declared.page.Entry.{Entry}
use Rattle.heap_file.specs.declared.page.HeapPage.{HeapPage}
use Rattle.heap_file.specs.declared.chain.Link.{Link}
use Rattle.heap_file.specs.declared.chain.Placed.{Placed}
use Rattle.heap_file.specs.Chain.{InOrder, last_page, met, rows_of}
use Rattle.heap_file.specs.HeapPage.{IsEntry, page_bytes}
use Rattle.heap_file.specs.Work.{appended, place_of, without}
use Rattle.heap_file.specs.Work as calls
use Rattle.heap_file.proofs.Packing.{with_fits, without_fits}
use Rattle.heap_laws.specs.Laws.{DoesOrIsFull, ChangeLaw}
use Rattle.heap_laws.specs.Store.{IsSized, WellFormed, end_of, next_free, times, times_numbered}
use Rattle.heap_laws.specs.Table.{ChangeIsFull, ChangesRow, EditsExactly, has_room, IsChanged, IsStorable, IsTable, Table, with_changed, without_row}
use Rattle.heap_laws.proofs.Adding.{IsPut, numbered-push, Put, put-answer, tail-there}
use Rattle.heap_laws.proofs.Appending.{head-sized, storable-entry, update-head}
use Rattle.heap_laws.proofs.Counts.{keyed, keyed-append, keyed-cons, keyed-gone, keyed-other, keyed-same, one_if, others, others-append, others-none, others-same, split_at}
use Rattle.heap_laws.proofs.Editing.{edits-none, edits-write, finish, Finished, free-same}
use Rattle.heap_laws.proofs.Meeting.{changed-met, changed_met, Meets, meets}
use Rattle.heap_laws.proofs.Orders.{number_of}
use Rattle.heap_laws.proofs.Reading.{ok-err, ok-one, Reads, reads, rows-numbered, rows-read}
use Rattle.heap_laws.proofs.Removing.{place-there, rest-are, take-out}
use Rattle.heap_laws.proofs.Routes.{around, end-append, IsRoute, link_of, pages_on, route-update, times-append, times-links, written-other}
use Rattle.heap_laws.proofs.Rows.{insert-at, keyed-contains, numbered-permutation, placed_on, Standing, standing}
use Rattle.heap_laws.proofs.Spotting.{met-never, place-never, rows-at, split-rows, Spot, spot}

-- rows of which one is another
abbrev pub changed_rows : Placed → List Placed → List Placed
changed_rows changed rows = map (λ (placed : Placed). cond (eqb placed.number changed.number) changed placed) rows

abbrev change_one : Placed → Placed → Placed
change_one changed placed = cond (eqb placed.number changed.number) changed placed

change-keeps : (changed placed : Placed) → (change_one changed placed).number ≡ placed.number
change-keeps changed placed =
    elim (eqb_tells placed.number changed.number) [
      | inl same ↦ rw same.0 (sym same.1)
      | inr differ ↦ rw differ.0 refl
    ]

-- the numbers stay
changed-numbers : (changed : Placed) (rows : List Placed) (n : ℕ) → times_numbered n (changed_rows changed rows) ≡ times_numbered n rows
changed-numbers changed [] n = refl
changed-numbers changed (placed ∷ rows) n =
    keyed-cons number_of n (change_one changed placed) (changed_rows changed rows)
    ∙ ap (λ (k : ℕ). one_if (eqb k n) + times_numbered n (changed_rows changed rows)) (change-keeps changed placed)
    ∙ ap (λ (k : ℕ). one_if (eqb placed.number n) + k) (changed-numbers changed rows n)
    ∙ sym (keyed-cons number_of n placed rows)

-- where no row has that number, all stay
changed-none : (changed : Placed) (rows : List Placed) → keyed number_of changed.number rows ≡ 0 → changed_rows changed rows ≡ rows
changed-none changed [] none = refl
changed-none changed (placed ∷ rows) none =
    elim (eqb_tells placed.number changed.number) [
      | inl same ↦ absurd (omega (arith, none, keyed-same number_of changed.number placed rows same.1))
      | inr differ ↦ first differ.0 (changed-none changed rows (omega (arith, none, keyed-other number_of changed.number placed rows differ.1)))
    ]
  where
    first : eqb placed.number changed.number ≡ false → changed_rows changed rows ≡ rows → changed_rows changed (placed ∷ rows) ≡ placed ∷ rows
    first e rest = rw e (ap (λ (l : List Placed). placed ∷ l) rest)

-- the row of that number is the other
changed-at : (changed : Placed) (front : List Placed) (old : Placed) (rest : List Placed) → old.number ≡ changed.number → keyed number_of changed.number front ≡ 0 → keyed number_of changed.number rest ≡ 0
    → changed_rows changed (front ++ old ∷ rest) ≡ front ++ changed ∷ rest
changed-at changed front old rest same none_before none_behind =
    map-append (change_one changed) front (old ∷ rest)
    ∙ ap (λ (l : List Placed). l ++ change_one changed old ∷ changed_rows changed rest) (changed-none changed front none_before)
    ∙ ap (λ (l : List Placed). front ++ change_one changed old ∷ l) (changed-none changed rest none_behind)
    ∙ ap (λ (b : Bool). front ++ cond b changed old ∷ rest) (eq-eqb old.number changed.number same)

get-map : (f : Placed → Placed) (rows : List Placed) (i : ℕ) (d : Placed) → get_or (map f rows) i (f d) ≡ f (get_or rows i d)
get-map f [] i d = refl
get-map f (placed ∷ rows) zero d = refl
get-map f (placed ∷ rows) (suc i) d = get-map f rows i d

length-map-rows : (f : Placed → Placed) (rows : List Placed) → length (map f rows) ≡ length rows
length-map-rows f [] = refl
length-map-rows f (placed ∷ rows) = ap suc (length-map-rows f rows)

-- rows stay in rising number
changed-sorted : (changed : Placed) (rows : List Placed) → IsNonDecreasingBy (λ (p : Placed). p.number) rows → IsNonDecreasingBy (λ (p : Placed). p.number) (changed_rows changed rows)
changed-sorted changed rows sorted =
    let d : Placed = record { number = 0; page = 0; row = [] } in
    let f = change_one changed in
    IsNonDecreasingBy-from_default (λ (p : Placed). p.number) (changed_rows changed rows) (f d) (λ i j le lt.
    let at : (k : ℕ) → (get_or (changed_rows changed rows) k (f d)).number ≡ (get_or rows k d).number = λ k. ap (λ (p : Placed). p.number) (get-map f rows k d) ∙ change-keeps changed (get_or rows k d) in
    omega (arith, at i, at j, sorted i j d le (omega (arith, lt, length-map-rows f rows))))

-- rows in order, of which one is another
order-changed : (changed : Placed) (rows sorted : List Placed) → InOrder rows sorted → InOrder (changed_rows changed rows) (changed_rows changed sorted)
order-changed changed rows sorted order = (IsPermutation-map (change_one changed) rows sorted order.0, changed-sorted changed sorted order.1)

-- a row with room on its page is changed there
change-here : (size : ℕ) (pages : Pages) (firsts indexes : List ℕ) (first : ℕ) (table : Table) (page number previous : ℕ) (row : List Value) (held : HeapPage) (place : ℕ) (well : WellFormed size pages firsts indexes) → Contains firsts first → IsTable size pages first table
    → (read : Reads size pages firsts indexes first well) → Spot read.one.chain.links page number previous held place → IsEntry (record { number = number; row = row }) → has_room (without held place) (record { number = number; row = row }) ≡ true
    → Finished size (pages) (with_bytes pages page (page_bytes (record (without held place) { entries = insert (without held place).entries place (record { number = number; row = row }) }))) firsts indexes first (with_changed table (record { number = number; page = page; row = row }))
change-here size pages firsts indexes first table page number previous row held place well has shows read it is room =
    let entry : Entry = record { number = number; row = row } in
    let placed : Placed = record { number = number; page = page; row = row } in
    let links = read.one.chain.links in
    let lawful = read.one.lawful in
    let rows = rows-read size pages first table links lawful.head shows read.route.leads read.head_at in
    let here = around size pages first it.before (link_of page held) it.behind (subst (IsRoute size pages first) it.links_are read.route) in
    let left = without held place in
    let kept : HeapPage = record left { entries = insert left.entries place entry } in
    let lt = place-there links page number previous held place it in
    let sized : IsSized kept = record {
      page = with_fits left place entry (without_fits held place lt here.sized_here.page) is room;
      next = here.sized_here.next;
      next_number = here.sized_here.next_number;
      last = here.sized_here.last;
    } in
    let entries : kept.entries ≡ it.front ++ entry ∷ it.rest = ap (λ (es : List Entry). insert es place entry) (rest-are links page number previous held place it) ∙ insert-at it.front it.rest entry place it.place_is in
    let now = it.before ++ link_of page kept ∷ it.behind in
    let head = update-head size pages first lawful.head page held kept read.head_at here.here sized refl refl in
    let split = split-rows links page number held it.before it.behind it.front it.entry it.rest it.links_are it.entries_are it.number_is (lawful.differ number) in
    let rows_now : rows_of now ≡ changed_rows placed (rows_of links) =
    rows-at it.before page kept it.behind it.front entry it.rest entries
    ∙ sym (ap (changed_rows placed) split.rows_are ∙ changed-at placed (rows_of it.before ++ map (placed_on page) it.front) (placed_on page it.entry) (map (placed_on page) it.rest ++ rows_of it.behind) it.number_is split.none_before split.none_behind) in
    let count : (p : ℕ) → times p (pages_on now) ≡ times p (pages_on links) =
    λ p. times-links p it.before (link_of page kept) it.behind ∙ sym (times-links p it.before (link_of page held) it.behind) ∙ ap (λ (l : List Link). times p (pages_on l)) (sym it.links_are) in
    let names : last_page first lawful.head ≡ end_of first links = subst (λ (f : ℕ). last_page f lawful.head ≡ end_of f links) read.one.named lawful.names_last in
    finish size pages (with_bytes pages page (page_bytes kept)) firsts indexes indexes first (with_changed table placed) well read has (record {
      now = now;
      route = route-update size pages first it.before (link_of page held) it.behind kept (subst (IsRoute size pages first) it.links_are read.route) refl sized;
      head = head.0;
      at_first = head.1;
      names_last = ap (λ (l : ℕ). cond (eqb l 0) first l) head.2 ∙ names ∙ ap (end_of first) it.links_are ∙ end-append first it.before (link_of page held) it.behind ∙ sym (end-append first it.before (link_of page kept) it.behind);
      differ = λ n. omega (arith, lawful.differ n, ap (times_numbered n) rows_now, changed-numbers placed (rows_of links) n);
      below = λ n some. omega (arith, head.3, lawful.below n (omega (arith, some, ap (times_numbered n) rows_now, changed-numbers placed (rows_of links) n)));
      counts = λ p. omega (arith, count p);
      same = λ p off. written-other pages page p (page_bytes kept) (λ e. absurd (omega (arith, subst (λ (q : ℕ). times q (pages_on links) + times q indexes ≡ 0) e off, count page, times-links page it.before (link_of page kept) it.behind, ap one_if (eq-eqb page page refl))));
      next_number = head.3 ∙ rows.next_number;
      order = subst (λ (r : List Placed). InOrder r (with_changed table placed).rows) (sym rows_now) (order-changed placed (rows_of links) table.rows (rows.permutation, rows.sorted));
    })

-- a changed row that was taken out, and put last
order-moved : (changed old : Placed) (sorted rows : List Placed) → Contains sorted old → old.number ≡ changed.number → times_numbered changed.number sorted ≤ 1 → InOrder rows (others number_of changed.number sorted) → IsNonDecreasingBy (λ (p : Placed). p.number) sorted
    → InOrder (rows ++ changed ∷ []) (changed_rows changed sorted)
order-moved changed old sorted rows has same once order sorted_ =
    let split = split_at sorted old has in
    let a = split.0 in
    let b = split.1 in
    let count = ap (times_numbered changed.number) split.2 ∙ keyed-append number_of changed.number a (old ∷ b) ∙ ap (λ (k : ℕ). keyed number_of changed.number a + k) (keyed-same number_of changed.number old b same) in
    let none_a : keyed number_of changed.number a ≡ 0 = omega (arith, once, count) in
    let none_b : keyed number_of changed.number b ≡ 0 = omega (arith, once, count) in
    let left : others number_of changed.number sorted ≡ a ++ b =
    ap (others number_of changed.number) split.2 ∙ others-append number_of changed.number a (old ∷ b)
    ∙ ap (λ (l : List Placed). l ++ others number_of changed.number (old ∷ b)) (others-none number_of changed.number a none_a)
    ∙ ap (λ (l : List Placed). a ++ l) (others-same number_of changed.number old b same ∙ others-none number_of changed.number b none_b) in
    let now : changed_rows changed sorted ≡ a ++ changed ∷ b = ap (changed_rows changed) split.2 ∙ changed-at changed a old b same none_a none_b in
    let one : IsPermutation (rows ++ changed ∷ []) ((a ++ b) ++ changed ∷ []) = IsPermutation-append_left (changed ∷ []) rows (a ++ b) (subst (IsPermutation rows) left order.0) in
    let two : IsPermutation ((a ++ b) ++ changed ∷ []) (a ++ changed ∷ b) = subst (λ (l : List Placed). IsPermutation l (a ++ changed ∷ b)) (sym (append_assoc a b (changed ∷ []))) (IsPermutation-append_right a (b ++ changed ∷ []) (changed ∷ b) (IsPermutation-to_front b changed)) in
    (subst (IsPermutation (rows ++ changed ∷ [])) (sym now) (IsPermutation-trans (rows ++ changed ∷ []) ((a ++ b) ++ changed ∷ []) (a ++ changed ∷ b) one two), changed-sorted changed sorted sorted_)

-- a row that was taken out stands last, under its number
change-moved : (size : ℕ) (pages out : Pages) (firsts indexes : List ℕ) (first : ℕ) (table : Table) (old : Placed) (row : List Value) (to : ℕ) (after : Pages) (well : WellFormed size pages firsts indexes) → Contains firsts first → IsTable size pages first table → Contains table.rows old
    → Finished size pages out firsts indexes first (without_row table old.number)
    → Put size out firsts indexes first (record { number = old.number; row = row }) to after
    → Finished size pages after firsts indexes first (with_changed table (record { number = old.number; page = to; row = row }))
change-moved size pages out firsts indexes first table old row to after well has shows among_rows done put =
    let placed : Placed = record { number = old.number; page = to; row = row } in
    let numbers = rows-numbered size pages firsts indexes first table well has shows in
    let links = put.read.one.chain.links in
    let lawful = put.read.one.lawful in
    let it = put.put in
    let rows = rows-read size put.base first (without_row table old.number) links lawful.head (put.stay first has (without_row table old.number) done.shows) put.read.route.leads put.read.head_at in
    let sorted = shows.rows.2.1 in
    let gone : times_numbered old.number (rows_of links) ≡ 0 =
    sym (numbered-permutation old.number (rows_of links) (others number_of old.number table.rows) rows.permutation) ∙ keyed-gone number_of old.number table.rows in
    let count : (n : ℕ) → times_numbered n (rows_of it.now) ≡ times_numbered n (rows_of links) + one_if (eqb old.number n) = λ n. ap (times_numbered n) it.rows ∙ numbered-push n (rows_of links) placed in
    let next : it.head_now.next_number ≡ table.next_number = it.next_number ∙ rows.next_number in
    let last = finish size put.base after firsts (put.extra ++ indexes) indexes first (with_changed table placed) put.well put.read has (record {
      now = it.now;
      route = it.route;
      head = it.head_now;
      at_first = it.at_first;
      names_last = it.names_last;
      differ = λ n. once n (eqb_tells old.number n) (rows_of links) (count n) gone (lawful.differ n);
      below = λ n some. under n (eqb_tells old.number n) (rows_of links) (count n) next rows.next_number ((numbers old.number).1 (keyed-contains number_of table.rows old among_rows)) (lawful.below n) some;
      counts = λ p. omega (arith, it.counts p, times-append p put.extra indexes);
      same = λ p off. it.same p (omega (arith, off, times-append p put.extra indexes));
      next_number = next;
      order = subst (λ (r : List Placed). InOrder r (with_changed table placed).rows) (sym it.rows)
          (order-moved placed old table.rows (rows_of links) among_rows refl (numbers old.number).0 (rows.permutation, rows.sorted) sorted);
    }) in
    record {
      well = last.well;
      others = λ other there differ table_ shows_. last.others other there differ table_ (put.stay other there table_ (done.others other there differ table_ shows_));
      shows = last.shows;
    }
  where
    once : (n : ℕ) → ((eqb old.number n ≡ true) × (old.number ≡ n)) ⊎ ((eqb old.number n ≡ false) × (old.number ≢ n)) → (rows : List Placed) {all : ℕ} → all ≡ times_numbered n rows + one_if (eqb old.number n) → times_numbered old.number rows ≡ 0 → times_numbered n rows ≤ 1 → all ≤ 1
    once n (inl same) rows e gone few = omega (arith, e, ap one_if same.0, subst (λ (k : ℕ). times_numbered k rows ≡ 0) same.1 gone)
    once n (inr differ) rows e gone few = omega (arith, e, ap one_if differ.0, few)

    under : (n : ℕ) → ((eqb old.number n ≡ true) × (old.number ≡ n)) ⊎ ((eqb old.number n ≡ false) × (old.number ≢ n)) → (rows : List Placed) {all next base : ℕ} → all ≡ times_numbered n rows + one_if (eqb old.number n) → next ≡ table.next_number → base ≡ table.next_number
        → old.number < table.next_number → (0 < times_numbered n rows → n < base) → 0 < all → n < next
    under n (inl same) rows e next base lt below some = omega (arith, same.1, next, lt)
    under n (inr differ) rows e next base lt below some = omega (arith, next, base, below (omega (arith, e, some, ap one_if differ.0)))

-- edits after edits of one page
edits-join : (pages mid after : Pages) (page : ℕ) (list : List ℕ) → EditsExactly pages mid (page ∷ []) → EditsExactly mid after list → EditsExactly pages after (page ∷ list)
edits-join pages mid after page list first then_ = record {
  same = λ p off. let parts = or-false (eqb p page) (list_any (λ other. eqb p other) list) off in then_.same p parts.1 ∙ first.same p (ap (λ (b : Bool). b || false) parts.0);
  edited = λ p. then_.edited p ∙ ap (λ (b : Bool). list_any (λ other. eqb p other) list || b) (first.edited p) ∙ turn (list_any (λ other. eqb p other) list) (eqb p page) (pages.edited p);
}
  where
    or-false : (a b : Bool) → (a || b) ≡ false → (a ≡ false) × (b ≡ false)
    or-false true b e = absurd cc
    or-false false b e = (refl, e)

    turn : (a b c : Bool) → (a || ((b || false) || c)) ≡ ((b || a) || c)
    turn true true c = refl
    turn true false c = refl
    turn false true c = refl
    turn false false c = refl

-- the pages edited where a row moves
moved-effect : (size : ℕ) (pages out after : Pages) (first page last to : ℕ) (room : Bool) → out.at 0 ≡ pages.at 0 → EditsExactly pages out (page ∷ []) → IsPut room size out after first last to → IsChanged false room size pages after first page last to
moved-effect size pages out after first page last to true root edits (is, none, put) =
    (is, none ∙ free-same size pages out root, edits-join pages out after page (last ∷ []) edits put)
moved-effect size pages out after first page last to false root edits (takes, put) =
    (record { next = takes.next ∙ next-same; one_less = takes.one_less ∙ free-same size pages out root }, edits-join pages out after page (first ∷ last ∷ to ∷ 0 ∷ []) edits put)
  where
    next-same : next_free out ≡ next_free pages
    next-same = rw root refl

-- a row of a table that is changed
pub changes-row : (size : ℕ) (pages : Pages) (firsts indexes : List ℕ) (first : ℕ) (table : Table) (placed : Placed) (row : List Value) (answer : Result (ℕ × Pages) Refusal)
    → WellFormed size pages firsts indexes → Contains firsts first → IsTable size pages first table → Contains table.rows placed → IsStorable row
    → calls.changed size pages first placed.page (record { number = placed.number; row = row }) answer
    → DoesOrIsFull size (λ to after. ChangesRow size pages firsts indexes first table placed.page (record { number = placed.number; row = row }) to after) (ChangeIsFull size pages first placed.page (record { number = placed.number; row = row })) answer
changes-row size pages firsts indexes first table placed row answer well has shows among_rows storable work = go answer (changed-met size pages first placed.page (record { number = placed.number; row = row }) met_there answer work)
  where
    is : IsEntry (record { number = placed.number; row = row })
    is =
        let read = reads size pages firsts indexes first well has in
        let rows = rows-read size pages first table read.one.chain.links read.one.lawful.head shows read.route.leads read.head_at in
        let sized = head-sized size pages first read.one.chain.links read.one.lawful.head read.route read.head_at in
        storable-entry placed.number row (omega (arith, sized.next_number, rows.next_number, (rows-numbered size pages firsts indexes first table well has shows placed.number).1 (keyed-contains number_of table.rows placed among_rows))) storable

    stands : Standing (reads size pages firsts indexes first well has).one.chain.links placed
    stands =
        let read = reads size pages firsts indexes first well has in
        let rows = rows-read size pages first table read.one.chain.links read.one.lawful.head shows read.route.leads read.head_at in
        standing read.one.chain.links placed (Contains-permutation table.rows (rows_of read.one.chain.links) placed (IsPermutation-sym (rows_of read.one.chain.links) table.rows rows.permutation) among_rows)

    met_there : Meets size pages first placed.page
    met_there = let read = reads size pages firsts indexes first well has in meets size pages first read.one.chain.links placed read.route read.few stands

    out_of : (found : ℕ × HeapPage) (place : ℕ) → met size pages first placed.page (Ok found) → place_of placed.number found.1.entries ≡ Some place → Finished size pages (with_bytes pages placed.page (page_bytes (without found.1 place))) firsts indexes first (without_row table placed.number)
    out_of found place at here =
        let read = reads size pages firsts indexes first well has in
        take-out size pages firsts indexes first table placed.page placed.number found.0 found.1 place well has shows read (spot size pages first placed.page placed.number found.0 place found.1 read.one.chain.links read.route.leads at here)

    there_of : (found : ℕ × HeapPage) (place : ℕ) → met size pages first placed.page (Ok found) → place_of placed.number found.1.entries ≡ Some place → 0 < placed.page
    there_of found place at here =
        let read = reads size pages firsts indexes first well has in
        let it = spot size pages first placed.page placed.number found.0 place found.1 read.one.chain.links read.route.leads at here in
        (around size pages first it.before (link_of placed.page found.1) it.behind (subst (IsRoute size pages first) it.links_are read.route)).here.named

    root_of_out : (found : ℕ × HeapPage) (place : ℕ) → met size pages first placed.page (Ok found) → place_of placed.number found.1.entries ≡ Some place → (with_bytes pages placed.page (page_bytes (without found.1 place))).at 0 ≡ pages.at 0
    root_of_out found place at here = written-other pages placed.page 0 (page_bytes (without found.1 place)) (λ e. absurd (omega (arith, e, there_of found place at here)))

    go : (answer : Result (ℕ × Pages) Refusal) → changed_met size pages first placed.page (record { number = placed.number; row = row }) answer
        → DoesOrIsFull size (λ to after. ChangesRow size pages firsts indexes first table placed.page (record { number = placed.number; row = row }) to after) (ChangeIsFull size pages first placed.page (record { number = placed.number; row = row })) answer
    go (Ok y) (found, at, (place, here, work)) = choose (has_room (without found.1 place) (record { number = placed.number; row = row })) refl work
      where
        choose : (b : Bool) → has_room (without found.1 place) (record { number = placed.number; row = row }) ≡ b
            → either b (only (Ok (placed.page, with_bytes pages placed.page (page_bytes (record (without found.1 place) { entries = insert (without found.1 place).entries place (record { number = placed.number; row = row }) })))))
            (appended size (with_bytes pages placed.page (page_bytes (without found.1 place))) first (record { number = placed.number; row = row })) (Ok y)
            → ChangesRow size pages firsts indexes first table placed.page (record { number = placed.number; row = row }) y.0 y.1
        choose true room h =
            let read = reads size pages firsts indexes first well has in
            let it = spot size pages first placed.page placed.number found.0 place found.1 read.one.chain.links read.route.leads at here in
            let done = change-here size pages firsts indexes first table placed.page placed.number found.0 row found.1 place well has shows read it is room in
            let out = out_of found place at here in
            let kept = page_bytes (record (without found.1 place) { entries = insert (without found.1 place).entries place (record { number = placed.number; row = row }) }) in
            let reread = reads size (with_bytes pages placed.page (page_bytes (without found.1 place))) firsts indexes first out.well has in
            let tail = tail-there size (with_bytes pages placed.page (page_bytes (without found.1 place))) firsts indexes first out.well has reread.one.lawful.head reread.head_at in
            subst (λ (y : ℕ × Pages). ChangesRow size pages firsts indexes first table placed.page (record { number = placed.number; row = row }) y.0 y.1) (ok-one h) (record {
              shows = done.shows;
              others = done.others;
              well = done.well;
              rest = without found.1 place;
              last = last_page first reread.one.lawful.head;
              tail = tail.0;
              stands = record { previous = found.0; held = found.1; place = place; stood = at; here = here; rest_is = refl; ends = record { head = reread.one.lawful.head; at_first = reread.head_at; named = refl; at_last = tail.1 } };
              effect = rw room (refl, free-same size pages (with_bytes pages placed.page kept) (written-other pages placed.page 0 kept (λ e. absurd (omega (arith, e, there_of found place at here)))), edits-write pages pages [] placed.page kept (edits-none pages));
            })
        choose false room h =
            let out = out_of found place at here in
            let put = put-answer size (with_bytes pages placed.page (page_bytes (without found.1 place))) firsts indexes first (record { number = placed.number; row = row }) (Ok y) out.well has is h in
            let done = change-moved size pages (with_bytes pages placed.page (page_bytes (without found.1 place))) firsts indexes first table placed row y.0 y.1 well has shows among_rows out put in
            record {
              shows = done.shows;
              others = done.others;
              well = done.well;
              rest = without found.1 place;
              last = put.last;
              tail = put.tail;
              stands = record { previous = found.0; held = found.1; place = place; stood = at; here = here; rest_is = refl; ends = put.ends };
              effect = subst (λ (b : Bool). IsChanged b (has_room put.tail (record { number = placed.number; row = row })) size pages y.1 first placed.page put.last y.0) (sym room)
                  (moved-effect size pages (with_bytes pages placed.page (page_bytes (without found.1 place))) y.1 first placed.page put.last y.0 (has_room put.tail (record { number = placed.number; row = row })) (root_of_out found place at here) (edits-write pages pages [] placed.page (page_bytes (without found.1 place)) (edits-none pages)) put.effect);
            }
    go (Err why) (inl refused) =
        let read = reads size pages firsts indexes first well has in
        absurd (met-never size pages first read.one.chain.links placed why read.route read.few (λ e. absurd (omega (arith, e, read.head_at.named))) stands refused)
    go (Err why) (inr (found, at, inl refused)) =
        let read = reads size pages firsts indexes first well has in
        absurd (place-never size pages first found.0 found.1 read.one.chain.links placed why read.route stands at refused)
    go (Err why) (inr (found, at, inr (place, here, work))) = choose (has_room (without found.1 place) (record { number = placed.number; row = row })) refl work
      where
        choose : (b : Bool) → has_room (without found.1 place) (record { number = placed.number; row = row }) ≡ b
            → either b (only (Ok (placed.page, with_bytes pages placed.page (page_bytes (record (without found.1 place) { entries = insert (without found.1 place).entries place (record { number = placed.number; row = row }) })))))
            (appended size (with_bytes pages placed.page (page_bytes (without found.1 place))) first (record { number = placed.number; row = row })) (Err why)
            → (why ≡ PagesFull size) × ChangeIsFull size pages first placed.page (record { number = placed.number; row = row })
        choose true room h = ok-err h
        choose false room h =
            let out = out_of found place at here in
            let full = put-answer size (with_bytes pages placed.page (page_bytes (without found.1 place))) firsts indexes first (record { number = placed.number; row = row }) (Err why) out.well has is h in (
              full.0,
              record {
                rest = without found.1 place;
                last = full.1.last;
                tail = full.1.tail;
                stands = record { previous = found.0; held = found.1; place = place; stood = at; here = here; rest_is = refl; ends = full.1.ends };
                room_here = room;
                room_last = full.1.room;
                none = sym (free-same size pages (with_bytes pages placed.page (page_bytes (without found.1 place))) (root_of_out found place at here)) ∙ full.1.none;
              },
            )

pub change_law : ChangeLaw
change_law size pages firsts indexes first table placed row answer is among_rows storable work =
    changes-row size pages firsts indexes first table placed row answer is.well is.there is.shows among_rows storable work
