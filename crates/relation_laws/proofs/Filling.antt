-- What the last page of a table holds after a row is added.
use Rattle.std.proofs.Common.{◌≡◌, ◌∙◌, ◌<◌, ◌+◌, ◌-◌, ◌++◌, ◌^◌, ◌==◌, cond, ℕ, Bool, true, false, eqb, List, [], ◌∷◌, Result, Ok, Err, inl, inr, refl, sym, ap, subst, arith, eq-eqb, ne_eqb}
use Rattle.std.specs.List.{Contains}
use Rattle.std.proofs.lemmas.Bool.Decides.{eqb_tells}
use Rattle.retro_base.specs.declared.refusal.Refusal.{Refusal}
use Rattle.values.specs.declared.value.Value.{Value}
use Rattle.pager.specs.Pages.{Pages, with_bytes}
use Rattle.heap_file.specs.declared.page.Entry.{Entry}
use Rattle.heap_file.specs.declared.page.HeapPage.{HeapPage}
use Rattle.pager.specs.Allows.{either, only}
use Rattle.heap_file.specs.Chain.{IsAt, last_page}
use Rattle.heap_file.specs.HeapPage.{IsEntry, page_bytes}
use Rattle.heap_file.specs.Work.{added, appended, lengthened, page_with}
use Rattle.heap_laws.specs.Store.{IsSized, WellFormed}
use Rattle.heap_laws.specs.Table.{EndsAt, IsStorable, IsTable, Table, has_room}
use Rattle.heap_laws.proofs.Adding.{put-answer, tail-facts}
use Rattle.heap_laws.proofs.Appending.{head-sized, last-sized, more-sized, next-sized, number-sized, one-sized, storable-entry, update-head}
use Rattle.heap_laws.proofs.Reading.{reads, rows-read}
use Rattle.heap_laws.proofs.Roots.{Taken, rooted-same, take-answer}
use Rattle.heap_laws.proofs.Routes.{at-one, at-same, at-written, written-other}
use Rattle.relation_laws.proofs.Reaching.{free-apart, own-first, own-last}

-- the last page of a table, with these entries
pub record Ended (size : ℕ) (after : Pages) (first last : ℕ) (entries : List Entry) : Type 0 where
  pub tail : HeapPage
  pub ends : EndsAt size after first last tail
  pub are : tail.entries ≡ entries

-- the entries of the last page once one more is put
abbrev pub entries_after : Bool → HeapPage → Entry → List Entry
entries_after room tail entry = cond room (tail.entries ++ entry ∷ []) (entry ∷ [])

-- an entry that is put at the end of a table, with the last page before it
pub record PutEnds (size : ℕ) (pages after : Pages) (first : ℕ) (entry : Entry) (page : ℕ) : Type 0 where
  pub last : ℕ
  pub tail : HeapPage
  pub ends : EndsAt size pages first last tail
  pub to : ℕ
  pub ended : Ended size after first to (entries_after (has_room tail entry) tail entry)
  pub stays : has_room tail entry ≡ true → to ≡ last
  pub moves : has_room tail entry ≡ false → to ≡ page

-- the value of an answer
abbrev value_of : {X : Type 0} → X → Result X Refusal → X
value_of other (Ok value) = value
value_of other (Err why) = other

last-of : (first : ℕ) (a b : HeapPage) → a.last ≡ b.last → last_page first a ≡ last_page first b
last-of first a b e = ap (λ (l : ℕ). cond (l == 0) first l) e

put-here : (size : ℕ) (pages : Pages) (first : ℕ) (entry : Entry) (head tail : HeapPage) → IsAt size pages first head → IsAt size pages (last_page first head) tail → IsSized tail → IsEntry entry → has_room tail entry ≡ true
    → Ended size (with_bytes pages (last_page first head) (page_bytes (record tail { entries = tail.entries ++ entry ∷ [] }))) first (last_page first head) (tail.entries ++ entry ∷ [])
put-here size pages first entry head tail at at_last tail_sized is room =
    let more : HeapPage = record tail { entries = tail.entries ++ entry ∷ [] } in
    let sized = more-sized tail entry tail_sized is room in
    let head_after = update-head size pages first head (last_page first head) tail more at at_last sized refl refl in
    record {
      tail = more;
      ends = record { head = head_after.0; at_first = head_after.1; named = last-of first head_after.0 head head_after.2; at_last = at-written size pages (last_page first head) more at_last.named at_last.there sized };
      are = refl;
    }

-- a page that was taken, with an entry, and then linked behind the last page
abbrev base_put : Pages → ℕ → Entry → Pages
base_put base page entry = with_bytes base page (page_bytes (page_with entry))

abbrev base_linked : Pages → ℕ → ℕ → Entry → HeapPage → Pages
base_linked base last page entry tail = with_bytes (base_put base page entry) last (page_bytes (record tail { next = page }))

put-there : (size : ℕ) (pages : Pages) (firsts indexes : List ℕ) (first : ℕ) (entry : Entry) (page : ℕ) (base : Pages) (head tail found : HeapPage) → WellFormed size pages firsts indexes → Contains firsts first → IsEntry entry → Taken size pages firsts indexes page base
    → IsAt size pages first head → IsAt size pages (last_page first head) tail
    → IsAt size (with_bytes (with_bytes base page (page_bytes (page_with entry))) (last_page first head) (page_bytes (record tail { next = page }))) first found
    → Ended size (with_bytes (with_bytes (with_bytes base page (page_bytes (page_with entry))) (last_page first head) (page_bytes (record tail { next = page }))) first (page_bytes (record found { last = page }))) first page (entry ∷ [])
put-there size pages firsts indexes first entry page base head tail found well has is taken at at_last found_at =
    record {
      tail = page_with entry;
      ends = record {
        head = record found { last = page };
        at_first = at-written size (base_linked base (last_page first head) page entry tail) first (record found { last = page }) at.named at.there sized;
        named = rw (ne_eqb page 0 (λ e. absurd (omega (arith, e, taken.behind)))) refl;
        at_last = at-same size (base_linked base (last_page first head) page entry tail) _ page (page_with entry) (written-other (base_linked base (last_page first head) page entry tail) first page _ off_first) (at-same size (base_put base page entry) (base_linked base (last_page first head) page entry tail) page (page_with entry) (written-other (base_put base page entry) (last_page first head) page _ off_last) (at-written size base page (page_with entry) (omega (arith, taken.behind)) taken.there (one-sized entry is)));
      };
      are = refl;
    }
  where
    small : page < 2 ^ 32
    small = omega (arith, taken.there, well.small)

    off_first : page ≡ first → ⊥
    off_first e = free-apart size pages firsts indexes first well has first (own-first size pages firsts indexes first well has) (sym e ∙ taken.takes.next)

    off_last : page ≡ (last_page first head) → ⊥
    off_last e = free-apart size pages firsts indexes first well has (last_page first head) (own-last size pages firsts indexes first (last_page first head) tail well has (record { head = head; at_first = at; named = refl; at_last = at_last })) (sym e ∙ taken.takes.next)

    base_same : (p : ℕ) → 0 < p → base.at p ≡ pages.at p
    base_same p some = ap (λ (q : Pages). q.at p) taken.after_is ∙ rooted-same pages taken.root p (λ e. absurd (omega (arith, e, some)))

    tail_sized : IsSized (record tail { next = page })
    tail_sized = next-sized tail page (tail-facts size pages firsts indexes first well has head tail at at_last).0 small

    found_sized : IsSized found
    found_sized = elim (eqb_tells first (last_page first head)) [
      | inl same ↦ subst IsSized (at-one size size (base_linked base (last_page first head) page entry tail) first (record tail { next = page }) found (subst (λ (p : ℕ). IsAt size (base_linked base (last_page first head) page entry tail) p (record tail { next = page })) (sym same.1) (at-written size (base_put base page entry) (last_page first head) (record tail { next = page }) at_last.named at_last.there tail_sized)) found_at) tail_sized
      | inr differ ↦
          let read = reads size pages firsts indexes first well has in
          let here : (base_linked base (last_page first head) page entry tail).at first ≡ pages.at first = written-other (base_put base page entry) (last_page first head) first _ differ.1 ∙ written-other base page first _ (λ e. off_first (sym e)) ∙ base_same first at.named in
          subst IsSized (at-one size size (base_linked base (last_page first head) page entry tail) first head found (at-same size pages (base_linked base (last_page first head) page entry tail) first head here at) found_at) (head-sized size pages first read.one.chain.links head read.route at)
    ]

    sized : IsSized (record found { last = page })
    sized = last-sized found page found_sized small

-- an entry that is put at the end of a table
pub put-ends : (size : ℕ) (pages : Pages) (firsts indexes : List ℕ) (first : ℕ) (entry : Entry) (y : ℕ × Pages) → WellFormed size pages firsts indexes → Contains firsts first → IsEntry entry → appended size pages first entry (Ok y) → PutEnds size pages y.1 first entry y.0
put-ends size pages firsts indexes first entry y well has is (head, at, (tail, at_last, work)) =
    room (has_room tail entry) refl (rw (eq-eqb 0 tail.next (sym (tail-facts size pages firsts indexes first well has head tail at at_last).1)) at work)
  where
    before : EndsAt size pages first (last_page first head) tail
    before = record { head = head; at_first = at; named = refl; at_last = at_last }

    clash : true ≡ false → ⊥
    clash e = absurd cc

    ending : (after : Pages) (to page : ℕ) → Ended size after first to (entries_after (has_room tail entry) tail entry) → (has_room tail entry ≡ true → to ≡ last_page first head) → (has_room tail entry ≡ false → to ≡ page) → PutEnds size pages after first entry page
    ending after to page ended stays moves = record { last = last_page first head; tail = tail; ends = before; to = to; ended = ended; stays = stays; moves = moves }

    room : (b : Bool) → has_room tail entry ≡ b → either b (only (Ok (last_page first head, with_bytes pages (last_page first head) (page_bytes (record tail { entries = tail.entries ++ entry ∷ [] }))))) (lengthened size pages first (last_page first head) tail entry) (Ok y) → PutEnds size pages y.1 first entry y.0
    room true e h =
        subst (λ (a : Result (ℕ × Pages) Refusal). PutEnds size pages (value_of y a).1 first entry (value_of y a).0) h
        (ending _ (last_page first head) (last_page first head) (subst (λ (b : Bool). Ended size (with_bytes pages (last_page first head) (page_bytes (record tail { entries = tail.entries ++ entry ∷ [] }))) first (last_page first head) (entries_after b tail entry)) (sym e)
        (put-here size pages first entry head tail at at_last (tail-facts size pages firsts indexes first well has head tail at at_last).0 is e)) (λ t. refl) (λ t. refl))
    room false e (next, take, (found, found_at, h)) =
        subst (λ (a : Result (ℕ × Pages) Refusal). PutEnds size pages (value_of y a).1 first entry (value_of y a).0) h
        (ending _ next.0 next.0 (subst (λ (b : Bool). Ended size (with_bytes (with_bytes (with_bytes next.1 next.0 (page_bytes (page_with entry))) (last_page first head) (page_bytes (record tail { next = next.0 }))) first (page_bytes (record found { last = next.0 }))) first next.0 (entries_after b tail entry)) (sym e)
        (put-there size pages firsts indexes first entry next.0 next.1 head tail found well has is (take-answer size pages firsts indexes (Ok next) well take) at at_last found_at)) (λ t. absurd (clash (sym t ∙ e))) (λ t. refl))

-- the first page counts one row more
count-ends : (size : ℕ) (mid : Pages) (first last number : ℕ) (found : HeapPage) (entries : List Entry) → IsAt size mid first found → IsSized (record found { next_number = number }) → Ended size mid first last entries → Ended size (with_bytes mid first (page_bytes (record found { next_number = number }))) first last entries
count-ends size mid first last number found entries at sized ended = elim (eqb_tells last first) [
  | inl same ↦
      let one : ended.tail ≡ found = at-one size size mid first ended.tail found (subst (λ (p : ℕ). IsAt size mid p ended.tail) same.1 ended.ends.at_last) at in
      record { tail = (record found { next_number = number }); ends = record { head = (record found { next_number = number }); at_first = first_at; named = named; at_last = subst (λ (p : ℕ). IsAt size (with_bytes mid first (page_bytes (record found { next_number = number }))) p (record found { next_number = number })) (sym same.1) first_at }; are = ap (λ (h : HeapPage). h.entries) (sym one) ∙ ended.are }
  | inr differ ↦
      record { tail = ended.tail; ends = record { head = (record found { next_number = number }); at_first = first_at; named = named; at_last = at-same size mid (with_bytes mid first (page_bytes (record found { next_number = number }))) last ended.tail (written-other mid first last (page_bytes (record found { next_number = number })) differ.1) ended.ends.at_last }; are = ended.are }
]
  where
    first_at : IsAt size (with_bytes mid first (page_bytes (record found { next_number = number }))) first (record found { next_number = number })
    first_at = at-written size mid first (record found { next_number = number }) at.named at.there sized

    named : last_page first (record found { next_number = number }) ≡ last
    named = last-of first (record found { next_number = number }) ended.ends.head (ap (λ (h : HeapPage). h.last) (at-one size size mid first found ended.ends.head at ended.ends.at_first)) ∙ ended.ends.named

-- a row that is added
pub add-ends : (size : ℕ) (pages : Pages) (firsts indexes : List ℕ) (first : ℕ) (table : Table) (row : List Value) (y : (ℕ × ℕ) × Pages) → WellFormed size pages firsts indexes → Contains firsts first → IsTable size pages first table → IsStorable row → table.next_number < 2 ^ 64 - 1 → added size pages first row (Ok y)
    → PutEnds size pages y.1 first (record { number = table.next_number; row = row }) y.0.1
add-ends size pages firsts indexes first table row y well has shows storable small (head, at, work) =
    let next = rw (number_of head at, not_last) at work in
    subst (λ (a : Result ((ℕ × ℕ) × Pages) Refusal). PutEnds size pages (value_of y a).1 first (record { number = table.next_number; row = row }) (value_of y a).0.1) next.2.2
    (counts next.0 next.1 next.2.0 next.2.1)
  where
    is : IsEntry (record { number = table.next_number; row = row })
    is = storable-entry table.next_number row (omega (arith, small)) storable

    number_of : (head : HeapPage) → IsAt size pages first head → head.next_number ≡ table.next_number
    number_of head at =
        let read = reads size pages firsts indexes first well has in
        (rows-read size pages first table read.one.chain.links head shows read.route.leads at).next_number

    not_last : eqb table.next_number (2 ^ 64 - 1) ≡ false
    not_last = ne_eqb table.next_number (2 ^ 64 - 1) (λ e. absurd (omega (arith, small, e)))

    counts : (placed : ℕ × Pages) → appended size pages first (record { number = table.next_number; row = row }) (Ok placed) → (found : HeapPage) → IsAt size placed.1 first found
        → PutEnds size pages (with_bytes placed.1 first (page_bytes (record found { next_number = table.next_number + 1 }))) first (record { number = table.next_number; row = row }) placed.0
    counts placed work found found_at =
        let put = put-answer size pages firsts indexes first (record { number = table.next_number; row = row }) (Ok placed) well has is work in
        let ended = put-ends size pages firsts indexes first (record { number = table.next_number; row = row }) placed well has is work in
        let sized = number-sized found (table.next_number + 1) (head-sized size placed.1 first put.put.now found put.put.route found_at) (omega (arith, small)) in
        record { last = ended.last; tail = ended.tail; ends = ended.ends; to = ended.to; stays = ended.stays; moves = ended.moves; ended = count-ends size placed.1 first ended.to (table.next_number + 1) found (entries_after (has_room ended.tail (record { number = table.next_number; row = row })) ended.tail (record { number = table.next_number; row = row })) found_at sized ended.ended }
