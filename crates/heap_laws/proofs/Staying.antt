-- Calls on tables leave the pages of indexes alone.
use Rattle.std.proofs.Common.{◌≡◌, ◌∙◌, ◌<◌, ◌||◌, ◌==◌, cond, ℕ, Bool, true, false, List, [], ◌∷◌, inl, inr, refl, sym, ap, subst, arith}
use Rattle.std.specs.List.{AllByRecursion, Contains}
use Rattle.std.proofs.lemmas.Bool.Decides.{eqb_tells}
use Rattle.pager.specs.Pages.{Pages, with_bytes}
use Rattle.heap_file.specs.declared.page.Entry.{Entry}
use Rattle.heap_file.specs.declared.page.HeapPage.{HeapPage}
use Rattle.heap_file.specs.Chain.{IsAt, last_page}
use Rattle.heap_file.specs.HeapPage.{page_bytes}
use Rattle.heap_file.specs.Work.{without}
use Rattle.heap_laws.specs.Laws.{AreSpared, IndexesStayLaw}
use Rattle.heap_laws.specs.Store.{WellFormed, IsSized, times}
use Rattle.heap_laws.specs.Table.{AddsRow, ChangesRow, EditsExactly, IsAdded, IsChanged, IsRemoved, MakesTable, RemovesRow, StandsChanged, Table, has_room, leaves}
use Rattle.heap_laws.proofs.Adding.{tail-there}
use Rattle.heap_laws.proofs.Apart.{Within, all-imp, held-count, index-apart, next-apart, not-any, own, own-first, own-last, own-met, previous-within}
use Rattle.heap_laws.proofs.Reading.{reads}
use Rattle.heap_laws.proofs.Removing.{place-there, without-sized}
use Rattle.heap_laws.proofs.Routes.{IsRoute, around, at-one, at-same, at-written, link_of, written-other}
use Rattle.heap_laws.proofs.Spotting.{spot}
use Rattle.heap_laws.proofs.Stores.{root-apart, times-some}

-- the last page that a changed row may go to is the table's own
pub moved-last : (size : ℕ) (pages : Pages) (firsts indexes : List ℕ) (first page : ℕ) (entry : Entry) (rest : HeapPage) (last : ℕ) (tail : HeapPage) (well : WellFormed size pages firsts indexes) (has : Contains firsts first) → StandsChanged size pages first page entry rest last tail → 0 < times last (own size pages firsts indexes first well has)
moved-last size pages firsts indexes first page entry rest last tail well has stands = elim (eqb_tells first page) [
  | inl same ↦ here same.1
  | inr differ ↦ named_by stands.ends.head (at-same size (with_bytes pages page (page_bytes rest)) pages first stands.ends.head (sym (written-other pages page first (page_bytes rest) differ.1)) stands.ends.at_first) stands.ends.named
]
  where
    named_by : (head : HeapPage) → IsAt size pages first head → last_page first head ≡ last → 0 < times last (own size pages firsts indexes first well has)
    named_by head at named =
        let there = tail-there size pages firsts indexes first well has head at in
        own-last size pages firsts indexes first last there.0 well has (record { head = head; at_first = at; named = named; at_last = subst (λ (p : ℕ). IsAt size pages p there.0) named there.1 })

    here : first ≡ page → 0 < times last (own size pages firsts indexes first well has)
    here same =
        let read = reads size pages firsts indexes first well has in
        let it = spot size pages first page entry.number stands.previous stands.place stands.held read.one.chain.links read.route.leads stands.stood stands.here in
        let at = around size pages first it.before (link_of page stands.held) it.behind (subst (IsRoute size pages first) it.links_are read.route) in
        let sized : IsSized (without stands.held stands.place) = without-sized stands.held stands.place (place-there read.one.chain.links page entry.number stands.previous stands.held stands.place it) at.sized_here in
        let rest_at : IsAt size (with_bytes pages page (page_bytes rest)) page rest = at-written size pages page rest at.here.named at.here.there (subst IsSized (sym stands.rest_is) sized) in
        let head_is : stands.ends.head ≡ rest = at-one size size (with_bytes pages page (page_bytes rest)) page stands.ends.head rest (subst (λ (p : ℕ). IsAt size (with_bytes pages page (page_bytes rest)) p stands.ends.head) same stands.ends.at_first) rest_at in
        let lasts : rest.last ≡ stands.held.last = ap (λ (h : HeapPage). h.last) stands.rest_is in
        let heads : last_page first stands.held ≡ last = ap (λ (l : ℕ). last_page first (record { next = 0; next_number = 0; last = l; entries = [] })) (sym lasts ∙ sym (ap (λ (h : HeapPage). h.last) head_is)) ∙ stands.ends.named in
        named_by stands.held (subst (λ (p : ℕ). IsAt size pages p stands.held) (sym same) at.here) heads

-- pages apart from all that are edited are left alone
spared : (pages after : Pages) (list indexes : List ℕ) → EditsExactly pages after list → ((p : ℕ) → 0 < times p indexes → AllByRecursion (λ q. p ≡ q → ⊥) list) → AreSpared indexes pages after
spared pages after list indexes edits apart page has =
    let none = not-any page list (apart page (times-some indexes page has)) in
    (edits.same page none, edits.edited page ∙ ap (λ (b : Bool). b || pages.edited page) none)

module _ (size : ℕ) (pages after : Pages) (firsts indexes : List ℕ) (first : ℕ) (well : WellFormed size pages firsts indexes) (has : Contains firsts first) where
  apart-list : (list : List ℕ) → AllByRecursion (Within size pages firsts indexes first well has) list → (p : ℕ) → 0 < times p indexes → AllByRecursion (λ q. p ≡ q → ⊥) list
  apart-list list all p there = all-imp (Within size pages firsts indexes first well has) (λ q. p ≡ q → ⊥) list (λ q within e. index-apart size pages firsts indexes first well has p q there within e) all

  within-spared : (list : List ℕ) → EditsExactly pages after list → AllByRecursion (Within size pages firsts indexes first well has) list → AreSpared indexes pages after
  within-spared list edits all = spared pages after list indexes edits (apart-list list all)

  first-within : Within size pages firsts indexes first well has first
  first-within = inr (inl (own-first size pages firsts indexes first well has))

  add-spared : (table : Table) (row : _) (placed : ℕ × ℕ) → AddsRow size pages firsts indexes first table row placed after → AreSpared indexes pages after
  add-spared table row placed adds = go (has_room adds.tail (record { number = table.next_number; row = row })) adds.effect
    where
      last : Within size pages firsts indexes first well has adds.last
      last = inr (inl (own-last size pages firsts indexes first adds.last adds.tail well has adds.ends))

      go : (b : Bool) → IsAdded b size pages after first adds.last placed.1 → AreSpared indexes pages after
      go true effect = within-spared (first ∷ adds.last ∷ []) effect.2 (first-within, (last, tt))
      go false effect = within-spared (first ∷ adds.last ∷ placed.1 ∷ 0 ∷ []) effect.1 (first-within, (last, (inr (inr effect.0.next), (inl refl, tt))))

  remove-spared : (table : Table) (page number : ℕ) → RemovesRow size pages firsts indexes first table page number after → AreSpared indexes pages after
  remove-spared table page number removes = go (leaves first page removes.held) removes.effect
    where
      here : Within size pages firsts indexes first well has page
      here = inr (inl (own-met size pages firsts indexes first page removes.previous removes.held well has removes.stood))

      rest : (b : Bool) → AllByRecursion (Within size pages firsts indexes first well has) (cond b (first ∷ []) [])
      rest true = (first-within, tt)
      rest false = tt

      go : (b : Bool) → IsRemoved b size pages after first removes.previous page removes.held → AreSpared indexes pages after
      go false effect = within-spared (page ∷ []) effect.1 (here, tt)
      go true effect = within-spared (removes.previous ∷ page ∷ 0 ∷ cond (removes.held.next == 0) (first ∷ []) []) effect.1
          (previous-within size pages firsts indexes first page removes.previous removes.held well has removes.stood, (here, (inl refl, rest (removes.held.next == 0))))

  change-spared : (table : Table) (page : ℕ) (entry : Entry) (to : ℕ) → ChangesRow size pages firsts indexes first table page entry to after → AreSpared indexes pages after
  change-spared table page entry to changes = go (has_room changes.rest entry) (has_room changes.tail entry) changes.effect
    where
      here : Within size pages firsts indexes first well has page
      here = inr (inl (own-met size pages firsts indexes first page changes.stands.previous changes.stands.held well has changes.stands.stood))

      end : Within size pages firsts indexes first well has changes.last
      end = inr (inl (moved-last size pages firsts indexes first page entry changes.rest changes.last changes.tail well has changes.stands))

      go : (stays room : Bool) → IsChanged stays room size pages after first page changes.last to → AreSpared indexes pages after
      go true room effect = within-spared (page ∷ []) effect.2 (here, tt)
      go false true effect = within-spared (page ∷ changes.last ∷ []) effect.2 (here, (end, tt))
      go false false effect = within-spared (page ∷ first ∷ changes.last ∷ to ∷ 0 ∷ []) effect.1 (here, (first-within, (end, (inr (inr effect.0.next), (inl refl, tt)))))

make-spared : (size : ℕ) (pages after : Pages) (firsts indexes : List ℕ) (first : ℕ) → WellFormed size pages firsts indexes → MakesTable size pages firsts indexes first after → AreSpared indexes pages after
make-spared size pages after firsts indexes first well makes = spared pages after (first ∷ 0 ∷ []) indexes makes.edits
    (λ p there. (
      λ e. next-apart size pages firsts indexes well p (omega (arith, there)) (e ∙ makes.takes.next),
      (λ e. absurd (omega (arith, subst (λ (q : ℕ). 0 < times q indexes) e there, held-count size pages firsts indexes well 0, root-apart size pages firsts indexes well)), tt),
    ))

pub indexes_stay_law : IndexesStayLaw
indexes_stay_law = record {
  make = make-spared;
  add = λ size pages after firsts indexes first table row placed well has adds. add-spared size pages after firsts indexes first well has table row placed adds;
  remove = λ size pages after firsts indexes first table page number well has removes. remove-spared size pages after firsts indexes first well has table page number removes;
  change = λ size pages after firsts indexes first table page entry to well has changes. change-spared size pages after firsts indexes first well has table page entry to changes;
}
