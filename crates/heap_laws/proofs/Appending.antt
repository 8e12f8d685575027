-- An entry at the end of a chain.
use Rattle.std.proofs.Common.{◌≡◌, ◌≢◌, ◌<◌, ◌≤◌, ◌+◌, ◌^◌, ◌++◌, ◌∙◌, ◌⊎◌, ℕ, true, false, cond, eqb, List, [], ◌∷◌, length, map, flat_map, inl, inr, refl, sym, ap, arith, subst, eq-eqb, ne_eqb, append_assoc, append-nil, length-append}
use Rattle.std.proofs.lemmas.Bool.Decides.{eqb_tells}
use Rattle.std.proofs.lemmas.List.{map-append}
use Rattle.retro_base.specs.Fields.{field_bytes}
use Rattle.retro_base.proofs.FieldLaws.{length-field_bytes}
use Rattle.values.specs.declared.value.Value.{Value}
use Rattle.row_codec.specs.RowCode.{value_code}
use Rattle.pager.specs.Pages.{Pages, with_bytes}
use Rattle.heap_file.specs.declared.page.Entry.{Entry}
use Rattle.heap_file.specs.declared.page.HeapPage.{HeapPage}
use Rattle.heap_file.specs.declared.chain.Link.{Link}
use Rattle.heap_file.specs.declared.chain.Placed.{Placed}
use Rattle.heap_file.specs.Chain.{IsAt, IsWay, last_page, rows_of, rows_on}
use Rattle.heap_file.specs.HeapPage.{IsEntry, page_bytes, have_room}
use Rattle.heap_file.specs.Work.{page_with}
use Rattle.heap_file.proofs.Packing.{one_entry}
use Rattle.heap_laws.specs.Store.{IsSized, end_of, times}
use Rattle.heap_laws.specs.Table.{IsStorable}
use Rattle.heap_laws.proofs.Counts.{one_if}
use Rattle.heap_laws.proofs.Routes.{at-one, at-same, at-written, around, end-append, first_link, IsRoute, last_link, leads-relink, leads-same, link_of, pages_on, route-update, rows-cons, rows-middle, sized-append, times-cons, times-here, times-links, written-other}
use Rattle.heap_laws.proofs.Rows.{placed_on}
use Rattle.heap_laws.proofs.Stores.{all-join}

-- a row that can be stored is an entry under each number
pub storable-entry : (number : ℕ) (row : List Value) → number < 2 ^ 64 → IsStorable row → IsEntry (record { number = number; row = row })
storable-entry number row small is =
    let rest : List ℕ = length row ∷ flat_map value_code row in
    record {
      fits = small;
      lawful = is.lawful;
      code = refl;
      short = omega (arith, is.short, length-append (field_bytes 8 number) rest, length-append (field_bytes 8 0) rest, length-field_bytes 8 number, length-field_bytes 8 0);
    }

-- a page with one entry can be written
pub one-sized : (entry : Entry) → IsEntry entry → IsSized (page_with entry)
one-sized entry is = record { page = one_entry entry is; next = omega arith; next_number = omega arith; last = omega arith }

-- a page with one more entry can be written where it fits
pub more-sized : (held : HeapPage) (entry : Entry) → IsSized held → IsEntry entry → have_room (held.entries ++ entry ∷ []) ≡ true → IsSized (record held { entries = held.entries ++ entry ∷ [] })
more-sized held entry sized is room = record {
  page = record { lawful = all-join IsEntry held.entries (entry ∷ []) sized.page.lawful (is, tt); fits = room };
  next = sized.next;
  next_number = sized.next_number;
  last = sized.last;
}

pub next-sized : (held : HeapPage) (next : ℕ) → IsSized held → next < 2 ^ 32 → IsSized (record held { next = next })
next-sized held next sized small = record {
  page = record { lawful = sized.page.lawful; fits = sized.page.fits };
  next = small;
  next_number = sized.next_number;
  last = sized.last;
}

pub last-sized : (held : HeapPage) (last : ℕ) → IsSized held → last < 2 ^ 32 → IsSized (record held { last = last })
last-sized held last sized small = record {
  page = record { lawful = sized.page.lawful; fits = sized.page.fits };
  next = sized.next;
  next_number = sized.next_number;
  last = small;
}

pub number-sized : (held : HeapPage) (number : ℕ) → IsSized held → number < 2 ^ 64 → IsSized (record held { next_number = number })
number-sized held number sized small = record {
  page = record { lawful = sized.page.lawful; fits = sized.page.fits };
  next = sized.next;
  next_number = small;
  last = sized.last;
}

-- what the first page holds can be written
pub head-sized : (size : ℕ) (pages : Pages) (first : ℕ) (links : List Link) (head : HeapPage) → IsRoute size pages first links → IsAt size pages first head → IsSized head
head-sized size pages first links head route at =
    let front = first_link size pages first links head route.leads at in
    (around size pages first [] (link_of first head) front.0 (subst (IsRoute size pages first) front.1 route)).sized_here

-- the first page of a way is one of its pages
pub first-there : (size : ℕ) (pages : Pages) (first : ℕ) (links : List Link) (head : HeapPage) → IsWay size pages first links 0 → IsAt size pages first head → 0 < times first (pages_on links)
first-there size pages first links head leads at =
    let front = first_link size pages first links head leads at in
    omega (arith, ap (λ (l : List Link). times first (pages_on l)) front.1, times-here first (pages_on front.0))

-- a chain whose first page was written anew, with its entries and next page as they were
pub record Rehead (size : ℕ) (after : Pages) (first : ℕ) (links : List Link) : Type 0 where
  pub now : List Link
  pub route : IsRoute size after first now
  pub pages_same : pages_on now ≡ pages_on links
  pub rows_same : rows_of now ≡ rows_of links
  pub end_same : end_of first now ≡ end_of first links

pub rehead : (size : ℕ) (pages : Pages) (first : ℕ) (links : List Link) (head held : HeapPage) → IsRoute size pages first links → IsAt size pages first head → held.next ≡ head.next → held.entries ≡ head.entries → IsSized held
    → Rehead size (with_bytes pages first (page_bytes held)) first links
rehead size pages first links head held route at next entries sized =
    let front = first_link size pages first links head route.leads at in
    record {
      now = link_of first held ∷ front.0;
      route = route-update size pages first [] (link_of first head) front.0 held (subst (IsRoute size pages first) front.1 route) next sized;
      pages_same = ap pages_on (sym front.1);
      rows_same = rows-cons (link_of first held) front.0 ∙ ap (λ (es : List Entry). map (placed_on first) es ++ rows_of front.0) entries ∙ sym (rows-cons (link_of first head) front.0) ∙ ap rows_of (sym front.1);
      end_same = ap (end_of first) (sym front.1);
    }

-- the first page after a write on a page of its chain, which may be itself
pub update-head : (size : ℕ) (pages : Pages) (first : ℕ) (head : HeapPage) (page : ℕ) (old held : HeapPage) → IsAt size pages first head → IsAt size pages page old → IsSized held → held.last ≡ old.last → held.next_number ≡ old.next_number
    → (now : HeapPage) × IsAt size (with_bytes pages page (page_bytes held)) first now × (now.last ≡ head.last) × (now.next_number ≡ head.next_number)
update-head size pages first head page old held at at_page sized last number =
    elim (eqb_tells first page) [
      | inl same ↦
          let one : head ≡ old = at-one size size pages page head old (subst (λ (p : ℕ). IsAt size pages p head) same.1 at) at_page in
          (held, subst (λ (p : ℕ). IsAt size (with_bytes pages page (page_bytes held)) p held) (sym same.1) (at-written size pages page held at_page.named at_page.there sized), last ∙ ap (λ (h : HeapPage). h.last) (sym one), number ∙ ap (λ (h : HeapPage). h.next_number) (sym one))
      | inr differ ↦ (head, at-same size pages (with_bytes pages page (page_bytes held)) first head (written-other pages page first (page_bytes held) differ.1) at, refl, refl)
    ]

-- the last page of a chain is that of its last link
pub end_link : (size : ℕ) (pages : Pages) (first last : ℕ) (links : List Link) (head tail : HeapPage) → IsRoute size pages first links → IsAt size pages first head → IsAt size pages last tail → end_of first links ≡ last → (a : List Link) × (links ≡ a ++ link_of last tail ∷ [])
end_link size pages first last links head tail route at at_last named =
    let front = first_link size pages first links head route.leads at in
    let ends = last_link first (link_of first head) front.0 in
    let whole : links ≡ ends.0 ++ ends.1 ∷ [] = front.1 ∙ ends.2 in
    let page : ends.1.page ≡ last = sym (ap (end_of first) front.1 ∙ ends.3) ∙ named in
    let here = around size pages first ends.0 ends.1 [] (subst (IsRoute size pages first) whole route) in
    let held : ends.1.held ≡ tail = at-one size size pages last ends.1.held tail (subst (λ (p : ℕ). IsAt size pages p ends.1.held) page here.here) at_last in
    (ends.0, whole ∙ ap (λ (l : Link). ends.0 ++ l ∷ []) (made ends.1 page held))
  where
    made : (link : Link) → link.page ≡ last → link.held ≡ tail → link ≡ link_of last tail
    made link p q = λ i. record { page = p i; held = q i }

-- an entry stands at the end of a chain, which has these pages besides
pub record Appended (size : ℕ) (pages after : Pages) (first : ℕ) (links : List Link) (head : HeapPage) (extra : List ℕ) (page : ℕ) (entry : Entry) : Type 0 where
  pub now : List Link
  pub route : IsRoute size after first now
  pub head_now : HeapPage
  pub at_first : IsAt size after first head_now
  pub next_number : head_now.next_number ≡ head.next_number
  pub names_last : last_page first head_now ≡ end_of first now
  pub rows : rows_of now ≡ rows_of links ++ placed_on page entry ∷ []
  pub counts : (p : ℕ) → times p (pages_on now) ≡ times p (pages_on links) + times p extra
  pub same : (p : ℕ) → times p (pages_on links) + times p extra ≡ 0 → after.at p ≡ pages.at p

-- on the last page
pub put-last : (size : ℕ) (pages : Pages) (first last : ℕ) (links : List Link) (head tail : HeapPage) (entry : Entry) → IsRoute size pages first links → IsAt size pages first head → IsAt size pages last tail
    → last_page first head ≡ last → end_of first links ≡ last → IsEntry entry → have_room (tail.entries ++ entry ∷ []) ≡ true
    → Appended size pages (with_bytes pages last (page_bytes (record tail { entries = tail.entries ++ entry ∷ [] }))) first links head [] last entry
put-last size pages first last links head tail entry route at at_last named ends is room =
    let split = end_link size pages first last links head tail route at at_last ends in
    let a = split.0 in
    let held : HeapPage = record tail { entries = tail.entries ++ entry ∷ [] } in
    let old = link_of last tail in
    let new = link_of last held in
    let whole = subst (IsRoute size pages first) split.1 route in
    let sized = more-sized tail entry (around size pages first a old [] whole).sized_here is room in
    let now = update-head size pages first head last tail held at at_last sized refl refl in
    let before : rows_of links ≡ rows_of a ++ rows_on old = ap rows_of split.1 ∙ rows-middle a old [] ∙ ap (λ (r : List Placed). rows_of a ++ r) (append-nil (rows_on old)) in
    let behind : rows_of (a ++ new ∷ []) ≡ rows_of a ++ rows_on new = rows-middle a new [] ∙ ap (λ (r : List Placed). rows_of a ++ r) (append-nil (rows_on new)) in
    let grown : rows_on new ≡ rows_on old ++ placed_on last entry ∷ [] = map-append (placed_on last) tail.entries (entry ∷ []) in
    let count : (p : ℕ) → times p (pages_on (a ++ new ∷ [])) ≡ times p (pages_on links) = λ p. times-links p a new [] ∙ sym (times-links p a old []) ∙ ap (λ (l : List Link). times p (pages_on l)) (sym split.1) in
    record {
      now = a ++ new ∷ [];
      route = route-update size pages first a old [] held whole refl sized;
      head_now = now.0;
      at_first = now.1;
      next_number = now.3;
      names_last = ap (λ (l : ℕ). cond (eqb l 0) first l) now.2 ∙ named ∙ sym (end-append first a new []);
      rows = behind ∙ ap (λ (r : List Placed). rows_of a ++ r) grown ∙ sym (append_assoc (rows_of a) (rows_on old) (placed_on last entry ∷ [])) ∙ ap (λ (r : List Placed). r ++ placed_on last entry ∷ []) (sym before);
      counts = λ p. omega (arith, count p);
      same = λ p off. written-other pages last p (page_bytes held) (λ e. absurd (omega (arith, subst (λ (q : ℕ). times q (pages_on links) + times q [] ≡ 0) e off, count last, times-links last a new [], ap one_if (eq-eqb last last refl))));
    }

-- on a page that was taken, which the indexes had last
pub put-new : (size : ℕ) (pages : Pages) (first last page : ℕ) (links : List Link) (head tail : HeapPage) (entry : Entry) → size < 2 ^ 32 → IsRoute size pages first links → IsAt size pages first head → IsAt size pages last tail
    → end_of first links ≡ last → IsEntry entry → 0 < page → page < size → times page (pages_on links) ≡ 0
    → (found : HeapPage) → IsAt size (with_bytes (with_bytes pages page (page_bytes (page_with entry))) last (page_bytes (record tail { next = page }))) first found
    → Appended size pages (with_bytes (with_bytes (with_bytes pages page (page_bytes (page_with entry))) last (page_bytes (record tail { next = page }))) first (page_bytes (record found { last = page }))) first links head (page ∷ []) page entry
put-new size pages first last page links head tail entry small route at at_last ends is some there off found found_at =
    let split = end_link size pages first last links head tail route at at_last ends in
    let a = split.0 in
    let old = link_of last tail in
    let whole = subst (IsRoute size pages first) split.1 route in
    let here = around size pages first a old [] whole in
    let lone = page_with entry in
    let linked : HeapPage = record tail { next = page } in
    let fresh = link_of page lone in
    let mid = link_of last linked in
    let one = with_bytes pages page (page_bytes lone) in
    let two = with_bytes one last (page_bytes linked) in
    let named : HeapPage = record found { last = page } in
    let three = with_bytes two first (page_bytes named) in
    let linked_sized = next-sized tail page here.sized_here (omega (arith, there, small)) in
    let count : (p : ℕ) → times p (pages_on links) ≡ times p (pages_on a) + one_if (eqb last p) = λ p. omega (arith, ap (λ (l : List Link). times p (pages_on l)) split.1, times-links p a old []) in
    let counts : (p : ℕ) → times p (pages_on (a ++ mid ∷ fresh ∷ [])) ≡ times p (pages_on links) + times p (page ∷ []) = λ p. omega (arith, count p, times-links p a mid (fresh ∷ [])) in
    let last_there : 0 < times last (pages_on links) = omega (arith, count last, ap one_if (eq-eqb last last refl)) in
    let apart : last ≡ page → ⊥ = λ e. absurd (omega (arith, subst (λ (q : ℕ). 0 < times q (pages_on links)) e last_there, off)) in
    let first_apart : first ≡ page → ⊥ = λ e. absurd (omega (arith, subst (λ (q : ℕ). 0 < times q (pages_on links)) e (first-there size pages first links head route.leads at), off)) in
    let before_part : IsWay size one first a last =
    leads-same size pages one first a last (λ p in_a. written-other pages page p (page_bytes lone) (λ e. absurd (omega (arith, subst (λ (q : ℕ). 0 < times q (pages_on a)) e in_a, count page, off)))) here.first_part in
    let fresh_part : IsWay size one page (fresh ∷ []) 0 = (refl, at-written size pages page lone some there (one-sized entry is), refl) in
    let two_route : IsRoute size two first (a ++ mid ∷ fresh ∷ []) = record {
      leads = leads-relink size one first a last linked (fresh ∷ []) 0 before_part fresh_part here.off_before (omega (arith, times-cons last page [], ap one_if (ne_eqb page last (λ e. apart (sym e))))) at_last.named at_last.there linked_sized;
      sized = sized-append a (mid ∷ fresh ∷ []) here.sized_before (linked_sized, (one-sized entry is, tt));
      once = λ p. once p (eqb_tells page p) (counts p);
    } in
    let then_head = update-head size one first head last tail linked (at-same size pages one first head (written-other pages page first (page_bytes lone) first_apart) at) (at-same size pages one last tail (written-other pages page last (page_bytes lone) apart) at_last) linked_sized refl refl in
    let found_is : found ≡ then_head.0 = at-one size size two first found then_head.0 found_at then_head.1 in
    let named_sized = last-sized found page (head-sized size two first (a ++ mid ∷ fresh ∷ []) found two_route found_at) (omega (arith, there, small)) in
    let again = rehead size two first (a ++ mid ∷ fresh ∷ []) found named two_route found_at refl refl named_sized in
    let before : rows_of links ≡ rows_of a ++ rows_on old = ap rows_of split.1 ∙ rows-middle a old [] ∙ ap (λ (r : List Placed). rows_of a ++ r) (append-nil (rows_on old)) in
    let behind : rows_of (a ++ mid ∷ fresh ∷ []) ≡ (rows_of a ++ rows_on old) ++ placed_on page entry ∷ [] =
    rows-middle a mid (fresh ∷ []) ∙ sym (append_assoc (rows_of a) (rows_on old) (rows_of (fresh ∷ []))) ∙ ap (λ (r : List Placed). (rows_of a ++ rows_on old) ++ r) (rows-cons fresh []) in
    record {
      now = again.now;
      route = again.route;
      head_now = named;
      at_first = at-written size two first named found_at.named found_at.there named_sized;
      next_number = ap (λ (h : HeapPage). h.next_number) found_is ∙ then_head.3;
      names_last = (rw (ne_eqb page 0 (λ e. absurd (omega (arith, e, some)))) (sym (end-append first a mid (fresh ∷ [])))) ∙ sym again.end_same;
      rows = again.rows_same ∙ behind ∙ ap (λ (r : List Placed). r ++ placed_on page entry ∷ []) (sym before);
      counts = λ p. ap (times p) again.pages_same ∙ counts p;
      same = λ p none. written-other two first p (page_bytes named) (λ e. absurd (omega (arith, subst (λ (q : ℕ). times q (pages_on links) + times q (page ∷ []) ≡ 0) e none, first-there size pages first links head route.leads at)))
          ∙ written-other one last p (page_bytes linked) (λ e. absurd (omega (arith, subst (λ (q : ℕ). times q (pages_on links) + times q (page ∷ []) ≡ 0) e none, last_there)))
          ∙ written-other pages page p (page_bytes lone) (λ e. absurd (omega (arith, subst (λ (q : ℕ). times q (pages_on links) + times q (page ∷ []) ≡ 0) e none, times-here page [])));
    }
  where
    once : (p : ℕ) → ((eqb page p ≡ true) × (page ≡ p)) ⊎ ((eqb page p ≡ false) × (page ≢ p)) → {k : ℕ} → k ≡ times p (pages_on links) + times p (page ∷ []) → k ≤ 1
    once p (inl same) e = omega (arith, e, subst (λ (q : ℕ). times q (pages_on links) ≡ 0) same.1 off, times-cons p page [], ap one_if same.0)
    once p (inr differ) e = omega (arith, e, route.once p, times-cons p page [], ap one_if differ.0)
