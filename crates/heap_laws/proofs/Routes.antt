-- Ways along heap pages, and what a write on a page does to them.
use Rattle.std.proofs.Common.{◌≡◌, ◌<◌, ◌≤◌, ◌+◌, ◌++◌, ◌∙◌, ℕ, Bool, eqb, List, [], ◌∷◌, map, refl, sym, ap, arith, subst, eq-eqb, ne_eqb}
use Rattle.std.specs.List.{AllByRecursion}
use Rattle.std.proofs.lemmas.List.{map-append}
use Rattle.std.proofs.lemmas.List.Concat.{flat_map-cons, flat_map-append}
use Rattle.pager.specs.Pages.{Pages, with_bytes}
use Rattle.heap_file.specs.declared.page.HeapPage.{HeapPage}
use Rattle.heap_file.specs.declared.chain.Link.{Link}
use Rattle.heap_file.specs.declared.chain.Placed.{Placed}
use Rattle.heap_file.specs.Chain.{IsAt, IsWay, rows_of, rows_on}
use Rattle.heap_file.specs.HeapPage.{HoldsRows, page_bytes}
use Rattle.heap_file.proofs.Packing.{holds_one, written_holds}
use Rattle.heap_laws.specs.Store.{IsSized, end_of, times}
use Rattle.heap_laws.proofs.Counts.{keyed-append, keyed-cons, keyed-same, one_if}

-- a link of that page
abbrev pub link_of : ℕ → HeapPage → Link
link_of page held = record { page = page; held = held }

-- the pages of links
abbrev pub pages_on : List Link → List ℕ
pages_on links = map (λ (link : Link). link.page) links

-- every page of links can be written
abbrev pub AllSized : List Link → Type 0
AllSized links = AllByRecursion (λ (link : Link). IsSized link.held) links

pub times-append : (p : ℕ) (xs ys : List ℕ) → times p (xs ++ ys) ≡ times p xs + times p ys
times-append p xs ys = keyed-append (λ (m : ℕ). m) p xs ys

pub times-cons : (p x : ℕ) (xs : List ℕ) → times p (x ∷ xs) ≡ one_if (eqb x p) + times p xs
times-cons p x xs = keyed-cons (λ (m : ℕ). m) p x xs

pub times-here : (p : ℕ) (xs : List ℕ) → times p (p ∷ xs) ≡ 1 + times p xs
times-here p xs = keyed-same (λ (m : ℕ). m) p p xs refl

pub times-links : (p : ℕ) (a : List Link) (link : Link) (b : List Link) → times p (pages_on (a ++ link ∷ b)) ≡ times p (pages_on a) + (one_if (eqb link.page p) + times p (pages_on b))
times-links p a link b =
    ap (times p) (map-append (λ (l : Link). l.page) a (link ∷ b)) ∙ times-append p (pages_on a) (link.page ∷ pages_on b) ∙ ap (λ (k : ℕ). times p (pages_on a) + k) (times-cons p link.page (pages_on b))

-- a page that was written
pub at-written : (size : ℕ) (pages : Pages) (page : ℕ) (held : HeapPage) → 0 < page → page < size → IsSized held → IsAt size (with_bytes pages page (page_bytes held)) page held
at-written size pages page held some there sized = record {
  named = some;
  there = there;
  holds = rw (eq-eqb page page refl) (written_holds held sized.next sized.next_number sized.last sized.page);
}

pub written-other : (pages : Pages) (page q : ℕ) (bytes : List ℕ) → (q ≡ page → ⊥) → (with_bytes pages page bytes).at q ≡ pages.at q
written-other pages page q bytes differ = rw (ne_eqb q page differ) refl

-- a page with the same bytes holds the same
pub at-same : (size : ℕ) (pages after : Pages) (page : ℕ) (held : HeapPage) → after.at page ≡ pages.at page → IsAt size pages page held → IsAt size after page held
at-same size pages after page held same is = record {
  named = is.named;
  there = is.there;
  holds = subst (λ (bytes : List ℕ). HoldsRows bytes held) (sym same) is.holds;
}

-- a page holds one thing
pub at-one : (size width : ℕ) (pages : Pages) (page : ℕ) (p q : HeapPage) → IsAt size pages page p → IsAt width pages page q → p ≡ q
at-one size width pages page p q is also = holds_one (pages.at page) p q is.holds also.holds

-- a way over pages that stay
pub leads-same : (size : ℕ) (pages after : Pages) (from : ℕ) (links : List Link) (to : ℕ) → ((p : ℕ) → 0 < times p (pages_on links) → after.at p ≡ pages.at p) → IsWay size pages from links to → IsWay size after from links to
leads-same size pages after from [] to same leads = leads
leads-same size pages after from (link ∷ links) to same leads = (
  leads.0,
  at-same size pages after link.page link.held (same link.page (omega (arith, times-here link.page (pages_on links)))) leads.1,
  leads-same size pages after link.held.next links to (λ p some. same p (omega (arith, some, times-cons p link.page (pages_on links)))) leads.2,
)

-- a way goes along a part and then along the rest
pub leads-split : (size : ℕ) (pages : Pages) (from : ℕ) (a b : List Link) (to : ℕ) → IsWay size pages from (a ++ b) to → (mid : ℕ) × IsWay size pages from a mid × IsWay size pages mid b to
leads-split size pages from [] b to leads = (from, refl, leads)
leads-split size pages from (link ∷ a) b to leads =
    let rest = leads-split size pages link.held.next a b to leads.2 in
    (rest.0, (leads.0, leads.1, rest.1), rest.2)

pub leads-join : (size : ℕ) (pages : Pages) (from : ℕ) (a b : List Link) (mid to : ℕ) → IsWay size pages from a mid → IsWay size pages mid b to → IsWay size pages from (a ++ b) to
leads-join size pages from [] b mid to first then_ = subst (λ (n : ℕ). IsWay size pages n b to) (sym first) then_
leads-join size pages from (link ∷ a) b mid to first then_ =
    (first.0, first.1, leads-join size pages link.held.next a b mid to first.2 then_)

-- the way from a page on to the end is one
pub leads-one : (size width : ℕ) (pages : Pages) (from : ℕ) (links others : List Link) → IsWay size pages from links 0 → IsWay width pages from others 0 → links ≡ others
leads-one size width pages from [] [] leads also = refl
leads-one size width pages from [] (o ∷ os) leads also = absurd (omega (arith, leads, also.0, also.1.named))
leads-one size width pages from (l ∷ ls) [] leads also = absurd (omega (arith, also, leads.0, leads.1.named))
leads-one size width pages from (l ∷ ls) (o ∷ os) leads also =
    let page : l.page ≡ o.page = leads.0 ∙ sym also.0 in
    let held : l.held ≡ o.held = at-one size width pages o.page l.held o.held (subst (λ (p : ℕ). IsAt size pages p l.held) page leads.1) also.1 in
    let rest = leads-one size width pages o.held.next ls os (subst (λ (h : HeapPage). IsWay size pages h.next ls 0) held leads.2) also.2 in
    both (made page held) rest
  where
    made : l.page ≡ o.page → l.held ≡ o.held → l ≡ o
    made p q = λ i. record { page = p i; held = q i }

    both : l ≡ o → ls ≡ os → l ∷ ls ≡ o ∷ os
    both p q = λ i. p i ∷ q i

-- a page of a way is written anew and names where the way goes on
pub leads-relink : (size : ℕ) (pages : Pages) (from : ℕ) (a : List Link) (page : ℕ) (held : HeapPage) (b : List Link) (to : ℕ) → IsWay size pages from a page → IsWay size pages held.next b to
    → times page (pages_on a) ≡ 0 → times page (pages_on b) ≡ 0 → 0 < page → page < size → IsSized held
    → IsWay size (with_bytes pages page (page_bytes held)) from (a ++ link_of page held ∷ b) to
leads-relink size pages from a page held b to first then_ off_a off_b some there sized =
    let after = with_bytes pages page (page_bytes held) in
    leads-join size after from a (link_of page held ∷ b) page to
    (leads-same size pages after from a page (λ p some. written-other pages page p (page_bytes held) (λ e. absurd (omega (arith, subst (λ (q : ℕ). 0 < times q (pages_on a)) e some, off_a)))) first)
    (refl, at-written size pages page held some there sized, leads-same size pages after held.next b to (λ p some. written-other pages page p (page_bytes held) (λ e. absurd (omega (arith, subst (λ (q : ℕ). 0 < times q (pages_on b)) e some, off_b)))) then_)

-- the way of a chain, with pages that can be written, none twice
pub record IsRoute (size : ℕ) (pages : Pages) (first : ℕ) (links : List Link) : Type 0 where
  pub leads : IsWay size pages first links 0
  pub sized : AllSized links
  pub once : (p : ℕ) → times p (pages_on links) ≤ 1

pub sized-append : (a b : List Link) → AllSized a → AllSized b → AllSized (a ++ b)
sized-append [] b left right = right
sized-append (link ∷ a) b left right = (left.0, sized-append a b left.1 right)

pub sized-split : (a b : List Link) → AllSized (a ++ b) → AllSized a × AllSized b
sized-split [] b all = (tt, all)
sized-split (link ∷ a) b all = let rest = sized-split a b all.1 in ((all.0, rest.0), rest.1)

-- what stands at a link of a route
pub record Around (size : ℕ) (pages : Pages) (first : ℕ) (a : List Link) (link : Link) (b : List Link) : Type 0 where
  pub first_part : IsWay size pages first a link.page
  pub here : IsAt size pages link.page link.held
  pub rest : IsWay size pages link.held.next b 0
  pub sized_before : AllSized a
  pub sized_here : IsSized link.held
  pub sized_behind : AllSized b
  pub off_before : times link.page (pages_on a) ≡ 0
  pub off_behind : times link.page (pages_on b) ≡ 0

pub around : (size : ℕ) (pages : Pages) (first : ℕ) (a : List Link) (link : Link) (b : List Link) → IsRoute size pages first (a ++ link ∷ b) → Around size pages first a link b
around size pages first a link b route =
    let split = leads-split size pages first a (link ∷ b) 0 route.leads in
    let sized = sized-split a (link ∷ b) route.sized in
    let count = times-links link.page a link b ∙ ap (λ (t : Bool). times link.page (pages_on a) + (one_if t + times link.page (pages_on b))) (eq-eqb link.page link.page refl) in
    record {
      first_part = subst (λ (p : ℕ). IsWay size pages first a p) (sym split.2.0) split.1;
      here = split.2.1;
      rest = split.2.2;
      sized_before = sized.0;
      sized_here = sized.1.0;
      sized_behind = sized.1.1;
      off_before = omega (arith, count, route.once link.page);
      off_behind = omega (arith, count, route.once link.page);
    }

-- the page of a link is written anew, and names the same next page
pub route-update : (size : ℕ) (pages : Pages) (first : ℕ) (a : List Link) (link : Link) (b : List Link) (held : HeapPage) → IsRoute size pages first (a ++ link ∷ b) → held.next ≡ link.held.next → IsSized held
    → IsRoute size (with_bytes pages link.page (page_bytes held)) first (a ++ link_of link.page held ∷ b)
route-update size pages first a link b held route next sized =
    let at = around size pages first a link b route in
    record {
      leads = leads-relink size pages first a link.page held b 0 at.first_part (subst (λ (n : ℕ). IsWay size pages n b 0) (sym next) at.rest) at.off_before at.off_behind at.here.named at.here.there sized;
      sized = sized-append a (link_of link.page held ∷ b) at.sized_before (sized, at.sized_behind);
      once = λ p. omega (arith, route.once p, times-links p a link b, times-links p a (link_of link.page held) b);
    }

-- the rows of a part and of the rest
pub rows-append : (a b : List Link) → rows_of (a ++ b) ≡ rows_of a ++ rows_of b
rows-append a b = flat_map-append rows_on a b

pub rows-cons : (link : Link) (links : List Link) → rows_of (link ∷ links) ≡ rows_on link ++ rows_of links
rows-cons link links = flat_map-cons rows_on link links

pub rows-middle : (a : List Link) (link : Link) (b : List Link) → rows_of (a ++ link ∷ b) ≡ rows_of a ++ (rows_on link ++ rows_of b)
rows-middle a link b = rows-append a (link ∷ b) ∙ ap (λ (rows : List Placed). rows_of a ++ rows) (rows-cons link b)

-- the end of links is told by their pages
pub end-append : (first : ℕ) (a : List Link) (link : Link) (b : List Link) → end_of first (a ++ link ∷ b) ≡ end_of link.page b
end-append first [] link b = refl
end-append first (l ∷ a) link b = end-append l.page a link b

-- links that are not none have a last one
pub last_link : (first : ℕ) (link : Link) (links : List Link) → (a : List Link) × (last : Link) × (link ∷ links ≡ a ++ last ∷ []) × (end_of first (link ∷ links) ≡ last.page)
last_link first link [] = ([], link, refl, refl)
last_link first link (next ∷ links) =
    let rest = last_link link.page next links in
    (link ∷ rest.0, rest.1, ap (λ l. link ∷ l) rest.2, rest.3)

-- the first link of a way is that of its first page
pub first_link : (size : ℕ) (pages : Pages) (first : ℕ) (links : List Link) (head : HeapPage) → IsWay size pages first links 0 → IsAt size pages first head → (rest : List Link) × (links ≡ link_of first head ∷ rest)
first_link size pages first [] head leads at = absurd (omega (arith, leads, at.named))
first_link size pages first (link ∷ links) head leads at =
    let held : link.held ≡ head = at-one size size pages first link.held head (subst (λ (p : ℕ). IsAt size pages p link.held) leads.0 leads.1) at in
    (links, ap (λ (l : Link). l ∷ links) (made leads.0 held))
  where
    made : link.page ≡ first → link.held ≡ head → link ≡ link_of first head
    made p q = λ i. record { page = p i; held = q i }
