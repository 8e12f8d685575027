-- Routes along chains, while pages leave them.
use Rattle.heap_file.proofs.Positions.{position-at, position-none}
use Rattle.std.proofs.lemmas.Bool.{ne_eqb}
use Rattle.std.proofs.Common.{◌≡◌, ◌≢◌, ◌∙◌, ◌<◌, ◌≤◌, ◌-◌, ◌++◌, ◌&&◌, not, eqb, ℕ, zero, suc, Bool, true, false, List, [], ◌∷◌, length, map, get_or, Option, Some, None, Result, Ok, Err, refl, sym, ap, subst, arith, inl, inr, eq-eqb}
use Rattle.std.specs.Prelude.{IfSome, OnOk}
use Rattle.std.specs.List.{AllByRecursion, remove}
use Rattle.std.proofs.lemmas.Bool.Decides.{eqb_tells}
use Rattle.std.proofs.lemmas.List.{get_or_default, length-append, length-map, map-append}
use Rattle.retro_base.specs.declared.refusal.Refusal.{Refusal}
use Rattle.pager.specs.Pages.{Pages, broken, with_bytes}
use Rattle.pager.specs.Root.{free_bytes, freed, in_front, is_root, root_bytes, root_in}
use Rattle.pager.specs.Stop.{Allowed}
use Rattle.pager.specs.declared.root.Root.{Root}
use Rattle.pager.specs.declared.stop.Stop.{Stop}
use Rattle.heap_file.specs.declared.chain.Link.{Link}
use Rattle.heap_file.specs.declared.page.HeapPage.{HeapPage}
use Rattle.heap_file.specs.Chain.{IsAt, IsWay, StandsIn, met}
use Rattle.heap_file.specs.HeapPage.{IsHeapPage, IsNarrow, page_bytes}
use Rattle.heap_file.specs.Route.{IsPassed, IsRoute, NextStays, PassesOver, left}
use Rattle.heap_file.specs.Work.{place_of, removed, without}
use Rattle.heap_file.proofs.Heads.{at-other, at-own}
use Rattle.heap_file.proofs.Ones.{differ}
use Rattle.heap_file.proofs.Packing.{holds_one}
use Rattle.heap_file.proofs.Ways.{leads-more}

-- the numbers of the pages of links
abbrev pub numbers : List Link → List ℕ
numbers links = map (λ (link : Link). link.page) links

-- a way along pages by their numbers
abbrev pub Way : ℕ → Pages → ℕ → List ℕ → ℕ → Type 0
Way size pages from [] to = from ≡ to
Way size pages from (n ∷ ns) to = (n ≡ from) × ((held : HeapPage) × IsAt size pages n held × Way size pages held.next ns to)

-- a page holds one thing
at-one : (size : ℕ) (pages : Pages) (page : ℕ) (p q : HeapPage) → IsAt size pages page p → IsAt size pages page q → p ≡ q
at-one size pages page p q is also = holds_one (pages.at page) p q is.holds also.holds

pub way-of : (size : ℕ) (pages : Pages) (from : ℕ) (links : List Link) (to : ℕ) → IsWay size pages from links to → Way size pages from (numbers links) to
way-of size pages from [] to leads = leads
way-of size pages from (link ∷ links) to leads =
    (leads.0, (link.held, leads.1, way-of size pages link.held.next links to leads.2))

pub way-links : (size : ℕ) (pages : Pages) (from : ℕ) (ns : List ℕ) (to : ℕ) → Way size pages from ns to → (links : List Link) × IsWay size pages from links to × (ns ≡ numbers links)
way-links size pages from [] to way = ([], way, refl)
way-links size pages from (n ∷ ns) to way =
    let rest = way-links size pages way.1.0.next ns to way.1.2 in
    let link : Link = record { page = n; held = way.1.0 } in
    (link ∷ rest.0, (way.0, way.1.1, rest.1), ap (λ l. n ∷ l) rest.2)

pub way-split : (size : ℕ) (pages : Pages) (from : ℕ) (xs ys : List ℕ) (to : ℕ) → Way size pages from (xs ++ ys) to → (mid : ℕ) × Way size pages from xs mid × Way size pages mid ys to
way-split size pages from [] ys to way = (from, refl, way)
way-split size pages from (x ∷ xs) ys to way =
    let rest = way-split size pages way.1.0.next xs ys to way.1.2 in
    (rest.0, (way.0, (way.1.0, way.1.1, rest.1)), rest.2)

pub way-join : (size : ℕ) (pages : Pages) (from : ℕ) (xs ys : List ℕ) (mid to : ℕ) → Way size pages from xs mid → Way size pages mid ys to → Way size pages from (xs ++ ys) to
way-join size pages from [] ys mid to first behind = subst (λ (n : ℕ). Way size pages n ys to) (sym first) behind
way-join size pages from (x ∷ xs) ys mid to first behind =
    (first.0, (first.1.0, first.1.1, way-join size pages first.1.0.next xs ys mid to first.1.2 behind))

-- the way from a page on to the end is one
pub way-one : (size : ℕ) (pages : Pages) (from : ℕ) (xs ys : List ℕ) → Way size pages from xs 0 → Way size pages from ys 0 → xs ≡ ys
way-one size pages from [] [] way also = refl
way-one size pages from [] (y ∷ ys) way also = absurd (omega (arith, way, also.0, also.1.1.named))
way-one size pages from (x ∷ xs) [] way also = absurd (omega (arith, also, way.0, way.1.1.named))
way-one size pages from (x ∷ xs) (y ∷ ys) way also =
    let page : x ≡ y = way.0 ∙ sym also.0 in
    let held : way.1.0 ≡ also.1.0 = at-one size pages y way.1.0 also.1.0 (subst (λ (p : ℕ). IsAt size pages p way.1.0) page way.1.1) also.1.1 in
    let rest : xs ≡ ys = way-one size pages also.1.0.next xs ys (subst (λ (h : HeapPage). Way size pages h.next xs 0) held way.1.2) also.1.2 in
    cc (page, rest)

-- a way to the end comes to no page twice
pub way-again : (size : ℕ) (pages : Pages) (n : ℕ) (whole : List ℕ) (from : ℕ) (ns : List ℕ) → Way size pages n whole 0 → length ns < length whole → Way size pages from ns 0 → AllByRecursion (λ m. m ≢ n) ns
way-again size pages n whole from [] all lt way = tt
way-again size pages n whole from (m ∷ ns) all lt way = (
  λ e. omega (arith, lt, ap (λ (l : List ℕ). length l) (way-one size pages n whole (m ∷ ns) all (e, (way.1.0, way.1.1, way.1.2)))),
  way-again size pages n whole way.1.0.next ns all (omega arith) way.1.2,
)

-- the pages behind a page, and those before it, are others
pub way-behind : (size : ℕ) (pages : Pages) (from n : ℕ) (ns : List ℕ) → Way size pages from (n ∷ ns) 0 → AllByRecursion (λ m. m ≢ n) ns
way-behind size pages from n ns way =
    way-again size pages n (n ∷ ns) way.1.0.next ns (refl, way.1) (omega arith) way.1.2

all-at : (P : ℕ → Type 0) (xs : List ℕ) (n : ℕ) (ns : List ℕ) → AllByRecursion P (xs ++ n ∷ ns) → P n
all-at P [] n ns all = all.0
all-at P (x ∷ xs) n ns all = all-at P xs n ns all.1

pub way-before : (size : ℕ) (pages : Pages) (from : ℕ) (xs : List ℕ) (n : ℕ) (ns : List ℕ) → Way size pages from (xs ++ n ∷ ns) 0 → AllByRecursion (λ m. m ≢ n) xs
way-before size pages from [] n ns way = tt
way-before size pages from (x ∷ xs) n ns way = (
  λ e. all-at (λ m. m ≢ x) xs n ns (way-behind size pages from x (xs ++ n ∷ ns) way) (sym e),
  way-before size pages way.1.0.next xs n ns way.1.2,
)

second : (P : ℕ → Type 0) (front : List ℕ) (previous page : ℕ) (behind : List ℕ) → AllByRecursion P (front ++ previous ∷ page ∷ behind) → P page
second P [] previous page behind all = all.1.0
second P (x ∷ front) previous page behind all = second P front previous page behind all.1

way-before-second : (size : ℕ) (pages : Pages) (from : ℕ) (front : List ℕ) (previous page : ℕ) (behind : List ℕ) → Way size pages from (front ++ previous ∷ page ∷ behind) 0 → AllByRecursion (λ m. m ≢ page) front
way-before-second size pages from [] previous page behind way = tt
way-before-second size pages from (x ∷ front) previous page behind way = (
  λ e. second (λ m. m ≢ x) front previous page behind (way-behind size pages from x (front ++ previous ∷ page ∷ behind) way) (sym e),
  way-before-second size pages way.1.0.next front previous page behind way.1.2,
)

-- a way over pages that name the same next pages still
pub way-kept : (size : ℕ) (pages after : Pages) (from : ℕ) (ns : List ℕ) (to : ℕ) → AllByRecursion (NextStays size pages after) ns → Way size pages from ns to → Way size after from ns to
way-kept size pages after from [] to stay way = way
way-kept size pages after from (n ∷ ns) to stay way =
    let now = stay.0 way.1.0 way.1.1 in
    (way.0, (now.0, now.1, subst (λ (next : ℕ). Way size after next ns to) (sym now.2) (way-kept size pages after way.1.0.next ns to stay.1 way.1.2)))

every : (P : ℕ → Type 0) (ns : List ℕ) → ((n : ℕ) → P n) → AllByRecursion P ns
every P [] each = tt
every P (n ∷ ns) each = (each n, every P ns each)

both : (P Q R : ℕ → Type 0) (ns : List ℕ) → ((n : ℕ) → P n → Q n → R n) → AllByRecursion P ns → AllByRecursion Q ns → AllByRecursion R ns
both P Q R [] each p q = tt
both P Q R (n ∷ ns) each p q = (each n p.0 q.0, both P Q R ns each p.1 q.1)

-- a route as a way
pub route-way : (size : ℕ) (pages : Pages) (first : ℕ) (route : List ℕ) → IsRoute size pages first route → Way size pages first route 0
route-way size pages first route is =
    subst (λ (ns : List ℕ). Way size pages first ns 0) (sym is.2) (way-of size pages first is.0 0 is.1.2)

pub route-few : (size : ℕ) (pages : Pages) (first : ℕ) (route : List ℕ) → IsRoute size pages first route → length route ≤ size
route-few size pages first route is = omega (arith, is.1.1, ap (λ (l : List ℕ). length l) is.2, length-map is.0 (λ (link : Link). link.page))

pub way-route : (size : ℕ) (pages : Pages) (first : ℕ) (route : List ℕ) → 1 ≤ length route → length route ≤ size → Way size pages first route 0 → IsRoute size pages first route
way-route size pages first route some few way =
    let found = way-links size pages first route 0 way in
    let long : length route ≡ length found.0 = ap (λ (l : List ℕ). length l) found.2 ∙ length-map found.0 (λ (link : Link). link.page) in
    (found.0, (omega (arith, some, long), omega (arith, few, long), found.1), found.2)

route-some : (size : ℕ) (pages : Pages) (first : ℕ) (route : List ℕ) → IsRoute size pages first route → 1 ≤ length route
route-some size pages first route is = omega (arith, is.1.0, ap (λ (l : List ℕ). length l) is.2, length-map is.0 (λ (link : Link). link.page))

-- a route stays where each page names the same next page
pub route-stays : (size : ℕ) (pages after : Pages) (first : ℕ) (route : List ℕ) → ((page : ℕ) → NextStays size pages after page) → IsRoute size pages first route → IsRoute size after first route
route-stays size pages after first route stays is =
    way-route size after first route (route-some size pages first route is) (route-few size pages first route is)
    (way-kept size pages after first route 0 (every (NextStays size pages after) route stays) (route-way size pages first route is))

-- the route without a page that is passed over
pub route-passed : (size : ℕ) (pages after : Pages) (first previous page next : ℕ) (held : HeapPage) (front behind : List ℕ) → IsRoute size pages first (front ++ previous ∷ page ∷ behind) → IsAt size pages page held → held.next ≡ next → PassesOver size pages after previous page next → IsRoute size after first (front ++ previous ∷ behind)
route-passed size pages after first previous page next held front behind is at names passes =
    let way = route-way size pages first (front ++ previous ∷ page ∷ behind) is in
    let split = way-split size pages first front (previous ∷ page ∷ behind) 0 way in
    let stop : Way size pages split.0 (previous ∷ page ∷ behind) 0 = split.2 in
    let there : Way size pages stop.1.0.next (page ∷ behind) 0 = stop.1.2 in
    let one : there.1.0 ≡ held = at-one size pages page there.1.0 held there.1.1 at in
    let goes : there.1.0.next ≡ next = ap (λ (h : HeapPage). h.next) one ∙ names in
    let off_page = way-behind size pages stop.1.0.next page behind there in
    let off_previous = way-behind size pages split.0 previous (page ∷ behind) stop in
    let before_previous = way-before size pages first front previous (page ∷ behind) way in
    let before_page = way-before-second size pages first front previous page behind way in
    let now = passes.named in
    let front_way = way-kept size pages after first front split.0 (both (λ m. m ≢ previous) (λ m. m ≢ page) (NextStays size pages after) front passes.others before_previous before_page) split.1 in
    let behind_way = way-kept size pages after there.1.0.next behind 0 (both (λ m. m ≢ previous) (λ m. m ≢ page) (NextStays size pages after) behind passes.others off_previous.1 off_page) there.1.2 in
    let tail : Way size after split.0 (previous ∷ behind) 0 = (stop.0, (now.0, now.1, subst (λ (n : ℕ). Way size after n behind 0) (goes ∙ sym now.2) behind_way)) in
    let few = route-few size pages first (front ++ previous ∷ page ∷ behind) is in
    way-route size after first (front ++ previous ∷ behind)
    (omega (arith, length-append front (previous ∷ behind)))
    (omega (arith, few, length-append front (previous ∷ page ∷ behind), length-append front (previous ∷ behind)))
    (way-join size after first front (previous ∷ behind) split.0 0 front_way tail)

-- a link behind the first stands behind another page
behind-some : (first : ℕ) (links : List Link) (k page : ℕ) → k < length links → ((d : Link) → (get_or links k d).page ≡ page) → (front : List ℕ) × (previous : ℕ) × (behind : List ℕ) × (first ∷ numbers links ≡ front ++ previous ∷ page ∷ behind)
behind-some first [] k page lt is = absurd (omega arith)
behind-some first (link ∷ links) zero page lt is =
    ([], first, numbers links, ap (λ (p : ℕ). first ∷ p ∷ numbers links) (is link))
behind-some first (link ∷ links) (suc k) page lt is =
    let rest = behind-some link.page links k page (omega arith) is in
    (first ∷ rest.0, rest.1, rest.2, ap (λ (ns : List ℕ). first ∷ ns) rest.3)

-- a page that stands behind no other on the route is not in the chain
pub off-route : (size : ℕ) (pages : Pages) (first : ℕ) (route : List ℕ) (page : ℕ) → page ≢ first → IsRoute size pages first route → IsPassed route page None → met size pages first page (Err (broken page))
off-route size pages first route page apart is none =
    inr (is.0, is.1, refl, position-none (λ (link : Link). eqb link.page page) is.0 (λ k d lt. ne_eqb (get_or is.0 k d).page page (among is.0 is.1.2 is.2 k d lt)))
  where
    among : (links : List Link) → IsWay size pages first links 0 → route ≡ numbers links → (k : ℕ) (d : Link) → k < length links → (get_or links k d).page ≡ page → ⊥
    among [] leads same k d lt e = absurd (omega arith)
    among (link ∷ links) leads same zero d lt e = apart (sym e ∙ leads.0)
    among (link ∷ links) leads same (suc k) d lt e =
        let found = behind-some link.page links k page (omega arith) (λ (other : Link). ap (λ (l : Link). l.page) (get_or_default links k other d (omega arith)) ∙ e) in
        none found.0 found.1 found.2 (same ∙ found.3)

-- links along a route, parted where the route is
pub record Parted (links : List Link) (front : List ℕ) (previous page : ℕ) (behind : List ℕ) : Type 0 where
  pub before : List Link
  pub last : Link
  pub here : Link
  pub rest : List Link
  pub links_are : links ≡ before ++ last ∷ here ∷ rest
  pub front_are : numbers before ≡ front
  pub last_is : last.page ≡ previous
  pub here_is : here.page ≡ page

parted : (links : List Link) (front : List ℕ) (previous page : ℕ) (behind : List ℕ) → numbers links ≡ front ++ previous ∷ page ∷ behind → Parted links front previous page behind
parted [] [] previous page behind e = absurd cc
parted [] (x ∷ front) previous page behind e = absurd cc
parted (l ∷ []) [] previous page behind e = absurd cc
parted (l ∷ m ∷ links) [] previous page behind e = record {
  before = [];
  last = l;
  here = m;
  rest = links;
  links_are = refl;
  front_are = refl;
  last_is = cc;
  here_is = cc;
}
parted (l ∷ links) (x ∷ front) previous page behind e =
    let head : l.page ≡ x = cc in
    let tail : numbers links ≡ front ++ previous ∷ page ∷ behind = cc in
    let rest = parted links front previous page behind tail in
    record {
      before = l ∷ rest.before;
      last = rest.last;
      here = rest.here;
      rest = rest.rest;
      links_are = ap (λ (ls : List Link). l ∷ ls) rest.links_are;
      front_are = cc (head, rest.front_are);
      last_is = rest.last_is;
      here_is = rest.here_is;
    }

-- what stands at two places that follow each other
at-last : (before : List Link) (last here : Link) (rest : List Link) (d : Link) → get_or (before ++ last ∷ here ∷ rest) (length before) d ≡ last
at-last [] last here rest d = refl
at-last (link ∷ before) last here rest d = at-last before last here rest d

at-here : (before : List Link) (last here : Link) (rest : List Link) (d : Link) → get_or (before ++ last ∷ here ∷ rest) (suc (length before)) d ≡ here
at-here [] last here rest d = refl
at-here (link ∷ before) last here rest d = at-here before last here rest d

-- a page before another place is another
off-before : (page : ℕ) (before : List Link) (last here : Link) (rest : List Link) → AllByRecursion (λ m. m ≢ page) (numbers before) → last.page ≢ page → (k : ℕ) (d : Link) → k < suc (length before) → (get_or (before ++ last ∷ here ∷ rest) k d).page ≡ page → ⊥
off-before page [] last here rest off other zero d lt e = other e
off-before page [] last here rest off other (suc k) d lt e = absurd (omega arith)
off-before page (link ∷ before) last here rest off other zero d lt e = off.0 e
off-before page (link ∷ before) last here rest off other (suc k) d lt e =
    off-before page before last here rest off.1 other k d (omega arith) e

-- a page on the route is met behind the one before it
pub on-route : (size : ℕ) (pages : Pages) (first previous page : ℕ) (front behind : List ℕ) → IsRoute size pages first (front ++ previous ∷ page ∷ behind) → (held : HeapPage) × met size pages first page (Ok (previous, held))
on-route size pages first previous page front behind is =
    let way = route-way size pages first (front ++ previous ∷ page ∷ behind) is in
    let split = way-split size pages first front (previous ∷ page ∷ behind) 0 way in
    let stop : Way size pages split.0 (previous ∷ page ∷ behind) 0 = split.2 in
    let parts = parted is.0 front previous page behind (sym is.2) in
    let off : AllByRecursion (λ m. m ≢ page) (numbers parts.before) = subst (λ (ns : List ℕ). AllByRecursion (λ m. m ≢ page) ns) (sym parts.front_are) (way-before-second size pages first front previous page behind way) in
    let other : parts.last.page ≢ page = λ e. (way-behind size pages split.0 previous (page ∷ behind) stop).0 (sym e ∙ parts.last_is) in
    let links = parts.before ++ parts.last ∷ parts.here ∷ parts.rest in
    let less : suc (length parts.before) - 1 ≡ length parts.before = omega arith in
    let stands : StandsIn links page previous parts.here.held = record {
      place = suc (length parts.before);
      first = position-at (λ (link : Link). eqb link.page page) links (suc (length parts.before)) parts.here
          (omega (arith, length-append parts.before (parts.last ∷ parts.here ∷ parts.rest)))
          (eq-eqb (get_or links (suc (length parts.before)) parts.here).page page (ap (λ (l : Link). l.page) (at-here parts.before parts.last parts.here parts.rest parts.here) ∙ parts.here_is))
          (λ k below. ne_eqb (get_or links k parts.here).page page (off-before page parts.before parts.last parts.here parts.rest off other k parts.here below));
      here = λ d. at-here parts.before parts.last parts.here parts.rest d ∙ link_is parts.here page parts.here_is;
      behind = inr (omega arith, λ d. ap (λ (n : ℕ). (get_or links n d).page) less ∙ ap (λ (l : Link). l.page) (at-last parts.before parts.last parts.here parts.rest d) ∙ parts.last_is);
    } in
    (parts.here.held, (is.0, is.1, subst (λ (ls : List Link). StandsIn ls page previous parts.here.held) (sym parts.links_are) stands))
  where
    link_is : (link : Link) (page : ℕ) → link.page ≡ page → link ≡ record { page = page; held = link.held }
    link_is link page e = λ i. record { page = e i; held = link.held }

-- a page that was written anew names the next page that it named
pub next-written : (size : ℕ) (pages : Pages) (page : ℕ) (held now : HeapPage) → IsAt size pages page held → IsNarrow now → IsHeapPage now → now.next ≡ held.next → (other : ℕ) → NextStays size pages (with_bytes pages page (page_bytes now)) other
next-written size pages page held now at narrow is same other = λ was at_other.
    elim (eqb_tells other page) [
      | inl here ↦
          let one : was ≡ held = at-one size pages page was held (subst (λ (p : ℕ). IsAt size pages p was) here.1 at_other) at in
          (now, subst (λ (p : ℕ). IsAt size (with_bytes pages page (page_bytes now)) p now) (sym here.1) (at-own size pages page now at.named at.there narrow is), same ∙ ap (λ (h : HeapPage). h.next) (sym one))
      | inr apart ↦ (was, at-other size pages other page (page_bytes now) was apart.1 at_other, refl)
    ]

-- an answer has one value
ok-is : {A : Type 0} (r : Result A Refusal) (x y : A) → r ≡ Ok x → r ≡ Ok y → x ≡ y
ok-is r x y p q = cc (p, q)

-- freeing a page leaves what each other page holds
pub at-freed : (size : ℕ) (pages after : Pages) (u : Unit {0}) (page other : ℕ) (held : HeapPage) → freed size pages page ≡ Ok (u, after) → other ≢ page → IsAt size pages other held → IsAt size after other held
at-freed size pages after u page other held is apart at = from-root (root_in size pages) refl
  where
    zero-differs : other ≢ 0
    zero-differs e = omega (arith, e, at.named)

    step : (root : Root) → root_in size pages ≡ Ok root → (b : Bool) → is_root size (in_front page root) ≡ b → IsAt size after other held
    step root e true f =
        let same : after ≡ with_bytes (with_bytes pages page (free_bytes root.first_free)) 0 (root_bytes (in_front page root)) =
        ap (λ (p : Unit {0} × Pages). p.1) (ok-is (freed size pages page) (u, after) (tt, with_bytes (with_bytes pages page (free_bytes root.first_free)) 0 (root_bytes (in_front page root))) is (rw (e, f) refl)) in
        subst (λ (p : Pages). IsAt size p other held) (sym same)
        (at-other size (with_bytes pages page (free_bytes root.first_free)) other 0 (root_bytes (in_front page root)) held zero-differs
        (at-other size pages other page (free_bytes root.first_free) held apart at))
    step root e false f = differ (u, after) (broken page) (sym is ∙ rw (e, f) refl)

    from-root : (r : Result Root Refusal) → root_in size pages ≡ r → IsAt size after other held
    from-root (Ok root) e = step root e (is_root size (in_front page root)) refl
    from-root (Err why) e = differ (u, after) why (sym is ∙ rw e refl)

-- a page that was passed over, and freed
pub passed-freed : {F : Type 0} (r : Result (Unit {0}) (Stop F)) (size : ℕ) (pages mid after : Pages) (first previous page next : ℕ) (before linked : HeapPage) → Allowed (λ u. (u, after)) (λ a. freed size mid page ≡ a) r → previous ≢ page → IsAt size pages previous before → linked.next ≡ next → IsNarrow linked → IsHeapPage linked
    → ((other : ℕ) → NextStays size (with_bytes pages previous (page_bytes linked)) mid other) → OnOk r (PassesOver size pages after previous page next)
passed-freed (Ok u) size pages mid after first previous page next before linked freed_is apart at names narrow is stays =
    let linked_pages = with_bytes pages previous (page_bytes linked) in
    let own = stays previous linked (at-own size pages previous linked at.named at.there narrow is) in
    record {
      named = (own.0, at-freed size mid after u page previous own.0 freed_is apart own.1, own.2 ∙ names);
      others = λ other off_previous off_page was at_other.
          let now = stays other was (at-other size pages other previous (page_bytes linked) was off_previous at_other) in
          (now.0, at-freed size mid after u page other now.0 freed_is off_page now.1, now.2);
    }
passed-freed (Err e) size pages mid after first previous page next before linked freed_is apart at names narrow is stays = tt

-- two places of a list that follow each other, and the list without the second
pub pass-at : (xs : List ℕ) (k d : ℕ) → suc k < length xs → (front : List ℕ) × (behind : List ℕ) × (xs ≡ front ++ get_or xs k d ∷ get_or xs (suc k) d ∷ behind) × (remove xs (suc k) ≡ front ++ get_or xs k d ∷ behind)
pass-at [] k d lt = absurd (omega arith)
pass-at (x ∷ []) k d lt = absurd (omega arith)
pass-at (x ∷ y ∷ xs) zero d lt = ([], xs, refl, refl)
pass-at (x ∷ y ∷ xs) (suc k) d lt =
    let rest = pass-at (y ∷ xs) k d (omega arith) in
    (x ∷ rest.0, rest.1, ap (λ (l : List ℕ). x ∷ l) rest.2, ap (λ (l : List ℕ). x ∷ l) rest.3)

-- a page that stands behind another stands at a place
pub second-at : (front : List ℕ) (previous page : ℕ) (behind : List ℕ) (d : ℕ) → get_or (front ++ previous ∷ page ∷ behind) (suc (length front)) d ≡ page
second-at [] previous page behind d = refl
second-at (x ∷ front) previous page behind d = second-at front previous page behind d

-- a page of a route differs from the one before it
pub route-apart : (size : ℕ) (pages : Pages) (first previous page : ℕ) (front behind : List ℕ) → IsRoute size pages first (front ++ previous ∷ page ∷ behind) → previous ≢ page
route-apart size pages first previous page front behind is =
    let way = route-way size pages first (front ++ previous ∷ page ∷ behind) is in
    let split = way-split size pages first front (previous ∷ page ∷ behind) 0 way in
    λ e. (way-behind size pages split.0 previous (page ∷ behind) split.2).0 (sym e)

-- the page that was found at a place, the one before it, and the list without it
pub passed-at : (route : List ℕ) (place page previous : ℕ) (others : List ℕ) → 1 ≤ place → place < length route → page ≡ get_or route place page → previous ≡ get_or route (place - 1) previous → others ≡ remove route place → IsPassed route page (Some (previous, others))
passed-at route zero page previous others some lt is before gone = absurd (omega arith)
passed-at route (suc k) page previous others some lt is before gone =
    let less : suc k - 1 ≡ k = omega arith in
    let found = pass-at route k page lt in
    let one : get_or route k page ≡ previous = get_or_default route k page previous (omega arith) ∙ sym (subst (λ (n : ℕ). previous ≡ get_or route n previous) less before) in
    (found.0, found.1, found.2 ∙ ap (λ (p : ℕ). found.0 ++ p ∷ get_or route (suc k) page ∷ found.1) one ∙ ap (λ (p : ℕ). found.0 ++ previous ∷ p ∷ found.1) (sym is), gone ∙ found.3 ∙ ap (λ (p : ℕ). found.0 ++ p ∷ found.1) one)

-- a page that was found at no place behind the first
pub passed-none : (route : List ℕ) (page : ℕ) → ((k d : ℕ) → 1 ≤ k → k < length route → get_or route k d ≡ page → ⊥) → IsPassed route page None
passed-none route page none = λ front previous behind e.
    none (suc (length front)) page (omega arith) (omega (arith, ap (λ (l : List ℕ). length l) e, length-append front (previous ∷ page ∷ behind)))
    (ap (λ (l : List ℕ). get_or l (suc (length front)) page) e ∙ second-at front previous page behind page)

-- one page more of a route
pub numbers-push : (route : List ℕ) (links : List Link) (link : Link) → route ≡ numbers links → route ++ link.page ∷ [] ≡ numbers (links ++ link ∷ [])
numbers-push route links link is =
    ap (λ (l : List ℕ). l ++ link.page ∷ []) is ∙ sym (map-append (λ (l : Link). l.page) links (link ∷ []))

-- the route that was walked to its end
pub walked : (size : ℕ) (pages : Pages) (first page : ℕ) (held : HeapPage) (route : List ℕ) (links : List Link) → IsWay size pages first links page → route ≡ numbers links → IsAt size pages page held → held.next ≡ 0 → length route < size → IsRoute size pages first (route ++ page ∷ [])
walked size pages first page held route links leads is at end few =
    let one : Link = record { page = page; held = held } in
    let long : length route ≡ length links = ap (λ (l : List ℕ). length l) is ∙ length-map links (λ (link : Link). link.page) in
    (links ++ one ∷ [], (omega (arith, length-append links (one ∷ [])), omega (arith, few, long, length-append links (one ∷ [])), subst (λ (to : ℕ). IsWay size pages first (links ++ one ∷ []) to) end (leads-more size pages first page held links leads at)), numbers-push route links one is)

-- a page that leaves its chain is not the first
pub leaving : (page first : ℕ) (b : Bool) → (not (eqb page first) && b) ≡ true → page ≢ first
leaving page first b h = λ e. clash (sym (ap (λ (t : Bool). not t && b) (eq-eqb page first e)) ∙ h)
  where
    clash : false ≡ true → ⊥
    clash e = absurd cc

-- a page that is then empty leaves its chain
pub removed-left : (size : ℕ) (pages : Pages) (first page number place next : ℕ) (held : HeapPage) → IsAt size pages page held → place_of number held.entries ≡ Some place → held.next ≡ next → (not (eqb page first) && eqb (length (without held place).entries) 0) ≡ true
    → (a : Result (Unit {0} × Pages) Refusal) → left size pages first page next a → removed size pages first page number a
removed-left size pages first page number place next held at is names leaves a h =
    go a (subst (λ (n : ℕ). left size pages first page n a) (sym names) h)
  where
    go : (a : Result (Unit {0} × Pages) Refusal) → left size pages first page held.next a → removed size pages first page number a
    go (Ok y) h = (held, at, (place, is, rw leaves h))
    go (Err why) h = inr (held, at, inr (place, is, rw leaves h))

-- a route that is known stays where each page names the same next page
pub route-kept : (size : ℕ) (pages after : Pages) (first : ℕ) (known : Option (List ℕ)) → ((page : ℕ) → NextStays size pages after page) → IfSome known (IsRoute size pages first) → IfSome known (IsRoute size after first)
route-kept size pages after first None stays is = tt
route-kept size pages after first (Some route) stays is = route-stays size pages after first route stays is
