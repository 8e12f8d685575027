-- The pages of a chain determine what is answered of it.
use Rattle.heap_file.proofs.Positions.{some-is, some-none}
use Rattle.std.proofs.Common.{◌≡◌, ◌<◌, ◌≤◌, ◌-◌, ◌∙◌, ◌⊎◌, ℕ, zero, suc, List, [], ◌∷◌, length, get_or, Ok, Err, inl, inr, refl, sym, ap, arith, subst, length-append, None}
use Rattle.std.proofs.lemmas.Bool.{cases_lt}
use Rattle.std.proofs.lemmas.Bool.Decides.{eqb_tells}
use Rattle.retro_base.specs.declared.refusal.Refusal.{Refusal}
use Rattle.pager.specs.Pages.{Pages, broken}
use Rattle.heap_file.specs.declared.page.Entry.{Entry}
use Rattle.heap_file.specs.declared.page.HeapPage.{HeapPage}
use Rattle.heap_file.specs.declared.chain.Link.{Link}
use Rattle.heap_file.specs.Chain.{chain, IsAt, IsWay, met, StandsIn, Stops, link_place}
use Rattle.heap_file.specs.Laws.{IsOne}
use Rattle.heap_file.specs.Work.{place_in, renamed, unlinked, place_of}
use Rattle.heap_file.proofs.Ones.{appended-one, differ, either-one, next-one, only-one, page-one}
use Rattle.heap_laws.specs.Laws.{ChainAnswersAreOne}
use Rattle.heap_laws.specs.Store.{times}
use Rattle.heap_laws.proofs.Counts.{keyed-map, keyed-other, keyed-split, pigeons}
use Rattle.heap_laws.proofs.Reading.{chain-never, Same}
use Rattle.heap_laws.proofs.Routes.{at-one, leads-one, leads-split, link_of, pages_on, times-here}

-- a page that is none of a heap's
abbrev Unread : ℕ → Pages → ℕ → Type 0
Unread size pages page = (held : HeapPage) → IsAt size pages page held → ⊥

-- the pages of two ways from one page on are the same
same-page : (size : ℕ) (pages : Pages) (from : ℕ) (l o : Link) → l.page ≡ from → o.page ≡ from → IsAt size pages l.page l.held → IsAt size pages o.page o.held → l.held ≡ o.held
same-page size pages from l o p q at also =
    at-one size size pages from l.held o.held (subst (λ (n : ℕ). IsAt size pages n l.held) p at) (subst (λ (n : ℕ). IsAt size pages n o.held) q also)

-- ways of one length end at one page
same-end : (size : ℕ) (pages : Pages) (from : ℕ) (links others : List Link) (a b : ℕ) → IsWay size pages from links a → IsWay size pages from others b → length links ≡ length others → a ≡ b
same-end size pages from [] [] a b leads also long = sym leads ∙ also
same-end size pages from [] (o ∷ os) a b leads also long = absurd (omega (arith, long))
same-end size pages from (l ∷ ls) [] a b leads also long = absurd (omega (arith, long))
same-end size pages from (l ∷ ls) (o ∷ os) a b leads also long =
    let held = same-page size pages from l o leads.0 also.0 leads.1 also.1 in
    same-end size pages o.held.next ls os a b (subst (λ (h : HeapPage). IsWay size pages h.next ls a) held leads.2) also.2 (omega (arith, long))

-- a shorter way goes on
goes-on : (size : ℕ) (pages : Pages) (from : ℕ) (links longer : List Link) (a b : ℕ) → IsWay size pages from links a → IsWay size pages from longer b → length links < length longer → Unread size pages a → ⊥
goes-on size pages from [] [] a b leads also short unread = omega (arith, short)
goes-on size pages from [] (o ∷ os) a b leads also short unread = unread o.held (subst (λ (p : ℕ). IsAt size pages p o.held) (also.0 ∙ leads) also.1)
goes-on size pages from (l ∷ ls) [] a b leads also short unread = omega (arith, short)
goes-on size pages from (l ∷ ls) (o ∷ os) a b leads also short unread =
    let held = same-page size pages from l o leads.0 also.0 leads.1 also.1 in
    goes-on size pages o.held.next ls os a b (subst (λ (h : HeapPage). IsWay size pages h.next ls a) held leads.2) also.2 (omega (arith, short)) unread

-- a way to a page that is none of a heap's comes to no page twice
never-twice : (size : ℕ) (pages : Pages) (from : ℕ) (links : List Link) (to : ℕ) → IsWay size pages from links to → Unread size pages to → (p : ℕ) → times p (pages_on links) ≤ 1
never-twice size pages from [] to leads unread p = omega arith
never-twice size pages from (link ∷ links) to leads unread p =
    elim (eqb_tells link.page p) [
      | inl same ↦ first (times link.page (pages_on links)) refl same.1
      | inr other ↦ omega (arith, never-twice size pages link.held.next links to leads.2 unread p, times-away link.page p (pages_on links) other.1)
    ]
  where
    times-away : (x p : ℕ) (xs : List ℕ) → (x ≡ p → ⊥) → times p (x ∷ xs) ≡ times p xs
    times-away x p xs e = keyed-other (λ (m : ℕ). m) p x xs e

    first : (k : ℕ) → times link.page (pages_on links) ≡ k → link.page ≡ p → times p (pages_on (link ∷ links)) ≤ 1
    first zero none same = rw (sym same) (omega (arith, none, times-here link.page (pages_on links)))
    first (suc k) some same =
        let split = keyed-split (λ (l : Link). l.page) link.page links (omega (arith, some, keyed-map (λ (l : Link). l.page) link.page links)) in
        let parts = leads-split size pages link.held.next split.0 (split.1 ∷ split.2) to (subst (λ (l : List Link). IsWay size pages link.held.next l to) split.3 leads.2) in
        let back : IsWay size pages from (split.1 ∷ split.2) to = (split.4 ∙ leads.0, parts.2.1, parts.2.2) in
        absurd (goes-on size pages from (split.1 ∷ split.2) (link ∷ links) to to back leads (omega (arith, ap length split.3, length-append split.0 (split.1 ∷ split.2))) unread)

length-pages : (links : List Link) → length (pages_on links) ≡ length links
length-pages [] = refl
length-pages (link ∷ links) = ap suc (length-pages links)

-- the pages of a way are the store's
way-inside : (size : ℕ) (pages : Pages) (from : ℕ) (links : List Link) (to : ℕ) → IsWay size pages from links to → (p : ℕ) → 0 < times p (pages_on links) → (0 ≤ p) × (p < size)
way-inside size pages from [] to leads p some = absurd (omega (arith, some))
way-inside size pages from (link ∷ links) to leads p some =
    elim (eqb_tells link.page p) [
      | inl same ↦ (omega arith, omega (arith, same.1, leads.1.there))
      | inr other ↦ way-inside size pages link.held.next links to leads.2 p (omega (arith, some, keyed-other (λ (m : ℕ). m) p link.page (pages_on links) other.1))
    ]

-- such a way is no longer than the store
way-short : (size : ℕ) (pages : Pages) (from : ℕ) (links : List Link) (to : ℕ) → IsWay size pages from links to → Unread size pages to → length links ≤ size
way-short size pages from links to leads unread =
    omega (arith, length-pages links, pigeons size 0 (pages_on links) (never-twice size pages from links to leads unread) (λ p some. let inside = way-inside size pages from links to leads p some in (inside.0, omega (arith, inside.1))))

-- ways that stop, one at a page that is none of a heap's, stop at one page
stops-one : (size : ℕ) (pages : Pages) (from : ℕ) (links others : List Link) (a b : ℕ) → IsWay size pages from links a → IsWay size pages from others b → Stops size pages links a → Unread size pages b → a ≡ b
stops-one size pages from links others a b leads also (inl long) unread =
    elim (cases_lt (length others) (length links)) [
      | inl short ↦ absurd (goes-on size pages from others links b a also leads short unread)
      | inr reach ↦ same-end size pages from links others a b leads also (omega (arith, reach, long, way-short size pages from others b also unread))
    ]
stops-one size pages from links others a b leads also (inr ends) unread =
    elim (cases_lt (length links) (length others)) [
      | inl short ↦ absurd (goes-on size pages from links others a b leads also short ends)
      | inr reach ↦
          elim (cases_lt (length others) (length links)) [
            | inl less ↦ absurd (goes-on size pages from others links b a also leads less unread)
            | inr same ↦ same-end size pages from links others a b leads also (omega (arith, reach, same))
          ]
    ]

stop-pages : (size : ℕ) (pages : Pages) (from : ℕ) (links others : List Link) (a b : ℕ) → IsWay size pages from links a → IsWay size pages from others b → Stops size pages links a → Stops size pages others b → a ≡ b
stop-pages size pages from links others a b leads also stops (inr unread) = stops-one size pages from links others a b leads also stops unread
stop-pages size pages from links others a b leads also (inr unread) (inl long) = sym (stops-one size pages from others links b a also leads (inl long) unread)
stop-pages size pages from links others a b leads also (inl long) (inl same) = same-end size pages from links others a b leads also (omega (arith, long, same))

-- a chain is one
started : (size : ℕ) (pages : Pages) (first : ℕ) (links : List Link) → 1 ≤ length links → IsWay size pages first links 0 → first ≡ 0 → ⊥
started size pages first [] some leads e = omega (arith, some)
started size pages first (link ∷ links) some leads e = omega (arith, e, leads.0, leads.1.named)

pub chain-one : (size : ℕ) (pages : Pages) (first : ℕ) → IsOne (chain size pages first)
chain-one size pages first (Ok links) (Ok others) a b = ap (λ (l : List Link). Ok l) (leads-one size size pages first links others a.2 b.2)
chain-one size pages first (Ok links) (Err why) a b = absurd (chain-never size pages first links why a.2 a.1 (started size pages first links a.0 a.2) b)
chain-one size pages first (Err why) (Ok links) a b = absurd (chain-never size pages first links why b.2 b.1 (started size pages first links b.0 b.2) a)
chain-one size pages first (Err why) (Err reason) (links, page, is, leads, goes, stops) (others, other, also, way, on, ends) =
    ap (λ (w : Refusal). Err w) (is ∙ ap broken (stop-pages size pages first links others page other leads way stops ends) ∙ sym also)

-- a page stands at one place of a chain
stands-one : (links : List Link) (page : ℕ) (p q : ℕ) (held other : HeapPage) → StandsIn links page p held → StandsIn links page q other → (p ≡ q) × (held ≡ other)
stands-one links page p q held other a b =
    let d = link_of page held in
    let at_a = a.here d in
    let place : a.place ≡ b.place = some-is (link_place page links) a.place b.place a.first b.first in
    let links_same : link_of page held ≡ link_of page other = sym at_a ∙ ap (λ (k : ℕ). get_or links k d) place ∙ b.here d in
    (before d place a.behind b.behind, ap (λ (l : Link). l.held) links_same)
  where
    before : (d : Link) → a.place ≡ b.place → ((a.place ≡ 0) × (p ≡ 0)) ⊎ ((0 < a.place) × ((d : Link) → (get_or links (a.place - 1) d).page ≡ p))
        → ((b.place ≡ 0) × (q ≡ 0)) ⊎ ((0 < b.place) × ((d : Link) → (get_or links (b.place - 1) d).page ≡ q)) → p ≡ q
    before d same (inl x) (inl y) = x.1 ∙ sym y.1
    before d same (inl x) (inr y) = absurd (omega (arith, same, x.0, y.0))
    before d same (inr x) (inl y) = absurd (omega (arith, same, x.0, y.0))
    before d same (inr x) (inr y) = sym (x.1 d) ∙ ap (λ (k : ℕ). (get_or links (k - 1) d).page) same ∙ y.1 d

-- two answers of a chain are one
chains-one : (size : ℕ) (pages : Pages) (first : ℕ) (links others : List Link) → chain size pages first (Ok links) → chain size pages first (Ok others) → links ≡ others
chains-one size pages first links others a b = leads-one size size pages first links others a.2 b.2

none-stands : (links : List Link) (page previous : ℕ) (held : HeapPage) → StandsIn links page previous held → link_place page links ≡ None → ⊥
none-stands links page previous held in_ none = some-none (link_place page links) in_.place in_.first none

pub met-one : (size : ℕ) (pages : Pages) (first page : ℕ) → IsOne (met size pages first page)
met-one size pages first page (Ok x) (Ok y) (links, whole, at) (others, also, there) =
    let same = stands-one others page x.0 y.0 x.1 y.1 (subst (λ (l : List Link). StandsIn l page x.0 x.1) (chains-one size pages first links others whole also) at) there in
    ap (λ (f : ℕ × HeapPage). Ok f) (pair same.0 same.1)
  where
    pair : x.0 ≡ y.0 → x.1 ≡ y.1 → x ≡ y
    pair p q = λ i. (p i, q i)
met-one size pages first page (Ok x) (Err why) (links, whole, at) (inl refused) = differ links why (chain-one size pages first (Ok links) (Err why) whole refused)
met-one size pages first page (Ok x) (Err why) (links, whole, at) (inr (others, also, is, none)) =
    absurd (none-stands others page x.0 x.1 (subst (λ (l : List Link). StandsIn l page x.0 x.1) (chains-one size pages first links others whole also) at) none)
met-one size pages first page (Err why) (Ok x) (inl refused) (links, whole, at) = differ links why (chain-one size pages first (Ok links) (Err why) whole refused)
met-one size pages first page (Err why) (Ok x) (inr (others, also, is, none)) (links, whole, at) =
    absurd (none-stands others page x.0 x.1 (subst (λ (l : List Link). StandsIn l page x.0 x.1) (chains-one size pages first links others whole also) at) none)
met-one size pages first page (Err why) (Err reason) (inl a) (inl b) = error-one why reason (chain-one size pages first (Err why) (Err reason) a b)
  where
    error-one : (why reason : Refusal) → Same {A = List Link} (Err why) (Err reason) → Same {A = ℕ × HeapPage} (Err why) (Err reason)
    error-one why reason e = cc
met-one size pages first page (Err why) (Err reason) (inl a) (inr (links, whole, is, none)) = differ links why (chain-one size pages first (Ok links) (Err why) whole a)
met-one size pages first page (Err why) (Err reason) (inr (links, whole, is, none)) (inl b) = differ links reason (chain-one size pages first (Ok links) (Err reason) whole b)
met-one size pages first page (Err why) (Err reason) (inr (links, whole, is, none)) (inr (others, more, also, away)) = ap (λ (w : Refusal). Err w) (is ∙ sym also)

-- a number has one place on a page
place-one : (page number : ℕ) (entries : List Entry) → IsOne (place_in page number entries)
place-one page number entries (Ok i) (Ok j) a b = ap (λ (k : ℕ). Ok k) (some-is (place_of number entries) i j a b)
place-one page number entries (Ok i) (Err why) a b = some-none (place_of number entries) i a b.1
place-one page number entries (Err why) (Ok j) a b = some-none (place_of number entries) j b a.1
place-one page number entries (Err why) (Err reason) a b = ap (λ (w : Refusal). Err w) (a.0 ∙ sym b.0)

renamed-one : (size : ℕ) (pages : Pages) (first last next : ℕ) → IsOne (renamed size pages first last next)
renamed-one size pages first last next = either-one _ _ _ (next-one _ _ (page-one _ _ _) (λ head. only-one _)) (only-one _)

unlinked-one : (size : ℕ) (pages : Pages) (first previous page next : ℕ) → IsOne (unlinked size pages first previous page next)
unlinked-one size pages first previous page next = next-one _ _ (page-one _ _ _) (λ before. next-one _ _ (renamed-one _ _ _ _ _) (λ named. only-one _))

pub chain_answers_are_one : ChainAnswersAreOne
chain_answers_are_one = record {
  remove = λ size pages first page number. next-one _ _ (page-one size pages page) (λ held. next-one _ _ (place-one page number held.entries) (λ place.
      either-one _ _ _ (next-one _ _ (met-one size pages first page) (λ found. unlinked-one size pages first found.0 page held.next)) (only-one _)));
  change = λ size pages first page entry. next-one _ _ (page-one size pages page) (λ held. next-one _ _ (place-one page entry.number held.entries) (λ place. either-one _ _ _ (only-one _) (appended-one size _ first entry)));
}
