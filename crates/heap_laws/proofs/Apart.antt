-- The pages of one table, and what stands apart from them.
use Rattle.std.proofs.Common.{◌≡◌, ◌∙◌, ◌<◌, ◌≤◌, ◌+◌, ◌++◌, ◌⊎◌, ◌==◌, cond, ℕ, zero, suc, Bool, true, false, List, [], ◌∷◌, length, Ok, inl, inr, refl, sym, ap, subst, arith, eq-eqb, ne_eqb}
use Rattle.std.specs.List.{AllByRecursion, Contains, flat_map, list_any}
use Rattle.std.proofs.lemmas.List.Concat.{flat_map-cons}
use Rattle.std.proofs.lemmas.List.Elements.{Contains-append_right}
use Rattle.pager.specs.Pages.{Pages}
use Rattle.pager.specs.Root.{IsFreeList}
use Rattle.heap_file.specs.declared.chain.Link.{Link}
use Rattle.heap_file.specs.declared.page.HeapPage.{HeapPage}
use Rattle.heap_file.specs.Chain.{IsWay, met}
use Rattle.heap_laws.specs.Store.{Chain, WellFormed, end_of, next_free, pages_of, pages_held, root_at, times}
use Rattle.heap_laws.specs.Table.{EndsAt}
use Rattle.heap_laws.proofs.Counts.{one_if}
use Rattle.heap_laws.proofs.Reading.{named-last, reads}
use Rattle.heap_laws.proofs.Routes.{last_link, leads-one, link_of, pages_on, times-append, times-here, times-links}
use Rattle.heap_laws.proofs.Rows.{Met}
use Rattle.heap_laws.proofs.Spotting.{met-one}
use Rattle.heap_laws.proofs.Stores.{chain_pages, root-apart}

pub contains-head : {A : Type 0} (x : A) (xs : List A) → Contains (x ∷ xs) x
contains-head x xs = (0, omega arith, refl)

pub contains-cons : {A : Type 0} (x y : A) (xs : List A) → Contains xs x → Contains (y ∷ xs) x
contains-cons x y xs h = (suc h.0, omega (arith, h.1), h.2)

-- an item of a list is its first or one of the rest
pub contains-cases : {A P : Type 0} (x y : A) (xs : List A) → Contains (x ∷ xs) y → (x ≡ y → P) → (Contains xs y → P) → P
contains-cases x y xs (zero, lt, is) here there = here is
contains-cases x y xs (suc k, lt, is) here there = there (k, omega (arith, lt), is)

pub not-any : (p : ℕ) (list : List ℕ) → AllByRecursion (λ q. p ≡ q → ⊥) list → list_any (λ other. p == other) list ≡ false
not-any p [] all = refl
not-any p (q ∷ list) all = rw (ne_eqb p q all.0) (not-any p list all.1)

pub all-imp : {A : Type 0} (P Q : A → Type 0) (xs : List A) → ((x : A) → P x → Q x) → AllByRecursion P xs → AllByRecursion Q xs
all-imp P Q [] go all = tt
all-imp P Q (x ∷ xs) go all = (go x all.0, all-imp P Q xs go all.1)

pages-cons : (p : ℕ) (chain : Chain) (chains : List Chain) → times p (flat_map pages_of (chain ∷ chains)) ≡ times p (pages_of chain) + times p (flat_map pages_of chains)
pages-cons p chain chains = ap (times p) (flat_map-cons pages_of chain chains) ∙ times-append p (pages_of chain) (flat_map pages_of chains)

pub one-chain : (p : ℕ) (chains : List Chain) (c : Chain) → Contains chains c → times p (pages_of c) ≤ times p (flat_map pages_of chains)
one-chain p [] c has = absurd (omega (arith, has.1))
one-chain p (e ∷ chains) c has =
    contains-cases e c chains has
    (λ here. omega (arith, pages-cons p e chains, ap (λ (k : Chain). times p (pages_of k)) here))
    (λ there. omega (arith, pages-cons p e chains, one-chain p chains c there))

two-chains : (p : ℕ) (chains : List Chain) (c d : Chain) → Contains chains c → Contains chains d → (c.first ≡ d.first → ⊥) → times p (pages_of c) + times p (pages_of d) ≤ times p (flat_map pages_of chains)
two-chains p [] c d has also apart = absurd (omega (arith, has.1))
two-chains p (e ∷ chains) c d has also apart =
    contains-cases e c chains has
    (λ here. contains-cases e d chains also
    (λ too. absurd (apart (ap (λ (k : Chain). k.first) (sym here ∙ too))))
    (λ there. omega (arith, pages-cons p e chains, ap (λ (k : Chain). times p (pages_of k)) here, one-chain p chains d there)))
    (λ there. contains-cases e d chains also
    (λ here. omega (arith, pages-cons p e chains, ap (λ (k : Chain). times p (pages_of k)) here, one-chain p chains c there))
    (λ too. omega (arith, pages-cons p e chains, two-chains p chains c d there too apart)))

-- the pages of a table
abbrev pub own : (size : ℕ) (pages : Pages) (firsts indexes : List ℕ) (first : ℕ) (well : WellFormed size pages firsts indexes) → Contains firsts first → List ℕ
own size pages firsts indexes first well has = pages_on (reads size pages firsts indexes first well has).one.chain.links

pub own-links : (size : ℕ) (pages : Pages) (firsts indexes : List ℕ) (first : ℕ) (well : WellFormed size pages firsts indexes) (has : Contains firsts first) (links : List Link) → IsWay size pages first links 0 → (p : ℕ) → times p (pages_on links) ≡ times p (own size pages firsts indexes first well has)
own-links size pages firsts indexes first well has links leads p =
    let read = reads size pages firsts indexes first well has in
    ap (λ (l : List Link). times p (pages_on l)) (leads-one size size pages first links read.one.chain.links leads read.route.leads)

pub held-count : (size : ℕ) (pages : Pages) (firsts indexes : List ℕ) (well : WellFormed size pages firsts indexes) (p : ℕ) → times p (pages_held well.chains indexes well.free) ≡ times p (flat_map pages_of well.chains) + (times p indexes + times p well.free)
held-count size pages firsts indexes well p = times-append p (flat_map pages_of well.chains) (indexes ++ well.free) ∙ ap (λ (k : ℕ). times p (flat_map pages_of well.chains) + k) (times-append p indexes well.free)

pub among-chains : (size : ℕ) (pages : Pages) (firsts indexes : List ℕ) (first : ℕ) (well : WellFormed size pages firsts indexes) (has : Contains firsts first) → Contains well.chains (reads size pages firsts indexes first well has).one.chain
among-chains size pages firsts indexes first well has =
    let one = (reads size pages firsts indexes first well has).one in
    subst (λ (l : List Chain). Contains l one.chain) (sym one.is) (Contains-append_right one.before (one.chain ∷ one.behind) one.chain (contains-head one.chain one.behind))

-- no page stands in two tables
pub apart : (size : ℕ) (pages : Pages) (firsts indexes : List ℕ) (first other : ℕ) (well : WellFormed size pages firsts indexes) (has : Contains firsts first) (also : Contains firsts other) → (other ≡ first → ⊥) → (p : ℕ) → 0 < times p (own size pages firsts indexes first well has) → 0 < times p (own size pages firsts indexes other well also) → ⊥
apart size pages firsts indexes first other well has also differ p here there =
    let one = (reads size pages firsts indexes first well has).one in
    let two = (reads size pages firsts indexes other well also).one in
    omega (arith, here, there, two-chains p well.chains one.chain two.chain (among-chains size pages firsts indexes first well has) (among-chains size pages firsts indexes other well also) (λ e. differ (sym two.named ∙ sym e ∙ one.named)), held-count size pages firsts indexes well p, well.once p)

-- the page that is taken next is none of those in use
pub next-apart : (size : ℕ) (pages : Pages) (firsts indexes : List ℕ) (well : WellFormed size pages firsts indexes) (p : ℕ) → 0 < times p (flat_map pages_of well.chains) + times p indexes → p ≡ next_free pages → ⊥
next-apart size pages firsts indexes well p there same = go ((root_at pages).free == 0) refl same
  where
    clash : true ≡ false → ⊥
    clash e = absurd cc

    listed : (free : List ℕ) → length free ≡ (root_at pages).free → IsFreeList pages (root_at pages).first_free free → ((root_at pages).free == 0) ≡ false → p ≡ (root_at pages).first_free → 0 < times p free
    listed [] long is e at = absurd (clash (sym (eq-eqb (root_at pages).free 0 (sym long)) ∙ e))
    listed (f ∷ rest) long is e at = omega (arith, ap (λ (q : ℕ). times q (f ∷ rest)) (at ∙ is.0), times-here f rest)

    go : (b : Bool) → ((root_at pages).free == 0) ≡ b → p ≡ cond b (2 + (root_at pages).used) (root_at pages).first_free → ⊥
    go true e at = omega (arith, at, (well.inside p (omega (arith, there, held-count size pages firsts indexes well p))).1)
    go false e at = omega (arith, there, held-count size pages firsts indexes well p, well.once p, listed well.free well.counted well.listed e at)

-- and so stands in no table
pub free-apart : (size : ℕ) (pages : Pages) (firsts indexes : List ℕ) (other : ℕ) (well : WellFormed size pages firsts indexes) (also : Contains firsts other) (p : ℕ) → 0 < times p (own size pages firsts indexes other well also) → p ≡ next_free pages → ⊥
free-apart size pages firsts indexes other well also p there same =
    next-apart size pages firsts indexes well p (omega (arith, there, one-chain p well.chains (reads size pages firsts indexes other well also).one.chain (among-chains size pages firsts indexes other well also))) same

-- page 0 stands in no table
pub zero-apart : (size : ℕ) (pages : Pages) (firsts indexes : List ℕ) (other : ℕ) (well : WellFormed size pages firsts indexes) (also : Contains firsts other) → 0 < times 0 (own size pages firsts indexes other well also) → ⊥
zero-apart size pages firsts indexes other well also there =
    omega (arith, there, one-chain 0 well.chains (reads size pages firsts indexes other well also).one.chain (among-chains size pages firsts indexes other well also), held-count size pages firsts indexes well 0, root-apart size pages firsts indexes well)

-- a page that a call on a table may edit: the root page, one of the table's own, or the one that is taken next
abbrev pub Within : (size : ℕ) (pages : Pages) (firsts indexes : List ℕ) (first : ℕ) (well : WellFormed size pages firsts indexes) → Contains firsts first → ℕ → Type 0
Within size pages firsts indexes first well has q = (q ≡ 0) ⊎ (0 < times q (own size pages firsts indexes first well has)) ⊎ (q ≡ next_free pages)

pub own-first : (size : ℕ) (pages : Pages) (firsts indexes : List ℕ) (first : ℕ) (well : WellFormed size pages firsts indexes) (has : Contains firsts first) → 0 < times first (own size pages firsts indexes first well has)
own-first size pages firsts indexes first well has =
    let one = (reads size pages firsts indexes first well has).one in
    omega (arith, chain_pages size pages one.chain one.lawful first, ap one_if (eq-eqb one.chain.first first one.named))

end-in : (first : ℕ) (links : List Link) → 1 ≤ length links → 0 < times (end_of first links) (pages_on links)
end-in first [] some = absurd (omega (arith, some))
end-in first (link ∷ links) some =
    let split = last_link first link links in
    omega (arith, ap (λ (q : ℕ). times q (pages_on (link ∷ links))) split.3, ap (λ (l : List Link). times split.1.page (pages_on l)) split.2, times-links split.1.page split.0 split.1 [], ap one_if (eq-eqb split.1.page split.1.page refl))

pub own-last : (size : ℕ) (pages : Pages) (firsts indexes : List ℕ) (first last : ℕ) (tail : HeapPage) (well : WellFormed size pages firsts indexes) (has : Contains firsts first) → EndsAt size pages first last tail → 0 < times last (own size pages firsts indexes first well has)
own-last size pages firsts indexes first last tail well has ends =
    let found = named-last size pages firsts indexes first last tail well has ends in
    omega (arith, end-in first found.0 found.1.0, ap (λ (q : ℕ). times q (pages_on found.0)) found.2, own-links size pages firsts indexes first well has found.0 found.1.2 last)

pub own-met : (size : ℕ) (pages : Pages) (firsts indexes : List ℕ) (first page previous : ℕ) (held : HeapPage) (well : WellFormed size pages firsts indexes) (has : Contains firsts first) → met size pages first page (Ok (previous, held)) → 0 < times page (own size pages firsts indexes first well has)
own-met size pages firsts indexes first page previous held well has stood =
    let read = reads size pages firsts indexes first well has in
    let one = met-one size pages first page previous held read.one.chain.links read.route.leads stood in
    omega (arith, ap (λ (l : List Link). times page (pages_on l)) one.links_are, times-links page one.before (link_of page held) one.behind, ap one_if (eq-eqb page page refl))

-- the page before a page of a table is the table's own, if there is one
pub previous-own : (size : ℕ) (pages : Pages) (firsts indexes : List ℕ) (first page previous : ℕ) (held : HeapPage) (well : WellFormed size pages firsts indexes) (has : Contains firsts first) → met size pages first page (Ok (previous, held)) → (previous ≡ 0) ⊎ (0 < times previous (own size pages firsts indexes first well has))
previous-own size pages firsts indexes first page previous held well has stood =
    elim one.previous_is [
      | inl start ↦ inl start.1
      | inr later ↦ inr (omega (arith, ap (λ (l : List Link). times previous (pages_on l)) one.links_are, times-links previous one.before (link_of page held) one.behind, ap (λ (l : List Link). times previous (pages_on l)) later.2, times-links previous later.0 later.1 [], ap one_if (eq-eqb later.1.page previous later.3)))
    ]
  where
    one : Met (reads size pages firsts indexes first well has).one.chain.links page previous held
    one = met-one size pages first page previous held (reads size pages firsts indexes first well has).one.chain.links (reads size pages firsts indexes first well has).route.leads stood

-- a page of an index is none that a call on a table may edit
pub index-apart : (size : ℕ) (pages : Pages) (firsts indexes : List ℕ) (first : ℕ) (well : WellFormed size pages firsts indexes) (has : Contains firsts first) (p q : ℕ) → 0 < times p indexes → Within size pages firsts indexes first well has q → p ≡ q → ⊥
index-apart size pages firsts indexes first well has p q there (inl zero_) e =
    omega (arith, subst (λ (k : ℕ). 0 < times k indexes) (e ∙ zero_) there, held-count size pages firsts indexes well 0, root-apart size pages firsts indexes well)
index-apart size pages firsts indexes first well has p q there (inr (inl here)) e =
    omega (arith, there, subst (λ (k : ℕ). 0 < times k (own size pages firsts indexes first well has)) (sym e) here, one-chain p well.chains (reads size pages firsts indexes first well has).one.chain (among-chains size pages firsts indexes first well has), held-count size pages firsts indexes well p, well.once p)
index-apart size pages firsts indexes first well has p q there (inr (inr next)) e = next-apart size pages firsts indexes well p (omega (arith, there)) (e ∙ next)

pub previous-within : (size : ℕ) (pages : Pages) (firsts indexes : List ℕ) (first page previous : ℕ) (held : HeapPage) (well : WellFormed size pages firsts indexes) (has : Contains firsts first) → met size pages first page (Ok (previous, held)) → Within size pages firsts indexes first well has previous
previous-within size pages firsts indexes first page previous held well has stood = elim (previous-own size pages firsts indexes first page previous held well has stood) [
  | inl none ↦ inl none
  | inr here ↦ inr (inl here)
]
