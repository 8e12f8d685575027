-- Stores of which one table changes.
use Rattle.std.proofs.Common.{◌≡◌, ◌<◌, ◌≤◌, ◌+◌, ◌++◌, ◌∙◌, ℕ, zero, suc, eqb, List, [], ◌∷◌, map, flat_map, Ok, inl, inr, refl, sym, ap, arith, subst, eq-eqb}
use Rattle.std.specs.List.{AllByRecursion, Contains}
use Rattle.std.proofs.lemmas.Bool.Decides.{eqb_tells}
use Rattle.std.proofs.lemmas.List.{map-append}
use Rattle.std.proofs.lemmas.List.Concat.{flat_map-cons, flat_map-append}
use Rattle.retro_base.specs.Fields.{number_at}
use Rattle.pager.specs.Pages.{Pages}
use Rattle.pager.specs.Root.{root_in, IsFreeList}
use Rattle.heap_file.specs.declared.chain.Link.{Link}
use Rattle.heap_laws.specs.Store.{Chain, IsChain, WellFormed, pages_of, pages_behind, pages_held, pages_inner, root_at, times}
use Rattle.heap_laws.specs.Table.{Table, IsTable, OthersStay, AllStay}
use Rattle.heap_laws.proofs.Counts.{keyed, keyed-append, keyed-map, keyed-other, keyed-split, one_if, split_at}
use Rattle.heap_laws.proofs.Routes.{at-same, first_link, leads-one, leads-same, pages_on, times-append, times-cons, times-here}

-- what stands in a list stands there at least once
pub times-some : (xs : List ℕ) (x : ℕ) → Contains xs x → 0 < times x xs
times-some xs x has =
    let split = split_at xs x has in
    omega (arith, ap (times x) split.2, times-append x split.0 (x ∷ split.1), times-here x split.1)

-- pages of chains, one of which is singled out
pub times-chains : (p : ℕ) (g : Chain → List ℕ) (before : List Chain) (chain : Chain) (behind : List Chain) (indexes free : List ℕ)
    → times p (flat_map g (before ++ chain ∷ behind) ++ (indexes ++ free)) ≡ (times p (flat_map g before) + (times p (g chain) + times p (flat_map g behind))) + (times p indexes + times p free)
times-chains p g before chain behind indexes free =
    let all : flat_map g (before ++ chain ∷ behind) ≡ flat_map g before ++ (g chain ++ flat_map g behind) = flat_map-append g before (chain ∷ behind) ∙ ap (λ (l : List ℕ). flat_map g before ++ l) (flat_map-cons g chain behind) in
    omega (arith, times-append p (flat_map g (before ++ chain ∷ behind)) (indexes ++ free), times-append p indexes free, ap (times p) all, times-append p (flat_map g before) (g chain ++ flat_map g behind), times-append p (g chain) (flat_map g behind))

-- the first page of a chain stands among its pages
pub chain_pages : (size : ℕ) (pages : Pages) (chain : Chain) → IsChain size pages chain → (p : ℕ) → times p (pages_of chain) ≡ one_if (eqb chain.first p) + times p (pages_behind chain)
chain_pages size pages chain is p =
    let front = first_link size pages chain.first chain.links is.head is.leads is.at_first in
    subst (λ (links : List Link). times p (pages_of (record { first = chain.first; links = links })) ≡ one_if (eqb chain.first p) + times p (pages_behind (record { first = chain.first; links = links })))
    (sym front.1) (times-cons p chain.first (pages_on front.0))

-- a chain over pages that stay
pub chain-same : (size : ℕ) (pages after : Pages) (chain : Chain) → ((p : ℕ) → 0 < times p (pages_of chain) → after.at p ≡ pages.at p) → IsChain size pages chain → IsChain size after chain
chain-same size pages after chain same is = record {
  leads = leads-same size pages after chain.first chain.links 0 same is.leads;
  sized = is.sized;
  head = is.head;
  at_first = at-same size pages after chain.first is.head (same chain.first (omega (arith, chain_pages size pages chain is chain.first, ap one_if (eq-eqb chain.first chain.first refl)))) is.at_first;
  names_last = is.names_last;
  differ = is.differ;
  below = is.below;
}

pub chains-same : (size : ℕ) (pages after : Pages) (chains : List Chain) → ((p : ℕ) → 0 < times p (flat_map pages_of chains) → after.at p ≡ pages.at p) → AllByRecursion (IsChain size pages) chains → AllByRecursion (IsChain size after) chains
chains-same size pages after [] same all = tt
chains-same size pages after (chain ∷ chains) same all =
    let count : (p : ℕ) → times p (flat_map pages_of (chain ∷ chains)) ≡ times p (pages_of chain) + times p (flat_map pages_of chains) =
    λ p. ap (times p) (flat_map-cons pages_of chain chains) ∙ times-append p (pages_of chain) (flat_map pages_of chains) in (
      chain-same size pages after chain (λ p some. same p (omega (arith, some, count p))) all.0,
      chains-same size pages after chains (λ p some. same p (omega (arith, some, count p))) all.1,
    )

pub all-split : {X : Type 0} (P : X → Type 0) (a b : List X) → AllByRecursion P (a ++ b) → AllByRecursion P a × AllByRecursion P b
all-split P [] b all = (tt, all)
all-split P (x ∷ a) b all = let rest = all-split P a b all.1 in ((all.0, rest.0), rest.1)

pub all-join : {X : Type 0} (P : X → Type 0) (a b : List X) → AllByRecursion P a → AllByRecursion P b → AllByRecursion P (a ++ b)
all-join P [] b left right = right
all-join P (x ∷ a) b left right = (left.0, all-join P a b left.1 right)

-- a free list over pages that stay
pub frees-same : (pages after : Pages) (first : ℕ) (free : List ℕ) → ((p : ℕ) → 0 < times p free → after.at p ≡ pages.at p) → IsFreeList pages first free → IsFreeList after first free
frees-same pages after first [] same is = is
frees-same pages after first (page ∷ rest) same is =
    let bytes = same page (omega (arith, times-here page rest)) in
    (is.0, rw bytes is.1, rw bytes (frees-same pages after (number_at 4 (pages.at page) 4) rest (λ p some. same p (omega (arith, some, times-cons p page rest))) is.2))

pub root_in-same : (size : ℕ) (pages after : Pages) → after.at 0 ≡ pages.at 0 → root_in size after ≡ root_in size pages
root_in-same size pages after same = rw same refl

-- a table over pages that stay
pub table-same : (size : ℕ) (pages after : Pages) (chain : Chain) (table : Table) → IsChain size pages chain → ((p : ℕ) → 0 < times p (pages_of chain) → after.at p ≡ pages.at p) → IsTable size pages chain.first table → IsTable size after chain.first table
table-same size pages after chain table is same shows =
    let links = shows.rows.0 in
    let leads = shows.rows.1.2 in
    let one : chain.links ≡ links = leads-one size size pages chain.first chain.links links is.leads leads in
    let first = same chain.first (omega (arith, chain_pages size pages chain is chain.first, ap one_if (eq-eqb chain.first chain.first refl))) in
    record {
      next_number = (shows.next_number.0, at-same size pages after chain.first shows.next_number.0 first shows.next_number.1, shows.next_number.2);
      rows = (links, (shows.rows.1.0, shows.rows.1.1, leads-same size pages after chain.first links 0 (λ p some. same p (subst (λ (l : List Link). 0 < times p (pages_on l)) (sym one) some)) leads), shows.rows.2);
    }

-- the chain of a table, singled out
pub record Among (size : ℕ) (pages : Pages) (chains : List Chain) (first : ℕ) : Type 0 where
  pub before : List Chain
  pub chain : Chain
  pub behind : List Chain
  pub is : chains ≡ before ++ chain ∷ behind
  pub named : chain.first ≡ first
  pub lawful : IsChain size pages chain

pub among-keyed : (size : ℕ) (pages : Pages) (chains : List Chain) (first : ℕ) → AllByRecursion (IsChain size pages) chains → 0 < keyed (λ (c : Chain). c.first) first chains → Among size pages chains first
among-keyed size pages chains first all some =
    let split = keyed-split (λ (c : Chain). c.first) first chains some in
    record {
      before = split.0;
      chain = split.1;
      behind = split.2;
      is = split.3;
      named = split.4;
      lawful = (all-split (IsChain size pages) split.0 (split.1 ∷ split.2) (subst (λ (cs : List Chain). AllByRecursion (IsChain size pages) cs) split.3 all)).1.0;
    }

pub named-keyed : (size : ℕ) (pages : Pages) (firsts indexes : List ℕ) (first : ℕ) (well : WellFormed size pages firsts indexes) → Contains firsts first → 0 < keyed (λ (c : Chain). c.first) first well.chains
named-keyed size pages firsts indexes first well has =
    omega (arith, times-some firsts first has, ap (times first) well.named, keyed-map (λ (c : Chain). c.first) first well.chains)

pub among : (size : ℕ) (pages : Pages) (firsts indexes : List ℕ) (first : ℕ) (well : WellFormed size pages firsts indexes) → Contains firsts first → Among size pages well.chains first
among size pages firsts indexes first well has = among-keyed size pages well.chains first well.lawful (named-keyed size pages firsts indexes first well has)

-- where all pages of the chains stay, all tables stay
pub all-stay : (size : ℕ) (pages after : Pages) (firsts indexes : List ℕ) (well : WellFormed size pages firsts indexes) → ((p : ℕ) → 0 < times p (flat_map pages_of well.chains) → after.at p ≡ pages.at p) → AllStay size pages after firsts
all-stay size pages after firsts indexes well same first has table shows =
    let one = among size pages firsts indexes first well has in
    let count : (p : ℕ) → times p (flat_map pages_of well.chains) ≡ times p (flat_map pages_of one.before) + (times p (pages_of one.chain) + times p (flat_map pages_of one.behind)) =
    λ p. ap (λ (cs : List Chain). times p (flat_map pages_of cs)) one.is ∙ ap (times p) (flat_map-append pages_of one.before (one.chain ∷ one.behind) ∙ ap (λ (l : List ℕ). flat_map pages_of one.before ++ l) (flat_map-cons pages_of one.chain one.behind)) ∙ times-append p (flat_map pages_of one.before) (pages_of one.chain ++ flat_map pages_of one.behind) ∙ ap (λ (k : ℕ). times p (flat_map pages_of one.before) + k) (times-append p (pages_of one.chain) (flat_map pages_of one.behind)) in
    subst (λ (f : ℕ). IsTable size after f table) one.named
    (table-same size pages after one.chain table one.lawful (λ p some. same p (omega (arith, some, count p))) (subst (λ (f : ℕ). IsTable size pages f table) (sym one.named) shows))

-- page 0 is none of those held
pub root-apart : (size : ℕ) (pages : Pages) (firsts indexes : List ℕ) (well : WellFormed size pages firsts indexes) → times 0 (pages_held well.chains indexes well.free) ≡ 0
root-apart size pages firsts indexes well = none (times 0 (pages_held well.chains indexes well.free)) (well.inside 0)
  where
    none : (k : ℕ) → (0 < k → (1 ≤ 0) × (0 < 2 + (root_at pages).used)) → k ≡ 0
    none zero held = refl
    none (suc k) held = absurd (omega (arith, (held (omega arith)).0))

-- what one table's call leaves of the store: its chain has other links, and the indexes have other pages
pub record Swap (size : ℕ) (pages after : Pages) (chain : Chain) (links : List Link) (indexes indexes' : List ℕ) : Type 0 where
  pub lawful : IsChain size after (record { first = chain.first; links = links })
  pub counts : (p : ℕ) → times p (pages_on links) + times p indexes' ≡ times p (pages_of chain) + times p indexes
  pub same : (p : ℕ) → times p (pages_of chain) + times p indexes ≡ 0 → after.at p ≡ pages.at p

pub swapped : (size : ℕ) (pages after : Pages) (firsts indexes indexes' : List ℕ) (first : ℕ) (links : List Link) (well : WellFormed size pages firsts indexes) (one : Among size pages well.chains first)
    → Swap size pages after one.chain links indexes indexes' → WellFormed size after firsts indexes'
swapped size pages after firsts indexes indexes' first links well one swap =
    let before = one.before in
    let chain = one.chain in
    let behind = one.behind in
    let free = well.free in
    let now : Chain = record { first = chain.first; links = links } in
    let held : (p : ℕ) → times p (pages_held well.chains indexes free) ≡ (times p (flat_map pages_of before) + (times p (pages_of chain) + times p (flat_map pages_of behind))) + (times p indexes + times p free) =
    λ p. ap (λ (cs : List Chain). times p (pages_held cs indexes free)) one.is ∙ times-chains p pages_of before chain behind indexes free in
    let holds : (p : ℕ) → times p (pages_held (before ++ now ∷ behind) indexes' free) ≡ (times p (flat_map pages_of before) + (times p (pages_of now) + times p (flat_map pages_of behind))) + (times p indexes' + times p free) =
    λ p. times-chains p pages_of before now behind indexes' free in
    let inner : (p : ℕ) → times p (pages_inner well.chains indexes free) ≡ (times p (flat_map pages_behind before) + (times p (pages_behind chain) + times p (flat_map pages_behind behind))) + (times p indexes + times p free) =
    λ p. ap (λ (cs : List Chain). times p (pages_inner cs indexes free)) one.is ∙ times-chains p pages_behind before chain behind indexes free in
    let inners : (p : ℕ) → times p (pages_inner (before ++ now ∷ behind) indexes' free) ≡ (times p (flat_map pages_behind before) + (times p (pages_behind now) + times p (flat_map pages_behind behind))) + (times p indexes' + times p free) =
    λ p. times-chains p pages_behind before now behind indexes' free in
    let zero_same : after.at 0 ≡ pages.at 0 = swap.same 0 (omega (arith, held 0, root-apart size pages firsts indexes well)) in
    let parts = all-split (IsChain size pages) before (chain ∷ behind) (subst (λ (cs : List Chain). AllByRecursion (IsChain size pages) cs) one.is well.lawful) in
    record {
      small = well.small;
      root = root_in-same size pages after zero_same ∙ well.root ∙ ap (λ (bytes : List ℕ). Ok (root_at (record { at = λ page. bytes; edited = pages.edited }))) (sym zero_same);
      chains = before ++ now ∷ behind;
      free = free;
      named = map-append (λ (c : Chain). c.first) before (now ∷ behind) ∙ sym (map-append (λ (c : Chain). c.first) before (chain ∷ behind)) ∙ ap (map (λ (c : Chain). c.first)) (sym one.is) ∙ well.named;
      lawful = all-join (IsChain size after) before (now ∷ behind)
          (chains-same size pages after before (λ p some. swap.same p (omega (arith, some, held p, well.once p))) parts.0)
          (swap.lawful, chains-same size pages after behind (λ p some. swap.same p (omega (arith, some, held p, well.once p))) parts.1.1);
      listed = rw zero_same (frees-same pages after (root_at pages).first_free free (λ p some. swap.same p (omega (arith, some, held p, well.once p))) well.listed);
      counted = rw zero_same well.counted;
      once = λ p. omega (arith, well.once p, held p, holds p, swap.counts p);
      inside = λ p some. rw zero_same (well.inside p (omega (arith, some, held p, holds p, swap.counts p)));
      inner = λ p some. well.inner p (omega (arith, some, inner p, inners p, swap.counts p, chain_pages size pages chain one.lawful p, chain_pages size after now swap.lawful p));
    }

-- the other tables stay
pub others-stay : (size : ℕ) (pages after : Pages) (firsts indexes indexes' : List ℕ) (first : ℕ) (links : List Link) (well : WellFormed size pages firsts indexes) (one : Among size pages well.chains first)
    → Swap size pages after one.chain links indexes indexes' → OthersStay size pages after firsts first
others-stay size pages after firsts indexes indexes' first links well one swap other has differ table shows =
    let parts = all-split (IsChain size pages) one.before (one.chain ∷ one.behind) (subst (λ (cs : List Chain). AllByRecursion (IsChain size pages) cs) one.is well.lawful) in
    let held : (p : ℕ) → times p (pages_held well.chains indexes well.free) ≡ (times p (flat_map pages_of one.before) + (times p (pages_of one.chain) + times p (flat_map pages_of one.behind))) + (times p indexes + times p well.free) =
    λ p. ap (λ (cs : List Chain). times p (pages_held cs indexes well.free)) one.is ∙ times-chains p pages_of one.before one.chain one.behind indexes well.free in
    let keys : 0 < keyed (λ (c : Chain). c.first) other one.before + keyed (λ (c : Chain). c.first) other one.behind =
    omega (arith, named-keyed size pages firsts indexes other well has, ap (keyed (λ (c : Chain). c.first) other) one.is, keyed-append (λ (c : Chain). c.first) other one.before (one.chain ∷ one.behind), keyed-other (λ (c : Chain). c.first) other one.chain one.behind (λ e. differ (sym e ∙ one.named))) in
    elim (eqb_tells (keyed (λ (c : Chain). c.first) other one.before) 0) [
      | inl none ↦ within one.behind parts.1.1 (omega (arith, none.1, keys)) (λ p some. swap.same p (omega (arith, some, held p, well.once p)))
      | inr some ↦ within one.before parts.0 (omega (arith, some.1)) (λ p some. swap.same p (omega (arith, some, held p, well.once p)))
    ]
  where
    within : (chains : List Chain) → AllByRecursion (IsChain size pages) chains → 0 < keyed (λ (c : Chain). c.first) other chains → ((p : ℕ) → 0 < times p (flat_map pages_of chains) → after.at p ≡ pages.at p) → IsTable size after other table
    within chains all some same =
        let it = among-keyed size pages chains other all some in
        let count : (p : ℕ) → times p (flat_map pages_of chains) ≡ times p (flat_map pages_of it.before) + (times p (pages_of it.chain) + times p (flat_map pages_of it.behind)) =
        λ p. ap (λ (cs : List Chain). times p (flat_map pages_of cs)) it.is ∙ ap (times p) (flat_map-append pages_of it.before (it.chain ∷ it.behind) ∙ ap (λ (l : List ℕ). flat_map pages_of it.before ++ l) (flat_map-cons pages_of it.chain it.behind)) ∙ times-append p (flat_map pages_of it.before) (pages_of it.chain ++ flat_map pages_of it.behind) ∙ ap (λ (k : ℕ). times p (flat_map pages_of it.before) + k) (times-append p (pages_of it.chain) (flat_map pages_of it.behind)) in
        subst (λ (f : ℕ). IsTable size after f table) it.named
        (table-same size pages after it.chain table it.lawful (λ p some. same p (omega (arith, some, count p))) (subst (λ (f : ℕ). IsTable size pages f table) (sym it.named) shows))
