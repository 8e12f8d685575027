-- A store of zero pages.
use Rattle.std.proofs.Common.{◌≡◌, ◌<◌, ◌≤◌, ◌+◌, ◌^◌, ◌⊎◌, ◌∙◌, ℕ, true, false, eqb, List, [], ◌∷◌, replicate, inl, inr, refl, sym, ap, arith, subst}
use Rattle.std.proofs.lemmas.Bool.Decides.{eqb_tells}
use Rattle.retro_base.specs.Fields.{number_at}
use Rattle.pager.specs.Pages.{Pages}
use Rattle.pager.specs.Root.{root_of}
use Rattle.pager.specs.declared.root.Root.{Root}
use Rattle.heap_file.specs.Chain.{IsAt}
use Rattle.heap_file.specs.HeapPage.{empty_page, HoldsRows}
use Rattle.heap_file.proofs.Packing.{zero_is_empty}
use Rattle.heap_laws.specs.Laws.{AreZero, FreshLaw}
use Rattle.heap_laws.specs.Store.{Chain, WellFormed, root_at, times}
use Rattle.heap_laws.proofs.Counts.{one_if}
use Rattle.heap_laws.proofs.Making.{empty-chain, empty-table}
use Rattle.heap_laws.proofs.Roots.{IsRoot, root-made}
use Rattle.heap_laws.proofs.Routes.{link_of, times-cons}

-- page 1 holds nothing
zero-at : (size : ℕ) (pages : Pages) → AreZero size pages → 2 ≤ size → IsAt size pages 1 empty_page
zero-at size pages zero some =
    let there : 1 < size = omega (arith, some) in
    record { named = omega arith; there = there; holds = subst (λ (bytes : List ℕ). HoldsRows bytes empty_page) (sym (zero 1 there)) zero_is_empty }

-- the root of zero bytes
abbrev zero_root : Root
zero_root = record { used = 0; first_free = 0; free = 0 }

zero-root : root_of (replicate 1024 0) ≡ zero_root
unfolding number_at
zero-root = refl

root-zero : (size : ℕ) (pages : Pages) → AreZero size pages → 2 ≤ size → root_at pages ≡ zero_root
root-zero size pages zero some = ap root_of (zero 0 (omega (arith, some))) ∙ zero-root

is-root : (size : ℕ) (pages : Pages) → AreZero size pages → 2 ≤ size → IsRoot size (root_at pages)
is-root size pages zero some =
    subst (IsRoot size) (sym (root-zero size pages zero some)) (record { within = some; few = omega arith; none = λ e. refl; some = λ lt. absurd (omega (arith, lt)) })

none-held : (size : ℕ) (pages : Pages) → AreZero size pages → 2 ≤ size → size < 2 ^ 32 → WellFormed size pages [] []
none-held size pages zero some small = record {
  small = small;
  root = root-made size pages (omega (arith, some)) (is-root size pages zero some);
  chains = [];
  free = [];
  named = refl;
  lawful = tt;
  listed = ap (λ (r : Root). r.first_free) (root-zero size pages zero some);
  counted = sym (ap (λ (r : Root). r.free) (root-zero size pages zero some));
  once = λ page. omega arith;
  inside = λ page held. absurd (omega (arith, held));
  inner = λ page held. absurd (omega (arith, held));
}

catalog-held : (size : ℕ) (pages : Pages) → AreZero size pages → 2 ≤ size → size < 2 ^ 32 → WellFormed size pages (1 ∷ []) []
catalog-held size pages zero some small =
    let catalog : Chain = record { first = 1; links = link_of 1 empty_page ∷ [] } in
    record {
      small = small;
      root = root-made size pages (omega (arith, some)) (is-root size pages zero some);
      chains = catalog ∷ [];
      free = [];
      named = refl;
      lawful = (empty-chain size pages 1 (zero-at size pages zero some), tt);
      listed = ap (λ (r : Root). r.first_free) (root-zero size pages zero some);
      counted = sym (ap (λ (r : Root). r.free) (root-zero size pages zero some));
      once = λ page. one page;
      inside = λ page held. it page held (eqb_tells 1 page);
      inner = λ page held. absurd (omega (arith, held));
    }
  where
    held-is : (page : ℕ) → times page (1 ∷ []) ≡ one_if (eqb 1 page)
    held-is page = omega (arith, times-cons page 1 [])

    one : (page : ℕ) → times page (1 ∷ []) ≤ 1
    one page = least (eqb_tells 1 page)
      where
        least : ((eqb 1 page ≡ true) × (1 ≡ page)) ⊎ ((eqb 1 page ≡ false) × (1 ≡ page → ⊥)) → times page (1 ∷ []) ≤ 1
        least (inl same) = omega (arith, held-is page, ap one_if same.0)
        least (inr differ) = omega (arith, held-is page, ap one_if differ.0)

    it : (page : ℕ) → 0 < times page (1 ∷ []) → ((eqb 1 page ≡ true) × (1 ≡ page)) ⊎ ((eqb 1 page ≡ false) × (1 ≡ page → ⊥)) → (1 ≤ page) × (page < 2 + (root_at pages).used)
    it page held (inl same) = (omega (arith, same.1), omega (arith, same.1))
    it page held (inr differ) = absurd (omega (arith, held, held-is page, ap one_if differ.0))

pub fresh_law : FreshLaw
fresh_law = record {
  none = none-held;
  catalog = catalog-held;
  empty = λ size pages zero some. empty-table size pages 1 (zero-at size pages zero some);
}
