-- Pages that are written one after the other: proofs.
use Rattle.std.proofs.Common.{◌⊎◌, ◌≡◌, ◌++◌, ◌∙◌, ℕ, suc, false, eqb, List, [], ◌∷◌, refl, sym, inl, inr, arith}
use Rattle.std.specs.Prelude.{nat_eq}
use Rattle.std.specs.List.{AllByRecursion, Contains, IsDistinct}
use Rattle.std.proofs.lemmas.Bool.{eqb-false, ne_eqb}
use Rattle.std.proofs.lemmas.Bool.Decides.{eqb_tells}
use Rattle.pager.specs.Pages.{Pages, with_bytes}
use Rattle.index_page.specs.IndexPage.{page_bytes}
use Rattle.index_page.proofs.Taking.{at-own, unmarked-other, written-other}
use Rattle.tree_index.specs.declared.walk.Met.{Met}
use Rattle.tree_index.specs.Climbing.{IsReady}
use Rattle.tree_index.specs.Listing.{IsThere, at-same}
use Rattle.tree_index.specs.Marking.{all-left, all-right}
use Rattle.tree_index.specs.Tree.{numbers}
use Rattle.tree_index.specs.Work.{all_written}

pub flip-false : (p q : ℕ) → eqb p q ≡ false → eqb q p ≡ false
flip-false p q e = ne_eqb q p (λ same. eqb-false p q e (sym same))

-- a page that is none of them stays
pub other-stays : (edits : List Met) (pages : Pages) (page : ℕ) →
    AllByRecursion (λ q. eqb page q ≡ false) (numbers edits) → ((all_written pages edits).at page ≡ pages.at page)
    × ((all_written pages edits).edited page ≡ pages.edited page)
other-stays [] pages page apart = (refl, refl)
other-stays (met ∷ edits) pages page apart =
    let more = other-stays edits (with_bytes pages met.page (page_bytes met.held)) page apart.1 in (
      more.0 ∙ written-other pages met.page page (page_bytes met.held) apart.0,
      more.1 ∙
          unmarked-other pages met.page page (page_bytes met.held) apart.0,
    )

-- each of them holds what was written
pub all-there : (size : ℕ) (edits : List Met) (pages : Pages) → IsDistinct nat_eq (numbers edits) →
    AllByRecursion (IsReady size) edits → AllByRecursion (IsThere size (all_written pages edits)) edits
unfolding IsDistinct
all-there size [] pages distinct ready = tt
all-there size (met ∷ edits) pages distinct ready =
    let after : Pages = with_bytes pages met.page (page_bytes met.held) in
    let own = at-own size pages met.page met.held ready.0.low ready.0.there ready.0.link ready.0.writable in (
      at-same size after (all_written after edits) met.page met.held
          (other-stays edits after met.page distinct.0).0 own,
      all-there size edits after distinct.1 ready.1,
    )

-- parts of pages that differ
pub distinct-left : (a b : List ℕ) → IsDistinct nat_eq (a ++ b) → IsDistinct nat_eq a
unfolding IsDistinct
distinct-left [] b is = tt
distinct-left (x ∷ a) b is = (all-left (λ y. eqb x y ≡ false) a b is.0, distinct-left a b is.1)

two-all : (x : ℕ) (P : ℕ → Type 0) (a : List ℕ) (b : List ℕ) → AllByRecursion (λ y. eqb x y ≡ false) b →
    AllByRecursion (λ q. AllByRecursion (λ p. eqb q p ≡ false) a) b →
    AllByRecursion (λ q. AllByRecursion (λ p. eqb q p ≡ false) (x ∷ a)) b
two-all x P a [] one two = tt
two-all x P a (q ∷ b) one two = ((flip-false x q one.0, two.0), two-all x P a b one.1 two.1)

none-all : (b : List ℕ) → AllByRecursion (λ q. AllByRecursion (λ p. eqb q p ≡ false) []) b
none-all [] = tt
none-all (q ∷ b) = (tt, none-all b)

pub distinct-apart : (a b : List ℕ) → IsDistinct nat_eq (a ++ b) →
    AllByRecursion (λ q. AllByRecursion (λ p. eqb q p ≡ false) a) b
unfolding IsDistinct
distinct-apart [] b is = none-all b
distinct-apart (x ∷ a) b is =
    two-all x (λ y. eqb x y ≡ false) a b (all-right (λ y. eqb x y ≡ false) a b is.0) (distinct-apart a b is.1)

-- a page is one of them or none
pub member : (list : List ℕ) (page : ℕ) → Contains list page ⊎ AllByRecursion (λ q. eqb page q ≡ false) list
member [] page = inr tt
member (x ∷ list) page = elim (eqb_tells page x) [
  | inl is ↦ inl (0, omega arith, sym is.1)
  | inr differ ↦ elim (member list page) [
    | inl c ↦ inl (suc c.0, omega (arith, c.1), c.2)
    | inr none ↦ inr (differ.0, none)
  ]
]
