-- What an edit of one page or two leaves of a chain and of the pages beside it: proofs.
use Rattle.std.proofs.Common.{◌≡◌, ◌<◌, ◌^◌, ◌++◌, ◌∙◌, ℕ, zero, suc, false, eqb, List, []}
use Rattle.std.proofs.Common.{◌∷◌, Ok, refl, sym, ap, subst, inl, inr, arith, append_assoc}
use Rattle.std.specs.Prelude.{nat_eq}
use Rattle.std.specs.List.{AllByRecursion, Contains, IsDistinct}
use Rattle.std.specs.List.Sorted.{IsPermutation}
use Rattle.std.proofs.lemmas.Bool.{eqb-false, ne_eqb}
use Rattle.std.proofs.lemmas.Bool.Decides.{eqb_tells}
use Rattle.std.proofs.lemmas.List.Sorted.{IsPermutation-append_right, IsPermutation-cons, IsPermutation-to_front}
use Rattle.pager.specs.Allows.{only}
use Rattle.pager.specs.Index.{EditsOnly}
use Rattle.pager.specs.Pages.{Pages, with_bytes}
use Rattle.pager.specs.declared.index.Found.{Found}
use Rattle.index_page.specs.Entries.{reaches}
use Rattle.index_page.proofs.Taking.{ok_is, unmarked-other, written-other}
use Rattle.run_index.specs.Leading.{all-more}
use Rattle.run_index.specs.Run.{IsWay, entries_of}
use Rattle.run_index.specs.Shaping.{all-right, any-append}

-- one page or two are edited
pub edits-one : (before : Pages) (p : ℕ) (bytes : List ℕ) (list : List ℕ) → Contains list p →
    EditsOnly list before (with_bytes before p bytes)
edits-one before p bytes list there = λ q. elim (eqb_tells q p) [
  | inl is ↦ inl (subst (λ (x : ℕ). Contains list x) (sym is.1) there)
  | inr differ ↦ inr (written-other before p q bytes differ.0, unmarked-other before p q bytes differ.0)
]

pub edits-two : (before : Pages) (n p : ℕ) (bytes more : List ℕ) (list : List ℕ) → Contains list n → Contains list p →
    EditsOnly list before (with_bytes (with_bytes before n bytes) p more)
edits-two before n p bytes more list one two = λ q. elim (eqb_tells q p) [
  | inl is ↦ inl (subst (λ (x : ℕ). Contains list x) (sym is.1) two)
  | inr differ ↦ elim (eqb_tells q n) [
    | inl is ↦ inl (subst (λ (x : ℕ). Contains list x) (sym is.1) one)
    | inr apart ↦ inr (
      written-other (with_bytes before n bytes) p q more differ.0 ∙ written-other before n q bytes apart.0,
      unmarked-other (with_bytes before n bytes) p q more differ.0 ∙ unmarked-other before n q bytes apart.0,
    )
  ]
]

pub contains-middle : (a : List ℕ) (p : ℕ) (b : List ℕ) → Contains (a ++ p ∷ b) p
contains-middle [] p b = (0, omega arith, refl)
contains-middle (x ∷ a) p b = let more = contains-middle a p b in (suc more.0, omega (arith, more.1), more.2)

pub contains-front : (a b : List ℕ) (p : ℕ) → Contains a p → Contains (a ++ b) p
contains-front [] b p there = absurd (omega (arith, there.1))
contains-front (x ∷ a) b p (zero, lt, is) = (0, omega arith, is)
contains-front (x ∷ a) b p (suc k, lt, is) = let more = contains-front a b p (k, omega arith, is) in
    (suc more.0, omega (arith, more.1), more.2)

-- pages that differ from one among them
pub apart-front : (a : List ℕ) (p : ℕ) (b : List ℕ) → IsDistinct nat_eq (a ++ p ∷ b) →
    AllByRecursion (λ (q : ℕ). eqb q p ≡ false) a
unfolding IsDistinct
apart-front [] p b is = tt
apart-front (x ∷ a) p b is = ((all-right (λ (q : ℕ). eqb x q ≡ false) a (p ∷ b) is.0).0, apart-front a p b is.1)

pub flip-false : (p q : ℕ) → eqb p q ≡ false → eqb q p ≡ false
flip-false p q e = ne_eqb q p (λ same. eqb-false p q e (sym same))

pub apart-back : (a : List ℕ) (p : ℕ) (b : List ℕ) → IsDistinct nat_eq (a ++ p ∷ b) →
    AllByRecursion (λ (q : ℕ). eqb q p ≡ false) b
unfolding IsDistinct
apart-back [] p b is =
    all-more (λ (q : ℕ). eqb p q ≡ false) (λ (q : ℕ). eqb q p ≡ false) b (λ q e. flip-false p q e) is.0
apart-back (x ∷ a) p b is = apart-back a p b is.1

pub all-two : (P Q R : ℕ → Type 0) (xs : List ℕ) → ((q : ℕ) → P q → Q q → R q) → AllByRecursion P xs →
    AllByRecursion Q xs → AllByRecursion R xs
all-two P Q R [] go one two = tt
all-two P Q R (x ∷ xs) go one two = (go x one.0 two.0, all-two P Q R xs go one.1 two.1)

pub all-same : (pages : Pages) (xs : List ℕ) → AllByRecursion (λ (q : ℕ). pages.at q ≡ pages.at q) xs
all-same pages [] = tt
all-same pages (x ∷ xs) = (refl, all-same pages xs)

pub link-narrow : (size : ℕ) (pages : Pages) (from : ℕ) (shape : List (List Found)) (held : List ℕ) →
    AllByRecursion (λ (page : ℕ). page < 2 ^ 32) held → IsWay size pages from shape held 0 → from < 2 ^ 32
link-narrow size pages from [] [] narrow leads = omega arith
link-narrow size pages from [] (page ∷ held) narrow leads = absurd leads
link-narrow size pages from (entries ∷ shape) [] narrow leads = absurd leads
link-narrow size pages from (entries ∷ shape) (page ∷ held) narrow leads = let small = narrow.0 in
    omega (arith, leads.0)

pub skips-all : (entry : Found) (before : List (List Found)) →
    AllByRecursion (λ (entries : List Found). reaches entry entries ≡ false) before →
    reaches entry (entries_of before) ≡ false
skips-all entry [] all = refl
skips-all entry (page ∷ before) all = any-append _ page (entries_of before) all.0 (skips-all entry before all.1)

-- a page that is held may move behind another
pub held-moves : (a : List ℕ) (p n : ℕ) (b : List ℕ) → IsPermutation ((a ++ p ∷ b) ++ n ∷ []) (a ++ p ∷ n ∷ b)
held-moves a p n b =
    subst (λ (l : List ℕ). IsPermutation l (a ++ p ∷ n ∷ b)) (sym (append_assoc a (p ∷ b) (n ∷ [])))
    (IsPermutation-append_right a (p ∷ (b ++ n ∷ [])) (p ∷ n ∷ b)
    (IsPermutation-cons p (b ++ n ∷ []) (n ∷ b) (IsPermutation-to_front b n)))

pub same-pages : (after : Pages) (answer : Unit {0} × Pages) → only (Ok (tt, after)) (Ok answer) → after ≡ answer.1
same-pages after answer e =
    let given : Unit {0} × Pages = (tt, after) in
    ap (λ (a : Unit {0} × Pages). a.1) (ok_is (Ok given) given answer refl e)

pub same-answer : (given answer : ℕ × Pages) → only (Ok given) (Ok answer) → given ≡ answer
same-answer given answer e = ok_is (Ok given) given answer refl e
