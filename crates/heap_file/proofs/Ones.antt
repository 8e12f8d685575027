-- One answer is allowed.
use Rattle.std.proofs.Common.{◌≡◌, ◌∙◌, ℕ, Bool, true, false, Result, Ok, Err, inl, inr, sym, ap, subst}
use Rattle.retro_base.specs.declared.refusal.Refusal.{Refusal}
use Rattle.pager.specs.Pages.{Pages}
use Rattle.heap_file.specs.declared.page.Entry.{Entry}
use Rattle.heap_file.specs.declared.page.HeapPage.{HeapPage}
use Rattle.pager.specs.Allows.{◌>>=◌, only, either}
use Rattle.heap_file.specs.Chain.{heap_page, last_page}
use Rattle.heap_file.specs.Laws.{IsOne, AnswersAreOne}
use Rattle.heap_file.specs.Work.{appended, lengthened}
use Rattle.heap_file.proofs.Packing.{holds_one}

pub only-one : {A : Type 0} (answer : Result A Refusal) → IsOne (only answer)
only-one answer r s p q = sym p ∙ q

pub either-one : {A : Type 0} (b : Bool) (m n : Result A Refusal → Type 0) → IsOne m → IsOne n → IsOne (either b m n)
either-one true m n one other = one
either-one false m n one other = other

pub differ : {A : Type 0} {P : Type 0} (x : A) (why : Refusal) → Ok x ≡ Err why → P
differ x why e = absurd cc

pub next-one : {A B : Type 0} (m : Result A Refusal → Type 0) (f : A → Result B Refusal → Type 0) → IsOne m → ((x : A) → IsOne (f x)) → IsOne (m >>= f)
next-one m f one each (Ok y) (Ok z) a b =
    let same : a.0 ≡ b.0 = cc (one (Ok a.0) (Ok b.0) a.1 b.1) in
    each b.0 (Ok y) (Ok z) (subst (λ v. f v (Ok y)) same a.2) b.2
next-one m f one each (Ok y) (Err why) a (inl q) = differ a.0 why (one (Ok a.0) (Err why) a.1 q)
next-one m f one each (Ok y) (Err why) a (inr b) =
    let same : a.0 ≡ b.0 = cc (one (Ok a.0) (Ok b.0) a.1 b.1) in
    each b.0 (Ok y) (Err why) (subst (λ v. f v (Ok y)) same a.2) b.2
next-one m f one each (Err why) (Ok y) (inl q) a = differ a.0 why (one (Ok a.0) (Err why) a.1 q)
next-one m f one each (Err why) (Ok y) (inr b) a =
    let same : b.0 ≡ a.0 = cc (one (Ok b.0) (Ok a.0) b.1 a.1) in
    each a.0 (Err why) (Ok y) (subst (λ v. f v (Err why)) same b.2) a.2
next-one m f one each (Err why) (Err reason) (inl p) (inl q) = cc (one (Err why) (Err reason) p q)
next-one m f one each (Err why) (Err reason) (inl p) (inr b) = differ b.0 why (one (Ok b.0) (Err why) b.1 p)
next-one m f one each (Err why) (Err reason) (inr b) (inl p) = differ b.0 reason (one (Ok b.0) (Err reason) b.1 p)
next-one m f one each (Err why) (Err reason) (inr a) (inr b) =
    let same : a.0 ≡ b.0 = cc (one (Ok a.0) (Ok b.0) a.1 b.1) in
    each b.0 (Err why) (Err reason) (subst (λ v. f v (Err why)) same a.2) b.2

-- a page holds one thing, or is broken
pub page-one : (size : ℕ) (pages : Pages) (page : ℕ) → IsOne (heap_page size pages page)
page-one size pages page (Ok held) (Ok other) p q = ap (λ (h : HeapPage). Ok h) (holds_one (pages.at page) held other p.holds q.holds)
page-one size pages page (Ok held) (Err why) p q = absurd (q.1 held p)
page-one size pages page (Err why) (Ok held) p q = absurd (p.1 held q)
page-one size pages page (Err why) (Err reason) p q = ap (λ (w : Refusal). Err w) (p.0 ∙ sym q.0)

lengthened-one : (size : ℕ) (pages : Pages) (first last : ℕ) (tail : HeapPage) (entry : Entry) → IsOne (lengthened size pages first last tail entry)
lengthened-one size pages first last tail entry =
    next-one _ _ (only-one _) (λ next. next-one _ _ (page-one _ _ _) (λ head. only-one _))

pub appended-one : (size : ℕ) (pages : Pages) (first : ℕ) (entry : Entry) → IsOne (appended size pages first entry)
appended-one size pages first entry =
    next-one _ _ (page-one _ _ _) (λ head. next-one _ _ (page-one _ _ _) (λ tail.
    either-one _ _ _ (either-one _ _ _ (only-one _) (lengthened-one size pages first (last_page first head) tail entry)) (only-one _)))

-- one answer is allowed
pub answers_are_one : AnswersAreOne
answers_are_one = record {
  make = λ size pages. next-one _ _ (only-one _) (λ next. only-one _);
  next_number = λ size pages first. next-one _ _ (page-one _ _ _) (λ head. only-one _);
  get = λ size pages page number. next-one _ _ (page-one _ _ _) (λ held. only-one _);
  add = λ size pages first row. next-one _ _ (page-one _ _ _) (λ head. either-one _ _ _ (only-one _) (next-one _ _ (appended-one size pages first (record { number = head.next_number; row = row })) (λ placed. next-one _ _ (page-one _ _ _) (λ after. only-one _))));
}
