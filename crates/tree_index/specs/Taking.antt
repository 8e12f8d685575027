-- Pages that are taken one after the other: proofs.
use Rattle.std.proofs.Common.{◌≡◌, ◌<◌, ◌≤◌, ◌^◌, ◌++◌, ◌∙◌, ℕ, zero, suc, List, [], ◌∷◌}
use Rattle.std.proofs.Common.{length, Result, Ok, Err, refl, sym, ap, subst, arith}
use Rattle.std.proofs.lemmas.Bool.{ne_eqb}
use Rattle.std.proofs.lemmas.List.{length-append}
use Rattle.retro_base.specs.declared.refusal.Refusal.{Refusal}
use Rattle.pager.specs.Pages.{Pages}
use Rattle.pager.specs.Root.{all_taken, root_bytes, taken}
use Rattle.index_page.proofs.Taking.{no-refusal, ok_is, taken-is, written-other}
use Rattle.tree_index.specs.Climbing.{IsTaken}
use Rattle.tree_index.specs.Marking.{all-join}

-- one more is taken
pub one-more : (size count : ℕ) (pages mid : Pages) (list : List ℕ) (next : ℕ × Pages) →
    all_taken size count pages ≡ Ok (list, mid) → taken size mid ≡ Ok next →
    all_taken size (suc count) pages ≡ Ok (list ++ next.0 ∷ [], next.1)
one-more size zero pages mid list next e took =
    let none : List ℕ × Pages = ([], pages) in
    let given : List ℕ × Pages = (list, mid) in
    subst (λ (p : List ℕ × Pages). taken size p.1 ≡ Ok next → all_taken size 1 pages ≡ Ok (p.0 ++ next.0 ∷ [], next.1))
    (ok_is (Ok none) none given refl e) (λ t. rw t refl) took
one-more size (suc count) pages mid list next e took =
    go (taken size pages) refl (λ p m l. one-more size count p m l next)
  where
    go : (r : Result (ℕ × Pages) Refusal) → taken size pages ≡ r →
        ((p m : Pages) (l : List ℕ) → all_taken size count p ≡ Ok (l, m) → taken size m ≡ Ok next →
        all_taken size (suc count) p ≡ Ok (l ++ next.0 ∷ [], next.1)) →
        all_taken size (suc (suc count)) pages ≡ Ok (list ++ next.0 ∷ [], next.1)
    go (Err why) q more = no-refusal (list, mid) why (sym e ∙ (rw q refl))
    go (Ok first) q more = inner (all_taken size count first.1) refl
      where
        inner : (s : Result (List ℕ × Pages) Refusal) → all_taken size count first.1 ≡ s →
            all_taken size (suc (suc count)) pages ≡ Ok (list ++ next.0 ∷ [], next.1)
        inner (Err why) q2 = no-refusal (list, mid) why (sym e ∙ (rw (q, q2) refl))
        inner (Ok rest) q2 =
            let made : List ℕ × Pages = (first.0 ∷ rest.0, rest.1) in
            let given : List ℕ × Pages = (list, mid) in
            let same : made ≡ given = ok_is (all_taken size (suc count) pages) made given (rw (q, q2) refl) e in
            let on = more first.1 rest.1 rest.0 q2
            (subst (λ (p : List ℕ × Pages). taken size p.1 ≡ Ok next) (sym same) took) in
            let all : all_taken size (suc (suc count)) pages ≡ Ok (first.0 ∷ (rest.0 ++ next.0 ∷ []), next.1) =
            rw (q, on) refl in
            all ∙ ap (λ (p : List ℕ × Pages). Ok (p.0 ++ next.0 ∷ [], next.1)) same

-- none is left for more
pub refused : (size count total : ℕ) (pages mid : Pages) (list : List ℕ) (why : Refusal) → count < total →
    all_taken size count pages ≡ Ok (list, mid) → taken size mid ≡ Err why → all_taken size total pages ≡ Err why
refused size count zero pages mid list why few e none = absurd (omega arith)
refused size zero (suc total) pages mid list why few e none =
    let nothing : List ℕ × Pages = ([], pages) in
    let given : List ℕ × Pages = (list, mid) in
    let here : taken size pages ≡ Err why =
    subst (λ (p : List ℕ × Pages). taken size p.1 ≡ Err why) (sym (ok_is (Ok nothing) nothing given refl e)) none in
    rw here refl
refused size (suc count) (suc total) pages mid list why few e none =
    go (taken size pages) refl (λ p m l f. refused size count total p m l why f)
  where
    go : (r : Result (ℕ × Pages) Refusal) → taken size pages ≡ r →
        ((p m : Pages) (l : List ℕ) → count < total → all_taken size count p ≡ Ok (l, m) → taken size m ≡ Err why →
        all_taken size total p ≡ Err why) → all_taken size (suc total) pages ≡ Err why
    go (Err other) q more = no-refusal (list, mid) other (sym e ∙ (rw q refl))
    go (Ok first) q more = inner (all_taken size count first.1) refl
      where
        inner : (s : Result (List ℕ × Pages) Refusal) → all_taken size count first.1 ≡ s →
            all_taken size (suc total) pages ≡ Err why
        inner (Err other) q2 = no-refusal (list, mid) other (sym e ∙ (rw (q, q2) refl))
        inner (Ok rest) q2 =
            let made : List ℕ × Pages = (first.0 ∷ rest.0, rest.1) in
            let given : List ℕ × Pages = (list, mid) in
            let same : made ≡ given = ok_is (all_taken size (suc count) pages) made given (rw (q, q2) refl) e in
            let on = more first.1 rest.1 rest.0 (omega arith) q2
            (subst (λ (p : List ℕ × Pages). taken size p.1 ≡ Err why) (sym same) none) in
            rw (q, on) refl

pub length-more : (list : List ℕ) (page : ℕ) → suc (length list) ≡ length (list ++ page ∷ [])
length-more list page = omega (arith, length-append list (page ∷ []))

pub taken-more : (size : ℕ) (pages mid : Pages) (opened : List ℕ) (next : ℕ × Pages) → IsTaken size pages opened mid →
    taken size mid ≡ Ok next → next.0 < 2 ^ 32 → IsTaken size pages (opened ++ next.0 ∷ []) next.1
taken-more size pages mid opened next is took small =
    let facts = taken-is size mid next.0 next.1 took in
    record {
      took = subst (λ (k : ℕ). all_taken size k pages ≡ Ok (opened ++ next.0 ∷ [], next.1)) (length-more opened next.0)
          (one-more size (length opened) pages mid opened next is.took took);
      small = all-join (λ page. page < 2 ^ 32) opened (next.0 ∷ []) is.small (small, tt);
      within = all-join (λ page. (2 ≤ page) × (page < size)) opened (next.0 ∷ []) is.within
          ((facts.low, facts.there), tt);
    }

-- of the pages that an index may stand on none is written
pub taken-same : (size count : ℕ) (pages after : Pages) (list : List ℕ) →
    all_taken size count pages ≡ Ok (list, after) → (page : ℕ) → 2 ≤ page → after.at page ≡ pages.at page
taken-same size zero pages after list e page low =
    let nothing : List ℕ × Pages = ([], pages) in
    let given : List ℕ × Pages = (list, after) in
    ap (λ (p : List ℕ × Pages). p.1.at page) (sym (ok_is (Ok nothing) nothing given refl e))
taken-same size (suc count) pages after list e page low =
    go (taken size pages) refl (λ p m l q. taken-same size count p m l q page low)
  where
    go : (r : Result (ℕ × Pages) Refusal) → taken size pages ≡ r →
        ((p m : Pages) (l : List ℕ) → all_taken size count p ≡ Ok (l, m) → m.at page ≡ p.at page) →
        after.at page ≡ pages.at page
    go (Err why) q more = no-refusal (list, after) why (sym e ∙ (rw q refl))
    go (Ok first) q more = inner (all_taken size count first.1) refl
      where
        inner : (s : Result (List ℕ × Pages) Refusal) → all_taken size count first.1 ≡ s → after.at page ≡ pages.at page
        inner (Err why) q2 = no-refusal (list, after) why (sym e ∙ (rw (q, q2) refl))
        inner (Ok rest) q2 =
            let made : List ℕ × Pages = (first.0 ∷ rest.0, rest.1) in
            let given : List ℕ × Pages = (list, after) in
            let same : made ≡ given = ok_is (all_taken size (suc count) pages) made given (rw (q, q2) refl) e in
            let facts = taken-is size pages first.0 first.1 q in
            ap (λ (p : List ℕ × Pages). p.1.at page) (sym same) ∙ more first.1 rest.1 rest.0 q2
            ∙ (ap (λ (p : Pages). p.at page) facts.is ∙
            written-other pages 0 page (root_bytes facts.root) (ne_eqb page 0 (λ z. omega (arith, z, low))))
