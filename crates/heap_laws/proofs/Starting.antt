-- A table in a store in memory that was never written.
use Rattle.std.proofs.Common.{◌≡◌, ◌<◌, ◌≤◌, ◌^◌, ◌∙◌, ℕ, [], length, get_or, replicate, Ok, refl, ap, subst}
use Rattle.std.proofs.lemmas.List.{get_or-replicate, length-replicate}
use Rattle.pager.specs.MemPages.{MemPages, shown}
use Rattle.pager.specs.Pages.{Pages, Leads}
use Rattle.heap_file.specs.Work.{made}
use Rattle.heap_laws.specs.Table.{MakesTable}
use Rattle.heap_laws.proofs.Fresh.{fresh_law}
use Rattle.heap_laws.proofs.Making.{make_law}

pub started : (size : ℕ) (old new : MemPages) (first : ℕ) → 2 ≤ size → size < 2 ^ 32 → old.pages ≡ replicate size (replicate 1024 0)
    → Leads (λ base now. now ≡ shown old) (λ base now. now ≡ shown new) (λ was now. made (length old.pages) was (Ok (first, now))) → MakesTable size (shown old) [] [] first (shown new)
started size old new first some small pages work =
    let ready = work (shown new) (shown new) refl in
    let long : length old.pages ≡ size = ap length pages ∙ length-replicate size (replicate 1024 0) in
    make_law size (shown old) [] [] (Ok (first, shown new))
    (fresh_law.none size (shown old) (λ page lt. ap (λ ps. get_or ps page []) pages ∙ get_or-replicate size page (replicate 1024 0) [] lt) some small)
    (subst (λ (n : ℕ). made n (shown old) (Ok (first, shown new))) long (subst (λ (p : Pages). made (length old.pages) p (Ok (first, shown new))) ready.1 ready.2))
