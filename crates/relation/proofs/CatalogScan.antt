-- The catalog's rows, read with its next row number.
use Rattle.std.proofs.Common.{ℕ, List, Ok, Err, inl, inr, subst}
use Rattle.retro_base.specs.declared.refusal.Refusal.{Refusal}
use Rattle.pager.specs.Pages.{Pages}
use Rattle.heap_file.specs.Chain.{scanned}
use Rattle.heap_file.specs.Work.{next_of, scanned_with_next}
use Rattle.heap_file.specs.declared.chain.Placed.{Placed}
use Rattle.relation.specs.Catalog.{catalog_rows}
use Rattle.relation.specs.declared.catalog.TheConstants.{CATALOG}
use Rattle.relation.proofs.Steps.{firsts, seconds}

pub scanned-parts : (size : ℕ) (pages : Pages) (first : ℕ) (rows : List Placed) (next : ℕ) → scanned_with_next size pages first (Ok (rows, next)) → scanned size pages first (Ok rows) × next_of size pages first (Ok next)
scanned-parts size pages first rows next h = (
  subst (λ (l : List Placed). scanned size pages first (Ok l)) (firsts (h.0, h.2.0) (rows, next) h.2.2) h.1,
  subst (λ (n : ℕ). next_of size pages first (Ok n)) (seconds (h.0, h.2.0) (rows, next) h.2.2) h.2.1,
)

pub catalog-unread : (size : ℕ) (pages : Pages) (why : Refusal) → scanned_with_next size pages CATALOG (Err why) → catalog_rows size pages (Err why)
catalog-unread size pages why (inl h) = inl h
catalog-unread size pages why (inr h) = elim h.2 [
  | inl stops ↦ inr (h.0, h.1, inl stops)
  | inr done ↦ absurd (cc done.2)
]
