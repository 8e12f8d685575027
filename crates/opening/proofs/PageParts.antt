-- Pages from the bytes of their device.
use Rattle.std.proofs.Common.{◌≡◌, ◌∙◌, ◌+◌, ◌*◌, ◌≤◌, ◌<◌, ◌++◌, ℕ, Bool, true, false, ltb, List, [], ◌∷◌, length, take, get_or, refl, sym, ap, arith, below_more}
use Rattle.std.proofs.lemmas.Bool.{ltb-true, ltb-false}
use Rattle.std.proofs.lemmas.List.{get_or_append_left, get_or_push, get_or_past, drop_all}
use Rattle.history.specs.Replayed.{page_in}
use Rattle.opening.specs.Opening.{page_at}

pub pages_more : (items : List (List ℕ)) (bytes : List ℕ) (n : ℕ) (page : List ℕ) → length items ≡ n → ((k : ℕ) → k < n → get_or items k [] ≡ page_at bytes k) → page ≡ page_at bytes n → (k : ℕ) → k < n + 1 → get_or (items ++ page ∷ []) k [] ≡ page_at bytes k
pages_more items bytes n page long all is =
    below_more (λ k. get_or (items ++ page ∷ []) k [] ≡ page_at bytes k) n (λ k lt. get_or_append_left items (page ∷ []) [] k (omega (arith, long, lt)) ∙ all k lt) (get_or_push items page [] n long ∙ is)

pub pages_all : (items : List (List ℕ)) (bytes : List ℕ) (n : ℕ) → length items ≡ n → length bytes ≡ 1024 * n → ((k : ℕ) → k < n → get_or items k [] ≡ page_at bytes k) → (k : ℕ) → page_in items k ≡ page_at bytes k
pages_all items bytes n long size all k = go (ltb k n) refl where
  go : (b : Bool) → ltb k n ≡ b → get_or items k [] ≡ page_at bytes k
  go true e = all k (ltb-true k n e)
  go false e =
      let past : n ≤ k = ltb-false k n e in
      get_or_past items k [] (omega (arith, long, past)) ∙ sym (ap (λ (l : List ℕ). take 1024 l) (drop_all (1024 * k) bytes (omega (arith, size, past))))
