-- Captures, part by part.
use Rattle.std.proofs.Common.{◌≡◌, ◌⊎◌, inl, inr, sym, ◌∙◌, ◌+◌, ◌-◌, ◌≤◌, ◌<◌, ℕ, List, length, take, drop, max, ap, arith}
use Rattle.std.proofs.lemmas.Bool.{cases_lt}
use Rattle.std.proofs.lemmas.List.{drop-drop, take_all}
use Rattle.history.specs.declared.writes.PageImage.{PageImage}
use Rattle.copy_queue.specs.Pending.{Pending}

pub parts : (p : Pending) (first : ℕ) (images : List PageImage) → p.first ≡ first → p.images ≡ images → p ≡ record { first = first; images = images }
parts p first images a b = λ i. record { first = a i; images = b i }

pub acked : (p : Pending) (first count counter : ℕ) (images : List PageImage) → p.first ≡ counter → first ≤ counter → counter ≤ max first count → p.images ≡ drop (counter - first) images → (counter < count → ⊥) → p ≡ record { first = max first count; images = drop (count - first) images }
acked p first count counter images at low high rest over = parts p (max first count) (drop (count - first) images) (at ∙ omega (arith, low, high, over)) (rest ∙ ap (λ n. drop n images) (omega (arith, low, high, over)))

pub kept : (p : Pending) (first count counter end : ℕ) (images : List PageImage) → p.first ≡ first → p.images ≡ take (end - (counter - count)) images → count ≤ counter → (count ≤ end → counter ≤ end) → (counter < end → ⊥) → end ≡ length images → (end < count → counter ≡ count) → p ≡ record { first = first; images = take count images }
kept p first count counter end images same rest low high over long none = parts p first (take count images) same (rest ∙ go (cases_lt end count)) where
  go : (end < count) ⊎ (count ≤ end) → take (end - (counter - count)) images ≡ take count images
  go (inl lt) = take_all (end - (counter - count)) images (omega (arith, long, none lt)) ∙ sym (take_all count images (omega (arith, long, lt)))
  go (inr le) = ap (λ n. take n images) (omega (arith, low, high le, over, le))

pub after_one : (count next : ℕ) (all some : List PageImage) → some ≡ drop count all → next ≡ count + 1 → drop 1 some ≡ drop next all
after_one count next all some is more = ap (λ l. drop 1 l) is ∙ drop-drop 1 count all ∙ ap (λ n. drop n all) (sym more)
