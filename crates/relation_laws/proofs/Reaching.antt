-- The pages that a call on one table leaves alone.
use Rattle.std.proofs.Common.{◌≡◌, ◌∙◌, ◌<◌, ◌≤◌, ◌||◌, ◌==◌, cond, ℕ, Bool, true, false, List, [], ◌∷◌, inl, inr, refl, sym, ap, subst, arith}
use Rattle.std.specs.List.{AllByRecursion, Contains}
use Rattle.values.specs.declared.value.Value.{Value}
use Rattle.pager.specs.Pages.{Pages}
use Rattle.heap_file.specs.declared.chain.Link.{Link}
use Rattle.heap_file.specs.Chain.{IsWay}
use Rattle.heap_laws.specs.Store.{WellFormed, free_pages, times}
use Rattle.heap_laws.specs.Table.{AddsRow, EditsExactly, IsAdded, IsRemoved, MakesTable, RemovesRow, Table, has_room, leaves}
use Rattle.heap_laws.proofs.Routes.{leads-same, pages_on}
use Rattle.relation_laws.specs.Reach.{IsUntouched}
pub use Rattle.heap_laws.proofs.Apart.{Within, all-imp, among-chains, free-apart, held-count, not-any, one-chain, own, own-first, own-last, own-met, previous-own}
use Rattle.heap_laws.proofs.Apart.{apart, own-links, previous-within, zero-apart}

within-apart : (size : ℕ) (pages : Pages) (firsts indexes : List ℕ) (first other : ℕ) (well : WellFormed size pages firsts indexes) (has : Contains firsts first) (also : Contains firsts other) → (other ≡ first → ⊥) → (p q : ℕ) → 0 < times p (own size pages firsts indexes other well also) → Within size pages firsts indexes first well has q → p ≡ q → ⊥
within-apart size pages firsts indexes first other well has also differ p q there (inl zero_) e = zero-apart size pages firsts indexes other well also (subst (λ (k : ℕ). 0 < times k (own size pages firsts indexes other well also)) (e ∙ zero_) there)
within-apart size pages firsts indexes first other well has also differ p q there (inr (inl here)) e = apart size pages firsts indexes first other well has also differ p (subst (λ (k : ℕ). 0 < times k (own size pages firsts indexes first well has)) (sym e) here) there
within-apart size pages firsts indexes first other well has also differ p q there (inr (inr taken)) e = free-apart size pages firsts indexes other well also p there (e ∙ taken)

pub untouched : (pages after : Pages) (list : List ℕ) (p : ℕ) → EditsExactly pages after list → AllByRecursion (λ q. p ≡ q → ⊥) list → IsUntouched pages after p
untouched pages after list p edits all =
    let none = not-any p list all in
    (edits.same p none, edits.edited p ∙ ap (λ (b : Bool). b || pages.edited p) none)

-- each page but these is untouched
abbrev pub Touches : Pages → Pages → List ℕ → Type 0
Touches pages after list = (page : ℕ) → AllByRecursion (λ q. page ≡ q → ⊥) list → IsUntouched pages after page

pub untouched-then : (pages mid after : Pages) (page : ℕ) → IsUntouched pages mid page → IsUntouched mid after page → IsUntouched pages after page
untouched-then pages mid after page one two = (two.0 ∙ one.0, two.1 ∙ one.1)

-- which way the free count goes
abbrev pub Turns : Bool → ℕ → ℕ → Type 0
Turns true before after = before ≤ after
Turns false before after = after ≤ before

pub turns-trans : (rises : Bool) (a b c : ℕ) → Turns rises a b → Turns rises b c → Turns rises a c
turns-trans true a b c p q = omega (arith, p, q)
turns-trans false a b c p q = omega (arith, p, q)

pub turns-same : (rises : Bool) (a b : ℕ) → a ≡ b → Turns rises a b
turns-same true a b e = omega (arith, e)
turns-same false a b e = omega (arith, e)

-- where a count goes one way and ends as it began, it never moved
pub turns-still : (rises : Bool) (a b c : ℕ) → Turns rises a b → Turns rises b c → c ≡ a → (b ≡ a) × (c ≡ b)
turns-still true a b c p q e = (omega (arith, p, q, e), omega (arith, p, q, e))
turns-still false a b c p q e = (omega (arith, p, q, e), omega (arith, p, q, e))

-- the pages of the other tables are left alone, and so is the root page unless a page is taken or freed
pub record Spares (rises : Bool) (size : ℕ) (pages after : Pages) (firsts : List ℕ) (first : ℕ) : Type 0 where
  pub others : (other : ℕ) → Contains firsts other → (other ≡ first → ⊥) → (links : List Link) → IsWay size pages other links 0 → (p : ℕ) → 0 < times p (pages_on links) → IsUntouched pages after p
  pub root : free_pages size after ≡ free_pages size pages → IsUntouched pages after 0
  pub turn : Turns rises (free_pages size pages) (free_pages size after)

pub spares-none : (rises : Bool) (size : ℕ) (pages : Pages) (firsts : List ℕ) (first : ℕ) → Spares rises size pages pages firsts first
spares-none rises size pages firsts first = record {
  others = λ other also differ links leads p there. (refl, refl);
  root = λ same. (refl, refl);
  turn = turns-same rises (free_pages size pages) (free_pages size pages) refl;
}

pub spares-then : (rises : Bool) (size : ℕ) (pages mid after : Pages) (firsts : List ℕ) (first : ℕ) → Spares rises size pages mid firsts first → Spares rises size mid after firsts first → Spares rises size pages after firsts first
spares-then rises size pages mid after firsts first one two = record {
  others = λ other also differ links leads p there.
      let here = one.others other also differ links leads p there in
      let then_ = two.others other also differ links (leads-same size pages mid other links 0 (λ q in_. (one.others other also differ links leads q in_).0) leads) p there in
      (then_.0 ∙ here.0, then_.1 ∙ here.1);
  root = λ same.
      let still = turns-still rises (free_pages size pages) (free_pages size mid) (free_pages size after) one.turn two.turn same in
      let here = one.root still.0 in
      let then_ = two.root still.1 in
      (then_.0 ∙ here.0, then_.1 ∙ here.1);
  turn = turns-trans rises (free_pages size pages) (free_pages size mid) (free_pages size after) one.turn two.turn;
}

-- a list of edited pages that a call on a table may edit
pub others-spared : (size : ℕ) (pages after : Pages) (firsts indexes : List ℕ) (first : ℕ) (well : WellFormed size pages firsts indexes) (has : Contains firsts first) (list : List ℕ) → EditsExactly pages after list → AllByRecursion (Within size pages firsts indexes first well has) list
    → (other : ℕ) → Contains firsts other → (other ≡ first → ⊥) → (links : List Link) → IsWay size pages other links 0 → (p : ℕ) → 0 < times p (pages_on links) → IsUntouched pages after p
others-spared size pages after firsts indexes first well has list edits all other also differ links leads p there =
    untouched pages after list p edits (all-imp (Within size pages firsts indexes first well has) (λ q. p ≡ q → ⊥) list
    (λ q within e. within-apart size pages firsts indexes first other well has also differ p q (subst (λ (k : ℕ). 0 < k) (own-links size pages firsts indexes other well also links leads p) there) within e) all)

own-spared : (size : ℕ) (pages after : Pages) (firsts indexes : List ℕ) (first : ℕ) (well : WellFormed size pages firsts indexes) (has : Contains firsts first) (list : List ℕ) → EditsExactly pages after list → AllByRecursion (λ q. 0 < times q (own size pages firsts indexes first well has)) list → IsUntouched pages after 0
own-spared size pages after firsts indexes first well has list edits all =
    untouched pages after list 0 edits (all-imp (λ q. 0 < times q (own size pages firsts indexes first well has)) (λ q. 0 ≡ q → ⊥) list
    (λ q here e. zero-apart size pages firsts indexes first well has (subst (λ (k : ℕ). 0 < times k (own size pages firsts indexes first well has)) (sym e) here)) all)

-- edits of a table's own pages alone
pub own-alone : (rises : Bool) (size : ℕ) (pages after : Pages) (firsts indexes : List ℕ) (first : ℕ) (well : WellFormed size pages firsts indexes) (has : Contains firsts first) (list : List ℕ) → free_pages size after ≡ free_pages size pages → EditsExactly pages after list → AllByRecursion (λ q. 0 < times q (own size pages firsts indexes first well has)) list → Spares rises size pages after firsts first
own-alone rises size pages after firsts indexes first well has list same edits all = record {
  others = others-spared size pages after firsts indexes first well has list edits (all-imp (λ q. 0 < times q (own size pages firsts indexes first well has)) (Within size pages firsts indexes first well has) list (λ q here. inr (inl here)) all);
  root = λ e. own-spared size pages after firsts indexes first well has list edits all;
  turn = turns-same rises (free_pages size pages) (free_pages size after) (sym same);
}

-- a row that is added
pub added-spares : (size : ℕ) (pages after : Pages) (firsts indexes : List ℕ) (first : ℕ) (table : Table) (row : List Value) (placed : ℕ × ℕ) → WellFormed size pages firsts indexes → Contains firsts first → AddsRow size pages firsts indexes first table row placed after → Spares false size pages after firsts first
added-spares size pages after firsts indexes first table row placed well has adds = go (has_room adds.tail (record { number = table.next_number; row = row })) adds.effect
  where
    go : (b : Bool) → IsAdded b size pages after first adds.last placed.1 → Spares false size pages after firsts first
    go true effect = own-alone false size pages after firsts indexes first well has (first ∷ adds.last ∷ []) effect.1 effect.2 (own-first size pages firsts indexes first well has, (own-last size pages firsts indexes first adds.last adds.tail well has adds.ends, tt))
    go false effect = record {
      others = others-spared size pages after firsts indexes first well has (first ∷ adds.last ∷ placed.1 ∷ 0 ∷ []) effect.1
          (inr (inl (own-first size pages firsts indexes first well has)), (inr (inl (own-last size pages firsts indexes first adds.last adds.tail well has adds.ends)), (inr (inr effect.0.next), (inl refl, tt))));
      root = λ same. absurd (omega (arith, same, effect.0.one_less));
      turn = omega (arith, effect.0.one_less);
    }

-- a row that is taken out
pub removed-spares : (size : ℕ) (pages after : Pages) (firsts indexes : List ℕ) (first : ℕ) (table : Table) (page number : ℕ) → WellFormed size pages firsts indexes → Contains firsts first → RemovesRow size pages firsts indexes first table page number after → Spares true size pages after firsts first
removed-spares size pages after firsts indexes first table page number well has removes = go (leaves first page removes.held) removes.effect
  where
    here : 0 < times page (own size pages firsts indexes first well has)
    here = own-met size pages firsts indexes first page removes.previous removes.held well has removes.stood

    rest : (b : Bool) → AllByRecursion (Within size pages firsts indexes first well has) (cond b (first ∷ []) [])
    rest true = (inr (inl (own-first size pages firsts indexes first well has)), tt)
    rest false = tt

    go : (b : Bool) → IsRemoved b size pages after first removes.previous page removes.held → Spares true size pages after firsts first
    go false effect = own-alone true size pages after firsts indexes first well has (page ∷ []) effect.0 effect.1 (here, tt)
    go true effect = record {
      others = others-spared size pages after firsts indexes first well has (removes.previous ∷ page ∷ 0 ∷ cond (removes.held.next == 0) (first ∷ []) []) effect.1
          (previous-within size pages firsts indexes first page removes.previous removes.held well has removes.stood, (inr (inl here), (inl refl, rest (removes.held.next == 0))));
      root = λ same. absurd (omega (arith, same, effect.0.one_more));
      turn = omega (arith, effect.0.one_more);
    }

-- a table that is made
pub made-spares : (size : ℕ) (pages after : Pages) (firsts indexes : List ℕ) (first : ℕ) → WellFormed size pages firsts indexes → MakesTable size pages firsts indexes first after
    → (other : ℕ) → Contains firsts other → (links : List Link) → IsWay size pages other links 0 → (p : ℕ) → 0 < times p (pages_on links) → IsUntouched pages after p
made-spares size pages after firsts indexes first well makes other also links leads p there =
    let here : 0 < times p (own size pages firsts indexes other well also) = subst (λ (k : ℕ). 0 < k) (own-links size pages firsts indexes other well also links leads p) there in
    untouched pages after (first ∷ 0 ∷ []) p makes.edits ((λ e. free-apart size pages firsts indexes other well also p here (e ∙ makes.takes.next)), ((λ e. zero-apart size pages firsts indexes other well also (subst (λ (k : ℕ). 0 < times k (own size pages firsts indexes other well also)) e here)), tt))
