-- The page that is taken, and pages after a write.
use Rattle.std.proofs.Common.{◌≡◌, ◌<◌, ◌≤◌, ◌+◌, ◌^◌, ◌∙◌, ◌&&◌, ℕ, Bool, true, false, cond, eqb, leb, ltb, List, Result, Ok, Err, refl, sym, ap, subst, arith}
use Rattle.std.specs.Prelude.{slice_index}
use Rattle.std.proofs.lemmas.Bool.{and_parts, eq-eqb, leb-true, ltb-true}
use Rattle.retro_base.specs.Gives.{◌>>=◌}
use Rattle.retro_base.specs.declared.refusal.Refusal.{Refusal}
use Rattle.pager.specs.Pages.{Pages, with_bytes, broken}
use Rattle.pager.specs.Root.{behind_first, first_free, is_root, never_used, next_page, root_bytes, root_in, root_of, taken}
use Rattle.pager.specs.declared.root.Root.{Root}
use Rattle.index_page.specs.IndexPage.{AreWritable, page_bytes}
use Rattle.index_page.specs.Paging.{IsIndexAt}
use Rattle.index_page.specs.declared.page.IndexPage.{IndexPage}
use Rattle.index_page.proofs.Packing.{written_holds}

-- the page that is taken is one of the store's behind its first two, and the root page alone is written
pub record Taken (size : ℕ) (pages : Pages) (page : ℕ) (after : Pages) : Type 0 where
  pub low : 2 ≤ page
  pub there : page < size
  pub root : Root
  pub is : after ≡ with_bytes pages 0 (root_bytes root)

-- an answer has one value, and is no refusal
pub ok_is : {A : Type 0} (r : Result A Refusal) (x y : A) → r ≡ Ok x → r ≡ Ok y → x ≡ y
ok_is r x y p q = cc (p, q)

pub no-refusal : {A P : Type 0} (x : A) (why : Refusal) → Ok x ≡ Err why → P
no-refusal x why e = absurd cc

chosen : {X : Type 0} (y z : X) (why : Refusal) (good : Bool) → cond good (Ok y) (Err why) ≡ Ok z → (good ≡ true) × (y ≡ z)
chosen y z why true e = (refl, cc)
chosen y z why false e = no-refusal z why (sym e)

gated : {X : Type 0} (bytes : List ℕ) (good : List ℕ → Bool) (x : List ℕ → X) (z : X) (why : Refusal) (there : Bool) → (cond there (Ok bytes) (Err why) >>= λ b. cond (good b) (Ok (x b)) (Err why)) ≡ Ok z → (there ≡ true) × (good bytes ≡ true) × (x bytes ≡ z)
gated bytes good x z why true e = let found = chosen (x bytes) z why (good bytes) e in (refl, found.0, found.1)
gated bytes good x z why false e = no-refusal z why (sym e)

next-bounds : (size : ℕ) (pages : Pages) (root : Root) (next : ℕ × Root) → is_root size root ≡ true → next_page size pages root ≡ Ok next → (2 ≤ next.0) × (next.0 < size)
next-bounds size pages root next is = step (eqb root.free 0) refl
  where
    step : (b : Bool) → eqb root.free 0 ≡ b → cond b (never_used size root) (first_free size pages root) ≡ Ok next → (2 ≤ next.0) × (next.0 < size)
    step true e h =
        let made : ℕ × Root = (2 + root.used, record { used = root.used + 1; first_free = 0; free = 0 }) in
        let found = chosen made next _ (ltb (2 + root.used) size) h in
        let same : 2 + root.used ≡ next.0 = ap (λ (p : ℕ × Root). p.0) found.1 in
        (omega arith, omega (arith, ltb-true _ _ found.0))
    step false e h =
        let found = gated (pages.at root.first_free) (λ bytes. (eqb (slice_index bytes 0) 3) && is_root size (behind_first bytes root)) (λ bytes. (root.first_free, behind_first bytes root)) next (broken root.first_free) (ltb root.first_free size) h in
        let same : root.first_free ≡ next.0 = ap (λ (p : ℕ × Root). p.0) found.2 in
        let rest = and_parts (leb (2 + root.used) size && leb root.free root.used) _ is in
        let named = and_parts (leb 2 root.first_free) _ (rw e at rest.1) in
        (omega (arith, leb-true _ _ named.0), omega (arith, ltb-true _ _ found.0))

root-good : (size : ℕ) (pages : Pages) (root : Root) → root_in size pages ≡ Ok root → is_root size root ≡ true
root-good size pages root e =
    let found = gated (pages.at 0) (λ bytes. is_root size (root_of bytes)) (λ bytes. root_of bytes) root (broken 0) (ltb 0 size) e in
    subst (λ (r : Root). is_root size r ≡ true) found.2 found.1

pub taken-is : (size : ℕ) (pages : Pages) (page : ℕ) (after : Pages) → taken size pages ≡ Ok (page, after) → Taken size pages page after
taken-is size pages page after took = from-root (root_in size pages) refl
  where
    step : (root : Root) → root_in size pages ≡ Ok root → (n : Result (ℕ × Root) Refusal) → next_page size pages root ≡ n → Taken size pages page after
    step root e (Ok found) f =
        let wanted : ℕ × Pages = (page, after) in
        let made : ℕ × Pages = (found.0, with_bytes pages 0 (root_bytes found.1)) in
        let same : wanted ≡ made = ok_is (taken size pages) wanted made took (rw (e, f) refl) in
        let one : page ≡ found.0 = ap (λ (p : ℕ × Pages). p.0) same in
        let bounds = next-bounds size pages root found (root-good size pages root e) f in
        record {
          low = omega (arith, one, bounds.0);
          there = omega (arith, one, bounds.1);
          root = found.1;
          is = ap (λ (p : ℕ × Pages). p.1) same;
        }
    step root e (Err why) f = no-refusal (page, after) why (sym took ∙ (rw (e, f) refl))

    from-root : (r : Result Root Refusal) → root_in size pages ≡ r → Taken size pages page after
    from-root (Ok root) e = step root e (next_page size pages root) refl
    from-root (Err why) e = no-refusal (page, after) why (sym took ∙ (rw e refl))

-- another page is as it was
pub written-other : (pages : Pages) (page other : ℕ) (bytes : List ℕ) → eqb other page ≡ false → (with_bytes pages page bytes).at other ≡ pages.at other
written-other pages page other bytes e = rw e refl

pub unmarked-other : (pages : Pages) (page other : ℕ) (bytes : List ℕ) → eqb other page ≡ false → (with_bytes pages page bytes).edited other ≡ pages.edited other
unmarked-other pages page other bytes e = rw e refl

-- a page that was written holds what was written
pub at-own : (size : ℕ) (pages : Pages) (page : ℕ) (held : IndexPage) → 2 ≤ page → page < size → held.link < 2 ^ 32 → AreWritable held.entries → IsIndexAt size (with_bytes pages page (page_bytes held)) page held
at-own size pages page held low there link is = record { low = low; there = there; holds = rw (eq-eqb page page refl) (written_holds held link is) }

-- another one holds what it held
pub at-other : (size : ℕ) (pages : Pages) (page other : ℕ) (bytes : List ℕ) (held : IndexPage) → eqb page other ≡ false → IsIndexAt size pages page held → IsIndexAt size (with_bytes pages other bytes) page held
at-other size pages page other bytes held differ is = record { low = is.low; there = is.there; holds = rw differ is.holds }
