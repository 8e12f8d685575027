-- The pages that are taken next, once one was taken.
use Rattle.std.proofs.Common.{◌≡◌, ◌≢◌, ◌∙◌, ◌<◌, ◌≤◌, ◌+◌, ◌-◌, ◌&&◌, cond, ℕ, zero, suc, Bool, true, false, eqb, ◌==◌, ltb, nat_lt, List, [], ◌∷◌, length, map, get_or, Result, Ok, Err, inl, inr, refl, sym, ap, subst, arith, eq-eqb}
use Rattle.std.specs.List.{AllByRecursion, range_with_len}
use Rattle.std.proofs.lemmas.Bool.{eqb-true, le-ltb, lt-ltb, ltb-true, ltb-false}
use Rattle.std.proofs.lemmas.Bool.Decides.{eqb_tells}
use Rattle.retro_base.specs.Fields.{number_at}
use Rattle.retro_base.specs.Gives.{◌>>=◌}
use Rattle.retro_base.specs.declared.refusal.Refusal.{Refusal}
use Rattle.retro_base.specs.declared.refusal.Refusal.TheVariants.{PagesFull}
use Rattle.pager.specs.Pages.{Pages, broken}
use Rattle.pager.specs.Root.{IsFreeList, behind_first, first_free, is_root, never_used, next_page, root_of, taken}
use Rattle.pager.specs.declared.root.Root.{Root}
use Rattle.heap_laws.specs.Store.{WellFormed, next_free, root_at, times}
use Rattle.heap_laws.proofs.Counts.{one_if}
use Rattle.heap_laws.proofs.Reading.{ok-one}
use Rattle.heap_laws.proofs.Roots.{IsRoot, root-written, rooted, true-root}
use Rattle.heap_laws.proofs.Routes.{times-here, times-cons}
use Rattle.relation_laws.specs.Needs.{free_behind, taken_after}
use Rattle.relation_laws.proofs.Reaching.{held-count}

-- the root page once a page was taken
abbrev pub root_behind : Pages → Root
root_behind pages = cond ((root_at pages).free == 0) (record { used = (root_at pages).used + 1; first_free = 0; free = 0 }) (behind_first (pages.at (root_at pages).first_free) (root_at pages))

-- the page that is taken, and the pages after it
abbrev after_next : Pages → Result (ℕ × Root) Refusal → Result (ℕ × Pages) Refusal
after_next pages next = next >>= λ n. Ok (n.0, rooted pages n.1)

-- an answer is this one
abbrev Is : Result (ℕ × Pages) Refusal → Result (ℕ × Pages) Refusal → Type 0
Is answer other = answer ≡ other

pub ok-no : {A P : Type 0} {x : A} {why : Refusal} → Err why ≡ Ok x → P
ok-no e = absurd cc

-- a page that is taken leaves that root
pub taken-root : (size : ℕ) (pages : Pages) (firsts indexes : List ℕ) (next : ℕ × Pages) → WellFormed size pages firsts indexes → taken size pages ≡ Ok next → root_at next.1 ≡ root_behind pages
taken-root size pages firsts indexes next well is = go (eqb (root_at pages).free 0) refl (sym step ∙ is)
  where
    step : taken size pages ≡ after_next pages (next_page size pages (root_at pages))
    step = rw well.root refl

    written_root : (page : ℕ) (root : Root) → IsRoot size root → Is (Ok (page, rooted pages root)) (Ok next) → root_at next.1 ≡ root
    written_root page root good e = ap (λ (n : ℕ × Pages). root_at n.1) (sym (ok-one e)) ∙ root-written size pages root well.small good

    go : (b : Bool) → eqb (root_at pages).free 0 ≡ b → after_next pages (cond b (never_used size (root_at pages)) (first_free size pages (root_at pages))) ≡ Ok next
        → root_at next.1 ≡ cond b (record { used = (root_at pages).used + 1; first_free = 0; free = 0 }) (behind_first (pages.at (root_at pages).first_free) (root_at pages))
    go true none e = unused (ltb (2 + (root_at pages).used) size) refl e
      where
        unused : (room : Bool) → ltb (2 + (root_at pages).used) size ≡ room → after_next pages (cond room (Ok (2 + (root_at pages).used, record { used = (root_at pages).used + 1; first_free = 0; free = 0 })) (Err (PagesFull size))) ≡ Ok next
            → root_at next.1 ≡ record { used = (root_at pages).used + 1; first_free = 0; free = 0 }
        unused true room e = written_root (2 + (root_at pages).used) (record { used = (root_at pages).used + 1; first_free = 0; free = 0 }) (record { within = omega (arith, ltb-true _ _ room); few = omega arith; none = λ e. refl; some = λ lt. absurd (omega (arith, lt)) }) e
        unused false room e = ok-no e
    go false some e = there (ltb (root_at pages).first_free size) e
      where
        there : (inside : Bool) → after_next pages (cond inside (Ok (pages.at (root_at pages).first_free)) (Err (broken (root_at pages).first_free)) >>= λ bytes. cond (eqb (get_or bytes 0 0) 3 && is_root size (behind_first bytes (root_at pages))) (Ok ((root_at pages).first_free, behind_first bytes (root_at pages))) (Err (broken (root_at pages).first_free))) ≡ Ok next
            → root_at next.1 ≡ behind_first (pages.at (root_at pages).first_free) (root_at pages)
        there true e = kind (eqb (get_or (pages.at (root_at pages).first_free) 0 0) 3) (is_root size (behind_first (pages.at (root_at pages).first_free) (root_at pages))) refl e
          where
            kind : (a b : Bool) → is_root size (behind_first (pages.at (root_at pages).first_free) (root_at pages)) ≡ b → after_next pages (cond (a && b) (Ok ((root_at pages).first_free, behind_first (pages.at (root_at pages).first_free) (root_at pages))) (Err (broken (root_at pages).first_free))) ≡ Ok next
                → root_at next.1 ≡ behind_first (pages.at (root_at pages).first_free) (root_at pages)
            kind true true good e = written_root (root_at pages).first_free (behind_first (pages.at (root_at pages).first_free) (root_at pages)) (true-root size _ good) e
            kind true false good e = ok-no e
            kind false b good e = ok-no e
        there false e = ok-no e

-- the pages that are taken next are those behind so many
pub record Draws (pages after : Pages) (opens : ℕ) : Type 0 where
  pub goes : (others : ℕ) → taken_after after others ≡ taken_after pages (opens + others)

pub draws-then : (pages mid after : Pages) (one two : ℕ) → Draws pages mid one → Draws mid after two → Draws pages after (one + two)
draws-then pages mid after one two first_part second_part = record {
  goes = λ k. second_part.goes k ∙ first_part.goes (two + k) ∙ ap (taken_after pages) (same k);
}
  where
    same : (k : ℕ) → one + (two + k) ≡ (one + two) + k
    same k = omega arith

zero-plus : (k : ℕ) → k ≡ 0 + k
zero-plus k = omega arith

pub draws-still : (pages : Pages) → Draws pages pages 0
draws-still pages = record { goes = λ k. ap (taken_after pages) (zero-plus k) }

pub draws-pages : (pages after : Pages) (opens from count : ℕ) → Draws pages after opens → map (taken_after after) (range_with_len from count) ≡ map (taken_after pages) (range_with_len (opens + from) count)
draws-pages pages after opens from zero draws = refl
draws-pages pages after opens from (suc count) draws = both (draws.goes from) (draws-pages pages after opens (from + 1) count draws ∙ ap (λ (n : ℕ). map (taken_after pages) (range_with_len n count)) shift)
  where
    shift : opens + (from + 1) ≡ (opens + from) + 1
    shift = omega arith

    both : {x y : ℕ} {xs ys : List ℕ} → x ≡ y → xs ≡ ys → x ∷ xs ≡ y ∷ ys
    both e f = cc (e, f)

pub all-times : (list : List ℕ) (P : ℕ → Type 0) → ((p : ℕ) → 0 < times p list → P p) → AllByRecursion P list
all-times [] P go = tt
all-times (q ∷ list) P go = (go q (omega (arith, times-here q list)), all-times list P (λ p some. go p (omega (arith, some, times-cons p q list))))

-- the first page that is taken next
pub next-first : (pages : Pages) → next_free pages ≡ taken_after pages 0
next-first pages = elim (eqb_tells (root_at pages).free 0) [
  | inl none ↦ rw none.1 (omega arith)
  | inr some ↦ rw (some.0, lt-ltb 0 (root_at pages).free (omega (arith, some.1))) refl
]

-- the free list is walked alike where its pages are alike
free-alike : (pages after : Pages) (first : ℕ) (free : List ℕ) (k : ℕ) → IsFreeList pages first free → k < length free → AllByRecursion (λ p. after.at p ≡ pages.at p) free → free_behind after first k ≡ free_behind pages first k
free-alike pages after first free zero listed lt same = refl
free-alike pages after first [] (suc k) listed lt same = absurd (omega (arith, lt))
free-alike pages after first (page ∷ free) (suc k) listed lt same =
    ap (λ (b : List ℕ). free_behind after (number_at 4 b 4) k) (ap after.at listed.0 ∙ same.0 ∙ ap pages.at (sym listed.0))
    ∙ ap (λ (p : ℕ). free_behind after (number_at 4 (pages.at p) 4) k) listed.0
    ∙ free-alike pages after (number_at 4 (pages.at page) 4) free k listed.2 (omega (arith, lt)) same.1
    ∙ ap (λ (p : ℕ). free_behind pages (number_at 4 (pages.at p) 4) k) (sym listed.0)

-- the root page and the free list stay
pub draws-none : (size : ℕ) (pages after : Pages) (firsts indexes : List ℕ) → (well : WellFormed size pages firsts indexes) → after.at 0 ≡ pages.at 0 → AllByRecursion (λ p. after.at p ≡ pages.at p) well.free → Draws pages after 0
draws-none size pages after firsts indexes well root same = record { goes = λ k. (rw root (go k (nat_lt k (root_at pages).free) refl)) ∙ ap (taken_after pages) (zero-plus k) }
  where
    go : (k : ℕ) (b : Bool) → nat_lt k (root_at pages).free ≡ b → cond b (free_behind after (root_at pages).first_free k) (2 + (root_at pages).used + (k - (root_at pages).free)) ≡ cond b (free_behind pages (root_at pages).first_free k) (2 + (root_at pages).used + (k - (root_at pages).free))
    go k true lt = free-alike pages after (root_at pages).first_free well.free k well.listed (omega (arith, ltb-true k (root_at pages).free lt, well.counted)) same
    go k false lt = refl

-- the page that is taken after so many others, where this is the root page
abbrev from_root : Pages → Root → ℕ → ℕ
from_root pages root others = cond (nat_lt others root.free) (free_behind pages root.first_free others) (2 + root.used + (others - root.free))

plus-one : (k : ℕ) → suc k ≡ 1 + k
plus-one k = omega arith

-- a page was taken, and the free list behind it stays
pub draws-one : (size : ℕ) (pages after : Pages) (firsts indexes : List ℕ) (next : ℕ × Pages) → (well : WellFormed size pages firsts indexes) → taken size pages ≡ Ok next → after.at 0 ≡ next.1.at 0 → ((p : ℕ) → 0 < times p well.free → p ≢ next_free pages → after.at p ≡ pages.at p) → Draws pages after 1
draws-one size pages after firsts indexes next well take root same = record { goes = λ k. go k ((root_at pages).free == 0) refl (roots) }
  where
    roots : root_at after ≡ root_behind pages
    roots = ap (λ (b : List ℕ). root_of b) root ∙ taken-root size pages firsts indexes next well take

    go : (k : ℕ) (b : Bool) → ((root_at pages).free == 0) ≡ b → root_at after ≡ cond b (record { used = (root_at pages).used + 1; first_free = 0; free = 0 }) (behind_first (pages.at (root_at pages).first_free) (root_at pages)) → taken_after after k ≡ taken_after pages (1 + k)
    go k true none e = ap (λ (root : Root). from_root after root k) e ∙ unused (root_at pages) (eqb-true (root_at pages).free 0 none)
      where
        unused : (root : Root) → root.free ≡ 0 → from_root after (record { used = root.used + 1; first_free = 0; free = 0 }) k ≡ from_root pages root (1 + k)
        unused root none = rw (none, le-ltb k 0 (omega arith), le-ltb (1 + k) 0 (omega arith)) (omega arith)
    go k false some e = listed well.free refl
      where
        clash : true ≡ false → ⊥
        clash x = cc

        listed : (free : List ℕ) → well.free ≡ free → taken_after after k ≡ taken_after pages (1 + k)
        listed [] is = absurd (clash (sym (eq-eqb (root_at pages).free 0 (sym well.counted ∙ ap length is)) ∙ some))
        listed (page ∷ rest) is = ap (λ (root : Root). from_root after root k) e ∙ pick (nat_lt k ((root_at pages).free - 1)) refl
          where
            chain : IsFreeList pages (root_at pages).first_free (page ∷ rest)
            chain = subst (IsFreeList pages (root_at pages).first_free) is well.listed

            long : suc (length rest) ≡ (root_at pages).free
            long = ap length (sym is) ∙ well.counted

            front : next_free pages ≡ page
            front = (rw some refl) ∙ chain.0

            apart : (p : ℕ) → 0 < times p rest → p ≢ page
            apart p some_ same_page = absurd (omega (arith, well.once p, held-count size pages firsts indexes well p, ap (times p) is, times-cons p page rest, some_, ap one_if (eq-eqb page p (sym same_page))))

            stays : AllByRecursion (λ p. after.at p ≡ pages.at p) rest
            stays = all-times rest (λ p. after.at p ≡ pages.at p) (λ p some_. same p (omega (arith, ap (times p) is, times-cons p page rest, some_)) (λ e. apart p some_ (e ∙ front)))

            pick : (b : Bool) → nat_lt k ((root_at pages).free - 1) ≡ b → cond b (free_behind after (number_at 4 (pages.at (root_at pages).first_free) 4) k) (2 + (root_at pages).used + (k - ((root_at pages).free - 1))) ≡ taken_after pages (1 + k)
            pick true lt =
                let below : k < (root_at pages).free - 1 = ltb-true k ((root_at pages).free - 1) lt in
                rw (lt-ltb (1 + k) (root_at pages).free (omega (arith, below)))
                (free-alike pages after (number_at 4 (pages.at (root_at pages).first_free) 4) rest k (subst (λ (f : ℕ). IsFreeList pages (number_at 4 (pages.at f) 4) rest) (sym chain.0) chain.2) (omega (arith, below, long)) stays ∙ ap (free_behind pages (root_at pages).first_free) (plus-one k))
            pick false ge =
                let above : (root_at pages).free - 1 ≤ k = ltb-false k ((root_at pages).free - 1) ge in
                rw (le-ltb (1 + k) (root_at pages).free (omega (arith, above, long))) (omega (arith, above, long))
