-- Pages that are taken and freed in a well-formed store.
use Rattle.std.proofs.Common.{◌≡◌, ◌≢◌, ◌<◌, ◌≤◌, ◌+◌, ◌-◌, ◌^◌, ◌++◌, ◌∙◌, ◌⊎◌, ◌&&◌, ◌||◌, ℕ, zero, suc, Bool, true, false, cond, eqb, leb, ltb, List, [], ◌∷◌, length, replicate, get_or, flat_map, Result, Ok, Err, inl, inr, refl, sym, ap, arith, subst, eq-eqb, ne_eqb, append_assoc, length-append}
use Rattle.std.proofs.lemmas.Bool.{leb-true, le-leb, lt-ltb, ltb-true, ltb-false, eqb-true}
use Rattle.std.proofs.lemmas.Bool.Decides.{eqb_tells}
use Rattle.retro_base.specs.Fields.{number_at, field_bytes}
use Rattle.retro_base.specs.Gives.{◌>>=◌}
use Rattle.retro_base.proofs.FieldLaws.{length-field_bytes, number_at-field}
use Rattle.retro_base.specs.declared.refusal.Refusal.{Refusal}
use Rattle.retro_base.specs.declared.refusal.Refusal.TheVariants.{PagesFull}
use Rattle.pager.specs.Pages.{Pages, with_bytes, broken}
use Rattle.pager.specs.Root.{behind_first, first_free, free_bytes, free_count, freed, in_front, is_root, never_used, next_page, page_in, root_bytes, root_in, root_of, taken, IsFreeList}
use Rattle.pager.specs.declared.root.Root.{Root}
use Rattle.heap_laws.specs.Store.{WellFormed, free_pages, next_free, pages_of, pages_behind, pages_held, pages_inner, root_at, times}
use Rattle.heap_laws.specs.Table.{AllStay, EditsExactly, Frees, TakesPage}
use Rattle.heap_laws.proofs.Counts.{one_if, pigeons}
use Rattle.heap_laws.proofs.Routes.{times-append, times-cons, times-here, written-other}
use Rattle.heap_laws.proofs.Stores.{all-stay, chains-same, frees-same, root-apart}

-- the root page tells what was written in it
pub root-read : (root : Root) → root.used < 2 ^ 32 → root.first_free < 2 ^ 32 → root.free < 2 ^ 32 → root_of (root_bytes root) ≡ root
unfolding number_at field_bytes
root-read root used first free =
    let a = field_bytes 4 root.used in
    let b = field_bytes 4 root.first_free in
    let c = field_bytes 4 root.free in
    let z = replicate 1012 0 in
    let one : (a ++ (b ++ c)) ++ z ≡ a ++ ((b ++ c) ++ z) = append_assoc a (b ++ c) z in
    let two : (a ++ (b ++ c)) ++ z ≡ a ++ (b ++ (c ++ z)) = one ∙ ap (λ (l : List ℕ). a ++ l) (append_assoc b c z) in
    let three : (a ++ (b ++ c)) ++ z ≡ (a ++ b) ++ (c ++ z) = two ∙ sym (append_assoc a b (c ++ z)) in
    made (ap (λ (l : List ℕ). number_at 4 l 0) one ∙ number_at-field 4 root.used 0 [] ((b ++ c) ++ z) refl used)
    (ap (λ (l : List ℕ). number_at 4 l 4) two ∙ number_at-field 4 root.first_free 4 a (c ++ z) (length-field_bytes 4 root.used) first)
    (ap (λ (l : List ℕ). number_at 4 l 8) three ∙ number_at-field 4 root.free 8 (a ++ b) z (omega (arith, length-append a b, length-field_bytes 4 root.used, length-field_bytes 4 root.first_free)) free)
  where
    made : number_at 4 (root_bytes root) 0 ≡ root.used → number_at 4 (root_bytes root) 4 ≡ root.first_free → number_at 4 (root_bytes root) 8 ≡ root.free → root_of (root_bytes root) ≡ root
    made p q r = λ i. record { used = p i; first_free = q i; free = r i }

-- a free page tells the next one
pub free-read : (next : ℕ) → next < 2 ^ 32 → number_at 4 (free_bytes next) 4 ≡ next
free-read next fits = number_at-field 4 next 4 (3 ∷ 0 ∷ 0 ∷ 0 ∷ []) (replicate 1016 0) refl fits

-- what a root page is
pub record IsRoot (size : ℕ) (root : Root) : Type 0 where
  pub within : 2 + root.used ≤ size
  pub few : root.free ≤ root.used
  pub none : root.free ≡ 0 → root.first_free ≡ 0
  pub some : 0 < root.free → (2 ≤ root.first_free) × (root.first_free < 2 + root.used)

and-true : (a b : Bool) → a ≡ true → b ≡ true → (a && b) ≡ true
and-true true true p q = refl
and-true true false p q = q
and-true false b p q = p

pub root-true : (size : ℕ) (root : Root) → IsRoot size root → is_root size root ≡ true
root-true size root is =
    and-true (leb (2 + root.used) size && leb root.free root.used) _ (and-true (leb (2 + root.used) size) _ (le-leb _ _ is.within) (le-leb _ _ is.few)) (front (eqb root.free 0) refl)
  where
    front : (b : Bool) → eqb root.free 0 ≡ b → cond b (eqb root.first_free 0) (leb 2 root.first_free && ltb root.first_free (2 + root.used)) ≡ true
    front true e = eq-eqb root.first_free 0 (is.none (eqb-true root.free 0 e))
    front false e =
        let some = is.some (positive (eqb_tells root.free 0)) in
        and-true (leb 2 root.first_free) _ (le-leb _ _ some.0) (lt-ltb _ _ some.1)
      where
        positive : ((eqb root.free 0 ≡ true) × (root.free ≡ 0)) ⊎ ((eqb root.free 0 ≡ false) × (root.free ≢ 0)) → 0 < root.free
        positive (inl zero_) = absurd (clash (sym zero_.0 ∙ e))
          where
            clash : true ≡ false → ⊥
            clash x = cc
        positive (inr differ) = omega (arith, differ.1)

pub true-root : (size : ℕ) (root : Root) → is_root size root ≡ true → IsRoot size root
true-root size root is =
    let rest = and-split (leb (2 + root.used) size && leb root.free root.used) _ is in
    let parts = and-split (leb (2 + root.used) size) _ rest.0 in
    record {
      within = leb-true _ _ parts.0;
      few = leb-true _ _ parts.1;
      none = λ e. eqb-true _ _ (rw (eq-eqb root.free 0 e) at rest.1);
      some = λ lt. let front = and-split (leb 2 root.first_free) _ (rw (ne_eqb root.free 0 (λ e. absurd (omega (arith, lt, e)))) at rest.1) in (leb-true _ _ front.0, ltb-true _ _ front.1);
    }
  where
    and-split : (a b : Bool) → (a && b) ≡ true → (a ≡ true) × (b ≡ true)
    and-split true b e = (refl, e)
    and-split false b e = absurd cc

-- the root page of a store is one
pub root-is : (size : ℕ) (pages : Pages) → root_in size pages ≡ Ok (root_at pages) → (0 < size) × IsRoot size (root_at pages)
root-is size pages is = there (ltb 0 size) refl (is_root size (root_at pages)) refl is
  where
    there : (a : Bool) → ltb 0 size ≡ a → (b : Bool) → is_root size (root_at pages) ≡ b → (cond a (Ok (pages.at 0)) (Err (broken 0)) >>= λ bytes. cond (is_root size (root_of bytes)) (Ok (root_of bytes)) (Err (broken 0))) ≡ Ok (root_at pages) → (0 < size) × IsRoot size (root_at pages)
    there true a true b e = (ltb-true 0 size a, true-root size (root_at pages) b)
    there true a false b e = absurd (bad (rw b at e))
      where
        bad : Err (broken 0) ≡ Ok (root_at pages) → ⊥
        bad x = cc
    there false a b c e = absurd cc

pub root-made : (size : ℕ) (pages : Pages) → 0 < size → IsRoot size (root_at pages) → root_in size pages ≡ Ok (root_at pages)
root-made size pages some is = rw (lt-ltb 0 size some, root-true size (root_at pages) is) refl

-- the pages of a store after its root page alone was written
abbrev pub rooted : Pages → Root → Pages
rooted pages root = with_bytes pages 0 (root_bytes root)

pub root-written : (size : ℕ) (pages : Pages) (root : Root) → size < 2 ^ 32 → IsRoot size root → root_at (rooted pages root) ≡ root
root-written size pages root small is =
    root-read root (omega (arith, is.within)) (first (eqb_tells root.free 0)) (omega (arith, is.within, is.few))
  where
    first : ((eqb root.free 0 ≡ true) × (root.free ≡ 0)) ⊎ ((eqb root.free 0 ≡ false) × (root.free ≢ 0)) → root.first_free < 2 ^ 32
    first (inl none) = omega (arith, is.none none.1)
    first (inr some) = omega (arith, is.within, (is.some (omega (arith, some.1))).1)

-- no page but the root is another
pub rooted-same : (pages : Pages) (root : Root) (p : ℕ) → (p ≡ 0 → ⊥) → (rooted pages root).at p ≡ pages.at p
rooted-same pages root p other = written-other pages 0 p (root_bytes root) other

pub rooted-edits : (pages : Pages) (root : Root) → EditsExactly pages (rooted pages root) (0 ∷ [])
rooted-edits pages root = record {
  same = λ p off. rooted-same pages root p (λ e. absurd (clash (sym (ap (λ (n : ℕ). eqb n 0 || false) e) ∙ off)));
  edited = λ p. last (eqb p 0) (pages.edited p);
}
  where
    clash : true ≡ false → ⊥
    clash e = cc

    last : (a b : Bool) → (a || b) ≡ ((a || false) || b)
    last true b = refl
    last false b = refl

-- a page was taken: it is the indexes', and no table is another
pub record Taken (size : ℕ) (pages : Pages) (firsts indexes : List ℕ) (page : ℕ) (after : Pages) : Type 0 where
  pub root : Root
  pub after_is : after ≡ rooted pages root
  pub well : WellFormed size after firsts (page ∷ indexes)
  pub stay : AllStay size pages after firsts
  pub takes : TakesPage size pages after page
  pub behind : 2 ≤ page
  pub there : page < size

-- what a store has that a page is taken from
pub record Taking (size : ℕ) (pages : Pages) (firsts indexes : List ℕ) (well : WellFormed size pages firsts indexes) (page : ℕ) (root : Root) (free : List ℕ) : Type 0 where
  pub is : IsRoot size root
  pub listed : IsFreeList pages root.first_free free
  pub counted : length free ≡ root.free
  pub high : (root_at pages).used ≤ root.used
  pub low : 2 ≤ page
  pub inside : page < 2 + root.used
  pub moves : (p : ℕ) → times p (page ∷ free) ≤ times p well.free + one_if (eqb page p)
  pub once : (p : ℕ) → times p (pages_held well.chains indexes well.free) + times p (page ∷ free) ≤ 1 + times p well.free
  pub next : page ≡ next_free pages
  pub one_less : 1 + free_count size root ≡ free_pages size pages

pub take-well : (size : ℕ) (pages : Pages) (firsts indexes : List ℕ) (well : WellFormed size pages firsts indexes) (page : ℕ) (root : Root) (free : List ℕ) → Taking size pages firsts indexes well page root free → Taken size pages firsts indexes page (rooted pages root)
take-well size pages firsts indexes well page root free taking =
    let after = rooted pages root in
    let tells = root-written size pages root well.small taking.is in
    let apart = root-apart size pages firsts indexes well in
    let held : (p : ℕ) (list more : List ℕ) → times p (pages_held well.chains more list) ≡ times p (flat_map pages_of well.chains) + (times p more + times p list) =
    λ p list more. times-append p (flat_map pages_of well.chains) (more ++ list) ∙ ap (λ (k : ℕ). times p (flat_map pages_of well.chains) + k) (times-append p more list) in
    let off : (p : ℕ) → 0 < times p (flat_map pages_of well.chains) → after.at p ≡ pages.at p =
    λ p some. rooted-same pages root p (λ e. absurd (omega (arith, subst (λ (q : ℕ). 0 < times q (flat_map pages_of well.chains)) e some, held 0 well.free indexes, apart))) in
    let room = root-is size pages well.root in
    let zero_free : times 0 free ≡ 0 =
    omega (arith, taking.moves 0, times-cons 0 page free, ap one_if (ne_eqb page 0 (λ e. absurd (omega (arith, e, taking.low)))), held 0 well.free indexes, apart) in
    let now : (p : ℕ) → times p (pages_held well.chains (page ∷ indexes) free) + times p well.free ≡ times p (pages_held well.chains indexes well.free) + times p (page ∷ free) =
    λ p. omega (arith, held p free (page ∷ indexes), held p well.free indexes, times-cons p page indexes, times-cons p page free) in
    let inner : (p : ℕ) → times p (pages_inner well.chains (page ∷ indexes) free) + times p well.free ≡ times p (pages_inner well.chains indexes well.free) + times p (page ∷ free) =
    λ p. omega (arith, inners p free (page ∷ indexes), inners p well.free indexes, times-cons p page indexes, times-cons p page free) in
    record {
      root = root;
      after_is = refl;
      well = record {
        small = well.small;
        root = root-made size after room.0 (subst (IsRoot size) (sym tells) taking.is);
        chains = well.chains;
        free = free;
        named = well.named;
        lawful = chains-same size pages after well.chains off well.lawful;
        listed = subst (λ (r : Root). IsFreeList after r.first_free free) (sym tells) (frees-same pages after root.first_free free (λ p some. rooted-same pages root p (λ e. absurd (omega (arith, subst (λ (q : ℕ). 0 < times q free) e some, zero_free)))) taking.listed);
        counted = taking.counted ∙ ap (λ (r : Root). r.free) (sym tells);
        once = λ p. omega (arith, now p, taking.once p);
        inside = λ p some. subst (λ (r : Root). (1 ≤ p) × (p < 2 + r.used)) (sym tells) (within p some (eqb_tells page p) (now p));
        inner = λ p some. low p some (eqb_tells page p) (inner p);
      };
      stay = all-stay size pages after firsts indexes well off;
      takes = record { next = taking.next; one_less = ap (λ (r : Root). 1 + free_count size r) tells ∙ taking.one_less };
      behind = taking.low;
      there = omega (arith, taking.inside, taking.is.within);
    }
  where
    inners : (p : ℕ) (list more : List ℕ) → times p (pages_inner well.chains more list) ≡ times p (flat_map pages_behind well.chains) + (times p more + times p list)
    inners p list more = times-append p (flat_map pages_behind well.chains) (more ++ list) ∙ ap (λ (k : ℕ). times p (flat_map pages_behind well.chains) + k) (times-append p more list)

    within : (p : ℕ) → 0 < times p (pages_held well.chains (page ∷ indexes) free) → ((eqb page p ≡ true) × (page ≡ p)) ⊎ ((eqb page p ≡ false) × (page ≢ p))
        → times p (pages_held well.chains (page ∷ indexes) free) + times p well.free ≡ times p (pages_held well.chains indexes well.free) + times p (page ∷ free) → (1 ≤ p) × (p < 2 + root.used)
    within p some (inl here) count = (omega (arith, here.1, taking.low), omega (arith, here.1, taking.inside))
    within p some (inr away) count =
        let more = taking.moves p in
        let before = well.inside p (omega (arith, some, count, more, ap one_if away.0)) in
        (before.0, omega (arith, before.1, taking.high))

    low : (p : ℕ) → 0 < times p (pages_inner well.chains (page ∷ indexes) free) → ((eqb page p ≡ true) × (page ≡ p)) ⊎ ((eqb page p ≡ false) × (page ≢ p))
        → times p (pages_inner well.chains (page ∷ indexes) free) + times p well.free ≡ times p (pages_inner well.chains indexes well.free) + times p (page ∷ free) → 2 ≤ p
    low p some (inl here) count = omega (arith, here.1, taking.low)
    low p some (inr away) count =
        let more = taking.moves p in
        well.inner p (omega (arith, some, count, more, ap one_if away.0))

-- where no page is in the free list, the first that was never used is taken
take-unused : (size : ℕ) (pages : Pages) (firsts indexes : List ℕ) (well : WellFormed size pages firsts indexes) → (root_at pages).free ≡ 0 → 2 + (root_at pages).used < size
    → Taking size pages firsts indexes well (2 + (root_at pages).used) (record { used = (root_at pages).used + 1; first_free = 0; free = 0 }) []
take-unused size pages firsts indexes well none room =
    let page = 2 + (root_at pages).used in
    record {
      is = record { within = omega (arith, room); few = omega arith; none = λ e. refl; some = λ lt. absurd (omega (arith, lt)) };
      listed = refl;
      counted = refl;
      high = omega arith;
      low = omega arith;
      inside = omega arith;
      moves = λ p. omega (arith, times-cons p page []);
      once = λ p. one p (eqb_tells page p);
      next = rw (eq-eqb (root_at pages).free 0 none) refl;
      one_less = omega (arith, none, room);
    }
  where
    one : (p : ℕ) → ((eqb (2 + (root_at pages).used) p ≡ true) × (2 + (root_at pages).used ≡ p)) ⊎ ((eqb (2 + (root_at pages).used) p ≡ false) × (2 + (root_at pages).used ≢ p))
        → times p (pages_held well.chains indexes well.free) + times p ((2 + (root_at pages).used) ∷ []) ≤ 1 + times p well.free
    one p (inr away) = omega (arith, well.once p, times-cons p (2 + (root_at pages).used) [], ap one_if away.0)
    one p (inl here) =
        omega (arith, none_there (times p (pages_held well.chains indexes well.free)) (well.inside p), times-cons p (2 + (root_at pages).used) [], ap one_if here.0)
      where
        none_there : (k : ℕ) → (0 < k → (1 ≤ p) × (p < 2 + (root_at pages).used)) → k ≡ 0
        none_there zero held = refl
        none_there (suc k) held = absurd (omega (arith, (held (omega arith)).1, here.1))

-- where the free list has a page, its first is taken
take-first : (size : ℕ) (pages : Pages) (firsts indexes : List ℕ) (well : WellFormed size pages firsts indexes) (page : ℕ) (free : List ℕ) → well.free ≡ page ∷ free → page ≡ (root_at pages).first_free
    → Taking size pages firsts indexes well page (record { used = (root_at pages).used; first_free = number_at 4 (pages.at page) 4; free = (root_at pages).free - 1 }) free
take-first size pages firsts indexes well page free is front =
    let root = root_at pages in
    let room = root-is size pages well.root in
    let listed = subst (IsFreeList pages root.first_free) is well.listed in
    let counted : suc (length free) ≡ root.free = ap length (sym is) ∙ well.counted in
    let held : (p : ℕ) → times p (pages_held well.chains indexes well.free) ≡ times p (flat_map pages_of well.chains) + (times p indexes + times p well.free) =
    λ p. times-append p (flat_map pages_of well.chains) (indexes ++ well.free) ∙ ap (λ (k : ℕ). times p (flat_map pages_of well.chains) + k) (times-append p indexes well.free) in
    let inners : (p : ℕ) → times p (pages_inner well.chains indexes well.free) ≡ times p (flat_map pages_behind well.chains) + (times p indexes + times p well.free) =
    λ p. times-append p (flat_map pages_behind well.chains) (indexes ++ well.free) ∙ ap (λ (k : ℕ). times p (flat_map pages_behind well.chains) + k) (times-append p indexes well.free) in
    let lists : (p : ℕ) → times p well.free ≡ one_if (eqb page p) + times p free = λ p. ap (times p) is ∙ times-cons p page free in
    let in_list : (p : ℕ) → 0 < times p well.free → (2 ≤ p) × (p < 2 + root.used) =
    λ p some. (well.inner p (omega (arith, some, inners p)), (well.inside p (omega (arith, some, held p))).1) in
    let mine = in_list page (omega (arith, lists page, ap one_if (eq-eqb page page refl))) in
    record {
      is = record {
        within = room.1.within;
        few = omega (arith, room.1.few);
        none = λ e. ended free listed.2 (omega (arith, e, counted));
        some = λ lt. goes free listed.2 (omega (arith, lt, counted)) (λ p some. in_list p (omega (arith, some, lists p)));
      };
      listed = listed.2;
      counted = omega (arith, counted);
      high = omega arith;
      low = mine.0;
      inside = mine.1;
      moves = λ p. omega (arith, lists p, times-cons p page free);
      once = λ p. omega (arith, well.once p, lists p, times-cons p page free);
      next = front ∙ (rw (ne_eqb root.free 0 (λ e. absurd (omega (arith, e, counted)))) refl);
      one_less = omega (arith, counted);
    }
  where
    ended : (list : List ℕ) → IsFreeList pages (number_at 4 (pages.at page) 4) list → length list ≡ 0 → number_at 4 (pages.at page) 4 ≡ 0
    ended [] listed none = listed
    ended (next ∷ rest) listed none = absurd cc

    goes : (list : List ℕ) → IsFreeList pages (number_at 4 (pages.at page) 4) list → 0 < length list → ((p : ℕ) → 0 < times p list → (2 ≤ p) × (p < 2 + (root_at pages).used)) → (2 ≤ number_at 4 (pages.at page) 4) × (number_at 4 (pages.at page) 4 < 2 + (root_at pages).used)
    goes [] listed some in_list = absurd (omega (arith, some))
    goes (next ∷ rest) listed some in_list = rw listed.0 (in_list next (omega (arith, times-here next rest)))

-- what taking a page of a well-formed store answers
abbrev pub TakeAnswer : ℕ → Pages → List ℕ → List ℕ → Result (ℕ × Pages) Refusal → Type 0
TakeAnswer size pages firsts indexes (Ok next) = Taken size pages firsts indexes next.0 next.1
TakeAnswer size pages firsts indexes (Err why) = (why ≡ PagesFull size) × (free_pages size pages ≡ 0)

-- the page that is taken next, and the pages after it
abbrev after_next : Pages → Result (ℕ × Root) Refusal → Result (ℕ × Pages) Refusal
after_next pages next = next >>= λ n. Ok (n.0, rooted pages n.1)

pub take-answer : (size : ℕ) (pages : Pages) (firsts indexes : List ℕ) (answer : Result (ℕ × Pages) Refusal) → WellFormed size pages firsts indexes → taken size pages ≡ answer → TakeAnswer size pages firsts indexes answer
take-answer size pages firsts indexes answer well is =
    let root = root_at pages in
    let step : taken size pages ≡ after_next pages (next_page size pages root) = rw well.root refl in
    subst (TakeAnswer size pages firsts indexes) (sym step ∙ is) (go (eqb root.free 0) refl)
  where
    go : (b : Bool) → eqb (root_at pages).free 0 ≡ b → TakeAnswer size pages firsts indexes (after_next pages (cond b (never_used size (root_at pages)) (first_free size pages (root_at pages))))
    go true none = unused (ltb (2 + (root_at pages).used) size) refl
      where
        unused : (room : Bool) → ltb (2 + (root_at pages).used) size ≡ room → TakeAnswer size pages firsts indexes (after_next pages (cond room (Ok (2 + (root_at pages).used, record { used = (root_at pages).used + 1; first_free = 0; free = 0 })) (Err (PagesFull size))))
        unused true room = take-well size pages firsts indexes well _ _ _ (take-unused size pages firsts indexes well (eqb-true _ _ none) (ltb-true _ _ room))
        unused false room = (refl, omega (arith, eqb-true (root_at pages).free 0 none, ltb-false _ _ room))
    go false some = from well.free refl
      where
        zeros : eqb (root_at pages).free 0 ≡ true → ⊥
        zeros e = cc

        from : (free : List ℕ) → well.free ≡ free → TakeAnswer size pages firsts indexes (after_next pages (first_free size pages (root_at pages)))
        from [] none = absurd (zeros (eq-eqb _ _ (sym well.counted ∙ ap length none)))
        from (page ∷ rest) is =
            let listed = subst (IsFreeList pages (root_at pages).first_free) is well.listed in
            let taking = take-first size pages firsts indexes well page rest is (sym listed.0) in
            let there : (root_at pages).first_free < size = rw listed.0 (omega (arith, taking.inside, taking.is.within)) in
            let kind : eqb (get_or (pages.at (root_at pages).first_free) 0 0) 3 ≡ true = rw listed.0 (eq-eqb _ 3 listed.1) in
            let good : is_root size (behind_first (pages.at (root_at pages).first_free) (root_at pages)) ≡ true = subst (λ (f : ℕ). is_root size (behind_first (pages.at f) (root_at pages)) ≡ true) (sym listed.0) (root-true size _ taking.is) in
            subst (TakeAnswer size pages firsts indexes) (sym (found (root_at pages).first_free there kind good))
            (subst (λ (f : ℕ). Taken size pages firsts indexes f (rooted pages (behind_first (pages.at f) (root_at pages)))) (sym listed.0) (take-well size pages firsts indexes well page _ rest taking))
          where
            found : (f : ℕ) → f < size → eqb (get_or (pages.at f) 0 0) 3 ≡ true → is_root size (behind_first (pages.at f) (root_at pages)) ≡ true
                → after_next pages (page_in size pages f >>= λ bytes. cond (eqb (get_or bytes 0 0) 3 && is_root size (behind_first bytes (root_at pages))) (Ok (f, behind_first bytes (root_at pages))) (Err (broken f))) ≡ Ok (f, rooted pages (behind_first (pages.at f) (root_at pages)))
            found f there kind good = rw (lt-ltb f size there, kind, good) refl

-- the indexes' first page was freed
pub record Freed (size : ℕ) (pages : Pages) (firsts indexes : List ℕ) (page : ℕ) (after : Pages) : Type 0 where
  pub root : Root
  pub after_is : after ≡ rooted (with_bytes pages page (free_bytes (root_at pages).first_free)) root
  pub well : WellFormed size after firsts indexes
  pub stay : AllStay size pages after firsts
  pub frees : Frees size pages after page

pub freed-well : (size : ℕ) (pages : Pages) (firsts indexes : List ℕ) (page : ℕ) → WellFormed size pages firsts (page ∷ indexes) → (after : Pages) × (freed size pages page ≡ Ok (tt, after)) × Freed size pages firsts indexes page after
freed-well size pages firsts indexes page well =
    let root = root_at pages in
    let front = in_front page root in
    let linked = with_bytes pages page (free_bytes root.first_free) in
    let after = rooted linked front in
    let room = root-is size pages well.root in
    let held : (p : ℕ) (list more : List ℕ) → times p (pages_held well.chains more list) ≡ times p (flat_map pages_of well.chains) + (times p more + times p list) =
    λ p list more. times-append p (flat_map pages_of well.chains) (more ++ list) ∙ ap (λ (k : ℕ). times p (flat_map pages_of well.chains) + k) (times-append p more list) in
    let inners : (p : ℕ) (list more : List ℕ) → times p (pages_inner well.chains more list) ≡ times p (flat_map pages_behind well.chains) + (times p more + times p list) =
    λ p list more. times-append p (flat_map pages_behind well.chains) (more ++ list) ∙ ap (λ (k : ℕ). times p (flat_map pages_behind well.chains) + k) (times-append p more list) in
    let counts : (p : ℕ) → times p (pages_held well.chains indexes (page ∷ well.free)) ≡ times p (pages_held well.chains (page ∷ indexes) well.free) =
    λ p. omega (arith, held p (page ∷ well.free) indexes, held p well.free (page ∷ indexes), times-cons p page well.free, times-cons p page indexes) in
    let inner : (p : ℕ) → times p (pages_inner well.chains indexes (page ∷ well.free)) ≡ times p (pages_inner well.chains (page ∷ indexes) well.free) =
    λ p. omega (arith, inners p (page ∷ well.free) indexes, inners p well.free (page ∷ indexes), times-cons p page well.free, times-cons p page indexes) in
    let apart = root-apart size pages firsts (page ∷ indexes) well in
    let low : 2 ≤ page = well.inner page (omega (arith, inners page well.free (page ∷ indexes), times-here page indexes)) in
    let inside = well.inside page (omega (arith, held page well.free (page ∷ indexes), times-here page indexes)) in
    let listed : (p : ℕ) → 0 < times p (page ∷ well.free) → (2 ≤ p) × (p < 2 + root.used) =
    λ p some. (well.inner p (omega (arith, some, inners p well.free (page ∷ indexes), times-cons p page well.free, times-cons p page indexes)), (well.inside p (omega (arith, some, held p well.free (page ∷ indexes), times-cons p page well.free, times-cons p page indexes))).1) in
    let few : suc (length well.free) ≤ root.used =
    pigeons root.used 2 (page ∷ well.free) (λ p. omega (arith, well.once p, held p well.free (page ∷ indexes), times-cons p page well.free, times-cons p page indexes)) listed in
    let is : IsRoot size front = record {
      within = room.1.within;
      few = omega (arith, few, well.counted);
      none = λ e. absurd (omega (arith, e));
      some = λ lt. (low, inside.1);
    } in
    let tells = root-written size linked front well.small is in
    let same : (p : ℕ) → (p ≡ 0 → ⊥) → (p ≡ page → ⊥) → after.at p ≡ pages.at p =
    λ p root_ other. rooted-same linked front p root_ ∙ written-other pages page p (free_bytes root.first_free) other in
    let off : (p : ℕ) (list : List ℕ) → times p list + times p (page ∷ indexes) ≤ times p (pages_held well.chains (page ∷ indexes) well.free) → 0 < times p list → after.at p ≡ pages.at p =
    λ p list part some. same p (λ e. absurd (omega (arith, subst (λ (q : ℕ). times q list + times q (page ∷ indexes) ≤ times q (pages_held well.chains (page ∷ indexes) well.free)) e part, subst (λ (q : ℕ). 0 < times q list) e some, apart)))
    (λ e. absurd (omega (arith, part, some, well.once p, times-cons p page indexes, ap one_if (eq-eqb page p (sym e))))) in
    let bytes : after.at page ≡ free_bytes root.first_free = rooted-same linked front page (λ e. absurd (omega (arith, e, low))) ∙ (rw (eq-eqb page page refl) refl) in
    let fits : root.first_free < 2 ^ 32 = first well.free well.listed (λ p some. (listed p (omega (arith, some, times-cons p page well.free))).1) (omega (arith, room.1.within, well.small)) in (
      after,
      rw (well.root, root-true size front is) refl,
      record {
        root = front;
        after_is = refl;
        well = record {
          small = well.small;
          root = root-made size after room.0 (subst (IsRoot size) (sym tells) is);
          chains = well.chains;
          free = page ∷ well.free;
          named = well.named;
          lawful = chains-same size pages after well.chains (λ p some. off p (flat_map pages_of well.chains) (omega (arith, held p well.free (page ∷ indexes))) some) well.lawful;
          listed = (
            ap (λ (r : Root). r.first_free) tells,
            subst (λ (b : List ℕ). get_or b 0 0 ≡ 3) (sym bytes) refl,
            subst (λ (f : ℕ). IsFreeList after f well.free) (sym (free-read root.first_free fits) ∙ ap (λ (b : List ℕ). number_at 4 b 4) (sym bytes))
                (frees-same pages after root.first_free well.free (λ p some. off p well.free (omega (arith, held p well.free (page ∷ indexes))) some) well.listed),
          );
          counted = omega (arith, well.counted, ap (λ (r : Root). r.free) tells);
          once = λ p. omega (arith, counts p, well.once p);
          inside = λ p some. subst (λ (r : Root). (1 ≤ p) × (p < 2 + r.used)) (sym tells) (well.inside p (omega (arith, some, counts p)));
          inner = λ p some. well.inner p (omega (arith, some, inner p));
        };
        stay = all-stay size pages after firsts (page ∷ indexes) well (λ p some. off p (flat_map pages_of well.chains) (omega (arith, held p well.free (page ∷ indexes))) some);
        frees = record { front = ap (λ (r : Root). r.first_free) tells; one_more = ap (λ (r : Root). free_count size r) tells ∙ omega arith };
      },
    )
  where
    first : (list : List ℕ) → IsFreeList pages (root_at pages).first_free list → ((p : ℕ) → 0 < times p list → p < 2 + (root_at pages).used) → 2 + (root_at pages).used ≤ 2 ^ 32 → (root_at pages).first_free < 2 ^ 32
    first [] listed in_list small = rw listed (omega arith)
    first (next ∷ rest) listed in_list small = rw listed.0 (omega (arith, in_list next (omega (arith, times-here next rest)), small))
