-- The laws of a sorted chain: proofs.
use Rattle.std.proofs.Common.{◌≡◌, ◌<◌, ◌≤◌, ◌^◌, ◌++◌, ◌∙◌, not, ℕ, Bool, true, false, cond, eqb, List, [], ◌∷◌}
use Rattle.std.proofs.Common.{length, map, take, drop, Result, Ok, Err, refl, sym, ap, subst, inl, inr, arith}
use Rattle.std.specs.Prelude.{nat_eq}
use Rattle.std.specs.List.{flat_map, AllByRecursion, Contains, IsDistinct}
use Rattle.std.specs.List.Sorted.{IsPermutation, IsStrictlySortedBy}
use Rattle.std.specs.Ordering.{is_gt, is_lt, nat_cmp, ordering_reverse, ordering_then}
use Rattle.std.specs.declared.cmp.Ordering.{Ordering}
use Rattle.std.specs.declared.cmp.Ordering.TheVariants.{Less, Equal, Greater}
use Rattle.std.proofs.lemmas.Bool.{and_right, leb-true, ne_eqb, or_cases}
use Rattle.std.proofs.lemmas.Cmp.{nat_eq_equiv}
use Rattle.std.proofs.lemmas.List.{append-nil}
use Rattle.std.proofs.lemmas.List.Concat.{flat_map-append}
use Rattle.std.proofs.lemmas.List.Elements.{filter-append}
use Rattle.std.proofs.lemmas.List.Sorted.{IsPermutation-refl}
use Rattle.std.proofs.lemmas.Map.Keys.{IsDistinct-IsPermutation}
use Rattle.retro_base.specs.declared.refusal.Refusal.{Refusal}
use Rattle.values.proofs.Orders.{value_total}
use Rattle.values.specs.Value.{kind_of, value_cmp}
use Rattle.values.specs.declared.value.Value.{Value}
use Rattle.pager.specs.Allows.{◌>>=◌, only, either}
use Rattle.pager.specs.Index.{AddsFound, AreOfKind, EditsOnly, IsApart, IsFound, IsIndexing}
use Rattle.pager.specs.Index.{IsInOrder, IsListed, MakesIndex, RemovesFound, between, found_cmp}
use Rattle.pager.specs.Pages.{Pages, with_bytes}
use Rattle.pager.specs.Root.{all_taken, root_bytes, taken}
use Rattle.pager.specs.declared.index.Found.{Found}
use Rattle.index_page.specs.Entries.{entry_inserted, is_past, reaches, taken_out}
use Rattle.index_page.specs.IndexPage.{AreWritable, have_room, half, page_bytes, width}
use Rattle.index_page.specs.Paging.{IsIndexAt}
use Rattle.index_page.proofs.Ordered.{inserted-all, order-right, taken_out-all}
use Rattle.index_page.proofs.Placing.{taken_out-width}
use Rattle.index_page.proofs.Taking.{at-other, at-own, no-refusal, taken-is, written-other}
use Rattle.run_index.specs.declared.walk.Met.{Met}
use Rattle.run_index.specs.Editing.{all-same, all-two, apart-back, apart-front, contains-front}
use Rattle.run_index.specs.Editing.{contains-middle, edits-one, edits-two, flip-false}
use Rattle.run_index.specs.Editing.{held-moves, link-narrow, same-answer, same-pages, skips-all}
use Rattle.run_index.specs.Leading.{Ending, all-from_each, all-more, ending, leads-inside}
use Rattle.run_index.specs.Leading.{leads-join, leads-one, leads-same, walked-never}
use Rattle.run_index.specs.Run.{IsShape, IsWay, Lists, at_target, entries_of}
use Rattle.run_index.specs.Run.{opens, paged, put, run_of, target, without}
use Rattle.run_index.specs.Shaping.{all-join, all-left, all-right, at_target-is, back-writable, empty-shape}
use Rattle.run_index.specs.Shaping.{entries-middle, fits-any_page, front-writable, inserted-most, shaped, target-is}
use Rattle.run_index.specs.Work.{added, made, ranged, removed, stored, taken_page}

rooted-in : (size : ℕ) (pages : Pages) (root : ℕ) (shape : List (List Found)) (held : List ℕ) → 1 ≤ length shape →
    IsWay size pages root shape held 0 → Contains held root
rooted-in size pages root [] held some leads = absurd (omega arith)
rooted-in size pages root (entries ∷ shape) [] some leads = absurd leads
rooted-in size pages root (entries ∷ shape) (page ∷ held) some leads = (0, omega arith, sym leads.0)

pub listed : IsListed (λ shape. IsShape shape) (λ size pages root shape held. Lists size pages root shape held)
listed = record {
  shape = λ size root pages shape held is. is.is_shape;
  one = λ size root pages shape other held others is also.
      leads-one size pages root shape other held others is.leads also.leads;
  rooted = λ size root pages shape held is. rooted-in size pages root shape held is.is_shape.some is.leads;
  inside = λ size root pages shape held is. leads-inside size pages root shape held 0 is.leads;
  distinct = λ size root pages shape held is. is.distinct;
  frame = λ size root pages after shape held is same. record {
    narrow = is.narrow;
    is_shape = is.is_shape;
    leads = leads-same size pages after root shape held 0
        (all-from_each (λ (page : ℕ). after.at page ≡ pages.at page) held same) is.leads;
    distinct = is.distinct;
  };
}

-- A chain, and the page in which an entry belongs. Its other pages are the same under `base`.
module _ (size root : ℕ) (entry : Found) (pages : Pages) (shape : List (List Found)) (held : List ℕ)
    (is : Lists size pages root shape held)
    (passed : List Met) (met : Met) (end : Ending (reaches entry) size pages root shape held passed met) where
  page-writable : AreWritable met.held.entries
  page-writable =
      (all-right AreWritable end.before (met.held.entries ∷ end.behind)
      (subst (λ (s : List (List Found)). AllByRecursion AreWritable s) end.shape_is is.is_shape.writable)).0

  there-distinct : IsDistinct nat_eq (end.front ++ met.page ∷ end.back)
  there-distinct = subst (λ (l : List ℕ). IsDistinct nat_eq l) end.held_is is.distinct

  parts-narrow : AllByRecursion (λ (page : ℕ). page < 2 ^ 32) (end.front ++ met.page ∷ end.back)
  parts-narrow = subst (λ (l : List ℕ). AllByRecursion (λ (page : ℕ). page < 2 ^ 32) l) end.held_is is.narrow

  narrow-link : met.held.link < 2 ^ 32
  narrow-link =
      link-narrow size pages met.held.link end.behind end.back
      (all-right (λ (page : ℕ). page < 2 ^ 32) end.front (met.page ∷ end.back) parts-narrow).1 end.on

  changed-is : (change : List Found → List (List Found)) →
      at_target entry change shape ≡ end.before ++ (change met.held.entries ++ end.behind)
  changed-is change =
      ap (at_target entry change) end.shape_is ∙
      at_target-is entry change end.before met.held.entries end.behind (skips-all entry end.before end.skips) end.stops

  opens-is : opens entry.value entry.number shape ≡ cond (have_room (entry_inserted entry met.held.entries)) 0 1
  opens-is =
      let low : Found = record { value = entry.value; number = entry.number; page = 0 } in
      let aim : target low shape ≡ met.held.entries =
      ap (target low) end.shape_is ∙
      target-is low end.before met.held.entries end.behind (skips-all entry end.before end.skips) end.stops in
      ap (λ (l : List Found). cond (have_room (entry_inserted low l)) 0 1) aim ∙
      ap (λ (b : Bool). cond b 0 1) (fits-any_page entry met.held.entries)

  module _ (base : Pages) (same : AllByRecursion (λ (q : ℕ). base.at q ≡ pages.at q) held) where
    parted : AllByRecursion (λ (q : ℕ). base.at q ≡ pages.at q) (end.front ++ met.page ∷ end.back)
    parted = subst (λ (l : List ℕ). AllByRecursion (λ (q : ℕ). base.at q ≡ pages.at q) l) end.held_is same

    stays : (bytes : List ℕ) (list : List ℕ) → AllByRecursion (λ (q : ℕ). base.at q ≡ pages.at q) list →
        AllByRecursion (λ (q : ℕ). eqb q met.page ≡ false) list →
        AllByRecursion (λ (q : ℕ). (with_bytes base met.page bytes).at q ≡ pages.at q) list
    stays bytes list one two =
        all-two (λ (q : ℕ). base.at q ≡ pages.at q) (λ (q : ℕ). eqb q met.page ≡ false)
        (λ (q : ℕ). (with_bytes base met.page bytes).at q ≡ pages.at q) list
        (λ q e apart. written-other base met.page q bytes apart ∙ e) one two

    -- the way to the page, and the way on behind it, after the page is written
    to-page : (bytes : List ℕ) → IsWay size (with_bytes base met.page bytes) root end.before end.front met.page
    to-page bytes =
        leads-same size pages (with_bytes base met.page bytes) root end.before end.front met.page
        (stays bytes end.front (all-left (λ (q : ℕ). base.at q ≡ pages.at q) end.front (met.page ∷ end.back) parted)
        (apart-front end.front met.page end.back there-distinct)) end.to

    behind-page : (bytes : List ℕ) → IsWay size (with_bytes base met.page bytes) met.held.link end.behind end.back 0
    behind-page bytes =
        leads-same size pages (with_bytes base met.page bytes) met.held.link end.behind end.back 0
        (stays bytes end.back (all-right (λ (q : ℕ). base.at q ≡ pages.at q) end.front (met.page ∷ end.back) parted).1
        (apart-back end.front met.page end.back there-distinct)) end.on

    -- the chain after the page is written with these entries
    relisted : (entries : List Found) → AreWritable entries →
        IsWay size (with_bytes base met.page (page_bytes (run_of met.held.link entries))) root
        (end.before ++ entries ∷ end.behind) (end.front ++ met.page ∷ end.back) 0
    relisted entries writable =
        let bytes = page_bytes (run_of met.held.link entries) in
        leads-join size (with_bytes base met.page bytes) root met.page 0 end.before (entries ∷ end.behind) end.front
        (met.page ∷ end.back) (to-page bytes) (
          refl,
          met.held.link,
          at-own size base met.page (run_of met.held.link entries) end.at.low end.at.there narrow-link writable,
          behind-page bytes,
        )

  -- the chain after the page is written with the first half of the entries, and a new page with the second
  relisted-two : (base : Pages) (next : ℕ) (front back : List Found) →
      AllByRecursion (λ (q : ℕ). base.at q ≡ pages.at q) held → AllByRecursion (λ (q : ℕ). eqb q next ≡ false) held →
      2 ≤ next → next < size → next < 2 ^ 32 → AreWritable front → AreWritable back →
      IsWay size
      (with_bytes (with_bytes base next (page_bytes (run_of met.held.link back))) met.page
      (page_bytes (run_of next front))) root (end.before ++ front ∷ back ∷ end.behind)
      (end.front ++ met.page ∷ next ∷ end.back) 0
  relisted-two base next front back same apart low there small first second =
      let bytes = page_bytes (run_of met.held.link back) in
      let more = page_bytes (run_of next front) in
      let mid : Pages = with_bytes base next bytes in
      let kept : AllByRecursion (λ (q : ℕ). mid.at q ≡ pages.at q) held =
      all-two (λ (q : ℕ). base.at q ≡ pages.at q) (λ (q : ℕ). eqb q next ≡ false)
      (λ (q : ℕ). (with_bytes base next bytes).at q ≡ pages.at q) held
      (λ q e other. written-other base next q bytes other ∙ e) same apart in
      let differ : eqb met.page next ≡ false =
      (all-right (λ (q : ℕ). eqb q next ≡ false) end.front (met.page ∷ end.back)
      (subst (λ (l : List ℕ). AllByRecursion (λ (q : ℕ). eqb q next ≡ false) l) end.held_is apart)).0 in
      let behind : IsIndexAt size (with_bytes mid met.page more) next (run_of met.held.link back) =
      at-other size mid next met.page more (run_of met.held.link back) (flip-false met.page next differ)
      (at-own size base next (run_of met.held.link back) low there narrow-link second) in
      leads-join size (with_bytes mid met.page more) root met.page 0 end.before (front ∷ back ∷ end.behind) end.front
      (met.page ∷ next ∷ end.back) (to-page mid kept more) (
        refl,
        next,
        at-own size mid met.page (run_of next front) end.at.low end.at.there small first,
        (refl, met.held.link, behind, behind-page mid kept more),
      )

  -- what adding does where the entries fit on the page
  one-page : IsFound entry → AreOfKind (kind_of entry.value) (entries_of shape) →
      have_room (entry_inserted entry met.held.entries) ≡ true → (answer : Unit {0} × Pages) →
      only (Ok (
        tt,
        with_bytes pages met.page (page_bytes (run_of met.held.link (entry_inserted entry met.held.entries))),
      ))
      (Ok answer) →
      AddsFound (λ after behind. Lists size after root (put entry shape) behind) size
      (opens entry.value entry.number shape) held pages (Ok answer)
  one-page found kinds fit answer e =
      let entries = entry_inserted entry met.held.entries in
      let bytes = page_bytes (run_of met.held.link entries) in
      let after : Pages = with_bytes pages met.page bytes in
      let same : after ≡ answer.1 = same-pages after answer e in
      let none : opens entry.value entry.number shape ≡ 0 = opens-is ∙ (rw fit refl) in
      let put-is : put entry shape ≡ end.before ++ entries ∷ end.behind =
      changed-is (λ page. paged (entry_inserted entry page)) ∙ (rw fit refl) in
      let writable : AreWritable entries =
      record {
        lawful = inserted-all IsFound entry met.held.entries found page-writable.lawful;
        fits = leb-true (width entries) 1016 fit;
      } in
      let leads : IsWay size after root (put entry shape) held 0 =
      subst (λ (s : List (List Found)). IsWay size after root s held 0) (sym put-is)
      (subst (λ (l : List ℕ). IsWay size after root (end.before ++ entries ∷ end.behind) l 0) (sym end.held_is)
      (relisted pages (all-same pages held) entries writable)) in
      let lists : Lists size after root (put entry shape) held =
      record {
        narrow = is.narrow;
        is_shape = (shaped.of_put entry shape is.is_shape found kinds).0;
        leads = leads;
        distinct = is.distinct;
      } in
      let there : Contains held met.page =
      subst (λ (l : List ℕ). Contains l met.page) (sym end.held_is) (contains-middle end.front met.page end.back) in
      let edits : EditsOnly (held ++ []) pages after =
      edits-one pages met.page bytes (held ++ [])
      (subst (λ (l : List ℕ). Contains l met.page) (sym (append-nil held)) there) in
      let moves : IsPermutation (held ++ []) held =
      subst (λ (l : List ℕ). IsPermutation l held) (sym (append-nil held)) (IsPermutation-refl held) in
      let all : AddsFound (λ after behind. Lists size after root (put entry shape) behind) size 0 held pages
      (Ok (tt, after)) = ([], pages, refl, edits, held, moves, lists) in
      subst (λ (k : ℕ). AddsFound (λ after behind. Lists size after root (put entry shape) behind) size k held pages
      (Ok answer)) (sym none)
      (subst (λ (p : Pages). AddsFound (λ after behind. Lists size after root (put entry shape) behind) size 0 held
      pages (Ok (tt, p))) same all)

  -- and where they do not
  two-pages : IsApart size pages held → IsFound entry → AreOfKind (kind_of entry.value) (entries_of shape) →
      have_room (entry_inserted entry met.held.entries) ≡ false → (next : ℕ × Pages) → taken size pages ≡ Ok next →
      next.0 < 2 ^ 32 → (answer : Unit {0} × Pages) →
      only (Ok (
        tt,
        with_bytes
            (with_bytes next.1 next.0
            (page_bytes
            (run_of met.held.link
            (drop (half (entry_inserted entry met.held.entries)) (entry_inserted entry met.held.entries))))) met.page
            (page_bytes
            (run_of next.0 (take (half (entry_inserted entry met.held.entries))
            (entry_inserted entry met.held.entries)))),
      ))
      (Ok answer) →
      AddsFound (λ after behind. Lists size after root (put entry shape) behind) size
      (opens entry.value entry.number shape) held pages (Ok answer)
  two-pages apart found kinds full next took small answer e =
      let entries = entry_inserted entry met.held.entries in
      let first = take (half entries) entries in
      let second = drop (half entries) entries in
      let bytes = page_bytes (run_of met.held.link second) in
      let more = page_bytes (run_of next.0 first) in
      let after : Pages = with_bytes (with_bytes next.1 next.0 bytes) met.page more in
      let same : after ≡ answer.1 = same-pages after answer e in
      let one : opens entry.value entry.number shape ≡ 1 = opens-is ∙ (rw full refl) in
      let put-is : put entry shape ≡ end.before ++ first ∷ second ∷ end.behind =
      changed-is (λ page. paged (entry_inserted entry page)) ∙ (rw full refl) in
      let lawful : AllByRecursion IsFound entries =
      inserted-all IsFound entry met.held.entries found page-writable.lawful in
      let most = inserted-most entry met.held.entries found page-writable in
      let facts = taken-is size pages next.0 next.1 took in
      let base : AllByRecursion (λ (q : ℕ). next.1.at q ≡ pages.at q) held =
      all-more (λ (q : ℕ). (2 ≤ q) × (q < size)) (λ (q : ℕ). next.1.at q ≡ pages.at q) held
      (λ q within. ap (λ (p : Pages). p.at q) facts.is ∙
      written-other pages 0 q (root_bytes facts.root) (ne_eqb q 0 (λ z. omega (arith, z, within.0))))
      (leads-inside size pages root shape held 0 is.leads) in
      let list : List ℕ = held ++ next.0 ∷ [] in
      let behind : List ℕ = end.front ++ met.page ∷ next.0 ∷ end.back in
      let took-one : all_taken size 1 pages ≡ Ok (next.0 ∷ [], next.1) = rw took refl in
      let differ : IsDistinct nat_eq list = apart 1 (next.0 ∷ []) next.1 took-one in
      let moves : IsPermutation list behind =
      subst (λ (l : List ℕ). IsPermutation (l ++ next.0 ∷ []) behind) (sym end.held_is)
      (held-moves end.front met.page next.0 end.back) in
      let leads : IsWay size after root (put entry shape) behind 0 =
      subst (λ (s : List (List Found)). IsWay size after root s behind 0) (sym put-is)
      (relisted-two next.1 next.0 first second base (apart-front held next.0 [] differ) facts.low facts.there small
      (front-writable entries lawful most) (back-writable entries lawful most)) in
      let before = all-left (λ (page : ℕ). page < 2 ^ 32) end.front (met.page ∷ end.back) parts-narrow in
      let from = all-right (λ (page : ℕ). page < 2 ^ 32) end.front (met.page ∷ end.back) parts-narrow in
      let lists : Lists size after root (put entry shape) behind = record {
        narrow = all-join (λ (page : ℕ). page < 2 ^ 32) end.front (met.page ∷ next.0 ∷ end.back) before
            (from.0, (small, from.1));
        is_shape = (shaped.of_put entry shape is.is_shape found kinds).0;
        leads = leads;
        distinct = IsDistinct-IsPermutation nat_eq (λ x y. nat_eq_equiv.symm x y) list behind moves differ;
      } in
      let there : Contains held met.page =
      subst (λ (l : List ℕ). Contains l met.page) (sym end.held_is) (contains-middle end.front met.page end.back) in
      let edits : EditsOnly list next.1 after =
      edits-two next.1 next.0 met.page bytes more list (contains-middle held next.0 [])
      (contains-front held (next.0 ∷ []) met.page there) in
      let all : AddsFound (λ after behind. Lists size after root (put entry shape) behind) size 1 held pages
      (Ok (tt, after)) = (next.0 ∷ [], next.1, took-one, edits, behind, moves, lists) in
      subst (λ (k : ℕ). AddsFound (λ after behind. Lists size after root (put entry shape) behind) size k held pages
      (Ok answer)) (sym one)
      (subst (λ (p : Pages). AddsFound (λ after behind. Lists size after root (put entry shape) behind) size 1 held
      pages (Ok (tt, p))) same all)

  -- what adding answers
  stored-adds : IsApart size pages held → IsFound entry → AreOfKind (kind_of entry.value) (entries_of shape) →
      (answer : Result (Unit {0} × Pages) Refusal) →
      stored size pages met.page met.held.link (entry_inserted entry met.held.entries) answer →
      AddsFound (λ after behind. Lists size after root (put entry shape) behind) size
      (opens entry.value entry.number shape) held pages answer
  stored-adds apart found kinds (Ok answer) h = step (have_room (entry_inserted entry met.held.entries)) refl h
    where
      step : (b : Bool) → have_room (entry_inserted entry met.held.entries) ≡ b →
          either {A = Unit {0} × Pages} b
          (only (Ok
          (tt, with_bytes pages met.page (page_bytes (run_of met.held.link (entry_inserted entry met.held.entries))))))
          (taken_page size pages >>= λ next. only
          (Ok (
            tt,
            with_bytes
                (with_bytes next.1 next.0
                (page_bytes
                (run_of met.held.link
                (drop (half (entry_inserted entry met.held.entries)) (entry_inserted entry met.held.entries)))))
                met.page
                (page_bytes
                (run_of next.0
                (take (half (entry_inserted entry met.held.entries)) (entry_inserted entry met.held.entries)))),
          )))
          (Ok answer) →
          AddsFound (λ after behind. Lists size after root (put entry shape) behind) size
          (opens entry.value entry.number shape) held pages (Ok answer)
      step true fit k = one-page found kinds fit answer k
      step false full k = two-pages apart found kinds full k.0 k.1.0 k.1.1 answer k.2
  stored-adds apart found kinds (Err why) h = step (have_room (entry_inserted entry met.held.entries)) refl h
    where
      step : (b : Bool) → have_room (entry_inserted entry met.held.entries) ≡ b →
          either {A = Unit {0} × Pages} b
          (only (Ok
          (tt, with_bytes pages met.page (page_bytes (run_of met.held.link (entry_inserted entry met.held.entries))))))
          (taken_page size pages >>= λ next. only
          (Ok (
            tt,
            with_bytes
                (with_bytes next.1 next.0
                (page_bytes
                (run_of met.held.link
                (drop (half (entry_inserted entry met.held.entries)) (entry_inserted entry met.held.entries)))))
                met.page
                (page_bytes
                (run_of next.0
                (take (half (entry_inserted entry met.held.entries)) (entry_inserted entry met.held.entries)))),
          ))) (Err why) →
          all_taken size (opens entry.value entry.number shape) pages ≡ Err why
      step true fit k = no-refusal _ why k
      step false full (inl none) =
          let one : opens entry.value entry.number shape ≡ 1 = opens-is ∙ (rw full refl) in
          let refused : all_taken size 1 pages ≡ Err why = rw none.0 refl in
          subst (λ (k : ℕ). all_taken size k pages ≡ Err why) (sym one) refused
      step false full (inr more) = no-refusal _ why more.2

  -- what taking out answers
  taken-removes : (answer : Unit {0} × Pages) →
      only (Ok (tt, with_bytes pages met.page (page_bytes (run_of met.held.link (taken_out entry met.held.entries)))))
      (Ok answer) → RemovesFound (λ after. Lists size after root (without entry shape) held) held pages (Ok answer)
  taken-removes answer e =
      let entries = taken_out entry met.held.entries in
      let bytes = page_bytes (run_of met.held.link entries) in
      let after : Pages = with_bytes pages met.page bytes in
      let same : after ≡ answer.1 = same-pages after answer e in
      let rest-is : without entry shape ≡ end.before ++ entries ∷ end.behind =
      changed-is (λ page. taken_out entry page ∷ []) in
      let writable : AreWritable entries =
      record {
        lawful = taken_out-all IsFound entry met.held.entries page-writable.lawful;
        fits = omega (arith, taken_out-width entry met.held.entries, page-writable.fits);
      } in
      let leads : IsWay size after root (without entry shape) held 0 =
      subst (λ (s : List (List Found)). IsWay size after root s held 0) (sym rest-is)
      (subst (λ (l : List ℕ). IsWay size after root (end.before ++ entries ∷ end.behind) l 0) (sym end.held_is)
      (relisted pages (all-same pages held) entries writable)) in
      let lists : Lists size after root (without entry shape) held =
      record {
        narrow = is.narrow;
        is_shape = (shaped.of_without entry shape is.is_shape).0;
        leads = leads;
        distinct = is.distinct;
      } in
      let there : Contains held met.page =
      subst (λ (l : List ℕ). Contains l met.page) (sym end.held_is) (contains-middle end.front met.page end.back) in
      let all : RemovesFound (λ after. Lists size after root (without entry shape) held) held pages (Ok (tt, after)) =
      (edits-one pages met.page bytes held there, lists) in
      subst (λ (p : Pages). RemovesFound (λ after. Lists size after root (without entry shape) held) held pages
      (Ok (tt, p))) same all

makes : (size : ℕ) (pages : Pages) (answer : Result (ℕ × Pages) Refusal) → made size pages answer →
    MakesIndex (λ size pages root shape held. Lists size pages root shape held) ([] ∷ []) size pages answer
unfolding IsDistinct
makes size pages (Ok answer) m =
    let next = m.0 in
    let bytes = page_bytes (run_of 0 []) in
    let after : Pages = with_bytes next.1 next.0 bytes in
    let given : ℕ × Pages = (next.0, after) in
    let same : given ≡ answer = same-answer given answer m.2 in
    let facts = taken-is size pages next.0 next.1 m.1.0 in
    let empty : AreWritable [] = record { lawful = tt; fits = omega arith } in
    let lists : Lists size after next.0 ([] ∷ []) (next.0 ∷ []) = record {
      narrow = (m.1.1, tt);
      is_shape = empty-shape;
      leads = (refl, 0, at-own size next.1 next.0 (run_of 0 []) facts.low facts.there (omega arith) empty, refl);
      distinct = (tt, tt);
    } in
    let all : MakesIndex (λ size pages root shape held. Lists size pages root shape held) ([] ∷ []) size pages
    (Ok given) = (next.1, m.1.0, edits-one next.1 next.0 bytes (next.0 ∷ []) (0, omega arith, refl), lists) in
    subst (λ (a : ℕ × Pages). MakesIndex (λ size pages root shape held. Lists size pages root shape held)
    ([] ∷ []) size pages (Ok a)) same all
makes size pages (Err why) m = elim m [
  | inl none ↦ none.0
  | inr more ↦ no-refusal _ why more.2
]

adds : (size root : ℕ) (entry : Found) (pages : Pages) (shape : List (List Found)) (held : List ℕ)
    (answer : Result (Unit {0} × Pages) Refusal) → Lists size pages root shape held → IsApart size pages held →
    IsFound entry → AreOfKind (kind_of entry.value) (entries_of shape) → added size root entry pages answer →
    AddsFound (λ after behind. Lists size after root (put entry shape) behind) size
    (opens entry.value entry.number shape) held pages answer
adds size root entry pages shape held (Ok answer) is apart found kinds h =
    let way = h.1.1 in
    let end =
    ending (reaches entry) (kind_of entry.value) size pages root shape held h.1.0 h.0 is.leads way.0 way.1 way.2 in
    stored-adds size root entry pages shape held is h.1.0 h.0 end apart found kinds (Ok answer) h.2
adds size root entry pages shape held (Err why) is apart found kinds (inl refused) =
    absurd (walked-never (reaches entry) (kind_of entry.value) size pages root shape held why is kinds refused)
adds size root entry pages shape held (Err why) is apart found kinds (inr h) =
    let way = h.1.1 in
    let end =
    ending (reaches entry) (kind_of entry.value) size pages root shape held h.1.0 h.0 is.leads way.0 way.1 way.2 in
    stored-adds size root entry pages shape held is h.1.0 h.0 end apart found kinds (Err why) h.2

removes : (size root : ℕ) (entry : Found) (pages : Pages) (shape : List (List Found)) (held : List ℕ)
    (answer : Result (Unit {0} × Pages) Refusal) → Lists size pages root shape held →
    AreOfKind (kind_of entry.value) (entries_of shape) → removed size root entry pages answer →
    RemovesFound (λ after. Lists size after root (without entry shape) held) held pages answer
removes size root entry pages shape held (Ok answer) is kinds h =
    let way = h.1.1 in
    let end =
    ending (reaches entry) (kind_of entry.value) size pages root shape held h.1.0 h.0 is.leads way.0 way.1 way.2 in
    taken-removes size root entry pages shape held is h.1.0 h.0 end answer h.2
removes size root entry pages shape held (Err why) is kinds (inl refused) =
    absurd (walked-never (reaches entry) (kind_of entry.value) size pages root shape held why is kinds refused)
removes size root entry pages shape held (Err why) is kinds (inr h) = no-refusal _ why h.2

-- an entry above one whose value is past another is past it
over : (a b : Found) (high : Value) → found_cmp a b ≡ Less → value_cmp a.value high ≡ Greater →
    value_cmp b.value high ≡ Greater
over a b high less past = step (value_cmp a.value b.value) refl less
  where
    step : (o : Ordering) → value_cmp a.value b.value ≡ o → ordering_then o (nat_cmp a.number b.number) ≡ Less →
        value_cmp b.value high ≡ Greater
    step Less e h =
        let under : value_cmp high a.value ≡ Less = value_total.antisymm high a.value ∙ ap ordering_reverse past in
        value_total.antisymm b.value high ∙ ap ordering_reverse (value_total.trans high a.value b.value under e)
    step Equal e h = sym (value_total.congr a.value b.value high e) ∙ past
    step Greater e h = absurd cc

gt-from : (o : Ordering) → is_gt o ≡ true → o ≡ Greater
gt-from Less h = absurd cc
gt-from Equal h = absurd cc
gt-from Greater h = refl

past-rest : (high : Value) (page rest : List Found) → IsInOrder (page ++ rest) → is_past high page ≡ true →
    AllByRecursion (λ (found : Found). value_cmp found.value high ≡ Greater) rest
unfolding IsStrictlySortedBy
past-rest high [] rest order h = absurd cc
past-rest high (x ∷ page) rest order h =
    elim (or_cases (is_gt (value_cmp x.value high)) (is_past high page) h) [
      | inl here ↦ all-past rest (all-right (λ (y : Found). found_cmp x y ≡ Less) page rest order.0)
          (gt-from (value_cmp x.value high) here)
      | inr more ↦ past-rest high page rest order.1 more
    ]
  where
    all-past : (ys : List Found) → AllByRecursion (λ (y : Found). found_cmp x y ≡ Less) ys →
        value_cmp x.value high ≡ Greater → AllByRecursion (λ (found : Found). value_cmp found.value high ≡ Greater) ys
    all-past [] all past = tt
    all-past (y ∷ ys) all past = (over x y high all.0 past, all-past ys all.1 past)

none-between : (low high : Value) (rest : List Found) →
    AllByRecursion (λ (found : Found). value_cmp found.value high ≡ Greater) rest → between low high rest ≡ []
none-between low high [] all = refl
none-between low high (x ∷ rest) all =
    rw (and_right (not (is_lt (value_cmp x.value low))) (not (is_gt (value_cmp x.value high)))
    (ap (λ (o : Ordering). not (is_gt o)) all.0)) (none-between low high rest all.1)

passed-between : (low high : Value) (passed : List Met) →
    flat_map (λ (met : Met). between low high met.held.entries) passed
    ≡ between low high (entries_of (map (λ (met : Met). met.held.entries) passed))
passed-between low high [] = refl
passed-between low high (met ∷ passed) =
    ap (λ (l : List Found). between low high met.held.entries ++ l) (passed-between low high passed)
    ∙ sym (filter-append _ met.held.entries (entries_of (map (λ (m : Met). m.held.entries) passed)))

ranges : (size root : ℕ) (low high : Value) (pages : Pages) (shape : List (List Found)) (held : List ℕ)
    (answer : Result (List Found) Refusal) → Lists size pages root shape held →
    AreOfKind (kind_of low) (entries_of shape) → kind_of high ≡ kind_of low → ranged size root low high pages answer →
    answer ≡ Ok (between low high (entries_of shape))
ranges size root low high pages shape held (Ok list) is kinds kind h =
    let passed = h.0.0 in
    let met = h.0.1 in
    let page = met.held.entries in
    let end = ending (is_past high) (kind_of low) size pages root shape held passed met is.leads h.1.0 h.1.1 h.1.2 in
    let front = entries_of end.before in
    let rest = entries_of end.behind in
    let whole : entries_of shape ≡ front ++ (page ++ rest) =
    ap entries_of end.shape_is ∙ entries-middle end.before page end.behind in
    let order : IsInOrder (page ++ rest) =
    order-right front (page ++ rest) (subst IsInOrder whole is.is_shape.in_order) in
    let none : between low high rest ≡ [] = elim end.stops [
      | inl last ↦ ap (λ (s : List (List Found)). between low high (entries_of s)) last
      | inr past ↦ none-between low high rest (past-rest high page rest order past)
    ] in
    let found : flat_map (λ (m : Met). between low high m.held.entries) (passed ++ met ∷ [])
    ≡ between low high front ++ between low high page =
    flat_map-append (λ (m : Met). between low high m.held.entries) passed (met ∷ [])
    ∙ ap (λ (l : List Found). l ++ (between low high page ++ []))
    (passed-between low high passed ∙ ap (λ (s : List (List Found)). between low high (entries_of s)) end.passed_is)
    ∙ ap (λ (l : List Found). between low high front ++ l) (append-nil (between low high page)) in
    let all : between low high (entries_of shape) ≡ between low high front ++ between low high page =
    ap (between low high) whole ∙ filter-append _ front (page ++ rest) ∙
    ap (λ (l : List Found). between low high front ++ l)
    (filter-append _ page rest ∙ ap (λ (l : List Found). between low high page ++ l) none ∙
    append-nil (between low high page)) in
    sym h.2 ∙ ap (λ (l : List Found). Ok l) (found ∙ sym all)
ranges size root low high pages shape held (Err why) is kinds kind (inl refused) =
    absurd (walked-never (is_past high) (kind_of low) size pages root shape held why is kinds refused)
ranges size root low high pages shape held (Err why) is kinds kind (inr h) = no-refusal _ why h.2

-- what the calls do
pub indexing : IsIndexing ([] ∷ []) entries_of put without opens
    (λ size pages root shape held. Lists size pages root shape held) made added removed ranged
indexing = record { make = makes; add = adds; remove = removes; range = ranges }
