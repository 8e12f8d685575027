-- Pages of indexes in a well-formed store, and pages of bytes.
use Rattle.std.proofs.Common.{◌≡◌, ◌<◌, ◌≤◌, ◌+◌, ◌^◌, ◌++◌, ◌∙◌, cond, eqb, ℕ, zero, suc, false, List, [], ◌∷◌, flat_map, Result, Ok, Err, inl, inr, refl, sym, ap, arith, subst, eq-eqb, get_or-drop}
use Rattle.std.specs.List.{AllByRecursion, IsDistinct}
use Rattle.std.specs.List.Sorted.{IsPermutation}
use Rattle.std.specs.Prelude.{nat_eq}
use Rattle.std.proofs.lemmas.Bool.Decides.{eqb_tells}
use Rattle.std.proofs.lemmas.List.Sorted.{IsPermutation-middle, sum_by-IsPermutation}
use Rattle.retro_base.specs.Fields.{number_at}
use Rattle.retro_base.specs.Gives.{◌>>=◌}
use Rattle.retro_base.proofs.FieldLaws.{number_at-fits}
use Rattle.retro_base.specs.declared.refusal.Refusal.{Refusal}
use Rattle.pager.specs.Index.{EditsOnly, IsApart}
use Rattle.pager.specs.Pages.{Pages}
use Rattle.pager.specs.Root.{all_taken, taken}
use Rattle.heap_file.proofs.Packing.{held_fits}
use Rattle.heap_laws.specs.Laws.{DoesOrIsFull, IndexPagesLaw, SizedLaw, TakesForIndex, TakesForIndexes}
use Rattle.heap_laws.specs.Store.{WellFormed, free_pages, pages_behind, pages_held, pages_inner, pages_of, root_at, times}
use Rattle.heap_laws.specs.Table.{AllStay, EditsExactly}
use Rattle.heap_laws.proofs.Apart.{held-count}
use Rattle.heap_laws.proofs.Counts.{one_if}
use Rattle.heap_laws.proofs.Roots.{rooted-edits, take-answer, Taken}
use Rattle.heap_laws.proofs.Routes.{times-append, times-cons, times-here}
use Rattle.heap_laws.proofs.Stores.{all-stay, chains-same, frees-same, root_in-same, root-apart, times-some}

pub sized_law : SizedLaw
sized_law bytes held long small holds =
    let fits : (width place : ℕ) → number_at width bytes place < 256 ^ width = λ width place. number_at-fits width bytes place (λ i. rw get_or-drop (small (place + i))) in
    record {
      page = held_fits bytes held long holds;
      next = rw (← holds.next) (fits 4 4);
      next_number = rw (← holds.next_number) (fits 8 8);
      last = rw (← holds.last) (fits 4 16);
    }

take-index : (size : ℕ) (pages : Pages) (firsts indexes : List ℕ) (page : ℕ) (after : Pages) → Taken size pages firsts indexes page after → TakesForIndex size pages firsts indexes page after
take-index size pages firsts indexes page after taken = record {
  takes = taken.takes;
  edits = subst (λ (q : Pages). EditsExactly pages q (0 ∷ [])) (sym taken.after_is) (rooted-edits pages taken.root);
  stay = taken.stay;
  well = taken.well;
}

take-law : (size : ℕ) (pages : Pages) (firsts indexes : List ℕ) (answer : Result (ℕ × Pages) Refusal) → WellFormed size pages firsts indexes → taken size pages ≡ answer
    → DoesOrIsFull size (λ page after. TakesForIndex size pages firsts indexes page after) (free_pages size pages ≡ 0) answer
take-law size pages firsts indexes (Ok y) well is = take-index size pages firsts indexes y.0 y.1 (take-answer size pages firsts indexes (Ok y) well is)
take-law size pages firsts indexes (Err why) well is = take-answer size pages firsts indexes (Err why) well is

-- in whatever order, a number stands in a list as often
times-permutation : (p : ℕ) (xs ys : List ℕ) → IsPermutation xs ys → times p ys ≡ times p xs
times-permutation p xs ys perm = sum_by-IsPermutation (λ (other : ℕ). cond (eqb other p) 1 0) xs ys perm

-- the pages of the indexes in another order
reorder-law : (size : ℕ) (pages : Pages) (firsts indexes others : List ℕ) → WellFormed size pages firsts indexes → IsPermutation indexes others → WellFormed size pages firsts others
reorder-law size pages firsts indexes others well perm =
    let held : (p : ℕ) → times p (pages_held well.chains others well.free) ≡ times p (pages_held well.chains indexes well.free) =
    λ p. omega (arith, times-append p (flat_map pages_of well.chains) (others ++ well.free), times-append p others well.free, times-append p (flat_map pages_of well.chains) (indexes ++ well.free), times-append p indexes well.free, times-permutation p indexes others perm) in
    let inners : (p : ℕ) → times p (pages_inner well.chains others well.free) ≡ times p (pages_inner well.chains indexes well.free) =
    λ p. omega (arith, times-append p (flat_map pages_behind well.chains) (others ++ well.free), times-append p others well.free, times-append p (flat_map pages_behind well.chains) (indexes ++ well.free), times-append p indexes well.free, times-permutation p indexes others perm) in
    record {
      small = well.small;
      root = well.root;
      chains = well.chains;
      free = well.free;
      named = well.named;
      lawful = well.lawful;
      listed = well.listed;
      counted = well.counted;
      once = λ p. omega (arith, held p, well.once p);
      inside = λ p some. well.inside p (omega (arith, some, held p));
      inner = λ p some. well.inner p (omega (arith, some, inners p));
    }

-- whatever is written on the pages of the indexes
write-law : (size : ℕ) (pages after : Pages) (firsts indexes : List ℕ) → WellFormed size pages firsts indexes → EditsOnly indexes pages after
    → WellFormed size after firsts indexes × AllStay size pages after firsts
write-law size pages after firsts indexes well edits =
    let held : (p : ℕ) → times p (pages_held well.chains indexes well.free) ≡ times p (flat_map pages_of well.chains) + (times p indexes + times p well.free) =
    λ p. times-append p (flat_map pages_of well.chains) (indexes ++ well.free) ∙ ap (λ (k : ℕ). times p (flat_map pages_of well.chains) + k) (times-append p indexes well.free) in
    let off : (p : ℕ) → times p indexes ≡ 0 → after.at p ≡ pages.at p = λ p none. elim (edits p) [
      | inl has ↦ absurd (omega (arith, none, times-some indexes p has))
      | inr same ↦ same.0
    ] in
    let in_chains : (p : ℕ) → 0 < times p (flat_map pages_of well.chains) → after.at p ≡ pages.at p = λ p some. off p (omega (arith, some, held p, well.once p)) in
    let zero_same : after.at 0 ≡ pages.at 0 = off 0 (omega (arith, held 0, root-apart size pages firsts indexes well)) in (
      record {
        small = well.small;
        root = root_in-same size pages after zero_same ∙ well.root ∙ ap (λ (b : List ℕ). Ok (root_at (record { at = λ p. b; edited = pages.edited }))) (sym zero_same);
        chains = well.chains;
        free = well.free;
        named = well.named;
        lawful = chains-same size pages after well.chains in_chains well.lawful;
        listed = rw zero_same (frees-same pages after (root_at pages).first_free well.free (λ p some. off p (omega (arith, some, held p, well.once p))) well.listed);
        counted = rw zero_same well.counted;
        once = well.once;
        inside = λ p some. rw zero_same (well.inside p some);
        inner = well.inner;
      },
      all-stay size pages after firsts indexes well in_chains,
    )

-- taking a page edits the root page alone
root-only : (size : ℕ) (pages : Pages) (firsts indexes : List ℕ) (page : ℕ) (after : Pages) → Taken size pages firsts indexes page after → EditsOnly (0 ∷ []) pages after
root-only size pages firsts indexes page after taken p =
    let edits : EditsExactly pages after (0 ∷ []) = subst (λ (q : Pages). EditsExactly pages q (0 ∷ [])) (sym taken.after_is) (rooted-edits pages taken.root) in
    elim (eqb_tells p 0) [
      | inl root ↦ inl (0, omega arith, sym root.1)
      | inr differ ↦ inr (edits.same p (rw differ.0 refl), edits.edited p ∙ (rw differ.0 refl))
    ]

edits-then : (list : List ℕ) (pages mid after : Pages) → EditsOnly list pages mid → EditsOnly list mid after → EditsOnly list pages after
edits-then list pages mid after one two p = elim (one p) [
  | inl has ↦ inl has
  | inr same ↦ elim (two p) [
    | inl has ↦ inl has
    | inr also ↦ inr (also.0 ∙ same.0, also.1 ∙ same.1)
  ]
]

-- what taking so many pages of a well-formed store answers
abbrev Many : ℕ → Pages → List ℕ → List ℕ → ℕ → Result (List ℕ × Pages) Refusal → Type 0
Many size pages firsts indexes count = DoesOrIsFull size (λ taken after. TakesForIndexes size pages firsts indexes count taken after) (free_pages size pages < count)

many-taken : (size : ℕ) (pages : Pages) (firsts indexes : List ℕ) (count : ℕ) → WellFormed size pages firsts indexes → Many size pages firsts indexes count (all_taken size count pages)
many-taken size pages firsts indexes zero well = record { fewer = omega arith; edits = λ p. inr (refl, refl); stay = λ first has table told. told; well = well }
many-taken size pages firsts indexes (suc count) well = go (λ mid more is. many-taken size mid firsts more count is) (taken size pages) refl
  where
    go : ((mid : Pages) (more : List ℕ) → WellFormed size mid firsts more → Many size mid firsts more count (all_taken size count mid)) → (r : Result (ℕ × Pages) Refusal) → taken size pages ≡ r → Many size pages firsts indexes (suc count) (r >>= λ next. all_taken size count next.1 >>= λ rest. Ok (next.0 ∷ rest.0, rest.1))
    go many (Err why) is =
        let none = take-answer size pages firsts indexes (Err why) well is in
        (none.0, omega (arith, none.1))
    go many (Ok next) is = on (all_taken size count next.1) (many next.1 (next.0 ∷ indexes) one.well)
      where
        one : Taken size pages firsts indexes next.0 next.1
        one = take-answer size pages firsts indexes (Ok next) well is

        on : (r : Result (List ℕ × Pages) Refusal) → Many size next.1 firsts (next.0 ∷ indexes) count r → Many size pages firsts indexes (suc count) (r >>= λ rest. Ok (next.0 ∷ rest.0, rest.1))
        on (Err why) few = (few.0, omega (arith, few.1, one.takes.one_less))
        on (Ok rest) more = record {
          fewer = omega (arith, more.fewer, one.takes.one_less);
          edits = edits-then (0 ∷ []) pages next.1 rest.1 (root-only size pages firsts indexes next.0 next.1 one) more.edits;
          stay = λ first has table told. more.stay first has table (one.stay first has table told);
          well = reorder-law size rest.1 firsts (rest.0 ++ next.0 ∷ indexes) (next.0 ∷ (rest.0 ++ indexes)) more.well (IsPermutation-middle rest.0 next.0 indexes);
        }

-- numbers that stand once each differ
distinct-once : (list : List ℕ) → ((p : ℕ) → times p list ≤ 1) → IsDistinct nat_eq list
unfolding IsDistinct
distinct-once [] once = tt
distinct-once (x ∷ list) once = (differ list (omega (arith, once x, times-here x list)), distinct-once list (λ p. omega (arith, once p, times-cons p x list)))
  where
    differ : (list : List ℕ) → times x list ≡ 0 → AllByRecursion (λ y. eqb x y ≡ false) list
    differ [] none = tt
    differ (y ∷ list) none = elim (eqb_tells x y) [
      | inl same ↦ absurd (omega (arith, none, times-cons x y list, ap one_if (eq-eqb y x (sym same.1))))
      | inr apart ↦ (apart.0, differ list (omega (arith, none, times-cons x y list)))
    ]

apart-law : (size : ℕ) (pages : Pages) (firsts held others : List ℕ) → WellFormed size pages firsts (held ++ others) → IsApart size pages held
apart-law size pages firsts held others well count taken after is =
    let many : TakesForIndexes size pages firsts (held ++ others) count taken after = subst (Many size pages firsts (held ++ others) count) is (many-taken size pages firsts (held ++ others) count well) in
    distinct-once (held ++ taken) (λ p. omega (arith, times-append p held taken, times-append p taken (held ++ others), times-append p held others, many.well.once p, held-count size after firsts (taken ++ (held ++ others)) many.well p))

pub index_pages_law : IndexPagesLaw
index_pages_law = record {
  take = take-law;
  take_many = λ size pages firsts indexes count answer well is. subst (Many size pages firsts indexes count) is (many-taken size pages firsts indexes count well);
  write = write-law;
  reorder = reorder-law;
  apart = apart-law;
}
