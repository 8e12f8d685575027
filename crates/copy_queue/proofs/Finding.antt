-- The first capture of a page from a number on.
use Rattle.std.proofs.Common.{◌≡◌, ◌⊎◌, inl, inr, ◌∙◌, ◌+◌, ◌-◌, ◌<◌, ◌≤◌, ℕ, Bool, true, false, ◌||◌, cond, eqb, ltb, List, [], ◌∷◌, length, get_or, take, drop, Option, Some, None, position, is_some, refl, sym, ap, subst, arith}
use Rattle.std.specs.List.{position_from, position_or_len}
use Rattle.std.specs.Option.{option_map}
use Rattle.std.proofs.lemmas.Bool.{both_ways, cases_lt, lt-ltb, le-ltb}
use Rattle.std.proofs.lemmas.List.{length-drop, get_or-drop, take_all, length-map}
use Rattle.std.proofs.lemmas.List.Sums.{position_or_len_is}
use Rattle.std.proofs.lemmas.Iterator.Adapters.{position_from-zero}
use Rattle.std.specs.declared.ops.Bound.TheVariants.{Included, Unbounded}
use Rattle.std.specs.Ordering.{is_gt}
use Rattle.std.specs.Prelude.{IfSome, slice_get}
use Rattle.std.specs.BTreeSet.{BTreeSet, contains, IsKeyInRange, IsKeyRangeOf}
use Rattle.retro_base.specs.FirstMet.{first_met}
use Rattle.history.specs.declared.writes.PageImage.{PageImage}
use Rattle.history.specs.Writes.{is_among, pages_of}
use Rattle.copy_queue.specs.Pending.{in_turn, IsFirstPast, IsIndex, is_at}
use Rattle.copy_queue.proofs.Places.{at_below, at_past, at_place, in_order, not_before}

module _ (first from page : ℕ) (pages : List ℕ) where
  -- the pages from there on
  abbrev rest : List ℕ
  rest = drop (from - first) pages

  test : ℕ → Bool
  test other = eqb other page

  all_of : take (length pages - (from - first)) rest ≡ rest
  all_of = take_all (length pages - (from - first)) rest (omega (arith, length-drop (from - first) pages))

  at : (j : ℕ) → j < length rest → is_at first pages page (first + ((from - first) + j)) ≡ eqb (get_or rest j 0) page
  at j lt = at_place first pages page ((from - first) + j) (omega (arith, lt, length-drop (from - first) pages)) ∙ ap (λ n. eqb n page) (sym (get_or-drop (from - first) pages j 0))

  met : (n : ℕ) → position_or_len (λ other. eqb other page) rest ≡ n → first_met pages (from - first) (length pages) page ≡ option_map (λ place. (from - first) + place) (cond (ltb n (length rest)) (Some n) None)
  met n is = ap (λ ps. option_map (λ place. (from - first) + place) (position (λ other. eqb other page) ps)) all_of ∙ ap (λ k. option_map (λ place. (from - first) + place) (cond (ltb k (length rest)) (Some k) None)) is

  pub none_met : ((number : ℕ) → from ≤ number → is_at first pages page number ≡ false) → first_met pages (from - first) (length pages) page ≡ None
  none_met none =
      met (length rest) (position_or_len_is (λ other. eqb other page) rest (length rest) 0 (omega arith) (λ k lt. sym (at k lt) ∙ none (first + ((from - first) + k)) (omega arith)) (λ lt. absurd (omega (arith, lt))))
      ∙ ap (λ b. option_map (λ place. (from - first) + place) (cond b (Some (length rest)) None)) (le-ltb (length rest) (length rest) (omega arith))

  pub one_met : (number : ℕ) → from ≤ number → is_at first pages page number ≡ true → ((other : ℕ) → from ≤ other → other < number → is_at first pages page other ≡ false) → (first ≤ number) × (first_met pages (from - first) (length pages) page ≡ Some (number - first))
  one_met number le has none = (low, where_met) where
    low : first ≤ number
    low = elim (cases_lt number first) [ inl lt ↦ absurd (both_ways (is_at first pages page number) (at_below first pages page number lt) has) | inr ge ↦ ge ]

    high : number < first + length pages
    high = elim (cases_lt number (first + length pages)) [ inl lt ↦ lt | inr ge ↦ absurd (both_ways (is_at first pages page number) (at_past first pages page number ge) has) ]

    place : ℕ
    place = (number - first) - (from - first)

    within : place < length rest
    within = omega (arith, low, high, le, length-drop (from - first) pages)

    there : first + ((from - first) + place) ≡ number
    there = omega (arith, low, le)

    where_met : first_met pages (from - first) (length pages) page ≡ Some (number - first)
    where_met =
        met place (position_or_len_is (λ other. eqb other page) rest place 0 (omega (arith, within))
        (λ k lt. sym (at k (omega (arith, lt, within))) ∙ none (first + ((from - first) + k)) (omega arith) (omega (arith, lt, low, le)))
        (λ lt. sym (at place lt) ∙ ap (λ n. is_at first pages page n) there ∙ has))
        ∙ ap (λ b. option_map (λ p. (from - first) + p) (cond b (Some place) None)) (lt-ltb place (length rest) within)
        ∙ ap Some (omega (arith, low, le))

-- what the set tells of the captures
module _ (first from page : ℕ) (images : List PageImage) (places : BTreeSet (ℕ × ℕ)) (index : IsIndex first images places) where
  long : length (pages_of images) ≡ length images
  long = length-map images (λ (i : PageImage). i.page)

  pub none_past : IsFirstPast places page from None → first_met (pages_of images) (from - first) (length images) page ≡ None
  none_past none =
      ap (λ n. first_met (pages_of images) (from - first) n page) (sym long)
      ∙ none_met first from page (pages_of images) (λ number le. sym (index.has page number) ∙ none (number + 1) number le (omega arith))

  pub one_past : (number : ℕ) → IsFirstPast places page from (Some number) → (first ≤ number) × (first_met (pages_of images) (from - first) (length images) page ≡ Some (number - first))
  one_past number is =
      let met = one_met first from page (pages_of images) number is.0 (sym (index.has page number) ∙ is.1) (λ other le lt. sym (index.has page other) ∙ is.2 other le lt) in
      (met.0, ap (λ n. first_met (pages_of images) (from - first) n page) (sym long) ∙ met.1)

-- a page is among those where the first is met
some_met : (page : ℕ) (pages : List ℕ) → is_some (first_met pages 0 (length pages) page) ≡ is_among page pages
some_met page pages =
    ap (λ n. is_some (option_map (λ place. 0 + place) (position (λ other. eqb other page) (take n pages)))) (omega arith)
    ∙ go (position (λ other. eqb other page) (take (length pages) pages))
    ∙ ap (λ ps. is_some (position (λ other. eqb other page) ps)) (take_all (length pages) pages (omega arith))
    ∙ found pages where
      go : (o : Option ℕ) → is_some (option_map (λ place. 0 + place) o) ≡ is_some o
      go None = refl
      go (Some n) = refl

      found : (ps : List ℕ) → is_some (position (λ other. eqb other page) ps) ≡ is_among page ps
      found ps = ap is_some (position_from-zero (λ other. eqb other page) ps) ∙ from_any 0 ps where
        from_any : (n : ℕ) (qs : List ℕ) → is_some (position_from (λ other. eqb other page) n qs) ≡ is_among page qs
        from_any n [] = refl
        from_any n (q ∷ qs) = go_on (eqb q page) (from_any (n + 1) qs) where
          go_on : (b : Bool) → is_some (position_from (λ other. eqb other page) (n + 1) qs) ≡ is_among page qs → is_some (cond b (Some n) (position_from (λ other. eqb other page) (n + 1) qs)) ≡ (b || is_among page qs)
          go_on true e = refl
          go_on false e = e

pub any_met : (page : ℕ) (images : List PageImage) (from : ℕ) → from ≡ 0 → is_some (first_met (pages_of images) from (length images) page) ≡ is_among page (pages_of images)
any_met page images from is =
    ap (λ n. is_some (first_met (pages_of images) n (length images) page)) is
    ∙ ap (λ n. is_some (first_met (pages_of images) 0 n page)) (sym (length-map images (λ (i : PageImage). i.page)))
    ∙ some_met page (pages_of images)

not_true : (b : Bool) → (b ≡ true → ⊥) → b ≡ false
not_true true f = absurd (f refl)
not_true false f = refl

-- the first place of the set from there on
module _ (s : BTreeSet (ℕ × ℕ)) (page from : ℕ) (r : List (ℕ × ℕ)) (is : IsKeyRangeOf in_turn (Included (page, from)) Unbounded s r) where
  pub none_there : r ≡ [] → IsFirstPast s page from None
  none_there none = λ to number le lt. is.5 none (page, number) (in_order page from number le, tt)

  module _ (place : ℕ × ℕ) (more : List (ℕ × ℕ)) (split : r ≡ place ∷ more) where
    inside : (page < place.0) ⊎ ((page ≡ place.0) × (from ≤ place.1))
    inside = not_before page from place.0 place.1 (subst (λ l. IfSome (slice_get l 0) (IsKeyInRange in_turn (Included (page, from)) Unbounded s)) split is.1).0.0

    has : contains in_turn s place ≡ true
    has = (subst (λ l. IfSome (slice_get l 0) (IsKeyInRange in_turn (Included (page, from)) Unbounded s)) split is.1).1

    least : (number : ℕ) → from ≤ number → contains in_turn s (page, number) ≡ true → is_gt (in_turn place (page, number)) ≡ false
    least number le there = subst (λ l. IfSome (slice_get l 0) (λ k. is_gt (in_turn k (page, number)) ≡ false)) split (is.2 (page, number) (in_order page from number le, tt) there)

    pub first_there : place.0 ≡ page → IsFirstPast s page from (Some place.1)
    first_there same = (past inside, subst (λ p. contains in_turn s (p, place.1) ≡ true) same has, λ number le lt. not_true (contains in_turn s (page, number)) (λ there. before (not_before place.0 place.1 page number (least number le there)) lt)) where
      past : (page < place.0) ⊎ ((page ≡ place.0) × (from ≤ place.1)) → from ≤ place.1
      past (inl lt) = absurd (omega (arith, lt, same))
      past (inr h) = h.1

      before : {number : ℕ} → (place.0 < page) ⊎ ((place.0 ≡ page) × (place.1 ≤ number)) → number < place.1 → ⊥
      before (inl lt) less = omega (arith, lt, same)
      before (inr h) less = omega (arith, h.1, less)

    pub other_there : (place.0 ≡ page → ⊥) → IsFirstPast s page from None
    other_there apart = λ to number le lt. not_true (contains in_turn s (page, number)) (λ there. clash inside (not_before place.0 place.1 page number (least number le there))) where
      clash : {number : ℕ} → (page < place.0) ⊎ ((page ≡ place.0) × (from ≤ place.1)) → (place.0 < page) ⊎ ((place.0 ≡ page) × (place.1 ≤ number)) → ⊥
      clash (inr h) back = apart (sym h.0)
      clash (inl lt) (inl gt) = omega (arith, lt, gt)
      clash (inl lt) (inr h) = apart h.0
