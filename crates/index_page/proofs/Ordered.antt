-- Entries in order, with one more and with one less.
use Rattle.std.proofs.Common.{◌≡◌, ◌<◌, ◌++◌, ◌∙◌, not, ℕ, zero, suc, Bool, true, false, cond, eqb, List, [], ◌∷◌, length, get_or, refl, sym, ap, subst, arith}
use Rattle.std.specs.List.{AllByRecursion, filter}
use Rattle.std.specs.List.Sorted.{IsStrictlySortedBy}
use Rattle.std.specs.Ordering.{is_gt, is_lt, ordering_reverse}
use Rattle.std.specs.declared.cmp.Ordering.{Ordering}
use Rattle.std.specs.declared.cmp.Ordering.TheVariants.{Less, Equal, Greater}
use Rattle.std.proofs.lemmas.Bool.{or_parts}
use Rattle.std.proofs.lemmas.Cmp.{tied_itself}
use Rattle.std.proofs.lemmas.List.Elements.{All-from_recursion}
use Rattle.pager.proofs.Orders.{found_total}
use Rattle.pager.specs.Index.{IsInOrder, found_cmp, with_found, without_found}
use Rattle.pager.specs.declared.index.Found.{Found}
use Rattle.index_page.specs.Entries.{entry_inserted, is_behind, reaches, taken_out}

-- an entry that is not behind another is below it
pub below_from : (o : Ordering) → not (is_lt o) ≡ false → o ≡ Less
below_from Less h = refl
below_from Equal h = absurd cc
below_from Greater h = absurd cc

behind_from : (o : Ordering) → o ≡ Less → not (is_lt o) ≡ false
behind_from o h = rw h refl

-- below, and below
pub rises : (a b c : Found) → found_cmp a b ≡ Less → found_cmp b c ≡ Less → found_cmp a c ≡ Less
rises a b c = found_total.trans a b c

-- above what is at or above
pub above_from_less : (a b e : Found) → found_cmp a b ≡ Less → found_cmp a e ≡ Equal → found_cmp b e ≡ Greater
above_from_less a b e less tied =
    found_total.antisymm b e ∙ ap ordering_reverse (sym (found_total.congr a e b tied) ∙ less)

pub above_from_greater : (a b e : Found) → found_cmp a b ≡ Less → found_cmp a e ≡ Greater → found_cmp b e ≡ Greater
above_from_greater a b e less above =
    let under : found_cmp e a ≡ Less = found_total.antisymm e a ∙ ap ordering_reverse above in
    found_total.antisymm b e ∙ ap ordering_reverse (found_total.trans e a b under less)

-- entries below the place are left as they are
pub inserted-skip : (entry : Found) (front rest : List Found) → reaches entry front ≡ false → entry_inserted entry (front ++ rest) ≡ front ++ entry_inserted entry rest
inserted-skip entry [] rest h = refl
inserted-skip entry (found ∷ front) rest h =
    let parts = or_parts (is_behind entry found) (reaches entry front) h in
    rw (below_from (found_cmp found entry) parts.0) (ap (λ (l : List Found). found ∷ l) (inserted-skip entry front rest parts.1))

pub taken_out-skip : (entry : Found) (front rest : List Found) → reaches entry front ≡ false → taken_out entry (front ++ rest) ≡ front ++ taken_out entry rest
taken_out-skip entry [] rest h = refl
taken_out-skip entry (found ∷ front) rest h =
    let parts = or_parts (is_behind entry found) (reaches entry front) h in
    rw (below_from (found_cmp found entry) parts.0) (ap (λ (l : List Found). found ∷ l) (taken_out-skip entry front rest parts.1))

-- entries behind the place are left as they are
pub inserted-stop : (entry : Found) (front rest : List Found) → reaches entry front ≡ true → entry_inserted entry (front ++ rest) ≡ entry_inserted entry front ++ rest
inserted-stop entry [] rest h = absurd cc
inserted-stop entry (found ∷ front) rest h = step (found_cmp found entry) refl (inserted-stop entry front rest)
  where
    step : (o : Ordering) → found_cmp found entry ≡ o → (reaches entry front ≡ true → entry_inserted entry (front ++ rest) ≡ entry_inserted entry front ++ rest) → entry_inserted entry (found ∷ front ++ rest) ≡ entry_inserted entry (found ∷ front) ++ rest
    step Less e more = rw e (ap (λ (l : List Found). found ∷ l) (more (rw e at h)))
    step Equal e more = rw e refl
    step Greater e more = rw e refl

pub taken_out-stop : (entry : Found) (front rest : List Found) → reaches entry front ≡ true → taken_out entry (front ++ rest) ≡ taken_out entry front ++ rest
taken_out-stop entry [] rest h = absurd cc
taken_out-stop entry (found ∷ front) rest h = step (found_cmp found entry) refl (taken_out-stop entry front rest)
  where
    chosen : (b : Bool) → cond b (front ++ rest) (found ∷ front ++ rest) ≡ cond b front (found ∷ front) ++ rest
    chosen true = refl
    chosen false = refl

    step : (o : Ordering) → found_cmp found entry ≡ o → (reaches entry front ≡ true → taken_out entry (front ++ rest) ≡ taken_out entry front ++ rest) → taken_out entry (found ∷ front ++ rest) ≡ taken_out entry (found ∷ front) ++ rest
    step Less e more = rw e (ap (λ (l : List Found). found ∷ l) (more (rw e at h)))
    step Equal e more = rw e (chosen (eqb found.page entry.page))
    step Greater e more = rw e refl

none-below : (entry : Found) (rest : List Found) → AllByRecursion (λ (found : Found). found_cmp found entry ≡ Greater) rest → filter (λ (found : Found). is_lt (found_cmp found entry)) rest ≡ []
none-below entry [] h = refl
none-below entry (found ∷ rest) h = rw h.0 (none-below entry rest h.1)

all-above : (entry : Found) (rest : List Found) → AllByRecursion (λ (found : Found). found_cmp found entry ≡ Greater) rest → filter (λ (found : Found). is_gt (found_cmp found entry)) rest ≡ rest
all-above entry [] h = refl
all-above entry (found ∷ rest) h = rw h.0 (ap (λ (l : List Found). found ∷ l) (all-above entry rest h.1))

none-same : (entry : Found) (rest : List Found) → AllByRecursion (λ (found : Found). found_cmp found entry ≡ Greater) rest → without_found entry rest ≡ rest
none-same entry [] h = refl
none-same entry (found ∷ rest) h = rw h.0 (ap (λ (l : List Found). found ∷ l) (none-same entry rest h.1))

above-all : (first entry : Found) (rest : List Found) → ((found : Found) → found_cmp first found ≡ Less → found_cmp found entry ≡ Greater) → AllByRecursion (λ (found : Found). found_cmp first found ≡ Less) rest → AllByRecursion (λ (found : Found). found_cmp found entry ≡ Greater) rest
above-all first entry [] go h = tt
above-all first entry (found ∷ rest) go h = (go found h.0, above-all first entry rest go h.1)

-- of entries in order, the one that is added stands behind those below it and before those above
pub inserted-is : (entry : Found) (entries : List Found) → IsInOrder entries → entry_inserted entry entries ≡ with_found entry entries
unfolding IsStrictlySortedBy
inserted-is entry [] h = refl
inserted-is entry (found ∷ rest) h = step (found_cmp found entry) refl (inserted-is entry rest h.1)
  where
    step : (o : Ordering) → found_cmp found entry ≡ o → entry_inserted entry rest ≡ with_found entry rest → entry_inserted entry (found ∷ rest) ≡ with_found entry (found ∷ rest)
    step Less e more = rw e (ap (λ (l : List Found). found ∷ l) more)
    step Equal e more =
        let above = above-all found entry rest (λ x less. above_from_less found x entry less e) h.0 in
        rw (e, none-below entry rest above, all-above entry rest above) refl
    step Greater e more =
        let above = above-all found entry rest (λ x less. above_from_greater found x entry less e) h.0 in
        rw (e, none-below entry rest above, all-above entry rest above) refl

-- and the one that is taken out is the only one
pub taken_out-is : (entry : Found) (entries : List Found) → IsInOrder entries → taken_out entry entries ≡ without_found entry entries
unfolding IsStrictlySortedBy
taken_out-is entry [] h = refl
taken_out-is entry (found ∷ rest) h = step (found_cmp found entry) refl (taken_out-is entry rest h.1)
  where
    chosen : (b : Bool) → without_found entry rest ≡ rest → cond b rest (found ∷ rest) ≡ cond (not b) (found ∷ without_found entry rest) (without_found entry rest)
    chosen true same = sym same
    chosen false same = ap (λ (l : List Found). found ∷ l) (sym same)

    step : (o : Ordering) → found_cmp found entry ≡ o → taken_out entry rest ≡ without_found entry rest → taken_out entry (found ∷ rest) ≡ without_found entry (found ∷ rest)
    step Less e more = rw e (ap (λ (l : List Found). found ∷ l) more)
    step Equal e more =
        rw e (chosen (eqb found.page entry.page) (none-same entry rest (above-all found entry rest (λ x less. above_from_less found x entry less e) h.0)))
    step Greater e more =
        rw e (ap (λ (l : List Found). found ∷ l) (sym (none-same entry rest (above-all found entry rest (λ x less. above_from_greater found x entry less e) h.0))))

-- what holds of each entry, and of one more
pub inserted-all : (P : Found → Type 0) (entry : Found) (entries : List Found) → P entry → AllByRecursion P entries → AllByRecursion P (entry_inserted entry entries)
inserted-all P entry [] one all = (one, tt)
inserted-all P entry (found ∷ rest) one all = step (found_cmp found entry) refl (inserted-all P entry rest one all.1)
  where
    step : (o : Ordering) → found_cmp found entry ≡ o → AllByRecursion P (entry_inserted entry rest) → AllByRecursion P (entry_inserted entry (found ∷ rest))
    step Less e more = rw e (all.0, more)
    step Equal e more = rw e (one, all.1)
    step Greater e more = rw e (one, all)

-- the entry that is added is among them
pub inserted-one : (P : Found → Type 0) (entry : Found) (entries : List Found) → AllByRecursion P (entry_inserted entry entries) → P entry
inserted-one P entry [] all = all.0
inserted-one P entry (found ∷ rest) all = step (found_cmp found entry) refl all (inserted-one P entry rest)
  where
    step : (o : Ordering) → found_cmp found entry ≡ o → AllByRecursion P (entry_inserted entry (found ∷ rest)) → (AllByRecursion P (entry_inserted entry rest) → P entry) → P entry
    step Less e all more = more (rw e at all).1
    step Equal e all more = (rw e at all).0
    step Greater e all more = (rw e at all).0

pub taken_out-all : (P : Found → Type 0) (entry : Found) (entries : List Found) → AllByRecursion P entries → AllByRecursion P (taken_out entry entries)
taken_out-all P entry [] all = tt
taken_out-all P entry (found ∷ rest) all = step (found_cmp found entry) refl (taken_out-all P entry rest all.1)
  where
    chosen : (b : Bool) → AllByRecursion P (cond b rest (found ∷ rest))
    chosen true = all.1
    chosen false = all

    step : (o : Ordering) → found_cmp found entry ≡ o → AllByRecursion P (taken_out entry rest) → AllByRecursion P (taken_out entry (found ∷ rest))
    step Less e more = rw e (all.0, more)
    step Equal e more = rw e (chosen (eqb found.page entry.page))
    step Greater e more = rw e all

-- entries in order stay so
pub inserted-in_order : (entry : Found) (entries : List Found) → IsInOrder entries → IsInOrder (entry_inserted entry entries)
unfolding IsStrictlySortedBy
inserted-in_order entry [] h = (tt, tt)
inserted-in_order entry (found ∷ rest) h = step (found_cmp found entry) refl (inserted-in_order entry rest h.1)
  where
    under : (o : Ordering) → o ≡ Greater → found_cmp found entry ≡ o → found_cmp entry found ≡ Less
    under o is e = found_total.antisymm entry found ∙ ap ordering_reverse (e ∙ is)

    all : (first : Found) (xs : List Found) → ((x : Found) → found_cmp found x ≡ Less → found_cmp first x ≡ Less) → AllByRecursion (λ (x : Found). found_cmp found x ≡ Less) xs → AllByRecursion (λ (x : Found). found_cmp first x ≡ Less) xs
    all first [] go rest_is = tt
    all first (x ∷ xs) go rest_is = (go x rest_is.0, all first xs go rest_is.1)

    step : (o : Ordering) → found_cmp found entry ≡ o → IsInOrder (entry_inserted entry rest) → IsInOrder (entry_inserted entry (found ∷ rest))
    step Less e more = rw e (inserted-all (λ (x : Found). found_cmp found x ≡ Less) entry rest e h.0, more)
    step Equal e more = rw e (all entry rest (λ x less. sym (found_total.congr found entry x e) ∙ less) h.0, h.1)
    step Greater e more =
        let less = under Greater refl e in
        rw e ((less, all entry rest (λ x up. found_total.trans entry found x less up) h.0), h)

pub taken_out-in_order : (entry : Found) (entries : List Found) → IsInOrder entries → IsInOrder (taken_out entry entries)
unfolding IsStrictlySortedBy
taken_out-in_order entry [] h = tt
taken_out-in_order entry (found ∷ rest) h = step (found_cmp found entry) refl (taken_out-in_order entry rest h.1)
  where
    chosen : (b : Bool) → IsInOrder (cond b rest (found ∷ rest))
    chosen true = h.1
    chosen false = h

    step : (o : Ordering) → found_cmp found entry ≡ o → IsInOrder (taken_out entry rest) → IsInOrder (taken_out entry (found ∷ rest))
    step Less e more = rw e (taken_out-all (λ (x : Found). found_cmp found x ≡ Less) entry rest h.0, more)
    step Equal e more = rw e (chosen (eqb found.page entry.page))
    step Greater e more = rw e h

-- parts of entries in order are in order
pub order-left : (a b : List Found) → IsInOrder (a ++ b) → IsInOrder a
unfolding IsStrictlySortedBy
order-left [] b h = tt
order-left (x ∷ a) b h = (front a h.0, order-left a b h.1)
  where
    front : (xs : List Found) → AllByRecursion (λ (y : Found). found_cmp x y ≡ Less) (xs ++ b) → AllByRecursion (λ (y : Found). found_cmp x y ≡ Less) xs
    front [] all = tt
    front (y ∷ ys) all = (all.0, front ys all.1)

pub order-right : (a b : List Found) → IsInOrder (a ++ b) → IsInOrder b
unfolding IsStrictlySortedBy
order-right [] b h = h
order-right (x ∷ a) b h = order-right a b h.1

-- an entry of those in order is added without a change
pub inserted-same : (entry : Found) (entries : List Found) (k : ℕ) → IsInOrder entries → k < length entries → get_or entries k entry ≡ entry → entry_inserted entry entries ≡ entries
unfolding IsStrictlySortedBy
inserted-same entry [] k h lt at = absurd (omega arith)
inserted-same entry (found ∷ rest) zero h lt at =
    let tied : found_cmp found entry ≡ Equal = rw at (tied_itself found_total entry) in
    rw tied (ap (λ (x : Found). x ∷ rest) (sym at))
inserted-same entry (found ∷ rest) (suc k) h lt at =
    let less : found_cmp found entry ≡ Less = subst (λ (x : Found). found_cmp found x ≡ Less) at (All-from_recursion (λ (x : Found). found_cmp found x ≡ Less) rest h.0 k entry (omega arith)) in
    rw less (ap (λ (l : List Found). found ∷ l) (inserted-same entry rest k h.1 (omega arith) at))
