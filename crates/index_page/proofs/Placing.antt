-- The place of an entry.
use Rattle.std.proofs.lemmas.List.Sums.{prefix_len-le-length}
use Rattle.std.specs.Option.{unwrap_or}
use Rattle.std.proofs.Common.{◌⊎◌, ◌≡◌, ◌<◌, ◌≤◌, ◌+◌, ◌∙◌, ℕ, suc, Bool, true, false, cond, eqb, ltb, List, [], ◌∷◌, length, get_or, refl, sym, ap, subst, inl, inr, arith, Some, None, not}
use Rattle.std.specs.List.{insert, remove, position, position_or_len}
use Rattle.std.specs.Ordering.{is_eq}
use Rattle.std.specs.declared.cmp.Ordering.{Ordering}
use Rattle.std.specs.declared.cmp.Ordering.TheVariants.{Less, Equal, Greater}
use Rattle.std.proofs.lemmas.Bool.{both_ways, lt-ltb, ltb-false}
use Rattle.pager.specs.Index.{found_cmp, same_found}
use Rattle.pager.specs.declared.index.Found.{Found}
use Rattle.index_page.proofs.Packing.{width-cons, length-entry}
use Rattle.index_page.specs.IndexPage.{entry_code, width}
use Rattle.index_page.specs.Entries.{entry_inserted, is_behind, entry_place, reaches, taken_out}

-- at the place stands no entry, or one that fails a test

abbrev pub IsNoneAt : (Found → Bool) → List Found → ℕ → Type 0
IsNoneAt test entries k = (length entries ≤ k) ⊎ ((found : Found) × (found ≡ get_or entries k found) × (test found ≡ false))

none-behind : (test : Found → Bool) (first : Found) (rest : List Found) (k : ℕ) → IsNoneAt test (first ∷ rest) (suc k) → IsNoneAt test rest k
none-behind test first rest k (inl past) = inl (omega arith)
none-behind test first rest k (inr there) = inr there

none-first : (test : Found → Bool) (first : Found) (rest : List Found) → IsNoneAt test (first ∷ rest) 0 → test first ≡ false
none-first test first rest (inl past) = absurd (omega arith)
none-first test first rest (inr there) = subst (λ (found : Found). test found ≡ false) there.1 there.2

pub place-le : {X : Type 0} (p : X → Bool) (xs : List X) → position_or_len p xs ≤ length xs
place-le p xs = prefix_len-le-length (λ x. not (p x)) xs

-- the place is behind an entry that is below
place-below : (entry found : Found) (rest : List Found) → is_behind entry found ≡ false → entry_place entry (found ∷ rest) ≡ suc (entry_place entry rest)
place-below entry found rest e = let n : entry_place entry (found ∷ rest) ≡ 1 + entry_place entry rest = rw e refl in omega (arith, n)

-- no entry of its value and number stands at the place of the one that is added
pub inserted-insert : (entry : Found) (entries : List Found) → IsNoneAt (λ found. is_eq (found_cmp found entry)) entries (entry_place entry entries) → entry_inserted entry entries ≡ insert entries (entry_place entry entries) entry
inserted-insert entry [] h = refl
inserted-insert entry (found ∷ rest) h = step (found_cmp found entry) refl h (inserted-insert entry rest)
  where
    step : (o : Ordering) → found_cmp found entry ≡ o → IsNoneAt (λ x. is_eq (found_cmp x entry)) (found ∷ rest) (entry_place entry (found ∷ rest)) → (IsNoneAt (λ x. is_eq (found_cmp x entry)) rest (entry_place entry rest) → entry_inserted entry rest ≡ insert rest (entry_place entry rest) entry) → entry_inserted entry (found ∷ rest) ≡ insert (found ∷ rest) (entry_place entry (found ∷ rest)) entry
    step Less e h more =
        let behind = place-below entry found rest (rw e refl) in
        let lower : IsNoneAt (λ x. is_eq (found_cmp x entry)) (found ∷ rest) (suc (entry_place entry rest)) = subst (λ (n : ℕ). IsNoneAt (λ x. is_eq (found_cmp x entry)) (found ∷ rest) n) behind h in
        subst (λ (n : ℕ). entry_inserted entry (found ∷ rest) ≡ insert (found ∷ rest) n entry) (sym behind)
        (rw e (ap (λ (l : List Found). found ∷ l) (more (none-behind (λ x. is_eq (found_cmp x entry)) found rest (entry_place entry rest) lower))))
    step Equal e h more =
        let first : IsNoneAt (λ x. is_eq (found_cmp x entry)) (found ∷ rest) 0 = rw e at h in
        absurd (both_ways (is_eq (found_cmp found entry)) (none-first (λ x. is_eq (found_cmp x entry)) found rest first) (ap is_eq e))
    step Greater e h more = rw e refl

-- one stands there, and gives way
pub inserted-replace : (entry : Found) (entries : List Found) (at : Found) → entry_place entry entries < length entries → at ≡ get_or entries (entry_place entry entries) at → is_eq (found_cmp at entry) ≡ true → entry_inserted entry entries ≡ insert (remove entries (entry_place entry entries)) (entry_place entry entries) entry
inserted-replace entry [] at lt is like = absurd (omega arith)
inserted-replace entry (found ∷ rest) at lt is like = step (found_cmp found entry) refl lt is (λ lt is. inserted-replace entry rest at lt is like)
  where
    step : (o : Ordering) → found_cmp found entry ≡ o → entry_place entry (found ∷ rest) < length (found ∷ rest) → at ≡ get_or (found ∷ rest) (entry_place entry (found ∷ rest)) at → (entry_place entry rest < length rest → at ≡ get_or rest (entry_place entry rest) at → entry_inserted entry rest ≡ insert (remove rest (entry_place entry rest)) (entry_place entry rest) entry) → entry_inserted entry (found ∷ rest) ≡ insert (remove (found ∷ rest) (entry_place entry (found ∷ rest))) (entry_place entry (found ∷ rest)) entry
    step Less e lt is more =
        let behind = place-below entry found rest (rw e refl) in
        let there : at ≡ get_or (found ∷ rest) (suc (entry_place entry rest)) at = subst (λ (n : ℕ). at ≡ get_or (found ∷ rest) n at) behind is in
        subst (λ (n : ℕ). entry_inserted entry (found ∷ rest) ≡ insert (remove (found ∷ rest) n) n entry) (sym behind)
        (rw e (ap (λ (l : List Found). found ∷ l) (more (omega (arith, lt, behind)) there)))
    step Equal e lt is more = rw e refl
    step Greater e lt is more =
        let first : at ≡ found = rw e at is in
        let tied : is_eq (found_cmp found entry) ≡ true = subst (λ (x : Found). is_eq (found_cmp x entry) ≡ true) first like in
        absurd (both_ways (is_eq (found_cmp found entry)) (ap is_eq e) tied)

-- the entry that is taken out does not stand at its place
pub taken_out-none : (entry : Found) (entries : List Found) → IsNoneAt (λ found. same_found found entry) entries (entry_place entry entries) → taken_out entry entries ≡ entries
taken_out-none entry [] h = refl
taken_out-none entry (found ∷ rest) h = step (found_cmp found entry) refl h (taken_out-none entry rest)
  where
    kept : (b : Bool) → b ≡ false → cond b rest (found ∷ rest) ≡ found ∷ rest
    kept b e = rw e refl

    step : (o : Ordering) → found_cmp found entry ≡ o → IsNoneAt (λ x. same_found x entry) (found ∷ rest) (entry_place entry (found ∷ rest)) → (IsNoneAt (λ x. same_found x entry) rest (entry_place entry rest) → taken_out entry rest ≡ rest) → taken_out entry (found ∷ rest) ≡ found ∷ rest
    step Less e h more =
        let lower : IsNoneAt (λ x. same_found x entry) (found ∷ rest) (suc (entry_place entry rest)) =
        subst (λ (n : ℕ). IsNoneAt (λ x. same_found x entry) (found ∷ rest) n) (place-below entry found rest (rw e refl)) h in
        rw e (ap (λ (l : List Found). found ∷ l) (more (none-behind (λ x. same_found x entry) found rest (entry_place entry rest) lower)))
    step Equal e h more =
        let first : IsNoneAt (λ x. same_found x entry) (found ∷ rest) 0 = rw e at h in
        let other : same_found found entry ≡ false = none-first (λ x. same_found x entry) found rest first in
        rw e (kept (eqb found.page entry.page) (rw e at other))
    step Greater e h more = rw e refl

-- it does
pub taken_out-remove : (entry : Found) (entries : List Found) (at : Found) → entry_place entry entries < length entries → at ≡ get_or entries (entry_place entry entries) at → same_found at entry ≡ true → taken_out entry entries ≡ remove entries (entry_place entry entries)
taken_out-remove entry [] at lt is same = absurd (omega arith)
taken_out-remove entry (found ∷ rest) at lt is same = step (found_cmp found entry) refl lt is (λ lt is. taken_out-remove entry rest at lt is same)
  where
    left : (b : Bool) → b ≡ true → cond b rest (found ∷ rest) ≡ rest
    left b e = rw e refl

    here : at ≡ found → same_found found entry ≡ true
    here first = subst (λ (x : Found). same_found x entry ≡ true) first same

    step : (o : Ordering) → found_cmp found entry ≡ o → entry_place entry (found ∷ rest) < length (found ∷ rest) → at ≡ get_or (found ∷ rest) (entry_place entry (found ∷ rest)) at → (entry_place entry rest < length rest → at ≡ get_or rest (entry_place entry rest) at → taken_out entry rest ≡ remove rest (entry_place entry rest)) → taken_out entry (found ∷ rest) ≡ remove (found ∷ rest) (entry_place entry (found ∷ rest))
    step Less e lt is more =
        let behind = place-below entry found rest (rw e refl) in
        let there : at ≡ get_or (found ∷ rest) (suc (entry_place entry rest)) at = subst (λ (n : ℕ). at ≡ get_or (found ∷ rest) n at) behind is in
        subst (λ (n : ℕ). taken_out entry (found ∷ rest) ≡ remove (found ∷ rest) n) (sym behind)
        (rw e (ap (λ (l : List Found). found ∷ l) (more (omega (arith, lt, behind)) there)))
    step Equal e lt is more =
        let first : at ≡ found = rw e at is in
        rw e (left (eqb found.page entry.page) (rw e at (here first)))
    step Greater e lt is more =
        let first : at ≡ found = rw e at is in
        let no : false ≡ true = rw e at (here first) in
        absurd (both_ways false refl no)

-- the place is among the entries where one of them stands at or behind it
pub place-reaches : (entry : Found) (entries : List Found) → ltb (entry_place entry entries) (length entries) ≡ reaches entry entries
place-reaches entry [] = refl
place-reaches entry (found ∷ rest) = step (is_behind entry found) refl (place-reaches entry rest)
  where
    shifted : (m n : ℕ) → ltb (suc m) (suc n) ≡ ltb m n
    shifted m n = grind (arith)

    step : (b : Bool) → is_behind entry found ≡ b → ltb (entry_place entry rest) (length rest) ≡ reaches entry rest → ltb (entry_place entry (found ∷ rest)) (length (found ∷ rest)) ≡ reaches entry (found ∷ rest)
    step true e more = rw e (lt-ltb 0 (suc (length rest)) (omega arith))
    step false e more =
        subst (λ (n : ℕ). ltb n (length (found ∷ rest)) ≡ reaches entry (found ∷ rest)) (sym (place-below entry found rest e))
        (rw e (shifted (entry_place entry rest) (length rest) ∙ more))

-- one more entry is one more, or none
pub inserted-length : (entry : Found) (entries : List Found) → length (entry_inserted entry entries) ≤ suc (length entries)
inserted-length entry [] = omega arith
inserted-length entry (found ∷ rest) = step (found_cmp found entry) refl (inserted-length entry rest)
  where
    step : (o : Ordering) → found_cmp found entry ≡ o → length (entry_inserted entry rest) ≤ suc (length rest) → length (entry_inserted entry (found ∷ rest)) ≤ suc (length (found ∷ rest))
    step Less e more = rw e (omega arith)
    step Equal e more = rw e (omega arith)
    step Greater e more = rw e (omega arith)

-- and takes its bytes, or less
pub inserted-width : (entry : Found) (entries : List Found) → width (entry_inserted entry entries) ≤ width entries + length (entry_code entry)
inserted-width entry [] = omega (arith, width-cons entry [])
inserted-width entry (found ∷ rest) = step (found_cmp found entry) refl (inserted-width entry rest)
  where
    step : (o : Ordering) → found_cmp found entry ≡ o → width (entry_inserted entry rest) ≤ width rest + length (entry_code entry) → width (entry_inserted entry (found ∷ rest)) ≤ width (found ∷ rest) + length (entry_code entry)
    step Less e more = rw e (omega (arith, width-cons found (entry_inserted entry rest), width-cons found rest))
    step Equal e more = rw e (omega (arith, width-cons entry rest, width-cons found rest))
    step Greater e more = rw e (omega (arith, width-cons entry (found ∷ rest), width-cons found rest))

-- whatever its page is
pub inserted-same_width : (entry : Found) (page : ℕ) (entries : List Found) → width (entry_inserted (record { value = entry.value; number = entry.number; page = page }) entries) ≡ width (entry_inserted entry entries)
inserted-same_width entry page entries = go entries
  where
    same : length (entry_code (record { value = entry.value; number = entry.number; page = page })) ≡ length (entry_code entry)
    same = length-entry (record { value = entry.value; number = entry.number; page = page }) ∙ sym (length-entry entry)

    go : (xs : List Found) → width (entry_inserted (record { value = entry.value; number = entry.number; page = page }) xs) ≡ width (entry_inserted entry xs)
    go [] = omega (arith, width-cons (record { value = entry.value; number = entry.number; page = page }) [], width-cons entry [], same)
    go (found ∷ rest) = step (found_cmp found entry) refl (go rest)
      where
        step : (o : Ordering) → found_cmp found entry ≡ o → width (entry_inserted (record { value = entry.value; number = entry.number; page = page }) rest) ≡ width (entry_inserted entry rest) → width (entry_inserted (record { value = entry.value; number = entry.number; page = page }) (found ∷ rest)) ≡ width (entry_inserted entry (found ∷ rest))
        step Less e more = rw e (omega (arith, more, width-cons found (entry_inserted (record { value = entry.value; number = entry.number; page = page }) rest), width-cons found (entry_inserted entry rest)))
        step Equal e more = rw e (omega (arith, same, width-cons (record { value = entry.value; number = entry.number; page = page }) rest, width-cons entry rest))
        step Greater e more = rw e (omega (arith, same, width-cons (record { value = entry.value; number = entry.number; page = page }) (found ∷ rest), width-cons entry (found ∷ rest)))

-- one entry less takes fewer bytes, or as many
pub taken_out-width : (entry : Found) (entries : List Found) → width (taken_out entry entries) ≤ width entries
taken_out-width entry [] = omega arith
taken_out-width entry (found ∷ rest) = step (found_cmp found entry) refl (taken_out-width entry rest)
  where
    chosen : (b : Bool) → width (cond b rest (found ∷ rest)) ≤ width (found ∷ rest)
    chosen true = omega (arith, width-cons found rest)
    chosen false = omega arith

    step : (o : Ordering) → found_cmp found entry ≡ o → width (taken_out entry rest) ≤ width rest → width (taken_out entry (found ∷ rest)) ≤ width (found ∷ rest)
    step Less e more = rw e (omega (arith, width-cons found (taken_out entry rest), width-cons found rest))
    step Equal e more = rw e (chosen (eqb found.page entry.page))
    step Greater e more = rw e (omega arith)

-- the same entry, in the same list at the same place
pub there : (xs ys : List Found) (m n : ℕ) (at : Found) → xs ≡ ys → m ≡ n → get_or xs m at ≡ get_or ys n at
there xs ys m n at e f = ap (λ (l : List Found). get_or l m at) e ∙ ap (λ (k : ℕ). get_or ys k at) f

-- the place of the first one, or the end
pub place-or_end : {X : Type 0} (p : X → Bool) (xs : List X) → unwrap_or (position p xs) (length xs) ≡ position_or_len p xs
place-or_end p xs = go (ltb (position_or_len p xs) (length xs)) refl
  where
    go : (b : Bool) → ltb (position_or_len p xs) (length xs) ≡ b → unwrap_or (cond b (Some (position_or_len p xs)) None) (length xs) ≡ position_or_len p xs
    go true e = refl
    go false e = omega (arith, ltb-false (position_or_len p xs) (length xs) e, place-le p xs)
