-- The pages of a store, write by write.
use Rattle.std.proofs.Common.{◌≡◌, ◌≢◌, ◌∙◌, ◌⊎◌, ◌+◌, ◌<◌, ◌≤◌, ◌==◌, ◌||◌, ◌++◌, ℕ, zero, suc, Bool, true, false, cond, ltb, List, [], ◌∷◌, length, take, set, get_or, refl, sym, ap, subst, inl, inr, arith}
use Rattle.std.specs.List.{AllByRecursion}
use Rattle.std.proofs.lemmas.Bool.{eq-eqb, eqb-true, le-ltb, lt-ltb}
use Rattle.std.proofs.lemmas.Bool.Decides.{eqb_tells}
use Rattle.std.proofs.lemmas.List.{get_or-set_same, get_or-set_other, take_more}
use Rattle.std.proofs.Math.ListN.{length-set}
use Rattle.history.specs.History.{with_write, written}
use Rattle.history.specs.declared.writes.PageImage.{PageImage}
use Rattle.plain_store.specs.Page.{AreCaptured, AreWritten, IsWithin, MayChange, PlainPage, bytes_at, bytes_in, captured, ends_at, may_change, page_at}
use Rattle.plain_store.specs.declared.page.Version.{Version}

pub same_at : {X : Type 0} (xs : List X) (i : ℕ) (d e : X) → i < length xs → get_or xs i d ≡ get_or xs i e
same_at [] i d e lt = absurd (omega arith)
same_at (x ∷ xs) zero d e lt = refl
same_at (x ∷ xs) (suc i) d e lt = same_at xs i d e (omega (arith, lt))

ends_more : (newest : ℕ) (past : List Version) (version : Version) → version.upto ≡ newest → ends_at newest (past ++ version ∷ []) ≡ true
ends_more newest [] version is = eq-eqb version.upto newest is
ends_more newest (first ∷ []) version is = eq-eqb version.upto newest is
ends_more newest (first ∷ next ∷ past) version is = ends_more newest (next ∷ past) version is

pub captured_may : (newest : ℕ) (page : PlainPage) → may_change newest (captured newest page).past ≡ true
captured_may newest page = by_test (may_change newest page.past) refl
  where
    last : (a b : Bool) → b ≡ true → (a || b) ≡ true
    last true b e = refl
    last false b e = e

    by_test : (b : Bool) → may_change newest page.past ≡ b → may_change newest (cond b page (record page { past = page.past ++ record { upto = newest; bytes = page.bytes } ∷ [] })).past ≡ true
    by_test true e = e
    by_test false e = last (newest == 0) _ (ends_more newest page.past (record { upto = newest; bytes = page.bytes }) refl)

captured_twice : (newest : ℕ) (page : PlainPage) → captured newest (captured newest page) ≡ captured newest page
captured_twice newest page = ap (λ (b : Bool). cond b (captured newest page) (record (captured newest page) { past = (captured newest page).past ++ record { upto = newest; bytes = (captured newest page).bytes } ∷ [] })) (captured_may newest page)

pub captured_step : (newest : ℕ) (old pages : List PlainPage) (i : ℕ) (page : PlainPage) → AreCaptured newest old pages → i < length pages → page ≡ captured newest (page_at pages i) → AreCaptured newest old (set pages i page)
captured_step newest old pages i page are lt is = record {
  long = length-set pages i page ∙ are.long;
  each = λ q. by_test q (eqb_tells q i);
}
  where
    again : (p : PlainPage) → (page_at pages i ≡ p) ⊎ (page_at pages i ≡ captured newest p) → page ≡ captured newest p
    again p (inl same) = is ∙ ap (captured newest) same
    again p (inr same) = is ∙ ap (captured newest) same ∙ captured_twice newest p

    by_test : (q : ℕ) → (((q == i) ≡ true) × (q ≡ i)) ⊎ (((q == i) ≡ false) × (q ≢ i)) → (page_at (set pages i page) q ≡ page_at old q) ⊎ (page_at (set pages i page) q ≡ captured newest (page_at old q))
    by_test q (inl e) =
        subst (λ (n : ℕ). (page_at (set pages i page) n ≡ page_at old n) ⊎ (page_at (set pages i page) n ≡ captured newest (page_at old n))) (sym e.1)
        (inr (get_or-set_same pages i page _ lt ∙ again (page_at old i) (are.each i)))
    by_test q (inr e) = other (are.each q)
      where
        other : (page_at pages q ≡ page_at old q) ⊎ (page_at pages q ≡ captured newest (page_at old q)) → (page_at (set pages i page) q ≡ page_at old q) ⊎ (page_at (set pages i page) q ≡ captured newest (page_at old q))
        other (inl same) = inl (get_or-set_other pages i q page _ e.1 ∙ same)
        other (inr same) = inr (get_or-set_other pages i q page _ e.1 ∙ same)

-- one more page may change
pub may_step : (newest : ℕ) (pages : List PlainPage) (page : PlainPage) (writes : List PageImage) (write : PageImage) → write.page < length pages → page ≡ captured newest (page_at pages write.page)
    → MayChange newest pages writes → MayChange newest (set pages write.page page) (writes ++ write ∷ [])
may_step newest pages page [] write lt is may = (ap (λ (p : PlainPage). may_change newest p.past) (get_or-set_same pages write.page page _ lt ∙ is) ∙ captured_may newest (page_at pages write.page), tt)
may_step newest pages page (first ∷ writes) write lt is may = (by_test (eqb_tells first.page write.page), may_step newest pages page writes write lt is may.1)
  where
    by_test : (((first.page == write.page) ≡ true) × (first.page ≡ write.page)) ⊎ (((first.page == write.page) ≡ false) × (first.page ≢ write.page)) → may_change newest (page_at (set pages write.page page) first.page).past ≡ true
    by_test (inl e) =
        subst (λ (n : ℕ). may_change newest (page_at (set pages write.page page) n).past ≡ true) (sym e.1)
        (ap (λ (p : PlainPage). may_change newest p.past) (get_or-set_same pages write.page page _ lt ∙ is) ∙ captured_may newest (page_at pages write.page))
    by_test (inr e) = ap (λ (p : PlainPage). may_change newest p.past) (get_or-set_other pages write.page first.page page _ e.1) ∙ may.0

-- the writes so far, and one more
pub next_write : (writes : List PageImage) (i : ℕ) (write : PageImage) → i < length writes → write ≡ get_or writes i write → take (i + 1) writes ≡ take i writes ++ write ∷ []
next_write writes i write lt is = take_more writes i write lt ∙ ap (λ (w : PageImage). take i writes ++ w ∷ []) (sym is)

within_more : (newest : ℕ) (past : List Version) (bytes : List ℕ) → AllByRecursion (λ (version : Version). version.upto ≤ newest) past → AllByRecursion (λ (version : Version). version.upto ≤ newest) (past ++ record { upto = newest; bytes = bytes } ∷ [])
within_more newest [] bytes all = (omega arith, tt)
within_more newest (version ∷ past) bytes all = (all.0, within_more newest past bytes all.1)

captured_within : (newest : ℕ) (page : PlainPage) → IsWithin newest page → IsWithin newest (captured newest page)
captured_within newest page within = by_test (may_change newest page.past)
  where
    by_test : (b : Bool) → IsWithin newest (cond b page (record page { past = page.past ++ record { upto = newest; bytes = page.bytes } ∷ [] }))
    by_test true = within
    by_test false = within_more newest page.past page.bytes within

pub all_within : (newest : ℕ) (old new : List PlainPage) → AreCaptured newest old new → ((page : ℕ) → IsWithin newest (page_at old page)) → (page : ℕ) → IsWithin newest (page_at new page)
all_within newest old new are within page = by_case (are.each page)
  where
    by_case : (page_at new page ≡ page_at old page) ⊎ (page_at new page ≡ captured newest (page_at old page)) → IsWithin newest (page_at new page)
    by_case (inl same) = subst (IsWithin newest) (sym same) (within page)
    by_case (inr same) = subst (IsWithin newest) (sym same) (captured_within newest (page_at old page) (within page))

written_more : (pages : ℕ → List ℕ) (writes : List PageImage) (write : PageImage) (page : ℕ) → written pages (writes ++ write ∷ []) page ≡ with_write (written pages writes) write page
written_more pages [] write page = refl
written_more pages (first ∷ writes) write page = written_more (with_write pages first) writes write page

pub written_step : (old pages : List PlainPage) (writes : List PageImage) (write : PageImage) (page : PlainPage) → AreWritten writes old pages → write.page < length pages → page ≡ record (page_at pages write.page) { bytes = write.bytes }
    → AreWritten (writes ++ write ∷ []) old (set pages write.page page)
written_step old pages writes write page are lt is = record {
  long = length-set pages write.page page ∙ are.long;
  bytes = λ q. by_test q (eqb_tells q write.page) ∙ sym (written_more (bytes_in old) writes write q);
  past = λ q. past_test q (eqb_tells q write.page);
}
  where
    by_test : (q : ℕ) → (((q == write.page) ≡ true) × (q ≡ write.page)) ⊎ (((q == write.page) ≡ false) × (q ≢ write.page)) → bytes_in (set pages write.page page) q ≡ with_write (written (bytes_in old) writes) write q
    by_test q (inl e) =
        rw (eq-eqb write.page q (sym e.1))
        (ap (λ (n : ℕ). bytes_in (set pages write.page page) n) e.1 ∙ ap (λ (p : PlainPage). p.bytes) (get_or-set_same pages write.page page _ lt ∙ is))
    by_test q (inr e) = apart (eqb_tells write.page q)
      where
        apart : (((write.page == q) ≡ true) × (write.page ≡ q)) ⊎ (((write.page == q) ≡ false) × (write.page ≢ q)) → bytes_in (set pages write.page page) q ≡ cond (write.page == q) write.bytes (written (bytes_in old) writes q)
        apart (inl f) = absurd (e.1 (sym f.1))
        apart (inr f) = rw f.0 (ap (λ (p : PlainPage). p.bytes) (get_or-set_other pages write.page q page _ e.1) ∙ are.bytes q)

    past_test : (q : ℕ) → (((q == write.page) ≡ true) × (q ≡ write.page)) ⊎ (((q == write.page) ≡ false) × (q ≢ write.page)) → (page_at (set pages write.page page) q).past ≡ (page_at old q).past
    past_test q (inl e) =
        subst (λ (n : ℕ). (page_at (set pages write.page page) n).past ≡ (page_at old n).past) (sym e.1)
        (ap (λ (p : PlainPage). p.past) (get_or-set_same pages write.page page _ lt ∙ is) ∙ are.past write.page)
    past_test q (inr e) = ap (λ (p : PlainPage). p.past) (get_or-set_other pages write.page q page _ e.1) ∙ are.past q

-- ---- what stands at a snapshot

at_more : (snapshot : ℕ) (bytes : List ℕ) (past : List Version) (newest : ℕ) → bytes_at snapshot bytes (past ++ record { upto = newest; bytes = bytes } ∷ []) ≡ bytes_at snapshot bytes past
at_more snapshot bytes [] newest = by_test (ltb newest snapshot)
  where
    by_test : (b : Bool) → cond b bytes bytes ≡ bytes
    by_test true = refl
    by_test false = refl
at_more snapshot bytes (version ∷ past) newest = by_test (ltb version.upto snapshot) (at_more snapshot bytes past newest)
  where
    by_test : (b : Bool) → bytes_at snapshot bytes (past ++ record { upto = newest; bytes = bytes } ∷ []) ≡ bytes_at snapshot bytes past
        → cond b (bytes_at snapshot bytes (past ++ record { upto = newest; bytes = bytes } ∷ [])) version.bytes ≡ cond b (bytes_at snapshot bytes past) version.bytes
    by_test true rest = rest
    by_test false rest = refl

-- a capture changes nothing
pub captured_same : (newest snapshot : ℕ) (page : PlainPage) → ((captured newest page).bytes ≡ page.bytes) × (bytes_at snapshot (captured newest page).bytes (captured newest page).past ≡ bytes_at snapshot page.bytes page.past)
captured_same newest snapshot page = by_test (may_change newest page.past)
  where
    by_test : (b : Bool) → let p : PlainPage = cond b page (record page { past = page.past ++ record { upto = newest; bytes = page.bytes } ∷ [] }) in (p.bytes ≡ page.bytes) × (bytes_at snapshot p.bytes p.past ≡ bytes_at snapshot page.bytes page.past)
    by_test true = (refl, refl)
    by_test false = (refl, at_more snapshot page.bytes page.past newest)

-- what stands at a snapshot up to the last version does not depend on the page now
ends_fixed : (newest snapshot : ℕ) (past : List Version) (one other : List ℕ) → ends_at newest past ≡ true → snapshot ≤ newest → bytes_at snapshot one past ≡ bytes_at snapshot other past
ends_fixed newest snapshot [] one other ends le = cc
ends_fixed newest snapshot (version ∷ []) one other ends le = rw (le-ltb version.upto snapshot (omega (arith, le, eqb-true version.upto newest ends))) refl
ends_fixed newest snapshot (version ∷ next ∷ past) one other ends le = ap (λ (bytes : List ℕ). cond (ltb version.upto snapshot) bytes version.bytes) (ends_fixed newest snapshot (next ∷ past) one other ends le)

pub fixed : (newest snapshot : ℕ) (past : List Version) (one other : List ℕ) → may_change newest past ≡ true → 1 ≤ snapshot → snapshot ≤ newest → bytes_at snapshot one past ≡ bytes_at snapshot other past
fixed newest snapshot past one other may low high = by_test (newest == 0) (ends_at newest past) refl refl may
  where
    by_test : (a b : Bool) → (newest == 0) ≡ a → ends_at newest past ≡ b → (a || b) ≡ true → bytes_at snapshot one past ≡ bytes_at snapshot other past
    by_test true b e f is = absurd (omega (arith, eqb-true newest 0 e))
    by_test false true e f is = ends_fixed newest snapshot past one other f high
    by_test false false e f is = cc

-- behind all versions stands the page now
pub now_at : (newest snapshot : ℕ) (bytes : List ℕ) (past : List Version) → AllByRecursion (λ (version : Version). version.upto ≤ newest) past → newest < snapshot → bytes_at snapshot bytes past ≡ bytes
now_at newest snapshot bytes [] within lt = refl
now_at newest snapshot bytes (version ∷ past) within lt = rw (lt-ltb version.upto snapshot (omega (arith, within.0))) (now_at newest snapshot bytes past within.1 lt)
