-- A seat among others at which the copier has run.
use Rattle.std.proofs.Common.{◌≡◌, ◌⊎◌, ◌≤◌, ◌++◌, ◌∙◌, ℕ, zero, suc, List, [], ◌∷◌, append-nil, ap, arith, drop, inl, inr, length, Some, refl, sym, subst, take}
use Rattle.std.proofs.Math.ListN.{set}
use Rattle.std.proofs.lemmas.List.{length-set}
use Rattle.std.specs.Prelude.{slice_get}
use Rattle.atomic_table.specs.Seated.{TableId}
use Rattle.disk_model.specs.Disk.{State}
use Rattle.disk_model.specs.Moments.{Clock}
use Rattle.retro_base.specs.declared.limits.TheConstants.{SESSIONS}
use Rattle.turn.specs.Seats.{IsSame}
use Rattle.store.specs.Closing.{HasCopiedAt, HaveCopied, resting}
use Rattle.store.specs.Seats.{Sat}
use Rattle.store.specs.declared.pace.Worker.TheVariants.{Copier}
use Rattle.store.specs.WorkerRounds.{HasRun, WorkerLeaves, worker}

some_is : {A : Type 0} (x y : A) → Some x ≡ Some y → x ≡ y
some_is x y e = cc

-- what is at a place of a list in which one place was set
pub found_in : {A : Type 0} (xs : List A) (place : ℕ) (y : A) (k : ℕ) (s : A) → slice_get (set xs place y) k ≡ Some s → (slice_get xs k ≡ Some s) ⊎ (y ≡ s)
found_in [] place y k s there = absurd (cc there)
found_in (x ∷ xs) zero y zero s there = inr (some_is y s there)
found_in (x ∷ xs) zero y (suc k) s there = inl there
found_in (x ∷ xs) (suc place) y zero s there = inl there
found_in (x ∷ xs) (suc place) y (suc k) s there = found_in xs place y k s there

-- and what is there of one that was at a place
pub left_in : {A : Type 0} (xs : List A) (place : ℕ) (x y : A) → slice_get xs place ≡ Some x → (k : ℕ) (s : A) → slice_get xs k ≡ Some s → (t : A) × (slice_get (set xs place y) k ≡ Some t) × ((t ≡ s) ⊎ ((x ≡ s) × (t ≡ y)))
left_in [] place x y was k s there = absurd (cc there)
left_in (z ∷ zs) zero x y was zero s there = (y, refl, inr (some_is x s (sym was ∙ there), refl))
left_in (z ∷ zs) zero x y was (suc k) s there = (s, there, inl refl)
left_in (z ∷ zs) (suc place) x y was zero s there = (s, there, inl refl)
left_in (z ∷ zs) (suc place) x y was (suc k) s there = left_in zs place x y was k s there

-- and what was set
set_at : {A : Type 0} (xs : List A) (place : ℕ) (x y : A) → slice_get xs place ≡ Some x → slice_get (set xs place y) place ≡ Some y
set_at [] place x y was = absurd (cc was)
set_at (z ∷ zs) zero x y was = refl
set_at (z ∷ zs) (suc place) x y was = set_at zs place x y was

-- ---- a list that was changed in place

gone_all : {A : Type 0} (ys : List A) (n : ℕ) → length ys ≤ n → drop n ys ≡ []
gone_all [] zero le = refl
gone_all [] (suc n) le = refl
gone_all (y ∷ ys) zero le = absurd (omega (arith, le))
gone_all (y ∷ ys) (suc n) le = gone_all ys n (omega (arith, le))

take_all : {A : Type 0} (xs : List A) → take (length xs) xs ≡ xs
take_all [] = refl
take_all (x ∷ xs) = ap (λ zs. x ∷ zs) (take_all xs)

-- a list that was changed in place has what was put there
pub back_again : {A : Type 0} (xs ys : List A) (n : ℕ) → n ≡ length ys → length xs ≡ length ys → take n (xs ++ drop (length xs) ys) ≡ xs
back_again xs ys n long same =
    ap (λ k. take k (xs ++ drop (length xs) ys)) (long ∙ sym same) ∙ ap (λ zs. take (length xs) (xs ++ zs)) (gone_all ys (length xs) (omega (arith, same))) ∙ ap (λ zs. take (length xs) zs) (append-nil xs) ∙ take_all xs

-- ---- seats

module _ {D : Type 0} (is_honest : D → Type 0) (state : D → State) (faults : D → ℕ) (z : TableId) (remembers : Type 0) (clock : D → Clock) (phase : ℕ) (seats : List (Sat D)) where
  module _ (place : ℕ) (old new : Sat D) (was : slice_get seats place ≡ Some old) (number : old.number ≡ SESSIONS) (same : IsSame old new) (leaves : WorkerLeaves (worker phase old.number) (resting state faults old) (resting state faults new))
      (works : HasRun is_honest state faults z remembers clock phase Copier old new) where
    copied : HasCopiedAt is_honest state faults z remembers clock phase old new
    copied = record { same = same; number = number; leaves = leaves; works = works }

    by_case : (s t : Sat D) → (t ≡ s) ⊎ ((old ≡ s) × (t ≡ new)) → (t ≡ s) ⊎ HasCopiedAt is_honest state faults z remembers clock phase s t
    by_case s t (inl stays) = inl stays
    by_case s t (inr it) = inr (subst (λ (u : Sat D). HasCopiedAt is_honest state faults z remembers clock phase u t) it.0 (subst (λ (u : Sat D). HasCopiedAt is_honest state faults z remembers clock phase old u) (sym it.1) copied))

    pub one_copied : HaveCopied is_honest state faults z remembers clock phase seats (set seats place new)
    one_copied = record {
      count = length-set seats place new;
      each = λ k s there. let found = left_in seats place old new was k s there in (found.0, found.1, by_case s found.0 found.2);
      runs = inr (record { place = place; before = old; after = new; was = was; is = set_at seats place old new was; does = copied });
    }
