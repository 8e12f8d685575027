-- What is so of the last three of the eighteen new seats of a store: a session, the copier and the flusher.
use Rattle.std.proofs.Common.{◌≡◌, ◌++◌, ℕ, zero, suc, List, [], ◌∷◌, length, None, slice_get, Some, arith, inl, inr, length-append, refl, sym, ap, subst, ◌∙◌}
use Rattle.history.specs.declared.journal.Line.{Line}
use Rattle.history.specs.Lines.{lines_of}
use Rattle.atomic_table.specs.Seated.{TableId}
use Rattle.turn.specs.Seats.{mine, seen}
use Rattle.store.specs.Seats.{IsReady, IsWhole, Sat}
use Rattle.store.specs.Workers.{IsWorker, has_fault}
use Rattle.store.specs.WorkerRounds.{MayWork}

abbrev pub Each : {X : Type 0} → (ℕ → X → Type 0) → List X → Type 0
Each {X} P xs = (k : ℕ) (x : X) → slice_get xs k ≡ Some x → P k x

pub of_last : {X : Type 0} (P : ℕ → X → Type 0) (ys : List X) (y : X) → Each P (ys ++ y ∷ []) → P (length ys) y
of_last P [] y all = all 0 y refl
of_last P (x ∷ ys) y all = of_last (λ k. P (suc k)) ys y (λ k s e. all (suc k) s e)

pub of_front : {X : Type 0} (P : ℕ → X → Type 0) (ys : List X) (y : X) → Each P (ys ++ y ∷ []) → Each P ys
of_front P [] y all k s e = absurd (cc e)
of_front P (x ∷ ys) y all zero s e = all 0 s e
of_front P (x ∷ ys) y all (suc k) s e = of_front (λ j. P (suc j)) ys y (λ j t f. all (suc j) t f) k s e

pub with_last : {X : Type 0} (P : ℕ → X → Type 0) (ys : List X) (y : X) → Each P ys → P (length ys) y → Each P (ys ++ y ∷ [])
with_last P [] y all this zero s e = subst (P 0) (cc e) this
with_last P [] y all this (suc k) s e = absurd (cc e)
with_last P (x ∷ ys) y all this zero s e = all 0 s e
with_last P (x ∷ ys) y all this (suc k) s e = with_last (λ j. P (suc j)) ys y (λ j t f. all (suc j) t f) this k s e

-- a new seat of a worker
pub new_worker : {D : Type 0} (s : Sat D) (k : ℕ) → IsWorker k → s.number ≡ k → (mine s).work ≡ None → seen s ≡ [] → MayWork s
new_worker s k worker number idle none = record { idle = idle; fresh = (subst IsWorker (sym number) worker, ap (λ (l : List Line). has_fault (lines_of s.number l)) none) }

-- ---- the last three of eighteen new seats

module _ {X : Type 0} (P : ℕ → X → Type 0) (xs0 xs1 xs2 xs3 : List X) (f c s : X) (one : xs0 ≡ xs1 ++ f ∷ []) (two : xs1 ≡ xs2 ++ c ∷ []) (three : xs2 ≡ xs3 ++ s ∷ []) where
  pub last_three : Each P xs0 → P (length xs1) f × P (length xs2) c × P (length xs3) s × Each P xs3
  last_three all =
      let first = subst (Each P) one all in
      let second = subst (Each P) two (of_front P xs1 f first) in
      let third = subst (Each P) three (of_front P xs2 c second) in
      (of_last P xs1 f first, of_last P xs2 c second, of_last P xs3 s third, of_front P xs3 s third)

abbrev pub IsNewSeat : {D : Type 0} → ℕ → Sat D → Type 0
IsNewSeat k s = (s.number ≡ k) × ((mine s).work ≡ None) × (seen s ≡ [])

module _ {D : Type 0} (z : TableId) (xs0 xs1 xs2 xs3 : List (Sat D)) (f c s : Sat D) (one : xs0 ≡ xs1 ++ f ∷ []) (two : xs1 ≡ xs2 ++ c ∷ []) (three : xs2 ≡ xs3 ++ s ∷ [])
    (ready : Each (λ k s. IsReady z s × IsWhole s) xs0) where
  abbrev MayCall : ℕ → Sat D → Type 0
  MayCall k s = IsReady z s × IsWhole s

  calls : MayCall (length xs1) f × MayCall (length xs2) c × MayCall (length xs3) s × Each MayCall xs3
  calls = last_three MayCall xs0 xs1 xs2 xs3 f c s one two three ready

  pub session_calls : IsReady z s × IsWhole s
  session_calls = calls.2

  pub rest_calls : Each MayCall xs3
  rest_calls = calls.3

  module _ (count : length xs0 ≡ 18) (new : Each IsNewSeat xs0) where
    news : IsNewSeat (length xs1) f × IsNewSeat (length xs2) c × IsNewSeat (length xs3) s × Each IsNewSeat xs3
    news = last_three IsNewSeat xs0 xs1 xs2 xs3 f c s one two three new

    long : length xs1 ≡ 17
    long = let a = ap length one in let b = length-append xs1 (f ∷ []) in omega (arith, a, b, count)

    shorter : length xs2 ≡ 16
    shorter = let a = ap length two in let b = length-append xs2 (c ∷ []) in let l = long in omega (arith, a, b, l)

    pub session_idle : (mine s).work ≡ None
    session_idle = news.2.1

    pub flusher_works : IsReady z f × IsWhole f × MayWork f
    flusher_works = (calls.0.0, calls.0.1, new_worker f 17 (inr refl) (news.0.0 ∙ long) news.0.1 news.0.2)

    pub copier_works : IsReady z c × IsWhole c × MayWork c
    copier_works = (calls.1.0, calls.1.1, new_worker c 16 (inl refl) (news.1.0 ∙ shorter) news.1.1 news.1.2)

-- the three behind the others again
pub pushed : {X : Type 0} (P : X → Type 0) (xs ys zs all : List X) (s c f : X) → ys ≡ xs ++ s ∷ [] → zs ≡ ys ++ c ∷ [] → all ≡ zs ++ f ∷ [] → Each (λ k. P) xs → P s → P c → P f → Each (λ k. P) all
pushed P xs ys zs all s c f one two three each first second third =
    subst (Each (λ k. P)) (sym three) (with_last (λ k. P) zs f (subst (Each (λ k. P)) (sym two) (with_last (λ k. P) ys c (subst (Each (λ k. P)) (sym one) (with_last (λ k. P) xs s each first)) second)) third)
