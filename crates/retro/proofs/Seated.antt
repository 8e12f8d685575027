-- Slots with the seats of one store.
use Rattle.std.proofs.Common.{◌≡◌, ◌≢◌, ◌⊎◌, ◌<◌, ◌+◌, ◌++◌, ℕ, zero, suc, List, [], ◌∷◌, length, Some, inl, inr, refl, ap, sym, subst, ◌∙◌, arith, append-nil, append_assoc}
use Rattle.std.proofs.lemmas.List.{append_cancel_left}
use Rattle.std.specs.Prelude.{◌↔◌}
use Rattle.history.specs.declared.journal.Line.{Line}
use Rattle.journal_law.specs.Seats.{Idle, View, Waits}
use Rattle.retro.specs.Meeting.{HaveMet}
use Rattle.retro.specs.Slots.{AllCome, AreHonest, AreSeated, AreTogether, IsSeated, SitsAt, seat_at, view_at, view_in}
use Rattle.retro.specs.Steps.{Begins, HasMetEach, MetAll, PairMet}
use Rattle.retro.specs.declared.slots.Slot.{Slot}
use Rattle.store.proofs.WorkerEnds.{waits_none, waits_on}

pub same_or_not : (a b : ℕ) → (a ≡ b) ⊎ (a ≢ b)
same_or_not zero zero = inl refl
same_or_not zero (suc b) = inr (λ e. absurd (omega (arith, e)))
same_or_not (suc a) zero = inr (λ e. absurd (omega (arith, e)))
same_or_not (suc a) (suc b) = by_rest (same_or_not a b)
  where
    by_rest : (a ≡ b) ⊎ (a ≢ b) → (suc a ≡ suc b) ⊎ (suc a ≢ suc b)
    by_rest (inl is) = inl (ap suc is)
    by_rest (inr other) = inr (λ e. other (omega (arith, e)))

-- a slot has one seat
pub one_seat : (S : Type 0) (s t : S) → Some s ≡ Some t → s ≡ t
one_seat S s t e = cc

pub seat_within : {S : Type 0} (slots : List (Slot S)) (number : ℕ) (s : S) → SitsAt slots number s → number < length slots
seat_within [] number s sits = absurd (cc sits)
seat_within (slot ∷ slots) zero s sits = omega arith
seat_within (slot ∷ slots) (suc number) s sits = omega (arith, seat_within slots number s sits)

module _ (S : Type 0) (view : S → View) where
  pub sees : (slots : List (Slot S)) (number : ℕ) (s : S) → SitsAt slots number s → view_at view slots number ≡ view s
  sees slots number s sits = ap (view_in view) sits

  module _ (goes : S → S → Type 0) (stays : (s : S) → goes s s) (goes_on : (s t u : S) → goes s t → goes t u → goes s u) where
    pub come_none : (slots : List (Slot S)) → AreSeated view slots → AllCome view goes slots slots
    come_none slots seated = record {
      count = refl;
      seated = seated;
      each = λ number s t one two. subst (goes s) (one_seat S s t (sym one ∙ two)) (stays s);
    }

    pub come_on : (old between new : List (Slot S)) → AllCome view goes old between → AllCome view goes between new → AllCome view goes old new
    come_on old between new one two = record {
      count = two.count ∙ one.count;
      seated = two.seated;
      each = λ number s t was is.
          let less : number < length between = subst (λ (n : ℕ). number < n) (sym one.count) (seat_within old number s was) in
          let there = one.seated number less in
          goes_on s there.seat t (one.each number s there.seat was there.sits) (two.each number there.seat t there.sits is);
    }

    -- two seats have become others
    pub come_two : (old new : List (Slot S)) (number : ℕ) (first other first_then other_then : S) → 0 < number → AreSeated view old → SitsAt old 0 first → SitsAt old number other → length new ≡ length old →
        SitsAt new 0 first_then → SitsAt new number other_then → ((n : ℕ) → n ≢ 0 → n ≢ number → seat_at new n ≡ seat_at old n) → HaveMet (view first) (view other) (view first_then) (view other_then) →
        goes first first_then → goes other other_then → AllCome view goes old new × PairMet (view_at view old) (view_at view new) number
    come_two old new number first other first_then other_then above seated was_first was_other count is_first is_other others met went_first went_other = (
      record {
        count = count;
        seated = λ n less. at n less (same_or_not n 0) (same_or_not n number);
        each = λ n s t one two. each n s t one two (same_or_not n 0) (same_or_not n number);
      },
      record {
        met = rw (sees old 0 first was_first, sees old number other was_other, sees new 0 first_then is_first, sees new number other_then is_other) met;
        others = λ n none apart. ap (view_in view) (others n none apart);
      },
    )
      where
        seat_of : (n : ℕ) (s t : S) → SitsAt old n s → n < length old → (view t).session ≡ (view s).session → (view t).work ≡ (view s).work → SitsAt new n t → IsSeated view n (seat_at new n)
        seat_of n s t was less number_same work_same is =
            let there = seated n less in
            let same : there.seat ≡ s = one_seat S there.seat s (sym there.sits ∙ was) in
            record {
              seat = t;
              sits = is;
              number_is = number_same ∙ subst (λ (a : S). (view a).session ≡ n) same there.number_is;
              idle = work_same ∙ subst (λ (a : S). (view a).work ≡ Idle) same there.idle;
            }

        at : (n : ℕ) → n < length new → (n ≡ 0) ⊎ (n ≢ 0) → (n ≡ number) ⊎ (n ≢ number) → IsSeated view n (seat_at new n)
        at n less (inl zeroth) test = subst (λ (k : ℕ). IsSeated view k (seat_at new k)) (sym zeroth)
            (seat_of 0 first first_then was_first (seat_within old 0 first was_first) met.one_waits.moves.session met.one_waits.work_is is_first)
        at n less (inr none) (inl same) = subst (λ (k : ℕ). IsSeated view k (seat_at new k)) (sym same)
            (seat_of number other other_then was_other (seat_within old number other was_other) met.other_waits.moves.session met.other_waits.work_is is_other)
        at n less (inr none) (inr apart) =
            let there = seated n (subst (λ (k : ℕ). n < k) count less) in
            record { seat = there.seat; sits = others n none apart ∙ there.sits; number_is = there.number_is; idle = there.idle }

        moved : (n : ℕ) (s t a b : S) → SitsAt old n s → SitsAt new n t → SitsAt old n a → SitsAt new n b → goes a b → goes s t
        moved n s t a b one two was is went = subst (λ (x : S). goes x t) (one_seat S a s (sym was ∙ one)) (subst (goes a) (one_seat S b t (sym is ∙ two)) went)

        each : (n : ℕ) (s t : S) → SitsAt old n s → SitsAt new n t → (n ≡ 0) ⊎ (n ≢ 0) → (n ≡ number) ⊎ (n ≢ number) → goes s t
        each n s t one two (inl zeroth) test = moved n s t first first_then one two (subst (λ (k : ℕ). SitsAt old k first) (sym zeroth) was_first) (subst (λ (k : ℕ). SitsAt new k first_then) (sym zeroth) is_first) went_first
        each n s t one two (inr none) (inl same) = moved n s t other other_then one two (subst (λ (k : ℕ). SitsAt old k other) (sym same) was_other) (subst (λ (k : ℕ). SitsAt new k other_then) (sym same) is_other) went_other
        each n s t one two (inr none) (inr apart) = subst (goes s) (one_seat S s t (sym one ∙ sym (others n none apart) ∙ two)) (stays s)

    -- seats of one store stay so, and honest ones
    pub together_on : (together : S → S → Type 0) → ((s t u : S) → goes s t → together s u → together t u) → ((s t u : S) → goes s t → together u s → together u t) → (old new : List (Slot S)) → AreSeated view old
        → AllCome view goes old new → AreTogether together old → AreTogether together new
    together_on together one_goes other_goes old new seated come are n m s t one two apart =
        let a = seated n (subst (λ (k : ℕ). n < k) come.count (seat_within new n s one)) in
        let b = seated m (subst (λ (k : ℕ). m < k) come.count (seat_within new m t two)) in
        one_goes a.seat s t (come.each n a.seat s a.sits one) (other_goes b.seat t a.seat (come.each m b.seat t b.sits two) (are n m a.seat b.seat a.sits b.sits apart))

    pub honest_on : (is_honest : S → Type 0) → ((s t : S) → goes s t → is_honest s ↔ is_honest t) → (old new : List (Slot S)) → AreSeated view old → AllCome view goes old new → AreHonest is_honest old
        → AreHonest is_honest new
    honest_on is_honest honest_stays old new seated come are n t is =
        let a = seated n (subst (λ (k : ℕ). n < k) come.count (seat_within new n t is)) in
        (honest_stays a.seat t (come.each n a.seat t a.sits is)).0 (are n a.seat a.sits)

-- ---- meetings

begins_none : (front lines : List Line) → front ≡ lines → Begins front lines
begins_none front lines same = ([], sym same ∙ sym (append-nil front))

begins_on : (a b c : List Line) → Begins a b → Begins b c → Begins a c
begins_on a b c one two = (one.0 ++ two.0, two.1 ∙ ap (λ (ls : List Line). ls ++ two.0) one.1 ∙ append_assoc a one.0 two.0)

begins_waits : (a b : View) → Waits a b a.work → Begins a.front b.front
begins_waits a b waits = (waits.moves.others, waits.moves.front ∙ append-nil (a.front ++ waits.moves.others))

-- what begins each of two begins as they do
nothing_on : (xs ys zs : List Line) → xs ≡ (xs ++ ys) ++ zs → ys ≡ []
nothing_on xs ys zs e = empty ys (append_cancel_left xs [] (ys ++ zs) (append-nil xs ∙ e ∙ append_assoc xs ys zs))
  where
    empty : (lines : List Line) → [] ≡ lines ++ zs → lines ≡ []
    empty [] is = refl
    empty (line ∷ lines) is = cc

begins_both : (a b : List Line) → Begins a b → Begins b a → a ≡ b
begins_both a b one two =
    let none : one.0 ≡ [] = nothing_on a one.0 two.0 (two.1 ∙ ap (λ (ls : List Line). ls ++ two.0) one.1) in
    sym (one.1 ∙ ap (λ (ls : List Line). a ++ ls) none ∙ append-nil a)

pub each_first : (old : ℕ → View) (seats : ℕ) → HasMetEach old old seats 1
each_first old seats = record {
  waits = λ n less. waits_none (old n);
  gathered = λ n less. let zeroth : n ≡ 0 = omega (arith, less) in begins_none (old n).front (old 0).front (ap (λ (k : ℕ). (old k).front) zeroth);
  first = λ all. refl;
  spread = λ all n less. let zeroth : n ≡ 0 = omega (arith, less) in ap (λ (k : ℕ). (old k).front) zeroth;
}

module _ (old now next : ℕ → View) (seats number : ℕ) (above : 0 < number) (has : HasMetEach old now seats number) (rest : now number ≡ old number) (pair : PairMet now next number) where
  waits_next : (n : ℕ) → (n ≡ 0) ⊎ (n ≢ 0) → (n ≡ number) ⊎ (n ≢ number) → Waits (now n) (next n) (now n).work
  waits_next n (inl zeroth) test = subst (λ (k : ℕ). Waits (now k) (next k) (now k).work) (sym zeroth) pair.met.one_waits
  waits_next n (inr none) (inl same) = subst (λ (k : ℕ). Waits (now k) (next k) (now k).work) (sym same) pair.met.other_waits
  waits_next n (inr none) (inr apart) = subst (λ (v : View). Waits (now n) v (now n).work) (sym (pair.others n none apart)) (waits_none (now n))

  gathered_next : (n : ℕ) → n < number + 1 → (n ≡ 0) ⊎ (n ≢ 0) → (n ≡ number) ⊎ (n ≢ number) → Begins (next n).front (next 0).front
  gathered_next n less (inl zeroth) test = begins_none (next n).front (next 0).front (ap (λ (k : ℕ). (next k).front) zeroth)
  gathered_next n less (inr none) (inl same) = begins_none (next n).front (next 0).front (ap (λ (k : ℕ). (next k).front) same ∙ pair.met.same)
  gathered_next n less (inr none) (inr apart) =
      begins_on (next n).front (now 0).front (next 0).front (subst (λ (v : View). Begins v.front (now 0).front) (sym (pair.others n none apart)) (has.gathered n (omega (arith, less, apart))))
      (begins_waits (now 0) (next 0) pair.met.one_waits)

  first_next : number < seats → ((n : ℕ) → n < seats → Begins (old n).front (old 0).front) → (next 0).front ≡ (old 0).front
  first_next within all = by_seen pair.met.seen
    where
      grown : Begins (old 0).front (next 0).front
      grown = subst (λ (ls : List Line). Begins ls (next 0).front) (has.first all) (begins_waits (now 0) (next 0) pair.met.one_waits)

      by_seen : ((next 0).front ≡ (now 0).front) ⊎ ((next 0).front ≡ (now number).front) → (next 0).front ≡ (old 0).front
      by_seen (inl first) = first ∙ has.first all
      by_seen (inr other) = begins_both (next 0).front (old 0).front
          (subst (λ (ls : List Line). Begins ls (old 0).front) (sym (other ∙ ap (λ (v : View). v.front) rest)) (all number within)) grown

  spread_next : number < seats → ((n : ℕ) → n < seats → Begins (old n).front (old 0).front) → (n : ℕ) → n < number + 1 → (n ≡ 0) ⊎ (n ≢ 0) → (n ≡ number) ⊎ (n ≢ number) → (next n).front ≡ (old 0).front
  spread_next within all n less (inl zeroth) test = ap (λ (k : ℕ). (next k).front) zeroth ∙ first_next within all
  spread_next within all n less (inr none) (inl same) = ap (λ (k : ℕ). (next k).front) same ∙ pair.met.same ∙ first_next within all
  spread_next within all n less (inr none) (inr apart) = ap (λ (v : View). v.front) (pair.others n none apart) ∙ has.spread all n (omega (arith, less, apart))

  pub each_next : number < seats → HasMetEach old next seats (number + 1)
  each_next within = record {
    waits = λ n less. waits_on (old n) (now n) (next n) (has.waits n less) (waits_next n (same_or_not n 0) (same_or_not n number));
    gathered = λ n less. gathered_next n less (same_or_not n 0) (same_or_not n number);
    first = first_next within;
    spread = λ all n less. spread_next within all n less (same_or_not n 0) (same_or_not n number);
  }

pub each_all : (old new : ℕ → View) (seats below : ℕ) → (seats < below + 1) → HasMetEach old new seats below → HasMetEach old new seats seats
each_all old new seats below all has = record {
  waits = has.waits;
  gathered = λ n less. has.gathered n (omega (arith, less, all));
  first = has.first;
  spread = λ are n less. has.spread are n (omega (arith, less, all));
}

pub met_all : (old between new : ℕ → View) (seats : ℕ) → HasMetEach old between seats seats → HasMetEach between new seats seats → MetAll seats old new
met_all old between new seats one two =
    ((between 0).front, λ n less. (waits_on (old n) (between n) (new n) (one.waits n less) (two.waits n less), two.spread one.gathered n less))
