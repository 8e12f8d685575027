-- The fault lines of a journal differ, and with one line more they still do.
use Rattle.std.proofs.Common.{◌≡◌, ℕ, ◌+◌, ◌<◌, ◌≤◌, ◌⊎◌, List, [], ◌∷◌, ◌++◌, cond, eqb, Bool, true, false, refl, ap, sym, ◌∙◌, subst, inl, inr, arith, eq-eqb}
use Rattle.std.specs.List.{AllByRecursion}
use mathlib.Core.Logic.{dite}
use native.Mathlib.Decide.{dec_lt}
use Rattle.retro_base.specs.declared.device.Device.{Device}
use Rattle.retro_base.specs.declared.who.Who.{Who}
use Rattle.history.specs.declared.journal.Line.{Line}
use Rattle.history.specs.declared.journal.FailedCall.{FailedCall}
use Rattle.history.specs.declared.journal.What.{What}
use Rattle.history.specs.declared.journal.What.TheVariants.{Began, Done, Overlapped, RolledBack, Looked, LookedAll, Unlooked, Dropped, Refused, Fault}
use Rattle.history.specs.Lines.{DeviceFault, FaultsDiffer, fault_of, faults_of, lines_of, same_device}
use Rattle.history.specs.Lines as journal
use Rattle.history.proofs.Lines.{faults_differ_in_one_more}
use Rattle.turn.specs.declared.view.Holding.{Holding}
use Rattle.turn.specs.Faults.{LAST, desk_faults, fault_lines, fault_times, is_of_desk, line_fault}
use Rattle.turn.specs.Meanings.{DeskMeaning}
use Rattle.turn.specs.Rule.{IsNewer}
use Rattle.turn.specs.Seats.{AddsLine}
use Rattle.turn.proofs.Faults.{desk_told, lines_append, times_append}

told_once : (d e : Device) (c : ℕ) (call : FailedCall) → same_device e d ≡ true → line_fault d c (Fault e c call) ≡ 1
told_once d e c call is =
    ap (λ (t : Bool). cond t (cond (eqb c c) 1 0) 0) is ∙ ap (λ (t : Bool). cond t 1 0) (eq-eqb c c refl)

-- what is so of a fault that a line tells
each_fault : (d : Device) (who : Who) (w : What) (P : DeviceFault → Type 0) → ((c : ℕ) → line_fault d c w ≡ 1 → P (record { session = who.session; count = c })) → AllByRecursion P (fault_of d who w)
each_fault d who Began P p = tt
each_fault d who (Done label writes) P p = tt
each_fault d who (Overlapped session item) P p = tt
each_fault d who RolledBack P p = tt
each_fault d who (Looked snapshot) P p = tt
each_fault d who LookedAll P p = tt
each_fault d who Unlooked P p = tt
each_fault d who (Dropped below) P p = tt
each_fault d who (Refused why) P p = tt
each_fault d who (Fault e c call) P p = go (same_device e d) refl
  where
    go : (t : Bool) → same_device e d ≡ t → AllByRecursion P (cond t (record { session = who.session; count = c } ∷ []) [])
    go true is = (p c (told_once d e c call is), tt)
    go false is = tt

all_join : {X : Type 0} (P : X → Type 0) (xs ys : List X) → AllByRecursion P xs → AllByRecursion P ys → AllByRecursion P (xs ++ ys)
all_join P [] ys all every = every
all_join P (x ∷ xs) ys all every = (all.0, all_join P xs ys all.1 every)

-- the faults of a number's lines, with one line before them
with_line : (d : Device) (c n : ℕ) (l : Line) (J : List Line) → (fault_lines d c (lines_of n J) ≤ fault_lines d c (lines_of n (l ∷ J))) × (l.who.session ≡ n → line_fault d c l.what ≤ fault_lines d c (lines_of n (l ∷ J)))
with_line d c n l J = go (eqb l.who.session n) refl
  where
    go : (t : Bool) → eqb l.who.session n ≡ t
        → (fault_lines d c (lines_of n J) ≤ fault_lines d c (lines_of n (l ∷ J))) × (l.who.session ≡ n → line_fault d c l.what ≤ fault_lines d c (lines_of n (l ∷ J)))
    go true is = let q = ap (λ (t : Bool). fault_lines d c (cond t (l ∷ lines_of n J) (lines_of n J))) is in (omega arith, λ same. omega arith)
    go false is = let q = ap (λ (t : Bool). fault_lines d c (cond t (l ∷ lines_of n J) (lines_of n J))) is in (omega arith, λ same. absurd (cc (is, eq-eqb l.who.session n same)))

-- what is so of each fault that lines tell
all_faults : (d : Device) (n : ℕ) (J : List Line) (P : DeviceFault → Type 0) → ((g : DeviceFault) → 0 < fault_lines d g.count J → (g.session ≡ n → 0 < fault_lines d g.count (lines_of n J)) → P g) → AllByRecursion P (faults_of d J)
all_faults d n [] P p = tt
all_faults d n (l ∷ J) P p =
    all_join P (fault_of d l.who l.what) (faults_of d J)
    (each_fault d l.who l.what P (λ c one. p (record { session = l.who.session; count = c }) (omega arith) (λ same. let more = (with_line d c n l J).1 same in omega arith)))
    (all_faults d n J P (λ g some_ own. p g (omega arith) (λ same. let more = (with_line d g.count n l J).0 in let here = own same in omega arith)))

module _ {O W A : Type 0} (a : DeskMeaning O W A) (h : Holding W) (old new : A) (own : h.lines ≡ lines_of h.number (a.journal old)) (newer : IsNewer h)
    (below : (d : Device) (e : ℕ) → is_of_desk d ≡ true → 0 < fault_lines d e (a.journal old) → e ≤ a.counts old d) (once : (d : Device) (c : ℕ) → c < LAST → fault_lines d c (a.journal new) ≤ 1)
    (differ : FaultsDiffer (a.journal old)) where
  abbrev J : List Line
  J = a.journal old

  -- a fault that was told to a seat has a greater count than its lines
  rises : AddsLine a h old new → (d : Device) (c e : ℕ) → c < LAST → 0 < fault_times d c (h.faults ++ desk_faults (a.counts old) (a.counts new)) → 0 < fault_lines d e J → 0 < fault_lines d e (lines_of h.number J) → e < c
  rises add d c e lt told some_ mine =
      let sum = times_append d c h.faults (desk_faults (a.counts old) (a.counts new)) in
      dite (dec_lt 0 (fault_times d c h.faults)) (λ p. newer d c e lt p (subst (λ (ls : List Line). 0 < fault_lines d e ls) (sym own) mine)) (λ p.
      let n = (desk_told (a.counts old) (a.counts new) d c).1 (omega arith) in let under = below d e n.0 some_ in let over = n.1.above lt in omega arith)

  differ_in_one_more : (add : AddsLine a h old new) → FaultsDiffer (J ++ add.line ∷ [])
  differ_in_one_more add = (faults_differ_in_one_more J add.line).1 (
    differ,
    λ d. all_faults d h.number J _ (λ g some_ mine. each_fault d add.line.who add.line.what _ (λ c one. record {
      other = λ same lt.
          let all = ap (fault_lines d c) add.journal ∙ lines_append d c J add.line in
          let here : 0 < fault_lines d c J = subst (λ (k : ℕ). 0 < fault_lines d k J) (sym same) some_ in
          let most = once d c (omega arith) in absurd (omega arith);
      rises = λ same lt. dite (dec_lt c LAST) (λ small. rises add d c g.count small (add.told d c (omega arith)) some_ (mine (sym same ∙ add.number))) (λ great. omega arith);
    })),
  )

  pub still_differ : (a.journal new ≡ J) ⊎ AddsLine a h old new → FaultsDiffer (a.journal new)
  still_differ (inl same) = subst FaultsDiffer (sym same) differ
  still_differ (inr add) = subst FaultsDiffer (sym add.journal) (differ_in_one_more add)
