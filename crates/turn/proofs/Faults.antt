-- How often a fault stands in lines and among faults that were told.
use Rattle.std.proofs.Common.{◌≡◌, ℕ, ◌+◌, ◌<◌, ◌≤◌, List, [], ◌∷◌, ◌++◌, cond, length, drop, append-nil, eqb, ltb, ◌||◌, Bool, true, false, refl, ap, sym, ◌∙◌, subst, arith, eq-eqb, ne_eqb}
use Rattle.std.proofs.lemmas.Bool.{lt-ltb, ltb-true}
use mathlib.Core.Logic.{dite}
use native.Mathlib.Decide.{ℕ_discrete, dec_lt}
use Rattle.retro_base.specs.declared.device.Device.{Device}
use Rattle.retro_base.specs.declared.device.Device.TheVariants.{Log, Pages, Pagelog, Maplog, Cabinet}
use Rattle.history.specs.declared.journal.Line.{Line}
use Rattle.history.specs.declared.journal.What.{What}
use Rattle.history.specs.declared.journal.What.TheVariants.{Began, Done, Overlapped, RolledBack, Looked, LookedAll, Unlooked, Dropped, Refused, Fault}
use Rattle.turn.specs.Faults.{LAST, is_of_desk, one_fault, fault_times, line_fault, fault_lines, rose, desk_faults, vault_faults, tells_of, some_tells, untold_by}
use Rattle.turn.specs.Views.{still_told}
use Rattle.history.specs.Lines.{lines_of, same_device}
use Rattle.turn.proofs.Totals.{total_append}

pub lines_append : (d : Device) (c : ℕ) (J : List Line) (l : Line) → fault_lines d c (J ++ l ∷ []) ≡ fault_lines d c J + line_fault d c l.what
lines_append d c J l = total_append (λ (x : Line). line_fault d c x.what) J (l ∷ []) ∙ omega arith

pub times_append : (d : Device) (c : ℕ) (fs gs : List (Device × ℕ)) → fault_times d c (fs ++ gs) ≡ fault_times d c fs + fault_times d c gs
times_append d c fs gs = total_append (one_fault d c) fs gs

-- the lines of one number are among the lines
pub lines_within : (d : Device) (c n : ℕ) (J : List Line) → fault_lines d c (lines_of n J) ≤ fault_lines d c J
lines_within d c n [] = omega arith
lines_within d c n (l ∷ J) = go (lines_within d c n J) (eqb l.who.session n) refl
  where
    go : fault_lines d c (lines_of n J) ≤ fault_lines d c J → (b : Bool) → eqb l.who.session n ≡ b → fault_lines d c (lines_of n (l ∷ J)) ≤ fault_lines d c (l ∷ J)
    go r true e = let is : lines_of n (l ∷ J) ≡ l ∷ lines_of n J = ap (λ (b : Bool). cond b (l ∷ lines_of n J) (lines_of n J)) e in let q = ap (fault_lines d c) is in omega arith
    go r false e = let is : lines_of n (l ∷ J) ≡ lines_of n J = ap (λ (b : Bool). cond b (l ∷ lines_of n J) (lines_of n J)) e in let q = ap (fault_lines d c) is in omega arith

is_device : (d e : Device) → same_device d e ≡ true → d ≡ e
is_device Log Log is = refl
is_device Pages Pages is = refl
is_device Pagelog Pagelog is = refl
is_device Maplog Maplog is = refl
is_device Cabinet Cabinet is = refl
is_device _ _ is = absurd (cc is)

same_self : (d : Device) → same_device d d ≡ true
same_self Log = refl
same_self Pages = refl
same_self Pagelog = refl
same_self Maplog = refl
same_self Cabinet = refl

one_is : (d : Device) (c : ℕ) (e : Device) (k : ℕ) → 0 < one_fault d c (e, k) → (e ≡ d) × (k ≡ c)
one_is d c e k h = go (same_device e d) refl
  where
    go : (t : Bool) → same_device e d ≡ t → (e ≡ d) × (k ≡ c)
    go true is = dite (ℕ_discrete k c) (λ q. (is_device e d is, q))
        (λ ne. let z : one_fault d c (e, k) ≡ 0 = ap (λ (b : Bool). cond b (cond (eqb k c) 1 0) 0) is ∙ ap (λ (b : Bool). cond b 1 0) (ne_eqb k c ne) in absurd (omega arith))
    go false is = let z : one_fault d c (e, k) ≡ 0 = ap (λ (b : Bool). cond b (cond (eqb k c) 1 0) 0) is in absurd (omega arith)

one_most : (d : Device) (c : ℕ) (e : Device) (k : ℕ) → one_fault d c (e, k) ≤ 1
one_most d c e k = go (same_device e d) (eqb k c)
  where
    go : (a b : Bool) → cond a (cond b 1 0) 0 ≤ 1
    go true true = omega arith
    go true false = omega arith
    go false true = omega arith
    go false false = omega arith

pub fault_most : (d : Device) (c : ℕ) (w : What) → line_fault d c w ≤ 1
fault_most d c Began = omega arith
fault_most d c (Done a b) = omega arith
fault_most d c (Overlapped a b) = omega arith
fault_most d c RolledBack = omega arith
fault_most d c (Looked n) = omega arith
fault_most d c LookedAll = omega arith
fault_most d c Unlooked = omega arith
fault_most d c (Dropped n) = omega arith
fault_most d c (Refused y) = omega arith
fault_most d c (Fault e k w) = one_most d c e k

-- ---- what lines tell of a device

pub tells_one : (d : Device) (w : What) → tells_of d w ≡ true → (c : ℕ) × (line_fault d c w ≡ 1)
tells_one d Began is = absurd (cc is)
tells_one d (Done label writes) is = absurd (cc is)
tells_one d (Overlapped session item) is = absurd (cc is)
tells_one d RolledBack is = absurd (cc is)
tells_one d (Looked snapshot) is = absurd (cc is)
tells_one d LookedAll is = absurd (cc is)
tells_one d Unlooked is = absurd (cc is)
tells_one d (Dropped below) is = absurd (cc is)
tells_one d (Refused why) is = absurd (cc is)
tells_one d (Fault e c call) is = (c, ap (λ (t : Bool). cond t (cond (eqb c c) 1 0) 0) is ∙ ap (λ (t : Bool). cond t 1 0) (eq-eqb c c refl))

pub tells_none : (d : Device) (c : ℕ) (w : What) → tells_of d w ≡ false → line_fault d c w ≡ 0
tells_none d c Began is = refl
tells_none d c (Done label writes) is = refl
tells_none d c (Overlapped session item) is = refl
tells_none d c RolledBack is = refl
tells_none d c (Looked snapshot) is = refl
tells_none d c LookedAll is = refl
tells_none d c Unlooked is = refl
tells_none d c (Dropped below) is = refl
tells_none d c (Refused why) is = refl
tells_none d c (Fault e k call) is = ap (λ (t : Bool). cond t (cond (eqb k c) 1 0) 0) is

pub untold_by_none : (fs : List (Device × ℕ)) → untold_by [] fs ≡ fs
untold_by_none [] = refl
untold_by_none (f ∷ fs) = ap (λ (gs : List (Device × ℕ)). f ∷ gs) (untold_by_none fs)

-- what stays of the faults of a device: all, where no line tells one of it, and else none
pub untold_stays : (lines : List Line) (d : Device) (c : ℕ) (fs : List (Device × ℕ)) → some_tells d lines ≡ false → fault_times d c (untold_by lines fs) ≡ fault_times d c fs
untold_stays lines d c [] none = refl
untold_stays lines d c (f ∷ fs) none = go (untold_stays lines d c fs none) (some_tells f.0 lines) refl
  where
    go : fault_times d c (untold_by lines fs) ≡ fault_times d c fs → (t : Bool) → some_tells f.0 lines ≡ t → fault_times d c (untold_by lines (f ∷ fs)) ≡ fault_times d c (f ∷ fs)
    go r true e =
        let is = ap (λ (t : Bool). fault_times d c (cond t (untold_by lines fs) (f ∷ untold_by lines fs))) e in
        dite (dec_lt 0 (one_fault d c f)) (λ p. absurd (cc (sym e ∙ (ap (λ (x : Device). some_tells x lines) (one_is d c f.0 f.1 p).0 ∙ none)))) (λ p. omega arith)
    go r false e = let is = ap (λ (t : Bool). fault_times d c (cond t (untold_by lines fs) (f ∷ untold_by lines fs))) e in omega arith

pub untold_goes : (lines : List Line) (d : Device) (c : ℕ) (fs : List (Device × ℕ)) → some_tells d lines ≡ true → fault_times d c (untold_by lines fs) ≡ 0
untold_goes lines d c [] told = refl
untold_goes lines d c (f ∷ fs) told = go (untold_goes lines d c fs told) (some_tells f.0 lines) refl
  where
    go : fault_times d c (untold_by lines fs) ≡ 0 → (t : Bool) → some_tells f.0 lines ≡ t → fault_times d c (untold_by lines (f ∷ fs)) ≡ 0
    go r true e = ap (λ (t : Bool). fault_times d c (cond t (untold_by lines fs) (f ∷ untold_by lines fs))) e ∙ r
    go r false e =
        let is = ap (λ (t : Bool). fault_times d c (cond t (untold_by lines fs) (f ∷ untold_by lines fs))) e in
        dite (dec_lt 0 (one_fault d c f)) (λ p. absurd (cc (sym e ∙ (ap (λ (x : Device). some_tells x lines) (one_is d c f.0 f.1 p).0 ∙ told)))) (λ p. omega arith)

drop_all : {X : Type 0} (xs ys : List X) → drop (length xs) (xs ++ ys) ≡ ys
drop_all [] ys = refl
drop_all (x ∷ xs) ys = drop_all xs ys

-- behind an entry that leaves the journal, and behind one that adds a line
pub told_still : (old new : List Line) (fs : List (Device × ℕ)) → new ≡ old → still_told old new fs ≡ fs
told_still old new fs same = ap (λ (lines : List Line). untold_by (drop (length old) lines) fs) (same ∙ sym (append-nil old)) ∙ (ap (λ (lines : List Line). untold_by lines fs) (drop_all old []) ∙ untold_by_none fs)

pub told_but : (old new : List Line) (line : Line) (fs : List (Device × ℕ)) → new ≡ old ++ line ∷ [] → still_told old new fs ≡ untold_by (line ∷ []) fs
told_but old new line fs more = ap (λ (lines : List Line). untold_by (drop (length old) lines) fs) more ∙ ap (λ (lines : List Line). untold_by lines fs) (drop_all old (line ∷ []))

pub one_tells : (d : Device) (line : Line) (t : Bool) → tells_of d line.what ≡ t → some_tells d (line ∷ []) ≡ t
one_tells d line true e = ap (λ (t : Bool). t || false) e
one_tells d line false e = ap (λ (t : Bool). t || false) e

-- a fault that is told is of the count as it is, which rose or is the last one
pub record IsNew (old new : Device → ℕ) (d : Device) (c : ℕ) : Type 0 where
  pub now : c ≡ new d
  pub above : c < LAST → old d < c

module _ (old new : Device → ℕ) (d : Device) (c : ℕ) where
  abbrev Rose : Device → Type 0
  Rose e = (fault_times d c (rose old new e) ≤ 1) × (0 < fault_times d c (rose old new e) → (e ≡ d) × IsNew old new d c)

  rose_is : (e : Device) → Rose e
  rose_is e = go (ltb (old e) (new e)) (eqb (new e) LAST) refl refl
    where
      told : rose old new e ≡ (e, new e) ∷ [] → (c < LAST → old e < new e) → Rose e
      told is up =
          let t : fault_times d c (rose old new e) ≡ one_fault d c (e, new e) + 0 = ap (fault_times d c) is in
          let m = one_most d c e (new e) in (
            omega arith,
            λ h. let o = one_is d c e (new e) (omega arith) in
                (o.0, record { now = sym o.1 ∙ ap new o.0; above = λ lt. subst (λ (x : Device × ℕ). old x.0 < x.1) (λ i. (o.0 i, o.1 i)) (up lt) }),
          )

      go : (p q : Bool) → ltb (old e) (new e) ≡ p → eqb (new e) LAST ≡ q → Rose e
      go true q x y = told (ap (λ (b : Bool). cond (b || eqb (new e) LAST) ((e, new e) ∷ []) []) x) (λ _. ltb-true (old e) (new e) x)
      go false true x y = last (dite (ℕ_discrete (new e) LAST) (λ z. z) (λ ne. absurd (cc (sym y ∙ ne_eqb (new e) LAST ne))))
        where
          last : new e ≡ LAST → Rose e
          last z =
              let is : rose old new e ≡ (e, new e) ∷ [] = ap (λ (b : Bool × Bool). cond (b.0 || b.1) ((e, new e) ∷ []) []) (λ i. (x i, y i)) in
              let t : fault_times d c (rose old new e) ≡ one_fault d c (e, new e) + 0 = ap (fault_times d c) is in
              let m = one_most d c e (new e) in (
                omega arith,
                λ h. let o = one_is d c e (new e) (omega arith) in
                    (o.0, record { now = sym o.1 ∙ ap new o.0; above = λ lt. let k = o.1 in absurd (omega arith) }),
              )
      go false false x y =
          let is : rose old new e ≡ [] = ap (λ (b : Bool × Bool). cond (b.0 || b.1) ((e, new e) ∷ []) []) (λ i. (x i, y i)) in
          let t : fault_times d c (rose old new e) ≡ 0 = ap (fault_times d c) is in
          (omega arith, λ h. absurd (omega arith))

  -- a fault is of one device
  apart : (e f : Device) → same_device e f ≡ false → fault_times d c (rose old new e) + fault_times d c (rose old new f) ≤ 1
  apart e f ne =
      let x = rose_is e in let y = rose_is f in let one = x.0 in let two = y.0 in
      dite (dec_lt 0 (fault_times d c (rose old new e)))
      (λ p. dite (dec_lt 0 (fault_times d c (rose old new f))) (λ q. absurd (cc (sym ne ∙ ap (same_device e) (sym ((x.1 p).0 ∙ sym (y.1 q).0)) ∙ same_self e))) (λ q. omega arith))
      (λ p. omega arith)

  -- a count that rose is told
  rose_tells : (e : Device) → old e < new e → fault_times e (new e) (rose old new e) ≡ 1
  rose_tells e up =
      let is : rose old new e ≡ (e, new e) ∷ [] = ap (λ (t : Bool). cond (t || eqb (new e) LAST) ((e, new e) ∷ []) []) (lt-ltb (old e) (new e) up) in
      let one : one_fault e (new e) (e, new e) ≡ 1 = ap (λ (t : Bool). cond t (cond (eqb (new e) (new e)) 1 0) 0) (same_self e) ∙ ap (λ (t : Bool). cond t 1 0) (eq-eqb (new e) (new e) refl) in
      let sum = ap (fault_times e (new e)) is in omega arith

  -- what an entry to the desk tells
  pub desk_told : (fault_times d c (desk_faults old new) ≤ 1) × (0 < fault_times d c (desk_faults old new) → (is_of_desk d ≡ true) × IsNew old new d c)
  desk_told =
      let sum = times_append d c (rose old new Log) (rose old new Pages) in
      let most = apart Log Pages refl in (
        omega arith,
        λ h. dite (dec_lt 0 (fault_times d c (rose old new Log)))
            (λ p. let x = (rose_is Log).1 p in (ap is_of_desk (sym x.0), x.1))
            (λ p. let x = (rose_is Pages).1 (omega arith) in (ap is_of_desk (sym x.0), x.1)),
      )

  -- what an entry to the vault tells
  pub vault_told : (fault_times d c (vault_faults old new) ≤ 1) × (0 < fault_times d c (vault_faults old new) → (is_of_desk d ≡ false) × IsNew old new d c)
  vault_told =
      let sum = times_append d c (rose old new Pagelog) (rose old new Maplog ++ rose old new Cabinet) in
      let sum' = times_append d c (rose old new Maplog) (rose old new Cabinet) in
      let one = apart Pagelog Maplog refl in
      let two = apart Pagelog Cabinet refl in
      let three = apart Maplog Cabinet refl in (
        omega arith,
        λ h. dite (dec_lt 0 (fault_times d c (rose old new Pagelog)))
            (λ p. let x = (rose_is Pagelog).1 p in (ap is_of_desk (sym x.0), x.1))
            (λ p. dite (dec_lt 0 (fault_times d c (rose old new Maplog)))
            (λ q. let x = (rose_is Maplog).1 q in (ap is_of_desk (sym x.0), x.1))
            (λ q. let x = (rose_is Cabinet).1 (omega arith) in (ap is_of_desk (sym x.0), x.1))),
      )

module _ (old new : Device → ℕ) where
  -- a count of the desk's that rose is told by an entry to it, and one of the vault's too
  pub desk_hears : (d : Device) → is_of_desk d ≡ true → old d < new d → 0 < fault_times d (new d) (desk_faults old new)
  desk_hears Log is up = let one = rose_tells old new Log 0 Log up in let sum = times_append Log (new Log) (rose old new Log) (rose old new Pages) in omega arith
  desk_hears Pages is up = let one = rose_tells old new Log 0 Pages up in let sum = times_append Pages (new Pages) (rose old new Log) (rose old new Pages) in omega arith
  desk_hears Pagelog is up = absurd (cc is)
  desk_hears Maplog is up = absurd (cc is)
  desk_hears Cabinet is up = absurd (cc is)

  pub vault_hears : (d : Device) → is_of_desk d ≡ false → old d < new d → 0 < fault_times d (new d) (vault_faults old new)
  vault_hears Log is up = absurd (cc is)
  vault_hears Pages is up = absurd (cc is)
  vault_hears Pagelog is up = let one = rose_tells old new Log 0 Pagelog up in let sum = times_append Pagelog (new Pagelog) (rose old new Pagelog) (rose old new Maplog ++ rose old new Cabinet) in omega arith
  vault_hears Maplog is up =
      let one = rose_tells old new Log 0 Maplog up in let sum = times_append Maplog (new Maplog) (rose old new Pagelog) (rose old new Maplog ++ rose old new Cabinet) in
      let sum' = times_append Maplog (new Maplog) (rose old new Maplog) (rose old new Cabinet) in omega arith
  vault_hears Cabinet is up =
      let one = rose_tells old new Log 0 Cabinet up in let sum = times_append Cabinet (new Cabinet) (rose old new Pagelog) (rose old new Maplog ++ rose old new Cabinet) in
      let sum' = times_append Cabinet (new Cabinet) (rose old new Maplog) (rose old new Cabinet) in omega arith
