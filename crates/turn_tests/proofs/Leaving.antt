-- What an entry may leave behind, and what it tells its seat.
use Rattle.std.proofs.Common.{◌≡◌, ◌<◌, ◌≤◌, ◌+◌, ◌∙◌, ◌⊎◌, ℕ, Bool, true, false, cond, eqb, ltb, ◌||◌, List, [], ◌∷◌, ◌++◌, take, length, ap, refl, sym, subst, inl, inr, ⊎_elim, arith, append-nil, eq-eqb, lt-ltb}
use Rattle.std.specs.Int.{from_bool}
use Rattle.std.proofs.lemmas.List.{length-append}
use Rattle.retro_base.specs.declared.device.Device.{Device}
use Rattle.retro_base.specs.declared.device.Device.TheVariants.{Log, Pages, Pagelog, Maplog, Cabinet}
use Rattle.history.specs.declared.journal.FailedCall.{FailedCall}
use Rattle.history.specs.declared.journal.Line.{Line}
use Rattle.history.specs.declared.journal.What.TheVariants.{Fault}
use Rattle.history.specs.Lines.{lines_of}
use Rattle.turn.specs.declared.view.Holding.{Holding}
use Rattle.turn.specs.Faults.{LAST, desk_faults, fault_times, one_fault, rose, vault_faults}
use Rattle.turn.specs.Seats.{AddsLine, MayLeave}
use Rattle.turn.specs.Views.{PARTS, behind_desk}
use Rattle.turn.proofs.Faults.{times_append}
use Rattle.turn_tests.specs.Makes.{IsMore, Makes}
use Rattle.turn_tests.specs.Meanings.{IsBook, is_quiet, of_book, of_start, only}
use Rattle.turn_tests.specs.Ready.{IsTold}
use Rattle.turn_tests.specs.declared.small.Book.{Book}
use Rattle.turn_tests.proofs.Keeping.{book_more, only_rises, own_more}

-- a line more, or none, behind a desk that has met so many faults
pub may_add : (h : Holding ℕ) (held k : ℕ) (line : Line) (added : Bool) (old new : Book) → h.parts ≡ PARTS → line.who.session ≡ h.number → is_quiet line.what ≡ true → old.faults ≤ k
    → IsTold line.what (h.faults ++ desk_faults (only Log old.faults) (only Log k)) → IsBook old → old.acked ≤ held → Makes line added (record old { faults = k }) new → MayLeave of_book of_start held h old new
may_add h held k line added old new whole mine quiet up told fits acked m =
    let now : IsBook new = book_more line added (record old { faults = k }) new m quiet (record { quiet = fits.quiet; horizon = fits.horizon }) in
    record {
      opening = m.start;
      counts = λ d. subst (λ (n : ℕ). only Log old.faults d ≤ only Log n d) (sym m.faults) (only_rises Log old.faults k up d);
      change = inr (record { whole = whole; works = λ n ne. m.works n (λ e. ne (e ∙ mine)); journal = go added m });
      fits = now;
      lawful = now.quiet;
      acked = subst (λ (n : ℕ). n ≤ held) (sym m.acked) acked;
    }
  where
    go : (t : Bool) → Makes line t (record old { faults = k }) new → (new.lines ≡ old.lines) ⊎ AddsLine of_book h old new
    go false n = inl (n.lines ∙ append-nil old.lines)
    go true n = inr (record {
      line = line;
      number = mine;
      journal = n.lines;
      told = λ d c p. subst (λ (j : ℕ). 0 < fault_times d c (h.faults ++ desk_faults (only Log old.faults) (only Log j))) (sym n.faults) (told d c p);
    })

pub told_before : (faults more : List (Device × ℕ)) (d : Device) (c : ℕ) → 0 < fault_times d c faults → 0 < fault_times d c (faults ++ more)
told_before faults more d c p = let sum = times_append d c faults more in omega arith

or_true : (t : Bool) → (t || true) ≡ true
or_true true = refl
or_true false = refl

-- a device whose count rose is told first
rose_first : (old new : Device → ℕ) (device d : Device) (c : ℕ) → IsMore (old device) (new device) → fault_times d c (rose old new device) ≡ one_fault d c (device, new device) + 0
rose_first old new device d c up = ap (λ (t : Bool). fault_times d c (cond t ((device, new device) ∷ []) [])) is
  where
    is : (ltb (old device) (new device) || eqb (new device) LAST) ≡ true
    is = ⊎_elim (λ (lt : old device < new device). ap (λ (t : Bool). t || eqb (new device) LAST) (lt-ltb (old device) (new device) lt))
        (λ (last : new device ≡ LAST). ap (λ (t : Bool). ltb (old device) (new device) || t) (eq-eqb (new device) LAST last) ∙ or_true (ltb (old device) (new device))) up.more

-- a fault that the desk met in this entry
pub told_by_desk : (faults : List (Device × ℕ)) (old k : ℕ) (call : FailedCall) → IsMore old k → IsTold (Fault Log k call) (faults ++ desk_faults (only Log old) (only Log k))
told_by_desk faults old k call up d c p =
    let first = rose_first (only Log old) (only Log k) Log d c up in
    let sum = times_append d c (rose (only Log old) (only Log k) Log) (rose (only Log old) (only Log k) Pages) in
    let all = times_append d c faults (desk_faults (only Log old) (only Log k)) in omega arith

-- a fault that the vault met
pub told_by_vault : (faults : List (Device × ℕ)) (old k : ℕ) (call : FailedCall) → IsMore old k → IsTold (Fault Pagelog k call) (faults ++ vault_faults (only Pagelog old) (only Pagelog k))
told_by_vault faults old k call up d c p =
    let first = rose_first (only Pagelog old) (only Pagelog k) Pagelog d c up in
    let sum = times_append d c (rose (only Pagelog old) (only Pagelog k) Pagelog) (rose (only Pagelog old) (only Pagelog k) Maplog ++ rose (only Pagelog old) (only Pagelog k) Cabinet) in
    let all = times_append d c faults (vault_faults (only Pagelog old) (only Pagelog k)) in omega arith

pub more_rises : (old new : ℕ) → IsMore old new → old ≤ LAST → old ≤ new
more_rises old new up few = ⊎_elim (λ (lt : old < new). omega arith) (λ (last : new ≡ LAST). omega arith) up.more

-- the lines of a seat behind an entry that added this line of it to the desk, or none
pub line_behind : (line : Line) (added : Bool) (old new : Book) (h now : Holding ℕ) → now ≡ behind_desk of_book old new h → h.lines ≡ lines_of h.number old.lines → line.who.session ≡ h.number → new.lines ≡ old.lines ++ cond added (line ∷ []) []
    → now.lines ≡ h.lines ++ take (from_bool added) (line ∷ [])
line_behind line added old new h now behind own mine is = ap (λ (x : Holding ℕ). x.lines) behind
    ∙ (own_more h.number line added old.lines new.lines mine is ∙ ap (λ (lines : List Line). lines ++ take (from_bool added) (line ∷ [])) (sym own))

-- so many lines, and one more, or none
pub more_lines : (count : ℕ) (line : Line) (added : Bool) (old new : List Line) → count ≤ length old → new ≡ old ++ take (from_bool added) (line ∷ []) → count + from_bool added ≤ length new
more_lines count line true old new le is = let e = ap length is ∙ length-append old (line ∷ []) in omega (arith, e)
more_lines count line false old new le is = let e = ap length is ∙ length-append old [] in omega (arith, e)
