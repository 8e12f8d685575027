-- A core that is whole stays so behind each call.
use Rattle.std.proofs.Common.{◌≡◌, ◌∙◌, ◌⊎◌, inl, inr, ℕ, List, Bool, true, false, refl, sym, subst, Option, Some, None, Result, Ok, Err}
use Rattle.std.specs.Prelude.{is_some, IfErr, IfOk, MatchResult, OnOk}
use Rattle.disk_model.specs.Disk.{State}
use Rattle.retro_base.specs.declared.refusal.Refusal.{Refusal}
use Rattle.retro_base.specs.declared.refusal.Refusal.TheVariants.{DiskFault}
use Rattle.retro_base.specs.declared.who.Who.{Who}
use Rattle.gate_log.specs.Cause.{IsDiskFault}
use Rattle.history.specs.declared.entry.Change.TheVariants.{Commit}
use Rattle.history.specs.History.{History}
use Rattle.history.specs.Lines.{first_stop}
use Rattle.journal_book.specs.declared.work.Transaction.{Transaction}
use Rattle.race_model.specs.Desk.{Desk}
use Rattle.race_model.specs.Machine.{change_failed, stopped}
use Rattle.txn_set.specs.Ledger.{IsOpenAs}
use Rattle.txn_set.specs.Refused.{commit_refused, counts_of}
use Rattle.store_core.specs.declared.desk_core.Core.{Core}
use Rattle.store_core.specs.Calls.{failed}
use Rattle.store_core.specs.Commits.{IsAllowed, IsRefusedSo, desk_behind}
use Rattle.store_core.specs.Core.{IsCore, IsWholeCore, StaysCore}
use Rattle.store_core.proofs.Committed.{core_pair}
use Rattle.history.specs.declared.journal.FailedCall.TheVariants.{Write}
use Rattle.store_core.proofs.Faulted.{failed_same}

fault_or : (why : Refusal) → IsDiskFault why ⊎ (IsDiskFault why → ⊥)
fault_or (DiskFault device count) = inl tt
fault_or other = inr (λ is. is)

-- a call that went, failed, or was refused
ended : {T W : Type 0} (outcome : Result T Refusal) → OnOk outcome W → IfErr outcome (λ why. IsDiskFault why → W) → IfErr outcome (λ why. (IsDiskFault why → ⊥) → W) → W
ended (Ok x) done failed refused = done
ended (Err why) done failed refused = elim (fault_or why) [
  | inl fault ↦ failed fault
  | inr none ↦ refused none
]

ok_map : {T P Q : Type 0} (outcome : Result T Refusal) → OnOk outcome P → (P → Q) → OnOk outcome Q
ok_map (Ok x) is next = next is
ok_map (Err why) is next = is

pub err_map : {T : Type 0} {P Q : Refusal → Type 0} (outcome : Result T Refusal) → IfErr outcome P → ((why : Refusal) → P why → Q why) → IfErr outcome Q
err_map (Ok x) is next = is
err_map (Err why) is next = next why is

-- by what the call tells
told_map : (W : Type 0) (outcome : Result Bool Refusal) → IfOk outcome (λ told. told ≡ true → W) → IfOk outcome (λ told. told ≡ false → W) → OnOk outcome W
told_map W (Ok true) did idle = did refl
told_map W (Ok false) did idle = idle refl
told_map W (Err why) did idle = did

pub ok_and : {T : Type 0} {P Q : T → Type 0} (outcome : Result T Refusal) → IfOk outcome P → ((x : T) → P x → Q x) → IfOk outcome Q
ok_and (Ok x) is next = next x is
ok_and (Err why) is next = is

module _ {D : Type 0} (honest : D → Type 0) (state : D → State) (old new : Core D) (whole : IsWholeCore honest state old) where
  pub stays_whole : StaysCore honest state old new → IsWholeCore honest state new
  stays_whole stays = record { opening = whole.opening; plain = whole.plain; is = stays whole.opening whole.plain whole.is }

  behind : (plain : Desk) → IsCore honest state whole.opening new plain → IsWholeCore honest state new
  behind plain is = record { opening = whole.opening; plain = plain; is = is }

  same : new ≡ old → IsWholeCore honest state new
  same is = subst (IsWholeCore honest state) (sym is) whole

  -- a refusal that leaves desk and ledger
  refused : {T : Type 0} (who : Who) (outcome : Result T Refusal) → MatchResult outcome (λ _. new.ledger ≡ old.ledger) (λ why. new.ledger ≡ failed who why old.ledger)
      → IfErr outcome (λ why. (IsDiskFault why → ⊥) → new.desk ≡ old.desk) → IfErr outcome (λ why. (IsDiskFault why → ⊥) → IsWholeCore honest state new)
  refused who (Ok x) ledger untouched = untouched
  refused who (Err why) ledger untouched = λ none. same (core_pair new old (untouched none) (ledger ∙ failed_same Write who why old.ledger none))

  pub commit_whole : (who : Who) (label : Option (List ℕ)) (outcome : Result (Option ℕ) Refusal) → IsOpenAs old.ledger.works.slots who
      → ((t : Transaction) (why : Refusal) → IsRefusedSo old who label t why → StaysCore honest state old new)
      → ((t : Transaction) → IsAllowed old who label t → IfErr outcome (λ why. (IsDiskFault why → ⊥) → new ≡ old))
      → ((opening : History) (plain : Desk) (t : Transaction) → IsCore honest state opening old plain → IsAllowed old who label t → OnOk outcome (IsCore honest state opening new (desk_behind plain label t.edits)))
      → ((opening : History) (plain : Desk) (t : Transaction) → IsCore honest state opening old plain → IsAllowed old who label t
      → IfErr outcome (λ why. IsDiskFault why → IsCore honest state opening new (change_failed plain (Commit label t.edits))))
      → IsWholeCore honest state new
  commit_whole who label outcome opened stays untouched done fails =
      at (commit_refused (first_stop old.ledger.book.lines) (counts_of old.desk.base opened.transaction.edits) old.ledger.book.lines opened.transaction (is_some label)) refl where
        at : (why : Option Refusal) → commit_refused (first_stop old.ledger.book.lines) (counts_of old.desk.base opened.transaction.edits) old.ledger.book.lines opened.transaction (is_some label) ≡ why → IsWholeCore honest state new
        at (Some why) e = stays_whole (stays opened.transaction why (record { is_open = opened.open_there; is = e }))
        at None e =
            let allowed : IsAllowed old who label opened.transaction = record { is_open = opened.open_there; free = e } in
            ended outcome (ok_map outcome (done whole.opening whole.plain opened.transaction whole.is allowed) (λ is. behind (desk_behind whole.plain label opened.transaction.edits) is))
            (err_map outcome (fails whole.opening whole.plain opened.transaction whole.is allowed) (λ why is fault. behind (change_failed whole.plain (Commit label opened.transaction.edits)) (is fault)))
            (err_map outcome (untouched opened.transaction allowed) (λ why is none. same (is none)))

  pub drop_whole : {T : Type 0} (outcome : Result T Refusal) (done other : Desk) → OnOk outcome (IsCore honest state whole.opening new done)
      → IfErr outcome (λ why. IsDiskFault why → IsCore honest state whole.opening new other) → IfErr outcome (λ why. (IsDiskFault why → ⊥) → StaysCore honest state old new)
      → IsWholeCore honest state new
  drop_whole outcome done other goes fails stays =
      ended outcome (ok_map outcome goes (behind done)) (err_map outcome fails (λ why is fault. behind other (is fault))) (err_map outcome stays (λ why is none. stays_whole (is none)))

  pub settle_whole : {T : Type 0} (who : Who) (outcome : Result T Refusal) (done other : Desk) → OnOk outcome (IsCore honest state whole.opening new done)
      → IfErr outcome (λ why. IsDiskFault why → IsCore honest state whole.opening new other)
      → MatchResult outcome (λ _. new.ledger ≡ old.ledger) (λ why. new.ledger ≡ failed who why old.ledger)
      → IfErr outcome (λ why. (IsDiskFault why → ⊥) → new.desk ≡ old.desk) → IsWholeCore honest state new
  settle_whole who outcome done other goes fails ledger untouched =
      ended outcome (ok_map outcome goes (behind done)) (err_map outcome fails (λ why is fault. behind other (is fault))) (refused who outcome ledger untouched)

  -- a call that tells whether it did something
  pub told_whole : (N : Type 0) (who : Who) (outcome : Result Bool Refusal) → IfOk outcome (λ told. told ≡ true → (plain : Desk) × IsCore honest state whole.opening new plain)
      → IfOk outcome (λ told. told ≡ false → (new ≡ old) × N) → IfErr outcome (λ why. IsDiskFault why → (plain : Desk) × IsCore honest state whole.opening new plain)
      → MatchResult outcome (λ _. new.ledger ≡ old.ledger) (λ why. new.ledger ≡ failed who why old.ledger)
      → IfErr outcome (λ why. (IsDiskFault why → ⊥) → new.desk ≡ old.desk) → IsWholeCore honest state new
  told_whole N who outcome did idle fails ledger untouched =
      ended outcome
      (told_map (IsWholeCore honest state new) outcome (ok_and outcome did (λ told is e. let found = is e in behind found.0 found.1)) (ok_and outcome idle (λ told is e. same (is e).0)))
      (err_map outcome fails (λ why is fault. let found = is fault in behind found.0 found.1)) (refused who outcome ledger untouched)

  pub note_whole : (wrote : Bool) → (wrote ≡ true → IsCore honest state whole.opening new (stopped whole.plain)) → (wrote ≡ false → StaysCore honest state old new) → IsWholeCore honest state new
  note_whole true stops quiet = behind (stopped whole.plain) (stops refl)
  note_whole false stops quiet = stays_whole (quiet refl)
