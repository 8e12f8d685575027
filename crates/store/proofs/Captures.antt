-- Captures are counted up, and a round that copies nothing has seen all of them held.
use Rattle.std.proofs.Common.{◌≡◌, ◌≤◌, ◌+◌, ◌++◌, ◌∙◌, ℕ, Bool, true, false, List, [], ◌∷◌, length, Option, Some, None, IfSome, Ok, arith, refl, sym, ap, subst}
use Rattle.atomic_table.specs.Seated.{TableId}
use Rattle.disk_model.specs.Disk.{State}
use Rattle.disk_model.specs.Moments.{Clock}
use Rattle.retro_base.specs.declared.who.Who.{Who}
use Rattle.history.specs.declared.entry.Base.{Base}
use Rattle.history.specs.declared.entry.Change.{Change}
use Rattle.history.specs.declared.entry.Change.TheVariants.{Commit, Drop}
use Rattle.history.specs.declared.journal.Line.{Line}
use Rattle.history.specs.History.{History, base_after, bases_after, capturing, now}
use Rattle.history.specs.Journal.{changes_of}
use Rattle.history.specs.Lines.{base_of}
use Rattle.history.specs.Writes.{pages_of}
use Rattle.history.proofs.Journals.{bases-append, changes-append}
use Rattle.history.proofs.Lines.{base_after_journal}
use Rattle.race_model.specs.Vault.{Batch}
use Rattle.desk.proofs.Steps.{counted}
use Rattle.store_core.specs.declared.desk_core.Core.{Core}
use Rattle.turn.specs.Seats.{held, opening, seen}
use Rattle.store.specs.declared.desk_side.DeskSide.{DeskSide}
use Rattle.store.specs.declared.start.Start.{Start}
use Rattle.store.specs.RoundCalls.{Offers}
use Rattle.store.specs.Rounds.{CopiesRound}
use Rattle.store.specs.Seats.{Sat, Visited, Visits, journal}
use Rattle.store.specs.Sides.{DeskStands}
use Rattle.store.specs.Start.{opened_base}
use Rattle.store.specs.WorkerRounds.{IsHeld}

-- ---- counted up

up_all : (base : Base) (changes : List Change) → base.captures ≤ (bases_after base changes).captures
up_all base [] = omega arith
up_all base (Commit label writes ∷ changes) =
    let more : base.captures + length (pages_of (capturing base writes)) ≤ (bases_after (base_after base (Commit label writes)) changes).captures = up_all (base_after base (Commit label writes)) changes in
    omega (arith, more)
up_all base (Drop below ∷ changes) = up_all (base_after base (Drop below)) changes

captures_up : (base : Base) (lines more : List Line) → (base_of base lines).captures ≤ (base_of base (lines ++ more)).captures
captures_up base lines more =
    let here : Base = base_of base lines in
    let all : base_of base (lines ++ more) ≡ bases_after here (changes_of here more) =
    ap (bases_after base) (changes-append base lines more) ∙ bases-append base (changes_of base lines) (changes_of here more) in
    subst (λ (b : Base). here.captures ≤ b.captures) (sym all) (up_all here (changes_of here more))

held_below : {D : Type 0} (count : ℕ) (lines more : List Line) (o : Option (Start D)) → IfSome o (λ start. (base_of (opened_base start) (lines ++ more)).captures ≤ count)
    → IfSome o (λ start. (base_of (opened_base start) lines).captures ≤ count)
held_below count lines more (Some start) all = let up = captures_up (opened_base start) lines more in omega (arith, up, all)
held_below count lines more None all = tt

-- what is held behind more lines is held
pub front_held : {D : Type 0} (s : Sat D) (lines more : List Line) → IsHeld s (lines ++ more) → IsHeld s lines
front_held s lines more = held_below (held s) lines more (opening s)

-- ---- none is pending

module _ {D : Type 0} (is_honest : D → Type 0) (state : D → State) (side : DeskSide D) (stands : DeskStands is_honest state side) where
  -- the log says what it says behind the journal
  base_is : side.core.desk.base ≡ base_of (opened_base side.start) (journal side)
  base_is =
      let origin = stands.origin in
      let from_ = stands.stands origin stands.opened in
      from_.is.is.base
      ∙ (ap (λ (h : History). (now h).base) from_.is.journal
      ∙ (base_after_journal origin.history (journal side) ∙ ap (λ (b : Base). base_of b (journal side)) stands.opened.base))

  -- all that was captured is acknowledged or pending
  pub all_counted : side.core.desk.queue.first + length side.core.desk.queue.images ≡ (base_of (opened_base side.start) (journal side)).captures
  all_counted =
      let from_ = stands.stands stands.origin stands.opened in
      counted is_honest state side.core.desk from_.plain from_.is.is from_.is.fits ∙ ap (λ (b : Base). b.captures) base_is

module _ {D : Type 0} (is_honest : D → Type 0) (state : D → State) (faults : D → ℕ) (z : TableId) where
  module _ (s0 s1 : Sat D) (d0 d1 : DeskSide D) (v : Visited is_honest state faults z s0 s1 d0 d1) (same : d1.core ≡ d0.core) (none : d0.core.desk.queue.images ≡ []) where
    counted_is : d0.core.desk.queue.first ≡ (base_of (opened_base d0.start) (journal d0)).captures
    counted_is =
        let all = all_counted is_honest state d0 v.stands in
        let few = ap length none in
        omega (arith, all, few)

    sees : seen s1 ≡ journal d0
    sees = v.seen ∙ ap (λ (c : Core D). c.ledger.book.lines) same

    pub visit_held : IsHeld s1 (seen s1)
    visit_held =
        let here : (base_of (opened_base d0.start) (journal d0)).captures ≤ held s1 = let a = v.acked in let c = counted_is in omega (arith, a, c) in
        subst (λ (o : Option (Start D)). IfSome o (λ start. (base_of (opened_base start) (seen s1)).captures ≤ held s1)) (sym (v.same.opening ∙ v.opening))
        (subst (λ (l : List Line). (base_of (opened_base d0.start) l).captures ≤ held s1) (sym sees) here)

  module _ (remembers : Type 0) (clock : D → Clock) (who : Who) (before batch : Batch) (s0 s1 : Sat D) (round : CopiesRound is_honest state faults z remembers clock who before batch (Ok false) s0 s1) where
    -- a round that copied nothing
    pub idle_held : IsHeld s1 (seen s1)
    idle_held = at round.asked refl where
      at : (b : Bool) → round.asked ≡ b → IsHeld s1 (seen s1)
      at true e = let done = round.some e in absurd (cc done.0)
      at false e =
          let asks = subst (λ (b : Bool). Visits is_honest state faults z (Offers before batch b) s0 round.middle) e round.asks in
          subst (λ (s : Sat D). IsHeld s (seen s)) (sym (round.none e).1) (visit_held s0 round.middle asks.before asks.after asks.visited asks.does.same (asks.does.none refl).0)
