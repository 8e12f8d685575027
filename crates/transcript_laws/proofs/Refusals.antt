-- What the number of a refusal tells of it, at its place.
use Rattle.std.proofs.Common.{◌≡◌, ◌⊎◌, ◌<◌, ◌≤◌, ◌+◌, ◌++◌, ◌==◌, ℕ, Bool, true, false, cond, List, [], ◌∷◌, Option, Some, None, Err, refl, ap, sym, subst, ◌∙◌, inl, inr, arith}
use mathlib.Core.Bool.{true≢false}
use Rattle.std.specs.List.{AllByRecursion}
use Rattle.retro_base.specs.Refusal.{number_of}
use Rattle.retro_base.specs.declared.limits.TheConstants.{EDITED_PAGES}
use Rattle.retro_base.specs.declared.refusal.Refusal.{Refusal}
use Rattle.retro_base.specs.declared.refusal.Refusal.TheVariants.{OutOfMemory, ArchiveFull, JournalFull, NoSuchSnapshot, PagesFull, Pinned, SnapshotsFull, Stopped, TooManyPages}
use Rattle.retro_base.specs.declared.who.Who.{Who}
use Rattle.history.specs.declared.journal.Line.{Line}
use Rattle.history.specs.Sound.{Pin}
use Rattle.journal_law.specs.Language.{AsOf, Commit, DropBelow, End, Kind, Language, Lineless, OverAll, Transaction}
use Rattle.journal_law.specs.Lawful.{AtDrop, DropRefused, Ground, IsLeastPin, IsLimit, RefusedAlone, UnansweredIn, limit_by, unanswered_by}
use Rattle.journal_law.specs.World.{World, as_of}
use Rattle.transcript_laws.specs.Shown.{hides_values}
use Rattle.transcript_laws.proofs.Runs.{NoTransaction}

first_number : (why : Refusal) → number_of why ≡ 1 → why ≡ OutOfMemory
first_number OutOfMemory e = refl
first_number why e = absurd (omega arith)

abbrev pub HasLines : Kind → Type 0
HasLines Lineless = ⊥
HasLines kind = Unit {0}

-- ---- drops

all_at : {X : Type 0} (P : X → Type 0) (xs : List X) (x : X) (ys : List X) → AllByRecursion P (xs ++ x ∷ ys) → P x
all_at P [] x ys all = all.0
all_at P (y ∷ xs) x ys all = all_at P xs x ys all.1

-- a pair is not above another
abbrev IsLeast : ℕ → ℕ → ℕ → ℕ → Type 0
IsLeast a b c d = (a < c) ⊎ ((a ≡ c) × (b ≤ d))

one_least : (a b c d : ℕ) → IsLeast a b c d → IsLeast c d a b → (a ≡ c) × (b ≡ d)
one_least a b c d (inl p) (inl q) = absurd (omega arith)
one_least a b c d (inl p) (inr q) = absurd (omega (arith, q.0))
one_least a b c d (inr p) (inl q) = absurd (omega (arith, p.0))
one_least a b c d (inr p) (inr q) = (p.0, omega (arith, p.1, q.1))

least_at : (pins : List Pin) (below snapshot session other by : ℕ) → IsLeastPin pins below snapshot session
    → IsLeastPin pins below other by → IsLeast snapshot session other by
least_at pins below snapshot session other by one two =
    let below_each = λ (pin : Pin). IsLeast snapshot session pin.snapshot pin.who.session in
    subst (IsLeast snapshot session other) two.is
    (all_at below_each two.front (record { who = two.who; snapshot = other }) two.more
    (subst (AllByRecursion below_each) two.among one.least))

least_same : (pins : List Pin) (below snapshot session other by : ℕ) → IsLeastPin pins below snapshot session
    → IsLeastPin pins below other by → Pinned snapshot session ≡ Pinned other by
least_same pins below snapshot session other by one two =
    let same = one_least snapshot session other by
    (least_at pins below snapshot session other by one two) (least_at pins below other by snapshot session two one) in
    ap (λ (n : ℕ). Pinned n session) same.0 ∙ ap (Pinned other) same.1

not_hidden : (why : Refusal) (number : ℕ) → number_of why ≡ number → hides_values number ≡ true
    → hides_values (number_of why) ≡ false → ⊥
not_hidden why number is hidden stays = true≢false (sym hidden ∙ ap hides_values (sym is) ∙ stays)

drop_same : (at by : AtDrop) (below : ℕ) (why other : Refusal) → at.newest ≡ by.newest → at.pins ≡ by.pins
    → number_of why ≡ number_of other → hides_values (number_of why) ≡ false
    → DropRefused at below why → DropRefused by below other → why ≡ other
drop_same at by below why other newest pins same tells (inl (stop, _, is)) refused =
    absurd (not_hidden why 16 (ap number_of is) refl tells)
drop_same at by below why other newest pins same tells refused (inl (stop, _, is)) =
    absurd (not_hidden why 16 (same ∙ ap number_of is) refl tells)
drop_same at by below why other newest pins same tells (inr (inl (_, _, is))) (inr (inl (_, _, too))) =
    is ∙ ap (NoSuchSnapshot below) newest ∙ sym too
drop_same at by below why other newest pins same tells (inr (inl (_, _, is))) (inr (inr (_, _, _, (_, _, _, too)))) =
    let nine : number_of why ≡ 9 = ap number_of is in
    let eleven : number_of other ≡ 11 = ap number_of too in
    absurd (omega arith)
drop_same at by below why other newest pins same tells (inr (inr (_, _, _, (_, _, _, is)))) (inr (inl (_, _, too))) =
    let eleven : number_of why ≡ 11 = ap number_of is in
    let nine : number_of other ≡ 9 = ap number_of too in
    absurd (omega arith)
drop_same at by below why other newest pins same tells
    (inr (inr (_, _, _, (snapshot, session, least, is)))) (inr (inr (_, _, _, (number, of, most, too)))) =
    let there = subst (λ (ps : List Pin). IsLeastPin ps below number of) (sym pins) most in
    is ∙ least_same at.pins below snapshot session number of least there ∙ sym too

module _ (L : Language) (item : L.Item) where
  -- a refusal of an item of this kind, at its place
  pub record IsRefused (ground : Ground) (who : Who) (kind : Kind) (before : List Line) (now : World L.Tables)
      (at : AtDrop)
      (looking : Bool) (looked : Option (World L.Tables)) (why : Refusal) : Type 0 where
    pub query : unanswered_by L item why kind looking looked
    pub snapshot : RefusedAlone now at why (Some kind) looking
    pub limit : limit_by L ground who before item why kind

  -- ---- looks

  unanswered_same : (looked : Option (World L.Tables)) (why other : Refusal) → number_of why ≡ number_of other
      → UnansweredIn L item why true looked → UnansweredIn L item other true looked → why ≡ other
  unanswered_same None why other same one two = absurd one
  unanswered_same (Some w) why other same (inl a) (inl b) = a ∙ sym b
  unanswered_same (Some w) why other same (inl a) (inr b) = a ∙ sym (first_number other (sym same ∙ ap number_of a))
  unanswered_same (Some w) why other same (inr a) (inl b) = first_number why (same ∙ ap number_of b) ∙ sym b
  unanswered_same (Some w) why other same (inr a) (inr b) = cc

  -- ---- limits

  module _ (ground : Ground) (who : Who)
      (full : (a b c d : ℕ) → (L.words item).refused (JournalFull a b) ≡ (L.words item).refused (JournalFull c d)) where
    abbrev text : Refusal → List ℕ
    text why = (L.words item).refused why

    -- a refusal by a limit, of which the number is told
    abbrev limit_told : ℕ → Refusal
    limit_told number =
        cond (number == 13) (JournalFull 0 0)
        (cond (number == 14) (PagesFull ground.base.page_count)
        (cond (number == 15) (TooManyPages (EDITED_PAGES + 1)) OutOfMemory))

    limit_text : (before : List Line) (end : End) (why : Refusal) → hides_values (number_of why) ≡ false
        → IsLimit L ground who before item end why → text why ≡ text (limit_told (number_of why))
    limit_text before end OutOfMemory tells limit = refl
    limit_text before (Commit label) (ArchiveFull needed room) tells limit = cc
    limit_text before (Commit label) (JournalFull lines images) tells limit = full lines images 0 0
    limit_text before (Commit label) (SnapshotsFull retained) tells limit = cc
    limit_text before end (PagesFull pages) tells limit = ap (λ (n : ℕ). text (PagesFull n)) limit.0
    limit_text before end (TooManyPages needed) tells limit = ap (λ (n : ℕ). text (TooManyPages n)) limit.0
    limit_text before (Commit label) (Stopped device count) tells limit = cc
    limit_text before end why tells limit = absurd limit

    -- of a look or a drop it is told by its number, where the same is open
    open_same : (kind : Kind) (before others : List Line) (now : World L.Tables) (at by : AtDrop) (looking : Bool)
        (looked : Option (World L.Tables)) (why other : Refusal) → HasLines kind → NoTransaction kind
        → at.newest ≡ by.newest → at.pins ≡ by.pins → number_of why ≡ number_of other
        → hides_values (number_of why) ≡ false → IsRefused ground who kind before now at looking looked why
        → IsRefused ground who kind others now by looking looked other → why ≡ other
    open_same (AsOf n) before others now at by true looked why other has look newest pins same tells one two =
        unanswered_same looked why other same one.query two.query
    open_same (AsOf n) before others now at by false looked why other has look newest pins same tells one two =
        let a : as_of n now ≡ Err why = one.snapshot in
        let b : as_of n now ≡ Err other = two.snapshot in
        cc
    open_same OverAll before others now at by true looked why other has look newest pins same tells one two =
        unanswered_same looked why other same one.query two.query
    open_same OverAll before others now at by false looked why other has look newest pins same tells one two =
        absurd one.snapshot
    open_same (DropBelow n) before others now at by looking looked why other has look newest pins same tells one two =
        drop_same at by n why other newest pins same tells one.snapshot two.snapshot
    open_same (Transaction e) before others now at by looking looked why other has look newest pins same tells one two =
        absurd look
    open_same Lineless before others now at by looking looked why other has look newest pins same tells one two =
        absurd has

    -- what a refusal says is told by its number
    module _ (before others : List Line) (now later : World L.Tables) (at by : AtDrop) (looking looks : Bool)
        (looked saw : Option (World L.Tables)) (why other : Refusal) (world : now ≡ later)
        (newest : at.newest ≡ by.newest) (pins : at.pins ≡ by.pins) (same : number_of why ≡ number_of other)
        (tells : hides_values (number_of why) ≡ false) where
      alike_same : (kind : Kind) → HasLines kind → NoTransaction kind → (looking ≡ looks) × (looked ≡ saw)
          → IsRefused ground who kind before now at looking looked why
          → IsRefused ground who kind others later by looks saw other → text why ≡ text other
      alike_same kind has look alike one two =
          let there : IsRefused ground who kind others now by looking looked other =
          subst (λ (w : World L.Tables). IsRefused ground who kind others w by looking looked other) (sym world)
          (subst (λ (b : Bool). IsRefused ground who kind others later by b looked other) (sym alike.0)
          (subst (λ (o : Option (World L.Tables)). IsRefused ground who kind others later by looks o other)
          (sym alike.1) two)) in
          ap text
          (open_same kind before others now at by looking looked why other has look newest pins same tells one there)

      pub refused_same : (kind : Kind) → HasLines kind → (NoTransaction kind → (looking ≡ looks) × (looked ≡ saw))
          → IsRefused ground who kind before now at looking looked why
          → IsRefused ground who kind others later by looks saw other → text why ≡ text other
      refused_same (Transaction end) has alike one two =
          limit_text before end why tells one.limit
          ∙ ap (λ (n : ℕ). text (limit_told n)) same
          ∙ sym (limit_text others end other (ap hides_values (sym same) ∙ tells) two.limit)
      refused_same (AsOf n) has alike one two = alike_same (AsOf n) has tt (alike tt) one two
      refused_same OverAll has alike one two = alike_same OverAll has tt (alike tt) one two
      refused_same (DropBelow n) has alike one two = alike_same (DropBelow n) has tt (alike tt) one two
      refused_same Lineless has alike one two = absurd has
