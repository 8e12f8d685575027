-- Seats that see more, or tell one another.
use Rattle.std.proofs.Common.{◌≡◌, ◌≤◌, ◌∙◌, ◌++◌, ℕ, List, [], ◌∷◌, Option, Some, IfSome, refl, sym, ap, subst, arith, append-nil, append_assoc}
use mathlib.Core.List.{IsPrefix}
use Rattle.atomic_table.specs.Seated.{TableId}
use Rattle.disk_model.specs.Disk.{State}
use Rattle.retro_base.specs.declared.device.Device.{Device}
use Rattle.history.specs.declared.journal.Line.{Line}
use Rattle.history.specs.Lines.{lines_of}
use Rattle.journal_book.specs.declared.work.Work.{Work}
use Rattle.turn.specs.declared.view.Holding.{Holding}
use Rattle.turn.specs.Seats.{IsSame, Rests, held, mine, opening, seen}
use Rattle.store.specs.Seats.{HasEntered, IsOwnWork, IsReady, IsWhole, KeptIsTold, MayGiveBack, Sat, StaysIn, Waits}
use Rattle.store.specs.declared.desk_side.DeskSide.{DeskSide}
use Rattle.store.proofs.Calling.{told_more}
use Rattle.store.proofs.Entering.{apart, one_still}
use Rattle.store.proofs.Leaving.{may_leave_quiet}
use Rattle.store.proofs.Recalling.{lines_append}
use Rattle.store.proofs.Visiting.{work_goes_on}

no_front : {X : Type 0} (xs ys : List X) → xs ++ ys ≡ [] → xs ≡ []
no_front [] ys e = refl
no_front (x ∷ xs) ys e = absurd (cc e)

-- lines of one session between two fronts that have the same of them
between : (n : ℕ) (old middle whole : List Line) → IsPrefix old middle → IsPrefix middle whole → lines_of n old ≡ lines_of n whole → lines_of n old ≡ lines_of n middle
between n old middle whole one two same =
    let all : old ++ (one.0 ++ two.0) ≡ whole = sym (append_assoc old one.0 two.0) ∙ (ap (λ (l : List Line). l ++ two.0) one.1 ∙ two.1) in
    let none : lines_of n (one.0 ++ two.0) ≡ [] = apart n old (one.0 ++ two.0) whole all same in
    let first : lines_of n one.0 ≡ [] = no_front (lines_of n one.0) (lines_of n two.0) (sym (lines_append n one.0 two.0) ∙ none) in
    sym (ap (lines_of n) (sym one.1) ∙ (lines_append n old one.0 ∙ (ap (λ (l : List Line). lines_of n old ++ l) first ∙ append-nil (lines_of n old))))

module _ {D : Type 0} (z : TableId) (s0 s1 : Sat D) (ready : IsReady z s0) where
  -- a seat whose holding has the same lines and work, and that has seen more
  pub ready_on : Rests z s1 → s1.number ≡ s0.number → opening s1 ≡ opening s0 → (mine s1).lines ≡ (mine s0).lines → (mine s1).work ≡ (mine s0).work → IsPrefix (seen s0) (seen s1) → (mine s0).lines ≡ lines_of s0.number (seen s1) → IsReady z s1
  ready_on rests number opens lines work front own = record {
    rests = rests;
    one = one_still s0 s1 number opens ready.one;
    lines = lines ∙ (own ∙ ap (λ (n : ℕ). lines_of n (seen s1)) (sym number));
    work = subst (λ (w : Option Work). IsOwnWork (seen s1) s1.number w) (sym work)
        (subst (λ (n : ℕ). IsOwnWork (seen s1) n (mine s0).work) (sym number) (work_goes_on (seen s0) (seen s1) s0.number (mine s0).work front ready.work));
  }

  pub waits_so : IsPrefix (seen s0) (seen s1) → (mine s0).lines ≡ lines_of s0.number (seen s1) → Waits s0 s1
  waits_so front own = record { others = front.0; front = front.1; apart = apart s0.number (seen s0) front.0 (seen s1) front.1 (sym ready.lines ∙ own) }

  -- where what is seen begins a journal that has all its lines
  pub own_in : (journal : List Line) → IsPrefix (seen s0) (seen s1) → IsPrefix (seen s1) journal → (mine s0).lines ≡ lines_of s0.number journal → (mine s0).lines ≡ lines_of s0.number (seen s1)
  own_in journal front begins own = ready.lines ∙ between s0.number (seen s0) (seen s1) journal front begins (sym ready.lines ∙ own)

-- a seat that was told nothing
pub stays_same : {D : Type 0} (s0 s1 : Sat D) → IsSame s0 s1 → mine s1 ≡ mine s0 → held s0 ≤ held s1 → StaysIn s0 s1
stays_same s0 s1 same is rises = record {
  same = same;
  rises = rises;
  more = [];
  mine_is = is ∙ ap (λ (fs : List (Device × ℕ)). record (mine s0) { faults = fs }) (sym (append-nil (mine s0).faults));
}

-- a side that is given back as it was found
pub gives_same : {D : Type 0} (is_honest : D → Type 0) (state : D → State) (faults : D → ℕ) (z : TableId) (s0 s1 : Sat D) (d0 : DeskSide D) → HasEntered is_honest state faults z s0 s1 d0 → MayGiveBack is_honest state faults z s1 d0
gives_same is_honest state faults z s0 s1 d0 entered = (s0, d0, entered, may_leave_quiet is_honest state d0 d0 refl faults (held s1) (mine s0) entered.stands entered.keeps (λ d. omega arith) refl entered.acked)

-- what is so of the opening is so of the one that the desk has
pub of_opening : {X : Type 0} (o : Option X) (x : X) (P : X → Type 0) → o ≡ Some x → P x → IfSome o P
of_opening {X = X} o x P e p = subst (λ (y : Option X). IfSome y P) (sym e) p

-- a seat that stays so is still whole
pub whole_stays : {D : Type 0} (s0 s1 : Sat D) → StaysIn s0 s1 → IsWhole s0 → IsWhole s1
whole_stays s0 s1 stays whole = record {
  parts = ap (λ (h : Holding Work). h.parts) stays.mine_is ∙ whole.parts;
  kept = subst (λ (h : Holding Work). KeptIsTold h.work h.faults) (sym stays.mine_is) (λ t d c is kept. told_more (mine s0).faults stays.more d c (whole.kept t d c is kept));
}

pub work_stays : {D : Type 0} (s0 s1 : Sat D) → StaysIn s0 s1 → (mine s1).work ≡ (mine s0).work
work_stays s0 s1 stays = ap (λ (h : Holding Work). h.work) stays.mine_is
