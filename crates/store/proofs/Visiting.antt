-- A seat that enters the vault, and leaves it.
use Rattle.std.proofs.Common.{◌≡◌, ◌≤◌, ◌∙◌, ℕ, List, length, length-append, Option, Some, sym, ap, subst, arith}
use mathlib.Core.List.{IsPrefix}
use Rattle.atomic_table.specs.Seated.{TableId}
use Rattle.disk_model.specs.Disk.{State}
use Rattle.history.specs.declared.journal.Line.{Line}
use Rattle.history.specs.Lines.{lines_of}
use Rattle.history.specs.Sound.{IsSound}
use Rattle.journal_book.specs.declared.work.Work.{Work}
use Rattle.archive.specs.Archive.{Running}
use Rattle.turn.specs.declared.view.Holding.{Holding}
use Rattle.turn.specs.declared.view.Place.{Place}
use Rattle.turn.specs.declared.view.Place.TheVariants.{Inside}
use Rattle.turn.specs.Seats.{IsInVault, IsSame, Rests, held, mine, opening, seen}
use Rattle.turn.specs.Views.{behind_vault}
use Rattle.store.specs.declared.start.Start.{Start}
use Rattle.store.specs.Seats.{DeskSideBeside, HasEnteredVault, IsOwnWork, Sat, VisitedVault, journal}
use Rattle.store.specs.Sides.{VaultStands, of_vault}
use Rattle.store.specs.Start.{opened_base}
use Rattle.store.proofs.Entering.{apart, one_still}

-- what a seat has open is still its own where it has seen more
pub work_goes_on : (front whole : List Line) (session : ℕ) (work : Option Work) → IsPrefix front whole → IsOwnWork front session work → IsOwnWork whole session work
work_goes_on front whole session work more own = record {
  number = own.number;
  began = λ w e. let b = own.began w e in let n = length-append front more.0 in let m = ap length more.1 in omega (arith, b, n, m);
}

same_inside : {A : Type 0} (p : Place A) (n m : ℕ) (x y : A) → p ≡ Inside n x → p ≡ Inside m y → x ≡ y
same_inside p n m x y e f = cc (e, f)

module _ {D : Type 0} (is_honest : D → Type 0) (state : D → State) (faults : D → ℕ) (z : TableId) (s0 s1 : Sat D) (a0 : Running D) (entered : HasEnteredVault is_honest state faults z s0 s1 a0) where
  pub same_archive : (other : Running D) → IsInVault z s1 other → other ≡ a0
  same_archive other inside = same_inside s1.seat.me.0.vault _ _ other a0 inside.vault entered.inside.vault

module _ {D : Type 0} (is_honest : D → Type 0) (state : D → State) (faults : D → ℕ) (z : TableId) (s0 s1 : Sat D) (a0 : Running D) (entered : HasEnteredVault is_honest state faults z s0 s1 a0) (s2 : Sat D) (a1 : Running D) where
  pub visited_vault : Rests z s2 → IsSame s1 s2 → seen s2 ≡ seen s1 → held s2 ≡ a1.side.held → mine s2 ≡ behind_vault (of_vault is_honest state faults) a0 a1 (mine s1)
      → a0.side.held ≤ a1.side.held → ((start : Start D) → opening s1 ≡ Some start → VaultStands is_honest state a1 start (seen s1))
      → ((start : Start D) → opening s1 ≡ Some start → DeskSideBeside is_honest state faults a1 start (seen s1)) → VisitedVault is_honest state faults z s0 s2 a0 a1
  visited_vault rests same sees holds is up stands near =
      let behind : mine s2 ≡ behind_vault (of_vault is_honest state faults) a0 a1 (mine s0) = is ∙ ap (behind_vault (of_vault is_honest state faults) a0 a1) entered.mine_stays in
      let number : s2.number ≡ s0.number = same.number ∙ entered.same.number in
      record {
        ready = record {
          rests = rests;
          one = one_still s0 s2 number (same.opening ∙ entered.same.opening) entered.ready.one;
          lines = ap (λ (h : Holding Work). h.lines) behind ∙ (entered.lines ∙ (ap (λ (n : ℕ). lines_of n (seen s1)) (sym number) ∙ ap (lines_of s2.number) (sym sees)));
          work = subst (λ (w : Option Work). IsOwnWork (seen s2) s2.number w) (sym (ap (λ (h : Holding Work). h.work) behind))
              (subst (λ (n : ℕ). IsOwnWork (seen s2) n (mine s0).work) (sym number)
              (subst (λ (l : List Line). IsOwnWork l s0.number (mine s0).work) (sym sees) (work_goes_on (seen s0) (seen s1) s0.number (mine s0).work entered.front entered.ready.work)));
        };
        same = record { id = same.id ∙ entered.same.id; number = number; opening = same.opening ∙ entered.same.opening };
        waits = record {
          others = entered.front.0;
          front = entered.front.1 ∙ sym sees;
          apart = apart s0.number (seen s0) entered.front.0 (seen s1) entered.front.1 (sym entered.ready.lines ∙ entered.lines);
        };
        sound = λ start e. subst (λ (l : List Line). IsSound (opened_base start) l) (sym sees) (entered.sound start e);
        stands = λ start e. subst (λ (l : List Line). VaultStands is_honest state a0 start l) (sym sees) (entered.stands start e);
        stands_after = λ start e. subst (λ (l : List Line). VaultStands is_honest state a1 start l) (sym sees) (stands start (entered.same.opening ∙ e));
        later = entered.later;
        rises = let e = holds in let f = entered.held_is in let u = entered.rises in omega (arith, e, f, u, up);
        held_is = holds;
        mine_is = behind;
        beside = λ start e. subst (λ (l : List Line). (d : DeskSideBeside is_honest state faults a0 start l) × (journal d.side ≡ l)) (sym sees) (entered.beside start e);
        beside_after = λ start e. subst (λ (l : List Line). DeskSideBeside is_honest state faults a1 start l) (sym sees) (near start (entered.same.opening ∙ e));
      }
