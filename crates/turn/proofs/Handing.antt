-- A seat between its steps.
use Rattle.std.proofs.Common.{◌≡◌, ℕ, ◌<◌, List, [], ◌∷◌, map, is_some, true, refl, ap, sym, ◌∙◌, subst, arith, Option, Some, None, IfSome}
use mathlib.Core.List.{IsPrefix}
use lib.ListN.{get_elem?}
use Rattle.atomic_table.specs.Seated.{TableId}
use Rattle.history.specs.declared.journal.Line.{Line}
use Rattle.turn.specs.declared.seat.SeatOver.{SeatOver}
use Rattle.turn.specs.declared.view.Holding.{Holding}
use Rattle.turn.specs.declared.view.Kept.{Kept}
use Rattle.turn.specs.declared.view.Kept.TheVariants.{Desk, Vault}
use Rattle.turn.specs.declared.view.Place.TheVariants.{Outside, Inside}
use Rattle.turn.specs.declared.view.View.{View}
use Rattle.history.specs.Lines.{lines_of}
use Rattle.turn.specs.Meanings.{OpeningMeaning, DeskMeaning, VaultMeaning}
use Rattle.turn.specs.Queue.{total}
use Rattle.turn.specs.Rule.{AreOwn}
use Rattle.turn.specs.Seats.{Agrees, IsSeat, Rests, mine, opening, seen, view_of}
use Rattle.turn.specs.Views.{behind_desk, behind_vault, first_of, parts_of}

pub some_of : {X : Type 0} (x : Option X) → is_some x ≡ true → (y : X) × (x ≡ Some y)
some_of None e = absurd (cc e)
some_of (Some y) e = (y, refl)

pub if_some : {X : Type 0} (P : X → Type 0) (x : Option X) → ((y : X) → x ≡ Some y → P y) → IfSome x P
if_some P None f = tt
if_some P (Some y) f = f y refl

abbrev desk_or : {A B : Type 0} → A → Option (Kept A B) → A
desk_or x (Some (Desk y)) = y
desk_or x (Some (Vault y)) = x
desk_or x None = x

abbrev vault_or : {A B : Type 0} → B → Option (Kept A B) → B
vault_or x (Some (Desk y)) = x
vault_or x (Some (Vault y)) = y
vault_or x None = x

pub same_desk : {A B : Type 0} (k l : Option (Kept A B)) (x y : A) → k ≡ l → k ≡ Some (Desk x) → l ≡ Some (Desk y) → x ≡ y
same_desk k l x y e f g = ap (desk_or x) (sym f ∙ (e ∙ g))

pub same_vault : {A B : Type 0} (k l : Option (Kept A B)) (x y : B) → k ≡ l → k ≡ Some (Vault x) → l ≡ Some (Vault y) → x ≡ y
same_vault k l x y e f g = ap (vault_or x) (sym f ∙ (e ∙ g))

abbrev first_or : {A B : Type 0} → Option (Kept A B) → List (ℕ × Option (Kept A B)) → Option (Kept A B)
first_or k [] = k
first_or k (c ∷ cs) = c.1

-- the value in hand is the one that was found
pub same_taken : {A B : Type 0} (cs xs ys : List (ℕ × Option (Kept A B))) (k : Option (Kept A B)) (x y : A) → cs ≡ (0, Some (Desk x)) ∷ xs → cs ≡ (0, k) ∷ ys → k ≡ Some (Desk y) → x ≡ y
same_taken cs xs ys k x y e f g = same_desk (Some (Desk x)) k x y (ap (first_or None) (sym e ∙ f)) refl g

pub same_kept : {A B : Type 0} (cs xs ys : List (ℕ × Option (Kept A B))) (k : Option (Kept A B)) (x y : B) → cs ≡ (1, Some (Vault x)) ∷ xs → cs ≡ (1, k) ∷ ys → k ≡ Some (Vault y) → x ≡ y
same_kept cs xs ys k x y e f g = same_vault (Some (Vault x)) k x y (ap (first_or None) (sym e ∙ f)) refl g

module _ {O W A B : Type 0} where
  pub parts_here : (z : TableId) (s : SeatOver O W A B) → IsSeat z s → 0 < parts_of (view_of s)
  parts_here z s i = let e = ap (total (λ (h : Holding W). h.parts)) i.one in let p = i.part in omega arith

  -- a seat that rests, with one holding of the number that it had
  pub rests_so : (z : TableId) (old new : SeatOver O W A B) (w : View O W A B) (g : Holding W) → IsSeat z old → new.seat.table_id ≡ old.seat.table_id → new.number ≡ old.number → new.seat.me.0 ≡ w → new.seat.me.1 ≡ []
      → w.opening ≡ opening old → w.heard ≡ [] → w.desk ≡ Outside → w.vault ≡ Outside → w.holds ≡ g ∷ [] → g.number ≡ (mine old).number → 0 < g.parts → Rests z new
  rests_so z old new w g i table number is slots opened heard desk vault one same part =
      let holds : new.seat.me.0.holds ≡ g ∷ [] = ap (λ (v : View O W A B). v.holds) is ∙ one in
      record {
        seat = record {
          table = table ∙ i.table;
          opened = ap is_some (ap (λ (v : View O W A B). v.opening) is ∙ opened) ∙ i.opened;
          heard = ap (λ (v : View O W A B). v.heard) is ∙ heard;
          one = subst (λ (hs : List (Holding W)). hs ≡ first_of hs ∷ []) (sym holds) refl;
          number = ap (λ (hs : List (Holding W)). (first_of hs).number) holds ∙ (same ∙ (i.number ∙ sym number));
          part = subst (λ (hs : List (Holding W)). 0 < (first_of hs).parts) (sym holds) part;
        };
        desk = ap (λ (v : View O W A B). v.desk) is ∙ desk;
        vault = ap (λ (v : View O W A B). v.vault) is ∙ vault;
        slots = slots;
      }

  -- a seat of one holding, of which this journal is told
  pub agrees_so : (o : OpeningMeaning O) (s : SeatOver O W A B) (h : Holding W) (journal : List Line) (works : ℕ → Option W) (hs : List (Holding W)) → IsPrefix (seen s) journal → AreOwn journal works hs → hs ≡ h ∷ []
      → s.seat.me.0.holds ≡ h ∷ [] → 0 < h.parts → h.number ≡ s.number → ((x : O) → opening s ≡ Some x → o.Lawful x journal) → Agrees o s
  agrees_so o s h journal works hs begins own was one part number lawful = record {
    journal = journal;
    begins = begins;
    own = ap (λ (gs : List (Holding W)). (first_of gs).lines) one ∙ ((own 0 h (ap (λ (gs : List (Holding W)). get_elem? gs 0) was) part).0 ∙ ap (λ (n : ℕ). lines_of n journal) number);
    lawful = lawful;
  }

  -- the view of a seat that has left the desk, and the vault
  pub left_desk : (a : DeskMeaning O W A) (n : ℕ) (old new : A) (v v1 v2 v3 : View O W A B) → v1 ≡ v → v2 ≡ record v1 { desk = Inside n new; seen = a.journal new; holds = map (behind_desk a old new) v1.holds } → v3 ≡ record v2 { desk = Outside }
      → v3 ≡ record v { desk = Outside; seen = a.journal new; holds = map (behind_desk a old new) v.holds }
  left_desk a n old new v v1 v2 v3 x y z = z ∙ ap (λ (u : View O W A B). record u { desk = Outside }) (y ∙ ap (λ (u : View O W A B). record u { desk = Inside n new; seen = a.journal new; holds = map (behind_desk a old new) u.holds }) x)

  pub left_vault : (b : VaultMeaning O B) (n : ℕ) (old new : B) (v v1 v2 v3 : View O W A B) → v1 ≡ v → v2 ≡ record v1 { vault = Inside n new; held = b.held new; holds = map (behind_vault b old new) v1.holds } → v3 ≡ record v2 { vault = Outside }
      → v3 ≡ record v { vault = Outside; held = b.held new; holds = map (behind_vault b old new) v.holds }
  left_vault b n old new v v1 v2 v3 x y z = z ∙ ap (λ (u : View O W A B). record u { vault = Outside }) (y ∙ ap (λ (u : View O W A B). record u { vault = Inside n new; held = b.held new; holds = map (behind_vault b old new) u.holds }) x)
