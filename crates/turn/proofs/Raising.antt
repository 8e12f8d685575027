-- The step that records what a seat has made of the vault keeps the rule of the table.
use Rattle.std.proofs.Common.{◌≡◌, ◌≢◌, ℕ, ◌+◌, ◌<◌, ◌≤◌, List, [], ◌∷◌, ◌++◌, map, set, cond, Bool, true, false, refl, ap, sym, ◌∙◌, subst, arith, Option, Some, None}
use mathlib.Core.Option.{some}
use mathlib.Core.Logic.{dite}
use native.Mathlib.Decide.{dec_lt}
use lib.ListN.{get_elem?}
use Rattle.atomic_table.specs.Table.{Allows, keeps}
use Rattle.atomic_table.proofs.Lists.{at_map}
use Rattle.retro_base.specs.declared.device.Device.{Device}
use Rattle.history.specs.declared.journal.Line.{Line}
use Rattle.turn.specs.declared.view.Holding.{Holding}
use Rattle.turn.specs.declared.view.Kept.{Kept}
use Rattle.turn.specs.declared.view.Kept.TheVariants.{Desk, Vault}
use Rattle.turn.specs.declared.view.Place.{Place}
use Rattle.turn.specs.declared.view.Place.TheVariants.{Inside}
use Rattle.turn.specs.declared.view.View.{View}
use Rattle.turn.specs.Faults.{fault_lines, fault_times, is_of_desk, vault_faults}
use Rattle.turn.specs.Meanings.{OpeningMeaning, DeskMeaning, VaultMeaning}
use Rattle.turn.specs.Plays.{Sat, raises}
use Rattle.turn.specs.Queue.{Lock, total, is_inside, ticket_of}
use Rattle.turn.specs.Rule.{AreNewer, AreOwn, AreParts, AreSeats, AreTogether, DeskBeside, HasPart, HavePart, IsCounted, IsHeard, IsNewer, IsOwn, IsRuled, Knows, count_now, told_times}
use Rattle.turn.specs.Seats.{MayLeaveVault}
use Rattle.turn.specs.Views.{behind_vault, desk_of, vault_of, parts_at, parts_in, parts_of}
use Rattle.turn.proofs.Faults.{lines_within, times_append, vault_hears, vault_told}
use Rattle.turn.proofs.Locks.{lock_alone, lock_changes}
use Rattle.turn.proofs.Recording.{counted_after, fits_longer, only_one}
use Rattle.turn.proofs.Seating.{keep_total, moved, new_places, place_at, same_places, same_value}
use Rattle.turn.proofs.Steps.{no_step}
use Rattle.turn.proofs.Totals.{total_map, total_set}

abbrev vault_or : {A B : Type 0} → B → Option (Kept A B) → B
vault_or x (Some (Desk y)) = x
vault_or x (Some (Vault y)) = y
vault_or x None = x

abbrev in_hand : {A B : Type 0} → B → List (ℕ × Option (Kept A B)) → B
in_hand x [] = x
in_hand x (c ∷ cs) = vault_or x c.1

module _ {O W A B : Type 0} (o : OpeningMeaning O) (a : DeskMeaning O W A) (b : VaultMeaning O B) (limit : ℕ) where
  -- the counts of faults behind a change of the vault
  vault_count : (desk : A) (vault : B) (d : Device) → is_of_desk d ≡ false → count_now o a b desk vault d ≡ b.counts vault d
  vault_count desk vault d is = ap (λ (t : Bool). cond t (a.counts desk d) (b.counts vault d)) is

  vault_rises : (desk : A) (old new : B) (d : Device) → b.counts old d ≤ b.counts new d → count_now o a b desk old d ≤ count_now o a b desk new d
  vault_rises desk old new d up = go (is_of_desk d)
    where
      go : (t : Bool) → cond t (a.counts desk d) (b.counts old d) ≤ cond t (a.counts desk d) (b.counts new d)
      go true = omega arith
      go false = up

  -- where the count of a device rose, it is the vault's
  vault_rose : (desk : A) (old new : B) (d : Device) → count_now o a b desk old d < count_now o a b desk new d → (is_of_desk d ≡ false) × (b.counts old d < b.counts new d)
  vault_rose desk old new d = go (is_of_desk d) refl
    where
      go : (t : Bool) → is_of_desk d ≡ t → cond t (a.counts desk d) (b.counts old d) < cond t (a.counts desk d) (b.counts new d) → (is_of_desk d ≡ false) × (b.counts old d < b.counts new d)
      go true is up = absurd (omega arith)
      go false is up = (is, up)

  abbrev raised : ℕ → B → B → View O W A B → View O W A B
  raised n old new v = record v { vault = Inside n new; held = b.held new; holds = map (behind_vault b old new) v.holds }

  module _ (desk : A) (old new : B) (views : List (View O W A B)) (id n : ℕ) (v : View O W A B) (h : Holding W) (s : AreSeats o a b limit desk old views) (at : get_elem? views id ≡ some v)
      (one : v.holds ≡ h ∷ []) (part : 0 < h.parts) (inside : v.vault ≡ Inside n old) (held : b.held old ≤ b.held new) (counts : (d : Device) → b.counts old d ≤ b.counts new d)
      (start : (d : Device) → o.counts (a.opening desk) d ≤ count_now o a b desk old d) where
    abbrev w : View O W A B
    w = raised n old new v

    abbrev k : Knows o a b desk old v
    k = s.known id v at

    abbrev news : List (Device × ℕ)
    news = vault_faults (b.counts old) (b.counts new)

    w_holds : w.holds ≡ behind_vault b old new h ∷ []
    w_holds = ap (map (behind_vault b old new)) one

    -- what the vault's counts tell is newer than the seat's lines
    newer : IsNewer (behind_vault b old new h)
    newer d c e lt t l =
        let own : IsOwn (a.journal desk) (a.work_of desk) h = k.own 0 h (ap (λ (hs : List (Holding W)). get_elem? hs 0) one) in
        let sum = times_append d c h.faults news in
        dite (dec_lt 0 (fault_times d c h.faults)) (λ p. k.newer 0 h (ap (λ (hs : List (Holding W)). get_elem? hs 0) one) d c e lt p l) (λ p.
        let told = (vault_told (b.counts old) (b.counts new) d c).1 (omega arith) in
        let within = lines_within d e h.number (a.journal desk) in
        let same = ap (fault_lines d e) (own part).0 in
        let below = (s.faults d e).below (omega arith) in
        let count = vault_count desk old d told.0 in
        let up = told.1.above lt in omega arith)

    raise_faults : (d : Device) (c : ℕ) → IsCounted (o.counts (a.opening desk) d) (count_now o a b desk new d) c (fault_lines d c (a.journal desk) + total (told_times d c) (set views id w))
    raise_faults d c =
        let sum = total_set (told_times d c) views id v w at in
        let mine = ap (total (λ (x : Holding W). fault_times d c x.faults)) one in
        let then_ = ap (total (λ (x : Holding W). fault_times d c x.faults)) w_holds in
        let both = times_append d c h.faults news in
        let tells = vault_told (b.counts old) (b.counts new) d c in
        counted_after (o.counts (a.opening desk) d) (count_now o a b desk old d) (count_now o a b desk new d) c
        (fault_lines d c (a.journal desk) + total (told_times d c) views) (fault_lines d c (a.journal desk) + total (told_times d c) (set views id w)) (fault_times d c news)
        (s.faults d c) (start d) (vault_rises desk old new d (counts d)) (omega arith) tells.0
        (λ p. let t = tells.1 p in let x = vault_count desk old d t.0 in let y = vault_count desk new d t.0 in
        (t.1.now ∙ sym y, λ lt. let up = t.1.above lt in omega arith))

    raise_heard : (d : Device) → IsHeard (o.counts (a.opening desk) d) (count_now o a b desk new d) (λ c. fault_lines d c (a.journal desk) + total (told_times d c) (set views id w))
    raise_heard d up = dite (dec_lt (count_now o a b desk old d) (count_now o a b desk new d))
        (λ rose.
        let of_vault = vault_rose desk old new d rose in
        let told = vault_hears (b.counts old) (b.counts new) d of_vault.0 of_vault.1 in
        let c : ℕ = b.counts new d in
        let sum = total_set (told_times d c) views id v w at in
        let mine = ap (total (λ (x : Holding W). fault_times d c x.faults)) one in
        let then_ = ap (total (λ (x : Holding W). fault_times d c x.faults)) w_holds in
        let both = times_append d c h.faults news in (c, omega arith))
        (λ same.
        let was = s.heard d (omega arith) in
        let c : ℕ = was.0 in
        let some_ = was.1 in
        let sum = total_set (told_times d c) views id v w at in
        let mine = ap (total (λ (x : Holding W). fault_times d c x.faults)) one in
        let then_ = ap (total (λ (x : Holding W). fault_times d c x.faults)) w_holds in
        let both = times_append d c h.faults news in (c, omega arith))

    mine_knows : Knows o a b desk new w
    mine_knows = record {
      front = k.front;
      heard = k.heard;
      held = omega arith;
      in_desk = k.in_desk;
      in_vault = λ j x e. (sym (same_value n j new x e), refl);
      own = subst (AreOwn (a.journal desk) (a.work_of desk)) (sym w_holds)
          (only_one (IsOwn (a.journal desk) (a.work_of desk)) (behind_vault b old new h) (k.own 0 h (ap (λ (hs : List (Holding W)). get_elem? hs 0) one)));
      newer = subst AreNewer (sym w_holds) (only_one IsNewer (behind_vault b old new h) newer);
      parts = subst HavePart (sym w_holds) (only_one HasPart (behind_vault b old new h) part);
      opening = k.opening;
      part = λ p. let same = ap (total (λ (x : Holding W). x.parts)) w_holds in omega arith;
    }

    their_knows : ((j : ℕ) (p : Place B) → j ≢ id → get_elem? (map vault_of views) j ≡ some p → is_inside p ≡ 0) → (j : ℕ) (u : View O W A B) → j ≢ id → get_elem? views j ≡ some u → Knows o a b desk new u
    their_knows alone j u other at' =
        let q = s.known j u at' in
        let out = alone j u.vault other (at_map vault_of views j u at') in
        let most = q.held in
        record {
          front = q.front;
          heard = q.heard;
          held = omega arith;
          in_desk = q.in_desk;
          in_vault = λ i x e. let y = ap is_inside e in absurd (omega arith);
          own = q.own;
          newer = q.newer;
          parts = q.parts;
          opening = q.opening;
          part = q.part;
        }

    raise_seats : ((j : ℕ) (p : Place B) → j ≢ id → get_elem? (map vault_of views) j ≡ some p → is_inside p ≡ 0) → AreSeats o a b limit desk new (set views id w)
    raise_seats alone = record {
      few = s.few;
      differ = s.differ;
      parts = keep_total parts_of views id v w at (total_map (λ (x : Holding W). x.parts) (behind_vault b old new) v.holds) ∙ s.parts;
      numbers = λ i. subst (AreParts limit i) (sym (keep_total (parts_at i) views id v w at (total_map (parts_in i) (behind_vault b old new) v.holds))) (s.numbers i);
      foreign = s.foreign;
      faults = raise_faults;
      heard = raise_heard;
      known = moved (Knows o a b desk new) views id w mine_knows (their_knows alone);
    }

  module _ (outlives : (y : B) (x : O) (lines more : List Line) → b.Fits y x lines → o.Lawful x (lines ++ more) → b.Fits y x (lines ++ more)) where
    pub raise_held : (first : O) (slots id n word : ℕ) (old new : B) (x : O) (h : Holding W) (m : Sat O W A B) → m.0.vault ≡ Inside n old → m.1 ≡ (1, Some (Vault new)) ∷ [] → m.0.holds ≡ h ∷ [] → 0 < h.parts
        → m.0.opening ≡ Some x → MayLeaveVault b m.0.opening m.0.seen old new → word ≡ b.held new → Allows (IsRuled o a b first limit) slots id m 5 (λ _. word) (λ _. raises o a b no_step m word)
    raise_held first slots id n word old new x h m inside carried one part opened may shown s r deep at small =
        let k = r.seats.known id m.0 at in
        let here : old ≡ r.vault = (k.in_vault n old inside).0 in
        let may' : MayLeaveVault b m.0.opening m.0.seen r.vault new = subst (λ (y : B). MayLeaveVault b m.0.opening m.0.seen y new) here may in
        let inside' : m.0.vault ≡ Inside n r.vault = inside ∙ ap (Inside n) here in
        let w : View O W A B = raised n r.vault new m.0 in
        let place = place_at vault_of s.views id m.0 (Inside n old) at inside in
        let alone = lock_alone r.words.vault_ticket r.words.vault_serving (Vault r.vault) r.vault_slot (map vault_of s.views) r.vault_lock id n old in
        let lock = lock_changes r.words.vault_ticket r.words.vault_serving (Vault r.vault) r.vault_slot (map vault_of s.views) r.vault_lock id n old new (Vault new) place in
        let acked = r.agree.acked in let up = may'.held in
        let opening : x ≡ a.opening r.desk = k.opening x opened in
        let stands = fits_longer o a b limit outlives new (a.opening r.desk) m.0.seen (a.journal r.desk) k.front (subst (λ (z : O). b.Fits new z m.0.seen) opening (may'.fits x opened)) r.agree.lawful in
        let counts : (d : Device) → o.counts (a.opening r.desk) d ≤ count_now o a b r.desk new d = (λ d. let y = r.agree.counts d in let z = vault_rises r.desk r.vault new d (may'.counts d) in omega arith) in
        let seats : AreSeats o a b limit r.desk new (set s.views id w) = raise_seats r.desk r.vault new s.views id n m.0 h r.seats at one part inside' may'.held may'.counts r.agree.counts (λ j p other e. alone j p place other e) in
        let together : AreTogether o a b r.desk new = record {
          lawful = r.agree.lawful;
          desk_fits = r.agree.desk_fits;
          vault_fits = stands;
          acked = omega arith;
          counts = counts;
          told = λ d c some_. (seats.faults d c).below (omega arith);
        } in (
          w,
          keeps,
          tt,
          record {
            desk = r.desk;
            vault = new;
            words = record r.words { held = word };
            desk_slot = r.desk_slot;
            vault_slot = r.vault_slot;
            words_are = ap (λ (ws : List ℕ). set ws 5 word) r.words_are;
            homes_are = r.homes_are;
            opened = r.opened;
            agree = record {
              lawful = r.agree.lawful;
              desk_fits = r.agree.desk_fits;
              vault_fits = stands;
              horizon = r.agree.horizon;
              held_is = shown;
              acked = omega arith;
              counts = counts;
            };
            desk_lock = subst (Lock r.words.desk_ticket r.words.desk_serving (Desk r.desk) r.desk_slot) (sym (same_places desk_of s.views id m.0 w at refl)) r.desk_lock;
            vault_lock = subst (Lock r.words.vault_ticket r.words.vault_serving (Vault new) r.vault_slot) (sym (new_places vault_of s.views id w (Inside n new) refl)) lock;
            seats = seats;
          },
          (
            refl,
            λ j y z e c.
                let t : n ≡ j = ap ticket_of (sym inside ∙ e) in
                let vy : r.vault ≡ y = sym here ∙ same_value n j old y (sym inside ∙ e) in
                let vz : new ≡ z = ap (in_hand new) (sym carried ∙ c) in (
                  (λ i. raised (t i) (vy i) (vz i) m.0),
                  λ q is.
                      let here : x ≡ q = cc (sym opened ∙ is) in
                      subst (λ (u : B). DeskBeside o a b u (Some q) m.0.seen) vz (record { desk = r.desk; together = together; opening = ap Some (sym here ∙ opening); begins = k.front }),
                ),
          ),
        )
