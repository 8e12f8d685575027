-- The steps that record nothing keep the rule of the table.
use Rattle.std.proofs.Common.{◌≡◌, ◌≢◌, ℕ, ◌+◌, ◌%◌, ◌<◌, List, [], ◌∷◌, map, get_or, set, refl, ap, sym, ◌∙◌, subst, arith, Option, Some}
use mathlib.Core.Option.{some, none, some-ne-none}
use mathlib.Core.Option as maybe
use mathlib.Core.Logic.{dite}
use mathlib.Core.List.{IsPrefix}
use native.Mathlib.Decide.{ℕ_discrete}
use lib.ListN.{get_elem?}
use lib.Seq.{set-get_or}
use Rattle.atomic_table.specs.Table.{State, Step, step, Act, keeps, takes, gives, Valid, carried_after, put_back, rest, stepped, Allows}
use Rattle.atomic_table.proofs.Lists.{set_again}
use Rattle.history.specs.declared.journal.Line.{Line}
use Rattle.turn.specs.declared.view.Kept.{Kept}
use Rattle.turn.specs.declared.view.Kept.TheVariants.{Desk, Vault}
use Rattle.turn.specs.declared.view.Place.{Place}
use Rattle.turn.specs.declared.view.Place.TheVariants.{Outside, Waits, Inside}
use Rattle.turn.specs.declared.view.View.{View}
use Rattle.history.specs.Lines.{horizon_of}
use Rattle.turn.specs.Meanings.{OpeningMeaning, DeskMeaning, VaultMeaning}
use Rattle.turn.specs.Plays.{Sat, draws_desk, draws_vault, reads_desk, reads_vault, serves_desk, serves_vault, sees_horizon, settles}
use Rattle.turn.specs.Queue.{Lock, tickets_in}
use Rattle.turn.specs.Rule.{AreTogether, IsHorizon, IsRuled, Knows}
use Rattle.turn.specs.Views.{desk_of, vault_of, parts_of, longest}
use Rattle.turn.proofs.Fronts.{prefix_self, prefix_both, longest_of}
use Rattle.turn.proofs.Locks.{lock_draws, lock_served, lock_serves}
use Rattle.turn.proofs.Seating.{same_value, same_ticket, same_places, new_places, place_at, few_desk, few_vault, reseated, tells}

abbrev M : ℕ
M = 18446744073709551616

-- no play reads its step
abbrev pub no_step : {S : Type 0} → Step S
no_step = step 0 0 0 0 none

module _ {O W A B : Type 0} (o : OpeningMeaning O) (a : DeskMeaning O W A) (b : VaultMeaning O B) (first : O) (limit : ℕ) where
  abbrev St : Type 0
  St = State (Option (Kept A B)) (View O W A B)

  abbrev Rule : St → Type 0
  Rule = IsRuled o a b first limit

  -- the words as they were, at a load
  pub loaded : (s : St) (i : ℕ) (homes : List (maybe.Option (Option (Kept A B)))) (views : List (View O W A B)) → Rule record { words = s.words; homes = homes; views = views }
      → Rule record { words = set s.words i (get_or s.words i 0); homes = homes; views = views }
  loaded s i homes views = subst (λ (ws : List ℕ). Rule record { words = ws; homes = homes; views = views }) (sym (set-get_or s.words i 0))

  -- the two values, as they were last left
  together : (s : St) (r : Rule s) → AreTogether o a b r.desk r.vault
  together s r = record {
    lawful = r.agree.lawful;
    desk_fits = r.agree.desk_fits;
    vault_fits = r.agree.vault_fits;
    acked = r.agree.acked;
    counts = r.agree.counts;
    told = λ d c some_. (r.seats.faults d c).below (omega arith);
  }

  pub draw_desk : (slots id : ℕ) (m : Sat O W A B) → m.0.desk ≡ Outside → 0 < parts_of m.0 → Allows Rule slots id m 0 (λ n. (n + 1) % M) (draws_desk no_step m)
  draw_desk slots id m out part s r deep at small =
      let v : View O W A B = m.0 in
      let n : ℕ = r.desk_lock.queue.next in
      let w : View O W A B = record v { desk = Waits n } in
      let k = r.seats.known id v at in
      let t : ℕ = r.words.desk_ticket in
      let lock = lock_draws t r.words.desk_serving (Desk r.desk) r.desk_slot (map desk_of s.views) r.desk_lock id (place_at desk_of s.views id v Outside at out) in (
        w,
        keeps,
        tt,
        record {
          desk = r.desk;
          vault = r.vault;
          words = record r.words { desk_ticket = (t + 1) % M };
          desk_slot = r.desk_slot;
          vault_slot = r.vault_slot;
          words_are = ap (λ (ws : List ℕ). set ws 0 ((get_or ws 0 0 + 1) % M)) r.words_are;
          homes_are = r.homes_are;
          opened = r.opened;
          agree = r.agree;
          desk_lock = subst (Lock ((t + 1) % M) r.words.desk_serving (Desk r.desk) r.desk_slot) (sym (new_places desk_of s.views id w (Waits n) refl)) lock;
          vault_lock = subst (Lock r.words.vault_ticket r.words.vault_serving (Vault r.vault) r.vault_slot) (sym (same_places vault_of s.views id v w at refl)) r.vault_lock;
          seats = reseated o a b limit r.desk r.vault s.views id v w r.seats at refl (record {
            front = k.front;
            heard = k.heard;
            held = k.held;
            in_desk = λ j old e. absurd (cc e);
            in_vault = k.in_vault;
            own = k.own;
            newer = k.newer;
            parts = k.parts;
            opening = k.opening;
            part = λ _. part;
          });
        },
        (refl, (n, ap (λ (ws : List ℕ). get_or ws 0 0) r.words_are ∙ r.desk_lock.queue.ticket_is, refl)),
      )

  pub draw_vault : (slots id : ℕ) (m : Sat O W A B) → m.0.vault ≡ Outside → 0 < parts_of m.0 → Allows Rule slots id m 3 (λ n. (n + 1) % M) (draws_vault no_step m)
  draw_vault slots id m out part s r deep at small =
      let v : View O W A B = m.0 in
      let n : ℕ = r.vault_lock.queue.next in
      let w : View O W A B = record v { vault = Waits n } in
      let k = r.seats.known id v at in
      let t : ℕ = r.words.vault_ticket in
      let lock = lock_draws t r.words.vault_serving (Vault r.vault) r.vault_slot (map vault_of s.views) r.vault_lock id (place_at vault_of s.views id v Outside at out) in (
        w,
        keeps,
        tt,
        record {
          desk = r.desk;
          vault = r.vault;
          words = record r.words { vault_ticket = (t + 1) % M };
          desk_slot = r.desk_slot;
          vault_slot = r.vault_slot;
          words_are = ap (λ (ws : List ℕ). set ws 3 ((get_or ws 3 0 + 1) % M)) r.words_are;
          homes_are = r.homes_are;
          opened = r.opened;
          agree = r.agree;
          desk_lock = subst (Lock r.words.desk_ticket r.words.desk_serving (Desk r.desk) r.desk_slot) (sym (same_places desk_of s.views id v w at refl)) r.desk_lock;
          vault_lock = subst (Lock ((t + 1) % M) r.words.vault_serving (Vault r.vault) r.vault_slot) (sym (new_places vault_of s.views id w (Waits n) refl)) lock;
          seats = reseated o a b limit r.desk r.vault s.views id v w r.seats at refl (record {
            front = k.front;
            heard = k.heard;
            held = k.held;
            in_desk = k.in_desk;
            in_vault = λ j old e. absurd (cc e);
            own = k.own;
            newer = k.newer;
            parts = k.parts;
            opening = k.opening;
            part = λ _. part;
          });
        },
        (refl, (n, ap (λ (ws : List ℕ). get_or ws 3 0) r.words_are ∙ r.vault_lock.queue.ticket_is, refl)),
      )

  -- the state where a seat waits on
  waits_on : (s : St) (i id : ℕ) (v : View O W A B) → get_elem? s.views id ≡ some v → Rule s → Rule record { words = set s.words i (get_or s.words i 0); homes = s.homes; views = set s.views id v }
  waits_on s i id v at r = loaded s i s.homes (set s.views id v) (subst (λ (vs : List (View O W A B)). Rule record { words = s.words; homes = s.homes; views = vs }) (sym (set_again s.views id v at)) r)

  abbrev ReadingDesk : ℕ → Sat O W A B → St → Type 0
  ReadingDesk id m s = (w : View O W A B) × (act : Act (Option (Kept A B))) × Valid s.homes m.1 act × Rule (stepped s 1 (get_or s.words 1 0) id m.1 w act)
      × reads_desk o a b no_step m (get_or s.words 1 0) (w, carried_after m.1 act)

  pub read_desk : (slots id n : ℕ) (m : Sat O W A B) → m.0.desk ≡ Waits n → Allows Rule slots id m 1 (λ x. x) (reads_desk o a b no_step m)
  read_desk slots id n m waits s r deep at small = dite (ℕ_discrete (get_or s.words 1 0) (n % M)) hit miss
    where
      miss : get_or s.words 1 0 ≢ n % M → ReadingDesk id m s
      miss ne = (
        m.0,
        keeps,
        tt,
        waits_on s 1 id m.0 at r,
        λ k is. ((λ e. absurd (ne (e ∙ ap (λ (x : ℕ). x % M) (sym (same_ticket n k m.0.desk waits is))))), (λ _. refl)),
      )

      hit : get_or s.words 1 0 ≡ n % M → ReadingDesk id m s
      hit found =
          let k = r.seats.known id m.0 at in
          let serving : get_or s.words 1 0 ≡ r.words.desk_serving = ap (λ (ws : List ℕ). get_or ws 1 0) r.words_are in
          let got = lock_served r.words.desk_ticket r.words.desk_serving (Desk r.desk) r.desk_slot (map desk_of s.views) r.desk_lock id n
          (place_at desk_of s.views id m.0 (Waits n) at waits) (few_desk o a b limit r.desk r.vault s.views r.seats) (sym serving ∙ found) in
          let w : View O W A B = record m.0 { desk = Inside n r.desk; seen = a.journal r.desk; held = b.held r.vault } in
          let homes : List (maybe.Option (Option (Kept A B))) = set s.homes 0 none in
          let part = k.part in
          let rule : Rule record { words = s.words; homes = homes; views = set s.views id w } = record {
            desk = r.desk;
            vault = r.vault;
            words = r.words;
            desk_slot = none;
            vault_slot = r.vault_slot;
            words_are = r.words_are;
            homes_are = ap (λ (hs : List (maybe.Option (Option (Kept A B)))). set hs 0 none) r.homes_are;
            opened = r.opened;
            agree = r.agree;
            desk_lock = subst (Lock r.words.desk_ticket r.words.desk_serving (Desk r.desk) none) (sym (new_places desk_of s.views id w (Inside n r.desk) refl)) (got.1 r.desk);
            vault_lock = subst (Lock r.words.vault_ticket r.words.vault_serving (Vault r.vault) r.vault_slot) (sym (same_places vault_of s.views id m.0 w at refl)) r.vault_lock;
            seats = reseated o a b limit r.desk r.vault s.views id m.0 w r.seats at refl (record {
              front = prefix_self (a.journal r.desk);
              heard = k.heard;
              held = omega arith;
              in_desk = λ j old e. (sym (same_value n j r.desk old e), refl);
              in_vault = λ j old e. ((k.in_vault j old e).0, refl);
              own = k.own;
              newer = k.newer;
              parts = k.parts;
              opening = k.opening;
              part = λ _. part (subst (λ (p : Place A). 0 < tickets_in p + tickets_in m.0.vault) (sym waits) (omega arith));
            });
          } in (
            w,
            takes 0 (Some (Desk r.desk)),
            ap (λ (hs : List (maybe.Option (Option (Kept A B)))). get_elem? hs 0) r.homes_are ∙ ap some got.0,
            loaded s 1 homes (set s.views id w) rule,
            λ x is. (
              (λ _. record {
                value = r.desk;
                held = b.held r.vault;
                view_is = ap (λ (t : ℕ). record m.0 { desk = Inside t r.desk; seen = a.journal r.desk; held = b.held r.vault }) (same_ticket n x m.0.desk waits is);
                slots = refl;
                front = k.front;
                rises = k.held;
                fits = r.agree.desk_fits;
                lawful = r.agree.lawful;
                acked = r.agree.acked;
                own = k.own;
                faults = λ j h e. tells o a b limit r.desk r.vault s.views id j m.0 h r.seats at e;
                opening = k.opening;
                beside = record { vault = r.vault; together = together s r; held = omega arith };
              }),
              (λ ne. absurd (ne (found ∙ ap (λ (t : ℕ). t % M) (same_ticket n x m.0.desk waits is)))),
            ),
          )

  abbrev ReadingVault : ℕ → Sat O W A B → St → Type 0
  ReadingVault id m s = (w : View O W A B) × (act : Act (Option (Kept A B))) × Valid s.homes m.1 act × Rule (stepped s 4 (get_or s.words 4 0) id m.1 w act)
      × reads_vault o a b no_step m (get_or s.words 4 0) (w, carried_after m.1 act)

  -- the seat must not be in the desk, whose journal it would forget
  pub read_vault : (slots id n : ℕ) (m : Sat O W A B) → m.0.vault ≡ Waits n → m.0.desk ≡ Outside → Allows Rule slots id m 4 (λ x. x) (reads_vault o a b no_step m)
  read_vault slots id n m waits out s r deep at small = dite (ℕ_discrete (get_or s.words 4 0) (n % M)) hit miss
    where
      miss : get_or s.words 4 0 ≢ n % M → ReadingVault id m s
      miss ne = (
        m.0,
        keeps,
        tt,
        waits_on s 4 id m.0 at r,
        λ k is. ((λ e. absurd (ne (e ∙ ap (λ (x : ℕ). x % M) (sym (same_ticket n k m.0.vault waits is))))), (λ _. refl)),
      )

      hit : get_or s.words 4 0 ≡ n % M → ReadingVault id m s
      hit found =
          let k = r.seats.known id m.0 at in
          let serving : get_or s.words 4 0 ≡ r.words.vault_serving = ap (λ (ws : List ℕ). get_or ws 4 0) r.words_are in
          let got = lock_served r.words.vault_ticket r.words.vault_serving (Vault r.vault) r.vault_slot (map vault_of s.views) r.vault_lock id n
          (place_at vault_of s.views id m.0 (Waits n) at waits) (few_vault o a b limit r.desk r.vault s.views r.seats) (sym serving ∙ found) in
          let w : View O W A B = record m.0 { vault = Inside n r.vault; seen = a.journal r.desk; held = b.held r.vault } in
          let homes : List (maybe.Option (Option (Kept A B))) = set s.homes 1 none in
          let part = k.part in
          let rule : Rule record { words = s.words; homes = homes; views = set s.views id w } = record {
            desk = r.desk;
            vault = r.vault;
            words = r.words;
            desk_slot = r.desk_slot;
            vault_slot = none;
            words_are = r.words_are;
            homes_are = ap (λ (hs : List (maybe.Option (Option (Kept A B)))). set hs 1 none) r.homes_are;
            opened = r.opened;
            agree = r.agree;
            desk_lock = subst (Lock r.words.desk_ticket r.words.desk_serving (Desk r.desk) r.desk_slot) (sym (same_places desk_of s.views id m.0 w at refl)) r.desk_lock;
            vault_lock = subst (Lock r.words.vault_ticket r.words.vault_serving (Vault r.vault) none) (sym (new_places vault_of s.views id w (Inside n r.vault) refl)) (got.1 r.vault);
            seats = reseated o a b limit r.desk r.vault s.views id m.0 w r.seats at refl (record {
              front = prefix_self (a.journal r.desk);
              heard = k.heard;
              held = omega arith;
              in_desk = λ j old e. absurd (cc (out, e));
              in_vault = λ j old e. (sym (same_value n j r.vault old e), refl);
              own = k.own;
              newer = k.newer;
              parts = k.parts;
              opening = k.opening;
              part = λ _. part (subst (λ (p : Place B). 0 < tickets_in m.0.desk + tickets_in p) (sym waits) (omega arith));
            });
          } in (
            w,
            takes 1 (Some (Vault r.vault)),
            ap (λ (hs : List (maybe.Option (Option (Kept A B)))). get_elem? hs 1) r.homes_are ∙ ap some got.0,
            loaded s 4 homes (set s.views id w) rule,
            λ x is. (
              (λ _. record {
                value = r.vault;
                view_is = ap (λ (t : ℕ). record m.0 { vault = Inside t r.vault; seen = a.journal r.desk; held = b.held r.vault }) (same_ticket n x m.0.vault waits is);
                slots = refl;
                front = k.front;
                rises = k.held;
                fits = λ y e. let q : a.opening r.desk ≡ y = sym (k.opening y e) in
                    (subst (λ (z : O). b.Fits r.vault z (a.journal r.desk)) q r.agree.vault_fits, subst (λ (z : O). o.Lawful z (a.journal r.desk)) q r.agree.lawful);
                works = a.work_of r.desk;
                own = k.own;
                beside = λ y e. (record { desk = r.desk; together = together s r; opening = ap Some (k.opening y e); begins = prefix_self (a.journal r.desk) }, refl);
              }),
              (λ ne. absurd (ne (found ∙ ap (λ (t : ℕ). t % M) (same_ticket n x m.0.vault waits is)))),
            ),
          )

  -- the seat gives the desk's value back, and serves the next
  pub serve_desk : (slots id n : ℕ) (value : A) (m : Sat O W A B) → m.0.desk ≡ Inside n value → m.1 ≡ (0, Some (Desk value)) ∷ [] → Allows Rule slots id m 1 (λ q. (q + 1) % M) (serves_desk no_step m)
  serve_desk slots id n value m inside carried s r deep at small =
      let k = r.seats.known id m.0 at in
      let here : value ≡ r.desk = (k.in_desk n value inside).0 in
      let w : View O W A B = record m.0 { desk = Outside } in
      let u : ℕ = (r.words.desk_serving + 1) % M in
      let slot : maybe.Option (Option (Kept A B)) = some (Some (Desk r.desk)) in
      let carried' : m.1 ≡ (0, Some (Desk r.desk)) ∷ [] = carried ∙ ap (λ (x : A). (0, Some (Desk x)) ∷ []) here in
      let lock = lock_serves r.words.desk_ticket r.words.desk_serving (Desk r.desk) r.desk_slot (map desk_of s.views) r.desk_lock id n value (place_at desk_of s.views id m.0 (Inside n value) at inside) in
      let part = k.part in (
        w,
        gives,
        tt,
        record {
          desk = r.desk;
          vault = r.vault;
          words = record r.words { desk_serving = u };
          desk_slot = slot;
          vault_slot = r.vault_slot;
          words_are = ap (λ (ws : List ℕ). set ws 1 ((get_or ws 1 0 + 1) % M)) r.words_are;
          homes_are = ap (put_back s.homes) carried' ∙ ap (λ (hs : List (maybe.Option (Option (Kept A B)))). set hs 0 slot) r.homes_are;
          opened = r.opened;
          agree = r.agree;
          desk_lock = subst (Lock r.words.desk_ticket u (Desk r.desk) slot) (sym (new_places desk_of s.views id w Outside refl)) lock;
          vault_lock = subst (Lock r.words.vault_ticket r.words.vault_serving (Vault r.vault) r.vault_slot) (sym (same_places vault_of s.views id m.0 w at refl)) r.vault_lock;
          seats = reseated o a b limit r.desk r.vault s.views id m.0 w r.seats at refl (record {
            front = k.front;
            heard = k.heard;
            held = k.held;
            in_desk = λ j old e. absurd (cc e);
            in_vault = k.in_vault;
            own = k.own;
            newer = k.newer;
            parts = k.parts;
            opening = k.opening;
            part = λ p. part (omega arith);
          });
        },
        (ap rest carried, refl),
      )

  pub serve_vault : (slots id n : ℕ) (value : B) (m : Sat O W A B) → m.0.vault ≡ Inside n value → m.1 ≡ (1, Some (Vault value)) ∷ [] → Allows Rule slots id m 4 (λ q. (q + 1) % M) (serves_vault no_step m)
  serve_vault slots id n value m inside carried s r deep at small =
      let k = r.seats.known id m.0 at in
      let here : value ≡ r.vault = (k.in_vault n value inside).0 in
      let w : View O W A B = record m.0 { vault = Outside } in
      let y : ℕ = (r.words.vault_serving + 1) % M in
      let slot : maybe.Option (Option (Kept A B)) = some (Some (Vault r.vault)) in
      let carried' : m.1 ≡ (1, Some (Vault r.vault)) ∷ [] = carried ∙ ap (λ (x : B). (1, Some (Vault x)) ∷ []) here in
      let lock = lock_serves r.words.vault_ticket r.words.vault_serving (Vault r.vault) r.vault_slot (map vault_of s.views) r.vault_lock id n value (place_at vault_of s.views id m.0 (Inside n value) at inside) in
      let part = k.part in (
        w,
        gives,
        tt,
        record {
          desk = r.desk;
          vault = r.vault;
          words = record r.words { vault_serving = y };
          desk_slot = r.desk_slot;
          vault_slot = slot;
          words_are = ap (λ (ws : List ℕ). set ws 4 ((get_or ws 4 0 + 1) % M)) r.words_are;
          homes_are = ap (put_back s.homes) carried' ∙ ap (λ (hs : List (maybe.Option (Option (Kept A B)))). set hs 1 slot) r.homes_are;
          opened = r.opened;
          agree = r.agree;
          desk_lock = subst (Lock r.words.desk_ticket r.words.desk_serving (Desk r.desk) r.desk_slot) (sym (same_places desk_of s.views id m.0 w at refl)) r.desk_lock;
          vault_lock = subst (Lock r.words.vault_ticket y (Vault r.vault) slot) (sym (new_places vault_of s.views id w Outside refl)) lock;
          seats = reseated o a b limit r.desk r.vault s.views id m.0 w r.seats at refl (record {
            front = k.front;
            heard = k.heard;
            held = k.held;
            in_desk = k.in_desk;
            in_vault = λ j old e. absurd (cc e);
            own = k.own;
            newer = k.newer;
            parts = k.parts;
            opening = k.opening;
            part = λ p. part (omega arith);
          });
        },
        (ap rest carried, refl),
      )

  -- a step that changes what a seat has seen, and no more
  sees : (s : St) (id : ℕ) (v w : View O W A B) (r : Rule s) → get_elem? s.views id ≡ some v → w.desk ≡ v.desk → w.vault ≡ v.vault → w.holds ≡ v.holds → Knows o a b r.desk r.vault w
      → Rule record { words = s.words; homes = s.homes; views = set s.views id w }
  sees s id v w r at same same' holds mine = record {
    desk = r.desk;
    vault = r.vault;
    words = r.words;
    desk_slot = r.desk_slot;
    vault_slot = r.vault_slot;
    words_are = r.words_are;
    homes_are = r.homes_are;
    opened = r.opened;
    agree = r.agree;
    desk_lock = subst (Lock r.words.desk_ticket r.words.desk_serving (Desk r.desk) r.desk_slot) (sym (same_places desk_of s.views id v w at same)) r.desk_lock;
    vault_lock = subst (Lock r.words.vault_ticket r.words.vault_serving (Vault r.vault) r.vault_slot) (sym (same_places vault_of s.views id v w at same')) r.vault_lock;
    seats = reseated o a b limit r.desk r.vault s.views id v w r.seats at holds mine;
  }

  -- the horizon is seen, and the journal behind which it stands
  pub see_horizon : (slots id : ℕ) (m : Sat O W A B) → m.0.desk ≡ Outside → Allows Rule slots id m 2 (λ q. q) (sees_horizon o a no_step m)
  see_horizon slots id m out s r deep at small =
      let k = r.seats.known id m.0 at in
      let w : View O W A B = record m.0 { seen = a.journal r.desk } in
      let word : get_or s.words 2 0 ≡ r.words.horizon = ap (λ (ws : List ℕ). get_or ws 2 0) r.words_are in (
        w,
        keeps,
        tt,
        loaded s 2 s.homes (set s.views id w) (sees s id m.0 w r at refl refl refl (record {
          front = prefix_self (a.journal r.desk);
          heard = k.heard;
          held = k.held;
          in_desk = λ j old e. absurd (cc (out, e));
          in_vault = k.in_vault;
          own = k.own;
          newer = k.newer;
          parts = k.parts;
          opening = k.opening;
          part = k.part;
        })),
        (
          record {
            view_is = refl;
            slots = refl;
            front = k.front;
            lawful = λ x e. subst (λ (z : O). o.Lawful z (a.journal r.desk)) (sym (k.opening x e)) r.agree.lawful;
            works = a.work_of r.desk;
            own = k.own;
          },
          λ x e. subst (λ (z : ℕ × O). IsHorizon z.0 (horizon_of (o.base z.1) (a.journal r.desk))) (λ i. (sym word i, sym (k.opening x e) i)) r.agree.horizon,
        ),
      )

  -- the seat takes the longest front of which it heard
  pub settle : (slots id : ℕ) (m : Sat O W A B) → Allows Rule slots id m 2 (λ n. n) (settles o a no_step m)
  settle slots id m s r deep at small =
      let k = r.seats.known id m.0 at in
      let J : List Line = a.journal r.desk in
      let l = longest_of J m.0.seen m.0.heard k.front k.heard in
      let w : View O W A B = record m.0 { seen = longest m.0.seen m.0.heard; heard = [] } in (
        w,
        keeps,
        tt,
        loaded s 2 s.homes (set s.views id w) (sees s id m.0 w r at refl refl refl (record {
          front = l.0;
          heard = λ j f e. absurd (some-ne-none f (sym e));
          held = k.held;
          in_desk = λ j old e. let q = k.in_desk j old e in
              (q.0, prefix_both (longest m.0.seen m.0.heard) J l.0 (subst (λ (f : List Line). IsPrefix f (longest m.0.seen m.0.heard)) q.1 l.1));
          in_vault = k.in_vault;
          own = k.own;
          newer = k.newer;
          parts = k.parts;
          opening = k.opening;
          part = k.part;
        })),
        record {
          view_is = refl;
          slots = refl;
          front = l.1;
          heard = l.2;
          journal = J;
          works = a.work_of r.desk;
          begins = l.0;
          lawful = λ x e. subst (λ (z : O). o.Lawful z J) (sym (k.opening x e)) r.agree.lawful;
          own = k.own;
        },
      )
