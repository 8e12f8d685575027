-- The step that records what a seat has made of the desk keeps the rule of the table.
use Rattle.std.proofs.Common.{◌≡◌, ◌≢◌, ℕ, zero, suc, ◌+◌, ◌<◌, ◌≤◌, ◌⊎◌, List, [], ◌∷◌, ◌++◌, map, length, set, cond, Bool, true, false, refl, ap, sym, ◌∙◌, subst, inl, inr, ⊎_elim, arith, Option, Some, None, eq-eqb, ne_eqb, length-append}
use Rattle.std.proofs.lemmas.List.Elements.{filter-append}
use mathlib.Core.Option.{some, some-injective, some-ne-none}
use mathlib.Core.Logic.{dite}
use mathlib.Core.List.{IsPrefix}
use native.Mathlib.Decide.{dec_lt}
use lib.ListN.{get_elem?}
use Rattle.atomic_table.specs.Table.{Allows, keeps}
use Rattle.atomic_table.proofs.Lists.{at_map}
use Rattle.retro_base.specs.declared.device.Device.{Device}
use Rattle.history.specs.declared.journal.Line.{Line}
use Rattle.turn.specs.declared.view.Holding.{Holding}
use Rattle.turn.specs.declared.view.Kept.{Kept}
use Rattle.turn.specs.declared.view.Kept.TheVariants.{Desk, Vault}
use Rattle.turn.specs.declared.view.Place.{Place}
use Rattle.turn.specs.declared.view.Place.TheVariants.{Inside}
use Rattle.turn.specs.declared.view.View.{View}
use Rattle.turn.specs.Faults.{LAST, desk_faults, fault_lines, fault_times, is_of_desk, line_fault, tells_of, untold_by}
use Rattle.history.specs.Lines.{FaultsDiffer, horizon_of, lines_of}
use Rattle.turn.specs.Meanings.{OpeningMeaning, DeskMeaning, VaultMeaning}
use Rattle.turn.specs.Plays.{Sat, records}
use Rattle.turn.specs.Queue.{Lock, total, is_inside, ticket_of}
use Rattle.turn.specs.Rule.{AreOwn, AreParts, AreSeats, HasPart, HavePart, IsCounted, IsHeard, IsHorizon, IsNewer, AreNewer, IsOwn, IsRuled, Knows, VaultBeside, count_now, told_times}
use Rattle.turn.specs.Seats.{AddsLine, IsOwnChange, IsQuiet, MayLeave}
use Rattle.turn.specs.Views.{PARTS, behind_desk, desk_of, vault_of, parts_at, parts_in, parts_of, still_told}
use Rattle.turn.proofs.Differing.{still_differ}
use Rattle.turn.proofs.Faults.{desk_hears, desk_told, fault_most, lines_append, lines_within, one_tells, tells_none, tells_one, times_append, told_but, told_still, untold_goes, untold_stays}
use Rattle.turn.proofs.Fronts.{other_line, prefix_self, prefix_trans}
use Rattle.turn.proofs.Locks.{lock_alone, lock_changes}
use Rattle.turn.proofs.Seating.{desk_count, keep_total, moved, new_places, place_at, same_places, same_value}
use Rattle.turn.proofs.Steps.{no_step}
use Rattle.turn.proofs.Totals.{total_append, total_at, total_map, total_set, total_two}

lines_append_of : (n : ℕ) (xs ys : List Line) → lines_of n (xs ++ ys) ≡ lines_of n xs ++ lines_of n ys
lines_append_of n xs ys = rw filter-append refl

-- how a fault is counted behind a step that tells it to a seat, where the count rose to it
pub counted_after : (opened count count' c n n' news : ℕ) → IsCounted opened count c n → opened ≤ count → count ≤ count' → n' ≤ n + news → news ≤ 1 → (0 < news → (c ≡ count') × (c < LAST → count < c)) → IsCounted opened count' c n'
counted_after opened count count' c n n' news was start up le most told = record {
  once = λ lt. dite (dec_lt 0 news) (λ p. let q = (told p).1 lt in let z : n ≡ 0 = nothing lt p in omega arith) (λ p. let q = was.once lt in omega arith);
  above = λ lt some_. dite (dec_lt 0 news) (λ p. let q = (told p).1 lt in omega arith) (λ p. was.above lt (omega arith));
  below = λ some_. dite (dec_lt 0 news) (λ p. let q = (told p).0 in omega arith) (λ p. let q = was.below (omega arith) in omega arith);
}
  where
    nothing : c < LAST → 0 < news → n ≡ 0
    nothing lt p = dite (dec_lt 0 n) (λ q. let x = was.below q in let y = (told p).1 lt in absurd (omega arith)) (λ q. omega arith)

module _ {O W A : Type 0} (a : DeskMeaning O W A) (h : Holding W) (old new : A) where
  abbrev J : List Line
  J = a.journal old

  abbrev J' : List Line
  J' = a.journal new

  abbrev news : List (Device × ℕ)
  news = desk_faults (a.counts old) (a.counts new)

  abbrev Change : Type 0
  Change = IsQuiet a old new ⊎ IsOwnChange a h old new

  -- a line more leaves the lines of other numbers
  grown : (J' ≡ J) ⊎ AddsLine a h old new → IsPrefix J J' × ((k : ℕ) → k ≢ h.number → lines_of k J' ≡ lines_of k J)
  grown (inl same) = (subst (IsPrefix J) (sym same) (prefix_self J), λ k ne. ap (lines_of k) same)
  grown (inr add) = ((add.line ∷ [], sym add.journal), λ k ne. ap (lines_of k) add.journal ∙ other_line k J add.line (λ e. ne (sym e ∙ add.number)))

  pub goes_on : Change → IsPrefix J J'
  goes_on (inl quiet) = subst (IsPrefix J) (sym quiet.journal) (prefix_self J)
  goes_on (inr own) = (grown own.journal).0

  -- a number that the seat doesn't have whole keeps its lines and its work
  pub keeps_others : Change → (k : ℕ) → (h.parts ≡ PARTS → k ≢ h.number) → (lines_of k J' ≡ lines_of k J) × (a.work_of new k ≡ a.work_of old k)
  keeps_others (inl quiet) k ne = (ap (lines_of k) quiet.journal, quiet.works k)
  keeps_others (inr own) k ne = ((grown own.journal).1 k (ne own.whole), own.works k (ne own.whole))

  -- what is told and recorded of a fault
  pub record IsTold : Type 0 where
    pub lines : (d : Device) (c : ℕ) → fault_lines d c J' + fault_times d c (still_told J J' (h.faults ++ news)) ≤ fault_lines d c J + fault_times d c h.faults + fault_times d c news
    pub newer : IsNewer (behind_desk a old new h)
    pub grow : (d : Device) (c : ℕ) → fault_lines d c J ≤ fault_lines d c J'
    -- what was told of a device is told still, or a line tells one of it
    pub kept : (d : Device) → ((c : ℕ) → fault_times d c (still_told J J' (h.faults ++ news)) ≡ fault_times d c h.faults + fault_times d c news) ⊎ ((c : ℕ) × (0 < fault_lines d c J'))

  stays_told : J' ≡ J → h.lines ≡ lines_of h.number J → IsNewer h → ((d : Device) (e : ℕ) → is_of_desk d ≡ true → 0 < fault_lines d e J → e ≤ a.counts old d) → IsTold
  stays_told same own newer below =
      let is : still_told J J' (h.faults ++ news) ≡ h.faults ++ news = told_still J J' (h.faults ++ news) same in
      record {
        lines = λ d c. let x = ap (fault_times d c) is ∙ times_append d c h.faults news in let y = ap (fault_lines d c) same in omega arith;
        newer = λ d c e lt t l.
            let x = ap (fault_times d c) is ∙ times_append d c h.faults news in
            let l' : 0 < fault_lines d e h.lines = subst (λ (ls : List Line). 0 < fault_lines d e ls) (ap (lines_of h.number) same ∙ sym own) l in
            dite (dec_lt 0 (fault_times d c h.faults)) (λ p. newer d c e lt p l') (λ p.
            let n = (desk_told (a.counts old) (a.counts new) d c).1 (omega arith) in
            let within = lines_within d e h.number J' in let y = ap (fault_lines d e) same in
            let under = below d e n.0 (omega arith) in let over = n.1.above lt in omega arith);
        grow = λ d c. let y = ap (fault_lines d c) same in omega arith;
        kept = λ d. inl (λ c. ap (fault_times d c) is ∙ times_append d c h.faults news);
      }

  grows_told : AddsLine a h old new → h.lines ≡ lines_of h.number J → IsNewer h → ((d : Device) (e : ℕ) → is_of_desk d ≡ true → 0 < fault_lines d e J → e ≤ a.counts old d) → IsTold
  grows_told add own newer below = record {
    lines = λ d c. at_line d (λ told. let z = gone d told c in let y = more d c in let m = fault_most d c add.line.what in let t = times_append d c h.faults news in
        dite (dec_lt 0 (line_fault d c add.line.what)) (λ p. let q = add.told d c p in omega arith) (λ p. omega arith))
        (λ none. let z = stays d none c in let y = more d c in let l = tells_none d c add.line.what none in omega arith);
    newer = λ d c e lt t l. at_line d (λ told. let z = gone d told c in absurd (omega arith)) (λ none.
        let z = stays d none c in
        let y = more d e in let no = tells_none d e add.line.what none in let within = lines_within d e h.number J' in
        let here : 0 < fault_lines d e h.lines = subst (λ (ls : List Line). 0 < fault_lines d e ls) (sym own) (own_line d e none l) in
        dite (dec_lt 0 (fault_times d c h.faults)) (λ p. newer d c e lt p here) (λ p.
        let n = (desk_told (a.counts old) (a.counts new) d c).1 (omega arith) in
        let under = below d e n.0 (omega arith) in let over = n.1.above lt in omega arith));
    grow = λ d c. let y = more d c in omega arith;
    kept = λ d. at_line d (λ told. let one = tells_one d add.line.what told in let y = more d one.0 in let q = one.1 in inr (one.0, omega arith)) (λ none. inl (stays d none));
  }
    where
      more : (d : Device) (c : ℕ) → fault_lines d c J' ≡ fault_lines d c J + line_fault d c add.line.what
      more d c = ap (fault_lines d c) add.journal ∙ lines_append d c J add.line

      is : still_told J J' (h.faults ++ news) ≡ untold_by (add.line ∷ []) (h.faults ++ news)
      is = told_but J J' add.line (h.faults ++ news) add.journal

      gone : (d : Device) → tells_of d add.line.what ≡ true → (c : ℕ) → fault_times d c (still_told J J' (h.faults ++ news)) ≡ 0
      gone d told c = ap (fault_times d c) is ∙ untold_goes (add.line ∷ []) d c (h.faults ++ news) (one_tells d add.line true told)

      stays : (d : Device) → tells_of d add.line.what ≡ false → (c : ℕ) → fault_times d c (still_told J J' (h.faults ++ news)) ≡ fault_times d c h.faults + fault_times d c news
      stays d none c = ap (fault_times d c) is ∙ (untold_stays (add.line ∷ []) d c (h.faults ++ news) (one_tells d add.line false none) ∙ times_append d c h.faults news)

      own_line : (d : Device) (e : ℕ) → tells_of d add.line.what ≡ false → 0 < fault_lines d e (lines_of h.number J') → 0 < fault_lines d e (lines_of h.number J)
      own_line d e none some_ =
          let whole = ap (λ (ls : List Line). fault_lines d e (lines_of h.number ls)) add.journal ∙ (ap (fault_lines d e) (lines_append_of h.number J (add.line ∷ [])) ∙ total_append (λ (x : Line). line_fault d e x.what) (lines_of h.number J) (lines_of h.number (add.line ∷ []))) in
          let last = lines_within d e h.number (add.line ∷ []) in
          let no = tells_none d e add.line.what none in omega arith

      at_line : {X : Type 0} (d : Device) → (tells_of d add.line.what ≡ true → X) → (tells_of d add.line.what ≡ false → X) → X
      at_line {X = X} d tells other = go (tells_of d add.line.what) refl
        where
          go : (t : Bool) → tells_of d add.line.what ≡ t → X
          go true e = tells e
          go false e = other e

  pub is_told : Change → h.lines ≡ lines_of h.number J → IsNewer h → ((d : Device) (e : ℕ) → is_of_desk d ≡ true → 0 < fault_lines d e J → e ≤ a.counts old d) → IsTold
  is_told (inl quiet) own newer below = stays_told quiet.journal own newer below
  is_told (inr change) own newer below = go change.journal
    where
      go : (J' ≡ J) ⊎ AddsLine a h old new → IsTold
      go (inl same) = stays_told same own newer below
      go (inr add) = grows_told add own newer below

abbrev desk_or : {A B : Type 0} → A → Option (Kept A B) → A
desk_or x (Some (Desk y)) = y
desk_or x (Some (Vault y)) = x
desk_or x None = x

abbrev in_hand : {A B : Type 0} → A → List (ℕ × Option (Kept A B)) → A
in_hand x [] = x
in_hand x (c ∷ cs) = desk_or x c.1

-- what is said of each of one holding
pub only_one : {W : Type 0} (P : Holding W → Type 0) (h : Holding W) → P h → (k : ℕ) (g : Holding W) → get_elem? (h ∷ []) k ≡ some g → P g
only_one P h p zero g e = subst P (some-injective h g e) p
only_one P h p (suc k) g e = absurd (some-ne-none g (sym e))

module _ {O W A B : Type 0} (o : OpeningMeaning O) (a : DeskMeaning O W A) (b : VaultMeaning O B) (limit : ℕ) where
  -- a seat that has a number whole: no other seat has a part of it, and it is one of the table's
  whole_part : (h : Holding W) (v : View O W A B) → v.holds ≡ h ∷ [] → h.parts ≡ PARTS → parts_at h.number v ≡ PARTS
  whole_part h v one whole = ap (total (parts_in h.number)) one ∙ (ap (λ (t : Bool). cond t h.parts 0 + 0) (eq-eqb h.number h.number refl) ∙ (let w = whole in omega arith))

  other_number : (desk : A) (vault : B) (views : List (View O W A B)) (id j k : ℕ) (v u : View O W A B) (h g : Holding W) → AreSeats o a b limit desk vault views → get_elem? views id ≡ some v → get_elem? views j ≡ some u → j ≢ id
      → v.holds ≡ h ∷ [] → h.parts ≡ PARTS → get_elem? u.holds k ≡ some g → 0 < g.parts → g.number ≢ h.number
  other_number desk vault views id j k v u h g s at at' other one whole in_u part same =
      let n : ℕ = h.number in
      let two = total_two (parts_at n) views id j v u (λ e. other (sym e)) at at' in
      let mine = whole_part h v one whole in
      let e : parts_in n g ≡ g.parts = ap (λ (t : Bool). cond t g.parts 0) (eq-eqb g.number n same) in
      let t = total_at (parts_in n) u.holds k g in_u in
      let all = s.numbers n in
      dite (dec_lt n limit) (λ lt. let x = all.0 lt in absurd (omega arith)) (λ ge. let x = all.1 (omega arith) in absurd (omega arith))

  number_is : (desk : A) (vault : B) (views : List (View O W A B)) (id : ℕ) (v : View O W A B) (h : Holding W) → AreSeats o a b limit desk vault views → get_elem? views id ≡ some v → v.holds ≡ h ∷ [] → h.parts ≡ PARTS → h.number < limit
  number_is desk vault views id v h s at one whole =
      let mine = total_at (parts_at h.number) views id v at in
      let w = whole_part h v one whole in
      let all = s.numbers h.number in
      dite (dec_lt h.number limit) (λ lt. lt) (λ ge. let x = all.1 (omega arith) in absurd (omega arith))

  -- the counts of faults behind a change of the desk
  pub desk_rises : (old new : A) (vault : B) (d : Device) → a.counts old d ≤ a.counts new d → count_now o a b old vault d ≤ count_now o a b new vault d
  desk_rises old new vault d up = go (is_of_desk d)
    where
      go : (t : Bool) → cond t (a.counts old d) (b.counts vault d) ≤ cond t (a.counts new d) (b.counts vault d)
      go true = up
      go false = omega arith

  -- where the count of a device rose, it is the desk's
  desk_rose : (old new : A) (vault : B) (d : Device) → count_now o a b old vault d < count_now o a b new vault d → (is_of_desk d ≡ true) × (a.counts old d < a.counts new d)
  desk_rose old new vault d = go (is_of_desk d) refl
    where
      go : (t : Bool) → is_of_desk d ≡ t → cond t (a.counts old d) (b.counts vault d) < cond t (a.counts new d) (b.counts vault d) → (is_of_desk d ≡ true) × (a.counts old d < a.counts new d)
      go true is up = (is, up)
      go false is up = absurd (omega arith)

  abbrev pub recorded : ℕ → A → A → View O W A B → View O W A B
  recorded n old new v = record v { desk = Inside n new; seen = a.journal new; holds = map (behind_desk a old new) v.holds }

  module _ (old new : A) (vault : B) (views : List (View O W A B)) (id n : ℕ) (v : View O W A B) (h : Holding W) (s : AreSeats o a b limit old vault views) (at : get_elem? views id ≡ some v)
      (one : v.holds ≡ h ∷ []) (may : MayLeave a o v.held h old new) (start : (d : Device) → o.counts (a.opening old) d ≤ count_now o a b old vault d) where
    abbrev w : View O W A B
    w = recorded n old new v

    abbrev k : Knows o a b old vault v
    k = s.known id v at

    w_holds : w.holds ≡ behind_desk a old new h ∷ []
    w_holds = ap (map (behind_desk a old new)) one

    told : 0 < h.parts → IsTold a h old new
    told part =
        let own : IsOwn (a.journal old) (a.work_of old) h = k.own 0 h (ap (λ (hs : List (Holding W)). get_elem? hs 0) one) in
        is_told a h old new may.change (own part).0 (k.newer 0 h (ap (λ (hs : List (Holding W)). get_elem? hs 0) one))
        (λ d e of_desk some_. let below = (s.faults d e).below (omega arith) in let c = desk_count o a b limit old vault d of_desk in omega arith)

    record_faults : 0 < h.parts → (d : Device) (c : ℕ) → IsCounted (o.counts (a.opening new) d) (count_now o a b new vault d) c (fault_lines d c (a.journal new) + total (told_times d c) (set views id w))
    record_faults part d c =
        let sum = total_set (told_times d c) views id v w at in
        let mine = ap (total (λ (x : Holding W). fault_times d c x.faults)) one in
        let then_ = ap (total (λ (x : Holding W). fault_times d c x.faults)) w_holds in
        let le = (told part).lines d c in
        let tells = desk_told (a.counts old) (a.counts new) d c in
        subst (λ (x : O). IsCounted (o.counts x d) (count_now o a b new vault d) c (fault_lines d c (a.journal new) + total (told_times d c) (set views id w))) (sym may.opening)
        (counted_after (o.counts (a.opening old) d) (count_now o a b old vault d) (count_now o a b new vault d) c
        (fault_lines d c (a.journal old) + total (told_times d c) views) (fault_lines d c (a.journal new) + total (told_times d c) (set views id w)) (fault_times d c (desk_faults (a.counts old) (a.counts new)))
        (s.faults d c) (start d) (desk_rises old new vault d (may.counts d)) (omega arith) tells.0
        (λ p. let t = tells.1 p in let x = desk_count o a b limit old vault d t.0 in let y = desk_count o a b limit new vault d t.0 in
        (t.1.now ∙ sym y, λ lt. let up = t.1.above lt in omega arith)))

    record_heard : 0 < h.parts → (d : Device) → IsHeard (o.counts (a.opening new) d) (count_now o a b new vault d) (λ c. fault_lines d c (a.journal new) + total (told_times d c) (set views id w))
    record_heard part d up = ⊎_elim stays (λ (t : (c : ℕ) × (0 < fault_lines d c (a.journal new))). let p = t.1 in (t.0, omega arith)) ((told part).kept d)
      where
        stays : ((c : ℕ) → fault_times d c (still_told (a.journal old) (a.journal new) (h.faults ++ desk_faults (a.counts old) (a.counts new))) ≡ fault_times d c h.faults + fault_times d c (desk_faults (a.counts old) (a.counts new)))
            → (c : ℕ) × (0 < fault_lines d c (a.journal new) + total (told_times d c) (set views id w))
        stays same = dite (dec_lt (count_now o a b old vault d) (count_now o a b new vault d))
            (λ rose.
            let of_desk = desk_rose old new vault d rose in
            let news = desk_hears (a.counts old) (a.counts new) d of_desk.0 of_desk.1 in
            let c : ℕ = a.counts new d in
            let all = total_set (told_times d c) views id v w at in
            let mine = ap (total (λ (x : Holding W). fault_times d c x.faults)) one in
            let then_ = ap (total (λ (x : Holding W). fault_times d c x.faults)) w_holds in
            let e = same c in (c, omega arith))
            (λ same_count.
            let began = ap (λ (x : O). o.counts x d) may.opening in
            let was = s.heard d (omega arith) in
            let c : ℕ = was.0 in
            let some_ = was.1 in
            let all = total_set (told_times d c) views id v w at in
            let mine = ap (total (λ (x : Holding W). fault_times d c x.faults)) one in
            let then_ = ap (total (λ (x : Holding W). fault_times d c x.faults)) w_holds in
            let grow = (told part).grow d c in
            let e = same c in (c, omega arith))

    record_differ : 0 < h.parts → FaultsDiffer (a.journal new)
    record_differ part =
        let at_first = ap (λ (hs : List (Holding W)). get_elem? hs 0) one in
        go may.change (still_differ a h old new (k.own 0 h at_first part).0 (k.newer 0 h at_first)
        (λ d e of_desk some_. let under = (s.faults d e).below (omega arith) in let c = desk_count o a b limit old vault d of_desk in omega arith)
        (λ d c lt. let most = (record_faults part d c).once lt in omega arith) s.differ)
      where
        go : IsQuiet a old new ⊎ IsOwnChange a h old new → ((a.journal new ≡ a.journal old) ⊎ AddsLine a h old new → FaultsDiffer (a.journal new)) → FaultsDiffer (a.journal new)
        go (inl quiet) f = f (inl quiet.journal)
        go (inr change) f = f change.journal

    their_own : (j : ℕ) (u : View O W A B) → j ≢ id → get_elem? views j ≡ some u → AreOwn (a.journal new) (a.work_of new) u.holds
    their_own j u other at' i g in_u part =
        let x = (s.known j u at').own i g in_u part in
        let y = keeps_others a h old new may.change g.number (λ whole. other_number old vault views id j i v u h g s at at' other one whole in_u part) in
        (x.0 ∙ sym y.0, x.1 ∙ sym y.1)

    record_foreign : (i : ℕ) → limit ≤ i → (lines_of i (a.journal new) ≡ []) × (a.work_of new i ≡ None)
    record_foreign i ge =
        let x = s.foreign i ge in
        let y = keeps_others a h old new may.change i (λ whole e. let lt = number_is old vault views id v h s at one whole in absurd (omega arith)) in
        (y.0 ∙ x.0, y.1 ∙ x.1)

    mine_knows : 0 < h.parts → Knows o a b new vault w
    mine_knows part =
        let longer = goes_on a h old new may.change in
        record {
          front = prefix_self (a.journal new);
          heard = λ i f e. prefix_trans f (a.journal old) (a.journal new) (k.heard i f e) longer;
          held = k.held;
          in_desk = λ j x e. (sym (same_value n j new x e), refl);
          in_vault = k.in_vault;
          own = subst (AreOwn (a.journal new) (a.work_of new)) (sym w_holds) (only_one (IsOwn (a.journal new) (a.work_of new)) (behind_desk a old new h) (λ p. (refl, refl)));
          newer = subst AreNewer (sym w_holds) (only_one IsNewer (behind_desk a old new h) (told part).newer);
          parts = subst HavePart (sym w_holds) (only_one HasPart (behind_desk a old new h) part);
          opening = λ x e. k.opening x e ∙ sym may.opening;
          part = λ p. let same = ap (total (λ (x : Holding W). x.parts)) w_holds in omega arith;
        }

    their_knows : ((j : ℕ) (p : Place A) → j ≢ id → get_elem? (map desk_of views) j ≡ some p → is_inside p ≡ 0) → (j : ℕ) (u : View O W A B) → j ≢ id → get_elem? views j ≡ some u → Knows o a b new vault u
    their_knows alone j u other at' =
        let longer = goes_on a h old new may.change in
        let q = s.known j u at' in
        let out = alone j u.desk other (at_map desk_of views j u at') in
        record {
          front = prefix_trans u.seen (a.journal old) (a.journal new) q.front longer;
          heard = λ i f e. prefix_trans f (a.journal old) (a.journal new) (q.heard i f e) longer;
          held = q.held;
          in_desk = λ i x e. let y = ap is_inside e in absurd (omega arith);
          in_vault = q.in_vault;
          own = their_own j u other at';
          newer = q.newer;
          parts = q.parts;
          opening = λ x e. q.opening x e ∙ sym may.opening;
          part = q.part;
        }

    pub record_seats : 0 < h.parts → ((j : ℕ) (p : Place A) → j ≢ id → get_elem? (map desk_of views) j ≡ some p → is_inside p ≡ 0) → AreSeats o a b limit new vault (set views id w)
    record_seats part alone = record {
      few = s.few;
      parts = keep_total parts_of views id v w at (total_map (λ (x : Holding W). x.parts) (behind_desk a old new) v.holds) ∙ s.parts;
      numbers = λ i. subst (AreParts limit i) (sym (keep_total (parts_at i) views id v w at (total_map (parts_in i) (behind_desk a old new) v.holds))) (s.numbers i);
      foreign = record_foreign;
      faults = record_faults part;
      heard = record_heard part;
      differ = record_differ part;
      known = moved (Knows o a b new vault) views id w (mine_knows part) (their_knows alone);
    }

  module _ (outlives : (y : B) (x : O) (lines more : List Line) → b.Fits y x lines → o.Lawful x (lines ++ more) → b.Fits y x (lines ++ more)) where
    pub fits_longer : (y : B) (x : O) (lines longer : List Line) → IsPrefix lines longer → b.Fits y x lines → o.Lawful x longer → b.Fits y x longer
    fits_longer y x lines longer p fits lawful = subst (b.Fits y x) p.1 (outlives y x lines p.0 fits (subst (o.Lawful x) (sym p.1) lawful))

    pub record_desk : (first : O) (slots id n word : ℕ) (old new : A) (h : Holding W) (m : Sat O W A B) → m.0.desk ≡ Inside n old → m.1 ≡ (0, Some (Desk new)) ∷ [] → m.0.holds ≡ h ∷ [] → 0 < h.parts
        → MayLeave a o m.0.held h old new → IsHorizon word (horizon_of (o.base (a.opening new)) (a.journal new)) → Allows (IsRuled o a b first limit) slots id m 2 (λ _. word) (λ _. records o a b no_step m word)
    record_desk first slots id n word old new h m inside carried one part may shown s r deep at small =
        let k = r.seats.known id m.0 at in
        let here : old ≡ r.desk = (k.in_desk n old inside).0 in
        let may' : MayLeave a o m.0.held h r.desk new = subst (λ (x : A). MayLeave a o m.0.held h x new) here may in
        let w : View O W A B = recorded n r.desk new m.0 in
        let place = place_at desk_of s.views id m.0 (Inside n old) at inside in
        let alone = lock_alone r.words.desk_ticket r.words.desk_serving (Desk r.desk) r.desk_slot (map desk_of s.views) r.desk_lock id n old in
        let lock = lock_changes r.words.desk_ticket r.words.desk_serving (Desk r.desk) r.desk_slot (map desk_of s.views) r.desk_lock id n old new (Desk new) place in
        let longer = goes_on a h r.desk new may'.change in
        let acked = may'.acked in let most = k.held in
        let counts : (d : Device) → o.counts (a.opening new) d ≤ count_now o a b new r.vault d =
        (λ d. let x = r.agree.counts d in let y = desk_rises r.desk new r.vault d (may'.counts d) in let z = ap (λ (q : O). o.counts q d) may'.opening in omega arith) in
        let stands = fits_longer r.vault (a.opening new) (a.journal r.desk) (a.journal new) longer (subst (λ (x : O). b.Fits r.vault x (a.journal r.desk)) (sym may'.opening) r.agree.vault_fits) may'.lawful in
        let seats : AreSeats o a b limit new r.vault (set s.views id w) = record_seats r.desk new r.vault s.views id n m.0 h r.seats at one may' r.agree.counts part (λ j p other e. alone j p place other e) in
        let beside : VaultBeside o a b new m.0.held = record {
          vault = r.vault;
          together = record {
            lawful = may'.lawful;
            desk_fits = may'.fits;
            vault_fits = stands;
            acked = omega arith;
            counts = counts;
            told = λ d c some_. (seats.faults d c).below (omega arith);
          };
          held = most;
        } in (
          w,
          keeps,
          tt,
          record {
            desk = new;
            vault = r.vault;
            words = record r.words { horizon = word };
            desk_slot = r.desk_slot;
            vault_slot = r.vault_slot;
            words_are = ap (λ (ws : List ℕ). set ws 2 word) r.words_are;
            homes_are = r.homes_are;
            opened = may'.opening ∙ r.opened;
            agree = record {
              lawful = may'.lawful;
              desk_fits = may'.fits;
              vault_fits = stands;
              horizon = shown;
              held_is = r.agree.held_is;
              acked = omega arith;
              counts = counts;
            };
            desk_lock = subst (Lock r.words.desk_ticket r.words.desk_serving (Desk new) r.desk_slot) (sym (new_places desk_of s.views id w (Inside n new) refl)) lock;
            vault_lock = subst (Lock r.words.vault_ticket r.words.vault_serving (Vault r.vault) r.vault_slot) (sym (same_places vault_of s.views id m.0 w at refl)) r.vault_lock;
            seats = seats;
          },
          (
            refl,
            λ j x y e c.
                let t : n ≡ j = ap ticket_of (sym inside ∙ e) in
                let vx : r.desk ≡ x = sym here ∙ same_value n j old x (sym inside ∙ e) in
                let vy : new ≡ y = ap (in_hand new) (sym carried ∙ c) in
                ((λ i. recorded (t i) (vx i) (vy i) m.0), subst (λ (z : A). VaultBeside o a b z m.0.held) vy beside),
          ),
        )
