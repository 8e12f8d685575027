-- What each of the two writes of an append may leave.
use Rattle.std.proofs.Common.{◌≡◌, inl, inr, ◌∙◌, ◌+◌, ◌-◌, ◌≤◌, ◌<◌, ◌^◌, ℕ, suc, List, [], ◌∷◌, ◌++◌, length, get_or, true, refl, sym, ap, subst, arith}
use Rattle.std.proofs.lemmas.List.{get_or_append_left, get_or-append_right, get_or_at}
use Rattle.std.proofs.lemmas.Bool.{cases_lt, cases_eq}
use Rattle.disk_model.specs.Disk.{State, InRange, IsDurable, IsImage, SameOutside, written}
use Rattle.disk_model.specs.Moments.{Clock, LeavesOnly}
use Rattle.disk_model.proofs.Moments.{joined, weaker}
use Rattle.disk_model.proofs.Written as put
use Rattle.retro_base.specs.Framing.{sized, record_of, records_of}
use Rattle.retro_base.specs.declared.limits.TheConstants.{OPEN_GATE}
use Rattle.gate_log.specs.Appending.{after_append, Appending, LooseOrIn}
use Rattle.gate_log.specs.Cause.{HasRoom}
use Rattle.gate_log.specs.Log.{Region, HoldsBodies}
use Rattle.gate_log.specs.Region.{gate_behind, Lists}
use Rattle.gate_log.proofs.Ranges.{outside_alone}
use Rattle.gate_log.proofs.Framing.{length-piece, length-sized, records-push, length-records-push, AreBodies-push}
use Rattle.gate_log.proofs.Regions.{Stands, stands, lists, stands_same}

-- where nothing was written
pub untouched : (log : Region) (bodies : List (List ℕ)) (body : List ℕ) (old : State) → HoldsBodies log bodies old → log.place + log.size ≤ length old.seen → (image : List ℕ) → IsImage old image → Appending log bodies body old image
untouched log bodies body old holds fits image is =
    let there : Stands log.place log.size bodies old.seen = stands log.place log.size old.seen fits bodies holds.lists in
    record {
      lists = inl (lists log.place log.size image (omega (arith, fits, is.size)) bodies (stands_same log.place log.size bodies old.seen image there (λ i low high. is.kept i (λ l. holds.durable i low (omega (arith, high, there.within)) l))));
      same = record { size = is.size; kept = λ i out. is.kept i (λ l. out (inl l)) };
    }

module _ (log : Region) (bodies : List (List ℕ)) (body bytes : List ℕ) (gate : ℕ) (old : State)
    (holds : HoldsBodies log bodies old) (short : length body < 2 ^ 32) (room : HasRoom log (length body)) (fits : log.place + log.size ≤ length old.seen)
    (is_gate : gate ≡ log.place + log.gate) (is_bytes : bytes ≡ sized body ++ 0 ∷ []) where
  there : Stands log.place log.size bodies old.seen
  there = stands log.place log.size old.seen fits bodies holds.lists

  behind_there : log.gate ≡ gate_behind bodies
  behind_there = holds.gate

  within : gate_behind bodies < log.size
  within = there.within

  length-bytes : length bytes ≡ length body + 5
  length-bytes = ap (λ (l : List ℕ). length l) is_bytes ∙ length-piece body

  byte_at : (j : ℕ) → get_or bytes j 0 ≡ get_or (sized body ++ 0 ∷ []) j 0
  byte_at j = ap (λ (l : List ℕ). get_or l j 0) is_bytes

  listed : (image : List ℕ) → length image ≡ length old.seen → Stands log.place log.size bodies image → Lists log.place log.size bodies image
  listed image size = lists log.place log.size image (omega (arith, fits, size)) bodies

  -- before the gate is written
  behind_gate : (image : List ℕ) → SameOutside (LooseOrIn old (gate + 1) (length bytes)) old.seen image → Appending log bodies body old image
  behind_gate image same = record {
    lists = inl (listed image same.size (stands_same log.place log.size bodies old.seen image there (λ i low high.
        same.kept i (λ out. elim out [ inl l ↦ holds.durable i low (omega (arith, within, high)) l | inr r ↦ absurd (omega (arith, r.0, high, is_gate, behind_there)) ]))));
    same = record {
      size = same.size;
      kept = λ i out. same.kept i (λ inn. elim inn [ inl l ↦ out (inl l) | inr r ↦ out (inr (omega (arith, r.0, is_gate), omega (arith, r.1, length-bytes, is_gate))) ]);
    };
  }

  module _ (mid : List ℕ) (is_mid : mid ≡ written (gate + 1) bytes old.seen) where
    inside_fits : gate + 1 + length bytes ≤ length old.seen
    inside_fits = omega (arith, length-bytes, room, fits, within, behind_there, is_gate)

    length-mid : length mid ≡ length old.seen
    length-mid = ap (λ (l : List ℕ). length l) is_mid ∙ put.length-written (gate + 1) bytes old.seen inside_fits

    mid_before : (i : ℕ) → i < gate + 1 → get_or mid i 0 ≡ get_or old.seen i 0
    mid_before i lt = ap (λ (l : List ℕ). get_or l i 0) is_mid ∙ put.before (gate + 1) bytes old.seen inside_fits i lt

    mid_inside : (i j : ℕ) → i ≡ gate + 1 + j → j < length bytes → get_or mid i 0 ≡ get_or bytes j 0
    mid_inside i j is lt = ap (λ (l : List ℕ). get_or l i 0) is_mid ∙ put.inside (gate + 1) bytes old.seen inside_fits i (omega arith) (omega arith) ∙ ap (λ (k : ℕ). get_or bytes k 0) (omega arith)

    mid_behind : (i : ℕ) → gate + 1 + length bytes ≤ i → get_or mid i 0 ≡ get_or old.seen i 0
    mid_behind i ge = ap (λ (l : List ℕ). get_or l i 0) is_mid ∙ put.behind (gate + 1) bytes old.seen inside_fits i ge

    -- the gate is open, and the rest as it was staged
    one_more : (image : List ℕ) → ((i : ℕ) → (i ≡ gate → ⊥) → get_or image i 0 ≡ get_or mid i 0) → get_or image gate 0 ≡ OPEN_GATE → Stands log.place log.size (bodies ++ body ∷ []) image
    one_more image same is_open = record {
      within = omega (arith, length-records-push bodies body, room, behind_there);
      each = λ i lt. elim (cases_lt i (length (records_of bodies))) [
        | inl low ↦
            same (log.place + 16 + i) (λ is. absurd (omega (arith, is, low, is_gate, behind_there))) ∙ mid_before (log.place + 16 + i) (omega (arith, low, is_gate, behind_there)) ∙ there.each i low
            ∙ sym (at_records i ∙ get_or_append_left (records_of bodies) (record_of body) 0 i low)
        | inr high ↦ elim (cases_eq i (length (records_of bodies))) [
          | inl is ↦ ap (λ (k : ℕ). get_or image k 0) (omega (arith, is_gate, behind_there, is)) ∙ is_open ∙ sym (at_records i ∙ get_or_at (records_of bodies) OPEN_GATE (sized body) 0 i (sym is))
          | inr not ↦ in_frame i (i - length (records_of bodies) - 1) (omega arith) (omega (arith, lt, length-records-push bodies body))
        ]
      ];
      closed = λ is. absurd (omega (arith, sym is ∙ behind));
      short = AreBodies-push bodies body there.short short;
    }
      where
        at_records : (i : ℕ) → get_or (records_of (bodies ++ body ∷ [])) i 0 ≡ get_or (records_of bodies ++ record_of body) i 0
        at_records i = ap (λ (l : List ℕ). get_or l i 0) (records-push bodies body)

        in_frame : (i j : ℕ) → i ≡ length (records_of bodies) + 1 + j → j < length body + 4 → get_or image (log.place + 16 + i) 0 ≡ get_or (records_of (bodies ++ body ∷ [])) i 0
        in_frame i j is lt =
            let past : i - length (records_of bodies) ≡ suc j = omega arith in
            same (log.place + 16 + i) (λ e. absurd (omega (arith, e, is, is_gate, behind_there)))
            ∙ mid_inside (log.place + 16 + i) j (omega (arith, is, is_gate, behind_there)) (omega (arith, lt, length-bytes))
            ∙ byte_at j ∙ get_or_append_left (sized body) (0 ∷ []) 0 j (omega (arith, lt, length-sized body))
            ∙ sym (at_records i ∙ get_or-append_right (records_of bodies) (record_of body) (length (records_of bodies)) i 0 refl (omega arith) ∙ ap (λ (k : ℕ). get_or (record_of body) k 0) past)

        behind : get_or image (log.place + gate_behind (bodies ++ body ∷ [])) 0 ≡ 0
        behind =
            same (log.place + gate_behind (bodies ++ body ∷ [])) (λ e. absurd (omega (arith, e, is_gate, behind_there, length-records-push bodies body)))
            ∙ mid_inside (log.place + gate_behind (bodies ++ body ∷ [])) (length body + 4) (omega (arith, is_gate, behind_there, length-records-push bodies body)) (omega (arith, length-bytes))
            ∙ byte_at (length body + 4) ∙ get_or_at (sized body) 0 [] 0 (length body + 4) (length-sized body)

    module _ (image : List ℕ) (same : SameOutside (InRange gate 1) mid image) where
      others : (i : ℕ) → (i ≡ gate → ⊥) → get_or image i 0 ≡ get_or mid i 0
      others i not = same.kept i (λ r. not (omega (arith, r.0, r.1)))

      with : get_or image gate 0 ≡ OPEN_GATE → Lists log.place log.size (bodies ++ body ∷ []) image
      with is_open = lists log.place log.size image (omega (arith, fits, same.size, length-mid)) (bodies ++ body ∷ []) (one_more image others is_open)

      without : (get_or image gate 0 ≡ OPEN_GATE → ⊥) → Lists log.place log.size bodies image
      without shut = listed image (same.size ∙ length-mid) (record {
        within = within;
        each = λ i lt. others (log.place + 16 + i) (λ e. absurd (omega (arith, e, lt, is_gate, behind_there))) ∙ mid_before (log.place + 16 + i) (omega (arith, lt, is_gate, behind_there)) ∙ there.each i lt;
        closed = λ is. shut (ap (λ (k : ℕ). get_or image k 0) (omega (arith, is_gate, behind_there)) ∙ is);
        short = there.short;
      })

      -- while the gate is written
      at_gate : Appending log bodies body old image
      at_gate = record {
        lists = elim (cases_eq (get_or image gate 0) OPEN_GATE) [ inl is_open ↦ inr (with is_open) | inr shut ↦ inl (without shut) ];
        same = record {
          size = same.size ∙ length-mid;
          kept = λ i out. others i (λ e. out (inr (omega (arith, e, is_gate), omega (arith, e, is_gate)))) ∙ elim (cases_lt i (gate + 1)) [
            | inl lt ↦ mid_before i lt
            | inr ge ↦ elim (cases_lt i (gate + 1 + length bytes)) [
              | inl lt ↦ absurd (out (inr (omega (arith, ge, is_gate), omega (arith, lt, is_gate, length-bytes))))
              | inr past ↦ mid_behind i past
            ]
          ];
        };
      }

  -- a run that writes the body behind the gate
  pub staged : (remembers : Type 0) (start next : Clock) → LeavesOnly remembers start next (SameOutside (LooseOrIn old (gate + 1) (length bytes)) old.seen) → LeavesOnly remembers start next (Appending log bodies body old)
  staged remembers start next run = weaker remembers start next _ _ behind_gate run

  -- and then opens the gate
  pub opened : (remembers : Type 0) (start next last : Clock) (mid : State) → IsDurable mid → mid.seen ≡ written (gate + 1) bytes old.seen → LeavesOnly remembers start next (SameOutside (LooseOrIn old (gate + 1) (length bytes)) old.seen)
      → LeavesOnly remembers next last (SameOutside (LooseOrIn mid gate 1) mid.seen) → LeavesOnly remembers start last (Appending log bodies body old)
  opened remembers start next last mid durable is_mid first second =
      joined remembers start next last _ (staged remembers start next first) (weaker remembers next last _ _ (λ image same. at_gate mid.seen is_mid image (outside_alone mid gate 1 mid.seen image durable same)) second)

  -- at the end the log holds the body too
  pub holds_more : (mid new : State) → mid.seen ≡ written (gate + 1) bytes old.seen → new.seen ≡ written gate (OPEN_GATE ∷ []) mid.seen → IsDurable new → HoldsBodies (after_append log body true) (bodies ++ body ∷ []) new
  holds_more mid new is_mid is_new durable =
      let fits_mid : gate + 1 ≤ length mid.seen = omega (arith, inside_fits mid.seen is_mid, length-mid mid.seen is_mid) in
      let none : gate - gate ≡ 0 = omega arith in
      let same : SameOutside (InRange gate 1) mid.seen new.seen = subst (λ (l : List ℕ). SameOutside (InRange gate 1) mid.seen l) (sym is_new) (put.same_outside gate (OPEN_GATE ∷ []) mid.seen fits_mid) in
      let is_open : get_or new.seen gate 0 ≡ OPEN_GATE =
      ap (λ (l : List ℕ). get_or l gate 0) is_new ∙ put.inside gate (OPEN_GATE ∷ []) mid.seen fits_mid gate (omega arith) (omega arith) ∙ ap (λ (k : ℕ). get_or (OPEN_GATE ∷ []) k 0) none in
      record {
        lists = with mid.seen is_mid new.seen same is_open;
        gate = omega (arith, behind_there, length-records-push bodies body);
        durable = λ i low high. durable i;
      }
