-- What the device of a log lists, and what it lists in each image of a write.
use Rattle.std.proofs.Common.{◌≡◌, inl, inr, ◌∙◌, ◌+◌, ◌-◌, ◌*◌, ◌≤◌, ◌<◌, ℕ, List, [], ◌∷◌, ◌++◌, length, get_or, true, false, Option, Some, None, is_some, refl, sym, ap, subst, arith}
use Rattle.std.proofs.lemmas.Bool.{cases_eq, false≢true}
use Rattle.disk_model.specs.Disk.{State, InRange, IsDurable, IsImage, SameOutside}
use Rattle.disk_model.proofs.Images.{image-durable}
use Rattle.retro_base.specs.declared.device.Device.{Device}
use Rattle.retro_base.specs.Framing.{next_generation}
use Rattle.retro_base.specs.declared.limits.TheConstants.{OPEN_GATE}
use Rattle.gate_log.specs.Appending.{after_append, Appending}
use Rattle.gate_log.specs.Cause.{HasRoom, IsAppendRefusal, IsDiskFault}
use Rattle.retro_base.specs.declared.refusal.Refusal.{Refusal}
use Rattle.retro_base.specs.declared.refusal.Refusal.TheVariants.{DiskFault}
use Rattle.gate_log.specs.Log as log
use Rattle.gate_log.specs.Region.{generation_at, gate_behind, IsOpen, Lists}
use Rattle.gate_log.proofs.Ranges.{outside_alone}
use Rattle.gate_log.proofs.Regions.{header-fits, lists-same}
use Rattle.area_log.specs.Area.{appended, Area, Holds, ListsEither, other_place, replaced}
use Rattle.area_log.specs.Regions.{IsHalf, other_half, DeviceLists}
use Rattle.area_log.specs.Rewrite.{Rewriting, Rewritten}
use Rattle.area_log.proofs.Headers.{SameHeader, same_header}

-- a log that goes on has no fault
pub no_fault : (fault : Option ℕ) (count : ℕ) → fault ≡ None → fault ≡ Some count → ⊥
no_fault fault count none some = let x : false ≡ true = ap (λ (o : Option ℕ). is_some o) (sym none ∙ some) in false≢true x

-- an append for which there is no room is refused without a fault
pub full_alone : (log : log.Region) (count before now : ℕ) (e : Refusal) → IsAppendRefusal log count before now e → log.size - log.gate < count + 6 → IsDiskFault e → ⊥
full_alone log count before now (DiskFault which fault) is full told = absurd (omega (arith, is.0, full))
full_alone log count before now _ is full told = absurd told

-- the other half of the other half
pub other_other : (size place : ℕ) → IsHalf size place → other_half size (other_half size place) ≡ place
other_other size place half = elim half [ inl first ↦ omega arith | inr second ↦ omega arith ]

pub other_is_half : (size place : ℕ) → IsHalf size place → IsHalf size (other_half size place)
other_is_half size place half = elim half [ inl first ↦ inr (omega arith) | inr second ↦ inl (omega arith) ]

-- the device lists what the log holds
pub holds_lists : (area : Area) (bodies : List (List ℕ)) (state : State) → Holds area bodies state → DeviceLists area.log.size bodies state.seen
holds_lists area bodies state holds = record {
  place = area.log.place;
  counts = record { half = holds.half; is_open = holds.is_open; newer = λ is. holds.generation ∙ holds.newer is };
  lists = holds.lists;
}

-- and so does each image
pub at_rest : (area : Area) (bodies : List (List ℕ)) (state : State) → Holds area bodies state → (image : List ℕ) → IsImage state image → DeviceLists area.log.size bodies image
at_rest area bodies state holds image is = subst (λ (l : List ℕ). DeviceLists area.log.size bodies l) (sym (image-durable state image holds.durable is)) (holds_lists area bodies state holds)

-- of as many bytes
pub whole_at_rest : (area : Area) (bodies : List (List ℕ)) (state : State) → Holds area bodies state → (image : List ℕ) → IsImage state image → length image ≡ 2 * area.log.size
whole_at_rest area bodies state holds image is = is.size ∙ holds.whole

-- so each image lists what was there before a write
pub either_at_rest : (area : Area) (bodies new : List (List ℕ)) (state : State) → Holds area bodies state → (image : List ℕ) → IsImage state image → ListsEither area.log.size bodies new image
either_at_rest area bodies new state holds image is = record { whole = whole_at_rest area bodies state holds image is; lists = inl (at_rest area bodies state holds image is) }

-- as a log of the half that counts it holds the same
pub holds_log : (area : Area) (bodies : List (List ℕ)) (state : State) → Holds area bodies state → log.HoldsBodies area.log bodies state
holds_log area bodies state holds = record { lists = holds.lists; gate = holds.gate; durable = λ i low high. holds.durable i }

module _ (area : Area) (bodies : List (List ℕ)) (state : State) (holds : Holds area bodies state) where
  abbrev place : ℕ
  place = area.log.place

  abbrev size : ℕ
  size = area.log.size

  abbrev other : ℕ
  other = other_place area

  inside : place + size ≤ length state.seen
  inside = elim holds.half [ inl first ↦ omega (arith, holds.whole, first) | inr second ↦ omega (arith, holds.whole, second) ]

  other_inside : other + size ≤ length state.seen
  other_inside = elim holds.half [ inl first ↦ omega (arith, holds.whole, first) | inr second ↦ omega (arith, holds.whole, second) ]

  header : 16 < size
  header = header-fits place size bodies state.seen inside holds.lists

  -- no place lies in both halves
  apart : (i : ℕ) → place ≤ i → i < place + size → other ≤ i → i < other + size → ⊥
  apart i low high from to = elim holds.half [ inl first ↦ absurd (omega (arith, first, low, high, from, to)) | inr second ↦ absurd (omega (arith, second, low, high, from, to)) ]

  -- with both headers as they were the same half counts
  still : (image : List ℕ) (some : List (List ℕ)) → SameHeader place state.seen image → SameHeader other state.seen image → Lists place size some image → DeviceLists size some image
  still image some this that lists = record {
    place = place;
    counts = record {
      half = holds.half;
      is_open = this.gate ∙ holds.is_open;
      newer = λ is. this.generation ∙ holds.generation ∙ holds.newer (sym that.gate ∙ is) ∙ ap next_generation (sym that.generation);
    };
    lists = lists;
  }

  -- An append changes neither header.
  module _ (body : List ℕ) (room : HasRoom area.log (length body)) (image : List ℕ) (same : SameOutside (InRange (place + area.log.gate) (length body + 6)) state.seen image) where
    outside_record : (i : ℕ) → (place ≤ i → i < place + size → i < place + 16) → get_or image i 0 ≡ get_or state.seen i 0
    outside_record i before = same.kept i (λ r. absurd (omega (arith, before (omega (arith, r.0)) (omega (arith, r.1, room)), r.0, holds.gate)))

    pub this_header : SameHeader place state.seen image
    this_header = same_header place state.seen image (omega (arith, inside, header)) same.size (λ i low high. outside_record i (λ from to. high))

    pub other_header : SameHeader other state.seen image
    other_header = same_header other state.seen image (omega (arith, other_inside, header)) same.size (λ i low high. outside_record i (λ from to. absurd (apart i from to low (omega (arith, high, header)))))

  pub appending : (body : List ℕ) → HasRoom area.log (length body) → (image : List ℕ) → Appending area.log bodies body state image → ListsEither size bodies (bodies ++ body ∷ []) image
  appending body room image is =
      let same = outside_alone state (place + area.log.gate) (length body + 6) state.seen image holds.durable is.same in
      record {
        whole = same.size ∙ holds.whole;
        lists = elim is.lists [
          | inl without ↦ inl (still image bodies (this_header body room image same) (other_header body room image same) without)
          | inr with ↦ inr (still image (bodies ++ body ∷ []) (this_header body room image same) (other_header body room image same) with)
        ];
      }

  pub holds_appended : (body : List ℕ) → HasRoom area.log (length body) → (new : State) → Appending area.log bodies body state new.seen → log.HoldsBodies (after_append area.log body true) (bodies ++ body ∷ []) new → IsDurable new
      → Holds (appended area body) (bodies ++ body ∷ []) new
  holds_appended body room new is more durable =
      let same = outside_alone state (place + area.log.gate) (length body + 6) state.seen new.seen holds.durable is.same in
      let this = this_header body room new.seen same in
      let that = other_header body room new.seen same in
      record {
        whole = same.size ∙ holds.whole;
        half = holds.half;
        lists = more.lists;
        gate = more.gate;
        is_open = this.gate ∙ holds.is_open;
        generation = this.generation ∙ holds.generation;
        other = (λ opens. that.gate ∙ holds.other.0 opens, λ is. holds.other.1 (sym that.gate ∙ is));
        newer = λ is. holds.newer (sym that.gate ∙ is) ∙ ap next_generation (sym that.generation);
        durable = durable;
      }

  -- A rewrite changes the other half alone.
  module _ (image : List ℕ) (same : SameOutside (InRange other size) state.seen image) where
    here : (i : ℕ) → place ≤ i → i < place + size → get_or image i 0 ≡ get_or state.seen i 0
    here i low high = same.kept i (λ r. absurd (apart i low high r.0 r.1))

    pub kept_header : SameHeader place state.seen image
    kept_header = same_header place state.seen image (omega (arith, inside, header)) same.size (λ i low high. here i low (omega (arith, high, header)))

    kept_lists : Lists place size bodies image
    kept_lists = lists-same place size bodies state.seen image inside same.size holds.lists (λ i low high. here i (omega arith) high)

    -- the list is the old one
    old_lists : (IsOpen other image → area.generation ≡ next_generation (generation_at other image)) → DeviceLists size bodies image
    old_lists newer = record {
      place = place;
      counts = record { half = holds.half; is_open = kept_header.gate ∙ holds.is_open; newer = λ is. kept_header.generation ∙ holds.generation ∙ newer is };
      lists = kept_lists;
    }

    -- the list is the new one
    new_lists : (new : List (List ℕ)) → IsOpen other image → Lists other size new image → generation_at other image ≡ next_generation area.generation → DeviceLists size new image
    new_lists new is_open lists under = record {
      place = other;
      counts = record {
        half = other_is_half size place holds.half;
        is_open = is_open;
        newer = λ _. under ∙ ap next_generation (sym (ap (λ (p : ℕ). generation_at p image) (other_other size place holds.half) ∙ kept_header.generation ∙ holds.generation));
      };
      lists = lists;
    }

  pub rewriting : (new : List (List ℕ)) (image : List ℕ) → Rewriting other size (next_generation area.generation) new state.seen image → ListsEither size bodies new image
  rewriting new image is = record {
    whole = is.same.size ∙ holds.whole;
    lists = elim (cases_eq (get_or image other 0) OPEN_GATE) [
      | inr shut ↦ inl (old_lists image is.same (λ opens. absurd (shut opens)))
      | inl opens ↦ elim (is.whole opens) [
        | inl was ↦ inl (old_lists image is.same (λ _. holds.newer was.0 ∙ ap next_generation (sym was.1)))
        | inr filled ↦ inr (new_lists image is.same new opens filled.lists filled.under)
      ]
    ];
  }

  pub holds_replaced : (new : List (List ℕ)) (next : State) → Rewritten other size (next_generation area.generation) new state next → Holds (replaced area new) new next
  holds_replaced new next is =
      let kept = kept_header next.seen is.same in
      let back = other_other size place holds.half in
      let was_open : IsOpen (other_half size other) next.seen = ap (λ (p : ℕ). get_or next.seen p 0) back ∙ kept.gate ∙ holds.is_open in
      record {
        whole = is.same.size ∙ holds.whole;
        half = other_is_half size place holds.half;
        lists = is.filled.lists;
        gate = refl;
        is_open = is.is_open;
        generation = is.filled.under;
        other = (λ _. was_open, λ _. refl);
        newer = λ _. ap next_generation (sym (ap (λ (p : ℕ). generation_at p next.seen) back ∙ kept.generation ∙ holds.generation));
        durable = is.durable;
      }

-- the log that a rewrite leaves, field by field
pub replaced_is : (area : Area) (bodies : List (List ℕ)) (written : log.Region) (generation : ℕ) → written.device ≡ area.log.device → written.place ≡ other_place area → written.size ≡ area.log.size → written.gate ≡ gate_behind bodies
    → generation ≡ next_generation area.generation → area.fault ≡ None → replaced area bodies ≡ record { log = written; generation = generation; is_other_open = true; fault = None }
replaced_is area bodies written generation device place size gate number none =
    ap (λ (d : Device). record { log = record { device = d; place = other_place area; size = area.log.size; gate = gate_behind bodies }; generation = next_generation area.generation; is_other_open = true; fault = area.fault }) (sym device)
    ∙ ap (λ (p : ℕ). record { log = record { device = written.device; place = p; size = area.log.size; gate = gate_behind bodies }; generation = next_generation area.generation; is_other_open = true; fault = area.fault }) (sym place)
    ∙ ap (λ (s : ℕ). record { log = record { device = written.device; place = written.place; size = s; gate = gate_behind bodies }; generation = next_generation area.generation; is_other_open = true; fault = area.fault }) (sym size)
    ∙ ap (λ (g : ℕ). record { log = record { device = written.device; place = written.place; size = written.size; gate = g }; generation = next_generation area.generation; is_other_open = true; fault = area.fault }) (sym gate)
    ∙ ap (λ (n : ℕ). record { log = written; generation = n; is_other_open = true; fault = area.fault }) (sym number)
    ∙ ap (λ (f : Option ℕ). record { log = written; generation = generation; is_other_open = true; fault = f }) none

-- the same of a rewrite whose numbers are only known to be equal to the log's
pub rewriting_of : (area : Area) (bodies : List (List ℕ)) (state : State) → Holds area bodies state → (new : List (List ℕ)) (other size generation : ℕ) → other ≡ other_place area → size ≡ area.log.size → generation ≡ next_generation area.generation
    → (image : List ℕ) → Rewriting other size generation new state.seen image → ListsEither area.log.size bodies new image
rewriting_of area bodies state holds new other size generation is_other is_size is_next image step =
    rewriting area bodies state holds new image
    (subst (λ (o : ℕ). Rewriting o area.log.size (next_generation area.generation) new state.seen image) is_other
    (subst (λ (s : ℕ). Rewriting other s (next_generation area.generation) new state.seen image) is_size (subst (λ (n : ℕ). Rewriting other size n new state.seen image) is_next step)))

pub holds_replaced_of : (area : Area) (bodies : List (List ℕ)) (state : State) → Holds area bodies state → (new : List (List ℕ)) (other size generation : ℕ) → other ≡ other_place area → size ≡ area.log.size → generation ≡ next_generation area.generation
    → (next : State) → Rewritten other size generation new state next → Holds (replaced area new) new next
holds_replaced_of area bodies state holds new other size generation is_other is_size is_next next step =
    holds_replaced area bodies state holds new next
    (subst (λ (o : ℕ). Rewritten o area.log.size (next_generation area.generation) new state next) is_other
    (subst (λ (s : ℕ). Rewritten other s (next_generation area.generation) new state next) is_size (subst (λ (n : ℕ). Rewritten other size n new state next) is_next step)))
