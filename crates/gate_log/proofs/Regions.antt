-- The bytes of a region that lists some bodies, place by place.
use Rattle.std.proofs.Common.{◌≡◌, ◌∙◌, ◌+◌, ◌-◌, ◌≤◌, ◌<◌, ℕ, suc, List, ◌∷◌, ◌++◌, length, get_or, take, drop, refl, sym, ap, arith, length-append, length-drop, drop-cons}
use Rattle.std.proofs.lemmas.List.{length-take-le, take-append-drop, get_or-take, get_or-drop, get_or_append_left, get_or_at}
use Rattle.std.proofs.lemmas.Grind.{same_number_lists}
use Rattle.retro_base.specs.Framing.{records_of, AreBodies}
use Rattle.retro_base.specs.declared.limits.TheConstants.{OPEN_GATE}
use Rattle.gate_log.specs.Region.{gate_behind, region_records, Lists}

-- the records stand behind the header, and a closed gate behind them
pub record Stands (place size : ℕ) (bodies : List (List ℕ)) (bytes : List ℕ) : Type 0 where
  pub within : gate_behind bodies < size
  pub each : (i : ℕ) → i < length (records_of bodies) → get_or bytes (place + 16 + i) 0 ≡ get_or (records_of bodies) i 0
  pub closed : get_or bytes (place + gate_behind bodies) 0 ≡ OPEN_GATE → ⊥
  pub short : AreBodies bodies

module _ (place size : ℕ) (bytes : List ℕ) (fits : place + size ≤ length bytes) where
  abbrev region : List ℕ
  region = region_records place size bytes

  length-region : length region ≡ size - 16
  length-region = omega (arith, length-drop 16 (take size (drop place bytes)), length-take-le size (drop place bytes) (omega (arith, length-drop place bytes)))

  region_at : (i : ℕ) → 16 + i < size → get_or bytes (place + 16 + i) 0 ≡ get_or region i 0
  region_at i lt =
      let e : place + (16 + i) ≡ place + 16 + i = omega arith in
      sym (get_or-drop 16 (take size (drop place bytes)) i 0 ∙ get_or-take size (drop place bytes) (16 + i) 0 lt ∙ get_or-drop place bytes (16 + i) 0 ∙ ap (λ (k : ℕ). get_or bytes k 0) e)

  module _ (bodies : List (List ℕ)) where
    gate_at : gate_behind bodies < size → get_or bytes (place + gate_behind bodies) 0 ≡ get_or region (length (records_of bodies)) 0
    gate_at lt =
        let e : place + gate_behind bodies ≡ place + 16 + length (records_of bodies) = omega arith in
        ap (λ (k : ℕ). get_or bytes k 0) e ∙ region_at (length (records_of bodies)) lt

    pub stands : Lists place size bodies bytes → Stands place size bodies bytes
    stands lists =
        let within : gate_behind bodies < size = omega (arith, length-region, ap (λ (l : List ℕ). length l) lists.split, length-append (records_of bodies) (lists.gate ∷ lists.rest)) in
        record {
          within = within;
          each = λ i lt. region_at i (omega (arith, within)) ∙ ap (λ (l : List ℕ). get_or l i 0) lists.split ∙ get_or_append_left (records_of bodies) (lists.gate ∷ lists.rest) 0 i lt;
          closed = λ is. lists.closed (sym (gate_at within ∙ ap (λ (l : List ℕ). get_or l (length (records_of bodies)) 0) lists.split ∙ get_or_at (records_of bodies) lists.gate lists.rest 0 (length (records_of bodies)) refl) ∙ is);
          short = lists.short;
        }

    pub lists : Stands place size bodies bytes → Lists place size bodies bytes
    lists there =
        let count = length (records_of bodies) in
        let inside : count < length region = omega (arith, length-region, there.within) in
        let records : take count region ≡ records_of bodies =
        same_number_lists (take count region) (records_of bodies) (length-take-le count region (omega arith)) (λ i lt.
        let below : i < count = omega (arith, lt, length-take-le count region (omega arith)) in
        get_or-take count region i 0 below ∙ sym (region_at i (omega (arith, there.within))) ∙ there.each i below) in
        record {
          gate = get_or region count 0;
          rest = drop (suc count) region;
          split = sym (take-append-drop count region) ∙ ap (λ (l : List ℕ). l ++ drop count region) records ∙ ap (λ (l : List ℕ). records_of bodies ++ l) (drop-cons region count 0 inside);
          closed = λ is. there.closed (gate_at there.within ∙ is);
          short = there.short;
        }

-- bytes that agree behind the header's gate up to the gate behind the records list the same
pub stands_same : (place size : ℕ) (bodies : List (List ℕ)) (old new : List ℕ) → Stands place size bodies old → ((i : ℕ) → place < i → i ≤ place + gate_behind bodies → get_or new i 0 ≡ get_or old i 0) → Stands place size bodies new
stands_same place size bodies old new there same = record {
  within = there.within;
  each = λ i lt. same (place + 16 + i) (omega arith) (omega arith) ∙ there.each i lt;
  closed = λ is. there.closed (sym (same (place + gate_behind bodies) (omega arith) (omega arith)) ∙ is);
  short = there.short;
}

pub lists-same : (place size : ℕ) (bodies : List (List ℕ)) (old new : List ℕ) → place + size ≤ length old → length new ≡ length old → Lists place size bodies old → ((i : ℕ) → place < i → i < place + size → get_or new i 0 ≡ get_or old i 0) → Lists place size bodies new
lists-same place size bodies old new fits long listed same =
    let there = stands place size old fits bodies listed in
    lists place size new (omega (arith, fits, long)) bodies (stands_same place size bodies old new there (λ i low high. same i low (omega (arith, high, there.within))))

-- a region that lists bodies has more bytes than its header
pub header-fits : (place size : ℕ) (bodies : List (List ℕ)) (bytes : List ℕ) → place + size ≤ length bytes → Lists place size bodies bytes → 16 < size
header-fits place size bodies bytes fits listed = let there = stands place size bytes fits bodies listed in omega (arith, there.within)
