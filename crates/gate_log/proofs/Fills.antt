-- What a filled region holds.
use Rattle.std.proofs.Common.{◌≡◌, ◌∙◌, ◌+◌, ◌-◌, ◌≤◌, ◌<◌, ◌^◌, ℕ, List, [], ◌∷◌, ◌++◌, length, get_or, replicate, refl, sym, ap, arith, append_assoc, length-append}
use Rattle.std.proofs.lemmas.List.{get_or-replicate, get_or_append_left, get_or-append_right, get_or_at}
use Rattle.disk_model.specs.Disk.{State, InRange, SameOutside, written}
use Rattle.disk_model.proofs.Written as put
use Rattle.retro_base.specs.Fields.{number_at, field_bytes}
use Rattle.retro_base.specs.Framing.{records_of}
use Rattle.retro_base.proofs.FieldLaws.{number_at-field, length-field_bytes}
use Rattle.gate_log.specs.Log.{region_tail, Fills, IsPrepared}
use Rattle.gate_log.specs.Calls.{IsPut}
use Rattle.gate_log.specs.Region.{gate_behind, generation_at}
use Rattle.retro_base.proofs.Numbers.{number_at-bytes}
use Rattle.gate_log.proofs.Regions.{Stands, lists}

length-header : (generation : ℕ) → length (replicate 7 0 ++ field_bytes 8 generation) ≡ 15
length-header generation = omega (arith, length-append (replicate 7 0) (field_bytes 8 generation), length-field_bytes 8 generation)

pub length-region_tail : (generation : ℕ) (bodies : List (List ℕ)) → length (region_tail generation bodies) ≡ gate_behind bodies
length-region_tail generation bodies =
    omega (arith, length-header generation, length-append (replicate 7 0 ++ field_bytes 8 generation) (records_of bodies ++ 0 ∷ []), length-append (records_of bodies) (0 ∷ []))

pub length-prepared : (bytes : List ℕ) (generation : ℕ) (bodies : List (List ℕ)) → IsPrepared bytes generation bodies → length bytes ≡ gate_behind bodies
length-prepared bytes generation bodies prepared = ap (λ (l : List ℕ). length l) prepared.tail ∙ length-region_tail generation bodies

-- the generation in the tail of a region
tail_generation : (generation : ℕ) (bodies : List (List ℕ)) → generation < 2 ^ 64 → number_at 8 (region_tail generation bodies) 7 ≡ generation
tail_generation generation bodies small =
    ap (λ (l : List ℕ). number_at 8 l 7) (append_assoc (replicate 7 0) (field_bytes 8 generation) (records_of bodies ++ 0 ∷ []))
    ∙ number_at-field 8 generation 7 (replicate 7 0) (records_of bodies ++ 0 ∷ []) refl (omega (arith, small))

module _ (place size generation : ℕ) (bodies : List (List ℕ)) (bytes old new : List ℕ)
    (prepared : IsPrepared bytes generation bodies) (is_new : new ≡ written (place + 1) bytes old) (fits : place + size ≤ length old) (room : length bytes + 1 ≤ size) where
  length-bytes : length bytes ≡ gate_behind bodies
  length-bytes = length-prepared bytes generation bodies prepared

  inside_fits : place + 1 + length bytes ≤ length old
  inside_fits = omega (arith, fits, room)

  length-new : length new ≡ length old
  length-new = ap (λ (l : List ℕ). length l) is_new ∙ put.length-written (place + 1) bytes old inside_fits

  new_at : (j : ℕ) → j < length bytes → get_or new (place + 1 + j) 0 ≡ get_or (region_tail generation bodies) j 0
  new_at j lt =
      let e : place + 1 + j - (place + 1) ≡ j = omega arith in
      ap (λ (l : List ℕ). get_or l (place + 1 + j) 0) is_new ∙ put.inside (place + 1) bytes old inside_fits (place + 1 + j) (omega arith) (omega (arith, lt))
      ∙ ap (λ (k : ℕ). get_or bytes k 0) e ∙ ap (λ (l : List ℕ). get_or l j 0) prepared.tail

  record_at : (i : ℕ) → i ≤ length (records_of bodies) → get_or new (place + 16 + i) 0 ≡ get_or (records_of bodies ++ 0 ∷ []) i 0
  record_at i le =
      let e : place + 16 + i ≡ place + 1 + (15 + i) = omega arith in
      let f : 15 + i - 15 ≡ i = omega arith in
      ap (λ (k : ℕ). get_or new k 0) e ∙ new_at (15 + i) (omega (arith, le, length-bytes))
      ∙ get_or-append_right (replicate 7 0 ++ field_bytes 8 generation) (records_of bodies ++ 0 ∷ []) 15 (15 + i) 0 (length-header generation) (omega arith)
      ∙ ap (λ (k : ℕ). get_or (records_of bodies ++ 0 ∷ []) k 0) f

  stands : Stands place size bodies new
  stands = record {
    within = omega (arith, room, length-bytes);
    each = λ i lt. record_at i (omega (arith, lt)) ∙ get_or_append_left (records_of bodies) (0 ∷ []) 0 i lt;
    closed = λ is.
        let e : place + gate_behind bodies ≡ place + 16 + length (records_of bodies) = omega arith in
        let shut : get_or new (place + gate_behind bodies) 0 ≡ 0 = ap (λ (k : ℕ). get_or new k 0) e ∙ record_at (length (records_of bodies)) (omega arith) ∙ get_or_at (records_of bodies) 0 [] 0 (length (records_of bodies)) refl in
        absurd (omega (arith, sym is ∙ shut));
    short = prepared.short;
  }

  blank : (i : ℕ) → place < i → i < place + 8 → get_or new i 0 ≡ 0
  blank i low high =
      let e : i ≡ place + 1 + (i - (place + 1)) = omega arith in
      ap (λ (k : ℕ). get_or new k 0) e ∙ new_at (i - (place + 1)) (omega (arith, high, length-bytes))
      ∙ get_or_append_left (replicate 7 0 ++ field_bytes 8 generation) (records_of bodies ++ 0 ∷ []) 0 (i - (place + 1)) (omega (arith, high, low, length-header generation))
      ∙ get_or_append_left (replicate 7 0) (field_bytes 8 generation) 0 (i - (place + 1)) (omega (arith, high, low))
      ∙ get_or-replicate {A = ℕ} 7 (i - (place + 1)) 0 0 (omega (arith, high, low))

  under : generation_at place new ≡ generation
  under =
      number_at-bytes 8 (place + 8) 7 new (region_tail generation bodies) (omega (arith, fits, length-new, room, length-bytes)) (omega (arith, length-region_tail generation bodies)) (λ i lt.
      let e : place + 8 + i ≡ place + 1 + (7 + i) = omega arith in
      ap (λ (k : ℕ). get_or new k 0) e ∙ new_at (7 + i) (omega (arith, lt, length-bytes)))
      ∙ tail_generation generation bodies prepared.small

  same_outside : SameOutside (InRange (place + 1) (size - 1)) old new
  same_outside = record {
    size = length-new;
    kept = λ i out. ap (λ (l : List ℕ). get_or l i 0) is_new ∙ (put.same_outside (place + 1) bytes old inside_fits).kept i (λ r. out (r.0, omega (arith, r.1, room)));
  }

-- a region that is filled from a state, and then has nothing loose
pub fills : (place size generation : ℕ) (bodies : List (List ℕ)) (bytes : List ℕ) (old new : State) → IsPrepared bytes generation bodies → IsPut (place + 1) bytes old new → place + size ≤ length old.seen → length bytes + 1 ≤ size → Fills place size generation bodies old new
fills place size generation bodies bytes old new prepared put fits room = record {
  lists = lists place size new.seen (omega (arith, fits, length-new place size generation bodies bytes old.seen new.seen prepared put.written fits room)) bodies (stands place size generation bodies bytes old.seen new.seen prepared put.written fits room);
  under = under place size generation bodies bytes old.seen new.seen prepared put.written fits room;
  blank = blank place size generation bodies bytes old.seen new.seen prepared put.written fits room;
  same = same_outside place size generation bodies bytes old.seen new.seen prepared put.written fits room;
  durable = put.durable;
}
