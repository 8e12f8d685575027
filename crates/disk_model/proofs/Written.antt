-- What a write leaves of each byte.
use Rattle.std.proofs.Common.{◌≡◌, ℕ, ◌+◌, ◌-◌, ◌≤◌, ◌<◌, List, ◌++◌, length, get_or, take, drop, refl, ◌∙◌, ap, arith, inl, inr, length-append, length-drop}
use Rattle.std.proofs.lemmas.List.{length-take-le, get_or_append_left, get_or-append_right, get_or-take, get_or-drop}
use Rattle.std.proofs.lemmas.Bool.{cases_lt}
use Rattle.disk_model.specs.Disk.{InRange, written, SameOutside}

module _ (at : ℕ) (bytes old : List ℕ) (fits : at + length bytes ≤ length old) where
  length_front : length (take at old) ≡ at
  length_front = length-take-le at old (omega arith)

  pub length-written : length (written at bytes old) ≡ length old
  length-written = omega (arith, length_front, fits, length-append (take at old) (bytes ++ drop (at + length bytes) old), length-append bytes (drop (at + length bytes) old), length-drop (at + length bytes) old)

  -- before the range
  pub before : (i : ℕ) → i < at → get_or (written at bytes old) i 0 ≡ get_or old i 0
  before i lt = get_or_append_left (take at old) (bytes ++ drop (at + length bytes) old) 0 i (omega (arith, length_front)) ∙ get_or-take at old i 0 lt

  -- in it
  pub inside : (i : ℕ) → at ≤ i → i < at + length bytes → get_or (written at bytes old) i 0 ≡ get_or bytes (i - at) 0
  inside i ge lt = get_or-append_right (take at old) (bytes ++ drop (at + length bytes) old) at i 0 length_front ge ∙ get_or_append_left bytes (drop (at + length bytes) old) 0 (i - at) (omega arith)

  -- behind it
  pub behind : (i : ℕ) → at + length bytes ≤ i → get_or (written at bytes old) i 0 ≡ get_or old i 0
  behind i ge =
      get_or-append_right (take at old) (bytes ++ drop (at + length bytes) old) at i 0 length_front (omega arith)
      ∙ get_or-append_right bytes (drop (at + length bytes) old) (length bytes) (i - at) 0 refl (omega arith)
      ∙ get_or-drop (at + length bytes) old (i - at - length bytes) 0
      ∙ ap (λ (k : ℕ). get_or old k 0) (omega arith)

  pub same_outside : SameOutside (InRange at (length bytes)) old (written at bytes old)
  same_outside = record {
    size = length-written;
    kept = λ i out. elim (cases_lt i at) [
      | inl lt ↦ before i lt
      | inr ge ↦ elim (cases_lt i (at + length bytes)) [ inl lt ↦ absurd (out (ge, lt)) | inr past ↦ behind i past ]
    ];
  }
