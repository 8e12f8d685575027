-- How the loose bytes are taken, from the newest step back.
use Rattle.std.proofs.Common.{◌≡◌, ◌∙◌, ◌⊎◌, ⊎_elim, inl, inr, ℕ, ◌+◌, ◌-◌, ◌≤◌, List, ◌∷◌, length, get_or, take, drop, replicate, sym, subst, ap, arith, length-drop}
use Rattle.std.specs.List.{AllByRecursion}
use Rattle.std.proofs.lemmas.Bool.{cases_lt}
use Rattle.std.proofs.lemmas.List.{get_or-take, get_or-drop, length-take-le, length-replicate, take-replicate, drop-replicate}
use Rattle.disk_model.specs.Disk.{InRange, written}
use Rattle.disk_model.proofs.Written.{length-written, inside, same_outside}
use Rattle.disk_mem.specs.History.{FitsIn, IsLoose, TakenFrom}
use Rattle.disk_mem.specs.declared.recording.Event.{Event}

-- each byte that is loose after all the steps is taken, or loose after those that are left; the others are as they were
pub record Taking (left : List ℕ) (all rest : List Event) (old new : List ℕ) : Type 0 where
  pub size : length new ≡ length old
  pub within : AllByRecursion (FitsIn (length old)) rest
  pub among : (i : ℕ) → IsLoose rest i → IsLoose all i
  pub kept : (i : ℕ) → (IsLoose all i → ⊥) → get_or new i 0 ≡ get_or old i 0
  pub taken : (i : ℕ) → IsLoose all i → (get_or new i 0 ≡ get_or left i 0) ⊎ IsLoose rest i

in_or_out : (from count place : ℕ) → InRange from count place ⊎ (InRange from count place → ⊥)
in_or_out from count place = elim (cases_lt place from) [
  | inl lt ↦ inr (λ within. omega (arith, within.0))
  | inr ge ↦ elim (cases_lt place (from + count)) [ inl lt ↦ inl (ge, lt) | inr past ↦ inr (λ within. omega (arith, within.1)) ]
]

module _ (place count : ℕ) (left mid : List ℕ) (same_size : length left ≡ length mid) (fits : place + count ≤ length mid) where
  abbrev piece : List ℕ
  piece = take count (drop place left)

  length_piece : length piece ≡ count
  length_piece = length-take-le count (drop place left) (omega (arith, length-drop place left))

  in_piece : place + length piece ≤ length mid
  in_piece = omega (arith, length_piece)

  from_left : (i : ℕ) → InRange place count i → get_or (written place piece mid) i 0 ≡ get_or left i 0
  from_left i within =
      inside place piece mid in_piece i within.0 (omega (arith, within.1, length_piece))
      ∙ get_or-take count (drop place left) (i - place) 0 (omega (arith, within.0, within.1))
      ∙ get_or-drop place left (i - place) 0
      ∙ ap (λ (k : ℕ). get_or left k 0) (omega (arith, within.0))

  as_before : (i : ℕ) → (InRange place count i → ⊥) → get_or (written place piece mid) i 0 ≡ get_or mid i 0
  as_before i out = (same_outside place piece mid in_piece).kept i (λ within. out (within.0, omega (arith, within.1, length_piece)))

-- the range of the newest of the steps that are left was taken
pub takes_on : (left : List ℕ) (all rest later : List Event) (step : Event) (place count : ℕ) (old mid : List ℕ)
    → rest ≡ step ∷ later
    → length left ≡ length old
    → place + count ≤ length old
    → AllByRecursion (FitsIn (length old)) later
    → ((i : ℕ) → IsLoose (step ∷ later) i → IsLoose later i ⊎ InRange place count i)
    → ((i : ℕ) → IsLoose later i ⊎ InRange place count i → IsLoose (step ∷ later) i)
    → Taking left all rest old mid
    → Taking left all later old (written place (take count (drop place left)) mid)
takes_on left all rest later step place count old mid split same_size fits within apart joined run = record {
  size = length-written place (piece place count left mid same fit) mid (in_piece place count left mid same fit) ∙ run.size;
  within = within;
  among = λ i loose. run.among i (is_left i (inl loose));
  kept = λ i out. as_before place count left mid same fit i (λ there. out (run.among i (is_left i (inr there)))) ∙ run.kept i out;
  taken = λ i loose. ⊎_elim
      (λ there. inl (from_left place count left mid same fit i there))
      (λ out. ⊎_elim
      (λ is. inl (as_before place count left mid same fit i out ∙ is))
      (λ still. ⊎_elim (λ had. inr had) (λ there. absurd (out there)) (apart i (subst (λ (steps : List Event). IsLoose steps i) split still)))
      (run.taken i loose))
      (in_or_out place count i);
}
  where
    same : length left ≡ length mid
    same = omega (arith, same_size, run.size)

    fit : place + count ≤ length mid
    fit = omega (arith, fits, run.size)

    is_left : (i : ℕ) → IsLoose later i ⊎ InRange place count i → IsLoose rest i
    is_left i loose = subst (λ (steps : List Event). IsLoose steps i) (sym split) (joined i loose)

filled_piece : (fill place count size : ℕ) → place + count ≤ size → take count (drop place (replicate size fill)) ≡ replicate count fill
filled_piece fill place count size fits = ap (take count) (drop-replicate place size fill) ∙ take-replicate count (size - place) fill (omega (arith, fits))

-- the same where each byte that is taken is `fill`
pub fills_on : (fill : ℕ) (all rest later : List Event) (step : Event) (place count : ℕ) (old mid : List ℕ)
    → rest ≡ step ∷ later
    → place + count ≤ length old
    → AllByRecursion (FitsIn (length old)) later
    → ((i : ℕ) → IsLoose (step ∷ later) i → IsLoose later i ⊎ InRange place count i)
    → ((i : ℕ) → IsLoose later i ⊎ InRange place count i → IsLoose (step ∷ later) i)
    → Taking (replicate (length old) fill) all rest old mid
    → Taking (replicate (length old) fill) all later old (written place (replicate count fill) mid)
fills_on fill all rest later step place count old mid split fits within apart joined run =
    let filled = replicate (length old) fill in
    subst (λ (bytes : List ℕ). Taking filled all later old (written place bytes mid)) (filled_piece fill place count (length old) fits)
    (takes_on filled all rest later step place count old mid split (length-replicate (length old) fill) fits within apart joined run)

-- no step is left after which a byte is loose
pub all_taken : (left : List ℕ) (all rest : List Event) (old new : List ℕ) → ((i : ℕ) → IsLoose rest i → ⊥) → Taking left all rest old new → TakenFrom left (record { seen = old; is_loose = IsLoose all }) new
all_taken left all rest old new none run = record {
  is_image = record { size = run.size; kept = run.kept };
  taken = λ i loose. ⊎_elim (λ is. is) (λ still. absurd (none i still)) (run.taken i loose);
}
