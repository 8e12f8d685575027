-- Bytes are read as records in one way.
use Rattle.std.proofs.Common.{◌≡◌, ◌∙◌, ◌<◌, ◌+◌, ◌^◌, ℕ, List, [], ◌∷◌, ◌++◌, length, take, drop, get_or, refl, sym, ap, arith, append_assoc, length-append}
use Rattle.std.proofs.lemmas.List.{take_at, drop_at}
use Rattle.retro_base.specs.Fields.{number_at, field_bytes}
use Rattle.retro_base.specs.Framing.{sized, records_of, AreBodies}
use Rattle.retro_base.specs.declared.limits.TheConstants.{OPEN_GATE}
use Rattle.retro_base.proofs.FieldLaws.{number_at-field, length-field_bytes}
use Rattle.gate_log.specs.Laws.{ReadOneWay}
use Rattle.gate_log.proofs.Framing.{length-sized}

-- the count of a body that stands first
count_first : (body rest : List ℕ) → length body < 2 ^ 32 → number_at 4 (sized body ++ rest) 0 ≡ length body
count_first body rest short =
    ap (λ (l : List ℕ). number_at 4 l 0) (append_assoc (field_bytes 4 (length body)) body rest)
    ∙ number_at-field 4 (length body) 0 [] (body ++ rest) refl (omega (arith, short))

record Same (one other xs ys : List ℕ) : Type 0 where
  body : one ≡ other
  rest : xs ≡ ys

same_first : (one other xs ys : List ℕ) → length one < 2 ^ 32 → length other < 2 ^ 32 → sized one ++ xs ≡ sized other ++ ys → Same one other xs ys
same_first one other xs ys short brief same =
    let counts : length one ≡ length other = sym (count_first one xs short) ∙ ap (λ (l : List ℕ). number_at 4 l 0) same ∙ count_first other ys brief in
    let long : length (sized one) ≡ length (sized other) = omega (arith, counts, length-sized one, length-sized other) in
    let fronts : sized one ≡ sized other =
    sym (take_at (sized one) xs (length (sized other)) long) ∙ ap (λ (l : List ℕ). take (length (sized other)) l) same ∙ take_at (sized other) ys (length (sized other)) refl in
    record {
      body = sym (drop_at (field_bytes 4 (length one)) one 4 (length-field_bytes 4 (length one))) ∙ ap (λ (l : List ℕ). drop 4 l) fronts ∙ drop_at (field_bytes 4 (length other)) other 4 (length-field_bytes 4 (length other));
      rest = sym (drop_at (sized one) xs (length (sized other)) long) ∙ ap (λ (l : List ℕ). drop (length (sized other)) l) same ∙ drop_at (sized other) ys (length (sized other)) refl;
    }

-- what stands behind the open gate of the first record
behind : (body : List ℕ) (bodies : List (List ℕ)) (rest bytes : List ℕ) → records_of (body ∷ bodies) ++ rest ≡ OPEN_GATE ∷ bytes → sized body ++ (records_of bodies ++ rest) ≡ bytes
behind body bodies rest bytes same = sym (append_assoc (sized body) (records_of bodies) rest) ∙ ap (λ (l : List ℕ). drop 1 l) same

-- a whole record does not break
whole : (body rest bytes : List ℕ) → sized body ++ rest ≡ bytes → length body < 2 ^ 32 → 0 < length rest → length bytes < number_at 4 bytes 0 + 5 → ⊥
whole body rest bytes same short some over =
    let count : number_at 4 bytes 0 ≡ length body = ap (λ (l : List ℕ). number_at 4 l 0) (sym same) ∙ count_first body rest short in
    absurd (omega (arith, count, over, ap (λ (l : List ℕ). length l) same, length-append (sized body) rest, length-sized body))

-- there is a gate behind the records
gate_there : (bodies : List (List ℕ)) (gate : ℕ) (rest : List ℕ) → 0 < length (records_of bodies ++ gate ∷ rest)
gate_there bodies gate rest = omega (arith, length-append (records_of bodies) (gate ∷ rest))

one_list : (bodies others : List (List ℕ)) (gate shut : ℕ) (xs ys : List ℕ) → AreBodies bodies → AreBodies others → (gate ≡ OPEN_GATE → ⊥) → (shut ≡ OPEN_GATE → ⊥) → records_of bodies ++ gate ∷ xs ≡ records_of others ++ shut ∷ ys → bodies ≡ others
one_list [] [] gate shut xs ys short brief closed too same = refl
one_list [] (other ∷ others) gate shut xs ys short brief closed too same = absurd (closed (ap (λ (l : List ℕ). get_or l 0 0) same))
one_list (body ∷ bodies) [] gate shut xs ys short brief closed too same = absurd (too (ap (λ (l : List ℕ). get_or l 0 0) (sym same)))
one_list (body ∷ bodies) (other ∷ others) gate shut xs ys short brief closed too same =
    let first = same_first body other (records_of bodies ++ gate ∷ xs) (records_of others ++ shut ∷ ys) short.0 brief.0 (behind body bodies (gate ∷ xs) _ same ∙ append_assoc (sized other) (records_of others) (shut ∷ ys)) in
    ap (λ (b : List ℕ). b ∷ bodies) first.body ∙ ap (λ (bs : List (List ℕ)). other ∷ bs) (one_list bodies others gate shut xs ys short.1 brief.1 closed too first.rest)

one_break : (bodies others : List (List ℕ)) (xs ys : List ℕ) → AreBodies bodies → AreBodies others → length xs < number_at 4 xs 0 + 5 → length ys < number_at 4 ys 0 + 5 → records_of bodies ++ OPEN_GATE ∷ xs ≡ records_of others ++ OPEN_GATE ∷ ys → bodies ≡ others
one_break [] [] xs ys short brief over too same = refl
one_break [] (other ∷ others) xs ys short brief over too same = absurd (whole other (records_of others ++ OPEN_GATE ∷ ys) xs (behind other others (OPEN_GATE ∷ ys) xs (sym same)) brief.0 (gate_there others OPEN_GATE ys) over)
one_break (body ∷ bodies) [] xs ys short brief over too same = absurd (whole body (records_of bodies ++ OPEN_GATE ∷ xs) ys (behind body bodies (OPEN_GATE ∷ xs) ys same) short.0 (gate_there bodies OPEN_GATE xs) too)
one_break (body ∷ bodies) (other ∷ others) xs ys short brief over too same =
    let first = same_first body other (records_of bodies ++ OPEN_GATE ∷ xs) (records_of others ++ OPEN_GATE ∷ ys) short.0 brief.0 (behind body bodies (OPEN_GATE ∷ xs) _ same ∙ append_assoc (sized other) (records_of others) (OPEN_GATE ∷ ys)) in
    ap (λ (b : List ℕ). b ∷ bodies) first.body ∙ ap (λ (bs : List (List ℕ)). other ∷ bs) (one_break bodies others xs ys short.1 brief.1 over too first.rest)

not_both : (bodies others : List (List ℕ)) (gate : ℕ) (xs ys : List ℕ) → AreBodies bodies → AreBodies others → (gate ≡ OPEN_GATE → ⊥) → length ys < number_at 4 ys 0 + 5 → records_of bodies ++ gate ∷ xs ≡ records_of others ++ OPEN_GATE ∷ ys → ⊥
not_both [] [] gate xs ys short brief closed over same = closed (ap (λ (l : List ℕ). get_or l 0 0) same)
not_both [] (other ∷ others) gate xs ys short brief closed over same = closed (ap (λ (l : List ℕ). get_or l 0 0) same)
not_both (body ∷ bodies) [] gate xs ys short brief closed over same = whole body (records_of bodies ++ gate ∷ xs) ys (behind body bodies (gate ∷ xs) ys same) short.0 (gate_there bodies gate xs) over
not_both (body ∷ bodies) (other ∷ others) gate xs ys short brief closed over same =
    let first = same_first body other (records_of bodies ++ gate ∷ xs) (records_of others ++ OPEN_GATE ∷ ys) short.0 brief.0 (behind body bodies (gate ∷ xs) _ same ∙ append_assoc (sized other) (records_of others) (OPEN_GATE ∷ ys)) in
    not_both bodies others gate xs ys short.1 brief.1 closed over first.rest

pub read_one_way : ReadOneWay
read_one_way = record {
  one_list = λ bytes bodies others this that. one_list bodies others this.gate that.gate this.rest that.rest this.short that.short this.closed that.closed (sym this.split ∙ that.split);
  one_place = λ bytes place other this that.
      this.behind ∙ ap (λ (bs : List (List ℕ)). length (records_of bs)) (one_break this.bodies that.bodies this.rest that.rest this.short that.short this.over that.over (sym this.split ∙ that.split)) ∙ sym that.behind;
  not_both = λ bytes bodies place this that. not_both bodies that.bodies this.gate this.rest that.rest this.short that.short this.closed that.over (sym this.split ∙ that.split);
}
